-- The recurrence gives the greatest work, and the laws of the greatest work. Assumes nothing.
use Rattle.std.proofs.Common.{◌≡◌, ℕ, zero, suc, ◌+◌, ◌-◌, ◌<◌, ◌≤◌, max, true, ◌⊎◌, List, [], ◌∷◌, is_some, Some, None, Option, unwrap_or, sym, refl, ap, ◌∙◌, inl, inr, add-one, arith}
use Rattle.std.proofs.lemmas.Bool.{cases_eq, cases_lt, cond-true, cond-false, lt-ltb, le-ltb, false≢true}
use Rattle.line.specs.Meaning.{Graph}
use Rattle.line.specs.Walks.{Walk, Fits, span, work}
use Rattle.line.specs.Lawful.{GraphLaws}
use Rattle.angular.specs.Greatest.{Fitting, Greatest, Most}
use Rattle.angular.specs.Best.{over, offer, next, best, most_of}
use Rattle.line.specs.Lighter.{Lighter}

-- ---- the greatest of a function's values
pub over_more : (f : ℕ → ℕ) (k : ℕ) → over f (k + 1) ≡ max (over f k) (f k)
over_more f k = rw add-one

pub over_top : (f : ℕ → ℕ) (k b : ℕ) → b < k → f b ≤ over f k
over_top f zero b h = omega (arith, h)
over_top f (suc k) b h = elim (cases_eq b k) [ inl e ↦ omega (arith, ap f e) | inr n ↦ omega (arith, over_top f k b (omega arith)) ]

pub over_pick : (f : ℕ → ℕ) (k : ℕ) → (over f k ≡ 0) ⊎ ((b : ℕ) × (b < k) × (f b ≡ over f k))
over_pick f zero = inl refl
over_pick f (suc k) =
    elim (cases_lt (over f k) (f k)) [
      | inl h ↦ inr (k, omega arith, omega arith)
      | inr h ↦ elim (over_pick f k) [ inl z ↦ inl (omega arith) | inr t ↦ inr (t.0, omega (arith, t.1), omega (arith, t.2)) ]
    ]

opened : (o : Option ℕ) → is_some o ≡ true → (g : ℕ) × (o ≡ Some g)
opened None h = absurd (false≢true h)
opened (Some g) h = (g, refl)

pub offer_some : (o : Option ℕ) (g w : ℕ) (f : ℕ → ℕ) → o ≡ Some g → g < w → offer o w f ≡ f (w - g)
offer_some o g w f e h = ap (λ x. offer x w f) e ∙ cond-true _ _ _ (lt-ltb g w h)

-- An offer is 0, or comes over a gap.
offer_pick : (o : Option ℕ) (w : ℕ) (f : ℕ → ℕ) → (offer o w f ≡ 0) ⊎ ((g : ℕ) × (o ≡ Some g) × (g < w) × (offer o w f ≡ f (w - g)))
offer_pick None w f = inl refl
offer_pick (Some g) w f =
    elim (cases_lt g w) [
      | inl h ↦ inr (g, refl, h, cond-true _ _ _ (lt-ltb g w h))
      | inr h ↦ inl (cond-false _ _ _ (le-ltb g w h))
    ]

pub first_mode : (G : Graph) (b : ℕ) (r : List ℕ) → Walk G (b ∷ r) → b < G.modes
first_mode G b [] h = h
first_mode G b (c ∷ r) h = h.0

-- ---- one step: where a table F has the greatest work of all shorter windows, a cost and the next is the
-- greatest work of this one
module _ (G : Graph) (F : ℕ → ℕ → ℕ) (m w : ℕ) (lt : m < G.modes) (pos : 0 < w)
    (gaps : (b g : ℕ) → b < G.modes → G.gap m b ≡ Some g → 0 < g)
    (ok : (b u : ℕ) → b < G.modes → u < w → Greatest G b u (F b u)) where
  step_bound : (l : List ℕ) → Fitting G m w l → work G l ≤ G.cost m + next G F m w
  step_bound [] h = omega arith
  step_bound (a ∷ []) h = omega (arith, ap G.cost h.begins)
  step_bound (a ∷ (b ∷ r)) h =
      let o = opened (G.gap a b) h.walk.1 in
      let g : ℕ = o.0 in
      let e : G.gap m b ≡ Some g = ap (λ x. G.gap x b) (sym h.begins) ∙ o.1 in
      let lb : b < G.modes = first_mode G b r h.walk.2 in
      let gp : 0 < g = gaps b g lb e in
      let gv : unwrap_or (G.gap a b) 0 ≡ g = ap (λ x. unwrap_or x 0) o.1 in
      let ft : unwrap_or (G.gap a b) 0 + span G (b ∷ r) < w = h.fits in
      let gw : g < w = omega arith in
      let one = (ok b (w - g) lb (omega arith)).bound (b ∷ r) (record { walk = h.walk.2; begins = refl; fits = omega arith }) in
      let off = offer_some (G.gap m b) g w (F b) e gw in
      let top = over_top (λ x. offer (G.gap m x) w (F x)) G.modes b lb in
      omega (arith, one, off, top, ap G.cost h.begins)

  step_alone : next G F m w ≡ 0 → (l : List ℕ) × Fitting G m w l × (work G l ≡ G.cost m + next G F m w)
  step_alone z = (m ∷ [], record { walk = lt; begins = refl; fits = pos }, omega (arith, z))

  step_more : (b g : ℕ) → b < G.modes → G.gap m b ≡ Some g → g < w → (l : List ℕ) → Fitting G b (w - g) l → work G l ≡ next G F m w
      → (l : List ℕ) × Fitting G m w l × (work G l ≡ G.cost m + next G F m w)
  step_more b g lb e gw [] h q = step_alone (sym q)
  step_more b g lb e gw (a ∷ r) h q =
      let e' : G.gap m a ≡ Some g = ap (G.gap m) h.begins ∙ e in
      let gv : unwrap_or (G.gap m a) 0 ≡ g = ap (λ x. unwrap_or x 0) e' in
      let ft : span G (a ∷ r) < w - g = h.fits in (
        m ∷ (a ∷ r),
        record { walk = (lt, ap is_some e', h.walk); begins = refl; fits = omega arith },
        omega (arith, q),
      )

  step_reached : (l : List ℕ) × Fitting G m w l × (work G l ≡ G.cost m + next G F m w)
  step_reached = elim (over_pick (λ x. offer (G.gap m x) w (F x)) G.modes) [
    | inl z ↦ step_alone z
    | inr t ↦ elim (offer_pick (G.gap m t.0) w (F t.0)) [
      | inl z ↦ step_alone (sym t.2 ∙ z)
      | inr s ↦
          let gr = (ok t.0 (w - s.0) t.1 (omega (arith, gaps t.0 s.0 t.1 s.1, s.2))).reached in
          step_more t.0 s.0 t.1 s.1 s.2 gr.0 gr.1 (gr.2 ∙ (sym s.3 ∙ t.2))
    ]
  ]

  pub step : Greatest G m w (G.cost m + next G F m w)
  step = record { bound = step_bound; reached = step_reached }

pub greatest_none : (G : Graph) (m : ℕ) → Greatest G m 0 0
greatest_none G m = record { bound = none; reached = ([], record { walk = tt; begins = tt; fits = tt }, refl) }
  where
    none : (l : List ℕ) → Fitting G m 0 l → work G l ≤ 0
    none [] h = omega arith
    none (a ∷ r) h = let x : span G (a ∷ r) < 0 = h.fits in omega arith

-- Gaps are not 0.
pub gaps_some : (G : Graph) → GraphLaws G → (m : ℕ) → m < G.modes → (b g : ℕ) → b < G.modes → G.gap m b ≡ Some g → 0 < g
gaps_some G s m lm b g lb e = omega (arith, s.some_cost m lm, s.cost_fits m lm, s.gap_least m b g lm lb e)

-- ---- the computed work is the greatest
pub best_greatest : (G : Graph) (k m w : ℕ) → GraphLaws G → m < G.modes → w ≤ k → Greatest G m w (best G k m w)
unfolding best
best_greatest G zero m zero s lm h = greatest_none G m
best_greatest G zero m (suc w) s lm h = absurd (omega arith)
best_greatest G (suc k) m zero s lm h = greatest_none G m
best_greatest G (suc k) m (suc w) s lm h =
    step G (best G k) m (suc w) lm (omega arith) (gaps_some G s m lm) (λ b u lb lu. best_greatest G k b u s lb (omega arith))

-- The greatest work over all first modes.
over_most : (G : Graph) (f : ℕ → ℕ) (w : ℕ) → ((m : ℕ) → m < G.modes → Greatest G m w (f m)) → Most G w (over f G.modes)
over_most G f w each = record { bound = below; reached = reaches (over_pick f G.modes) }
  where
    below : (l : List ℕ) → Walk G l → Fits G w l → work G l ≤ over f G.modes
    below [] wk ft = omega arith
    below (a ∷ l) wk ft =
        let la : a < G.modes = first_mode G a l wk in
        omega (arith, over_top f G.modes a la, (each a la).bound (a ∷ l) (record { walk = wk; begins = refl; fits = ft }))

    reaches : (over f G.modes ≡ 0) ⊎ ((b : ℕ) × (b < G.modes) × (f b ≡ over f G.modes))
        → (l : List ℕ) × Walk G l × Fits G w l × (work G l ≡ over f G.modes)
    reaches (inl z) = ([], tt, tt, sym z)
    reaches (inr t) = let r = (each t.0 t.1).reached in (r.0, r.1.walk, r.1.fits, r.2 ∙ t.2)

pub most_is : (G : Graph) → GraphLaws G → (w : ℕ) → Most G w (most_of G w)
unfolding most_of
most_is G s w = over_most G (λ m. best G w m w) w (λ m lm. best_greatest G w m w s lm (omega arith))

-- ---- laws
-- There is one greatest work.
pub single : (G : Graph) (m w u v : ℕ) → Greatest G m w u → Greatest G m w v → u ≡ v
single G m w u v a b =
    let p = a.reached in
    let q = b.reached in
    omega (arith, a.bound q.0 q.1, b.bound p.0 p.1, p.2, q.2)

pub most_single : (G : Graph) (w u v : ℕ) → Most G w u → Most G w v → u ≡ v
most_single G w u v a b =
    let p = a.reached in
    let q = b.reached in
    omega (arith, a.bound q.0 q.1 q.2, b.bound p.0 p.1 p.2, p.3, q.3)

work_span : (G : Graph) → GraphLaws G → (l : List ℕ) → Walk G l → work G l ≤ span G l + 1000
work_span G s [] h = omega arith
work_span G s (m ∷ []) h = omega (arith, s.cost_fits m h, s.deadline_fits m h)
work_span G s (m ∷ (b ∷ r)) h =
    let o = opened (G.gap m b) h.1 in
    let gv : unwrap_or (G.gap m b) 0 ≡ o.0 = ap (λ x. unwrap_or x 0) o.1 in
    omega (arith, work_span G s (b ∷ r) h.2, s.cost_fits m h.0, s.gap_least m b o.0 h.0 (first_mode G b r h.2) o.1, gv)

-- The work of a walk that fits w is at most w + 999.
pub walk_bounded : (G : Graph) (w : ℕ) → GraphLaws G → (l : List ℕ) → Walk G l → Fits G w l → work G l ≤ w + 999
walk_bounded G w s [] h f = omega arith
walk_bounded G w s (a ∷ r) h f = omega (arith, f, work_span G s (a ∷ r) h)

pub greatest_bounded : (G : Graph) (m w v : ℕ) → GraphLaws G → Greatest G m w v → v ≤ w + 999
greatest_bounded G m w v s a =
    let p = a.reached in
    omega (arith, p.2, walk_bounded G w s p.0 p.1.walk p.1.fits)

pub most_bounded : (G : Graph) → GraphLaws G → (w : ℕ) → most_of G w ≤ w + 999
most_bounded G s w =
    let p = (most_is G s w).reached in
    omega (arith, p.3, walk_bounded G w s p.0 p.1 p.2)

-- No walk fits a window of none but the empty one.
pub most_none : (G : Graph) → GraphLaws G → most_of G 0 ≡ 0
most_none G s = go (most_is G s 0).reached
  where
    go : (l : List ℕ) × Walk G l × Fits G 0 l × (work G l ≡ most_of G 0) → most_of G 0 ≡ 0
    go ([], wk, ft, e) = sym e
    go (a ∷ r, wk, ft, e) = let x : span G (a ∷ r) < 0 = ft in absurd (omega arith)

-- ---- a lighter graph has no more work
module _ (H G : Graph) (le : Lighter H G) where
  linked : (a b : ℕ) → is_some (H.gap a b) ≡ true → (is_some (G.gap a b) ≡ true) × (unwrap_or (G.gap a b) 0 ≤ unwrap_or (H.gap a b) 0)
  linked a b h =
      let o = opened (H.gap a b) h in
      let t = le.rarer a b o.0 o.1 in
      (ap is_some t.1, omega (arith, t.2, ap (λ x. unwrap_or x 0) o.1, ap (λ x. unwrap_or x 0) t.1))

  walk_lighter : (l : List ℕ) → Walk H l → Walk G l
  walk_lighter [] h = tt
  walk_lighter (m ∷ []) h = omega (arith, h, le.same)
  walk_lighter (m ∷ (b ∷ r)) h = (omega (arith, h.0, le.same), (linked m b h.1).0, walk_lighter (b ∷ r) h.2)

  span_lighter : (l : List ℕ) → Walk H l → span G l ≤ span H l
  span_lighter [] h = omega arith
  span_lighter (m ∷ []) h = omega arith
  span_lighter (m ∷ (b ∷ r)) h = omega (arith, (linked m b h.1).1, span_lighter (b ∷ r) h.2)

  fits_lighter : (w : ℕ) (l : List ℕ) → Walk H l → Fits H w l → Fits G w l
  fits_lighter w [] h f = tt
  fits_lighter w (a ∷ r) h f = omega (arith, f, span_lighter (a ∷ r) h)

  work_lighter : (l : List ℕ) → work H l ≤ work G l
  work_lighter [] = omega arith
  work_lighter (m ∷ r) = omega (arith, le.cheaper m, work_lighter r)

  pub most_lighter : (w u v : ℕ) → Most H w u → Most G w v → u ≤ v
  most_lighter w u v a b =
      let p = a.reached in
      omega (arith, p.3, work_lighter p.0, b.bound p.0 (walk_lighter p.0 p.1) (fits_lighter w p.0 p.1 p.2))

  pub monotone : GraphLaws H → GraphLaws G → (w : ℕ) → most_of H w ≤ most_of G w
  monotone sh sg w = most_lighter w _ _ (most_is H sh w) (most_is G sg w)

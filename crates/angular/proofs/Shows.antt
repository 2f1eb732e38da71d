-- A row and a walk, read off a filled sheet. Assumes nothing.
use Rattle.std.proofs.Common.{◌≡◌, ℕ, ◌+◌, ◌<◌, ◌≤◌, List, [], ◌∷◌, ◌++◌, length, get_or, take, set, is_some, Some, None, vec_items, vec_len, Option, Vec, unwrap_or, sym, refl, ap, ◌∙◌, subst, inl, inr, append_assoc, arith, MatchOption}
use Rattle.std.specs.Vec.{with_items}
use Rattle.std.specs.declared.alloc.Global.{Global}
use Rattle.std.proofs.lemmas.List.{get_or-set_same, get_or-set_other, take_more_set, with_items_is}
use Rattle.std.proofs.lemmas.Bool.{cases_eq}
use Rattle.line.specs.Meaning.{Graph}
use Rattle.line.specs.Walks.{Walk, Fits, span, work}
use Rattle.line.specs.Lawful.{GraphLaws}
use Rattle.line.specs.Shows.{Shown}
use Rattle.angular.specs.Greatest.{Fitting}
use Rattle.modes.specs.Plans.{Plan, graph_of}
use Rattle.angular.specs.Tasks.{angular_task}
use Rattle.angular.specs.Best.{next, most_of}
use Rattle.angular.specs.Sheets.{cell_at, Filled, RowTo, Onward}
use Rattle.angular.specs.Walks.{first_mode, gaps_some, most_is, most_single, most_none}
use Rattle.angular.proofs.Sheets.{cell_split}

-- ---- `start` and `write_row`
-- The greatest cell of a window is the most work.
pub start_most : (G : Graph) (sheet : List ℕ) (w m : ℕ) → GraphLaws G → w ≤ 1000 → Filled G sheet → m < G.modes
    → ((i : ℕ) → i < G.modes → cell_at sheet i w ≤ cell_at sheet m w) → cell_at sheet m w ≡ most_of G w
start_most G sheet w m s lw f lm top = most_single G w _ _ (record { bound = below; reached = (r.0, r.1.walk, r.1.fits, r.2) }) (most_is G s w)
  where
    r : (l : List ℕ) × Fitting G m w l × (work G l ≡ cell_at sheet m w)
    r = (f m w lm (omega arith)).reached

    below : (l : List ℕ) → Walk G l → Fits G w l → work G l ≤ cell_at sheet m w
    below [] wk ft = omega arith
    below (a ∷ l) wk ft =
        let la : a < G.modes = first_mode G a l wk in
        omega (arith, top a la, (f a w la (omega arith)).bound (a ∷ l) (record { walk = wk; begins = refl; fits = ft }))

pub row_more : (G : Graph) (w v : ℕ) (row : List ℕ) → w < length row → RowTo G row w → v ≡ most_of G w → RowTo G (set row w v) (w + 1)
row_more G w v row lt h here u lu = elim (cases_eq w u) [
  | inl e ↦ subst (λ x. get_or (set row w v) x 0 ≡ most_of G x) e (get_or-set_same row w v 0 lt ∙ here)
  | inr n ↦ get_or-set_other row w u v 0 (omega arith) ∙ h u (omega arith)
]

-- ---- `write_walk`
-- The list so far, p, goes on from m with w left: any walk on from there makes a walk for the whole window W.
pub record Sofar (G : Graph) (F : ℕ → ℕ → ℕ) (W v : ℕ) (p : List ℕ) (m w : ℕ) : Type 0 where
  pub mode : m < G.modes
  pub some : 0 < w
  pub on : (l : List ℕ) → Walk G (m ∷ l) → span G (m ∷ l) < w
      → Walk G (p ++ (m ∷ l)) × Fits G W (p ++ (m ∷ l)) × (work G (p ++ (m ∷ l)) + F m w ≡ v + work G (m ∷ l))

pub sofar_none : (G : Graph) (F : ℕ → ℕ → ℕ) (W m : ℕ) → m < G.modes → 0 < W → Sofar G F W (F m W) [] m W
sofar_none G F W m lm pos = record { mode = lm; some = pos; on = λ l wk ft. (wk, ft, omega arith) }

module _ (G : Graph) (F : ℕ → ℕ → ℕ) (W v : ℕ) (p : List ℕ) (m w : ℕ) (h : Sofar G F W v p m w) (split : F m w ≡ G.cost m + next G F m w) where
  sofar_more : (b u : ℕ) → Onward G F m w (next G F m w) b u → Sofar G F W v (p ++ (m ∷ [])) b u
  sofar_more b u o = record { mode = o.mode; some = o.some; on = more }
    where
      more : (l : List ℕ) → Walk G (b ∷ l) → span G (b ∷ l) < u
          → Walk G ((p ++ (m ∷ [])) ++ (b ∷ l)) × Fits G W ((p ++ (m ∷ [])) ++ (b ∷ l)) × (work G ((p ++ (m ∷ [])) ++ (b ∷ l)) + F b u ≡ v + work G (b ∷ l))
      more l wk ft =
          let gv : unwrap_or (G.gap m b) 0 ≡ o.gap = ap (λ x. unwrap_or x 0) o.linked in
          let t = h.on (b ∷ l) (h.mode, ap is_some o.linked, wk) (omega (arith, gv, o.left)) in
          rw append_assoc (t.0, t.1, omega (arith, t.2, split, o.value))

  sofar_done : next G F m w ≡ 0 → Walk G (p ++ (m ∷ [])) × Fits G W (p ++ (m ∷ [])) × (work G (p ++ (m ∷ [])) ≡ v)
  sofar_done z =
      let t = h.on [] h.mode h.some in
      (t.0, t.1, omega (arith, t.2, split))

-- A turn of the loop.
module _ (G : Graph) (s : GraphLaws G) (sheet : List ℕ) (W v : ℕ) (was list : List ℕ) (n m w : ℕ)
    (full : Filled G sheet) (lW : W ≤ 1000) (lt : n < length list) (few : n + w ≤ W)
    (h : Sofar G (cell_at sheet) W v (take n list) m w)
    (kept : (k : ℕ) → n ≤ k → get_or list k 0 ≡ get_or was k 0) where
  split : cell_at sheet m w ≡ G.cost m + next G (cell_at sheet) m w
  split = cell_split G sheet m w s full (omega arith) h.some h.mode

  still : (k : ℕ) → n + 1 ≤ k → get_or (set list n m) k 0 ≡ get_or was k 0
  still k lk = get_or-set_other list n k m 0 (omega arith) ∙ kept k (omega arith)

  pub walk_done : v ≡ most_of G W → next G (cell_at sheet) m w ≡ 0 → Shown (record { graph = G; most = most_of G }) W (n + 1) was (set list n m)
  walk_done top z =
      let d = sofar_done G (cell_at sheet) W v (take n list) m w h split z in
      let e = take_more_set list n m lt in
      record {
        within = omega (arith, h.some);
        walk = subst (Walk G) (sym e) d.0;
        fits = subst (Fits G W) (sym e) d.1;
        most = ap (work G) e ∙ (d.2 ∙ top);
        later = still;
      }

  pub walk_more : (b u : ℕ) → Onward G (cell_at sheet) m w (next G (cell_at sheet) m w) b u
      → (n + 1 + u ≤ W) × Sofar G (cell_at sheet) W v (take (n + 1) (set list n m)) b u × ((k : ℕ) → n + 1 ≤ k → get_or (set list n m) k 0 ≡ get_or was k 0)
  walk_more b u o = (
    omega (arith, few, o.left, gaps_some G s m h.mode b o.gap o.mode o.linked),
    subst (λ p. Sofar G (cell_at sheet) W v p b u) (sym (take_more_set list n m lt)) (sofar_more G (cell_at sheet) W v (take n list) m w h split b u o),
    still,
  )

-- In a window of none the empty walk has the most work.
walk_none : (G : Graph) → GraphLaws G → (list : List ℕ) → Shown (record { graph = G; most = most_of G }) 0 0 list list
walk_none G s list = record { within = omega arith; walk = tt; fits = tt; most = sym (most_none G s); later = λ k h. refl }

-- The first n cells of the list are a walk that has the most work, or one that goes on at `at` to have it; later
-- cells are as they were.
abbrev pub Shows_on : Plan → List ℕ → ℕ → List ℕ → List ℕ → ℕ → Option (ℕ × ℕ) → Type 0
Shows_on p sheet W was list n at =
    MatchOption at (Shown (angular_task p) W n was list)
    (λ x. (n + x.1 ≤ W) × Sofar (graph_of p) (cell_at sheet) W (most_of (graph_of p) W) (take n list) x.0 x.1 × ((k : ℕ) → n ≤ k → get_or list k 0 ≡ get_or was k 0))

module _ (p : Plan) (s : GraphLaws (graph_of p)) (sheet : List ℕ) (full : Filled (graph_of p) sheet) (W : ℕ) (lW : W ≤ 1000) (was : List ℕ) where
  pub shows_nothing : W ≡ 0 → Shows_on p sheet W was was 0 None
  shows_nothing e = subst (λ w. Shown (angular_task p) w 0 was was) (sym e) (walk_none (graph_of p) s was)

  pub shows_start : (m : ℕ) → 0 < W → m < length p.modes → ((k : ℕ) → k < length p.modes → cell_at sheet k W ≤ cell_at sheet m W) → Shows_on p sheet W was was 0 (Some (m, W))
  shows_start m some there greatest =
      let top = start_most (graph_of p) sheet W m s lW full there greatest in
      let on = sofar_none (graph_of p) (cell_at sheet) W m there some in
      (omega arith, subst (λ v. Sofar (graph_of p) (cell_at sheet) W v [] m W) top on, λ k l. refl)

  module _ (list : List ℕ) (n : ℕ) (at : Option (ℕ × ℕ)) (h : Shows_on p sheet W was list n at) where
    pub shows_next : (m w : ℕ) → at ≡ Some (m, w) → n < length list → (o : Option (ℕ × ℕ))
        → MatchOption o (next (graph_of p) (cell_at sheet) m w ≡ 0) (λ q. Onward (graph_of p) (cell_at sheet) m w (next (graph_of p) (cell_at sheet) m w) q.0 q.1)
        → Shows_on p sheet W was (set list n m) (n + 1) o
    shows_next m w e lt o then = by o then
      where
        i : Shows_on p sheet W was list n (Some (m, w))
        i = subst (λ o. Shows_on p sheet W was list n o) e h

        by : (o : Option (ℕ × ℕ))
            → MatchOption o (next (graph_of p) (cell_at sheet) m w ≡ 0) (λ q. Onward (graph_of p) (cell_at sheet) m w (next (graph_of p) (cell_at sheet) m w) q.0 q.1)
            → Shows_on p sheet W was (set list n m) (n + 1) o
        by None z = walk_done (graph_of p) s sheet W (most_of (graph_of p) W) was list n m w full lW lt i.0 i.1 i.2 refl z
        by (Some q) on = walk_more (graph_of p) s sheet W (most_of (graph_of p) W) was list n m w full lW lt i.0 i.1 i.2 q.0 q.1 on

-- ---- the row of a task
-- A Vec whose cells were all written holds what was written.
pub row_refilled : (G : Graph) (v : Vec ℕ Global) (ws : List ℕ) → length ws ≡ vec_len v → RowTo G ws 1001 → RowTo G (vec_items (with_items v ws)) 1001
row_refilled G v ws len h = subst (λ xs. RowTo G xs 1001) (sym (with_items_is v ws len)) h

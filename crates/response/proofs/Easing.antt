-- A line that asks for no more than another has no greater bounds, and fits if that one does. Assumes nothing.
use Rattle.std.proofs.Common.{◌≡◌, ℕ, zero, suc, ◌<◌, ◌≤◌, Bool, true, false, cond, ltb, leb, Some, None, Option, refl, ap, ◌∙◌, inl, inr, arith}
use Rattle.std.proofs.lemmas.Bool.{cond-true, lt-ltb, leb-true, cases_lt}
use Rattle.line.specs.Meaning.{Meaning, Task, task_at, cost_in, deadline_in, most_in}
use Rattle.line.specs.Lighter.{Eased, EasedLine}
use Rattle.response.specs.Bounds.{above, need, Bound, bound_of}
use Rattle.response.specs.Judgements.{Mode}
use Rattle.response.specs.Easing.{BoundsEase, FitsStill}
use Rattle.response.proofs.Bounding.{bound_found, found_bound, none_found}
use Rattle.response.proofs.Judging.{Bounded, fits_bounds, bounds_fit}

-- The work above a place grows with the place.
above_up : (m : Meaning) (w j k : ℕ) → j ≤ k → above m w j ≤ above m w k
above_up m w j zero h = let e : j ≡ 0 = omega arith in omega (arith, ap (above m w) e)
above_up m w j (suc k) h = elim (cases_lt j (suc k)) [
  | inl lt ↦ omega (arith, above_up m w j k (omega arith))
  | inr ge ↦ let e : j ≡ suc k = omega arith in omega (arith, ap (above m w) e)
]

-- ---- one task
module _ (t u : Task) (e : Eased t u) where
  most_eases : (w : ℕ) → most_in t w ≤ most_in u w
  most_eases w = go (leb w 1000) refl
    where
      go : (b : Bool) → leb w 1000 ≡ b → cond b (t.most w) 0 ≤ cond b (u.most w) 0
      go true h = e.most w (leb-true _ _ h)
      go false h = omega arith

  cost_eases : (i : ℕ) → cost_in t i ≤ cost_in u i
  cost_eases i = go (ltb i u.graph.modes) (ap (ltb i) e.graph.lighter.same)
    where
      go : (b : Bool) → ltb i t.graph.modes ≡ b → cond (ltb i t.graph.modes) (t.graph.cost i) 0 ≤ cond b (u.graph.cost i) 0
      go true h = omega (arith, cond-true _ (t.graph.cost i) 0 h, e.graph.lighter.cheaper i)
      go false h = omega (arith, ap (λ b. cond b (t.graph.cost i) 0) h)

  deadline_same : (i : ℕ) → deadline_in t i ≡ deadline_in u i
  deadline_same i = ap (λ n. cond (ltb i n) (t.graph.deadline i) 0) e.graph.lighter.same ∙ ap (λ d. cond (ltb i u.graph.modes) d 0) (e.graph.due i)

-- ---- the line
module _ (from : ℕ → ℕ) (m n : Meaning) (e : EasedLine from m n) where
  pub at_eases : (k : ℕ) → k < m.count → Eased (task_at m k) (task_at n (from k))
  at_eases k h = rw (cond-true (ltb k m.count) _ _ (lt-ltb _ _ h), cond-true (ltb (from k) n.count) _ _ (lt-ltb _ _ (e.there k h))) (e.task k h)

  above_eases : (w k : ℕ) → k < m.count → above m w k ≤ above n w (from k)
  above_eases w zero h = omega arith
  above_eases w (suc k) h =
      let l : k < m.count = omega arith in
      let up = above_up n w (suc (from k)) (from (suc k)) (e.order k (suc k) (omega arith) h) in
      omega (arith, above_eases w k l, most_eases (task_at m k) (task_at n (from k)) (at_eases k l) w, up)

  need_eases : (k i w : ℕ) → k < m.count → need m k i w ≤ need n (from k) i w
  need_eases k i w h = omega (arith, above_eases w k h, cost_eases (task_at m k) (task_at n (from k)) (at_eases k h) i)

  pub bounds_ease : BoundsEase from m n
  bounds_ease k i w h b = go (bound_of m k i) refl
    where
      within : w ≤ deadline_in (task_at m k) i
      within = omega (arith, b.within, deadline_same (task_at m k) (task_at n (from k)) (at_eases k h) i)

      enough : need m k i w ≤ w
      enough = omega (arith, b.enough, need_eases k i w h)

      go : (o : Option ℕ) → bound_of m k i ≡ o → (v : ℕ) × Bound m k i v × (v ≤ w)
      go None q = absurd (omega (arith, none_found m k i q w b.some within, enough))
      go (Some v) q =
          let f = bound_found m k i v q in
          (v, f, elim (cases_lt w v) [ inl lt ↦ absurd (omega (arith, f.least w b.some lt, enough)) | inr le ↦ le ])

  pub fits_still : FitsStill m n
  fits_still fits = bounds_fit m each
    where
      each : (k i : ℕ) → Mode m k i → Bounded m k i
      each k i h =
          let t = at_eases k h.place in
          let x = fits_bounds n fits (from k) i (record { place = e.there k h.place; mode = omega (arith, h.mode, t.graph.lighter.same) }) in
          let y = bounds_ease k i x.0 h.place (bound_found n (from k) i x.0 x.1) in
          (y.0, found_bound m k i y.0 y.1)

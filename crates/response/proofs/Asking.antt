-- What a place releases in a window is a walk, and `most` covers it. Assumes nothing.
use Rattle.std.proofs.Common.{◌≡◌, ℕ, ◌+◌, ◌<◌, ◌≤◌, Bool, true, false, cond, ltb, leb, List, [], ◌∷◌, is_some, Some, None, unwrap_or, sym, refl, ap, subst, arith}
use Rattle.std.proofs.lemmas.Bool.{ltb-true, lt-ltb, le-leb, cond-true}
use Rattle.line.specs.Meaning.{Meaning, Task, nowhere, task_at, modes_in, cost_in, gap_in, most_in}
use Rattle.line.specs.Walks.{Walk, span, work}
use Rattle.line.specs.Lawful.{Lawful, TaskLaws}

-- A place of the line keeps the laws.
pub laws_at : (m : Meaning) → Lawful m → (p : ℕ) → p < m.count → TaskLaws (task_at m p)
laws_at m l p h = subst TaskLaws (sym (cond-true (ltb p m.count) (m.at p) nowhere (lt-ltb _ _ h))) (l.each p h)

cost_in_lem : (t : Task) (i : ℕ) → i < modes_in t → cost_in t i ≡ t.graph.cost i
cost_in_lem t i h = cond-true (ltb i t.graph.modes) (t.graph.cost i) 0 (lt-ltb _ _ h)

-- A gap of the task.
pub record Gap (t : Task) (i j g : ℕ) : Type 0 where
  pub from : i < modes_in t
  pub to : j < modes_in t
  pub gap : t.graph.gap i j ≡ Some g

pub gap_in_lem : (t : Task) (i j g : ℕ) → gap_in t i j ≡ Some g → Gap t i j g
gap_in_lem t i j g e = by (ltb i t.graph.modes) refl (ltb j t.graph.modes) refl e
  where
    by : (a : Bool) → ltb i t.graph.modes ≡ a → (b : Bool) → ltb j t.graph.modes ≡ b → cond a (cond b (t.graph.gap i j) None) None ≡ Some g → Gap t i j g
    by true x true y e = record { from = ltb-true _ _ x; to = ltb-true _ _ y; gap = e }
    by true x false y e = let z : ◌≡◌ {A = ℕ} 0 1 = cc in absurd (omega arith)
    by false x b y e = let z : ◌≡◌ {A = ℕ} 0 1 = cc in absurd (omega arith)

-- The releases of a place, up to one in a mode: what their gaps add up to, and their costs.
pub data Trace (t : Task) : ℕ → ℕ → ℕ → Type 0 where
  first : {i : ℕ} → i < modes_in t → Trace t i 0 (cost_in t i)
  next : {i j g s w : ℕ} → Trace t i s w → gap_in t i j ≡ Some g → Trace t j (s + g) (w + cost_in t j)

trace_mode : {t : Task} {i s w : ℕ} → Trace t i s w → i < modes_in t
trace_mode (first h) = h
trace_mode {t} (next {i = i} {j = j} {g = g} x e) = (gap_in_lem t i j g e).to

-- They are a walk, before any walk from the last of them.
record Before (t : Task) (i s w : ℕ) (r : List ℕ) : Type 0 where
  start : ℕ
  rest : List ℕ
  walk : Walk t.graph (start ∷ rest)
  long : span t.graph (start ∷ rest) ≡ s + span t.graph (i ∷ r)
  asks : work t.graph (start ∷ rest) + cost_in t i ≡ w + work t.graph (i ∷ r)

before : {t : Task} {i s w : ℕ} → Trace t i s w → (r : List ℕ) → Walk t.graph (i ∷ r) → Before t i s w r
before {t} {i} (first h) r x = record { start = i; rest = r; walk = x; long = omega arith; asks = omega arith }
before {t} {i} (next {i = a} {g = g} {s = s} {w = w} y e) r x =
    let k = gap_in_lem t a i g e in
    let b = before y (i ∷ r) (k.from, ap is_some k.gap, x) in
    let v : unwrap_or (t.graph.gap a i) 0 ≡ g = ap (λ o. unwrap_or o 0) k.gap in
    let l = b.long in
    let q = b.asks in
    let c = cost_in_lem t a k.from in
    record { start = b.start; rest = b.rest; walk = b.walk; long = omega arith; asks = omega arith }

-- The one use of the law of walks: releases whose gaps add up to less than a window ask for at most `most` of it.
pub trace_most : (t : Task) → TaskLaws t → (i s w v : ℕ) → Trace t i s w → s < v → v ≤ 1000 → w ≤ most_in t v
trace_most t laws i s w v x h few =
    let b = before x [] (trace_mode x) in
    let l = b.long in
    let q = b.asks in
    let c = cost_in_lem t i (trace_mode x) in
    let most = laws.most_covers v few (b.start ∷ b.rest) b.walk (omega arith) in
    let same : most_in t v ≡ t.most v = cond-true (leb v 1000) (t.most v) 0 (le-leb _ _ few) in
    omega arith

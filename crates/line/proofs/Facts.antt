-- What the laws say of the questions' answers. Assumes nothing.
use Rattle.std.proofs.Common.{◌≡◌, ℕ, ◌<◌, ◌≤◌, Bool, true, false, cond, ltb, leb, refl, arith, ltb-true, leb-true}
use Rattle.line.specs.Meaning.{Meaning, Task, sole, nowhere, task_at, modes_in, cost_in, deadline_in, most_in}
use Rattle.line.specs.Lawful.{Lawful, TaskLaws}

-- A line of one task keeps the laws if the task does.
pub sole_lawful : (t : Task) → TaskLaws t → Lawful (sole t)
sole_lawful t h = record { few = omega arith; each = λ k lt. h }

-- What holds of each task in the line and of none holds of the task at any place.
pub task_by : (m : Meaning) (P : Task → Type 0) → ((k : ℕ) → k < m.count → P (m.at k)) → P nowhere → (k : ℕ) → P (task_at m k)
task_by m P inside outside k = go (ltb k m.count) refl
  where
    go : (c : Bool) → ltb k m.count ≡ c → P (cond c (m.at k) nowhere)
    go true e = inside k (ltb-true _ _ e)
    go false e = outside

-- A number that is taken in its range and 0 elsewhere is no greater than its limit.
capped : (b : Bool) (v top : ℕ) → (b ≡ true → v ≤ top) → cond b v 0 ≤ top
capped true v top h = h refl
capped false v top h = omega arith

pub most_at : (m : Meaning) → Lawful m → (k w : ℕ) → most_in (task_at m k) w ≤ 1000000
most_at m l k w =
    task_by m (λ t. most_in t w ≤ 1000000) (λ k h. capped (leb w 1000) _ _ (λ e. (l.each k h).most_fits w (leb-true _ _ e))) (capped (leb w 1000) 0 _ (λ _. omega arith)) k

pub deadline_at : (m : Meaning) → Lawful m → (k i : ℕ) → deadline_in (task_at m k) i ≤ 1000
deadline_at m l k i =
    task_by m (λ t. deadline_in t i ≤ 1000) (λ k h. capped (ltb i _) _ _ (λ e. (l.each k h).limits.deadline_fits i (ltb-true _ _ e)))
    (capped (ltb i 0) 0 _ (λ _. omega arith)) k

pub cost_at : (m : Meaning) → Lawful m → (k i : ℕ) → cost_in (task_at m k) i ≤ 1000
cost_at m l k i =
    task_by m (λ t. cost_in t i ≤ 1000)
    (λ k h. capped (ltb i _) _ _ (λ e. let lt : i < (m.at k).graph.modes = ltb-true _ _ e in omega (arith, (l.each k h).limits.cost_fits i lt, (l.each k h).limits.deadline_fits i lt)))
    (capped (ltb i 0) 0 _ (λ _. omega arith)) k

pub modes_at : (m : Meaning) → Lawful m → (k : ℕ) → modes_in (task_at m k) ≤ 16
modes_at m l k = task_by m (λ t. modes_in t ≤ 16) (λ k h. (l.each k h).limits.few_modes) (omega arith) k

-- What always holds of a table's tasks. Assumes nothing.
use Rattle.std.proofs.Common.{◌≡◌, ℕ, zero, suc, ◌+◌, ◌*◌, ◌/◌, ◌%◌, ◌<◌, ◌≤◌, true, List, [], ◌∷◌, map, length, get_or, is_ok, Some, None, vec_items, Option, subst, arith}
use Rattle.std.proofs.lemmas.List.{length-map}
use Rattle.std.proofs.lemmas.Bool.Decides.{nat_tests}
use Rattle.modes.specs.Plans.{Plan, whole_answer, right_mode, right_gap, RightModes, RightGaps}
use Rattle.modes.specs.Plans as plans
use Rattle.modes.specs.declared.graph.Mode.{Mode}
use Rattle.modes.specs.Graphs.{plan}
use Rattle.table.specs.Numbers.{task_numbers}
use Rattle.table.specs.Items.{Item, Make, sporadic, angular, blank, apart, angulars}
use Rattle.table.specs.Tables.{items}
use Rattle.table.specs.Tasks.{make_of, item_of}
use Rattle.table.specs.declared.make.Make.{Make as Kind}
use Rattle.table.specs.declared.make.Make.TheVariants.{Sporadic, Angular}
use Rattle.table.specs.declared.make.Task.{Task}
use Rattle.table.specs.declared.table.Table.{Table}

-- The numbers of a sporadic task.
pub record RightTimes (cost period deadline : ℕ) : Type 0 where
  pub some : 1 ≤ cost
  pub fits : cost ≤ deadline
  pub near : deadline ≤ 1000
  pub first : deadline ≤ period
  pub often : period ≤ 100000

-- The modes and gaps of an angular task.
pub record RightPlan (p : Plan) : Type 0 where
  pub few : length p.modes ≤ 16
  pub square : length p.gaps ≡ 256
  pub limits : RightModes p.modes
  pub links : RightGaps p.modes p.gaps
  pub closed : is_ok (whole_answer p) ≡ true

abbrev pub RightMake : Make → Type 0
RightMake (sporadic cost period deadline) = RightTimes cost period deadline
RightMake (angular plan) = RightPlan plan

abbrev pub Rights : List Item → Type 0
Rights [] = Unit {0}
Rights (i ∷ is) = RightMake i.make × Rights is

-- Numbers in range and apart, and no more tasks than there is room for.
pub record Together (is : List Item) : Type 0 where
  pub few : length is ≤ 16
  pub distinct : apart is ≡ true
  pub crank : angulars is ≤ 8

make_right : (m : Kind) → RightMake (make_of m)
make_right (Sporadic s) = record { some = s.some; fits = s.fits; near = s.near; first = s.first; often = s.often }
make_right (Angular a) =
    let g = a.graph in
    record {
      few = omega (arith, g.few, g.modes.ok.0);
      square = omega (arith, g.square, g.gaps.ok.0);
      limits = g.limits;
      links = g.links;
      closed = a.whole;
    }

each_right : (ts : List Task) → Rights (map item_of ts)
each_right [] = tt
each_right (t ∷ ts) = (make_right t.make, each_right ts)

pub table_rights : (t : Table) → Rights (items t)
table_rights t = each_right (vec_items t.tasks)

pub table_together : (t : Table) → Together (items t)
table_together t = record {
  few = let m = length-map (vec_items t.tasks) item_of in omega (arith, m, t.tasks.ok.0, t.few);
  distinct = t.distinct;
  crank = t.crank;
}

-- The task at a place is right.
pub right_at : (is : List Item) (k : ℕ) → k < length is → Rights is → RightMake (get_or is k blank).make
right_at [] k h r = absurd (omega arith)
right_at (i ∷ is) zero h r = r.0
right_at (i ∷ is) (suc k) h r = right_at is k (omega arith) r.1

-- What the tests of a mode and of a gap tell.
pub mode_limits : (m : Mode) → right_mode m ≡ true → (1 ≤ m.cost) × (m.cost ≤ m.deadline) × (m.deadline ≤ 1000)
mode_limits m h = (grind (arith, nat_tests), grind (arith, nat_tests), grind (arith, nat_tests))

pub gap_limits : (modes : List Mode) (a b g : ℕ) → right_gap modes a b (Some g) ≡ true
    → (a < length modes) × (b < length modes) × ((get_or modes a plans.blank).deadline ≤ g) × (g ≤ 100000)
gap_limits modes a b g h = (grind (arith, nat_tests), grind (arith, nat_tests), grind (arith, nat_tests), grind (arith, nat_tests))

-- Gaps of which the first is in cell c.
abbrev pub RightFrom : List Mode → ℕ → List (Option ℕ) → Type 0
RightFrom modes c [] = Unit {0}
RightFrom modes c (o ∷ gs) = (right_gap modes (c / 16) (c % 16) o ≡ true) × RightFrom modes (suc c) gs

right_from : (modes : List Mode) (gs : List (Option ℕ)) (c : ℕ) → ((k : ℕ) → k < length gs → right_gap modes ((c + k) / 16) ((c + k) % 16) (get_or gs k None) ≡ true) → RightFrom modes c gs
right_from modes [] c h = tt
right_from modes (o ∷ gs) c h =
    let z : c + 0 ≡ c = omega arith in (
      subst (λ n. right_gap modes (n / 16) (n % 16) o ≡ true) z (h 0 (omega arith)),
      right_from modes gs (suc c) (λ k lt.
          let e : c + suc k ≡ suc c + k = omega arith in
          subst (λ n. right_gap modes (n / 16) (n % 16) (get_or gs k None) ≡ true) e (h (suc k) (omega arith))),
    )

pub cells_right : (p : Plan) → RightPlan p → RightFrom p.modes 0 p.gaps
cells_right p r =
    right_from p.modes p.gaps 0
    (λ k h.
    let cell : (0 + k) / 16 * 16 + (0 + k) % 16 ≡ k = omega arith in
    subst (λ j. right_gap p.modes ((0 + k) / 16) ((0 + k) % 16) (get_or p.gaps j None) ≡ true) cell (r.links ((0 + k) / 16) ((0 + k) % 16) (omega arith)))

-- A number that a task may have.
pub number_limits : (n : ℕ) → is_ok (task_numbers n 0) ≡ true → (1 ≤ n) × (n ≤ 999)
number_limits n h = (grind (arith, nat_tests), grind (arith, nat_tests))

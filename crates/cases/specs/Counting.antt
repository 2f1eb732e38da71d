-- What counting one job more than there are whole periods comes to. Assumes nothing.
use Rattle.std.proofs.Common.{ℕ, suc, ◌+◌, ◌-◌, ◌*◌, ◌/◌, ◌≤◌, List, [], ◌∷◌, le_trans, mul-le-mul_right, suc-mul, mul_comm, div-lt_iff_lt-mul, add-mul, mul-le-mul_left, one-mul, arith}
use native.Mathlib.Nat.{mul-div-le}
use Rattle.line.specs.Meaning.{Task}
use Rattle.line.specs.Walks.{Walk, Fits, work}
use Rattle.line.specs.Lawful.{TaskLaws}
use Rattle.sporadic.specs.Tasks.{sporadic_task, releases}
use Rattle.sporadic.specs.Sporadics.{sporadic_covers, numbers_laws}

-- A window has at most one release more than whole periods.
releases_one_more : (w t : ℕ) → 1 ≤ t → releases w t ≤ w / t + 1
releases_one_more w t h =
    let short = (div-lt_iff_lt-mul {x = w} {y = suc (w / t)} h).0 (omega arith) in
    let less = (div-lt_iff_lt-mul {x = w + (t - 1)} {y = suc (suc (w / t))} h).1 (omega (arith, short, suc-mul (suc (w / t)) t)) in
    omega (arith, less)

-- A task with the graph of a sporadic one, whose `most` is that count in each window that is not empty, and never more.
module _ (c t d : ℕ) (most : ℕ → ℕ) where
  abbrev counted : Task
  counted = record { graph = (sporadic_task c t d).graph; most = most }

  -- What a walk that fits a window asks for is counted.
  counted_covers : 1 ≤ t → ((w : ℕ) → 1 ≤ w → c * (w / t + 1) ≤ most w) → (w : ℕ) (l : List ℕ) → Walk counted.graph l → Fits counted.graph w l → work counted.graph l ≤ most w
  counted_covers h least w [] wk ft = omega arith
  counted_covers h least w (a ∷ l) wk ft =
      omega (arith, least w (omega (arith, ft)), sporadic_covers c t d h w (a ∷ l) wk ft, mul-le-mul_left c (releases_one_more w t h))

  -- A cost is at most its period, so the jobs of the whole periods take no more than the window, and one more at most 1,000.
  counted_fits : 1 ≤ t → c ≤ t → c ≤ 1000 → ((w : ℕ) → most w ≤ c * (w / t + 1)) → (w : ℕ) → w ≤ 1000 → most w ≤ 1000000
  counted_fits h ct hc greatest w hw =
      let whole = le_trans (mul-le-mul_right (w / t) ct) (mul-div-le w t) in
      omega (arith, greatest w, whole, mul_comm c (w / t + 1), add-mul (w / t) 1 c, one-mul c, mul_comm c (w / t))

  pub counted_laws : 1 ≤ c → c ≤ d → d ≤ 1000 → d ≤ t → t ≤ 100000 → ((w : ℕ) → 1 ≤ w → c * (w / t + 1) ≤ most w) → ((w : ℕ) → most w ≤ c * (w / t + 1)) → TaskLaws counted
  counted_laws hc cd hd dt ht least greatest = record {
    limits = (numbers_laws c t d hc cd hd dt ht).limits;
    most_covers = λ w hw l wk ft. counted_covers (omega arith) least w l wk ft;
    most_fits = λ w hw. counted_fits (omega arith) (omega arith) (omega arith) greatest w hw;
  }

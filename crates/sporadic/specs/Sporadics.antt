-- The laws of a sporadic task. Assumes nothing.
use Rattle.std.proofs.Common.{◌≡◌, ℕ, zero, suc, ◌+◌, ◌-◌, ◌*◌, ◌<◌, ◌≤◌, List, [], ◌∷◌, ◌++◌, length, get_or, take, drop, replicate, Ok, sym, refl, ap, ◌∙◌, subst, le_trans, suc-mul, mul_comm, div-lt_iff_lt-mul, add-mul, mul-le-mul, mul-le-mul_left, one-mul, mul-zero, le-div_iff_mul-le, zero-mul, mul-one, arith, lit<}
use lib.ListN.{length-replicate}
use Rattle.line.specs.Meaning.{Graph}
use Rattle.line.specs.Walks.{Walk, Fits, span, work}
use Rattle.line.specs.Lawful.{TaskLaws}
use Rattle.std.proofs.lemmas.List.{take_at, get_or-append_right, get_or-drop}
use Rattle.std.proofs.lemmas.Bool.Decides.{nat_tests}
use Rattle.line.specs.Shows.{Shown, show_answer}
use Rattle.sporadic.specs.Tasks.{sporadic_task, releases}

-- A window of w has at most w releases.
pub releases_most : (w p : ℕ) → 1 ≤ p → releases w p ≤ w
releases_most w p h =
    let big = mul-le-mul_left w h in
    let less = (div-lt_iff_lt-mul {x = w + (p - 1)} {y = suc w} h).1 (omega (arith, big, mul-one w, suc-mul w p)) in
    omega (arith, less)

-- More releases fit than the periods that the window holds.
releases_least : (n w p : ℕ) → 1 ≤ p → n * p < w → n + 1 ≤ releases w p
releases_least n w p h lt = (le-div_iff_mul-le h).1 (omega (arith, add-mul n 1 p, one-mul p))

module _ (c t d : ℕ) where
  abbrev G : Graph
  G = (sporadic_task c t d).graph

  -- A walk of n + 1 jobs has n gaps of one period.
  jobs_span : (a : ℕ) (l : List ℕ) → span G (a ∷ l) ≡ length l * t
  jobs_span a [] = sym (zero-mul t)
  jobs_span a (b ∷ l) = omega (arith, jobs_span b l, suc-mul (length l) t)

  jobs_work : (l : List ℕ) → work G l ≡ c * length l
  jobs_work [] = sym (mul-zero c)
  jobs_work (b ∷ l) = omega (arith, jobs_work l, mul_comm c (length l), mul_comm c (suc (length l)), suc-mul (length l) c)

  pub sporadic_covers : 1 ≤ t → (w : ℕ) (l : List ℕ) → Walk G l → Fits G w l → work G l ≤ c * releases w t
  sporadic_covers h w [] wk ft = omega arith
  sporadic_covers h w (a ∷ l) wk ft =
      let less : length l * t < w = omega (arith, ft, jobs_span a l) in
      let many : length (a ∷ l) ≤ releases w t = omega (arith, releases_least (length l) w t h less) in
      omega (arith, jobs_work (a ∷ l), mul-le-mul_left c many)

  pub sporadic_fits : 1 ≤ t → c ≤ 1000 → (w : ℕ) → w ≤ 1000 → c * releases w t ≤ 1000000
  sporadic_fits h hc w hw = mul-le-mul hc (le_trans (releases_most w t h) hw)

  pub numbers_laws : 1 ≤ c → c ≤ d → d ≤ 1000 → d ≤ t → t ≤ 100000 → TaskLaws (sporadic_task c t d)
  numbers_laws hc cd hd dt ht = record {
    limits = record {
      some_mode = omega arith;
      few_modes = omega arith;
      some_cost = λ i li. hc;
      cost_fits = λ i li. cd;
      deadline_fits = λ i li. hd;
      gap_least = λ i j g li lj e. let same : t ≡ g = cc in omega arith;
      gap_most = λ i j g li lj e. let same : t ≡ g = cc in omega arith;
    };
    most_covers = λ w hw. sporadic_covers (omega arith) w;
    most_fits = λ w hw. sporadic_fits (omega arith) (omega arith) w hw;
  }

  -- Jobs one period apart are a walk.
  even_walk : (n : ℕ) → Walk G (replicate n 0)
  even_walk zero = tt
  even_walk (suc zero) = lit< tt
  even_walk (suc (suc n)) = (lit< tt, refl, even_walk (suc n))

  even_fits : 1 ≤ t → (w n : ℕ) → n ≤ releases w t → Fits G w (replicate n 0)
  even_fits h w zero le = tt
  even_fits h w (suc n) le =
      let most = (le-div_iff_mul-le {x = suc n} {y = w + (t - 1)} h).0 le in
      omega (arith, jobs_span 0 (replicate n 0), ap (λ x. x * t) (length-replicate {A = ℕ} n 0), suc-mul n t, most)

  -- As many jobs as the window has releases, one period apart, have the most work.
  pub even_shown : 1 ≤ t → (w n : ℕ) → w ≤ 1000 → (was list : List ℕ) → n ≡ releases w t → list ≡ replicate n 0 ++ drop n was → Shown (sporadic_task c t d) w n was list
  even_shown h w n hw was list count e =
      let size = length-replicate {A = ℕ} n 0 in
      let front : take n list ≡ replicate n 0 = ap (take n) e ∙ take_at (replicate n 0) (drop n was) n size in
      record {
        within = omega (arith, count, releases_most w t h);
        walk = subst (Walk G) (sym front) (even_walk n);
        fits = subst (Fits G w) (sym front) (even_fits h w n (omega (arith, count)));
        most = ap (work G) front ∙ (jobs_work (replicate n 0) ∙ ap (λ x. c * x) (size ∙ count));
        later = λ k le.
            ap (λ xs. get_or xs k 0) e ∙ (get_or-append_right (replicate n 0) (drop n was) n k 0 size le ∙ (get_or-drop n was (k - n) 0 ∙ ap (λ i. get_or was i 0) (omega arith)));
      }

-- ---- `show`
-- What a passed check of `show` says.
pub show_passed : (count place window sheet list : ℕ) (u : Unit {0}) → Ok u ≡ show_answer count place window sheet list
    → (place < count) × (window ≤ 1000) × (16016 ≤ sheet) × (1000 ≤ list)
show_passed count place window sheet list u e = (grind (arith, nat_tests), grind (arith, nat_tests), grind (arith, nat_tests), grind (arith, nat_tests))

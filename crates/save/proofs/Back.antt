-- A saved text reads as the tasks that were saved, and as nothing else. Assumes nothing.
use Rattle.std.proofs.Common.{◌≡◌, ℕ, suc, ◌+◌, ◌*◌, ◌/◌, ◌%◌, ◌<◌, ◌≤◌, Bool, true, false, cond, not, ◌&&◌, ◌||◌, eqb, ltb, leb, List, [], ◌∷◌, ◌++◌, map, length, get_or, replicate, is_some, is_ok, Some, None, Ok, Err, Option, Result, sym, refl, ap, ◌∙◌, subst, subst₂, zero-add, arith}
use Rattle.std.specs.Option.{option_map}
use Rattle.std.proofs.lemmas.List.{append_assoc, append-nil, length-append, length_push, get_or_at, set_at}
use Rattle.std.proofs.lemmas.Bool.{and_parts, and_from, not-true, eqb-false, ne_eqb, eq-eqb, lt-ltb, le-ltb, false≢true}
use Rattle.std.proofs.lemmas.Bool.Decides.{nat_tests}
use Rattle.line.specs.declared.refusal.Refusal.TheVariants.{NoRoom, NumberTaken, NotThere, Linked, GapBelowDeadline, Trailer}
use Rattle.line.specs.Answers.{Answer, and_then}
use Rattle.modes.specs.Plans.{Plan, empty_plan, mode_numbers, link_numbers, link_answer, whole_answer, right_gap, RightModes}
use Rattle.modes.specs.Plans as plans
use Rattle.sporadic.specs.Tasks.{sporadic_answer}
use Rattle.modes.specs.declared.graph.Mode.{Mode}
use Rattle.table.specs.Numbers.{task_numbers}
use Rattle.table.specs.Items.{Item, Make, sporadic, angular, is_angular, angulars, place_of, room_for, enter_answer, entered, apart}
use Rattle.table.proofs.Entering.{holds}
use Rattle.editor.specs.Desks.{put_answer, open_answer}
use Rattle.forms.specs.declared.form.Form.TheVariants as form
use Rattle.forms.specs.Format.{spell, Sound}
use Rattle.forms.specs.Places.{start, rest_of}
use Rattle.forms.proofs.ReadBack.{rest_past}
use Rattle.faults.specs.declared.LoadFault.{LoadFault}
use Rattle.faults.specs.Faults.{in_text}
use Rattle.loader.specs.Progress.{Progress, Outcome, beginning, and_go, closing, checked, ending, stepping}
use Rattle.store.specs.Loads.{Reading}
use Rattle.store.specs.Loads.Loads.{whole}
use Rattle.loader.proofs.Appending.{entered_last}
use Rattle.save.specs.Texts.{mode_form, links_from, item_forms, forms_of, spelled, last_place, trailer_of, text_of}
use Rattle.save.proofs.Rights.{RightTimes, RightPlan, RightMake, Rights, Together, RightFrom, cells_right, mode_limits, gap_limits, number_limits}
use Rattle.save.proofs.Running.{Runs, runs_append, runs_load, spelled_here, resting, drafting, put_step, open_step, mode_step, link_step, close_step}
use Rattle.save.proofs.Short.{trailer_sound}
use Rattle.store.proofs.Once.{loads_once}

-- ---- numbers that are apart
some_mapped : (o : Option ℕ) → is_some (option_map suc o) ≡ is_some o
some_mapped None = refl
some_mapped (Some k) = refl

free_skip : (n : ℕ) (j : Item) (is : List Item) → eqb j.number n ≡ false → holds n is ≡ false → holds n (j ∷ is) ≡ false
free_skip n j is e h = ap (λ b. is_some (cond b (Some 0) (option_map suc (place_of n is)))) e ∙ some_mapped (place_of n is) ∙ h

free_parts : (n : ℕ) (j : Item) (is : List Item) → holds n (j ∷ is) ≡ false → (eqb j.number n ≡ false) × (holds n is ≡ false)
free_parts n j is h = go (eqb j.number n) refl h
  where
    go : (b : Bool) → eqb j.number n ≡ b → is_some (cond b (Some 0) (option_map suc (place_of n is))) ≡ false → (eqb j.number n ≡ false) × (holds n is ≡ false)
    go true e g = absurd (omega (arith, false≢true (sym g)))
    go false e g = (e, sym (some_mapped (place_of n is)) ∙ g)

free_at : (n : ℕ) (xs : List Item) (i : Item) (ys : List Item) → holds n (xs ++ i ∷ ys) ≡ false → eqb i.number n ≡ false
free_at n [] i ys h = (free_parts n i ys h).0
free_at n (x ∷ xs) i ys h = free_at n xs i ys (free_parts n x (xs ++ i ∷ ys) h).1

apart_at : (xs : List Item) (i : Item) (ys : List Item) → apart (xs ++ i ∷ ys) ≡ true → (is_ok (task_numbers i.number 0) ≡ true) × (holds i.number xs ≡ false)
apart_at [] i ys h = ((and_parts _ _ h).0, refl)
apart_at (x ∷ xs) i ys h =
    let p = and_parts (is_ok (task_numbers x.number 0)) (not (holds x.number (xs ++ i ∷ ys)) && apart (xs ++ i ∷ ys)) h in
    let q = and_parts (not (holds x.number (xs ++ i ∷ ys))) (apart (xs ++ i ∷ ys)) p.1 in
    let later = apart_at xs i ys q.1 in
    let ne = eqb-false i.number x.number (free_at x.number xs i ys (not-true (holds x.number (xs ++ i ∷ ys)) q.0)) in
    (later.0, free_skip i.number x xs (ne_eqb x.number i.number (λ e. ne (sym e))) later.1)

angulars_at : (xs : List Item) (i : Item) (ys : List Item) → angulars (xs ++ i ∷ ys) ≡ angulars xs + (cond (is_angular i.make) 1 0 + angulars ys)
angulars_at [] i ys = sym (zero-add (cond (is_angular i.make) 1 0 + angulars ys))
angulars_at (x ∷ xs) i ys = omega (arith, angulars_at xs i ys)

-- ---- the lines of one task
both_there : (n a b : ℕ) → a < n → b < n → (leb n a || leb n b) ≡ false
both_there n a b la lb = grind (arith, nat_tests)

few_angulars : (n : ℕ) → n < 8 → leb 8 n ≡ false
few_angulars n h = grind (arith, nat_tests)

link_numbers_lem : (a b g : ℕ) → a ≤ 15 → b ≤ 15 → 1 ≤ g → g ≤ 100000 → link_numbers a b g ≡ Ok tt
link_numbers_lem a b g ha hb hg hm = grind (arith, nat_tests)

ok_is : (a : Answer) → is_ok a ≡ true → a ≡ Ok tt
ok_is (Ok u) h = refl
ok_is (Err e) h = absurd (omega (arith, false≢true h))

may_enter : (is : List Item) (n : ℕ) (crank : Bool) → room_for is crank ≡ true → holds n is ≡ false → enter_answer is n crank ≡ Ok tt
may_enter is n crank room free = (λ i. cond (room i) (cond (free i) (Err NumberTaken) (Ok tt)) (Err NoRoom))

-- The lines of the task i, after those of the tasks is: they are accepted, and i is appended when the task is closed.
abbrev ItemRuns : List Item → Item → Progress → ℕ → Type 0
ItemRuns is i p pos = (q : Progress) × Runs pos (item_forms i) p q × (closing q ≡ Ok (resting (is ++ i ∷ []) pos))

module _ (is : List Item) (number last : ℕ) where
  modes_run : (gaps : List (Option ℕ)) (old new : List Mode) (pos : ℕ) → length old + length new ≤ 16 → RightModes new
      → Runs pos (map mode_form new) (drafting is number (record { modes = old; gaps = gaps }) last) (drafting is number (record { modes = old ++ new; gaps = gaps }) last)
  modes_run gaps old [] pos few right = ap (λ ms. drafting is number (record { modes = ms; gaps = gaps }) last) (sym (append-nil old))
  modes_run gaps old (m ∷ new) pos few right =
      let l = mode_limits m (right 0 (omega arith)) in
      let numbers : mode_numbers m.cost m.deadline ≡ Ok tt = grind (arith, nat_tests) in
      let room : leb 16 (length old) ≡ false = grind (arith, nat_tests) in
      let long = length_push old m in
      let later = modes_run gaps (old ++ m ∷ []) new (pos + length (spell (mode_form m))) (omega arith) (λ k h. right (suc k) (omega arith)) in (
        drafting is number (record { modes = old ++ m ∷ []; gaps = gaps }) last,
        (omega arith, (omega arith, tt)),
        refl,
        mode_step is number (record { modes = old; gaps = gaps }) last pos m.cost m.deadline numbers (λ i. and_then (numbers i) (cond (room i) (Err NoRoom) (Ok tt))),
        subst (λ ms. Runs (pos + length (spell (mode_form m))) (map mode_form new) (drafting is number (record { modes = old ++ m ∷ []; gaps = gaps }) last) (drafting is number (record { modes = ms; gaps = gaps }) last)) (append_assoc old (m ∷ []) new) later,
      )

-- The draft with those modes, as its gaps are filled.
abbrev drawn : List Item → ℕ → ℕ → List Mode → List (Option ℕ) → Progress
drawn is number last modes gaps = drafting is number (record { modes = modes; gaps = gaps }) last

module _ (is : List Item) (number last : ℕ) (modes : List Mode) (few : length modes ≤ 16) (limits : RightModes modes) where
  -- A link in an empty cell is accepted.
  link_run : (front rest : List (Option ℕ)) (c g pos : ℕ) → length front ≡ c → right_gap modes (c / 16) (c % 16) (Some g) ≡ true
      → Sound (form.Link (c / 16) (c % 16) g) × (stepping pos (form.Link (c / 16) (c % 16) g) (drawn is number last modes (front ++ None ∷ rest)) ≡ Ok (drawn is number last modes (front ++ Some g ∷ rest)))
  link_run front rest c g pos long right =
      let a = c / 16 in
      let b = c % 16 in
      let cell : length front ≡ a * 16 + b = omega arith in
      let l = gap_limits modes a b g right in
      let m = mode_limits (get_or modes a plans.blank) (limits a l.0) in
      let free : is_some (get_or (front ++ None ∷ rest) (a * 16 + b) None) ≡ false = ap (λ (o : Option ℕ). is_some o) (get_or_at front None rest None (a * 16 + b) cell) in
      let numbers : link_numbers a b g ≡ Ok tt = link_numbers_lem a b g (omega arith) (omega arith) (omega arith) (omega arith) in
      let there : (leb (length modes) a || leb (length modes) b) ≡ false = both_there (length modes) a b l.0 l.1 in
      let late : ltb g (get_or modes a plans.blank).deadline ≡ false = le-ltb g (get_or modes a plans.blank).deadline l.2 in
      let answer : link_answer (record { modes = modes; gaps = front ++ None ∷ rest }) a b g ≡ Ok tt =
      (λ i. and_then (numbers i) (cond (there i) (Err NotThere) (cond (free i) (Err Linked) (cond (late i) (Err GapBelowDeadline) (Ok tt)))))
      in (
        (omega arith, (omega arith, (omega arith, tt))),
        link_step is number (record { modes = modes; gaps = front ++ None ∷ rest }) last pos a b g numbers answer
            ∙ ap (λ gs. Ok (drawn is number last modes gs)) (set_at front None rest (Some g) (a * 16 + b) cell),
      )

  links_run : (front gs : List (Option ℕ)) (c pos : ℕ) → length front ≡ c → RightFrom modes c gs
      → Runs pos (links_from c gs) (drawn is number last modes (front ++ replicate (length gs) None)) (drawn is number last modes (front ++ gs))
  links_run front [] c pos long right = refl
  links_run front (None ∷ gs) c pos long right =
      let rest = replicate (length gs) None in
      subst₂ (λ (x y : List (Option ℕ)). Runs pos (links_from (suc c) gs) (drawn is number last modes x) (drawn is number last modes y))
      (append_assoc front (None ∷ []) rest) (append_assoc front (None ∷ []) gs)
      (links_run (front ++ None ∷ []) gs (suc c) pos (omega (arith, length_push front None)) right.1)
  links_run front (Some g ∷ gs) c pos long right =
      let rest = replicate (length gs) None in
      let here = link_run front rest c g pos long right.0 in
      let on = pos + length (spell (form.Link (c / 16) (c % 16) g)) in (
        drawn is number last modes (front ++ Some g ∷ rest),
        here.0,
        refl,
        here.1,
        subst₂ (λ (x y : List (Option ℕ)). Runs on (links_from (suc c) gs) (drawn is number last modes x) (drawn is number last modes y))
            (append_assoc front (Some g ∷ []) rest) (append_assoc front (Some g ∷ []) gs)
            (links_run (front ++ Some g ∷ []) gs (suc c) on (omega (arith, length_push front (Some g))) right.1),
      )

sporadic_ok : (cost period deadline : ℕ) → RightTimes cost period deadline → sporadic_answer cost period deadline ≡ Ok tt
sporadic_ok cost period deadline r =
    let a = r.some in
    let b = r.fits in
    let c = r.near in
    let d = r.first in
    let e = r.often in
    grind (arith, nat_tests)

sporadic_run : (is : List Item) (number cost period deadline last pos : ℕ) (p : Progress) → closing p ≡ Ok (resting is last) → length is < 16
    → is_ok (task_numbers number 0) ≡ true → holds number is ≡ false → RightTimes cost period deadline
    → ItemRuns is (record { number = number; make = sporadic cost period deadline }) p pos
sporadic_run is number cost period deadline last pos p shut few range free right =
    let i : Item = record { number = number; make = sporadic cost period deadline } in
    let n = number_limits number range in
    let numbers : task_numbers number 15 ≡ Ok tt = ok_is (task_numbers number 15) range in
    let times = sporadic_ok cost period deadline right in
    let enter : enter_answer is number false ≡ Ok tt = may_enter is number false (lt-ltb (length is) 16 few) free in
    let ok : put_answer (resting is last).desk number 15 cost period deadline ≡ Ok tt = (λ i. and_then (numbers i) (and_then (times i) (enter i))) in (
      resting (entered is 15 i) pos,
      (
        resting (entered is 15 i) pos,
        (omega arith, (omega (arith, right.fits, right.near), (omega (arith, right.often), (omega (arith, right.near), tt)))),
        refl,
        put_step is last p pos number cost period deadline shut ok,
        refl,
      ),
      ap (λ (xs : List Item). Ok (resting xs pos)) (entered_last is i few),
    )

angular_run : (is : List Item) (number : ℕ) (plan : Plan) (last pos : ℕ) (p : Progress) → closing p ≡ Ok (resting is last) → length is < 16
    → is_ok (task_numbers number 0) ≡ true → holds number is ≡ false → angulars is < 8 → RightPlan plan
    → ItemRuns is (record { number = number; make = angular plan }) p pos
angular_run is number plan last pos p shut few range free crank right =
    let i : Item = record { number = number; make = angular plan } in
    let n = number_limits number range in
    let numbers : task_numbers number 15 ≡ Ok tt = ok_is (task_numbers number 15) range in
    let under : leb 8 (angulars is) ≡ false = few_angulars (angulars is) crank in
    let room : room_for is true ≡ true = (λ i. not (under i) && lt-ltb (length is) 16 few i) in
    let enter : enter_answer is number true ≡ Ok tt = may_enter is number true room free in
    let ok : open_answer (resting is last).desk number 15 ≡ Ok tt = (λ i. and_then (numbers i) (enter i)) in
    let on = pos + length (spell (form.Angular number)) in
    let none = replicate 256 None in
    let modes = modes_run is number pos none [] plan.modes on (omega (arith, right.few)) right.limits in
    let links = links_run is number pos plan.modes right.few right.limits [] plan.gaps 0 (on + length (spelled (map mode_form plan.modes))) refl (cells_right plan right) in
    let empty : replicate (length plan.gaps) None ≡ none = ap (λ k. replicate k None) right.square in (
      drafting is number plan pos,
      (
        drafting is number empty_plan pos,
        (omega arith, tt),
        refl,
        open_step is last p pos number shut ok,
        runs_append on (map mode_form plan.modes) (links_from 0 plan.gaps) (drafting is number empty_plan pos) (drawn is number pos plan.modes none) (drafting is number plan pos) modes
            (subst (λ gs. Runs (on + length (spelled (map mode_form plan.modes))) (links_from 0 plan.gaps) (drawn is number pos plan.modes gs) (drafting is number plan pos)) empty links),
      ),
      close_step is number plan pos (ok_is (whole_answer plan) right.closed) ∙ ap (λ (xs : List Item). Ok (resting xs pos)) (entered_last is i few),
    )

item_run : (is : List Item) (number : ℕ) (m : Make) (last pos : ℕ) (p : Progress) → closing p ≡ Ok (resting is last) → length is < 16
    → is_ok (task_numbers number 0) ≡ true → holds number is ≡ false → angulars is + cond (is_angular m) 1 0 ≤ 8 → RightMake m
    → ItemRuns is (record { number = number; make = m }) p pos
item_run is number (sporadic cost period deadline) last pos p shut few range free crank right = sporadic_run is number cost period deadline last pos p shut few range free right
item_run is number (angular plan) last pos p shut few range free crank right = angular_run is number plan last pos p shut few range free (omega arith) right

-- ---- the lines of all tasks
-- Where the last task begins, after lines up to pos whose last task began at last.
abbrev last_from : ℕ → ℕ → List Item → ℕ
last_from last pos [] = last
last_from last pos (i ∷ is) = pos + last_place (i ∷ is)

last_on : (i : Item) (is : List Item) (pos : ℕ) → last_from pos (pos + length (spelled (item_forms i))) is ≡ pos + last_place (i ∷ is)
last_on i [] pos = omega arith
last_on i (j ∷ is) pos = omega arith

items_run : (past rest : List Item) (p : Progress) (last pos : ℕ) → Together (past ++ rest) → Rights rest → closing p ≡ Ok (resting past last)
    → (q : Progress) × Runs pos (forms_of rest) p q × (closing q ≡ Ok (resting (past ++ rest) (last_from last pos rest)))
items_run past [] p last pos t r shut = (p, refl, shut ∙ ap (λ (xs : List Item). Ok (resting xs last)) (sym (append-nil past)))
items_run past (i ∷ is) p last pos t r shut =
    let a = apart_at past i is t.distinct in
    let few : length past < 16 = omega (arith, t.few, length-append past (i ∷ is)) in
    let crank : angulars past + cond (is_angular i.make) 1 0 ≤ 8 = omega (arith, t.crank, angulars_at past i is) in
    let one = item_run past i.number i.make last pos p shut few a.0 a.1 crank r.0 in
    let same = append_assoc past (i ∷ []) is in
    let on = pos + length (spelled (item_forms i)) in
    let all = items_run (past ++ i ∷ []) is one.0 pos on (subst Together (sym same) t) r.1 one.2 in (
      all.0,
      runs_append pos (item_forms i) (forms_of is) p one.0 all.0 one.1 all.1,
      all.2 ∙ (λ j. Ok (resting (same j) (last_on i is pos j))),
    )

last_front : (is : List Item) → last_from 0 0 is ≡ last_place is
last_front [] = refl
last_front (i ∷ is) = omega arith

-- The saved text reads as the tasks.
pub reads_back : (is : List Item) → Together is → Rights is → Reading (text_of is) (Ok is)
unfolding text_of
reads_back is t r =
    let run = items_run [] is beginning 0 0 t r refl in
    let end = trailer_of is in
    let last = last_front is in
    let right : (eqb (length is) (length is) && eqb (last_place is) (last_from 0 0 is)) ≡ true = and_from _ _ (eq-eqb (length is) (length is) refl) (eq-eqb (last_place is) (last_from 0 0 is) (sym last)) in
    let q = resting is (last_from 0 0 is) in
    let step : (pos : ℕ) → stepping pos end run.0 ≡ Ok q = λ pos.
    ap (λ (o : Outcome). and_go o (λ x. checked (ending (length is) (last_place is) x) (Ok x))) run.2
    ∙ (λ i. checked (cond (right i) (Ok tt) (Err (in_text Trailer))) (Ok q))
    in
    runs_load (forms_of is) (start (text_of is)) beginning run.0 (spell end) (Ok is) refl run.1
    (λ s e.
    let here : rest_of s ≡ spell end ++ [] = e ∙ sym (append-nil (spell end)) in
    whole (spelled_here end s [] (trailer_sound is t r) here) refl (step s.pos) (ap length (rest_past s (spell end) [] here)))

-- It reads as nothing else.
pub reads_only : (is : List Item) → Together is → Rights is → (r : Result (List Item) LoadFault) → Reading (text_of is) r → r ≡ Ok is
reads_only is t rs r d = loads_once d (reads_back is t rs)

-- The cells as the judge writes them, and what they show in the end. Assumes nothing.
use Rattle.std.proofs.Common.{◌≡◌, ℕ, ◌+◌, ◌-◌, ◌*◌, ◌/◌, ◌%◌, ◌<◌, ◌≤◌, Bool, true, false, cond, ltb, List, ◌++◌, length, get_or, drop, replicate, Some, None, Ok, Err, Option, unwrap_or, sym, refl, ap, ◌∙◌, subst, inl, inr, arith}
use Rattle.std.proofs.lemmas.List.FromFn.{length-map-range_with_len, get_or-map-range_with_len}
use Rattle.std.proofs.lemmas.List.{get_or-replicate, length-replicate, length-append, length-drop, get_or_append_left, get_or-append_right, get_or-drop, ext_get_or}
use Rattle.std.proofs.lemmas.Bool.{cases_lt, cond-true, cond-false, lt-ltb, le-ltb}
use Rattle.std.proofs.lemmas.Bool.Decides.{nat_tests}
use Rattle.line.specs.declared.refusal.Refusal.TheVariants.{TooShort}
use Rattle.line.specs.Meaning.{Meaning, nowhere, task_at, modes_in, deadline_in}
use Rattle.line.specs.Lawful.{Lawful}
use Rattle.line.proofs.Facts.{modes_at}
use Rattle.response.specs.declared.Verdict.{Verdict}
use Rattle.response.specs.declared.Verdict.TheVariants.{Fits, Over}
use Rattle.response.specs.Bounds.{Bound, holds, bound_of}
use Rattle.response.specs.Verdicts.{over_in, first_over, as_verdict, verdict_of, passes, shown_bound, bound_cells, judge_answer, judged_cells}
use Rattle.response.specs.Judgements.{Mode, Before, Holds, Judged}
use Rattle.response.specs.Rows.{cleared_to, bound_at, Shows, reached, stop_cell, reached_cell}
use Rattle.response.proofs.Firsts.{first_end}
use Rattle.response.proofs.Bounding.{bound_found, none_found}
use Rattle.response.proofs.Judging.{verdict_at, Bounded, bounded_not, fits_bounds, over_line}

-- Where the line has no such mode, there is no bound.
pub mode_past : (m : Meaning) (p i : ℕ) → modes_in (task_at m p) ≤ i → bound_of m p i ≡ None
unfolding bound_of
mode_past m p i h = first_end (holds m p i) (deadline_in (task_at m p) i) 1 (cond-false (ltb i (modes_in (task_at m p))) _ _ (le-ltb _ _ h))

pub place_past : (m : Meaning) (p i : ℕ) → m.count ≤ p → bound_of m p i ≡ None
place_past m p i h = mode_past m p i (omega (arith, ap modes_in (cond-false (ltb p m.count) (m.at p) nowhere (le-ltb _ _ h))))

pub bounded_mode : (m : Meaning) (p i : ℕ) → Bounded m p i → Mode m p i
bounded_mode m p i b = record {
  place = elim (cases_lt p m.count) [ inl lt ↦ lt | inr le ↦ absurd (bounded_not m p i b (place_past m p i le)) ];
  mode = elim (cases_lt i (modes_in (task_at m p))) [ inl lt ↦ lt | inr le ↦ absurd (bounded_not m p i b (mode_past m p i le)) ];
}

-- The place and the mode of a cell.
cell_place : (p i : ℕ) → i < 16 → (p * 16 + i) / 16 ≡ p
cell_place p i h = omega arith

cell_mode : (p i : ℕ) → i < 16 → (p * 16 + i) % 16 ≡ i
cell_mode p i h = omega arith

at_cell : (m : Meaning) (p i : ℕ) → i < 16 → bound_of m ((p * 16 + i) / 16) ((p * 16 + i) % 16) ≡ bound_of m p i
at_cell m p i h = ap (λ k. bound_of m k ((p * 16 + i) % 16)) (cell_place p i h) ∙ ap (bound_of m p) (cell_mode p i h)

-- The cells of one mode after another.
module _ (m : Meaning) where
  pub shows_none : (a : ℕ) (was : List ℕ) → Shows m a (a + 0) was was
  shows_none a was = record { inside = λ n x y. absurd (omega arith); before = λ n h. refl; after = λ n h. refl }

  pub shows_reached : (p i : ℕ) (was is : List ℕ) → over_in m p ≡ Some i → Shows m (p * 16) (p * 16 + i) was is → Shows m (p * 16) (p * 16 + reached m p) was is
  shows_reached p i was is e = subst (λ o. Shows m (p * 16) (p * 16 + unwrap_or o (modes_in (task_at m p))) was is) (sym e)

  shows_join : (a b c : ℕ) (x y z : List ℕ) → a ≤ b → b ≤ c → Shows m a b x y → Shows m b c y z → Shows m a c x z
  shows_join a b c x y z ab bc f s = record {
    inside = λ n h k. elim (cases_lt n b) [ inl lt ↦ s.before n lt ∙ f.inside n h lt | inr le ↦ s.inside n le k ];
    before = λ n h. s.before n (omega arith) ∙ f.before n h;
    after = λ n h. s.after n h ∙ f.after n (omega arith);
  }

  -- Cells past the modes of a place hold 0, which is what they are to show.
  shows_rest : (a p : ℕ) (was is : List ℕ) → ((n : ℕ) → n < p * 16 + 16 → get_or was n 0 ≡ 0) → modes_in (task_at m p) ≤ 16 → Shows m a (p * 16 + modes_in (task_at m p)) was is → Shows m a ((p + 1) * 16) was is
  shows_rest a p was is zeros few old = record {
    inside = λ n h k. elim (cases_lt n (p * 16 + modes_in (task_at m p))) [
      | inl lt ↦ old.inside n h lt
      | inr le ↦
          let i : ℕ = n - p * 16 in
          let same : p * 16 + i ≡ n = omega arith in
          let none : bound_of m p i ≡ None = mode_past m p i (omega arith) in
          old.after n le ∙ zeros n (omega arith)
          ∙ subst (λ k. ◌≡◌ {A = ℕ} 0 (bound_at m k)) same (sym (ap (λ o. unwrap_or o 0) (at_cell m p i (omega arith) ∙ none)))
    ];
    before = old.before;
    after = λ n h. old.after n (omega arith);
  }

  -- One more place has been judged: up to a mode without a bound, or to the end.
  shows_place : (p i : ℕ) (start was is : List ℕ) → reached m p ≡ i → Shows m 0 (p * 16) start was → Shows m (p * 16) (p * 16 + reached m p) was is → Shows m 0 (p * 16 + i) start is
  shows_place p i start was is e before here =
      subst (λ n. Shows m 0 (p * 16 + n) start is) e (shows_join 0 (p * 16) (p * 16 + reached m p) start was is (omega arith) (omega arith) before here)

  pub shows_stop : (p i : ℕ) (start was is : List ℕ) → Some i ≡ over_in m p → first_over m ≡ Some (p, i) → Shows m 0 (p * 16) start was → Shows m (p * 16) (p * 16 + reached m p) was is → Shows m 0 (reached_cell m) start is
  shows_stop p i start was is e over before here =
      subst (λ o. Shows m 0 (stop_cell m o) start is) (sym over) (shows_place p i start was is (sym (ap (λ o. unwrap_or o (modes_in (task_at m p))) e)) before here)

  pub shows_next : (p : ℕ) (start was is : List ℕ) → None ≡ over_in m p → ((n : ℕ) → n < p * 16 + 16 → get_or start n 0 ≡ 0) → modes_in (task_at m p) ≤ 16 → Shows m 0 (p * 16) start was → Shows m (p * 16) (p * 16 + reached m p) was is → Shows m 0 ((p + 1) * 16) start is
  shows_next p start was is e zeros few before here =
      shows_rest 0 p start is zeros few (shows_place p (modes_in (task_at m p)) start was is (sym (ap (λ o. unwrap_or o (modes_in (task_at m p))) e)) before here)

-- The cells before the judge starts.
pub cleared_low : (s : List ℕ) (n : ℕ) → n < 256 → get_or (cleared_to 256 s) n 0 ≡ 0
unfolding cleared_to
cleared_low s n h = get_or_append_left (replicate 256 0) (drop 256 s) 0 n (omega (arith, length-replicate {A = ℕ} 256 0)) ∙ get_or-replicate 256 n 0 0 h

cleared_high : (s : List ℕ) (n : ℕ) → 256 ≤ n → get_or (cleared_to 256 s) n 0 ≡ get_or s n 0
unfolding cleared_to
cleared_high s n h =
    get_or-append_right (replicate 256 0) (drop 256 s) 256 n 0 (length-replicate {A = ℕ} 256 0) h
    ∙ get_or-drop 256 s (n - 256) 0
    ∙ ap (λ k. get_or s k 0) (omega arith)

-- The cells that are shown.
pub cells_long : (m : Meaning) → length (bound_cells m) ≡ 256
unfolding bound_cells
cells_long m = length-map-range_with_len (λ n. shown_bound m (n / 16) (n % 16)) 0 256

pub cells_at : (m : Meaning) (rest : List ℕ) (n : ℕ) → n < 256 → get_or (bound_cells m ++ rest) n 0 ≡ shown_bound m (n / 16) (n % 16)
unfolding bound_cells
cells_at m rest n h =
    get_or_append_left (bound_cells m) rest 0 n (omega (arith, cells_long m))
    ∙ get_or-map-range_with_len (λ n. shown_bound m (n / 16) (n % 16)) 0 256 n n 0 h (omega arith)

-- Cells that hold what is to be shown, and later ones that stay, are the cells that the judge leaves.
cells_all : (m : Meaning) (s is : List ℕ) → 256 ≤ length s → length is ≡ length s → ((n : ℕ) → n < 256 → get_or is n 0 ≡ shown_bound m (n / 16) (n % 16)) → ((n : ℕ) → 256 ≤ n → get_or is n 0 ≡ get_or s n 0) → is ≡ bound_cells m ++ drop 256 s
cells_all m s is room long shown stay =
    ext_get_or 0 is (bound_cells m ++ drop 256 s)
    (omega (arith, length-append (bound_cells m) (drop 256 s), cells_long m, length-drop 256 s))
    (λ n h. elim (cases_lt n 256) [
      | inl lt ↦ shown n lt ∙ sym (cells_at m (drop 256 s) n lt)
      | inr le ↦ stay n le ∙ sym (get_or-append_right (bound_cells m) (drop 256 s) 256 n 0 (cells_long m) le ∙ get_or-drop 256 s (n - 256) 0 ∙ ap (λ k. get_or s k 0) {y = n} (omega arith))
    ])

-- Whether a cell's mode comes before the one that the verdict names is told by the cell's number.
passes_cell : (p i n : ℕ) → i < 16 → passes (Over p i) (n / 16) (n % 16) ≡ ltb n (p * 16 + i)
passes_cell p i n h = grind (arith, nat_tests)

shown_over : (m : Meaning) (p i n : ℕ) → i < 16 → verdict_of m ≡ Over p i → shown_bound m (n / 16) (n % 16) ≡ cond (ltb n (p * 16 + i)) (bound_at m n) 0
shown_over m p i n h e = ap (λ v. cond (passes v (n / 16) (n % 16)) (bound_at m n) 0) e ∙ ap (λ b. cond b (bound_at m n) 0) (passes_cell p i n h)

shown_fits : (m : Meaning) (n : ℕ) → verdict_of m ≡ Fits → shown_bound m (n / 16) (n % 16) ≡ bound_at m n
shown_fits m n e = ap (λ v. cond (passes v (n / 16) (n % 16)) (bound_at m n) 0) e

module _ (m : Meaning) (s is : List ℕ) (room : 256 ≤ length s) (long : length is ≡ length s) where
  cells_over : (p i : ℕ) → p < 16 → i < 16 → verdict_of m ≡ Over p i → Shows m 0 (p * 16 + i) (cleared_to 256 s) is → is ≡ bound_cells m ++ drop 256 s
  cells_over p i lp li e shows =
      cells_all m s is room long
      (λ n h. elim (cases_lt n (p * 16 + i)) [
        | inl lt ↦ shows.inside n (omega arith) lt ∙ sym (shown_over m p i n li e ∙ cond-true (ltb n (p * 16 + i)) (bound_at m n) 0 (lt-ltb _ _ lt))
        | inr le ↦ shows.after n le ∙ cleared_low s n h ∙ sym (shown_over m p i n li e ∙ cond-false (ltb n (p * 16 + i)) (bound_at m n) 0 (le-ltb _ _ le))
      ])
      (λ n h. shows.after n (omega arith) ∙ cleared_high s n h)

  cells_fit : m.count ≤ 16 → verdict_of m ≡ Fits → Shows m 0 (m.count * 16) (cleared_to 256 s) is → is ≡ bound_cells m ++ drop 256 s
  cells_fit few e shows =
      cells_all m s is room long
      (λ n h. elim (cases_lt n (m.count * 16)) [
        | inl lt ↦ shows.inside n (omega arith) lt ∙ sym (shown_fits m n e)
        | inr le ↦ shows.after n le ∙ cleared_low s n h ∙ sym (shown_fits m n e ∙ ap (λ o. unwrap_or o 0) (place_past m (n / 16) (n % 16) (omega arith)))
      ])
      (λ n h. shows.after n (omega arith) ∙ cleared_high s n h)

-- What the cells that are shown say of a line, in words.
pub shown_bounded : (m : Meaning) (p i w : ℕ) → passes (verdict_of m) p i ≡ true → bound_of m p i ≡ Some w → shown_bound m p i ≡ w
shown_bounded m p i w t e = cond-true (passes (verdict_of m) p i) (unwrap_or (bound_of m p i) 0) 0 t ∙ ap (λ o. unwrap_or o 0) e

holds_shown : (m : Meaning) → Lawful m → (rest : List ℕ) (P : ℕ → ℕ → Type 0)
    → ((p i : ℕ) → P p i → passes (verdict_of m) p i ≡ true)
    → ((p i : ℕ) → passes (verdict_of m) p i ≡ true → P p i)
    → ((p i : ℕ) → Mode m p i → P p i → Bounded m p i)
    → Holds m P (bound_cells m ++ rest)
holds_shown m laws rest P to from each = record {
  bounds = λ p i h x.
      let b = each p i h x in
      let few : i < 16 = omega (arith, modes_at m laws p, h.mode) in
      let at = cells_at m rest (p * 16 + i) (omega (arith, laws.few, h.place)) in
      let here : shown_bound m ((p * 16 + i) / 16) ((p * 16 + i) % 16) ≡ shown_bound m p i = ap (λ k. shown_bound m k ((p * 16 + i) % 16)) (cell_place p i few) ∙ ap (shown_bound m p) (cell_mode p i few) in
      subst (Bound m p i) (sym (at ∙ here ∙ shown_bounded m p i b.0 (to p i x) b.1)) (bound_found m p i b.0 b.1);
  zeros = λ n h none. cells_at m rest n h ∙ other n none (passes (verdict_of m) (n / 16) (n % 16)) refl (bound_of m (n / 16) (n % 16)) refl;
}
  where
    other : (n : ℕ) → ((p i : ℕ) → Mode m p i → P p i → n ≡ p * 16 + i → ⊥) → (t : Bool) → passes (verdict_of m) (n / 16) (n % 16) ≡ t → (o : Option ℕ) → bound_of m (n / 16) (n % 16) ≡ o → cond t (unwrap_or o 0) 0 ≡ 0
    other n none false e o f = refl
    other n none true e None f = refl
    other n none true e (Some w) f = absurd (none (n / 16) (n % 16) (bounded_mode m (n / 16) (n % 16) (w, f)) (from (n / 16) (n % 16) e) (omega arith))

before_passes : (q j p i : ℕ) → Before q j p i → passes (Over p i) q j ≡ true
before_passes q j p i b = elim b [ inl lt ↦ grind (arith, nat_tests) | inr x ↦ let e = x.0 in let lt = x.1 in grind (arith, nat_tests) ]

passes_before : (q j p i : ℕ) → passes (Over p i) q j ≡ true → Before q j p i
passes_before q j p i t = elim (cases_lt q p) [
  | inl lt ↦ inl lt
  | inr le ↦ inr (grind (arith, nat_tests), grind (arith, nat_tests))
]

-- The verdict and the cells that go with it are a judgement in the words of the test.
pub judged : (m : Meaning) → Lawful m → (rest : List ℕ) (v : Verdict ℕ) → verdict_of m ≡ v → Judged m v (bound_cells m ++ rest)
judged m laws rest Fits e =
    holds_shown m laws rest (λ _ _. Unit {0}) (λ p i x. ap (λ v. passes v p i) e) (λ p i t. tt) (λ p i h x. fits_bounds m e p i h)
judged m laws rest (Over p i) e =
    let o = over_line m p i e in
    record {
      there = o.there;
      none = none_found m p i o.none;
      shown = holds_shown m laws rest (λ q j. Before q j p i) (λ q j b. ap (λ v. passes v q j) e ∙ before_passes q j p i b) (λ q j t. passes_before q j p i (sym (ap (λ v. passes v q j) e) ∙ t)) o.before;
    }

-- The cells once the judge has stopped.
cells_done : (m : Meaning) → Lawful m → (s is : List ℕ) → 256 ≤ length s → length is ≡ length s → (o : Option (ℕ × ℕ)) → verdict_of m ≡ as_verdict o → Shows m 0 (stop_cell m o) (cleared_to 256 s) is → is ≡ bound_cells m ++ drop 256 s
cells_done m laws s is room long None e shows = cells_fit m s is room long laws.few e shows
cells_done m laws s is room long (Some x) e shows =
    let o = over_line m x.0 x.1 e in
    cells_over m s is room long x.0 x.1 (omega (arith, laws.few, o.there.place)) (omega (arith, o.there.mode, modes_at m laws x.0)) e shows

-- What the judge answers and leaves.
abbrev pub Done : Meaning → List ℕ → List ℕ → Verdict ℕ → Type 0
Done m s is v = (Ok v ≡ judge_answer m (length s)) × (is ≡ judged_cells m s) × Judged m v is

pub done : (m : Meaning) → Lawful m → (s start is : List ℕ) (v : Verdict ℕ) → 256 ≤ length s → length is ≡ length s → start ≡ cleared_to 256 s
    → v ≡ verdict_of m → Shows m 0 (reached_cell m) start is → Done m s is v
done m laws s start is v room long clear found shows =
    let at = subst (λ x. Shows m 0 (reached_cell m) x is) clear shows in
    let shown = cells_done m laws s is room long (first_over m) (verdict_at m) at in (
      sym (cond-false (ltb (length s) 256) (Err TooShort) (Ok (verdict_of m)) (le-ltb _ _ room) ∙ ap Ok (sym found)),
      shown ∙ sym (cond-false (ltb (length s) 256) s (bound_cells m ++ drop 256 s) (le-ltb _ _ room)),
      subst (Judged m v) (sym shown) (judged m laws (drop 256 s) v (sym found)),
    )

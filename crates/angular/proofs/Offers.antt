-- What the next modes offer, and the greatest of it. Assumes nothing.
use Rattle.std.proofs.Common.{◌≡◌, ℕ, zero, suc, ◌+◌, ◌-◌, ◌<◌, ◌≤◌, max, map, ltb, [], ◌∷◌, length, fold, Some, None, Option, MatchOption, IfSome, unwrap_or, Bor, true, false, sym, refl, ap, ◌∙◌, subst, inl, inr, arith}
use Rattle.std.specs.Fn.{Called, CalledAt}
use Rattle.std.specs.Iterator.Runs.{Run, AnyItem, NoKeyBeyond, ItemsCountDown, IsIdenticalRun}
use Rattle.std.specs.List.{range_with_len}
use Rattle.std.specs.Ordering.{is_gt, nat_cmp}
use denote.Param.Members.{Mut}
use Rattle.std.proofs.lemmas.Bool.{cases_lt, cond-true, cond-false, lt-ltb, le-ltb}
use Rattle.std.specs.declared.ops.Range.{Range}
use Rattle.std.proofs.lemmas.Option.{same_Some}
use Rattle.std.proofs.lemmas.Iterator.Adapters.{option_map_id}
use Rattle.std.proofs.lemmas.Map.Keys.{le_from_not_gt}
use Rattle.std.proofs.lemmas.List.FromFn.{map-range_with_len_more}
use Rattle.std.proofs.lemmas.List.Sums.{fold-append}
use Rattle.modes.specs.Plans.{Plan, graph_of, gap_at}
use Rattle.modes.proofs.Plans.{gap_between}
use Rattle.angular.specs.Best.{over, left, offer, next}
use Rattle.angular.specs.Sheets.{Onward}
use Rattle.angular.specs.Walks.{offer_some, over_top, over_pick}

-- The greatest of a function's values is the greatest of the list of them.
over_range : (f : ℕ → ℕ) (n : ℕ) → fold max 0 (map f (range_with_len 0 n)) ≡ over f n
over_range f zero = refl
over_range f (suc n) =
    ap (λ k. fold max 0 (map f (range_with_len 0 k))) {x = suc n} {y = n + 1} (omega arith)
    ∙ ap (fold max 0) (map-range_with_len_more f 0 n n (omega arith))
    ∙ fold-append max 0 (map f (range_with_len 0 n)) (f n ∷ [])
    ∙ ap (λ a. max a (f n)) (over_range f n)

over_same : (f g : ℕ → ℕ) (n : ℕ) → ((k : ℕ) → k < n → f k ≡ g k) → over f n ≡ over g n
over_same f g zero h = refl
over_same f g (suc n) h = let a = over_same f g n (λ k l. h k (omega arith)) in let b = h n (omega arith) in omega arith

module _ (p : Plan) (F : ℕ → ℕ → ℕ) (m w : ℕ) (from : m < length p.modes) where
  pub greatest_offer : fold max 0 (map (λ b. offer (gap_at p m b) w (F b)) (range_with_len 0 (length p.modes))) ≡ next (graph_of p) F m w
  greatest_offer =
      over_range (λ b. offer (gap_at p m b) w (F b)) (length p.modes)
      ∙ over_same (λ b. offer (gap_at p m b) w (F b)) (λ b. offer ((graph_of p).gap m b) w (F b)) (length p.modes) (λ b lt. ap (λ o. offer o w (F b)) (sym (gap_between p m b from lt)))

-- The item with the greatest key, of the numbers below n: no key is greater.
module _ {S F : Type 0} {steps : S → Option ℕ → S → Type 0} (p : Run steps) (g : Mut F (Bor ℕ × Unit {0}) ℕ) (f : F) (n : ℕ) (key : ℕ → ℕ) where
  top_key : ((a : Bor ℕ × Unit {0}) (r : ℕ) (f' : F) → Called g f a r f' → (f' ≡ f) × (r ≡ key a.0.now))
      → ((x : ℕ) → x < n → (k : ℕ) × (p.at k ≡ Some x))
      → (r : Option ℕ) → MatchOption r (p.len ≡ 0) (λ m. AnyItem p (λ x. x ≡ m) × NoKeyBeyond p g f is_gt nat_cmp m)
      → MatchOption r (p.len ≡ 0) (λ m. (x : ℕ) → x < n → key x ≤ key m)
  top_key calls items None h = h
  top_key calls items (Some m) h = λ x lt.
      let no = h.1 (λ a r f' k. (calls a r f' k).0) in
      let i = items x lt in
      let a : IfSome (Some x) (λ y. (j : ℕ) × CalledAt g f y j f × (is_gt (nat_cmp j no.0) ≡ false)) = subst (λ o. IfSome o (λ y. (j : ℕ) × CalledAt g f y j f × (is_gt (nat_cmp j no.0) ≡ false))) i.1 (no.2 i.0) in
      let mine = (calls (no.1.shown, tt) no.0 f no.1.called).1 in
      let its = (calls (a.1.shown, tt) a.0 f a.1.called).1 in
      omega (arith, le_from_not_gt a.0 no.0 a.2, mine, its, ap key no.1.shows, ap key a.1.shows)

-- The numbers below n, from the last one down.
down_items : {back : Range ℕ → Option ℕ → Range ℕ → Type 0} (q : Run back) (at : ℕ → Option ℕ) (n : ℕ) → q.from.start ≡ 0 → q.from.end ≡ n → q.whole ≡ true → ((k : ℕ) → q.at k ≡ at k) → ItemsCountDown q q.from.start q.from.end
    → (x : ℕ) → x < n → (k : ℕ) × (at k ≡ Some x)
down_items q at n start end whole same down x lt =
    let long = down.1 whole in
    let k : ℕ = n - 1 - x in (
      k,
      sym (same k) ∙ sym (option_map_id (q.at k)) ∙ down.3 k (omega arith) ∙ ap Some {y = x} (omega arith),
    )

-- What the greatest key says of the number that is taken, and of the first one where there is none.
top_of : (n len : ℕ) (key : ℕ → ℕ) (r : Option ℕ) → 1 ≤ n → len ≡ n → MatchOption r (len ≡ 0) (λ m. (x : ℕ) → x < n → key x ≤ key m) → (x : ℕ) → x < n → key x ≤ key (unwrap_or r 0)
top_of n len key None some long h x lt = absurd (omega arith)
top_of n len key (Some m) some long h x lt = h x lt

-- What is taken of the numbers below n, gone through from the last one down, has the greatest key.
pub top_taken : {S F : Type 0} {steps : S → Option ℕ → S → Type 0} {back : Range ℕ → Option ℕ → Range ℕ → Type 0} (p : Run steps) (q : Run back) (g : Mut F (Bor ℕ × Unit {0}) ℕ) (f : F) (n : ℕ) (key : ℕ → ℕ) → 1 ≤ n
    → ((a : Bor ℕ × Unit {0}) (r : ℕ) (f' : F) → Called g f a r f' → (f' ≡ f) × (r ≡ key a.0.now))
    → p.whole ≡ true → IsIdenticalRun p q → q.from.start ≡ 0 → q.from.end ≡ n → ItemsCountDown q q.from.start q.from.end
    → (r : Option ℕ) → MatchOption r (p.len ≡ 0) (λ m. AnyItem p (λ x. x ≡ m) × NoKeyBeyond p g f is_gt nat_cmp m)
    → (b : ℕ) → b ≡ unwrap_or r 0 → (x : ℕ) → x < n → key x ≤ key b
top_taken p q g f n key some calls whole same start end down r h b taken x lt =
    let long = down.1 (same.1 ∙ whole) in
    let len = same.0.0 in
    let top = top_key p g f n key calls (down_items q p.at n start end (same.1 ∙ whole) same.0.2 down) r h in
    subst (λ k. key x ≤ key k) (sym taken) (top_of n p.len key r some (omega arith) top x lt)

-- What is left after a gap, and what is offered over it.
left_gap : (o : Option ℕ) (w u : ℕ) → Some u ≡ left o w → (g : ℕ) × (o ≡ Some g) × (g < w) × (u ≡ w - g)
left_gap None w u e = let z : ◌≡◌ {A = ℕ} 0 1 = cc in absurd (omega arith)
left_gap (Some g) w u e =
    elim (cases_lt g w) [
      | inl lt ↦ let s = e ∙ cond-true (ltb g w) (Some (w - g)) None (lt-ltb g w lt) in (g, refl, lt, same_Some u (w - g) s)
      | inr le ↦ let s = e ∙ cond-false (ltb g w) (Some (w - g)) None (le-ltb g w le) in let z : ◌≡◌ {A = ℕ} 0 1 = cc in absurd (omega arith)
    ]

offer_none : (o : Option ℕ) (w : ℕ) (f : ℕ → ℕ) → None ≡ left o w → offer o w f ≡ 0
offer_none None w f e = refl
offer_none (Some g) w f e =
    elim (cases_lt g w) [
      | inl lt ↦ let s = e ∙ cond-true (ltb g w) (Some (w - g)) None (lt-ltb g w lt) in let z : ◌≡◌ {A = ℕ} 0 1 = cc in absurd (omega arith)
      | inr le ↦ cond-false (ltb g w) (f (w - g)) 0 (le-ltb g w le)
    ]

offer_left : (o : Option ℕ) (w u : ℕ) (f : ℕ → ℕ) → Some u ≡ left o w → offer o w f ≡ f u
offer_left o w u f e = let s = left_gap o w u e in offer_some o s.0 w f s.1 s.2 ∙ ap f (sym s.3)

over_at : (f : ℕ → ℕ) (n b : ℕ) → b < n → ((k : ℕ) → k < n → f k ≤ f b) → over f n ≡ f b
over_at f n b lt top = elim (over_pick f n) [ inl z ↦ omega (arith, over_top f n b lt) | inr t ↦ omega (arith, over_top f n b lt, top t.0 t.1, t.2) ]

-- The mode that offers the most.
module _ (p : Plan) (F : ℕ → ℕ → ℕ) (m w b : ℕ) (from : m < length p.modes) (there : b < length p.modes)
    (top : (k : ℕ) → k < length p.modes → offer (gap_at p m k) w (F k) ≤ offer (gap_at p m b) w (F b)) where
  next_top : next (graph_of p) F m w ≡ offer (gap_at p m b) w (F b)
  next_top =
      over_same (λ k. offer ((graph_of p).gap m k) w (F k)) (λ k. offer (gap_at p m k) w (F k)) (length p.modes) (λ k lt. ap (λ o. offer o w (F k)) (gap_between p m k from lt))
      ∙ over_at (λ k. offer (gap_at p m k) w (F k)) (length p.modes) b there top

  pub nothing_left : None ≡ left (gap_at p m b) w → next (graph_of p) F m w ≡ 0
  nothing_left e = next_top ∙ offer_none (gap_at p m b) w (F b) e

  pub nothing_more : (u : ℕ) → Some u ≡ left (gap_at p m b) w → F b u ≡ 0 → next (graph_of p) F m w ≡ 0
  nothing_more u e z = next_top ∙ offer_left (gap_at p m b) w u (F b) e ∙ z

  pub goes_on : (u : ℕ) → Some u ≡ left (gap_at p m b) w → Onward (graph_of p) F m w (next (graph_of p) F m w) b u
  goes_on u e =
      let s = left_gap (gap_at p m b) w u e in
      record { mode = there; gap = s.0; linked = gap_between p m b from there ∙ s.1; left = omega (arith, s.2, s.3); some = omega (arith, s.2, s.3); value = sym (next_top ∙ offer_left (gap_at p m b) w u (F b) e) }

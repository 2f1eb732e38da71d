-- A text is read in one way only. Assumes nothing.
use Rattle.std.proofs.Common.{◌≡◌, ℕ, ◌+◌, ◌<◌, Bool, true, false, ◌⊎◌, List, length, Ok, Err, Result, sym, refl, ap, ◌∙◌, subst₂, inl, inr, arith, length-append}
use Rattle.line.specs.declared.refusal.Refusal.TheVariants.{NoForm, Trailer}
use Rattle.table.specs.Items.{Item}
use Rattle.forms.specs.declared.form.Form.{Form}
use Rattle.forms.specs.Format.{spell}
use Rattle.forms.specs.Places.{At, rest_of}
use Rattle.forms.specs.Reads.{Spelled, Formless}
use Rattle.forms.proofs.Readings.{spell_one, spell_some}
use Rattle.faults.specs.declared.LoadFault.{LoadFault}
use Rattle.faults.specs.Faults.{in_text, placed}
use Rattle.loader.specs.Progress.{Progress, Outcome, stepping, is_end}
use Rattle.store.specs.Loads.{Loads, ReadsOnce}
use Rattle.store.specs.Loads.Loads.{cut_off, formless, refused, onward, whole, followed}

-- A line that is spelled has a byte.
some_rest : {s t : At} {f : Form} → Spelled s f t → 0 < length (rest_of s)
some_rest {s} {t} {f} h = omega (arith, spell_some f, simp length-append at (ap length h.bytes))

-- The bytes tell the line and where it ends.
same_line : {s t u : At} {f g : Form} → Spelled s f t → Spelled s g u → (f ≡ g) × (t ≡ u)
same_line {s} {t} {u} {f} {g} a b =
    let e = (spell_one f g (rest_of t) (rest_of u) a.sound b.sound (sym a.bytes ∙ b.bytes)).0 in
    let x : t.text ≡ u.text = a.same ∙ sym b.same in
    let l : t.line ≡ u.line = a.counted ∙ sym b.counted in
    let p : t.pos ≡ u.pos = a.moved ∙ ap (λ (h : Form). s.pos + length (spell h)) e ∙ sym b.moved in
    (e, (λ i. record { text = x i; line = l i; pos = p i }))

never_spelled : {s t : At} {f : Form} → Formless s → Spelled s f t → ⊥
never_spelled {s} {t} {f} n h = n f (rest_of t) h.sound h.bytes

-- What reading comes to from a line on, by what its step does and whether it is the trailer.
abbrev Then : At → At → Outcome → Bool → Result (List Item) LoadFault → Type 0
Then s t (Err e) b r = r ≡ Err (placed e s.line s.pos)
Then s t (Ok q) false r = Loads t q r
Then s t (Ok q) true r =
    ((length (rest_of t) ≡ 0) × (r ≡ Ok q.desk.tasks)) ⊎ ((0 < length (rest_of t)) × (r ≡ Err (placed (in_text Trailer) t.line t.pos)))

-- The same of the line at s, from what is said of it under another reading.
moved : {s t u : At} {f g : Form} (p : Progress) (r : Result (List Item) LoadFault) → Spelled s f t → Spelled s g u → Then s u (stepping s.pos g p) (is_end g) r → Then s t (stepping s.pos f p) (is_end f) r
moved {s} p r a b x =
    let q = same_line a b in
    subst₂ (λ (f : Form) (t : At). Then s t (stepping s.pos f p) (is_end f) r) (sym q.0) (sym q.1) x

-- A reading that goes by that step, seen from the line's step as it is defined.
stepped : {s t : At} {f : Form} (p : Progress) (r : Result (List Item) LoadFault) (o : Outcome) (x : Bool) → Spelled s f t → stepping s.pos f p ≡ o → is_end f ≡ x → Then s t o x r → Then s t (stepping s.pos f p) (is_end f) r
stepped {s} {t} p r o x h k b d = subst₂ (λ (o : Outcome) (x : Bool). Then s t o x r) (sym k) (sym b) d

then_spelled : {s t : At} {f : Form} {p : Progress} {r : Result (List Item) LoadFault} → Spelled s f t → Loads s p r → Then s t (stepping s.pos f p) (is_end f) r
then_spelled h (cut_off z) = absurd (omega (arith, z, some_rest h))
then_spelled h (formless z n) = absurd (never_spelled n h)
then_spelled h (refused k e) = moved _ _ h k (stepped _ _ _ _ k e refl refl)
then_spelled h (onward k b e d) = moved _ _ h k (stepped _ _ _ _ k e b d)
then_spelled h (whole k b e z) = moved _ _ h k (stepped _ _ _ _ k e b (inl (z, refl)))
then_spelled h (followed k b e z) = moved _ _ h k (stepped _ _ _ _ k e b (inr (z, refl)))

-- A second reading goes by the same step.
again : {s t : At} {f : Form} {p : Progress} {r : Result (List Item) LoadFault} (o : Outcome) (x : Bool) → Spelled s f t → stepping s.pos f p ≡ o → is_end f ≡ x → Loads s p r → Then s t o x r
again {s} {t} {f} {p} {r} o x h k b d = subst₂ (λ (o : Outcome) (x : Bool). Then s t o x r) k b (then_spelled h d)

once_cut : {s : At} {p : Progress} {r : Result (List Item) LoadFault} → length (rest_of s) ≡ 0 → Loads s p r → Err (placed (in_text Trailer) s.line s.pos) ≡ r
once_cut z (cut_off y) = refl
once_cut z (formless y n) = absurd (omega arith)
once_cut z (refused k e) = absurd (omega (arith, z, some_rest k))
once_cut z (onward k b e d) = absurd (omega (arith, z, some_rest k))
once_cut z (whole k b e y) = absurd (omega (arith, z, some_rest k))
once_cut z (followed k b e y) = absurd (omega (arith, z, some_rest k))

once_formless : {s : At} {p : Progress} {r : Result (List Item) LoadFault} → 0 < length (rest_of s) → Formless s → Loads s p r → Err (placed (in_text NoForm) s.line s.pos) ≡ r
once_formless z n (cut_off y) = absurd (omega arith)
once_formless z n (formless y m) = refl
once_formless z n (refused k e) = absurd (never_spelled n k)
once_formless z n (onward k b e d) = absurd (never_spelled n k)
once_formless z n (whole k b e y) = absurd (never_spelled n k)
once_formless z n (followed k b e y) = absurd (never_spelled n k)

once_whole : (s t : At) (q : Progress) (r : Result (List Item) LoadFault) → length (rest_of t) ≡ 0 → Then s t (Ok q) true r → Ok q.desk.tasks ≡ r
once_whole s t q r z (inl (y, e)) = sym e
once_whole s t q r z (inr (y, e)) = absurd (omega arith)

once_followed : (s t : At) (q : Progress) (r : Result (List Item) LoadFault) → 0 < length (rest_of t) → Then s t (Ok q) true r → Err (placed (in_text Trailer) t.line t.pos) ≡ r
once_followed s t q r z (inl (y, e)) = absurd (omega arith)
once_followed s t q r z (inr (y, e)) = sym e

-- A text is read in one way only.
pub loads_once : {s : At} {p : Progress} {r r' : Result (List Item) LoadFault} → Loads s p r → Loads s p r' → r ≡ r'
loads_once (cut_off z) d = once_cut z d
loads_once (formless z n) d = once_formless z n d
loads_once (refused {s} {t} {p} {f} {e} h k) d = sym (again (Err e) (is_end f) h k refl d)
loads_once (onward {s} {t} {p} {q} {f} {r} h b k x) d = loads_once x (again (Ok q) false h k b d)
loads_once {r' = r'} (whole {s} {t} {p} {q} {f} h b k z) d = once_whole s t q r' z (again (Ok q) true h k b d)
loads_once {r' = r'} (followed {s} {t} {p} {q} {f} h b k z) d = once_followed s t q r' z (again (Ok q) true h k b d)

pub reads_once : (text : List ℕ) → ReadsOnce text
unfolding ReadsOnce
reads_once text r r' d d' = loads_once d d'

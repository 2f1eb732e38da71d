-- Reading a text line by line comes to the end that the whole text comes to. Assumes nothing.
use Rattle.std.proofs.Common.{◌≡◌, ℕ, ◌<◌, ◌≤◌, Bool, true, false, ◌⊎◌, List, ◌++◌, cond, ltb, length, take, is_ok, Ok, Err, Result, MatchResult, IsErrAnd, sym, ap, ◌∙◌, subst, subst₂, inl, inr, arith, length-append}
use lib.Seq.{take-append-le}
use Rattle.std.proofs.lemmas.List.{take_all}
use Rattle.line.specs.declared.refusal.Refusal.TheVariants.{OutOfRange, NoMemory, Trailer}
use Rattle.line.specs.Answers.{and_then, sheet_answer}
use Rattle.table.specs.Items.{Item}
use Rattle.table.specs.Tables.{items}
use Rattle.table.specs.declared.table.Table.{Table}
use Rattle.std.proofs.lemmas.Bool.{cond-true, false≢true}
use Rattle.editor.specs.Desks as desks
use Rattle.editor.proofs.Passing.{second}
use Rattle.bench.specs.State.{State, edited, no_run, install_answer, after_install}
use Rattle.forms.specs.declared.form.Form.{Form}
use Rattle.forms.specs.Places.{At, rest_of}
use Rattle.forms.specs.Reads.{Spelled}
use Rattle.forms.proofs.Readings.{spell_some}
use Rattle.faults.specs.declared.LineFault.{LineFault}
use Rattle.faults.specs.declared.LoadFault.{LoadFault}
use Rattle.faults.specs.Faults.{in_text, placed}
use Rattle.loader.specs.Progress.{Progress}
use Rattle.loader.specs.Loaders.{SheetAfter, NextDone}
use Rattle.store.specs.Loads.{Loads, Reading, LastDone, ReadDone, load_answer, Loaded}
use Rattle.store.specs.Loads.Loads.{cut_off, formless, refused, onward, whole, followed}

-- A line has at least one byte.
shorter : (s t : At) (f : Form) → Spelled s f t → length (rest_of t) < length (rest_of s)
shorter s t f h = omega (arith, spell_some f, simp length-append at (ap length h.bytes))

module _ (text : List ℕ) (s : At) (p : Progress) (reach : (r : Result (List Item) LoadFault) → Loads s p r → Reading text r) where
  pub line_refused : (e : LineFault) (t : At) (q : Progress) → 0 < length (rest_of s) → NextDone s p (Err e) t q → (f : LoadFault) → f ≡ placed e s.line s.pos → Reading text (Err f) ⊎ (f.refusal ≡ NoMemory)
  line_refused e t q some (inl (none, is)) f at =
      inl (reach (Err f) (subst (λ (x : LoadFault). Loads s p (Err x)) (sym (at ∙ ap (λ (x : LineFault). placed x s.line s.pos) is)) (formless some none)))
  line_refused e t q some (inr (inl (g, u, h, err))) f at =
      inl (reach (Err f) (subst (λ (x : LoadFault). Loads s p (Err x)) (sym at) (refused h err)))
  line_refused e t q some (inr (inr wants)) f at = inr (ap (λ (x : LoadFault). x.refusal) at ∙ wants)

  pub trailer_read : (t : At) (q : Progress) (b : Bool) → b ≡ true → NextDone s p (Ok b) t q → (r : Result Table LoadFault) → LastDone t q.desk.tasks r → (sheet sheet' : List ℕ) → SheetAfter q.desk.tasks sheet sheet' → ReadDone text sheet r sheet'
  trailer_read t q b b-is (f, h, is, ok) (Ok table) (none, same) sheet sheet' closes =
      (reach (Ok (items table)) (subst (λ (x : List Item). Loads s p (Ok x)) (sym same) (whole h (is ∙ b-is) ok none)), subst (λ (x : List Item). SheetAfter x sheet sheet') (sym same) closes)
  trailer_read t q b b-is (f, h, is, ok) (Err e) (more, at) sheet sheet' closes =
      inl (reach (Err e) (subst (λ (x : LoadFault). Loads s p (Err x)) (sym at) (followed h (is ∙ b-is) ok more)))

  pub line_read : (t : At) (q : Progress) (b : Bool) → b ≡ false → NextDone s p (Ok b) t q → ((r : Result (List Item) LoadFault) → Loads t q r → Reading text r) × (length (rest_of t) < length (rest_of s))
  line_read t q b b-is (f, h, is, ok) = (λ r later. reach r (onward h (is ∙ b-is) ok later), shorter s t f h)

  pub text_ended : length (rest_of s) ≡ 0 → (f : LoadFault) → f ≡ placed (in_text Trailer) s.line s.pos → Reading text (Err f)
  text_ended none f at = reach (Err f) (subst (λ (x : LoadFault). Loads s p (Err x)) (sym at) (cut_off none))

-- A text that was read whole is loaded.
pub loaded : (s : State) (text sheet : List ℕ) (is : List Item) (s' : State) (work work' sheet' : List ℕ)
    → load_answer s (length text) (length sheet) ≡ Ok tt
    → work ≡ sheet
    → Reading text (Ok is)
    → SheetAfter is work work'
    → s' ≡ after_install s is
    → sheet' ≡ work'
    → Loaded s text sheet s' sheet'
loaded s text sheet is s' work work' sheet' may same reads closes after copied =
    let room = sheet_answer (length sheet) in
    let all = second room (install_answer s) (second (cond (ltb 65535 (length text)) (Err OutOfRange) (Ok tt)) (and_then room (install_answer s)) may) in
    let own = second (no_run s) (desks.install_answer s.desk) all in
    record {
      tasks = is;
      may = may;
      reads = reads;
      after = after ∙ cond-true _ _ _ (ap is_ok all) ∙ ap (edited s) (cond-true _ _ _ (ap is_ok own));
      closes = subst₂ (SheetAfter is) same (sym copied) closes;
    }

-- A list that was refilled whole holds what was written.
pub refilled_whole : (n : ℕ) (ys xs : List ℕ) → length ys ≡ n → take n (ys ++ xs) ≡ ys
refilled_whole n ys xs e = let h : n ≤ length ys = omega (arith, e) in rw take-append-le (take_all n ys (omega (arith, e)))

-- What `map_err` was called on, by what it gives: a fault of a line, with what is known of it there; or the answer.
pub raised : (P : Result Bool LineFault → Type 0) (r : Result Bool LineFault) (m : Result Bool LoadFault) {post : LineFault → LoadFault → Type 0} (f : LineFault → LoadFault) → P r → MatchResult r (λ x. m ≡ Ok x) (λ e. IsErrAnd m (post e))
    → ((e : LineFault) (d : LoadFault) → post e d → d ≡ f e) → (y : LoadFault) → m ≡ Err y → (e : LineFault) × P (Err e) × (y ≡ f e)
raised P (Ok x) m f p same is y e = absurd (false≢true (ap is_ok (sym e ∙ same)))
raised P (Err x) m {post} f p some is y e = (x, p, is x y (subst (λ m. IsErrAnd m (post x)) e some))

pub passed : (r : Result Bool LineFault) (m : Result Bool LoadFault) (post : LineFault → LoadFault → Type 0) → MatchResult r (λ x. m ≡ Ok x) (λ e. IsErrAnd m (post e)) → (b : Bool) → m ≡ Ok b → r ≡ Ok b
passed (Ok x) m post same b e = let k : x ≡ b = cc (sym same ∙ e) in ap Ok k
passed (Err x) m post some b e = absurd (subst (λ m. IsErrAnd m (post x)) e some)

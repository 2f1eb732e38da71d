-- Parts of a text, as the code cuts them and as the definitions do. Assumes nothing.
use Rattle.std.proofs.Common.{◌≡◌, ℕ, ◌+◌, ◌≤◌, List, length, take, Option, ap, ◌∙◌, arith}
use Rattle.std.proofs.lemmas.List.{length-drop}
use Rattle.forms.specs.Numbers.{number_of}
use Rattle.forms.specs.Places.{At, rest_of, forward}
use Rattle.forms.specs.Words.{word_len, word_at, by_number, token_at, past_word}

-- The word that begins at a place, of n bytes, where rest is what stands from there on.
module _ (s : At) (rest : List ℕ) (n : ℕ) (here : rest ≡ rest_of s) where
  pub word_within : s.pos ≤ length s.text → n ≤ length rest → s.pos + n ≤ length s.text
  word_within inside within = omega (arith, ap length here, length-drop s.pos s.text)

  pub word_bytes : n ≡ word_len rest → take n rest ≡ word_at s
  word_bytes e = (λ i. take ((e ∙ ap word_len here) i) (here i))

  pub word_past : n ≡ word_len rest → forward n s ≡ past_word s
  unfolding past_word
  word_past e = ap (λ k. forward k s) (e ∙ ap word_len here)

pub word_token : (s : At) (bs : List ℕ) (o : Option ℕ) → bs ≡ word_at s → o ≡ number_of bs → by_number s.pos bs o ≡ token_at s
unfolding token_at
word_token s bs o e h = (λ i. by_number s.pos (e i) (h i)) ∙ ap (λ b. by_number s.pos (word_at s) (number_of b)) e

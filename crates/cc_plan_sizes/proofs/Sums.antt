-- The slots of all words are those of each, one word after the other.
use Rattle.std.proofs.Common.{◌≡◌, ◌≤◌, ◌+◌, ◌*◌, ◌==◌, nat_le, ℕ, zero, suc, Bool, true, false, if◌then◌else◌, List, [], ◌∷◌, Some, slice_get, sum_by, refl, ap, subst, arith}
use Rattle.std.proofs.Math.Nat.{mul-add}
use Rattle.std.proofs.lemmas.Bool.Decides.{nat_tests}
use Rattle.std.proofs.lemmas.List.Sums.{sum_by-cons}
use Rattle.cc_bins.specs.declared.types.Field.{Field}
use Rattle.cc_bins.specs.declared.types.Word.{Word}
use Rattle.cc_plan_legal.specs.declared.candidate.Candidate.{Candidate}
use Rattle.cc_plan_legal.specs.Candidates.{bytes_of}
use Rattle.cc_plan_legal.specs.Legality.{bytes_in}
use Rattle.cc_plan_legal.specs.Short.{group_in}

module _ (h : Field → ℕ) where
  -- of the fields of one word, and of those of this word and all behind it
  abbrev pub sum_at : ℕ → List Field → ℕ
  sum_at word [] = 0
  sum_at word (f ∷ fields) = (if f.word == word then h f else 0) + sum_at word fields

  abbrev pub sum_from : ℕ → List Field → ℕ
  sum_from word [] = 0
  sum_from word (f ∷ fields) = (if nat_le word f.word then h f else 0) + sum_from word fields

  one_of : (word at n : ℕ) → (if nat_le word at then n else 0) ≡ (if at == word then n else 0) + (if nat_le (word + 1) at then n else 0)
  one_of word at n = grind (arith, nat_tests)

  pub next_word : (word : ℕ) (fields : List Field) → sum_from word fields ≡ sum_at word fields + sum_from (word + 1) fields
  next_word word [] = omega arith
  next_word word (f ∷ fields) = let a = one_of word f.word (h f) in let b = next_word word fields in omega (arith, a, b)

  not_below : (at n : ℕ) → (if nat_le 0 at then n else 0) ≡ n
  not_below at n = grind (arith, nat_tests)

  pub all_words : (fields : List Field) → sum_from 0 fields ≡ sum_by h fields
  all_words [] = refl
  all_words (f ∷ fields) = let a = not_below f.word (h f) in let b = all_words fields in let c = sum_by-cons h f fields in omega (arith, a, b, c)

  -- where each word has no more than its fields, so have all
  pub words_within : (g : Word → ℕ) (word : ℕ) (words : List Word) (fields : List Field) → ((i : ℕ) (w : Word) → slice_get words i ≡ Some w → g w ≤ sum_at (word + i) fields) → sum_by g words ≤ sum_from word fields
  words_within g word [] fields each = omega arith
  words_within g word (w ∷ words) fields each =
      let p : word + 0 ≡ word = omega arith in
      let first : g w ≤ sum_at word fields = subst (λ (k : ℕ). g w ≤ sum_at k fields) p (each zero w refl) in
      let rest = words_within g (word + 1) words fields (λ i v s. let q : word + suc i ≡ word + 1 + i = omega arith in subst (λ (k : ℕ). g v ≤ sum_at k fields) q (each (suc i) v s)) in
      let a = next_word word fields in
      let b = sum_by-cons g w words in
      omega (arith, first, rest, a, b)

module _ (copies : ℕ → ℕ) (slots : List Candidate) where
  abbrev pub bytes_of_copies : Field → ℕ
  bytes_of_copies f = copies (group_in slots f.slot) * bytes_of slots f.slot

  in_group : (group word : ℕ) (f : Field) (b : Bool) → (f.word == word) ≡ b → (f.word ≡ word → group_in slots f.slot ≡ group)
      → (if b then bytes_of_copies f else 0) ≡ copies group * (if b then bytes_of slots f.slot else 0)
  in_group group word f true t h =
      let e : f.word ≡ word = same f.word word t in
      ap (λ (k : ℕ). copies k * bytes_of slots f.slot) (h e)
    where
      same : (a b : ℕ) → (a == b) ≡ true → a ≡ b
      same a b t = grind (arith, nat_tests)
  in_group group word f false t h = omega arith

  -- the fields of a word are of one group
  pub of_one_group : (group word : ℕ) (fields : List Field) → ((j : ℕ) (f : Field) → slice_get fields j ≡ Some f → f.word ≡ word → group_in slots f.slot ≡ group)
      → sum_at bytes_of_copies word fields ≡ copies group * bytes_in slots word fields
  of_one_group group word [] h = omega arith
  of_one_group group word (f ∷ fields) h =
      let a = in_group group word f (f.word == word) refl (h zero f refl) in
      let b = of_one_group group word fields (λ j g s. h (suc j) g s) in
      spread (if f.word == word then bytes_of_copies f else 0) (sum_at bytes_of_copies word fields) (copies group) (if f.word == word then bytes_of slots f.slot else 0) (bytes_in slots word fields) a b
    where
      spread : (x y c a b : ℕ) → x ≡ c * a → y ≡ c * b → x + y ≡ c * (a + b)
      spread x y c a b p q = let d = mul-add c a b in omega (arith, p, q, d)

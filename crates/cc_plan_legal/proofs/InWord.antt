-- Of a plan's fields those of a word are all that count for the rules of a field in it.
use Rattle.std.proofs.Common.{◌≡◌, ◌∙◌, ◌==◌, ◌&&◌, ◌+◌, ◌/◌, max, min, not, nat_lt, ℕ, Bool, true, false, cond, if◌then◌else◌, List, [], ◌∷◌, filter, find, Option, Some, option_map, refl, ap, sym, arith}
use Rattle.std.specs.Option.{option_or}
use Rattle.std.proofs.lemmas.Bool.{and_parts}
use Rattle.std.proofs.lemmas.Bool.Decides.{nat_tests}
use Rattle.cc_bins.specs.declared.types.Field.{Field}
use Rattle.cc_bins.specs.declared.types.Word.{Word}
use Rattle.cc_plan_legal.specs.declared.candidate.Candidate.{Candidate}
use Rattle.cc_plan_legal.specs.declared.legal.Illegal.{Illegal}
use Rattle.cc_plan_legal.specs.Candidates.{bits_of, bytes_of}
use Rattle.cc_plan_legal.specs.Legality.{breach, breach_where, breaks_in_word, bytes_in, bytes_within, end_of, first_overlapped, is_size, most_bits, overlap, passes_end, wrong_group}
use Rattle.cc_plan_legal.specs.Lookup.{in_word}

turned : (a b : ℕ) → (a == b) ≡ true → (b == a) ≡ true
turned a b h = grind (arith, nat_tests)

-- ---- the first that passes, where only some can pass

module _ {X : Type 0} (p q : X → Bool) (only : (x : X) → p x ≡ true → q x ≡ true) where
  left_out : (x : X) (r s : Option X) (b c : Bool) → p x ≡ b → q x ≡ c → r ≡ s → cond c (cond b (Some x) r) r ≡ cond b (Some x) s
  left_out x r s true true h k m = refl
  left_out x r s false true h k m = m
  left_out x r s true false h k m = let f : true ≡ false = sym (only x h) ∙ k in absurd (cc)
  left_out x r s false false h k m = m

  found_in : (x : X) (xs : List X) (c : Bool) → q x ≡ c → find p (cond c (x ∷ xs) xs) ≡ cond c (cond (p x) (Some x) (find p xs)) (find p xs)
  found_in x xs true e = refl
  found_in x xs false e = refl

  pub find_filtered : (xs : List X) → find p (filter q xs) ≡ find p xs
  find_filtered [] = refl
  find_filtered (x ∷ xs) = found_in x (filter q xs) (q x) refl ∙ left_out x (find p (filter q xs)) (find p xs) (p x) (q x) refl refl (find_filtered xs)

module _ (slots : List Candidate) (c : Candidate) (f : Field) (w : Word) where
  abbrev here : Field → Bool
  here g = g.word == f.word

  overlapped_here : (g : Field) → not (g.slot == f.slot) && overlap slots f g ≡ true → here g ≡ true
  overlapped_here g h =
      let parts = and_parts (not (g.slot == f.slot)) (overlap slots f g) h in
      turned f.word g.word (and_parts (f.word == g.word) (nat_lt (max f.shift g.shift) (min (end_of slots f) (end_of slots g))) parts.1).0

  same_overlapped : (fields : List Field) → first_overlapped slots (in_word f.word fields) f ≡ first_overlapped slots fields f
  same_overlapped fields = find_filtered (λ (g : Field). not (g.slot == f.slot) && overlap slots f g) here overlapped_here fields

  most_step : (g : Field) (least : ℕ) (xs ys : List Field) → ((n : ℕ) → most_bits slots f.word n xs ≡ most_bits slots f.word n ys) → (b : Bool) → (g.word == f.word) ≡ b
      → most_bits slots f.word least (cond b (g ∷ xs) xs) ≡ most_bits slots f.word (if b then max least (bits_of slots g.slot) else least) ys
  most_step g least xs ys h true e = ap (λ (b : Bool). most_bits slots f.word (if b then max least (bits_of slots g.slot) else least) xs) e ∙ h (max least (bits_of slots g.slot))
  most_step g least xs ys h false e = h least

  same_most : (least : ℕ) (fields : List Field) → most_bits slots f.word least (in_word f.word fields) ≡ most_bits slots f.word least fields
  same_most least [] = refl
  same_most least (g ∷ fields) = most_step g least (in_word f.word fields) fields (λ n. same_most n fields) (g.word == f.word) refl

  bytes_step : (g : Field) (xs ys : List Field) → bytes_in slots f.word xs ≡ bytes_in slots f.word ys → (b : Bool) → (g.word == f.word) ≡ b
      → bytes_in slots f.word (cond b (g ∷ xs) xs) ≡ (if b then bytes_of slots g.slot else 0) + bytes_in slots f.word ys
  bytes_step g xs ys h true e = ap (λ (b : Bool). (if b then bytes_of slots g.slot else 0) + bytes_in slots f.word xs) e ∙ ap (λ (n : ℕ). bytes_of slots g.slot + n) h
  bytes_step g xs ys h false e = omega (arith, h)

  same_bytes : (fields : List Field) → bytes_in slots f.word (in_word f.word fields) ≡ bytes_in slots f.word fields
  same_bytes [] = refl
  same_bytes (g ∷ fields) = bytes_step g (in_word f.word fields) fields (same_bytes fields) (g.word == f.word) refl

  -- the rules by what is found among the fields
  abbrev breaks_by : Option Field → ℕ → ℕ → Option Illegal
  breaks_by overlapped most bytes =
      option_or (wrong_group c f w)
      (option_or (option_map (λ (g : Field). breach f.slot 3 f.shift g.shift) overlapped)
      (option_or (passes_end slots f w)
      (option_or (breach_where (not (is_size w.bits most)) (breach f.slot 5 w.bits most))
      (option_map (breach f.slot 6 (w.bits / 8)) (bytes_within bytes (w.bits / 8))))))

  pub breaks_same : (fields : List Field) → breaks_in_word slots (in_word f.word fields) c f w ≡ breaks_in_word slots fields c f w
  breaks_same fields =
      let one = in_word f.word fields in
      ap (λ (o : Option Field). breaks_by o (most_bits slots f.word 0 one) (bytes_in slots f.word one)) (same_overlapped fields)
      ∙ ap (λ (n : ℕ). breaks_by (first_overlapped slots fields f) n (bytes_in slots f.word one)) (same_most 0 fields)
      ∙ ap (λ (n : ℕ). breaks_by (first_overlapped slots fields f) (most_bits slots f.word 0 fields) n) (same_bytes fields)

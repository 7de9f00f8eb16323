-- The bytes and the bits of the slots of a word, over its fields.
use Rattle.std.proofs.Common.{◌≡◌, ◌≤◌, ◌+◌, ◌++◌, ◌∙◌, ◌==◌, max, ℕ, zero, suc, Bool, true, false, if◌then◌else◌, List, [], ◌∷◌, map, sum_by, All, IsPermutation, Some, None, slice_get, refl, ap, sym, subst, arith}
use Rattle.std.proofs.lemmas.Bool.Decides.{nat_tests}
use Rattle.std.proofs.lemmas.List.Elements.{All-head, All-tail}
use Rattle.std.proofs.lemmas.List.Sorted.{sum_by-IsPermutation}
use Rattle.std.proofs.lemmas.List.Sums.{sum_by-cons}
use Rattle.cc_bins.specs.declared.types.Field.{Field}
use Rattle.cc_bins.specs.declared.open_words.Open.{Open}
use Rattle.cc_bins.specs.declared.open_words.Placed.{Placed}
use Rattle.cc_bins.specs.Placing.{field_of, fields_from}
use Rattle.cc_plan_legal.specs.declared.candidate.Candidate.{Candidate}
use Rattle.cc_plan_legal.specs.Candidates.{bits_of, bytes_of}
use Rattle.cc_plan_legal.specs.Legality.{bytes_in, most_bits}

is_same : (a : ℕ) → (a == a) ≡ true
is_same a = grind (arith, nat_tests)

module _ (slots : List Candidate) where
  -- ---- bytes

  abbrev in_word : ℕ → Field → ℕ
  in_word word f = if f.word == word then bytes_of slots f.slot else 0

  as_sum : (word : ℕ) (fields : List Field) → bytes_in slots word fields ≡ sum_by (in_word word) fields
  as_sum word [] = refl
  as_sum word (f ∷ fields) = let a = as_sum word fields in let b = sum_by-cons (in_word word) f fields in omega (arith, a, b)

  pub bytes_permuted : (word : ℕ) (xs ys : List Field) → IsPermutation xs ys → bytes_in slots word xs ≡ bytes_in slots word ys
  bytes_permuted word xs ys p = as_sum word xs ∙ sym (sum_by-IsPermutation (in_word word) xs ys p) ∙ sym (as_sum word ys)

  bytes_joined : (word : ℕ) (xs ys : List Field) → bytes_in slots word (xs ++ ys) ≡ bytes_in slots word xs + bytes_in slots word ys
  bytes_joined word [] ys = omega arith
  bytes_joined word (f ∷ xs) ys = let a = bytes_joined word xs ys in omega (arith, a)

  abbrev pub HasBytes : Placed → Type 0
  HasBytes p = bytes_of slots p.want.slot ≡ p.want.bytes

  bytes_here : (number : ℕ) (ps : List Placed) → All HasBytes ps → bytes_in slots number (map (field_of number) ps) ≡ sum_by (λ (p : Placed). p.want.bytes) ps
  bytes_here number [] h = refl
  bytes_here number (p ∷ ps) h =
      let a = ap (λ (b : Bool). if b then bytes_of slots p.want.slot else 0) (is_same number) ∙ All-head HasBytes p ps h in
      let b = bytes_here number ps (All-tail HasBytes p ps h) in
      let c = sum_by-cons (λ (p : Placed). p.want.bytes) p ps in
      omega (arith, a, b, c)

  -- the slots of a word have its bytes among the fields of all words
  pub bytes_of_word : (number : ℕ) (ws : List Open) (i : ℕ) (w : Open) → slice_get ws i ≡ Some w → All HasBytes w.slots → sum_by (λ (p : Placed). p.want.bytes) w.slots ≤ bytes_in slots (number + i) (fields_from number ws)
  bytes_of_word number [] i w s h = let f : None ≡ Some w = s in absurd (cc)
  bytes_of_word number (v ∷ ws) zero w s h =
      let f : Some v ≡ Some w = s in
      let e : w ≡ v = cc in
      let z : number ≡ number + 0 = omega arith in
      let here = bytes_here number w.slots h in
      let joined = bytes_joined number (map (field_of number) v.slots) (fields_from (number + 1) ws) in
      let same : bytes_in slots number (map (field_of number) w.slots) ≡ bytes_in slots number (map (field_of number) v.slots) = ap (λ (o : Open). bytes_in slots number (map (field_of number) o.slots)) e in
      subst (λ (k : ℕ). sum_by (λ (p : Placed). p.want.bytes) w.slots ≤ bytes_in slots k (fields_from number (v ∷ ws))) z (omega (arith, here, joined, same))
  bytes_of_word number (v ∷ ws) (suc i) w s h =
      let z : number + 1 + i ≡ number + suc i = omega arith in
      let more = subst (λ (k : ℕ). sum_by (λ (p : Placed). p.want.bytes) w.slots ≤ bytes_in slots k (fields_from (number + 1) ws)) z (bytes_of_word (number + 1) ws i w s h) in
      let joined = bytes_joined (number + suc i) (map (field_of number) v.slots) (fields_from (number + 1) ws) in
      omega (arith, more, joined)

  -- ---- bits

  kept_step : (word least : ℕ) (f : Field) (fields : List Field) → least ≤ most_bits slots word least fields → max least (bits_of slots f.slot) ≤ most_bits slots word (max least (bits_of slots f.slot)) fields → (b : Bool)
      → least ≤ most_bits slots word (if b then max least (bits_of slots f.slot) else least) fields
  kept_step word least f fields a m true = omega (arith, m)
  kept_step word least f fields a m false = a

  least_kept : (word least : ℕ) (fields : List Field) → least ≤ most_bits slots word least fields
  least_kept word least [] = omega arith
  least_kept word least (f ∷ fields) = kept_step word least f fields (least_kept word least fields) (least_kept word (max least (bits_of slots f.slot)) fields) (f.word == word)

  -- a slot of a word has no more bits than the most
  pub no_more : (word least : ℕ) (fields : List Field) (j : ℕ) (f : Field) → slice_get fields j ≡ Some f → f.word ≡ word → bits_of slots f.slot ≤ most_bits slots word least fields
  no_more word least [] j f s e = let k : None ≡ Some f = s in absurd (cc)
  no_more word least (g ∷ fields) zero f s e =
      let k : Some g ≡ Some f = s in
      let m : f ≡ g = cc in
      let t : (g.word == word) ≡ true = ap (λ (h : Field). h.word == word) (sym m) ∙ ap (λ (n : ℕ). n == word) e ∙ is_same word in
      let a = least_kept word (max least (bits_of slots g.slot)) fields in
      let b = ap (λ (h : Field). bits_of slots h.slot) m in
      subst (λ (b : Bool). bits_of slots f.slot ≤ most_bits slots word (if b then max least (bits_of slots g.slot) else least) fields) (sym t) (omega (arith, a, b))
  no_more word least (g ∷ fields) (suc j) f s e = no_more word (if g.word == word then max least (bits_of slots g.slot) else least) fields j f s e

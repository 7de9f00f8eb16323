-- What words and packed arrays take, and the slots that they stand for.
use Rattle.std.proofs.Common.{◌≡◌, ◌≤◌, ◌<◌, ◌+◌, ◌*◌, ◌/◌, ◌∙◌, ◌==◌, ℕ, zero, suc, true, List, [], ◌∷◌, length, get_or, All, Option, Some, None, slice_get, sum_by, refl, ap, sym, subst, arith}
use Rattle.std.specs.List.{list_any}
use Rattle.std.specs.Option.{option_map_or}
use Rattle.std.proofs.Math.Nat.{mul-le-mul_left}
use Rattle.std.proofs.lemmas.Bool.{and_parts}
use Rattle.std.proofs.lemmas.Bool.Decides.{nat_tests}
use Rattle.std.proofs.lemmas.List.Elements.{All-get_or}
use Rattle.std.proofs.lemmas.List.Sums.{sum_by-cons}
use Rattle.std.proofs.lemmas.Option.{slice_get-get_or, slice_get_within, get_or_from_slice_get}
use Rattle.cc_bins.specs.declared.types.Field.{Field}
use Rattle.cc_bins.specs.declared.types.Word.{Word}
use Rattle.cc_plan_legal.specs.declared.candidate.Candidate.{Candidate}
use Rattle.cc_plan_legal.specs.declared.candidate.Form.TheVariants as form
use Rattle.cc_plan_legal.specs.declared.kinds.Plan.{Plan}
use Rattle.cc_plan_legal.specs.Candidates.{bits_of, bytes_of}
use Rattle.cc_plan_legal.specs.Legal.{IsLegal}
use Rattle.cc_plan_legal.specs.Legality.{bytes_in, first_illegal, stands_as}
use Rattle.cc_plan_legal.specs.Plans.{are_used}
use Rattle.cc_plan_legal.specs.Short.{count_of, group_in, packed_bytes, AreShort, IsShort}
use Rattle.cc_plan_legal.proofs.LegalLaws.{legal, stands_some}
use Rattle.cc_plan_legal.proofs.Options.{any_at, any_passes}
use Rattle.cc_plan_sizes.specs.Numbers.{HasItsSlots}
use Rattle.cc_plan_sizes.proofs.Sums.{all_words, bytes_of_copies, of_one_group, sum_at, words_within}

same : (a b : ℕ) → (a == b) ≡ true → a ≡ b
same a b h = grind (arith, nat_tests)

is_same : (a : ℕ) → (a == a) ≡ true
is_same a = grind (arith, nat_tests)

-- what holds of each element holds of that at a place
at_place : {X : Type 0} (P : X → Type 0) (xs : List X) (j : ℕ) (x : X) → All P xs → slice_get xs j ≡ Some x → P x
at_place P xs j x h s = subst P (get_or_from_slice_get xs j x x s) (All-get_or P xs j x (slice_get_within xs j x s) h)

-- a number below the length has an element
there : (slots : List Candidate) (n : ℕ) → n < length slots → (c : Candidate) × (slice_get slots n ≡ Some c)
there slots n l = let none : Candidate = record { group = 0; form = form.Field; bits = 0; bytes = 0; count = 0; reason = None } in (get_or slots n none, slice_get-get_or slots n none l)

-- a word that is used has a field
used : (number : ℕ) (words : List Word) (fields : List Field) → are_used number words fields ≡ true → (i : ℕ) (w : Word) → slice_get words i ≡ Some w → list_any (λ (f : Field). f.word == number + i) fields ≡ true
used number [] fields h i w s = let f : None ≡ Some w = s in absurd (cc)
used number (v ∷ words) fields h zero w s =
    let p : number ≡ number + 0 = omega arith in
    subst (λ (k : ℕ). list_any (λ (f : Field). f.word == k) fields ≡ true) p (and_parts (list_any (λ (f : Field). f.word == number) fields) (are_used (number + 1) words fields) h).0
used number (v ∷ words) fields h (suc i) w s =
    let p : number + 1 + i ≡ number + suc i = omega arith in
    subst (λ (k : ℕ). list_any (λ (f : Field). f.word == k) fields ≡ true) p
    (used (number + 1) words fields (and_parts (list_any (λ (f : Field). f.word == number) fields) (are_used (number + 1) words fields) h).1 i w s)

module _ (slots : List Candidate) (plan : Plan) (its : HasItsSlots slots plan) (unbroken : first_illegal slots plan ≡ None) where
  is_legal : IsLegal slots plan
  is_legal = legal slots plan unbroken

  module _ (copies : ℕ → ℕ) where
    -- a word has fewer bytes than the slots in it
    each_word : (i : ℕ) (w : Word) → slice_get plan.words i ≡ Some w → copies w.group * (w.bits / 8 + 1) ≤ sum_at (bytes_of_copies copies slots) (0 + i) plan.fields
    each_word i w s =
        let some = any_passes (λ (f : Field). f.word == 0 + i) plan.fields (used 0 plan.words plan.fields plan.words_are_used i w s) in
        let f = some.1 in
        let z : 0 + i ≡ i = omega arith in
        let at : f.word ≡ i = same f.word (0 + i) some.3 ∙ z in
        let c = there slots f.slot (at_place (λ (f : Field). f.slot < length slots) plan.fields some.0 f its.fields some.2) in
        let seat = is_legal.seated some.0 f c.0 w some.2 c.1 (ap (slice_get plan.words) at ∙ s) in
        let less : w.bits / 8 < bytes_in slots i plan.fields = subst (λ (k : ℕ). w.bits / 8 < bytes_in slots k plan.fields) at seat.saves in
        let step : w.bits / 8 + 1 ≤ bytes_in slots i plan.fields = omega (arith, less) in
        let more : copies w.group * (w.bits / 8 + 1) ≤ copies w.group * bytes_in slots i plan.fields = mul-le-mul_left (copies w.group) step in
        let together = of_one_group copies slots w.group i plan.fields (λ j g at_j in_word. group_at i w s j g at_j in_word) in
        subst (λ (k : ℕ). copies w.group * (w.bits / 8 + 1) ≤ sum_at (bytes_of_copies copies slots) k plan.fields) (sym z)
        (subst (λ (n : ℕ). copies w.group * (w.bits / 8 + 1) ≤ n) (sym together) more)
      where
        group_at : (i : ℕ) (w : Word) → slice_get plan.words i ≡ Some w → (j : ℕ) (g : Field) → slice_get plan.fields j ≡ Some g → g.word ≡ i → group_in slots g.slot ≡ w.group
        group_at i w s j g at_j in_word =
            let c = there slots g.slot (at_place (λ (f : Field). f.slot < length slots) plan.fields j g its.fields at_j) in
            let seat = is_legal.seated j g c.0 w at_j c.1 (ap (slice_get plan.words) in_word ∙ s) in
            ap (λ (o : Option Candidate). option_map_or (λ (c : Candidate). c.group) o 0) c.1 ∙ sym seat.of_group

    pub words_saved : sum_by (λ (w : Word). copies w.group * (w.bits / 8 + 1)) plan.words ≤ sum_by (λ (f : Field). copies (group_in slots f.slot) * bytes_of slots f.slot) plan.fields
    words_saved =
        let a = words_within (bytes_of_copies copies slots) (λ (w : Word). copies w.group * (w.bits / 8 + 1)) 0 plan.words plan.fields each_word in
        let b = all_words (bytes_of_copies copies slots) plan.fields in
        subst (λ (n : ℕ). sum_by (λ (w : Word). copies w.group * (w.bits / 8 + 1)) plan.words ≤ n) b a

  module _ (short : AreShort slots) where
    each_array : (j n : ℕ) → slice_get plan.arrays j ≡ Some n → packed_bytes (bits_of slots n) (count_of slots n) + 1 ≤ count_of slots n * bytes_of slots n
    each_array j n s =
        let c = there slots n (at_place (λ (k : ℕ). k < length slots) plan.arrays j n its.arrays s) in
        let stands : stands_as plan n form.Array ≡ true = any_at (λ (k : ℕ). k == n) plan.arrays j n s (is_same n) in
        let free = is_legal.free n c.0 c.1 (stands_some plan n form.Array stands) in
        let array = is_legal.in_form n c.0 form.Array c.1 stands in
        let packed = (at_place (λ (d : Candidate). d.reason ≡ None → IsShort d) slots n c.0 short c.1 free).packed (sym array) in
        of_candidate n c.0 c.1 (omega (arith, packed))
      where
        of_candidate : (n : ℕ) (c : Candidate) → slice_get slots n ≡ Some c → packed_bytes c.bits c.count + 1 ≤ c.count * c.bytes → packed_bytes (bits_of slots n) (count_of slots n) + 1 ≤ count_of slots n * bytes_of slots n
        of_candidate n c s h =
            subst (λ (o : Option Candidate). packed_bytes (option_map_or (λ (c : Candidate). c.bits) o 0) (option_map_or (λ (c : Candidate). c.count) o 0) + 1 ≤ option_map_or (λ (c : Candidate). c.count) o 0 * option_map_or (λ (c : Candidate). c.bytes) o 0)
            (sym s) h

    sum_within : (f g : ℕ → ℕ) (xs : List ℕ) → ((j n : ℕ) → slice_get xs j ≡ Some n → f n ≤ g n) → sum_by f xs ≤ sum_by g xs
    sum_within f g [] h = omega arith
    sum_within f g (x ∷ xs) h =
        let a = h zero x refl in
        let b = sum_within f g xs (λ j n s. h (suc j) n s) in
        let c = sum_by-cons f x xs in
        let d = sum_by-cons g x xs in
        omega (arith, a, b, c, d)

    pub arrays_saved : sum_by (λ n. packed_bytes (bits_of slots n) (count_of slots n) + 1) plan.arrays ≤ sum_by (λ n. count_of slots n * bytes_of slots n) plan.arrays
    arrays_saved = sum_within (λ n. packed_bytes (bits_of slots n) (count_of slots n) + 1) (λ n. count_of slots n * bytes_of slots n) plan.arrays each_array

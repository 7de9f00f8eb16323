-- A plan has one field of a slot, and each field's word.
use Rattle.std.proofs.Common.{◌≡◌, ◌≤◌, ◌<◌, ◌+◌, ◌∙◌, ◌==◌, nat_le, nat_lt, ℕ, zero, suc, Bool, true, false, cond, List, [], ◌∷◌, length, Some, None, slice_get, ap, sym, arith}
use Rattle.std.proofs.lemmas.Bool.{and_parts}
use Rattle.std.proofs.lemmas.Bool.Decides.{nat_tests}
use Rattle.cc_bins.specs.declared.types.Field.{Field}
use Rattle.cc_bins.specs.declared.types.Word.{Word}
use Rattle.cc_plan_legal.specs.Legality.{field_of}
use Rattle.cc_plan_legal.specs.Plans.{are_in, ascends_from, slots_of}

le_true : (a b : ℕ) → nat_le a b ≡ true → a ≤ b
le_true a b h = grind (arith, nat_tests)

lt_true : (a b : ℕ) → nat_lt a b ≡ true → a < b
lt_true a b h = grind (arith, nat_tests)

eq_false : (a b : ℕ) → a < b → (a == b) ≡ false
eq_false a b h = grind (arith, nat_tests)

eq_same : (a : ℕ) → (a == a) ≡ true
eq_same a = grind (arith, nat_tests)

-- slots of fields are no less than the number from which they ascend
pub no_less : (least : ℕ) (fields : List Field) (j : ℕ) (f : Field) → ascends_from least (slots_of fields) ≡ true → slice_get fields j ≡ Some f → least ≤ f.slot
no_less least [] j f h s = let k : None ≡ Some f = s in absurd (cc)
no_less least (g ∷ fields) zero f h s =
    let k : Some g ≡ Some f = s in
    let e : g.slot ≡ f.slot = cc in
    let l = le_true least g.slot (and_parts (nat_le least g.slot) (ascends_from (g.slot + 1) (slots_of fields)) h).0 in
    omega (arith, e, l)
no_less least (g ∷ fields) (suc j) f h s =
    let parts = and_parts (nat_le least g.slot) (ascends_from (g.slot + 1) (slots_of fields)) h in
    let l = le_true least g.slot parts.0 in
    let m = no_less (g.slot + 1) fields j f parts.1 s in
    omega (arith, l, m)

-- a field is that of its slot
pub its_field : (least : ℕ) (fields : List Field) (j : ℕ) (f : Field) → ascends_from least (slots_of fields) ≡ true → slice_get fields j ≡ Some f → field_of fields f.slot ≡ Some f
its_field least [] j f h s = let k : None ≡ Some f = s in absurd (cc)
its_field least (g ∷ fields) zero f h s =
    let k : Some g ≡ Some f = s in
    let e : g.slot ≡ f.slot = cc in
    let t : (g.slot == f.slot) ≡ true = ap (λ n. g.slot == n) (sym e) ∙ eq_same g.slot in
    ap (λ (b : Bool). cond b (Some g) (field_of fields f.slot)) t ∙ k
its_field least (g ∷ fields) (suc j) f h s =
    let parts = and_parts (nat_le least g.slot) (ascends_from (g.slot + 1) (slots_of fields)) h in
    let m = no_less (g.slot + 1) fields j f parts.1 s in
    let l : g.slot < f.slot = omega (arith, m) in
    ap (λ (b : Bool). cond b (Some g) (field_of fields f.slot)) (eq_false g.slot f.slot l) ∙ its_field (g.slot + 1) fields j f parts.1 s

-- the word of a field is there
pub its_word : (words : List Word) (fields : List Field) (j : ℕ) (f : Field) → are_in words fields ≡ true → slice_get fields j ≡ Some f → f.word < length words
its_word words [] j f h s = let k : None ≡ Some f = s in absurd (cc)
its_word words (g ∷ fields) zero f h s =
    let k : Some g ≡ Some f = s in
    let e : g.word ≡ f.word = cc in
    let l = lt_true g.word (length words) (and_parts (nat_lt g.word (length words)) (are_in words fields) h).0 in
    omega (arith, e, l)
its_word words (g ∷ fields) (suc j) f h s = its_word words fields j f (and_parts (nat_lt g.word (length words)) (are_in words fields) h).1 s

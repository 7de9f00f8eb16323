-- The group of a word has its fields.
use Rattle.std.proofs.Common.{◌≡◌, ◌<◌, ◌≤◌, ◌++◌, ◌∙◌, ◌==◌, ℕ, zero, suc, Bool, true, false, cond, List, [], ◌∷◌, length, get_or, map, set, Option, Some, None, option_map, slice_get, refl, ap, sym, append_assoc, arith}
use Rattle.std.proofs.lemmas.Bool.Decides.{nat_tests}
use Rattle.std.proofs.lemmas.List.{append-nil}
use Rattle.cc_bins.specs.declared.types.Field.{Field}
use Rattle.cc_bins.specs.declared.types.Word.{Word}
use Rattle.cc_plan_legal.specs.declared.groups.Group.{Group}
use Rattle.cc_plan_legal.specs.Lookup.{in_word, no_fields, put_all, put_at}

-- ---- one field is put

pub put_is : (place : ℕ) (f : Field) (gs : List Group) (g : Group) → place < length gs → g ≡ get_or gs place g → set gs place (record { fields = g.fields ++ f ∷ [] }) ≡ put_at place f gs
put_is place f [] g l e = absurd (omega (arith, l))
put_is zero f (h ∷ gs) g l e = ap (λ (k : Group). record { fields = k.fields ++ f ∷ [] } ∷ gs) e
put_is (suc place) f (h ∷ gs) g l e = ap (λ (ks : List Group). h ∷ ks) (put_is place f gs g (omega (arith, l)) e)

pub put_past : (place : ℕ) (f : Field) (gs : List Group) → length gs ≤ place → put_at place f gs ≡ gs
put_past place f [] l = refl
put_past zero f (g ∷ gs) l = absurd (omega (arith, l))
put_past (suc place) f (g ∷ gs) l = ap (λ (ks : List Group). g ∷ ks) (put_past place f gs (omega (arith, l)))

-- ---- all fields are put

-- a group with fields behind its own
abbrev with_all : List Field → Group → Group
with_all fields g = record { fields = g.fields ++ fields }

abbrev only_if : Bool → Field → List Field
only_if true f = f ∷ []
only_if false f = []

next_same : (a b : ℕ) → (suc a == suc b) ≡ (a == b)
next_same a b = grind (arith, nat_tests)

not_next : (a : ℕ) → (zero == suc a) ≡ true → ⊥
not_next a h = grind (arith, nat_tests)

not_none : (a : ℕ) → (suc a == zero) ≡ true → ⊥
not_none a h = grind (arith, nat_tests)

same_groups : (o : Option Group) → o ≡ option_map (with_all []) o
same_groups None = refl
same_groups (Some g) = ap (λ (fs : List Field). Some (record { fields = fs })) (sym (append-nil g.fields))

one_put : (place : ℕ) (f : Field) (gs : List Group) (word : ℕ) (b : Bool) → (place == word) ≡ b → slice_get (put_at place f gs) word ≡ option_map (with_all (only_if b f)) (slice_get gs word)
one_put place f [] word b e = refl
one_put zero f (g ∷ gs) zero true e = refl
one_put zero f (g ∷ gs) zero false e = let k : true ≡ false = e in absurd (cc)
one_put zero f (g ∷ gs) (suc word) true e = absurd (not_next word e)
one_put zero f (g ∷ gs) (suc word) false e = same_groups (slice_get gs word)
one_put (suc place) f (g ∷ gs) zero true e = absurd (not_none place e)
one_put (suc place) f (g ∷ gs) zero false e = same_groups (Some g)
one_put (suc place) f (g ∷ gs) (suc word) b e = one_put place f gs word b (sym (next_same place word) ∙ e)

joined : (f : Field) (xs : List Field) (b : Bool) (o : Option Group) → option_map (with_all xs) (option_map (with_all (only_if b f)) o) ≡ option_map (with_all (cond b (f ∷ xs) xs)) o
joined f xs b None = refl
joined f xs true (Some g) = ap (λ (fs : List Field). Some (record { fields = fs })) (append_assoc g.fields (f ∷ []) xs)
joined f xs false (Some g) = ap (λ (fs : List Field). Some (record { fields = fs ++ xs })) (append-nil g.fields)

all_put : (fields : List Field) (gs : List Group) (word : ℕ) → slice_get (put_all gs fields) word ≡ option_map (with_all (in_word word fields)) (slice_get gs word)
all_put [] gs word = same_groups (slice_get gs word)
all_put (f ∷ fields) gs word =
    all_put fields (put_at f.word f gs) word
    ∙ ap (option_map (with_all (in_word word fields))) (one_put f.word f gs word (f.word == word) refl)
    ∙ joined f (in_word word fields) (f.word == word) (slice_get gs word)

none_yet : (words : List Word) (word : ℕ) → word < length words → slice_get (map (λ (w : Word). no_fields) words) word ≡ Some no_fields
none_yet [] word l = absurd (omega (arith, l))
none_yet (w ∷ words) zero l = refl
none_yet (w ∷ words) (suc word) l = none_yet words word (omega (arith, l))

-- the group of a word has its fields
pub groups_are : (words : List Word) (fields : List Field) (word : ℕ) → word < length words → slice_get (put_all (map (λ (w : Word). no_fields) words) fields) word ≡ Some (record { fields = in_word word fields })
groups_are words fields word l = all_put fields (map (λ (w : Word). no_fields) words) word ∙ ap (option_map (with_all (in_word word fields))) (none_yet words word l)

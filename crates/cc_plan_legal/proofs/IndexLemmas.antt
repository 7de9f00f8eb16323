-- A slot is looked up among the slots of a plan's fields.
use Rattle.std.proofs.Common.{◌≡◌, ◌∙◌, ◌==◌, ◌||◌, ℕ, Bool, true, false, cond, List, [], ◌∷◌, Option, Some, None, option_map, slice_get, refl, ap, sym, arith}
use Rattle.std.specs.List.{list_any}
use Rattle.std.proofs.lemmas.Bool.Decides.{nat_tests}
use Rattle.std.proofs.lemmas.Option.{slice_get-map}
use Rattle.cc_bins.specs.declared.types.Field.{Field}
use Rattle.cc_plan_legal.specs.declared.groups.Group.{Group}
use Rattle.cc_plan_legal.specs.Legality.{field_of, is_among}
use Rattle.cc_plan_legal.specs.Plans.{ascends, slots_of}
use Rattle.cc_plan_legal.proofs.FieldLemmas.{its_field}
use Rattle.cc_plan_legal.proofs.Options.{any_at}

is_same : (a : ℕ) → (a == a) ≡ true
is_same a = grind (arith, nat_tests)

pub among_at : (slots : List ℕ) (slot place : ℕ) → slice_get slots place ≡ Some slot → is_among slots slot ≡ true
among_at slots slot place s = any_at (λ (n : ℕ). n == slot) slots place slot s (is_same slot)

pub among_slots : (fields : List Field) (slot : ℕ) → is_among (slots_of fields) slot ≡ list_any (λ (f : Field). f.slot == slot) fields
among_slots [] slot = refl
among_slots (f ∷ fields) slot = ap (λ (b : Bool). (f.slot == slot) || b) (among_slots fields slot)

neither : (b r : Bool) → b || r ≡ false → (b ≡ false) × (r ≡ false)
neither true r h = let k : true ≡ false = h in absurd (cc)
neither false r h = (refl, h)

pub no_field : (fields : List Field) (slot : ℕ) → is_among (slots_of fields) slot ≡ false → field_of fields slot ≡ None
no_field [] slot h = refl
no_field (f ∷ fields) slot h =
    let parts = neither (f.slot == slot) (is_among (slots_of fields) slot) h in
    ap (λ (b : Bool). cond b (Some f) (field_of fields slot)) parts.0 ∙ no_field fields slot parts.1

from_some : (o : Option Field) (slot : ℕ) → option_map (λ (f : Field). f.slot) o ≡ Some slot → (f : Field) × (o ≡ Some f) × (f.slot ≡ slot)
from_some None slot e = let k : None ≡ Some slot = e in absurd (cc)
from_some (Some f) slot e = let k : Some f.slot ≡ Some slot = e in let m : f.slot ≡ slot = cc in (f, refl, m)

pub found_field : (fields : List Field) (slot place : ℕ) → ascends (slots_of fields) ≡ true → slice_get (slots_of fields) place ≡ Some slot → slice_get fields place ≡ field_of fields slot
found_field fields slot place h s =
    let m = from_some (slice_get fields place) slot (sym (slice_get-map (λ (f : Field). f.slot) fields place) ∙ s) in
    m.1 ∙ sym (its_field 0 fields place m.0 h m.1) ∙ ap (field_of fields) m.2

pub same_fields : (g h : Group) → Some g ≡ Some h → g.fields ≡ h.fields
same_fields g h e = let k : g ≡ h = cc in ap (λ (i : Group). i.fields) k

pub not_there : (g : Group) → None ≡ Some g → ⊥
not_there g e = cc

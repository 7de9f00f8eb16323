-- First values with the numbers of a unit, and back.
use Rattle.std.proofs.Common.{◌≡◌, ◌∙◌, inl, inr, ℕ, true, List, [], ◌∷◌, map, Option, Some, None, slice_get, flat_map, refl, ap, sym, subst}
use Rattle.cc_program.proofs.Each.{Each}
use Rattle.cc_program.specs.declared.func.Func.{Func}
use Rattle.cc_program.specs.declared.program.Program.{Program}
use Rattle.cc_program.specs.declared.types.CType.{CType}
use Rattle.cc_program.specs.declared.value.Address.{Address}
use Rattle.cc_program.specs.declared.value.Address.TheVariants as address
use Rattle.cc_program.specs.declared.value.Leaf.{Leaf}
use Rattle.cc_program.specs.declared.value.Leaf.TheVariants as leaf
use Rattle.cc_program.specs.declared.value.Part.{Part}
use Rattle.cc_program.specs.declared.value.Root.{Root}
use Rattle.cc_program.specs.declared.value.Root.TheVariants as root
use Rattle.cc_shown_declarations.specs.Numbers.{leaf_numbered, address_numbered}
use Rattle.cc_shown_expressions.specs.OperationNumbers.{Numbers}
use Rattle.cc_printed_programs.specs.Returning.{Returns, HoldsOfNames}
use Rattle.cc_printed_programs.proofs.Expressions.{each-append, function-there, mapped-there}
use Rattle.cc_type.specs.CcSyntax.Expressions.{of_one}
use Rattle.cc_type.specs.CcSyntax.Initial.{AreLeaves, OfInteger, OfPointer, OfArray, OfStructure, AreElements, NoElement, Element, AreMembers, NoMember, Member, IsInitial, is_address, static_place, place_at, names}
use Rattle.cc_type.specs.CcSyntax.Operators.{function_type}
use Rattle.cc_type.specs.CcSyntax.Types.{Named}
use Rattle.cc_type.specs.CcSyntax.Values.{ValueType, PlaceType, is_assignable_some, pointer_to}
use Rattle.cc_type.specs.CcSyntax.Views.{of_program}
use Rattle.cc_type.specs.CcUnit.Mentioned.{in_address, in_leaf}
use Rattle.cc_type.specs.CcUnit.Renumbered.{address_renumbered, leaf_renumbered}
use Rattle.cc_type.specs.CcUnit.declared.ids.Ids.{Ids}

module _ (p : Program) (ids : Ids) (n m : Numbers) (returns : Returns p ids n m) (M : ℕ → Type 0) (holds : HoldsOfNames p n M) where
  pub record LeavesCome (ls : List Leaf) : Type 0 where
    pub back : map (leaf_renumbered ids) (map (leaf_numbered n) ls) ≡ map (leaf_numbered m) ls
    pub said : Each M (flat_map in_leaf (map (leaf_numbered n) ls))

  record AddressComes (a : Address) : Type 0 where
    back : address_renumbered ids (address_numbered n a) ≡ address_numbered m a
    said : Each M (in_address (address_numbered n a))

  function-comes : (to : ValueType) (i : ℕ) (o : Option Func) → slice_get p.funcs i ≡ o → is_assignable_some (Some to) (function_type o) ≡ true → AddressComes (address.Func i)
  function-comes to i None e h = absurd (cc)
  function-comes to i (Some f) e h = by (function_type (Some f)) refl h
    where
      by : (t : Option ValueType) → function_type (Some f) ≡ t → is_assignable_some (Some to) t ≡ true → AddressComes (address.Func i)
      by None g k = absurd (cc)
      by (Some t) g k =
          let q = function-there (Some f) t g in
          record { back = ap (λ (j : ℕ). address.Func j) (returns.funcs i f e); said = (holds.funcs i q.0 (e ∙ q.1) q.2, tt) }

  root-there : (to : ValueType) (r : Root) (path : List Part) (index count : ℕ) → names to path index count (of_one (static_place (of_program p) r) (place_at p.structures path)) ≡ true → AddressComes (address.At r path index count)
  root-there to (root.Static i) path index count h = by (static_place (of_program p) (root.Static i)) refl h
    where
      by : (o : Option PlaceType) → static_place (of_program p) (root.Static i) ≡ o → names to path index count (of_one o (place_at p.structures path)) ≡ true → AddressComes (address.At (root.Static i) path index count)
      by None e k = absurd (cc)
      by (Some a) e k =
          let q = mapped-there _ (slice_get p.objects i) a e in
          record { back = ap (λ (j : ℕ). address.At (root.Static j) path index count) (returns.objects i q.0 q.1); said = (holds.objects i q.0 q.1, tt) }
  root-there to (root.Auto activation f local) path index count h = absurd (cc)

  address-comes : (to : ValueType) (a : Address) → is_address (of_program p) to a ≡ true → AddressComes a
  address-comes to address.Null h = record { back = refl; said = tt }
  address-comes to (address.Func i) h = function-comes to i (slice_get p.funcs i) refl h
  address-comes to (address.At r path index count) h = root-there to r path index count h

  mutual
    leaves-come : (t : CType) (leaves rest : List Leaf) → AreLeaves (of_program p) t leaves rest → LeavesCome rest → LeavesCome leaves
    leaves-come _ _ _ (OfInteger t i k rest e h) r = record { back = ap (λ (ls : List Leaf). leaf.Int k ∷ ls) r.back; said = r.said }
    leaves-come _ _ _ (OfPointer t to a rest e h) r =
        let c = address-comes (pointer_to to) a h in
        record {
          back = ap (λ (b : Address). leaf.Place b ∷ map (leaf_renumbered ids) (map (leaf_numbered n) rest)) c.back ∙ ap (λ (ls : List Leaf). leaf.Place (address_numbered m a) ∷ ls) r.back;
          said = each-append M (in_address (address_numbered n a)) (flat_map in_leaf (map (leaf_numbered n) rest)) c.said r.said;
        }
    leaves-come _ _ _ (OfArray t of k leaves rest e h) r = elements-come of k leaves rest h r
    leaves-come _ _ _ (OfStructure t i s leaves rest e f h) r = members-come s.members leaves rest h r

    elements-come : (of : CType) (k : ℕ) (leaves rest : List Leaf) → AreElements (of_program p) of k leaves rest → LeavesCome rest → LeavesCome leaves
    elements-come _ _ _ _ (NoElement of rest) r = r
    elements-come _ _ _ _ (Element of k leaves between rest h g) r = leaves-come of leaves between h (elements-come of k between rest g r)

    members-come : (ms : List Named) (leaves rest : List Leaf) → AreMembers (of_program p) ms leaves rest → LeavesCome rest → LeavesCome leaves
    members-come _ _ _ (NoMember rest) r = r
    members-come _ _ _ (Member x ms leaves between rest h g) r = leaves-come x.1 leaves between h (members-come ms between rest g r)

  pub initial-comes : (t : CType) (leaves : List Leaf) → IsInitial (of_program p) t leaves → LeavesCome leaves
  initial-comes t leaves (inl e) = subst LeavesCome (sym e) (record { back = refl; said = tt })
  initial-comes t leaves (inr h) = leaves-come t leaves [] h.0 (record { back = refl; said = tt })

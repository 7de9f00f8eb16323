-- First values say nothing of devices.
use Rattle.std.proofs.Common.{inl, inr, ℕ, List, [], Option}
use Rattle.cc_program.specs.declared.types.CType.{CType}
use Rattle.cc_program.specs.declared.value.Leaf.{Leaf}
use Rattle.cc_syntax.specs.Initial.{AreLeaves, AreElements, AreMembers, OfInteger, OfPointer, OfArray, OfStructure, NoElement, Element, NoMember, Member, IsInitial}
use Rattle.cc_syntax.specs.Types.{Named}
use Rattle.cc_syntax.specs.Values.{PlaceType}
use Rattle.cc_syntax.specs.Views.{View}
use Rattle.cc_lower_numbers_sound.proofs.Types.{with_devices}

module _ (v : View) (devices : ℕ → Option PlaceType) where
  abbrev w : View
  w = with_devices devices v

  mutual
    leaves_same : (t : CType) (leaves rest : List Leaf) → AreLeaves v t leaves rest → AreLeaves w t leaves rest
    leaves_same _ _ _ (OfInteger t i n rest e h) = OfInteger t i n rest e h
    leaves_same _ _ _ (OfPointer t to a rest e h) = OfPointer t to a rest e h
    leaves_same _ _ _ (OfArray t of n leaves rest e h) = OfArray t of n leaves rest e (elements_same of n leaves rest h)
    leaves_same _ _ _ (OfStructure t i s leaves rest e k h) = OfStructure t i s leaves rest e k (members_same s.members leaves rest h)

    elements_same : (of : CType) (n : ℕ) (leaves rest : List Leaf) → AreElements v of n leaves rest → AreElements w of n leaves rest
    elements_same _ _ _ _ (NoElement of rest) = NoElement of rest
    elements_same _ _ _ _ (Element of n leaves between rest h k) = Element of n leaves between rest (leaves_same of leaves between h) (elements_same of n between rest k)

    members_same : (ms : List Named) (leaves rest : List Leaf) → AreMembers v ms leaves rest → AreMembers w ms leaves rest
    members_same _ _ _ (NoMember rest) = NoMember rest
    members_same _ _ _ (Member m ms leaves between rest h k) = Member m ms leaves between rest (leaves_same m.1 leaves between h) (members_same ms between rest k)

  pub initial_same : (t : CType) (leaves : List Leaf) → IsInitial v t leaves → IsInitial w t leaves
  initial_same t leaves (inl e) = inl e
  initial_same t leaves (inr (h, n)) = inr (leaves_same t leaves [] h, n)

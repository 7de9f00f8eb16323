-- Structures over which the types that may stand in a program have sizes.
use Rattle.std.specs.Prelude.{◌≡◌, ◌≤◌, ℕ, List, Some, slice_get}
use Rattle.std.specs.List.{All}
use Rattle.cc_program.specs.CcNum.declared.target.Target.{Target}
use Rattle.cc_program.specs.declared.types.Structure.{Structure}
use Rattle.cc_syntax.specs.Layout.{HasSmallParts, size_of}
use Rattle.cc_syntax.specs.Types.{Named, IsInOrder, AreShort}

-- a member has at most 2 ^ 32 - 1 bytes, and so has each element and member in it
pub record IsSmallMember (structures : List Structure) (target : Target) (m : Named) : Type 0 where
  pub bytes : size_of m.1 structures target ≤ 4294967295
  pub parts : HasSmallParts m.1 structures target

pub record AreSized (structures : List Structure) (target : Target) : Type 0 where
  pub in_order : IsInOrder structures
  pub short : AreShort structures
  pub small : (i : ℕ) (s : Structure) → slice_get structures i ≡ Some s → All (IsSmallMember structures target) s.members

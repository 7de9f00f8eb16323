-- Whether a step leads to an element, and what stands behind the first leaf of a list, where it fits.
use Rattle.std.specs.Prelude.{Bool, true, false, List, [], ◌∷◌, Option, Some, None, if◌then◌else◌}
use Rattle.cc_program.specs.CcNum.declared.int_type.IntType.{IntType}
use Rattle.cc_program.specs.CcNum.Integers.{is_value_of}
use Rattle.cc_program.specs.declared.program.Program.{Program}
use Rattle.cc_program.specs.declared.value.Leaf.{Leaf}
use Rattle.cc_program.specs.declared.value.Leaf.TheVariants as leaf
use Rattle.cc_program.specs.declared.value.Part.{Part}
use Rattle.cc_program.specs.declared.value.Part.TheVariants as part
use Rattle.cc_typed.specs.CcSyntax.Programs.{is_address}
use Rattle.cc_typed.specs.CcSyntax.Values.{ValueType}

abbrev pub is_index : Option Part → Bool
is_index None = false
is_index (Some (part.Index i)) = true
is_index (Some (part.Member m)) = false

abbrev pub integer_behind : Program → IntType → List Leaf → Option (List Leaf)
integer_behind p t [] = None
integer_behind p t (leaf.Int n ∷ rest) = if is_value_of t p.target n then Some rest else None
integer_behind p t (leaf.Place a ∷ rest) = None

abbrev pub pointer_behind : Program → ValueType → List Leaf → Option (List Leaf)
pointer_behind p to [] = None
pointer_behind p to (leaf.Int n ∷ rest) = None
pointer_behind p to (leaf.Place a ∷ rest) = if is_address p to a then Some rest else None

abbrev pub is_end : Option (List Leaf) → Bool
is_end None = false
is_end (Some []) = true
is_end (Some (l ∷ ls)) = false

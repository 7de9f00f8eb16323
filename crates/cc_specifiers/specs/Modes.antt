-- Modes: the integer type of so many bytes with the sign of int or unsigned int.
use Rattle.std.specs.Prelude.{ℕ, nat_eq, List, [], ◌∷◌, Option, Some, None, find, Ok}
use Rattle.cc_program.specs.CcNum.Integers.{bytes_of}
use Rattle.cc_program.specs.CcNum.declared.int_type.IntType.{IntType}
use Rattle.cc_program.specs.CcNum.declared.int_type.IntType.TheVariants as int
use Rattle.cc_program.specs.CcNum.declared.target.Target.{Target}
use Rattle.cc_operands.specs.Verdicts.{Judged, judge_then, some_or}
use Rattle.cc_operands.specs.declared.rule.Rule.TheVariants as rule
use Rattle.cc_program.specs.declared.types.CType.{CType}
use Rattle.cc_program.specs.declared.types.Shape.{Shape, Int, out-Shape}
use Rattle.cc_program.specs.declared.types.Shape.TheOpen as shape
use Rattle.cc_program.specs.declared.types.Sig.{Sig}
use Rattle.cc_specifiers.specs.declared.attribute.Attribute.{Attribute}
use Rattle.cc_specifiers.specs.declared.attribute.Attribute.TheVariants as attribute
use Rattle.cc_tree.specs.declared.at.At.{At}

abbrev pub with_bytes : Target → ℕ → List IntType → Option IntType
with_bytes target n types = find (λ t. nat_eq (bytes_of t target) n) types

abbrev pub signed_modes : List IntType
signed_modes = int.Int ∷ int.SChar ∷ int.Short ∷ int.Long ∷ int.LongLong ∷ []

abbrev pub unsigned_modes : List IntType
unsigned_modes = int.UInt ∷ int.UChar ∷ int.UShort ∷ int.ULong ∷ int.ULongLong ∷ []

abbrev pub mode_type : Target → ℕ → IntType → Option IntType
mode_type target n int.Int = with_bytes target n signed_modes
mode_type target n int.UInt = with_bytes target n unsigned_modes
mode_type target n _ = None

abbrev pub with_mode : CType → Option IntType → Option CType
with_mode t None = None
with_mode t (Some i) = Some (record { constant = t.constant; volatile = t.volatile; shape = Int i })

abbrev pub moded_by : Target → ℕ → CType → shape.Shape-F Shape CType Sig → Option CType
moded_by target n t (shape.Int i) = with_mode t (mode_type target n i)
moded_by target n t _ = None

abbrev pub moded : Target → Attribute → CType → Judged CType
moded target (attribute.Mode n) t = some_or rule.Attribute (moded_by target n t (out-Shape t.shape))
moded target _ t = Ok t

-- what a typedef with such an attribute names
abbrev pub all_moded : Target → List Attribute → CType → Judged CType
all_moded target [] t = Ok t
all_moded target (m ∷ ms) t = judge_then (moded target m t) (λ u. all_moded target ms u)

-- and with all of these
abbrev pub modes_judged : Target → List (At (List Attribute)) → CType → Judged CType
modes_judged target [] t = Ok t
modes_judged target (ms ∷ rest) t = judge_then (all_moded target ms.node t) (λ u. modes_judged target rest u)

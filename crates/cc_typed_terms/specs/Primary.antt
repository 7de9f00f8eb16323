-- Names, constants and strings (C99 6.4.4, 6.4.5, 6.5.1).
use Rattle.std.specs.Prelude.{ℕ, ◌+◌, pos, Bool, true, false, List, [], ◌∷◌, ◌++◌, map, length, Option, Some, None, is_some, slice_get, Ok, Err, if◌then◌else◌}
use Rattle.std.specs.List.{list_all}
use Rattle.std.specs.Str.{bytes_eq}
use Rattle.cc_scopes.specs.CcLex.declared.token.Suffix.{Suffix}
use Rattle.cc_program.specs.CcNum.declared.int_type.IntType.TheVariants as int
use Rattle.cc_program.specs.CcNum.declared.target.Target.{Target}
use Rattle.cc_program.specs.declared.expr.Intr.{Intr}
use Rattle.cc_program.specs.declared.expr.Intr.TheVariants as intr
use Rattle.cc_program.specs.declared.expr.Place.{Local, Static}
use Rattle.cc_program.specs.declared.expr.Place.{Device as DeviceAt}
use Rattle.cc_program.specs.declared.program.Roles.{Roles}
use Rattle.cc_program.specs.declared.types.CType.{CType}
use Rattle.cc_program.specs.declared.types.Shape.{Shape, Int, Array, out-Shape}
use Rattle.cc_program.specs.declared.types.Shape.TheOpen as shape
use Rattle.cc_program.specs.declared.types.Sig.{Sig}
use Rattle.cc_program.specs.declared.value.Leaf.{Leaf}
use Rattle.cc_program.specs.declared.value.Leaf.TheVariants as leaf
use Rattle.cc_scopes.specs.CcSyntax.Initial.{is_zero}
use Rattle.cc_scopes.specs.CcSyntax.Values.{DevicePlace, object_place}
use Rattle.cc_specifiers.specs.Bounds.{is_bound}
use Rattle.cc_scopes.specs.CcOperands.Qualified.{plain}
use Rattle.cc_designators.specs.Designators.{TypedExpr, IsPlace, IsValue, IsFunction, IsIntrinsic}
use Rattle.cc_scopes.specs.CcOperands.Operands.{integer, character_value, number_type}
use Rattle.cc_scopes.specs.State.{State, Name, designated, with_declared}
use Rattle.cc_scopes.specs.CcOperands.Verdicts.{Judged}
use Rattle.cc_scopes.specs.Verdicts.{Found, whole}
use Rattle.cc_scopes.specs.CcOperands.declared.rule.Rule.TheVariants as rule
use Rattle.cc_scopes.specs.declared.designated.Designated.{Designated}
use Rattle.cc_scopes.specs.declared.designated.Designated.TheVariants as means
use Rattle.cc_scopes.specs.declared.unit.Declared.{Declared}
use Rattle.cc_scopes.specs.CcUnit.declared.unit.Linkage.TheVariants as linkage
use Rattle.cc_scopes.specs.CcUnit.declared.unit.UnitKind.{UnitKind}
use Rattle.cc_scopes.specs.CcUnit.declared.unit.UnitKind.TheVariants as kind

-- ---- names (6.5.1, 2)

-- the intrinsics are in scope everywhere, and nothing else has their names
abbrev pub intrinsic_named : Roles → Name → Option Intr
intrinsic_named roles x =
    if bytes_eq x roles.off then Some intr.Off
    else (if bytes_eq x roles.on then Some intr.On
    else (if bytes_eq x roles.save then Some intr.Save
    else (if bytes_eq x roles.restore then Some intr.Restore else None)))

abbrev pub is_intrinsic : Roles → Name → Bool
is_intrinsic roles x = is_some (intrinsic_named roles x)

abbrev pub function_by : ℕ → shape.Shape-F Shape CType Sig → Judged TypedExpr
function_by i (shape.Func sig) = Ok (IsFunction i sig)
function_by i _ = Err rule.Undeclared

abbrev pub linked_by : ℕ → CType → UnitKind → Judged TypedExpr
linked_by i t (kind.Object leaves) = Ok (IsPlace (Static i) (object_place t))
linked_by i t (kind.Device d) = Ok (IsPlace (DeviceAt i) (DevicePlace d.constant d.int))
linked_by i t (kind.Func entry body) = function_by i (out-Shape t.shape)

abbrev pub linked : ℕ → Option Declared → Judged TypedExpr
linked i None = Err rule.Undeclared
linked i (Some d) = linked_by i d.ctype d.kind

abbrev pub designates : State → Option Designated → Judged TypedExpr
designates s None = Err rule.Undeclared
designates s (Some (means.Linked i)) = linked i (slice_get s.names i)
designates s (Some (means.Automatic n t)) = Ok (IsPlace (Local n) (object_place t))
designates s (Some (means.TypeNamed t)) = Err rule.Undeclared
designates s (Some (means.Enumerator n)) = Ok (IsValue (integer n int.Int))

abbrev pub named_by : ℕ → Name → State → Option Intr → Judged TypedExpr
named_by at x s (Some i) = Ok (IsIntrinsic i at)
named_by at x s None = designates s (designated x s.scopes)

abbrev pub named : Roles → ℕ → Name → State → Judged TypedExpr
named roles at x s = named_by at x s (intrinsic_named roles x)

-- ---- constants

abbrev pub number : Target → ℕ → Suffix → TypedExpr
number target n suffix = IsValue (integer (pos n) (number_type target n suffix))

abbrev pub character : Target → ℕ → TypedExpr
character target byte = IsValue (integer (character_value target byte) int.Int)

-- ---- a string is an object of its own, with elements of type const char and a zero at its end (6.4.5, 5)

abbrev pub char_type : Bool → CType
char_type constant = record { constant = constant; volatile = false; shape = Int int.Char }

abbrev pub chars_type : ℕ → CType
chars_type count = plain (Array (char_type true) count)

abbrev pub string_type : List ℕ → CType
string_type bytes = chars_type (length bytes + 1)

abbrev pub char_leaf : Target → ℕ → Leaf
char_leaf target byte = leaf.Int (character_value target byte)

-- the first values of an object: none where all are zero or null
abbrev pub leaves_or_none : List Leaf → List Leaf
leaves_or_none leaves = if list_all is_zero leaves then [] else leaves

abbrev pub string_object : Target → ℕ → List ℕ → Declared
string_object target at bytes = record {
  name = None;
  linkage = linkage.Internal;
  ctype = string_type bytes;
  first = Some at;
  tentative = false;
  definitions = 1;
  kind = kind.Object (leaves_or_none (map (char_leaf target) bytes ++ leaf.Int (pos 0) ∷ []));
}

abbrev pub string_place : State → List ℕ → TypedExpr
string_place s bytes = IsPlace (Static (length s.names)) (object_place (string_type bytes))

abbrev pub string_found : Target → ℕ → List ℕ → State → Found TypedExpr
string_found target at bytes s = if is_bound (length bytes + 1) then Ok (string_place s bytes, with_declared (string_object target at bytes) s) else whole at s (Err rule.ArrayBound)

-- What the definitions of sound programs and of normal form say of some small cases, by evaluation.
use Rattle.std.proofs.Common.{◌≡◌, pos, true, false, [], ◌∷◌, refl, ap, ◌∙◌, Option, Some, None}
use Rattle.cc_program.specs.CcNum.declared.int_type.IntType.TheVariants as int
use Rattle.cc_program.specs.CcNum.declared.op.BinOp.TheVariants as op
use Rattle.cc_program.specs.CcNum.Promotions.{promoted, usual_of}
use Rattle.cc_program.specs.CcNum.Results.{represented, result_of}
use Rattle.cc_program.specs.declared.types.CType.{CType}
use Rattle.cc_program.specs.declared.types.Shape.{Shape, Pointer}
use Rattle.cc_program.specs.declared.types.Shape.TheOpen as shape
use Rattle.cc_program.specs.declared.types.Shape.TheVariants.{outs-Pointer, outs-Array, outs-Struct}
use Rattle.cc_program.specs.declared.types.Sig.{Sig}
use Rattle.cc_program.specs.declared.value.Part.TheVariants as part
use Rattle.cc_syntax.specs.Examples.{wide, plain, array, struct}
use Rattle.cc_syntax.specs.Folding.{Value, Traps, binary_constant, both_constant}
use Rattle.cc_syntax.specs.Initial.{names_whole}
use Rattle.cc_syntax.specs.Kinds.{Kind, IsScalar, IsIncomplete, shape_kind, qualified_kind, kind_of, is_object_type, extent_with}
use Rattle.cc_syntax.specs.Normal.{next_of}
use Rattle.cc_syntax.specs.Operators.{choice_type, changes_by}
use Rattle.cc_syntax.specs.SameTypes.{same_int}
use Rattle.cc_syntax.specs.Values.{ValueType, NoValue, Integer, PlaceType}
use Rattle.cc_syntax.proofs.KindRolls.{parts_kind, kind-opens}

-- an element is named by its array, and not as an array of one
pub element_by_path : (to : ValueType) (a : PlaceType) → names_whole to (part.Index 3 ∷ []) 0 1 a ≡ false
element_by_path to a = refl

-- types
abbrev kind_at : shape.Shape-F Shape CType Sig → Option Kind
kind_at x = qualified_kind false (shape_kind wide (extent_with [] 1 wide) (parts_kind wide (extent_with [] 1 wide) x))

struct-kind : kind_of wide (extent_with [] 1 wide) (struct 0) ≡ Some IsIncomplete
struct-kind = kind-opens wide (extent_with [] 1 wide) (struct 0) ∙ ap kind_at (outs-Struct 0)

pointer-kind : kind_of wide (extent_with [] 1 wide) (plain (Pointer (struct 0))) ≡ Some (IsScalar false 2)
pointer-kind = kind-opens wide (extent_with [] 1 wide) (plain (Pointer (struct 0))) ∙ ap kind_at (outs-Pointer (struct 0)) ∙ ap (λ k. qualified_kind false (shape_kind wide (extent_with [] 1 wide) (shape.Pointer k))) struct-kind

array-kind : kind_of wide (extent_with [] 1 wide) (array (struct 0) 2) ≡ None
array-kind = kind-opens wide (extent_with [] 1 wide) (array (struct 0) 2) ∙ ap kind_at (outs-Array (struct 0) 2) ∙ ap (λ k. qualified_kind false (shape_kind wide (extent_with [] 1 wide) (shape.Array k 2))) struct-kind

pub pointer_to_own_structure : is_object_type (kind_of wide (extent_with [] 1 wide) (plain (Pointer (struct 0)))) ≡ true
pointer_to_own_structure = ap is_object_type pointer-kind

pub array_of_own_structure : is_object_type (kind_of wide (extent_with [] 1 wide) (array (struct 0) 2)) ≡ false
array_of_own_structure = ap is_object_type array-kind

-- expressions
pub arms_of_two_types : choice_type wide (Integer int.Int) (Integer int.Int) (Integer int.Long) ≡ Some NoValue
unfolding same_int
arms_of_two_types = refl

pub sum_in_long : changes_by wide int.SChar op.Add int.Long (Integer int.Long) ≡ true
unfolding same_int promoted usual_of
sum_in_long = refl

pub sum_in_char : changes_by wide int.SChar op.Add int.SChar (Integer int.SChar) ≡ false
unfolding same_int promoted usual_of
sum_in_char = refl

pub division_traps : binary_constant wide op.Div int.Int (Value (pos 1)) (Value (pos 0)) ≡ Traps
unfolding same_int promoted result_of represented
division_traps = refl

pub division_not_evaluated : both_constant (Value (pos 0)) Traps ≡ Value (pos 0)
division_not_evaluated = refl

-- devices
pub in_order : next_of 0 (0 ∷ 1 ∷ 0 ∷ []) ≡ Some 2
in_order = refl

pub out_of_order : next_of 0 (1 ∷ 0 ∷ []) ≡ None
out_of_order = refl

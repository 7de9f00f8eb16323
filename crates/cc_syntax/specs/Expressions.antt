-- The type of each expression and each place over a view, by its rule in `Operators` and `Values`.
use Rattle.std.specs.Prelude.{List, Option, Some, None, option_map, slice_get}
use Rattle.cc_program.specs.declared.expr.Expr.{Expr, fold-Expr}
use Rattle.cc_program.specs.declared.expr.Expr.TheOpen as one
use Rattle.cc_program.specs.declared.expr.Place.{Place, fold-Place}
use Rattle.cc_program.specs.declared.types.CType.{CType}
use Rattle.cc_program.specs.declared.types.Shape.{out-Shape}
use Rattle.cc_syntax.specs.Kinds.{is_plain_scalar}
use Rattle.cc_syntax.specs.Operators.{constant_type, pointer_in, void_pointer_in, first_of, is_unqualified, when_assignable, unary_type, binary_type, conversion_type, moved_type, gap_type, comparison_type, logical_type, choice_type, assignment_type, change_type, after_type, call_type, intrinsic_type, subscript_type}
use Rattle.cc_syntax.specs.Types.{Named}
use Rattle.cc_syntax.specs.Values.{ValueType, PlaceType, object_place, read_from, written_to, address_of, pointed_to, member_of}
use Rattle.cc_syntax.specs.Views.{View, kind_in}

-- what follows from two that are there
abbrev pub of_two : {A B C : Type 0} → Option A → Option B → (A → B → Option C) → Option C
of_two None b f = None
of_two (Some a) None f = None
of_two (Some a) (Some b) f = f a b

abbrev pub of_one : {A B : Type 0} → Option A → (A → Option B) → Option B
of_one None f = None
of_one (Some a) f = f a

-- a pointer type without qualifiers of its own
abbrev pub pointer_type : View → CType → Option ValueType
pointer_type p t = pointer_in (is_plain_scalar (kind_in p t)) (out-Shape t.shape)

-- a null has a pointer type, or `void *` (6.3.2.3, 3)
abbrev pub null_type : View → CType → Option ValueType
null_type p t = first_of (void_pointer_in (is_unqualified t) (out-Shape t.shape)) (pointer_type p t)

abbrev pub qualified_type : View → CType → ValueType → Option ValueType
qualified_type p t a = when_assignable (pointer_type p t) a

module _ (p : View) (locals : List Named) where
  abbrev pub expr_step : one.Expr-F (Option ValueType) (Option PlaceType) → Option ValueType
  expr_step (one.Const n t) = constant_type p.target n t
  expr_step (one.Null t) = null_type p t
  expr_step (one.FuncAddr f) = p.functions f
  expr_step (one.Load a) = of_one a read_from
  expr_step (one.AddrOf a) = of_one a address_of
  expr_step (one.Un o t a) = of_one a (unary_type p.target o t)
  expr_step (one.Bin o t a b) = of_two a b (binary_type p.target o t)
  expr_step (one.Conv t a) = of_one a (conversion_type t)
  expr_step (one.Qualify t a) = of_one a (qualified_type p t)
  expr_step (one.Move a b back) = of_two a b (moved_type p.structures)
  expr_step (one.Gap a b) = of_two a b (gap_type p.structures p.target)
  expr_step (one.Compare o a b) = of_two a b (comparison_type o)
  expr_step (one.Both a b) = of_two a b logical_type
  expr_step (one.Either a b) = of_two a b logical_type
  expr_step (one.Choose c a b) = of_one c (λ c. of_two a b (choice_type p.target c))
  expr_step (one.Assign a e) = of_two (of_one a written_to) e assignment_type
  expr_step (one.Change a o t e) = of_two (of_one a written_to) e (change_type p.structures p.target o t)
  expr_step (one.After a down) = of_one (of_one a written_to) (after_type p.structures)
  expr_step (one.Call f args) = of_one f (λ f. call_type f args)
  expr_step (one.Intr i a) = intrinsic_type i a
  expr_step (one.Seq a b) = of_two a b (λ a b. Some b)

  abbrev pub place_step : one.Place-F (Option ValueType) (Option PlaceType) → Option PlaceType
  place_step (one.Local r) = option_map (λ l. object_place l.1) (slice_get locals r)
  place_step (one.Static i) = p.statics i
  place_step (one.Device d) = p.devices d
  place_step (one.Element a i) = of_two a i subscript_type
  place_step (one.Member a m) = of_one a (member_of p.structures m)
  place_step (one.Deref e) = of_one e pointed_to

  -- of an expression in a function with these locals; None where a rule is broken in it
  unfoldable pub type_of : Expr → Option ValueType
  type_of e = fold-Expr (Option ValueType) (Option PlaceType) expr_step place_step e

  unfoldable pub place_type : Place → Option PlaceType
  place_type a = fold-Place (Option ValueType) (Option PlaceType) expr_step place_step a

-- What names stand for is typed: locals, static objects, devices and functions.
use Rattle.std.proofs.Common.{◌≡◌, ℕ, true, false, List, Some, option_map, refl, ap, ◌∙◌}
use Rattle.std.specs.Prelude.{slice_get}
use Rattle.cc_program.specs.declared.expr.Expr.{FuncAddr}
use Rattle.cc_program.specs.declared.expr.Expr.TheOpen as one
use Rattle.cc_program.specs.declared.expr.Expr.TheVariants.{rolls-FuncAddr}
use Rattle.cc_program.specs.declared.expr.Place.{Local, Static, Device as DeviceAt}
use Rattle.cc_program.specs.declared.expr.Place.TheVariants.{rolls-Local, rolls-Static, rolls-Device}
use Rattle.cc_operands.specs.CcSyntax.Types.{Named}
use Rattle.cc_operands.specs.CcSyntax.Values.{ValueType, PlaceType, object_place}
use Rattle.cc_operand_types.specs.Typed.{SamePlace, is_pointed_kind, stands, place_stands, HasType, IsTypedPlace}
use Rattle.cc_operand_types.proofs.Operands.{exact}
use Rattle.cc_operand_types.proofs.Rolls.{expr-roll, place-roll}
use Rattle.cc_operands.specs.CcSyntax.Views.{View, kind_in}

module _ (p : View) (locals : List Named) where
  pub local_typed : (r : ℕ) (l : Named) → slice_get locals r ≡ Some l → is_pointed_kind false (kind_in p l.1) ≡ true → IsTypedPlace p locals (Local r) (object_place l.1)
  local_typed r l e h = record {
    own = object_place l.1;
    typed = place-roll p locals (Local r) (one.Local r) (rolls-Local r) ∙ ap (option_map (λ (l : Named). object_place l.1)) e;
    agrees = SamePlace (object_place l.1);
    standing = h;
  }

  pub static_typed : (i : ℕ) (t : PlaceType) → p.statics i ≡ Some t → place_stands p t ≡ true → IsTypedPlace p locals (Static i) t
  static_typed i t e h = record { own = t; typed = place-roll p locals (Static i) (one.Static i) (rolls-Static i) ∙ e; agrees = SamePlace t; standing = h }

  pub device_typed : (i : ℕ) (t : PlaceType) → p.devices i ≡ Some t → place_stands p t ≡ true → IsTypedPlace p locals (DeviceAt i) t
  device_typed i t e h = record { own = t; typed = place-roll p locals (DeviceAt i) (one.Device i) (rolls-Device i) ∙ e; agrees = SamePlace t; standing = h }

  pub function_typed : (i : ℕ) (t : ValueType) → p.functions i ≡ Some t → stands p t ≡ true → HasType p locals (FuncAddr i) t
  function_typed i t e h = exact p locals (FuncAddr i) t (expr-roll p locals (FuncAddr i) (one.FuncAddr i) (rolls-FuncAddr i) ∙ e) h

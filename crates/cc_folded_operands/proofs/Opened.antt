-- Folding, opened at the outermost operator of an expression; and operands of expressions that are folded.
use Rattle.std.proofs.Common.{◌≡◌, ℕ, ℤ, Bool, true, refl, ap, sym, ◌∙◌}
use Rattle.cc_program.specs.CcNum.declared.int_type.IntType.{IntType}
use Rattle.cc_program.specs.CcNum.declared.target.Target.{Target}
use Rattle.cc_operands.specs.Operands.{Operand, operand, integer, constant_at, folded}
use Rattle.cc_program.specs.declared.expr.Expr.{Expr, Const, Null, FuncAddr, Load, AddrOf, roll-Expr, out-Expr, out-roll-Expr, map-Expr, fold-roll-Expr}
use Rattle.cc_program.specs.declared.expr.Expr.TheOpen as one
use Rattle.cc_program.specs.declared.expr.Expr.TheVariants.{rolls-Const, rolls-Null, rolls-FuncAddr, rolls-Load, rolls-AddrOf}
use Rattle.cc_program.specs.declared.expr.Place.{Place, Local, Static, Device, Element, Member, Deref, roll-Place, map-Place, fold-roll-Place}
use Rattle.cc_program.specs.declared.expr.Place.TheVariants.{rolls-Local, rolls-Static, rolls-Device, rolls-Element, rolls-Member, rolls-Deref}
use Rattle.cc_program.specs.declared.types.CType.{CType}
use Rattle.cc_operands.specs.CcSyntax.Folding.{Constant, NoConstant, Value, Traps, Folding, operation, variable, folding_step, place_folding_step, folding_of, is_folded, is_folded_place}
use Rattle.cc_operands.specs.CcSyntax.Values.{ValueType}
use Rattle.cc_folded_operands.specs.Folded.{IsFoldedOperand}
use Rattle.cc_folded_operands.proofs.Verdicts.{both}

module _ (target : Target) where
  abbrev pub folding_at : one.Expr-F Expr Place → Folding
  folding_at x = folding_step target (map-Expr Expr Place Folding Bool (folding_of target) (is_folded_place target) x)

  abbrev pub place_folding_at : one.Place-F Expr Place → Bool
  place_folding_at x = place_folding_step target (map-Place Expr Place Folding Bool (folding_of target) (is_folded_place target) x)

  folding-roll : (x : one.Expr-F Expr Place) → folding_of target (roll-Expr x) ≡ folding_at x
  unfolding folding_of is_folded_place
  folding-roll x = fold-roll-Expr Folding Bool (folding_step target) (place_folding_step target) x

  place-folding-roll : (x : one.Place-F Expr Place) → is_folded_place target (roll-Place x) ≡ place_folding_at x
  unfolding folding_of is_folded_place
  place-folding-roll x = fold-roll-Place Folding Bool (folding_step target) (place_folding_step target) x

  pub folding_is : (e : Expr) (x : one.Expr-F Expr Place) → roll-Expr x ≡ e → folding_of target e ≡ folding_at x
  folding_is e x r = ap (folding_of target) (sym r) ∙ folding-roll x

  pub place_folding_is : (a : Place) (x : one.Place-F Expr Place) → roll-Place x ≡ a → is_folded_place target a ≡ place_folding_at x
  place_folding_is a x r = ap (is_folded_place target) (sym r) ∙ place-folding-roll x

  pub constant_is : (e : Expr) (x : one.Expr-F Expr Place) → roll-Expr x ≡ e → constant_at (out-Expr e) ≡ constant_at x
  constant_is e x r = ap (λ (z : Expr). constant_at (out-Expr z)) (sym r) ∙ ap constant_at (out-roll-Expr x)

  -- ---- operands

  abbrev pub Folded : Operand → Type 0
  Folded x = IsFoldedOperand target x

  -- an expression that is folded, is no integer constant expression, and no constant
  pub record IsVariable (e : Expr) : Type 0 where
    pub folding : folding_of target e ≡ variable true
    pub constant : constant_at (out-Expr e) ≡ NoConstant

  pub variable_at : (e : Expr) (x : one.Expr-F Expr Place) → roll-Expr x ≡ e → constant_at x ≡ NoConstant → folding_at x ≡ variable true → IsVariable e
  variable_at e x r k h = record { folding = folding_is e x r ∙ h; constant = constant_is e x r ∙ k }

  pub is_variable_folded : (e : Expr) → IsVariable e → is_folded target e ≡ true
  is_variable_folded e h = ap (λ (z : Folding). z.is_folded) h.folding

  pub variable_operand : (e : Expr) (t : ValueType) → IsVariable e → Folded (operand e t)
  variable_operand e t h = record { folded = is_variable_folded e h; constant = ap (λ (z : Folding). z.constant) h.folding ∙ sym h.constant; no_pointer = λ p. h.constant }

  pub constant_operand : (n : ℤ) (t : IntType) → Folded (integer n t)
  constant_operand n t = record {
    folded = ap (λ (z : Folding). z.is_folded) (folding_is (Const n t) (one.Const n t) (rolls-Const n t));
    constant = ap (λ (z : Folding). z.constant) (folding_is (Const n t) (one.Const n t) (rolls-Const n t)) ∙ sym (constant_is (Const n t) (one.Const n t) (rolls-Const n t));
    no_pointer = λ p. absurd (cc);
  }

  pub operation_operand : (t : IntType) (c : Constant) (e : Expr) → folding_of target e ≡ operation c true → constant_at (out-Expr e) ≡ NoConstant → Folded (folded t c e)
  operation_operand t NoConstant e h k = record { folded = ap (λ (z : Folding). z.is_folded) h; constant = ap (λ (z : Folding). z.constant) h ∙ sym k; no_pointer = λ p. absurd (cc) }
  operation_operand t (Value n) e h k = constant_operand n t
  operation_operand t Traps e h k = record { folded = ap (λ (z : Folding). z.is_folded) h; constant = ap (λ (z : Folding). z.constant) h; no_pointer = λ p. absurd (cc) }

  -- ---- leaves, reads and addresses

  pub null_variable : (t : CType) → IsVariable (Null t)
  null_variable t = variable_at (Null t) (one.Null t) (rolls-Null t) refl refl

  pub function_variable : (f : ℕ) → IsVariable (FuncAddr f)
  function_variable f = variable_at (FuncAddr f) (one.FuncAddr f) (rolls-FuncAddr f) refl refl

  pub load_variable : (a : Place) → is_folded_place target a ≡ true → IsVariable (Load a)
  load_variable a h = variable_at (Load a) (one.Load a) (rolls-Load a) refl (ap variable h)

  pub address_variable : (a : Place) → is_folded_place target a ≡ true → IsVariable (AddrOf a)
  address_variable a h = variable_at (AddrOf a) (one.AddrOf a) (rolls-AddrOf a) refl (ap variable h)

  -- ---- places

  pub local_folded : (n : ℕ) → is_folded_place target (Local n) ≡ true
  local_folded n = place_folding_is (Local n) (one.Local n) (rolls-Local n)

  pub static_folded : (i : ℕ) → is_folded_place target (Static i) ≡ true
  static_folded i = place_folding_is (Static i) (one.Static i) (rolls-Static i)

  pub device_folded : (i : ℕ) → is_folded_place target (Device i) ≡ true
  device_folded i = place_folding_is (Device i) (one.Device i) (rolls-Device i)

  pub element_folded : (a : Place) (e : Expr) → is_folded_place target a ≡ true → is_folded target e ≡ true → is_folded_place target (Element a e) ≡ true
  element_folded a e h k = place_folding_is (Element a e) (one.Element a e) (rolls-Element a e) ∙ both (is_folded_place target a) (is_folded target e) h k

  pub member_folded : (a : Place) (m : ℕ) → is_folded_place target a ≡ true → is_folded_place target (Member a m) ≡ true
  member_folded a m h = place_folding_is (Member a m) (one.Member a m) (rolls-Member a m) ∙ h

  pub pointed_folded : (e : Expr) → is_folded target e ≡ true → is_folded_place target (Deref e) ≡ true
  pointed_folded e h = place_folding_is (Deref e) (one.Deref e) (rolls-Deref e) ∙ h

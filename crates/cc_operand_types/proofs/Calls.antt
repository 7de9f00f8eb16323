-- Calls of functions and of intrinsics are typed.
use Rattle.std.proofs.Common.{◌≡◌, Bool, true, List, [], ◌∷◌, map, Option, Some, None, Ok, refl, ap, sym, ◌∙◌, subst}
use Rattle.std.specs.Prelude.{length, if◌then◌else◌}
use Rattle.std.specs.List.{list_all}
use Rattle.cc_program.specs.declared.expr.Expr.{Expr, Call}
use Rattle.cc_program.specs.declared.types.CType.{CType}
use Rattle.cc_program.specs.declared.types.Sig.{Sig, out-Sig}
use Rattle.cc_program.proofs.Each.{Each}
use Rattle.cc_operands.specs.Operands.{Operand, operand}
use Rattle.cc_operands.specs.Verdicts.{judge_then}
use Rattle.cc_designators.specs.Calls.{result_of, passed_to, passed, called_with, called_by, called}
use Rattle.cc_operands.specs.CcSyntax.Kinds.{is_plain_scalar, kind_of, is_sig}
use Rattle.cc_operands.specs.CcSyntax.Types.{Named}
use Rattle.cc_operands.specs.CcSyntax.Values.{ValueType, NoValue, Integer, ToObject, ToFunction, scalar_value, result_value, is_assignable_some, are_assignable}
use Rattle.cc_operands.proofs.CcSyntax.Prefixes.{both_true}
use Rattle.cc_operand_types.specs.Typed.{stands, IsTypedOperand, Void}
use Rattle.cc_operand_types.proofs.Agreement.{function_agrees}
use Rattle.cc_operand_types.proofs.Operands.{ok_is, value_ok, value_as, exact, as_operand}
use Rattle.cc_operand_types.proofs.Rolls.{type-Call}
use Rattle.cc_operands.proofs.CcSyntax.SameLemmas.{and_true}
use Rattle.cc_operand_types.proofs.Standing.{scalar_stands, result_stands, params_stand, plain_pointed}
use Rattle.cc_operand_types.proofs.Stores.{then_ok, assigned_typed}
use Rattle.cc_operands.specs.CcSyntax.Views.{View, kind_in}
use Rattle.cc_operands.specs.CcSyntax.Expressions.{type_of}

module _ (p : View) (locals : List Named) where
  abbrev Typed : Operand → Type 0
  Typed x = IsTypedOperand p locals x

  abbrev AreTyped : List Operand → Type 0
  AreTyped xs = Each Typed xs

  passed_one : (t : CType) (o : Option ValueType) (x y : Operand) → scalar_value t ≡ o → is_plain_scalar (kind_in p t) ≡ true → Typed x → passed_to p.target t x o ≡ Ok y → is_assignable_some (scalar_value t) (type_of p locals y.value) ≡ true
  passed_one t None x y e k hx h = absurd (cc)
  passed_one t (Some to) x y e k hx h =
      let a = assigned_typed p locals to x y (scalar_stands p true t to (plain_pointed p (kind_in p t) k) e) hx h in
      ap (λ (o : Option ValueType). is_assignable_some o (type_of p locals y.value)) e ∙ ap (is_assignable_some (Some to)) a.typed ∙ a.assignable

  passed_typed : (ts : List CType) (xs : List Operand) (args : List Expr) → list_all is_plain_scalar (map (kind_of p.target p.extents) ts) ≡ true → AreTyped xs → passed p.target ts xs ≡ Ok args →
      are_assignable ts (map (type_of p locals) args) ≡ true
  passed_typed [] [] args k hx h = ap (λ (es : List Expr). are_assignable [] (map (type_of p locals) es)) (sym (ok_is h))
  passed_typed [] (x ∷ xs) args k hx h = absurd (cc)
  passed_typed (t ∷ ts) [] args k hx h = absurd (cc)
  passed_typed (t ∷ ts) (x ∷ xs) args k hx h =
      let g = then_ok (passed_to p.target t x (scalar_value t)) (λ y. judge_then (passed p.target ts xs) (λ ys. Ok (y.value ∷ ys))) args h in
      let f = then_ok (passed p.target ts xs) (λ ys. Ok (g.0.value ∷ ys)) args g.2 in
      let b = both_true (is_plain_scalar (kind_in p t)) (list_all is_plain_scalar (map (kind_of p.target p.extents) ts)) k in
      subst (λ (es : List Expr). are_assignable (t ∷ ts) (map (type_of p locals) es) ≡ true) (ok_is f.2)
      (and_true (is_assignable_some (scalar_value t) (type_of p locals g.0.value)) (are_assignable ts (map (type_of p locals) f.0)) (passed_one t (scalar_value t) x g.0 refl b.0 hx.0 g.1) (passed_typed ts xs f.0 b.1 hx.1 f.1))

  -- ---- what a call gives

  gives_by : (e : Expr) (t : ValueType) → type_of p locals e ≡ Some t → stands p t ≡ true → Typed (operand e t)
  gives_by e NoValue h s = Void (operand e NoValue) NoValue refl refl h
  gives_by e (Integer i) h s = as_operand p locals e (Integer i) refl (exact p locals e (Integer i) h s)
  gives_by e (ToObject c v t) h s = as_operand p locals e (ToObject c v t) refl (exact p locals e (ToObject c v t) h s)
  gives_by e (ToFunction f) h s = as_operand p locals e (ToFunction f) refl (exact p locals e (ToFunction f) h s)

  result_typed : (e : Expr) (o : Option ValueType) (r : Operand) → type_of p locals e ≡ o → ((t : ValueType) → o ≡ Some t → stands p t ≡ true) → result_of e o ≡ Ok r → Typed r
  result_typed e None r k s h = absurd (cc)
  result_typed e (Some t) r k s h = subst Typed (ok_is h) (gives_by e t k (s t refl))

  pub with_typed : (call : List Expr → Expr) (sig : Sig) (xs : List Operand) (r : Operand) → is_sig p.target p.extents sig ≡ true → AreTyped xs →
      ((args : List Expr) → are_assignable (out-Sig sig).params (map (type_of p locals) args) ≡ true → type_of p locals (call args) ≡ result_value (out-Sig sig).result) → called_with p.target call sig xs ≡ Ok r → Typed r
  with_typed call sig xs r s hx k h =
      let g = then_ok (passed p.target (out-Sig sig).params xs) (λ args. result_of (call args) (result_value (out-Sig sig).result)) r h in
      result_typed (call g.0) (result_value (out-Sig sig).result) r (k g.0 (passed_typed (out-Sig sig).params xs g.0 (params_stand p sig s) hx g.1)) (λ t e. result_stands p sig t s e) g.2

  function_typed : (f : Operand) (sig : Sig) (xs : List Operand) (r : Operand) → Typed f → f.type ≡ ToFunction sig → AreTyped xs → called_with p.target (Call f.value) sig xs ≡ Ok r → Typed r
  function_typed f sig xs r hf e hx h =
      let v = value_as p locals f (ToFunction sig) hf e refl in
      let own : v.own ≡ ToFunction sig = function_agrees v.own (ToFunction sig) sig v.agrees refl in
      with_typed (Call f.value) sig xs r v.standing hx
      (λ args a. type-Call p locals f.value args (ToFunction sig) (result_value (out-Sig sig).result) (v.typed ∙ ap (λ (t : ValueType). Some t) own) (ap (λ (b : Bool). if b then result_value (out-Sig sig).result else None) a)) h

  by_typed : (f : Operand) (t : ValueType) (xs : List Operand) (r : Operand) → Typed f → f.type ≡ t → AreTyped xs → called_by p.target f.value t xs ≡ Ok r → Typed r
  by_typed f (ToFunction sig) xs r hf e hx h = function_typed f sig xs r hf e hx h
  by_typed f NoValue xs r hf e hx h = absurd (cc)
  by_typed f (Integer i) xs r hf e hx h = absurd (cc)
  by_typed f (ToObject c v t) xs r hf e hx h = absurd (cc)

  pub called_typed : (f : Operand) (xs : List Operand) (r : Operand) → Typed f → AreTyped xs → called p.target f xs ≡ Ok r → Typed r
  called_typed f xs r hf hx h = by_typed f f.type xs r hf refl hx (value_ok f _ r h).1

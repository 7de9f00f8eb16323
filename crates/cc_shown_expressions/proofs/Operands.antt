-- Operands that are expressions of a program: what they are as constants, when they are null constants, and what rules make
-- that is such an operand again.
use Rattle.std.proofs.Common.{◌≡◌, Bool, true, false, ◌&&◌, ◌||◌, refl, ap, sym, ◌∙◌}
use Rattle.std.specs.Prelude.{ℤ, if◌then◌else◌}
use Rattle.cc_program.specs.CcNum.declared.int_type.IntType.{IntType}
use Rattle.cc_terms.specs.CcOperands.Operands.{Operand, operand, constant_at, constancy, folded, is_to_void, is_null_at, is_zero_constant, is_null_constant, null_of}
use Rattle.cc_terms.specs.CcOperands.Qualified.{plain, qualified_as, instead}
use Rattle.cc_program.specs.declared.expr.Expr.{Expr, Null, out-Expr}
use Rattle.cc_program.specs.declared.expr.Expr.TheOpen as one
use Rattle.cc_program.specs.declared.program.Program.{Program}
use Rattle.cc_program.specs.declared.types.CType.{CType}
use Rattle.cc_program.specs.declared.types.Shape.{Pointer, out-Shape}
use Rattle.cc_program.specs.declared.types.Shape.TheOpen as shape
use Rattle.cc_program.specs.declared.types.Shape.TheVariants.{outs-Pointer}
use Rattle.cc_terms.specs.CcSyntax.Folding.{Constant, NoConstant, Value, Traps, has_value, constant_of, is_folded}
use Rattle.cc_terms.specs.CcSyntax.Values.{ValueType, NoValue, Integer, ToObject, ToFunction}
use Rattle.cc_shown_expressions.specs.OperationNumbers.{Numbers, expr_numbered}
use Rattle.cc_shown_expressions.specs.Typed.{is_trap, operand_of}
use Rattle.cc_shown_expressions.proofs.Levels.{expr-at, value-is, none-is, constant-numbered, null-numbered}
use Rattle.cc_shown_expressions.specs.Numbers.{type_numbered, value_numbered}
use Rattle.cc_shown_expressions.proofs.Bases.{opens-as, type-of-fields, shape-of-level}
use Rattle.cc_shown_expressions.proofs.Kept.{void-numbered}
use Rattle.cc_shown_expressions.proofs.Numbering.{level-at, constant-kept, volatile-kept}

module _ (p : Program) (n : Numbers) where
  abbrev as_operand : Expr → ValueType → Operand
  as_operand e v = operand_of p n e v

  -- ---- as a constant

  constancy-by : (e : Expr) (v : ValueType) (c : Constant) → constant_of p.target e ≡ c → is_folded p.target e ≡ true → constancy (as_operand e v) ≡ c
  constancy-by e v NoConstant h k =
      ap (λ (d : Constant). if is_trap d then Traps else constant_at (out-Expr (expr_numbered n e))) h ∙ constant-numbered n e ∙ none-is p.target e h
  constancy-by e v (Value m) h k =
      ap (λ (d : Constant). if is_trap d then Traps else constant_at (out-Expr (expr_numbered n e))) h ∙ constant-numbered n e ∙ value-is p.target e m k h
  constancy-by e v Traps h k = ap (λ (d : Constant). if is_trap d then Traps else constant_at (out-Expr (expr_numbered n e))) h

  pub constancy-is : (e : Expr) (v : ValueType) → is_folded p.target e ≡ true → constancy (as_operand e v) ≡ constant_of p.target e
  constancy-is e v h = constancy-by e v (constant_of p.target e) refl h

  -- ---- what rules make

  record-is : (e y : Expr) (t : ValueType) (c : Constant) (b : Bool) → constant_of p.target e ≡ c → is_trap c ≡ b → expr_numbered n e ≡ y →
      record { value = y; type = value_numbered n.structure t; traps = b; structure = false } ≡ as_operand e t
  record-is e y t c b h k g =
      ap (λ (z : Expr). record { value = z; type = value_numbered n.structure t; traps = b; structure = false }) (sym g)
      ∙ ap (λ (d : Bool). record { value = expr_numbered n e; type = value_numbered n.structure t; traps = d; structure = false }) (sym (ap is_trap h ∙ k))

  pub folded-operand : (e y : Expr) (t : IntType) (c : Constant) → constant_of p.target e ≡ c → has_value c ≡ false → expr_numbered n e ≡ y → folded t c y ≡ as_operand e (Integer t)
  folded-operand e y t NoConstant h k g = record-is e y (Integer t) NoConstant false h refl g
  folded-operand e y t (Value m) h k g = absurd (cc)
  folded-operand e y t Traps h k g = record-is e y (Integer t) Traps true h refl g

  pub plain-operand : (e y : Expr) (t : ValueType) → constant_of p.target e ≡ NoConstant → expr_numbered n e ≡ y → operand y (value_numbered n.structure t) ≡ as_operand e t
  plain-operand e y t h g = record-is e y t NoConstant false h refl g

  pub constant-operand : (e y : Expr) (t : IntType) (m : ℤ) → constant_of p.target e ≡ Value m → expr_numbered n e ≡ y → operand y (Integer t) ≡ as_operand e (Integer t)
  constant-operand e y t m h g = record-is e y (Integer t) (Value m) false h refl g

  -- ---- null constants

  pub to-void : (v : ValueType) → is_to_void (value_numbered n.structure v) ≡ is_to_void v
  to-void NoValue = refl
  to-void (Integer t) = refl
  to-void (ToObject c v t) = void-numbered n.structure t
  to-void (ToFunction s) = refl

  -- of what is no number
  pub null-constant : (e : Expr) (v : ValueType) → is_folded p.target e ≡ true → constant_of p.target e ≡ NoConstant → is_null_constant (as_operand e v) ≡ (is_to_void v && is_null_at (out-Expr e))
  null-constant e v h k =
      ap (λ (c : Constant). is_zero_constant c || (is_to_void (value_numbered n.structure v) && is_null_at (out-Expr (expr_numbered n e)))) (constancy-is e v h ∙ k)
      ∙ ap (λ (b : Bool). b && is_null_at (out-Expr (expr_numbered n e))) (to-void v) ∙ ap (λ (b : Bool). is_to_void v && b) (null-numbered n e)

  pub no-null : (e : Expr) (v : ValueType) → is_folded p.target e ≡ true → constant_of p.target e ≡ NoConstant → is_to_void v ≡ false → is_null_constant (as_operand e v) ≡ false
  no-null e v h k g = null-constant e v h k ∙ ap (λ (b : Bool). b && is_null_at (out-Expr e)) g

  -- ---- nulls of pointers to void are one

  void-pointer : (t to u : CType) → t.constant ≡ false → t.volatile ≡ false → out-Shape t.shape ≡ shape.Pointer to → to.constant ≡ false → to.volatile ≡ false → out-Shape to.shape ≡ shape.Void → out-Shape u.shape ≡ shape.Void →
      type_numbered n.structure t ≡ plain (Pointer (qualified_as false false (type_numbered n.structure u)))
  void-pointer t to u tc tv e oc ov o w =
      let number = n.structure in
      let inner : qualified_as false false (type_numbered number u) ≡ instead false false (type_numbered number u) = opens-as (instead false false) (type_numbered number u) shape.Void (level-at number u shape.Void w) in
      let target : type_numbered number to ≡ instead false false (type_numbered number u) =
      type-of-fields (type_numbered number to) (instead false false (type_numbered number u)) (constant-kept number to ∙ oc) (volatile-kept number to ∙ ov)
      (shape-of-level (type_numbered number to).shape (type_numbered number u).shape (level-at number to shape.Void o ∙ sym (level-at number u shape.Void w))) in
      type-of-fields (type_numbered number t) (plain (Pointer (qualified_as false false (type_numbered number u)))) (constant-kept number t ∙ tc) (volatile-kept number t ∙ tv)
      (shape-of-level (type_numbered number t).shape (Pointer (qualified_as false false (type_numbered number u)))
      (level-at number t (shape.Pointer to) e ∙ ap (λ (x : CType). shape.Pointer x) (target ∙ sym inner) ∙ sym (outs-Pointer (qualified_as false false (type_numbered number u)))))

  pub void-null : (e : Expr) (t to u : CType) → out-Expr e ≡ one.Null t → t.constant ≡ false → t.volatile ≡ false → out-Shape t.shape ≡ shape.Pointer to → to.constant ≡ false → to.volatile ≡ false → out-Shape to.shape ≡ shape.Void → out-Shape u.shape ≡ shape.Void →
      expr_numbered n e ≡ null_of (ToObject false false (type_numbered n.structure u))
  void-null e t to u h tc tv k oc ov o w = expr-at n e (one.Null t) h ∙ ap (λ (x : CType). Null x) (void-pointer t to u tc tv k oc ov o w)

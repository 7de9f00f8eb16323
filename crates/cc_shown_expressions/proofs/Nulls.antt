-- A null constant among operands of a program is a null of a pointer to plain void; what it is compared with is one too.
use Rattle.std.proofs.Common.{◌≡◌, Bool, true, false, refl, ap, sym, ◌∙◌}
use Rattle.cc_terms.specs.CcOperands.Operands.{is_pointer, is_to_void, is_null_at, is_null_constant, null_of}
use Rattle.cc_program.specs.declared.expr.Expr.{Expr, out-Expr}
use Rattle.cc_program.specs.declared.expr.Expr.TheOpen as one
use Rattle.cc_program.specs.declared.expr.Place.{Place}
use Rattle.cc_program.specs.declared.func.Func.{Func}
use Rattle.cc_program.specs.declared.program.Program.{Program}
use Rattle.cc_program.specs.declared.types.CType.{CType}
use Rattle.cc_program.specs.declared.types.Shape.{Shape, out-Shape}
use Rattle.cc_program.specs.declared.types.Shape.TheOpen as shape
use Rattle.cc_program.specs.declared.types.Sig.{Sig}
use Rattle.cc_terms.specs.CcSyntax.Folding.{NoConstant, constant_of}
use Rattle.cc_terms.specs.CcSyntax.SameTypes.{is_void_shape}
use Rattle.cc_terms.specs.CcSyntax.Values.{ValueType, NoValue, Integer, ToObject, ToFunction, is_void, pointer_shape, point_alike}
use Rattle.cc_terms.proofs.CcSyntax.Prefixes.{both_true}
use Rattle.cc_shown_expressions.specs.OperationNumbers.{Numbers, expr_numbered}
use Rattle.cc_shown_expressions.specs.Typed.{operand_of}
use Rattle.cc_shown_expressions.proofs.ChoiceRules.{alike-void}
use Rattle.cc_shown_expressions.specs.Fits.{FitsValue}
use Rattle.cc_shown_expressions.proofs.Levels.{type-at}
use Rattle.cc_shown_expressions.proofs.Operands.{null-constant, void-null}
use Rattle.cc_shown_expressions.specs.Normal.{HasOperand}
use Rattle.cc_shown_expressions.proofs.PlaceParts.{NullIs, ToVoid, ToOther, null-is}
use Rattle.cc_shown_expressions.specs.Operators.{NullsAgree}
use Rattle.cc_shown_expressions.specs.Numbers.{type_numbered, value_numbered}
use Rattle.cc_shown_expressions.proofs.Standing.{pointed-not-void, scalar-stands}

void-shape : (x : shape.Shape-F Shape CType Sig) → is_void_shape x ≡ true → x ≡ shape.Void
void-shape shape.Void h = refl
void-shape (shape.Int t) h = absurd (cc)
void-shape (shape.Pointer to) h = absurd (cc)
void-shape (shape.Array of n) h = absurd (cc)
void-shape (shape.Struct i) h = absurd (cc)
void-shape (shape.Func s) h = absurd (cc)

null-level : (x : one.Expr-F Expr Place) → is_null_at x ≡ true → (t : CType) × (x ≡ one.Null t)
null-level (one.Null t) h = (t, refl)
null-level (one.Const k t) h = absurd (cc)
null-level (one.FuncAddr i) h = absurd (cc)
null-level (one.Load a) h = absurd (cc)
null-level (one.AddrOf a) h = absurd (cc)
null-level (one.Un o t a) h = absurd (cc)
null-level (one.Bin o t a b) h = absurd (cc)
null-level (one.Conv t a) h = absurd (cc)
null-level (one.Qualify t a) h = absurd (cc)
null-level (one.Move a b back) h = absurd (cc)
null-level (one.Gap a b) h = absurd (cc)
null-level (one.Compare o a b) h = absurd (cc)
null-level (one.Both a b) h = absurd (cc)
null-level (one.Either a b) h = absurd (cc)
null-level (one.Choose c a b) h = absurd (cc)
null-level (one.Assign a e) h = absurd (cc)
null-level (one.Change a o t e) h = absurd (cc)
null-level (one.After a down) h = absurd (cc)
null-level (one.Call g args) h = absurd (cc)
null-level (one.Intr i a) h = absurd (cc)
null-level (one.Seq a b) h = absurd (cc)

to-void-by : (to : CType) (x : shape.Shape-F Shape CType Sig) → is_to_void (pointer_shape to x) ≡ true → is_void to ≡ true
to-void-by to (shape.Func s) h = absurd (cc)
to-void-by to shape.Void h = h
to-void-by to (shape.Int t) h = h
to-void-by to (shape.Pointer u) h = h
to-void-by to (shape.Array of n) h = h
to-void-by to (shape.Struct i) h = h

-- two pointers to one type are to void both, or none
pub void-alike : (v w : ValueType) → point_alike v w ≡ true → is_to_void v ≡ is_to_void w
void-alike NoValue w h = absurd (cc)
void-alike (Integer t) w h = absurd (cc)
void-alike (ToObject c v t) NoValue h = absurd (cc)
void-alike (ToObject c v t) (Integer s) h = absurd (cc)
void-alike (ToObject c v t) (ToObject d w u) h = alike-void t u h
void-alike (ToObject c v t) (ToFunction s) h = absurd (cc)
void-alike (ToFunction s) NoValue h = absurd (cc)
void-alike (ToFunction s) (Integer t) h = absurd (cc)
void-alike (ToFunction s) (ToObject c v t) h = absurd (cc)
void-alike (ToFunction s) (ToFunction t) h = refl

pub alike-pointers : (v w : ValueType) → point_alike v w ≡ true → (is_pointer v ≡ true) × (is_pointer w ≡ true)
alike-pointers NoValue w h = absurd (cc)
alike-pointers (Integer t) w h = absurd (cc)
alike-pointers (ToObject c v t) NoValue h = absurd (cc)
alike-pointers (ToObject c v t) (Integer s) h = absurd (cc)
alike-pointers (ToObject c v t) (ToObject d w u) h = (refl, refl)
alike-pointers (ToObject c v t) (ToFunction s) h = absurd (cc)
alike-pointers (ToFunction s) NoValue h = absurd (cc)
alike-pointers (ToFunction s) (Integer t) h = absurd (cc)
alike-pointers (ToFunction s) (ToObject c v t) h = absurd (cc)
alike-pointers (ToFunction s) (ToFunction t) h = (refl, refl)

module _ (p : Program) (f : Func) (n : Numbers) where
  plain-to : (c v : Bool) (u : CType) → c ≡ false → v ≡ false → null_of (ToObject false false (type_numbered n.structure u)) ≡ null_of (value_numbered n.structure (ToObject c v u))
  plain-to c v u e g = ap (λ (b : Bool). null_of (ToObject b false (type_numbered n.structure u))) (sym e) ∙ ap (λ (b : Bool). null_of (ToObject c b (type_numbered n.structure u))) (sym g)

  -- against another pointer to void
  null-against : (e : Expr) (t to : CType) (other : ValueType) → out-Expr e ≡ one.Null t → out-Shape t.shape ≡ shape.Pointer to → t.constant ≡ false → t.volatile ≡ false → out-Shape to.shape ≡ shape.Void → to.constant ≡ false → to.volatile ≡ false →
      FitsValue p other → is_to_void other ≡ true → expr_numbered n e ≡ null_of (value_numbered n.structure other)
  null-against e t to NoValue h k c v o oc ov g i = absurd (cc)
  null-against e t to (Integer s) h k c v o oc ov g i = absurd (cc)
  null-against e t to (ToObject d w u) h k c v o oc ov g i =
      void-null p n e t to u h c v k oc ov o (void-shape (out-Shape u.shape) i) ∙ plain-to d w u (g.0 i).0 (g.0 i).1
  null-against e t to (ToFunction s) h k c v o oc ov g i = absurd (cc)

  null-by : (e : Expr) (t : CType) (v other : ValueType) → out-Expr e ≡ one.Null t → NullIs p t v → is_to_void v ≡ true → FitsValue p other → is_to_void other ≡ true → expr_numbered n e ≡ null_of (value_numbered n.structure other)
  null-by e t v other h (ToVoid to k c w o oc ov g) i j l = null-against e t to other h k c w o oc ov j l
  null-by e t v other h (ToOther to k plain g) i j l =
      let a : is_void to ≡ true = to-void-by to (out-Shape to.shape) (sym (ap is_to_void g) ∙ i) in
      let b : false ≡ true = sym (pointed-not-void p t to k (scalar-stands p _ plain)) ∙ a in
      absurd (cc)

  pub null-value : (e : Expr) (v other : ValueType) → HasOperand p f e v → constant_of p.target e ≡ NoConstant → FitsValue p other → is_to_void v ≡ is_to_void other → is_null_constant (operand_of p n e v) ≡ true →
      expr_numbered n e ≡ null_of (value_numbered n.structure other)
  null-value e v other h c g same i =
      let k = both_true (is_to_void v) (is_null_at (out-Expr e)) (sym (null-constant p n e v h.folded c) ∙ i) in
      let t = null-level (out-Expr e) k.1 in
      null-by e t.0 v other t.1 (null-is p t.0 v (sym (type-at p f e (one.Null t.0) t.1) ∙ h.typed)) k.0 g (sym same ∙ k.0)

  pub nulls-agree : (a b : Expr) (v w : ValueType) → HasOperand p f a v → HasOperand p f b w → constant_of p.target a ≡ NoConstant → constant_of p.target b ≡ NoConstant → FitsValue p v → FitsValue p w → point_alike v w ≡ true →
      NullsAgree (operand_of p n a v) (operand_of p n b w)
  nulls-agree a b v w ha hb ca cb ga gb h = record {
    right = λ i. null-value b w v hb cb ga (sym (void-alike v w h)) i;
    left = λ i. null-value a v w ha ca gb (void-alike v w h) i;
  }

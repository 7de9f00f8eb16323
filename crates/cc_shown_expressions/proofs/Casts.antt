-- Trees of constants, nulls, conversions and casts of pointers that show those of a program are typed to them.
use Rattle.std.proofs.Common.{◌≡◌, ℕ, ℤ, pos, Bool, true, false, ◌&&◌, ◌||◌, Ok, refl, ap, sym, ◌∙◌}
use Rattle.std.specs.Option.{is_some}
use Rattle.cc_terms.specs.CcDesignators.Casts.{cast_of}
use Rattle.cc_terms.specs.CcDesignators.Designators.{TypedExpr, IsValue, IsAddress, null, pointed_in}
use Rattle.cc_program.specs.CcNum.declared.int_type.IntType.{IntType}
use Rattle.cc_program.specs.CcNum.declared.int_type.IntType.TheVariants as int
use Rattle.cc_program.specs.CcNum.Integers.{is_value_of}
use Rattle.cc_program.proofs.CcNum.Conversions.{converted-same}
use Rattle.cc_program.proofs.CcNum.ResultLaws.{value_from_test}
use Rattle.cc_terms.specs.CcOperands.Operands.{Operand, operand, integer, cast_to, folded, is_pointer, is_to_void, is_zero_constant, is_null_constant, is_null_at}
use Rattle.cc_terms.specs.CcOperands.Qualified.{unqualified}
use Rattle.cc_shown_expressions.proofs.CastRules.{integer-cast, constant-pointer, void-pointer, null-pointer, qualified-pointer}
use Rattle.cc_shown_expressions.proofs.ChoiceRules.{alike-void, constancy-of, pointer-scalar}
use Rattle.cc_pieces.specs.Constants.{is_narrow}
use Rattle.cc_terms.specs.CcTypedTerms.Values.{valued, value_found}
use Rattle.cc_program.specs.declared.expr.Expr.{Expr, Const, Null, Conv, Qualify, out-Expr}
use Rattle.cc_program.specs.declared.expr.Expr.TheOpen as one
use Rattle.cc_program.specs.declared.expr.Expr.TheVariants as expr_rolls
use Rattle.cc_program.specs.declared.func.Func.{Func}
use Rattle.cc_program.specs.declared.program.Program.{Program}
use Rattle.cc_program.specs.declared.types.CType.{CType}
use Rattle.cc_program.specs.declared.types.Shape.{Shape, out-Shape, out-roll-Shape}
use Rattle.cc_program.specs.declared.types.Shape.TheOpen as shape
use Rattle.cc_program.specs.declared.types.Sig.{Sig}
use Rattle.cc_terms.specs.CcScopes.State.{State}
use Rattle.cc_terms.specs.CcScopes.Verdicts.{Found, and_then}
use Rattle.cc_terms.specs.CcSyntax.Folding.{Constant, Value, converted_constant, constant_of}
use Rattle.cc_terms.specs.CcSyntax.Programs.{kind_in}
use Rattle.cc_terms.specs.CcSyntax.SameTypes.{is_void_shape}
use Rattle.cc_terms.specs.CcSyntax.Sizes.{AreSized}
use Rattle.cc_terms.specs.CcSyntax.Values.{ValueType, NoValue, Integer, ToObject, ToFunction, is_void, pointer_shape, pointer_to, is_assignable}
use Rattle.cc_terms.proofs.CcSyntax.Prefixes.{both_true}
use Rattle.cc_terms.specs.Terms.{tree_of, type_name_of, here}
use Rattle.cc_tree.specs.declared.at.At.{At}
use Rattle.cc_tree.specs.declared.tree.Tree as tree
use Rattle.cc_tree.specs.declared.tree.Tree.{Tree}
use Rattle.cc_tree.specs.declared.tree.TypeName.{TypeName}
use Rattle.cc_expression_trees.specs.Types.{ShowsTypeName}
use Rattle.cc_expression_trees.specs.Constants.{plain, ShowsInteger, IsZero, IsVoidNull, VoidNull, NullInParens, void_pointer}
use Rattle.cc_expression_trees.specs.Exprs.{is_null}
use Rattle.cc_shown_expressions.proofs.Constants.{integer-found, zero-found, paren-tree}
use Rattle.cc_shown_expressions.specs.Normal.{HasOperand}
use Rattle.cc_shown_expressions.specs.OperationNumbers.{Numbers, expr_numbered}
use Rattle.cc_shown_expressions.specs.Typed.{operand_of, IsTypedAs, IsShown}
use Rattle.cc_shown_expressions.proofs.Fits.{null-fits, qualified-fits}
use Rattle.cc_shown_expressions.proofs.Levels.{when-is, type-at, constant-at, folded-at, expr-at}
use Rattle.cc_shown_expressions.proofs.Operands.{constancy-is, folded-operand, plain-operand, constant-operand, null-constant, no-null}
use Rattle.cc_shown_expressions.proofs.Operations.{integer-shown}
use Rattle.cc_shown_expressions.proofs.Parts.{conversion-parts}
use Rattle.cc_shown_expressions.proofs.PlaceParts.{NullIs, ToVoid, ToOther, null-is, qualified-parts}
use Rattle.cc_shown_expressions.proofs.Trees.{typed-value, found-value, cast-by}
use Rattle.cc_shown_expressions.specs.Known.{KnowsStructures}
use Rattle.cc_shown_expressions.specs.Numbers.{type_numbered, value_numbered}
use Rattle.cc_shown_expressions.proofs.Bases.{type-of-fields}
use Rattle.cc_shown_expressions.proofs.Kept.{pointer-numbered, void-numbered, assignable-numbered}
use Rattle.cc_shown_expressions.proofs.Numbering.{level-at, constant-kept, volatile-kept}
use Rattle.cc_shown_expressions.proofs.Standing.{kind-at, pointed-not-void, scalar-plain, scalar-stands}
use Rattle.cc_shown_expressions.proofs.TypeNames.{type-name-found, void-name-found}

-- ---- pointers

pub pointer-numbered-is : (number : ℕ → ℕ) (v : ValueType) → is_pointer (value_numbered number v) ≡ is_pointer v
pointer-numbered-is number NoValue = refl
pointer-numbered-is number (Integer t) = refl
pointer-numbered-is number (ToObject c v t) = refl
pointer-numbered-is number (ToFunction s) = refl

-- what can be assigned to a pointer is one, and both are to void or none
pub assigned-pointer : (v w : ValueType) → is_assignable v w ≡ true → is_pointer v ≡ is_pointer w
assigned-pointer NoValue w h = absurd (cc)
assigned-pointer (Integer t) NoValue h = absurd (cc)
assigned-pointer (Integer t) (Integer s) h = refl
assigned-pointer (Integer t) (ToObject c v u) h = absurd (cc)
assigned-pointer (Integer t) (ToFunction s) h = absurd (cc)
assigned-pointer (ToObject c v t) NoValue h = absurd (cc)
assigned-pointer (ToObject c v t) (Integer s) h = absurd (cc)
assigned-pointer (ToObject c v t) (ToObject d w u) h = refl
assigned-pointer (ToObject c v t) (ToFunction s) h = absurd (cc)
assigned-pointer (ToFunction s) NoValue h = absurd (cc)
assigned-pointer (ToFunction s) (Integer t) h = absurd (cc)
assigned-pointer (ToFunction s) (ToObject c v t) h = absurd (cc)
assigned-pointer (ToFunction s) (ToFunction t) h = refl

pub assigned-void : (v w : ValueType) → is_assignable v w ≡ true → is_to_void v ≡ is_to_void w
assigned-void NoValue w h = absurd (cc)
assigned-void (Integer t) NoValue h = absurd (cc)
assigned-void (Integer t) (Integer s) h = refl
assigned-void (Integer t) (ToObject c v u) h = absurd (cc)
assigned-void (Integer t) (ToFunction s) h = absurd (cc)
assigned-void (ToObject c v t) NoValue h = absurd (cc)
assigned-void (ToObject c v t) (Integer s) h = absurd (cc)
assigned-void (ToObject c v t) (ToObject d w u) h = alike-void t u (both_true _ _ h).0
assigned-void (ToObject c v t) (ToFunction s) h = absurd (cc)
assigned-void (ToFunction s) NoValue h = absurd (cc)
assigned-void (ToFunction s) (Integer t) h = absurd (cc)
assigned-void (ToFunction s) (ToObject c v t) h = absurd (cc)
assigned-void (ToFunction s) (ToFunction t) h = refl

pointer-by : (t : CType) (x : shape.Shape-F Shape CType Sig) → is_pointer (pointer_shape t x) ≡ true
pointer-by t (shape.Func s) = refl
pointer-by t shape.Void = refl
pointer-by t (shape.Int i) = refl
pointer-by t (shape.Pointer to) = refl
pointer-by t (shape.Array of n) = refl
pointer-by t (shape.Struct i) = refl

pub pointer-is-one : (t : CType) → is_pointer (pointer_to t) ≡ true
pointer-is-one t = pointer-by t (out-Shape t.shape)

to-void-by : (t : CType) (x : shape.Shape-F Shape CType Sig) → out-Shape t.shape ≡ x → is_to_void (pointer_shape t x) ≡ is_void_shape x
to-void-by t (shape.Func s) e = refl
to-void-by t shape.Void e = ap is_void_shape e
to-void-by t (shape.Int i) e = ap is_void_shape e
to-void-by t (shape.Pointer to) e = ap is_void_shape e
to-void-by t (shape.Array of n) e = ap is_void_shape e
to-void-by t (shape.Struct i) e = ap is_void_shape e

pub to-void-is : (t : CType) → is_to_void (pointer_to t) ≡ is_void t
to-void-is t = to-void-by t (out-Shape t.shape) refl

module _ (p : Program) (f : Func) (n : Numbers) (s : State) (sized : AreSized p.structures p.target) (known : KnowsStructures p n.structure s) where
  abbrev value_of : Expr → ValueType → Operand
  value_of e v = operand_of p n e v

  abbrev numbered : CType → CType
  numbered t = type_numbered n.structure t

  abbrev Part : At Tree → Expr → Type 0
  Part x a = (u : ValueType) → HasOperand p f a u → IsShown p n s x.node x.at a u

  name-found : (t : CType) (type : TypeName) → ShowsTypeName p.structures t type → is_some (kind_in p t) ≡ true → type_name_of p.target p.roles type true s ≡ Ok (numbered t, s)
  name-found t type h k = type-name-found p n.structure p.roles sized s known t type h k true

  int-stands : (t : IntType) → is_some (kind_in p (plain (shape.Int t))) ≡ true
  int-stands t = ap is_some (kind-at p (plain (shape.Int t)) (shape.Int t) (out-roll-Shape (shape.Int t)))

  int-named : (t : IntType) (type : TypeName) → ShowsTypeName p.structures (plain (shape.Int t)) type → type_name_of p.target p.roles type true s ≡ Ok (numbered (plain (shape.Int t)), s)
  int-named t type h = name-found (plain (shape.Int t)) type h (int-stands t)

  int-level : (t : IntType) → out-Shape (numbered (plain (shape.Int t))).shape ≡ shape.Int t
  int-level t = level-at n.structure (plain (shape.Int t)) (shape.Int t) (out-roll-Shape (shape.Int t))

  -- ---- constants

  pub record ConstantParts (k : ℤ) (t : IntType) (e : Expr) (v : ValueType) : Type 0 where
    pub value : is_value_of t p.target k ≡ true
    pub type : v ≡ Integer t
    pub constant : constant_of p.target e ≡ Value k

  pub constant-parts : (k : ℤ) (t : IntType) (e : Expr) (v : ValueType) → out-Expr e ≡ one.Const k t → HasOperand p f e v → ConstantParts k t e v
  constant-parts k t e v h g =
      let w = when-is (is_value_of t p.target k) (Integer t) v (sym (type-at p f e (one.Const k t) h) ∙ g.typed) in
      record { value = w.0; type = w.1; constant = constant-at p.target e (one.Const k t) h }

  constant-typed : (k : ℤ) (t : IntType) (e : Expr) (v : ValueType) (x : Tree) (at : ℕ) → out-Expr e ≡ one.Const k t → ConstantParts k t e v → tree_of p.target p.roles x at s ≡ Ok (IsValue (integer k t), s) → IsShown p n s x at e v
  constant-typed k t e v x at h q is =
      integer-shown p f n s known x at e v t q.type
      (typed-value p n s x at e v
      (is ∙ ap (λ (y : Operand). Ok (IsValue y, s)) (constant-operand p n e (Const k t) t k q.constant (expr-at n e (one.Const k t) h)) ∙ ap (λ (u : ValueType). Ok (IsValue (value_of e u), s)) (sym q.type)))

  pub constant-shown : (k : ℤ) (t : IntType) (e : Expr) (v : ValueType) (x : Tree) (at : ℕ) → out-Expr e ≡ one.Const k t → is_narrow t ≡ false → ShowsInteger p.target k t x → HasOperand p f e v → IsShown p n s x at e v
  constant-shown k t e v x at h wide i g =
      let q = constant-parts k t e v h g in
      let r = integer-found p.target p.roles s k t x i q.value at in
      constant-typed k t e v x at h q (r.is ∙ ap (λ (u : IntType). Ok (IsValue (integer k u), s)) (r.own wide))

  constant-cast : (k : ℤ) (u t : IntType) → is_value_of t p.target k ≡ true → cast_to p.target t (integer k u) ≡ integer k t
  constant-cast k u t h =
      ap (λ (c : Constant). folded t (converted_constant p.target t c) (Conv t (Const k u))) (constancy-of p.target k u)
      ∙ ap (λ (m : ℤ). integer m t) (converted-same t p.target k (value_from_test t p.target k h))

  pub narrow-shown : (k : ℤ) (t : IntType) (e : Expr) (v : ValueType) (type : TypeName) (x : At Tree) (at : ℕ) → out-Expr e ≡ one.Const k t → ShowsTypeName p.structures (plain (shape.Int t)) type → ShowsInteger p.target k t x.node → HasOperand p f e v →
      IsShown p n s (tree.Cast type x) at e v
  narrow-shown k t e v type x at h named i g =
      let q = constant-parts k t e v h g in
      let r = integer-found p.target p.roles s k t x.node i q.value x.at in
      constant-typed k t e v (tree.Cast type x) at h q
      (cast-by p n s type x at (numbered (plain (shape.Int t))) (integer k r.type) (IsValue (integer k t)) (int-named t type named) (ap (λ (m : Found TypedExpr). and_then m (valued x.at)) r.is)
      (integer-cast p.target at (numbered (plain (shape.Int t))) t r.type (integer k r.type) (int-level t) refl ∙ ap (λ (y : Operand). Ok (IsValue y)) (constant-cast k r.type t q.value)))

  -- ---- conversions of integers

  pub conversion-shown : (t : IntType) (a e : Expr) (v : ValueType) (type : TypeName) (x : At Tree) (at : ℕ) → out-Expr e ≡ one.Conv t a → HasOperand p f e v → ShowsTypeName p.structures (plain (shape.Int t)) type → Part x a → IsShown p n s (tree.Cast type x) at e v
  conversion-shown t a e v type x at h k named part =
      let q = conversion-parts p f t a e v h k in
      let i = Integer q.own in
      let to = numbered (plain (shape.Int t)) in
      integer-shown p f n s known (tree.Cast type x) at e v t q.type
      (typed-value p n s (tree.Cast type x) at e v
      (cast-by p n s type x at to (value_of a i) (IsValue (value_of e v)) (int-named t type named) (found-value p n s x a i (part i q.part).typed)
      (integer-cast p.target at to t q.own (value_of a i) (int-level t) refl
      ∙ ap (λ (c : Constant). Ok (IsValue (folded t (converted_constant p.target t c) (Conv t (expr_numbered n a))))) (constancy-is p n a i q.part.folded)
      ∙ ap (λ (z : Operand). Ok (IsValue z)) (folded-operand p n e (Conv t (expr_numbered n a)) t (converted_constant p.target t (constant_of p.target a)) q.constant q.valueless (expr-at n e (one.Conv t a) h))
      ∙ ap (λ (u : ValueType). Ok (IsValue (value_of e u))) (sym q.type))))

  -- ---- nulls

  unqualified-is : (t : CType) → t.constant ≡ false → t.volatile ≡ false → unqualified (numbered t) ≡ numbered t
  unqualified-is t c v = type-of-fields (unqualified (numbered t)) (numbered t) (sym (constant-kept n.structure t ∙ c)) (sym (volatile-kept n.structure t ∙ v)) refl

  pub null-operand : (e : Expr) (t to : CType) (v : ValueType) → out-Expr e ≡ one.Null t → t.constant ≡ false → t.volatile ≡ false → out-Shape t.shape ≡ shape.Pointer to → v ≡ pointer_to to → null (unqualified (numbered t)) ≡ value_of e v
  null-operand e t to v h c w k g =
      ap (λ (u : CType). operand (Null u) (pointed_in (out-Shape (numbered t).shape))) (unqualified-is t c w)
      ∙ ap (λ y. operand (Null (numbered t)) (pointed_in y)) (level-at n.structure t (shape.Pointer to) k)
      ∙ ap (λ (u : ValueType). operand (Null (numbered t)) u) (pointer-numbered n.structure to ∙ ap (value_numbered n.structure) (sym g))
      ∙ plain-operand p n e (Null (numbered t)) v (constant-at p.target e (one.Null t) h) (expr-at n e (one.Null t) h)

  null-typed : (e : Expr) (t : CType) (v : ValueType) (x : Tree) (at : ℕ) (u : CType) → out-Expr e ≡ one.Null t → null u ≡ value_of e v → tree_of p.target p.roles x at s ≡ Ok (IsAddress (pos 0) u at, s) → IsTypedAs p n s x at e v
  null-typed e t v x at u h k is = record {
    found = IsAddress (pos 0) u at;
    is = is;
    value = λ i. ap (λ (y : Operand). Ok (y, s)) k;
    address = λ g. let f : true ≡ false = sym (ap is_null h) ∙ g in absurd (cc);
    intrinsic = refl;
  }

  zero-value : (x : At Tree) → IsZero x.node → value_found (here p.target p.roles x) s ≡ Ok (integer (pos 0) int.Int, s)
  zero-value x z = ap (λ (m : Found TypedExpr). and_then m (valued x.at)) (zero-found p.target p.roles s x.node z x.at)

  pub zero-null : is_null_constant (integer (pos 0) int.Int) ≡ true
  zero-null = ap (λ (c : Constant). is_zero_constant c || (false && is_null_at (out-Expr (Const (pos 0) int.Int)))) (constancy-of p.target (pos 0) int.Int)

  null-by : (t : CType) (e : Expr) (v : ValueType) (type : TypeName) (x : At Tree) (at : ℕ) → out-Expr e ≡ one.Null t → ShowsTypeName p.structures t type → IsZero x.node → NullIs p t v → IsTypedAs p n s (tree.Cast type x) at e v
  null-by t e v type x at h named z (ToVoid to k c w o oc ov g) =
      let zero = integer (pos 0) int.Int in
      let same = null-operand e t to v h c w k g in
      typed-value p n s (tree.Cast type x) at e v
      (cast-by p n s type x at (numbered t) zero (IsValue (value_of e v)) (void-name-found p n.structure p.roles sized s known t to k o oc ov type named) (zero-value x z)
      (void-pointer p.target at (numbered t) (numbered to) zero (level-at n.structure t (shape.Pointer to) k) (void-numbered n.structure to ∙ ap is_void_shape o) refl zero-null ∙ ap (λ (y : Operand). Ok (IsValue y)) same))
  null-by t e v type x at h named z (ToOther to k whole g) =
      let zero = integer (pos 0) int.Int in
      let flags = scalar-plain p t whole in
      let stands = scalar-stands p (kind_in p t) whole in
      let same = null-operand e t to v h flags.0 flags.1 k g in
      null-typed e t v (tree.Cast type x) at (unqualified (numbered t)) h same
      (cast-by p n s type x at (numbered t) zero (IsAddress (pos 0) (unqualified (numbered t)) at) (name-found t type named stands) (zero-value x z)
      (constant-pointer p.target at (numbered t) (numbered to) (pos 0) int.Int zero (level-at n.structure t (shape.Pointer to) k) (void-numbered n.structure to ∙ pointed-not-void p t to k stands) refl (constancy-of p.target (pos 0) int.Int)))

  pub null-type : (t : CType) (e : Expr) (v : ValueType) → out-Expr e ≡ one.Null t → HasOperand p f e v → NullIs p t v
  null-type t e v h g = null-is p t v (sym (type-at p f e (one.Null t) h) ∙ g.typed)

  shown-null : (t : CType) (e : Expr) (v : ValueType) (x : Tree) (at : ℕ) → out-Expr e ≡ one.Null t → NullIs p t v → IsTypedAs p n s x at e v → IsShown p n s x at e v
  shown-null t e v x at h i q = record { typed = q; fits = null-fits p t v i; number = λ k. constant-at p.target e (one.Null t) h }

  pub null-shown : (t : CType) (e : Expr) (v : ValueType) (type : TypeName) (x : At Tree) (at : ℕ) → out-Expr e ≡ one.Null t → HasOperand p f e v → ShowsTypeName p.structures t type → IsZero x.node → IsShown p n s (tree.Cast type x) at e v
  null-shown t e v type x at h g named z =
      let i = null-type t e v h g in
      shown-null t e v (tree.Cast type x) at h i (null-by t e v type x at h named z i)

  -- `(T)((void *)0)`

  to-void-shape : out-Shape void_pointer.shape ≡ shape.Pointer (plain shape.Void)
  to-void-shape = out-roll-Shape (shape.Pointer (plain shape.Void))

  void-shape : out-Shape (plain shape.Void).shape ≡ shape.Void
  void-shape = out-roll-Shape shape.Void

  void-expr : out-Expr (Null void_pointer) ≡ one.Null void_pointer
  void-expr = expr_rolls.outs-Null void_pointer

  pub void-null-found : (x : Tree) → IsVoidNull p.structures x → (at : ℕ) → tree_of p.target p.roles x at s ≡ Ok (IsValue (value_of (Null void_pointer) (pointer_to (plain shape.Void))), s)
  void-null-found _ (VoidNull type x named z) at =
      let zero = integer (pos 0) int.Int in
      cast-by p n s type x at (numbered void_pointer) zero (IsValue (value_of (Null void_pointer) (pointer_to (plain shape.Void)))) (void-name-found p n.structure p.roles sized s known void_pointer (plain shape.Void) to-void-shape void-shape refl refl type named) (zero-value x z)
      (void-pointer p.target at (numbered void_pointer) (numbered (plain shape.Void)) zero (level-at n.structure void_pointer (shape.Pointer (plain shape.Void)) to-void-shape) (void-numbered n.structure (plain shape.Void) ∙ ap is_void_shape void-shape) refl zero-null
      ∙ ap (λ (y : Operand). Ok (IsValue y)) (null-operand (Null void_pointer) void_pointer (plain shape.Void) (pointer_to (plain shape.Void)) void-expr refl refl to-void-shape refl))
  void-null-found _ (NullInParens x h) at = paren-tree p.target p.roles s x at ∙ void-null-found x.node h x.at

  void-null-constant : is_null_constant (value_of (Null void_pointer) (pointer_to (plain shape.Void))) ≡ true
  void-null-constant =
      null-constant p n (Null void_pointer) (pointer_to (plain shape.Void)) (folded-at p.target (Null void_pointer) (one.Null void_pointer) void-expr) (constant-at p.target (Null void_pointer) (one.Null void_pointer) void-expr)
      ∙ ap (λ (b : Bool). b && is_null_at (out-Expr (Null void_pointer))) (to-void-is (plain shape.Void) ∙ ap is_void_shape void-shape)
      ∙ ap is_null_at void-expr

  void-null-pointer : is_pointer (value_numbered n.structure (pointer_to (plain shape.Void))) ≡ true
  void-null-pointer = pointer-numbered-is n.structure (pointer_to (plain shape.Void)) ∙ pointer-is-one (plain shape.Void)

  again-by : (t : CType) (e : Expr) (v : ValueType) (at : ℕ) → out-Expr e ≡ one.Null t → NullIs p t v → cast_of p.target at (numbered t) (value_of (Null void_pointer) (pointer_to (plain shape.Void))) ≡ Ok (IsValue (value_of e v))
  again-by t e v at h (ToVoid to k c w o oc ov g) =
      let y = value_of (Null void_pointer) (pointer_to (plain shape.Void)) in
      void-pointer p.target at (numbered t) (numbered to) y (level-at n.structure t (shape.Pointer to) k) (void-numbered n.structure to ∙ ap is_void_shape o) (pointer-scalar (value_numbered n.structure (pointer_to (plain shape.Void))) void-null-pointer) void-null-constant
      ∙ ap (λ (y : Operand). Ok (IsValue y)) (null-operand e t to v h c w k g)
  again-by t e v at h (ToOther to k whole g) =
      let y = value_of (Null void_pointer) (pointer_to (plain shape.Void)) in
      let flags = scalar-plain p t whole in
      let stands = scalar-stands p (kind_in p t) whole in
      null-pointer p.target at (numbered t) (numbered to) y (level-at n.structure t (shape.Pointer to) k) (void-numbered n.structure to ∙ pointed-not-void p t to k stands) void-null-pointer void-null-constant
      ∙ ap (λ (y : Operand). Ok (IsValue y)) (null-operand e t to v h flags.0 flags.1 k g)

  named-null : (t : CType) (v : ValueType) (type : TypeName) → ShowsTypeName p.structures t type → NullIs p t v → type_name_of p.target p.roles type true s ≡ Ok (numbered t, s)
  named-null t v type named (ToVoid to k c w o oc ov g) = void-name-found p n.structure p.roles sized s known t to k o oc ov type named
  named-null t v type named (ToOther to k whole g) = name-found t type named (scalar-stands p (kind_in p t) whole)

  pub null-again-shown : (t : CType) (e : Expr) (v : ValueType) (type : TypeName) (x : At Tree) (at : ℕ) → out-Expr e ≡ one.Null t → HasOperand p f e v → ShowsTypeName p.structures t type → IsVoidNull p.structures x.node →
      (NullIs p t v) × (tree_of p.target p.roles (tree.Cast type x) at s ≡ Ok (IsValue (value_of e v), s))
  null-again-shown t e v type x at h g named z =
      let i = null-type t e v h g in
      (i, cast-by p n s type x at (numbered t) (value_of (Null void_pointer) (pointer_to (plain shape.Void))) (IsValue (value_of e v)) (named-null t v type named i) (ap (λ (m : Found TypedExpr). and_then m (valued x.at)) (void-null-found x.node z x.at)) (again-by t e v at h i))

  -- ---- pointers with more qualifiers

  pub qualified-shown : (t : CType) (a e : Expr) (v : ValueType) (type : TypeName) (x : At Tree) (at : ℕ) → out-Expr e ≡ one.Qualify t a → HasOperand p f e v → ShowsTypeName p.structures t type → Part x a → IsShown p n s (tree.Cast type x) at e v
  qualified-shown t a e v type x at h k named part =
      let q = qualified-parts p f t a e v h k in
      let r = part q.own q.part in
      let to = q.pointer.to in
      let stands = scalar-stands p (kind_in p t) q.pointer.plain in
      let flags = scalar-plain p t q.pointer.plain in
      let other : is_void to ≡ false = pointed-not-void p t to q.pointer.pointer stands in
      let points : is_pointer q.own ≡ true = sym (assigned-pointer v q.own q.assignable) ∙ ap is_pointer q.pointer.type ∙ pointer-is-one to in
      let plain_own : is_to_void q.own ≡ false = sym (assigned-void v q.own q.assignable) ∙ ap is_to_void q.pointer.type ∙ to-void-is to ∙ other in
      let fits : is_assignable (pointer_to (numbered to)) (value_numbered n.structure q.own) ≡ true =
      ap (λ (u : ValueType). is_assignable u (value_numbered n.structure q.own)) (pointer-numbered n.structure to) ∙ assignable-numbered n.structure (pointer_to to) q.own (ap (λ (u : ValueType). is_assignable u q.own) (sym q.pointer.type) ∙ q.assignable) in
      record {
        typed = typed-value p n s (tree.Cast type x) at e v
            (cast-by p n s type x at (numbered t) (value_of a q.own) (IsValue (value_of e v)) (name-found t type named stands) (found-value p n s x a q.own r.typed)
            (qualified-pointer p.target at (numbered t) (numbered to) (value_of a q.own) (level-at n.structure t (shape.Pointer to) q.pointer.pointer) (void-numbered n.structure to ∙ other) (pointer-numbered-is n.structure q.own ∙ points)
            (no-null p n a q.own q.part.folded (r.number points) plain_own) fits
            ∙ ap (λ (u : CType). Ok (IsValue (operand (Qualify u (expr_numbered n a)) (pointer_to (numbered to))))) (unqualified-is t flags.0 flags.1)
            ∙ ap (λ (u : ValueType). Ok (IsValue (operand (Qualify (numbered t) (expr_numbered n a)) u))) (pointer-numbered n.structure to ∙ ap (value_numbered n.structure) (sym q.pointer.type))
            ∙ ap (λ (z : Operand). Ok (IsValue z)) (plain-operand p n e (Qualify (numbered t) (expr_numbered n a)) v q.constant (expr-at n e (one.Qualify t a) h))));
        fits = qualified-fits p t v q.pointer;
        number = λ i. q.constant;
      }

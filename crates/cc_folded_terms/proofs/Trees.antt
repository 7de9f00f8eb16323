-- What expressions designate is folded, where their parts are (C99 6.5): construct by construct, over the meanings of the parts.
use Rattle.std.proofs.Common.{◌≡◌, ℕ, ◌+◌, ℤ, pos, Bool, true, false, List, [], length, Option, Some, None, Ok, Err, refl, subst}
use Rattle.std.specs.Ordering.{int_eq}
use Rattle.std.specs.Prelude.{take, slice_get, if◌then◌else◌}
use Rattle.cc_terms.specs.CcDesignators.Assignments.{assign_of, stepped_before, stepped_after}
use Rattle.cc_terms.specs.CcDesignators.Casts.{fits_pointer, no_device, cast_of, size_value}
use Rattle.cc_terms.specs.CcDesignators.Designators.{TypedExpr, IsPlace, IsValue, IsFunction, IsIntrinsic, IsAddress, value_at, null}
use Rattle.cc_terms.specs.CcDesignators.Postfix.{is_array_place, dot, arrow, address, indirection}
use Rattle.cc_terms.specs.CcLex.declared.token.Mark.{Mark}
use Rattle.cc_terms.specs.CcLex.declared.token.Suffix.{Suffix}
use Rattle.cc_program.specs.CcNum.Integers.{bytes_of}
use Rattle.cc_program.specs.CcNum.declared.int_type.IntType.TheVariants as int
use Rattle.cc_program.specs.CcNum.declared.target.Target.{Target}
use Rattle.cc_terms.specs.CcOperands.Choices.{choose_of, comma_of}
use Rattle.cc_terms.specs.CcOperands.Operands.{Operand, operand, number_type, character_value}
use Rattle.cc_terms.specs.CcOperands.Operators.{operator_of, unary_operator_of}
use Rattle.cc_terms.specs.CcOperands.Qualified.{type_of_value}
use Rattle.cc_terms.specs.CcOperands.Verdicts.{Judged}
use Rattle.cc_terms.specs.CcOperands.declared.operator.Operator.{Operator}
use Rattle.cc_terms.specs.CcOperands.declared.operator.UnaryOperator.{UnaryOperator}
use Rattle.cc_terms.specs.CcOperands.declared.rule.Rule.TheVariants as rule
use Rattle.cc_program.proofs.Each.{Each}
use Rattle.cc_program.specs.declared.expr.Expr.{FuncAddr}
use Rattle.cc_program.specs.declared.expr.Intr.{Intr}
use Rattle.cc_program.specs.declared.object.Device.{Device}
use Rattle.cc_program.specs.declared.program.Roles.{Roles}
use Rattle.cc_program.specs.declared.types.CType.{CType}
use Rattle.cc_program.specs.declared.types.Shape.{Shape, out-Shape}
use Rattle.cc_program.specs.declared.types.Shape.TheOpen as shape
use Rattle.cc_program.specs.declared.types.Sig.{Sig}
use Rattle.cc_terms.specs.CcScopes.State.{State, Name, designated, structures_of, layouts_of, is_unfinished, with_names, with_declared}
use Rattle.cc_terms.specs.CcScopes.Verdicts.{Found, whole, and_then}
use Rattle.cc_terms.specs.CcScopes.declared.designated.Designated.{Designated}
use Rattle.cc_terms.specs.CcScopes.declared.designated.Designated.TheVariants as means
use Rattle.cc_terms.specs.CcScopes.declared.unit.Declared.{Declared}
use Rattle.cc_terms.specs.CcSpecifiers.Bounds.{is_bound}
use Rattle.cc_terms.specs.CcSpecifiers.Objects.{size_of}
use Rattle.cc_terms.specs.CcSyntax.Types.{is_complete}
use Rattle.cc_terms.specs.CcSyntax.Values.{PlaceType, DevicePlace, ObjectPlace, FunctionPlace, ToFunction}
use Rattle.cc_terms.specs.Expressions.{argument_found, arguments_found}
use Rattle.cc_terms.specs.Meanings.{TreeMeaning, TypeNameMeaning}
use Rattle.cc_terms.specs.Operations.{as_value, subscript_base, subscript_judged, callee_by, callee, call_judged, prefixed_by, prefixed, forgotten, sizeof_found, sizeof_type_found}
use Rattle.cc_tree.specs.declared.at.At.{At}
use Rattle.cc_terms.specs.CcTypedTerms.Devices.{device_of, number_of, with_device, device_found, register_found, address_found, starred}
use Rattle.cc_terms.specs.CcTypedTerms.Operators.{prefix_of, is_minus, intrinsic_in, binary_by, unary_by}
use Rattle.cc_terms.specs.CcTypedTerms.Primary.{intrinsic_named, function_by, linked_by, linked, designates, named_by, named, number, character, string_place, string_object, string_found}
use Rattle.cc_terms.specs.CcTypedTerms.Sizes.{size_of_type, size_of_place, sizeof_judged}
use Rattle.cc_terms.specs.CcTypedTerms.Values.{null_judged, found_value, gives, valued, value_found, value, designating, designated_found, designator}
use Rattle.cc_terms.specs.CcTypedTerms.declared.prefix.Prefix.{Prefix}
use Rattle.cc_terms.specs.CcTypedTerms.declared.prefix.Prefix.TheVariants as prefix
use Rattle.cc_terms.specs.CcUnit.declared.unit.UnitKind.{UnitKind}
use Rattle.cc_terms.specs.CcUnit.declared.unit.UnitKind.TheVariants as kind
use Rattle.cc_folded_operands.specs.Folded.{IsFoldedOperand, IsFoldedExpr}
use Rattle.cc_folded_operands.proofs.Assignments.{assign_folded, before_folded, stepped_after_folded}
use Rattle.cc_folded_operands.proofs.Choices.{choose_folded, comma_folded}
use Rattle.cc_folded_operands.proofs.Designators.{value_folded, null_folded, function_folded, element_of_folded, subscripted_folded, dot_folded, arrow_folded, address_folded, indirection_folded, cast_of_folded, size_folded, called_folded, intrinsic_folded}
use Rattle.cc_folded_operands.proofs.Opened.{constant_operand, local_folded, static_folded, device_folded}
use Rattle.cc_folded_operands.proofs.Operators.{unary_folded, binary_folded}
use Rattle.cc_folded_operands.proofs.Verdicts.{ok_is, must_ok}
use Rattle.cc_folded_terms.proofs.Founds.{answer, found_is, answer_is, then_found, whole_found, one_more_found, in_turn_found}

module _ (target : Target) where
  abbrev Good : Operand → Type 0
  Good x = IsFoldedOperand target x

  abbrev Designates : TypedExpr → Type 0
  Designates x = IsFoldedExpr target x

  abbrev pub TreeFolds : TreeMeaning → Type 0
  TreeFolds m = (at : ℕ) (s : State) (r : TypedExpr × State) → m at s ≡ Ok r → Designates r.0

  -- ---- values, and what is designated

  value_is : (judged : Judged Operand) (x : TypedExpr) → found_value judged ≡ Ok x → (y : Operand) × (judged ≡ Ok y) × (IsValue y ≡ x)
  value_is (Ok y) x h = (y, refl, ok_is h)
  value_is (Err broken) x h = absurd (cc)

  gives_folds : (at : ℕ) (s : State) (judged : Judged Operand) (r : TypedExpr × State) → ((x : Operand) → judged ≡ Ok x → Good x) → gives at s judged ≡ Ok r → Designates r.0
  gives_folds at s judged r f h = let y = value_is judged r.0 (whole_found at s (found_value judged) r h) in subst Designates y.2 (f y.0 y.1)

  null_by : (b : Bool) (t : CType) (r : Operand) → (if b then Ok (null t) else Err rule.Cast) ≡ Ok r → Good r
  null_by true t r h = subst Good (ok_is h) (null_folded target t)
  null_by false t r h = absurd (cc)

  null_folds : (n : ℤ) (t : CType) (r : Operand) → null_judged n t ≡ Ok r → Good r
  null_folds n t r h = null_by (int_eq n (pos 0)) t r h

  valued_folds : (at : ℕ) (x : TypedExpr) (s : State) (r : Operand × State) → Designates x → valued at x s ≡ Ok r → Good r.0
  valued_folds at (IsPlace a t) s r d h = value_folded target a t r.0 d (whole_found at s (value_at a t) r h)
  valued_folds at (IsValue x) s r d h = subst Good (answer_is x s r h) d
  valued_folds at (IsFunction f sig) s r d h = subst Good (answer_is (operand (FuncAddr f) (ToFunction sig)) s r h) (function_folded target f (ToFunction sig))
  valued_folds at (IsIntrinsic i place) s r d h = absurd (cc)
  valued_folds at (IsAddress n t place) s r d h = null_folds n t r.0 (whole_found place s (null_judged n t) r h)

  pub value_folds : (e : At TreeMeaning) → TreeFolds e.node → (s : State) (r : Operand × State) → value_found e s ≡ Ok r → Good r.0
  value_folds e m s r h = let x = then_found (e.node e.at s) (valued e.at) r h in valued_folds e.at x.0.0 x.0.1 r (m e.at s x.0 x.1) x.2

  designating_folds : (x : TypedExpr) (s : State) (r : TypedExpr × State) → Designates x → designating x s ≡ Ok r → Designates r.0
  designating_folds (IsPlace a t) s r d h = subst Designates (answer_is (IsPlace a t) s r h) d
  designating_folds (IsValue x) s r d h = subst Designates (answer_is (IsValue x) s r h) d
  designating_folds (IsFunction f sig) s r d h = subst Designates (answer_is (IsFunction f sig) s r h) d
  designating_folds (IsIntrinsic i place) s r d h = absurd (cc)
  designating_folds (IsAddress n t place) s r d h = gives_folds place s (null_judged n t) r (λ y e. null_folds n t y e) h

  pub designator_folds : (e : At TreeMeaning) → TreeFolds e.node → (s : State) (r : TypedExpr × State) → designated_found e s ≡ Ok r → Designates r.0
  designator_folds e m s r h = let x = then_found (e.node e.at s) designating r h in designating_folds x.0.0 x.0.1 r (m e.at s x.0 x.1) x.2

  -- a value, and then what stands behind it
  value_then : {B : Type 0} (P : B → Type 0) (e : At TreeMeaning) → TreeFolds e.node → (next : Operand → State → Found B) (s : State) (r : B × State) →
      ((x : Operand × State) → Good x.0 → next x.0 x.1 ≡ Ok r → P r.0) → value e s next ≡ Ok r → P r.0
  value_then P e m next s r f h = let x = then_found (value_found e s) next r h in f x.0 (value_folds e m s x.0 x.1) x.2

  designator_then : {B : Type 0} (P : B → Type 0) (e : At TreeMeaning) → TreeFolds e.node → (next : TypedExpr → State → Found B) (s : State) (r : B × State) →
      ((x : TypedExpr × State) → Designates x.0 → next x.0 x.1 ≡ Ok r → P r.0) → designator e s next ≡ Ok r → P r.0
  designator_then P e m next s r f h = let x = then_found (designated_found e s) next r h in f x.0 (designator_folds e m s x.0 x.1) x.2

  -- ---- names, constants and strings

  function_folds : (i : ℕ) (t : shape.Shape-F Shape CType Sig) (r : TypedExpr) → function_by i t ≡ Ok r → Designates r
  function_folds i (shape.Func sig) r h = subst Designates (ok_is h) tt
  function_folds i (shape.Int t) r h = absurd (cc)
  function_folds i (shape.Pointer to) r h = absurd (cc)
  function_folds i (shape.Array of n) r h = absurd (cc)
  function_folds i (shape.Struct s) r h = absurd (cc)
  function_folds i shape.Void r h = absurd (cc)

  linked_by_folds : (i : ℕ) (t : CType) (k : UnitKind) (r : TypedExpr) → linked_by i t k ≡ Ok r → Designates r
  linked_by_folds i t (kind.Object leaves) r h = subst Designates (ok_is h) (static_folded target i)
  linked_by_folds i t (kind.Device d) r h = subst Designates (ok_is h) (device_folded target i)
  linked_by_folds i t (kind.Func entry body) r h = function_folds i (out-Shape t.shape) r h

  linked_folds : (i : ℕ) (d : Option Declared) (r : TypedExpr) → linked i d ≡ Ok r → Designates r
  linked_folds i None r h = absurd (cc)
  linked_folds i (Some d) r h = linked_by_folds i d.ctype d.kind r h

  designates_folds : (s : State) (d : Option Designated) (r : TypedExpr) → designates s d ≡ Ok r → Designates r
  designates_folds s None r h = absurd (cc)
  designates_folds s (Some (means.Linked i)) r h = linked_folds i (slice_get s.names i) r h
  designates_folds s (Some (means.Automatic n t)) r h = subst Designates (ok_is h) (local_folded target n)
  designates_folds s (Some (means.TypeNamed t)) r h = absurd (cc)
  designates_folds s (Some (means.Enumerator n)) r h = subst Designates (ok_is h) (constant_operand target n int.Int)

  named_by_folds : (at : ℕ) (x : Name) (s : State) (o : Option Intr) (r : TypedExpr) → named_by at x s o ≡ Ok r → Designates r
  named_by_folds at x s (Some i) r h = subst Designates (ok_is h) tt
  named_by_folds at x s None r h = designates_folds s (designated x s.scopes) r h

  pub named_folds : (roles : Roles) (x : Name) → TreeFolds (λ at s. whole at s (named roles at x s))
  named_folds roles x at s r h = named_by_folds at x s (intrinsic_named roles x) r.0 (whole_found at s (named roles at x s) r h)

  pub number_folds : (n : ℕ) (suffix : Suffix) → TreeFolds (λ at s. Ok (number target n suffix, s))
  number_folds n suffix at s r h = subst Designates (answer_is (number target n suffix) s r h) (constant_operand target (pos n) (number_type target n suffix))

  pub character_folds : (byte : ℕ) → TreeFolds (λ at s. Ok (character target byte, s))
  character_folds byte at s r h = subst Designates (answer_is (character target byte) s r h) (constant_operand target (character_value target byte) int.Int)

  string_by : (b : Bool) (at : ℕ) (bytes : List ℕ) (s : State) (r : TypedExpr × State) → (if b then Ok (string_place s bytes, with_declared (string_object target at bytes) s) else whole at s (Err rule.ArrayBound)) ≡ Ok r → Designates r.0
  string_by true at bytes s r h = subst Designates (answer_is (string_place s bytes) (with_declared (string_object target at bytes) s) r h) (static_folded target (length s.names))
  string_by false at bytes s r h = absurd (cc)

  pub string_folds : (bytes : List ℕ) → TreeFolds (λ at s. string_found target at bytes s)
  string_folds bytes at s r h = string_by (is_bound (length bytes + 1)) at bytes s r h

  -- ---- operators

  pub comma_folds : (a b : At TreeMeaning) → TreeFolds a.node → TreeFolds b.node → TreeFolds (λ at s. value a s (λ x s. value b s (λ y s. gives at s (comma_of x y))))
  comma_folds a b ha hb at s r h =
      value_then Designates a ha (λ x s. value b s (λ y s. gives at s (comma_of x y))) s r
      (λ x hx f. value_then Designates b hb (λ y s. gives at s (comma_of x.0 y)) x.1 r
      (λ y hy g. gives_folds at y.1 (comma_of x.0 y.0) r (λ z e. comma_folded target x.0 y.0 z hx hy e) g) f) h

  pub choose_folds : (c a b : At TreeMeaning) → TreeFolds c.node → TreeFolds a.node → TreeFolds b.node →
      TreeFolds (λ at s. value c s (λ c s. value a s (λ x s. value b s (λ y s. gives at s (choose_of target c x y)))))
  choose_folds c a b hc ha hb at s r h =
      value_then Designates c hc (λ c s. value a s (λ x s. value b s (λ y s. gives at s (choose_of target c x y)))) s r
      (λ q hq e. value_then Designates a ha (λ x s. value b s (λ y s. gives at s (choose_of target q.0 x y))) q.1 r
      (λ x hx f. value_then Designates b hb (λ y s. gives at s (choose_of target q.0 x.0 y)) x.1 r
      (λ y hy g. gives_folds at y.1 (choose_of target q.0 x.0 y.0) r (λ z i. choose_folded target q.0 x.0 y.0 z hq hx hy i) g) f) e) h

  binary_is : (s : State) (o : Option Operator) (x y r : Operand) → Good x → Good y → binary_by target (structures_of s) o x y ≡ Ok r → Good r
  binary_is s None x y r hx hy h = absurd (cc)
  binary_is s (Some o) x y r hx hy h = binary_folded target (structures_of s) o x y r hx hy h

  pub binary_folds : (mark : Mark) (a b : At TreeMeaning) → TreeFolds a.node → TreeFolds b.node →
      TreeFolds (λ at s. value a s (λ x s. value b s (λ y s. gives at s (binary_by target (structures_of s) (operator_of mark) x y))))
  binary_folds mark a b ha hb at s r h =
      value_then Designates a ha (λ x s. value b s (λ y s. gives at s (binary_by target (structures_of s) (operator_of mark) x y))) s r
      (λ x hx f. value_then Designates b hb (λ y s. gives at s (binary_by target (structures_of s) (operator_of mark) x.0 y)) x.1 r
      (λ y hy g. gives_folds at y.1 (binary_by target (structures_of y.1) (operator_of mark) x.0 y.0) r (λ z e. binary_is y.1 (operator_of mark) x.0 y.0 z hx hy e) g) f) h

  pub assign_folds : (mark : Mark) (a b : At TreeMeaning) → TreeFolds a.node → TreeFolds b.node →
      TreeFolds (λ at s. designator a s (λ x s. value b s (λ y s. gives at s (assign_of target (structures_of s) mark x y))))
  assign_folds mark a b ha hb at s r h =
      designator_then Designates a ha (λ x s. value b s (λ y s. gives at s (assign_of target (structures_of s) mark x y))) s r
      (λ x hx f. value_then Designates b hb (λ y s. gives at s (assign_of target (structures_of s) mark x.0 y)) x.1 r
      (λ y hy g. gives_folds at y.1 (assign_of target (structures_of y.1) mark x.0 y.0) r (λ z e. assign_folded target (structures_of y.1) mark x.0 y.0 z hx hy e) g) f) h

  pub postfix_folds : (mark : Mark) (e : At TreeMeaning) → TreeFolds e.node → TreeFolds (λ at s. designator e s (λ x s. gives at s (stepped_after (structures_of s) (is_minus mark) x)))
  postfix_folds mark e he at s r h =
      designator_then Designates e he (λ x s. gives at s (stepped_after (structures_of s) (is_minus mark) x)) s r
      (λ x hx g. gives_folds at x.1 (stepped_after (structures_of x.1) (is_minus mark) x.0) r (λ z f. stepped_after_folded target (structures_of x.1) (is_minus mark) x.0 z hx f) g) h

  -- ---- devices

  pointed_folds : (at inner : ℕ) (x : TypedExpr) (s : State) (r : TypedExpr × State) → Designates x → and_then (valued inner x s) (λ p s. whole at s (indirection p)) ≡ Ok r → Designates r.0
  pointed_folds at inner x s r d h =
      let p = then_found (valued inner x s) (λ p s. whole at s (indirection p)) r h in
      indirection_folded target p.0.0 r.0 (valued_folds inner x s p.0 d p.1) (whole_found at p.0.1 (indirection p.0.0) r p.2)

  no_device_folds : (n : ℤ) (t : CType) (r : TypedExpr) → no_device n t ≡ Ok r → Designates r
  no_device_folds n t r h = indirection_folded target (null t) r (null_folded target t) (must_ok (int_eq n (pos 0)) rule.Device (indirection (null t)) r h).1

  at_null : (at : ℕ) (n : ℤ) (t : CType) (s : State) (r : TypedExpr × State) → whole at s (no_device n t) ≡ Ok r → Designates r.0
  at_null at n t s r h = no_device_folds n t r.0 (whole_found at s (no_device n t) r h)

  with_device_folds : (d : Device) (s : State) (o : Option ℕ) → Designates (with_device d s o).0
  with_device_folds d s (Some i) = device_folded target i
  with_device_folds d s None = device_folded target (length s.names)

  device_by : (b : Bool) (at : ℕ) (d : Device) (s : State) (r : TypedExpr × State) → (if b then Ok (with_device d s (number_of d s.names)) else whole at s (Err rule.Device)) ≡ Ok r → Designates r.0
  device_by true at d s r h = subst (λ (x : TypedExpr × State). Designates x.0) (found_is (with_device d s (number_of d s.names)) r h) (with_device_folds d s (number_of d s.names))
  device_by false at d s r h = absurd (cc)

  volatile_by : (b : Bool) (at : ℕ) (n : ℤ) (t to : CType) (d : Device) (s : State) (r : TypedExpr × State) → (if b then device_found target at n d s else whole at s (no_device n t)) ≡ Ok r → Designates r.0
  volatile_by true at n t to d s r h = device_by (fits_pointer target n) at d s r h
  volatile_by false at n t to d s r h = at_null at n t s r h

  register_folds : (at : ℕ) (n : ℤ) (t : CType) (s : State) (to : CType) (k : shape.Shape-F Shape CType Sig) (r : TypedExpr × State) → register_found target at n t s to k ≡ Ok r → Designates r.0
  register_folds at n t s to (shape.Int i) r h = volatile_by to.volatile at n t to (device_of n to.constant i) s r h
  register_folds at n t s to (shape.Pointer u) r h = at_null at n t s r h
  register_folds at n t s to (shape.Array of m) r h = at_null at n t s r h
  register_folds at n t s to (shape.Struct i) r h = at_null at n t s r h
  register_folds at n t s to (shape.Func sig) r h = at_null at n t s r h
  register_folds at n t s to shape.Void r h = at_null at n t s r h

  address_folds : (at : ℕ) (n : ℤ) (t : CType) (s : State) (k : shape.Shape-F Shape CType Sig) (r : TypedExpr × State) → address_found target at n t s k ≡ Ok r → Designates r.0
  address_folds at n t s (shape.Pointer to) r h = register_folds at n t s to (out-Shape to.shape) r h
  address_folds at n t s (shape.Int i) r h = absurd (cc)
  address_folds at n t s (shape.Array of m) r h = absurd (cc)
  address_folds at n t s (shape.Struct i) r h = absurd (cc)
  address_folds at n t s (shape.Func sig) r h = absurd (cc)
  address_folds at n t s shape.Void r h = absurd (cc)

  starred_folds : (at inner : ℕ) (x : TypedExpr) (s : State) (r : TypedExpr × State) → Designates x → starred target at inner x s ≡ Ok r → Designates r.0
  starred_folds at inner (IsPlace a t) s r d h = pointed_folds at inner (IsPlace a t) s r d h
  starred_folds at inner (IsValue x) s r d h = pointed_folds at inner (IsValue x) s r d h
  starred_folds at inner (IsFunction f sig) s r d h = pointed_folds at inner (IsFunction f sig) s r d h
  starred_folds at inner (IsIntrinsic i place) s r d h = pointed_folds at inner (IsIntrinsic i place) s r d h
  starred_folds at inner (IsAddress n t place) s r d h = address_folds at n t s (out-Shape t.shape) r h

  -- ---- prefixes

  unary_is : (o : Option UnaryOperator) (x r : Operand) → Good x → unary_by target o x ≡ Ok r → Good r
  unary_is None x r hx h = absurd (cc)
  unary_is (Some o) x r hx h = unary_folded target o x r hx h

  prefix_folds : (mark : Mark) (at inner : ℕ) (x : TypedExpr) (s : State) (p : Prefix) (r : TypedExpr × State) → Designates x → prefixed_by target mark at inner x s p ≡ Ok r → Designates r.0
  prefix_folds mark at inner x s prefix.Star r d h = starred_folds at inner x s r d h
  prefix_folds mark at inner x s prefix.Amp r d h =
      let y = then_found (designating x s) (λ x s. gives at s (address x)) r h in
      gives_folds at y.0.1 (address y.0.0) r (λ z e. address_folded target y.0.0 z (designating_folds x s y.0 d y.1) e) y.2
  prefix_folds mark at inner x s (prefix.Step down) r d h =
      let y = then_found (designating x s) (λ x s. gives at s (stepped_before target (structures_of s) down x)) r h in
      gives_folds at y.0.1 (stepped_before target (structures_of y.0.1) down y.0.0) r (λ z e. before_folded target (structures_of y.0.1) down y.0.0 z (designating_folds x s y.0 d y.1) e) y.2
  prefix_folds mark at inner x s prefix.OnValue r d h =
      let y = then_found (valued inner x s) (λ x s. gives at s (unary_by target (unary_operator_of mark) x)) r h in
      gives_folds at y.0.1 (unary_by target (unary_operator_of mark) y.0.0) r (λ z e. unary_is (unary_operator_of mark) y.0.0 z (valued_folds inner x s y.0 d y.1) e) y.2

  pub prefixed_folds : (mark : Mark) (e : At TreeMeaning) → TreeFolds e.node → TreeFolds (λ at s. and_then (e.node e.at s) (prefixed target mark at e.at))
  prefixed_folds mark e he at s r h =
      let x = then_found (e.node e.at s) (prefixed target mark at e.at) r h in
      prefix_folds mark at e.at x.0.0 x.0.1 (prefix_of mark) r (he e.at s x.0 x.1) x.2

  -- ---- sizes

  size_if : (s : State) (t : CType) (r : Operand) → size_of_type target s t ≡ Ok r → Good r
  size_if s t r h =
      let n = size_of target (structures_of s) (layouts_of s) t in
      size_folded target n r (must_ok (is_complete (structures_of s) t) rule.SizeOf (size_value target n) r h).1

  place_size : (s : State) (t : PlaceType) (r : Operand) → size_of_place target s t ≡ Ok r → Good r
  place_size s (ObjectPlace c w t) r h = size_if s t r h
  place_size s (DevicePlace c t) r h = size_folded target (bytes_of t target) r h
  place_size s (FunctionPlace sig) r h = absurd (cc)

  unfinished_size : (s : State) (b : Bool) (t : PlaceType) (r : Operand) → (if b then Err rule.SizeOf else size_of_place target s t) ≡ Ok r → Good r
  unfinished_size s true t r h = absurd (cc)
  unfinished_size s false t r h = place_size s t r h

  size_is : (s : State) (x : TypedExpr) (r : Operand) → sizeof_judged target s x ≡ Ok r → Good r
  size_is s (IsPlace a t) r h = unfinished_size s (is_unfinished a s) t r h
  size_is s (IsValue x) r h = size_if s (type_of_value x.type) r h
  size_is s (IsFunction f sig) r h = absurd (cc)
  size_is s (IsIntrinsic i place) r h = absurd (cc)
  size_is s (IsAddress n t place) r h = size_if s t r h

  forgotten_folds : (at count : ℕ) (s : State) (judged : Judged Operand) (r : TypedExpr × State) → ((x : Operand) → judged ≡ Ok x → Good x) → and_then (gives at s judged) (forgotten count) ≡ Ok r → Designates r.0
  forgotten_folds at count s judged r f h =
      let a = then_found (gives at s judged) (forgotten count) r h in
      subst Designates (answer_is a.0.0 (with_names (take count a.0.1.names) a.0.1) r a.2) (gives_folds at s judged a.0 f a.1)

  pub sizeof_folds : (e : At TreeMeaning) → TreeFolds (λ at s. designator e s (sizeof_found target at (length s.names)))
  sizeof_folds e at s r h =
      let a = then_found (designated_found e s) (sizeof_found target at (length s.names)) r h in
      forgotten_folds at (length s.names) a.0.1 (sizeof_judged target a.0.1 a.0.0) r (λ x k. size_is a.0.1 a.0.0 x k) a.2

  pub sizeof_type_folds : (t : TypeNameMeaning) → TreeFolds (λ at s. and_then (t false s) (sizeof_type_found target at (length s.names)))
  sizeof_type_folds t at s r h =
      let a = then_found (t false s) (sizeof_type_found target at (length s.names)) r h in
      forgotten_folds at (length s.names) a.0.1 (size_of_type target a.0.1 a.0.0) r (λ x k. size_if a.0.1 a.0.0 x k) a.2

  -- ---- casts

  pub cast_folds : (t : TypeNameMeaning) (e : At TreeMeaning) → TreeFolds e.node → TreeFolds (λ at s. and_then (t true s) (λ t s. value e s (λ x s. whole at s (cast_of target at t x))))
  cast_folds t e he at s r h =
      let u = then_found (t true s) (λ t s. value e s (λ x s. whole at s (cast_of target at t x))) r h in
      value_then Designates e he (λ x s. whole at s (cast_of target at u.0.0 x)) u.0.1 r
      (λ x hx g. cast_of_folded target at u.0.0 x.0 r.0 hx (whole_found at x.1 (cast_of target at u.0.0 x.0) r g)) u.2

  -- ---- subscripts, calls and members

  as_value_folds : (at : ℕ) (x : TypedExpr) (s : State) (r : TypedExpr × State) → Designates x → as_value at x s ≡ Ok r → Designates r.0
  as_value_folds at x s r d h =
      let y = then_found (valued at x s) (λ y s. Ok (IsValue y, s)) r h in
      subst Designates (answer_is (IsValue y.0.0) y.0.1 r y.2) (valued_folds at x s y.0 d y.1)

  base_by : (b : Bool) (at : ℕ) (x : TypedExpr) (s : State) (r : TypedExpr × State) → Designates x → (if b then answer x s else as_value at x s) ≡ Ok r → Designates r.0
  base_by true at x s r d h = subst Designates (answer_is x s r h) d
  base_by false at x s r d h = as_value_folds at x s r d h

  subscript_is : (s : State) (x : TypedExpr) (i : Operand) (r : TypedExpr) → Designates x → Good i → subscript_judged (structures_of s) x i ≡ Ok r → Designates r
  subscript_is s (IsPlace a t) i r hx hi h = element_of_folded target a t i r hx hi h
  subscript_is s (IsValue x) i r hx hi h = subscripted_folded target (structures_of s) x i r hx hi h
  subscript_is s (IsFunction f sig) i r hx hi h = absurd (cc)
  subscript_is s (IsIntrinsic j place) i r hx hi h = absurd (cc)
  subscript_is s (IsAddress n t place) i r hx hi h = absurd (cc)

  pub subscript_folds : (a i : At TreeMeaning) → TreeFolds a.node → TreeFolds i.node →
      TreeFolds (λ at s. and_then (a.node a.at s) (λ x s. and_then (subscript_base a.at x s) (λ x s. value i s (λ y s. whole at s (subscript_judged (structures_of s) x y)))))
  subscript_folds a i ha hi at s r h =
      let q = then_found (a.node a.at s) (λ x s. and_then (subscript_base a.at x s) (λ x s. value i s (λ y s. whole at s (subscript_judged (structures_of s) x y)))) r h in
      let x = then_found (subscript_base a.at q.0.0 q.0.1) (λ x s. value i s (λ y s. whole at s (subscript_judged (structures_of s) x y))) r q.2 in
      let hx : Designates x.0.0 = base_by (is_array_place q.0.0) a.at q.0.0 q.0.1 x.0 (ha a.at s q.0 q.1) x.1 in
      value_then Designates i hi (λ y s. whole at s (subscript_judged (structures_of s) x.0.0 y)) x.0.1 r
      (λ y hy k. subscript_is y.1 x.0.0 y.0 r.0 hx hy (whole_found at y.1 (subscript_judged (structures_of y.1) x.0.0 y.0) r k)) x.2

  callee_folds : (at : ℕ) (x : TypedExpr) (s : State) (o : Option Intr) (r : TypedExpr × State) → Designates x → callee_by at x s o ≡ Ok r → Designates r.0
  callee_folds at x s (Some i) r d h = subst Designates (answer_is x s r h) d
  callee_folds at x s None r d h = as_value_folds at x s r d h

  argument_folds : (e : At TreeMeaning) → TreeFolds e.node → (before : List Operand) (s : State) (r : List Operand × State) → Each Good before → argument_found e before s ≡ Ok r → Each Good r.0
  argument_folds e he before s r p h = one_more_found Good before (value_found e s) r (λ x f. value_folds e he s x f) p h

  arguments_fold : (args : List (At TreeMeaning)) → Each (λ (a : At TreeMeaning). TreeFolds a.node) args → (s : State) (r : List Operand × State) → arguments_found args s ≡ Ok r → Each Good r.0
  arguments_fold args h s r f = in_turn_found argument_found (λ (a : At TreeMeaning). TreeFolds a.node) (Each Good) argument_folds args h [] s r tt f

  call_is : (x : TypedExpr) (xs : List Operand) (r : Operand) → Designates x → Each Good xs → call_judged target x xs ≡ Ok r → Good r
  call_is (IsIntrinsic i place) xs r hx h e = intrinsic_folded target i xs r h e
  call_is (IsValue f) xs r hx h e = called_folded target f xs r hx h e
  call_is (IsPlace a t) xs r hx h e = absurd (cc)
  call_is (IsFunction f sig) xs r hx h e = absurd (cc)
  call_is (IsAddress n t place) xs r hx h e = absurd (cc)

  pub call_folds : (f : At TreeMeaning) (args : List (At TreeMeaning)) → TreeFolds f.node → Each (λ (a : At TreeMeaning). TreeFolds a.node) args →
      TreeFolds (λ at s. and_then (f.node f.at s) (λ x s. and_then (callee f.at x s) (λ x s. and_then (arguments_found args s) (λ xs s. gives at s (call_judged target x xs)))))
  call_folds f args hf ha at s r h =
      let q = then_found (f.node f.at s) (λ x s. and_then (callee f.at x s) (λ x s. and_then (arguments_found args s) (λ xs s. gives at s (call_judged target x xs)))) r h in
      let x = then_found (callee f.at q.0.0 q.0.1) (λ x s. and_then (arguments_found args s) (λ xs s. gives at s (call_judged target x xs))) r q.2 in
      let xs = then_found (arguments_found args x.0.1) (λ xs s. gives at s (call_judged target x.0.0 xs)) r x.2 in
      gives_folds at xs.0.1 (call_judged target x.0.0 xs.0.0) r
      (λ y e. call_is x.0.0 xs.0.0 y (callee_folds f.at q.0.0 q.0.1 (intrinsic_in q.0.0) x.0 (hf f.at s q.0 q.1) x.1) (arguments_fold args ha x.0.1 xs.0 xs.1) e) xs.2

  pub member_folds : (e : At TreeMeaning) (x : Name) → TreeFolds e.node → TreeFolds (λ at s. designator e s (λ y s. whole at s (dot (structures_of s) x y)))
  member_folds e x he at s r h =
      designator_then Designates e he (λ y s. whole at s (dot (structures_of s) x y)) s r
      (λ y hy g. dot_folded target (structures_of y.1) x y.0 r.0 hy (whole_found at y.1 (dot (structures_of y.1) x y.0) r g)) h

  pub arrow_folds : (e : At TreeMeaning) (x : Name) → TreeFolds e.node → TreeFolds (λ at s. value e s (λ y s. whole at s (arrow (structures_of s) x y)))
  arrow_folds e x he at s r h =
      value_then Designates e he (λ y s. whole at s (arrow (structures_of s) x y)) s r
      (λ y hy g. arrow_folded target (structures_of y.1) x y.0 r.0 hy (whole_found at y.1 (arrow (structures_of y.1) x y.0) r g)) h

-- What expressions designate is typed, where their parts are (C99 6.5): construct by construct, over the meanings of the parts.
use Rattle.std.proofs.Common.{◌≡◌, ℕ, ℤ, pos, Bool, true, false, List, [], length, Option, Some, None, Ok, Err, refl, sym, subst}
use Rattle.std.specs.Prelude.{take, if◌then◌else◌}
use Rattle.std.specs.Ordering.{int_eq}
use Rattle.cc_terms.specs.CcDesignators.Assignments.{assign_of, stepped_before, stepped_after}
use Rattle.cc_terms.specs.CcDesignators.Casts.{cast_of, size_value}
use Rattle.cc_terms.specs.CcDesignators.Designators.{TypedExpr, IsPlace, IsValue, IsFunction, IsIntrinsic, IsAddress, value_at, null}
use Rattle.cc_terms.specs.CcDesignators.Postfix.{is_array_place, dot, arrow, address, indirection}
use Rattle.cc_terms.specs.CcLex.declared.token.Mark.{Mark}
use Rattle.cc_program.specs.CcNum.Integers.{bytes_of}
use Rattle.cc_terms.specs.CcOperands.Choices.{choose_of, comma_of}
use Rattle.cc_terms.specs.CcOperands.Operands.{Operand, operand}
use Rattle.cc_terms.specs.CcOperands.Operators.{operator_of, unary_operator_of}
use Rattle.cc_terms.specs.CcOperands.Qualified.{type_of_value}
use Rattle.cc_terms.specs.CcOperands.Verdicts.{Judged}
use Rattle.cc_terms.specs.CcOperands.declared.operator.Operator.{Operator}
use Rattle.cc_terms.specs.CcOperands.declared.operator.UnaryOperator.{UnaryOperator}
use Rattle.cc_terms.specs.CcOperands.declared.rule.Rule.TheVariants as rule
use Rattle.cc_operand_types.specs.Typed.{IsNullType, IsTypedOperand, IsTypedExpr}
use Rattle.cc_terms.specs.CcSyntax.Views.{View}
use Rattle.cc_operand_types.proofs.Calls.{called_typed}
use Rattle.cc_operand_types.proofs.Casts.{cast_of_typed, size_typed}
use Rattle.cc_operand_types.proofs.Choices.{choose_typed, comma_typed}
use Rattle.cc_operand_types.proofs.Intrinsics.{intrinsic_typed}
use Rattle.cc_operand_types.proofs.Nulls.{null_operand}
use Rattle.cc_operand_types.proofs.Operands.{ok_is, must_ok, as_operand}
use Rattle.cc_operand_types.proofs.Places.{value_typed, address_typed, element_of_typed, subscripted_typed, indirection_typed, dot_typed, arrow_typed}
use Rattle.cc_operand_types.proofs.Pointers.{binary_typed, unary_typed}
use Rattle.cc_operand_types.proofs.Stores.{assign_typed, before_typed, after_typed}
use Rattle.cc_terms.specs.CcTypedTerms.Devices.{starred}
use Rattle.cc_terms.specs.CcTypedTerms.Operators.{prefix_of, is_minus, intrinsic_in, binary_by, unary_by}
use Rattle.cc_terms.specs.CcTypedTerms.Sizes.{size_of_type, size_of_place, sizeof_judged}
use Rattle.cc_terms.specs.CcTypedTerms.Values.{null_judged, found_value, gives, valued, value_found, value, designating, designated_found, designator}
use Rattle.cc_terms.specs.CcTypedTerms.declared.prefix.Prefix.{Prefix}
use Rattle.cc_terms.specs.CcTypedTerms.declared.prefix.Prefix.TheVariants as prefix
use Rattle.cc_program.proofs.Each.{Each}
use Rattle.cc_program.specs.declared.expr.Expr.{FuncAddr}
use Rattle.cc_program.specs.declared.expr.Intr.{Intr}
use Rattle.cc_program.specs.declared.types.CType.{CType}
use Rattle.cc_program.specs.declared.types.Shape.{out-Shape}
use Rattle.cc_terms.specs.CcScopes.State.{State, structures_of, layouts_of, is_unfinished, with_names}
use Rattle.cc_terms.specs.CcScopes.Verdicts.{Found, whole, and_then}
use Rattle.cc_terms.specs.CcSpecifiers.Objects.{size_of}
use Rattle.cc_terms.specs.CcSyntax.Types.{Named, is_complete}
use Rattle.cc_terms.specs.CcSyntax.Values.{PlaceType, DevicePlace, ObjectPlace, FunctionPlace, ToFunction}
use Rattle.cc_tree.specs.declared.at.At.{At}
use Rattle.cc_terms.specs.Expressions.{argument_found, arguments_found}
use Rattle.cc_terms.specs.Meanings.{TreeMeaning, TypeNameMeaning}
use Rattle.cc_terms.specs.Operations.{as_value, subscript_base, subscript_judged, callee_by, callee, call_judged, prefixed_by, prefixed, forgotten, sizeof_found, sizeof_type_found}
use Rattle.cc_sound_terms.specs.Behind.{Extends}
use Rattle.cc_sound_terms.specs.Growing.{IsConstant}
use Rattle.cc_sound_terms.specs.Knowing.{KnowsStructures}
use Rattle.cc_sound_terms.specs.Standing.{IsNamedType}
use Rattle.cc_sound_terms.specs.Typing.{KnowsTypes, Knows}
use Rattle.cc_sound_terms.proofs.Founds.{answer, answer_is, then_found, whole_found}
use Rattle.cc_sound_terms.proofs.Behind.{forgotten_adds}
use Rattle.cc_sound_terms.proofs.Known.{knows_first, knows_second, within_known}
use Rattle.cc_sound_terms.proofs.Leaves.{address_holds}
use Rattle.cc_sound_terms.proofs.Meant.{TypeNameHolds, TreeHolds as MeansTyped}
use Rattle.cc_sound_terms.proofs.NamedTypes.{null_type_of}
use Rattle.cc_sound_terms.proofs.Outcomes.{Outcome, chained, in_turn_holds, staying, whole_holds, one_more_holds}
use Rattle.cc_sound_terms.proofs.Within.{binary_by_within, assign_within, before_within, after_within, subscripted_within, dot_within, arrow_within}

module _ (v : View) (locals : List Named) where
  abbrev Typed : Operand → Type 0
  Typed x = IsTypedOperand v locals x

  abbrev Designates : TypedExpr → Type 0
  Designates x = IsTypedExpr v locals x

  abbrev Holds : (A : Type 0) → (A → Type 0) → State → A × State → Type 0
  Holds A T s r = Outcome v (IsConstant v.target) (Knows v locals) A T s r

  abbrev TreeHolds : TreeMeaning → Type 0
  TreeHolds m = MeansTyped v locals m

  -- ---- steps

  then_holds : {A B : Type 0} (T : A → Type 0) (U : B → Type 0) (found : Found A) (next : A → State → Found B) (s : State) (r : B × State) →
      ((x : A × State) → found ≡ Ok x → Holds A T s x) → ((x : A × State) → next x.0 x.1 ≡ Ok r → Holds B (λ y. T x.0 → U y) x.1 r) → and_then found next ≡ Ok r → Holds B U s r
  then_holds T U found next s r f g h = chained v (IsConstant v.target) (Knows v locals) (knows_first v locals) (knows_second v locals) T U found next s r f g h

  stays : (A : Type 0) (T : A → Type 0) (s : State) (r : A × State) → r.1 ≡ s → (Knows v locals s s → T r.0) → Holds A T s r
  stays A T s r e f = staying v (IsConstant v.target) (Knows v locals) (knows_first v locals) (knows_second v locals) A T s r e f

  judged_holds : (A : Type 0) (T : A → Type 0) (at : ℕ) (s : State) (judged : Judged A) (r : A × State) → ((x : A) → judged ≡ Ok x → Knows v locals s s → T x) → whole at s judged ≡ Ok r → Holds A T s r
  judged_holds A T at s judged r f h = whole_holds v (IsConstant v.target) (Knows v locals) (knows_first v locals) (knows_second v locals) A T at s judged r f h

  value_is : (judged : Judged Operand) (x : TypedExpr) → found_value judged ≡ Ok x → (y : Operand) × (judged ≡ Ok y) × (IsValue y ≡ x)
  value_is (Ok y) x h = (y, refl, ok_is h)
  value_is (Err broken) x h = absurd (cc)

  gives_holds : (T : TypedExpr → Type 0) (at : ℕ) (s : State) (judged : Judged Operand) (r : TypedExpr × State) → ((x : Operand) → judged ≡ Ok x → Knows v locals s s → T (IsValue x)) → gives at s judged ≡ Ok r → Holds TypedExpr T s r
  gives_holds T at s judged r f h = judged_holds TypedExpr T at s (found_value judged) r (λ x e w. let y = value_is judged x e in subst T y.2 (f y.0 y.1 w)) h

  -- ---- values, and what is designated

  null_by : (b : Bool) (t : CType) (r : Operand) → IsNullType v t → (if b then Ok (null t) else Err rule.Cast) ≡ Ok r → Typed r
  null_by true t r w h = subst Typed (ok_is h) (null_operand v locals t w)
  null_by false t r w h = absurd (cc)

  null_is : (n : ℤ) (t : CType) (r : Operand) → IsNullType v t → null_judged n t ≡ Ok r → Typed r
  null_is n t r w h = null_by (int_eq n (pos 0)) t r w h

  valued_holds : (at : ℕ) (x : TypedExpr) (s : State) (r : Operand × State) → valued at x s ≡ Ok r → Holds Operand (λ y. Designates x → Typed y) s r
  valued_holds at (IsPlace a t) s r h = judged_holds Operand (λ y. Designates (IsPlace a t) → Typed y) at s (value_at a t) r (λ y e w d. value_typed v locals a t y d e) h
  valued_holds at (IsValue x) s r h = let e = answer_is x s r h in stays Operand (λ y. Typed x → Typed y) s r e.1 (λ w d. subst Typed (sym e.0) d)
  valued_holds at (IsFunction f sig) s r h =
      let e = answer_is (operand (FuncAddr f) (ToFunction sig)) s r h in
      stays Operand (λ y. Designates (IsFunction f sig) → Typed y) s r e.1 (λ w d. subst Typed (sym e.0) (as_operand v locals (FuncAddr f) (ToFunction sig) refl d))
  valued_holds at (IsIntrinsic i place) s r h = absurd (cc)
  valued_holds at (IsAddress n t place) s r h = judged_holds Operand (λ y. IsNullType v t → Typed y) place s (null_judged n t) r (λ y e w d. null_is n t y d e) h

  pub value_holds : (e : At TreeMeaning) → TreeHolds e.node → (s : State) (r : Operand × State) → value_found e s ≡ Ok r → Holds Operand Typed s r
  value_holds e m s r h = then_holds Designates Typed (e.node e.at s) (valued e.at) s r (λ x f. m e.at s x f) (λ x f. valued_holds e.at x.0 x.1 r f) h

  itself_holds : (x : TypedExpr) (s : State) (r : TypedExpr × State) → answer x s ≡ Ok r → Holds TypedExpr (λ y. Designates x → Designates y) s r
  itself_holds x s r h = let e = answer_is x s r h in stays TypedExpr (λ y. Designates x → Designates y) s r e.1 (λ w d. subst Designates (sym e.0) d)

  designating_holds : (x : TypedExpr) (s : State) (r : TypedExpr × State) → designating x s ≡ Ok r → Holds TypedExpr (λ y. Designates x → Designates y) s r
  designating_holds (IsPlace a t) s r h = itself_holds (IsPlace a t) s r h
  designating_holds (IsValue x) s r h = itself_holds (IsValue x) s r h
  designating_holds (IsFunction f sig) s r h = itself_holds (IsFunction f sig) s r h
  designating_holds (IsIntrinsic i place) s r h = absurd (cc)
  designating_holds (IsAddress n t place) s r h = gives_holds (λ y. IsNullType v t → Designates y) place s (null_judged n t) r (λ y e w d. null_is n t y d e) h

  pub designator_holds : (e : At TreeMeaning) → TreeHolds e.node → (s : State) (r : TypedExpr × State) → designated_found e s ≡ Ok r → Holds TypedExpr Designates s r
  designator_holds e m s r h = then_holds Designates Designates (e.node e.at s) designating s r (λ x f. m e.at s x f) (λ x f. designating_holds x.0 x.1 r f) h

  -- a value, and then what stands behind it
  value_then : {B : Type 0} (U : B → Type 0) (e : At TreeMeaning) → TreeHolds e.node → (next : Operand → State → Found B) (s : State) (r : B × State) →
      ((x : Operand × State) → next x.0 x.1 ≡ Ok r → Holds B (λ y. Typed x.0 → U y) x.1 r) → value e s next ≡ Ok r → Holds B U s r
  value_then U e m next s r g h = then_holds Typed U (value_found e s) next s r (λ x f. value_holds e m s x f) g h

  designator_then : {B : Type 0} (U : B → Type 0) (e : At TreeMeaning) → TreeHolds e.node → (next : TypedExpr → State → Found B) (s : State) (r : B × State) →
      ((x : TypedExpr × State) → next x.0 x.1 ≡ Ok r → Holds B (λ y. Designates x.0 → U y) x.1 r) → designator e s next ≡ Ok r → Holds B U s r
  designator_then U e m next s r g h = then_holds Designates U (designated_found e s) next s r (λ x f. designator_holds e m s x f) g h

  part_then : {B : Type 0} (U : B → Type 0) (e : At TreeMeaning) → TreeHolds e.node → (next : TypedExpr → State → Found B) (s : State) (r : B × State) →
      ((x : TypedExpr × State) → next x.0 x.1 ≡ Ok r → Holds B (λ y. Designates x.0 → U y) x.1 r) → and_then (e.node e.at s) next ≡ Ok r → Holds B U s r
  part_then U e m next s r g h = then_holds Designates U (e.node e.at s) next s r (λ x f. m e.at s x f) g h

  -- ---- operators

  pub comma_holds : (a b : At TreeMeaning) → TreeHolds a.node → TreeHolds b.node → TreeHolds (λ at s. value a s (λ x s. value b s (λ y s. gives at s (comma_of x y))))
  comma_holds a b ha hb at s r h =
      value_then Designates a ha (λ x s. value b s (λ y s. gives at s (comma_of x y))) s r
      (λ x f. value_then (λ z. Typed x.0 → Designates z) b hb (λ y s. gives at s (comma_of x.0 y)) x.1 r
      (λ y g. gives_holds (λ z. Typed y.0 → Typed x.0 → Designates z) at y.1 (comma_of x.0 y.0) r (λ z e w hy hx. comma_typed v locals x.0 y.0 z hx hy e) g) f) h

  pub choose_holds : (c a b : At TreeMeaning) → TreeHolds c.node → TreeHolds a.node → TreeHolds b.node →
      TreeHolds (λ at s. value c s (λ c s. value a s (λ x s. value b s (λ y s. gives at s (choose_of v.target c x y)))))
  choose_holds c a b hc ha hb at s r h =
      value_then Designates c hc (λ c s. value a s (λ x s. value b s (λ y s. gives at s (choose_of v.target c x y)))) s r
      (λ q e. value_then (λ z. Typed q.0 → Designates z) a ha (λ x s. value b s (λ y s. gives at s (choose_of v.target q.0 x y))) q.1 r
      (λ x f. value_then (λ z. Typed x.0 → Typed q.0 → Designates z) b hb (λ y s. gives at s (choose_of v.target q.0 x.0 y)) x.1 r
      (λ y g. gives_holds (λ z. Typed y.0 → Typed x.0 → Typed q.0 → Designates z) at y.1 (choose_of v.target q.0 x.0 y.0) r (λ z i w hy hx hq. choose_typed v locals q.0 x.0 y.0 z hq hx hy i) g) f) e) h

  binary_is : (mark : Mark) (o : Option Operator) (x y r : Operand) → operator_of mark ≡ o → Typed x → Typed y → binary_by v.target v.structures o x y ≡ Ok r → Typed r
  binary_is mark None x y r e hx hy h = absurd (cc)
  binary_is mark (Some o) x y r e hx hy h = binary_typed v locals mark o e x y r hx hy h

  pub binary_holds : (mark : Mark) (a b : At TreeMeaning) → TreeHolds a.node → TreeHolds b.node →
      TreeHolds (λ at s. value a s (λ x s. value b s (λ y s. gives at s (binary_by v.target (structures_of s) (operator_of mark) x y))))
  binary_holds mark a b ha hb at s r h =
      value_then Designates a ha (λ x s. value b s (λ y s. gives at s (binary_by v.target (structures_of s) (operator_of mark) x y))) s r
      (λ x f. value_then (λ z. Typed x.0 → Designates z) b hb (λ y s. gives at s (binary_by v.target (structures_of s) (operator_of mark) x.0 y)) x.1 r
      (λ y g. gives_holds (λ z. Typed y.0 → Typed x.0 → Designates z) at y.1 (binary_by v.target (structures_of y.1) (operator_of mark) x.0 y.0) r
      (λ z e w hy hx. binary_is mark (operator_of mark) x.0 y.0 z refl hx hy (binary_by_within (structures_of y.1) v.structures (within_known v y.1 w.types.structures) v.target (operator_of mark) x.0 y.0 z e)) g) f) h

  pub assign_holds : (mark : Mark) (a b : At TreeMeaning) → TreeHolds a.node → TreeHolds b.node →
      TreeHolds (λ at s. designator a s (λ x s. value b s (λ y s. gives at s (assign_of v.target (structures_of s) mark x y))))
  assign_holds mark a b ha hb at s r h =
      designator_then Designates a ha (λ x s. value b s (λ y s. gives at s (assign_of v.target (structures_of s) mark x y))) s r
      (λ x f. value_then (λ z. Designates x.0 → Designates z) b hb (λ y s. gives at s (assign_of v.target (structures_of s) mark x.0 y)) x.1 r
      (λ y g. gives_holds (λ z. Typed y.0 → Designates x.0 → Designates z) at y.1 (assign_of v.target (structures_of y.1) mark x.0 y.0) r
      (λ z e w hy hx. assign_typed v locals mark x.0 y.0 z hx hy (assign_within (structures_of y.1) v.structures (within_known v y.1 w.types.structures) v.target mark x.0 y.0 z e)) g) f) h

  pub postfix_holds : (mark : Mark) (e : At TreeMeaning) → TreeHolds e.node → TreeHolds (λ at s. designator e s (λ x s. gives at s (stepped_after (structures_of s) (is_minus mark) x)))
  postfix_holds mark e he at s r h =
      designator_then Designates e he (λ x s. gives at s (stepped_after (structures_of s) (is_minus mark) x)) s r
      (λ x g. gives_holds (λ z. Designates x.0 → Designates z) at x.1 (stepped_after (structures_of x.1) (is_minus mark) x.0) r
      (λ z f w hx. after_typed v locals (is_minus mark) x.0 z hx (after_within (structures_of x.1) v.structures (within_known v x.1 w.types.structures) (is_minus mark) x.0 z f)) g) h

  -- ---- prefixes

  unary_is : (o : Option UnaryOperator) (x r : Operand) → Typed x → unary_by v.target o x ≡ Ok r → Typed r
  unary_is None x r hx h = absurd (cc)
  unary_is (Some o) x r hx h = unary_typed v locals o x r hx h

  pointed_holds : (at inner : ℕ) (x : TypedExpr) (s : State) (r : TypedExpr × State) → and_then (valued inner x s) (λ p s. whole at s (indirection p)) ≡ Ok r → Holds TypedExpr (λ y. Designates x → Designates y) s r
  pointed_holds at inner x s r h =
      then_holds (λ p. Designates x → Typed p) (λ y. Designates x → Designates y) (valued inner x s) (λ p s. whole at s (indirection p)) s r (λ p f. valued_holds inner x s p f)
      (λ p g. judged_holds TypedExpr (λ y. (Designates x → Typed p.0) → Designates x → Designates y) at p.1 (indirection p.0) r (λ y e w f d. indirection_typed v locals p.0 y (f d) e) g) h

  starred_holds : (at inner : ℕ) (x : TypedExpr) (s : State) (r : TypedExpr × State) → starred v.target at inner x s ≡ Ok r → Holds TypedExpr (λ y. Designates x → Designates y) s r
  starred_holds at inner (IsPlace a t) s r h = pointed_holds at inner (IsPlace a t) s r h
  starred_holds at inner (IsValue x) s r h = pointed_holds at inner (IsValue x) s r h
  starred_holds at inner (IsFunction f sig) s r h = pointed_holds at inner (IsFunction f sig) s r h
  starred_holds at inner (IsIntrinsic i place) s r h = pointed_holds at inner (IsIntrinsic i place) s r h
  starred_holds at inner (IsAddress n t place) s r h = address_holds v locals at n t s (out-Shape t.shape) r h

  prefix_holds : (mark : Mark) (at inner : ℕ) (x : TypedExpr) (s : State) (p : Prefix) (r : TypedExpr × State) → prefixed_by v.target mark at inner x s p ≡ Ok r → Holds TypedExpr (λ y. Designates x → Designates y) s r
  prefix_holds mark at inner x s prefix.Star r h = starred_holds at inner x s r h
  prefix_holds mark at inner x s prefix.Amp r h =
      then_holds (λ y. Designates x → Designates y) (λ y. Designates x → Designates y) (designating x s) (λ x s. gives at s (address x)) s r (λ y f. designating_holds x s y f)
      (λ y g. gives_holds (λ z. (Designates x → Designates y.0) → Designates x → Designates z) at y.1 (address y.0) r (λ z e w f d. address_typed v locals y.0 z (f d) e) g) h
  prefix_holds mark at inner x s (prefix.Step down) r h =
      then_holds (λ y. Designates x → Designates y) (λ y. Designates x → Designates y) (designating x s) (λ x s. gives at s (stepped_before v.target (structures_of s) down x)) s r (λ y f. designating_holds x s y f)
      (λ y g. gives_holds (λ z. (Designates x → Designates y.0) → Designates x → Designates z) at y.1 (stepped_before v.target (structures_of y.1) down y.0) r
      (λ z e w f d. before_typed v locals down y.0 z (f d) (before_within (structures_of y.1) v.structures (within_known v y.1 w.types.structures) v.target down y.0 z e)) g) h
  prefix_holds mark at inner x s prefix.OnValue r h =
      then_holds (λ y. Designates x → Typed y) (λ y. Designates x → Designates y) (valued inner x s) (λ x s. gives at s (unary_by v.target (unary_operator_of mark) x)) s r (λ y f. valued_holds inner x s y f)
      (λ y g. gives_holds (λ z. (Designates x → Typed y.0) → Designates x → Designates z) at y.1 (unary_by v.target (unary_operator_of mark) y.0) r (λ z e w f d. unary_is (unary_operator_of mark) y.0 z (f d) e) g) h

  pub prefixed_holds : (mark : Mark) (e : At TreeMeaning) → TreeHolds e.node → TreeHolds (λ at s. and_then (e.node e.at s) (prefixed v.target mark at e.at))
  prefixed_holds mark e he at s r h = part_then Designates e he (prefixed v.target mark at e.at) s r (λ x g. prefix_holds mark at e.at x.0 x.1 (prefix_of mark) r g) h

  -- ---- sizes

  size_if : (s : State) (t : CType) (r : Operand) → size_of_type v.target s t ≡ Ok r → Typed r
  size_if s t r h =
      let m = must_ok (is_complete (structures_of s) t) rule.SizeOf (size_value v.target (size_of v.target (structures_of s) (layouts_of s) t)) r h in
      size_typed v locals (size_of v.target (structures_of s) (layouts_of s) t) r m.1

  place_size : (s : State) (t : PlaceType) (r : Operand) → size_of_place v.target s t ≡ Ok r → Typed r
  place_size s (ObjectPlace c w t) r h = size_if s t r h
  place_size s (DevicePlace c t) r h = size_typed v locals (bytes_of t v.target) r h
  place_size s (FunctionPlace sig) r h = absurd (cc)

  unfinished_size : (s : State) (b : Bool) (t : PlaceType) (r : Operand) → (if b then Err rule.SizeOf else size_of_place v.target s t) ≡ Ok r → Typed r
  unfinished_size s true t r h = absurd (cc)
  unfinished_size s false t r h = place_size s t r h

  size_is : (s : State) (x : TypedExpr) (r : Operand) → sizeof_judged v.target s x ≡ Ok r → Typed r
  size_is s (IsPlace a t) r h = unfinished_size s (is_unfinished a s) t r h
  size_is s (IsValue x) r h = size_if s (type_of_value x.type) r h
  size_is s (IsFunction f sig) r h = absurd (cc)
  size_is s (IsIntrinsic i place) r h = absurd (cc)
  size_is s (IsAddress n t place) r h = size_if s t r h

  -- what is declared in the operand is forgotten
  forgotten_holds : (at : ℕ) (s t : State) (judged : Judged Operand) (r : TypedExpr × State) → Extends v s t → ((x : Operand) → judged ≡ Ok x → Typed x) → and_then (gives at t judged) (forgotten (length s.names)) ≡ Ok r →
      Holds TypedExpr Designates s r
  forgotten_holds at s t judged r g f h =
      let a = then_found (gives at t judged) (forgotten (length s.names)) r h in
      let b = whole_found at t (found_value judged) a.0 a.1 in
      let y = value_is judged a.0.0 b.0 in
      let e = answer_is a.0.0 (with_names (take (length s.names) a.0.1.names) a.0.1) r a.2 in
      record {
        grows = subst (λ (u : State). Extends v s u) (sym e.1) (forgotten_adds v (IsConstant v.target) s a.0.1 (subst (λ (u : State). Extends v s u) (sym b.1) g));
        holds = λ w. subst Designates (sym e.0) (subst Designates y.2 (f y.0 y.1));
      }

  pub sizeof_holds : (e : At TreeMeaning) → TreeHolds e.node → TreeHolds (λ at s. designator e s (sizeof_found v.target at (length s.names)))
  sizeof_holds e he at s r h =
      let a = then_found (designated_found e s) (sizeof_found v.target at (length s.names)) r h in
      let b = designator_holds e he s a.0 a.1 in
      forgotten_holds at s a.0.1 (sizeof_judged v.target a.0.1 a.0.0) r b.grows (size_is a.0.1 a.0.0) a.2

  -- ---- type names

  pub sizeof_type_holds : (t : TypeNameMeaning) → TypeNameHolds v t → TreeHolds (λ at s. and_then (t false s) (sizeof_type_found v.target at (length s.names)))
  sizeof_type_holds t ht at s r h =
      let a = then_found (t false s) (sizeof_type_found v.target at (length s.names)) r h in
      let b = ht false s a.0 a.1 in
      forgotten_holds at s a.0.1 (size_of_type v.target a.0.1 a.0.0) r b.grows (size_if a.0.1 a.0.0) a.2

  named_type : (cast : Bool) (s : State) (r : CType × State) → Outcome v (IsConstant v.target) (KnowsTypes v) CType (IsNamedType v cast) s r → Holds CType (IsNamedType v cast) s r
  named_type cast s r o = record { grows = o.grows; holds = λ w. o.holds w.types }

  pub cast_holds : (t : TypeNameMeaning) (e : At TreeMeaning) → TypeNameHolds v t → TreeHolds e.node → TreeHolds (λ at s. and_then (t true s) (λ t s. value e s (λ x s. whole at s (cast_of v.target at t x))))
  cast_holds t e ht he at s r h =
      then_holds (IsNamedType v true) Designates (t true s) (λ t s. value e s (λ x s. whole at s (cast_of v.target at t x))) s r (λ u f. named_type true s u (ht true s u f))
      (λ u f. value_then (λ z. IsNamedType v true u.0 → Designates z) e he (λ x s. whole at s (cast_of v.target at u.0 x)) u.1 r
      (λ x g. judged_holds TypedExpr (λ z. Typed x.0 → IsNamedType v true u.0 → Designates z) at x.1 (cast_of v.target at u.0 x.0) r
      (λ z i w hx hu. cast_of_typed v locals at u.0 x.0 z (null_type_of v u.0 hu) hx i) g) f) h

  -- ---- subscripts, calls and members

  as_value_holds : (at : ℕ) (x : TypedExpr) (s : State) (r : TypedExpr × State) → as_value at x s ≡ Ok r → Holds TypedExpr (λ y. Designates x → Designates y) s r
  as_value_holds at x s r h =
      then_holds (λ y. Designates x → Typed y) (λ y. Designates x → Designates y) (valued at x s) (λ y s. Ok (IsValue y, s)) s r (λ y f. valued_holds at x s y f)
      (λ y g. let e = answer_is (IsValue y.0) y.1 r g in stays TypedExpr (λ z. (Designates x → Typed y.0) → Designates x → Designates z) y.1 r e.1 (λ w f d. subst Designates (sym e.0) (f d))) h

  base_by : (b : Bool) (at : ℕ) (x : TypedExpr) (s : State) (r : TypedExpr × State) → (if b then answer x s else as_value at x s) ≡ Ok r → Holds TypedExpr (λ y. Designates x → Designates y) s r
  base_by true at x s r h = itself_holds x s r h
  base_by false at x s r h = as_value_holds at x s r h

  subscript_is : (s : State) (x : TypedExpr) (i : Operand) (r : TypedExpr) → KnowsStructures v s.structures → Designates x → Typed i → subscript_judged (structures_of s) x i ≡ Ok r → Designates r
  subscript_is s (IsPlace a t) i r w hx hi h = element_of_typed v locals a t i r hx hi h
  subscript_is s (IsValue x) i r w hx hi h = subscripted_typed v locals x i r hx hi (subscripted_within (structures_of s) v.structures (within_known v s w) x i r h)
  subscript_is s (IsFunction f sig) i r w hx hi h = absurd (cc)
  subscript_is s (IsIntrinsic j place) i r w hx hi h = absurd (cc)
  subscript_is s (IsAddress n t place) i r w hx hi h = absurd (cc)

  pub subscript_holds : (a i : At TreeMeaning) → TreeHolds a.node → TreeHolds i.node →
      TreeHolds (λ at s. and_then (a.node a.at s) (λ x s. and_then (subscript_base a.at x s) (λ x s. value i s (λ y s. whole at s (subscript_judged (structures_of s) x y)))))
  subscript_holds a i ha hi at s r h =
      part_then Designates a ha (λ x s. and_then (subscript_base a.at x s) (λ x s. value i s (λ y s. whole at s (subscript_judged (structures_of s) x y)))) s r
      (λ q f. then_holds (λ y. Designates q.0 → Designates y) (λ z. Designates q.0 → Designates z) (subscript_base a.at q.0 q.1) (λ x s. value i s (λ y s. whole at s (subscript_judged (structures_of s) x y))) q.1 r
      (λ x g. base_by (is_array_place q.0) a.at q.0 q.1 x g)
      (λ x g. value_then (λ z. (Designates q.0 → Designates x.0) → Designates q.0 → Designates z) i hi (λ y s. whole at s (subscript_judged (structures_of s) x.0 y)) x.1 r
      (λ y k. judged_holds TypedExpr (λ z. Typed y.0 → (Designates q.0 → Designates x.0) → Designates q.0 → Designates z) at y.1 (subscript_judged (structures_of y.1) x.0 y.0) r
      (λ z e w hy m d. subscript_is y.1 x.0 y.0 z w.types.structures (m d) hy e) k) g) f) h

  callee_holds : (at : ℕ) (x : TypedExpr) (s : State) (o : Option Intr) (r : TypedExpr × State) → callee_by at x s o ≡ Ok r → Holds TypedExpr (λ y. Designates x → Designates y) s r
  callee_holds at x s (Some i) r h = itself_holds x s r h
  callee_holds at x s None r h = as_value_holds at x s r h

  argument_holds : (e : At TreeMeaning) → TreeHolds e.node → (before : List Operand) (s : State) (r : List Operand × State) → argument_found e before s ≡ Ok r → Holds (List Operand) (λ xs. Each Typed before → Each Typed xs) s r
  argument_holds e he before s r h =
      one_more_holds v (IsConstant v.target) (Knows v locals) (knows_first v locals) (knows_second v locals) Typed before (value_found e s) s r (λ x f. value_holds e he s x f) h

  arguments_hold : (args : List (At TreeMeaning)) → Each (λ a. TreeHolds a.node) args → (s : State) (r : List Operand × State) → arguments_found args s ≡ Ok r → Holds (List Operand) (Each Typed) s r
  arguments_hold args h s r f =
      let o = in_turn_holds v (IsConstant v.target) (Knows v locals) (knows_first v locals) (knows_second v locals) argument_found (λ a. TreeHolds a.node) (Each Typed) argument_holds args h [] s r f in
      record { grows = o.grows; holds = λ w. o.holds w tt }

  call_is : (x : TypedExpr) (xs : List Operand) (r : Operand) → Designates x → Each Typed xs → call_judged v.target x xs ≡ Ok r → Typed r
  call_is (IsIntrinsic i place) xs r hx h e = intrinsic_typed v locals i xs r h e
  call_is (IsValue f) xs r hx h e = called_typed v locals f xs r hx h e
  call_is (IsPlace a t) xs r hx h e = absurd (cc)
  call_is (IsFunction f sig) xs r hx h e = absurd (cc)
  call_is (IsAddress n t place) xs r hx h e = absurd (cc)

  pub call_holds : (f : At TreeMeaning) (args : List (At TreeMeaning)) → TreeHolds f.node → Each (λ a. TreeHolds a.node) args →
      TreeHolds (λ at s. and_then (f.node f.at s) (λ x s. and_then (callee f.at x s) (λ x s. and_then (arguments_found args s) (λ xs s. gives at s (call_judged v.target x xs)))))
  call_holds f args hf ha at s r h =
      part_then Designates f hf (λ x s. and_then (callee f.at x s) (λ x s. and_then (arguments_found args s) (λ xs s. gives at s (call_judged v.target x xs)))) s r
      (λ q e. then_holds (λ y. Designates q.0 → Designates y) (λ z. Designates q.0 → Designates z) (callee f.at q.0 q.1) (λ x s. and_then (arguments_found args s) (λ xs s. gives at s (call_judged v.target x xs))) q.1 r
      (λ x g. callee_holds f.at q.0 q.1 (intrinsic_in q.0) x g)
      (λ x g. then_holds (Each Typed) (λ z. (Designates q.0 → Designates x.0) → Designates q.0 → Designates z) (arguments_found args x.1) (λ xs s. gives at s (call_judged v.target x.0 xs)) x.1 r
      (λ xs k. arguments_hold args ha x.1 xs k)
      (λ xs k. gives_holds (λ z. Each Typed xs.0 → (Designates q.0 → Designates x.0) → Designates q.0 → Designates z) at xs.1 (call_judged v.target x.0 xs.0) r
      (λ z i w hs m d. call_is x.0 xs.0 z (m d) hs i) k) g) e) h

  pub member_holds : (e : At TreeMeaning) (x : List ℕ) → TreeHolds e.node → TreeHolds (λ at s. designator e s (λ y s. whole at s (dot (structures_of s) x y)))
  member_holds e x he at s r h =
      designator_then Designates e he (λ y s. whole at s (dot (structures_of s) x y)) s r
      (λ y g. judged_holds TypedExpr (λ z. Designates y.0 → Designates z) at y.1 (dot (structures_of y.1) x y.0) r
      (λ z i w hy. dot_typed v locals w.members x y.0 z hy (dot_within (structures_of y.1) v.structures (within_known v y.1 w.types.structures) x y.0 z i)) g) h

  pub arrow_holds : (e : At TreeMeaning) (x : List ℕ) → TreeHolds e.node → TreeHolds (λ at s. value e s (λ y s. whole at s (arrow (structures_of s) x y)))
  arrow_holds e x he at s r h =
      value_then Designates e he (λ y s. whole at s (arrow (structures_of s) x y)) s r
      (λ y g. judged_holds TypedExpr (λ z. Typed y.0 → Designates z) at y.1 (arrow (structures_of y.1) x y.0) r
      (λ z i w hy. arrow_typed v locals w.members x y.0 z hy (arrow_within (structures_of y.1) v.structures (within_known v y.1 w.types.structures) x y.0 z i)) g) h

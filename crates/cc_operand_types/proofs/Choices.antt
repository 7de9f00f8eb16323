-- `c ? a : b` and `a, b` are typed.
use Rattle.std.proofs.Common.{◌≡◌, Bool, true, false, not, ◌&&◌, ◌||◌, List, Some, Ok, Err, refl, ap, sym, ◌∙◌, subst}
use Rattle.std.specs.Prelude.{if◌then◌else◌}
use Rattle.cc_program.specs.CcNum.declared.int_type.IntType.{IntType}
use Rattle.cc_program.specs.CcNum.declared.target.Target.{Target}
use Rattle.cc_program.specs.CcNum.Promotions.{usual_of}
use Rattle.cc_program.specs.declared.expr.Expr.{Expr, Choose, Seq}
use Rattle.cc_program.specs.declared.types.CType.{CType}
use Rattle.cc_program.specs.declared.types.Sig.{Sig}
use Rattle.cc_operands.specs.Choices.{chosen_integer, chosen_pointer, arm_chosen, nothing_by, nothing_chosen, pointers_chosen, chosen_by, arms_chosen, choose_of, comma_of}
use Rattle.cc_operands.specs.Operands.{Operand, operand, as_nothing, constancy, converted_to, is_pointer, is_nothing, is_to_void, is_null_constant, null_of, no_structure}
use Rattle.cc_operands.specs.declared.rule.Rule.TheVariants as rule
use Rattle.cc_operands.specs.CcSyntax.Folding.{Constant, NoConstant, Value, Traps, is_true, chosen_constant}
use Rattle.cc_operands.specs.CcSyntax.Operators.{is_promoted, common_type}
use Rattle.cc_operands.specs.CcSyntax.SameTypes.{alike, same_sig, same_int}
use Rattle.cc_operands.specs.CcSyntax.Types.{Named}
use Rattle.cc_operands.specs.CcSyntax.Values.{ValueType, NoValue, Integer, ToObject, ToFunction, is_scalar, is_void, point_alike}
use Rattle.cc_operands.proofs.CcSyntax.Prefixes.{both_true}
use Rattle.cc_operand_types.specs.Typed.{Agree, Same, Pointers, is_pointed_kind, stands, HasType, IsTypedOperand, Valued, Void, Structure}
use Rattle.cc_operands.proofs.CcSyntax.AlikeLemmas.{alike_itself, alike_mirrored, alike_joined}
use Rattle.cc_operand_types.proofs.Agreement.{scalar_agrees, void_alike}
use Rattle.cc_operand_types.proofs.Constants.{chosen_fits}
use Rattle.cc_operand_types.proofs.Integers.{when_one, usual_is}
use Rattle.cc_operand_types.proofs.Nulls.{null_typed}
use Rattle.cc_operand_types.proofs.Operands.{ok_is, must_ok, value_ok, structure_ok, value_of, any_type, as_operand, as_folded, IsInteger, converted_typed, value_integer, constancy_fits}
use Rattle.cc_operand_types.proofs.Pointers.{scalar_there, pointer_there, alike_there}
use Rattle.cc_operand_types.proofs.Requalified.{not_void, any_pointed}
use Rattle.cc_operand_types.proofs.Rolls.{type-Choose, type-Seq}
use Rattle.cc_operands.proofs.CcSyntax.SameLemmas.{int_itself, sig_compared}
use Rattle.cc_operands.specs.CcSyntax.Views.{View, kind_in}
use Rattle.cc_operands.specs.CcSyntax.Expressions.{type_of}

-- ---- the common type of types that agree

both_ways : (a b : Bool) → (a ≡ true → b ≡ true) → (b ≡ true → a ≡ true) → a ≡ b
both_ways true true h k = refl
both_ways true false h k = sym (h refl)
both_ways false true h k = k refl
both_ways false false h k = refl

alike_left : (t u w : CType) → alike t u ≡ true → alike t w ≡ alike u w
alike_left t u w h = both_ways (alike t w) (alike u w) (λ k. alike_joined u t w (alike_mirrored t u h) k) (λ k. alike_joined t u w h k)

alike_right : (w t u : CType) → alike t u ≡ true → alike w t ≡ alike w u
alike_right w t u h = both_ways (alike w t) (alike w u) (λ k. alike_joined w t u k h) (λ k. alike_joined w u t k (alike_mirrored t u h))

agree_if : (b c v : Bool) (t u : CType) → alike t u ≡ true → Agree (if b then ToObject c v t else NoValue) (if b then ToObject c v u else NoValue)
agree_if true c v t u h = Pointers c v t u h
agree_if false c v t u h = Same NoValue

module _ (target : Target) where
  left_by : (c v : Bool) (t u : CType) → alike t u ≡ true → (w : ValueType) → Agree (common_type target (ToObject c v t) w) (common_type target (ToObject c v u) w)
  left_by c v t u h NoValue = Same NoValue
  left_by c v t u h (Integer i) = Same NoValue
  left_by c v t u h (ToFunction s) = Same NoValue
  left_by c v t u h (ToObject c' v' w) =
      let e : (alike t w && not (is_void t)) ≡ (alike u w && not (is_void u)) = ap (λ (b : Bool). b && not (is_void t)) (alike_left t u w h) ∙ ap (λ (b : Bool). alike u w && not b) (void_alike t u h) in
      subst (λ (b : Bool). Agree (if b then ToObject (c || c') (v || v') t else NoValue) (if alike u w && not (is_void u) then ToObject (c || c') (v || v') u else NoValue)) (sym e)
      (agree_if (alike u w && not (is_void u)) (c || c') (v || v') t u h)

  left : (u t w : ValueType) → Agree u t → Agree (common_type target u w) (common_type target t w)
  left _ _ w (Same t) = Same (common_type target t w)
  left _ _ w (Pointers c v t u h) = left_by c v t u h w

  right_by : (w : ValueType) (c v : Bool) (t u : CType) → alike t u ≡ true → Agree (common_type target w (ToObject c v t)) (common_type target w (ToObject c v u))
  right_by NoValue c v t u h = Same NoValue
  right_by (Integer i) c v t u h = Same NoValue
  right_by (ToFunction s) c v t u h = Same NoValue
  right_by (ToObject c' v' w) c v t u h =
      subst (λ (b : Bool). Agree (if b && not (is_void w) then ToObject (c' || c) (v' || v) w else NoValue) (if alike w u && not (is_void w) then ToObject (c' || c) (v' || v) w else NoValue)) (sym (alike_right w t u h))
      (Same (if alike w u && not (is_void w) then ToObject (c' || c) (v' || v) w else NoValue))

  right : (w u t : ValueType) → Agree u t → Agree (common_type target w u) (common_type target w t)
  right w _ _ (Same t) = Same (common_type target w t)
  right w _ _ (Pointers c v t u h) = right_by w c v t u h

  first_is : (c v c' v' : Bool) (t t' : CType) → ToObject c v t ≡ ToObject c' v' t' → (c ≡ c') × (v ≡ v') × (t ≡ t')
  first_is c v c' v' t t' h = (cc, cc, cc)

  joined_by : (c v : Bool) (t u : CType) → alike t u ≡ true → (b d : ValueType) → Agree b d → b ≡ ToObject c v u → Agree (ToObject c v t) d
  joined_by c v t u h _ _ (Same b) e = subst (λ (z : ValueType). Agree (ToObject c v t) z) (sym e) (Pointers c v t u h)
  joined_by c v t u h _ _ (Pointers c' v' t' u' k) e =
      let q = first_is c' v' c v t' u e in
      subst (λ (b : Bool). Agree (ToObject c v t) (ToObject b v' u')) (sym q.0)
      (subst (λ (b : Bool). Agree (ToObject c v t) (ToObject c b u')) (sym q.1)
      (Pointers c v t u' (alike_joined t u u' h (subst (λ (z : CType). alike z u' ≡ true) q.2 k))))

  pub joined : (a b d : ValueType) → Agree a b → Agree b d → Agree a d
  joined _ _ d (Same b) k = k
  joined _ _ d (Pointers c v t u h) k = joined_by c v t u h (ToObject c v u) d k refl

  pub common_agrees : (u t w s : ValueType) → Agree u t → Agree w s → Agree (common_type target u w) (common_type target t s)
  common_agrees u t w s h k = joined (common_type target u w) (common_type target t w) (common_type target t s) (left u t w h) (right t w s k)

  or_itself : (b : Bool) → (b || b) ≡ b
  or_itself true = refl
  or_itself false = refl

  common_object : (c v : Bool) (t : CType) (b : Bool) → b ≡ true → (if b then ToObject (c || c) (v || v) t else NoValue) ≡ ToObject c v t
  common_object c v t b h = rw h (ap (λ (d : Bool). ToObject d (v || v) t) (or_itself c) ∙ ap (λ (d : Bool). ToObject c d t) (or_itself v))

  common_itself : (t : ValueType) → is_pointer t ≡ true → is_to_void t ≡ false → common_type target t t ≡ t
  common_itself NoValue h e = absurd (cc)
  common_itself (Integer i) h e = absurd (cc)
  common_itself (ToObject c v t) h e = common_object c v t (alike t t && not (is_void t)) (ap (λ (b : Bool). b && not (is_void t)) (alike_itself t) ∙ ap not e)
  common_itself (ToFunction s) h e = ap (λ (b : Bool). if b then ToFunction s else NoValue) (sig_compared s).itself

  is_common : (t u : ValueType) → point_alike t u ≡ true → is_to_void t ≡ false → (is_nothing (common_type target t u) ≡ false)
  is_common NoValue u h e = absurd (cc)
  is_common (Integer i) u h e = absurd (cc)
  is_common (ToObject c v t) NoValue h e = absurd (cc)
  is_common (ToObject c v t) (Integer i) h e = absurd (cc)
  is_common (ToObject c v t) (ToObject c' v' u) h e =
      ap (λ (b : Bool). is_nothing (if b then ToObject (c || c') (v || v') t else NoValue)) (ap (λ (b : Bool). b && not (is_void t)) h ∙ ap not e)
  is_common (ToObject c v t) (ToFunction s) h e = absurd (cc)
  is_common (ToFunction s) NoValue h e = absurd (cc)
  is_common (ToFunction s) (Integer i) h e = absurd (cc)
  is_common (ToFunction s) (ToObject c v t) h e = absurd (cc)
  is_common (ToFunction s) (ToFunction r) h e = ap (λ (b : Bool). is_nothing (if b then ToFunction s else NoValue)) h

module _ (p : View) where
  stands_if : (b : Bool) (c v : Bool) (t : CType) → is_void t ≡ false → is_pointed_kind false (kind_in p t) ≡ true → stands p (if b then ToObject c v t else NoValue) ≡ true
  stands_if true c v t e h = any_pointed p (not (c || v)) (kind_in p t) h
  stands_if false c v t e h = refl

  integer_stands : (b : Bool) (i : IntType) → stands p (if b then Integer i else NoValue) ≡ true
  integer_stands true i = refl
  integer_stands false i = refl

  function_stands : (b : Bool) (s : Sig) → stands p (ToFunction s) ≡ true → stands p (if b then ToFunction s else NoValue) ≡ true
  function_stands true s h = h
  function_stands false s h = refl

  common_stands : (t u : ValueType) → is_to_void t ≡ false → stands p t ≡ true → stands p (common_type p.target t u) ≡ true
  common_stands NoValue u e h = refl
  common_stands (Integer i) NoValue e h = refl
  common_stands (Integer i) (Integer j) e h = integer_stands (same_int i j && is_promoted p.target i) i
  common_stands (Integer i) (ToObject c v t) e h = refl
  common_stands (Integer i) (ToFunction s) e h = refl
  common_stands (ToObject c v t) NoValue e h = refl
  common_stands (ToObject c v t) (Integer i) e h = refl
  common_stands (ToObject c v t) (ToObject c' v' u) e h = stands_if (alike t u && not (is_void t)) (c || c') (v || v') t e (not_void p (not (c || v)) t e h)
  common_stands (ToObject c v t) (ToFunction s) e h = refl
  common_stands (ToFunction s) NoValue e h = refl
  common_stands (ToFunction s) (Integer i) e h = refl
  common_stands (ToFunction s) (ToObject c v t) e h = refl
  common_stands (ToFunction s) (ToFunction r) e h = function_stands (same_sig s r) s h

module _ (p : View) (locals : List Named) where
  abbrev Typed : Operand → Type 0
  Typed x = IsTypedOperand p locals x

  choose_type : (c a b : Expr) (s u v : ValueType) → type_of p locals c ≡ Some s → is_scalar s ≡ true → type_of p locals a ≡ Some u → type_of p locals b ≡ Some v → type_of p locals (Choose c a b) ≡ Some (common_type p.target u v)
  choose_type c a b s u v h k l m = type-Choose p locals c a b s u v (Some (common_type p.target u v)) h l m (when_one (is_scalar s) (common_type p.target u v) k)

  pub condition : (c : Operand) → Typed c → is_scalar c.type ≡ true → (s : ValueType) × (type_of p locals c.value ≡ Some s) × (is_scalar s ≡ true)
  condition c hc h = let v = value_of p locals c hc (scalar_there c.type h) in (v.own, v.typed, scalar_agrees v.own c.type v.agrees ∙ h)

  -- ---- two integers

  integer_type : (t : IntType) → is_promoted p.target t ≡ true → common_type p.target (Integer t) (Integer t) ≡ Integer t
  integer_type t h = ap (λ (b : Bool). if b then Integer t else NoValue) (ap (λ (b : Bool). b && is_promoted p.target t) (int_itself t) ∙ h)

  chosen_typed : (t : IntType) (c x y : Operand) → is_promoted p.target t ≡ true → Typed c → is_scalar c.type ≡ true → IsInteger p locals t x → IsInteger p locals t y → Typed (chosen_integer t c x y)
  chosen_typed t c x y h hc k hx hy =
      let s = condition c hc k in
      as_folded p locals t (chosen_constant (constancy c) (constancy x) (constancy y)) (Choose c.value x.value y.value)
      (choose_type c.value x.value y.value s.0 (Integer t) (Integer t) s.1 s.2 (value_integer p locals t x hx) (value_integer p locals t y hy) ∙ ap Some (integer_type t h))
      (chosen_fits t p.target (constancy c) (constancy x) (constancy y) (constancy_fits p locals x t (value_integer p locals t x hx)) (constancy_fits p locals y t (value_integer p locals t y hy)))

  -- ---- two pointers

  pointer_ok : (b : Bool) (c : Operand) (x y : Expr) (t : ValueType) (r : Operand) → chosen_pointer b c x y t ≡ Ok r → (b ≡ false) × (operand (Choose c.value x y) t ≡ r)
  pointer_ok true c x y t r h = absurd (cc)
  pointer_ok false c x y t r h = (refl, ok_is h)

  has_chosen : (c : Operand) (a b : Expr) (t u w : ValueType) → Typed c → is_scalar c.type ≡ true → HasType p locals a t → HasType p locals b u → common_type p.target t u ≡ w → is_nothing w ≡ false → stands p w ≡ true → Typed (operand (Choose c.value a b) w)
  has_chosen c a b t u w hc k ha hb e n h =
      let s = condition c hc k in
      as_operand p locals (Choose c.value a b) w n (record {
        own = common_type p.target ha.own hb.own;
        typed = choose_type c.value a b s.0 ha.own hb.own s.1 s.2 ha.typed hb.typed;
        agrees = subst (λ (z : ValueType). Agree (common_type p.target ha.own hb.own) z) e (common_agrees p.target ha.own t hb.own u ha.agrees hb.agrees);
        standing = h;
      })

  third : (c x y r : Operand) (b : Bool) → b ≡ point_alike x.type y.type → Typed c → is_scalar c.type ≡ true → Typed x → Typed y →
      (if b then chosen_pointer (is_to_void x.type) c x.value y.value (common_type p.target x.type y.type) else Err rule.NoCommonType) ≡ Ok r → Typed r
  third c x y r false e hc k hx hy h = absurd (cc)
  third c x y r true e hc k hx hy h =
      let o = pointer_ok (is_to_void x.type) c x.value y.value (common_type p.target x.type y.type) r h in
      let n = alike_there x.type y.type (sym e) in
      let vx = value_of p locals x hx n.0 in
      subst Typed o.1 (has_chosen c x.value y.value x.type y.type (common_type p.target x.type y.type) hc k vx (value_of p locals y hy n.1) refl
      (is_common p.target x.type y.type (sym e) o.0) (common_stands p x.type y.type o.0 vx.standing))

  second : (c x y r : Operand) (b : Bool) → (is_pointer y.type && is_null_constant x) ≡ b → Typed c → is_scalar c.type ≡ true → Typed x → Typed y →
      (if b then chosen_pointer (is_to_void y.type) c (null_of y.type) y.value y.type
      else (if point_alike x.type y.type then chosen_pointer (is_to_void x.type) c x.value y.value (common_type p.target x.type y.type) else Err rule.NoCommonType)) ≡ Ok r → Typed r
  second c x y r true e hc k hx hy h =
      let o = pointer_ok (is_to_void y.type) c (null_of y.type) y.value y.type r h in
      let g = (both_true (is_pointer y.type) (is_null_constant x) e).0 in
      let n = pointer_there y.type g in
      let v = value_of p locals y hy n in
      subst Typed o.1 (has_chosen c (null_of y.type) y.value y.type y.type y.type hc k (null_typed p locals y.type g v.standing) v (common_itself p.target y.type g o.0) n v.standing)
  second c x y r false e hc k hx hy h = third c x y r (point_alike x.type y.type) refl hc k hx hy h

  first : (c x y r : Operand) (b : Bool) → (is_pointer x.type && is_null_constant y) ≡ b → Typed c → is_scalar c.type ≡ true → Typed x → Typed y →
      (if b then chosen_pointer (is_to_void x.type) c x.value (null_of x.type) x.type
      else (if is_pointer y.type && is_null_constant x then chosen_pointer (is_to_void y.type) c (null_of y.type) y.value y.type
      else (if point_alike x.type y.type then chosen_pointer (is_to_void x.type) c x.value y.value (common_type p.target x.type y.type) else Err rule.NoCommonType))) ≡ Ok r → Typed r
  first c x y r true e hc k hx hy h =
      let o = pointer_ok (is_to_void x.type) c x.value (null_of x.type) x.type r h in
      let g = (both_true (is_pointer x.type) (is_null_constant y) e).0 in
      let n = pointer_there x.type g in
      let v = value_of p locals x hx n in
      subst Typed o.1 (has_chosen c x.value (null_of x.type) x.type x.type x.type hc k v (null_typed p locals x.type g v.standing) (common_itself p.target x.type g o.0) n v.standing)
  first c x y r false e hc k hx hy h = second c x y r (is_pointer y.type && is_null_constant x) refl hc k hx hy h

  pointers_typed : (c x y r : Operand) → Typed c → is_scalar c.type ≡ true → Typed x → Typed y → pointers_chosen p.target c x y ≡ Ok r → Typed r
  pointers_typed c x y r hc k hx hy h = first c x y r (is_pointer x.type && is_null_constant y) refl hc k hx hy h

  chosen_by_typed : (c x y r : Operand) (a b : ValueType) → Typed c → is_scalar c.type ≡ true → Typed x → Typed y → x.type ≡ a → y.type ≡ b → chosen_by p.target c x y a b ≡ Ok r → Typed r
  chosen_by_typed c x y r (Integer i) (Integer j) hc k hx hy e f h =
      subst Typed (ok_is h) (chosen_typed (usual_of i j p.target) c (converted_to p.target (usual_of i j p.target) x) (converted_to p.target (usual_of i j p.target) y) (usual_is i j p.target) hc k
      (converted_typed p locals (usual_of i j p.target) i x hx e) (converted_typed p locals (usual_of i j p.target) j y hy f))
  chosen_by_typed c x y r (Integer i) NoValue hc k hx hy e f h = pointers_typed c x y r hc k hx hy h
  chosen_by_typed c x y r (Integer i) (ToObject d v t) hc k hx hy e f h = pointers_typed c x y r hc k hx hy h
  chosen_by_typed c x y r (Integer i) (ToFunction s) hc k hx hy e f h = pointers_typed c x y r hc k hx hy h
  chosen_by_typed c x y r NoValue b hc k hx hy e f h = pointers_typed c x y r hc k hx hy h
  chosen_by_typed c x y r (ToObject d v t) b hc k hx hy e f h = pointers_typed c x y r hc k hx hy h
  chosen_by_typed c x y r (ToFunction s) b hc k hx hy e f h = pointers_typed c x y r hc k hx hy h

  -- ---- the arms

  nothing_typed : (k : Constant) (arm : Operand) (e : Expr) (t u : ValueType) → type_of p locals arm.value ≡ Some t → type_of p locals e ≡ Some u → Typed (nothing_by k arm e)
  nothing_typed NoConstant arm e t u h g = Void (operand e NoValue) u refl refl g
  nothing_typed (Value n) arm e t u h g = Void (as_nothing arm) t refl refl h
  nothing_typed Traps arm e t u h g = Void (nothing_by Traps arm e) u refl refl g

  abbrev HasSome : Operand → Type 0
  HasSome x = (t : ValueType) × (type_of p locals x.value ≡ Some t)

  arm_by : (b : Bool) (x y : Operand) → HasSome x → HasSome y → HasSome (if b then x else y)
  arm_by true x y h g = h
  arm_by false x y h g = g

  arm_typed : (k : Constant) (x y : Operand) → HasSome x → HasSome y → HasSome (arm_chosen k x y)
  arm_typed NoConstant x y h g = h
  arm_typed (Value n) x y h g = arm_by (is_true n) x y h g
  arm_typed Traps x y h g = h

  void_arms : (c x y : Operand) → Typed c → is_scalar c.type ≡ true → Typed x → Typed y → x.structure ≡ false → y.structure ≡ false → Typed (nothing_chosen c x y)
  void_arms c x y hc k hx hy e f =
      let s = condition c hc k in
      let u = any_type p locals x hx e in
      let v = any_type p locals y hy f in
      let arm = arm_typed (constancy c) x y u v in
      nothing_typed (chosen_constant (constancy c) (constancy x) (constancy y)) (arm_chosen (constancy c) x y) (Choose c.value x.value y.value) arm.0 (common_type p.target u.0 v.0) arm.1
      (choose_type c.value x.value y.value s.0 u.0 v.0 s.1 s.2 u.1 v.1)

  arms_second : (c x y r : Operand) (b : Bool) → Typed c → is_scalar c.type ≡ true → Typed x → Typed y → (if b then Err rule.NoCommonType else chosen_by p.target c x y x.type y.type) ≡ Ok r → Typed r
  arms_second c x y r true hc k hx hy h = absurd (cc)
  arms_second c x y r false hc k hx hy h = chosen_by_typed c x y r x.type y.type hc k hx hy refl refl h

  arms_first : (c x y r : Operand) (b : Bool) → Typed c → is_scalar c.type ≡ true → Typed x → Typed y → x.structure ≡ false → y.structure ≡ false →
      (if b then Ok (nothing_chosen c x y) else (if is_nothing x.type || is_nothing y.type then Err rule.NoCommonType else chosen_by p.target c x y x.type y.type)) ≡ Ok r → Typed r
  arms_first c x y r true hc k hx hy e f h = subst Typed (ok_is h) (void_arms c x y hc k hx hy e f)
  arms_first c x y r false hc k hx hy e f h = arms_second c x y r (is_nothing x.type || is_nothing y.type) hc k hx hy h

  pub choose_typed : (c x y r : Operand) → Typed c → Typed x → Typed y → choose_of p.target c x y ≡ Ok r → Typed r
  choose_typed c x y r hc hx hy h =
      let m = must_ok (is_scalar c.type) rule.NoScalar (no_structure x (no_structure y (arms_chosen p.target c x y))) r (value_ok c _ r h).1 in
      let a = structure_ok x (no_structure y (arms_chosen p.target c x y)) r m.1 in
      let b = structure_ok y (arms_chosen p.target c x y) r a.1 in
      arms_first c x y r (is_nothing x.type && is_nothing y.type) hc m.0 hx hy a.0 b.0 b.1

  comma_with : (x y : Operand) (u : ValueType) → type_of p locals x.value ≡ Some u → y.structure ≡ false → Typed y → Typed (operand (Seq x.value y.value) y.type)
  comma_with x _ u h e (Valued y s n v) = as_operand p locals (Seq x.value y.value) y.type n (record { own = v.own; typed = type-Seq p locals x.value y.value u v.own h v.typed; agrees = v.agrees; standing = v.standing })
  comma_with x _ u h e (Void y t s f v) = Void (operand (Seq x.value y.value) y.type) t refl f (type-Seq p locals x.value y.value u t h v)
  comma_with x _ u h e (Structure y a t f v) = let c : true ≡ false = sym (ap (λ (z : Operand). z.structure) f) ∙ e in absurd (cc)

  pub comma_typed : (x y r : Operand) → Typed x → Typed y → comma_of x y ≡ Ok r → Typed r
  comma_typed x y r hx hy h =
      let a = structure_ok x (no_structure y (Ok (operand (Seq x.value y.value) y.type))) r h in
      let b = structure_ok y (Ok (operand (Seq x.value y.value) y.type)) r a.1 in
      let u = any_type p locals x hx a.0 in
      subst Typed (ok_is b.1) (comma_with x y u.0 u.1 b.0 hy)

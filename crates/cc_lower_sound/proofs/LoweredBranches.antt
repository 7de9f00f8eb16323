-- Lowered `&&`, `||`, `?:` and commas.
use Rattle.std.proofs.Common.{◌≡◌, ℕ, Bool, true, false, not, ◌&&◌, ◌||◌, Option, Some, refl, ap, sym, ◌∙◌, subst}
use Rattle.std.proofs.lemmas.Option.{same_Some}
use Rattle.std.specs.Prelude.{pos, if◌then◌else◌}
use Rattle.cc_program.specs.CcNum.declared.int_type.IntType.{IntType}
use Rattle.cc_program.specs.CcNum.declared.int_type.IntType.TheVariants as int
use Rattle.cc_program.specs.CcNum.declared.op.BinOp.TheVariants as op
use Rattle.cc_program.specs.CcNum.declared.target.Target.{Target}
use Rattle.cc_program.specs.CcNum.Promotions.{promoted}
use Rattle.cc_program.specs.CcNum.Integers.{is_value_of}
use Rattle.cc_lower_expressions.specs.Expressions.{Make, done, ◌>>=◌, emit, fork, temp, set, fresh, Lowers, branch, int_value, arm_as, arm_of, both_value, either_value, condition_of, choose_void, choose_value, unless_pure, branch_alone, is_void_value, whole_by, effect_by, truth_of, conv_unless}
use Rattle.cc_lower_expressions.specs.Temporaries.{declared_type, is_same_type}
use Rattle.cc_operand_types.proofs.Constants.{truth_fits}
use Rattle.cc_operand_types.proofs.Integers.{when_one, when_three, promoted_is}
use Rattle.cc_operand_types.proofs.Pointers.{itself_alike}
use Rattle.cc_operands.specs.Operands.{null_of}
use Rattle.cc_program.specs.declared.expr.Expr.{Expr, Const}
use Rattle.cc_program.specs.declared.expr.Expr.TheOpen as one
use Rattle.cc_program.specs.declared.func.Func.{Func}
use Rattle.cc_program.specs.declared.program.Program.{Program}
use Rattle.cc_eval.specs.CcSyntax.Effects.{Registers, also, effects_of}
use Rattle.cc_eval.specs.CcSyntax.Expressions.{of_one, of_two}
use Rattle.cc_eval.specs.CcSyntax.Operators.{logical_type, choice_type, common_type, is_promoted}
use Rattle.cc_eval.specs.CcSyntax.SameTypes.{same_int, same_sig, alike}
use Rattle.cc_eval.specs.CcSyntax.Values.{ValueType, NoValue, Integer, ToObject, ToFunction, is_scalar, is_void, is_assignable, implies}
use Rattle.cc_eval.proofs.CcSyntax.AlikeLemmas.{alike_itself, assignable_object, function_itself}
use Rattle.cc_eval.proofs.CcSyntax.SameLemmas.{int_itself}
use Rattle.cc_lower_sound.proofs.Bools.{first_true, second_true}
use Rattle.cc_lower_sound.proofs.LoweringParts.{low}
use Rattle.cc_lower_sound.proofs.Pieces.{Any, gives_done, gives_bind, gives_under, gives_emit, gives_fresh, gives_if, gives_fork}
use Rattle.cc_lower_sound.proofs.Readings.{Reading, Laws, typed, Makes, IsLowered, takes_own}
use Rattle.cc_lower_sound.proofs.Scalars.{has_one, has_two, passes, assigned_scalar}
use Rattle.cc_lower_sound.proofs.LoweredOperands.{Claim, At, whole_made, effect_made}
use Rattle.cc_lower_sound.proofs.LoweredAssignments.{converted_made}

-- ---- the arms of a choice may be assigned to what has their common type

or_left : (a b : Bool) → implies a (a || b) ≡ true
or_left true b = refl
or_left false b = refl

or_right : (a b : Bool) → implies b (a || b) ≡ true
or_right true true = refl
or_right true false = refl
or_right false true = refl
or_right false false = refl

-- of a type that is chosen under a condition, and is a scalar
pub chosen : (b : Bool) (x r : ValueType) → (if b then x else NoValue) ≡ r → is_scalar r ≡ true → (b ≡ true) × (x ≡ r)
chosen true x r h s = (refl, h)
chosen false x r h s = let c : false ≡ true = ap is_scalar h ∙ s in absurd (cc)

no_scalar : (r : ValueType) → NoValue ≡ r → is_scalar r ≡ true → ⊥
no_scalar r h s = let c : false ≡ true = ap is_scalar h ∙ s in absurd (cc)

abbrev BothAssign : ValueType → ValueType → ValueType → Type 0
BothAssign r a b = (is_assignable r a ≡ true) × (is_assignable r b ≡ true)

pub common_assigns : (target : Target) (a b r : ValueType) → common_type target a b ≡ r → is_scalar r ≡ true → BothAssign r a b
common_assigns target NoValue b r h s = absurd (no_scalar r h s)
common_assigns target (Integer i) NoValue r h s = absurd (no_scalar r h s)
common_assigns target (Integer i) (Integer j) r h s =
    let c = chosen (same_int i j && is_promoted target i) (Integer i) r h s in
    subst (λ (z : ValueType). BothAssign z (Integer i) (Integer j)) c.1 (int_itself i, first_true (same_int i j) (is_promoted target i) c.0)
common_assigns target (Integer i) (ToObject c v t) r h s = absurd (no_scalar r h s)
common_assigns target (Integer i) (ToFunction f) r h s = absurd (no_scalar r h s)
common_assigns target (ToObject c v t) NoValue r h s = absurd (no_scalar r h s)
common_assigns target (ToObject c v t) (Integer i) r h s = absurd (no_scalar r h s)
common_assigns target (ToObject c v t) (ToObject c' v' u) r h s =
    let k = chosen (alike t u && not (is_void t)) (ToObject (c || c') (v || v') t) r h s in
    subst (λ (z : ValueType). BothAssign z (ToObject c v t) (ToObject c' v' u)) k.1
    (assignable_object (c || c') (v || v') t c v t (alike_itself t) (or_left c c') (or_left v v'), assignable_object (c || c') (v || v') t c' v' u (first_true (alike t u) (not (is_void t)) k.0) (or_right c c') (or_right v v'))
common_assigns target (ToObject c v t) (ToFunction f) r h s = absurd (no_scalar r h s)
common_assigns target (ToFunction f) NoValue r h s = absurd (no_scalar r h s)
common_assigns target (ToFunction f) (Integer i) r h s = absurd (no_scalar r h s)
common_assigns target (ToFunction f) (ToObject c v t) r h s = absurd (no_scalar r h s)
common_assigns target (ToFunction f) (ToFunction g) r h s =
    let k = chosen (same_sig f g) (ToFunction f) r h s in
    subst (λ (z : ValueType). BothAssign z (ToFunction f) (ToFunction g)) k.1 (function_itself f, k.0)

void_or_scalar : (t : ValueType) → is_void_value (Some t) ≡ false → is_scalar t ≡ true
void_or_scalar NoValue h = absurd (cc)
void_or_scalar (Integer i) h = refl
void_or_scalar (ToObject c v t) h = refl
void_or_scalar (ToFunction s) h = refl

module _ (p : Program) (f : Func) (w : Reading) (laws : Laws p f w) where
  -- ---- `e != 0`

  truth_made : (t : ValueType) (e : Expr) → is_scalar t ≡ true → w.stands t ≡ true → w.Val t e → w.Val (Integer int.Int) (truth_of p f declared_type is_same_type (Some t) e)
  truth_made NoValue e s k v = absurd (cc)
  truth_made (Integer i) e s k v =
      let j : IntType = promoted i p.target in
      laws.binary op.Ne j (Integer j) (Integer j) (Integer int.Int) (conv_unless p f declared_type is_same_type i j e) (Const (pos 0) j) (converted_made p f w laws i j e v) (laws.number (pos 0) j (truth_fits j p.target false))
      (when_three (is_promoted p.target j) (same_int j j) (same_int j j) (Integer int.Int) (promoted_is i p.target) (int_itself j) (int_itself j))
  truth_made (ToObject c u t) e s k v =
      laws.compared op.Ne (ToObject c u t) (ToObject c u t) (Integer int.Int) e (null_of (ToObject c u t)) v (laws.null (ToObject c u t) refl k) (when_one (alike t t) (Integer int.Int) (alike_itself t))
  truth_made (ToFunction g) e s k v =
      laws.compared op.Ne (ToFunction g) (ToFunction g) (Integer int.Int) e (null_of (ToFunction g)) v (laws.null (ToFunction g) refl k) (when_one (same_sig g g) (Integer int.Int) (itself_alike (ToFunction g) refl))

  -- ---- arms that set a temporary

  branch_made : (o : Option ValueType) (t tc : ValueType) (c : Make Expr) (these those : ℕ → Make (Unit {0})) → o ≡ Some t → is_scalar t ≡ true → w.declares t ≡ true → is_scalar tc ≡ true →
      Makes p f w (Unit {0}) (w.Val tc) c → ((n : ℕ) → Makes p f w (w.Temp n t) Any (these n)) → ((n : ℕ) → Makes p f w (w.Temp n t) Any (those n)) → Makes p f w (Unit {0}) (w.Val t) (branch o c these those)
  branch_made o t tc c these those e s st sc hc ha hb =
      gives_bind c (λ v. fresh o >>= (λ n. fork v (these n) (those n) >>= (λ u. done (temp n)))) hc
      (λ v. gives_bind (fresh o) (λ n. fork v (these n) (those n) >>= (λ u. done (temp n))) (gives_fresh o t e s st)
      (λ n. gives_bind (fork v (these n) (those n)) (λ u. done (temp n))
      (gives_fork v (these n) (those n) (gives_under (λ q. q.1) (ha n)) (gives_under (λ q. q.1) (hb n)) (λ q xs ys hx hy. laws.fork tc v xs ys sc q.0.1 hx hy))
      (λ u. gives_done (temp n) (λ q. laws.temporary n t q.0.1 s st))))

  module _ (standing : (e : Expr) (t : ValueType) → typed p f e ≡ Some t → w.stands t ≡ true) where
    abbrev Int : ValueType
    Int = Integer int.Int

    arm_as_made : (x n : ℕ) → is_value_of int.Int p.target (pos x) ≡ true → w.declares Int ≡ true → Makes p f w (w.Temp n Int) Any (arm_as x n)
    arm_as_made x n h st = gives_emit (set n (Const (pos x) int.Int)) (λ q. laws.put n Int (Const (pos x) int.Int) (takes_own p f w laws n Int q refl st) (laws.number (pos x) int.Int h))

    arm_of_made : (b : Expr) (tb : ValueType) (later : Registers) (n : ℕ) → typed p f b ≡ Some tb → is_scalar tb ≡ true → IsLowered p f w tb (low p f b) → w.declares Int ≡ true →
        Makes p f w (w.Temp n Int) Any (arm_of p f declared_type is_same_type (low p f b) later n)
    arm_of_made b tb later n e s h st =
        gives_bind ((low p f b).operand later) (λ v. emit (set n (truth_of p f declared_type is_same_type (low p f b).ctype v))) (gives_under (λ q. tt) (h.operand s later))
        (λ v. gives_emit (set n (truth_of p f declared_type is_same_type (low p f b).ctype v))
        (λ q. laws.put n Int (truth_of p f declared_type is_same_type (low p f b).ctype v) (takes_own p f w laws n Int q.0 refl st)
        (subst (λ (o : Option ValueType). w.Val Int (truth_of p f declared_type is_same_type o v)) (sym h.ctype) (truth_made tb v s (standing b tb e) q.1))))

    -- ---- what stays as it is where it is pure

    unless_pure_made : (e : Expr) (t : ValueType) (impure : Lowers Expr) → typed p f e ≡ Some t → w.Old e → ((later : Registers) → Makes p f w (Unit {0}) (w.Val t) (impure later)) →
        (later : Registers) → Makes p f w (Unit {0}) (w.Val t) (unless_pure (effects_of f e) e impure later)
    unless_pure_made e t impure h o m later =
        gives_if ((effects_of f e).pure later) (done e) (impure later) (λ q. gives_done e (λ z. laws.itself e t later h o q)) (λ q. m later)

    branch_alone_made : (e : Expr) (t : ValueType) (op : Lowers Expr) (later : Registers) → is_scalar t ≡ true → w.declares t ≡ true → Makes p f w (Unit {0}) (w.Val t) (op later) →
        Makes p f w (Unit {0}) Any (branch_alone (effects_of f e) (Some t) op later)
    branch_alone_made e t op later s st m =
        gives_if ((effects_of f e).pure later) (effect_by (Some t) op later) (op later >>= (λ v. done tt)) (λ q. effect_made p f w laws t s st op later m) (λ q. gives_bind (op later) (λ v. done tt) m (λ v. gives_done tt (λ z. tt)))

    -- ---- kinds of expressions

    logical : (e : Expr) (t : ValueType) (op : Lowers Expr) → is_scalar t ≡ true → w.declares t ≡ true → ((later : Registers) → Makes p f w (Unit {0}) (w.Val t) (op later)) →
        IsLowered p f w t (record { itself = e; ctype = Some t; effects = effects_of f e; operand = op; whole = whole_by op; effect = branch_alone (effects_of f e) (Some t) op })
    logical e t op s st m = record {
      ctype = refl;
      operand = λ q later. m later;
      whole = λ q o n later. whole_made p f w laws t op o n later (m later);
      effect = λ later. branch_alone_made e t op later s st (m later);
    }

    pub at-Both : (a b : Expr) (t : ValueType) (e : Expr) → Claim p f w laws a → Claim p f w laws b → w.Old a → w.Old b → w.Old e → w.declares t ≡ true → typed p f e ≡ Some t → of_two (typed p f a) (typed p f b) logical_type ≡ Some t → At p f w laws t e (one.Both a b)
    at-Both a b t e ca cb oa ob oe d h k =
        let x = has_two (typed p f a) (typed p f b) logical_type t k in
        let y = passes (is_scalar x.first && is_scalar x.second) Int t x.gives in
        let sa = first_true (is_scalar x.first) (is_scalar x.second) y.test in
        let sb = second_true (is_scalar x.first) (is_scalar x.second) y.test in
        let g : typed p f e ≡ Some Int = h ∙ ap Some (sym y.is) in
        let st : w.declares Int ≡ true = ap w.declares y.is ∙ d in
        subst (λ (z : ValueType). At p f w laws z e (one.Both a b)) y.is
        (logical e Int (unless_pure (effects_of f e) e (both_value p f declared_type is_same_type (low p f a) (low p f b))) refl st
        (unless_pure_made e Int (both_value p f declared_type is_same_type (low p f a) (low p f b)) g oe
        (λ later. branch_made int_value Int x.first ((low p f a).operand (also (low p f b).effects.assigned later)) (arm_of p f declared_type is_same_type (low p f b) later) (arm_as 0) refl refl st sa
        ((ca x.first x.is_first oa).operand sa (also (low p f b).effects.assigned later)) (λ n. arm_of_made b x.second later n x.is_second sb (cb x.second x.is_second ob) st) (λ n. arm_as_made 0 n (truth_fits int.Int p.target false) st))))

    pub at-Either : (a b : Expr) (t : ValueType) (e : Expr) → Claim p f w laws a → Claim p f w laws b → w.Old a → w.Old b → w.Old e → w.declares t ≡ true → typed p f e ≡ Some t → of_two (typed p f a) (typed p f b) logical_type ≡ Some t → At p f w laws t e (one.Either a b)
    at-Either a b t e ca cb oa ob oe d h k =
        let x = has_two (typed p f a) (typed p f b) logical_type t k in
        let y = passes (is_scalar x.first && is_scalar x.second) Int t x.gives in
        let sa = first_true (is_scalar x.first) (is_scalar x.second) y.test in
        let sb = second_true (is_scalar x.first) (is_scalar x.second) y.test in
        let g : typed p f e ≡ Some Int = h ∙ ap Some (sym y.is) in
        let st : w.declares Int ≡ true = ap w.declares y.is ∙ d in
        subst (λ (z : ValueType). At p f w laws z e (one.Either a b)) y.is
        (logical e Int (unless_pure (effects_of f e) e (either_value p f declared_type is_same_type (low p f a) (low p f b))) refl st
        (unless_pure_made e Int (either_value p f declared_type is_same_type (low p f a) (low p f b)) g oe
        (λ later. branch_made int_value Int x.first ((low p f a).operand (also (low p f b).effects.assigned later)) (arm_as 1) (arm_of p f declared_type is_same_type (low p f b) later) refl refl st sa
        ((ca x.first x.is_first oa).operand sa (also (low p f b).effects.assigned later)) (λ n. arm_as_made 1 n (truth_fits int.Int p.target true) st) (λ n. arm_of_made b x.second later n x.is_second sb (cb x.second x.is_second ob) st))))

    -- ---- `?:`

    module _ (c a b : Expr) (tc ta tb : ValueType) (hc : IsLowered p f w tc (low p f c)) (ha : IsLowered p f w ta (low p f a)) (hb : IsLowered p f w tb (low p f b)) (sc : is_scalar tc ≡ true) where
      condition_made : (later : Registers) → Makes p f w (Unit {0}) (w.Val tc) (condition_of (low p f c) (low p f a) (low p f b) later)
      condition_made later = hc.operand sc (also (low p f a).effects.assigned (also (low p f b).effects.assigned later))

      choose_void_made : (later : Registers) → Makes p f w (Unit {0}) Any (choose_void (low p f c) (low p f a) (low p f b) later)
      choose_void_made later =
          gives_bind (condition_of (low p f c) (low p f a) (low p f b) later) (λ v. fork v ((low p f a).effect (also (low p f b).effects.assigned later)) ((low p f b).effect later)) (condition_made later)
          (λ v. gives_fork v ((low p f a).effect (also (low p f b).effects.assigned later)) ((low p f b).effect later) (gives_under (λ q. tt) (ha.effect (also (low p f b).effects.assigned later))) (gives_under (λ q. tt) (hb.effect later))
          (λ q xs ys hx hy. laws.fork tc v xs ys sc q.1 hx hy))

      choose_value_made : (t : ValueType) → common_type p.target ta tb ≡ t → is_scalar t ≡ true → w.declares t ≡ true → (later : Registers) → Makes p f w (Unit {0}) (w.Val t) (choose_value (Some t) (low p f c) (low p f a) (low p f b) later)
      choose_value_made t e s st later =
          let g = common_assigns p.target ta tb t e s in
          branch_made (Some t) t tc (condition_of (low p f c) (low p f a) (low p f b) later) (λ n. (low p f a).whole (Some t) n (also (low p f b).effects.assigned later)) (λ n. (low p f b).whole (Some t) n later) refl s st sc (condition_made later)
          (λ n. gives_under (λ d. laws.takes n t ta d s st g.0) (ha.whole (assigned_scalar t ta g.0) (Some t) n (also (low p f b).effects.assigned later)))
          (λ n. gives_under (λ d. laws.takes n t tb d s st g.1) (hb.whole (assigned_scalar t tb g.1) (Some t) n later))

    pub at-Choose : (c a b : Expr) (t : ValueType) (e : Expr) → Claim p f w laws c → Claim p f w laws a → Claim p f w laws b → w.Old c → w.Old a → w.Old b → w.Old e → w.declares t ≡ true → typed p f e ≡ Some t →
        of_one (typed p f c) (λ c. of_two (typed p f a) (typed p f b) (choice_type p.target c)) ≡ Some t → At p f w laws t e (one.Choose c a b)
    at-Choose c a b t e cl ca cb oc oa ob oe d h k =
        let x = has_one (typed p f c) (λ c. of_two (typed p f a) (typed p f b) (choice_type p.target c)) t k in
        let y = has_two (typed p f a) (typed p f b) (choice_type p.target x.first) t x.gives in
        let z = passes (is_scalar x.first) (common_type p.target y.first y.second) t y.gives in
        let hc = cl x.first x.is oc in
        let ha = ca y.first y.is_first oa in
        let hb = cb y.second y.is_second ob in
        let impure = choose_value (Some t) (low p f c) (low p f a) (low p f b) in
        let op = unless_pure (effects_of f e) e impure in
        let value = λ (s : is_scalar t ≡ true) (later : Registers).
        unless_pure_made e t impure h oe (λ l. choose_value_made c a b x.first y.first y.second hc ha hb z.test t z.is s d l) later in
        record {
          ctype = refl;
          operand = value;
          whole = λ s o n later. whole_made p f w laws t op o n later (value s later);
          effect = λ later. gives_if (is_void_value (Some t)) (choose_void (low p f c) (low p f a) (low p f b) later) (branch_alone (effects_of f e) (Some t) op later)
              (λ q. choose_void_made c a b x.first y.first y.second hc ha hb z.test later)
              (λ q. let s = void_or_scalar t q in branch_alone_made e t op later s d (value s later));
        }

    -- ---- `,`

    pub at-Seq : (a b : Expr) (t : ValueType) (e : Expr) → Claim p f w laws a → Claim p f w laws b → w.Old a → w.Old b → of_two (typed p f a) (typed p f b) (λ a b. Some b) ≡ Some t → At p f w laws t e (one.Seq a b)
    at-Seq a b t e ca cb oa ob k =
        let x = has_two (typed p f a) (typed p f b) (λ a b. Some b) t k in
        let is : x.second ≡ t = same_Some x.second t x.gives in
        let ha = ca x.first x.is_first oa in
        let hb = cb x.second x.is_second ob in
        let before = λ (later : Registers). (low p f a).effect (also (low p f b).effects.assigned later) in
        subst (λ (z : ValueType). At p f w laws z e (one.Seq a b)) is (record {
          ctype = refl;
          operand = λ s later. gives_bind (before later) (λ u. (low p f b).operand later) (ha.effect (also (low p f b).effects.assigned later)) (λ u. gives_under (λ q. tt) (hb.operand s later));
          whole = λ s o n later. gives_bind (before later) (λ u. (low p f b).whole o n later) (gives_under (λ q. tt) (ha.effect (also (low p f b).effects.assigned later))) (λ u. gives_under (λ q. q.0) (hb.whole s o n later));
          effect = λ later. gives_bind (before later) (λ u. (low p f b).effect later) (ha.effect (also (low p f b).effects.assigned later)) (λ u. gives_under (λ q. tt) (hb.effect later));
        })

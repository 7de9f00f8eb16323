-- `e != 0`, as the type rules write it, tells whether the value of a scalar type is not 0 and no null.
use Rattle.std.proofs.Common.{◌≡◌, pos, Bool, true, false, ◌&&◌, Option, Some, None, refl, ap, sym, ◌∙◌, subst, if◌then◌else◌}
use Rattle.std.proofs.lemmas.Option.{same_Some}
use Rattle.cc_program.specs.CcNum.declared.int_type.IntType.{IntType}
use Rattle.cc_program.specs.CcNum.declared.int_type.IntType.TheVariants as int
use Rattle.cc_program.specs.CcNum.declared.op.BinOp.TheVariants as op
use Rattle.cc_program.specs.CcNum.Integers.{is_value_of}
use Rattle.cc_program.specs.CcNum.Promotions.{promoted}
use Rattle.cc_program.specs.declared.expr.Expr.{Expr, Const, Null, Compare}
use Rattle.cc_program.specs.declared.types.CType.{CType}
use Rattle.cc_program.specs.declared.types.Sig.{Sig}
use Rattle.cc_program.specs.declared.value.Address.TheVariants as address
use Rattle.cc_program.specs.declared.value.Value.{Value}
use Rattle.cc_program.specs.declared.value.Value.TheVariants.{Int, Place}
use Rattle.cc_states.specs.CcSyntax.Effects.{no_one}
use Rattle.cc_states.specs.CcSyntax.Expressions.{of_two}
use Rattle.cc_states.specs.CcSyntax.Operators.{logical_type}
use Rattle.cc_states.specs.CcSyntax.SameTypes.{same_int}
use Rattle.cc_states.specs.CcSyntax.Values.{ValueType, NoValue, Integer, ToObject, ToFunction, is_scalar}
use Rattle.cc_states.proofs.CcSyntax.Prefixes.{both_true}
use Rattle.cc_states.proofs.CcSyntax.SameLemmas.{int_same}
use Rattle.cc_states.specs.CcEval.Context.{Context}
use Rattle.cc_states.specs.CcEval.Eval.{Meaning}
use Rattle.cc_states.specs.CcValues.Values.{binary, conversion, comparison, truth, of_truth}
use Rattle.cc_states.specs.Typed.{MayHave}
use Rattle.cc_states.proofs.Options.{when_true, with_two}
use Rattle.cc_lower_expressions.specs.Expressions.{folded_conv, conv_unless, truth_of}
use Rattle.cc_lower_expressions_follows.specs.Trees.{Regs, Setting, context_q, Is}
use Rattle.cc_lower_expressions_follows.specs.Relation.{Alike, ValueOf, Gives}
use Rattle.cc_lower_expressions_follows.proofs.Folded.{bin_gives, conv_gives, conv_unassigning, constant_unassigning}
use Rattle.cc_lower_expressions_follows.proofs.NumberLaws.{conversion_same, promotion_keeps, promoted_is, unequal_0}
use Rattle.cc_lower_expressions_follows.proofs.Opened.{at-Null}
use Rattle.cc_lower_expressions_follows.proofs.Operands.{Unassigning}
use Rattle.cc_lower_expressions_follows.proofs.Typing.{IsTyped}
use Rattle.cc_lower_expressions_follows.proofs.Values.{gives_Const, gives_Compare}

-- what `&&` and `||` ask whether it is not 0
pub second_scalar : (a b : Option ValueType) (y : ValueType) → b ≡ Some y → IsTyped (of_two a b logical_type) → is_scalar y ≡ true
second_scalar a b y e ty =
    with_two (is_scalar y ≡ true) a b logical_type ty.0 ty.1
    (λ x z f g h. subst (λ (t : ValueType). is_scalar t ≡ true) (same_Some z y (sym g ∙ e)) (both_true (is_scalar x) (is_scalar z) (when_true (is_scalar x && is_scalar z) (Integer int.Int) ty.0 h)).1)

module _ (w : Setting) where
  abbrev cq : Context
  cq = context_q w

  -- a value of a type is converted to it as it is
  pub own_conversion : (t : IntType) (v : Option Value) → MayHave w.p w.openings (Integer t) v → conversion t w.p.target v ≡ v
  own_conversion t None h = refl
  own_conversion t (Some (Int n)) h = conversion_same t w.p.target n h
  own_conversion t (Some (Place a)) h = absurd h

  module _ (alike : Alike w) (declares : Option ValueType → CType) (is_same : Option ValueType → Option ValueType → Bool) where
    -- ---- a conversion that is written where the types differ

    abbrev unless : IntType → IntType → Expr → Expr
    unless s t e = conv_unless w.p w.from declares is_same s t e

    abbrev converted_if : Bool → IntType → Expr → Expr
    converted_if b t e = if b then e else folded_conv w.p w.from declares is_same t e

    pub unless_gives : (s t : IntType) (e : Expr) (v : Option Value) (r : Regs) → MayHave w.p w.openings (Integer s) v → Gives w e v r → Gives w (unless s t e) (conversion t w.p.target v) r
    unless_gives s t e v r h d = by_test (same_int s t) refl
      where
        by_test : (b : Bool) → same_int s t ≡ b → Gives w (converted_if b t e) (conversion t w.p.target v) r
        by_test true same = subst (λ (u : Option Value). Gives w e u r) (sym (own_conversion t v (subst (λ (i : IntType). MayHave w.p w.openings (Integer i) v) (int_same s t same) h))) d
        by_test false same = conv_gives w alike declares is_same t e v r d

    pub unless_unassigning : (s t : IntType) (e : Expr) → Unassigning w e → Unassigning w (unless s t e)
    unless_unassigning s t e h = by_test (same_int s t)
      where
        by_test : (b : Bool) → Unassigning w (converted_if b t e)
        by_test true = h
        by_test false = conv_unassigning w alike declares is_same t e h

    -- ---- integers

    abbrev truth-of : ValueType → Expr → Expr
    truth-of t x = truth_of w.p w.from declares is_same (Some t) x

    other_than_0 : (t : IntType) (v : Option Value) → MayHave w.p w.openings (Integer t) v →
        binary op.Ne (promoted t w.p.target) w.p.target (conversion (promoted t w.p.target) w.p.target v) (Some (Int (pos 0))) ≡ of_truth (truth v)
    other_than_0 t None h = refl
    other_than_0 t (Some (Place a)) h = absurd h
    other_than_0 t (Some (Int n)) h =
        let i = promoted t w.p.target in
        let k : is_value_of i w.p.target n ≡ true = promotion_keeps t w.p.target n h in
        ap (λ (u : Option Value). binary op.Ne i w.p.target u (Some (Int (pos 0)))) (conversion_same i w.p.target n k) ∙ unequal_0 i w.p.target n (promoted_is t w.p.target) k

    integer_truth : (t : IntType) (x : Expr) (v : Option Value) (s : Regs) → Gives w x v s → MayHave w.p w.openings (Integer t) v → Gives w (truth-of (Integer t) x) (of_truth (truth v)) s
    integer_truth t x v s d h =
        let i = promoted t w.p.target in
        subst (λ (u : Option Value). Gives w (truth-of (Integer t) x) u s) (other_than_0 t v h)
        (bin_gives w alike declares is_same op.Ne i (unless t i x) (Const (pos 0) i) (constant_unassigning w (pos 0) i) (conversion i w.p.target v) (Some (Int (pos 0))) s (unless_gives t i x v s h d) (gives_Const w (pos 0) i s))

    -- ---- pointers

    abbrev null : Option Value
    null = Some (Place address.Null)

    gives_Null : (t : CType) (s : Regs) → Gives w (Null t) null s
    gives_Null t s = Is (ap (λ (m : Meaning). m.next no_one) (at-Null cq t))

    null_unassigning : (t : CType) → Unassigning w (Null t)
    null_unassigning t = ap (λ (m : Meaning). m.effects.assigned) (at-Null cq t)

    object_other : (c d : Bool) (t : CType) (v : Option Value) → MayHave w.p w.openings (ToObject c d t) v → comparison op.Ne v null ≡ of_truth (truth v)
    object_other c d t None h = refl
    object_other c d t (Some (Int n)) h = absurd h
    object_other c d t (Some (Place address.Null)) h = refl
    object_other c d t (Some (Place (address.Func f))) h = refl
    object_other c d t (Some (Place (address.At object path index count))) h = refl

    function_other : (sig : Sig) (v : Option Value) → MayHave w.p w.openings (ToFunction sig) v → comparison op.Ne v null ≡ of_truth (truth v)
    function_other sig None h = refl
    function_other sig (Some (Int n)) h = absurd h
    function_other sig (Some (Place address.Null)) h = refl
    function_other sig (Some (Place (address.Func f))) h = refl
    function_other sig (Some (Place (address.At object path index count))) h = refl

    pointer_truth : (t : CType) (x : Expr) (v : Option Value) (s : Regs) → Gives w x v s → comparison op.Ne v null ≡ of_truth (truth v) → Gives w (Compare op.Ne x (Null t)) (of_truth (truth v)) s
    pointer_truth t x v s d e = subst (λ (u : Option Value). Gives w (Compare op.Ne x (Null t)) u s) e (gives_Compare w op.Ne x (Null t) v null s (null_unassigning t) d (gives_Null t s))

    -- ---- every scalar type

    pub truth_gives : (t : ValueType) (x : Expr) → is_scalar t ≡ true → (v : Option Value) (s : Regs) → Gives w x v s → MayHave w.p w.openings t v → Gives w (truth-of t x) (of_truth (truth v)) s
    truth_gives NoValue x k v s d h = absurd (cc)
    truth_gives (Integer t) x k v s d h = integer_truth t x v s d h
    truth_gives (ToObject c e t) x k v s d h = pointer_truth (declares (Some (ToObject c e t))) x v s d (object_other c e t v h)
    truth_gives (ToFunction sig) x k v s d h = pointer_truth (declares (Some (ToFunction sig))) x v s d (function_other sig v h)

    -- by the type, which is that of the lowered expression too
    pub truth_works : (own read : Option ValueType) (t : ValueType) → own ≡ Some t → read ≡ Some t → is_scalar t ≡ true → (x : Expr) (v : Option Value) (s : Regs) → Gives w x v s → ValueOf w read v →
        Gives w (truth_of w.p w.from declares is_same own x) (of_truth (truth v)) s
    truth_works own read t e f k x v s d h =
        subst (λ (u : Option ValueType). Gives w (truth_of w.p w.from declares is_same u x) (of_truth (truth v)) s) (sym e) (truth_gives t x k v s d (subst (λ (u : Option ValueType). ValueOf w u v) f h))

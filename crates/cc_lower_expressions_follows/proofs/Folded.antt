-- Operators and conversions over constants are constants of the values that they give.
use Rattle.std.proofs.Common.{◌≡◌, ℤ, Bool, true, ◌&&◌, [], Option, Some, None, refl, ap, sym, ◌∙◌, subst, if◌then◌else◌}
use Rattle.cc_program.specs.CcNum.declared.int_type.IntType.{IntType}
use Rattle.cc_program.specs.CcNum.declared.op.BinOp.{BinOp}
use Rattle.cc_program.specs.CcNum.declared.op.UnOp.{UnOp}
use Rattle.cc_program.specs.CcNum.declared.target.Target.{Target}
use Rattle.cc_program.specs.CcNum.Integers.{is_value_of}
use Rattle.cc_program.specs.declared.expr.Expr.{Expr, Const, Un, Bin, Conv, out-Expr, roll-Expr, roll-out-Expr}
use Rattle.cc_program.specs.declared.expr.Expr.TheOpen as one
use Rattle.cc_program.specs.declared.expr.Expr.TheVariants.{rolls-Const}
use Rattle.cc_program.specs.declared.expr.Place.{Place}
use Rattle.cc_program.specs.declared.types.CType.{CType}
use Rattle.cc_program.specs.declared.value.Value.{Value}
use Rattle.cc_program.specs.declared.value.Value.TheVariants.{Int}
use Rattle.cc_states.specs.CcSyntax.Effects.{no_one}
use Rattle.cc_states.specs.CcSyntax.Expressions as typing
use Rattle.cc_states.specs.CcSyntax.Folding.{Constant, NoConstant, Value as ConstantOf, Traps, unary_constant, binary_constant, converted_constant}
use Rattle.cc_states.specs.CcSyntax.Forms.{form_at, form_of}
use Rattle.cc_states.specs.CcSyntax.Operators.{unary_result, is_promoted, is_of, second_fits, is_integer, unary_type, binary_result, binary_type as type_of_binary, conversion_type}
use Rattle.cc_states.specs.CcSyntax.Values.{ValueType, Integer}
use Rattle.cc_states.specs.CcSyntax.Views.{of_program}
use Rattle.cc_states.specs.CcEval.Context.{Context}
use Rattle.cc_states.specs.CcEval.Eval.{Meaning, meaning}
use Rattle.cc_states.specs.CcEval.Progress.{Known, Waits, Get, known}
use Rattle.cc_states.specs.CcValues.Values.{unary, binary, conversion}
use Rattle.cc_states.specs.Typed.{MayHave}
use Rattle.cc_states.proofs.Options.{when_is, with_one, with_two}
use Rattle.cc_states.proofs.TypedLemmas.{has_unary, has_binary, has_conversion}
use Rattle.cc_lower_expressions.specs.Expressions.{constant_in, constant_or, folded_un, folded_bin, folded_conv}
use Rattle.cc_lower_expressions_follows.specs.Trees.{Regs, Setting, context_p, context_q, Runs, Is, Steps}
use Rattle.cc_lower_expressions_follows.specs.Relation.{Alike, Gives}
use Rattle.cc_lower_expressions_follows.proofs.NumberLaws.{unary_folds, binary_folds, conversion_folds}
use Rattle.cc_lower_expressions_follows.proofs.Opened.{at_level, at-Const, at-Un, at-Bin, at-Conv}
use Rattle.cc_lower_expressions_follows.proofs.Operands.{Unassigning}
use Rattle.cc_lower_expressions_follows.proofs.Pure.{none_of}
use Rattle.cc_lower_expressions_follows.proofs.PureLevels.{same_type_at, same_target}
use Rattle.cc_lower_expressions_follows.proofs.Typing.{IsTyped}
use Rattle.cc_lower_expressions_follows.proofs.Values.{gives_Const, gives_Un, gives_Bin, gives_Conv}

-- ---- constants

constant_at : (n : ℤ) (x : one.Expr-F Expr Place) → constant_in (form_at x) ≡ ConstantOf n → (t : IntType) × (roll-Expr x ≡ Const n t)
constant_at n (one.Const m t) h = let e : m ≡ n = cc in (t, rolls-Const m t ∙ ap (λ (k : ℤ). Const k t) e)
constant_at n x h = absurd (cc)

constant_is : (e : Expr) (n : ℤ) → constant_in (form_of e) ≡ ConstantOf n → (t : IntType) × (e ≡ Const n t)
constant_is e n h = let c = constant_at n (out-Expr e) h in (c.0, sym (roll-out-Expr e) ∙ c.1)

-- what holds of an expression, and of each constant that it may be folded to
by_constant : (P : Expr → Type 0) (c : Constant) (t : IntType) (e : Expr) → P e → ((m : ℤ) → c ≡ ConstantOf m → P (Const m t)) → P (constant_or t c e)
by_constant P NoConstant t e h k = h
by_constant P (ConstantOf m) t e h k = k m refl
by_constant P Traps t e h k = h

module _ (w : Setting) where
  abbrev cp : Context
  cp = context_p w

  abbrev cq : Context
  cq = context_q w

  -- what takes no step gives one answer
  answer_is : {A : Type 0} (a b : A) (s' : Regs) (g : Get A) (s : Regs) → Runs w a s' g s → g ≡ known b → a ≡ b
  answer_is {A} a b s' g s (Is e) h = let k : Known a [] ≡ Known b [] = ap (λ (f : Get A). f []) (sym e ∙ h) in cc
  answer_is {A} a b s' g s (Steps t action m asks q d) h = let k : Waits action ≡ Known b [] = sym asks ∙ ap (λ (f : Get A). f []) h in absurd (cc)

  constant_gives : (e : Expr) (n : ℤ) → constant_in (form_of e) ≡ ConstantOf n → (v : Option Value) (s : Regs) → Gives w e v s → v ≡ Some (Int n)
  constant_gives e n h v s d =
      let c = constant_is e n h in
      answer_is v (Some (Int n)) s ((meaning cq e).next no_one) s d (ap (λ (x : Expr). (meaning cq x).next no_one) c.1 ∙ ap (λ (m : Meaning). m.next no_one) (at-Const cq n c.0))

  pub constant_unassigning : (n : ℤ) (t : IntType) → Unassigning w (Const n t)
  constant_unassigning n t = ap (λ (m : Meaning). m.effects.assigned) (at-Const cq n t)

  module _ (alike : Alike w) where
    pub constant_type : (n : ℤ) (t : IntType) → is_value_of t w.p.target n ≡ true → (meaning cq (Const n t)).ctype ≡ Some (Integer t)
    constant_type n t h = ap (λ (m : Meaning). m.ctype) (at-Const cq n t) ∙ same_type_at w alike (one.Const n t) ∙ ap (λ (b : Bool). if b then Some (Integer t) else None) h

    module _ (declares : Option ValueType → CType) (is_same : Option ValueType → Option ValueType → Bool) where
      -- ---- one operand

      abbrev un : UnOp → IntType → Expr → Expr
      un o t e = folded_un w.p w.from declares is_same o t e

      abbrev un_constant : UnOp → IntType → Expr → Constant
      un_constant o t e = unary_constant w.p.target o t (constant_in (form_of e))

      pub un_gives : (o : UnOp) (t : IntType) (e : Expr) (v : Option Value) (s : Regs) → Gives w e v s → Gives w (un o t e) (unary o t w.p.target v) s
      un_gives o t e v s d =
          by_constant (λ (x : Expr). Gives w x (unary o t w.p.target v) s) (un_constant o t e) (unary_result o t) (Un o t e)
          (subst (λ (z : Target). Gives w (Un o t e) (unary o t z v) s) (sym (same_target w alike)) (gives_Un w o t e v s d))
          (λ m h.
          let c = unary_folds w.p.target o t (constant_in (form_of e)) m h in
          subst (λ (u : Option Value). Gives w (Const m (unary_result o t)) u s) (sym (ap (unary o t w.p.target) (constant_gives e c.0 c.1 v s d) ∙ c.2)) (gives_Const w m (unary_result o t) s))

      pub un_unassigning : (o : UnOp) (t : IntType) (e : Expr) → Unassigning w e → Unassigning w (un o t e)
      un_unassigning o t e h =
          by_constant (Unassigning w) (un_constant o t e) (unary_result o t) (Un o t e) (ap (λ (m : Meaning). m.effects.assigned) (at-Un cq o t e) ∙ h) (λ m k. constant_unassigning m (unary_result o t))

      un_typed : (o : UnOp) (t : IntType) (a : Option ValueType) → IsTyped (typing.of_one a (unary_type w.p.target o t)) → typing.of_one a (unary_type w.p.target o t) ≡ Some (Integer (unary_result o t))
      un_typed o t a ty =
          with_one (typing.of_one a (unary_type w.p.target o t) ≡ Some (Integer (unary_result o t))) a (unary_type w.p.target o t) ty.0 ty.1
          (λ x f g. ty.1 ∙ ap (λ (z : ValueType). Some z) (sym (when_is (is_promoted w.p.target t && is_of t x) (Integer (unary_result o t)) ty.0 g)))

      un_type : (o : UnOp) (t : IntType) (a e : Expr) → IsTyped (at_level cp (one.Un o t a)).ctype → (meaning cq e).ctype ≡ (meaning cp a).ctype → (meaning cq (un o t e)).ctype ≡ (at_level cp (one.Un o t a)).ctype
      un_type o t a e ty same =
          by_constant (λ (x : Expr). (meaning cq x).ctype ≡ (at_level cp (one.Un o t a)).ctype) (un_constant o t e) (unary_result o t) (Un o t e)
          (ap (λ (m : Meaning). m.ctype) (at-Un cq o t e) ∙ ap (λ (z : Option ValueType). typing.expr_step (of_program w.q) w.to.locals (one.Un o t z)) same ∙ same_type_at w alike (one.Un o t (meaning cp a).ctype))
          (λ m h.
          let c = unary_folds w.p.target o t (constant_in (form_of e)) m h in
          constant_type m (unary_result o t) (subst (MayHave w.p w.openings (Integer (unary_result o t))) c.2 (has_unary w.p w.openings o t (Some (Int c.0)))) ∙ sym (un_typed o t (meaning cp a).ctype ty))

      pub un_folded : (o : UnOp) (t : IntType) (a e : Expr) → IsTyped (at_level cp (one.Un o t a)).ctype → Unassigning w e → (meaning cq e).ctype ≡ (meaning cp a).ctype →
          ((v : Option Value) (s : Regs) → Gives w e v s → Gives w (un o t e) (unary o t w.p.target v) s) × Unassigning w (un o t e) × ((meaning cq (un o t e)).ctype ≡ (at_level cp (one.Un o t a)).ctype)
      un_folded o t a e ty u same = ((λ v s d. un_gives o t e v s d), un_unassigning o t e u, un_type o t a e ty same)

      -- ---- a conversion

      abbrev conv : IntType → Expr → Expr
      conv t e = folded_conv w.p w.from declares is_same t e

      abbrev conv_constant : IntType → Expr → Constant
      conv_constant t e = converted_constant w.p.target t (constant_in (form_of e))

      pub conv_gives : (t : IntType) (e : Expr) (v : Option Value) (s : Regs) → Gives w e v s → Gives w (conv t e) (conversion t w.p.target v) s
      conv_gives t e v s d =
          by_constant (λ (x : Expr). Gives w x (conversion t w.p.target v) s) (conv_constant t e) t (Conv t e)
          (subst (λ (z : Target). Gives w (Conv t e) (conversion t z v) s) (sym (same_target w alike)) (gives_Conv w t e v s d))
          (λ m h.
          let c = conversion_folds w.p.target t (constant_in (form_of e)) m h in
          subst (λ (u : Option Value). Gives w (Const m t) u s) (sym (ap (conversion t w.p.target) (constant_gives e c.0 c.1 v s d) ∙ c.2)) (gives_Const w m t s))

      pub conv_unassigning : (t : IntType) (e : Expr) → Unassigning w e → Unassigning w (conv t e)
      conv_unassigning t e h = by_constant (Unassigning w) (conv_constant t e) t (Conv t e) (ap (λ (m : Meaning). m.effects.assigned) (at-Conv cq t e) ∙ h) (λ m k. constant_unassigning m t)

      conv_typed : (t : IntType) (a : Option ValueType) → IsTyped (typing.of_one a (conversion_type t)) → typing.of_one a (conversion_type t) ≡ Some (Integer t)
      conv_typed t a ty =
          with_one (typing.of_one a (conversion_type t) ≡ Some (Integer t)) a (conversion_type t) ty.0 ty.1
          (λ x f g. ty.1 ∙ ap (λ (z : ValueType). Some z) (sym (when_is (is_integer x) (Integer t) ty.0 g)))

      conv_type : (t : IntType) (a e : Expr) → IsTyped (at_level cp (one.Conv t a)).ctype → (meaning cq e).ctype ≡ (meaning cp a).ctype → (meaning cq (conv t e)).ctype ≡ (at_level cp (one.Conv t a)).ctype
      conv_type t a e ty same =
          by_constant (λ (x : Expr). (meaning cq x).ctype ≡ (at_level cp (one.Conv t a)).ctype) (conv_constant t e) t (Conv t e)
          (ap (λ (m : Meaning). m.ctype) (at-Conv cq t e) ∙ ap (λ (z : Option ValueType). typing.expr_step (of_program w.q) w.to.locals (one.Conv t z)) same ∙ same_type_at w alike (one.Conv t (meaning cp a).ctype))
          (λ m h.
          let c = conversion_folds w.p.target t (constant_in (form_of e)) m h in
          constant_type m t (subst (MayHave w.p w.openings (Integer t)) c.2 (has_conversion w.p w.openings t (Some (Int c.0)))) ∙ sym (conv_typed t (meaning cp a).ctype ty))

      pub conv_folded : (t : IntType) (a e : Expr) → IsTyped (at_level cp (one.Conv t a)).ctype → Unassigning w e → (meaning cq e).ctype ≡ (meaning cp a).ctype →
          ((v : Option Value) (s : Regs) → Gives w e v s → Gives w (conv t e) (conversion t w.p.target v) s) × Unassigning w (conv t e) × ((meaning cq (conv t e)).ctype ≡ (at_level cp (one.Conv t a)).ctype)
      conv_folded t a e ty u same = ((λ v s d. conv_gives t e v s d), conv_unassigning t e u, conv_type t a e ty same)

      -- ---- two operands

      abbrev bin : BinOp → IntType → Expr → Expr → Expr
      bin o t e d = folded_bin w.p w.from declares is_same o t e d

      abbrev bin_constant : BinOp → IntType → Expr → Expr → Constant
      bin_constant o t e d = binary_constant w.p.target o t (constant_in (form_of e)) (constant_in (form_of d))

      pub bin_gives : (o : BinOp) (t : IntType) (e d : Expr) → Unassigning w d → (v u : Option Value) (s : Regs) → Gives w e v s → Gives w d u s → Gives w (bin o t e d) (binary o t w.p.target v u) s
      bin_gives o t e d none v u s g k =
          by_constant (λ (x : Expr). Gives w x (binary o t w.p.target v u) s) (bin_constant o t e d) (binary_result o t) (Bin o t e d)
          (subst (λ (z : Target). Gives w (Bin o t e d) (binary o t z v u) s) (sym (same_target w alike)) (gives_Bin w o t e d v u s none g k))
          (λ m h.
          let c = binary_folds w.p.target o t (constant_in (form_of e)) (constant_in (form_of d)) m h in
          subst (λ (x : Option Value). Gives w (Const m (binary_result o t)) x s)
          (sym (ap (λ (x : Option Value). binary o t w.p.target x u) (constant_gives e c.0 c.2 v s g) ∙ ap (binary o t w.p.target (Some (Int c.0))) (constant_gives d c.1 c.3 u s k) ∙ c.4)) (gives_Const w m (binary_result o t) s))

      pub bin_unassigning : (o : BinOp) (t : IntType) (e d : Expr) → Unassigning w e → Unassigning w d → Unassigning w (bin o t e d)
      bin_unassigning o t e d h k =
          by_constant (Unassigning w) (bin_constant o t e d) (binary_result o t) (Bin o t e d)
          (ap (λ (m : Meaning). m.effects.assigned) (at-Bin cq o t e d) ∙ none_of w (meaning cq e).effects.assigned (meaning cq d).effects.assigned h k) (λ m l. constant_unassigning m (binary_result o t))

      bin_typed : (o : BinOp) (t : IntType) (a b : Option ValueType) → IsTyped (typing.of_two a b (type_of_binary w.p.target o t)) → typing.of_two a b (type_of_binary w.p.target o t) ≡ Some (Integer (binary_result o t))
      bin_typed o t a b ty =
          with_two (typing.of_two a b (type_of_binary w.p.target o t) ≡ Some (Integer (binary_result o t))) a b (type_of_binary w.p.target o t) ty.0 ty.1
          (λ x y f k g. ty.1 ∙ ap (λ (z : ValueType). Some z) (sym (when_is (is_promoted w.p.target t && (is_of t x && second_fits w.p.target o t y)) (Integer (binary_result o t)) ty.0 g)))

      bin_type : (o : BinOp) (t : IntType) (a b e d : Expr) → IsTyped (at_level cp (one.Bin o t a b)).ctype → (meaning cq e).ctype ≡ (meaning cp a).ctype → (meaning cq d).ctype ≡ (meaning cp b).ctype →
          (meaning cq (bin o t e d)).ctype ≡ (at_level cp (one.Bin o t a b)).ctype
      bin_type o t a b e d ty same other =
          by_constant (λ (x : Expr). (meaning cq x).ctype ≡ (at_level cp (one.Bin o t a b)).ctype) (bin_constant o t e d) (binary_result o t) (Bin o t e d)
          (ap (λ (m : Meaning). m.ctype) (at-Bin cq o t e d) ∙ ap (λ (z : Option ValueType). typing.expr_step (of_program w.q) w.to.locals (one.Bin o t z (meaning cq d).ctype)) same ∙
          ap (λ (z : Option ValueType). typing.expr_step (of_program w.q) w.to.locals (one.Bin o t (meaning cp a).ctype z)) other ∙ same_type_at w alike (one.Bin o t (meaning cp a).ctype (meaning cp b).ctype))
          (λ m h.
          let c = binary_folds w.p.target o t (constant_in (form_of e)) (constant_in (form_of d)) m h in
          constant_type m (binary_result o t) (subst (MayHave w.p w.openings (Integer (binary_result o t))) c.4 (has_binary w.p w.openings o t (Some (Int c.0)) (Some (Int c.1)))) ∙
          sym (bin_typed o t (meaning cp a).ctype (meaning cp b).ctype ty))

      pub bin_folded : (o : BinOp) (t : IntType) (a b e d : Expr) → IsTyped (at_level cp (one.Bin o t a b)).ctype → Unassigning w e → Unassigning w d → (meaning cq e).ctype ≡ (meaning cp a).ctype → (meaning cq d).ctype ≡ (meaning cp b).ctype →
          ((v u : Option Value) (s : Regs) → Gives w e v s → Gives w d u s → Gives w (bin o t e d) (binary o t w.p.target v u) s) × Unassigning w (bin o t e d) × ((meaning cq (bin o t e d)).ctype ≡ (at_level cp (one.Bin o t a b)).ctype)
      bin_folded o t a b e d ty u x same other = ((λ v y s g k. bin_gives o t e d x v y s g k), bin_unassigning o t e d u x, bin_type o t a b e d ty same other)

-- The new value of `op=`, and of `++` and `--`: its expression gives it, where what was read is of the type of the place.
use Rattle.std.proofs.Common.{◌≡◌, pos, Bool, true, false, not, ◌&&◌, List, Option, Some, refl, ap, sym, ◌∙◌, subst, if◌then◌else◌}
use Rattle.std.specs.Prelude.{option_and_then}
use Rattle.cc_program.specs.CcNum.declared.int_type.IntType.{IntType}
use Rattle.cc_program.specs.CcNum.declared.int_type.IntType.TheVariants as int
use Rattle.cc_program.specs.CcNum.declared.op.BinOp.{BinOp}
use Rattle.cc_program.specs.CcNum.declared.target.Target.{Target}
use Rattle.cc_program.specs.declared.expr.Expr.{Expr, Const}
use Rattle.cc_program.specs.declared.types.CType.{CType}
use Rattle.cc_program.specs.declared.types.Structure.{Structure}
use Rattle.cc_program.specs.declared.value.Value.{Value}
use Rattle.cc_program.specs.declared.value.Value.TheVariants.{Int}
use Rattle.cc_states.specs.CcSyntax.Expressions.{of_one, of_two}
use Rattle.cc_states.specs.CcSyntax.Operators.{is_comparison, changes_by, change_type, after_type, binary_result}
use Rattle.cc_states.specs.CcSyntax.Values.{ValueType, NoValue, Integer, ToObject, ToFunction, PlaceType, read_from, written_to}
use Rattle.cc_states.proofs.CcSyntax.Prefixes.{both_true}
use Rattle.cc_states.specs.CcEval.Context.{Context}
use Rattle.cc_states.specs.CcEval.Eval.{Meaning, Designation, meaning, value_type, is_back, sum_or_difference, one_more_type, changed as changed_values}
use Rattle.cc_states.specs.CcValues.Values.{binary, conversion}
use Rattle.cc_states.specs.Typed.{MayHave}
use Rattle.cc_states.proofs.GivenLemmas.{read_as_written}
use Rattle.cc_states.proofs.Options.{when_true, with_one, with_two}
use Rattle.cc_states.proofs.TypedLemmas.{has_binary}
use Rattle.cc_lower_expressions.specs.Expressions.{PlaceLowering, value_of, conv_unless, folded_bin, changed, stepped}
use Rattle.cc_lower_expressions_follows.specs.Trees.{Regs, Setting, context_p, context_q}
use Rattle.cc_lower_expressions_follows.specs.Relation.{Alike, ValueOf, Gives}
use Rattle.cc_lower_expressions_follows.proofs.Folded.{constant_unassigning, bin_gives, bin_unassigning}
use Rattle.cc_lower_expressions_follows.proofs.Opened.{at-Move}
use Rattle.cc_lower_expressions_follows.proofs.Operands.{Unassigning}
use Rattle.cc_lower_expressions_follows.proofs.Pure.{none_of}
use Rattle.cc_lower_expressions_follows.proofs.Truths.{unless_gives, unless_unassigning}
use Rattle.cc_lower_expressions_follows.proofs.Typing.{IsTyped}
use Rattle.cc_lower_expressions_follows.proofs.Values.{gives_Const, gives_Move}

-- ---- what may be changed so: an integer, by an operator that is no comparison, or a pointer

abbrev CanChange : BinOp → ValueType → Type 0
CanChange o NoValue = ⊥
CanChange o (Integer s) = is_comparison o ≡ false
CanChange o (ToObject constant volatile t) = Unit {0}
CanChange o (ToFunction sig) = ⊥

not_true : (b : Bool) → not b ≡ true → b ≡ false
not_true true h = absurd (cc)
not_true false h = refl

change_can : (structures : List Structure) (target : Target) (o : BinOp) (t : IntType) (to from x : ValueType) → change_type structures target o t to from ≡ Some x → CanChange o to
change_can structures target o t NoValue from x h = absurd (cc)
change_can structures target o t (Integer s) from x h =
    not_true (is_comparison o) (both_true (not (is_comparison o)) (changes_by target s o t from) (when_true (not (is_comparison o) && changes_by target s o t from) (Integer s) x h)).0
change_can structures target o t (ToObject c v u) from x h = tt
change_can structures target o t (ToFunction sig) from x h = absurd (cc)

no_comparison : (down : Bool) → is_comparison (sum_or_difference down) ≡ false
no_comparison true = refl
no_comparison false = refl

step_can : (structures : List Structure) (down : Bool) (to x : ValueType) → after_type structures to ≡ Some x → CanChange (sum_or_difference down) to
step_can structures down NoValue x h = absurd (cc)
step_can structures down (Integer s) x h = no_comparison down
step_can structures down (ToObject c v u) x h = tt
step_can structures down (ToFunction sig) x h = absurd (cc)

result_stays : (o : BinOp) (t : IntType) → is_comparison o ≡ false → binary_result o t ≡ t
result_stays o t h = ap (λ (b : Bool). if b then int.Int else t) h

module _ (w : Setting) where
  abbrev cp : Context
  cp = context_p w

  abbrev cq : Context
  cq = context_q w

  -- the type that is read at a place that takes values
  pub place_value : (d : Designation) (to : ValueType) → of_one d.ctype written_to ≡ Some to → value_type cp d ≡ Some to
  place_value d to h = with_one (value_type cp d ≡ Some to) d.ctype written_to to h (λ u e f. ap (option_and_then read_from) e ∙ read_as_written u to f)

  module _ (alike : Alike w) (declares : Option ValueType → CType) (is_same : Option ValueType → Option ValueType → Bool) where
    abbrev change : BinOp → IntType → Option ValueType → Expr → Expr → Expr
    change o t own old b = changed w.p w.from declares is_same o t own old b

    module _ (o : BinOp) (t : IntType) (old b : Expr) (none_old : Unassigning w old) (none_b : Unassigning w b) where
      -- the old value in the type of the operator, and what the operator gives
      abbrev unless : IntType → Expr
      unless s = conv_unless w.p w.from declares is_same s t old

      abbrev worked : IntType → Expr
      worked s = folded_bin w.p w.from declares is_same o t (unless s) b

      change_unassigning : (to : ValueType) → CanChange o to → Unassigning w (change o t (Some to) old b)
      change_unassigning NoValue h = absurd h
      change_unassigning (Integer s) h =
          unless_unassigning w alike declares is_same t s (worked s) (bin_unassigning w alike declares is_same o t (unless s) b (unless_unassigning w alike declares is_same s t old none_old) none_b)
      change_unassigning (ToObject c v u) h = ap (λ (m : Meaning). m.effects.assigned) (at-Move cq old b (is_back o)) ∙ none_of w (meaning cq old).effects.assigned (meaning cq b).effects.assigned none_old none_b
      change_unassigning (ToFunction sig) h = absurd h

      change_gives : (to : ValueType) → CanChange o to → (u z : Option Value) (r : Regs) → MayHave w.p w.openings to u → Gives w old u r → Gives w b z r →
          Gives w (change o t (Some to) old b) (changed_values w.p.target o t (Some to) u z) r
      change_gives NoValue h u z r k d e = absurd h
      change_gives (Integer s) h u z r k d e =
          unless_gives w alike declares is_same t s (worked s) (binary o t w.p.target (conversion t w.p.target u) z) r
          (subst (λ (i : IntType). MayHave w.p w.openings (Integer i) (binary o t w.p.target (conversion t w.p.target u) z)) (result_stays o t h) (has_binary w.p w.openings o t (conversion t w.p.target u) z))
          (bin_gives w alike declares is_same o t (unless s) b none_b (conversion t w.p.target u) z r (unless_gives w alike declares is_same s t old u r k d) e)
      change_gives (ToObject c v to) h u z r k d e = gives_Move w old b (is_back o) u z r none_b d e
      change_gives (ToFunction sig) h u z r k d e = absurd h

      abbrev Changed : Option ValueType → Option ValueType → Type 0
      Changed own read =
          Unassigning w (change o t own old b) ×
          ((u z : Option Value) (r : Regs) → ValueOf w read u → Gives w old u r → Gives w b z r → Gives w (change o t own old b) (changed_values w.p.target o t read u z) r)

      changed_of : (to : ValueType) → CanChange o to → Changed (Some to) (Some to)
      changed_of to h = (change_unassigning to h, λ u z r k d e. change_gives to h u z r k d e)

      changed_as : (own read : Option ValueType) (to : ValueType) → own ≡ Some to → read ≡ Some to → CanChange o to → Changed own read
      changed_as own read to e f h = subst (λ (x : Option ValueType). Changed x read) (sym e) (subst (λ (x : Option ValueType). Changed (Some to) x) (sym f) (changed_of to h))

    -- ---- `op=`

    pub change_law : (d : Designation) (e : Meaning) (l : PlaceLowering) (o : BinOp) (t : IntType) → l.ctype ≡ d.ctype → IsTyped (of_two (of_one d.ctype written_to) e.ctype (change_type w.p.structures w.p.target o t)) →
        (old b : Expr) → Unassigning w old → Unassigning w b →
        Unassigning w (change o t (value_of l) old b) ×
        ((u z : Option Value) (r : Regs) → ValueOf w (value_type cp d) u → Gives w old u r → Gives w b z r →
        Gives w (change o t (value_of l) old b) (changed_values w.p.target o t (value_type cp d) u z) r)
    change_law d e l o t same ty old b x y =
        with_two (Changed o t old b x y (value_of l) (value_type cp d)) (of_one d.ctype written_to) e.ctype (change_type w.p.structures w.p.target o t) ty.0 ty.1
        (λ to from f g h.
        let k = place_value d to f in
        changed_as o t old b x y (value_of l) (value_type cp d) to (ap (option_and_then read_from) same ∙ k) k (change_can w.p.structures w.p.target o t to from ty.0 h))

    -- ---- `++` and `--`

    abbrev step : PlaceLowering → Bool → Expr → Expr
    step l down old = stepped w.p w.from declares is_same l down old

    abbrev Stepped : Designation → PlaceLowering → Bool → Expr → Type 0
    Stepped d l down old =
        Unassigning w (step l down old) ×
        ((u : Option Value) (r : Regs) → ValueOf w (value_type cp d) u → Gives w old u r →
        Gives w (step l down old) (changed_values w.p.target (sum_or_difference down) (one_more_type w.p.target (value_type cp d)) (value_type cp d) u (Some (Int (pos 1)))) r)

    pub step_law : (d : Designation) (l : PlaceLowering) (down : Bool) → l.ctype ≡ d.ctype → IsTyped (of_one (of_one d.ctype written_to) (after_type w.p.structures)) → (old : Expr) → Unassigning w old → Stepped d l down old
    step_law d l down same ty old x =
        with_one (Stepped d l down old) (of_one d.ctype written_to) (after_type w.p.structures) ty.0 ty.1
        (λ to f h.
        let k = place_value d to f in
        let i = one_more_type w.p.target (value_of l) in
        let c = changed_as (sum_or_difference down) i old (Const (pos 1) i) x (constant_unassigning w (pos 1) i) (value_of l) (value_type cp d) to (ap (option_and_then read_from) same ∙ k) k (step_can w.p.structures down to ty.0 h) in (
          c.0,
          λ u r m g.
              subst (λ (t : IntType). Gives w (step l down old) (changed_values w.p.target (sum_or_difference down) t (value_type cp d) u (Some (Int (pos 1)))) r)
              (ap (λ (z : Option PlaceType). one_more_type w.p.target (option_and_then read_from z)) same) (c.1 u (Some (Int (pos 1))) r m g (gives_Const w (pos 1) i r)),
        ))

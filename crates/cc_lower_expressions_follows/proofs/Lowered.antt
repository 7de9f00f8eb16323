-- Every typed expression and every typed place is lowered right, in an activation of p, where the function takes the addresses of locals that they take.
use Rattle.std.proofs.Common.{◌≤◌, ◌≡◌, ◌<◌, ℕ, ◌+◌, Bool, true, false, not, ◌&&◌, ◌||◌, List, [], ◌∷◌, ◌++◌, length, map, Option, Some, None, refl, ap, sym, ◌∙◌, subst, arith, if◌then◌else◌}
use Rattle.std.proofs.lemmas.Bool.Decides.{nat_tests}
use Rattle.std.specs.Prelude.{nat_lt, option_and_then}
use Rattle.cc_program.specs.CcNum.declared.int_type.IntType.{IntType}
use Rattle.cc_program.specs.CcNum.declared.op.BinOp.{BinOp}
use Rattle.cc_program.specs.CcNum.declared.op.UnOp.{UnOp}
use Rattle.cc_program.specs.CcNum.declared.target.Target.{Target}
use Rattle.cc_program.specs.declared.expr.Expr.{Expr, AddrOf, Qualify, Move, Gap, Compare, Intr, roll-Expr, map-Expr, fold-roll-Expr}
use Rattle.cc_program.specs.declared.expr.Expr.TheOpen as one
use Rattle.cc_program.specs.declared.expr.Intr.{Intr as IntrKind}
use Rattle.cc_program.specs.declared.expr.Place.{Place, Local, Element, roll-Place, map-Place, fold-roll-Place}
use Rattle.cc_program.specs.declared.expr.Place.TheVariants.{rolls-Local}
use Rattle.cc_program.specs.declared.types.CType.{CType}
use Rattle.cc_program.specs.declared.value.Value.{Value}
use Rattle.cc_program.proofs.ExprInduction.{Parts, PlaceParts, by_expr, by_place}
use Rattle.cc_program.proofs.FoldFusion.{fused, place_fused}
use Rattle.cc_states.specs.CcSyntax.Effects.{Registers, no_one, also, Effects, of_both, effect_step, place_effect_step, effects_of, place_effects_of}
use Rattle.cc_states.specs.CcSyntax.Expressions as typing
use Rattle.cc_states.specs.CcSyntax.Expressions.{of_one, of_two}
use Rattle.std.proofs.lemmas.List.{length-append}
use Rattle.cc_states.specs.CcSyntax.Programs.{expr_step, place_step}
use Rattle.cc_states.specs.CcSyntax.Registers.{is_register}
use Rattle.cc_states.specs.CcSyntax.Values.{ValueType, NoValue, Integer, ToObject, ToFunction, is_scalar, is_assignable, PlaceType, DevicePlace, ObjectPlace, FunctionPlace, read_from, written_to}
use Rattle.cc_states.specs.CcSyntax.Views.{View, of_program}
use Rattle.cc_states.specs.CcEval.Context.{Context}
use Rattle.cc_states.specs.CcEval.Eval.{Meaning, Designation, meaning, designation, sequence}
use Rattle.cc_states.proofs.CcEval.Links.{level, place_level, type_linked, place_type_linked, effects_linked, place_effects_linked}
use Rattle.cc_states.specs.CcValues.Values.{truth, of_truth, unary, binary, conversion, movement, gap, comparison}
use Rattle.cc_lower_expressions.specs.Expressions.{piece, int_value, truth_of, branch_alone, both_value, either_value, choose_value, choose_void, fork, is_void_value, ◌>>=◌, done, Lowers, Lowering, PlaceLowering, from_one, from_two, whole_by, effect_by, lower_step, place_lower_step, lowering, place_lowering, folded_un, folded_bin, folded_conv, intr_operand, read, value_of}
use Rattle.cc_lower_expressions_follows.specs.Trees.{Regs, Setting, context_p, context_q}
use Rattle.cc_lower_expressions_follows.specs.Relation.{code_tree, Alike, ValueOf, Gives}
use Rattle.cc_lower_expressions_follows.specs.Claims.{IsOperand, Operands, Places, Wholes, Effects as EffectsOf, IsLocal, IsRight, IsRightPlace}
use Rattle.cc_program.proofs.Each.{Each}
use Rattle.cc_lower_expressions_follows.specs.Region.{all_true}
use Rattle.cc_lower_expressions_follows.specs.Old.{old_step, place_old_step, is_old, is_old_place}
use Rattle.cc_lower_expressions_follows.proofs.Defaults.{whole_works, effect_works}
use Rattle.cc_lower_expressions_follows.proofs.Loads.{operand_read}
use Rattle.cc_lower_expressions_follows.proofs.LoweredPlaces.{place_itself, place_element, place_member, place_deref}
use Rattle.cc_lower_expressions_follows.proofs.Opened.{at_level, at_place_level, at-Local, at-AddrOf, at-Qualify, at-Move, at-Gap, at-Compare, at-Intr}
use Rattle.cc_lower_expressions_follows.proofs.Operands.{sim_count, operand_one, operand_two, declared_left, declared_right}
use Rattle.cc_lower_expressions_follows.proofs.Pure.{PureExpr, PurePlace, none_of}
use Rattle.cc_lower_expressions_follows.proofs.PureInduction.{old_level, old_place_level}
use Rattle.cc_lower_expressions_follows.proofs.PureLevels.{same_type_at, same_target, pure_const, pure_null, pure_function}
use Rattle.cc_lower_expressions_follows.proofs.PurePlaces.{pure_local, pure_static, pure_device}
use Rattle.cc_lower_expressions_follows.proofs.ReadModes.{load_whole, load_unused}
use Rattle.cc_lower_expressions_follows.proofs.Reached.{same_one}
use Rattle.cc_lower_expressions_follows.proofs.Sequences.{operand_itself, address_operand, sequence_operand, sequence_whole, sequence_effect}
use Rattle.cc_lower_expressions_follows.proofs.Itself.{itself}
use Rattle.cc_lower_expressions_follows.proofs.Assembled.{BothModes, right_both, right_either, right_choose}
use Rattle.cc_lower_expressions_follows.proofs.PureInduction.{pure_expr}
use Rattle.cc_states.proofs.Options.{when_is, when_true, with_one, with_two}
use Rattle.cc_lower_expressions_follows.proofs.AssignLevel.{assign_works}
use Rattle.cc_lower_expressions_follows.proofs.TakenModes.{taken_works}
use Rattle.cc_lower_expressions_follows.proofs.Intrinsics.{flag_action, flag_step, no_flag_choice, sure_flag, flag_alone, flag_with}
use Rattle.cc_program.specs.declared.expr.Intr.TheVariants as intr
use Rattle.cc_lower_expressions_follows.proofs.CallLevel.{call_works}
use Rattle.cc_lower_expressions_follows.proofs.Calls.{AllRight}
use Rattle.cc_program.specs.CcNum.declared.int_type.IntType.TheVariants as int
use Rattle.cc_states.specs.CcSyntax.Operators.{logical_type, assignment_type, after_type, points_to_object}
use Rattle.cc_states.specs.CcSyntax.Operators.{is_integer, change_type, is_comparison, changes_by, is_additive, is_of, is_promoted, second_fits, unary_type, unary_result, binary_type, binary_result, conversion_type}
use Rattle.cc_states.specs.CcSyntax.Types.{is_complete}
use Rattle.cc_lower_expressions_follows.proofs.VoidChoices.{void_choice}
use Rattle.cc_states.specs.Answers.{IsActivation, TakesAddressesOf, PlaceTakesAddressesOf}
use Rattle.cc_lower_expressions_follows.proofs.Folded.{un_folded, conv_folded, bin_folded}
use Rattle.cc_lower_expressions_follows.proofs.NewValues.{change_law, step_law}
use Rattle.cc_lower_expressions_follows.proofs.Truths.{second_scalar, truth_works}
use Rattle.cc_lower_expressions_follows.proofs.TypedAnswers.{value_answers, read_answers, assigned_fits, changed_fits, stepped_fits}
use Rattle.cc_states.proofs.AddressLemmas.{IfTaken, PlaceIfTaken, parts_at, place_parts_at, rolled_takes, rolled_place_takes}
use Rattle.cc_lower_expressions_follows.proofs.ChangeLevel.{change_works}
use Rattle.cc_lower_expressions_follows.proofs.StepLevel.{step_works}
use Rattle.cc_lower_expressions_follows.proofs.Typing.{IsTyped, TypedExpr, TypedPlace, typed_parts, typed_place_parts}
use Rattle.cc_lower_expressions_follows.proofs.Values.{gives_Qualify, gives_Move, gives_Gap, gives_Compare}
use Rattle.cc_lower_expressions_follows.specs.Agreement.{TypesAgree}
use Rattle.cc_lower_expressions_follows.proofs.Agreement.{equal_types, types_between, integral_agrees, of_integer, second_integer, address_types, qualify_types, move_types, gap_types, compare_types}
use Rattle.cc_lower_expressions_follows.proofs.SharedPlaces.{shared_place}

both_true : (a b : Bool) → (a && b) ≡ true → (a ≡ true) × (b ≡ true)
both_true true b h = (refl, h)
both_true false b h = absurd (cc)

module _ (w : Setting) (alike : Alike w) (below : (i : ℕ) → is_register w.from i ≡ true → i < w.base) (declares : Option ValueType → CType) (is_same : Option ValueType → Option ValueType → Bool) where
  abbrev cp : Context
  cp = context_p w

  abbrev cq : Context
  cq = context_q w

  abbrev lowering_at : Expr → Lowering
  lowering_at e = lowering w.p w.from declares is_same e

  abbrev place_lowering_at : Place → PlaceLowering
  place_lowering_at a = place_lowering w.p w.from declares is_same a

  -- ---- what is known of a lowered expression before it runs is what is known of it

  type_kept : (e : Expr) → (lowering_at e).ctype ≡ (meaning cp e).ctype
  unfolding lowering typing.type_of
  type_kept e = fused (lower_step w.p w.from declares is_same) (place_lower_step w.p w.from declares is_same) (expr_step w.p w.from.locals) (place_step w.p w.from.locals) (λ l. l.ctype) (λ l. l.ctype) (λ x. refl) (λ x. refl) e ∙ sym (type_linked cp e)

  effects_kept : (e : Expr) → (lowering_at e).effects ≡ (meaning cp e).effects
  unfolding lowering effects_of
  effects_kept e = fused (lower_step w.p w.from declares is_same) (place_lower_step w.p w.from declares is_same) effect_step (place_effect_step w.from) (λ l. l.effects) (λ l. l.effects) (λ x. refl) (λ x. refl) e ∙ sym (effects_linked cp e)

  place_type_kept : (a : Place) → (place_lowering_at a).ctype ≡ (designation cp a).ctype
  unfolding place_lowering typing.place_type
  place_type_kept a = place_fused (lower_step w.p w.from declares is_same) (place_lower_step w.p w.from declares is_same) (expr_step w.p w.from.locals) (place_step w.p w.from.locals) (λ l. l.ctype) (λ l. l.ctype) (λ x. refl) (λ x. refl) a ∙ sym (place_type_linked cp a)

  place_effects_kept : (a : Place) → (place_lowering_at a).effects ≡ (designation cp a).effects
  unfolding place_lowering place_effects_of
  place_effects_kept a = place_fused (lower_step w.p w.from declares is_same) (place_lower_step w.p w.from declares is_same) effect_step (place_effect_step w.from) (λ l. l.effects) (λ l. l.effects) (λ x. refl) (λ x. refl) a ∙ sym (place_effects_linked cp a)

  -- ---- the claims

  abbrev pub Works : Meaning → Lowering → Type 0
  Works m l = Operands w m l.operand × Wholes w m l.whole × EffectsOf w m l.effect

  -- an expression that takes addresses of locals whose addresses are taken, and is lowered right where it is typed
  abbrev pub P : Expr → Type 0
  P e = TakesAddressesOf w.from e × (is_old w.base e ≡ true → TypedExpr cp e → Works (meaning cp e) (lowering_at e))

  pub record PlaceWorks (d : Designation) (l : PlaceLowering) : Type 0 where
    pub operands : Places w d l.operands
    pub local : (i : ℕ) → d.effects.register ≡ Some i → IsLocal w d l i

  abbrev pub Q : Place → Type 0
  Q a = PlaceTakesAddressesOf w.from a × (is_old_place w.base a ≡ true → TypedPlace cp a → PlaceWorks (designation cp a) (place_lowering_at a))

  right_of : (e : Expr) → Works (meaning cp e) (lowering_at e) → IsRight w (meaning cp e) (lowering_at e)
  right_of e h = record { ctype = type_kept e; effects = effects_kept e; operand = h.0; whole = h.1; effect = h.2 }

  abbrev level_lowering : one.Expr-F Expr Place → Lowering
  level_lowering x = lower_step w.p w.from declares is_same (map-Expr Expr Place Lowering PlaceLowering lowering_at place_lowering_at x)

  abbrev level_place : one.Place-F Expr Place → PlaceLowering
  level_place x = place_lower_step w.p w.from declares is_same (map-Place Expr Place Lowering PlaceLowering lowering_at place_lowering_at x)

  abbrev LevelWorks : one.Expr-F Expr Place → Type 0
  LevelWorks x = Works (at_level cp x) (level_lowering x)

  -- the parts are lowered right
  abbrev R : Expr → Type 0
  R e = IsRight w (meaning cp e) (lowering_at e)

  abbrev RP : Place → Type 0
  RP a = IsRightPlace w (designation cp a) (place_lowering_at a)

  -- ---- by levels

  by_default : (m : Meaning) (op : Lowers Expr) (t : Option ValueType) → Operands w m op → Operands w m op × Wholes w m (whole_by op) × EffectsOf w m (effect_by t op)
  by_default m op t h = (h, whole_works w alike m op h, effect_works w alike m op h t)

  leaf : (x : one.Expr-F Expr Place) → ((later : Registers) → PureExpr w (at_level cp x) (at_level cq x) later) → Operands w (at_level cp x) (λ later. done (roll-Expr x))
  leaf x h later k above declared =
      operand_itself w alike (at_level cp x) (roll-Expr x) later k (subst (λ (m : Meaning). PureExpr w (at_level cp x) m later) (sym (level cq x)) (h later))

  effect_assigned : (e : Expr) → (lowering_at e).effects.assigned ≡ (meaning cp e).effects.assigned
  effect_assigned e = ap (λ (z : Effects). z.assigned) (effects_kept e)

  two_at : (m : Meaning) (b : Expr) (fe : Expr → Expr → Expr) (opa opb : Lowers Expr) → Operands w m (from_two fe (meaning cp b).effects.assigned opa opb) → Operands w m (from_two fe (lowering_at b).effects.assigned opa opb)
  two_at m b fe opa opb h = subst (λ (q : Registers). Operands w m (from_two fe q opa opb)) (sym (effect_assigned b)) h

  abbrev vq : View
  vq = of_program w.q

  -- operators that are never folded
  qualify_level : (c : CType) (a : Expr) → R a → Operands w (at_level cp (one.Qualify c a)) (from_one (Qualify c) (lowering_at a).operand)
  qualify_level c a h =
      operand_one w (λ v. v) (Qualify c) (meaning cp a) (at_level cp (one.Qualify c a)) refl (λ later. refl)
      (λ e u t. (
        (λ v s g. gives_Qualify w c e v s g),
        ap (λ (m : Meaning). m.effects.assigned) (at-Qualify cq c e) ∙ u,
        equal_types (ap (λ (m : Meaning). m.ctype) (at-Qualify cq c e) ∙ qualify_types vq w.to.locals c (meaning cq e).ctype (meaning cp a).ctype t ∙ same_type_at w alike (one.Qualify c (meaning cp a).ctype)),
      )) (lowering_at a).operand h.operand

  move_level : (a b : Expr) (back : Bool) → R a → R b → Operands w (at_level cp (one.Move a b back)) (from_two (λ x y. Move x y back) (lowering_at b).effects.assigned (lowering_at a).operand (lowering_at b).operand)
  move_level a b back h k =
      two_at (at_level cp (one.Move a b back)) b (λ x y. Move x y back) (lowering_at a).operand (lowering_at b).operand
      (operand_two w (movement back) (λ x y. Move x y back) (meaning cp a) (meaning cp b) (at_level cp (one.Move a b back)) refl (λ later. refl)
      (λ e d x y p q. (
        (λ v u t g i. gives_Move w e d back v u t y g i),
        ap (λ (m : Meaning). m.effects.assigned) (at-Move cq e d back) ∙ none_of w (meaning cq e).effects.assigned (meaning cq d).effects.assigned x y,
        types_between (ap (λ (m : Meaning). m.ctype) (at-Move cq e d back)) (move_types vq w.to.locals back (meaning cq e).ctype (meaning cp a).ctype (meaning cq d).ctype (meaning cp b).ctype p q)
            (same_type_at w alike (one.Move (meaning cp a).ctype (meaning cp b).ctype back)),
      ))
      (lowering_at a).operand (lowering_at b).operand h.operand k.operand)

  gap_level : (a b : Expr) → R a → R b → Operands w (at_level cp (one.Gap a b)) (from_two Gap (lowering_at b).effects.assigned (lowering_at a).operand (lowering_at b).operand)
  gap_level a b h k =
      two_at (at_level cp (one.Gap a b)) b Gap (lowering_at a).operand (lowering_at b).operand
      (operand_two w (gap w.p.target) Gap (meaning cp a) (meaning cp b) (at_level cp (one.Gap a b)) refl (λ later. refl)
      (λ e d x y p q. (
        (λ v u t g i. subst (λ (z : Target). Gives w (Gap e d) (gap z v u) t) (sym (same_target w alike)) (gives_Gap w e d v u t y g i)),
        ap (λ (m : Meaning). m.effects.assigned) (at-Gap cq e d) ∙ none_of w (meaning cq e).effects.assigned (meaning cq d).effects.assigned x y,
        equal_types (ap (λ (m : Meaning). m.ctype) (at-Gap cq e d) ∙ gap_types vq w.to.locals (meaning cq e).ctype (meaning cp a).ctype (meaning cq d).ctype (meaning cp b).ctype p q ∙ same_type_at w alike (one.Gap (meaning cp a).ctype (meaning cp b).ctype)),
      ))
      (lowering_at a).operand (lowering_at b).operand h.operand k.operand)

  compare_level : (o : BinOp) (a b : Expr) → R a → R b → Operands w (at_level cp (one.Compare o a b)) (from_two (Compare o) (lowering_at b).effects.assigned (lowering_at a).operand (lowering_at b).operand)
  compare_level o a b h k =
      two_at (at_level cp (one.Compare o a b)) b (Compare o) (lowering_at a).operand (lowering_at b).operand
      (operand_two w (comparison o) (Compare o) (meaning cp a) (meaning cp b) (at_level cp (one.Compare o a b)) refl (λ later. refl)
      (λ e d x y p q. (
        (λ v u t g i. gives_Compare w o e d v u t y g i),
        ap (λ (m : Meaning). m.effects.assigned) (at-Compare cq o e d) ∙ none_of w (meaning cq e).effects.assigned (meaning cq d).effects.assigned x y,
        equal_types (ap (λ (m : Meaning). m.ctype) (at-Compare cq o e d) ∙ compare_types vq w.to.locals o (meaning cq e).ctype (meaning cp a).ctype (meaning cq d).ctype (meaning cp b).ctype p q ∙ same_type_at w alike (one.Compare o (meaning cp a).ctype (meaning cp b).ctype)),
      ))
      (lowering_at a).operand (lowering_at b).operand h.operand k.operand)

  address_level : (a : Place) → RP a → Operands w (at_level cp (one.AddrOf a)) (from_one AddrOf (place_lowering_at a).operands)
  address_level a h later k above declared =
      address_operand w alike (designation cp a) (at_level cp (one.AddrOf a)) later k ((place_lowering_at a).operands later k) refl refl
      (λ b t. types_between (ap (λ (m : Meaning). m.ctype) (at-AddrOf cq b)) (address_types vq w.to.locals (designation cq b).ctype (designation cp a).ctype t) (same_type_at w alike (one.AddrOf (designation cp a).ctype)))
      (h.operands later k above declared)

  read_level : (a : Place) → RP a → Operands w (at_level cp (one.Load a)) (read (place_lowering_at a))
  read_level a h = operand_read w alike (designation cp a) (place_lowering_at a) h (at_level cp (one.Load a)) refl (same_one (designation cp a).ctype) (λ later. refl)

  -- a comma
  seq_type : (a b : Expr) → IsTyped (at_level cp (one.Seq a b)).ctype → (meaning cp b).ctype ≡ (at_level cp (one.Seq a b)).ctype
  seq_type a b ty = let p = typed_parts cp (one.Seq a b) ty in by_types (meaning cp a).ctype (meaning cp b).ctype p.0.0 p.1.0 p.0.1 p.1.1
    where
      by_types : (t u : Option ValueType) (x y : ValueType) → t ≡ Some x → u ≡ Some y → u ≡ of_two t u (λ a b. Some b)
      by_types t u x y e f = rw (e, f) refl

  seq_level : (a b : Expr) → IsTyped (at_level cp (one.Seq a b)).ctype → R a → R b → LevelWorks (one.Seq a b)
  seq_level a b ty ra rb = (
    subst (λ (q : Registers). Operands w (at_level cp (one.Seq a b)) (λ later. (lowering_at a).effect (also q later) >>= (λ u. (lowering_at b).operand later))) (sym (effect_assigned b)) operand,
    subst (λ (q : Registers). Wholes w (at_level cp (one.Seq a b)) (λ t n later. (lowering_at a).effect (also q later) >>= (λ u. (lowering_at b).whole t n later))) (sym (effect_assigned b)) whole,
    subst (λ (q : Registers). EffectsOf w (at_level cp (one.Seq a b)) (λ later. (lowering_at a).effect (also q later) >>= (λ u. (lowering_at b).effect later))) (sym (effect_assigned b)) effect,
  )
    where
      operand : Operands w (at_level cp (one.Seq a b)) (λ later. (lowering_at a).effect (also (meaning cp b).effects.assigned later) >>= (λ u. (lowering_at b).operand later))
      operand later k above declared =
          let x = (lowering_at a).effect (also (meaning cp b).effects.assigned later) k in
          let y = (lowering_at b).operand later (k + length x.temps) in
          let o = rb.operand later (k + length x.temps) (omega (arith, above)) (declared_right w k x.temps y.temps declared) in
          record {
            assigned = o.assigned;
            ctype = types_between refl o.ctype (seq_type a b ty);
            sim = λ r s z.
                sim_count w (also (meaning cp a).effects.assigned (meaning cp b).effects.assigned) later k (length x.temps + length y.temps) (length (x.temps ++ y.temps)) (Gives w y.value) s (sequence (meaning cp a) (meaning cp b) later) r
                (code_tree w (x.stmts ++ y.stmts)) s (sym (length-append x.temps y.temps))
                (sequence_operand w alike (meaning cp a) (meaning cp b) later k (length x.temps) (length y.temps) above x.stmts y.stmts
                (ra.effect (also (meaning cp b).effects.assigned later) k above (declared_left w k x.temps y.temps declared)) y.value (λ r' s' z'. o.sim r' s' z') r s z);
          }

      whole : Wholes w (at_level cp (one.Seq a b)) (λ t n later. (lowering_at a).effect (also (meaning cp b).effects.assigned later) >>= (λ u. (lowering_at b).whole t n later))
      whole t n later k above l in_n declared r s z =
          let x = (lowering_at a).effect (also (meaning cp b).effects.assigned later) k in
          let y = (lowering_at b).whole t n later (k + length x.temps) in
          sequence_whole w alike (meaning cp a) (meaning cp b) later k (length x.temps) (length y.temps) above x.stmts y.stmts (ra.effect (also (meaning cp b).effects.assigned later) k above (declared_left w k x.temps y.temps declared)) n
          (rb.whole t n later (k + length x.temps) (omega (arith, above)) (omega (arith, l)) in_n (declared_right w k x.temps y.temps declared)) r s z

      effect : EffectsOf w (at_level cp (one.Seq a b)) (λ later. (lowering_at a).effect (also (meaning cp b).effects.assigned later) >>= (λ u. (lowering_at b).effect later))
      effect later k above declared r s z =
          let x = (lowering_at a).effect (also (meaning cp b).effects.assigned later) k in
          let y = (lowering_at b).effect later (k + length x.temps) in
          sequence_effect w alike (meaning cp a) (meaning cp b) later k (length x.temps) (length y.temps) above x.stmts y.stmts (ra.effect (also (meaning cp b).effects.assigned later) k above (declared_left w k x.temps y.temps declared))
          (rb.effect later (k + length x.temps) (omega (arith, above)) (declared_right w k x.temps y.temps declared)) r s z

  module _ (here : IsActivation (context_p w) w.openings) (within : length w.from.locals ≤ w.base) where
    right_place : (a : Place) → PlaceTakesAddressesOf w.from a → TypedPlace cp a → PlaceWorks (designation cp a) (place_lowering_at a) → IsRightPlace w (designation cp a) (place_lowering_at a)
    right_place a own t h = record {
      ctype = place_type_kept a;
      effects = place_effects_kept a;
      operands = h.operands;
      shared = λ none later. shared_place w here within a own t none later;
      local = h.local;
    }

    abbrev old_of : one.Expr-F Expr Place → Bool
    old_of x = old_step (map-Expr Expr Place Bool Bool (is_old w.base) (is_old_place w.base) x)

    -- what an operator on integers takes has the same type in both programs
    one_integer : (f : ValueType → Option ValueType) (a e : Expr) → IsTyped (of_one (meaning cp a).ctype f) → ((x y : ValueType) → f x ≡ Some y → is_integer x ≡ true) →
        TypesAgree (meaning cq e).ctype (meaning cp a).ctype → (meaning cq e).ctype ≡ (meaning cp a).ctype
    one_integer f a e ty law h =
        with_one ((meaning cq e).ctype ≡ (meaning cp a).ctype) (meaning cp a).ctype f ty.0 ty.1 (λ x g k. integral_agrees (meaning cq e).ctype (meaning cp a).ctype x h g (law x ty.0 k))

    un_integer : (o : UnOp) (t : IntType) (x y : ValueType) → unary_type w.p.target o t x ≡ Some y → is_integer x ≡ true
    un_integer o t x y k = of_integer t x (both_true (is_promoted w.p.target t) (is_of t x) (when_true (is_promoted w.p.target t && is_of t x) (Integer (unary_result o t)) y k)).1

    bin_integers : (o : BinOp) (t : IntType) (x z y : ValueType) → binary_type w.p.target o t x z ≡ Some y → (is_integer x ≡ true) × (is_integer z ≡ true)
    bin_integers o t x z y k =
        let p = both_true (is_promoted w.p.target t) (is_of t x && second_fits w.p.target o t z) (when_true (is_promoted w.p.target t && (is_of t x && second_fits w.p.target o t z)) (Integer (binary_result o t)) y k) in
        let q = both_true (is_of t x) (second_fits w.p.target o t z) p.1 in
        (of_integer t x q.0, second_integer w.p.target o t z q.1)

    un_level : (o : UnOp) (t : IntType) (a : Expr) → IsTyped (at_level cp (one.Un o t a)).ctype → R a → Operands w (at_level cp (one.Un o t a)) (from_one (folded_un w.p w.from declares is_same o t) (lowering_at a).operand)
    un_level o t a ty h = operand_one w (unary o t w.p.target) (folded_un w.p w.from declares is_same o t) (meaning cp a) (at_level cp (one.Un o t a)) refl (λ later. refl) (λ e u z. let m = un_folded w alike declares is_same o t a e ty u (one_integer (unary_type w.p.target o t) a e ty (un_integer o t) z) in (m.0, m.1, equal_types m.2)) (lowering_at a).operand h.operand

    conv_level : (t : IntType) (a : Expr) → IsTyped (at_level cp (one.Conv t a)).ctype → R a → Operands w (at_level cp (one.Conv t a)) (from_one (folded_conv w.p w.from declares is_same t) (lowering_at a).operand)
    conv_level t a ty h = operand_one w (conversion t w.p.target) (folded_conv w.p w.from declares is_same t) (meaning cp a) (at_level cp (one.Conv t a)) refl (λ later. refl) (λ e u z. let m = conv_folded w alike declares is_same t a e ty u (one_integer (conversion_type t) a e ty (λ x y k. when_true (is_integer x) (Integer t) y k) z) in (m.0, m.1, equal_types m.2)) (lowering_at a).operand h.operand

    bin_level : (o : BinOp) (t : IntType) (a b : Expr) → IsTyped (at_level cp (one.Bin o t a b)).ctype → R a → R b → Operands w (at_level cp (one.Bin o t a b)) (from_two (folded_bin w.p w.from declares is_same o t) (lowering_at b).effects.assigned (lowering_at a).operand (lowering_at b).operand)
    bin_level o t a b ty h k =
        two_at (at_level cp (one.Bin o t a b)) b (folded_bin w.p w.from declares is_same o t) (lowering_at a).operand (lowering_at b).operand
        (operand_two w (binary o t w.p.target) (folded_bin w.p w.from declares is_same o t) (meaning cp a) (meaning cp b) (at_level cp (one.Bin o t a b)) refl (λ later. refl) (λ e d x y p q.
        let m = bin_folded w alike declares is_same o t a b e d ty x y
        (with_two ((meaning cq e).ctype ≡ (meaning cp a).ctype) (meaning cp a).ctype (meaning cp b).ctype (binary_type w.p.target o t) ty.0 ty.1
        (λ u v f g k. integral_agrees (meaning cq e).ctype (meaning cp a).ctype u p f (bin_integers o t u v ty.0 k).0))
        (with_two ((meaning cq d).ctype ≡ (meaning cp b).ctype) (meaning cp a).ctype (meaning cp b).ctype (binary_type w.p.target o t) ty.0 ty.1
        (λ u v f g k. integral_agrees (meaning cq d).ctype (meaning cp b).ctype v q g (bin_integers o t u v ty.0 k).1))
        in (m.0, m.1, equal_types m.2))
        (lowering_at a).operand (lowering_at b).operand h.operand k.operand)

    -- an `&&`, pure or not
    both_type : (a b : Expr) → IsTyped (at_level cp (one.Both a b)).ctype → (at_level cp (one.Both a b)).ctype ≡ int_value
    both_type a b ty = let p = typed_parts cp (one.Both a b) ty in by_types (meaning cp a).ctype (meaning cp b).ctype p.0.0 p.1.0 p.0.1 p.1.1 ty
      where
        by_types : (t u : Option ValueType) (x y : ValueType) → t ≡ Some x → u ≡ Some y → IsTyped (of_two t u logical_type) → of_two t u logical_type ≡ int_value
        by_types t u x y e f h =
            let g : of_two t u logical_type ≡ logical_type x y = rw (e, f) refl in
            let k = when_is (is_scalar x && is_scalar y) (Integer int.Int) h.0 (sym g ∙ h.1) in
            h.1 ∙ ap (λ (z : ValueType). Some z) (sym k)

    pure_itself : (x : one.Expr-F Expr Place) → old_of x ≡ true → (later : Registers) (k : ℕ) → (at_level cp x).effects.pure later ≡ true → IsOperand w (at_level cp x) later k (piece [] [] (roll-Expr x))
    pure_itself x o later k pure =
        operand_itself w alike (at_level cp x) (roll-Expr x) later k
        (subst (λ (m : Meaning). PureExpr w m (meaning cq (roll-Expr x)) later) (level cp x)
        (pure_expr w alike below (roll-Expr x) (old_level w.base x ∙ o) later (ap (λ (m : Meaning). m.effects.pure later) (level cp x) ∙ pure)))

    -- `e != 0` tells whether the value is not 0
    truths : (b : Expr) (t : TypedExpr cp b) → is_scalar t.0 ≡ true → (x : Expr) (v : Option Value) (s : Regs) → Gives w x v s → ValueOf w (meaning cp b).ctype v → Gives w (truth_of w.p w.from declares is_same (lowering_at b).ctype x) (of_truth (truth v)) s
    truths b t k x v s g h = truth_works w alike declares is_same (lowering_at b).ctype (meaning cp b).ctype t.0 (type_kept b ∙ t.1) t.1 k x v s g h

    both_level : (a b : Expr) → TakesAddressesOf w.from b → IsTyped (at_level cp (one.Both a b)).ctype → old_of (one.Both a b) ≡ true → R a → R b → BothModes w (at_level cp (one.Both a b)) (level_lowering (one.Both a b)).effects (level_lowering (one.Both a b)).itself (level_lowering (one.Both a b)).ctype (both_value w.p w.from declares is_same (lowering_at a) (lowering_at b))
    both_level a b own ty o ra rb =
        let tp = typed_parts cp (one.Both a b) ty in
        subst (λ (e : Expr). BothModes w (at_level cp (one.Both a b)) (level_lowering (one.Both a b)).effects e (level_lowering (one.Both a b)).ctype (both_value w.p w.from declares is_same (lowering_at a) (lowering_at b)))
        (sym (ap (λ (x : Expr). roll-Expr (one.Both x (lowering_at b).itself)) (itself w.p w.from declares is_same a) ∙ ap (λ (x : Expr). roll-Expr (one.Both a x)) (itself w.p w.from declares is_same b)))
        (right_both w alike w.p w.from declares is_same (meaning cp a) (meaning cp b) (at_level cp (one.Both a b)) (lowering_at a) (lowering_at b) ra rb (roll-Expr (one.Both a b)) (ValueOf w (meaning cp b).ctype) refl (both_type a b ty) (λ later. refl)
        (pure_itself (one.Both a b) o) (value_answers w here b own tp.1) (truths b tp.1 (second_scalar (meaning cp a).ctype (meaning cp b).ctype tp.1.0 tp.1.1 ty))
        (level_lowering (one.Both a b)).effects (level_lowering (one.Both a b)).ctype (ap (λ (z : Effects). of_both z (lowering_at b).effects) (effects_kept a) ∙ ap (of_both (meaning cp a).effects) (effects_kept b)))

    either_level : (a b : Expr) → TakesAddressesOf w.from b → IsTyped (at_level cp (one.Either a b)).ctype → old_of (one.Either a b) ≡ true → R a → R b → BothModes w (at_level cp (one.Either a b)) (level_lowering (one.Either a b)).effects (level_lowering (one.Either a b)).itself (level_lowering (one.Either a b)).ctype (either_value w.p w.from declares is_same (lowering_at a) (lowering_at b))
    either_level a b own ty o ra rb =
        let tp = typed_parts cp (one.Either a b) ty in
        subst (λ (e : Expr). BothModes w (at_level cp (one.Either a b)) (level_lowering (one.Either a b)).effects e (level_lowering (one.Either a b)).ctype (either_value w.p w.from declares is_same (lowering_at a) (lowering_at b)))
        (sym (ap (λ (x : Expr). roll-Expr (one.Either x (lowering_at b).itself)) (itself w.p w.from declares is_same a) ∙ ap (λ (x : Expr). roll-Expr (one.Either a x)) (itself w.p w.from declares is_same b)))
        (right_either w alike w.p w.from declares is_same (meaning cp a) (meaning cp b) (at_level cp (one.Either a b)) (lowering_at a) (lowering_at b) ra rb (roll-Expr (one.Either a b)) (ValueOf w (meaning cp b).ctype) refl (both_type a b ty) (λ later. refl)
        (pure_itself (one.Either a b) o) (value_answers w here b own tp.1) (truths b tp.1 (second_scalar (meaning cp a).ctype (meaning cp b).ctype tp.1.0 tp.1.1 ty))
        (level_lowering (one.Either a b)).effects (level_lowering (one.Either a b)).ctype (ap (λ (z : Effects). of_both z (lowering_at b).effects) (effects_kept a) ∙ ap (of_both (meaning cp a).effects) (effects_kept b)))

    choose_type : (c a b : Expr) → (lowering_at c).ctype ≡ (meaning cp c).ctype → (lowering_at a).ctype ≡ (meaning cp a).ctype → (lowering_at b).ctype ≡ (meaning cp b).ctype → (level_lowering (one.Choose c a b)).ctype ≡ (at_level cp (one.Choose c a b)).ctype
    choose_type c a b x y z =
        ap (λ (t : Option ValueType). expr_step w.p w.from.locals (one.Choose t (lowering_at a).ctype (lowering_at b).ctype)) x ∙ ap (λ (t : Option ValueType). expr_step w.p w.from.locals (one.Choose (meaning cp c).ctype t (lowering_at b).ctype)) y ∙
        ap (λ (t : Option ValueType). expr_step w.p w.from.locals (one.Choose (meaning cp c).ctype (meaning cp a).ctype t)) z

    choose_effects : (c a b : Expr) → (lowering_at c).effects ≡ (meaning cp c).effects → (lowering_at a).effects ≡ (meaning cp a).effects → (lowering_at b).effects ≡ (meaning cp b).effects → (level_lowering (one.Choose c a b)).effects ≡ (at_level cp (one.Choose c a b)).effects
    choose_effects c a b x y z =
        ap (λ (t : Effects). effect_step (one.Choose t (lowering_at a).effects (lowering_at b).effects)) x ∙ ap (λ (t : Effects). effect_step (one.Choose (meaning cp c).effects t (lowering_at b).effects)) y ∙
        ap (λ (t : Effects). effect_step (one.Choose (meaning cp c).effects (meaning cp a).effects t)) z

    choose_level : (c a b : Expr) → old_of (one.Choose c a b) ≡ true → R c → R a → R b → BothModes w (at_level cp (one.Choose c a b)) (level_lowering (one.Choose c a b)).effects (level_lowering (one.Choose c a b)).itself (level_lowering (one.Choose c a b)).ctype (choose_value (level_lowering (one.Choose c a b)).ctype (lowering_at c) (lowering_at a) (lowering_at b))
    choose_level c a b o rc ra rb =
        subst (λ (e : Expr). BothModes w (at_level cp (one.Choose c a b)) (level_lowering (one.Choose c a b)).effects e (level_lowering (one.Choose c a b)).ctype (choose_value (level_lowering (one.Choose c a b)).ctype (lowering_at c) (lowering_at a) (lowering_at b)))
        (sym (ap (λ (x : Expr). roll-Expr (one.Choose x (lowering_at a).itself (lowering_at b).itself)) (itself w.p w.from declares is_same c) ∙ ap (λ (x : Expr). roll-Expr (one.Choose c x (lowering_at b).itself)) (itself w.p w.from declares is_same a) ∙ ap (λ (x : Expr). roll-Expr (one.Choose c a x)) (itself w.p w.from declares is_same b)))
        (right_choose w alike w.p w.from declares is_same (meaning cp c) (meaning cp a) (meaning cp b) (at_level cp (one.Choose c a b)) (lowering_at c) (lowering_at a) (lowering_at b) rc ra rb (roll-Expr (one.Choose c a b)) (level_lowering (one.Choose c a b)).ctype refl
        (sym (choose_type c a b (type_kept c) (type_kept a) (type_kept b))) (λ later. refl) (pure_itself (one.Choose c a b) o)
        (level_lowering (one.Choose c a b)).effects (choose_effects c a b (effects_kept c) (effects_kept a) (effects_kept b)))

    abbrev void_by : (c a b : Expr) → Registers → Registers → Lowers (Unit {0})
    void_by c a b q1 q2 later = (lowering_at c).operand (also q1 (also q2 later)) >>= (λ v. fork v ((lowering_at a).effect (also q2 later)) ((lowering_at b).effect later))

    void_level : (c a b : Expr) → R c → R a → R b → EffectsOf w (at_level cp (one.Choose c a b)) (choose_void (lowering_at c) (lowering_at a) (lowering_at b))
    void_level c a b rc ra rb =
        subst (λ (q : Registers). EffectsOf w (at_level cp (one.Choose c a b)) (void_by c a b q (lowering_at b).effects.assigned)) (sym (effect_assigned a))
        (subst (λ (q : Registers). EffectsOf w (at_level cp (one.Choose c a b)) (void_by c a b (meaning cp a).effects.assigned q)) (sym (effect_assigned b)) lowered)
      where
        lowered : EffectsOf w (at_level cp (one.Choose c a b)) (void_by c a b (meaning cp a).effects.assigned (meaning cp b).effects.assigned)
        lowered later k above declared r s i =
            let z = (lowering_at c).operand (also (meaning cp a).effects.assigned (also (meaning cp b).effects.assigned later)) k in
            let j = k + length z.temps in
            let x = (lowering_at a).effect (also (meaning cp b).effects.assigned later) j in
            let y = (lowering_at b).effect later (j + length x.temps) in
            let behind = declared_right w k z.temps (x.temps ++ y.temps) declared in
            void_choice w alike ((at_level cp (one.Choose c a b)).effects.pure later) (meaning cp c) (meaning cp a) (meaning cp b) (at_level cp (one.Choose c a b)) later k above z x y j (j + length x.temps) (omega arith) (omega arith) refl refl
            (rc.operand (also (meaning cp a).effects.assigned (also (meaning cp b).effects.assigned later)) k above (declared_left w k z.temps (x.temps ++ y.temps) declared))
            (λ r s i. ra.effect (also (meaning cp b).effects.assigned later) j (omega (arith, above)) (declared_left w j x.temps y.temps behind) r s i)
            (λ r s i. rb.effect later (j + length x.temps) (omega (arith, above)) (declared_right w j x.temps y.temps behind) r s i) r s i

    no_value_is : (t : Option ValueType) → is_void_value t ≡ true → t ≡ Some NoValue
    no_value_is None h = absurd (cc)
    no_value_is (Some NoValue) h = refl
    no_value_is (Some (Integer t)) h = absurd (cc)
    no_value_is (Some (ToObject constant volatile t)) h = absurd (cc)
    no_value_is (Some (ToFunction sig)) h = absurd (cc)

    choose_effect : (c a b : Expr) → R c → R a → R b → (z : Bool) → is_void_value (level_lowering (one.Choose c a b)).ctype ≡ z →
        EffectsOf w (at_level cp (one.Choose c a b)) (branch_alone (level_lowering (one.Choose c a b)).effects (level_lowering (one.Choose c a b)).ctype (level_lowering (one.Choose c a b)).operand) →
        EffectsOf w (at_level cp (one.Choose c a b)) (λ later. if z then choose_void (lowering_at c) (lowering_at a) (lowering_at b) later else branch_alone (level_lowering (one.Choose c a b)).effects (level_lowering (one.Choose c a b)).ctype (level_lowering (one.Choose c a b)).operand later)
    choose_effect c a b rc ra rb true e x = void_level c a b rc ra rb
    choose_effect c a b rc ra rb false e x = x

    -- the value of an assignment is of the type that its place is read as
    write_is_read : (u : Option PlaceType) (x : ValueType) → of_one u written_to ≡ Some x → option_and_then read_from u ≡ Some x
    write_is_read None x h = absurd (cc)
    write_is_read (Some (DevicePlace true t)) x h = absurd (cc)
    write_is_read (Some (DevicePlace false t)) x h = h
    write_is_read (Some (ObjectPlace true volatile t)) x h = absurd (cc)
    write_is_read (Some (ObjectPlace false volatile t)) x h = h
    write_is_read (Some (FunctionPlace sig)) x h = absurd (cc)

    assign_type : (a : Place) (e : Expr) → IsTyped (at_level cp (one.Assign a e)).ctype → (at_level cp (one.Assign a e)).ctype ≡ value_of (place_lowering_at a)
    assign_type a e ty =
        with_two ((at_level cp (one.Assign a e)).ctype ≡ value_of (place_lowering_at a)) (of_one (designation cp a).ctype written_to) (meaning cp e).ctype assignment_type ty.0 ty.1
        (λ to from f g k. ty.1 ∙ ap (λ (z : ValueType). Some z) (sym (when_is (is_assignable to from) to ty.0 k)) ∙ sym (ap (option_and_then read_from) (place_type_kept a) ∙ write_is_read (designation cp a).ctype to f))

    change_same : (o : BinOp) (t : IntType) (to from x : ValueType) → change_type w.p.structures w.p.target o t to from ≡ Some x → to ≡ x
    change_same o t NoValue from x h = absurd (cc)
    change_same o t (Integer s) from x h = when_is (not (is_comparison o) && changes_by w.p.target s o t from) (Integer s) x h
    change_same o t (ToObject constant volatile to) from x h = when_is (is_additive o && (is_complete w.p.structures to && is_of t from)) (ToObject constant volatile to) x h
    change_same o t (ToFunction sig) from x h = absurd (cc)

    change_is : (a : Place) (o : BinOp) (t : IntType) (e : Expr) → IsTyped (at_level cp (one.Change a o t e)).ctype → (at_level cp (one.Change a o t e)).ctype ≡ value_of (place_lowering_at a)
    change_is a o t e ty =
        with_two ((at_level cp (one.Change a o t e)).ctype ≡ value_of (place_lowering_at a)) (of_one (designation cp a).ctype written_to) (meaning cp e).ctype (change_type w.p.structures w.p.target o t) ty.0 ty.1
        (λ to from f g k. ty.1 ∙ ap (λ (z : ValueType). Some z) (sym (change_same o t to from ty.0 k)) ∙ sym (ap (option_and_then read_from) (place_type_kept a) ∙ write_is_read (designation cp a).ctype to f))

    written_type : (a : Place) (e : Option ValueType) (f : ValueType → ValueType → Option ValueType) → IsTyped (of_two (of_one (designation cp a).ctype written_to) e f) → IsTyped (of_one (designation cp a).ctype written_to)
    written_type a e f ty = with_two (IsTyped (of_one (designation cp a).ctype written_to)) (of_one (designation cp a).ctype written_to) e f ty.0 ty.1 (λ to from g h k. (to, g))

    change_level : (a : Place) (o : BinOp) (t : IntType) (e : Expr) → PlaceTakesAddressesOf w.from a → TakesAddressesOf w.from e → IsTyped (at_level cp (one.Change a o t e)).ctype → RP a → R e → LevelWorks (one.Change a o t e)
    change_level a o t e there own ty ra re =
        let x = change_works w alike o t (designation cp a) (place_lowering_at a) ra (meaning cp e) (lowering_at e) re (at_level cp (one.Change a o t e)) refl (change_is a o t e ty) (λ later. refl) w.p w.from declares is_same (λ old b x y f g. change_law w alike declares is_same (designation cp a) (meaning cp e) (place_lowering_at a) o t (place_type_kept a) ty old b x y)
        (let u = written_type a (meaning cp e).ctype (change_type w.p.structures w.p.target o t) ty in read_answers w here a there u.0 u.1) (changed_fits w here alike a o t e own ty) in
        (x.0, whole_works w alike (at_level cp (one.Change a o t e)) (level_lowering (one.Change a o t e)).operand x.0, x.1)

    after_is : (a : Place) (down : Bool) → IsTyped (at_level cp (one.After a down)).ctype → (at_level cp (one.After a down)).ctype ≡ value_of (place_lowering_at a)
    after_is a down ty =
        with_one ((at_level cp (one.After a down)).ctype ≡ value_of (place_lowering_at a)) (of_one (designation cp a).ctype written_to) (after_type w.p.structures) ty.0 ty.1
        (λ to f k. ty.1 ∙ ap (λ (z : ValueType). Some z) (sym (when_is (is_integer to || points_to_object w.p.structures to) to ty.0 k)) ∙ sym (ap (option_and_then read_from) (place_type_kept a) ∙ write_is_read (designation cp a).ctype to f))

    step_level : (a : Place) (down : Bool) → PlaceTakesAddressesOf w.from a → IsTyped (at_level cp (one.After a down)).ctype → RP a → LevelWorks (one.After a down)
    step_level a down there ty r =
        let x = step_works w alike down (designation cp a) (place_lowering_at a) r (at_level cp (one.After a down)) refl (after_is a down ty) (λ later. refl) w.p w.from declares is_same (λ old x f. step_law w alike declares is_same (designation cp a) (place_lowering_at a) down (place_type_kept a) ty old x) (stepped_fits w here alike a down ty)
        (let u : IsTyped (of_one (designation cp a).ctype written_to) = with_one (IsTyped (of_one (designation cp a).ctype written_to)) (of_one (designation cp a).ctype written_to) (after_type w.p.structures) ty.0 ty.1 (λ to g k. (to, g)) in
        read_answers w here a there u.0 u.1) in
        (x.0, whole_works w alike (at_level cp (one.After a down)) (level_lowering (one.After a down)).operand x.0, x.1)

    assign_level : (a : Place) (e : Expr) → TakesAddressesOf w.from e → IsTyped (at_level cp (one.Assign a e)).ctype → RP a → R e → LevelWorks (one.Assign a e)
    assign_level a e own ty ra re =
        let x = assign_works w alike (designation cp a) (place_lowering_at a) (meaning cp e) (lowering_at e) ra re (at_level cp (one.Assign a e)) refl (assign_type a e ty) (λ later. refl) (assigned_fits w here alike a e own ty) in
        (x.0, whole_works w alike (at_level cp (one.Assign a e)) (level_lowering (one.Assign a e)).operand x.0, x.1)

    -- calls
    all_right : (es : List Expr) → Each R es → AllRight w alike (map (meaning cp) es) (map lowering_at es)
    all_right [] h = tt
    all_right (e ∷ es) h = (h.0, all_right es h.1)

    types_kept : (es : List Expr) → map (λ (l : Lowering). l.ctype) (map lowering_at es) ≡ map (λ (m : Meaning). m.ctype) (map (meaning cp) es)
    types_kept [] = refl
    types_kept (e ∷ es) = ap (λ (t : Option ValueType). t ∷ map (λ (l : Lowering). l.ctype) (map lowering_at es)) (type_kept e) ∙ ap (λ (ts : List (Option ValueType)). (meaning cp e).ctype ∷ ts) (types_kept es)

    call_level : (f : Expr) (args : List Expr) → R f → Each R args → LevelWorks (one.Call f args)
    call_level f args rf rs =
        call_works w alike w.p w.from declares is_same (meaning cp f) (at_level cp (one.Call f args)) (lowering_at f) (map (meaning cp) args) (map lowering_at args) rf (all_right args rs) (level_lowering (one.Call f args)).ctype refl
        (sym (ap (λ (t : Option ValueType). expr_step w.p w.from.locals (one.Call t (map (λ (l : Lowering). l.ctype) (map lowering_at args)))) (type_kept f) ∙
        ap (λ (ts : List (Option ValueType)). expr_step w.p w.from.locals (one.Call (meaning cp f).ctype ts)) (types_kept args))) (λ later. refl)

    -- intrinsics
    intr_none : (i : IntrKind) (c : Option Bool) → ((later : Registers) → (at_level cp (one.Intr i None)).next later ≡ flag_step (Some c)) → (at_level cq (one.Intr i None)).next no_one ≡ flag_step (Some c) → LevelWorks (one.Intr i None)
    intr_none i c f g =
        taken_works w alike flag_action no_flag_choice (sure_flag w alike) (at_level cp (one.Intr i None)) w.p w.from declares is_same (level_lowering (one.Intr i None)).ctype refl (from_one (Intr i) (intr_operand None))
        (λ later k above declared. flag_alone w alike (at_level cp (one.Intr i None)) later k (Intr i None) c refl (f later) (ap (λ (m : Meaning). m.next no_one) (at-Intr cq i None) ∙ g))

    intr_some : (a : Expr) → R a → LevelWorks (one.Intr intr.Restore (Some a))
    intr_some a ra =
        taken_works w alike flag_action no_flag_choice (sure_flag w alike) (at_level cp (one.Intr intr.Restore (Some a))) w.p w.from declares is_same (level_lowering (one.Intr intr.Restore (Some a))).ctype
        (sym (ap (λ (t : Option ValueType). expr_step w.p w.from.locals (one.Intr intr.Restore (Some t))) (type_kept a))) (from_one (Intr intr.Restore) (intr_operand (Some (lowering_at a))))
        (λ later k above declared.
        let x = (lowering_at a).operand later k in
        flag_with w alike (meaning cp a) (at_level cp (one.Intr intr.Restore (Some a))) later k x (Intr intr.Restore (Some x.value)) (ra.operand later k above declared) refl refl
        (ap (λ (m : Meaning). m.next no_one) (at-Intr cq intr.Restore (Some x.value))))

    intr_level : (i : IntrKind) (a : Option Expr) → IsTyped (at_level cp (one.Intr i a)).ctype → Parts R RP (one.Intr i a) → LevelWorks (one.Intr i a)
    intr_level intr.Off None ty h = intr_none intr.Off (Some false) (λ later. refl) refl
    intr_level intr.On None ty h = intr_none intr.On (Some true) (λ later. refl) refl
    intr_level intr.Save None ty h = intr_none intr.Save None (λ later. refl) refl
    intr_level intr.Restore None ty h = let k = ty.1 in absurd (cc)
    intr_level intr.Off (Some a) ty h = let k = ty.1 in absurd (cc)
    intr_level intr.On (Some a) ty h = let k = ty.1 in absurd (cc)
    intr_level intr.Save (Some a) ty h = let k = ty.1 in absurd (cc)
    intr_level intr.Restore (Some a) ty h = intr_some a h

    r_of : (e : Expr) → P e → is_old w.base e ≡ true → TypedExpr cp e → R e
    r_of e h o t = right_of e (h.1 o t)

    rp_of : (a : Place) → Q a → is_old_place w.base a ≡ true → TypedPlace cp a → RP a
    rp_of a h o t = right_place a h.0 t (h.1 o t)

    r_each : (es : List Expr) → Each P es → all_true (map (is_old w.base) es) ≡ true → Each (TypedExpr cp) es → Each R es
    r_each [] h o t = tt
    r_each (e ∷ es) h o t = let p = both_true (is_old w.base e) (all_true (map (is_old w.base) es)) o in (r_of e h.0 p.0 t.0, r_each es h.1 p.1 t.1)

    works_level : (x : one.Expr-F Expr Place) → Parts P Q x → old_of x ≡ true → IsTyped (at_level cp x).ctype → LevelWorks x
    works_level (one.Const n t) h o ty = by_default (at_level cp (one.Const n t)) (λ later. done (roll-Expr (one.Const n t))) _ (leaf (one.Const n t) (λ later. pure_const w alike n t later refl))
    works_level (one.Null t) h o ty = by_default (at_level cp (one.Null t)) (λ later. done (roll-Expr (one.Null t))) _ (leaf (one.Null t) (λ later. pure_null w alike t later refl))
    works_level (one.FuncAddr f) h o ty = by_default (at_level cp (one.FuncAddr f)) (λ later. done (roll-Expr (one.FuncAddr f))) _ (leaf (one.FuncAddr f) (λ later. pure_function w alike f later refl))
    works_level (one.Load a) h o ty =
        let tp = typed_parts cp (one.Load a) ty in
        let r = rp_of a h o tp in (
          read_level a r,
          load_whole w alike (designation cp a) (place_lowering_at a) r (at_level cp (one.Load a)) refl (same_one (designation cp a).ctype) (λ later. refl) w.p w.from declares is_same,
          load_unused w alike (designation cp a) (place_lowering_at a) r (at_level cp (one.Load a)) refl (same_one (designation cp a).ctype) (λ later. refl) w.p w.from declares is_same,
        )
    works_level (one.AddrOf a) h o ty =
        let tp = typed_parts cp (one.AddrOf a) ty in
        by_default (at_level cp (one.AddrOf a)) (from_one AddrOf (place_lowering_at a).operands) _ (address_level a (rp_of a h o tp))
    works_level (one.Un k t a) h o ty =
        let tp = typed_parts cp (one.Un k t a) ty in
        by_default (at_level cp (one.Un k t a)) (from_one (folded_un w.p w.from declares is_same k t) (lowering_at a).operand) _ (un_level k t a ty (r_of a h o tp))
    works_level (one.Bin k t a b) h o ty =
        let tp = typed_parts cp (one.Bin k t a b) ty in
        let p = both_true (is_old w.base a) (is_old w.base b) o in
        by_default (at_level cp (one.Bin k t a b)) (from_two (folded_bin w.p w.from declares is_same k t) (lowering_at b).effects.assigned (lowering_at a).operand (lowering_at b).operand) _ (bin_level k t a b ty (r_of a h.0 p.0 tp.0) (r_of b h.1 p.1 tp.1))
    works_level (one.Conv t a) h o ty =
        let tp = typed_parts cp (one.Conv t a) ty in
        by_default (at_level cp (one.Conv t a)) (from_one (folded_conv w.p w.from declares is_same t) (lowering_at a).operand) _ (conv_level t a ty (r_of a h o tp))
    works_level (one.Qualify c a) h o ty =
        let tp = typed_parts cp (one.Qualify c a) ty in
        by_default (at_level cp (one.Qualify c a)) (from_one (Qualify c) (lowering_at a).operand) _ (qualify_level c a (r_of a h o tp))
    works_level (one.Move a b back) h o ty =
        let tp = typed_parts cp (one.Move a b back) ty in
        let p = both_true (is_old w.base a) (is_old w.base b) o in
        by_default (at_level cp (one.Move a b back)) (from_two (λ x y. Move x y back) (lowering_at b).effects.assigned (lowering_at a).operand (lowering_at b).operand) _ (move_level a b back (r_of a h.0 p.0 tp.0) (r_of b h.1 p.1 tp.1))
    works_level (one.Gap a b) h o ty =
        let tp = typed_parts cp (one.Gap a b) ty in
        let p = both_true (is_old w.base a) (is_old w.base b) o in
        by_default (at_level cp (one.Gap a b)) (from_two Gap (lowering_at b).effects.assigned (lowering_at a).operand (lowering_at b).operand) _ (gap_level a b (r_of a h.0 p.0 tp.0) (r_of b h.1 p.1 tp.1))
    works_level (one.Compare k a b) h o ty =
        let tp = typed_parts cp (one.Compare k a b) ty in
        let p = both_true (is_old w.base a) (is_old w.base b) o in
        by_default (at_level cp (one.Compare k a b)) (from_two (Compare k) (lowering_at b).effects.assigned (lowering_at a).operand (lowering_at b).operand) _ (compare_level k a b (r_of a h.0 p.0 tp.0) (r_of b h.1 p.1 tp.1))
    works_level (one.Both a b) h o ty =
        let tp = typed_parts cp (one.Both a b) ty in
        let p = both_true (is_old w.base a) (is_old w.base b) o in let ra = r_of a h.0 p.0 tp.0 in let rb = r_of b h.1 p.1 tp.1 in let x = both_level a b h.1.0 ty o ra rb in (x.0, whole_works w alike (at_level cp (one.Both a b)) (level_lowering (one.Both a b)).operand x.0, x.1)
    works_level (one.Either a b) h o ty =
        let tp = typed_parts cp (one.Either a b) ty in
        let p = both_true (is_old w.base a) (is_old w.base b) o in let ra = r_of a h.0 p.0 tp.0 in let rb = r_of b h.1 p.1 tp.1 in let x = either_level a b h.1.0 ty o ra rb in (x.0, whole_works w alike (at_level cp (one.Either a b)) (level_lowering (one.Either a b)).operand x.0, x.1)
    works_level (one.Choose c a b) h o ty =
        let tp = typed_parts cp (one.Choose c a b) ty in
        let p = both_true (is_old w.base c) (is_old w.base a && is_old w.base b) o in
        let q = both_true (is_old w.base a) (is_old w.base b) p.1 in
        let rc = r_of c h.0 p.0 tp.0 in let ra = r_of a h.1 q.0 tp.1 in let rb = r_of b h.2 q.1 tp.2 in let x = choose_level c a b o rc ra rb in
        (x.0, whole_works w alike (at_level cp (one.Choose c a b)) (level_lowering (one.Choose c a b)).operand x.0, choose_effect c a b rc ra rb (is_void_value (level_lowering (one.Choose c a b)).ctype) refl x.1)
    works_level (one.Assign a e) h o ty =
        let tp = typed_parts cp (one.Assign a e) ty in
        let p = both_true (is_old_place w.base a) (is_old w.base e) o in assign_level a e h.1.0 ty (rp_of a h.0 p.0 tp.0) (r_of e h.1 p.1 tp.1)
    works_level (one.Change a k t e) h o ty =
        let tp = typed_parts cp (one.Change a k t e) ty in
        let p = both_true (is_old_place w.base a) (is_old w.base e) o in change_level a k t e h.0.0 h.1.0 ty (rp_of a h.0 p.0 tp.0) (r_of e h.1 p.1 tp.1)
    works_level (one.After a down) h o ty =
        let tp = typed_parts cp (one.After a down) ty in
        step_level a down h.0 ty (rp_of a h o tp)
    works_level (one.Call f args) h o ty =
        let tp = typed_parts cp (one.Call f args) ty in
        let p = both_true (is_old w.base f) (all_true (map (is_old w.base) args)) o in call_level f args (r_of f h.0 p.0 tp.0) (r_each args h.1 p.1 tp.1)
    works_level (one.Intr i None) h o ty = intr_level i None ty tt
    works_level (one.Intr i (Some a)) h o ty =
        let tp = typed_parts cp (one.Intr i (Some a)) ty in
        intr_level i (Some a) ty (r_of a h o tp)
    works_level (one.Seq a b) h o ty =
        let tp = typed_parts cp (one.Seq a b) ty in
        let p = both_true (is_old w.base a) (is_old w.base b) o in seq_level a b ty (r_of a h.0 p.0 tp.0) (r_of b h.1 p.1 tp.1)

    -- ---- places

    abbrev PlaceLevelWorks : one.Place-F Expr Place → Type 0
    PlaceLevelWorks x = PlaceWorks (at_place_level cp x) (level_place x)

    named : (x : one.Place-F Expr Place) → ((later : Registers) → PurePlace w (at_place_level cp x) (at_place_level cq x) later) → Places w (at_place_level cp x) (λ later. done (roll-Place x))
    named x h later k above declared =
        place_itself w alike (at_place_level cp x) (roll-Place x) later k (subst (λ (d : Designation). PurePlace w (at_place_level cp x) d later) (sym (place_level cq x)) (h later))

    local_is : (r i : ℕ) → r ≡ i → i < w.base → is_register w.from i ≡ true → IsLocal w (at_place_level cp (one.Local r)) (level_place (one.Local r)) i
    local_is r i e l k = record {
      below = l;
      register = k;
      designates = sym (at-Local cp r) ∙ ap (λ (j : ℕ). designation cp (Local j)) e;
      itself = λ later n. ap (λ (a : Place). piece [] [] a) (rolls-Local r ∙ ap Local e);
    }

    register_local : (r i : ℕ) (b : Bool) → is_register w.from r ≡ b → (if b then Some r else None) ≡ Some i → IsLocal w (at_place_level cp (one.Local r)) (level_place (one.Local r)) i
    register_local r i true e f =
        let k : r ≡ i = cc in
        let z : is_register w.from i ≡ true = ap (is_register w.from) (sym k) ∙ e in
        local_is r i k (below i z) z
    register_local r i false e f = absurd (cc)

    less : (r n : ℕ) → nat_lt r n ≡ true → r < n
    less r n e = grind (arith, nat_tests)

    abbrev old_place_of : one.Place-F Expr Place → Bool
    old_place_of x = place_old_step w.base (map-Place Expr Place Bool Bool (is_old w.base) (is_old_place w.base) x)

    place_works_level : (x : one.Place-F Expr Place) → PlaceParts P Q x → old_place_of x ≡ true → IsTyped (at_place_level cp x).ctype → PlaceLevelWorks x
    place_works_level (one.Local r) h o ty = record {
      operands = named (one.Local r) (λ later. pure_local w alike r (less r w.base o) later refl);
      local = λ i e. register_local r i (is_register w.from r) refl e;
    }
    place_works_level (one.Static i) h o ty = record { operands = named (one.Static i) (λ later. pure_static w alike i later refl); local = λ j e. absurd (cc) }
    place_works_level (one.Device d) h o ty = record { operands = named (one.Device d) (λ later. pure_device w alike d later refl); local = λ j e. absurd (cc) }
    place_works_level (one.Element a i) h o ty =
        let p = both_true (is_old_place w.base a) (is_old w.base i) o in
        let tp = typed_place_parts cp (one.Element a i) ty in
        let ra = rp_of a h.0 p.0 tp.0 in
        let ri = r_of i h.1 p.1 tp.1 in
        record { operands = element_operands a i ra ri; local = λ j e. absurd (cc) }
      where
        element_with : Registers → Place → Expr → Lowers Place
        element_with q a i = from_two Element q (place_lowering_at a).operands (lowering_at i).operand

        element_operands : (a : Place) (i : Expr) → RP a → R i → Places w (at_place_level cp (one.Element a i)) (from_two Element (lowering_at i).effects.assigned (place_lowering_at a).operands (lowering_at i).operand)
        element_operands a i ra ri =
            subst (λ (q : Registers). Places w (at_place_level cp (one.Element a i)) (from_two Element q (place_lowering_at a).operands (lowering_at i).operand)) (sym (effect_assigned i))
            (λ later k above declared.
            let x = (place_lowering_at a).operands (also (meaning cp i).effects.assigned later) k in
            let y = (lowering_at i).operand later (k + length x.temps) in
            place_element w alike a i later k above x y (ra.operands (also (meaning cp i).effects.assigned later) k above (declared_left w k x.temps y.temps declared))
            (ri.operand later (k + length x.temps) (omega (arith, above)) (declared_right w k x.temps y.temps declared)))
    place_works_level (one.Member a m) h o ty =
        let ra = rp_of a h o (typed_place_parts cp (one.Member a m) ty) in
        record { operands = λ later k above declared. place_member w alike a m later k ((place_lowering_at a).operands later k) (ra.operands later k above declared); local = λ j e. absurd (cc) }
    place_works_level (one.Deref e) h o ty =
        let re = r_of e h o (typed_place_parts cp (one.Deref e) ty) in
        record { operands = λ later k above declared. place_deref w alike e later k ((lowering_at e).operand later k) (re.operand later k above declared); local = λ j f. absurd (cc) }

    -- ---- the induction

    lowering_level : (x : one.Expr-F Expr Place) → lowering_at (roll-Expr x) ≡ level_lowering x
    unfolding lowering place_lowering
    lowering_level x = fold-roll-Expr Lowering PlaceLowering (lower_step w.p w.from declares is_same) (place_lower_step w.p w.from declares is_same) x

    place_lowering_level : (x : one.Place-F Expr Place) → place_lowering_at (roll-Place x) ≡ level_place x
    unfolding lowering place_lowering
    place_lowering_level x = fold-roll-Place Lowering PlaceLowering (lower_step w.p w.from declares is_same) (place_lower_step w.p w.from declares is_same) x

    made : (x : one.Expr-F Expr Place) → Parts (IfTaken w.from P Q) (PlaceIfTaken w.from P Q) x → IfTaken w.from P Q (roll-Expr x)
    made x h k = (
      k,
      λ o t.
          subst (λ (m : Meaning). Works m (lowering_at (roll-Expr x))) (sym (level cp x))
          (subst (Works (at_level cp x)) (sym (lowering_level x))
          (works_level x (parts_at w.from P Q x h (rolled_takes w.from P Q x k)) (sym (old_level w.base x) ∙ o) (subst (λ (m : Meaning). IsTyped m.ctype) (level cp x) t))),
    )

    place_made : (x : one.Place-F Expr Place) → PlaceParts (IfTaken w.from P Q) (PlaceIfTaken w.from P Q) x → PlaceIfTaken w.from P Q (roll-Place x)
    place_made x h k = (
      k,
      λ o t.
          subst (λ (d : Designation). PlaceWorks d (place_lowering_at (roll-Place x))) (sym (place_level cp x))
          (subst (PlaceWorks (at_place_level cp x)) (sym (place_lowering_level x))
          (place_works_level x (place_parts_at w.from P Q x h (rolled_place_takes w.from P Q x k)) (sym (old_place_level w.base x) ∙ o) (subst (λ (d : Designation). IsTyped d.ctype) (place_level cp x) t))),
    )

    -- every expression is lowered right
    pub lowered_right : (e : Expr) → TakesAddressesOf w.from e → is_old w.base e ≡ true → TypedExpr cp e → IsRight w (meaning cp e) (lowering_at e)
    lowered_right e own o t = right_of e ((by_expr (IfTaken w.from P Q) (PlaceIfTaken w.from P Q) made place_made e own).1 o t)

    pub places_right : (a : Place) → PlaceTakesAddressesOf w.from a → is_old_place w.base a ≡ true → TypedPlace cp a → IsRightPlace w (designation cp a) (place_lowering_at a)
    places_right a own o t = right_place a own t ((by_place (IfTaken w.from P Q) (PlaceIfTaken w.from P Q) made place_made a own).1 o t)

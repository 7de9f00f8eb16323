-- A statement in normal form that tests fits what is asked of it.
use Rattle.std.proofs.Common.{arith, ◌≡◌, ◌≤◌, ◌<◌, ◌^◌, ℕ, ◌+◌, List, length, Option, Some, None, slice_get, refl, ap, sym, subst, ◌∙◌}
use Rattle.cc_state_points.specs.CcFlow.Points.{size_of, total_of, count_of}
use Rattle.cc_state_points.specs.CcFlow.View.{total_of_cases}
use Rattle.cc_state_points.proofs.CcFlowSound.Opened.{form_size, size_at}
use Rattle.cc_state_points.specs.CcFlowSound.Statements.{statement_at}
use Rattle.cc_program.specs.declared.expr.Expr.{Expr, out-Expr}
use Rattle.cc_program.specs.declared.expr.Expr.TheOpen as one
use Rattle.cc_program.specs.declared.expr.Intr.{Intr}
use Rattle.cc_program.specs.declared.expr.Intr.TheVariants as intr
use Rattle.cc_program.specs.declared.expr.Place.{Place}
use Rattle.cc_program.specs.declared.stmt.Case.{Case}
use Rattle.cc_program.specs.declared.stmt.Stmt.{Stmt, out-Stmt}
use Rattle.cc_program.specs.declared.stmt.Stmt.TheOpen as is
use Rattle.cc_rules_asked.specs.CcRules.Rules.{act_at}
use Rattle.cc_rules_choices.specs.Choices.{FitsIf, FitsSwitch}
use Rattle.cc_rules_choices.specs.Sided.{MayTest}
use Rattle.cc_state_points.specs.CcRulesFlows.Acts.{loads, intrinsic, gets, assigns, does, acts}
use Rattle.cc_state_points.specs.CcRulesFlows.declared.after.Here.{Here}
use Rattle.cc_state_points.specs.CcRulesFlows.Here.{IsHere}
use Rattle.cc_state_points.specs.CcRulesFlows.Nexts.{IsPoint, statement_of}
use Rattle.cc_rules_here.proofs.Room.{room}
use Rattle.cc_state_points.specs.CcRulesNeeds.Points.{IsFactOf}
use Rattle.cc_rules_onward.proofs.Labels.{switch_labels}
use Rattle.cc_rules_onward.specs.Fits.{FitTests}
use Rattle.cc_state_points.proofs.CcState.Sets.{its_shape}
use Rattle.cc_state_points.specs.CcState.Points.{IsPointOf}
use Rattle.cc_state_points.specs.CcState.Shape.{HaveShape}
use Rattle.cc_state_points.specs.CcStateKeys.Tracked.{tracked}
use Rattle.cc_state_points.specs.CcStateOperators.Domains.{Domain}
use Rattle.cc_state_points.proofs.Acting.{operands_at}
use Rattle.cc_state_points.specs.Operands.{AreOperands}
use Rattle.cc_state_shape.proofs.Alike.{fact_of}
use Rattle.cc_state_points.specs.CcSyntax.Effects.{place_effects_of}
use Rattle.cc_state_points.specs.CcSyntax.Normal.{IsNormal}

module _ {I : Type 0} (d : Domain I) (here : Here I) where
  -- ---- what tests nothing

  fit_loads : (r : ℕ) (e : Expr) (a : Place) (o : Option ℕ) → FitTests d here (loads r e a o)
  fit_loads r e a None = tt
  fit_loads r e a (Some own) = tt

  fit_intrinsic : (result : Option ℕ) (i : Intr) (e : Option Expr) → FitTests d here (intrinsic result i e)
  fit_intrinsic result intr.Off e = tt
  fit_intrinsic result intr.On e = tt
  fit_intrinsic result intr.Save e = tt
  fit_intrinsic result intr.Restore None = tt
  fit_intrinsic result intr.Restore (Some e) = tt

  fit_gets : (r : ℕ) (e : Expr) (x : one.Expr-F Expr Place) → FitTests d here (gets here.context.func.now r e x)
  fit_gets r e (one.Load a) = fit_loads r e a (place_effects_of here.context.func.now a).register
  fit_gets r e (one.Intr i x) = fit_intrinsic (Some r) i x
  fit_gets r e _ = tt

  fit_assigns : (o : Option ℕ) (a : Place) (e : Expr) → FitTests d here (assigns here.context.func.now o a e)
  fit_assigns None a e = tt
  fit_assigns (Some r) a e = fit_gets r e (out-Expr e)

  fit_does : (x : one.Expr-F Expr Place) → FitTests d here (does here.context.func.now x)
  fit_does (one.Assign a e) = fit_assigns (place_effects_of here.context.func.now a).register a e
  fit_does (one.Call g args) = tt
  fit_does (one.Intr i x) = fit_intrinsic None i x
  fit_does _ = tt

  -- ---- what tests

  module _ (normal : IsNormal here.context.program.now) (shape : HaveShape d here.context.program.now here.facts.now) (few : count_of here.context.program.now < 2 ^ 32) (known : IsHere d here)
      (point : IsPoint here.context.program.now here.number here.context.id here.context.func.now here.point.now) where
    its_function : slice_get here.context.program.now.funcs here.point.now.func ≡ Some here.context.func.now
    its_function = ap (slice_get here.context.program.now.funcs) point.own ∙ point.function

    its_fact : IsFactOf (length here.context.registers.now) (length here.tracked.now) here.fact.now
    its_fact =
        let stands : IsPointOf here.context.program.now here.number here.point.now here.context.func.now = record { numbered = point.numbered; function = its_function } in
        let made = fact_of d here.context.program.now here.context.func.now here.fact.now (its_shape d here.context.program.now here.facts.now shape here.number here.point.now here.context.func.now stands here.fact.now known.reached) in
        subst (λ n. IsFactOf (length here.context.registers.now) n here.fact.now) (sym (ap length known.tracked)) (subst (λ n. IsFactOf n (length (tracked here.context.program.now)) here.fact.now) (sym (ap length known.registers)) made)

    module _ (s : Stmt) (stands : statement_at here.context.func.now.body here.point.now.path ≡ Some s) where
      its_room : here.number + size_of s ≤ count_of here.context.program.now
      its_room = room here.context.program.now here.number here.point.now here.context.func.now s point.numbered its_function stands

      operands : AreOperands here.context.program.now here.context.func.now (acts here.context.func.now (out-Stmt s))
      operands = operands_at here.context.program.now normal here.context.id here.context.func.now point.function here.point.now.path s stands

      fit_if : (e : Expr) (these those : List Stmt) → out-Stmt s ≡ is.If e these those → MayTest d here e × FitsIf d here these those
      fit_if e these those x =
          let pure = subst (λ y. AreOperands here.context.program.now here.context.func.now (acts here.context.func.now y)) x operands in
          let size : size_of s ≡ 1 + (total_of these + total_of those) = size_at s ∙ ap form_size x in
          let own = its_room in
          (record { pure = pure; of = its_fact }, omega (arith, own, size, few))

      fit_switch : (e : Expr) (cases : List Case) → out-Stmt s ≡ is.Switch e cases → MayTest d here e × FitsSwitch d here cases
      fit_switch e cases x =
          let both = subst (λ y. AreOperands here.context.program.now here.context.func.now (acts here.context.func.now y)) x operands in
          let size : size_of s ≡ 1 + total_of_cases cases = size_at s ∙ ap form_size x in
          let own = its_room in (
            record { pure = both.0; of = its_fact },
            record {
              few = omega (arith, own, size, few);
              labels = switch_labels here.context.program.now normal here.context.id here.context.func.now point.function here.point.now.path s stands e cases x both.1.0 both.1.1;
            },
          )

      fit_acts : (x : is.Stmt-F Stmt Case) → out-Stmt s ≡ x → FitTests d here (acts here.context.func.now x)
      fit_acts (is.Do e) o = fit_does (out-Expr e)
      fit_acts (is.If e these those) o = fit_if e these those o
      fit_acts (is.Switch e cases) o = fit_switch e cases o
      fit_acts _ o = tt

    fit_at : (o : Option Stmt) → statement_at here.context.func.now.body here.point.now.path ≡ o → FitTests d here (act_at o here.context.func.now)
    fit_at None e = tt
    fit_at (Some s) e = fit_acts s e (out-Stmt s) refl

    pub fit_tests : FitTests d here (act_at (statement_of here.context.func.now here.point.now) here.context.func.now)
    fit_tests = fit_at (statement_of here.context.func.now here.point.now) refl

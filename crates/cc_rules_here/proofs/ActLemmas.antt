-- What the statement at a point does, in a program in normal form: its operands are pure, and what gets a value as a register is one.
use Rattle.std.proofs.Common.{◌≡◌, ℕ, List, Option, Some, None, refl, ap, sym, subst, slice_get, ◌∙◌}
use Rattle.cc_state_points.specs.CcFlowSound.Statements.{statement_at}
use Rattle.cc_program.specs.declared.expr.Place.{Place}
use Rattle.cc_program.specs.declared.stmt.Stmt.{Stmt}
use Rattle.cc_rules_asked.specs.CcRules.Rules.{act_at}
use Rattle.cc_rules_asked.specs.Asks.{ArePureHere}
use Rattle.cc_state_points.specs.CcRulesFlows.declared.after.Here.{Here}
use Rattle.cc_state_points.specs.CcRulesFlows.Acts.{Act, Sets, Reads, Writes, Calls, Saves, Turns, Restores, Tests, Chooses, Returns, Passes}
use Rattle.cc_state_points.specs.CcRulesFlows.Here.{IsHere, MayDo}
use Rattle.cc_state_points.specs.CcRulesFlows.Nexts.{IsPoint, statement_of}
use Rattle.cc_state_points.proofs.CcState.Contexts.{context_kinds}
use Rattle.cc_state_points.proofs.CcState.KeyKinds.{kinds_at}
use Rattle.cc_state_points.proofs.CcState.Sets.{sets_there}
use Rattle.cc_state_points.specs.CcState.Points.{IsContextAt}
use Rattle.cc_state_points.specs.CcState.Shape.{HaveShape}
use Rattle.cc_state_points.specs.CcStateOperators.Domains.{Domain}
use Rattle.cc_state_points.proofs.Acting.{operands_at}
use Rattle.cc_state_points.specs.Operands.{AreOperands}
use Rattle.cc_state_points.specs.CcStateReads.Contexts.{HaveKind}
use Rattle.cc_state_points.specs.CcSyntax.Normal.{IsNormal}

module _ {I : Type 0} (d : Domain I) (here : Here I) where
  pure_by : (act : Act) → AreOperands here.context.program.now here.context.func.now act → ArePureHere d here act
  pure_by (Sets r e) h = h.1
  pure_by (Reads r a) h = h.1
  pure_by (Writes a e) h = h
  pure_by (Calls result g args) h = (h.1.callee, h.1.arguments)
  pure_by (Saves result) h = tt
  pure_by (Turns on) h = tt
  pure_by (Restores e) h = h
  pure_by (Tests e these those) h = h
  pure_by (Chooses e cases) h = h.0
  pure_by (Returns None) h = tt
  pure_by (Returns (Some e)) h = h
  pure_by Passes h = tt

  may_by : (act : Act) → ((a : Place) → HaveKind d here.context here.facts.now a) → AreOperands here.context.program.now here.context.func.now act → MayDo d here act
  may_by (Sets r e) k h = h
  may_by (Reads r a) k h = (h.0, h.1, h.2, k a)
  may_by (Writes a e) k h = h.1
  may_by (Calls result g args) k h = tt
  may_by (Saves None) k h = tt
  may_by (Saves (Some r)) k h = h
  may_by (Turns on) k h = tt
  may_by (Restores e) k h = h
  may_by (Tests e these those) k h = tt
  may_by (Chooses e cases) k h = tt
  may_by (Returns e) k h = tt
  may_by Passes k h = tt

  operands_by : (path : List ℕ) (o : Option Stmt) → IsNormal here.context.program.now → slice_get here.context.program.now.funcs here.context.id ≡ Some here.context.func.now → statement_at here.context.func.now.body path ≡ o →
      AreOperands here.context.program.now here.context.func.now (act_at o here.context.func.now)
  operands_by path None normal function e = tt
  operands_by path (Some s) normal function e = operands_at here.context.program.now normal here.context.id here.context.func.now function path s e

  abbrev IsPointHere : Type 0
  IsPointHere = IsPoint here.context.program.now here.number here.context.id here.context.func.now here.point.now

  abbrev its_act : Act
  its_act = act_at (statement_of here.context.func.now here.point.now) here.context.func.now

  its_operands : IsNormal here.context.program.now → IsPointHere → AreOperands here.context.program.now here.context.func.now its_act
  its_operands normal point = operands_by here.point.now.path (statement_of here.context.func.now here.point.now) normal point.function refl

  context_here : IsHere d here → IsPointHere → IsContextAt here.context.program.now here.facts.now here.number here.context.func.now here.context
  context_here is point =
      record {
        point = here.point.now;
        there = record { numbered = point.numbered; function = ap (slice_get here.context.program.now.funcs) point.own ∙ point.function };
        program = refl;
        id = sym point.own;
        func = refl;
        sets = sets_there here.facts.now here.number here.context.func.now here.context.registers.now here.context.sets.now is.registers (here.fact.now, is.reached, is.sets);
      }

  pub pure_here : (act : Act) → IsNormal here.context.program.now → IsPointHere → act ≡ its_act → ArePureHere d here act
  pure_here act normal point e = subst (ArePureHere d here) (sym e) (pure_by its_act (its_operands normal point))

  pub may_here : (act : Act) → IsNormal here.context.program.now → HaveShape d here.context.program.now here.facts.now → IsHere d here → IsPointHere → act ≡ its_act → MayDo d here act
  may_here act normal shape is point e =
      subst (MayDo d here) (sym e)
      (may_by its_act (λ a. context_kinds here.context.program.now here.facts.now here.number here.context.func.now here.context (context_here is point) d a (kinds_at d here.context.program.now here.facts.now shape here.number a)) (its_operands normal point))

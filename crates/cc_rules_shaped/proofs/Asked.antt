-- What each constraint asks of facts of the shape fits, rule by rule.
use Rattle.std.proofs.Common.{◌≡◌, ℕ, true, false, Option, Some, None, slice_get, refl, sym, subst}
use Rattle.cc_rules_grow.specs.CcFlow.declared.types.Point.{Point}
use Rattle.cc_program.specs.declared.func.Func.{Func}
use Rattle.cc_program.specs.declared.program.Program.{Program}
use Rattle.cc_rules_grow.specs.CcRules.Constraints.{Rule, Initial, Start, Flow, Write, Touch, Call, Back, Return, Handler, Stability, Constraint}
use Rattle.cc_rules_grow.specs.CcRules.Rules.{act_at, AskedHere, AskedIn, IsAsked}
use Rattle.cc_rules_grow.specs.CcRulesFlows.Acts.{Act}
use Rattle.cc_rules_grow.specs.CcRulesFlows.Nexts.{IsPoint, statement_of}
use Rattle.cc_rules_grow.proofs.Kept.{IsKept, ValuesGrow}
use Rattle.cc_rules_grow.specs.CcRulesNeeds.Needs.{Needs}
use Rattle.cc_rules_shaped.proofs.Acting.{AreTaken}
use Rattle.cc_rules_shaped.proofs.Calling.{calls_fit}
use Rattle.cc_rules_shaped.proofs.Flowing.{flow_fit}
use Rattle.cc_rules_shaped.proofs.Here.{its_fact, its_act}
use Rattle.cc_rules_shaped.proofs.Joining.{JoinsTyped}
use Rattle.cc_rules_shaped.proofs.Rules.{handlers_fit, stability_fit, touched_fit}
use Rattle.cc_rules_shaped.proofs.Starting.{started_fit, first_sets_fit}
use Rattle.cc_rules_shaped.proofs.Writing.{written_fit, given_fit}
use Rattle.cc_rules_shaped.specs.Shaped.{AreFit}
use Rattle.cc_rules_grow.specs.CcState.Shape.{IsPointFact, HaveShape}
use Rattle.cc_rules_grow.specs.CcStateFacts.declared.facts.Facts.{Facts}
use Rattle.cc_rules_grow.specs.CcStateFacts.declared.facts.PointFact.{PointFact}
use Rattle.cc_rules_grow.specs.CcStateFacts.Facts.{fact_at}
use Rattle.cc_rules_grow.specs.CcStateOperators.Domains.{Domain}
use Rattle.cc_rules_grow.proofs.CcStateValues.Same.{IsOrdered}
use Rattle.cc_state_values_fit.proofs.Sets.{IsTyping}
use Rattle.cc_state_values_fit.specs.Fit.{HasWholes}
use Rattle.cc_rules_grow.specs.CcSyntax.Normal.{IsNormal}

module _ {I : Type 0} (d : Domain I) (joins : JoinsTyped d) (typing : IsTyping d) (order : IsOrdered d) (kept : IsKept d) (p : Program) (normal : IsNormal p) (wholes : HasWholes d p.target)
    (grown : (id : ℕ) (f : Func) → slice_get p.funcs id ≡ Some f → ValuesGrow d p id f) (facts : Facts I) (shape : HaveShape d p facts) where
  -- at a point that is reached
  module _ (n id : ℕ) (f : Func) (point : Point) (fact : PointFact I) (is_point : IsPoint p n id f point) (known : fact_at facts n ≡ Some fact) where
    abbrev act : Act
    act = act_at (statement_of f point) f

    taken : AreTaken p id f (act_at (statement_of f point) f)
    taken = its_act d typing p wholes normal facts shape n id f point fact is_point known

    of_point : IsPointFact d p f fact
    of_point = its_fact d typing p wholes normal facts shape n id f point fact is_point known

    here_fit : (rule : Rule) (ns : Needs I) → AskedHere d p facts n id f point fact rule act ns → AreFit d p ns
    here_fit Initial ns is = subst (AreFit d p) (sym is) tt
    here_fit Start ns is = subst (AreFit d p) (sym is) tt
    here_fit Flow ns (flows, are, comes) = flow_fit d typing order kept p wholes normal facts shape n id f (grown id f is_point.function) point fact is_point known act taken flows are ns comes
    here_fit Write ns here = written_fit d typing p wholes normal facts shape n id f point fact is_point known act ns taken here
    here_fit Touch ns here = touched_fit d joins p facts shape n id f point fact is_point of_point act ns here
    here_fit Call ns here = calls_fit d typing p wholes normal facts shape n id f point fact is_point known true act taken ns here
    here_fit Back ns here = calls_fit d typing p wholes normal facts shape n id f point fact is_point known false act taken ns here
    here_fit Return ns here = given_fit d typing p wholes normal facts shape n id f point fact is_point known act ns taken here
    here_fit Handler ns here = handlers_fit d joins p facts shape n id f point fact is_point of_point fact.on ns here
    here_fit Stability ns here = stability_fit d joins p facts shape n id f point fact is_point of_point fact.on ns here

  asked_in : (rule : Rule) (n : ℕ) (x : Option (PointFact I)) (ns : Needs I) → fact_at facts n ≡ x → AskedIn d p facts rule n x ns → AreFit d p ns
  asked_in rule n None ns e is = subst (AreFit d p) (sym is) tt
  asked_in rule n (Some fact) ns e (id, f, point, is_point, here) = here_fit n id f point fact is_point e rule ns here

  pub asked_fit : (c : Constraint) (ns : Needs I) → IsAsked d p facts c ns → AreFit d p ns
  asked_fit c ns asked = by c.rule asked
    where
      by : (rule : Rule) → IsAsked d p facts (record { rule = rule; point = c.point }) ns → AreFit d p ns
      by Initial h = first_sets_fit d typing p wholes normal facts shape ns h
      by Start h = started_fit d typing p wholes normal facts shape c.point ns h
      by Flow h = asked_in Flow c.point (fact_at facts c.point) ns refl h
      by Write h = asked_in Write c.point (fact_at facts c.point) ns refl h
      by Touch h = asked_in Touch c.point (fact_at facts c.point) ns refl h
      by Call h = asked_in Call c.point (fact_at facts c.point) ns refl h
      by Back h = asked_in Back c.point (fact_at facts c.point) ns refl h
      by Return h = asked_in Return c.point (fact_at facts c.point) ns refl h
      by Handler h = asked_in Handler c.point (fact_at facts c.point) ns refl h
      by Stability h = asked_in Stability c.point (fact_at facts c.point) ns refl h

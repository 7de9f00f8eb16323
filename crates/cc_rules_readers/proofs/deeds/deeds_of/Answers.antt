use Rattle.std.proofs.Common.{List, ap, subst, ◌∙◌, take_all, arith}
use Rattle.std.specs.List.{AllZip}
use Rattle.cc_rules_asked.specs.CcFlow.declared.types.Flow.{Flow}
use Rattle.cc_rules_asked.specs.CcFlow.declared.types.Point.{Point}
use Rattle.cc_rules_asked.specs.CcFlow.Points.{flow_of}
use Rattle.cc_rules_functions.proofs.Gets.{stands}
use Rattle.cc_rules_made.proofs.HandlersMade.{zip_on}
use Rattle.cc_rules_readers.specs.View.{IsDeedAt}
use Rattle.cc_rules_readers.proofs.deeds.deeds_of.Goals as goal

pub deed_at-requires : goal.deed_at-requires
deed_at-requires c = record {
  rules = c.requires;
  there = (
    c.loop-point.point-index,
    stands c.all-point-items.result.now (flow_of c.args.rules.now.program.now).points c.loop-point.point-index c.point-item.result (c.all-point-items.ensures ∙ ap (λ (f : Flow). f.points) c.requires.flow) c.loop-point-test.true c.point-item.is,
  );
}

pub loop-point-preserved : goal.loop-point-preserved
loop-point-preserved c =
    zip_on (IsDeedAt c.args.rules.now.program.now) c.all-point-items.result.now c.loop-point.deeds.items c.push.new.self.items c.loop-point.point-index c.point-item.result c.deed_at.result c.loop-point-test.true c.point-item.is c.loop-point.invariant c.deed_at.ensures c.in_ok-push.ensures.items

pub returns : goal.returns
returns c =
    subst (λ (qs : List Point). AllZip (IsDeedAt c.args.rules.now.program.now) qs c.loop-point.deeds.items)
    (take_all c.loop-point.point-index c.all-point-items.result.now (omega (arith, c.loop-point-test.false)) ∙ (c.all-point-items.ensures ∙ ap (λ (f : Flow). f.points) c.requires.flow)) c.loop-point.invariant

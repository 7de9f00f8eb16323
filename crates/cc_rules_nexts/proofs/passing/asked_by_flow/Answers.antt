use Rattle.std.proofs.Common.{◌≡◌, map, length, refl, ap}
use Rattle.std.proofs.lemmas.Result.{IfOk-weaker}
use Rattle.cc_rules_asked.specs.CcPlaces.laws.AbstractLaws.{abs_itself}
use Rattle.cc_rules_asked.specs.CcRulesFlows.View.{act_view}
use Rattle.cc_rules_nexts.specs.Told.{point_told}
use Rattle.cc_rules_nexts.proofs.PassingLemmas.{kind_of, passing_asked, passing_onward}
use Rattle.cc_rules_asked.specs.CcStateOperators.Domains.{domain}
use Rattle.cc_rules_nexts.proofs.passing.asked_by_flow.Goals as goal

pub after-requires : goal.after-requires
after-requires g c = record { here = c.requires.here; may = c.requires.may; tests_none = c.requires.tests_none }

pub returns : goal.returns
returns g c =
    let itself = abs_itself g.I.Lattice.AreAlike g.I.Lattice.IsBelow g.met.I.Lattice.below_itself g.met.I.IntDomain.all_alike in
    let count = length c.args.here.now.context.registers.now in
    record {
      asked =
          IfOk-weaker c.points_told.result (λ list. list.items ≡ map (point_told count) c.in_ok-told.told.items) _
          (λ list e. passing_asked (domain g.I.Concrete.Has g.I.Lattice.IsBelow g.I.IntDomain.OpGives g.I.IntDomain.OpOneGives g.I.IntDomain.ToGives g.I.IntDomain.KeepGives g.I.IntDomain.members_of) c.args.here.now kind_of itself (act_view c.args.act) count c.in_ok-told.told.items list.items c.in_ok-told.ensures.flows c.requires.tests_none
          (ap length c.requires.here.registers) e) c.points_told.ensures;
      onward =
          IfOk-weaker c.points_told.result (λ list. list.items ≡ map (point_told count) c.in_ok-told.told.items) _
          (λ list e. passing_onward (domain g.I.Concrete.Has g.I.Lattice.IsBelow g.I.IntDomain.OpGives g.I.IntDomain.OpOneGives g.I.IntDomain.ToGives g.I.IntDomain.KeepGives g.I.IntDomain.members_of) c.args.here.now (act_view c.args.act) count c.in_ok-told.told.items list.items c.in_ok-told.ensures.flows c.requires.tests_none
          refl c.in_ok-told.ensures.kept e) c.points_told.ensures;
    }

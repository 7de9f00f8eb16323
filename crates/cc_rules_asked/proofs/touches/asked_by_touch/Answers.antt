use Rattle.std.proofs.Common.{◌≡◌, Some, sym, subst}
use Rattle.std.proofs.lemmas.Result.{IfOk-weaker}
use Rattle.cc_rules.specs.Constraints.{Touch}
use Rattle.cc_rules_asked.specs.Asks.{AsksHere, touched}
use Rattle.cc_rules_asked.proofs.TouchLemmas.{none_touched, pure_touched}
use Rattle.cc_rules_asked.proofs.touches.asked_by_touch.Goals as goal
use Rattle.cc_rules.specs.CcRulesFlows.Acts.{Act}
use Rattle.cc_rules.specs.CcRulesFlows.View.{act_view}
use Rattle.cc_rules.specs.CcStateOperators.Domains.{domain}

pub asked_of_access-requires : goal.asked_of_access-requires
asked_of_access-requires g c = record {
  here = c.requires.here;
  pure = pure_touched (domain g.I.Concrete.Has g.I.Lattice.IsBelow g.I.IntDomain.OpGives g.I.IntDomain.OpOneGives g.I.IntDomain.ToGives g.I.IntDomain.KeepGives g.I.IntDomain.members_of) c.args.here.now (act_view c.args.act) c.in-Some.access.writes c.in-Some.access.place.now (sym c.in-Some.ensures) c.requires.pure;
  few = c.requires.few;
}

pub returns-in-None : goal.returns-in-None
returns-in-None g c =
    subst (AsksHere (domain g.I.Concrete.Has g.I.Lattice.IsBelow g.I.IntDomain.OpGives g.I.IntDomain.OpOneGives g.I.IntDomain.ToGives g.I.IntDomain.KeepGives g.I.IntDomain.members_of) c.args.here.now Touch (act_view c.args.act)) (sym c.new.ensures.items) (none_touched (domain g.I.Concrete.Has g.I.Lattice.IsBelow g.I.IntDomain.OpGives g.I.IntDomain.OpOneGives g.I.IntDomain.ToGives g.I.IntDomain.KeepGives g.I.IntDomain.members_of) c.args.here.now (act_view c.args.act) (sym c.in-None.ensures))

pub returns-in-Some : goal.returns-in-Some
returns-in-Some g c =
    IfOk-weaker c.asked_of_access.result (λ list. (act : Act) → touched act ≡ Some (c.in-Some.access.writes, c.in-Some.access.place.now) → AsksHere (domain g.I.Concrete.Has g.I.Lattice.IsBelow g.I.IntDomain.OpGives g.I.IntDomain.OpOneGives g.I.IntDomain.ToGives g.I.IntDomain.KeepGives g.I.IntDomain.members_of) c.args.here.now Touch act list.items) _
    (λ list k. k (act_view c.args.act) (sym c.in-Some.ensures))
    c.asked_of_access.ensures

use Rattle.std.proofs.Common.{◌≡◌, sym, subst}
use Rattle.std.proofs.lemmas.Result.{IfOk-weaker}
use Rattle.cc_rules.specs.Constraints.{Write}
use Rattle.cc_rules_asked.specs.Asks.{AsksHere}
use Rattle.cc_rules_asked.proofs.WriteLemmas.{none_written, as_write, pure_written}
use Rattle.cc_rules_asked.proofs.writes.asked_by_write.Goals as goal
use Rattle.cc_rules.specs.CcRulesFlows.Acts.{Act, Writes}
use Rattle.cc_rules.specs.CcRulesFlows.View.{act_view}
use Rattle.cc_rules.specs.CcStateOperators.Domains.{domain}

pub asked_of_write-requires : goal.asked_of_write-requires
asked_of_write-requires g c =
    let pure = pure_written (domain g.I.Concrete.Has g.I.Lattice.IsBelow g.I.IntDomain.OpGives g.I.IntDomain.OpOneGives g.I.IntDomain.ToGives g.I.IntDomain.KeepGives g.I.IntDomain.members_of) c.args.here.now (act_view c.args.act) c.in-Some.write.place.now c.in-Some.write.value.now (sym c.in-Some.ensures) c.requires.pure in
    record { here = c.requires.here; place = pure.0; value = pure.1; few = c.requires.few }

pub returns-in-None : goal.returns-in-None
returns-in-None g c =
    subst (AsksHere (domain g.I.Concrete.Has g.I.Lattice.IsBelow g.I.IntDomain.OpGives g.I.IntDomain.OpOneGives g.I.IntDomain.ToGives g.I.IntDomain.KeepGives g.I.IntDomain.members_of) c.args.here.now Write (act_view c.args.act)) (sym c.new.ensures.items) (none_written (domain g.I.Concrete.Has g.I.Lattice.IsBelow g.I.IntDomain.OpGives g.I.IntDomain.OpOneGives g.I.IntDomain.ToGives g.I.IntDomain.KeepGives g.I.IntDomain.members_of) c.args.here.now (act_view c.args.act) (sym c.in-None.ensures))

pub returns-in-Some : goal.returns-in-Some
returns-in-Some g c =
    IfOk-weaker c.asked_of_write.result (λ list. AsksHere (domain g.I.Concrete.Has g.I.Lattice.IsBelow g.I.IntDomain.OpGives g.I.IntDomain.OpOneGives g.I.IntDomain.ToGives g.I.IntDomain.KeepGives g.I.IntDomain.members_of) c.args.here.now Write (Writes c.in-Some.write.place.now c.in-Some.write.value.now) list.items) _
    (λ list k. subst (λ (act : Act). AsksHere (domain g.I.Concrete.Has g.I.Lattice.IsBelow g.I.IntDomain.OpGives g.I.IntDomain.OpOneGives g.I.IntDomain.ToGives g.I.IntDomain.KeepGives g.I.IntDomain.members_of) c.args.here.now Write act list.items)
    (sym (as_write (domain g.I.Concrete.Has g.I.Lattice.IsBelow g.I.IntDomain.OpGives g.I.IntDomain.OpOneGives g.I.IntDomain.ToGives g.I.IntDomain.KeepGives g.I.IntDomain.members_of) c.args.here.now (act_view c.args.act) c.in-Some.write.place.now c.in-Some.write.value.now (sym c.in-Some.ensures))) k)
    c.asked_of_write.ensures

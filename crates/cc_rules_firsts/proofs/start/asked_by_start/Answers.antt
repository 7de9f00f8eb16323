use Rattle.std.proofs.Common.{length, map, subst}
use Rattle.std.proofs.lemmas.Result.{IfOk-weaker}
use Rattle.cc_rules_firsts.proofs.Starts.{started, not_started, raisable, none_raisable}
use Rattle.cc_rules_firsts.proofs.start.asked_by_start.Goals as goal
use Rattle.cc_rules_firsts.specs.Starts.{IsFirstFact}
use Rattle.cc_rules_grow.specs.CcState.Shape.{AreRows}
use Rattle.cc_rules_asked.specs.CcStateOperators.Domains.{domain}
use Rattle.cc_rules_asked.specs.CcSteps.State.{first_values}

pub register_count-requires : goal.register_count-requires
register_count-requires g c = c.requires.main.few

pub returns-then-number-entry-clause-asked : goal.returns-then-number-entry-clause-asked
returns-then-number-entry-clause-asked g c facts =
    not_started (domain g.I.Concrete.Has g.I.Lattice.IsBelow g.I.IntDomain.OpGives g.I.IntDomain.OpOneGives g.I.IntDomain.ToGives g.I.IntDomain.KeepGives g.I.IntDomain.members_of) c.args.p.now facts c.args.main.now c.args.number c.new.result.items c.requires.main c.if-number-entry.true c.new.ensures.items

pub returns-then-number-entry-clause-raisable : goal.returns-then-number-entry-clause-raisable
returns-then-number-entry-clause-raisable g c facts =
    none_raisable (domain g.I.Concrete.Has g.I.Lattice.IsBelow g.I.IntDomain.OpGives g.I.IntDomain.OpOneGives g.I.IntDomain.ToGives g.I.IntDomain.KeepGives g.I.IntDomain.members_of) c.args.p.now facts c.new.result.items c.new.ensures.items

pub returns-clause-asked : goal.returns-clause-asked
returns-clause-asked g c =
    IfOk-weaker c.asked_of_main.result _ _
    (λ asked l facts.
    started (domain g.I.Concrete.Has g.I.Lattice.IsBelow g.I.IntDomain.OpGives g.I.IntDomain.OpOneGives g.I.IntDomain.ToGives g.I.IntDomain.KeepGives g.I.IntDomain.members_of) c.args.p.now facts c.args.main.now c.args.number c.register_count.result c.in_ok-fact.fact asked.items c.requires.main c.if-number-entry.false c.register_count.ensures
    (subst (λ objects. IsFirstFact g.I.Concrete.Has g.I.Lattice.IsBelow (map (first_values c.args.p.now) c.args.p.now.objects) objects c.in_ok-fact.fact) c.requires.tracked c.in_ok-fact.ensures.firsts) l) c.asked_of_main.ensures

pub returns-clause-raisable : goal.returns-clause-raisable
returns-clause-raisable g c =
    IfOk-weaker c.asked_of_main.result _ _
    (λ asked l facts.
    raisable (domain g.I.Concrete.Has g.I.Lattice.IsBelow g.I.IntDomain.OpGives g.I.IntDomain.OpOneGives g.I.IntDomain.ToGives g.I.IntDomain.KeepGives g.I.IntDomain.members_of) c.args.p.now facts c.args.main.now c.args.number c.register_count.result c.in_ok-fact.fact asked.items c.requires.main c.if-number-entry.false c.register_count.ensures
    (subst (λ objects. IsFirstFact g.I.Concrete.Has g.I.Lattice.IsBelow (map (first_values c.args.p.now) c.args.p.now.objects) objects c.in_ok-fact.fact) c.requires.tracked c.in_ok-fact.ensures.firsts)
    (subst (λ objects. AreRows (domain g.I.Concrete.Has g.I.Lattice.IsBelow g.I.IntDomain.OpGives g.I.IntDomain.OpOneGives g.I.IntDomain.ToGives g.I.IntDomain.KeepGives g.I.IntDomain.members_of) c.args.p.now (length objects) c.in_ok-fact.fact.rows) c.requires.tracked c.in_ok-fact.ensures.laid_out) l) c.asked_of_main.ensures

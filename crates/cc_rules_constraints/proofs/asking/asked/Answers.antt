use Rattle.std.proofs.lemmas.Result.{IfOk-weaker}
use Rattle.cc_rules_constraints.proofs.asking.asked.Goals as goal
use Rattle.cc_rules_constraints.proofs.Asks.{at_number}
use Rattle.cc_rules_constraints.specs.Asking.{IsAskedBy}
use Rattle.cc_rules_numbered.specs.Numbered.{constraint_view}
use Rattle.cc_rules_asked.specs.CcStateOperators.Domains.{domain}

pub returns-clause-asks : goal.returns-clause-asks
returns-clause-asks g c =
    IfOk-weaker c.asked_by.result (λ list. IsAskedBy (domain g.I.Concrete.Has g.I.Lattice.IsBelow g.I.IntDomain.OpGives g.I.IntDomain.OpOneGives g.I.IntDomain.ToGives g.I.IntDomain.KeepGives g.I.IntDomain.members_of) c.args.rules.now.program.now c.args.facts.now (constraint_view c.constraint_at.result) list.items) _
    (λ list h k is. (at_number (domain g.I.Concrete.Has g.I.Lattice.IsBelow g.I.IntDomain.OpGives g.I.IntDomain.OpOneGives g.I.IntDomain.ToGives g.I.IntDomain.KeepGives g.I.IntDomain.members_of) c.args.rules.now.program.now c.args.facts.now list.items c.args.number (constraint_view c.constraint_at.result) k (c.constraint_at.ensures c.args.rules.now.program.now c.requires.there) h is).asks) c.asked_by.ensures

pub returns-clause-worked : goal.returns-clause-worked
returns-clause-worked g c =
    IfOk-weaker c.asked_by.result (λ list. IsAskedBy (domain g.I.Concrete.Has g.I.Lattice.IsBelow g.I.IntDomain.OpGives g.I.IntDomain.OpOneGives g.I.IntDomain.ToGives g.I.IntDomain.KeepGives g.I.IntDomain.members_of) c.args.rules.now.program.now c.args.facts.now (constraint_view c.constraint_at.result) list.items) _
    (λ list h k is. (at_number (domain g.I.Concrete.Has g.I.Lattice.IsBelow g.I.IntDomain.OpGives g.I.IntDomain.OpOneGives g.I.IntDomain.ToGives g.I.IntDomain.KeepGives g.I.IntDomain.members_of) c.args.rules.now.program.now c.args.facts.now list.items c.args.number (constraint_view c.constraint_at.result) k (c.constraint_at.ensures c.args.rules.now.program.now c.requires.there) h is).worked) c.asked_by.ensures

pub returns-clause-raisable : goal.returns-clause-raisable
returns-clause-raisable g c =
    IfOk-weaker c.asked_by.result (λ list. IsAskedBy (domain g.I.Concrete.Has g.I.Lattice.IsBelow g.I.IntDomain.OpGives g.I.IntDomain.OpOneGives g.I.IntDomain.ToGives g.I.IntDomain.KeepGives g.I.IntDomain.members_of) c.args.rules.now.program.now c.args.facts.now (constraint_view c.constraint_at.result) list.items) _ (λ list h. h.raisable) c.asked_by.ensures

-- What is taken from the lists is the number of a constraint.
use Rattle.std.proofs.Common.{ℕ, List, subst}
use Rattle.cc_fix.specs.Work.{listed, IsWork}
use Rattle.cc_fix.proofs.Steps.{taken_counts}
use Rattle.cc_fix.proofs.solve.least.Goals as goal

pub settle-requires-clause-index : goal.settle-requires-clause-index
settle-requires-clause-index g c =
    let s = g.S.System in
    let system = c.args.system.now in
    let work = c.loop-index.work in
    taken_counts (s.count_of system) (s.Asks system) c.in-Some.index c.loop-index.facts work.pending.items (listed c.next.new.work)
    (subst (λ (list : List ℕ). IsWork (s.count_of system) (s.Asks system) c.loop-index.facts work.pending.items list) c.in-Some.ensures.taken.list c.loop-index.invariant.1)

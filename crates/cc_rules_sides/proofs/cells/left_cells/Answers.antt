-- One cell after the other.
use Rattle.std.proofs.Common.{◌≡◌, ◌+◌, ◌*◌, Some, [], slice_get, take, arith, ap, sym, subst, ◌∙◌}
use Rattle.std.proofs.lemmas.Option.{slice_get-get_or}
use Rattle.cc_rules_sides.specs.Refined.{AreCellsLeft, IsCellLeft, equal_from}
use Rattle.cc_rules_sides.proofs.RowLemmas.{all_cells, more_cells, no_cells}
use Rattle.cc_rules_flows.specs.CcStateOperators.Domains.{domain}
use Rattle.cc_rules_sides.proofs.cells.left_cells.Goals as goal

pub loop-at-init : goal.loop-at-init
loop-at-init g c =
    let d = (domain g.I.Concrete.Has g.I.Lattice.IsBelow g.I.IntDomain.OpGives g.I.IntDomain.OpOneGives g.I.IntDomain.ToGives g.I.IntDomain.KeepGives g.I.IntDomain.members_of) in
    (c.requires.trial, subst (λ xs. AreCellsLeft d c.args.tested.now c.args.fact.now c.args.row [] xs) (sym c.new-left.ensures.items) (no_cells d c.args.tested.now c.args.fact.now c.args.row))

pub number_of-cell-requires : goal.number_of-cell-requires
number_of-cell-requires g c = (c.requires.cells c.loop-at.at c.loop-at-test.true).1

pub left_cell-requires : goal.left_cell-requires
left_cell-requires g c = record { tested = c.requires.tested; trial = c.loop-at.invariant.0; registers = c.requires.registers; few = c.requires.few }

pub loop-at-preserved : goal.loop-at-preserved
loop-at-preserved g c =
    let d = (domain g.I.Concrete.Has g.I.Lattice.IsBelow g.I.IntDomain.OpGives g.I.IntDomain.OpOneGives g.I.IntDomain.ToGives g.I.IntDomain.KeepGives g.I.IntDomain.members_of) in
    let t = c.args.tested.now in
    let fact = c.args.fact.now in
    let row = c.args.row in
    let sets = c.args.sets.now in
    let i = c.loop-at.at in
    let y = c.index-sets-at.result in
    let z = c.in_ok-set.set in
    let is : slice_get sets i ≡ Some y = slice_get-get_or sets i y c.loop-at-test.true ∙ ap Some (sym c.index-sets-at.is) in
    let cell : IsCellLeft d t (equal_from fact (16 * row + i) 0 t.context.now.registers.now) y z = subst (λ n. IsCellLeft d t (equal_from fact n 0 t.context.now.registers.now) y z) c.number_of-cell.ensures c.in_ok-set.ensures.left in
    (c.left_cell.ensures.trial, subst (λ xs. AreCellsLeft d t fact row (take (i + 1) sets) xs) (sym c.in_ok-push.ensures.items) (more_cells d t fact row sets c.loop-at.left.items i y z is c.loop-at.invariant.1 cell))

pub returns-clause-left : goal.returns-clause-left
returns-clause-left g c = all_cells (domain g.I.Concrete.Has g.I.Lattice.IsBelow g.I.IntDomain.OpGives g.I.IntDomain.OpOneGives g.I.IntDomain.ToGives g.I.IntDomain.KeepGives g.I.IntDomain.members_of) c.args.tested.now c.args.fact.now c.args.row c.args.sets.now c.loop-at.left.items c.loop-at.at (omega (arith, c.loop-at-test.false)) c.loop-at.invariant.1

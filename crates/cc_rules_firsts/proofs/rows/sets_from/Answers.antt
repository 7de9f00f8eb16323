use Rattle.std.proofs.Common.{arith, ◌≡◌, ◌+◌, length, get_or, sym, subst}
use Rattle.std.proofs.lemmas.Option.{slice_get-get_or}
use Rattle.cc_rules_firsts.proofs.RowLemmas.{none_from, more_from, row_from, row_size}
use Rattle.cc_rules_firsts.proofs.rows.sets_from.Goals as goal
use Rattle.cc_rules_firsts.specs.Rows.{IsFirstOf}

pub bounds-objects-cell : goal.bounds-objects-cell
bounds-objects-cell g c = omega (arith, c.loop-cell-test.true, c.end_of-end.ensures.within)

pub first_of-requires : goal.first_of-requires
first_of-requires g c = c.requires.values c.loop-cell.cell _ (slice_get-get_or c.args.objects.now c.loop-cell.cell 0 (omega (arith, c.loop-cell-test.true, c.end_of-end.ensures.within)))

pub loop-cell-init : goal.loop-cell-init
loop-cell-init g c = none_from g.I.Concrete.Has g.I.Lattice.IsBelow c.args.values.now c.args.objects.now c.args.first c.new-sets.result.items c.new-sets.ensures.items

pub loop-cell-preserved : goal.loop-cell-preserved
loop-cell-preserved g c =
    more_from g.I.Concrete.Has g.I.Lattice.IsBelow c.args.values.now c.args.objects.now c.args.first c.loop-cell.cell (get_or c.args.objects.now c.loop-cell.cell 0) c.loop-cell.sets.items c.push.new.self.items c.in_ok-shared.shared c.loop-cell.invariant
    (slice_get-get_or c.args.objects.now c.loop-cell.cell 0 (omega (arith, c.loop-cell-test.true, c.end_of-end.ensures.within)))
    (subst (IsFirstOf g.I.Concrete.Has g.I.Lattice.IsBelow c.args.values.now (get_or c.args.objects.now c.loop-cell.cell 0)) (sym c.in_ok-shared.ensures) c.in_ok-set.ensures) c.in_ok-push.ensures.items

pub returns : goal.returns
returns g c =
    let count = c.loop-cell.invariant.count in
    let e = c.end_of-end.ensures in
    let ends : c.args.first + length c.loop-cell.sets.items ≡ c.end_of-end.result = omega (arith, count, e.behind, c.loop-cell.auto.cell-end, c.loop-cell-test.false) in
    let size = row_size (length c.args.objects.now) c.args.first (length c.loop-cell.sets.items) c.end_of-end.result ends e.within e.behind e.short e.full in
    record {
      cells = row_from g.I.Concrete.Has g.I.Lattice.IsBelow c.args.values.now c.args.objects.now c.args.first c.loop-cell.cell c.loop-cell.sets.items c.loop-cell.invariant size;
      size = size;
    }

use Rattle.std.proofs.Common.{arith, ◌*◌, ◌≤◌, length, sym, subst, ap, ◌∙◌}
use Rattle.cc_rules_firsts.proofs.RowLemmas.{none_below, rows_on, all_rows, all_laid}
use Rattle.cc_rules_firsts.proofs.rows.first_rows.Goals as goal
use Rattle.cc_rules_firsts.specs.Rows.{IsRowFrom, IsRowSize}
use Rattle.cc_rules_asked.specs.CcStateOperators.Domains.{domain}

pub sets_from-requires : goal.sets_from-requires
sets_from-requires g c = record { values = c.requires; within = (let l = c.row_count-count.ensures.low c.loop-row.row c.loop-row-test.true in omega (arith, l)) }

pub loop-row-init : goal.loop-row-init
loop-row-init g c = none_below g.I.Concrete.Has g.I.Lattice.IsBelow c.args.values.now c.args.objects.now c.new-rows.result.items c.new-rows.ensures.items

pub loop-row-preserved : goal.loop-row-preserved
loop-row-preserved g c =
    let cells = ap (λ row. row.cells) c.in_ok-shared.ensures ∙ c.of.ensures in
    rows_on g.I.Concrete.Has g.I.Lattice.IsBelow c.args.values.now c.args.objects.now c.loop-row.rows.items c.push.new.self.items c.loop-row.row c.in_ok-shared.shared c.loop-row.invariant
    (subst (λ sets. IsRowFrom g.I.Concrete.Has g.I.Lattice.IsBelow c.args.values.now c.args.objects.now (c.loop-row.row * 16) sets) (sym cells) c.in_ok-sets.ensures.cells)
    (subst (λ sets. IsRowSize (length c.args.objects.now) (c.loop-row.row * 16) (length sets)) (sym cells) c.in_ok-sets.ensures.size) (c.row_count-count.ensures.low c.loop-row.row c.loop-row-test.true) c.in_ok-push.ensures.items

pub returns : goal.returns
returns g c =
    let high = c.row_count-count.ensures.high in
    let enough : length c.args.objects.now ≤ c.loop-row.row * 16 = omega (arith, high, c.loop-row-test.false) in
    record {
      firsts = all_rows g.I.Concrete.Has g.I.Lattice.IsBelow c.args.values.now c.args.objects.now c.loop-row.rows.items c.loop-row.row c.loop-row.invariant enough;
      laid_out = λ p. all_laid g.I.Concrete.Has g.I.Lattice.IsBelow c.args.values.now c.args.objects.now (domain g.I.Concrete.Has g.I.Lattice.IsBelow g.I.IntDomain.OpGives g.I.IntDomain.OpOneGives g.I.IntDomain.ToGives g.I.IntDomain.KeepGives g.I.IntDomain.members_of) p c.loop-row.rows.items c.loop-row.row c.loop-row.invariant enough;
    }

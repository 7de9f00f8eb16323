use Rattle.std.proofs.Common.{arith, All, ap, subst, ◌∙◌}
use Rattle.cc_state_reads.specs.CcStateFacts.declared.facts.Row.{Row}
use Rattle.cc_state_limits.proofs.Each.{each_more, each_of_all}
use Rattle.cc_state_limits.proofs.memory.held_rows.Goals as goal
use Rattle.cc_state_limits.specs.Held.{IsHeldSet, IsHeldRow}

pub loop-row-preserved : goal.loop-row-preserved
loop-row-preserved g c =
    each_more IsHeldRow c.args.rows.now c.loop-row.row-index c.row-item.result c.loop-row-test.true c.row-item.is c.loop-row.invariant
    (subst (All IsHeldSet) (c.all.ensures ∙ ap (λ (row : Row g.row.I.Denot). row.cells) c.get.ensures) c.held_shared.ensures)

pub returns : goal.returns
returns g c = each_of_all IsHeldRow c.args.rows.now c.loop-row.row-index (omega arith) c.loop-row.invariant

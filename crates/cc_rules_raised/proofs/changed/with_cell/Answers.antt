-- The row of the cell is there, and is the only one that is another.
use Rattle.std.proofs.Common.{◌/◌, ◌<◌, length, slice_set, sym, ap, subst, ◌∙◌}
use Rattle.cc_rules_raised.proofs.Change.{with_rows, cell_bounds}
use Rattle.cc_rules_raised.proofs.changed.with_cell.Goals as goal
use Rattle.cc_rules_asked.specs.CcStateFacts.declared.facts.PointFact.{PointFact}
use Rattle.cc_rules_asked.specs.CcStateFacts.declared.facts.Row.{Row}
use Rattle.cc_rules_asked.specs.CcStateFacts.Facts.{row_length}

pub changed_row-requires : goal.changed_row-requires
changed_row-requires g c = (cell_bounds c.args.fact.now c.args.cell c.row_of.result.now c.row_of.ensures c.requires).1

pub put-requires : goal.put-requires
put-requires g c = subst (λ (m : PointFact g.row.I.Denot). c.args.cell / row_length < length m.rows) (sym c.in_ok-made.ensures) (cell_bounds c.args.fact.now c.args.cell c.row_of.result.now c.row_of.ensures c.requires).0

pub returns : goal.returns
returns g c =
    with_rows c.args.fact.now c.in_ok-made.made c.args.cell c.args.set c.row_of.result.now c.put.new.list c.row_of.ensures c.in_ok-made.ensures
    (c.put.ensures ∙ ap (λ (r : Row g.row.I.Denot). slice_set c.in_ok-made.made.rows (c.args.cell / row_length) r) (c.in_ok-shared.ensures ∙ c.in_ok-changed.ensures))

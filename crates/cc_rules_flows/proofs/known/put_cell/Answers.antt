use Rattle.std.proofs.Common.{arith, ◌/◌, ◌%◌, slice_set, refl, ap, ◌∙◌}
use Rattle.cc_rules_flows.specs.Known.{is_of_other_cell}
use Rattle.cc_rules_flows.proofs.KnownLemmas.{cell_told, cell_there, row_there}
use Rattle.cc_rules_flows.proofs.ShapeLemmas.{cell_kept}
use Rattle.cc_rules_flows.proofs.known.put_cell.Goals as goal
use Rattle.cc_state_reads.specs.CcStateFacts.Facts.{row_length}

pub with_set-requires : goal.with_set-requires
with_set-requires g c = let h = cell_there c.args.fact.now.rows c.row_of.result.now c.args.cell c.row_of.ensures c.requires in omega (arith, h)

pub put-requires : goal.put-requires
put-requires g c = let h = row_there c.args.fact.now.rows c.args.cell c.requires in omega (arith, h)

pub returns : goal.returns
returns g c =
    let rows = c.put.ensures ∙ ap (slice_set c.args.fact.now.rows (c.args.cell / row_length)) c.in_ok-row.ensures in
    let there = cell_there c.args.fact.now.rows c.row_of.result.now c.args.cell c.row_of.ensures c.requires in
    record {
      tells = cell_told c.args.fact.now _ c.row_of.result.now c.in_ok-made.made c.args.cell c.args.set c.row_of.ensures there c.in_ok-made.ensures refl refl refl rows (cc (c.of.ensures, c.in_ok-same.ensures));
      kept = λ registers cells. cell_kept registers cells c.args.fact.now _ (c.args.cell / row_length) (c.args.cell % row_length) c.row_of.result.now c.in_ok-made.made c.args.set (is_of_other_cell c.args.cell)
          c.row_of.ensures c.in_ok-made.ensures refl rows (cc (c.of.ensures, c.in_ok-same.ensures));
    }

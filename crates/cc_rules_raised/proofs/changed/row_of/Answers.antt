-- A cell that is there has a row.
use Rattle.std.proofs.Common.{◌/◌, ◌%◌, List, Option, slice_get, true≢false, sym, ap, ◌∙◌}
use Rattle.std.specs.Prelude.{is_some, option_and_then}
use Rattle.cc_rules_raised.proofs.changed.row_of.Goals as goal
use Rattle.cc_rules_asked.specs.CcStateFacts.declared.facts.Row.{Row}
use Rattle.cc_rules_asked.specs.CcStateFacts.Facts.{row_length}

pub unreachable-requires : goal.unreachable-requires
unreachable-requires g c =
    true≢false
    (sym c.requires ∙ ap (λ (o : Option (Row g.row.I.Denot)). is_some (option_and_then (λ (row : Row g.row.I.Denot). slice_get row.cells (c.args.cell % row_length)) o))
    (sym (c.in-None.ensures ∙ ap (λ (rows : List (Row g.row.I.Denot)). slice_get rows (c.args.cell / row_length)) c.all.ensures)))

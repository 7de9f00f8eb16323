use Rattle.std.proofs.Common.{subst}
use Rattle.std.specs.Option.{option_copied}
use Rattle.std.specs.Prelude.{◌↔◌, IsTrue}
use Rattle.cc_rules_asked.specs.CcRulesNeeds.Needs.{AreValuesBelow}
use Rattle.cc_rules_lacking.proofs.sets.has_cell.Goals as goal
use Rattle.cc_rules_asked.specs.CcStateFacts.Facts.{cell_of}

pub returns : goal.returns
returns g c =
    subst (λ held. IsTrue c.has_values.result ↔ AreValuesBelow g.I.Lattice.IsBelow (cell_of c.args.flow.now c.args.cell) held) c.cell-2.ensures
    (subst (λ needed. IsTrue c.has_values.result ↔ AreValuesBelow g.I.Lattice.IsBelow needed (option_copied c.cell-2.result)) c.cell.ensures c.has_values.ensures)

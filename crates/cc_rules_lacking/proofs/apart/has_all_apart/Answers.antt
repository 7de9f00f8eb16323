use Rattle.std.proofs.Common.{ap, sym, ◌∙◌}
use Rattle.std.specs.List.{list_all}
use Rattle.cc_rules_lacking.proofs.Firsts.{apart_there}
use Rattle.cc_rules_lacking.proofs.apart.has_all_apart.Goals as goal
use Rattle.cc_rules_asked.specs.CcStateFacts.Orders.{is_same}

pub returns-in-Some : goal.returns-in-Some
returns-in-Some g c all =
    apart_there g.I.Lattice.IsBelow c.args.facts.now c.args.point c.args.flow.now c.in-Some.known.now (sym c.in-Some.ensures)
    (ap (list_all (is_same c.args.flow.now)) (sym c.all.ensures) ∙ (sym c.are_pairs.ensures ∙ all))

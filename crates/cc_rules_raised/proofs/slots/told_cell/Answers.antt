-- A point that has a cell is reached.
use Rattle.std.proofs.Common.{◌≡◌, Option, Some, ap, ◌∙◌}
use Rattle.std.specs.Prelude.{is_some, option_and_then}
use Rattle.std.proofs.lemmas.Option.{same_Some}
use Rattle.std.proofs.lemmas.Result.{IfOk-weaker}
use Rattle.cc_rules_asked.specs.CcPlaces.declared.abs.Abs.{Abs}
use Rattle.cc_rules_raised.proofs.SlotParts.{cell_reached}
use Rattle.cc_rules_raised.proofs.slots.told_cell.Goals as goal
use Rattle.cc_rules_raised.specs.Completed.{fact_with_cell}
use Rattle.cc_rules_asked.specs.CcStateFacts.declared.facts.PointFact.{PointFact}
use Rattle.cc_rules_asked.specs.CcStateFacts.Facts.{fact_at, cell_of}

pub unreachable-requires : goal.unreachable-requires
unreachable-requires g c = cell_reached c.args.facts.now c.args.n c.args.j c.in-None.ensures c.requires

pub with_cell-requires : goal.with_cell-requires
with_cell-requires g c = ap (λ (o : Option (PointFact g.row.I.Denot)). is_some (option_and_then (λ (x : PointFact g.row.I.Denot). cell_of x c.args.j) o)) c.in-Some.ensures ∙ c.requires

pub returns : goal.returns
returns g c =
    let known = c.in-Some.known.now in
    let j = c.args.j in
    let y = c.args.set.now in
    IfOk-weaker c.with_cell.result (λ (made : PointFact g.row.I.Denot). made ≡ fact_with_cell known j c.in_ok-set-in-Some.set)
    (λ (told : PointFact g.row.I.Denot). (fact : PointFact g.row.I.Denot) → fact_at c.args.facts.now c.args.n ≡ Some fact → told ≡ fact_with_cell fact j y)
    (λ made h fact e. h ∙ (ap (λ (z : Abs g.row.I.Denot). fact_with_cell known j z) c.in_ok-set-in-Some.ensures ∙ ap (λ (x : PointFact g.row.I.Denot). fact_with_cell x j y) (same_Some known fact (c.in-Some.ensures ∙ e)))) c.with_cell.ensures

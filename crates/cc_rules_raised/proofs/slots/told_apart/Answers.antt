-- What is known at the point is one.
use Rattle.std.proofs.Common.{◌≡◌, Some, true≢false, ap, sym, ◌∙◌}
use Rattle.std.specs.Prelude.{is_some}
use Rattle.std.proofs.lemmas.Option.{same_Some}
use Rattle.std.proofs.lemmas.Result.{IfOk-weaker}
use Rattle.cc_rules_raised.proofs.slots.told_apart.Goals as goal
use Rattle.cc_rules_raised.specs.Completed.{fact_apart}
use Rattle.cc_rules_asked.specs.CcStateFacts.declared.facts.PointFact.{PointFact}
use Rattle.cc_rules_asked.specs.CcStateFacts.Facts.{fact_at}

pub unreachable-requires : goal.unreachable-requires
unreachable-requires g c = true≢false (sym c.requires ∙ ap is_some (sym c.in-None.ensures))

pub returns : goal.returns
returns g c =
    let known = c.in-Some.known.now in
    let r = c.args.r in
    let j = c.args.j in
    IfOk-weaker c.without_pair.result (λ (made : PointFact g.row.I.Denot). made ≡ fact_apart known r j)
    (λ (told : PointFact g.row.I.Denot). (fact : PointFact g.row.I.Denot) → fact_at c.args.facts.now c.args.n ≡ Some fact → told ≡ fact_apart fact r j)
    (λ made h fact e. h ∙ ap (λ (x : PointFact g.row.I.Denot). fact_apart x r j) (same_Some known fact (c.in-Some.ensures ∙ e))) c.without_pair.ensures

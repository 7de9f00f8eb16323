use Rattle.std.proofs.Common.{◌≡◌, ◌++◌, List, Option, None, Some, append-nil, slice_get, sym, subst, ap, ◌∙◌}
use Rattle.std.proofs.lemmas.Option.{same_Some}
use Rattle.cc_rules_asked.specs.CcFlow.declared.types.Flow.{Flow}
use Rattle.cc_rules_asked.specs.CcFlow.declared.types.Point.{Point}
use Rattle.cc_rules_asked.specs.CcFlow.Points.{flow_of}
use Rattle.cc_rules_again.specs.Again.{again_at}
use Rattle.cc_rules_numbered.specs.Numbered.{rule_view}
use Rattle.cc_rules_readers.specs.declared.deeds.Deed.{Deed}
use Rattle.cc_rules_readers.specs.View.{IsDeedAt}
use Rattle.cc_rules_readers.proofs.Doing.{no_point, at_point}
use Rattle.cc_rules_readers.proofs.asking.put_readers_at.Goals as goal

pub returns-in-None : goal.returns-in-None
returns-in-None g c =
    let none : slice_get c.args.index.now.deeds c.args.constraint.point ≡ None = ap (λ (ds : List Deed). slice_get ds c.args.constraint.point) (sym c.all-deeds.ensures) ∙ sym c.in-None.ensures in
    sym (append-nil c.args.list.now.items)
    ∙ ap (λ (o : Option Point). c.args.list.now.items ++ again_at c.args.rules.now.program.now c.args.facts.now (rule_view c.args.constraint.rule) c.args.constraint.point o)
    (sym (no_point (IsDeedAt c.args.rules.now.program.now) (flow_of c.args.rules.now.program.now).points c.args.index.now.deeds c.args.constraint.point c.requires.index.deeds none))

pub put_readers_of-requires-clause-deed : goal.put_readers_of-requires-clause-deed
put_readers_of-requires-clause-deed g c =
    let there : slice_get c.args.index.now.deeds c.args.constraint.point ≡ Some c.in-Some.deed.now = ap (λ (ds : List Deed). slice_get ds c.args.constraint.point) (sym c.all-deeds.ensures) ∙ sym c.in-Some.ensures in
    let own : slice_get (flow_of c.args.rules.now.program.now).points c.args.constraint.point ≡ Some c.in-Some-at.point.now =
    ap (λ (qs : List Point). slice_get qs c.args.constraint.point) (sym (c.all-points.ensures ∙ ap (λ (f : Flow). f.points) c.requires.rules.flow)) ∙ sym c.in-Some-at.ensures in
    let w = at_point (IsDeedAt c.args.rules.now.program.now) (flow_of c.args.rules.now.program.now).points c.args.index.now.deeds c.args.constraint.point c.in-Some.deed.now c.requires.index.deeds there in
    subst (λ (q : Point). IsDeedAt c.args.rules.now.program.now q c.in-Some.deed.now) (same_Some w.0 c.in-Some-at.point.now (sym w.1 ∙ own)) w.2

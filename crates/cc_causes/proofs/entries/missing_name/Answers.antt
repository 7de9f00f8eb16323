use Rattle.std.proofs.Common.{◌∙◌, ℕ, List, map, ap, sym}
use Rattle.std.specs.Prelude.{find}
use Rattle.cc_causes.proofs.Loops.{map_id}
use Rattle.cc_causes.specs.Entries.{is_nowhere}
use Rattle.cc_definitions.proofs.Finding.{passed, found, nowhere}
use Rattle.cc_linked_names.specs.Given.{given_name}
use Rattle.cc_things.specs.View.{thing_view}
use Rattle.cc_causes.proofs.entries.missing_name.Goals as goal

pub loop-name-preserved : goal.loop-name-preserved
loop-name-preserved c =
    let p = is_nowhere (map thing_view c.args.things.now) (given_name c.args.given.now) in
    passed (λ (x : List ℕ). x) p c.all-name-items.result.now c.loop-name.name-index c.name-item.result c.loop-name-test.true c.name-item.is c.loop-name.invariant
    (ap p (sym c.all.ensures) ∙ (sym c.is_nowhere.ensures ∙ c.if-is_nowhere.false))

pub returns-then-is_nowhere : goal.returns-then-is_nowhere
returns-then-is_nowhere c =
    let p = is_nowhere (map thing_view c.args.things.now) (given_name c.args.given.now) in
    let names = c.all-name-items.result.now in
    sym (ap (find p) (sym c.all-name-items.ensures ∙ sym (map_id names))
    ∙ found (λ (x : List ℕ). x) p names c.loop-name.name-index c.name-item.result c.loop-name-test.true c.name-item.is c.loop-name.invariant
    (ap p (sym c.all.ensures) ∙ (sym c.is_nowhere.ensures ∙ c.if-is_nowhere.true)))

pub returns : goal.returns
returns c =
    let p = is_nowhere (map thing_view c.args.things.now) (given_name c.args.given.now) in
    let names = c.all-name-items.result.now in
    sym (ap (find p) (sym c.all-name-items.ensures ∙ sym (map_id names)) ∙ nowhere (λ (x : List ℕ). x) p names c.loop-name.name-index c.loop-name-test.false c.loop-name.invariant)

use Rattle.std.proofs.Common.{◌≡◌, ◌∙◌, ◌<◌, length, map, ap, sym, arith}
use Rattle.std.proofs.lemmas.List.{length-map}
use Rattle.std.specs.List.{list_any}
use Rattle.std.specs.Prelude.{not}
use Rattle.cc_causes.specs.Entries.{is_named}
use Rattle.cc_definitions.specs.Definitions.{numbers_below}
use Rattle.cc_causes.proofs.Loops.{below_none, below_one}
use Rattle.cc_linked_names.specs.Given.{given_name}
use Rattle.cc_things.specs.View.{thing_view}
use Rattle.cc_causes.proofs.entries.is_nowhere.Goals as goal

pub loop-number-preserved : goal.loop-number-preserved
loop-number-preserved c =
    below_none (is_named (map thing_view c.args.things.now) (given_name c.args.given.now) c.args.name.now) c.loop-number.number c.loop-number.invariant (sym c.has_name_at.ensures ∙ c.if-has_name_at.false)

pub returns-then-has_name_at : goal.returns-then-has_name_at
returns-then-has_name_at c =
    let count = length-map c.args.things.now thing_view in
    let here : c.loop-number.number < length (map thing_view c.args.things.now) = omega (arith, count) in
    sym (ap not (below_one (is_named (map thing_view c.args.things.now) (given_name c.args.given.now) c.args.name.now) c.loop-number.number (length (map thing_view c.args.things.now)) here c.loop-number.invariant (sym c.has_name_at.ensures ∙ c.if-has_name_at.true)))

pub returns : goal.returns
returns c =
    let count = length-map c.args.things.now thing_view in
    let all : length (map thing_view c.args.things.now) ≡ c.loop-number.number = omega (arith, count) in
    sym (ap not (ap (λ n. list_any (is_named (map thing_view c.args.things.now) (given_name c.args.given.now) c.args.name.now) (numbers_below n)) all ∙ c.loop-number.invariant))

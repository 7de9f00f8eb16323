use Rattle.std.proofs.Common.{◌≡◌, ◌∙◌, ◌<◌, length, map, ap, sym, subst, arith}
use Rattle.std.proofs.lemmas.List.{length-map}
use Rattle.std.specs.Prelude.{IfOk, find, option_and_then}
use Rattle.cc_definitions.specs.Definitions.{numbers_below}
use Rattle.cc_causes.proofs.Loops.{below_passed, below_found}
use Rattle.cc_causes.specs.Causes.{handler_name}
use Rattle.cc_causes.specs.Entries.{is_bad_handler}
use Rattle.cc_linked_names.specs.Given.{given_name}
use Rattle.cc_things.specs.View.{thing_view}
use Rattle.cc_causes.proofs.entries.bad_thing.Goals as goal

pub loop-number-preserved : goal.loop-number-preserved
loop-number-preserved c =
    below_passed (is_bad_handler (map thing_view c.args.things.now) c.args.roles.now (given_name c.args.given.now)) c.loop-number.number c.loop-number.invariant (sym c.is_bad_handler.ensures ∙ c.if-is_bad_handler.false)

pub returns-then-is_bad_handler : goal.returns-then-is_bad_handler
returns-then-is_bad_handler c =
    let ts = map thing_view c.args.things.now in
    let count = length-map c.args.things.now thing_view in
    let here : c.loop-number.number < length (map thing_view c.args.things.now) = omega (arith, count) in
    let first = below_found (is_bad_handler ts c.args.roles.now (given_name c.args.given.now)) c.loop-number.number (length ts) here c.loop-number.invariant (sym c.is_bad_handler.ensures ∙ c.if-is_bad_handler.true) in
    subst (λ told. IfOk c.handler_name.result (λ name. name ≡ told)) (sym (ap (option_and_then (handler_name ts (given_name c.args.given.now))) first)) c.handler_name.ensures

pub returns : goal.returns
returns c =
    let ts = map thing_view c.args.things.now in
    let count = length-map c.args.things.now thing_view in
    let all : length (map thing_view c.args.things.now) ≡ c.loop-number.number = omega (arith, count) in
    sym (ap (option_and_then (handler_name ts (given_name c.args.given.now)))
    (ap (λ n. find (is_bad_handler ts c.args.roles.now (given_name c.args.given.now)) (numbers_below n)) all ∙ c.loop-number.invariant))

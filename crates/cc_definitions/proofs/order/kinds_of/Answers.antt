use Rattle.std.proofs.Common.{◌∙◌, ℕ, map, ap}
use Rattle.std.proofs.lemmas.List.{take_all}
use Rattle.std.specs.Prelude.{filter, not}
use Rattle.cc_definitions.proofs.Numbered.{filter_at}
use Rattle.cc_definitions.specs.Definitions.{is_function, thing_at}
use Rattle.cc_things.specs.View.{thing_view}
use Rattle.cc_definitions.proofs.order.kinds_of.Goals as goal

pub loop-number-init : goal.loop-number-init
loop-number-init c = record { functions = c.new-functions.ensures.items; objects = c.new-objects.ensures.items }

pub loop-number-preserved : goal.loop-number-preserved
loop-number-preserved c =
    let ts = map thing_view c.args.things.now in
    let ks = c.args.defined.now in
    let i = c.loop-number.number-index in
    record {
      functions = filter_at (λ k. is_function (thing_at ts k)) ks i c.is_function_at-is_function.result c.loop-number.functions.items c.put.new.numbers.items c.loop-number-test.true c.is_function_at-is_function.ensures c.loop-number.invariant.functions c.in_ok-put.ensures;
      objects = filter_at (λ k. not (is_function (thing_at ts k))) ks i (not c.is_function_at-is_function.result) c.loop-number.objects.items c.put-in-loop-number.new.numbers.items c.loop-number-test.true (ap not c.is_function_at-is_function.ensures) c.loop-number.invariant.objects c.in_ok-put-2.ensures;
    }

pub returns-clause-functions : goal.returns-clause-functions
returns-clause-functions c =
    c.loop-number.invariant.functions
    ∙ ap (filter (λ (k : ℕ). is_function (thing_at (map thing_view c.args.things.now) k))) (take_all c.loop-number.number-index c.args.defined.now c.loop-number-test.false)

pub returns-clause-objects : goal.returns-clause-objects
returns-clause-objects c =
    c.loop-number.invariant.objects
    ∙ ap (filter (λ (k : ℕ). not (is_function (thing_at (map thing_view c.args.things.now) k)))) (take_all c.loop-number.number-index c.args.defined.now c.loop-number-test.false)

use Rattle.std.proofs.Common.{◌≡◌, ◌∙◌, ◌+◌, ℕ, Some, map, ap, refl, sym}
use Rattle.std.specs.Prelude.{Bool, List, unwrap_or}
use Rattle.cc_definitions.specs.Definitions.{thing_at}
use Rattle.cc_definitions.specs.Handlers.{is_named_main}
use Rattle.cc_link.proofs.Loops.{not_yet, position_found, position_missed}
use Rattle.cc_things.specs.Things.{Thing}
use Rattle.cc_things.specs.View.{thing_view}
use Rattle.cc_link.proofs.parts.main_number.Goals as goal

abbrev is_main : List Thing → ℕ → Bool
is_main ts k = is_named_main (thing_at ts k)

pub loop-number-init : goal.loop-number-init
loop-number-init c = record { at = refl; before = refl }

pub loop-number-preserved : goal.loop-number-preserved
loop-number-preserved c = record {
  at = c.in_ok-position.ensures ∙ ap (λ n. n + 1) c.loop-number.invariant.at;
  before =
      not_yet (is_main (map thing_view c.args.things.now)) c.args.functions.now c.loop-number.number-index c.loop-number-test.true c.loop-number.invariant.before
      (sym c.is_named_main_at.ensures ∙ c.if-is_named_main_at.false);
}

pub returns-then-is_named_main_at : goal.returns-then-is_named_main_at
returns-then-is_named_main_at c =
    let found = position_found (is_main (map thing_view c.args.things.now)) c.args.functions.now c.loop-number.number-index c.loop-number-test.true c.loop-number.invariant.before (sym c.is_named_main_at.ensures ∙ c.if-is_named_main_at.true) in
    c.loop-number.invariant.at ∙ sym (ap (λ o. unwrap_or o 0) found)

pub returns : goal.returns
returns c =
    sym (ap (λ o. unwrap_or o 0) (position_missed (is_main (map thing_view c.args.things.now)) c.args.functions.now c.loop-number.number-index c.loop-number-test.false c.loop-number.invariant.before))

-- The slot has one number.
use Rattle.cc_rules_raised.proofs.Memory.{held_whole, held_result}
use Rattle.cc_rules_raised.proofs.slots.held_slot.Goals as goal

pub returns-in-Whole : goal.returns-in-Whole
returns-in-Whole g c =
    let is = held_whole c.args.slot c.args.facts.now c.in-Whole.k c.all.result.now c.in-Whole.is c.all.ensures c.held_at.ensures c.held_levels.ensures in
    record { whole = is.whole; results = is.results; levels = is.levels }

pub returns-in-Result : goal.returns-in-Result
returns-in-Result g c =
    let is = held_result c.args.slot c.args.facts.now c.in-Result.g c.all-in-Result.result.now c.in-Result.is c.all-in-Result.ensures c.held_at-in-Result.ensures c.held_levels.ensures in
    record { whole = is.whole; results = is.results; levels = is.levels }

pub returns-in_default : goal.returns-in_default
returns-in_default g c = record { whole = λ k e. absurd (c.in_default.not-Whole k e); results = λ n e. absurd (c.in_default.not-Result n e); levels = c.held_levels.ensures }

-- Each set of levels that was compared is within the other.
use Rattle.std.proofs.Common.{refl, arith}
use Rattle.cc_state_facts.specs.Levels.{AreLevelsWithin}
use Rattle.cc_state_facts.proofs.Steps.{zip_next}
use Rattle.cc_state_facts.proofs.marks.are_levels_below.Goals as goal

pub loop-at-preserved : goal.loop-at-preserved
loop-at-preserved c =
    zip_next AreLevelsWithin c.args.sets.now c.args.others.now c.loop-at.at 0 (omega (arith, c.loop-at-test.true)) c.requires c.loop-at.invariant (c.if-not-are_levels_within.ensures.0 refl)

use Rattle.std.proofs.Common.{arith, refl, subst}
use Rattle.std.specs.List.{All}
use Rattle.std.proofs.lemmas.List.{take_all}
use Rattle.std.proofs.lemmas.List.Elements.{All-more}
use Rattle.cc_state_shaped.specs.Parts.{IsWithin}
use Rattle.cc_state_shaped.proofs.pairs.are_within.Goals as goal

pub loop-pair-preserved : goal.loop-pair-preserved
loop-pair-preserved c = All-more (IsWithin c.args.registers c.args.cells) c.args.pairs.now c.loop-pair.pair-index (0, 0) (omega (arith, c.loop-pair-test.true)) c.loop-pair.invariant (c.if-not-is_within.ensures.0 refl)

pub returns : goal.returns
returns c =
    ((λ e. subst (All (IsWithin c.args.registers c.args.cells)) (take_all c.loop-pair.pair-index c.args.pairs.now (omega (arith, c.loop-pair-test.false))) c.loop-pair.invariant), (λ h. refl))

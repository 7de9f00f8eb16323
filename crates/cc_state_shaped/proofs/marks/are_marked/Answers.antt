-- Each set so far; at the end these are all, and behind them there are none.
use Rattle.std.proofs.Common.{arith, ◌∙◌, sym, refl, below_more}
use Rattle.std.proofs.lemmas.Option.{unwrap_or-slice_get}
use Rattle.cc_state_reads.specs.CcStateFacts.Facts.{levels_of}
use Rattle.cc_state_shaped.proofs.Tests.{marked_all}
use Rattle.cc_state_shaped.specs.Parts.{IsMarkedAt}
use Rattle.cc_state_shaped.proofs.marks.are_marked.Goals as goal

pub loop-number-preserved : goal.loop-number-preserved
loop-number-preserved c =
    let xs = c.args.levels.now in
    let n = c.loop-number.number in
    below_more (λ k. IsMarkedAt c.args.first.now c.args.second.now k (levels_of xs k)) n c.loop-number.invariant (λ a b. unwrap_or-slice_get xs n 0 ∙ c.if-not-is_marked.ensures.0 refl a b)

pub returns-then-not-is_marked : goal.returns-then-not-is_marked
returns-then-not-is_marked c =
    let xs = c.args.levels.now in
    let n = c.loop-number.number in
    ((λ e. absurd (cc)), (λ h. c.if-not-is_marked.ensures.1 (λ a b. sym (unwrap_or-slice_get xs n 0) ∙ h n a b)))

pub returns : goal.returns
returns c = ((λ e. marked_all c.args.first.now c.args.second.now c.args.levels.now c.loop-number.number (omega (arith, c.loop-number-test.false)) c.loop-number.invariant), (λ h. refl))

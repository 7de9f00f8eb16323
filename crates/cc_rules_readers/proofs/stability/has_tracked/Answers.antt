use Rattle.std.proofs.Common.{ℕ, sym}
use Rattle.cc_rules_again.specs.Named.{concerns}
use Rattle.cc_rules_readers.specs.Points.{concern_any}
use Rattle.cc_rules_readers.specs.View.{named_view}
use Rattle.cc_rules_readers.proofs.Unstable.{any_on, any_here, any_none}
use Rattle.cc_rules_readers.proofs.stability.has_tracked.Goals as goal
use Rattle.cc_rules_asked.specs.CcStateFacts.declared.facts.Key.TheVariants as key

pub loop-object-preserved : goal.loop-object-preserved
loop-object-preserved c =
    any_on (λ (i : ℕ). concerns (named_view c.args.keys) (key.Object i)) c.args.tracked.now c.loop-object.object-index (concern_any (named_view c.args.keys) c.args.tracked.now) c.loop-object-test.true (sym c.if-concerns.ensures) c.loop-object.invariant

pub returns-then-concerns : goal.returns-then-concerns
returns-then-concerns c =
    any_here (λ (i : ℕ). concerns (named_view c.args.keys) (key.Object i)) c.args.tracked.now c.loop-object.object-index (concern_any (named_view c.args.keys) c.args.tracked.now) c.loop-object-test.true (sym c.if-concerns.ensures) c.loop-object.invariant

pub returns : goal.returns
returns c = any_none (λ (i : ℕ). concerns (named_view c.args.keys) (key.Object i)) c.args.tracked.now c.loop-object.object-index (concern_any (named_view c.args.keys) c.args.tracked.now) c.loop-object-test.false c.loop-object.invariant

use Rattle.std.proofs.Common.{◌≡◌, drop}
use Rattle.cc_rules_readers.specs.Points.{concern_any}
use Rattle.cc_rules_readers.specs.View.{named_view}
use Rattle.cc_rules_readers.proofs.stability.has_tracked.Given as goal

abbrev pub invariant-loop-object : goal.invariant-loop-object
invariant-loop-object l = concern_any (named_view l.keys) (drop l.object-index l.tracked) ≡ concern_any (named_view l.keys) l.tracked

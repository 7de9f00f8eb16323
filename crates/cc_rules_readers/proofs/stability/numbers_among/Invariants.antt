use Rattle.std.proofs.Common.{◌≡◌, ◌++◌, drop}
use Rattle.cc_rules_readers.specs.Points.{numbers_concerned}
use Rattle.cc_rules_readers.specs.View.{named_view}
use Rattle.cc_rules_readers.proofs.stability.numbers_among.Given as goal
use Rattle.cc_rules_asked.specs.CcStateKeys.Tracked.{tracked}

abbrev pub invariant-loop-cell : goal.invariant-loop-cell
invariant-loop-cell l = l.numbers.items ++ numbers_concerned l.rules.program.now (named_view l.keys) (drop l.cell l.objects) ≡ numbers_concerned l.rules.program.now (named_view l.keys) (tracked l.rules.program.now)

use Rattle.std.proofs.Common.{◌≡◌, take}
use Rattle.cc_cost.specs.Given.{handlers_in}
use Rattle.cc_cost.specs.Settings.{settings_of}
use Rattle.cc_cost.proofs.given.handlers_of.Given as goal

abbrev pub invariant-loop-line : goal.invariant-loop-line
invariant-loop-line l = l.names.items ≡ handlers_in (settings_of (take l.line-index l.lines))

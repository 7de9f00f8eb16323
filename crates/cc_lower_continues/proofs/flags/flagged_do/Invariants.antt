use Rattle.std.proofs.Common.{◌≡◌, ◌∷◌}
use Rattle.cc_lower_continues.specs.Continues.{test_but_first}
use Rattle.cc_lower_continues.proofs.flags.flagged_do.Given as goal

abbrev pub invariant-loop-s : goal.invariant-loop-s
invariant-loop-s l = l.turn.items ≡ test_but_first l.flag l.e ∷ l.yielded

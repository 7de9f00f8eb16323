use Rattle.std.specs.Prelude.{◌≡◌, ◌++◌, take}
use Rattle.cc_state_holds.proofs.points.with_points.Given as goal

abbrev pub invariant-loop-n : goal.invariant-loop-n
invariant-loop-n l = l.all.items ≡ l.fn.points.items ++ take l.n-index l.others

use Rattle.std.proofs.Common.{◌≡◌, length, take, true}
use Rattle.cc_syntax.specs.Pairs.{all_pairs}
use Rattle.cc_values.specs.Values.{same_part}
use Rattle.cc_values.proofs.values.same_path.Given as goal

abbrev pub invariant-loop-i : goal.invariant-loop-i
invariant-loop-i l = (length l.path ≡ length l.others) × (all_pairs same_part (take l.i l.path) (take l.i l.others) ≡ true)

use Rattle.std.proofs.Common.{◌≡◌, length, take, map, true}
use Rattle.cc_syntax.specs.Pairs.{all_pairs}
use Rattle.cc_syntax.specs.SameTypes.{comparison_of}
use Rattle.cc_typed.proofs.same.+same.Given as goal

abbrev pub invariant-same_params-loop-i : goal.invariant-same_params-loop-i
invariant-same_params-loop-i l = (length l.param-items ≡ length l.others) × (all_pairs (λ c u. c.same u) (map comparison_of (take l.i l.param-items)) (take l.i l.others) ≡ true)

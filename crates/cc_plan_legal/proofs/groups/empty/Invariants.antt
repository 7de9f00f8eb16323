use Rattle.std.proofs.Common.{◌≡◌, ◌++◌, length, map}
use Rattle.cc_bins.specs.declared.types.Word.{Word}
use Rattle.cc_plan_legal.specs.Lookup.{no_fields}
use Rattle.cc_plan_legal.proofs.groups.empty.Given as goal

abbrev pub invariant-loop-left : goal.invariant-loop-left
invariant-loop-left l = l.groups.items ++ map (λ (w : Word). no_fields) l.left ≡ map (λ (w : Word). no_fields) l.words

abbrev pub decreases-loop-left : goal.decreases-loop-left
decreases-loop-left l = length l.left

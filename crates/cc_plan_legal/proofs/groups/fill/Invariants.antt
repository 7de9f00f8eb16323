use Rattle.std.proofs.Common.{◌≡◌, length}
use Rattle.cc_plan_legal.specs.Lookup.{put_all}
use Rattle.cc_plan_legal.proofs.groups.fill.Given as goal

abbrev pub invariant-loop-left : goal.invariant-loop-left
invariant-loop-left l = put_all l.initial.groups.items l.fields ≡ put_all l.groups.items l.left

abbrev pub decreases-loop-left : goal.decreases-loop-left
decreases-loop-left l = length l.left

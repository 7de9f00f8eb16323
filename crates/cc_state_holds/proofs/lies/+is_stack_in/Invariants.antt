use Rattle.std.proofs.Common.{length}
use Rattle.cc_state_holds.proofs.lies.+is_stack_in.Given as goal

abbrev pub decreases-is_stack_in : goal.decreases-is_stack_in
decreases-is_stack_in g l = length l.stack.now

-- By what is held, if it is written.
use Rattle.std.proofs.Common.{◌≡◌, Some, ap}
use Rattle.std.specs.Option.{option_copied}
use Rattle.cc_program.specs.declared.value.Value.{Value}
use Rattle.cc_state_holds.proofs.Held.{held_some, held_none}
use Rattle.cc_state_holds.proofs.memory.is_equal.Goals as goal

pub returns-in-None : goal.returns-in-None
returns-in-None c = held_none (λ (x : Value). option_copied c.args.other ≡ Some x) (option_copied c.args.held) (ap option_copied c.in-None.is)

pub returns-in-Some : goal.returns-in-Some
returns-in-Some c = held_some (λ (x : Value). option_copied c.args.other ≡ Some x) (option_copied c.args.held) c.in-Some.value.now c.is_held.result (ap option_copied c.in-Some.is) c.is_held.ensures

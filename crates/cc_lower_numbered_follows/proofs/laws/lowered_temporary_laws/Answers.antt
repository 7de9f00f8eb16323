use Rattle.cc_lower_numbered_follows.proofs.LoweredTemporaries.{temporaries_are_registers}
use Rattle.cc_lower_numbered_follows.proofs.laws.lowered_temporary_laws.Goals as goal

pub returns : goal.returns
returns c = record { registers = temporaries_are_registers }

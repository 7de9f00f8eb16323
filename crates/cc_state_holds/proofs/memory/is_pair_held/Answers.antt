-- By the register of the position.
use Rattle.std.specs.Option.{option_copied}
use Rattle.cc_cells.specs.Cells.{cells_of}
use Rattle.cc_proof_covers.specs.Pending.{value_in}
use Rattle.cc_state_holds.proofs.Pairs.{no_register, some_register}
use Rattle.cc_state_holds.proofs.memory.is_pair_held.Goals as goal
use Rattle.cc_steps.specs.View.{active_of}

pub returns-in-None : goal.returns-in-None
returns-in-None g c = λ f e. no_register c.args.b.now.program.now f c.args.registers.now e c.args.pair (value_in (option_copied c.args.pending) (active_of c.args.a.now)) (cells_of c.args.statics.now) c.in-None.ensures

pub returns-in-Some : goal.returns-in-Some
returns-in-Some g c = λ f e.
    some_register c.args.b.now.program.now f c.args.registers.now e c.args.pair (value_in (option_copied c.args.pending) (active_of c.args.a.now)) (cells_of c.args.statics.now) c.in-Some.r (option_copied c.value_in.result) c.is_at_cell.result c.in-Some.ensures c.value_in.ensures
    c.is_at_cell.ensures

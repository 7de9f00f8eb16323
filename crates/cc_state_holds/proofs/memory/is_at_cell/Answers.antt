-- By the object of the position.
use Rattle.std.proofs.Common.{refl}
use Rattle.std.specs.Option.{option_copied}
use Rattle.cc_cells.specs.Cells.{cells_of}
use Rattle.cc_state_holds.proofs.Pairs.{no_cell, some_cell}
use Rattle.cc_state_holds.proofs.memory.is_at_cell.Goals as goal

pub returns-in-None : goal.returns-in-None
returns-in-None g c = no_cell c.args.b.now.program.now c.args.b.now.tracked.now c.requires c.args.n (option_copied c.args.held) (cells_of c.args.statics.now) c.in-None.ensures

pub returns-in-Some : goal.returns-in-Some
returns-in-Some g c =
    some_cell c.args.b.now.program.now c.args.b.now.tracked.now c.requires c.args.n (option_copied c.args.held) (cells_of c.args.statics.now) c.in-Some.i (option_copied c.read_scalar.result) c.is_equal.result c.in-Some.ensures (c.read_scalar.ensures 0 refl) c.is_equal.ensures

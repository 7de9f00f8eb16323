use Rattle.cc_state_points.proofs.CcStateValues.Arms.{kinds_same}
use Rattle.cc_slots.proofs.list.made_slot.Goals as goal

pub copied-requires : goal.copied-requires
copied-requires c = kinds_same c.args.values.now

use Rattle.cc_lower_normal.proofs.LoweredPrograms.{devices_there, lowered_apart, lowered_normal, lowered_sound, lowered_typed, numbered_whole, ordered_normal}
use Rattle.cc_lower_normal.proofs.laws.lowered_laws.Goals as goal

pub returns : goal.returns
returns c = record { typed = lowered_typed; names = lowered_apart; sound = lowered_sound; devices = devices_there; normal = lowered_normal; ordered = ordered_normal; numbered_normal = numbered_whole }

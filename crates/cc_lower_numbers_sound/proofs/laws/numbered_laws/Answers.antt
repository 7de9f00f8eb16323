use Rattle.cc_lower_numbers_sound.proofs.ApartPrograms.{numbered_apart}
use Rattle.cc_lower_numbers_sound.proofs.DeviceOrders.{devices_ordered, ordered_devices}
use Rattle.cc_lower_numbers_sound.proofs.NormalPrograms.{bodies_kept, numbered_normal, numbered_sound}
use Rattle.cc_lower_numbers_sound.proofs.TypedPrograms.{numbered_typed}
use Rattle.cc_lower_numbers_sound.proofs.laws.numbered_laws.Goals as goal

pub returns : goal.returns
returns c = record { typed = numbered_typed; apart = numbered_apart; sound = numbered_sound; in_order = λ p h. (ordered_devices p h, devices_ordered p h); bodies = bodies_kept; normal = numbered_normal }

-- Normal form is what is asked but for names and numbers, and these.
use Rattle.std.proofs.Common.{◌≡◌, true}
use Rattle.cc_program.specs.declared.program.Program.{Program}
use Rattle.cc_eval.specs.CcSyntax.Normal.{IsNormal, devices_in_order}
use Rattle.cc_eval.specs.CcSyntax.Sound.{AreNamesApart}
use Rattle.cc_eval.proofs.CcSyntax.NameRules.{sound-typed, sound-named, typed-sound}
use Rattle.cc_lower_sound.specs.Normal.{IsNormalButForNames}

pub without_names : (p : Program) → IsNormal p → IsNormalButForNames p × AreNamesApart p × (devices_in_order p ≡ true)
without_names p h = (record { typed = sound-typed p h.sound; bodies = h.bodies }, sound-named p h.sound, h.devices)

pub with_names : (p : Program) → IsNormalButForNames p × AreNamesApart p × (devices_in_order p ≡ true) → IsNormal p
with_names p h = record { sound = typed-sound p h.0.typed h.1; bodies = h.0.bodies; devices = h.2 }

-- A program with the objects of an order is sound, and in normal form, where its source is.
use Rattle.std.proofs.Common.{◌∙◌, ℕ, List}
use Rattle.cc_program.specs.declared.program.Program.{Program}
use Rattle.cc_eval.proofs.CcSyntax.NameRules.{sound-typed, sound-named, typed-sound}
use Rattle.cc_eval.specs.CcSyntax.Normal.{IsNormal}
use Rattle.cc_eval.specs.CcSyntax.Sound.{AreNamesApart, IsSound, IsTypedProgram}
use Rattle.cc_rewrite_renamed.specs.Objects.{with_objects_ordered}
use Rattle.cc_rewrite_renamed.specs.Orders.{IsOrderOf}
use Rattle.cc_rewrite_orders_sound.proofs.Names.{ordered_apart}
use Rattle.cc_rewrite_orders_sound.proofs.Programs.{new, ordered_typed, bodies_kept, devices_kept}

module _ (order : List ℕ) (p : Program) (h : IsOrderOf order p) where
  sound_there : IsSound p → IsSound (new order p h)
  sound_there s = typed-sound (new order p h) (ordered_typed order p h (sound-typed p s)) (ordered_apart order p h (sound-named p s))

  pub typed : IsTypedProgram p → IsTypedProgram (with_objects_ordered order p)
  unfolding with_objects_ordered
  typed t = ordered_typed order p h t

  pub apart : AreNamesApart p → AreNamesApart (with_objects_ordered order p)
  unfolding with_objects_ordered
  apart n = ordered_apart order p h n

  pub sound : IsSound p → IsSound (with_objects_ordered order p)
  unfolding with_objects_ordered
  sound s = sound_there s

  pub normal : IsNormal p → IsNormal (with_objects_ordered order p)
  unfolding with_objects_ordered
  normal n = record { sound = sound_there n.sound; bodies = bodies_kept order p h ∙ n.bodies; devices = devices_kept order p h ∙ n.devices }

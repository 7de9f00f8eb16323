use Rattle.cc_rewrite_orders_sound.proofs.Whole.{typed, apart, sound, normal}
use Rattle.cc_rewrite_orders_sound.proofs.law.ordered_sound_laws.Goals as goal

pub returns : goal.returns
returns c = record {
  typed = typed;
  apart = apart;
  sound = sound;
  normal = normal;
}

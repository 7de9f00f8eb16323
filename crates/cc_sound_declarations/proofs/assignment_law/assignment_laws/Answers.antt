use Rattle.cc_typed_bodies.specs.CcSpecifiers.declared.storage.Where.TheVariants as place
use Rattle.cc_sound_declarations.proofs.Declarations.{declaration_reaches}
use Rattle.cc_sound_declarations.proofs.assignment_law.assignment_laws.Goals as goal
use Rattle.cc_sound_declarations.proofs.Storage.{Block, For}

pub returns : goal.returns
returns c = record {
  blocks = λ v k roles defined d f D s r a h. declaration_reaches v roles defined k place.InBlock d D s r Block f a h;
  loops = λ v k roles defined d f D s r a h. declaration_reaches v roles defined k place.InFor d D s r For f a h;
}

use Rattle.cc_typed_bodies.specs.CcSpecifiers.declared.storage.Where.TheVariants as place
use Rattle.cc_sound_declarations.proofs.Blocks.{declaration_leaves}
use Rattle.cc_sound_declarations.proofs.Storage.{Block, For}
use Rattle.cc_sound_declarations.proofs.declaration_law.declaration_laws.Goals as goal

pub returns : goal.returns
returns c = record {
  blocks = λ v roles defined k d D s r f a h. declaration_leaves v roles defined k place.InBlock d D s r Block f a h;
  loops = λ v roles defined k d D s r f a h. declaration_leaves v roles defined k place.InFor d D s r For f a h;
}

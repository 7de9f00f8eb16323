use Rattle.cc_sound_declarations.proofs.Places.{scalars_placed}
use Rattle.cc_typed_bodies.specs.CcScopes.State.{structures_of}
use Rattle.cc_sound_terms.proofs.Known.{within_known}
use Rattle.cc_sound_declarations.proofs.place_law.place_laws.Goals as goal

pub returns : goal.returns
returns c = record { scalars = λ v locals members s w t a constant volatile k p e. scalars_placed v locals members (structures_of s) (within_known v s w) t a constant volatile k p e }

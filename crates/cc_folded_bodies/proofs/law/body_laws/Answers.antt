use Rattle.cc_folded_bodies.proofs.Declarations.{declaration_folded}
use Rattle.cc_folded_bodies.proofs.Induction.{body_folds}
use Rattle.cc_folded_bodies.proofs.law.body_laws.Goals as goal

pub returns : goal.returns
returns c = record {
  declarations = λ target roles defined place d s r h. declaration_folded target roles defined place d s r h;
  bodies = λ target roles defined result ls j s r h. body_folds target roles defined result ls j s r h;
}

use Rattle.cc_accessed_bodies.proofs.Declarations.{declaration_accounts, external_assigns_nothing}
use Rattle.cc_accessed_bodies.proofs.Induction.{body_accounts}
use Rattle.cc_accessed_bodies.proofs.law.body_laws.Goals as goal

pub returns : goal.returns
returns c = record {
  declarations = λ target roles defined place d f s r h. declaration_accounts target roles defined place d f s r h;
  external = λ target roles defined d s r h. external_assigns_nothing target roles defined d s r h;
  bodies = λ target roles defined result ls f j s r h. body_accounts target roles defined result ls f j s r h;
}

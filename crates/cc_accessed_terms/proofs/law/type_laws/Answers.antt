use Rattle.cc_accessed_terms.proofs.Terms.{declr_declares, specifiers_declare, type_name_declares}
use Rattle.cc_accessed_terms.proofs.law.type_laws.Goals as goal

pub returns : goal.returns
returns c = record {
  type_names = λ target roles t cast s r h. type_name_declares target roles t cast s r h;
  specifiers = λ target roles setting specs s r h. specifiers_declare target roles setting specs s r h;
  declarators = λ target roles d allowed at s r h. declr_declares target roles d allowed at s r h;
}

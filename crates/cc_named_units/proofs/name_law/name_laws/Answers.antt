use Rattle.cc_named_units.proofs.NamedStatements.{sentence_named}
use Rattle.cc_named_units.proofs.NamedTexts.{text_named}
use Rattle.cc_named_units.proofs.name_law.name_laws.Goals as goal

pub returns : goal.returns
returns c = record { texts = λ text ts d h. text_named text ts d h; sentences = λ ts u s h. sentence_named ts u s h }

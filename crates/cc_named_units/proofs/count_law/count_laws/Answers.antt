use Rattle.cc_named_units.proofs.CountedStatements.{sentence_read}
use Rattle.cc_named_units.proofs.CountedTexts.{text_spelled}
use Rattle.cc_named_units.proofs.count_law.count_laws.Goals as goal

pub returns : goal.returns
returns c = record { texts = λ text ts d. text_spelled text ts d; sentences = λ ts u s. sentence_read ts u s }

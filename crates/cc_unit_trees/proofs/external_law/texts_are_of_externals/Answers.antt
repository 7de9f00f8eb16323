use Rattle.cc_unit_trees.proofs.Texts.{externals-text}
use Rattle.cc_unit_trees.proofs.external_law.texts_are_of_externals.Goals as goal

pub returns : goal.returns
returns c = record { text = externals-text }

use Rattle.cc_tree.proofs.Measure.{falls}
use Rattle.cc_tree.proofs.Outcomes.{ends}
use Rattle.cc_tree.proofs.Reach.{far}
use Rattle.cc_tree.proofs.Reading.{read_sound, read_low}
use Rattle.cc_tree.proofs.laws.the_machine_reads_sentences.Goals as goal

pub returns-clause-ends : goal.returns-clause-ends
returns-clause-ends c = falls

pub returns-clause-sound : goal.returns-clause-sound
returns-clause-sound c = read_sound

pub returns-clause-complete : goal.returns-clause-complete
returns-clause-complete c = λ limit ts s e u h k t. ends limit s e u t.after ts h k t.items

pub returns-clause-tokens_taken : goal.returns-clause-tokens_taken
returns-clause-tokens_taken c = far

pub returns-clause-low : goal.returns-clause-low
returns-clause-low c = read_low

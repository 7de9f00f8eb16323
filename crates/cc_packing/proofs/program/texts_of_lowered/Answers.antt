use Rattle.std.proofs.Common.{length}
use Rattle.cc_packing.proofs.ProgramTexts.{ends-by}
use Rattle.cc_packing.proofs.program.texts_of_lowered.Goals as goal
use Rattle.cc_states.proofs.CcSyntax.StructureLemmas.{structures_sized}

pub lower-requires : goal.lower-requires
lower-requires c = record { sized = structures_sized (length c.args.p.structures) c.args.p.target c.args.p.structures c.requires.sound.structures }

pub returns-clause-ends : goal.returns-clause-ends
returns-clause-ends c = ends-by c.args.p c.texts_within-texts.result c.in_ok-q.q c.in_ok-q.ensures.exact c.requires.within c.texts_within-texts.ensures.ends

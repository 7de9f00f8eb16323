-- A program in normal form is sound, so its structures have sizes.
use Rattle.std.proofs.Common.{length}
use Rattle.cc_typed.proofs.CcSyntax.StructureLemmas.{structures_sized}
use Rattle.cc_print.proofs.program.print.Goals as goal

pub text_of-requires : goal.text_of-requires
text_of-requires c = structures_sized (length c.args.p.now.structures) c.args.p.now.target c.args.p.now.structures c.requires.sound.structures

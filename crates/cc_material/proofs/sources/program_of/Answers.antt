use Rattle.cc_files.specs.Unread.{names_of, texts_of}
use Rattle.cc_material.proofs.SourceLaws.{is-program, tells-refusal}
use Rattle.cc_read_sound.proofs.Sound.{reads-sound}
use Rattle.cc_material.proofs.sources.program_of.Goals as goal

pub returns-in-Ok-clause-program : goal.returns-in-Ok-clause-program
returns-in-Ok-clause-program c = is-program c.args.profile.now (texts_of c.args.sources.now) c.in-Ok.p c.in-Ok.ensures.read c.in-Ok.ensures.low

pub returns-in-Ok-clause-sound : goal.returns-in-Ok-clause-sound
returns-in-Ok-clause-sound c = reads-sound (texts_of c.args.sources.now) c.args.profile.now.target c.args.profile.now.roles c.in-Ok.p c.in-Ok.ensures.read c.requires.small

pub returns-in-Err-clause-refused : goal.returns-in-Err-clause-refused
returns-in-Err-clause-refused c = tells-refusal c.args.profile.now (texts_of c.args.sources.now) (names_of c.args.names.now) c.in-Err.refusal c.refused.result c.in-Err.ensures.refused c.refused.ensures.why c.refused.ensures.refused

use Rattle.std.proofs.Common.{sym}
use Rattle.cc_initialisers.proofs.Forms.{members-character}
use Rattle.cc_initialisers.proofs.content.Content.is_character.Goals as goal

pub returns-in-Members : goal.returns-in-Members
returns-in-Members c = sym (members-character c.args.self c.in-Members.field-0 c.in-Members.is)

use Rattle.std.proofs.Common.{sym}
use Rattle.cc_initialisers.proofs.Forms.{members-string}
use Rattle.cc_initialisers.proofs.content.Content.takes_text.Goals as goal

pub returns-in-Members : goal.returns-in-Members
returns-in-Members c = sym (members-string c.args.self c.in-Members.field-0 c.in-Members.is)

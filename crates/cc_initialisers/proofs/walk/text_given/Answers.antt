use Rattle.std.proofs.Common.{◌≡◌, ◌++◌, OnOk, List, subst, sym}
use Rattle.cc_initialisers.specs.Initialisers.{Step}
use Rattle.cc_initialisers.specs.View.{steps_of}
use Rattle.cc_initialisers.proofs.Forms.{members-text}
use Rattle.cc_initialisers.proofs.walk.text_given.Goals as goal

pub returns-in-Members : goal.returns-in-Members
returns-in-Members c =
    subst (λ (xs : List Step). OnOk c.put_breach-in-Members.result (steps_of c.put_breach-in-Members.new.out ≡ steps_of c.args.out.now ++ xs))
    (sym (members-text c.args.object c.in-Members.field-0 c.in-Members.is c.args.place c.args.bytes.now)) c.put_breach-in-Members.ensures

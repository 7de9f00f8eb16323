use Rattle.std.proofs.Common.{◌≡◌, ◌++◌, OnOk, List, subst, sym}
use Rattle.cc_initialisers.specs.Initialisers.{Step, here}
use Rattle.cc_initialisers.specs.View.{steps_of}
use Rattle.cc_initialisers.proofs.Forms.{members-initialised}
use Rattle.cc_initialisers.proofs.walk.object_initialised.Goals as goal

pub returns-in-Members : goal.returns-in-Members
returns-in-Members c =
    subst (λ (xs : List Step). OnOk c.aggregate_initialised-in-Members.result (steps_of c.aggregate_initialised-in-Members.new.out ≡ steps_of c.args.out.now ++ xs))
    (sym (members-initialised c.args.object c.in-Members.field-0 c.in-Members.is (here c.args.g.now))) c.aggregate_initialised-in-Members.ensures

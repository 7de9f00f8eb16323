use Rattle.std.proofs.Common.{◌≡◌, ◌++◌, OnOk, List, subst}
use Rattle.cc_initialisers.specs.Initialisers.{Step}
use Rattle.cc_initialisers.specs.View.{steps_of}
use Rattle.cc_initialisers.proofs.Started.{sole-given, sole-list}
use Rattle.cc_operands.specs.CcTyped.View.{value_view}
use Rattle.cc_initialisers.proofs.walk.sole.Goals as goal

pub returns-in_ok-put_given-in-One : goal.returns-in_ok-put_given-in-One
returns-in_ok-put_given-in-One c =
    let e = sole-given c.args.constant (value_view c.args.t) c.args.place c.args.gs.now c.g-item.result c.in-One.e (steps_of c.args.out.now) (steps_of c.put_given.new.out)
    c.in-len1-up.len_at_least c.g-item.is c.in-One.is c.in_ok-put_given-in-One.ensures in
    subst (λ (xs : List Step). OnOk c.nothing_left.result (steps_of c.nothing_left.new.out ≡ xs)) e c.nothing_left.ensures

pub returns-in-Many : goal.returns-in-Many
returns-in-Many c =
    let e = sole-list c.args.constant (value_view c.args.t) c.args.place c.args.gs.now c.g-item.result c.in-Many.field-0 c.in-len1-up.len_at_least c.g-item.is c.in-Many.is in
    subst (λ (xs : List Step). OnOk c.refuse.result (steps_of c.refuse.new.out ≡ steps_of c.args.out.now ++ xs)) e c.refuse.ensures

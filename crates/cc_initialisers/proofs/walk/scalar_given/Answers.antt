use Rattle.std.proofs.Common.{◌≡◌, ◌++◌, OnOk, List, subst}
use Rattle.cc_initialisers.specs.Initialisers.{Step}
use Rattle.cc_initialisers.specs.View.{steps_of}
use Rattle.cc_initialisers.proofs.Started.{scalar-expression, scalar-list}
use Rattle.cc_operands.specs.CcTyped.View.{value_view}
use Rattle.cc_initialisers.proofs.walk.scalar_given.Goals as goal

pub returns-in-One : goal.returns-in-One
returns-in-One c =
    subst (λ (xs : List Step). OnOk c.put_given.result (steps_of c.put_given.new.out ≡ steps_of c.args.out.now ++ xs)) (scalar-expression c.args.constant (value_view c.args.t) c.args.g.now c.in-One.e c.in-One.is) c.put_given.ensures

pub returns-in-Many : goal.returns-in-Many
returns-in-Many c =
    subst (λ (xs : List Step). OnOk c.sole.result (steps_of c.sole.new.out ≡ steps_of c.args.out.now ++ xs)) (scalar-list c.args.constant (value_view c.args.t) c.args.g.now c.in-Many.gs c.all.result.now c.in-Many.is c.all.ensures) c.sole.ensures

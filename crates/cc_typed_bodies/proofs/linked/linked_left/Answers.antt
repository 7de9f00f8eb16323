use Rattle.std.specs.Option.{option_copied}
use Rattle.cc_scopes.specs.View.{state_of}
use Rattle.cc_typed_bodies.proofs.Gives.{linked-gives}
use Rattle.cc_typed_bodies.proofs.linked.linked_left.Goals as goal

pub returns : goal.returns
returns c =
    linked-gives c.args.target.now c.args.roles.now c.args.defined.now c.args.place c.args.asked c.args.x.now c.all.result.now c.args.t.now c.in_ok-t.t c.in_ok-u.u (option_copied c.args.value)
    (state_of c.args.state.now) (state_of c.declare_object.new.state) (state_of c.linked_given.new.state) c.in_ok-id.id c.linked_given.result c.all.ensures c.in_ok-t.ensures c.in_ok-u.ensures c.in_ok-id.ensures c.linked_given.ensures

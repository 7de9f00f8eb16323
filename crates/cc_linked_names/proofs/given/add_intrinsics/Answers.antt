use Rattle.std.proofs.Common.{◌∙◌, ap}
use Rattle.cc_linked_names.proofs.Giving.{four_added}
use Rattle.cc_names.specs.View.{with_name}
use Rattle.cc_linked_names.proofs.given.add_intrinsics.Goals as goal

pub returns : goal.returns
returns c =
    let roles = c.args.roles.now in
    four_added c.args.space.now c.add.new.self c.add-2.new.self c.add-3.new.self c.add-4.new.self roles.off roles.on roles.save roles.restore
    c.requires
    (c.in_ok-add.ensures ∙ ap (with_name c.args.space.now) c.all.ensures)
    (c.in_ok-add-2.ensures ∙ ap (with_name c.add.new.self) c.all-2.ensures)
    (c.in_ok-add-3.ensures ∙ ap (with_name c.add-2.new.self) c.all-3.ensures)
    (c.in_ok-add-4.ensures ∙ ap (with_name c.add-3.new.self) c.all-4.ensures)

use Rattle.std.proofs.Common.{rules, ◌≡◌, true, slice_get}
use Rattle.cc_syntax.specs.Types.{has_members}
use Rattle.cc_syntax.proofs.SizeLemmas.{structure_sized}
use Rattle.cc_typed.proofs.kinds.struct_kind.Goals as goal

pub layout_of-requires : goal.layout_of-requires
layout_of-requires c =
    let m : has_members (slice_get c.args.structures.now c.args.id) ≡ true = search rules in
    structure_sized c.args.structures.now c.args.count c.args.target.now c.requires.sized c.args.t.now c.args.id c.requires.is m

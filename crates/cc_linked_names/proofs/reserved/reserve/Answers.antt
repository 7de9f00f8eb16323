use Rattle.std.proofs.Common.{[]}
use Rattle.std.specs.Prelude.{flat_map}
use Rattle.cc_linked_names.proofs.reserved.reserve.Goals as goal

pub returns : goal.returns
returns c =
    c.in_ok-reserve_intrinsics.ensures (flat_map (λ x. x.identifiers) c.args.texts.now) (c.in_ok-reserve_identifiers.ensures [] c.requires)

use Rattle.std.proofs.Common.{get_or, refl}
use Rattle.std.proofs.lemmas.Option.{slice_get-get_or}
use Rattle.cc_rules_firsts.proofs.ByKey.{is_put}
use Rattle.cc_rules_firsts.proofs.firsts.put_at.Goals as goal

pub with_value-requires : goal.with_value-requires
with_value-requires g c = c.requires.fits (get_or c.args.sets.now c.args.number c.index-sets-number.result) (slice_get-get_or c.args.sets.now c.args.number c.index-sets-number.result c.requires.there)

pub returns : goal.returns
returns g c =
    is_put g.I.Concrete.Has g.I.Lattice.IsBelow c.args.sets.now _ c.args.number (get_or c.args.sets.now c.args.number c.index-sets-number.result) c.in_ok-both.both c.args.value.now
    (slice_get-get_or c.args.sets.now c.args.number c.index-sets-number.result c.requires.there) c.in_ok-both.ensures refl

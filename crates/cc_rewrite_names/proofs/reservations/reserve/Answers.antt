use Rattle.std.proofs.Common.{[], subst}
use Rattle.cc_names.specs.Holds.{Holds}
use Rattle.cc_lower_numbers.proofs.Reservations.{all_reserved}
use Rattle.cc_rewrite_names.proofs.reservations.reserve.Goals as goal

pub returns : goal.returns
returns c =
    subst (λ l. Holds c.reserve_locals.new.taken l [])
    (all_reserved c.args.p.now c.all.result.now c.all-2.result.now c.all-3.result.now c.all.ensures c.all-2.ensures c.all-3.ensures)
    (c.in_ok-reserve_locals.ensures _ (c.in_ok-reserve_file.ensures _ (c.in_ok-reserve_members.ensures _ (c.in_ok-reserve_tags.ensures [] c.requires))))

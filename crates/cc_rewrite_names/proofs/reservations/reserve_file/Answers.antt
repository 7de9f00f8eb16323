use Rattle.std.proofs.Common.{[], subst}
use Rattle.cc_names.specs.Holds.{Holds}
use Rattle.cc_lower_numbers.proofs.Reservations.{file_reserved}
use Rattle.cc_rewrite_names.proofs.reservations.reserve_file.Goals as goal

pub returns : goal.returns
returns c = λ r h.
    subst (λ l. Holds c.reserve_intrinsics.new.taken l [])
    (file_reserved c.args.p.now r c.all.result.now c.all-2.result.now c.all-3.result.now c.all.ensures c.all-2.ensures c.all-3.ensures)
    (c.in_ok-reserve_intrinsics.ensures _ (c.in_ok-reserve_funcs.ensures _ (c.in_ok-reserve_objects.ensures _ (c.in_ok-reserve_devices.ensures r h))))

use Rattle.std.proofs.Common.{[], subst}
use Rattle.cc_names.specs.View.{HaveSame}
use Rattle.cc_lower_numbers.proofs.Reservations.{all_reserved, none_reserved}
use Rattle.cc_lower_numbers.proofs.names.reserve.Goals as goal

pub returns : goal.returns
returns c =
    subst (λ l. HaveSame c.reserve_locals.new.names l)
    (all_reserved c.args.p.now c.all.result.now c.all-2.result.now c.all-3.result.now c.all.ensures c.all-2.ensures c.all-3.ensures)
    (c.in_ok-reserve_locals.ensures _ (c.in_ok-reserve_file.ensures _ (c.in_ok-reserve_members.ensures _ (c.in_ok-reserve_tags.ensures [] (none_reserved c.args.names.now c.requires)))))

use Rattle.std.proofs.Common.{◌∙◌, ap, length, ◌++◌}
use Rattle.std.specs.Prelude.{nat_lt}
use Rattle.std.specs.List.{list_all}
use Rattle.cc_syntax.specs.Normal.{devices_in_text}
use Rattle.cc_lower_numbers.specs.Numbered.{named_from, device_order}
use Rattle.cc_lower_numbers.specs.Order.{place_in}
use Rattle.cc_lower_numbers.proofs.Tables.{table_is, ordered_below}
use Rattle.cc_lower_numbers.proofs.program.device_places.Goals as goal

pub returns : goal.returns
returns c = λ e.
    let p = c.args.p.now in
    let n = length c.all.result.now in
    let below =
    ap (λ o. list_all (λ i. nat_lt i n) o) e ∙ ap (λ l. list_all (λ i. nat_lt i (length l)) (device_order p)) c.all.ensures ∙ ordered_below 0 (length p.devices) (named_from 0 p.devices ++ devices_in_text p) in
    table_is 0 c.args.order.now c.in_ok-places.places.items n below c.in_ok-places.ensures.bound c.in_ok-places.ensures.places ∙ ap (place_in 0) e

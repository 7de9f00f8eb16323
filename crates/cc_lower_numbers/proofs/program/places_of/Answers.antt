use Rattle.std.proofs.Common.{◌∙◌, ap, length}
use Rattle.std.specs.Prelude.{nat_lt}
use Rattle.std.specs.List.{list_all}
use Rattle.cc_lower_numbers.specs.Order.{place_in}
use Rattle.cc_lower_numbers.specs.Temporaries.{kept_count, temporaries, written_in}
use Rattle.cc_lower_numbers.proofs.Tables.{table_is, ordered_below}
use Rattle.cc_lower_numbers.proofs.program.places_of.Goals as goal

pub returns : goal.returns
returns c = λ e.
    let f = c.args.f.now in
    let n = length c.all.result.now in
    let below =
    ap (λ o. list_all (λ i. nat_lt i n) o) e ∙ ap (λ l. list_all (λ i. nat_lt i (length l)) (temporaries f)) c.all.ensures ∙ ordered_below (kept_count f) (length f.locals) (written_in f.body) in
    table_is c.kept_count.result c.args.order.now c.in_ok-places.places.items n below c.in_ok-places.ensures.bound c.in_ok-places.ensures.places ∙ (λ i. place_in (c.kept_count.ensures i) (e i))

use Rattle.std.proofs.Common.{◌≡◌, ◌∙◌, ◌++◌, ◌∷◌, [], None, ap, length}
use Rattle.std.specs.Prelude.{slice_get, unwrap_or}
use Rattle.cc_lower_numbers.specs.Order.{place_in, place_or}
use Rattle.cc_lower_numbers.proofs.Places.{got_is, place_told, places_more, places_length}
use Rattle.cc_lower_numbers.proofs.order.places.Goals as goal

pub loop-number-preserved : goal.loop-number-preserved
loop-number-preserved c =
    let n = c.loop-number.number in
    let p = place_in c.args.first c.args.order.now n in
    let told = c.told.ensures ∙ ap (λ l. unwrap_or (slice_get l n) None) c.as_slice.ensures.value ∙ got_is c.in_ok-positions.positions.items n in
    let is = c.in_ok-place.ensures ∙ ap (place_or c.args.first n) (told ∙ c.in_ok-positions.ensures.positions n c.loop-number-test.true) ∙ place_told c.args.first c.args.order.now n in
    let all : c.push.new.self.items ≡ c.loop-number.places.items ++ p ∷ [] = c.in_ok-push.ensures.items ∙ ap (λ x. c.loop-number.places.items ++ x ∷ []) is in
    record {
      bound = ap length all ∙ places_length c.loop-number.places.items p n c.loop-number.invariant.bound;
      each = places_more c.args.first c.args.order.now c.loop-number.places.items c.push.new.self.items n c.loop-number.invariant.bound all c.loop-number.invariant.each;
    }

use Rattle.std.proofs.Common.{rules}
use Rattle.std.proofs.lemmas.Fn.{always_returns_same}
use Rattle.cc_order.proofs.Sorting.{key, places_sorted}
use Rattle.cc_order.proofs.place.sort_places.Goals as goal

-- the closure gives the key of a place
pub returns : goal.returns
returns c =
    places_sorted c.args.places.now.items c.sort_by_key.new.self.items
    (c.in_ok-sort_by_key.ensures.sorted key (always_returns_same _ _ _ (λ a r q k. search rules)))
    (c.in_ok-sort_by_key.ensures.stable key (always_returns_same _ _ _ (λ a r q k. search rules)))

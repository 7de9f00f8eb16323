-- The order of slots whose prices are known.
use Rattle.std.specs.Prelude.{◌*◌}
use Rattle.std.specs.declared.cmp.Ordering.{Ordering}
use Rattle.std.specs.Ordering.{nat_cmp, ordering_then}
use Rattle.cc_cost_ranking.specs.declared.priced.Priced.{Priced}

abbrev pub priced_order : Priced → Priced → Ordering
priced_order x y = ordering_then (nat_cmp (y.costed.gain * x.price) (x.costed.gain * y.price)) (nat_cmp x.costed.slot y.costed.slot)

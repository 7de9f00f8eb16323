use Rattle.std.proofs.Common.{sym, subst}
use Rattle.cc_rules_asked.specs.CcPlaces.declared.abs.Abs.TheVariants as abs
use Rattle.cc_rules_firsts.proofs.Least.{no_number, no_address}
use Rattle.cc_rules_firsts.proofs.sets.none_of.Goals as goal
use Rattle.cc_rules_firsts.specs.Firsts.{IsNoneOf}

pub returns-in-Ints : goal.returns-in-Ints
returns-in-Ints g c =
    subst (λ kind. IsNoneOf g.I.Lattice.IsBelow kind (abs.Ints c.none.result)) (sym c.in-Ints.is) (no_number g.I.Lattice.IsBelow _ c.none.result c.none.ensures.least)

pub returns-in-Addrs : goal.returns-in-Addrs
returns-in-Addrs g c =
    subst (λ kind. IsNoneOf g.I.Lattice.IsBelow kind (abs.Addrs c.none-in-Addrs.result)) (sym c.in-Addrs.is) (no_address g.I.Lattice.IsBelow _ c.none-in-Addrs.result c.none-in-Addrs.ensures.members)

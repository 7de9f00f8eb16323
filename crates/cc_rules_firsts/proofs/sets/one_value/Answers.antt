use Rattle.std.proofs.Common.{sym, subst}
use Rattle.std.specs.Prelude.{IfOk}
use Rattle.cc_program.specs.declared.value.Value.{Value}
use Rattle.cc_rules_firsts.proofs.sets.one_value.Goals as goal
use Rattle.cc_rules_firsts.specs.Firsts.{MayStand, IsLeastWith}

pub one_number-requires : goal.one_number-requires
one_number-requires g c = subst MayStand c.in-Int.is c.requires

pub returns-in-Int : goal.returns-in-Int
returns-in-Int g c = subst (λ (v : Value). IsLeastWith g.I.Concrete.Has g.I.Lattice.IsBelow v c.one_number.result) (sym c.in-Int.is) c.one_number.ensures

pub returns-in-Place : goal.returns-in-Place
returns-in-Place g c = subst (λ (v : Value). IfOk c.one_address.result (IsLeastWith g.I.Concrete.Has g.I.Lattice.IsBelow v)) (sym c.in-Place.is) c.one_address.ensures

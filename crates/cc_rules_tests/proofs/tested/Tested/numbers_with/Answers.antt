-- The value of an integer expression is a set of integers.
use Rattle.cc_rules_flows.specs.CcStateOperators.Domains.{domain}
use Rattle.cc_rules_tests.proofs.Numbers.{copy_held, no_addresses, number_there}
use Rattle.cc_rules_tests.proofs.tested.Tested.numbers_with.Goals as goal

pub copied-requires : goal.copied-requires
copied-requires g c = g.met.I.IntDomain.all_alike c.args.x.now c.args.x.now

pub value_with-requires : goal.value_with-requires
value_with-requires g c = record {
  sized = c.requires.tested.sized;
  sets = c.requires.tested.known;
  pure = c.requires.number.0;
  changed = c.requires.changed;
  holds = copy_held (domain g.I.Concrete.Has g.I.Lattice.IsBelow g.I.IntDomain.OpGives g.I.IntDomain.OpOneGives g.I.IntDomain.ToGives g.I.IntDomain.KeepGives g.I.IntDomain.members_of) c.args.self.now.context.now c.args.r c.in_ok-set.set c.args.x.now c.in_ok-set.ensures c.requires.holds;
}

pub unreachable-requires : goal.unreachable-requires
unreachable-requires g c = no_addresses (domain g.I.Concrete.Has g.I.Lattice.IsBelow g.I.IntDomain.OpGives g.I.IntDomain.OpOneGives g.I.IntDomain.ToGives g.I.IntDomain.KeepGives g.I.IntDomain.members_of) c.args.self.now.context.now c.args.a.now c.in_ok-value.value c.in-Addrs.field-0 c.in-Addrs.is c.requires.number c.in_ok-value.ensures.typed

pub returns : goal.returns
returns g c = record {
  changed = c.value_with.ensures.changed;
  value = number_there (domain g.I.Concrete.Has g.I.Lattice.IsBelow g.I.IntDomain.OpGives g.I.IntDomain.OpOneGives g.I.IntDomain.ToGives g.I.IntDomain.KeepGives g.I.IntDomain.members_of) c.args.self.now.context.now c.args.r c.in_ok-set.set c.args.x.now c.args.a.now c.in_ok-value.value c.in-Ints.w c.in_ok-set.ensures c.in-Ints.is c.in_ok-value.ensures.value;
}

use Rattle.std.proofs.Common.{take}
use Rattle.cc_rules_tests.specs.Tested.{IsChangedOf}
use Rattle.cc_rules_tests.specs.Trials.{AreGivenAt}
use Rattle.cc_rules_flows.specs.CcStateOperators.Domains.{domain}
use Rattle.cc_rules_tests.proofs.changed.Changed.values_at.Given as goal

abbrev pub invariant-loop-m : goal.invariant-loop-m
invariant-loop-m g l = IsChangedOf l.c l.self × AreGivenAt (domain g.I.Concrete.Has g.I.Lattice.IsBelow g.I.IntDomain.OpGives g.I.IntDomain.OpOneGives g.I.IntDomain.ToGives g.I.IntDomain.KeepGives g.I.IntDomain.members_of) l.c l.e l.r (take l.m-index l.numbers) l.values.items

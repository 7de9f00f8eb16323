use Rattle.std.proofs.Common.{ℤ, take}
use Rattle.std.specs.List.{Contains}
use Rattle.cc_rules_tests.specs.Trials.{HasOne}
use Rattle.cc_rules_flows.specs.CcStateOperators.Domains.{domain}
use Rattle.cc_rules_tests.proofs.members.have_ones.Given as goal

abbrev pub invariant-loop-m : goal.invariant-loop-m
invariant-loop-m g l = (m : ℤ) → Contains (take l.m-index l.numbers) m → HasOne (domain g.I.Concrete.Has g.I.Lattice.IsBelow g.I.IntDomain.OpGives g.I.IntDomain.OpOneGives g.I.IntDomain.ToGives g.I.IntDomain.KeepGives g.I.IntDomain.members_of) m

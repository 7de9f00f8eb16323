use Rattle.std.proofs.Common.{take}
use Rattle.cc_rules_sides.specs.Refined.{IsCellLeft, equal_from}
use Rattle.cc_rules_tests.specs.Trials.{IsTrialOf}
use Rattle.cc_rules_flows.specs.CcStateOperators.Domains.{domain}
use Rattle.cc_rules_sides.proofs.cells.left_cell.Given as goal

abbrev pub invariant-loop-number : goal.invariant-loop-number
invariant-loop-number g l = IsTrialOf (domain g.I.Concrete.Has g.I.Lattice.IsBelow g.I.IntDomain.OpGives g.I.IntDomain.OpOneGives g.I.IntDomain.ToGives g.I.IntDomain.KeepGives g.I.IntDomain.members_of) l.tested.context.now l.tested.expression.now l.trial × IsCellLeft (domain g.I.Concrete.Has g.I.Lattice.IsBelow g.I.IntDomain.OpGives g.I.IntDomain.OpOneGives g.I.IntDomain.ToGives g.I.IntDomain.KeepGives g.I.IntDomain.members_of) l.tested (equal_from l.fact l.cell 0 (take l.number l.tested.context.now.registers.now)) l.set l.left

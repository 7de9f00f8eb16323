use Rattle.std.proofs.Common.{◌≡◌, slice_get, drop}
use Rattle.cc_flow_sound.specs.CcControl.Control.{bodies}
use Rattle.cc_rules_flows.proofs.statements.in_cases.Given as goal

abbrev pub invariant-loop-case : goal.invariant-loop-case
invariant-loop-case l = slice_get (bodies l.cases) l.position ≡ slice_get (bodies (drop l.case-index l.cases)) l.left

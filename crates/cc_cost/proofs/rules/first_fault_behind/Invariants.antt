use Rattle.cc_cost.specs.Sets.{names_of, things_of}
use Rattle.cc_cost.proofs.FaultLemmas.{Came}
use Rattle.cc_cost.proofs.rules.first_fault_behind.Given as goal

abbrev pub invariant-loop-line : goal.invariant-loop-line
invariant-loop-line l = Came l.lines l.line-index l.row (things_of l.met.things) (names_of l.met.names)

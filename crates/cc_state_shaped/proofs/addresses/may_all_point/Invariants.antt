use Rattle.std.proofs.Common.{take}
use Rattle.std.specs.List.{All}
use Rattle.cc_state.specs.Shape.{MayPoint}
use Rattle.cc_state_shaped.proofs.addresses.may_all_point.Given as goal
use Rattle.cc_state_reads.specs.CcTyped.View.{value_view}

abbrev pub invariant-loop-address : goal.invariant-loop-address
invariant-loop-address l = All (MayPoint l.layout.program.now (value_view l.to)) (take l.address-index l.addresses)

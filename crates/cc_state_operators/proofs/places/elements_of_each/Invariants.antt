use Rattle.std.proofs.Common.{take}
use Rattle.cc_places.specs.Sets.{IsSetOf}
use Rattle.cc_eval.specs.CcTyped.View.{place_view}
use Rattle.cc_state_operators.specs.Addresses.{FromEach, IsElement}
use Rattle.cc_state_operators.proofs.places.elements_of_each.Given as goal

abbrev pub invariant-loop-member : goal.invariant-loop-member
invariant-loop-member g l = IsSetOf (FromEach (IsElement l.p (place_view l.t) (g.I.Concrete.Has l.subscripts)) (take l.member-index l.members)) l.all

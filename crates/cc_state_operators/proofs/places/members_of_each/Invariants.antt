use Rattle.std.proofs.Common.{◌≡◌, Some, take}
use Rattle.cc_places.specs.Sets.{IsSetOf}
use Rattle.cc_eval.specs.CcTyped.View.{place_view}
use Rattle.cc_state_operators.specs.Addresses.{FromEach, member_address}
use Rattle.cc_state_operators.proofs.places.members_of_each.Given as goal

abbrev pub invariant-loop-member : goal.invariant-loop-member
invariant-loop-member l = IsSetOf (FromEach (λ a b. member_address l.p (place_view l.t) l.m a ≡ Some b) (take l.member-index l.members)) l.all

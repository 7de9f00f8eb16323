use Rattle.std.proofs.Common.{◌+◌, ◌*◌, max}
use Rattle.cc_state_values.proofs.Heights.{height, place_height}
use Rattle.cc_state_values.proofs.values.+values.Given as goal

abbrev pub decreases-known : goal.decreases-known
decreases-known g l = 4 * height l.e.now

abbrev pub decreases-of_one : goal.decreases-of_one
decreases-of_one g l = 4 * height l.a.now + 1

abbrev pub decreases-of_two : goal.decreases-of_two
decreases-of_two g l = 4 * max (height l.a.now) (height l.b.now) + 2

abbrev pub decreases-choice : goal.decreases-choice
decreases-choice g l = 4 * max (height l.d.now) (max (height l.a.now) (height l.b.now)) + 2

abbrev pub decreases-designated : goal.decreases-designated
decreases-designated g l = 4 * place_height l.a.now

abbrev pub decreases-element : goal.decreases-element
decreases-element g l = 4 * max (place_height l.b.now) (height l.i.now) + 2

abbrev pub decreases-member : goal.decreases-member
decreases-member g l = 4 * place_height l.b.now + 1

abbrev pub decreases-target : goal.decreases-target
decreases-target g l = 4 * height l.e.now + 1

abbrev pub decreases-pointers : goal.decreases-pointers
decreases-pointers g l = 4 * place_height l.a.now + 1

use Rattle.std.proofs.Common.{◌≡◌, ◌≤◌, map, length, drop}
use Rattle.cc_pieces.specs.Declarators.{declarator, further}
use Rattle.cc_pieces.specs.View.{pieces_of}
use Rattle.cc_pieces.proofs.types.+declarators.Given as goal

-- the parameters from here on are printed
abbrev pub invariant-put_parameter_list-loop-left : goal.invariant-put_parameter_list-loop-left
invariant-put_parameter_list-loop-left l = (1 ≤ l.left) × (l.left ≤ length l.params) × (pieces_of l.out.items ≡ further (map (declarator l.structures) (drop l.left l.params)) (pieces_of l.initial.out.items))

abbrev pub decreases-put_parameter_list-loop-left : goal.decreases-put_parameter_list-loop-left
decreases-put_parameter_list-loop-left l = l.left

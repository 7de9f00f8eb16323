use Rattle.std.proofs.Common.{◌≡◌, ◌++◌, ◌-◌}
use Rattle.cc_initialisers.specs.Initialisers.{chars_given}
use Rattle.cc_initialisers.specs.View.{steps_of}
use Rattle.cc_initialisers.proofs.Characters.{chars_from}
use Rattle.cc_operands.specs.CcTyped.View.{value_view}
use Rattle.cc_initialisers.proofs.walk.chars_given.Given as goal

abbrev pub invariant-loop-i : goal.invariant-loop-i
invariant-loop-i l = steps_of l.out ++ chars_from l.place l.constant (value_view l.t) l.bytes (l.n - l.i) l.i ≡ steps_of l.fn.out ++ chars_given l.place l.constant (value_view l.t) l.n l.bytes

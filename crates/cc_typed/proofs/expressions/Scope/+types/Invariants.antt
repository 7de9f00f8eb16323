use Rattle.std.proofs.Common.{◌≡◌, length, take, map, true}
use Rattle.cc_syntax.specs.Programs.{type_of}
use Rattle.cc_syntax.specs.Values.{are_assignable}
use Rattle.cc_typed.proofs.expressions.Scope.+types.Given as goal

abbrev pub invariant-call_type-loop-i : goal.invariant-call_type-loop-i
invariant-call_type-loop-i l =
    (length l.params ≡ length l.arg-items) × (are_assignable (take l.i l.params) (map (type_of l.self.program.now l.self.locals.now) (take l.i l.arg-items)) ≡ true)

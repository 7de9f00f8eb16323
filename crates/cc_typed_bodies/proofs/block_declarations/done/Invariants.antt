use Rattle.std.proofs.Common.{◌≡◌, map}
use Rattle.cc_program.specs.declared.stmt.Stmt.{Do}
use Rattle.cc_typed_bodies.proofs.block_declarations.done.Given as goal

abbrev pub invariant-loop-e : goal.invariant-loop-e
invariant-loop-e l = l.statements.items ≡ map Do l.yielded

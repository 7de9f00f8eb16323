use Rattle.std.proofs.Common.{◌≡◌}
use Rattle.cc_scopes.specs.View.{state_of}
use Rattle.cc_terms.proofs.InTurn.{left}
use Rattle.cc_typed_bodies.specs.Declarations.{init_next, inits_found}
use Rattle.cc_typed_bodies.proofs.declarations.inits.Given as goal

abbrev pub invariant-loop-i : goal.invariant-loop-i
invariant-loop-i l =
    left (init_next l.target l.roles l.defined l.place l.base) (λ i. i) l.all l.i-index l.out.items (state_of l.state)
    ≡ inits_found l.fn.target l.fn.roles l.fn.defined l.fn.place l.fn.base l.fn.all (state_of l.fn.state)

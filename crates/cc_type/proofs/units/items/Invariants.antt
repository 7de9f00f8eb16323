use Rattle.std.proofs.Common.{◌≡◌}
use Rattle.cc_scopes.specs.Verdicts.{checked}
use Rattle.cc_scopes.specs.View.{state_of}
use Rattle.cc_terms.proofs.InTurn.{left}
use Rattle.cc_type.specs.Units.{item_next, items_found}
use Rattle.cc_type.proofs.units.items.Given as goal

abbrev pub invariant-loop-i : goal.invariant-loop-i
invariant-loop-i l = left (item_next l.target l.roles l.defined) (λ i. i) l.i-items l.i-index checked (state_of l.state) ≡ items_found l.fn.target l.fn.roles l.fn.defined l.fn.is (state_of l.fn.state)

use Rattle.std.proofs.Common.{◌≡◌, map}
use Rattle.cc_initialisers.specs.View.{step_view}
use Rattle.cc_objects.specs.Values.{leaf_given, no_leaf}
use Rattle.cc_program.specs.declared.value.Leaf.{Leaf}
use Rattle.cc_scopes.specs.View.{state_of}
use Rattle.cc_terms.proofs.InTurn.{left}
use Rattle.cc_typed_bodies.specs.Plans.{step_done, steps_done}
use Rattle.cc_typed_bodies.proofs.plans.leaves.Given as goal

abbrev pub invariant-loop-step : goal.invariant-loop-step
invariant-loop-step l =
    left (step_done l.target l.roles Leaf (leaf_given l.target) no_leaf) step_view l.steps l.step-index l.leaves.items (state_of l.state)
    ≡ steps_done l.fn.target l.fn.roles Leaf (leaf_given l.fn.target) no_leaf (map step_view l.fn.steps) (state_of l.fn.state)

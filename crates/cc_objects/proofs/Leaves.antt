-- The first value of a scalar that is given an operand, once that is assigned.
use Rattle.std.proofs.Common.{◌≡◌, ◌∙◌, Bool, List, Result, Ok, ap, sym, subst}
use Rattle.cc_initial.specs.Addresses.{leaf_of}
use Rattle.cc_program.specs.CcNum.declared.target.Target.{Target}
use Rattle.cc_objects.specs.Values.{leaf_given, objects_in}
use Rattle.cc_typed_terms.specs.CcOperands.Assignments.{assigned}
use Rattle.cc_typed_terms.specs.CcOperands.Operands.{Operand}
use Rattle.cc_typed_terms.specs.CcOperands.Verdicts.{Judged, Judges, judge_then}
use Rattle.cc_typed_terms.specs.CcOperands.declared.verdict.Breach.{Breach}
use Rattle.cc_program.specs.declared.types.Structure.{Structure}
use Rattle.cc_program.specs.declared.value.Leaf.{Leaf}
use Rattle.cc_typed_terms.specs.CcScopes.State.{State, structures_of}
use Rattle.cc_syntax.specs.Values.{ValueType}

pub leaf-given : (target : Target) (constant : Bool) (t : ValueType) (x y : Operand) (s : State) (structures : List Structure) (r : Result Leaf Breach) →
    assigned target t x ≡ Ok y → structures ≡ structures_of s → Judges (λ (l : Leaf). l) r (leaf_of structures (objects_in s) y) → Judges (λ (l : Leaf). l) r (leaf_given target constant t x s)
leaf-given target constant t x y s structures r a e h =
    let path : leaf_given target constant t x s ≡ leaf_of structures (objects_in s) y =
    ap (λ (j : Judged Operand). judge_then j (λ y. leaf_of (structures_of s) (objects_in s) y)) a
    ∙ ap (λ (ss : List Structure). leaf_of ss (objects_in s) y) (sym e) in
    subst (λ (j : Judged Leaf). Judges (λ (l : Leaf). l) r j) (sym path) h

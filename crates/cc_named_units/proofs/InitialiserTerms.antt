-- What is done for an initialiser adds no more than it counts.
use Rattle.std.proofs.Common.{◌≡◌, ◌≤◌, ℕ, Bool, true, List, [], ◌∷◌, ◌++◌, Option, Some, None, Ok}
use Rattle.std.specs.Prelude.{option_to_list}
use Rattle.cc_named_units.specs.Counts.{tree_count}
use Rattle.cc_type.specs.CcInitialisers.Initialisers.{Step, Give, Character, Zero, Visit, Break}
use Rattle.cc_named_units.proofs.Adding.{adds_more, adds_through, behind, before, done, judged}
use Rattle.cc_named_units.proofs.Cycle.{tree_adds}
use Rattle.cc_named_units.proofs.TermSteps.{value_adds}
use Rattle.cc_named_units.specs.Named.{Limits, Adds}
use Rattle.cc_named_units.specs.Names.{tree_named}
use Rattle.cc_program.specs.CcNum.declared.int_type.IntType.TheVariants as int
use Rattle.cc_program.specs.CcNum.declared.target.Target.{Target}
use Rattle.cc_type.specs.CcOperands.Operands.{Operand, integer, character_value}
use Rattle.cc_type.specs.CcOperands.Verdicts.{Judged}
use Rattle.cc_type.specs.CcTypedTerms.Values.{value_found}
use Rattle.cc_program.specs.declared.program.Roles.{Roles}
use Rattle.cc_type.specs.CcScopes.State.{State}
use Rattle.cc_type.specs.CcScopes.Verdicts.{whole}
use Rattle.cc_sound_terms.proofs.Founds.{answer, then_found}
use Rattle.cc_type.specs.CcSyntax.Values.{ValueType}
use Rattle.cc_type.specs.CcTerms.InTurn.{in_turn}
use Rattle.cc_type.specs.CcTerms.Terms.{here}
use Rattle.cc_tree.specs.declared.at.At.{At}
use Rattle.cc_tree.specs.declared.tree.Tree.{Tree}
use Rattle.cc_type.specs.CcTypedBodies.Plans.{as_given, step_found, step_done, steps_done}
use Rattle.cc_named_units.proofs.DeclarationSteps.{IsNamedTree, IsNamedStep, AreNamedSteps}

module _ (target : Target) (roles : Roles) (most : Limits) where
  pub value_added : (e : At Tree) → tree_named e.node ≡ true → tree_count e.node ≤ most.few → (s : State) (r : Operand × State) → value_found (here target roles e) s ≡ Ok r → Adds most (tree_count e.node) s r.1
  value_added e q l s r h = value_adds most (tree_count e.node) (here target roles e) (tree_adds target roles most e.node q l) s r h

  tree_added : (c : ℕ) (e : At Tree) → IsNamedTree most.few c e.node → (s : State) (r : Operand × State) → value_found (here target roles e) s ≡ Ok r → Adds most c s r.1
  tree_added c e k s r h = adds_more most (tree_count e.node) c s r.1 k.2 (value_added e k.0 k.1 s r h)

  module _ (X : Type 0) (given : Bool → ValueType → Operand → State → Judged X) (zero_of : Bool → ValueType → Judged X) where
    given_added : (c at : ℕ) (s : State) (j : Judged X) (r : Option X × State) → as_given (whole at s j) ≡ Ok r → Adds most c s r.1
    given_added c at s j r h = behind most c (whole at s j) (λ x s. answer (Some x) s) s r (λ x f. judged most 0 at s j x f) (λ x f. done most c (Some x.0) x.1 r f) h

    step_adds : (c : ℕ) (step : Step) → IsNamedStep most.few c step → (s : State) (r : Option X × State) → step_found target roles X given zero_of step s ≡ Ok r → Adds most c s r.1
    step_adds c (Give constant t e) k s r h =
        before most c (value_found (here target roles e) s) (λ x s. as_given (whole e.at s (given constant t x s))) s r (λ x f. tree_added c e k s x f) (λ x f. given_added 0 e.at x.1 (given constant t x.0 x.1) r f) h
    step_adds c (Character at constant t byte) k s r h = given_added c at s (given constant t (integer (character_value target byte) int.Int) s) r h
    step_adds c (Zero at constant t) k s r h = given_added c at s (zero_of constant t) r h
    step_adds c (Visit e) k s r h = before most c (value_found (here target roles e) s) (λ x s. Ok (None, s)) s r (λ x f. tree_added c e k s x f) (λ x f. done most 0 None x.1 r f) h
    step_adds c (Break at broken) k s r h = absurd (cc)

    behind_adds : (steps : List Step) (c : ℕ) → AreNamedSteps most.few c steps → (front : List X) (s : State) (r : List X × State) → in_turn (step_done target roles X given zero_of) steps front s ≡ Ok r → Adds most c s r.1
    behind_adds [] c k front s r h = done most c front s r h
    behind_adds (step ∷ steps) c k front s r h =
        let a = then_found (step_done target roles X given zero_of step front s) (in_turn (step_done target roles X given zero_of) steps) r h in
        let one = before most k.0 (step_found target roles X given zero_of step s) (λ x s. answer (front ++ option_to_list x) s) s a.0 (λ x f. step_adds k.0 step k.3 s x f) (λ x f. done most 0 (front ++ option_to_list x.0) x.1 a.0 f) a.1 in
        adds_through most k.0 k.1 c s a.0.1 r.1 k.2 one (behind_adds steps k.1 k.4 a.0.0 a.0.1 r a.2)

    pub steps_add : (steps : List Step) (c : ℕ) → AreNamedSteps most.few c steps → (s : State) (r : List X × State) → steps_done target roles X given zero_of steps s ≡ Ok r → Adds most c s r.1
    steps_add steps c k s r h = behind_adds steps c k [] s r h

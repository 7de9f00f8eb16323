-- What is done for an initialiser adds strings and devices alone to what is known.
use Rattle.std.proofs.Common.{◌≡◌, ℕ, Bool, true, List, [], ◌∷◌, ◌++◌, Option, Some, None, Ok, sym, ◌∙◌, subst}
use Rattle.std.specs.Prelude.{option_to_list}
use Rattle.cc_typed_bodies.specs.CcInitialisers.Initialisers.{Step, Give, Character, Zero, Visit, Break}
use Rattle.cc_program.specs.CcNum.declared.int_type.IntType.TheVariants as int
use Rattle.cc_typed_bodies.specs.CcOperands.Operands.{Operand, integer, character_value}
use Rattle.cc_typed_bodies.specs.CcOperands.Verdicts.{Judged}
use Rattle.cc_typed_bodies.specs.CcOperands.declared.rule.Rule.{Rule}
use Rattle.cc_typed_bodies.specs.CcSyntax.Views.{View}
use Rattle.cc_typed_bodies.specs.CcTypedTerms.Values.{value_found}
use Rattle.cc_program.proofs.Each.{Each}
use Rattle.cc_program.specs.declared.program.Roles.{Roles}
use Rattle.cc_typed_bodies.specs.CcScopes.State.{State}
use Rattle.cc_typed_bodies.specs.CcScopes.Verdicts.{Found, whole}
use Rattle.cc_sound_terms.specs.Behind.{Extends}
use Rattle.cc_sound_terms.specs.Growing.{IsConstant}
use Rattle.cc_sound_terms.specs.Ranges.{fits}
use Rattle.cc_sound_terms.proofs.Behind.{adds_itself, adds_through}
use Rattle.cc_sound_terms.proofs.Cycle.{tree_holds}
use Rattle.cc_sound_terms.proofs.Founds.{answer_is, then_found, whole_found}
use Rattle.cc_sound_terms.proofs.Trees.{value_holds}
use Rattle.cc_typed_bodies.specs.CcSyntax.Values.{ValueType}
use Rattle.cc_typed_bodies.specs.CcTerms.InTurn.{in_turn}
use Rattle.cc_typed_bodies.specs.CcTerms.Terms.{here}
use Rattle.cc_tree.specs.declared.at.At.{At}
use Rattle.cc_tree.specs.declared.tree.Tree.{Tree}
use Rattle.cc_typed_bodies.specs.Plans.{as_given, step_found, step_done, steps_done}

-- a step's expression has numbers that fit 64 bits
abbrev pub StepFits : Step → Type 0
StepFits (Give constant t e) = fits e.node ≡ true
StepFits (Visit e) = fits e.node ≡ true
StepFits (Character at constant t byte) = Unit {0}
StepFits (Zero at constant t) = Unit {0}
StepFits (Break at broken) = Unit {0}

module _ (v : View) (roles : Roles) where
  value_extends : (e : At Tree) → fits e.node ≡ true → (s : State) (r : Operand × State) → value_found (here v.target roles e) s ≡ Ok r → Extends v s r.1
  value_extends e f s r h = (value_holds v [] (here v.target roles e) (tree_holds v [] roles e.node f) s r h).grows

  given_state : {X : Type 0} (found : Found X) (s : State) (r : Option X × State) → ((x : X × State) → found ≡ Ok x → x.1 ≡ s) → as_given found ≡ Ok r → r.1 ≡ s
  given_state found s r f h =
      let a = then_found found (λ x s. Ok (Some x, s)) r h in
      (answer_is (Some a.0.0) a.0.1 r a.2).1 ∙ f a.0 a.1

  module _ (X : Type 0) (given : Bool → ValueType → Operand → State → Judged X) (zero_of : Bool → ValueType → Judged X) where
    step_extends : (step : Step) → StepFits step → (s : State) (r : Option X × State) → step_found v.target roles X given zero_of step s ≡ Ok r → Extends v s r.1
    step_extends (Give constant t e) f s r h =
        let a = then_found (value_found (here v.target roles e) s) (λ x s. as_given (whole e.at s (given constant t x s))) r h in
        let b = given_state (whole e.at a.0.1 (given constant t a.0.0 a.0.1)) a.0.1 r (λ x g. (whole_found e.at a.0.1 (given constant t a.0.0 a.0.1) x g).1) a.2 in
        subst (λ (t : State). Extends v s t) (sym b) (value_extends e f s a.0 a.1)
    step_extends (Character at constant t byte) f s r h =
        let b = given_state (whole at s (given constant t (integer (character_value v.target byte) int.Int) s)) s r (λ x g. (whole_found at s (given constant t (integer (character_value v.target byte) int.Int) s) x g).1) h in
        subst (λ (t : State). Extends v s t) (sym b) (adds_itself v (IsConstant v.target) s)
    step_extends (Zero at constant t) f s r h =
        let b = given_state (whole at s (zero_of constant t)) s r (λ x g. (whole_found at s (zero_of constant t) x g).1) h in
        subst (λ (t : State). Extends v s t) (sym b) (adds_itself v (IsConstant v.target) s)
    step_extends (Visit e) f s r h =
        let a = then_found (value_found (here v.target roles e) s) (λ x s. Ok (None, s)) r h in
        subst (λ (t : State). Extends v s t) (sym (answer_is None a.0.1 r a.2).1) (value_extends e f s a.0 a.1)
    step_extends (Break at broken) f s r h = absurd (cc)

    steps_extend_behind : (steps : List Step) → Each StepFits steps → (before : List X) (s : State) (r : List X × State) → in_turn (step_done v.target roles X given zero_of) steps before s ≡ Ok r → Extends v s r.1
    steps_extend_behind [] f before s r h = subst (λ (t : State). Extends v s t) (sym (answer_is before s r h).1) (adds_itself v (IsConstant v.target) s)
    steps_extend_behind (step ∷ steps) f before s r h =
        let a = then_found (step_done v.target roles X given zero_of step before s) (in_turn (step_done v.target roles X given zero_of) steps) r h in
        let b = then_found (step_found v.target roles X given zero_of step s) (λ x s. Ok (before ++ option_to_list x, s)) a.0 a.1 in
        let c = answer_is (before ++ option_to_list b.0.0) b.0.1 a.0 b.2 in
        adds_through v (IsConstant v.target) s a.0.1 r.1 (subst (λ (t : State). Extends v s t) (sym c.1) (step_extends step f.0 s b.0 b.1)) (steps_extend_behind steps f.1 a.0.0 a.0.1 r a.2)

    pub steps_extend : (steps : List Step) → Each StepFits steps → (s : State) (r : List X × State) → steps_done v.target roles X given zero_of steps s ≡ Ok r → Extends v s r.1
    steps_extend steps f s r h = steps_extend_behind steps f [] s r h

    -- a rule that is broken at the end lets nothing be found
    pub broken_last : (steps : List Step) (at : ℕ) (broken : Rule) (before : List X) (s : State) (r : List X × State) → in_turn (step_done v.target roles X given zero_of) (steps ++ Break at broken ∷ []) before s ≡ Ok r → ⊥
    broken_last [] at broken before s r h = absurd (cc)
    broken_last (step ∷ steps) at broken before s r h =
        let a = then_found (step_done v.target roles X given zero_of step before s) (in_turn (step_done v.target roles X given zero_of) (steps ++ Break at broken ∷ [])) r h in
        broken_last steps at broken a.0.0 a.0.1 r a.2

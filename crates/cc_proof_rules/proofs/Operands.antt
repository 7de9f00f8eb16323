-- Operands of the statement at a point ask for reads of registers and branch steps alone, and give values of each of their abstract values.
use Rattle.std.proofs.Common.{◌≡◌, ◌<◌, ◌^◌, ℕ, true, List, [], ◌∷◌, Option, Some, None, refl, ap, sym, ◌∙◌, subst, slice_get}
use Rattle.std.proofs.lemmas.Option.{same_Some}
use Rattle.cc_state_values_sound.specs.CcControl.declared.phase.Phase.{Phase}
use Rattle.cc_state_values_sound.proofs.CcEval.Links.{pure_linked}
use Rattle.cc_state_values_sound.specs.CcEval.Context.{Context}
use Rattle.cc_state_values_sound.specs.CcEval.declared.mark.Mark.{Mark}
use Rattle.cc_state_values_sound.specs.CcEval.Eval.{meaning}
use Rattle.cc_state_values_sound.specs.CcEval.Marks.{AnswerSteps, Works}
use Rattle.cc_state_values_sound.specs.CcEval.Progress.{Get, Known}
use Rattle.cc_rules.specs.CcFlow.declared.types.Point.{Point}
use Rattle.cc_rules.specs.CcFlow.Points.{count_of, flow_of}
use Rattle.cc_rules.proofs.CcFlowSound.Numbered.{at_point}
use Rattle.cc_rules.proofs.CcFlowSound.Places.{end_at}
use Rattle.cc_rules.proofs.CcFlowSound.Reached.{active_statement}
use Rattle.cc_rules.specs.CcFlowSound.Sites.{base_of}
use Rattle.cc_rules.specs.CcFlowSound.Statements.{statement_at}
use Rattle.cc_state_values_sound.specs.CcPlaces.declared.abs.Abs.{Abs}
use Rattle.cc_program.specs.declared.expr.Expr.{Expr}
use Rattle.cc_program.specs.declared.func.Func.{Func}
use Rattle.cc_program.specs.declared.program.Program.{Program}
use Rattle.cc_program.specs.declared.stmt.Stmt.{Stmt, out-Stmt}
use Rattle.cc_program.specs.declared.value.Value.{Value}
use Rattle.cc_proof_covers.proofs.Pure.{pure_quiet}
use Rattle.cc_proof_covers.specs.Invariant.{IsCurrent}
use Rattle.cc_proof_covers.specs.Operands.{IsOperandStep}
use Rattle.cc_proof_covers.specs.Rules.{IsHere}
use Rattle.cc_proof_covers.specs.Views.{View}
use Rattle.cc_proof_forms.specs.Sets.{Good}
use Rattle.cc_proof_rules.proofs.Functions.{exit_empty}
use Rattle.cc_proof_rules.proofs.Marks.{IsQuiet, opened, typed_answers}
use Rattle.cc_proof_rules.specs.Operands.{Holds}
use Rattle.cc_rules.specs.CcRulesFlows.Nexts.{IsPoint}
use Rattle.cc_state.specs.View.{IsFunctionAt, view}
use Rattle.cc_rules.specs.CcStateFacts.declared.facts.Facts.{Facts}
use Rattle.cc_state_values_sound.specs.CcStateOperators.Domains.{Domain}
use Rattle.cc_rules.specs.CcStateReads.Reads.{registers_at}
use Rattle.cc_state_values_sound.specs.CcStateValues.Values.{IsVal}
use Rattle.cc_state_values_sound.proofs.Choices.{GivesAll}
use Rattle.cc_state_values_sound.proofs.InStates.{value_in_states}
use Rattle.cc_state_values_sound.proofs.CcStates.AddressLemmas.{expression_takes}
use Rattle.cc_state_values_sound.specs.CcStates.Answers.{TakesAddressesOf}
use Rattle.cc_state_values_sound.specs.CcStates.Inside.{AreInside}
use Rattle.cc_state_values_sound.specs.CcStates.States.{worked_at, context_in}
use Rattle.cc_state_values_sound.specs.CcSteps.State.{Active, Memory}
use Rattle.cc_state_values_sound.specs.CcSteps.Step.{worked}
use Rattle.cc_state_values_sound.specs.CcSyntax.Effects.{Registers, no_one, effects_of}
use Rattle.cc_state_values_sound.specs.CcSyntax.Normal.{IsNormal}

module _ {I : Type 0} (d : Domain I) (all : GivesAll d) (p : Program) (normal : IsNormal p) (few : count_of p < 2 ^ 32) (facts : Facts I) (n : ℕ) (q : Point) (f : Func) (numbered : slice_get (flow_of p).points n ≡ Some q)
    (function : slice_get p.funcs q.func ≡ Some f) where
  abbrev v : View
  v = view d p facts

  abbrev pub its_point : IsFunctionAt d p facts n f
  its_point = (q, numbered, function)

  module _ (m : Memory) (a : Active) (own : a.func ≡ q.func) (here : IsHere p v m a f n) where
    abbrev c : Context
    c = context_in p a f

    -- ---- its statement

    module _ (s : Stmt) (stands : statement_at f.body q.path ≡ Some s) where
      statement_by : (list : List Stmt) → a.here.rest ≡ list → (rest : List Stmt) × (a.here.rest ≡ s ∷ rest)
      statement_by [] e =
          let exit = end_at p.target f (base_of p a.func f) f.body a.here a.around n here.there e in
          exit_empty p a.func f here.function q s (ap (slice_get (flow_of p).points) (sym exit) ∙ numbered) stands
      statement_by (x ∷ rest) e =
          let w = at_point p a.func f here.function few (a.here, a.around) n here.there in
          let same : w.point ≡ q = same_Some w.point q (sym w.numbered ∙ numbered) in
          let is : Some s ≡ Some x = sym stands ∙ ap (statement_at f.body) (ap (λ (r : Point). r.path) (sym same) ∙ w.path) ∙ active_statement p normal few here.openings a here.active f here.function x rest e in
          (rest, e ∙ ap (λ (z : Stmt). z ∷ rest) (sym (same_Some s x is)))

      pub statement_is : (rest : List Stmt) × (a.here.rest ≡ s ∷ rest)
      statement_is = statement_by a.here.rest refl

      -- the locals whose addresses its full expression takes are taken in the function
      pub taken_in : (e : Expr) → ((phase : Phase) → worked (out-Stmt s) phase ≡ Some e) → TakesAddressesOf f e
      taken_in e works =
          let inside : AreInside f.body (a.here ∷ a.around) = subst (λ (g : Func). AreInside g.body (a.here ∷ a.around)) (same_Some here.active.func f (sym here.active.function ∙ here.function)) here.active.inside in
          expression_takes f a e inside (ap (worked_at a.here) statement_is.1 ∙ works a.here.phase)

    -- ---- a point is one of the activation's function

    pub own_point : (id : ℕ) (g : Func) (point : Point) → IsPoint p n id g point → (id ≡ a.func) × (g ≡ f)
    own_point id g point is =
        let same : point ≡ q = same_Some point q (sym is.numbered ∙ numbered) in
        let id_is : id ≡ q.func = sym is.own ∙ ap (λ (r : Point). r.func) same in
        (id_is ∙ sym own, same_Some g f (sym is.function ∙ ap (slice_get p.funcs) id_is ∙ function))

    pub own_value : (id : ℕ) (g : Func) (point : Point) → IsPoint p n id g point → (e : Expr) (y : Abs I) → IsVal d p id g (registers_at facts g n) e y → IsVal d p a.func f (registers_at facts f n) e y
    own_value id g point is e y h =
        let w = own_point id g point is in
        subst (λ (k : Func). IsVal d p a.func k (registers_at facts k n) e y) w.1 (subst (λ (i : ℕ). IsVal d p i g (registers_at facts g n) e y) w.0 h)

    pub operand_quiet : (e : Expr) → (effects_of f e).pure no_one ≡ true → (later : Registers) → IsQuiet d all p facts n f its_point m a here (Option Value) ((meaning c e).next later)
    operand_quiet e pure later = pure_quiet c (IsCurrent p v m a f n) e no_one (pure_linked c e no_one ∙ pure) later

    module _ (e : Expr) (pure : (effects_of f e).pure no_one ≡ true) (taken : TakesAddressesOf f e) (later : Registers) where
      abbrev its_next : Get (Option Value)
      its_next = (meaning c e).next later

      holds_by : (ms rest : List Mark) (w : Option Value) → AnswerSteps (IsCurrent p v m a f n) its_next ms → its_next ms ≡ Known w rest → Good (Holds d p facts n e) w
      holds_by ms rest None answers k = tt
      holds_by ms rest (Some w) answers k = λ id g point is y h.
          ((value_in_states d all c here.openings (opened d all p facts n f its_point m a here) (registers_at facts f n) e taken y (own_value id g point is e y h) later).known ms rest (Some w)
          (typed_answers d all p facts n f its_point m a here its_next (operand_quiet e pure later) ms answers) k).1

      pub operand_works : Works (IsCurrent p v m a f n) (IsOperandStep c) (Good (Holds d p facts n e)) its_next
      operand_works = record {
        known = λ ms rest w answers k. (((operand_quiet e pure later).known ms rest w answers k).0, holds_by ms rest w answers k);
        waits = (operand_quiet e pure later).waits;
      }

  -- in all activations there
  pub operand_at : (e : Expr) → (effects_of f e).pure no_one ≡ true → ((m : Memory) (a : Active) → a.func ≡ q.func → IsHere p v m a f n → TakesAddressesOf f e) → (m : Memory) (a : Active) → a.func ≡ q.func → IsHere p v m a f n → (later : Registers) →
      Works (IsCurrent p v m a f n) (IsOperandStep (context_in p a f)) (Good (Holds d p facts n e)) ((meaning (context_in p a f) e).next later)
  operand_at e pure taken m a own here later = operand_works m a own here e pure (taken m a own here) later

-- At a point the marks of operands have the types of their steps, and registers give values of their sets.
use Rattle.std.proofs.Common.{◌≡◌, inl, inr, ℕ, Bool, true, not, List, [], ◌∷◌, ◌++◌, Option, Some, None, refl, ap, sym, ◌∙◌, subst, slice_get, append_assoc}
use Rattle.std.specs.Prelude.{is_some, option_map, option_and_then}
use Rattle.std.proofs.lemmas.Option.{same_Some}
use Rattle.cc_state_values_sound.specs.CcCells.Cells.{scalar_in}
use Rattle.cc_state_values_sound.specs.CcEval.Context.{Context, local_type}
use Rattle.cc_state_values_sound.specs.CcEval.declared.action.Action.TheVariants.{Read, Choose}
use Rattle.cc_state_values_sound.specs.CcEval.declared.action.Action.{Action}
use Rattle.cc_state_values_sound.specs.CcEval.declared.action.Manner.{Manner}
use Rattle.cc_state_values_sound.specs.CcEval.declared.mark.Mark.TheVariants.{Gave, Chose}
use Rattle.cc_state_values_sound.specs.CcEval.declared.mark.Mark.{Mark}
use Rattle.cc_state_values_sound.specs.CcEval.Marks.{AnswerSteps, Works}
use Rattle.cc_state_values_sound.specs.CcEval.Progress.{Get}
use Rattle.cc_state_values_sound.specs.CcPlaces.Abstract.{HasValue}
use Rattle.cc_state_values_sound.specs.CcPlaces.declared.abs.Abs.{Abs}
use Rattle.cc_program.specs.declared.func.Func.{Func}
use Rattle.cc_program.specs.declared.program.Program.{Program}
use Rattle.cc_program.specs.declared.value.Cell.TheVariants as cell
use Rattle.cc_program.specs.declared.value.Cell.{Cell}
use Rattle.cc_program.specs.declared.value.Root.TheVariants as root
use Rattle.cc_program.specs.declared.value.Value.{Value}
use Rattle.cc_proof_covers.specs.Invariant.{IsCurrentAt, IsCurrent}
use Rattle.cc_proof_covers.specs.Operands.{IsOperandStep}
use Rattle.cc_proof_covers.specs.Rules.{IsHere}
use Rattle.cc_proof_rules.proofs.Arrivals.{one_function}
use Rattle.cc_state.specs.View.{IsFunctionAt, view}
use Rattle.cc_rules.specs.CcStateFacts.declared.facts.Facts.{Facts}
use Rattle.cc_rules.specs.CcStateFacts.declared.facts.PointFact.{PointFact}
use Rattle.cc_rules.specs.CcStateFacts.Facts.{local_at, local_of}
use Rattle.cc_rules.specs.CcStateKeys.Tracked.{register_number}
use Rattle.cc_state_values_sound.specs.CcStateOperators.Domains.{Domain}
use Rattle.cc_rules.specs.CcStateReads.Reads.{registers_at}
use Rattle.cc_state_values_sound.proofs.Choices.{GivesAll}
use Rattle.cc_state_values_sound.specs.Steps.{own_cell}
use Rattle.cc_state_values_sound.specs.Typed.{IsTypedAnswer}
use Rattle.cc_state_values_sound.proofs.CcStates.StateLemmas.{local_in}
use Rattle.cc_state_values_sound.specs.CcStates.Answers.{IsActivation}
use Rattle.cc_state_values_sound.specs.CcStates.States.{context_in}
use Rattle.cc_state_values_sound.specs.CcStates.Typed.{MayHave, HasType, cell_type}
use Rattle.cc_state_values_sound.specs.CcSteps.State.{Active, Memory}
use Rattle.cc_state_values_sound.proofs.CcSyntax.Prefixes.{both_true}
use Rattle.cc_state_values_sound.specs.CcSyntax.Expressions.{of_one}
use Rattle.cc_state_values_sound.specs.CcSyntax.Initial.{place_at}
use Rattle.cc_state_values_sound.specs.CcSyntax.Registers.{is_addressed, may_be_register, is_register}
use Rattle.cc_state_values_sound.specs.CcSyntax.Types.{Named}
use Rattle.cc_state_values_sound.specs.CcSyntax.Values.{ValueType, object_place, read_from, scalar_value}

-- ---- a register is a scalar

abbrev IsScalarLocal : Func → ℕ → Type 0
IsScalarLocal f r = (l : Named) × (t : ValueType) × (slice_get f.locals r ≡ Some l) × (scalar_value l.1 ≡ Some t)

some_type : (f : Func) (r : ℕ) (l : Named) (o : Option ValueType) → slice_get f.locals r ≡ Some l → scalar_value l.1 ≡ o → is_some o ≡ true → IsScalarLocal f r
some_type f r l None e h k = absurd (cc)
some_type f r l (Some t) e h k = (l, t, e, h)

scalar_by : (f : Func) (r : ℕ) (o : Option Named) → slice_get f.locals r ≡ o → may_be_register o ≡ true → IsScalarLocal f r
scalar_by f r None e h = absurd (cc)
scalar_by f r (Some l) e h = some_type f r l (scalar_value l.1) e refl (both_true (is_some (scalar_value l.1)) (not l.1.volatile) h).0

pub register_scalar : (f : Func) (r : ℕ) → is_register f r ≡ true → IsScalarLocal f r
unfolding is_register
register_scalar f r h = scalar_by f r (slice_get f.locals r) refl (both_true (may_be_register (slice_get f.locals r)) (not (is_addressed f r)) h).0

-- a read is no branch step
read_no_choice : (at : Cell) (how : Manner) (b : Option Bool) → Read at how ≡ Choose b → ⊥
read_no_choice at how b e = cc

choice_no_read : (b : Option Bool) (at : Cell) (how : Manner) → Choose b ≡ Read at how → ⊥
choice_no_read b at how e = cc

one_choice : (b c : Option Bool) → Choose b ≡ Choose c → b ≡ c
one_choice b c e = cc

one_local : (n g r q : ℕ) (how other : Manner) → Read (cell.At (root.Auto n g r) []) how ≡ Read (cell.At (root.Auto n g q) []) other → r ≡ q
one_local n g r q how other e = cc

module _ {I : Type 0} (d : Domain I) (all : GivesAll d) (p : Program) (facts : Facts I) (n : ℕ) (f : Func) (at : IsFunctionAt d p facts n f) (m : Memory) (a : Active) (here : IsHere p (view d p facts) m a f n) where
  abbrev c : Context
  c = context_in p a f

  abbrev register : ℕ → Option (Abs I)
  register = registers_at facts f n

  abbrev IsNow : Action → Mark → Type 0
  IsNow = IsCurrent p (view d p facts) m a f n

  abbrev IsIt : Action → Mark → Type 0
  IsIt = IsTypedAnswer d.has c here.openings register

  pub opened : IsActivation c here.openings
  opened = record { function = here.function; number = here.active.number }

  -- what a register holds is in its set
  pub in_set : (r : ℕ) (x : Value) → is_register f r ≡ true → scalar_in a.locals r 0 ≡ Some (Some x) → (y : Abs I) → register r ≡ Some y → HasValue d.has y x
  in_set r x reg e y is =
      let l = here.registers r x reg e in
      let number : register_number f r ≡ Some l.2 = ap (λ (g : Func). register_number g r) (one_function d all p facts n f l.1 at l.4) ∙ l.5 in
      let set : register r ≡ Some l.6.0 = ap (option_and_then (local_at facts n)) number ∙ ap (option_and_then (λ (fact : PointFact I). local_of fact l.2)) l.3 ∙ l.6.1 in
      subst (λ (z : Abs I). HasValue d.has z x) (same_Some l.6.0 y (sym set ∙ is)) l.6.2

  own_type : (r : ℕ) → is_register f r ≡ true → (t : ValueType) × (cell_type p (own_cell c r) ≡ Some t)
  own_type r reg =
      let l = register_scalar f r reg in (
        l.1,
        ap (λ (y : Option Func). of_one (of_one (local_type r y) (place_at p.structures [])) read_from) here.function
            ∙ ap (λ (y : Option Named). of_one (of_one (option_map (λ (l : Named). object_place l.1) y) (place_at p.structures [])) read_from) l.2 ∙ l.3,
      )

  held_type : (r : ℕ) (x : Value) (t : ValueType) → scalar_in a.locals r 0 ≡ Some (Some x) → cell_type p (own_cell c r) ≡ Some t → HasType p here.openings t x
  held_type r x t e k =
      let w = local_in p here.openings a here.active a.number r [] t (slice_get here.active.func.locals r) refl k in
      subst (MayHave p here.openings t) (same_Some w.0 (Some x) (sym w.1 ∙ e)) w.2

  -- ---- marks

  given_typed : (r : ℕ) (how : Manner) → is_register f r ≡ true → (o : Option Value) → ((x : Value) → o ≡ Some x → IsCurrentAt p (view d p facts) m a f n (own_cell c r) x) → (o ≡ None → how.may_be_bad ≡ true) →
      IsIt (Read (own_cell c r) how) (Gave o)
  given_typed r how reg None good bad = record {
    typed = bad refl;
    in_sets = record { reads = λ q other x e l. tt; branches = λ b e. absurd (read_no_choice (own_cell c r) how b e) };
  }
  given_typed r how reg (Some x) good bad =
      let holds : scalar_in a.locals r 0 ≡ Some (Some x) = (good x refl).0 refl reg in
      let t = own_type r reg in
      record {
        typed = (t.0, t.1, held_type r x t.0 holds t.1);
        in_sets = record {
          reads = λ q other y e l. in_set r x reg holds y (ap register (one_local a.number a.func r q how other e) ∙ l);
          branches = λ b e. absurd (read_no_choice (own_cell c r) how b e);
        };
      }

  read_typed : (r : ℕ) (how : Manner) → is_register f r ≡ true → (mark : Mark) → IsNow (Read (own_cell c r) how) mark → IsIt (Read (own_cell c r) how) mark
  read_typed r how reg mark h = subst (IsIt (Read (own_cell c r) how)) (sym h.1) (given_typed r how reg h.0 h.2 h.3)

  chosen_typed : (b : Option Bool) (mark : Mark) → mark ≡ Chose b → IsIt (Choose b) mark
  chosen_typed b mark h = subst (IsIt (Choose b)) (sym h) (record {
    typed = refl;
    in_sets = record { reads = λ r how x e l. absurd (choice_no_read b (own_cell c r) how e); branches = λ o e. ap Chose (one_choice b o e) };
  })

  pub mark_typed : (action : Action) (mark : Mark) → IsOperandStep c action → IsNow action mark → IsIt action mark
  mark_typed action mark (inl s) h = subst (λ (z : Action). IsIt z mark) (sym s.3) (read_typed s.0 s.1 s.2 mark (subst (λ (z : Action). IsNow z mark) s.3 h))
  mark_typed action mark (inr s) h = subst (λ (z : Action). IsIt z mark) (sym s.1) (chosen_typed s.0 mark (subst (λ (z : Action). IsNow z mark) s.1 h))

  -- ---- what asks for steps of operands alone

  abbrev pub IsQuiet : (A : Type 0) → Get A → Type 0
  IsQuiet A g = Works IsNow (IsOperandStep c) (λ (v : A). Unit {0}) g

  front_answers : {A : Type 0} (g : Get A) (ms front back : List Mark) (mark : Mark) → AnswerSteps IsNow g ms → ms ≡ front ++ mark ∷ back → AnswerSteps IsNow g front
  front_answers g ms front back mark answers split f b k action e w =
      answers f (b ++ mark ∷ back) k action (split ∙ ap (λ (l : List Mark). l ++ mark ∷ back) e ∙ append_assoc f (k ∷ b) (mark ∷ back)) w

  pub typed_answers : {A : Type 0} (g : Get A) → IsQuiet A g → (ms : List Mark) → AnswerSteps IsNow g ms → AnswerSteps IsIt g ms
  typed_answers g quiet ms answers front back mark action split w =
      mark_typed action mark (quiet.waits front action (front_answers g ms front back mark answers split) w) (answers front back mark action split w)

  -- what all that is worked with such marks gives
  pub in_all : {A : Type 0} (S : Action → Type 0) (K : Type 0) (P : K → A → Type 0) (g : Get A) → IsQuiet A g → ((k : K) → Works IsIt S (P k) g) → Works IsNow (IsOperandStep c) (λ (v : A). (k : K) → P k v) g
  in_all S K P g quiet works = record {
    known = λ ms rest v answers e. ((quiet.known ms rest v answers e).0, λ k. ((works k).known ms rest v (typed_answers g quiet ms answers) e).1);
    waits = quiet.waits;
  }

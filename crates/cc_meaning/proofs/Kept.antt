-- The states of a machine are states of its program: the first one, and what each turn, or want of memory, leaves.
use Rattle.std.proofs.Common.{◌≡◌, ◌∙◌, ℕ, ℤ, List, Option, Result, Ok, Err, OnOk, OnErr, ap, sym, subst}
use Rattle.std.proofs.Math.Logic.{∥∥₁_map}
use Rattle.cc_program.specs.declared.program.Program.{Program}
use Rattle.cc_states.specs.CcSyntax.Sound.{IsSound}
use Rattle.cc_states.proofs.CcSyntax.NameRules.{sound-typed}
use Rattle.cc_states.proofs.StartLemmas.{start_state}
use Rattle.cc_states.proofs.TurnLemmas.{turn_state}
use Rattle.cc_states.specs.States.{IsState}
use Rattle.cc_states.specs.CcSteps.State.{State}
use Rattle.cc_states.specs.CcSteps.Turn.{start, turn}

-- before the first turn
pub is_first : (p q : Program) (s : State) (inputs : List ℤ) → IsSound p → q ≡ p → s ≡ start p inputs → ∥ IsState q s ∥₁
is_first p q s inputs sound e h = ∣ subst (λ q. IsState q s) (sym e) (subst (IsState p) (sym h) (start_state p (sound-typed p sound) inputs)) ∣₁

-- what a turn leaves, of a state that is the one before it
pub is_kept : {A E : Type 0} (p : Program) (s before t : State) (arrival : Option ℕ) (r : Result A E) → IsSound p → ∥ IsState p s ∥₁ → before ≡ s → OnOk r (t ≡ turn p before arrival) → OnErr r (t ≡ before) → ∥ IsState p t ∥₁
is_kept p s before t arrival (Ok x) sound h same ok err = ∥∥₁_map h (λ k. subst (IsState p) (sym (ok ∙ ap (λ u. turn p u arrival) same)) (turn_state p (sound-typed p sound) s k arrival))
is_kept p s before t arrival (Err e) sound h same ok err = ∥∥₁_map h (λ k. subst (IsState p) (sym (err ∙ same)) k)

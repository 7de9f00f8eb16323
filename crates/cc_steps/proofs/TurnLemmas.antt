-- Turns, by what enters; and the running level, as far as a loop over the stack has come.
use Rattle.std.proofs.Common.{◌≡◌, ◌<◌, ◌+◌, ℕ, max, List, [], length, take, get_or, Option, Some, None, ap, sym, ◌∙◌, if◌then◌else◌}
use Rattle.std.proofs.lemmas.List.{take_more}
use Rattle.cc_program.specs.declared.func.Func.{Func}
use Rattle.cc_program.specs.declared.program.Program.{Program}
use Rattle.cc_eval.specs.CcSyntax.Sizes.{AreSized}
use Rattle.cc_eval.specs.CcSyntax.Sound.{IsSound}
use Rattle.cc_eval.proofs.CcSyntax.StructureLemmas.{structures_sized}
use Rattle.cc_steps.specs.declared.activation.Activation.{Activation}
use Rattle.cc_steps.specs.declared.event.Took.TheVariants.{Entered, Stepped, Ended}
use Rattle.cc_steps.specs.State.{State}
use Rattle.cc_steps.specs.Turn.{is_going, level_of, running_level, entering, entered, turn_by, turn, took}
use Rattle.cc_steps.specs.View.{actives_of}
use Rattle.cc_steps.proofs.OpenedLemmas.{turn-opens}
use Rattle.cc_steps.proofs.StackLemmas.{actives_of-push, actives_of-nil}
use Rattle.std.specs.Prelude.{is_some}

-- the structures of a sound program have sizes
pub sound-sized : (p : Program) → IsSound p → AreSized p.structures p.target
sound-sized p sound = structures_sized (length p.structures) p.target p.structures sound.structures

pub level-none : (p : Program) → running_level p (actives_of []) ≡ 0
level-none p = ap (running_level p) actives_of-nil

pub level-more : (p : Program) (xs : List Activation) (i : ℕ) (d : Activation) → i < length xs →
    running_level p (actives_of (take (i + 1) xs))
    ≡ (if (get_or xs i d).handler then max (level_of p (get_or xs i d).func) (running_level p (actives_of (take i xs))) else running_level p (actives_of (take i xs)))
level-more p xs i d h = ap (running_level p) (ap actives_of (take_more xs i d h) ∙ actives_of-push (take i xs) (get_or xs i d))

pub ruleset of_levels = (level-none, level-more)

module _ (p : Program) (s : State) (arrival : Option ℕ) where
  pub turned-some : (x : ℕ × Func) → Some x ≡ entering p s arrival → turn p s arrival ≡ entered p s x
  turned-some x h = ap (turn_by p s) (sym h)

  pub turned-none : None ≡ entering p s arrival → turn p s arrival ≡ turn_by p s None
  turned-none h = ap (turn_by p s) (sym h)

  pub took-some : (x : ℕ × Func) → Some x ≡ entering p s arrival → took p s arrival ≡ Entered
  took-some x h = ap (λ (o : Option (ℕ × Func)). if is_some o then Entered else (if is_going s.end then Stepped else Ended)) (sym h)

  pub took-none : None ≡ entering p s arrival → took p s arrival ≡ (if is_going s.end then Stepped else Ended)
  took-none h = ap (λ (o : Option (ℕ × Func)). if is_some o then Entered else (if is_going s.end then Stepped else Ended)) (sym h)

pub ruleset of_turns = (sound-sized, turned-some, turned-none, took-some, took-none, turn-opens)

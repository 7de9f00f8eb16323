-- Each activation of a run stands at a point.
use Rattle.std.proofs.Common.{◌≡◌, inl, inr, ◌<◌, ◌^◌, ℕ, ℤ, false, List, [], ◌∷◌, Option, Some, None, refl, sym, subst, slice_get}
use Rattle.cc_program.specs.declared.func.Func.{Func}
use Rattle.cc_program.specs.declared.program.Program.{Program}
use Rattle.cc_states.specs.CcControl.Control.{level}
use Rattle.cc_states.specs.CcControl.declared.phase.Phase.TheVariants.{First}
use Rattle.cc_flow.specs.Points.{count_of}
use Rattle.cc_states.specs.States.{IsState}
use Rattle.cc_states.proofs.CcSyntax.NameRules.{sound-typed}
use Rattle.cc_states.proofs.StartLemmas.{start_state}
use Rattle.cc_states.proofs.TurnLemmas.{turn_state}
use Rattle.cc_states.specs.CcSteps.Runs.{Arrivals, run}
use Rattle.cc_states.specs.CcSteps.State.{State, locals_with}
use Rattle.cc_states.specs.CcSteps.Turn.{first_of_stack, start, turn}
use Rattle.cc_states.specs.CcSyntax.Normal.{IsNormal}
use Rattle.cc_flow_sound.specs.Moves.{Standing, standings, entry, IsAt, AreAt, StaysOrGoes, IsMove, Goes, Opens, Backs, Ends, Stands}
use Rattle.cc_flow_sound.proofs.Moved.{turn_moves, entered_by}
use Rattle.cc_flow_sound.proofs.Normal.{normal_body}

module _ (p : Program) where
  abbrev At : Standing → Type 0
  At at = (n : ℕ) × IsAt p at n

  goes_at : (at to : Standing) → At at → StaysOrGoes p at to → At to
  goes_at at to h (inl e) = subst At (sym e) h
  goes_at at to h (inr n) = (n.next, n.there)

  -- a move leads to points
  pub moved_at : (xs ys : List Standing) → AreAt p xs → IsMove p xs ys → AreAt p ys
  moved_at xs ys h (Goes at to below e f g) = let k = subst (AreAt p) e h in subst (AreAt p) (sym f) (goes_at at to k.0 g, k.1)
  moved_at xs ys h (Opens func f at e g k) = subst (AreAt p) (sym g) ((entry p func, k), h)
  moved_at xs ys h (Backs x at to below e f g) = let k = subst (AreAt p) e h in subst (AreAt p) (sym f) (goes_at at to k.1.0 g, k.1.1)
  moved_at xs ys h (Ends x e f) = subst (AreAt p) (sym f) tt
  moved_at xs ys h (Stands e) = subst (AreAt p) (sym e) h

  module _ (normal : IsNormal p) (few : count_of p < 2 ^ 32) where
    first_at : (x : Option Func) → slice_get p.funcs p.main ≡ x → AreAt p (standings (first_of_stack p x))
    first_at None e = tt
    first_at (Some f) e = ((entry p p.main, entered_by p few (normal_body p normal) p.main f e (record { number = 0; func = p.main; handler = false; locals = locals_with p [] f.locals; here = level [] 0 First; around = []; marks = [] })), tt)

    run_by : (s : State) → IsState p s → AreAt p (standings s.stack) → (arrivals : Arrivals) → AreAt p (standings (run p s arrivals).stack)
    run_by s h k [] = k
    run_by s h k (a ∷ rest) =
        run_by (turn p s a) (turn_state p (sound-typed p normal.sound) s h a) (moved_at (standings s.stack) (standings (turn p s a).stack) k (turn_moves p few (normal_body p normal) s h a)) rest

    pub run_at : (inputs : List ℤ) (arrivals : Arrivals) → AreAt p (standings (run p (start p inputs) arrivals).stack)
    run_at inputs arrivals = run_by (start p inputs) (start_state p (sound-typed p normal.sound) inputs) (first_at (slice_get p.funcs p.main) refl) arrivals

-- Residues: a turn of one, and all of them at once.
use Rattle.std.proofs.Common.{◌≡◌, ◌<◌, ◌≤◌, ℕ, zero, suc, Bool, List, Option, Some, None, refl, ap, sym, ◌∙◌, subst, arith, ◌⊎◌, inl, inr}
use Rattle.cc_program.specs.declared.program.Program.{Program}
use Rattle.cc_program.specs.declared.value.Value.{Value}
use Rattle.cc_steps.specs.CcCells.Cells.{scalar_in, with_scalar}
use Rattle.cc_steps.specs.Turn.{turn}
use Rattle.cc_steps.specs.Step.{stopped}
use Rattle.cc_steps.specs.declared.event.End.TheVariants.{Trap}
use Rattle.cc_steps.specs.Runs.{run}
use Rattle.cc_rewrite_homes.proofs.ScalarLemmas.{written_there, written_nowhere, written_elsewhere, both_or_not}
use Rattle.cc_rewrite_residues.specs.Residues.{alone, Need, AreMet, Does, Nothing, SetsLocal, SetsStatic, statics_after, locals_after, IsSilent, Agree, Turns, Residue, Doomed}
use Rattle.cc_rewrite_residues.specs.Standing.{Frame, Locals, Spot, standing, Rest, running}

not_below : (base i j : ℕ) → base ≤ i → j < base → i ≡ j → ⊥
not_below base i j h k e = omega (arith, h, k, e)

-- what a silent turn does to the locals leaves those below as they are
pub silent-agree : (base : ℕ) (step : Does) (locals : Locals) → IsSilent base step → Agree base (locals_after step locals) locals
silent-agree base Nothing locals h j k below = refl
silent-agree base (SetsLocal i v) locals h j k below = written_elsewhere locals i 0 (Some v) j k (λ e _. not_below base i j h below e)
silent-agree base (SetsStatic i l v) locals h j k below = refl

pub silent-statics : (base : ℕ) (step : Does) (statics : List (List Value)) → IsSilent base step → statics_after step statics ≡ statics
silent-statics base Nothing statics h = refl
silent-statics base (SetsLocal i v) statics h = refl
silent-statics base (SetsStatic i k v) statics h = absurd h

pub agree-trans : (base : ℕ) (a b c : Locals) → Agree base a b → Agree base b c → Agree base a c
agree-trans base a b c h k i l below = h i l below ∙ k i l below

pub agree-sym : (base : ℕ) (a b : Locals) → Agree base a b → Agree base b a
agree-sym base a b h i l below = sym (h i l below)

module _ (p : Program) (frame : Frame) (base : ℕ) where
  -- a silent turn, with the statics as they were
  pub silent-turn : (needs : List Need) (s : Spot) (step : Does) (t : Spot) → IsSilent base step → Turns p frame needs s step t → (r : Rest) (flag : Bool) (statics : List (List Value)) (locals : Locals) → AreMet needs locals →
      turn p (running r flag statics (standing frame locals s)) None ≡ running r flag statics (standing frame (locals_after step locals) t)
  silent-turn needs s step t h k r flag statics locals met =
      k r flag statics locals met ∙ ap (λ x. running r flag x (standing frame (locals_after step locals) t)) (silent-statics base step statics h)

module _ (p : Program) (frame : Frame) (own : ℕ → ℕ → Bool) (base : ℕ) where
  -- all of its turns, with no arrival
  abbrev Runs : ℕ → Spot → Does → Spot → Rest → Bool → List (List Value) → Locals → Type 0
  Runs n s does t r flag statics locals =
      (after : Locals) × Agree base after locals × (run p (running r flag statics (standing frame locals s)) (alone (suc n)) ≡ running r flag (statics_after does statics) (standing frame (locals_after does after) t))

  pub residue-run : (n : ℕ) (needs : List Need) (s : Spot) (does : Does) (t : Spot) → Residue p frame own base n needs s does t → (r : Rest) (flag : Bool) (statics : List (List Value)) (locals : Locals) → AreMet needs locals →
      Runs n s does t r flag statics locals
  residue-run zero needs s does t h r flag statics locals met = (locals, λ i k below. refl, h r flag statics locals met)
  residue-run (suc n) needs s does t h r flag statics locals met =
      let rest = residue-run n h.2 h.1 does t h.7 r flag statics (locals_after h.0 locals) (h.5 locals met) in (
        rest.0,
        agree-trans base rest.0 (locals_after h.0 locals) locals rest.1 (silent-agree base h.0 locals h.3),
        ap (λ x. run p x (alone (suc n))) (silent-turn p frame base needs s h.0 h.1 h.3 h.4 r flag statics locals met) ∙ rest.2,
      )

  -- and of one that traps
  pub doomed-run : (n : ℕ) (needs : List Need) (s : Spot) → Doomed p frame own base n needs s → (r : Rest) (flag : Bool) (statics : List (List Value)) (locals : Locals) → AreMet needs locals →
      (after : Locals) × (t : Spot) × (run p (running r flag statics (standing frame locals s)) (alone (suc n)) ≡ stopped (running r flag statics (standing frame after t)) Trap)
  doomed-run zero needs s h r flag statics locals met = (locals, s, h r flag statics locals met)
  doomed-run (suc n) needs s h r flag statics locals met =
      let rest = doomed-run n h.2 h.1 h.7 r flag statics (locals_after h.0 locals) (h.5 locals met) in
      (rest.0, rest.1, ap (λ x. run p x (alone (suc n))) (silent-turn p frame base needs s h.0 h.1 h.3 h.4 r flag statics locals met) ∙ rest.2)

-- the same write of both keeps the agreement
module _ (base i k : ℕ) (v : Option Value) (a b : Locals) (h : Agree base a b) (own : i < base) where
  both-written : (x : Option (Option Value)) → scalar_in a i k ≡ x → scalar_in (with_scalar a i k v) i k ≡ scalar_in (with_scalar b i k v) i k
  both-written (Some u) e = written_there a i k v u e ∙ sym (written_there b i k v u (sym (h i k own) ∙ e))
  both-written None e = written_nowhere a i k v e ∙ sym (written_nowhere b i k v (sym (h i k own) ∙ e))

  agree-by : (j l : ℕ) → j < base → ((i ≡ j) × (k ≡ l)) ⊎ (i ≡ j → k ≡ l → ⊥) → scalar_in (with_scalar a i k v) j l ≡ scalar_in (with_scalar b i k v) j l
  agree-by j l below (inr other) = written_elsewhere a i k v j l other ∙ h j l below ∙ sym (written_elsewhere b i k v j l other)
  agree-by j l below (inl same) =
      subst (λ (x : ℕ). scalar_in (with_scalar a i k v) x l ≡ scalar_in (with_scalar b i k v) x l) same.0
      (subst (λ (x : ℕ). scalar_in (with_scalar a i k v) i x ≡ scalar_in (with_scalar b i k v) i x) same.1 (both-written (scalar_in a i k) refl))

  pub agree-set : Agree base (with_scalar a i k v) (with_scalar b i k v)
  agree-set j l below = agree-by j l below (both_or_not i j k l)

-- The arguments of calls: what they are known to be, and what the parameters of the function that is called are then.
use Rattle.std.proofs.Common.{◌≡◌, ℕ, zero, suc, List, [], ◌∷◌, length, replicate, Option, Some, None, refl, sym, subst, slice_get}
use Rattle.std.proofs.lemmas.Option.{same_Some}
use Rattle.cc_flow_sound.specs.CcCells.Cells.{scalar_in}
use Rattle.cc_flow_sound.specs.CcCells.Scalars.{zeros}
use Rattle.cc_flow_sound.specs.CcEval.Eval.{in_front, all_good}
use Rattle.cc_program.specs.declared.program.Program.{Program}
use Rattle.cc_program.specs.declared.value.Value.{Value}
use Rattle.cc_proof_forms.specs.Sets.{Good}
use Rattle.cc_flow_sound.specs.CcSteps.State.{locals_with}
use Rattle.cc_flow_sound.specs.CcSyntax.Types.{Named}

-- each argument that is good has its property
abbrev pub AreArguments : (ℕ → Value → Type 0) → List (Option Value) → Type 0
AreArguments val [] = Unit {0}
AreArguments val (w ∷ ws) = Good (val 0) w × AreArguments (λ i. val (suc i)) ws

abbrev pub AreGood : (ℕ → Value → Type 0) → List Value → Type 0
AreGood val [] = Unit {0}
AreGood val (w ∷ ws) = val 0 w × AreGood (λ i. val (suc i)) ws

in_front_some : (w : Value) (o : Option (List Value)) (good : List Value) → in_front w o ≡ Some good → (ws : List Value) × (o ≡ Some ws) × (good ≡ w ∷ ws)
in_front_some w None good e = absurd (cc)
in_front_some w (Some ws) good e = (ws, refl, sym (same_Some (w ∷ ws) good e))

pub good_arguments : (val : ℕ → Value → Type 0) (vs : List (Option Value)) (good : List Value) → AreArguments val vs → all_good vs ≡ Some good → AreGood val good
good_arguments val [] good h e = subst (AreGood val) (same_Some [] good e) tt
good_arguments val (None ∷ vs) good h e = absurd (cc)
good_arguments val (Some w ∷ vs) good h e =
    let o = in_front_some w (all_good vs) good e in
    subst (AreGood val) (sym o.2) (h.0, good_arguments (λ i. val (suc i)) vs o.0 h.1 o.1)

pub good_at : (val : ℕ → Value → Type 0) (good : List Value) (i : ℕ) (w : Value) → AreGood val good → slice_get good i ≡ Some w → val i w
good_at val [] i w h e = absurd (cc)
good_at val (y ∷ good) zero w h e = subst (val 0) (same_Some y w e) h.0
good_at val (y ∷ good) (suc i) w h e = good_at (λ i. val (suc i)) good i w h.1 e

none_there : (n k : ℕ) (x : Value) → slice_get (replicate n None) k ≡ Some (Some x) → ⊥
none_there zero k x e = cc
none_there (suc n) zero x e = cc
none_there (suc n) (suc k) x e = none_there n k x e

-- a written scalar of a local is the first one of a parameter, and its argument
pub argument_of : (p : Program) (args : List Value) (locals : List Named) (r k : ℕ) (y : Value) → scalar_in (locals_with p args locals) r k ≡ Some (Some y) → (k ≡ 0) × (slice_get args r ≡ Some y)
argument_of p args [] r k y e = absurd (cc)
argument_of p [] (l ∷ locals) zero k y e = absurd (none_there (length (zeros p.structures l.1)) k y e)
argument_of p [] (l ∷ locals) (suc r) k y e = let h = (argument_of p [] locals r k y e).1 in absurd (cc)
argument_of p (w ∷ args) (l ∷ locals) zero zero y e = (refl, same_Some (Some w) (Some y) e)
argument_of p (w ∷ args) (l ∷ locals) zero (suc k) y e = absurd (cc)
argument_of p (w ∷ args) (l ∷ locals) (suc r) k y e = argument_of p args locals r k y e

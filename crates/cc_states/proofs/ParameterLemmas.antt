-- A write keeps parameters written.
use Rattle.std.proofs.Common.{◌≡◌, ◌∙◌, ◌==◌, ◌∷◌, ℕ, zero, suc, Bool, true, false, List, [], Option, Some, slice_get, slice_set, refl, ap, sym, subst}
use Rattle.std.proofs.lemmas.Bool.{eqb-true}
use Rattle.std.specs.Prelude.{option_map}
use Rattle.cc_steps.specs.CcCells.Cells.{with_scalar}
use Rattle.cc_program.specs.declared.value.Value.{Value}
use Rattle.cc_states.specs.States.{AreWritten}
use Rattle.cc_steps.proofs.CellsApart.{elsewhere, written_here}
use Rattle.cc_states.proofs.ListLemmas.{not_equal}

one_written : (x v : Value) (k : ℕ) → (w : Value) × (slice_set (Some x ∷ []) k (Some v) ≡ Some w ∷ [])
one_written x v zero = (v, refl)
one_written x v (suc k) = (x, refl)

pub parameters_written : (n : ℕ) (locals : List (List (Option Value))) → AreWritten n locals → (local k : ℕ) (v : Value) → AreWritten n (with_scalar locals local k (Some v))
parameters_written n locals h local k v i b = by_local (local == i) refl
  where
    by_local : (c : Bool) → local == i ≡ c → (w : Value) × (slice_get (with_scalar locals local k (Some v)) i ≡ Some (Some w ∷ []))
    by_local true e =
        let same : local ≡ i = eqb-true local i e in
        let old = h i b in
        let new = one_written old.0 v k in (
          new.0,
          subst (λ (j : ℕ). slice_get (with_scalar locals j k (Some v)) i ≡ Some (Some new.0 ∷ [])) (sym same)
              (written_here locals i k (Some v) ∙ ap (option_map (λ (s : List (Option Value)). slice_set s k (Some v))) old.1 ∙ ap (λ (s : List (Option Value)). Some s) new.1),
        )
    by_local false e = let old = h i b in (old.0, elsewhere locals local i k (Some v) (λ same. not_equal local i same e) ∙ old.1)

-- Tests one after the other, and lists that are read as they are held.
use Rattle.std.proofs.Common.{arith, ◌≡◌, ◌↔◌, ◌<◌, ◌≤◌, ◌+◌, eqb, ℕ, Bool, true, false, IsTrue, List, length, ap, sym, subst, inl, inr, ◌⊎◌, slice_get}
use Rattle.std.specs.Option.{unwrap_or}
use Rattle.std.proofs.lemmas.Option.{slice_get_past}
use Rattle.cc_state_reads.specs.CcPlaces.declared.abs.Abs.{Abs}
use Rattle.cc_program.specs.declared.program.Program.{Program}
use Rattle.cc_state.specs.Shape.{AreSets}
use Rattle.cc_state_reads.specs.CcStateFacts.Facts.{levels_of}
use Rattle.cc_state_reads.specs.CcStateOperators.Domains.{Domain}
use Rattle.cc_state_shaped.specs.Parts.{IsMarkedAt, AreMarked}
use Rattle.cc_state_reads.specs.CcSyntax.Values.{ValueType}

pub both : {A B : Type 0} (a b : Bool) → (IsTrue a ↔ A) → a ≡ true → (IsTrue b ↔ B) → (IsTrue b ↔ (A × B))
both a b h e k = ((λ t. (h.0 e, k.0 t)), (λ s. k.1 s.1))

pub not_first : {A B : Type 0} (a : Bool) → (IsTrue a ↔ A) → a ≡ false → (IsTrue a ↔ (A × B))
not_first a h e = ((λ t. let f : a ≡ true = t in absurd (cc)), (λ s. h.1 s.0))

pub as_said : {A B : Type 0} (b : Bool) → (A → B) → (B → A) → (IsTrue b ↔ A) → (IsTrue b ↔ B)
as_said b to from h = ((λ t. to (h.0 t)), (λ s. h.1 (from s)))

-- as many sets as there have to be
module _ {I : Type 0} (d : Domain I) (p : Program) (IsType : ℕ → ValueType → Type 0) (xs ys : List (Abs I)) (n : ℕ) (is : ys ≡ xs) where
  pub so_many : (b : Bool) → length ys ≡ n → (IsTrue b ↔ AreSets d p (length ys) (slice_get ys) IsType) → (IsTrue b ↔ ((length xs ≡ n) × AreSets d p n (slice_get xs) IsType))
  so_many b e h =
      subst (λ zs. IsTrue b ↔ ((length zs ≡ n) × AreSets d p n (slice_get zs) IsType)) is
      ((λ t. (e, subst (λ k. AreSets d p k (slice_get ys) IsType) e (h.0 t))), (λ s. h.1 (subst (λ k. AreSets d p k (slice_get ys) IsType) (sym e) s.1)))

-- nothing is left exactly where there are as many
end_if : (left sum count : ℕ) → left + sum ≡ count → eqb left 0 ≡ true → sum ≡ count
end_if left sum count h e = grind arith

end_only : (left sum count : ℕ) → left + sum ≡ count → sum ≡ count → eqb left 0 ≡ true
end_only left sum count h e = grind arith

pub at_end : (left sum count : ℕ) → left + sum ≡ count → (IsTrue (eqb left 0) ↔ (sum ≡ count))
at_end left sum count h = ((λ e. end_if left sum count h e), (λ e. end_only left sum count h e))

-- ---- marks

order : (a b : ℕ) → (a ≤ b) ⊎ (b < a)
order a b = grind arith

pub marked_all : (first second : List Bool) (levels : List ℕ) (count : ℕ) → length levels ≤ count → ((k : ℕ) → k < count → IsMarkedAt first second k (levels_of levels k)) → AreMarked first second levels
marked_all first second levels count l h k = elim (order count k) [
  | inl m ↦ (λ a b. ap (λ o. unwrap_or o 0) (slice_get_past levels k (omega (arith, l, m))))
  | inr m ↦ h k m
]

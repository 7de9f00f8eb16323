-- The first values of a type, from its opened shape; they stand on the structures before it alone.
use Rattle.std.proofs.Common.{arith, ◌≡◌, ◌<◌, ℕ, zero, suc, true, nat_lt, List, [], ◌∷◌, take, Option, Some, None, unwrap_or, slice_get, refl, ap, sym, ◌∙◌}
use Rattle.std.specs.List.{flat_map}
use Rattle.cc_program.specs.declared.types.CType.{CType, fold_out-CType}
use Rattle.cc_program.specs.declared.types.Shape.{Shape, fold-Shape, fold_out-Shape, out-Shape, out-roll-Shape, roll-Shape, map-Shape}
use Rattle.cc_program.specs.declared.types.Shape.TheOpen as shape
use Rattle.cc_program.specs.declared.types.Sig.{Sig, fold-Sig}
use Rattle.cc_program.specs.declared.types.Structure.{Structure}
use Rattle.cc_program.specs.declared.value.Value.{Value}
use Rattle.cc_program.proofs.TypeInduction.{with_shape, TypeParts, by_type}
use Rattle.cc_steps.specs.CcCells.Scalars.{shape_zeros, zeros_over}
use Rattle.cc_steps.specs.CcSyntax.Types.{Named, has_members, complete_shape, is_complete}
use Rattle.cc_steps.proofs.CcSyntax.Prefixes.{both_true}
use Rattle.cc_steps.proofs.CcSyntax.TypeLayouts.{parts_complete, complete-roll}

module _ (table : List (List Value)) where
  abbrev pub parts_zeros : shape.Shape-F Shape CType Sig → shape.Shape-F (List Value) (List Value) (Unit {0})
  parts_zeros x = map-Shape Shape CType Sig (List Value) (List Value) (Unit {0}) (fold-Shape (List Value) (List Value) (Unit {0}) (shape_zeros table) (λ t. t.shape) (λ s. tt))
      (zeros_over table) (fold-Sig (List Value) (List Value) (Unit {0}) (shape_zeros table) (λ t. t.shape) (λ s. tt)) x

  pub zeros-opens : (t : CType) → zeros_over table t ≡ shape_zeros table (parts_zeros (out-Shape t.shape))
  unfolding zeros_over
  zeros-opens t =
      fold_out-CType (List Value) (List Value) (Unit {0}) (shape_zeros table) (λ t. t.shape) (λ s. tt) t ∙ fold_out-Shape (List Value) (List Value) (Unit {0}) (shape_zeros table) (λ t. t.shape) (λ s. tt) t.shape

  pub zeros-shape : (t : CType) (x : shape.Shape-F Shape CType Sig) → out-Shape t.shape ≡ x → zeros_over table t ≡ shape_zeros table (parts_zeros x)
  zeros-shape t x e = zeros-opens t ∙ ap (λ y. shape_zeros table (parts_zeros y)) e

-- a type that is complete over some structures has the same first values wherever these have theirs
module _ (structures : List Structure) (ls ms : List (List Value)) (agree : (k : ℕ) (s : Structure) → slice_get structures k ≡ Some s → slice_get ls k ≡ slice_get ms k) where
  abbrev pub Same : CType → Type 0
  Same t = is_complete structures t ≡ true → zeros_over ls t ≡ zeros_over ms t

  pub looked_up : (k : ℕ) (o : Option Structure) → slice_get structures k ≡ o → has_members o ≡ true → unwrap_or (slice_get ls k) [] ≡ unwrap_or (slice_get ms k) []
  looked_up k None e h = absurd (cc)
  looked_up k (Some s) e h = ap (λ l. unwrap_or l []) (agree k s e)

  pub shape-same : (x : shape.Shape-F Shape CType Sig) → TypeParts Same (λ s. Unit {0}) x → complete_shape structures (parts_complete structures x) ≡ true → shape_zeros ls (parts_zeros ls x) ≡ shape_zeros ms (parts_zeros ms x)
  shape-same shape.Void h c = refl
  shape-same (shape.Int t) h c = refl
  shape-same (shape.Pointer t) h c = refl
  shape-same (shape.Array t n) h c = let e = h (both_true (nat_lt 0 n) (is_complete structures t) c).1 in rw e refl
  shape-same (shape.Struct k) h c = looked_up k (slice_get structures k) refl c
  shape-same (shape.Func s) h c = refl

  pub type-same : (t : CType) → is_complete structures t ≡ true → zeros_over ls t ≡ zeros_over ms t
  type-same = by_type Same (λ s. Unit {0})
      (λ constant volatile x h c. zeros-shape ls (with_shape constant volatile (roll-Shape x)) x (out-roll-Shape x) ∙ shape-same x h (sym (complete-roll structures constant volatile x) ∙ c)
      ∙ sym (zeros-shape ms (with_shape constant volatile (roll-Shape x)) x (out-roll-Shape x)))
      (λ x h. tt)

pub take_taken : {A : Type 0} → (xs : List A) (k i : ℕ) → k < i → take k (take i xs) ≡ take k xs
take_taken [] k zero h = absurd (omega (arith, h))
take_taken [] zero (suc i) h = refl
take_taken [] (suc k) (suc i) h = refl
take_taken (x ∷ xs) k zero h = absurd (omega (arith, h))
take_taken (x ∷ xs) zero (suc i) h = refl
take_taken (x ∷ xs) (suc k) (suc i) h = ap (λ ys. x ∷ ys) (take_taken xs k i (omega (arith, h)))

pub members_same : (f g : Named → List Value) (ms : List Named) → ((k : ℕ) (m : Named) → slice_get ms k ≡ Some m → f m ≡ g m) → flat_map f ms ≡ flat_map g ms
members_same f g [] h = refl
members_same f g (m ∷ ms) h = rw (h 0 m refl, members_same f g ms (λ k n e. h (suc k) n e)) refl

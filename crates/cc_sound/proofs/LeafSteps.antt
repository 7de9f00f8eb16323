-- What a call on a part of a type asks: that the part is complete over the structures before it.
use Rattle.std.proofs.Common.{arith, ◌≡◌, ◌<◌, ◌≤◌, ℕ, zero, suc, true, List, [], ◌∷◌, length, take, refl, ap, sym, ◌∙◌, subst, Option, Some, None, slice_get, nat_lt}
use Rattle.std.specs.List.{All}
use Rattle.std.proofs.lemmas.Option.{slice_get_within}
use Rattle.cc_program.specs.declared.types.CType.{CType}
use Rattle.cc_program.specs.declared.types.Shape.{Shape, Array, Struct, out-Shape}
use Rattle.cc_program.specs.declared.types.Shape.TheOpen as shape
use Rattle.cc_program.specs.declared.types.Shape.TheVariants.{outs-Array, outs-Struct}
use Rattle.cc_program.specs.declared.types.Sig.{Sig}
use Rattle.cc_program.specs.declared.types.Structure.{Structure}
use Rattle.cc_typed.specs.CcSyntax.Types.{Named, has_members, complete_shape, is_complete, IsInOrder}
use Rattle.cc_typed.proofs.CcSyntax.Prefixes.{both_true, get_taken, take_length}
use Rattle.cc_typed.proofs.CcSyntax.TypeLayouts.{parts_complete, complete-opens}

module _ (structures : List Structure) where
  opened : (t : CType) (x : shape.Shape-F Shape CType Sig) → out-Shape t.shape ≡ x → is_complete structures t ≡ true → complete_shape structures (parts_complete structures x) ≡ true
  opened t x o c = sym (complete-opens structures t ∙ ap (λ x. complete_shape structures (parts_complete structures x)) o) ∙ c

  pub element_ready : (t e : CType) (n : ℕ) → t.shape ≡ Array e n → is_complete structures t ≡ true → is_complete structures e ≡ true
  element_ready t e n h c = (both_true (nat_lt 0 n) (is_complete structures e) (opened t (shape.Array e n) (ap out-Shape h ∙ outs-Array e n) c)).1

  there : (i : ℕ) (o : Option Structure) → slice_get structures i ≡ o → has_members o ≡ true → i < length structures
  there i None e h = absurd (cc)
  there i (Some s) e h = slice_get_within structures i s e

  pub struct_found : (t : CType) (i : ℕ) → t.shape ≡ Struct i → is_complete structures t ≡ true → i < length structures
  struct_found t i h c = there i (slice_get structures i) refl (opened t (shape.Struct i) (ap out-Shape h ∙ outs-Struct i) c)

take_twice : {A : Type 0} → (xs : List A) (i k : ℕ) → k ≤ i → take k (take i xs) ≡ take k xs
take_twice [] zero zero h = refl
take_twice [] zero (suc k) h = refl
take_twice [] (suc i) zero h = refl
take_twice [] (suc i) (suc k) h = refl
take_twice (x ∷ xs) zero zero h = refl
take_twice (x ∷ xs) zero (suc k) h = absurd (omega (arith, h))
take_twice (x ∷ xs) (suc i) zero h = refl
take_twice (x ∷ xs) (suc i) (suc k) h = ap (λ ys. x ∷ ys) (take_twice xs i k (omega (arith, h)))

-- the structures before one of those before
module _ (all before : List Structure) (i : ℕ) (s : Structure) (front : before ≡ take (length before) all) (got : slice_get before i ≡ Some s) where
  within : i < length before
  within = slice_get_within before i s got

  fronts : take i before ≡ take i all
  fronts = ap (take i) front ∙ take_twice all (length before) i (omega (arith, within))

  pub got_of_all : slice_get all i ≡ Some s
  got_of_all = (get_taken all (length before) i s (ap (λ l. slice_get l i) (sym front) ∙ got)).1

  pub front_before : take i before ≡ take (length (take i before)) all
  front_before = fronts ∙ ap (λ n. take n all) (sym (take_length before i s got))

  pub members_ready : IsInOrder all → (ms : List Named) → ms ≡ s.members → All (λ m. is_complete (take i before) m.1 ≡ true) ms
  members_ready order ms e =
      subst (λ (ms : List Named). All (λ m. is_complete (take i before) m.1 ≡ true) ms) (sym e)
      (subst (λ (ss : List Structure). All (λ m. is_complete ss m.1 ≡ true) s.members) (sym fronts) (order i s got_of_all))

-- A set that was empty has the two numbers alone.
use Rattle.std.proofs.Common.{◌≡◌, ◌⊎◌, ◌≤◌, Bool, true, false, ℤ, pos, List, [], ◌∷◌, length, refl, sym, ap, subst, inl, inr, ⊎_elim, arith}
use Rattle.std.specs.List.{Contains}
use Rattle.cc_explicit.specs.Sets.{most_members}
use Rattle.cc_explicit.specs.declared.explicit.Explicit.{Explicit}
use Rattle.cc_explicit.proofs.Lists.{in_list, in_contains, rises}
use Rattle.cc_explicit.proofs.Lists.{no_longer}
use Rattle.cc_sets.proofs.make.truths.Goals as goal

abbrev Inserted : List ℤ → List ℤ → ℤ → Type 0
Inserted old new v = (w : ℤ) → (Contains new w → (w ≡ v) ⊎ Contains old w) × ((w ≡ v) ⊎ Contains old w → Contains new w)

first : (r : Bool) (old new : List ℤ) → old ≡ [] → (r ≡ true → Inserted old new (pos 0)) → (r ≡ false → length old ≡ most_members) → (w : ℤ) → (Contains new w → w ≡ pos 0) × (w ≡ pos 0 → Contains new w)
first true old new f p full w = (
  λ h. ⊎_elim (λ (k : w ≡ pos 0). k) (λ (k : Contains old w). absurd (in_list [] w (subst (λ (xs : List ℤ). Contains xs w) f k))) ((p refl w).0 h),
  λ h. (p refl w).1 (inl h),
)
first false old new f p full w = let n = full refl in let m = ap length f in absurd (omega (arith, n, m))

one_long : (s : Explicit) → ((w : ℤ) → Contains s.items.items w → w ≡ pos 0) → length s.items.items ≤ 1
one_long s h = no_longer s.items.items (pos 0 ∷ []) (rises s.items.items s.ascending) ((λ v t. absurd t), tt) (λ v t. inl (sym (h v (in_contains s.items.items v t))))

second : (r : Bool) (s : Explicit) (new : List ℤ) → ((w : ℤ) → (Contains s.items.items w → w ≡ pos 0) × (w ≡ pos 0 → Contains s.items.items w)) → (r ≡ true → Inserted s.items.items new (pos 1)) → (r ≡ false → length s.items.items ≡ most_members)
    → (w : ℤ) → (Contains new w → (w ≡ pos 0) ⊎ (w ≡ pos 1)) × ((w ≡ pos 0) ⊎ (w ≡ pos 1) → Contains new w)
second true s new e p full w = (
  λ h. ⊎_elim (λ (k : w ≡ pos 1). inr k) (λ (k : Contains s.items.items w). inl ((e w).0 k)) ((p refl w).0 h),
  λ h. (p refl w).1 (⊎_elim (λ (k : w ≡ pos 0). inr ((e w).1 k)) (λ (k : w ≡ pos 1). inl k) h),
)
second false s new e p full w = let n = full refl in let m = one_long s (λ v. (e v).0) in absurd (omega (arith, n, m))

pub returns : goal.returns
returns c = second c.insert-2.result c.insert.new.self c.insert-2.new.self.items.items
    (first c.insert.result c.none-few.result.items.items c.insert.new.self.items.items c.none-few.ensures c.insert.ensures.inserted c.insert.ensures.full)
    c.insert-2.ensures.inserted c.insert-2.ensures.full

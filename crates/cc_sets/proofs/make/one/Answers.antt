-- A set that was empty has the number alone.
use Rattle.std.proofs.Common.{◌≡◌, ◌∙◌, ◌⊎◌, Bool, true, false, ℤ, List, [], length, refl, sym, ap, subst, inl, ⊎_elim, arith}
use Rattle.std.specs.List.{Contains}
use Rattle.cc_explicit.specs.Sets.{most_members}
use Rattle.cc_explicit.proofs.Lists.{in_list}
use Rattle.cc_explicit.proofs.Reach.{reach_same}
use Rattle.cc_sets.proofs.make.one.Goals as goal

one_of : (r : Bool) (old new : List ℤ) (u v : ℤ) → u ≡ v → old ≡ [] → (r ≡ true → (w : ℤ) → (Contains new w → (w ≡ u) ⊎ Contains old w) × ((w ≡ u) ⊎ Contains old w → Contains new w)) → (r ≡ false → length old ≡ most_members)
    → (w : ℤ) → (Contains new w → w ≡ v) × (w ≡ v → Contains new w)
one_of true old new u v e f p full w = (
  λ h. ⊎_elim (λ (k : w ≡ u). k ∙ e) (λ (k : Contains old w). absurd (in_list [] w (subst (λ (xs : List ℤ). Contains xs w) f k))) ((p refl w).0 h),
  λ h. (p refl w).1 (inl (h ∙ sym e)),
)
one_of false old new u v e f p full w = let n = full refl in let m = ap length f in absurd (omega (arith, n, m))

pub returns : goal.returns
returns c = one_of c.insert.result c.none-few.result.items.items c.insert.new.self.items.items _ c.args.v (reach_same c.args.v c.requires) c.none-few.ensures c.insert.ensures.inserted c.insert.ensures.full

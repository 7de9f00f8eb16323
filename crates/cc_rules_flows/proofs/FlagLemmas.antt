-- The least sets of the numbers that the flag may be.
use Rattle.std.proofs.Common.{◌≡◌, ◌⊎◌, inl, inr, ℤ, pos, Bool, true, false, true≢false, refl, sym, subst}
use Rattle.cc_state_reads.specs.CcLattice.Orders.{IsLeastUpperBound}
use Rattle.cc_rules_flows.specs.Flag.{IsFlagOf}
use Rattle.cc_state_reads.specs.CcStateOperators.Domains.{Domain, IsHull}

module _ {I : Type 0} (d : Domain I) where
  pub as_told : (off on a b : Bool) (x : I) → off ≡ a → on ≡ b → IsHull d (IsFlagOf a b) x → IsHull d (IsFlagOf off on) x
  as_told off on a b x e f h = subst (λ o. IsHull d (IsFlagOf o on) x) (sym e) (subst (λ o. IsHull d (IsFlagOf a o) x) (sym f) h)

  one_of : (x : I) → d.has x (pos 0) → d.has x (pos 1) → (n : ℤ) → IsFlagOf true true n → d.has x n
  one_of x h k n (inl f) = subst (d.has x) (sym f.1) h
  one_of x h k n (inr f) = subst (d.has x) (sym f.1) k

  pub both : (a b x : I) → ((x y : I) → d.below x y → (n : ℤ) → d.has x n → d.has y n) → d.has a (pos 0) → d.has b (pos 1) → ((y : I) → d.has y (pos 0) → d.below a y) → ((y : I) → d.has y (pos 1) → d.below b y) →
      d.below a x → d.below b x → ((u : I) → d.below a u → d.below b u → d.below x u) → IsHull d (IsFlagOf true true) x
  both a b x more ha hb la lb left right least = record {
    has_all = one_of x (more a x left (pos 0) ha) (more b x right (pos 1) hb);
    least = λ y g. least y (la y (g (pos 0) (inl (refl, refl)))) (lb y (g (pos 1) (inr (refl, refl))));
  }

-- Facts that get a part are the least ones above the old ones that have it.
use Rattle.std.proofs.Common.{sym, subst}
use Rattle.cc_places.specs.declared.abs.Abs.{Abs}
use Rattle.cc_places.specs.Abstract.{IsBelowAbs}
use Rattle.cc_rules_needs.specs.Needs.{Slot, Part, Has, IsBelow}
use Rattle.cc_rules_needs.specs.Raised.{MayGet, put, IsPut}
use Rattle.cc_rules_needs.proofs.Others.{put_others}
use Rattle.cc_rules_needs.proofs.Through.{put_above, put_has, put_least}
use Rattle.cc_state_facts.specs.declared.facts.Facts.{Facts}

module _ {I : Type 0} (below : I → I → Type 0) (abs_itself : (x : Abs I) → IsBelowAbs below x x) (abs_through : (x y z : Abs I) → IsBelowAbs below x y → IsBelowAbs below y z → IsBelowAbs below x z) where
  pub is_put_above : (slot : Slot) (more : Part I) (f g : Facts I) → MayGet slot more f → IsPut below slot more f g → IsBelow below f g
  is_put_above slot more f g m p = subst (λ (h : Facts I). IsBelow below f h) (sym p.is) (put_above below abs_itself abs_through slot more p.part f (put slot p.part f) p.least (put_others below slot more p.part f m p.least.right).0)

  pub is_put_has : (slot : Slot) (more : Part I) (f g : Facts I) → MayGet slot more f → IsPut below slot more f g → Has below g (slot, more)
  is_put_has slot more f g m p =
      let o = put_others below slot more p.part f m p.least.right in
      subst (λ (h : Facts I). Has below h (slot, more)) (sym p.is) (put_has below abs_itself abs_through slot more p.part f (put slot p.part f) p.least o.0 o.1)

  pub is_put_least : (slot : Slot) (more : Part I) (f g h : Facts I) → MayGet slot more f → IsPut below slot more f g → IsBelow below f h → Has below h (slot, more) → IsBelow below g h
  is_put_least slot more f g h m p b k = subst (λ (x : Facts I). IsBelow below x h) (sym p.is) (put_least below abs_itself abs_through slot more p.part f (put slot p.part f) p.least (put_others below slot more p.part f m p.least.right).0 h b k)

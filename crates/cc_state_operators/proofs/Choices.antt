-- The union of the arms that a condition allows.
use Rattle.std.proofs.Common.{◌≡◌, Bool, true, false, inl, inr, refl, sym, ◌∙◌, subst}
use Rattle.cc_lattice.specs.Orders.{IsLeastUpperBound}
use Rattle.cc_program.specs.CcNum.declared.int_type.IntType.{IntType}
use Rattle.cc_program.specs.CcNum.declared.target.Target.{Target}
use Rattle.cc_places.specs.Abstract.{AreOfOneKind, IsBelowAbs}
use Rattle.cc_places.specs.declared.abs.Abs.{Abs}
use Rattle.cc_places.specs.declared.abs.Abs.TheVariants as abs
use Rattle.cc_places.specs.laws.AbstractLaws.{kind_itself, kind_back}
use Rattle.cc_places.specs.laws.SetLaws.{within_itself}
use Rattle.cc_eval.specs.CcSyntax.Values.{ValueType, NoValue, Integer, ToObject, ToFunction}
use Rattle.cc_state_operators.specs.Domains.{Domain, IsUnion, MayBe, AllOf}
use Rattle.cc_state_operators.specs.Types.{AreOf}
use Rattle.cc_state_operators.specs.Results.{IsArm}

-- what a test refuses
pub refused : {A : Type 0} (r : Bool) → r ≡ false → r ≡ true → A
refused true e f = absurd (cc)
refused false e f = absurd (cc)

kinds_through : {I : Type 0} (x y z : Abs I) → AreOfOneKind x y → AreOfOneKind y z → AreOfOneKind x z
kinds_through (abs.Ints a) (abs.Ints b) (abs.Ints c) h k = tt
kinds_through (abs.Ints a) (abs.Ints b) (abs.Addrs t) h k = absurd k
kinds_through (abs.Ints a) (abs.Addrs s) z h k = absurd h
kinds_through (abs.Addrs s) (abs.Ints b) z h k = absurd h
kinds_through (abs.Addrs s) (abs.Addrs t) (abs.Ints c) h k = absurd k
kinds_through (abs.Addrs s) (abs.Addrs t) (abs.Addrs u) h k = tt

module _ {I : Type 0} (d : Domain I) (itself : (a : I) → d.below a a) where
  below_itself : (x : Abs I) → IsBelowAbs d.below x x
  below_itself (abs.Ints a) = itself a
  below_itself (abs.Addrs s) = within_itself s

  module _ (z x w : Abs I) (alike : AreOfOneKind x w) where
    pub both_arms : (y : Abs I) → MayBe d true z → MayBe d false z → IsLeastUpperBound AreOfOneKind (IsBelowAbs d.below) x w y → IsUnion d x (IsArm d z x w) y
    both_arms y holds fails l = record { alike = l.left_alike; above = above; least = least }
      where
        above : (v : Abs I) → IsArm d z x w v → IsBelowAbs d.below v y
        above v (inl (m, e)) = subst (λ q. IsBelowAbs d.below q y) (sym e) l.left
        above v (inr (m, e)) = subst (λ q. IsBelowAbs d.below q y) (sym e) l.right

        least : (u : Abs I) → AreOfOneKind x u → ((v : Abs I) → IsArm d z x w v → IsBelowAbs d.below v u) → IsBelowAbs d.below y u
        least u k f = l.least u k (kinds_through w x u (kind_back x w alike) k) (f x (inl (holds, refl))) (f w (inr (fails, refl)))

    pub first_arm : (y : Abs I) → MayBe d true z → (MayBe d false z → ⊥) → y ≡ x → IsUnion d x (IsArm d z x w) y
    first_arm y holds fails e = record { alike = subst (λ q. AreOfOneKind x q) (sym e) (kind_itself x w alike); above = above; least = least }
      where
        above : (v : Abs I) → IsArm d z x w v → IsBelowAbs d.below v y
        above v (inl (m, f)) = subst (λ q. IsBelowAbs d.below v q) (f ∙ sym e) (below_itself v)
        above v (inr (m, f)) = absurd (fails m)

        least : (u : Abs I) → AreOfOneKind x u → ((v : Abs I) → IsArm d z x w v → IsBelowAbs d.below v u) → IsBelowAbs d.below y u
        least u k f = f y (inl (holds, e))

    pub second_arm : (y : Abs I) → (MayBe d true z → ⊥) → MayBe d false z → y ≡ w → IsUnion d x (IsArm d z x w) y
    second_arm y holds fails e = record { alike = subst (λ q. AreOfOneKind x q) (sym e) alike; above = above; least = least }
      where
        above : (v : Abs I) → IsArm d z x w v → IsBelowAbs d.below v y
        above v (inl (m, f)) = absurd (holds m)
        above v (inr (m, f)) = subst (λ q. IsBelowAbs d.below v q) (f ∙ sym e) (below_itself v)

        least : (u : Abs I) → AreOfOneKind x u → ((v : Abs I) → IsArm d z x w v → IsBelowAbs d.below v u) → IsBelowAbs d.below y u
        least u k f = f y (inr (fails, e))

    pub no_arm : (y : Abs I) → (MayBe d true z → ⊥) → (MayBe d false z → ⊥) → IsUnion d x (λ v. ⊥) y → IsUnion d x (IsArm d z x w) y
    no_arm y holds fails h = record { alike = h.alike; above = above; least = λ u k f. h.least u k (λ v q. absurd q) }
      where
        above : (v : Abs I) → IsArm d z x w v → IsBelowAbs d.below v y
        above v (inl (m, e)) = absurd (holds m)
        above v (inr (m, e)) = absurd (fails m)

-- values of a type

module _ {I : Type 0} (d : Domain I) (alike : I → I → Type 0) (all : (x y : I) → alike x y)
    (joined : (x y j : I) (t : IntType) (c : Target) → IsLeastUpperBound alike d.below x y j → AllOf d t c x → AllOf d t c y → AllOf d t c j) where
  ints_joined : (a b j : I) → IsLeastUpperBound AreOfOneKind (IsBelowAbs d.below) (abs.Ints a) (abs.Ints b) (abs.Ints j) → IsLeastUpperBound alike d.below a b j
  ints_joined a b j l = record { left_alike = all a j; right_alike = all b j; left = l.left; right = l.right; least = λ u _ _ h k. l.least (abs.Ints u) tt tt h k }

  pub union_typed : (x w y : Abs I) → IsLeastUpperBound AreOfOneKind (IsBelowAbs d.below) x w y → (t : ValueType) (c : Target) → AreOf d c t x → AreOf d c t w → AreOf d c t y
  union_typed x w y l NoValue c h k = absurd h
  union_typed (abs.Ints a) (abs.Ints b) (abs.Ints j) l (Integer t) c h k = joined a b j t c (ints_joined a b j l) h k
  union_typed (abs.Ints a) (abs.Ints b) (abs.Addrs r) l (Integer t) c h k = absurd l.left_alike
  union_typed (abs.Ints a) (abs.Addrs s) y l (Integer t) c h k = absurd k
  union_typed (abs.Addrs s) w y l (Integer t) c h k = absurd h
  union_typed (abs.Ints a) w y l (ToObject q v u) c h k = absurd h
  union_typed (abs.Addrs s) w (abs.Ints j) l (ToObject q v u) c h k = absurd l.left_alike
  union_typed (abs.Addrs s) w (abs.Addrs r) l (ToObject q v u) c h k = tt
  union_typed (abs.Ints a) w y l (ToFunction sig) c h k = absurd h
  union_typed (abs.Addrs s) w (abs.Ints j) l (ToFunction sig) c h k = absurd l.left_alike
  union_typed (abs.Addrs s) w (abs.Addrs r) l (ToFunction sig) c h k = tt

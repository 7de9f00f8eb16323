-- What operators give grows with the sets of their operands, by the laws of a domain.
use Rattle.std.proofs.Common.{◌≡◌, inl, inr, ℤ, Bool, true, false, ◌&&◌, Option, Some, refl, sym, subst}
use Rattle.cc_program.specs.CcNum.declared.int_type.IntType.{IntType}
use Rattle.cc_program.specs.CcNum.declared.op.BinOp.{BinOp}
use Rattle.cc_program.specs.CcNum.declared.target.Target.{Target}
use Rattle.cc_state_values_sound.specs.CcPlaces.Abstract.{AreOfOneKind, IsBelowAbs, HasValue}
use Rattle.cc_state_values_sound.specs.CcPlaces.Sets.{IsWithin}
use Rattle.cc_state_values_sound.specs.CcPlaces.declared.abs.Abs.{Abs}
use Rattle.cc_state_values_sound.specs.CcPlaces.declared.abs.Abs.TheVariants as abs
use Rattle.cc_state_values_sound.specs.CcPlaces.declared.addrs.Addrs.{Addrs}
use Rattle.cc_state_values_sound.specs.CcPlaces.laws.AbstractLaws.{abs_through}
use Rattle.cc_state_values_sound.specs.CcPlaces.laws.SetLaws.{has_member}
use Rattle.cc_program.specs.declared.value.Value.{Value}
use Rattle.cc_program.specs.declared.value.Value.TheVariants.{Int, Place}
use Rattle.cc_state_values_sound.specs.CcStateOperators.Domains.{Domain, IsHull, IsWhole, IsUnion, MayBe}
use Rattle.cc_state_values_sound.specs.CcStateOperators.Results.{is_told, Together, IsZeroOrOne, IsComparison, ByBoth, ByEither, IsArm, IsGap}
use Rattle.cc_state_values_sound.proofs.CcStateValues.Same.{IsOrdered}
use Rattle.cc_state_values_grow.proofs.Sets.{untold_within}
use Rattle.cc_state_values_sound.proofs.Pointers.{gap_gives, comparison_gives}
use Rattle.cc_state_values_sound.specs.Steps.{MayGive}
use Rattle.cc_state_values_sound.specs.CcSyntax.Operators.{difference_type}
use Rattle.cc_state_values_sound.specs.CcValues.Values.{gap, comparison}

-- what the laws of a domain say of the order of sets and of their members
pub record IsOrder {I : Type 0} (d : Domain I) : Type 0 where
  pub through : (x y z : I) → d.below x y → d.below y z → d.below x z
  pub grows : (x y : I) → d.below x y → (n : ℤ) → d.has x n → d.has y n

pub order_given : {I : Type 0} (d : Domain I) (alike : I → I → Type 0) → ((x y : I) → alike x y) →
    ((x y z : I) → alike x y → alike y z → alike x z → d.below x y → d.below y z → d.below x z) → ((x y : I) → d.below x y → (n : ℤ) → d.has x n → d.has y n) → IsOrder d
order_given d alike all through grows = record { through = λ x y z h k. through x y z (all x y) (all y z) (all x z) h k; grows = grows }

-- two below one another are of one kind

pub kind_below : {I : Type 0} (below : I → I → Type 0) (x y : Abs I) → IsBelowAbs below x y → AreOfOneKind x y
kind_below below (abs.Ints x) (abs.Ints y) h = tt
kind_below below (abs.Ints x) (abs.Addrs t) h = absurd h
kind_below below (abs.Addrs s) (abs.Ints y) h = absurd h
kind_below below (abs.Addrs s) (abs.Addrs t) h = tt

kind_through : {I : Type 0} (x y z : Abs I) → AreOfOneKind x y → AreOfOneKind y z → AreOfOneKind x z
kind_through (abs.Ints x) (abs.Ints y) (abs.Ints z) h k = tt
kind_through (abs.Ints x) (abs.Ints y) (abs.Addrs u) h k = absurd k
kind_through (abs.Ints x) (abs.Addrs t) z h k = absurd h
kind_through (abs.Addrs s) (abs.Ints y) z h k = absurd h
kind_through (abs.Addrs s) (abs.Addrs t) (abs.Ints z) h k = absurd k
kind_through (abs.Addrs s) (abs.Addrs t) (abs.Addrs u) h k = tt

module _ {I : Type 0} (d : Domain I) (o : IsOrdered d) (order : IsOrder d) where
  abbrev Below : Abs I → Abs I → Type 0
  Below x y = IsBelowAbs d.below x y

  pub hull_grows : (P Q : ℤ → Type 0) (x y : I) → ((n : ℤ) → P n → Q n) → IsHull d P x → IsHull d Q y → d.below x y
  hull_grows P Q x y f h k = h.least y (λ n q. k.has_all n (f n q))

  whole_grows : (t : IntType) (target : Target) (x y : I) → IsWhole d t target x → IsWhole d t target y → d.below x y
  whole_grows t target x y h k = o.by_members x y (λ n m. (k n).0 ((h n).1 m))

  -- ---- truths

  value_grows : (x y : Abs I) → Below x y → (v : Value) → HasValue d.has x v → HasValue d.has y v
  value_grows (abs.Ints x) (abs.Ints y) h (Int n) k = order.grows x y h n k
  value_grows (abs.Ints x) (abs.Ints y) h (Place a) k = absurd k
  value_grows (abs.Ints x) (abs.Addrs t) h v k = absurd h
  value_grows (abs.Addrs s) (abs.Ints y) h v k = absurd h
  value_grows (abs.Addrs s) (abs.Addrs t) h (Int n) k = absurd k
  value_grows (abs.Addrs s) (abs.Addrs t) h (Place a) k = h a k

  pub truth_grows : (b : Bool) (x y : Abs I) → Below x y → MayBe d b x → MayBe d b y
  truth_grows b x y h (v, k, e) = (v, value_grows x y h v k, e)

  pub both_grows : (x y v w : Abs I) (r s : I) → Below x y → Below v w → IsHull d (ByBoth d x v) r → IsHull d (ByBoth d y w) s → d.below r s
  both_grows x y v w r s h k = hull_grows (ByBoth d x v) (ByBoth d y w) r s more
    where
      more : (n : ℤ) → ByBoth d x v n → ByBoth d y w n
      more n (inl (m, e)) = inl (truth_grows false x y h m, e)
      more n (inr (m, (b, q, e))) = inr (truth_grows true x y h m, (b, truth_grows b v w k q, e))

  pub either_grows : (x y v w : Abs I) (r s : I) → Below x y → Below v w → IsHull d (ByEither d x v) r → IsHull d (ByEither d y w) s → d.below r s
  either_grows x y v w r s h k = hull_grows (ByEither d x v) (ByEither d y w) r s more
    where
      more : (n : ℤ) → ByEither d x v n → ByEither d y w n
      more n (inl (m, e)) = inl (truth_grows true x y h m, e)
      more n (inr (m, (b, q, e))) = inr (truth_grows false x y h m, (b, truth_grows b v w k q, e))

  -- ---- choices

  pub through : (x y z : Abs I) → Below x y → Below y z → Below x z
  through x y z h k = abs_through (λ a b. Unit {0}) d.below (λ a b c _ _ _. order.through a b c) (λ a b. tt) x y z h k

  pub union_grows : (b c x y v w r s : Abs I) → Below b c → Below x y → Below v w → IsUnion d x (IsArm d b x v) r → IsUnion d y (IsArm d c y w) s → Below r s
  union_grows b c x y v w r s h k l m n = m.least s (kind_through x y s (kind_below d.below x y k) n.alike) arm
    where
      arm : (z : Abs I) → IsArm d b x v z → Below z s
      arm z (inl (q, e)) = subst (λ (u : Abs I). Below u s) (sym e) (through x y s k (n.above y (inl (truth_grows true b c h q, refl))))
      arm z (inr (q, e)) = subst (λ (u : Abs I). Below u s) (sym e) (through v w s l (n.above w (inr (truth_grows false b c h q, refl))))

  -- ---- two pointers

  pub gap_grows : (target : Target) (s t q r : Addrs) (x y : I) → IsWithin s t → IsWithin q r → IsGap d target s q (is_told s && is_told q) x → IsGap d target t r (is_told t && is_told r) y → d.below x y
  gap_grows target s t q r x y h k l m = by_test (is_told s && is_told q) refl l
    where
      by_test : (b : Bool) → is_told s && is_told q ≡ b → IsGap d target s q b x → d.below x y
      by_test true e g = g.least y there
        where
          there : (n : ℤ) → Together d (gap target) s q n → d.has y n
          there n (a, b, i, j, f) =
              subst (λ (v : Option Value). MayGive d.has (abs.Ints y) v) f (gap_gives d target t r y m (Some (Place a)) (Some (Place b)) (h a (has_member s a i)) (k b (has_member q b j)))
      by_test false e g = whole_grows (difference_type target) target x y g (subst (λ (b : Bool). IsGap d target t r b y) (untold_within s t q r h k e) m)

  pub comparison_grows : (p : BinOp) (s t q r : Addrs) (x y : I) → IsWithin s t → IsWithin q r → IsComparison d p s q (is_told s && is_told q) x → IsComparison d p t r (is_told t && is_told r) y → d.below x y
  comparison_grows p s t q r x y h k l m = by_test (is_told s && is_told q) refl l
    where
      by_test : (b : Bool) → is_told s && is_told q ≡ b → IsComparison d p s q b x → d.below x y
      by_test true e g = g.least y there
        where
          there : (n : ℤ) → Together d (comparison p) s q n → d.has y n
          there n (a, b, i, j, f) =
              subst (λ (v : Option Value). MayGive d.has (abs.Ints y) v) f (comparison_gives d p t r y m (Some (Place a)) (Some (Place b)) (h a (has_member s a i)) (k b (has_member q b j)))
      by_test false e g = hull_grows (IsZeroOrOne d) (IsZeroOrOne d) x y (λ n z. z) g (subst (λ (b : Bool). IsComparison d p t r b y) (untold_within s t q r h k e) m)

-- Least sets that have some integers, by the laws of a domain's order.
use Rattle.std.proofs.Common.{◌≡◌, ◌⊎◌, ◌↔◌, ℤ, pos, Bool, true, false, inl, inr, ⊎_elim, refl, sym, subst}
use Rattle.cc_lattice.specs.Orders.{IsLeastUpperBound}
use Rattle.cc_program.specs.CcNum.declared.int_type.IntType.{IntType}
use Rattle.cc_program.specs.CcNum.declared.int_type.IntType.TheVariants as int
use Rattle.cc_program.specs.CcNum.declared.target.Target.{Target}
use Rattle.cc_program.specs.CcNum.Integers.{IsValueOf}
use Rattle.cc_program.specs.CcNum.Results.{one_if}
use Rattle.cc_program.proofs.CcNum.ResultLaws.{truth_value}
use Rattle.cc_places.specs.declared.abs.Abs.{Abs}
use Rattle.cc_state_operators.specs.Domains.{Domain, IsHull, IsHullFrom, AllOf, MayBe}
use Rattle.cc_state_operators.specs.Operands.{AreTruths}
use Rattle.cc_state_operators.specs.Results.{ByBoth, ByEither, IsZeroOrOne}

-- what the order of a domain keeps
pub record IsOrder {I : Type 0} (d : Domain I) : Type 0 where
  pub itself : (x : I) → d.below x x
  pub through : (x y z : I) → d.below x y → d.below y z → d.below x z
  pub grows : (x y : I) → d.below x y → (n : ℤ) → d.has x n → d.has y n

pub order_of : {I : Type 0} (d : Domain I) (alike : I → I → Type 0) → ((x y : I) → alike x y) → ((x : I) → alike x x → d.below x x) →
    ((x y z : I) → alike x y → alike y z → alike x z → d.below x y → d.below y z → d.below x z) → ((x y : I) → d.below x y → (v : ℤ) → d.has x v → d.has y v) → IsOrder d
order_of d alike all itself through grows = record { itself = λ x. itself x (all x x); through = λ x y z h k. through x y z (all x y) (all y z) (all x z) h k; grows = grows }

-- the set of one number
pub record IsNumber {I : Type 0} (d : Domain I) (m : ℤ) (x : I) : Type 0 where
  pub only : (n : ℤ) → d.has x n ↔ (n ≡ m)
  pub least : (y : I) → d.has y m → d.below x y

module _ {I : Type 0} (d : Domain I) where
  pub hull_alike : (P Q : ℤ → Type 0) (x : I) → ((n : ℤ) → P n → Q n) → ((n : ℤ) → Q n → P n) → IsHull d P x → IsHull d Q x
  hull_alike P Q x f g h = record { has_all = λ n q. h.has_all n (g n q); least = λ y k. h.least y (λ n q. k n (f n q)) }

  pub hull_none : (P : ℤ → Type 0) (x : I) → ((n : ℤ) → P n → ⊥) → ((y : I) → d.below x y) → IsHull d P x
  hull_none P x none least = record { has_all = λ n q. absurd (none n q); least = λ y k. least y }

  pub hull_one : (m : ℤ) (x : I) → IsNumber d m x → IsHull d (λ n. n ≡ m) x
  hull_one m x h = record { has_all = λ n q. (h.only n).1 q; least = λ y k. h.least y (k m refl) }

  pub number_typed : (t : IntType) (target : Target) (m : ℤ) (x : I) → IsNumber d m x → IsValueOf t target m → AllOf d t target x
  number_typed t target m x h v n k = subst (λ z. IsValueOf t target z) (sym ((h.only n).0 k)) v

  module _ (alike : I → I → Type 0) (all : (x y : I) → alike x y) (o : IsOrder d) where
    pub hull_joined : (P Q : ℤ → Type 0) (x y j : I) → IsHull d P x → IsHull d Q y → IsLeastUpperBound alike d.below x y j → IsHull d (λ n. P n ⊎ Q n) j
    hull_joined P Q x y j h k l = record {
      has_all = λ n. ⊎_elim (λ q. o.grows x j l.left n (h.has_all n q)) (λ q. o.grows y j l.right n (k.has_all n q));
      least = λ z m. l.least z (all x z) (all y z) (h.least z (λ n q. m n (inl q))) (k.least z (λ n q. m n (inr q)));
    }

    -- from a set on

    pub from_none : (P : ℤ → Type 0) (x : I) → ((n : ℤ) → P n → ⊥) → IsHullFrom d x P x
    from_none P x none = record { above = o.itself x; has_all = λ n q. absurd (none n q); least = λ y h k. h }

    pub from_number : (P : ℤ → Type 0) (m : ℤ) (x y j : I) → IsNumber d m y → ((n : ℤ) → P n → n ≡ m) → P m → IsLeastUpperBound alike d.below x y j → IsHullFrom d x P j
    from_number P m x y j h only there l = record {
      above = l.left;
      has_all = λ n q. o.grows y j l.right n ((h.only n).1 (only n q));
      least = λ z f k. l.least z (all x z) (all y z) f (h.least z (k m there));
    }

    pub from_more : (P Q R : ℤ → Type 0) (x y z : I) → ((n : ℤ) → R n → P n ⊎ Q n) → ((n : ℤ) → P n → R n) → ((n : ℤ) → Q n → R n) → IsHullFrom d x P y → IsHullFrom d y Q z → IsHullFrom d x R z
    from_more P Q R x y z split first second h k = record {
      above = o.through x y z h.above k.above;
      has_all = λ n q. ⊎_elim (λ r. o.grows y z k.above n (h.has_all n r)) (λ r. k.has_all n r) (split n q);
      least = λ w f g. k.least w (h.least w f (λ n r. g n (first n r))) (λ n r. g n (second n r));
    }

    pub hull_more : (P Q R : ℤ → Type 0) (y z : I) → ((n : ℤ) → R n → P n ⊎ Q n) → ((n : ℤ) → P n → R n) → ((n : ℤ) → Q n → R n) → IsHull d P y → IsHullFrom d y Q z → IsHull d R z
    hull_more P Q R y z split first second h k = record {
      has_all = λ n q. ⊎_elim (λ r. o.grows y z k.above n (h.has_all n r)) (λ r. k.has_all n r) (split n q);
      least = λ w g. k.least w (h.least w (λ n r. g n (first n r))) (λ n r. g n (second n r));
    }

    -- truths

    pub zero_and_one : (x y j : I) → IsNumber d (pos 0) x → IsNumber d (pos 1) y → IsLeastUpperBound alike d.below x y j → IsHull d (AreTruths true true) j
    zero_and_one x y j h k l = hull_alike (λ n. (n ≡ pos 0) ⊎ (n ≡ pos 1)) (AreTruths true true) j (λ n. ⊎_elim (λ q. inl (refl, q)) (λ q. inr (refl, q))) (λ n. ⊎_elim (λ q. inl q.1) (λ q. inr q.1))
        (hull_joined (λ n. n ≡ pos 0) (λ n. n ≡ pos 1) x y j (hull_one (pos 0) x h) (hull_one (pos 1) y k) l)

  pub as_truths : (has_zero has_one p q : Bool) (x : I) → has_zero ≡ p → has_one ≡ q → IsHull d (AreTruths p q) x → IsHull d (AreTruths has_zero has_one) x
  as_truths has_zero has_one p q x e f h = subst (λ b. IsHull d (AreTruths b has_one) x) (sym e) (subst (λ b. IsHull d (AreTruths p b) x) (sym f) h)

  pub zero_typed : (target : Target) (x : I) → IsNumber d (pos 0) x → AllOf d int.Int target x
  zero_typed target x h = number_typed int.Int target (pos 0) x h (truth_value false int.Int target)

  pub one_typed : (target : Target) (x : I) → IsNumber d (pos 1) x → AllOf d int.Int target x
  one_typed target x h = number_typed int.Int target (pos 1) x h (truth_value true int.Int target)

  pub none_typed : (t : IntType) (target : Target) (x : I) → ((n : ℤ) → d.has x n → ⊥) → AllOf d t target x
  none_typed t target x none n k = absurd (none n k)

  pub any_truth : (x : I) → IsHull d (AreTruths true true) x → IsHull d (IsZeroOrOne d) x
  any_truth x h = hull_alike (AreTruths true true) (IsZeroOrOne d) x (λ n. ⊎_elim (λ q. inl q.1) (λ q. inr q.1)) (λ n. ⊎_elim (λ q. inl (refl, q)) (λ q. inr (refl, q))) h

  -- which truths `&&` and `||` give

  pub both_truths : (x w : Abs I) (has_zero has_one : Bool) (z : I) →
      (has_zero ≡ true → MayBe d false x ⊎ (MayBe d true x × MayBe d false w)) → (MayBe d false x ⊎ (MayBe d true x × MayBe d false w) → has_zero ≡ true) →
      (has_one ≡ true → MayBe d true x × MayBe d true w) → (MayBe d true x × MayBe d true w → has_one ≡ true) →
      IsHull d (AreTruths has_zero has_one) z → IsHull d (ByBoth d x w) z
  both_truths x w has_zero has_one z f g h k l = hull_alike (AreTruths has_zero has_one) (ByBoth d x w) z to back l
    where
      by_zero : (n : ℤ) → n ≡ pos 0 → (MayBe d false x ⊎ (MayBe d true x × MayBe d false w)) → ByBoth d x w n
      by_zero n q (inl a) = inl (a, q)
      by_zero n q (inr (a, b)) = inr (a, (false, b, q))

      by_one : (n : ℤ) → n ≡ pos 1 → (MayBe d true x × MayBe d true w) → ByBoth d x w n
      by_one n q (a, b) = inr (a, (true, b, q))

      to : (n : ℤ) → AreTruths has_zero has_one n → ByBoth d x w n
      to n (inl (t, q)) = by_zero n q (f t)
      to n (inr (t, q)) = by_one n q (h t)

      by_second : (n : ℤ) (b : Bool) → MayBe d true x → MayBe d b w → n ≡ one_if b → AreTruths has_zero has_one n
      by_second n true a c q = inr (k (a, c), q)
      by_second n false a c q = inl (g (inr (a, c)), q)

      back : (n : ℤ) → ByBoth d x w n → AreTruths has_zero has_one n
      back n (inl (a, q)) = inl (g (inl a), q)
      back n (inr (a, (b, c, q))) = by_second n b a c q

  pub either_truths : (x w : Abs I) (has_zero has_one : Bool) (z : I) →
      (has_zero ≡ true → MayBe d false x × MayBe d false w) → (MayBe d false x × MayBe d false w → has_zero ≡ true) →
      (has_one ≡ true → MayBe d true x ⊎ (MayBe d false x × MayBe d true w)) → (MayBe d true x ⊎ (MayBe d false x × MayBe d true w) → has_one ≡ true) →
      IsHull d (AreTruths has_zero has_one) z → IsHull d (ByEither d x w) z
  either_truths x w has_zero has_one z f g h k l = hull_alike (AreTruths has_zero has_one) (ByEither d x w) z to back l
    where
      by_one : (n : ℤ) → n ≡ pos 1 → (MayBe d true x ⊎ (MayBe d false x × MayBe d true w)) → ByEither d x w n
      by_one n q (inl a) = inl (a, q)
      by_one n q (inr (a, b)) = inr (a, (true, b, q))

      by_zero : (n : ℤ) → n ≡ pos 0 → (MayBe d false x × MayBe d false w) → ByEither d x w n
      by_zero n q (a, b) = inr (a, (false, b, q))

      to : (n : ℤ) → AreTruths has_zero has_one n → ByEither d x w n
      to n (inl (t, q)) = by_zero n q (f t)
      to n (inr (t, q)) = by_one n q (h t)

      by_second : (n : ℤ) (b : Bool) → MayBe d false x → MayBe d b w → n ≡ one_if b → AreTruths has_zero has_one n
      by_second n true a c q = inr (k (inr (a, c)), q)
      by_second n false a c q = inl (g (a, c), q)

      back : (n : ℤ) → ByEither d x w n → AreTruths has_zero has_one n
      back n (inl (a, q)) = inr (k (inl a), q)
      back n (inr (a, (b, c, q))) = by_second n b a c q

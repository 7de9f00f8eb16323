-- Least sets that have some integers, by the laws of a domain's order.
use Rattle.std.proofs.Common.{◌≡◌, ◌⊎◌, ◌↔◌, ℤ, ⊎_elim, refl, sym, subst, to_z, of_z}
use Rattle.std.specs.Int.{w128}
use Rattle.cc_rules_flows.specs.CcLattice.Domains.{IsIntValue}
use Rattle.cc_rules_flows.specs.CcLattice.Orders.{IsLeastUpperBound}
use Rattle.cc_program.specs.CcNum.declared.int_type.IntType.{IntType}
use Rattle.cc_program.specs.CcNum.declared.target.Target.{Target}
use Rattle.cc_program.specs.CcNum.Integers.{IsValueOf}
use Rattle.cc_rules_tests.proofs.Following.{int_same}
use Rattle.cc_rules_flows.specs.CcStateOperators.Domains.{Domain, IsHull, IsHullFrom, AllOf}

-- what the order of a domain keeps
pub record IsOrder {I : Type 0} (d : Domain I) : Type 0 where
  pub itself : (x : I) → d.below x x
  pub through : (x y z : I) → d.below x y → d.below y z → d.below x z
  pub grows : (x y : I) → d.below x y → (n : ℤ) → d.has x n → d.has y n

pub order_of : {I : Type 0} (d : Domain I) (alike : I → I → Type 0) → ((x y : I) → alike x y) → ((x : I) → alike x x → d.below x x) →
    ((x y z : I) → alike x y → alike y z → alike x z → d.below x y → d.below y z → d.below x z) → ((x y : I) → d.below x y → (v : ℤ) → d.has x v → d.has y v) → IsOrder d
order_of d alike all itself through grows = record { itself = λ x. itself x (all x x); through = λ x y z h k. through x y z (all x y) (all y z) (all x z) h k; grows = grows }

-- the set of one number
pub record IsNumber {I : Type 0} (d : Domain I) (m : ℤ) (x : I) : Type 0 where
  pub only : (n : ℤ) → d.has x n ↔ (n ≡ m)
  pub least : (y : I) → d.has y m → d.below x y

module _ {I : Type 0} (d : Domain I) where
  pub hull_alike : (P Q : ℤ → Type 0) (x : I) → ((n : ℤ) → P n → Q n) → ((n : ℤ) → Q n → P n) → IsHull d P x → IsHull d Q x
  hull_alike P Q x f g h = record { has_all = λ n q. h.has_all n (g n q); least = λ y k. h.least y (λ n q. k n (f n q)) }

  pub hull_none : (P : ℤ → Type 0) (x : I) → ((n : ℤ) → P n → ⊥) → ((y : I) → d.below x y) → IsHull d P x
  hull_none P x none least = record { has_all = λ n q. absurd (none n q); least = λ y k. least y }

  pub hull_one : (m : ℤ) (x : I) → IsNumber d m x → IsHull d (λ n. n ≡ m) x
  hull_one m x h = record { has_all = λ n q. (h.only n).1 q; least = λ y k. h.least y (k m refl) }

  pub number_typed : (t : IntType) (target : Target) (m : ℤ) (x : I) → IsNumber d m x → IsValueOf t target m → AllOf d t target x
  number_typed t target m x h v n k = subst (λ z. IsValueOf t target z) (sym ((h.only n).0 k)) v

  module _ (alike : I → I → Type 0) (all : (x y : I) → alike x y) (o : IsOrder d) where
    -- from a set on

    pub from_none : (P : ℤ → Type 0) (x : I) → ((n : ℤ) → P n → ⊥) → IsHullFrom d x P x
    from_none P x none = record { above = o.itself x; has_all = λ n q. absurd (none n q); least = λ y h k. h }

    pub from_number : (P : ℤ → Type 0) (m : ℤ) (x y j : I) → IsNumber d m y → ((n : ℤ) → P n → n ≡ m) → P m → IsLeastUpperBound alike d.below x y j → IsHullFrom d x P j
    from_number P m x y j h only there l = record {
      above = l.left;
      has_all = λ n q. o.grows y j l.right n ((h.only n).1 (only n q));
      least = λ z f k. l.least z (all x z) (all y z) f (h.least z (k m there));
    }

    pub from_more : (P Q R : ℤ → Type 0) (x y z : I) → ((n : ℤ) → R n → P n ⊎ Q n) → ((n : ℤ) → P n → R n) → ((n : ℤ) → Q n → R n) → IsHullFrom d x P y → IsHullFrom d y Q z → IsHullFrom d x R z
    from_more P Q R x y z split first second h k = record {
      above = o.through x y z h.above k.above;
      has_all = λ n q. ⊎_elim (λ r. o.grows y z k.above n (h.has_all n r)) (λ r. k.has_all n r) (split n q);
      least = λ w f g. k.least w (h.least w f (λ n r. g n (first n r))) (λ n r. g n (second n r));
    }

    pub hull_more : (P Q R : ℤ → Type 0) (y z : I) → ((n : ℤ) → R n → P n ⊎ Q n) → ((n : ℤ) → P n → R n) → ((n : ℤ) → Q n → R n) → IsHull d P y → IsHullFrom d y Q z → IsHull d R z
    hull_more P Q R y z split first second h k = record {
      has_all = λ n q. ⊎_elim (λ r. o.grows y z k.above n (h.has_all n r)) (λ r. k.has_all n r) (split n q);
      least = λ w g. k.least w (h.least w (λ n r. g n (first n r))) (λ n r. g n (second n r));
    }

-- the set of a number that was read
pub number_read : {I : Type 0} (d : Domain I) (m : ℤ) (x : I) → IsIntValue m → ((w : ℤ) → d.has x w ↔ (w ≡ to_z w128 (of_z w128 m))) → ((y : I) → d.has y (to_z w128 (of_z w128 m)) → d.below x y) → IsNumber d m x
number_read d m x h only least = subst (λ z. IsNumber d z x) (int_same m h) (record { only = only; least = least })

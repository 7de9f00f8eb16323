-- What is in two sets of values of a type is of that type where both are joined: numbers by the laws of the domain, and addresses since what
-- sets keep of an address that may stand there may stand there too.
use Rattle.std.proofs.Common.{ℤ}
use Rattle.cc_program.proofs.CcNum.ResultLaws.{is_value_from, value_from_test}
use Rattle.cc_program.specs.CcNum.Integers.{IsValueOf}
use Rattle.cc_program.specs.CcNum.declared.int_type.IntType.{IntType}
use Rattle.cc_program.specs.CcNum.declared.target.Target.{Target}
use Rattle.cc_rules_grow.specs.CcPlaces.Abstract.{IsBelowAbs}
use Rattle.cc_rules_grow.specs.CcPlaces.declared.abs.Abs.{Abs}
use Rattle.cc_rules_grow.specs.CcPlaces.declared.abs.Abs.TheVariants as abs
use Rattle.cc_rules_grow.specs.CcPlaces.declared.addrs.Addrs.{Addrs}
use Rattle.cc_program.specs.declared.program.Program.{Program}
use Rattle.cc_rules_grow.specs.CcState.Shape.{MayPoint, IsSetIn}
use Rattle.cc_rules_grow.specs.CcStateOperators.Domains.{Domain}
use Rattle.cc_state_values_fit.proofs.Names.{point_kept}
use Rattle.cc_state_values_fit.proofs.CcStateValuesGrow.Joins.{both_all}
use Rattle.cc_rules_grow.specs.CcSyntax.Values.{ValueType, NoValue, Integer, ToObject, ToFunction}

-- ---- joins

pub record JoinsTyped {I : Type 0} (d : Domain I) : Type 0 where
  pub itself : (x : I) → d.below x x
  pub by_members : (x y : I) → ((n : ℤ) → d.has x n → d.has y n) → d.below x y
  pub grows : (x y : I) → d.below x y → (n : ℤ) → d.has x n → d.has y n
  pub typed : (x y j : I) (t : IntType) (target : Target) → d.below x j → d.below y j → ((u : I) → d.below x u → d.below y u → d.below j u) → ((n : ℤ) → d.has x n → IsValueOf t target n) → ((n : ℤ) → d.has y n → IsValueOf t target n) →
      (n : ℤ) → d.has j n → IsValueOf t target n

module _ {I : Type 0} (d : Domain I) (o : JoinsTyped d) (p : Program) where
  -- the least of what is above two
  pub record IsLeastAbove (x y z : Abs I) : Type 0 where
    pub left : IsBelowAbs d.below x z
    pub right : IsBelowAbs d.below y z
    pub least : (u : Abs I) → IsBelowAbs d.below x u → IsBelowAbs d.below y u → IsBelowAbs d.below z u

  ints_in : (t : ValueType) (x y z : I) → IsSetIn p d t (abs.Ints x) → IsSetIn p d t (abs.Ints y) → IsLeastAbove (abs.Ints x) (abs.Ints y) (abs.Ints z) → IsSetIn p d t (abs.Ints z)
  ints_in NoValue x y z h l j = λ n m. h n (o.grows z x (j.least (abs.Ints x) (o.itself x) (o.by_members y x (λ i q. absurd (l i q)))) n m)
  ints_in (Integer t) x y z h l j = λ n m. is_value_from t p.target n
      (o.typed x y z t p.target j.left j.right (λ u a b. j.least (abs.Ints u) a b) (λ i q. value_from_test t p.target i (h i q)) (λ i q. value_from_test t p.target i (l i q)) n m)
  ints_in (ToObject c v to) x y z h l j = absurd h
  ints_in (ToFunction sig) x y z h l j = absurd h

  addresses_in : (t : ValueType) (r s u : Addrs) → IsSetIn p d t (abs.Addrs r) → IsSetIn p d t (abs.Addrs s) → IsLeastAbove (abs.Addrs r) (abs.Addrs s) (abs.Addrs u) → IsSetIn p d t (abs.Addrs u)
  addresses_in NoValue r s u h l j = absurd h
  addresses_in (Integer t) r s u h l j = absurd h
  addresses_in (ToObject c v to) r s u h l j = both_all (MayPoint p (ToObject c v to)) (point_kept p (ToObject c v to)) r s u h l j.left j.right (λ w a b. j.least (abs.Addrs w) a b)
  addresses_in (ToFunction sig) r s u h l j = both_all (MayPoint p (ToFunction sig)) (point_kept p (ToFunction sig)) r s u h l j.left j.right (λ w a b. j.least (abs.Addrs w) a b)

  pub join_in : (t : ValueType) (x y z : Abs I) → IsSetIn p d t x → IsSetIn p d t y → IsLeastAbove x y z → IsSetIn p d t z
  join_in t (abs.Ints x) (abs.Ints y) (abs.Ints z) h l j = ints_in t x y z h l j
  join_in t (abs.Addrs r) (abs.Addrs s) (abs.Addrs u) h l j = addresses_in t r s u h l j
  join_in t (abs.Ints x) (abs.Ints y) (abs.Addrs u) h l j = absurd j.left
  join_in t (abs.Ints x) (abs.Addrs s) (abs.Ints z) h l j = absurd j.right
  join_in t (abs.Ints x) (abs.Addrs s) (abs.Addrs u) h l j = absurd j.left
  join_in t (abs.Addrs r) y (abs.Ints z) h l j = absurd j.left
  join_in t (abs.Addrs r) (abs.Ints y) (abs.Addrs u) h l j = absurd j.right

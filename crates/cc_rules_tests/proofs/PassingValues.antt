-- The values of a set with which a test passes.
use Rattle.std.proofs.Common.{arith, ◌≡◌, ◌≢◌, ◌⊎◌, ◌↔◌, ℕ, ℤ, to_z, of_z, ◌≤ℤ◌, nat_eq, eqb, length, inl, inr, Bool, true, false, not, IsTrue, List, [], ◌∷◌, refl, ap, sym, subst, ◌∙◌}
use Rattle.std.specs.List.{Contains}
use Rattle.std.specs.Int.{w128}
use Rattle.std.proofs.lemmas.Bool.Decides.{eqb_tells}
use Rattle.cc_rules_flows.specs.CcLattice.Domains.{AreEnds, IsInReach}
use Rattle.cc_rules_flows.specs.CcPlaces.declared.abs.Abs.{Abs}
use Rattle.cc_rules_flows.specs.CcPlaces.declared.abs.Abs.TheVariants as abs
use Rattle.cc_rules_flows.specs.CcPlaces.declared.addrs.Addrs.{Addrs}
use Rattle.cc_rules_flows.specs.CcPlaces.laws.ListLaws.{at_head, none_in}
use Rattle.cc_rules_flows.specs.CcPlaces.laws.SetLaws.{has_member}
use Rattle.cc_rules_flows.specs.CcPlaces.Kept.{member_for}
use Rattle.cc_program.specs.declared.value.Address.{Address}
use Rattle.cc_program.specs.declared.value.Value.TheVariants.{Int, Place}
use Rattle.cc_rules_flows.specs.Tests.{Differs, Equals}
use Rattle.cc_rules_tests.proofs.Following.{reach_same}
use Rattle.cc_rules_tests.specs.Passing.{HasOther, HasOtherBetween, MayPassIn}
use Rattle.cc_rules_flows.specs.CcStateOperators.Domains.{Domain}

pub by_members : (has : ℤ → Type 0) (members others : List ℤ) (b : Bool) → ((v : ℤ) → Contains members v ↔ has v) → (IsTrue b ↔ HasOther (Contains members) others) → (IsTrue b ↔ HasOther has others)
by_members has members others b all tells = (
  (λ k. let w = tells.0 k in (w.0, (all w.0).0 w.1, w.2)),
  (λ w. tells.1 (w.0, (all w.0).1 w.1, w.2)),
)

pub by_range : (has : ℤ → Type 0) (low high : ℤ) (others : List ℤ) (b : Bool) → AreEnds has (low, high) → ((v : ℤ) → low ≤ℤ v → v ≤ℤ high → has v) → (IsTrue b ↔ HasOtherBetween low high others) → (IsTrue b ↔ HasOther has others)
by_range has low high others b ends all tells = (
  (λ k. let w = tells.0 k in (w.0, all w.0 w.1.0 w.1.1, w.2)),
  (λ w. tells.1 (w.0, (ends.low w.0 w.1, ends.high w.0 w.1), w.2)),
)

pub by_range_read : (has : ℤ → Type 0) (low high : ℤ) (others : List ℤ) (b : Bool) → IsInReach low → IsInReach high → AreEnds has (low, high) → ((v : ℤ) → low ≤ℤ v → v ≤ℤ high → has v) →
    (IsTrue b ↔ HasOtherBetween (to_z w128 (of_z w128 low)) (to_z w128 (of_z w128 high)) others) → (IsTrue b ↔ HasOther has others)
by_range_read has low high others b l h ends all tells =
    by_range has low high others b ends all (subst (λ z. IsTrue b ↔ HasOtherBetween z high others) (reach_same low l) (subst (λ z. IsTrue b ↔ HasOtherBetween (to_z w128 (of_z w128 low)) z others) (reach_same high h) tells))

pub by_none : (has : ℤ → Type 0) (others : List ℤ) → ((v : ℤ) → has v → ⊥) → (IsTrue false ↔ HasOther has others)
by_none has others none = ((λ k. let e : false ≡ true = k in absurd (cc)), (λ w. absurd (none w.0 w.1)))

same_number : (m n : ℤ) → Int m ≡ Int n → m ≡ n
same_number m n h = cc

no_number : {A : Type 0} (a : Address) (n : ℤ) → Place a ≡ Int n → A
no_number a n h = absurd (cc)

module _ {I : Type 0} (d : Domain I) where
  pub label_told : (y : Abs I) (x : I) (n : ℤ) (b : Bool) → y ≡ abs.Ints x → (IsTrue b ↔ d.has x n) → (IsTrue b ↔ MayPassIn d (Equals n) y)
  label_told y x n b e tells = subst (λ z. IsTrue b ↔ MayPassIn d (Equals n) z) (sym e) ((λ k. (Int n, tells.0 k, refl)), back)
    where
      back : MayPassIn d (Equals n) (abs.Ints x) → IsTrue b
      back (Int m, h, k) = tells.1 (subst (d.has x) (same_number m n k) h)
      back (Place a, h, k) = absurd h

  pub no_label : (y : Abs I) (s : Addrs) (n : ℤ) → y ≡ abs.Addrs s → (IsTrue false ↔ MayPassIn d (Equals n) y)
  no_label y s n e = subst (λ z. IsTrue false ↔ MayPassIn d (Equals n) z) (sym e) ((λ k. let f : false ≡ true = k in absurd (cc)), back)
    where
      back : MayPassIn d (Equals n) (abs.Addrs s) → IsTrue false
      back (Int m, h, k) = absurd h
      back (Place a, h, k) = no_number a n k

  pub other_told : (y : Abs I) (x : I) (ns : List ℤ) (b : Bool) → y ≡ abs.Ints x → (IsTrue b ↔ HasOther (d.has x) ns) → (IsTrue b ↔ MayPassIn d (Differs ns) y)
  other_told y x ns b e tells = subst (λ z. IsTrue b ↔ MayPassIn d (Differs ns) z) (sym e) ((λ k. to (tells.0 k)), back)
    where
      to : HasOther (d.has x) ns → MayPassIn d (Differs ns) (abs.Ints x)
      to (v, h, c) = (Int v, h, λ n k q. c (subst (Contains ns) (sym (same_number v n q)) k))

      back : MayPassIn d (Differs ns) (abs.Ints x) → IsTrue b
      back (Int v, h, f) = tells.1 (v, h, λ k. f v k refl)
      back (Place a, h, f) = absurd h

  differ_by : (a b : ℕ) → (a ≡ b → ⊥) → ((eqb a b ≡ true) × (a ≡ b)) ⊎ ((eqb a b ≡ false) × (a ≢ b)) → nat_eq a b ≡ false
  differ_by a b f (inl h) = absurd (f h.1)
  differ_by a b f (inr h) = h.0

  differ : (a b : ℕ) → (a ≡ b → ⊥) → nat_eq a b ≡ false
  differ a b f = differ_by a b f (eqb_tells a b)

  by_list : (s : Addrs) (ns : List ℤ) (members : List Address) → members ≡ s.members → (MayPassIn d (Differs ns) (abs.Addrs s) → members ≡ [] → ⊥) × ((a : Address) → Contains members a → MayPassIn d (Differs ns) (abs.Addrs s))
  by_list s ns members e = (none, (λ a c. (Place a, has_member s a (subst (λ l. Contains l a) e c), λ n k q. no_number a n q)))
    where
      none : MayPassIn d (Differs ns) (abs.Addrs s) → members ≡ [] → ⊥
      none (Int v, h, f) k = absurd h
      none (Place a, h, f) k = none_in (member_for s.is_exact a) (subst (λ l. Contains l (member_for s.is_exact a)) (sym e ∙ k) h)

  filled_told : (s : Addrs) (ns : List ℤ) (members : List Address) → members ≡ s.members → (IsTrue (not (nat_eq (length members) 0)) ↔ MayPassIn d (Differs ns) (abs.Addrs s))
  filled_told s ns [] e = ((λ k. let f : false ≡ true = k in absurd (cc)), (λ k. absurd ((by_list s ns [] e).0 k refl)))
  filled_told s ns (a ∷ rest) e = ((λ k. (by_list s ns (a ∷ rest) e).1 a (at_head a rest)), (λ k. ap not (differ (length (a ∷ rest)) 0 (λ m. omega (arith, m)))))

  pub addresses_told : (y : Abs I) (s : Addrs) (ns : List ℤ) (members : List Address) (b : Bool) → y ≡ abs.Addrs s → members ≡ s.members → b ≡ nat_eq (length members) 0 → (IsTrue (not b) ↔ MayPassIn d (Differs ns) y)
  addresses_told y s ns members b e f g = subst (λ z. IsTrue (not b) ↔ MayPassIn d (Differs ns) z) (sym e) (subst (λ c. IsTrue (not c) ↔ MayPassIn d (Differs ns) (abs.Addrs s)) (sym g) (filled_told s ns members f))

-- Sets of one value, of none, and with one more value.
use Rattle.std.proofs.Common.{arith, ◌≡◌, ℤ, to_z, of_z, ◌⊎◌, ⊎_elim, List, [], refl, sym, subst}
use Rattle.std.specs.List.{Contains}
use Rattle.std.specs.Prelude.{◌↔◌}
use Rattle.std.specs.Int.{w128}
use Rattle.std.proofs.lemmas.Int.{ints}
use Rattle.cc_rules_asked.specs.CcLattice.Domains.{IsIntValue}
use Rattle.cc_rules_asked.specs.CcLattice.Orders.{IsLeastUpperBound}
use Rattle.cc_rules_asked.specs.CcPlaces.declared.abs.Abs.{Abs}
use Rattle.cc_rules_asked.specs.CcPlaces.declared.abs.Abs.TheVariants as abs
use Rattle.cc_rules_asked.specs.CcPlaces.declared.addrs.Addrs.{Addrs}
use Rattle.cc_rules_asked.specs.CcPlaces.Abstract.{AreOfOneKind, IsBelowAbs, HasValue}
use Rattle.cc_rules_asked.specs.CcPlaces.Kept.{member_for}
use Rattle.cc_rules_asked.specs.CcPlaces.laws.SetLaws.{set_has, set_in}
use Rattle.cc_rules_asked.specs.CcPlaces.Sets.{HasAddress, IsWithin}
use Rattle.cc_program.specs.declared.value.Address.{Address}
use Rattle.cc_program.specs.declared.value.Value.{Value}
use Rattle.cc_program.specs.declared.value.Value.TheVariants as value
use Rattle.cc_rules_firsts.specs.Firsts.{IsOfKindOf, IsLeastWith, IsNoneOf, IsWith, IsLeastOf}
use Rattle.cc_rules_grow.proofs.CcState.Lists.{no_member}
use Rattle.cc_rules_asked.specs.CcStateOperators.Addresses.{IsOnly}

-- a number, as the code has it
pub exact : (v : ℤ) → IsIntValue v → to_z w128 (of_z w128 v) ≡ v
exact v h = let l = h.least in let m = h.most in omega (arith, ints)

-- ---- no value

empty_within : (s u : Addrs) → s.members ≡ [] → IsWithin s u
empty_within s u e a h = no_member (member_for s.is_exact a) (subst (λ (ms : List Address). Contains ms (member_for s.is_exact a)) e h)

pub no_address : {I : Type 0} (below : I → I → Type 0) (t s : Addrs) → s.members ≡ [] → IsNoneOf below (abs.Addrs t) (abs.Addrs s)
no_address {I = I} below t s e = record { alike = tt; least = by }
  where
    by : (u : Abs I) → AreOfOneKind (abs.Addrs t) u → IsBelowAbs below (abs.Addrs s) u
    by (abs.Ints y) k = absurd k
    by (abs.Addrs u) k = empty_within s u e

pub no_number : {I : Type 0} (below : I → I → Type 0) (t x : I) → ((y : I) → below x y) → IsNoneOf below (abs.Ints t) (abs.Ints x)
no_number {I = I} below t x least = record { alike = tt; least = by }
  where
    by : (u : Abs I) → AreOfOneKind (abs.Ints t) u → IsBelowAbs below (abs.Ints x) u
    by (abs.Ints y) k = least y
    by (abs.Addrs s) k = absurd k

-- ---- one value

module _ {I : Type 0} (has : I → ℤ → Type 0) (below : I → I → Type 0) where
  pub number_least : (n : ℤ) (x : I) → IsIntValue n → ((w : ℤ) → has x w ↔ (w ≡ to_z w128 (of_z w128 n))) → ((y : I) → has y (to_z w128 (of_z w128 n)) → below x y) → IsLeastWith has below (value.Int n) (abs.Ints x)
  number_least n x h only least = record { has_it = (only n).1 (sym (exact n h)); least = by }
    where
      by : (u : Abs I) → HasValue has u (value.Int n) → IsBelowAbs below (abs.Ints x) u
      by (abs.Ints y) k = least y (subst (has y) (sym (exact n h)) k)
      by (abs.Addrs s) k = absurd k

  pub address_least : (a : Address) (s : Addrs) → IsOnly a s → IsLeastWith has below (value.Place a) (abs.Addrs s)
  address_least a s is = record { has_it = set_has (λ (b : Address). b ≡ a) s is a refl; least = by }
    where
      by : (u : Abs I) → HasValue has u (value.Place a) → IsBelowAbs below (abs.Addrs s) u
      by (abs.Ints y) k = absurd k
      by (abs.Addrs u) k = set_in (λ (b : Address). b ≡ a) s u is (λ b e. subst (HasAddress u) (sym e) k)

  -- ---- one value more

  kind_of_below : (x u : Abs I) → IsBelowAbs below x u → AreOfOneKind x u
  kind_of_below (abs.Ints x) (abs.Ints y) h = tt
  kind_of_below (abs.Ints x) (abs.Addrs s) h = absurd h
  kind_of_below (abs.Addrs s) (abs.Ints y) h = absurd h
  kind_of_below (abs.Addrs s) (abs.Addrs t) h = tt

  pub kind_through : (x y z : Abs I) → AreOfOneKind x y → AreOfOneKind y z → AreOfOneKind x z
  kind_through (abs.Ints x) (abs.Ints y) z h k = k
  kind_through (abs.Ints x) (abs.Addrs s) z h k = absurd h
  kind_through (abs.Addrs s) (abs.Ints y) z h k = absurd h
  kind_through (abs.Addrs s) (abs.Addrs t) z h k = k

  pub kind_kept : (x y : Abs I) (v : Value) → AreOfOneKind x y → IsOfKindOf x v → IsOfKindOf y v
  kind_kept (abs.Ints x) (abs.Ints y) (value.Int n) h k = tt
  kind_kept (abs.Ints x) (abs.Ints y) (value.Place a) h k = absurd k
  kind_kept (abs.Ints x) (abs.Addrs s) v h k = absurd h
  kind_kept (abs.Addrs s) (abs.Ints y) v h k = absurd h
  kind_kept (abs.Addrs s) (abs.Addrs t) (value.Int n) h k = absurd k
  kind_kept (abs.Addrs s) (abs.Addrs t) (value.Place a) h k = tt

  -- a set, and that of a value of its kind
  pub kind_fits : (x one : Abs I) (v : Value) → IsOfKindOf x v → HasValue has one v → AreOfOneKind x one
  kind_fits (abs.Ints x) (abs.Ints y) v h k = tt
  kind_fits (abs.Ints x) (abs.Addrs s) (value.Int n) h k = absurd k
  kind_fits (abs.Ints x) (abs.Addrs s) (value.Place a) h k = absurd h
  kind_fits (abs.Addrs s) (abs.Ints y) (value.Int n) h k = absurd h
  kind_fits (abs.Addrs s) (abs.Ints y) (value.Place a) h k = absurd k
  kind_fits (abs.Addrs s) (abs.Addrs t) v h k = tt

  module _ (below_has : (x y : I) → below x y → (n : ℤ) → has x n → has y n) where
    pub value_above : (x y : Abs I) (v : Value) → IsBelowAbs below x y → HasValue has x v → HasValue has y v
    value_above (abs.Ints x) (abs.Ints y) (value.Int n) l h = below_has x y l n h
    value_above (abs.Ints x) (abs.Ints y) (value.Place a) l h = absurd h
    value_above (abs.Ints x) (abs.Addrs s) v l h = absurd l
    value_above (abs.Addrs s) (abs.Ints y) v l h = absurd l
    value_above (abs.Addrs s) (abs.Addrs t) (value.Int n) l h = absurd h
    value_above (abs.Addrs s) (abs.Addrs t) (value.Place a) l h = l a h

    pub value_joined : (x one both : Abs I) (v : Value) → IsLeastWith has below v one → IsLeastUpperBound AreOfOneKind (IsBelowAbs below) x one both → IsWith has below x (λ w. w ≡ v) both
    value_joined x one both v least l = record {
      alike = l.left_alike;
      above = l.left;
      has_all = λ w e. subst (HasValue has both) (sym e) (value_above one both v l.right least.has_it);
      least = λ u a k. (let b = least.least u (k v refl) in l.least u (kind_of_below x u a) (kind_of_below one u b) a b);
    }

    -- ---- several more

    module _ (through : (x y z : I) → below x y → below y z → below x z) where
      below_on : (x y z : Abs I) → IsBelowAbs below x y → IsBelowAbs below y z → IsBelowAbs below x z
      below_on (abs.Ints x) (abs.Ints y) (abs.Ints z) h k = through x y z h k
      below_on (abs.Ints x) (abs.Ints y) (abs.Addrs s) h k = absurd k
      below_on (abs.Ints x) (abs.Addrs s) z h k = absurd h
      below_on (abs.Addrs s) (abs.Ints y) z h k = absurd h
      below_on (abs.Addrs s) (abs.Addrs t) (abs.Ints z) h k = absurd k
      below_on (abs.Addrs s) (abs.Addrs t) (abs.Addrs u) h k = λ a m. k a (h a m)

      pub then_more : (x y z : Abs I) (A B C : Value → Type 0) → ((v : Value) → C v → A v ⊎ B v) → ((v : Value) → A v → C v) → ((v : Value) → B v → C v) → IsWith has below x A y → IsWith has below y B z → IsWith has below x C z
      then_more x y z A B C split first second h k = record {
        alike = kind_through x y z h.alike k.alike;
        above = below_on x y z h.above k.above;
        has_all = λ v c. ⊎_elim (λ a. value_above y z v k.above (h.has_all v a)) (λ b. k.has_all v b) (split v c);
        least = λ u l f. k.least u (h.least u l (λ v a. f v (first v a))) (λ v b. f v (second v b));
      }

  itself_of : ((x : I) → below x x) → (x : Abs I) → IsBelowAbs below x x
  itself_of itself (abs.Ints x) = itself x
  itself_of itself (abs.Addrs s) = λ a h. h

  pub none_more : ((x : I) → below x x) → (x : Abs I) (image : Value → Type 0) → ((v : Value) → image v → ⊥) → IsWith has below x image x
  none_more itself x image none = record { alike = kind_of_below x x (itself_of itself x); above = itself_of itself x; has_all = λ v h. absurd (none v h); least = λ u a k. a }

  pub same_more : (x y : Abs I) (A C : Value → Type 0) → ((v : Value) → C v → A v) → ((v : Value) → A v → C v) → IsWith has below x A y → IsWith has below x C y
  same_more x y A C from into h = record { alike = h.alike; above = h.above; has_all = λ v c. h.has_all v (from v c); least = λ u l f. h.least u l (λ v a. f v (into v a)) }

  -- of a kind, from an empty one on
  pub least_of : (kind x y : Abs I) (image : Value → Type 0) → IsNoneOf below kind x → IsWith has below x image y → IsLeastOf has below kind image y
  least_of kind x y image none h = record { alike = kind_through kind x y none.alike h.alike; has_all = h.has_all; least = λ u k f. h.least u (none.least u k) f }

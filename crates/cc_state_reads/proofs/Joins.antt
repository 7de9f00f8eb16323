-- The union of the whole-run sets of keys, as far as a loop over them has come.
use Rattle.std.proofs.Common.{◌≡◌, ◌<◌, ◌≤◌, ◌+◌, ℕ, true, false, List, [], Some, length, take, get_or, ⊎_elim, ap, sym, ◌∙◌, subst}
use Rattle.std.proofs.lemmas.List.{get_or_default}
use Rattle.std.proofs.lemmas.Option.{same_Some}
use Rattle.cc_state_values.specs.CcLattice.Orders.{IsLeastUpperBound}
use Rattle.cc_state_values.specs.CcPlaces.Abstract.{AreOfOneKind, IsBelowAbs}
use Rattle.cc_state_values.specs.CcPlaces.declared.abs.Abs.{Abs}
use Rattle.cc_state_values.specs.CcPlaces.declared.abs.Abs.TheVariants as abs
use Rattle.cc_state_values.specs.CcPlaces.laws.AbstractLaws.{kind_back, abs_through}
use Rattle.cc_state_values.specs.CcPlaces.laws.ListLaws.{none_in, taken_cases, taken_before, taken_now, all_taken}
use Rattle.cc_program.specs.declared.program.Program.{Program}
use Rattle.cc_state_keys.specs.CcStateFacts.declared.facts.Facts.{Facts}
use Rattle.cc_state_keys.specs.CcStateFacts.declared.facts.Key.{Key}
use Rattle.cc_state_values.specs.CcStateOperators.Domains.{Domain, IsUnion}
use Rattle.cc_state_reads.specs.Reads.{IsOfKind, IsOfKeys, whole_of}
use Rattle.cc_state_keys.specs.CcSyntax.Values.{ValueType}

-- what stands at a place
pub item_at : {X : Type 0} (xs : List X) (i : ℕ) (d : X) → i < length xs → get_or xs i d ≡ get_or xs i (get_or xs i d)
item_at xs i d l = get_or_default xs i d (get_or xs i d) l

pub kinds_through : {I : Type 0} (x y z : Abs I) → AreOfOneKind x y → AreOfOneKind y z → AreOfOneKind x z
kinds_through (abs.Ints a) (abs.Ints b) (abs.Ints c) h k = tt
kinds_through (abs.Ints a) (abs.Ints b) (abs.Addrs t) h k = absurd k
kinds_through (abs.Ints a) (abs.Addrs s) z h k = absurd h
kinds_through (abs.Addrs s) (abs.Ints b) z h k = absurd h
kinds_through (abs.Addrs s) (abs.Addrs t) (abs.Ints c) h k = absurd k
kinds_through (abs.Addrs s) (abs.Addrs t) (abs.Addrs u) h k = tt

-- values of the kind of one type are of one kind
pub kinds_of : {I : Type 0} (t : ValueType) (x y : Abs I) → IsOfKind t x → IsOfKind t y → AreOfOneKind x y
kinds_of t (abs.Ints a) (abs.Ints b) h k = tt
kinds_of t (abs.Ints a) (abs.Addrs s) h k = let e : false ≡ true = sym h ∙ k in absurd (cc)
kinds_of t (abs.Addrs s) (abs.Ints b) h k = let e : true ≡ false = sym h ∙ k in absurd (cc)
kinds_of t (abs.Addrs s) (abs.Addrs r) h k = tt

module _ {I : Type 0} (d : Domain I) (alike : I → I → Type 0) (all : (x y : I) → alike x y)
    (through : (x y z : I) → alike x y → alike y z → alike x z → d.below x y → d.below y z → d.below x z) (p : Program) (facts : Facts I) (none : Abs I) where
  abbrev Union : List Key → Abs I → Type 0
  Union keys y = IsUnion d none (IsOfKeys p facts keys) y

  pub union_none : IsUnion d none (λ z. ⊥) none → Union [] none
  union_none h = record { alike = h.alike; above = λ z w. absurd (none_in w.0 w.1); least = λ u k f. h.least u k (λ z w. absurd w) }

  pub union_more : (keys : List Key) (i : ℕ) (k : Key) (y z j : Abs I) → i < length keys → k ≡ get_or keys i k → whole_of p facts k ≡ Some z →
      IsLeastUpperBound AreOfOneKind (IsBelowAbs d.below) y z j → Union (take i keys) y → Union (take (i + 1) keys) j
  union_more keys i k y z j l e w b h = record { alike = kinds_through none y j h.alike b.left_alike; above = above; least = least }
    where
      own : (v : Abs I) (m : Key) → whole_of p facts m ≡ Some v → k ≡ m → IsBelowAbs d.below v j
      own v m o s = subst (λ r. IsBelowAbs d.below r j) (same_Some z v (sym w ∙ (ap (whole_of p facts) s ∙ o))) b.right

      above : (v : Abs I) → IsOfKeys p facts (take (i + 1) keys) v → IsBelowAbs d.below v j
      above v (m, c, o) =
          ⊎_elim (λ before. abs_through alike d.below through all v y j (h.above v (m, before, o)) b.left) (λ s. own v m o s) (taken_cases keys i k m l e c)

      own_kind : AreOfOneKind z none
      own_kind = kinds_through z j none b.right_alike (kind_back none j (kinds_through none y j h.alike b.left_alike))

      least : (u : Abs I) → AreOfOneKind none u → ((v : Abs I) → IsOfKeys p facts (take (i + 1) keys) v → IsBelowAbs d.below v u) → IsBelowAbs d.below j u
      least u a f =
          b.least u (kinds_through y none u (kind_back none y h.alike) a) (kinds_through z none u own_kind a)
          (h.least u a (λ v x. f v (x.0, taken_before keys i k x.0 l e x.1, x.2)))
          (f z (k, taken_now keys i k l e, w))

  pub union_next : (keys : List Key) (i : ℕ) (k : Key) (y j : Abs I) → i < length keys → k ≡ get_or keys i k → ((z : Abs I) × (whole_of p facts k ≡ Some z) × IsLeastUpperBound AreOfOneKind (IsBelowAbs d.below) y z j) →
      Union (take i keys) y → Union (take (i + 1) keys) j
  union_next keys i k y j l e (z, w, b) h = union_more keys i k y z j l e w b h

  pub union_all : (keys : List Key) (i : ℕ) (y : Abs I) → length keys ≤ i → Union (take i keys) y → Union keys y
  union_all keys i y l h = subst (λ ks. Union ks y) (all_taken keys i l) h

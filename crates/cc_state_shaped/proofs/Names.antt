-- Of which cells an address may stand in a set, as a test and as it is said.
use Rattle.std.proofs.Common.{arith, ◌≡◌, ◌↔◌, ◌<◌, eqb, ℕ, zero, suc, Bool, true, false, IsTrue, not, ◌||◌, List, [], ◌∷◌, length, get_or, map, Option, Some, None, slice_get, refl, ap, sym, ◌∙◌, subst}
use denote.Ref.{Bor}
use Rattle.std.specs.List.{All, Contains, list_any}
use Rattle.std.specs.Option.{IfSome, option_copied, option_map}
use Rattle.std.proofs.lemmas.Option.{same_Some, none-some, slice_get-get_or, slice_get-map}
use Rattle.std.proofs.lemmas.List.Folds.{list_any_at}
use Rattle.cc_state_reads.specs.CcPlaces.declared.addrs.Addrs.{Addrs}
use Rattle.cc_program.specs.declared.program.Program.{Program}
use Rattle.cc_program.specs.declared.types.CType.{CType}
use Rattle.cc_program.specs.declared.value.Address.{Address}
use Rattle.cc_state.proofs.Lists.{any_there, same_key, is_itself}
use Rattle.cc_state.proofs.Numbered.{key_at}
use Rattle.cc_state.specs.Shape.{ctype_of, IsSlot, MayPoint, HoldsPointers}
use Rattle.cc_state_reads.specs.CcStateFacts.declared.facts.Key.{Key}
use Rattle.cc_state_reads.specs.CcStateFacts.declared.facts.Key.TheVariants as key
use Rattle.cc_state_reads.specs.CcStateKeys.Addressed.{taken_keys, IsAddressed}
use Rattle.cc_state_reads.specs.CcStateKeys.Keys.{is_key, key_number, keys_of}
use Rattle.cc_state_shaped.proofs.Filled.{each_contained, all_from_each}
use Rattle.cc_state_shaped.proofs.Tests.{as_said}
use Rattle.cc_state_shaped.specs.Names.{is_slot_of, may_name, HaveSame}
use Rattle.cc_state_reads.specs.CcSyntax.Values.{ValueType, NoValue, Integer, ToObject, ToFunction}

then_other : (b other : Bool) → (not b || other) ≡ true → b ≡ true → other ≡ true
then_other true other h e = h
then_other false other h e = absurd (cc)

if_other : (b other : Bool) → (b ≡ true → other ≡ true) → (not b || other) ≡ true
if_other true other h = h refl
if_other false other h = refl

module _ (p : Program) (k : Key) where
  slot_is : IsSlot p k → is_slot_of k (ctype_of p k) ≡ true
  slot_is s = ap (is_slot_of k) s.1 ∙ s.2

  is_slot : (o : Option CType) → ctype_of p k ≡ o → is_slot_of k o ≡ true → IsSlot p k
  is_slot None e h = absurd (cc)
  is_slot (Some t) e h = (t, e, h)

  addressed : list_any (is_key k) (taken_keys p) ≡ true → IsAddressed p k
  addressed h = let w = any_there (is_key k) (taken_keys p) h in subst (Contains (taken_keys p)) (sym (same_key k w.0 w.2)) w.1

  among : IsAddressed p k → list_any (is_key k) (taken_keys p) ≡ true
  among c = list_any_at (is_key k) (taken_keys p) c.0 k c.1 (ap (is_key k) c.2 ∙ is_itself k)

  named_if : may_name p k ≡ true → IsSlot p k → IsAddressed p k
  unfolding may_name
  named_if h s = addressed (then_other (is_slot_of k (ctype_of p k)) (list_any (is_key k) (taken_keys p)) h (slot_is s))

  named_only : (IsSlot p k → IsAddressed p k) → may_name p k ≡ true
  unfolding may_name
  named_only h = if_other (is_slot_of k (ctype_of p k)) (list_any (is_key k) (taken_keys p)) (λ e. among (h (is_slot (ctype_of p k) refl e)))

-- an address that is named and one that is not, where the key of its cell is worked
pub named : (p : Program) (k own : Key) (n there may : Bool) → own ≡ k → there ≡ n → there ≡ true → may ≡ may_name p own → (IsTrue may ↔ ((n ≡ true) × (IsSlot p k → IsAddressed p k)))
named p k own n there may same is held e =
    let f : may ≡ may_name p k = e ∙ ap (may_name p) same in
    ((λ h. (sym is ∙ held, named_if p k (sym f ∙ h))), (λ h. f ∙ named_only p k h.1))

pub unnamed : (p : Program) (k : Key) (n there : Bool) → there ≡ n → there ≡ false → (IsTrue false ↔ ((n ≡ true) × (IsSlot p k → IsAddressed p k)))
unnamed p k n there is refuted = ((λ h. absurd (cc)), (λ h. let e : n ≡ true = h.0 in absurd (cc)))

-- what is worked out of a key that is listed
pub listed : (p : Program) (k : Key) (n : ℕ) (marks : List Bool) (o : Option (Bor Bool)) → marks ≡ map (may_name p) (keys_of p) → key_number p k ≡ Some n → option_copied o ≡ slice_get marks n → IfSome o (λ b. b.now ≡ may_name p k)
listed p k n marks None e f g = tt
listed p k n marks (Some b) e f g =
    same_Some b.now (may_name p k) (g ∙ (ap (λ ls. slice_get ls n) e ∙ (slice_get-map (may_name p) (keys_of p) n ∙ ap (option_map (may_name p)) (key_at p k n f))))

-- ---- lists of keys

pub same_at : (xs ys : List Key) (n : ℕ) (a b : Key) (r : Bool) → slice_get xs n ≡ Some a → slice_get ys n ≡ Some b → r ≡ is_key a b → (IsTrue r ↔ HaveSame xs ys n)
same_at xs ys n a b r e f g = (
  (λ t. (a, e, f ∙ ap Some (sym (same_key a b (sym g ∙ t))))),
  (λ s. g ∙ subst (λ (z : Key). is_key a z ≡ true) (same_Some a b (sym e ∙ (s.1 ∙ (sym s.2 ∙ f)))) (is_itself a)),
)

pub none_first : (xs ys : List Key) (n : ℕ) → slice_get xs n ≡ None → (IsTrue false ↔ HaveSame xs ys n)
none_first xs ys n e = ((λ t. absurd (cc)), (λ s. absurd (none-some s.0 (sym e ∙ s.1))))

pub none_second : (xs ys : List Key) (n : ℕ) → slice_get ys n ≡ None → (IsTrue false ↔ HaveSame xs ys n)
none_second xs ys n e = ((λ t. absurd (cc)), (λ s. absurd (none-some s.0 (sym e ∙ s.2))))

lists_same : (xs ys : List Key) → length xs ≡ length ys → ((n : ℕ) → n < length xs → HaveSame xs ys n) → xs ≡ ys
lists_same [] [] l h = refl
lists_same [] (y ∷ ys) l h = absurd (omega (arith, l))
lists_same (x ∷ xs) [] l h = absurd (omega (arith, l))
lists_same (x ∷ xs) (y ∷ ys) l h =
    let first = h zero (omega arith) in
    let head : x ≡ y = same_Some x y (first.1 ∙ sym first.2) in
    let rest : xs ≡ ys = lists_same xs ys (omega (arith, l)) (λ n m. h (suc n) (omega (arith, m))) in
    ap (λ z. z ∷ xs) head ∙ ap (λ zs. y ∷ zs) rest

same_lists : (xs ys : List Key) → xs ≡ ys → (n : ℕ) → n < length xs → HaveSame xs ys n
same_lists xs ys e n l =
    let k = get_or xs n (key.Object 0) in
    let there : slice_get xs n ≡ Some k = slice_get-get_or xs n (key.Object 0) l in
    (k, there, ap (λ zs. slice_get zs n) (sym e) ∙ there)

pub all_same : (xs ys : List Key) (b : Bool) → length xs ≡ length ys → (IsTrue b ↔ ((n : ℕ) → n < length xs → HaveSame xs ys n)) → (IsTrue b ↔ xs ≡ ys)
all_same xs ys b l h = ((λ t. lists_same xs ys l (h.0 t)), (λ e. h.1 (same_lists xs ys e)))

same_number : (n m : ℕ) → eqb n m ≡ true → n ≡ m
same_number n m h = grind arith

pub not_same : (xs ys : List Key) → (length xs ≡ length ys → ⊥) → (IsTrue (eqb (length xs) (length ys)) ↔ xs ≡ ys)
not_same xs ys h = ((λ t. absurd (h (same_number (length xs) (length ys) t))), (λ e. absurd (h (ap length e))))

-- ---- sets of addresses

abbrev pub is_pointer : ValueType → Bool
is_pointer NoValue = false
is_pointer (Integer t) = false
is_pointer (ToObject constant volatile to) = true
is_pointer (ToFunction sig) = true

pub pointers_all : (p : Program) (t : ValueType) (s : Addrs) (list : List Address) (b : Bool) → is_pointer t ≡ true → list ≡ s.members → (IsTrue b ↔ All (MayPoint p t) list) → (IsTrue b ↔ HoldsPointers p t s)
pointers_all p NoValue s list b e i h = absurd (cc)
pointers_all p (Integer t) s list b e i h = absurd (cc)
pointers_all p (ToObject constant volatile to) s list b e i h =
    let P : Address → Type 0 = MayPoint p (ToObject constant volatile to) in
    subst (λ (ls : List Address). IsTrue b ↔ ((a : Address) → Contains ls a → P a)) i (as_said b (each_contained P list) (all_from_each P list) h)
pointers_all p (ToFunction sig) s list b e i h =
    let P : Address → Type 0 = MayPoint p (ToFunction sig) in
    subst (λ (ls : List Address). IsTrue b ↔ ((a : Address) → Contains ls a → P a)) i (as_said b (each_contained P list) (all_from_each P list) h)

-- The codings of some sets, by evaluation.
use Rattle.std.proofs.Common.{◌≡◌, ◌<◌, ◌≤◌, ◌-◌, ◌^◌, ◌&&◌, ◌∙◌, ◌⊎◌, inl, inr, ℕ, Bool, true, false, if◌then◌else◌, nat_eq, ℤ, pos, negsuc, List, [], ◌∷◌, length, Some, None, refl, sym, ap, subst, arith}
use Rattle.std.specs.List.{list_all}
use Rattle.std.proofs.lemmas.Bool.{and_left, and_right}
use Rattle.std.proofs.lemmas.Option.{same_Some}
use Rattle.cc_program.specs.CcNum.Integers.{least_of_bits, most_of_bits}
use Rattle.cc_explicit.specs.declared.explicit.Explicit.{Explicit}
use Rattle.cc_explicit.specs.Sets.{list_ends}
use Rattle.cc_program.specs.declared.value.Address.{Address}
use Rattle.cc_program.specs.declared.value.Address.TheVariants as address
use Rattle.cc_program.specs.declared.value.Part.{Part}
use Rattle.cc_program.specs.declared.value.Root.TheVariants as root
use Rattle.cc_places.specs.declared.abs.Abs.TheVariants.{Ints, Addrs}
use Rattle.cc_places.specs.declared.addrs.Addrs.{Addrs as Set}
use Rattle.cc_sets.specs.declared.range.Range.{Range}
use Rattle.cc_sets.specs.declared.vals.Vals.{Vals}
use Rattle.cc_sets.specs.declared.vals.Vals.TheVariants.{Few, Many}
use Rattle.cc_sets.specs.Rungs.{vals_members}
use Rattle.cc_code.specs.declared.kinds.Coding.{Coding}
use Rattle.cc_code.specs.declared.kinds.Coding.TheVariants.{Const, Direct, Biased, Table}
use Rattle.cc_code.specs.Codings.{by_ends, by_optional_ends, IsCodingOf}
use Rattle.cc_code.specs.Members.{has_coding, is_static}
use Rattle.cc_code.proofs.KindLemmas.{bits_are}

-- a pair by its parts
same_pair : (k l : Coding) (b c : ℕ) → k ≡ l → b ≡ c → ◌≡◌ {A = Coding × ℕ} (k, b) (l, c)
same_pair k l b c e f = ap {B = Coding × ℕ} (λ (z : Coding). (z, b)) e ∙ ap {B = Coding × ℕ} (λ (n : ℕ). (l, n)) f

-- ---- explicit sets

abbrev few_kind : List ℤ → ℕ → Coding
few_kind xs bits = if nat_eq (length xs) 1 && nat_eq bits 0 then Const else by_optional_ends bits (list_ends xs)

few_are : (s : Explicit) (xs : List ℤ) (least k : ℕ) (c : Coding × ℕ) → s.items.items ≡ xs → IsCodingOf (Ints (Few s)) least c
    → length xs ≤ 2 ^ k → least ≤ k → (k ≤ least) ⊎ (2 ^ (k - 1) < length xs) → c ≡ (few_kind xs k, k)
few_are s xs least k (kind, bits) e c enough asked tight =
    let n : length s.items.items ≡ length xs = ap length e in
    let b : bits ≡ k = bits_are (Ints (Few s)) least bits k c.bits (omega (arith, n, enough)) asked (subst (λ (m : ℕ). (k ≤ least) ⊎ (2 ^ (k - 1) < m)) (sym n) tight) in
    let same : kind ≡ few_kind xs k = c.kind ∙ ap (λ (ys : List ℤ). few_kind ys bits) e ∙ ap (few_kind xs) b in
    same_pair kind (few_kind xs k) bits k same b

members_are : (x : Vals) (xs : List ℤ) (least k : ℕ) (c : Coding × ℕ) → vals_members x ≡ Some xs → IsCodingOf (Ints x) least c
    → length xs ≤ 2 ^ k → least ≤ k → (k ≤ least) ⊎ (2 ^ (k - 1) < length xs) → c ≡ (few_kind xs k, k)
members_are (Few s) xs least k c e h enough asked tight = few_are s xs least k c (same_Some s.items.items xs e) h enough asked tight
members_are (Many r) xs least k c e h enough asked tight = let f : None ≡ Some xs = e in absurd (cc)

pub as_they_stand : (x : Vals) (c : Coding × ℕ) → vals_members x ≡ Some (pos 0 ∷ pos 1 ∷ pos 2 ∷ pos 3 ∷ []) → IsCodingOf (Ints x) 0 c → c ≡ (Direct, 2)
as_they_stand x c e h = members_are x (pos 0 ∷ pos 1 ∷ pos 2 ∷ pos 3 ∷ []) 0 2 c e h (omega arith) (omega arith) (inr (omega arith))

pub alone : (x : Vals) (c : Coding × ℕ) → vals_members x ≡ Some (pos 5 ∷ []) → IsCodingOf (Ints x) 0 c → c ≡ (Const, 0)
alone x c e h = members_are x (pos 5 ∷ []) 0 0 c e h (omega arith) (omega arith) (inl (omega arith))

pub alone_in_a_bit : (x : Vals) (c : Coding × ℕ) → vals_members x ≡ Some (pos 5 ∷ []) → IsCodingOf (Ints x) 1 c → c ≡ (Biased (pos 5), 1)
alone_in_a_bit x c e h = members_are x (pos 5 ∷ []) 1 1 c e h (omega arith) (omega arith) (inl (omega arith))

pub by_position : (x : Vals) (c : Coding × ℕ) → vals_members x ≡ Some (pos 5 ∷ pos 7 ∷ []) → IsCodingOf (Ints x) 0 c → c ≡ (Table, 1)
by_position x c e h = members_are x (pos 5 ∷ pos 7 ∷ []) 0 1 c e h (omega arith) (omega arith) (inr (omega arith))

pub from_the_least : (x : Vals) (c : Coding × ℕ) → vals_members x ≡ Some (negsuc 0 ∷ pos 0 ∷ pos 1 ∷ []) → IsCodingOf (Ints x) 0 c → c ≡ (Biased (negsuc 0), 2)
from_the_least x c e h = members_are x (negsuc 0 ∷ pos 0 ∷ pos 1 ∷ []) 0 2 c e h (omega arith) (omega arith) (inr (omega arith))

-- ---- ranges

abbrev range_kind : Bool → ℕ → ℕ → Coding
range_kind signed b bits = if nat_eq (2 ^ b) 1 && nat_eq bits 0 then Const else by_ends bits (least_of_bits signed b) (most_of_bits signed b)

bytes_are : (r : Range) (signed : Bool) (c : Coding × ℕ) → r.signed ≡ signed → r.bits ≡ 8 → IsCodingOf (Ints (Many r)) 0 c → c ≡ (range_kind signed 8 8, 8)
bytes_are r signed (kind, bits) s e c =
    let n : 2 ^ r.bits ≡ 256 = ap (λ (b : ℕ). 2 ^ b) e in
    let b : bits ≡ 8 = bits_are (Ints (Many r)) 0 bits 8 c.bits (omega (arith, n)) (omega arith) (inr (omega (arith, n))) in
    let same : kind ≡ range_kind signed 8 8 = c.kind ∙ ap (λ (t : Bool). range_kind t r.bits bits) s ∙ ap (λ (m : ℕ). range_kind signed m bits) e ∙ ap (range_kind signed 8) b in
    same_pair kind (range_kind signed 8 8) bits 8 same b

pub unsigned_bytes : (r : Range) (c : Coding × ℕ) → r.signed ≡ false → r.bits ≡ 8 → IsCodingOf (Ints (Many r)) 0 c → c ≡ (Direct, 8)
unsigned_bytes r c s e h = bytes_are r false c s e h

pub signed_bytes : (r : Range) (c : Coding × ℕ) → r.signed ≡ true → r.bits ≡ 8 → IsCodingOf (Ints (Many r)) 0 c → c ≡ (Biased (negsuc 127), 8)
signed_bytes r c s e h = bytes_are r true c s e h

-- ---- addresses

abbrev address_kind : ℕ → ℕ → Coding
address_kind n bits = if nat_eq n 1 && nat_eq bits 0 then Const else Table

pub addresses : (s : Set) (x y z : Address) (c : Coding × ℕ) → s.members ≡ x ∷ y ∷ z ∷ [] → IsCodingOf (Addrs s) 0 c → c ≡ (Table, 2)
addresses s x y z (kind, bits) e c =
    let n : length s.members ≡ 3 = ap length e in
    let b : bits ≡ 2 = bits_are (Addrs s) 0 bits 2 c.bits (omega (arith, n)) (omega arith) (inr (omega (arith, n))) in
    let same : kind ≡ Table = c.kind ∙ ap (λ (m : ℕ). address_kind m bits) n ∙ ap (address_kind 3) b in
    same_pair kind Table bits 2 same b

pub places : (s : Set) → s.is_exact ≡ false → has_coding (Addrs s) ≡ false
places s e = and_left s.is_exact (list_all is_static s.members) e

pub automatic : (s : Set) (n f l i k : ℕ) (p : List Part) → s.members ≡ address.At (root.Auto n f l) p i k ∷ [] → has_coding (Addrs s) ≡ false
automatic s n f l i k p e = and_right s.is_exact (list_all is_static s.members) (ap (list_all is_static) e)

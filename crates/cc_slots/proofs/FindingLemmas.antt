-- The first reason by the tests is the reason.
use Rattle.std.proofs.Common.{arith, ◌≡◌, ◌≤◌, ◌<◌, ◌*◌, ℕ, Bool, true, false, true≢false, not, ◌&&◌, ◌||◌, nat_le, nat_lt, List, Option, Some, None, refl, ap, sym, ◌∙◌, inl, inr}
use Rattle.std.specs.Prelude.{◌⊎◌, ◌↔◌, IsTrue}
use Rattle.std.specs.Option.{option_map_or}
use Rattle.cc_code.specs.Members.{has_coding}
use Rattle.cc_state_points.specs.CcPlaces.declared.abs.Abs.{Abs}
use Rattle.cc_plan_legal.specs.Short.{packed_bytes}
use Rattle.cc_program.specs.Qualifiers.{is_const, is_volatile}
use Rattle.cc_program.specs.declared.program.Program.{Program}
use Rattle.cc_program.specs.declared.types.CType.{CType}
use Rattle.cc_sets.specs.declared.vals.Vals.{Vals}
use Rattle.cc_slots.proofs.AccessLemmas.{torn_found, torn_there, unbounded_found, unbounded_there, volatile_found, volatile_there}
use Rattle.cc_slots.proofs.FirstLemmas.{first_is}
use Rattle.cc_slots.specs.Codes.{is_wide_by}
use Rattle.cc_slots.specs.Findings.{findings_of, is_automatic_key, is_closed_key}
use Rattle.cc_slots.specs.First.{found, first_reason}
use Rattle.cc_slots.specs.Judged.{is_volatile_somewhere}
use Rattle.cc_slots.specs.Reasons.{Holds, IsReason, IsAutomatic, IsConst, IsDeclaredConst, IsConstEverywhere, IsVolatile, IsDeclaredVolatile, IsAccessedVolatile, IsWide, HasNoCode, IsNotShorter, IsLong, SavesNothing}
use Rattle.cc_slots_accesses.specs.declared.access.Access.{Access}
use Rattle.cc_slots_accesses.specs.Arrays.{is_array}
use Rattle.cc_slots_points.specs.Lists.{AreAccessesOf}
use Rattle.cc_slots_structures.specs.Stands.{is_open}
use Rattle.cc_slots_types.specs.declared.class.Class.{Class}
use Rattle.cc_slots_types.specs.declared.reason.Reason.{Reason}
use Rattle.cc_slots_types.specs.declared.reason.Reason.TheVariants as reason
use Rattle.cc_state_points.specs.CcState.Shape.{ctype_of}
use Rattle.cc_state_points.specs.CcStateFacts.declared.facts.Facts.{Facts}
use Rattle.cc_state_points.specs.CcStateFacts.declared.facts.Key.{Key}
use Rattle.cc_state_points.specs.CcStateFacts.declared.facts.Key.TheVariants as key
use Rattle.cc_state_points.specs.CcStateKeys.Addressed.{IsAddressed}
use Rattle.cc_state_points.specs.CcStateKeys.Keys.{key_number}
use Rattle.cc_state_points.specs.CcStateOperators.Domains.{Domain}

either : (a b : Bool) → (a || b) ≡ true → (a ≡ true) ⊎ (b ≡ true)
either true b h = inl refl
either false b h = inr h

left : (a b : Bool) → a ≡ true → (a || b) ≡ true
left a b h = ap (λ x. x || b) h

right : (a b : Bool) → b ≡ true → (a || b) ≡ true
right true b h = refl
right false b h = h

isnt : (b : Bool) → not b ≡ true → b ≡ false
isnt true h = absurd (true≢false (sym h))
isnt false h = refl

at_most : (m n : ℕ) → nat_le m n ≡ true → m ≤ n
at_most m n h = grind (arith, h)

as_most : (m n : ℕ) → m ≤ n → nat_le m n ≡ true
as_most m n h = grind (arith, h)

less : (m n : ℕ) → nat_lt m n ≡ true → m < n
less m n h = grind (arith, h)

as_less : (m n : ℕ) → m < n → nat_lt m n ≡ true
as_less m n h = grind (arith, h)

of_type : (test : CType → Bool) (o : Option CType) → option_map_or test o false ≡ true → (t : CType) × (o ≡ Some t) × (test t ≡ true)
of_type test None h = absurd (true≢false (sym h))
of_type test (Some t) h = (t, refl, h)

as_type : (test : CType → Bool) (o : Option CType) (t : CType) → o ≡ Some t → test t ≡ true → option_map_or test o false ≡ true
as_type test o t e h = ap (λ x. option_map_or test x false) e ∙ h

closed : (p : Program) (k : Key) → is_closed_key p k ≡ true → IsConst p k
closed p (key.Object i) h = absurd (true≢false (sym h))
closed p (key.Local f r) h = absurd (true≢false (sym h))
closed p (key.Member s m) h = IsConstEverywhere s m refl (isnt (is_open p s) h)

const_found : (p : Program) (k : Key) → (option_map_or is_const (ctype_of p k) false || is_closed_key p k) ≡ true → IsConst p k
const_found p k h = elim (either (option_map_or is_const (ctype_of p k) false) (is_closed_key p k) h) [
  | inl e ↦ (let w = of_type is_const (ctype_of p k) e in IsDeclaredConst w.0 w.1 w.2)
  | inr e ↦ closed p k e
]

const_there : (p : Program) (k : Key) → IsConst p k → (option_map_or is_const (ctype_of p k) false || is_closed_key p k) ≡ true
const_there p k (IsDeclaredConst t e h) = left (option_map_or is_const (ctype_of p k) false) (is_closed_key p k) (as_type is_const (ctype_of p k) t e h)
const_there p k (IsConstEverywhere s m e h) = right (option_map_or is_const (ctype_of p k) false) (is_closed_key p k) (ap (is_closed_key p) e ∙ ap not h)

automatic_found : (p : Program) (k : Key) → is_automatic_key p k ≡ true → IsAutomatic p k
automatic_found p (key.Object i) h = absurd (true≢false (sym h))
automatic_found p (key.Local f r) h = absurd (true≢false (sym h))
automatic_found p (key.Member s m) h = record { structure = s; member = m; of_structure = refl; there = h }

automatic_there : (p : Program) (k : Key) → IsAutomatic p k → is_automatic_key p k ≡ true
automatic_there p k h = ap (is_automatic_key p) h.of_structure ∙ h.there

module _ (p : Program) (k : Key) (values : Abs Vals) (count bytes bits : ℕ) where
  abbrev packs : Bool
  packs = is_array p k && nat_le (count * bytes) (packed_bytes bits count)

  packs_found : packs ≡ true → IsWide p k values count bytes bits
  packs_found h = by (is_array p k) refl h
    where
      by : (b : Bool) → is_array p k ≡ b → (b && nat_le (count * bytes) (packed_bytes bits count)) ≡ true → IsWide p k values count bytes bits
      by true e m = SavesNothing e (at_most (count * bytes) (packed_bytes bits count) m)
      by false e m = absurd (true≢false (sym m))

  wide_found : (has_code : Bool) → has_code ≡ has_coding values → is_wide_by has_code (is_array p k) count bytes bits ≡ true → IsWide p k values count bytes bits
  wide_found has_code same h = elim (either (not has_code) (nat_le (8 * bytes) bits || (nat_lt 16 bits || packs)) h) [
    | inl e ↦ HasNoCode (sym same ∙ isnt has_code e)
    | inr e ↦ elim (either (nat_le (8 * bytes) bits) (nat_lt 16 bits || packs) e) [
      | inl m ↦ IsNotShorter (at_most (8 * bytes) bits m)
      | inr m ↦ elim (either (nat_lt 16 bits) packs m) [
        | inl l ↦ IsLong (less 16 bits l)
        | inr l ↦ packs_found l
      ]
    ]
  ]

  long : (has_code : Bool) → (nat_le (8 * bytes) bits || (nat_lt 16 bits || packs)) ≡ true → is_wide_by has_code (is_array p k) count bytes bits ≡ true
  long has_code h = right (not has_code) (nat_le (8 * bytes) bits || (nat_lt 16 bits || packs)) h

  wide_there : (has_code : Bool) → has_code ≡ has_coding values → IsWide p k values count bytes bits → is_wide_by has_code (is_array p k) count bytes bits ≡ true
  wide_there has_code same (HasNoCode e) = left (not has_code) (nat_le (8 * bytes) bits || (nat_lt 16 bits || packs)) (ap not (same ∙ e))
  wide_there has_code same (IsNotShorter m) = long has_code (left (nat_le (8 * bytes) bits) (nat_lt 16 bits || packs) (as_most (8 * bytes) bits m))
  wide_there has_code same (IsLong l) = long has_code (right (nat_le (8 * bytes) bits) (nat_lt 16 bits || packs) (left (nat_lt 16 bits) packs (as_less 16 bits l)))
  wide_there has_code same (SavesNothing e m) =
      long has_code (right (nat_le (8 * bytes) bits) (nat_lt 16 bits || packs) (right (nat_lt 16 bits) packs
      (ap (λ b. b && nat_le (count * bytes) (packed_bytes bits count)) e ∙ as_most (count * bytes) (packed_bytes bits count) m)))

module _ (p : Program) (d : Domain Vals) (facts : Facts Vals) (k : Key) (number : ℕ) (numbered : key_number p k ≡ Some number) (accesses : List Access) (own : AreAccessesOf d p facts k accesses) where
  volatile_is : (option_map_or is_volatile (ctype_of p k) false || is_volatile_somewhere accesses) ≡ true → IsVolatile p d facts k
  volatile_is h = elim (either (option_map_or is_volatile (ctype_of p k) false) (is_volatile_somewhere accesses) h) [
    | inl e ↦ (let w = of_type is_volatile (ctype_of p k) e in IsDeclaredVolatile w.0 w.1 w.2)
    | inr e ↦ volatile_found p d facts k number numbered accesses own e
  ]

  is_volatile_found : IsVolatile p d facts k → (option_map_or is_volatile (ctype_of p k) false || is_volatile_somewhere accesses) ≡ true
  is_volatile_found (IsDeclaredVolatile t e h) = left (option_map_or is_volatile (ctype_of p k) false) (is_volatile_somewhere accesses) (as_type is_volatile (ctype_of p k) t e h)
  is_volatile_found (IsAccessedVolatile n writes a at h names) =
      right (option_map_or is_volatile (ctype_of p k) false) (is_volatile_somewhere accesses) (volatile_there p d facts k number numbered accesses own n writes a at h names)

  module _ (addressed : Bool) (is_addressed : IsTrue addressed ↔ IsAddressed p k) (class : Class) (values : Abs Vals) (count bytes : ℕ) (has_code : Bool) (coded : has_code ≡ has_coding values) (bits : ℕ) where
    rightly : (q : Reason) → IsTrue (found (findings_of p k accesses addressed class count bytes has_code bits) q) ↔ Holds p d facts k class values count bytes bits q
    rightly reason.Volatile = (volatile_is, is_volatile_found)
    rightly reason.Const = (const_found p k, const_there p k)
    rightly reason.Addressed = is_addressed
    rightly reason.Automatic = (automatic_found p k, automatic_there p k)
    rightly reason.Torn = (torn_found p d facts k number numbered accesses own class bytes, torn_there p d facts k number numbered accesses own class bytes)
    rightly reason.Index = (unbounded_found p d facts k number numbered accesses own, unbounded_there p d facts k number numbered accesses own)
    rightly reason.Wide = (wide_found p k values count bytes bits has_code coded, wide_there p k values count bytes bits has_code coded)

    pub is_reason : IsReason p d facts k class values count bytes bits (first_reason (findings_of p k accesses addressed class count bytes has_code bits))
    is_reason = first_is (Holds p d facts k class values count bytes bits) (findings_of p k accesses addressed class count bytes has_code bits) rightly

-- Why a slot is not coded: each reason, by what the text and the facts say of its key.
use Rattle.std.specs.Prelude.{◌≡◌, ◌≢◌, ◌⊎◌, ◌<◌, ◌≤◌, ◌*◌, ℕ, Bool, true, false, Option, Some}
use Rattle.cc_code.specs.declared.kinds.Coding.{Coding}
use Rattle.cc_code.specs.Codings.{IsCodingOf}
use Rattle.cc_code.specs.Members.{has_coding}
use Rattle.cc_state_points.specs.CcPlaces.declared.abs.Abs.{Abs}
use Rattle.cc_plan_legal.specs.Short.{packed_bytes}
use Rattle.cc_program.specs.declared.expr.Place.{Place}
use Rattle.cc_program.specs.declared.program.Program.{Program}
use Rattle.cc_program.specs.declared.types.CType.{CType}
use Rattle.cc_program.specs.Qualifiers.{is_const, is_volatile}
use Rattle.cc_sets.specs.declared.vals.Vals.{Vals}
use Rattle.cc_slots.specs.First.{IsReasonOf}
use Rattle.cc_slots_accesses.specs.Accesses.{AccessesAt, IsAccess, MayName, NamesByForm}
use Rattle.cc_slots_accesses.specs.Arrays.{is_array}
use Rattle.cc_slots_accesses.specs.Known.{is_volatile_in}
use Rattle.cc_slots_accesses.specs.Outside.{MayBeOutside}
use Rattle.cc_slots_structures.specs.Stands.{is_automatic, is_open}
use Rattle.cc_slots_types.specs.declared.class.Class.{Class}
use Rattle.cc_slots_types.specs.declared.class.Class.TheVariants.{Lone}
use Rattle.cc_slots_types.specs.declared.reason.Reason.{Reason}
use Rattle.cc_slots_types.specs.declared.reason.Reason.TheVariants as reason
use Rattle.cc_slots_types.specs.Slots.{least_bits_of}
use Rattle.cc_state_points.specs.CcState.Shape.{ctype_of}
use Rattle.cc_state_points.specs.CcStateFacts.declared.facts.Facts.{Facts}
use Rattle.cc_state_points.specs.CcStateFacts.declared.facts.Key.{Key}
use Rattle.cc_state_points.specs.CcStateFacts.declared.facts.Key.TheVariants as key
use Rattle.cc_state_points.specs.CcStateFacts.declared.facts.PointFact.{PointFact}
use Rattle.cc_state_points.specs.CcStateFacts.Facts.{fact_at, levels_of}
use Rattle.cc_state_points.specs.CcStateFacts.Levels.{one_may_enter}
use Rattle.cc_state_points.specs.CcStateKeys.Addressed.{IsAddressed}
use Rattle.cc_state_points.specs.CcStateOperators.Domains.{Domain}
use Rattle.cc_state_points.specs.CcStateReads.Reads.{registers_at}
use Rattle.cc_state_points.specs.CcSyntax.Programs.{place_type}

-- ---- what the text says, and the facts

module _ (p : Program) (k : Key) where
  -- the object or the member is const, or the structure stands in no object at a place that is not (C99 6.5.2.3, 3)
  pub data IsConst : Type 0 where
    IsDeclaredConst : (t : CType) → ctype_of p k ≡ Some t → is_const t ≡ true → IsConst
    IsConstEverywhere : (s m : ℕ) → k ≡ key.Member s m → is_open p s ≡ false → IsConst

  -- its structure stands in a local
  pub record IsAutomatic : Type 0 where
    pub structure : ℕ
    pub member : ℕ
    pub of_structure : k ≡ key.Member structure member
    pub there : is_automatic p structure ≡ true

module _ (p : Program) (d : Domain Vals) (facts : Facts Vals) (k : Key) where
  -- the object, the member or an access to it is volatile. An access is one to the key by its form wherever it stands, and through a
  -- pointer where its point is reached.
  pub data IsVolatile : Type 0 where
    IsDeclaredVolatile : (t : CType) → ctype_of p k ≡ Some t → is_volatile t ≡ true → IsVolatile
    IsAccessedVolatile : (n : ℕ) (writes : Bool) (a : Place) (at : AccessesAt p n writes a) → is_volatile_in (place_type p at.func.locals a) ≡ true
        → NamesByForm p at.id at.func a k ⊎ MayName p d facts n at.id at.func a k → IsVolatile

  -- an access that an interrupt divides, where a handler may enter that reaches another one
  pub record IsTorn (class : Class) (bytes : ℕ) : Type 0 where
    pub wide : p.target.atomic_bytes < bytes
    pub shared : class ≢ Lone
    pub point : ℕ
    pub writes : Bool
    pub access : IsAccess p d facts writes k point
    pub fact : PointFact Vals
    pub reached : fact_at facts point ≡ Some fact
    pub may_be_on : fact.on ≡ true
    pub entered : ℕ
    pub other_writes : Bool
    pub other : IsAccess p d facts other_writes k entered
    pub enters : one_may_enter (levels_of facts.levels access.at.id) (levels_of facts.from other.at.id) ≡ true

  -- an element of the array that may lie outside it, at a point that is reached
  pub record IsUnbounded : Type 0 where
    pub point : ℕ
    pub writes : Bool
    pub place : Place
    pub at : AccessesAt p point writes place
    pub fact : PointFact Vals
    pub reached : fact_at facts point ≡ Some fact
    pub may_be : MayBeOutside d p at.id at.func (registers_at facts at.func point) place k

-- ---- what its values say: it has no code, or none that is shorter than its scalar; or as an array it takes as many bytes with its code

-- how many bits its code has: as many as its scalar where it has none
pub data AreBits (k : Key) (values : Abs Vals) (bytes : ℕ) : ℕ → Type 0 where
  IsCoded : {bits : ℕ} (coding : Coding) → IsCodingOf values (least_bits_of k) (coding, bits) → AreBits k values bytes bits
  IsNotCoded : {bits : ℕ} → has_coding values ≡ false → bits ≡ 8 * bytes → AreBits k values bytes bits

pub data IsWide (p : Program) (k : Key) (values : Abs Vals) (count bytes bits : ℕ) : Type 0 where
  HasNoCode : has_coding values ≡ false → IsWide p k values count bytes bits
  IsNotShorter : 8 * bytes ≤ bits → IsWide p k values count bytes bits
  IsLong : 16 < bits → IsWide p k values count bytes bits
  SavesNothing : is_array p k ≡ true → count * bytes ≤ packed_bytes bits count → IsWide p k values count bytes bits

-- ---- the reason: the first that holds

module _ (p : Program) (d : Domain Vals) (facts : Facts Vals) (k : Key) (class : Class) (values : Abs Vals) (count bytes bits : ℕ) where
  abbrev pub Holds : Reason → Type 0
  Holds reason.Volatile = IsVolatile p d facts k
  Holds reason.Const = IsConst p k
  Holds reason.Addressed = IsAddressed p k
  Holds reason.Automatic = IsAutomatic p k
  Holds reason.Torn = IsTorn p d facts k class bytes
  Holds reason.Index = IsUnbounded p d facts k
  Holds reason.Wide = IsWide p k values count bytes bits

  abbrev pub IsReason : Option Reason → Type 0
  IsReason r = IsReasonOf Holds r

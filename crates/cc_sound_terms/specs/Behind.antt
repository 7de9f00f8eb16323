-- What stands behind a construct: types of what is declared, and members of structures that are completed (C99 6.2.1, 4; 6.7, 7; 6.7.2.1, 2).
use Rattle.std.specs.Prelude.{◌≡◌, ◌⊎◌, ◌+◌, ℕ, ℤ, Bool, true, List, ◌++◌, length, Option, Some, slice_get}
use Rattle.cc_terms.specs.CcDesignators.Casts.{fits_pointer}
use Rattle.cc_program.specs.CcNum.declared.int_type.IntType.{IntType}
use Rattle.cc_program.specs.CcNum.declared.target.Target.{Target}
use Rattle.cc_terms.specs.CcSyntax.Views.{View, kind_in}
use Rattle.cc_terms.specs.CcTypedTerms.Devices.{device_of, declared_device}
use Rattle.cc_terms.specs.CcTypedTerms.Primary.{string_object}
use Rattle.cc_program.specs.declared.types.CType.{CType}
use Rattle.cc_program.specs.declared.types.Shape.{Shape, out-Shape}
use Rattle.cc_program.specs.declared.types.Shape.TheOpen as shape
use Rattle.cc_program.specs.declared.types.Sig.{Sig}
use Rattle.cc_program.specs.declared.func.Entry.{Entry}
use Rattle.cc_program.specs.declared.func.Func.{Func}
use Rattle.cc_program.specs.declared.object.Device.{Device}
use Rattle.cc_program.specs.declared.value.Leaf.{Leaf}
use Rattle.cc_terms.specs.CcScopes.State.{State}
use Rattle.cc_terms.specs.CcScopes.declared.designated.Designated.{Designated}
use Rattle.cc_terms.specs.CcScopes.declared.unit.Declared.{Declared}
use Rattle.cc_terms.specs.CcSpecifiers.Bounds.{is_bound}
use Rattle.cc_terms.specs.CcSyntax.Kinds.{is_object_type, is_sig}
use Rattle.cc_terms.specs.CcSyntax.Types.{Named}
use Rattle.cc_terms.specs.CcUnit.declared.unit.UnitKind.{UnitKind}
use Rattle.cc_terms.specs.CcUnit.declared.unit.UnitKind.TheVariants as kind
use Rattle.cc_sound_terms.specs.Closings.{Closings}
use Rattle.cc_sound_terms.specs.Growing.{Grows, IsConstant}
use Rattle.cc_sound_terms.specs.Knowing.{TypesStand, TagsStand}
use Rattle.cc_sound_terms.specs.Ordered.{HasMembers, IsOrdered}
use Rattle.cc_sound_terms.specs.Standing.{MembersKnown}
use Rattle.cc_sound_terms.specs.Typing.{KnowsTypes}

-- an entry of that number
abbrev pub HasEntry : List Declared → ℕ → Type 0
HasEntry names i = (d : Declared) × (slice_get names i ≡ Some d)

-- what is declared by its use
pub data IsUnnamed (target : Target) : Declared → Type 0 where
  OfString : (at : ℕ) (bytes : List ℕ) → is_bound (length bytes + 1) ≡ true → IsUnnamed target (string_object target at bytes)
  OfDevice : (n : ℤ) (constant : Bool) (t : IntType) → fits_pointer target n ≡ true → IsUnnamed target (declared_device (device_of n constant t))

module _ (v : View) where
  -- a function has a function's type
  abbrev pub SigStands : shape.Shape-F Shape CType Sig → Type 0
  SigStands (shape.Func sig) = is_sig v.target v.extents sig ≡ true
  SigStands shape.Void = ⊥
  SigStands (shape.Int t) = ⊥
  SigStands (shape.Pointer to) = ⊥
  SigStands (shape.Array of n) = ⊥
  SigStands (shape.Struct i) = ⊥

  -- what has a place in memory of its own has an object type; a device's type is in its kind
  abbrev pub KindStands : CType → UnitKind → Type 0
  KindStands t (kind.Object leaves) = is_object_type (kind_in v t) ≡ true
  KindStands t (kind.Device d) = Unit {0}
  KindStands t (kind.Func entry body) = SigStands (out-Shape t.shape)

  abbrev pub NameStands : Declared → Type 0
  NameStands d = KindStands d.ctype d.kind

  pub record Behind (s t : State) : Type 0 where
    pub types : TypesStand v t
    pub tags : TagsStand v t
    pub names : (i : ℕ) (d : Declared) → slice_get t.names i ≡ Some d → HasEntry s.names i ⊎ NameStands d
    pub structures : (i : ℕ) (ms : List Named) → HasMembers t.structures i ms → HasMembers s.structures i ms ⊎ MembersKnown v ms

  -- what a construct adds to what is known; of what has a place in memory of its own, strings and devices without a name
  pub record Adds (New : Designated → Type 0) (s t : State) : Type 0 where
    pub grows : Grows New s t
    pub added : (i : ℕ) (d : Declared) → slice_get t.names i ≡ Some d → HasEntry s.names i ⊎ IsUnnamed v.target d
    pub behind : KnowsTypes v s t → Behind s t
    pub ordered : IsOrdered s → IsOrdered t
    pub front : (more : List ℕ) × (t.completed ≡ s.completed ++ more)
    pub closings : Closings v (Unit {0}) s t

  abbrev pub Extends : State → State → Type 0
  Extends s t = Adds (IsConstant v.target) s t

-- ---- an entry whose name is declared again, or defined, stays of its kind and of its type (6.2.7, 2)

pub data SameKind : UnitKind → UnitKind → Type 0 where
  Objects : (before after : List Leaf) → SameKind (kind.Object before) (kind.Object after)
  Devices : (d : Device) → SameKind (kind.Device d) (kind.Device d)
  Functions : (entry entry' : Option Entry) (body body' : Option Func) → SameKind (kind.Func entry body) (kind.Func entry' body')

pub record EntryKept (d e : Declared) : Type 0 where
  pub name : e.name ≡ d.name
  pub ctype : e.ctype ≡ d.ctype
  pub kind : SameKind d.kind e.kind

abbrev pub NamesKept : List Declared → List Declared → Type 0
NamesKept before after = (i : ℕ) (d : Declared) → slice_get before i ≡ Some d → (e : Declared) × (slice_get after i ≡ Some e) × EntryKept d e

-- What a view knows of a state: its structures, and what has a place in memory of its own; and what names in scope stand for.
use Rattle.std.specs.Prelude.{◌≡◌, ℕ, true, false, nat_lt, List, length, Option, Some, slice_get}
use Rattle.cc_program.specs.declared.types.CType.{CType}
use Rattle.cc_program.specs.declared.types.Shape.{out-Shape}
use Rattle.cc_program.specs.declared.types.Shape.TheOpen as shape
use Rattle.cc_program.specs.declared.types.Sig.{Sig}
use Rattle.cc_program.specs.declared.types.Structure.{Structure}
use Rattle.cc_program.specs.CcNum.declared.int_type.IntType.TheVariants as int
use Rattle.cc_program.specs.CcNum.Integers.{is_value_of}
use Rattle.cc_operand_types.specs.Typed.{is_pointed_kind}
use Rattle.cc_terms.specs.CcSyntax.Views.{View, kind_in}
use Rattle.cc_terms.specs.CcScopes.State.{State, Name, KnownStructure, designated, tagged}
use Rattle.cc_terms.specs.CcScopes.declared.designated.Designated.{Designated}
use Rattle.cc_terms.specs.CcScopes.declared.designated.Designated.TheVariants as means
use Rattle.cc_terms.specs.CcScopes.declared.designated.Tagged.{Tagged}
use Rattle.cc_terms.specs.CcScopes.declared.designated.Tagged.TheVariants as tag
use Rattle.cc_terms.specs.CcScopes.declared.unit.Declared.{Declared}
use Rattle.cc_terms.specs.CcSyntax.Kinds.{Kind, is_sig}
use Rattle.cc_terms.specs.CcSyntax.Types.{Named}
use Rattle.cc_terms.specs.CcSyntax.Values.{ToFunction, DevicePlace, object_place}
use Rattle.cc_terms.specs.CcUnit.declared.unit.UnitKind.{UnitKind}
use Rattle.cc_terms.specs.CcUnit.declared.unit.UnitKind.TheVariants as kind

-- a type that may stand
abbrev pub Stands : View → CType → Type 0
Stands v t = (k : Kind) × (kind_in v t ≡ Some k)

module _ (v : View) where
  -- the content of a complete structure
  pub record HasContent (i : ℕ) (k : KnownStructure) (ms : List Named) : Type 0 where
    pub bytes : v.extents i ≡ Some (Some k.layout.size)
    pub content : Structure
    pub at : slice_get v.structures i ≡ Some content
    pub members : content.members ≡ ms

  pub record KnowsStructure (i : ℕ) (k : KnownStructure) : Type 0 where
    pub extent : Option ℕ
    pub there : v.extents i ≡ Some extent
    pub complete : (ms : List Named) → k.members ≡ Some ms → nat_lt 0 (length ms) ≡ true → HasContent i k ms

  abbrev pub KnowsStructures : List KnownStructure → Type 0
  KnowsStructures structures = (i : ℕ) (k : KnownStructure) → slice_get structures i ≡ Some k → KnowsStructure i k

  -- what a number names, by its kind
  abbrev pub KnowsAs : ℕ → CType → UnitKind → Type 0
  KnowsAs i t (kind.Object leaves) = (v.statics i ≡ Some (object_place t)) × (is_pointed_kind false (kind_in v t) ≡ true)
  KnowsAs i t (kind.Device d) = v.devices i ≡ Some (DevicePlace d.constant d.int)
  KnowsAs i t (kind.Func entry body) = (sig : Sig) → out-Shape t.shape ≡ shape.Func sig → (v.functions i ≡ Some (ToFunction sig)) × (is_sig v.target v.extents sig ≡ true)

  abbrev pub KnowsNames : List Declared → Type 0
  KnowsNames names = (i : ℕ) (d : Declared) → slice_get names i ≡ Some d → KnowsAs i d.ctype d.kind

  -- what names in scope stand for, types and numbers of automatic objects aside
  abbrev pub TypesStand : State → Type 0
  TypesStand s = (x : Name) (t : CType) → designated x s.scopes ≡ Some (means.TypeNamed t) → Stands v t

  -- an automatic object, by its declared type; an enumeration constant
  abbrev pub IsObject : List Named → Designated → Type 0
  IsObject locals (means.Automatic n t) = (l : Named) × (slice_get locals n ≡ Some l) × (l.1 ≡ t) × (is_pointed_kind false (kind_in v t) ≡ true)
  IsObject locals (means.Enumerator n) = is_value_of int.Int v.target n ≡ true
  IsObject locals (means.Linked i) = Unit {0}
  IsObject locals (means.TypeNamed t) = Unit {0}

  abbrev pub ObjectsStand : List Named → State → Type 0
  ObjectsStand locals s = (x : Name) (d : Designated) → designated x s.scopes ≡ Some d → IsObject locals d

  -- each tag of a structure in scope names one that there is
  abbrev pub IsThere : ℕ → Type 0
  IsThere i = (extent : Option ℕ) × (v.extents i ≡ Some extent)

  abbrev pub TagsStand : State → Type 0
  TagsStand s = (x : Name) (t : Tagged) → tagged x s.scopes ≡ Some t → (i : ℕ) → t ≡ tag.StructureTag i → IsThere i

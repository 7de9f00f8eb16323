-- What a construct adds to what is known: names of the innermost scope, structures and their contents, and what has a place in
-- memory of its own. What was known stays (C99 6.2.1, 4; 6.7.2.3).
use Rattle.std.specs.Prelude.{◌≡◌, ◌⊎◌, ℕ, true, List, ◌++◌, Option, Some, slice_get}
use Rattle.cc_program.specs.CcNum.declared.int_type.IntType.TheVariants as int
use Rattle.cc_program.specs.CcNum.declared.target.Target.{Target}
use Rattle.cc_program.specs.CcNum.Integers.{is_value_of}
use Rattle.cc_terms.specs.CcScopes.State.{State, Name, KnownStructure, find_name, innermost, outer_scopes}
use Rattle.cc_terms.specs.CcScopes.declared.designated.Designated.{Designated}
use Rattle.cc_terms.specs.CcScopes.declared.designated.Designated.TheVariants as means
use Rattle.cc_terms.specs.CcScopes.declared.designated.Tagged.{Tagged}
use Rattle.cc_terms.specs.CcScopes.declared.designated.Tagged.TheVariants as tag
use Rattle.cc_terms.specs.CcScopes.declared.unit.Declared.{Declared}
use Rattle.cc_terms.specs.CcSyntax.Types.{Named}

-- a name, or a tag, means what it did, or is one of the new ones
abbrev pub Kept : {A : Type 0} → (A → Type 0) → Option A → Option A → Type 0
Kept {A} New before after = (after ≡ before) ⊎ ((d : A) × (after ≡ Some d) × New d)

-- a tag designates no structure, or one that there is
abbrev pub IsTag : List KnownStructure → Tagged → Type 0
IsTag structures t = (i : ℕ) → t ≡ tag.StructureTag i → (k : KnownStructure) × (slice_get structures i ≡ Some k)

-- a structure that is complete stays as it is
pub record StructureKept (before after : KnownStructure) : Type 0 where
  pub members : (ms : List Named) → before.members ≡ Some ms → after.members ≡ Some ms
  pub layout : (ms : List Named) → before.members ≡ Some ms → after.layout ≡ before.layout

abbrev pub StructuresKept : List KnownStructure → List KnownStructure → Type 0
StructuresKept before after = (i : ℕ) (k : KnownStructure) → slice_get before i ≡ Some k → (l : KnownStructure) × (slice_get after i ≡ Some l) × StructureKept k l

pub record Grows (New : Designated → Type 0) (s t : State) : Type 0 where
  pub outer : outer_scopes t.scopes ≡ outer_scopes s.scopes
  pub here : (x : Name) → Kept New (find_name x (innermost s.scopes).names) (find_name x (innermost t.scopes).names)
  pub tags : (x : Name) → Kept (IsTag t.structures) (find_name x (innermost s.scopes).tags) (find_name x (innermost t.scopes).tags)
  pub structures : StructuresKept s.structures t.structures
  pub names : (more : List Declared) × (t.names ≡ s.names ++ more)
  pub locals : t.locals ≡ s.locals

-- what specifiers declare beside structures: an enumeration constant, which is an int (6.7.2.2, 3)
abbrev pub IsConstant : Target → Designated → Type 0
IsConstant target (means.Enumerator n) = is_value_of int.Int target n ≡ true
IsConstant target (means.Linked i) = ⊥
IsConstant target (means.Automatic n t) = ⊥
IsConstant target (means.TypeNamed t) = ⊥

-- in a list of parameters they are new too (6.2.1, 4)
abbrev pub IsParameter : Target → Designated → Type 0
IsParameter target (means.Enumerator n) = is_value_of int.Int target n ≡ true
IsParameter target (means.Automatic n t) = Unit {0}
IsParameter target (means.Linked i) = ⊥
IsParameter target (means.TypeNamed t) = ⊥

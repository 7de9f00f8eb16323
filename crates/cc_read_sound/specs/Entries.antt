-- What is so of everything that has a place in memory of its own, or in the chip, in front of each item of a unit: what counts as its definition, and what its name tells (C99 5.1.2.2.1; 6.2.2; 6.9.2).
-- The unit defines objects of these names, and P holds of each body.
use Rattle.std.specs.Prelude.{◌≡◌, ◌⊎◌, ℕ, Bool, true, false, nat_lt, List, Option, Some, slice_get, is_some}
use Rattle.std.specs.List.{list_any}
use Rattle.std.specs.Str.{bytes_eq}
use Rattle.cc_type.specs.CcLinkage.Linkage.{is_main_shape}
use Rattle.cc_type.specs.CcNumbering.Names.{count_of}
use Rattle.cc_type.specs.CcOperands.Qualified.{is_function_type}
use Rattle.cc_type.specs.CcTypedTerms.Primary.{is_intrinsic}
use Rattle.cc_program.proofs.Each.{Each}
use Rattle.cc_program.specs.declared.func.Entry.{Entry}
use Rattle.cc_program.specs.declared.func.Func.{Func}
use Rattle.cc_program.specs.declared.program.Roles.{Roles}
use Rattle.cc_program.specs.declared.types.CType.{CType}
use Rattle.cc_program.specs.declared.types.Shape.{out-Shape}
use Rattle.cc_type.specs.CcScopes.Linked.{is_linked, linked_name}
use Rattle.cc_type.specs.CcScopes.State.{State, Name}
use Rattle.cc_type.specs.CcScopes.declared.unit.Declared.{Declared}
use Rattle.cc_program.specs.CcNum.declared.target.Target.{Target}
use Rattle.cc_sound_declarations.specs.Entries.{IsEntry}
use Rattle.cc_relocated_units.specs.Units.{is_attributed, is_main_name, is_register_type}
use Rattle.cc_things.specs.Things.{is_external_linkage}
use Rattle.cc_type.specs.CcUnit.declared.unit.UnitKind.{UnitKind}
use Rattle.cc_type.specs.CcUnit.declared.unit.UnitKind.TheVariants as kind

-- a definition counts, tentative ones too
abbrev pub is_counted : Declared → Bool
is_counted d = nat_lt 0 (count_of d.tentative d.definitions)

abbrev pub is_function_kind : UnitKind → Bool
is_function_kind (kind.Func by f) = true
is_function_kind (kind.Object leaves) = false
is_function_kind (kind.Device d) = false

module _ (target : Target) (roles : Roles) (defined : List Name) (P : CType → Func → Type 0) where
  -- the unit defines an object of this name, if not in front of here
  pub record IsAwaited (d : Declared) : Type 0 where
    pub name : Name
    pub named : d.name ≡ Some name
    pub linked : is_linked d.linkage ≡ true
    pub among : list_any (bytes_eq name) defined ≡ true

  pub record IsWellObject (d : Declared) : Type 0 where
    pub apart : is_function_type d.ctype ≡ false
    pub here : is_register_type d.ctype ≡ true → (is_counted d ≡ true) ⊎ IsAwaited d
    pub nameless : is_some d.name ≡ false → is_counted d ≡ true

  pub record IsWellFunction (d : Declared) (by : Option Entry) (f : Option Func) : Type 0 where
    pub named : is_some d.name ≡ true
    pub entry : is_attributed by ≡ true
    pub main : is_main_name d.name ≡ true → is_main_shape (out-Shape d.ctype.shape) ≡ true
    pub counted : is_counted d ≡ is_some f
    pub body : (g : Func) → f ≡ Some g → P d.ctype g

  abbrev pub IsWellKind : Declared → UnitKind → Type 0
  IsWellKind d (kind.Object leaves) = IsWellObject d
  IsWellKind d (kind.Device e) = is_some d.name ≡ false → is_counted d ≡ false
  IsWellKind d (kind.Func by f) = IsWellFunction d by f

  pub record IsWell (d : Declared) : Type 0 where
    pub entry : IsEntry target defined d
    pub kind : IsWellKind d d.kind
    pub external : is_external_linkage d.linkage ≡ true → is_some d.name ≡ true
    pub plain : (x : Name) → d.name ≡ Some x → is_linked d.linkage ≡ true → is_intrinsic roles x ≡ false

  -- what a name with linkage speaks of: a function, or an object that is defined in front of here
  pub record IsSettled (x : Name) (s : State) : Type 0 where
    pub number : ℕ
    pub declared : Declared
    pub linked : linked_name x s ≡ Some number
    pub there : slice_get s.names number ≡ Some declared
    pub settled : (is_function_kind declared.kind ≡ true) ⊎ (is_counted declared ≡ true)

  -- an intrinsic has no entry
  abbrev pub IsDone : State → Name → Type 0
  IsDone s x = (is_intrinsic roles x ≡ true) ⊎ IsSettled x s

  -- in front of here are the definitions of these names
  pub record AreWell (done : List Name) (s : State) : Type 0 where
    pub well : (i : ℕ) (d : Declared) → slice_get s.names i ≡ Some d → IsWell d
    pub unique : (i : ℕ) (d : Declared) (x : Name) → slice_get s.names i ≡ Some d → is_linked d.linkage ≡ true → d.name ≡ Some x → linked_name x s ≡ Some i
    pub complete : Each (IsDone s) done

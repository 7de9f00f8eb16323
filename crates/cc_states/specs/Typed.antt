-- Which values have which types in a run (C99 6.2.5, 6.3.2.3), where activations of these functions were opened so far, by their numbers.
use Rattle.std.specs.Prelude.{◌≡◌, ℕ, Bool, true, false, List, [], ◌∷◌, Option, Some, None, option_map, slice_get}
use Rattle.cc_program.specs.CcNum.Integers.{is_value_of}
use Rattle.cc_program.specs.declared.func.Func.{Func}
use Rattle.cc_program.specs.declared.program.Program.{Program}
use Rattle.cc_program.specs.declared.types.CType.{CType}
use Rattle.cc_program.specs.declared.value.Address.{Address}
use Rattle.cc_program.specs.declared.value.Address.TheVariants as address
use Rattle.cc_program.specs.declared.value.Cell.{Cell}
use Rattle.cc_program.specs.declared.value.Cell.TheVariants as cell
use Rattle.cc_program.specs.declared.value.Part.{Part}
use Rattle.cc_program.specs.declared.value.Root.{Root}
use Rattle.cc_program.specs.declared.value.Root.TheVariants as root
use Rattle.cc_program.specs.declared.value.Value.{Value}
use Rattle.cc_program.specs.declared.value.Value.TheVariants.{Int, Place}
use Rattle.cc_steps.specs.CcEval.Context.{object_type}
use Rattle.cc_steps.specs.CcEval.declared.spots.Spot.{Spot}
use Rattle.cc_steps.specs.CcEval.declared.spots.Spot.TheVariants as spot
use Rattle.cc_steps.specs.CcSyntax.Expressions.{of_one}
use Rattle.cc_steps.specs.CcSyntax.Initial.{place_at, names, leads_to_element}
use Rattle.cc_steps.specs.CcSyntax.Operators.{function_type}
use Rattle.cc_steps.specs.CcSyntax.Registers.{is_register}
use Rattle.cc_steps.specs.CcSyntax.Values.{ValueType, NoValue, Integer, ToObject, ToFunction, PlaceType, DevicePlace, ObjectPlace, FunctionPlace, read_from, address_of, is_assignable_some, scalar_value}

module _ (p : Program) where
  -- the place to which a path leads in an object
  abbrev pub place_in : Root → List Part → Option PlaceType
  place_in object path = of_one (object_type p object) (place_at p.structures path)

  -- the type of what a cell holds
  abbrev pub cell_type : Cell → Option ValueType
  cell_type (cell.Device d) = option_map (λ d. Integer d.int) (slice_get p.devices d)
  cell_type (cell.At object path) = of_one (place_in object path) read_from

-- whether a local of a function is a register
abbrev pub is_register_in : Option Func → ℕ → Bool
is_register_in None local = false
is_register_in (Some f) local = is_register f local

-- an object to which pointers may lead: none leads to a register
abbrev pub IsInMemory : Program → Root → Type 0
IsInMemory p (root.Static i) = Unit {0}
IsInMemory p (root.Auto number func local) = is_register_in (slice_get p.funcs func) local ≡ false

module _ (openings : List ℕ) where
  -- a local is one of an activation that was opened, of its function
  abbrev pub IsOpened : Root → Type 0
  IsOpened (root.Static i) = Unit {0}
  IsOpened (root.Auto number func local) = slice_get openings number ≡ Some func

  abbrev pub IsThere : Cell → Type 0
  IsThere (cell.Device d) = Unit {0}
  IsThere (cell.At object path) = IsOpened object

module _ (p : Program) (openings : List ℕ) where
  -- what a pointer of a type may have as its value: null, a function, or an address in an object that is no register
  abbrev pub IsAddress : ValueType → Address → Type 0
  IsAddress to address.Null = Unit {0}
  IsAddress to (address.Func f) = is_assignable_some (Some to) (function_type (slice_get p.funcs f)) ≡ true
  IsAddress to (address.At object path index count) = IsOpened openings object × (names to path index count (place_in p object path) ≡ true) × IsInMemory p object

  -- nobody uses the value of what is void
  abbrev pub HasType : ValueType → Value → Type 0
  HasType NoValue v = Unit {0}
  HasType (Integer t) (Int n) = is_value_of t p.target n ≡ true
  HasType (Integer t) (Place a) = ⊥
  HasType (ToObject constant volatile t) (Int n) = ⊥
  HasType (ToObject constant volatile t) (Place a) = IsAddress (ToObject constant volatile t) a
  HasType (ToFunction sig) (Int n) = ⊥
  HasType (ToFunction sig) (Place a) = IsAddress (ToFunction sig) a

  -- a bad value stands for one of any type
  abbrev pub MayHave : ValueType → Option Value → Type 0
  MayHave t None = Unit {0}
  MayHave t (Some v) = HasType t v

  -- to what a place of a type may lead: to a device of the type, to an object that can be pointed to as one of the type, or
  -- where a pointer to the type points
  abbrev pub IsSpot : PlaceType → Spot → Type 0
  IsSpot (DevicePlace constant t) (spot.Device d) = option_map (λ d. d.int) (slice_get p.devices d) ≡ Some t
  IsSpot (DevicePlace constant t) (spot.Object object path) = ⊥
  IsSpot (DevicePlace constant t) (spot.Address a) = ⊥
  IsSpot (ObjectPlace constant volatile t) (spot.Device d) = ⊥
  IsSpot (ObjectPlace constant volatile t) (spot.Object object path) =
      IsOpened openings object × (leads_to_element path ≡ false) × (is_assignable_some (Some (ToObject constant volatile t)) (of_one (place_in p object path) address_of) ≡ true)
  IsSpot (ObjectPlace constant volatile t) (spot.Address a) = IsAddress (ToObject constant volatile t) a
  IsSpot (FunctionPlace sig) (spot.Device d) = ⊥
  IsSpot (FunctionPlace sig) (spot.Object object path) = ⊥
  IsSpot (FunctionPlace sig) (spot.Address a) = IsAddress (ToFunction sig) a

  -- nowhere, where what leads there is bad
  abbrev pub MayLead : PlaceType → Option Spot → Type 0
  MayLead t None = Unit {0}
  MayLead t (Some s) = IsSpot t s

  -- values of the types of parameters
  abbrev pub AreArguments : List CType → List Value → Type 0
  AreArguments [] [] = Unit {0}
  AreArguments [] (v ∷ vs) = ⊥
  AreArguments (t ∷ ts) [] = ⊥
  AreArguments (t ∷ ts) (v ∷ vs) = ((u : ValueType) × (scalar_value t ≡ Some u) × HasType u v) × AreArguments ts vs

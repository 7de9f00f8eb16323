-- What operands may be at points, by facts: the values that are in each of their abstract values, and where places lead.
use Rattle.std.specs.Prelude.{◌≡◌, [], ℕ, List, Option, Some, None}
use Rattle.std.specs.List.{Contains}
use Rattle.cc_state_values_sound.specs.CcEval.declared.spots.Spot.{Spot}
use Rattle.cc_state_values_sound.specs.CcEval.declared.spots.Spot.TheVariants as spot
use Rattle.cc_rules.specs.CcFlow.declared.types.Point.{Point}
use Rattle.cc_state_values_sound.specs.CcPlaces.declared.abs.Abs.{Abs}
use Rattle.cc_state_values_sound.specs.CcPlaces.Abstract.{HasValue}
use Rattle.cc_program.specs.declared.expr.Expr.{Expr}
use Rattle.cc_program.specs.declared.expr.Expr.TheOpen as one
use Rattle.cc_program.specs.declared.expr.Place.{Place, out-Place}
use Rattle.cc_program.specs.declared.func.Func.{Func}
use Rattle.cc_program.specs.declared.program.Program.{Program}
use Rattle.cc_program.specs.declared.value.Address.{Address}
use Rattle.cc_program.specs.declared.value.Address.TheVariants as address
use Rattle.cc_program.specs.declared.value.Root.{Root}
use Rattle.cc_program.specs.declared.value.Root.TheVariants as root
use Rattle.cc_program.specs.declared.value.Value.{Value}
use Rattle.cc_rules.specs.CcRulesFlows.Nexts.{IsPoint}
use Rattle.cc_rules.specs.CcStateFacts.declared.facts.Facts.{Facts}
use Rattle.cc_rules.specs.CcStateFacts.declared.facts.Key.{Key}
use Rattle.cc_rules.specs.CcStateKeys.Keys.{cell_key}
use Rattle.cc_rules.specs.CcStateKeys.Tracked.{tracked_number}
use Rattle.cc_state_values_sound.specs.CcStateOperators.Domains.{Domain}
use Rattle.cc_rules.specs.CcStateReads.Named.{AreClasses}
use Rattle.cc_rules.specs.CcStateReads.Reads.{registers_at}
use Rattle.cc_state_values_sound.specs.CcStateValues.Values.{IsVal}
use Rattle.cc_state_values_sound.specs.CcStates.Typed.{IsInMemory, MayLead}
use Rattle.cc_state_values_sound.specs.CcSyntax.Programs.{place_type}
use Rattle.cc_state_values_sound.specs.CcSyntax.Values.{PlaceType}

-- the class of the object to which a place leads is among some classes
abbrev pub HasAddressClass : Program → List Key → Address → Type 0
HasAddressClass p classes address.Null = Unit {0}
HasAddressClass p classes (address.Func g) = Unit {0}
HasAddressClass p classes (address.At object path index count) = Contains classes (cell_key p object path)

abbrev pub HasClass : Program → List Key → Option Spot → Type 0
HasClass p classes None = Unit {0}
HasClass p classes (Some (spot.Device n)) = Unit {0}
HasClass p classes (Some (spot.Object object path)) = Contains classes (cell_key p object path)
HasClass p classes (Some (spot.Address a)) = HasAddressClass p classes a

-- the static object in which a place leads somewhere
abbrev pub root_static : Root → Option ℕ
root_static (root.Static i) = Some i
root_static (root.Auto number g r) = None

abbrev pub address_static : Address → Option ℕ
address_static address.Null = None
address_static (address.Func g) = None
address_static (address.At object path index count) = root_static object

abbrev pub spot_static : Option Spot → Option ℕ
spot_static None = None
spot_static (Some (spot.Device n)) = None
spot_static (Some (spot.Object object path)) = root_static object
spot_static (Some (spot.Address a)) = address_static a

module _ {I : Type 0} (d : Domain I) (p : Program) (facts : Facts I) where
  -- in the function of the point
  abbrev pub Holds : ℕ → Expr → Value → Type 0
  Holds n e w = (id : ℕ) (f : Func) (point : Point) → IsPoint p n id f point → (y : Abs I) → IsVal d p id f (registers_at facts f n) e y → HasValue d.has y w

  -- where a place that is no register leads: to an object of its type that is in memory and in one of its classes. Tracked objects and
  -- devices are led to by their names alone.
  pub record IsLed (n id : ℕ) (f : Func) (a : Place) (there : Option Spot) : Type 0 where
    pub openings : List ℕ
    pub typed : (u : PlaceType) → place_type p f.locals a ≡ Some u → MayLead p openings u there
    pub in_memory : (object : Root) → there ≡ Some (spot.Object object []) → IsInMemory p object
    pub named : (i : ℕ) → out-Place a ≡ one.Static i → there ≡ Some (spot.Object (root.Static i) [])
    pub named_device : (k : ℕ) → out-Place a ≡ one.Device k → there ≡ Some (spot.Device k)
    pub device : (k : ℕ) → there ≡ Some (spot.Device k) → out-Place a ≡ one.Device k
    pub tracked : (u : PlaceType) → place_type p f.locals a ≡ Some u → (i number : ℕ) → spot_static there ≡ Some i → tracked_number p i ≡ Some number → out-Place a ≡ one.Static i
    pub classes : (u : PlaceType) → place_type p f.locals a ≡ Some u → (classes : List Key) → AreClasses d p id f (registers_at facts f n) a classes → HasClass p classes there

  abbrev pub LeadsAt : ℕ → Place → Option Spot → Type 0
  LeadsAt n a there = (id : ℕ) (f : Func) (point : Point) → IsPoint p n id f point → IsLed n id f a there

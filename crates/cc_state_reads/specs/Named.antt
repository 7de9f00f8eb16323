-- The classes of cells to which a place leads (C99 6.5.2.1, 6.5.2.3, 6.5.3.2), as keys, of which the program may have none.
use Rattle.std.specs.Prelude.{◌≡◌, ℕ, Bool, List, [], ◌∷◌, Option, option_map, option_and_then}
use Rattle.std.specs.List.{flat_map, list_any}
use Rattle.cc_state_values.specs.CcPlaces.declared.abs.Abs.{Abs}
use Rattle.cc_state_values.specs.CcPlaces.declared.abs.Abs.TheVariants as abs
use Rattle.cc_state_values.specs.CcPlaces.declared.addrs.Addrs.{Addrs}
use Rattle.cc_program.specs.declared.expr.Expr.{Expr}
use Rattle.cc_program.specs.declared.expr.Expr.TheOpen as one
use Rattle.cc_program.specs.declared.expr.Place.{Place as PlaceOf, out-Place}
use Rattle.cc_program.specs.declared.func.Func.{Func}
use Rattle.cc_program.specs.declared.program.Program.{Program}
use Rattle.cc_program.specs.declared.value.Address.{Address}
use Rattle.cc_program.specs.declared.value.Address.TheVariants as address
use Rattle.cc_state_keys.specs.CcStateFacts.declared.facts.Key.{Key}
use Rattle.cc_state_keys.specs.CcStateFacts.declared.facts.Key.TheVariants as key
use Rattle.cc_state_keys.specs.Keys.{cell_key, is_key, structure_of}
use Rattle.cc_state_keys.specs.Lists.{only}
use Rattle.cc_state_values.specs.CcStateOperators.Domains.{Domain}
use Rattle.cc_state_values.specs.Values.{IsVal}
use Rattle.cc_state_keys.specs.CcSyntax.Programs.{place_type}
use Rattle.cc_state_keys.specs.CcSyntax.Values.{PlaceType}

-- of the cell to which an address of an object leads
abbrev pub target_class : Program → Address → List Key
target_class p address.Null = []
target_class p (address.Func f) = []
target_class p (address.At object path index count) = cell_key p object path ∷ []

-- of a member of a structure
abbrev pub member_class : Option PlaceType → ℕ → List Key
member_class t m = only (option_map (λ s. key.Member s m) (option_and_then structure_of t))

-- whether a key is one of some classes
abbrev pub is_among : List Key → Key → Bool
is_among classes k = list_any (λ c. is_key c k) classes

module _ {I : Type 0} (d : Domain I) (p : Program) (id : ℕ) (f : Func) (register : ℕ → Option (Abs I)) where
  -- a named object and its elements have the object's, a member and its elements the member's, what a pointer points to and its elements
  -- that of each object address in the pointer's abstract value; a device has none
  pub data AreClasses : PlaceOf → List Key → Type 0 where
    OfLocal : {a : PlaceOf} {classes : List Key} (r : ℕ) → out-Place a ≡ one.Local r → classes ≡ key.Local id r ∷ [] → AreClasses a classes
    OfStatic : {a : PlaceOf} {classes : List Key} (i : ℕ) → out-Place a ≡ one.Static i → classes ≡ key.Object i ∷ [] → AreClasses a classes
    OfDevice : {a : PlaceOf} {classes : List Key} (n : ℕ) → out-Place a ≡ one.Device n → classes ≡ [] → AreClasses a classes
    OfElement : {a : PlaceOf} {classes : List Key} (b : PlaceOf) (i : Expr) → out-Place a ≡ one.Element b i → AreClasses b classes → AreClasses a classes
    OfMember : {a : PlaceOf} {classes : List Key} (b : PlaceOf) (m : ℕ) → out-Place a ≡ one.Member b m → classes ≡ member_class (place_type p f.locals b) m → AreClasses a classes
    OfTarget : {a : PlaceOf} {classes : List Key} (e : Expr) (s : Addrs) → out-Place a ≡ one.Deref e → IsVal d p id f register e (abs.Addrs s) → classes ≡ flat_map (target_class p) s.members → AreClasses a classes

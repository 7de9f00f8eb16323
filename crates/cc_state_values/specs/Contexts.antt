-- Where expressions are worked, as the code has it: a function, and the sets of its registers in their order.
use Rattle.std.specs.Prelude.{◌≡◌, ℕ, ℤ, ◌==◌, List, Option, None, option_and_then, slice_get, position}
use Rattle.cc_state_operators.specs.CcPlaces.declared.abs.Abs.{Abs}
use Rattle.cc_state_operators.specs.CcPlaces.declared.abs.Abs.TheVariants as abs
use Rattle.cc_state_operators.specs.CcPlaces.declared.addrs.Addrs.{Addrs}
use Rattle.cc_program.specs.declared.expr.Expr.{Expr, out-Expr}
use Rattle.cc_program.specs.declared.expr.Expr.TheOpen as one
use Rattle.cc_program.specs.declared.expr.Place.{Place, out-Place}
use Rattle.cc_state_values.specs.declared.context.Context.{Context}
use Rattle.cc_program.specs.declared.value.Address.{Address}
use Rattle.cc_state_operators.specs.Addresses.{IsOnly}
use Rattle.cc_state_operators.specs.Domains.{Domain, IsHull}
use Rattle.cc_state_values.specs.Typed.{IsPure, IsPurePlace, HaveSets, IsKnown}
use Rattle.cc_state_values.specs.Values.{IsVal, Designates}

-- the set that stands where a local does in a list of registers
abbrev pub set_of : {A : Type 0} → List ℕ → List A → ℕ → Option A
set_of registers sets r = option_and_then (slice_get sets) (position (λ q. q == r) registers)

abbrev pub set_in : {I : Type 0} → Context I → ℕ → Option (Abs I)
set_in c r = set_of c.registers.now c.sets.now r

-- of a place that is a register
abbrev pub set_at : {I : Type 0} → Context I → one.Place-F Expr Place → Option (Abs I)
set_at c (one.Local r) = set_in c r
set_at c (one.Static i) = None
set_at c (one.Device n) = None
set_at c (one.Element a i) = None
set_at c (one.Member a m) = None
set_at c (one.Deref e) = None

-- the set of one number
abbrev pub IsConstant : {I : Type 0} → Domain I → ℤ → Abs I → Type 0
IsConstant {I = I} d n y = (x : I) × IsHull d (λ m. m ≡ n) x × ((m : ℤ) → d.has x m → m ≡ n) × (y ≡ abs.Ints x)

-- the set of one address
abbrev pub IsOneAddress : {I : Type 0} → Address → Abs I → Type 0
IsOneAddress a y = (s : Addrs) × IsOnly a s × (y ≡ abs.Addrs s)

module _ {I : Type 0} (d : Domain I) (c : Context I) where
  abbrev pub HaveSetsIn : Type 0
  HaveSetsIn = HaveSets d c.program.now c.id c.func.now (set_in c)

  abbrev pub IsPureIn : Expr → Type 0
  IsPureIn e = IsPure c.program.now c.func.now e

  abbrev pub IsPurePlaceIn : Place → Type 0
  IsPurePlaceIn a = IsPurePlace c.program.now c.func.now a

  abbrev pub IsValIn : Expr → Abs I → Type 0
  IsValIn e y = IsVal d c.program.now c.id c.func.now (set_in c) e y

  abbrev pub DesignatesIn : Place → Addrs → Type 0
  DesignatesIn a s = Designates d c.program.now c.id c.func.now (set_in c) a s

  -- the set of a place's addresses
  abbrev pub ArePointersIn : Place → Abs I → Type 0
  ArePointersIn a y = (s : Addrs) × DesignatesIn a s × (y ≡ abs.Addrs s)

  abbrev pub IsKnownIn : Expr → Abs I → Type 0
  IsKnownIn e y = IsKnown d c.program.now c.id c.func.now (set_in c) e y

  -- of an expression and of a place of this form
  abbrev pub IsPureAs : one.Expr-F Expr Place → Type 0
  IsPureAs x = (e : Expr) × (out-Expr e ≡ x) × IsPureIn e

  abbrev pub IsPurePlaceAs : one.Place-F Expr Place → Type 0
  IsPurePlaceAs x = (a : Place) × (out-Place a ≡ x) × IsPurePlaceIn a

  abbrev pub IsKnownAs : one.Expr-F Expr Place → Abs I → Type 0
  IsKnownAs x y = (e : Expr) → out-Expr e ≡ x → IsPureIn e → IsKnownIn e y

  abbrev pub DesignatesAs : one.Place-F Expr Place → Addrs → Type 0
  DesignatesAs x s = (a : Place) → out-Place a ≡ x → IsPurePlaceIn a → DesignatesIn a s

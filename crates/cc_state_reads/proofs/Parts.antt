-- What a place is by its type, and by its position among tracked cells.
use Rattle.std.proofs.Common.{arith, ◌≡◌, ◌<◌, ◌^◌, ◌==◌, ℕ, true, Option, Some, None, List, length, length-take, refl, ap}
use Rattle.std.specs.Prelude.{is_some, option_map, slice_get}
use Rattle.std.proofs.lemmas.List.Quantifiers.{position-Some}
use Rattle.cc_program.specs.declared.expr.Expr.{Expr}
use Rattle.cc_program.specs.declared.expr.Expr.TheOpen as one
use Rattle.cc_program.specs.declared.expr.Place.{Place, out-Place}
use Rattle.cc_program.specs.declared.func.Func.{Func}
use Rattle.cc_program.specs.declared.object.Device.{Device}
use Rattle.cc_program.specs.declared.program.Program.{Program}
use Rattle.cc_state_keys.specs.Tracked.{tracked}
use Rattle.cc_state_reads.specs.Reads.{device_number, object_in}
use Rattle.cc_state_values.proofs.Parts.{place_typed_as}
use Rattle.cc_state_values.specs.Typed.{IsPurePlace}
use Rattle.cc_state_keys.specs.CcSyntax.Values.{DevicePlace}

-- an object's position
pub object_within : (objects : List ℕ) (x : one.Place-F Expr Place) (cell : ℕ) → object_in objects x ≡ Some cell → cell < length objects
object_within objects (one.Static i) cell h = (position-Some (λ k. k == i) objects cell 0 h).0
object_within objects (one.Local r) cell h = absurd (cc)
object_within objects (one.Device n) cell h = absurd (cc)
object_within objects (one.Element a i) cell h = absurd (cc)
object_within objects (one.Member a m) cell h = absurd (cc)
object_within objects (one.Deref e) cell h = absurd (cc)

pub few_tracked : (p : Program) (objects : List ℕ) (cell : ℕ) → objects ≡ tracked p → cell < length objects → cell < 2 ^ 32
few_tracked p objects cell h l = let e = ap length h in omega (arith, l, e, length-take {A = ℕ})

-- a device's number
is_device : (x : one.Place-F Expr Place) (n : ℕ) → device_number x ≡ Some n → x ≡ one.Device n
is_device (one.Device m) n h = ap (λ z. one.Device z) (cc)
is_device (one.Static i) n h = absurd (cc)
is_device (one.Local r) n h = absurd (cc)
is_device (one.Element a i) n h = absurd (cc)
is_device (one.Member a m) n h = absurd (cc)
is_device (one.Deref e) n h = absurd (cc)

mapped : {A B : Type 0} (g : A → B) (o : Option A) (b : B) → option_map g o ≡ Some b → is_some o ≡ true
mapped g None b h = absurd (cc)
mapped g (Some a) b h = refl

pub device_there : (p : Program) (f : Func) (a : Place) (n : ℕ) → device_number (out-Place a) ≡ Some n → IsPurePlace p f a → is_some (slice_get p.devices n) ≡ true
device_there p f a n h k =
    let (t, typed) = k.typed in
    mapped (λ (d : Device). DevicePlace d.constant d.int) (slice_get p.devices n) t (place_typed_as p f a (one.Device n) t (is_device (out-Place a) n h) typed)

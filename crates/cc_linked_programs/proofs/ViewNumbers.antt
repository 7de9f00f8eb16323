-- The id of a thing is its position among the objects, the devices or the functions of the program.
use Rattle.std.proofs.Common.{◌≡◌, ◌∙◌, ◌<◌, ℕ, true, false, true≢false, not, List, length, Some, None, slice_get, refl, ap, sym}
use Rattle.std.specs.Prelude.{nat_eq, position}
use Rattle.cc_definitions.specs.Definitions.{thing_at, numbers_below, numbers_of, has_definition, is_function, is_defined_before, defined, devices, functions, objects}
use Rattle.cc_link.specs.Linked.{id_at}
use Rattle.cc_relocated_units.proofs.ProgramOrder.{filter-passes}
use Rattle.cc_linked_programs.proofs.ThingLists.{positioned, no-position, in-order, order-in, below-in}
use Rattle.cc_structures.proofs.Elements.{In}
use Rattle.cc_structures.proofs.OrderLemmas.{in-filter, filter-in}
use Rattle.cc_things.specs.Things.{Thing, is_device}
use Rattle.cc_unit.specs.declared.ids.Id.TheVariants as id

module _ (ts : List Thing) where
  pub in-defined : (k : ℕ) → k < length ts → has_definition (thing_at ts k) ≡ true → In k (defined ts)
  in-defined k h e = in-order (is_defined_before ts) (numbers_of has_definition ts) k (filter-in (λ (j : ℕ). has_definition (thing_at ts j)) (numbers_below (length ts)) k (below-in (length ts) k h) e)

  pub defined-in : (k : ℕ) → In k (defined ts) → has_definition (thing_at ts k) ≡ true
  defined-in k i = filter-passes (λ (j : ℕ). has_definition (thing_at ts j)) (numbers_below (length ts)) k (order-in (is_defined_before ts) (numbers_of has_definition ts) k i)

  pub objects-in : (k : ℕ) → In k (objects ts) → has_definition (thing_at ts k) ≡ true
  objects-in k i = defined-in k (in-filter (λ (j : ℕ). not (is_function (thing_at ts j))) (defined ts) k i)

  pub functions-in : (k : ℕ) → In k (functions ts) → (has_definition (thing_at ts k) ≡ true) × (is_function (thing_at ts k) ≡ true)
  functions-in k i = (defined-in k (in-filter (λ (j : ℕ). is_function (thing_at ts j)) (defined ts) k i), filter-passes (λ (j : ℕ). is_function (thing_at ts j)) (defined ts) k i)

  pub devices-in : (k : ℕ) → In k (devices ts) → is_device (thing_at ts k) ≡ true
  devices-in k i = filter-passes (λ (j : ℕ). is_device (thing_at ts j)) (numbers_below (length ts)) k i

  no-device : (k : ℕ) → is_device (thing_at ts k) ≡ false → position (nat_eq k) (devices ts) ≡ None
  no-device k e = no-position k (devices ts) (λ i. true≢false (sym (devices-in k i) ∙ e))

  no-function : (k : ℕ) → is_function (thing_at ts k) ≡ false → position (nat_eq k) (functions ts) ≡ None
  no-function k e = no-position k (functions ts) (λ i. true≢false (sym (functions-in k i).1 ∙ e))

  -- an object, and its position
  pub object-id : (k : ℕ) → k < length ts → has_definition (thing_at ts k) ≡ true → is_device (thing_at ts k) ≡ false → is_function (thing_at ts k) ≡ false → (at : ℕ) × (id_at ts k ≡ id.Object at) × (slice_get (objects ts) at ≡ Some k)
  object-id k h e d f =
      let p = positioned k (objects ts) (filter-in (λ (j : ℕ). not (is_function (thing_at ts j))) (defined ts) k (in-defined k h e) (ap not f)) in
      (p.at, rw (no-device k d, no-function k f, p.is) refl, p.there)

  pub function-id : (k : ℕ) → k < length ts → has_definition (thing_at ts k) ≡ true → is_device (thing_at ts k) ≡ false → is_function (thing_at ts k) ≡ true → (at : ℕ) × (id_at ts k ≡ id.Func at) × (slice_get (functions ts) at ≡ Some k)
  function-id k h e d f =
      let p = positioned k (functions ts) (filter-in (λ (j : ℕ). is_function (thing_at ts j)) (defined ts) k (in-defined k h e) f) in
      (p.at, rw (no-device k d, p.is) refl, p.there)

  pub device-id : (k : ℕ) → k < length ts → is_device (thing_at ts k) ≡ true → (at : ℕ) × (id_at ts k ≡ id.Device at) × (slice_get (devices ts) at ≡ Some k)
  device-id k h e =
      let p = positioned k (devices ts) (filter-in (λ (j : ℕ). is_device (thing_at ts j)) (numbers_below (length ts)) k (below-in (length ts) k h) e) in
      (p.at, rw p.is refl, p.there)

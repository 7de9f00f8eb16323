-- A view and another, in which structures, objects, devices and functions have other numbers; and types by those.
use Rattle.std.specs.Prelude.{◌≡◌, ℕ, Bool, true, List, map, Option, Some, slice_get}
use Rattle.cc_operands.specs.CcSyntax.Views.{View}
use Rattle.cc_operands.specs.CcSyntax.Expressions.{place_type}
use Rattle.cc_program.specs.declared.types.Structure.{Structure as Content}
use Rattle.cc_operand_types.specs.Reduced.{ReducedPlace}
use Rattle.cc_operands.specs.CcSyntax.Types.{Named}
use Rattle.cc_operands.specs.CcSyntax.Values.{ValueType, NoValue, Integer, ToObject, ToFunction, PlaceType, DevicePlace, ObjectPlace, FunctionPlace}
use Rattle.cc_unit.specs.Renumbered.{structure_by, object_by, func_by, device_by, type_renumbered, sig_renumbered}
use Rattle.cc_unit.specs.declared.ids.Ids.{Ids}

module _ (numbers : List ℕ) where
  abbrev pub value_renumbered : ValueType → ValueType
  value_renumbered NoValue = NoValue
  value_renumbered (Integer i) = Integer i
  value_renumbered (ToObject constant volatile t) = ToObject constant volatile (type_renumbered numbers t)
  value_renumbered (ToFunction s) = ToFunction (sig_renumbered numbers s)

  abbrev pub place_type_renumbered : PlaceType → PlaceType
  place_type_renumbered (DevicePlace constant i) = DevicePlace constant i
  place_type_renumbered (ObjectPlace constant volatile t) = ObjectPlace constant volatile (type_renumbered numbers t)
  place_type_renumbered (FunctionPlace s) = FunctionPlace (sig_renumbered numbers s)

  abbrev pub MemberTypes : List Named → List Named → Type 0
  MemberTypes before after = map (λ (m : Named). m.1) after ≡ map (λ (m : Named). type_renumbered numbers m.1) before

  -- locals, each at its place
  abbrev pub RenumberedLocals : List Named → List Named → Type 0
  RenumberedLocals before after = (r : ℕ) (l : Named) → slice_get before r ≡ Some l → (m : Named) × (slice_get after r ≡ Some m) × (m.1 ≡ type_renumbered numbers l.1)

-- what has a number in the first view has its number in the second; of names those that are mentioned. A device may be an object there.
pub record Renumbers (v w : View) (ids : Ids) (among : ℕ → Bool) : Type 0 where
  pub target : w.target ≡ v.target
  pub extents : (i : ℕ) (x : Option ℕ) → v.extents i ≡ Some x → w.extents (structure_by (slice_get ids.structures i)) ≡ Some x
  pub structures : (i : ℕ) (s : Content) → slice_get v.structures i ≡ Some s →
      (t : Content) × (slice_get w.structures (structure_by (slice_get ids.structures i)) ≡ Some t) × MemberTypes ids.structures s.members t.members
  pub statics : (i : ℕ) (a : PlaceType) → among i ≡ true → v.statics i ≡ Some a → w.statics (object_by (slice_get ids.names i)) ≡ Some (place_type_renumbered ids.structures a)
  pub devices : (i : ℕ) (a : PlaceType) → among i ≡ true → v.devices i ≡ Some a → (locals : List Named) →
      (b : PlaceType) × (place_type w locals (device_by (slice_get ids.names i)) ≡ Some b) × ReducedPlace b (place_type_renumbered ids.structures a)
  pub functions : (i : ℕ) (t : ValueType) → among i ≡ true → v.functions i ≡ Some t → w.functions (func_by (slice_get ids.names i)) ≡ Some (value_renumbered ids.structures t)

-- The view of the program that sound sources link to has, by its numbers, the objects and devices that each source uses.
use Rattle.std.proofs.Common.{◌≡◌, ◌∙◌, ◌⊎◌, inl, inr, ℕ, Bool, true, false, true≢false, List, Option, Some, None, option_map, slice_get, refl, ap, sym, subst}
use Rattle.std.specs.Prelude.{nat_eq, option_and_then}
use Rattle.std.specs.List.{list_any}
use Rattle.cc_causes.specs.Causes.{cause_of_things}
use Rattle.cc_link.specs.Linked.{all_ids, id_at, ids_in, program, name_or_none}
use Rattle.cc_linked_names.specs.Given.{name_at, reserved_names}
use Rattle.cc_linked_programs.proofs.Agreeing.{used_there}
use Rattle.cc_linked_programs.proofs.ThingSources.{in_mentions, its_id, number_of}
use Rattle.cc_linked_programs.specs.NamedThings.{mention_of}
use Rattle.cc_linked_programs.proofs.Defined.{each_named, device_of, sound_mention}
use Rattle.cc_linked_programs.proofs.DeviceViews.{device_there}
use Rattle.cc_linked_programs.proofs.Objects.{defined_object, object_defined, ids_structures}
use Rattle.cc_linked_programs.proofs.Shapes.{const_int, no_object}
use Rattle.cc_linked_programs.specs.FunctionTypes.{is_function_type}
use Rattle.cc_program.specs.CcNum.declared.int_type.IntType.{IntType}
use Rattle.cc_program.specs.CcNum.declared.target.Target.{Target}
use Rattle.cc_operand_types.proofs.Rolls.{place-roll}
use Rattle.cc_program.specs.declared.expr.Expr.TheOpen as one
use Rattle.cc_program.specs.declared.expr.Place.{Place, Static, Device as DeviceAt}
use Rattle.cc_program.specs.declared.expr.Place.TheVariants.{rolls-Static, rolls-Device}
use Rattle.cc_program.specs.declared.object.Device.{Device}
use Rattle.cc_program.specs.declared.object.Object.{Object}
use Rattle.cc_program.specs.declared.program.Program.{Program}
use Rattle.cc_program.specs.declared.program.Roles.{Roles}
use Rattle.cc_program.specs.declared.types.CType.{CType}
use Rattle.cc_program.specs.declared.types.Shape.{out-Shape}
use Rattle.cc_program.specs.declared.types.Shape.TheOpen as shape
use Rattle.cc_program.specs.declared.value.Leaf.{Leaf}
use Rattle.cc_program.specs.Qualifiers.{is_const, is_volatile}
use Rattle.cc_relocated_units.specs.Renumbering.{place_type_renumbered}
use Rattle.cc_relocated_units.proofs.Types.{object_kept}
use Rattle.cc_relocated_units.specs.Units.{unit_view, static_as, device_as, IsSoundUnit, IsSoundKind}
use Rattle.cc_operand_types.specs.Reduced.{ReducedPlace, Devices, Defined}
use Rattle.cc_structures.specs.Structures.{Known, Numbering, numbers_of}
use Rattle.cc_structures.proofs.Elements.{In}
use Rattle.cc_structures.proofs.WordLaws.{level-renumbered, constant-kept}
use Rattle.cc_operands.specs.CcSyntax.Types.{Named}
use Rattle.cc_operands.specs.CcSyntax.Values.{PlaceType, DevicePlace, ObjectPlace, object_place, scalar_shape, implies}
use Rattle.cc_operands.proofs.CcSyntax.AlikeLemmas.{implies_itself}
use Rattle.cc_operands.specs.CcSyntax.Views.{View, of_program}
use Rattle.cc_operands.specs.CcSyntax.Expressions.{place_type}
use Rattle.cc_things.specs.Mentions.{Mention, mentions}
use Rattle.cc_things.specs.Things.{Thing, identity_of, thing_of, things, is_defined, is_device}
use Rattle.cc_things.specs.declared.text.Text.{Text}
use Rattle.cc_unit.specs.Mentioned.{mentioned}
use Rattle.cc_unit.specs.Renumbered.{object_by, device_by, type_renumbered}
use Rattle.cc_unit.specs.declared.ids.Id.{Id}
use Rattle.cc_unit.specs.declared.ids.Ids.{Ids}
use Rattle.cc_unit.specs.declared.unit.UnitKind.{UnitKind}
use Rattle.cc_unit.specs.declared.unit.UnitKind.TheVariants as kind
use Rattle.cc_unit.specs.declared.unit.UnitName.{UnitName}

module _ (texts : List Text) (target : Target) (sound : (t : ℕ) (x : Text) → slice_get texts t ≡ Some x → IsSoundUnit target x.unit) (roles : Roles) (numbering : Numbering) (firsts : List Known) (none : cause_of_things numbering (things texts) ≡ None)
    (t : ℕ) (x : Text) (ex : slice_get texts t ≡ Some x) where
  abbrev p : Program
  p = program texts roles numbering firsts target

  abbrev w : View
  w = of_program p

  abbrev name_of : ℕ → Option (List ℕ)
  name_of k = name_at (things texts) (reserved_names texts roles) roles firsts k

  abbrev ids : Ids
  ids = ids_in (all_ids texts numbering) t

  abbrev numbers : List ℕ
  numbers = numbers_of numbering t

  abbrev m : ℕ → UnitName → Mention
  m i n = mention_of t x i n

  module _ (i : ℕ) (n : UnitName) (en : slice_get x.unit.names i ≡ Some n) where
    there : In (m i n) (mentions texts)
    there = in_mentions texts t x i n ex en

    structures_are : ids.structures ≡ numbers
    structures_are = ids_structures texts target sound numbering none name_of (m i n) there

    no_function : (q : UnitKind) (init : List Leaf) → n.kind ≡ kind.Object init → is_function_type n.ctype ≡ false
    no_function q init e = by (is_function_type n.ctype) refl
      where
        s : IsSoundKind (unit_view target (sound_mention texts target sound (m i n) there).text.unit) n (kind.Object init)
        s = subst (λ (k : UnitKind). IsSoundKind (unit_view target (sound_mention texts target sound (m i n) there).text.unit) n k) e (sound_mention texts target sound (m i n) there).name

        by : (b : Bool) → is_function_type n.ctype ≡ b → is_function_type n.ctype ≡ false
        by false f = f
        by true f = absurd (no_object (unit_view target (sound_mention texts target sound (m i n) there).text.unit) n.ctype f s.object)

    object_static : (init : List Leaf) → n.kind ≡ kind.Object init → list_any (nat_eq i) (mentioned x.unit.names) ≡ true → (a : PlaceType) → Some (object_place n.ctype) ≡ Some a →
        w.statics (object_by (slice_get ids.names i)) ≡ Some (place_type_renumbered ids.structures a)
    object_static init q used a e =
        let defined = object_defined texts target sound numbering none name_of (m i n) init there used q in
        let r = defined_object texts target sound numbering none name_of (m i n) there defined (no_function n.kind init q) in
        ap (λ (o : Option Id). w.statics (object_by o)) (its_id texts numbering t x i n ex en ∙ ap (λ (k : Id). Some k) r.1)
        ∙ (ap (option_map (λ (o : Object). object_place o.ctype)) r.2.1
        ∙ (ap (λ (c : CType). Some (object_place c)) r.2.2
        ∙ (ap (λ (b : PlaceType). Some b) (object_kept numbers n.ctype)
        ∙ (ap (option_map (place_type_renumbered numbers)) e
        ∙ ap (λ (l : List ℕ). Some (place_type_renumbered l a)) (sym structures_are)))))

    static_kind : (k : UnitKind) → n.kind ≡ k → list_any (nat_eq i) (mentioned x.unit.names) ≡ true → (a : PlaceType) → static_as n.ctype k ≡ Some a → w.statics (object_by (slice_get ids.names i)) ≡ Some (place_type_renumbered ids.structures a)
    static_kind (kind.Object init) q used a e = object_static init q used a e
    static_kind (kind.Device d) q used a e = absurd (cc)
    static_kind (kind.Func entry f) q used a e = absurd (cc)

    -- ---- devices

    abbrev Gives : List Named → PlaceType → Type 0
    Gives locals a = (b : PlaceType) × (place_type w locals (device_by (slice_get ids.names i)) ≡ Some b) × ReducedPlace b (place_type_renumbered ids.structures a)

    device_object : (d : Device) → n.kind ≡ kind.Device d → is_defined (thing_of (mentions texts) (identity_of (m i n))) ≡ true → (locals : List Named) → Gives locals (DevicePlace d.constant d.int)
    device_object d q defined locals =
        let s = device_of texts target sound (m i n) d there q in
        let plain : is_function_type n.ctype ≡ false = rw s.1.int refl in
        let r = defined_object texts target sound numbering none name_of (m i n) there defined plain in
        let c = type_renumbered numbers n.ctype in
        let shaped : out-Shape c.shape ≡ shape.Int d.int = level-renumbered numbers n.ctype (shape.Int d.int) s.1.int in
        let const : is_const c ≡ d.constant = const_int c d.int shaped ∙ (constant-kept numbers n.ctype ∙ s.1.constant) in (
          object_place c,
          ap (λ (o : Option Id). place_type w locals (device_by o)) (its_id texts numbering t x i n ex en ∙ ap (λ (k : Id). Some k) r.1)
              ∙ (place-roll w locals (Static r.0) (one.Static r.0) (rolls-Static r.0)
              ∙ (ap (option_map (λ (o : Object). object_place o.ctype)) r.2.1 ∙ ap (λ (u : CType). Some (object_place u)) r.2.2)),
          Defined (is_const c) (is_volatile c) c d.constant d.int (ap scalar_shape shaped) (ap (λ (b : Bool). implies b d.constant) const ∙ implies_itself d.constant),
        )

    device_itself : (d : Device) → n.kind ≡ kind.Device d → is_device (thing_of (mentions texts) (identity_of (m i n))) ≡ true → (locals : List Named) → Gives locals (DevicePlace d.constant d.int)
    device_itself d q e locals =
        let r = device_there texts target sound numbering none name_of (m i n) d there q e in (
          DevicePlace d.constant d.int,
          ap (λ (o : Option Id). place_type w locals (device_by o)) (its_id texts numbering t x i n ex en ∙ ap (λ (k : Id). Some k) r.1)
              ∙ (place-roll w locals (DeviceAt r.0) (one.Device r.0) (rolls-Device r.0)
              ∙ (ap (option_map (λ (y : Device). DevicePlace y.constant y.int)) r.2.1
              ∙ (ap (λ (b : Bool). Some (DevicePlace b r.2.0.int)) r.2.3 ∙ ap (λ (j : IntType). Some (DevicePlace d.constant j)) r.2.2))),
          Devices d.constant d.int,
        )

    device_kind : (k : UnitKind) → n.kind ≡ k → list_any (nat_eq i) (mentioned x.unit.names) ≡ true → (a : PlaceType) → device_as k ≡ Some a → (locals : List Named) → Gives locals a
    device_kind (kind.Device d) q used a e locals = subst (λ (b : PlaceType). Gives locals b) (same_place (DevicePlace d.constant d.int) a e) (by (used_there texts (each_named texts target sound) numbering none (m i n) there used))
      where
        same_place : (a b : PlaceType) → Some a ≡ Some b → a ≡ b
        same_place a b e = cc e

        by : (is_defined (thing_of (mentions texts) (identity_of (m i n))) ≡ true) ⊎ (is_device (thing_of (mentions texts) (identity_of (m i n))) ≡ true) → Gives locals (DevicePlace d.constant d.int)
        by (inl f) = device_object d q f locals
        by (inr f) = device_itself d q f locals
    device_kind (kind.Object init) q used a e locals = absurd (cc)
    device_kind (kind.Func entry f) q used a e locals = absurd (cc)

  statics_by : (i : ℕ) (o : Option UnitName) → slice_get x.unit.names i ≡ o → list_any (nat_eq i) (mentioned x.unit.names) ≡ true → (a : PlaceType) → option_and_then (λ (n : UnitName). static_as n.ctype n.kind) o ≡ Some a →
      w.statics (object_by (slice_get ids.names i)) ≡ Some (place_type_renumbered ids.structures a)
  statics_by i None en used a e = absurd (cc)
  statics_by i (Some n) en used a e = static_kind i n en n.kind refl used a e

  devices_by : (i : ℕ) (o : Option UnitName) → slice_get x.unit.names i ≡ o → list_any (nat_eq i) (mentioned x.unit.names) ≡ true → (a : PlaceType) → option_and_then (λ (n : UnitName). device_as n.kind) o ≡ Some a → (locals : List Named) →
      (b : PlaceType) × (place_type w locals (device_by (slice_get ids.names i)) ≡ Some b) × ReducedPlace b (place_type_renumbered ids.structures a)
  devices_by i None en used a e locals = absurd (cc)
  devices_by i (Some n) en used a e locals = device_kind i n en n.kind refl used a e locals

  pub statics_numbered : (i : ℕ) (a : PlaceType) → list_any (nat_eq i) (mentioned x.unit.names) ≡ true → (unit_view target x.unit).statics i ≡ Some a → w.statics (object_by (slice_get ids.names i)) ≡ Some (place_type_renumbered ids.structures a)
  statics_numbered i a used e = statics_by i (slice_get x.unit.names i) refl used a e

  pub devices_numbered : (i : ℕ) (a : PlaceType) → list_any (nat_eq i) (mentioned x.unit.names) ≡ true → (unit_view target x.unit).devices i ≡ Some a → (locals : List Named) →
      (b : PlaceType) × (place_type w locals (device_by (slice_get ids.names i)) ≡ Some b) × ReducedPlace b (place_type_renumbered ids.structures a)
  devices_numbered i a used e locals = devices_by i (slice_get x.unit.names i) refl used a e locals

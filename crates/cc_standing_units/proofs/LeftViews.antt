-- The view of the unit that is left has what the state's own view has, by the unit's numbers.
use Rattle.std.proofs.Common.{◌≡◌, ◌∙◌, ◌+◌, ℕ, zero, suc, Bool, true, false, true≢false, cond, List, [], ◌∷◌, length, map, Option, Some, None, option_map, slice_get, refl, ap, sym, subst, arith}
use Rattle.std.specs.Prelude.{nat_lt, option_and_then, unwrap_or}
use Rattle.std.proofs.lemmas.Bool.{lt-ltb}
use Rattle.std.proofs.lemmas.List.{length-map}
use Rattle.std.proofs.lemmas.Option.{slice_get-map, slice_get_within}
use Rattle.cc_program.specs.CcNum.declared.target.Target.{Target}
use Rattle.cc_numbering.specs.Names.{kind_in, name_in, own_id, own_ids}
use Rattle.cc_numbering.specs.Structures.{all_named_in}
use Rattle.cc_numbering.specs.Units.{ids_of, unit_left}
use Rattle.cc_operand_types.proofs.Rolls.{place-roll}
use Rattle.cc_standing_units.specs.Views.{has_content, known_extent, view_of}
use Rattle.cc_program.specs.declared.expr.Expr.TheOpen as one
use Rattle.cc_program.specs.declared.expr.Place.{Device as DeviceAt}
use Rattle.cc_program.specs.declared.expr.Place.TheVariants.{rolls-Device}
use Rattle.cc_program.specs.declared.types.CType.{CType}
use Rattle.cc_program.specs.declared.types.Shape.{Shape, out-Shape}
use Rattle.cc_program.specs.declared.types.Shape.TheOpen as shape
use Rattle.cc_program.specs.declared.types.Sig.{Sig}
use Rattle.cc_program.specs.declared.types.Structure.{Structure}
use Rattle.cc_relocated_units.proofs.Types.{object_kept}
use Rattle.cc_relocated_units.specs.Renumbering.{MemberTypes, Renumbers, place_type_renumbered, value_renumbered}
use Rattle.cc_terms.specs.CcScopes.State.{KnownStructure, State, as_structure, members_or_none}
use Rattle.cc_terms.specs.CcScopes.declared.unit.Declared.{Declared}
use Rattle.cc_relocated_units.specs.Units.{device_as, function_as, function_shape, static_as, unit_view}
use Rattle.cc_sound_terms.specs.Ordered.{IsOrdered}
use Rattle.cc_operand_types.specs.Reduced.{Devices, ReducedPlace}
use Rattle.cc_structures.proofs.WordLaws.{level-renumbered, number_by, renumbered_level}
use Rattle.cc_terms.specs.CcSyntax.Expressions.{place_type}
use Rattle.cc_terms.specs.CcSyntax.Layout.{layouts, nothing}
use Rattle.cc_terms.specs.CcSyntax.Types.{Named, has_members}
use Rattle.cc_terms.specs.CcSyntax.Values.{DevicePlace, PlaceType, ValueType}
use Rattle.cc_terms.specs.CcSyntax.Views.{View}
use Rattle.cc_terms.specs.CcSyntax.declared.sizes.Layout.{Layout}
use Rattle.cc_terms.specs.CcUnit.Renumbered.{device_by, func_by, object_by, type_renumbered}
use Rattle.cc_terms.specs.CcUnit.declared.ids.Id.{Id}
use Rattle.cc_terms.specs.CcUnit.declared.unit.UnitKind.{UnitKind}
use Rattle.cc_terms.specs.CcUnit.declared.unit.UnitKind.TheVariants as kind
use Rattle.cc_terms.specs.CcUnit.declared.unit.UnitName.{UnitName}
use Rattle.cc_standing_units.proofs.Laid.{content, lies_there, numbers, unit_at}
use Rattle.cc_standing_units.specs.Laid.{AreLaid}

-- ---- names: each keeps its position

ids-at : (n : ℕ) (ds : List Declared) (i : ℕ) (d : Declared) → slice_get ds i ≡ Some d → slice_get (own_ids n ds) i ≡ Some (own_id (n + i) d.kind)
ids-at n [] i d e = absurd (cc)
ids-at n (x ∷ ds) zero d e = ap (λ (y : Declared). Some (own_id n y.kind)) (same x d e) ∙ ap (λ (k : ℕ). Some (own_id k d.kind)) (plus n)
  where
    same : (a b : Declared) → Some a ≡ Some b → a ≡ b
    same a b e = cc e

    plus : (n : ℕ) → n ≡ n + 0
    plus n = omega arith
ids-at n (x ∷ ds) (suc i) d e = ids-at (suc n) ds i d e ∙ ap (λ (k : ℕ). Some (own_id k d.kind)) (plus n i)
  where
    plus : (n m : ℕ) → suc n + m ≡ n + suc m
    plus n m = omega arith

member_types : (ns : List ℕ) (ms : List Named) → map (λ (m : Named). m.1) (all_named_in ns ms) ≡ map (λ (m : Named). type_renumbered ns m.1) ms
member_types ns [] = refl
member_types ns (m ∷ ms) = ap (λ (l : List CType). type_renumbered ns m.1 ∷ l) (member_types ns ms)

module _ (target : Target) (s : State) (ordered : IsOrdered s) (laid : AreLaid target s) where
  abbrev v : View
  v = view_of target s

  abbrev w : View
  w = unit_view target (unit_left s)

  abbrev ns : List ℕ
  ns = numbers target s ordered laid

  abbrev names : List Id
  names = (ids_of s).names

  -- ---- structures

  content_types : (o : Option (List Named)) → map (λ (m : Named). m.1) (unwrap_or (option_map (all_named_in ns) o) []) ≡ map (λ (m : Named). type_renumbered ns m.1) (members_or_none o)
  content_types None = refl
  content_types (Some ms) = member_types ns ms

  structure_by : (i : ℕ) (o : Option KnownStructure) → slice_get s.structures i ≡ o → (c : Structure) → option_map as_structure o ≡ Some c →
      (q : Structure) × (slice_get w.structures (number_by ns i) ≡ Some q) × MemberTypes ns c.members q.members
  structure_by i None e c f = absurd (cc)
  structure_by i (Some k) e c f =
      (content target s ordered laid k, unit_at target s ordered laid i k e, content_types k.members ∙ ap (λ (x : Structure). map (λ (m : Named). type_renumbered ns m.1) x.members) (same (as_structure k) c f))
    where
      same : (a b : Structure) → Some a ≡ Some b → a ≡ b
      same a b e = cc e

  pub content_length : (o : Option (List Named)) → length (unwrap_or (option_map (all_named_in ns) o) []) ≡ length (members_or_none o)
  content_length None = refl
  content_length (Some ms) = length-map ms (λ (m : Named). (m.0, type_renumbered ns m.1))

  extent_at : (i : ℕ) (k : KnownStructure) → slice_get s.structures i ≡ Some k → w.extents (number_by ns i) ≡ Some (known_extent k)
  extent_at i k e = by (has_content k) refl
    where
      at : slice_get w.structures (number_by ns i) ≡ Some (content target s ordered laid k)
      at = unit_at target s ordered laid i k e

      has : has_members (slice_get w.structures (number_by ns i)) ≡ has_content k
      has = ap has_members at ∙ ap (nat_lt 0) (content_length k.members)

      low : nat_lt (number_by ns i) (length w.structures) ≡ true
      low = lt-ltb (number_by ns i) (length w.structures) (slice_get_within w.structures (number_by ns i) (content target s ordered laid k) at)

      content_by : (o : Option (List Named)) → k.members ≡ o → nat_lt 0 (length (members_or_none o)) ≡ true → slice_get (layouts target w.structures) (number_by ns i) ≡ Some k.layout
      content_by None n h = absurd (true≢false (sym h))
      content_by (Some ms) n h = lies_there target s ordered laid i k ms e n

      by : (b : Bool) → has_content k ≡ b → w.extents (number_by ns i) ≡ Some (known_extent k)
      by true h =
          ap (λ (b : Bool). cond b (Some (Some (unwrap_or (slice_get (layouts target w.structures) (number_by ns i)) nothing).size)) (cond (nat_lt (number_by ns i) (length w.structures)) (Some None) None)) (has ∙ h)
          ∙ (ap (λ (o : Option Layout). Some (Some (unwrap_or o nothing).size)) (content_by k.members refl h)
          ∙ sym (ap (λ (b : Bool). Some (cond b (Some k.layout.size) None)) h))
      by false h =
          ap (λ (b : Bool). cond b (Some (Some (unwrap_or (slice_get (layouts target w.structures) (number_by ns i)) nothing).size)) (cond (nat_lt (number_by ns i) (length w.structures)) (Some None) None)) (has ∙ h)
          ∙ (ap (λ (b : Bool). cond b (Some None) None) low
          ∙ sym (ap (λ (b : Bool). Some (cond b (Some k.layout.size) None)) h))

  extent_by : (i : ℕ) (o : Option KnownStructure) → slice_get s.structures i ≡ o → (x : Option ℕ) → option_map known_extent o ≡ Some x → w.extents (number_by ns i) ≡ Some x
  extent_by i None e x f = absurd (cc)
  extent_by i (Some k) e x f = extent_at i k e ∙ f

  -- ---- names

  name-at : (i : ℕ) (d : Declared) → slice_get s.names i ≡ Some d → slice_get (unit_left s).names i ≡ Some (name_in (ids_of s) d)
  name-at i d e = slice_get-map (name_in (ids_of s)) s.names i ∙ ap (option_map (name_in (ids_of s))) e

  pub id-at : (i : ℕ) (d : Declared) → slice_get s.names i ≡ Some d → slice_get names i ≡ Some (own_id i d.kind)
  id-at i d e = ids-at 0 s.names i d e ∙ ap (λ (k : ℕ). Some (own_id k d.kind)) (plus i)
    where
      plus : (n : ℕ) → 0 + n ≡ n
      plus n = omega arith

  static_kind : (i : ℕ) (d : Declared) → slice_get s.names i ≡ Some d → (k : UnitKind) → d.kind ≡ k → (a : PlaceType) → static_as d.ctype k ≡ Some a → w.statics (object_by (slice_get names i)) ≡ Some (place_type_renumbered ns a)
  static_kind i d e (kind.Device x) q a f = absurd (cc)
  static_kind i d e (kind.Func entry body) q a f = absurd (cc)
  static_kind i d e (kind.Object leaves) q a f =
      ap (λ (o : Option Id). w.statics (object_by o)) (id-at i d e ∙ ap (λ (k : UnitKind). Some (own_id i k)) q)
      ∙ (ap (option_and_then (λ (n : UnitName). static_as n.ctype n.kind)) (name-at i d e)
      ∙ (ap (λ (k : UnitKind). static_as (type_renumbered ns d.ctype) (kind_in (ids_of s) k)) q
      ∙ (ap (λ (b : PlaceType). Some b) (object_kept ns d.ctype) ∙ ap (option_map (place_type_renumbered ns)) f)))

  static_by : (i : ℕ) (o : Option Declared) → slice_get s.names i ≡ o → (a : PlaceType) → option_and_then (λ (d : Declared). static_as d.ctype d.kind) o ≡ Some a → w.statics (object_by (slice_get names i)) ≡ Some (place_type_renumbered ns a)
  static_by i None e a f = absurd (cc)
  static_by i (Some d) e a f = static_kind i d e d.kind refl a f

  abbrev Gives : ℕ → List Named → PlaceType → Type 0
  Gives i locals a = (b : PlaceType) × (place_type w locals (device_by (slice_get names i)) ≡ Some b) × ReducedPlace b (place_type_renumbered ns a)

  device_kind : (i : ℕ) (d : Declared) → slice_get s.names i ≡ Some d → (k : UnitKind) → d.kind ≡ k → (a : PlaceType) → device_as k ≡ Some a → (locals : List Named) → Gives i locals a
  device_kind i d e (kind.Object leaves) q a f locals = absurd (cc)
  device_kind i d e (kind.Func entry body) q a f locals = absurd (cc)
  device_kind i d e (kind.Device x) q a f locals =
      subst (λ (b : PlaceType). Gives i locals b) (same (DevicePlace x.constant x.int) a f) (
        DevicePlace x.constant x.int,
        ap (λ (o : Option Id). place_type w locals (device_by o)) (id-at i d e ∙ ap (λ (k : UnitKind). Some (own_id i k)) q)
            ∙ (place-roll w locals (DeviceAt i) (one.Device i) (rolls-Device i)
            ∙ (ap (option_and_then (λ (n : UnitName). device_as n.kind)) (name-at i d e) ∙ ap (λ (k : UnitKind). device_as (kind_in (ids_of s) k)) q)),
        Devices x.constant x.int,
      )
    where
      same : (a b : PlaceType) → Some a ≡ Some b → a ≡ b
      same a b e = cc e

  device_by_name : (i : ℕ) (o : Option Declared) → slice_get s.names i ≡ o → (a : PlaceType) → option_and_then (λ (d : Declared). device_as d.kind) o ≡ Some a → (locals : List Named) → Gives i locals a
  device_by_name i None e a f locals = absurd (cc)
  device_by_name i (Some d) e a f locals = device_kind i d e d.kind refl a f locals

  function_level : (x : shape.Shape-F Shape CType Sig) → function_shape (renumbered_level ns x) ≡ option_map (value_renumbered ns) (function_shape x)
  function_level shape.Void = refl
  function_level (shape.Int t) = refl
  function_level (shape.Pointer to) = refl
  function_level (shape.Array of n) = refl
  function_level (shape.Struct i) = refl
  function_level (shape.Func sig) = refl

  function_kind : (i : ℕ) (d : Declared) → slice_get s.names i ≡ Some d → (k : UnitKind) → d.kind ≡ k → (a : ValueType) → function_as d.ctype k ≡ Some a → w.functions (func_by (slice_get names i)) ≡ Some (value_renumbered ns a)
  function_kind i d e (kind.Object leaves) q a f = absurd (cc)
  function_kind i d e (kind.Device x) q a f = absurd (cc)
  function_kind i d e (kind.Func entry body) q a f =
      ap (λ (o : Option Id). w.functions (func_by o)) (id-at i d e ∙ ap (λ (k : UnitKind). Some (own_id i k)) q)
      ∙ (ap (option_and_then (λ (n : UnitName). function_as n.ctype n.kind)) (name-at i d e)
      ∙ (ap (λ (k : UnitKind). function_as (type_renumbered ns d.ctype) (kind_in (ids_of s) k)) q
      ∙ (ap function_shape (level-renumbered ns d.ctype (out-Shape d.ctype.shape) refl)
      ∙ (function_level (out-Shape d.ctype.shape) ∙ ap (option_map (value_renumbered ns)) f))))

  function_by : (i : ℕ) (o : Option Declared) → slice_get s.names i ≡ o → (a : ValueType) → option_and_then (λ (d : Declared). function_as d.ctype d.kind) o ≡ Some a → w.functions (func_by (slice_get names i)) ≡ Some (value_renumbered ns a)
  function_by i None e a f = absurd (cc)
  function_by i (Some d) e a f = function_kind i d e d.kind refl a f

  pub left_renumbered : Renumbers v w (ids_of s) (λ (i : ℕ). true)
  left_renumbered = record {
    target = refl;
    extents = λ i x e. extent_by i (slice_get s.structures i) refl x e;
    structures = λ i c e. structure_by i (slice_get s.structures i) refl c (sym (slice_get-map as_structure s.structures i) ∙ e);
    statics = λ i a u e. static_by i (slice_get s.names i) refl a e;
    devices = λ i a u e locals. device_by_name i (slice_get s.names i) refl a e locals;
    functions = λ i a u e. function_by i (slice_get s.names i) refl a e;
  }

-- The program has each structure of a source by its number: with the same members, and as large.
use Rattle.std.proofs.Common.{◌≡◌, ◌∙◌, ℕ, Bool, false, ◌||◌, List, [], ◌∷◌, length, map, Option, Some, None, option_map, slice_get, refl, ap, sym}
use Rattle.std.specs.Prelude.{unwrap_or}
use Rattle.std.proofs.lemmas.Option.{slice_get-map}
use Rattle.cc_relocated_units.specs.Linked.{linked, untagged, structures_of, AllStand}
use Rattle.cc_relocated_units.proofs.Standing.{at-number, kind-same}
use Rattle.cc_relocated_units.proofs.UnitPlaces.{known, in-unit}
use Rattle.cc_program.specs.CcNum.declared.target.Target.{Target}
use Rattle.cc_operands.specs.Qualified.{plain}
use Rattle.cc_program.specs.declared.types.CType.{CType}
use Rattle.cc_program.specs.declared.types.Shape.{Struct, out-Shape}
use Rattle.cc_program.specs.declared.types.Shape.TheOpen as shape
use Rattle.cc_program.specs.declared.types.Shape.TheVariants.{outs-Struct}
use Rattle.cc_program.specs.declared.types.Structure.{Structure}
use Rattle.cc_relocation.specs.Relocated.{member_with}
use Rattle.cc_relocated_units.specs.Renumbering.{MemberTypes}
use Rattle.cc_relocated_units.proofs.UnitKinds.{unit_kind}
use Rattle.cc_structures.specs.Structures.{Known, Numbering, numbers_of, AreNumbered}
use Rattle.cc_structures.proofs.WordLaws.{number_by, level-renumbered, constant-kept, volatile-kept}
use Rattle.cc_operands.specs.CcSyntax.Kinds.{Kind, IsStructure, IsIncomplete, extent_in, extent_kind, kind_of, shape_kind, qualified_kind}
use Rattle.cc_operands.specs.CcSyntax.Types.{Named}
use Rattle.cc_operands.proofs.CcSyntax.KindRolls.{parts_kind, kind-opens}
use Rattle.cc_unit.specs.Renumbered.{type_renumbered}
use Rattle.cc_unit.specs.declared.unit.TypedUnit.{TypedUnit}
use Rattle.cc_unit.specs.declared.unit.UnitStructure.{UnitStructure}

member_types : (numbers : List ℕ) (ms : List Named) → MemberTypes numbers ms (map (member_with numbers) ms)
member_types numbers [] = refl
member_types numbers (m ∷ ms) = ap (λ (ts : List CType). type_renumbered numbers m.1 ∷ ts) (member_types numbers ms)

-- the kind of a structure's type is its extent
struct_at : (target : Target) (extents : ℕ → Option (Option ℕ)) (t : CType) (i : ℕ) → (t.constant || t.volatile) ≡ false → out-Shape t.shape ≡ shape.Struct i → kind_of target extents t ≡ qualified_kind false (extent_kind (extents i))
struct_at target extents t i q e =
    kind-opens target extents t
    ∙ (ap (λ (x : shape.Shape-F _ _ _). qualified_kind (t.constant || t.volatile) (shape_kind target extents (parts_kind target extents x))) e ∙ ap (λ (b : Bool). qualified_kind b (extent_kind (extents i))) q)

extent_found : (x : Option ℕ) (o : Option (Option ℕ)) (k : Kind) → qualified_kind false (extent_kind (Some x)) ≡ Some k → qualified_kind false (extent_kind o) ≡ Some k → o ≡ Some x
extent_found None None k e f = absurd (cc)
extent_found None (Some None) k e f = refl
extent_found None (Some (Some n)) k e f = absurd (cc)
extent_found (Some m) None k e f = absurd (cc)
extent_found (Some m) (Some None) k e f = absurd (cc)
extent_found (Some m) (Some (Some n)) k e f = let s : n ≡ m = cc in ap (λ (j : ℕ). Some (Some j)) s

some_kind : (x : Option ℕ) → (k : Kind) × (qualified_kind false (extent_kind (Some x)) ≡ Some k)
some_kind None = (IsIncomplete, refl)
some_kind (Some n) = (IsStructure n, refl)

module _ (units : List TypedUnit) (numbering : Numbering) (firsts : List Known) (tags : List (List ℕ)) (target : Target) (are : AreNumbered units numbering firsts) (as_many : length tags ≡ length firsts) (standing : AllStand target units)
    (t : ℕ) (u : TypedUnit) (e : slice_get units t ≡ Some u) where
  abbrev numbers : List ℕ
  numbers = numbers_of numbering t

  abbrev program : List Structure
  program = linked numbering tags firsts

  structure_by : (i : ℕ) (o : Option UnitStructure) (s : Structure) → slice_get u.structures i ≡ o → option_map untagged o ≡ Some s → (q : Structure) × (slice_get program (number_by numbers i) ≡ Some q) × MemberTypes numbers s.members q.members
  structure_by i None s f g = absurd (cc)
  structure_by i (Some x) s f g =
      let q = at-number units numbering firsts tags target are as_many standing (known t i x) (in-unit units t i u x e f) in
      let ms = unwrap_or x.members [] in
      let m : s.members ≡ ms = sym (members_same (untagged x) s g) in
      (q.0, q.1.0, ap (map (λ (n : Named). n.1)) q.1.1 ∙ (member_types numbers ms ∙ ap (map (λ (n : Named). type_renumbered numbers n.1)) (sym m)))
    where
      members_same : (a b : Structure) → Some a ≡ Some b → a.members ≡ b.members
      members_same a b e = cc e

  pub structures_numbered : (i : ℕ) (s : Structure) → slice_get (structures_of u) i ≡ Some s → (q : Structure) × (slice_get program (number_by numbers i) ≡ Some q) × MemberTypes numbers s.members q.members
  structures_numbered i s f = structure_by i (slice_get u.structures i) s refl (sym (slice_get-map untagged u.structures i) ∙ f)

  pub extents_numbered : (i : ℕ) (x : Option ℕ) → extent_in (structures_of u) target i ≡ Some x → extent_in program target (number_by numbers i) ≡ Some x
  extents_numbered i x f =
      let c = plain (Struct i) in
      let d = type_renumbered numbers c in
      let k = some_kind x in
      let shaped : out-Shape d.shape ≡ shape.Struct (number_by numbers i) = level-renumbered numbers c (shape.Struct i) (outs-Struct i) in
      let flags : (d.constant || d.volatile) ≡ false = ap (λ (b : Bool). b || d.volatile) (constant-kept numbers c) ∙ volatile-kept numbers c in
      let before : kind_of target (extent_in (structures_of u) target) c ≡ Some k.0 =
      struct_at target (extent_in (structures_of u) target) c i refl (outs-Struct i) ∙ (ap (λ (o : Option (Option ℕ)). qualified_kind false (extent_kind o)) f ∙ k.1) in
      let after : kind_of target (extent_in program target) d ≡ Some k.0 = kind-same units numbering firsts tags target are as_many standing t u e c k.0 (sym (unit_kind target u c) ∙ before) in
      extent_found x (extent_in program target (number_by numbers i)) k.0 k.1 (sym (struct_at target (extent_in program target) d (number_by numbers i) flags shaped) ∙ after)

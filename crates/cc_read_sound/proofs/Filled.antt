-- What an initialiser gives to an object with static storage duration whose type is complete are first values of it.
use Rattle.std.proofs.Common.{◌≡◌, ℕ, Bool, true, false, not, ◌||◌, List, [], ◌∷◌, Option, Some, None, Ok, refl, ap, sym, ◌∙◌, subst}
use Rattle.std.specs.Prelude.{if◌then◌else◌}
use Rattle.cc_read_sound.proofs.FirstObjects.{object_initial}
use Rattle.cc_read_sound.proofs.FirstValues.{first_values}
use Rattle.cc_read_sound.specs.Values.{AreInitial, HasContents}
use Rattle.cc_sound_declarations.specs.Scalars.{OneScalar, scalars_of}
use Rattle.cc_sound_declarations.specs.Values.{MayStand}
use Rattle.cc_read_sound.proofs.Strings.{expression_initial}
use Rattle.cc_read_sound.proofs.Through.{knows_begun, knows_finished}
use Rattle.cc_type.specs.CcInitialisers.Contents.{contents}
use Rattle.cc_type.specs.CcInitialisers.Initialisers.{here as given_here, initialised}
use Rattle.cc_type.specs.CcInitialisers.Scalars.{scalars_from}
use Rattle.cc_type.specs.CcObjects.Types.{contents_in, given_incomplete, completed_type}
use Rattle.cc_type.specs.CcObjects.Values.{leaf_given, no_leaf}
use Rattle.cc_operand_types.proofs.Rolls.{place-roll}
use Rattle.cc_operand_types.specs.Typed.{is_pointed_kind}
use Rattle.cc_type.specs.CcTypedTerms.Primary.{leaves_or_none}
use Rattle.cc_program.proofs.Each.{Each}
use Rattle.cc_program.specs.Qualifiers.{is_const, is_volatile}
use Rattle.cc_program.specs.declared.expr.Expr.TheOpen as one
use Rattle.cc_program.specs.declared.expr.Place.{Place, Static}
use Rattle.cc_program.specs.declared.expr.Place.TheVariants.{rolls-Static}
use Rattle.cc_program.specs.declared.program.Roles.{Roles}
use Rattle.cc_program.specs.declared.types.CType.{CType}
use Rattle.cc_program.specs.declared.types.Shape.{Shape, out-Shape}
use Rattle.cc_program.specs.declared.types.Shape.TheOpen as shape
use Rattle.cc_program.specs.declared.types.Sig.{Sig}
use Rattle.cc_program.specs.declared.value.Leaf.{Leaf}
use Rattle.cc_sound_declarations.proofs.Places.{scalars_placed}
use Rattle.cc_sound_declarations.specs.Places.{ArePlaces}
use Rattle.cc_type.specs.CcScopes.State.{State, KnownStructure, structures_of, with_unfinished}
use Rattle.cc_type.specs.CcScopes.Verdicts.{whole, and_then}
use Rattle.cc_type.specs.CcScopes.declared.unit.Declared.{Declared}
use Rattle.cc_sound_declarations.proofs.Types.{completed_is}
use Rattle.cc_sound_declarations.specs.Ranges.{given_in_range}
use Rattle.cc_sound_terms.proofs.Founds.{answer_is, then_found, whole_found}
use Rattle.cc_sound_terms.proofs.Growth.{knows_structures}
use Rattle.cc_sound_terms.proofs.Known.{within_known}
use Rattle.cc_sound_terms.specs.Growing.{StructuresKept}
use Rattle.cc_sound_terms.specs.Ordered.{IsOrdered}
use Rattle.cc_sound_terms.specs.Typing.{Knows}
use Rattle.cc_type.specs.CcSpecifiers.Bounds.{is_bound}
use Rattle.cc_type.specs.CcSpecifiers.Declarators.{is_unbounded, bound_or_none}
use Rattle.cc_type.specs.CcSyntax.Expressions.{place_type}
use Rattle.cc_type.specs.CcSyntax.Initial.{bound_shape, IsInitial}
use Rattle.cc_type.specs.CcSyntax.Types.{Named, is_complete}
use Rattle.cc_type.specs.CcSyntax.Values.{ValueType, Integer, pointer_shape, scalar_shape, scalar_value, is_scalar, object_place}
use Rattle.cc_type.specs.CcSyntax.Views.{View, kind_in}
use Rattle.cc_tree.specs.declared.at.At.{At}
use Rattle.cc_tree.specs.declared.unit.Given.{Given}
use Rattle.cc_type.specs.CcTypedBodies.Objects.{leaves_found}
use Rattle.cc_type.specs.CcTypedBodies.Plans.{steps_done}

-- ---- scalars may stand

some_is : {A : Type 0} (a b : A) → Some a ≡ Some b → a ≡ b
some_is a b h = cc

pointer_scalar : (t : CType) (y : shape.Shape-F Shape CType Sig) → is_scalar (pointer_shape t y) ≡ true
pointer_scalar t (shape.Func s) = refl
pointer_scalar t shape.Void = refl
pointer_scalar t (shape.Int i) = refl
pointer_scalar t (shape.Pointer to) = refl
pointer_scalar t (shape.Array of n) = refl
pointer_scalar t (shape.Struct i) = refl

shape_scalar : (y : shape.Shape-F Shape CType Sig) (r : ValueType) → scalar_shape y ≡ Some r → is_scalar r ≡ true
shape_scalar (shape.Int i) r h = ap is_scalar (sym (some_is (Integer i) r h))
shape_scalar (shape.Pointer to) r h = ap is_scalar (sym (some_is (pointer_shape to (out-Shape to.shape)) r h)) ∙ pointer_scalar to (out-Shape to.shape)
shape_scalar shape.Void r h = absurd (cc)
shape_scalar (shape.Array of n) r h = absurd (cc)
shape_scalar (shape.Struct i) r h = absurd (cc)
shape_scalar (shape.Func s) r h = absurd (cc)

-- the array whose initialiser is read says nothing of structures and entries
begun_structures : (b : Bool) (a : Option Place) (s : State) → (if b then with_unfinished a s else s).structures ≡ s.structures
begun_structures true a s = refl
begun_structures false a s = refl

begun_names : (b : Bool) (a : Option Place) (s : State) → (if b then with_unfinished a s else s).names ≡ s.names
begun_names true a s = refl
begun_names false a s = refl

module _ (v : View) (roles : Roles) (D : List Named) where
  each_may : (ss : List OneScalar) (xs : List Place) → ArePlaces v D ss xs → Each (MayStand v) ss
  each_may [] [] h = tt
  each_may (s ∷ ss) (x ∷ xs) h = ((shape_scalar (out-Shape h.0.ctype.shape) s.1 h.0.value, h.0.standing), each_may ss xs h.1)
  each_may [] (x ∷ xs) h = elim h [ ]
  each_may (s ∷ ss) [] h = elim h [ ]

  static_place : (i : ℕ) (u : CType) → v.statics i ≡ Some (object_place u) → place_type v D (Static i) ≡ Some (object_place u)
  static_place i u h = place-roll v D (Static i) (one.Static i) (rolls-Static i) ∙ h

  pub record IsFilled (t u : CType) (s : State) (r : List Leaf × State) : Type 0 where
    pub kept : StructuresKept s.structures r.1.structures
    pub names : AreInitial v s.names → AreInitial v r.1.names
    pub bound : not (is_unbounded t) || is_bound (bound_or_none (bound_shape (out-Shape u.shape))) ≡ true
    pub first : Knows v D s r.1 → HasContents v s.structures → IsOrdered s → is_complete (structures_of s) u ≡ true → (i : ℕ) → v.statics i ≡ Some (object_place u) → is_pointed_kind false (kind_in v u) ≡ true → IsInitial v u (leaves_or_none r.0)

  pub is_filled : (at n : ℕ) (t u : CType) (g : At Given) → given_in_range g.node ≡ true → (s : State) (r : List Leaf × State) → leaves_found v.target roles at n t u g s ≡ Ok r → IsFilled t u s r
  is_filled at n t u g f s r h =
      let a : Option Place = Some (Static n) in
      let start = given_incomplete t (Static n) s in
      let b = then_found (steps_done v.target roles Leaf (leaf_given v.target) no_leaf (initialised (contents_in u s) (given_here g)) start) (λ xs s. and_then (whole at s (completed_type v.target t u s)) (λ u s. Ok (xs, with_unfinished None s))) r h in
      let c = then_found (whole at b.0.1 (completed_type v.target t u b.0.1)) (λ u s. Ok (b.0.0, with_unfinished None s)) r b.2 in
      let d = whole_found at b.0.1 (completed_type v.target t u b.0.1) c.0 c.1 in
      let e = answer_is b.0.0 (with_unfinished None c.0.1) r c.2 in
      let last : r.1 ≡ with_unfinished None b.0.1 = e.1 ∙ ap (with_unfinished None) d.1 in
      let o = first_values v roles D (contents_in u s) g f start b.0 b.1 in
      let here = subst (λ (xs : List KnownStructure). StructuresKept xs b.0.1.structures) (begun_structures (is_unbounded t) a s) o.grown.grows.structures in
      let kept = subst (λ (z : State). StructuresKept s.structures z.structures) (sym last) here in
      record {
        kept = kept;
        names = λ i. subst (λ (z : State). AreInitial v z.names) (sym last) (expression_initial v start b.0.1 o.grown (subst (AreInitial v) (sym (begun_names (is_unbounded t) a s)) i));
        bound = (completed_is v t u c.0.0 b.0.1 d.0).0;
        first = λ k w ordered complete i there pointed.
            let known = knows_begun v (is_unbounded t) a s b.0.1 D (knows_finished v None s b.0.1 D (subst (λ (z : State). Knows v D s z) last k)) in
            let structures = knows_structures v s.structures r.1.structures kept k.types.structures in
            let places = scalars_placed v D k.members (structures_of s) (within_known v s structures) u (Static i) (is_const u) (is_volatile u) pointed (static_place i u there) refl in
            let may = each_may (scalars_of (contents (structures_of s) u false)) (scalars_from v.target (contents (structures_of s) u false) 0 (Static i)) places in
            subst (λ (ls : List Leaf). IsInitial v u (leaves_or_none ls)) (sym e.0) (object_initial v s u w ordered complete b.0.0 (o.holds known may));
      }

-- The types of what is declared stand: those of objects are complete, where an initialiser gave a bound too, and a function has a function's type.
use Rattle.std.proofs.Common.{◌≡◌, ℕ, zero, suc, Bool, true, false, not, ◌||◌, List, [], ◌∷◌, Option, Some, None, Ok, Err, refl, ap, sym, ◌∙◌, subst}
use Rattle.std.specs.Prelude.{◌*◌, if◌then◌else◌}
use Rattle.cc_typed_bodies.specs.CcInitialisers.Initialisers.{bound_given}
use Rattle.cc_program.specs.CcNum.declared.int_type.IntType.{IntType}
use Rattle.cc_program.specs.CcNum.Integers.{bytes_of}
use Rattle.cc_typed_bodies.specs.CcObjects.Types.{element_or, element_type, with_bound, contents_in, type_given, bound_fits, is_object_in, is_complete_or_unbounded, completed_type}
use Rattle.cc_typed_bodies.specs.CcOperands.Qualified.{plain, is_function_type}
use Rattle.cc_typed_bodies.specs.CcOperands.Verdicts.{Judged, must, some_or}
use Rattle.cc_typed_bodies.specs.CcOperands.declared.rule.Rule.TheVariants as rule
use Rattle.cc_operand_types.specs.Typed.{is_pointed_kind}
use Rattle.cc_typed_bodies.specs.CcSyntax.Views.{View, kind_in}
use Rattle.cc_operand_types.proofs.Operands.{given, ok_is, must_ok}
use Rattle.cc_operand_types.proofs.Requalified.{shaped, kind_at}
use Rattle.cc_program.specs.declared.types.CType.{CType}
use Rattle.cc_program.specs.declared.types.Shape.{Shape, Int, Array, out-Shape}
use Rattle.cc_program.specs.declared.types.Shape.TheOpen as shape
use Rattle.cc_program.specs.declared.types.Shape.TheVariants.{outs-Int, outs-Array}
use Rattle.cc_program.specs.declared.types.Sig.{Sig}
use Rattle.cc_typed_bodies.specs.CcScopes.State.{State, structures_of, layouts_of}
use Rattle.cc_sound_terms.specs.Behind.{SigStands}
use Rattle.cc_sound_terms.specs.Knowing.{Stands, KnowsStructures}
use Rattle.cc_sound_terms.specs.Standing.{IsDerived, Standing, VoidPointer, Unbounded}
use Rattle.cc_sound_terms.proofs.Founds.{then_judged}
use Rattle.cc_sound_terms.proofs.TypeKinds.{sizes_known, object_stands, array_kind_is}
use Rattle.cc_typed_bodies.specs.CcSpecifiers.Bounds.{is_bound}
use Rattle.cc_typed_bodies.specs.CcSpecifiers.Declarators.{is_unbounded_shape, is_unbounded, bound_or_none}
use Rattle.cc_typed_bodies.specs.CcSpecifiers.Modes.{mode_type, with_mode, moded_by, moded, all_moded, modes_judged}
use Rattle.cc_typed_bodies.specs.CcSpecifiers.declared.attribute.Attribute.{Attribute}
use Rattle.cc_typed_bodies.specs.CcSpecifiers.declared.attribute.Attribute.TheVariants as attribute
use Rattle.cc_typed_bodies.specs.CcSyntax.Initial.{bound_shape}
use Rattle.cc_typed_bodies.specs.CcSyntax.Kinds.{Kind, IsVoid, IsScalar, IsStructure, IsArray, IsIncomplete, IsFunction, bytes_in, array_kind, is_object_kind, is_object_type, qualified_kind, shape_kind, is_sig}
use Rattle.cc_typed_bodies.specs.CcSyntax.SameTypes.{is_func_shape}
use Rattle.cc_tree.specs.declared.at.At.{At}
use Rattle.cc_tree.specs.declared.unit.Given.{Given}

some_is : {A : Type 0} (a b : A) → Some a ≡ Some b → a ≡ b
some_is a b h = cc

-- an object may be designated
object_pointed_kind : (k : Kind) → is_object_type (Some k) ≡ true → is_pointed_kind false (Some k) ≡ true
object_pointed_kind IsVoid h = absurd (cc)
object_pointed_kind (IsScalar q n) h = refl
object_pointed_kind (IsStructure n) h = refl
object_pointed_kind (IsArray n) h = refl
object_pointed_kind IsIncomplete h = absurd (cc)
object_pointed_kind IsFunction h = absurd (cc)

pub object_pointed : (o : Option Kind) → is_object_type o ≡ true → is_pointed_kind false o ≡ true
object_pointed None h = absurd (cc)
object_pointed (Some k) h = object_pointed_kind k h

module _ (v : View) where
  -- ---- an array without a bound stands nowhere

  no_elements : (q : Bool) (b : Option ℕ) (k : Kind) → qualified_kind q (array_kind 0 b) ≡ Some k → ⊥
  no_elements q None k h = absurd (cc)
  no_elements q (Some n) k h = absurd (cc)

  unbounded_array : (q : Bool) (o : Option Kind) (k : Kind) → qualified_kind q (shape_kind v.target v.extents (shape.Array o 0)) ≡ Some k → ⊥
  unbounded_array q None k h = absurd (cc)
  unbounded_array q (Some e) k h = no_elements q (bytes_in e) k h

  bounded_shape : (q : Bool) (y : shape.Shape-F Shape CType Sig) (k : Kind) → qualified_kind q (shaped v y) ≡ Some k → is_unbounded_shape y ≡ false
  bounded_shape q (shape.Array of zero) k h = absurd (unbounded_array q (kind_in v of) k h)
  bounded_shape q (shape.Array of (suc n)) k h = refl
  bounded_shape q shape.Void k h = refl
  bounded_shape q (shape.Int t) k h = refl
  bounded_shape q (shape.Pointer to) k h = refl
  bounded_shape q (shape.Struct i) k h = refl
  bounded_shape q (shape.Func s) k h = refl

  pub standing_bounded : (t : CType) → Stands v t → is_unbounded t ≡ false
  standing_bounded t k = bounded_shape (t.constant || t.volatile) (out-Shape t.shape) k.0 (sym (kind_at v t (out-Shape t.shape) refl) ∙ k.1)

  -- ---- objects

  object_in : (t : CType) (s : State) → KnowsStructures v s.structures → Stands v t → is_object_in v.target s t ≡ true → is_object_type (kind_in v t) ≡ true
  object_in t s w k h = object_stands v (structures_of s) (layouts_of s) (sizes_known v s w) t k.0 k.1 h

  or_else_is : (a b : Bool) → a ≡ false → a || b ≡ true → b ≡ true
  or_else_is true b e h = absurd (cc)
  or_else_is false b e h = h

  pub complete_stands : (t : CType) (s : State) → KnowsStructures v s.structures → Stands v t → is_complete_or_unbounded v.target s t ≡ true → is_object_type (kind_in v t) ≡ true
  complete_stands t s w k h = object_in t s w k (or_else_is (is_unbounded t) (is_object_in v.target s t) (standing_bounded t k) h)

  -- without an initialiser no bound is missing
  pub plainly_derived : (t : CType) → IsDerived v false false t → Stands v t
  plainly_derived t (Standing k) = k
  plainly_derived t (VoidPointer to h e f g) = absurd (cc)
  plainly_derived t (Unbounded of h e f) = absurd (cc)

  type_same : (t u : CType) → given t ≡ Ok u → t ≡ u
  type_same t u h = ok_is h

  -- what is judged behind an initialiser
  pub completed_is : (t u w : CType) (s : State) → completed_type v.target t u s ≡ Ok w → (not (is_unbounded t) || is_bound (bound_or_none (bound_shape (out-Shape u.shape))) ≡ true) × (is_object_in v.target s u ≡ true)
  completed_is t u w s h =
      let a = then_judged (bound_fits t u) (λ u. must (is_object_in v.target s u) rule.NoObjectType (Ok u)) w h in
      let b = must_ok (not (is_unbounded t) || is_bound (bound_or_none (bound_shape (out-Shape u.shape)))) rule.ArrayBound (Ok u) a.0 a.1 in
      let c = must_ok (is_object_in v.target s a.0) rule.NoObjectType (Ok a.0) w a.2 in
      (b.0, ap (is_object_in v.target s) (type_same u a.0 b.1) ∙ c.0)

  element_size : (of : CType) (n : ℕ) (o : Option Kind) → kind_in v of ≡ o → is_object_type o ≡ true → is_bound n ≡ true → Stands v (plain (Array of n))
  element_size of n None e h b = absurd (cc)
  element_size of n (Some k) e h b = sized (bytes_in k) refl h
    where
      sized : (m : Option ℕ) → bytes_in k ≡ m → is_object_kind (bytes_in k) ≡ true → Stands v (plain (Array of n))
      sized None f g = let c : is_object_kind None ≡ true = ap is_object_kind (sym f) ∙ g in absurd (cc)
      sized (Some m) f g = (IsArray (n * m), array_kind_is v of n m k e f (ap is_object_kind (sym f) ∙ g) b)

  given_if : (b : Bool) (t u : CType) → (b ≡ true → Stands v u) → (b ≡ false → Stands v t) → Stands v (if b then u else t)
  given_if true t u f g = f refl
  given_if false t u f g = g refl

  unbounded_is : (of : CType) → is_unbounded (plain (Array of 0)) ≡ true
  unbounded_is of = ap is_unbounded_shape (outs-Array of 0)

  bound_is : (t : CType) (n : ℕ) → bound_or_none (bound_shape (out-Shape (with_bound t n).shape)) ≡ n
  bound_is t n = ap (λ (y : shape.Shape-F Shape CType Sig). bound_or_none (bound_shape y)) (outs-Array (element_type t) n)

  element_is : (of : CType) → element_type (plain (Array of 0)) ≡ of
  element_is of = ap (element_or (plain (Array of 0))) (outs-Array of 0)

  said_bound : (b c : Bool) → b ≡ true → not b || c ≡ true → c ≡ true
  said_bound true c e h = h
  said_bound false c e h = absurd (cc)

  -- a type to which an initialiser may have given its bound
  given_unbounded : (of : CType) (n : ℕ) → is_object_type (kind_in v of) ≡ true → not (is_unbounded (plain (Array of 0))) || is_bound (bound_or_none (bound_shape (out-Shape (with_bound (plain (Array of 0)) n).shape))) ≡ true →
      Stands v (with_bound (plain (Array of 0)) n)
  given_unbounded of n h b =
      let c = said_bound (is_unbounded (plain (Array of 0))) (is_bound (bound_or_none (bound_shape (out-Shape (with_bound (plain (Array of 0)) n).shape)))) (unbounded_is of) b in
      subst (λ (e : CType). Stands v (plain (Array e n))) (sym (element_is of)) (element_size of n (kind_in v of) refl h (ap is_bound (sym (bound_is (plain (Array of 0)) n)) ∙ c))

  abbrev open_array : CType → CType
  open_array of = plain (Array of 0)

  abbrev BoundFits : CType → CType → Type 0
  BoundFits t u = not (is_unbounded t) || is_bound (bound_or_none (bound_shape (out-Shape u.shape))) ≡ true

  unbounded_given : (of : CType) (g : At Given) (s : State) → is_object_type (kind_in v of) ≡ true → BoundFits (open_array of) (type_given (open_array of) (Some g) s) → Stands v (type_given (open_array of) (Some g) s)
  unbounded_given of g s h b =
      let n = bound_given (contents_in (element_type (open_array of)) s) g.node in
      let same : type_given (open_array of) (Some g) s ≡ with_bound (open_array of) n = ap (λ (c : Bool). if c then with_bound (open_array of) n else open_array of) (unbounded_is of) in
      subst (Stands v) (sym same) (given_unbounded of n h (subst (BoundFits (open_array of)) same b))

  given_derived : (t : CType) (g : At Given) (s : State) → IsDerived v false true t → BoundFits t (type_given t (Some g) s) → Stands v (type_given t (Some g) s)
  given_derived t g s (Standing k) b =
      subst (λ (c : Bool). Stands v (if c then with_bound t (bound_given (contents_in (element_type t) s) g.node) else t)) (sym (standing_bounded t k)) k
  given_derived t g s (VoidPointer to h e f i) b = absurd (cc)
  given_derived t g s (Unbounded of h e f) b = subst (λ (x : CType). BoundFits x (type_given x (Some g) s) → Stands v (type_given x (Some g) s)) (sym e) (unbounded_given of g s f) b

  -- an object that is given an initialiser, by what is judged behind that
  pub given_stands : (t : CType) (g : At Given) (s after : State) (w : CType) → IsDerived v false true t → KnowsStructures v after.structures → completed_type v.target t (type_given t (Some g) s) after ≡ Ok w → is_object_type (kind_in v (type_given t (Some g) s)) ≡ true
  given_stands t g s after w d k h =
      let c = completed_is t (type_given t (Some g) s) w after h in
      object_in (type_given t (Some g) s) after k (given_derived t g s d c.0) c.1

  -- ---- types that typedefs name, with their modes (6.7.7)

  int_stands_as : (c b : Bool) (i : IntType) → Stands v (record { constant = c; volatile = b; shape = Int i })
  int_stands_as c b i =
      (IsScalar (c || b) (bytes_of i v.target), kind_at v (record { constant = c; volatile = b; shape = Int i }) (shape.Int i) (outs-Int i))

  with_mode_stands : (t u : CType) (o : Option IntType) → with_mode t o ≡ Some u → Stands v u
  with_mode_stands t u None h = absurd (cc)
  with_mode_stands t u (Some i) h = subst (Stands v) (some_is (record { constant = t.constant; volatile = t.volatile; shape = Int i }) u h) (int_stands_as t.constant t.volatile i)

  moded_by_stands : (n : ℕ) (t u : CType) (y : shape.Shape-F Shape CType Sig) → moded_by v.target n t y ≡ Some u → Stands v u
  moded_by_stands n t u (shape.Int i) h = with_mode_stands t u (mode_type v.target n i) h
  moded_by_stands n t u shape.Void h = absurd (cc)
  moded_by_stands n t u (shape.Pointer to) h = absurd (cc)
  moded_by_stands n t u (shape.Array of m) h = absurd (cc)
  moded_by_stands n t u (shape.Struct i) h = absurd (cc)
  moded_by_stands n t u (shape.Func s) h = absurd (cc)

  or_rule : (o : Option CType) (u : CType) → some_or rule.Attribute o ≡ Ok u → o ≡ Some u
  or_rule None u h = absurd (cc)
  or_rule (Some t) u h = ap Some (ok_is h)

  moded_stands : (m : Attribute) (t u : CType) → moded v.target m t ≡ Ok u → Stands v t → Stands v u
  moded_stands (attribute.Mode n) t u h k = moded_by_stands n t u (out-Shape t.shape) (or_rule (moded_by v.target n t (out-Shape t.shape)) u h)
  moded_stands m t u h k = subst (Stands v) (type_same t u h) k

  all_moded_stand : (ms : List Attribute) (t u : CType) → all_moded v.target ms t ≡ Ok u → Stands v t → Stands v u
  all_moded_stand [] t u h k = subst (Stands v) (type_same t u h) k
  all_moded_stand (m ∷ ms) t u h k = let a = then_judged (moded v.target m t) (λ u. all_moded v.target ms u) u h in all_moded_stand ms a.0 u a.2 (moded_stands m t a.0 a.1 k)

  pub modes_stand : (marks : List (At (List Attribute))) (t u : CType) → modes_judged v.target marks t ≡ Ok u → Stands v t → Stands v u
  modes_stand [] t u h k = subst (Stands v) (type_same t u h) k
  modes_stand (ms ∷ rest) t u h k =
      let a = then_judged (all_moded v.target ms.node t) (λ u. modes_judged v.target rest u) u h in
      modes_stand rest a.0 u a.2 (all_moded_stand ms.node t a.0 a.1 k)

  -- ---- functions

  good_sig : (q b : Bool) (k : Kind) → qualified_kind q (if b then Some IsFunction else None) ≡ Some k → b ≡ true
  good_sig q true k h = refl
  good_sig q false k h = absurd (cc)

  sig_at : (q : Bool) (y : shape.Shape-F Shape CType Sig) (k : Kind) → is_func_shape (λ sig. true) y ≡ true → qualified_kind q (shaped v y) ≡ Some k → SigStands v y
  sig_at q (shape.Func s) k f h = good_sig q (is_sig v.target v.extents s) k h
  sig_at q shape.Void k f h = absurd (cc)
  sig_at q (shape.Int t) k f h = absurd (cc)
  sig_at q (shape.Pointer to) k f h = absurd (cc)
  sig_at q (shape.Array of n) k f h = absurd (cc)
  sig_at q (shape.Struct i) k f h = absurd (cc)

  pub function_stands : (t : CType) → Stands v t → is_function_type t ≡ true → SigStands v (out-Shape t.shape)
  function_stands t k f = sig_at (t.constant || t.volatile) (out-Shape t.shape) k.0 f (sym (kind_at v t (out-Shape t.shape) refl) ∙ k.1)

-- A type without the const of its objects is of the kind that the type is of, but for qualifiers; the locals of a function are the objects that it declares but for const.
use Rattle.std.proofs.Common.{◌≡◌, ℕ, zero, suc, Bool, true, false, ◌||◌, List, [], ◌∷◌, map, Option, Some, None, refl, ap, sym, ◌∙◌, subst}
use Rattle.std.specs.Prelude.{slice_get, if◌then◌else◌}
use Rattle.cc_operand_types.proofs.Requalified.{arrayed, kind_at, opens_as, shaped}
use Rattle.cc_operand_types.specs.Typed.{is_pointed_kind}
use Rattle.cc_typed_bodies.specs.CcOperands.Qualified.{at_element, no_const, without_const}
use Rattle.cc_program.proofs.TypeInduction.{with_shape, TypeParts, by_type}
use Rattle.cc_program.specs.declared.types.CType.{CType}
use Rattle.cc_program.specs.declared.types.Shape.{Shape, Array, out-Shape, roll-Shape, out-roll-Shape}
use Rattle.cc_program.specs.declared.types.Shape.TheOpen as shape
use Rattle.cc_program.specs.declared.types.Shape.TheVariants.{outs-Array}
use Rattle.cc_program.specs.declared.types.Sig.{Sig}
use Rattle.cc_sound_declarations.specs.Declaring.{lowered, unconst}
use Rattle.cc_operand_types.proofs.WithoutConst.{reduced_const, reduced_itself}
use Rattle.cc_operand_types.specs.Reduced.{ReducedLocals, ReducedType}
use Rattle.cc_typed_bodies.specs.CcSyntax.Kinds.{Kind, IsVoid, IsScalar, IsStructure, IsArray, IsIncomplete, IsFunction, array_kind, bytes_in, is_object_kind, is_object_type, qualified_kind, with_qualifiers}
use Rattle.cc_typed_bodies.specs.CcSyntax.Types.{Named}
use Rattle.cc_typed_bodies.specs.CcSyntax.Views.{View, kind_in}

same_some : {A : Type 0} (a b : A) → Some a ≡ Some b → a ≡ b
same_some a b h = cc

-- ---- locals

plain_reduced : (ls : List Named) → ReducedLocals (map unconst ls) ls
plain_reduced [] = λ r d h. absurd (cc)
plain_reduced (l ∷ ls) = elim [ zero ↦ λ d h. (unconst l, refl, subst (λ (m : Named). ReducedType (unconst l).1 m.1) (same_some l d h) (reduced_const l.1)) | suc r ↦ λ d h. plain_reduced ls r d h ]

pub lowered_reduced : (k : ℕ) (ls : List Named) → ReducedLocals (lowered k ls) ls
lowered_reduced zero ls = plain_reduced ls
lowered_reduced (suc k) [] = λ r d h. absurd (cc)
lowered_reduced (suc k) (l ∷ ls) = elim [ zero ↦ λ d h. (l, refl, subst (λ (m : Named). ReducedType l.1 m.1) (same_some l d h) (reduced_itself l.1)) | suc r ↦ λ d h. lowered_reduced k ls r d h ]

-- ---- kinds

-- a kind with as many bytes, of what may be designated where the other may
pub record KindKept (k : Kind) (o : Option Kind) : Type 0 where
  pub own : Kind
  pub is : o ≡ Some own
  pub bytes : bytes_in own ≡ bytes_in k
  pub pointed : is_pointed_kind false (Some own) ≡ is_pointed_kind false (Some k)

kept_as : (q' : Bool) (s l k : Kind) → with_qualifiers q' s ≡ Some l → l ≡ k → KindKept k (with_qualifiers q' s)
kept_as q' s l k e f = record { own = l; is = e; bytes = ap bytes_in f; pointed = ap (λ (z : Kind). is_pointed_kind false (Some z)) f }

less_qualified : (q q' : Bool) (s k : Kind) → (q ≡ false → q' ≡ false) → with_qualifiers q s ≡ Some k → KindKept k (with_qualifiers q' s)
less_qualified q q' IsVoid k f h = kept_as q' IsVoid IsVoid k refl (same_some IsVoid k h)
less_qualified q q' (IsScalar g n) k f h =
    record { own = IsScalar q' n; is = refl; bytes = ap bytes_in (same_some (IsScalar q n) k h); pointed = ap (λ (z : Kind). is_pointed_kind false (Some z)) (same_some (IsScalar q n) k h) }
less_qualified q q' (IsStructure n) k f h = kept_as q' (IsStructure n) (IsStructure n) k refl (same_some (IsStructure n) k h)
less_qualified true q' (IsArray n) k f h = absurd (cc)
less_qualified false q' (IsArray n) k f h = kept_as q' (IsArray n) (IsArray n) k (ap (λ (b : Bool). if b then None else Some (IsArray n)) (f refl)) (same_some (IsArray n) k h)
less_qualified q q' IsIncomplete k f h = kept_as q' IsIncomplete IsIncomplete k refl (same_some IsIncomplete k h)
less_qualified true q' IsFunction k f h = absurd (cc)
less_qualified false q' IsFunction k f h = kept_as q' IsFunction IsFunction k (ap (λ (b : Bool). if b then None else Some IsFunction) (f refl)) (same_some IsFunction k h)

kept_by : (q q' : Bool) (o : Option Kind) (k : Kind) → (q ≡ false → q' ≡ false) → qualified_kind q o ≡ Some k → KindKept k (qualified_kind q' o)
kept_by q q' None k f h = absurd (cc)
kept_by q q' (Some s) k f h = less_qualified q q' s k f h

second_false : (c w : Bool) → c || w ≡ false → w ≡ false
second_false false w h = h
second_false true w h = absurd (cc)

module _ (v : View) where
  simple : (t : CType) (x : shape.Shape-F Shape CType Sig) → out-Shape t.shape ≡ x → without_const t ≡ no_const t → (k : Kind) → kind_in v t ≡ Some k → KindKept k (kind_in v (without_const t))
  simple t x e g k h =
      subst (λ (u : CType). KindKept k (kind_in v u)) (sym g)
      (subst (KindKept k) (sym (kind_at v (no_const t) x e)) (kept_by (t.constant || t.volatile) t.volatile (shaped v x) k (second_false t.constant t.volatile) (sym (kind_at v t x e) ∙ h)))

  element_kept : (q : Bool) (n : ℕ) (o p : Option Kind) (k : Kind) → ((e : Kind) → o ≡ Some e → KindKept e p) → qualified_kind q (arrayed v n o) ≡ Some k → KindKept k (qualified_kind q (arrayed v n p))
  element_kept q n None p k f h = absurd (cc)
  element_kept q n (Some e) p k f h =
      let c = f e refl in
      record {
        own = k;
        is = ap (λ (z : Option Kind). qualified_kind q (arrayed v n z)) c.is ∙ ap (λ (z : Option ℕ). qualified_kind q (array_kind n z)) c.bytes ∙ h;
        bytes = refl;
        pointed = refl;
      }

  abbrev of_type : CType → CType → ℕ → CType
  of_type t of n = record { constant = t.constant; volatile = t.volatile; shape = Array of n }

  array_opens : (t of : CType) (n : ℕ) → out-Shape t.shape ≡ shape.Array of n → without_const t ≡ of_type t (without_const of) n
  unfolding at_element
  array_opens t of n e = opens_as no_const t (shape.Array of n) e

  abbrev StaysKind : CType → Type 0
  StaysKind t = (k : Kind) → kind_in v t ≡ Some k → KindKept k (kind_in v (without_const t))

  array_stays : (t of : CType) (n : ℕ) → out-Shape t.shape ≡ shape.Array of n → StaysKind of → StaysKind t
  array_stays t of n e f k h =
      let u = of_type t (without_const of) n in
      subst (λ (w : CType). KindKept k (kind_in v w)) (sym (array_opens t of n e))
      (subst (KindKept k) (sym (kind_at v u (shape.Array (without_const of) n) (outs-Array (without_const of) n)))
      (element_kept (t.constant || t.volatile) n (kind_in v of) (kind_in v (without_const of)) k f (sym (kind_at v t (shape.Array of n) e) ∙ h)))

  stays_at : (t : CType) (x : shape.Shape-F Shape CType Sig) → out-Shape t.shape ≡ x → TypeParts StaysKind (λ s. Unit {0}) x → StaysKind t
  stays_at t shape.Void e h = simple t shape.Void e (opens_as no_const t shape.Void e)
  stays_at t (shape.Int i) e h = simple t (shape.Int i) e (opens_as no_const t (shape.Int i) e)
  stays_at t (shape.Pointer to) e h = simple t (shape.Pointer to) e (opens_as no_const t (shape.Pointer to) e)
  stays_at t (shape.Struct i) e h = simple t (shape.Struct i) e (opens_as no_const t (shape.Struct i) e)
  stays_at t (shape.Func s) e h = simple t (shape.Func s) e (opens_as no_const t (shape.Func s) e)
  stays_at t (shape.Array of n) e h = array_stays t of n e h

  pub kind_stays : (t : CType) → StaysKind t
  kind_stays = by_type StaysKind (λ s. Unit {0}) (λ c w x h. stays_at (with_shape c w (roll-Shape x)) x (out-roll-Shape x) h) (λ x h. tt)

  -- an object may be designated, and stands, without its const too
  kept_object : (k : Kind) (o : Option Kind) → KindKept k o → is_object_type (Some k) ≡ true → is_object_type o ≡ true
  kept_object k o c h = ap is_object_type c.is ∙ ap is_object_kind c.bytes ∙ h

  object_by : (t : CType) (o : Option Kind) → kind_in v t ≡ o → is_object_type o ≡ true → is_object_type (kind_in v (without_const t)) ≡ true
  object_by t None e h = absurd (cc)
  object_by t (Some k) e h = kept_object k (kind_in v (without_const t)) (kind_stays t k e) h

  pub object_stays : (t : CType) → is_object_type (kind_in v t) ≡ true → is_object_type (kind_in v (without_const t)) ≡ true
  object_stays t h = object_by t (kind_in v t) refl h

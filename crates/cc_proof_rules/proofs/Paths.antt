-- Two paths to scalars of an object that lead to one position are the same path.
use Rattle.std.proofs.Common.{◌≡◌, ◌+◌, ◌*◌, ℕ, Bool, ◌||◌, List, [], ◌∷◌, length, take, Option, Some, None, slice_get, refl, ap, sym, ◌∙◌, subst}
use Rattle.std.specs.Prelude.{option_map}
use Rattle.std.proofs.lemmas.Option.{same_Some}
use Rattle.cc_state_values_sound.specs.CcCells.Scalars.{zeros_over, member_zeros, structure_zeros, zeros, position}
use Rattle.cc_state_values_sound.specs.CcEval.Context.{local_type, object_type}
use Rattle.cc_program.specs.Qualifiers.{is_const, is_volatile}
use Rattle.cc_program.specs.declared.func.Func.{Func}
use Rattle.cc_program.specs.declared.object.Object.{Object}
use Rattle.cc_program.specs.declared.program.Program.{Program}
use Rattle.cc_program.specs.declared.types.CType.{CType}
use Rattle.cc_program.specs.declared.types.Shape.{Shape, out-Shape}
use Rattle.cc_program.specs.declared.types.Shape.TheOpen as shape
use Rattle.cc_program.specs.declared.types.Sig.{Sig}
use Rattle.cc_program.specs.declared.types.Structure.{Structure}
use Rattle.cc_program.specs.declared.value.Part.{Part}
use Rattle.cc_program.specs.declared.value.Part.TheVariants as part
use Rattle.cc_program.specs.declared.value.Root.{Root}
use Rattle.cc_program.specs.declared.value.Root.TheVariants as root
use Rattle.cc_rules.specs.CcStateKeys.Paths.{LeadsTo}
use Rattle.cc_state_values_sound.proofs.CcStates.ListLemmas.{row_same, member_same, same_struct}
use Rattle.cc_state_values_sound.proofs.CcStates.PathLemmas.{element_step, member_step, element_position, member_position, element_scalar, member_scalar, within, no_path, stepped}
use Rattle.cc_state_values_sound.proofs.CcSyntax.AlikeLemmas.{same_of}
use Rattle.cc_state_values_sound.specs.CcSyntax.Expressions.{of_one}
use Rattle.cc_state_values_sound.specs.CcSyntax.Initial.{step_into, place_at}
use Rattle.cc_state_values_sound.specs.CcSyntax.Types.{Named, IsInOrder}
use Rattle.cc_state_values_sound.specs.CcSyntax.Values.{ValueType, PlaceType, ObjectPlace, object_place, read_from}

module _ (p : Program) (order : IsInOrder p.structures) where
  abbrev structures : List Structure
  structures = p.structures

  abbrev IsScalarAt : CType → List Part → Bool → Bool → ValueType → Type 0
  IsScalarAt t path c v w = of_one (place_at structures path (ObjectPlace c v t)) read_from ≡ Some w

  abbrev at : CType → List Part → Bool → Bool → ℕ
  at t path c v = position structures path (Some (ObjectPlace c v t))

  abbrev OnePath : List Part → List Part → Type 0
  OnePath path other = (c v : Bool) (t : CType) (w u : ValueType) → IsScalarAt t path c v w → IsScalarAt t other c v u → at t path c v ≡ at t other c v → path ≡ other

  one_element : (c v : Bool) (t : CType) (w u : ValueType) (i j : ℕ) (path other : List Part) (a b : PlaceType) → OnePath path other → step_into structures (part.Index i) (ObjectPlace c v t) ≡ Some a → of_one (place_at structures path a) read_from ≡ Some w →
      step_into structures (part.Index j) (ObjectPlace c v t) ≡ Some b → of_one (place_at structures other b) read_from ≡ Some u → at t (part.Index i ∷ path) c v ≡ at t (part.Index j ∷ other) c v → part.Index i ∷ path ≡ part.Index j ∷ other
  one_element c v t w u i j path other a b r f h g k e =
      let x = element_step structures order c v t i a f in
      let y = element_step structures order c v t j b g in
      let same : y.of ≡ x.of = same_of y.of x.of y.n x.n (out-Shape t.shape) y.is_array x.is_array in
      let these : IsScalarAt x.of path c v w = element_scalar structures order c v t i path a w x h in
      let those : IsScalarAt x.of other c v u = subst (λ (o : CType). IsScalarAt o other c v u) same (element_scalar structures order c v t j other b u y k) in
      let rows : i * length (zeros structures x.of) + at x.of path c v ≡ j * length (zeros structures x.of) + at x.of other c v =
      sym (element_position structures order c v t i path a x f) ∙ e ∙ element_position structures order c v t j other b y g ∙ ap (λ (o : CType). j * length (zeros structures o) + at o other c v) same in
      let both = row_same (length (zeros structures x.of)) i j (at x.of path c v) (at x.of other c v) rows (within structures order p [] path c v x.of w these) (within structures order p [] other c v x.of u those) in
      ap (λ (z : ℕ). part.Index z ∷ path) both.0 ∙ ap (λ (z : List Part). part.Index j ∷ z) (r c v x.of w u these those both.1)

  one_member : (c v : Bool) (t : CType) (w u : ValueType) (m k : ℕ) (path other : List Part) (a b : PlaceType) → OnePath path other → step_into structures (part.Member m) (ObjectPlace c v t) ≡ Some a → of_one (place_at structures path a) read_from ≡ Some w →
      step_into structures (part.Member k) (ObjectPlace c v t) ≡ Some b → of_one (place_at structures other b) read_from ≡ Some u → at t (part.Member m ∷ path) c v ≡ at t (part.Member k ∷ other) c v → part.Member m ∷ path ≡ part.Member k ∷ other
  one_member c v t w u m k path other a b r f h g l e =
      let x = member_step structures order c v t m a f in
      let y = member_step structures order c v t k b g in
      let id : y.i ≡ x.i = same_struct y.i x.i (out-Shape t.shape) y.is_struct x.is_struct in
      let same : y.s ≡ x.s = same_Some y.s x.s (sym y.found ∙ ap (slice_get structures) id ∙ x.found) in
      let named : slice_get x.s.members k ≡ Some y.n = ap (λ (s : Structure). slice_get s.members k) (sym same) ∙ y.named in
      let these = member_scalar structures order c v t m path a w x h in
      let those = member_scalar structures order c v t k other b u y l in
      let rows : length (member_zeros (structure_zeros structures) (take m x.s.members)) + at x.n.1 path (c || is_const x.n.1) (v || is_volatile x.n.1)
      ≡ length (member_zeros (structure_zeros structures) (take k x.s.members)) + at y.n.1 other (c || is_const y.n.1) (v || is_volatile y.n.1) =
      sym (member_position structures order c v t m path a x f) ∙ e ∙ member_position structures order c v t k other b y g
      ∙ ap (λ (s : Structure). length (member_zeros (structure_zeros structures) (take k s.members)) + at y.n.1 other (c || is_const y.n.1) (v || is_volatile y.n.1)) same in
      let found = member_same (λ n. zeros_over (structure_zeros structures) n.1) x.s.members m k (at x.n.1 path (c || is_const x.n.1) (v || is_volatile x.n.1)) (at y.n.1 other (c || is_const y.n.1) (v || is_volatile y.n.1)) x.n y.n x.named named
      (within structures order p [] path (c || is_const x.n.1) (v || is_volatile x.n.1) x.n.1 w these) (within structures order p [] other (c || is_const y.n.1) (v || is_volatile y.n.1) y.n.1 u those) rows in
      let one : y.n ≡ x.n = same_Some y.n x.n (sym named ∙ ap (slice_get x.s.members) (sym found.0) ∙ x.named) in
      ap (λ (z : ℕ). part.Member z ∷ path) found.0
      ∙ ap (λ (z : List Part). part.Member k ∷ z) (r (c || is_const x.n.1) (v || is_volatile x.n.1) x.n.1 w u these
      (subst (λ (n : Named). IsScalarAt n.1 other (c || is_const n.1) (v || is_volatile n.1) u) one those)
      (found.1 ∙ ap (λ (n : Named). at n.1 other (c || is_const n.1) (v || is_volatile n.1)) one))

  not_both : {B : Type 0} (i n : ℕ) (of : CType) (x : shape.Shape-F Shape CType Sig) → x ≡ shape.Array of n → x ≡ shape.Struct i → B
  not_both i n of x h k = absurd (cc)

  one_path : (path other : List Part) → OnePath path other
  one_path [] [] c v t w u h k e = refl
  one_path [] (s ∷ other) c v t w u h k e = no_path structures order p [] ([] ≡ s ∷ other) c v t w u s other h k
  one_path (s ∷ path) [] c v t w u h k e = no_path structures order p [] (s ∷ path ≡ []) c v t u w s path k h
  one_path (part.Index i ∷ path) (part.Index j ∷ other) c v t w u h k e =
      let C : Type 0 = part.Index i ∷ path ≡ part.Index j ∷ other in
      stepped structures order p [] C c v t w (part.Index i) path h (λ a f x. stepped structures order p [] C c v t u (part.Index j) other k (λ b g y. one_element c v t w u i j path other a b (one_path path other) f x g y e))
  one_path (part.Member m ∷ path) (part.Member n ∷ other) c v t w u h k e =
      let C : Type 0 = part.Member m ∷ path ≡ part.Member n ∷ other in
      stepped structures order p [] C c v t w (part.Member m) path h (λ a f x. stepped structures order p [] C c v t u (part.Member n) other k (λ b g y. one_member c v t w u m n path other a b (one_path path other) f x g y e))
  one_path (part.Index i ∷ path) (part.Member m ∷ other) c v t w u h k e =
      let C : Type 0 = part.Index i ∷ path ≡ part.Member m ∷ other in
      stepped structures order p [] C c v t w (part.Index i) path h (λ a f x. stepped structures order p [] C c v t u (part.Member m) other k
      (λ b g y. (let z = element_step structures order c v t i a f in let q = member_step structures order c v t m b g in not_both q.i z.n z.of (out-Shape t.shape) z.is_array q.is_struct)))
  one_path (part.Member m ∷ path) (part.Index i ∷ other) c v t w u h k e =
      let C : Type 0 = part.Member m ∷ path ≡ part.Index i ∷ other in
      stepped structures order p [] C c v t w (part.Member m) path h (λ a f x. stepped structures order p [] C c v t u (part.Index i) other k
      (λ b g y. (let q = member_step structures order c v t m a f in let z = element_step structures order c v t i b g in not_both q.i z.n z.of (out-Shape t.shape) z.is_array q.is_struct)))

  -- in an object
  object_by : (t : CType) (o : Option PlaceType) → o ≡ Some (object_place t) → (path other : List Part) (w u : ValueType) → of_one (of_one o (place_at structures path)) read_from ≡ Some w → of_one (of_one o (place_at structures other)) read_from ≡ Some u →
      position structures path o ≡ position structures other o → path ≡ other
  object_by t o is path other w u h k e =
      one_path path other (is_const t) (is_volatile t) t w u (ap (λ (z : Option PlaceType). of_one (of_one z (place_at structures path)) read_from) (sym is) ∙ h) (ap (λ (z : Option PlaceType). of_one (of_one z (place_at structures other)) read_from) (sym is) ∙ k)
      (ap (position structures path) (sym is) ∙ e ∙ ap (position structures other) is)

  some_object : (object : Root) (u : PlaceType) → object_type p object ≡ Some u → (t : CType) × (object_type p object ≡ Some (object_place t))
  some_object (root.Static i) u e = by (slice_get p.objects i) refl e
    where
      by : (o : Option Object) → slice_get p.objects i ≡ o → option_map (λ (o : Object). object_place o.ctype) o ≡ Some u → (t : CType) × (object_type p (root.Static i) ≡ Some (object_place t))
      by None h k = absurd (cc)
      by (Some o) h k = (o.ctype, ap (option_map (λ (o : Object). object_place o.ctype)) h)
  some_object (root.Auto number g r) u e = by_function (slice_get p.funcs g) refl e
    where
      by_local : (f : Func) → slice_get p.funcs g ≡ Some f → (l : Option Named) → slice_get f.locals r ≡ l → option_map (λ (l : Named). object_place l.1) l ≡ Some u → (t : CType) × (object_type p (root.Auto number g r) ≡ Some (object_place t))
      by_local f h None i k = absurd (cc)
      by_local f h (Some l) i k = (l.1, ap (local_type r) h ∙ ap (option_map (λ (l : Named). object_place l.1)) i)

      by_function : (o : Option Func) → slice_get p.funcs g ≡ o → local_type r o ≡ Some u → (t : CType) × (object_type p (root.Auto number g r) ≡ Some (object_place t))
      by_function None h k = absurd (cc)
      by_function (Some f) h k = by_local f h (slice_get f.locals r) refl k

  typed_object : (object : Root) (path : List Part) (w : ValueType) → of_one (of_one (object_type p object) (place_at structures path)) read_from ≡ Some w → (t : CType) × (object_type p object ≡ Some (object_place t))
  typed_object object path w h = by (object_type p object) refl h
    where
      by : (o : Option PlaceType) → object_type p object ≡ o → of_one (of_one o (place_at structures path)) read_from ≡ Some w → (t : CType) × (object_type p object ≡ Some (object_place t))
      by None e k = absurd (cc)
      by (Some u) e k = some_object object u e

  pub one_place : (object : Root) (path other : List Part) (k : ℕ) → LeadsTo p object path k → LeadsTo p object other k → path ≡ other
  one_place object path other k h l =
      let t = typed_object object path h.0 h.1 in
      object_by t.0 (object_type p object) t.1 path other h.0 l.0 h.1 l.1 (h.2 ∙ sym l.2)

-- Where more structures are complete a type has a kind too, by induction over types.
use Rattle.std.proofs.Common.{◌≡◌, ℕ, Bool, true, false, ◌&&◌, ◌||◌, List, [], ◌∷◌, map, Option, Some, None, refl, ap, sym, ◌∙◌, subst}
use Rattle.std.specs.List.{list_all}
use Rattle.std.proofs.lemmas.Option.{same_Some}
use Rattle.cc_program.specs.CcNum.declared.target.Target.{Target}
use Rattle.cc_program.proofs.Each.{Each}
use Rattle.cc_program.proofs.TypeInduction.{with_shape, TypeParts, SigParts, by_type}
use Rattle.cc_program.specs.declared.types.CType.{CType}
use Rattle.cc_program.specs.declared.types.Shape.{Shape, roll-Shape, out-roll-Shape}
use Rattle.cc_program.specs.declared.types.Shape.TheOpen as shape
use Rattle.cc_program.specs.declared.types.Sig.{Sig, roll-Sig, fold-roll-Sig}
use Rattle.cc_operands.specs.CcSyntax.Kinds.{Kind, IsStructure, IsIncomplete, IsFunction, bytes_in, array_kind, pointer_kind, is_result, is_plain_scalar, extent_kind, qualified_kind, type_kind, is_signature, shape_kind, kind_of, is_sig}
use Rattle.cc_operands.proofs.CcSyntax.Prefixes.{both_true}
use Rattle.cc_operands.proofs.CcSyntax.KindRolls.{parts_kind, kind-opens}
use Rattle.cc_operand_types.specs.Later.{Grow, Later, Same, Completed}

module _ (target : Target) (before after : ℕ → Option (Option ℕ)) (grow : Grow before after) where
  abbrev Stays : CType → Type 0
  Stays t = (k : Kind) → kind_of target before t ≡ Some k → (l : Kind) × (kind_of target after t ≡ Some l) × Later k l

  abbrev SigStays : Sig → Type 0
  SigStays s = is_sig target before s ≡ true → is_sig target after s ≡ true

  -- what is found of a shape
  abbrev Found : Bool → Option Kind → Kind → Type 0
  Found q o k = (l : Kind) × (qualified_kind q o ≡ Some l) × Later k l

  found_same : (q : Bool) (o p : Option Kind) (k : Kind) → p ≡ o → qualified_kind q o ≡ Some k → Found q p k
  found_same q o p k e h = (k, ap (qualified_kind q) e ∙ h, Same k)

  pointer_later : (n : ℕ) (k l : Kind) → Later k l → pointer_kind n l ≡ pointer_kind n k
  pointer_later n _ _ (Same k) = refl
  pointer_later n _ _ (Completed m) = refl

  pointer_by : (q : Bool) (to : CType) (o : Option Kind) (k : Kind) → kind_of target before to ≡ o → Stays to → qualified_kind q (shape_kind target before (shape.Pointer o)) ≡ Some k → Found q (shape_kind target after (shape.Pointer (kind_of target after to))) k
  pointer_by q to None k e s h = absurd (cc)
  pointer_by q to (Some d) k e s h =
      let l = s d e in
      found_same q (pointer_kind target.pointer_bytes d) (shape_kind target after (shape.Pointer (kind_of target after to))) k
      (ap (λ (o : Option Kind). shape_kind target after (shape.Pointer o)) l.1 ∙ pointer_later target.pointer_bytes d l.0 l.2) h

  array_later : (q : Bool) (n : ℕ) (d l k : Kind) → Later d l → qualified_kind q (array_kind n (bytes_in d)) ≡ Some k → array_kind n (bytes_in l) ≡ array_kind n (bytes_in d)
  array_later q n _ _ k (Same d) h = refl
  array_later q n _ _ k (Completed m) h = absurd (cc)

  array_by : (q : Bool) (of : CType) (n : ℕ) (o : Option Kind) (k : Kind) → kind_of target before of ≡ o → Stays of → qualified_kind q (shape_kind target before (shape.Array o n)) ≡ Some k → Found q (shape_kind target after (shape.Array (kind_of target after of) n)) k
  array_by q of n None k e s h = absurd (cc)
  array_by q of n (Some d) k e s h =
      let l = s d e in
      found_same q (array_kind n (bytes_in d)) (shape_kind target after (shape.Array (kind_of target after of) n)) k
      (ap (λ (o : Option Kind). shape_kind target after (shape.Array o n)) l.1 ∙ array_later q n d l.0 k l.2 h) h

  named_by : (q : Bool) (x : Option ℕ) (k : Kind) → Some IsIncomplete ≡ Some k → Found q (extent_kind (Some x)) k
  named_by q None k h = (IsIncomplete, refl, subst (λ (z : Kind). Later z IsIncomplete) (same_Some IsIncomplete k h) (Same IsIncomplete))
  named_by q (Some n) k h = (IsStructure n, refl, subst (λ (z : Kind). Later z (IsStructure n)) (same_Some IsIncomplete k h) (Completed n))

  structure_by : (q : Bool) (i : ℕ) (o : Option (Option ℕ)) (k : Kind) → before i ≡ o → qualified_kind q (extent_kind o) ≡ Some k → Found q (extent_kind (after i)) k
  structure_by q i None k e h = absurd (cc)
  structure_by q i (Some None) k e h =
      let x = grow.there i e in
      subst (λ (o : Option (Option ℕ)). Found q (extent_kind o) k) (sym x.1) (named_by q x.0 k h)
  structure_by q i (Some (Some n)) k e h = found_same q (extent_kind (Some (Some n))) (extent_kind (after i)) k (ap extent_kind (grow.complete i n e)) h

  function_by : (q good later : Bool) (k : Kind) → (good ≡ true → later ≡ true) → qualified_kind q (shape_kind target before (shape.Func good)) ≡ Some k → Found q (shape_kind target after (shape.Func later)) k
  function_by q false later k s h = absurd (cc)
  function_by q true later k s h = found_same q (Some IsFunction) (shape_kind target after (shape.Func later)) k (ap (λ (b : Bool). shape_kind target after (shape.Func b)) (s refl)) h

  shape_stays : (q : Bool) (x : shape.Shape-F Shape CType Sig) → TypeParts Stays SigStays x → (k : Kind) → qualified_kind q (shape_kind target before (parts_kind target before x)) ≡ Some k → Found q (shape_kind target after (parts_kind target after x)) k
  shape_stays q shape.Void h k e = (k, e, Same k)
  shape_stays q (shape.Int t) h k e = (k, e, Same k)
  shape_stays q (shape.Pointer to) h k e = pointer_by q to (kind_of target before to) k refl h e
  shape_stays q (shape.Array of n) h k e = array_by q of n (kind_of target before of) k refl h e
  shape_stays q (shape.Struct i) h k e = structure_by q i (before i) k refl e
  shape_stays q (shape.Func s) h k e = function_by q (is_sig target before s) (is_sig target after s) k h e

  kind_roll : (extents : ℕ → Option (Option ℕ)) (c v : Bool) (x : shape.Shape-F Shape CType Sig) →
      kind_of target extents (with_shape c v (roll-Shape x)) ≡ qualified_kind (c || v) (shape_kind target extents (parts_kind target extents x))
  kind_roll extents c v x = kind-opens target extents (with_shape c v (roll-Shape x)) ∙ ap (λ y. qualified_kind (c || v) (shape_kind target extents (parts_kind target extents y))) (out-roll-Shape x)

  level : (c v : Bool) (x : shape.Shape-F Shape CType Sig) → TypeParts Stays SigStays x → Stays (with_shape c v (roll-Shape x))
  level c v x h k e =
      let f = shape_stays (c || v) x h k (sym (kind_roll before c v x) ∙ e) in
      (f.0, kind_roll after c v x ∙ f.1, f.2)

  -- ---- functions

  sig_roll : (extents : ℕ → Option (Option ℕ)) (x : shape.Sig-F Shape CType Sig) →
      is_sig target extents (roll-Sig x) ≡ (is_result (kind_of target extents x.result) && list_all is_plain_scalar (map (kind_of target extents) x.params))
  unfolding is_sig kind_of
  sig_roll extents x = fold-roll-Sig (Option Kind) (Option Kind) Bool (shape_kind target extents) type_kind is_signature x

  result_later : (k l : Kind) → Later k l → is_result (Some k) ≡ true → is_result (Some l) ≡ true
  result_later _ _ (Same k) h = h
  result_later _ _ (Completed n) h = absurd (cc)

  scalar_later : (k l : Kind) → Later k l → is_plain_scalar (Some k) ≡ true → is_plain_scalar (Some l) ≡ true
  scalar_later _ _ (Same k) h = h
  scalar_later _ _ (Completed n) h = absurd (cc)

  result_by : (t : CType) (o : Option Kind) → kind_of target before t ≡ o → Stays t → is_result o ≡ true → is_result (kind_of target after t) ≡ true
  result_by t None e s h = absurd (cc)
  result_by t (Some k) e s h = let l = s k e in ap is_result l.1 ∙ result_later k l.0 l.2 h

  scalar_by : (t : CType) (o : Option Kind) → kind_of target before t ≡ o → Stays t → is_plain_scalar o ≡ true → is_plain_scalar (kind_of target after t) ≡ true
  scalar_by t None e s h = absurd (cc)
  scalar_by t (Some k) e s h = let l = s k e in ap is_plain_scalar l.1 ∙ scalar_later k l.0 l.2 h

  both : (a b : Bool) → a ≡ true → b ≡ true → a && b ≡ true
  both true b h k = k
  both false b h k = absurd (cc)

  params_by : (ts : List CType) → Each Stays ts → list_all is_plain_scalar (map (kind_of target before) ts) ≡ true → list_all is_plain_scalar (map (kind_of target after) ts) ≡ true
  params_by [] s h = refl
  params_by (t ∷ ts) s h =
      let b = both_true (is_plain_scalar (kind_of target before t)) (list_all is_plain_scalar (map (kind_of target before) ts)) h in
      both (is_plain_scalar (kind_of target after t)) (list_all is_plain_scalar (map (kind_of target after) ts)) (scalar_by t (kind_of target before t) refl s.0 b.0) (params_by ts s.1 b.1)

  sig_level : (x : shape.Sig-F Shape CType Sig) → SigParts Stays SigStays x → SigStays (roll-Sig x)
  sig_level x h e =
      let b = both_true (is_result (kind_of target before x.result)) (list_all is_plain_scalar (map (kind_of target before) x.params)) (sym (sig_roll before x) ∙ e) in
      sig_roll after x ∙ both (is_result (kind_of target after x.result)) (list_all is_plain_scalar (map (kind_of target after) x.params)) (result_by x.result (kind_of target before x.result) refl h.0 b.0) (params_by x.params h.1 b.1)

  pub kind_stays : (t : CType) → Stays t
  kind_stays = by_type Stays SigStays level sig_level

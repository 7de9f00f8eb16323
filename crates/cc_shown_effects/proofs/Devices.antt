-- Trees that show devices, and other places, are typed to them, also where a statement accesses them.
use Rattle.std.proofs.Common.{◌≡◌, ℕ, ◌*◌, ◌^◌, pos, Bool, true, false, ◌||◌, List, Option, Some, None, Ok, refl, ap, sym, ◌∙◌, slice_get, nat_lt}
use Rattle.std.specs.Prelude.{option_map, nat_eq, Err, if◌then◌else◌}
use Rattle.std.specs.Option.{is_some, is_none}
use Rattle.cc_typed_bodies.specs.CcDesignators.Casts.{fits_pointer, no_device}
use Rattle.cc_typed_bodies.specs.CcDesignators.Designators.{TypedExpr, IsPlace, IsAddress}
use Rattle.cc_typed_bodies.specs.CcLex.declared.token.Mark.TheVariants as m
use Rattle.cc_shown_expressions.proofs.CastRules.{constant-pointer}
use Rattle.cc_shown_expressions.proofs.ChoiceRules.{constancy-of}
use Rattle.cc_typed_bodies.specs.CcOperands.Operands.{integer, number_type}
use Rattle.cc_typed_bodies.specs.CcOperands.Qualified.{unqualified}
use Rattle.cc_typed_bodies.specs.CcTypedTerms.Devices.{device_of, declared_device, number_of, device_place, with_device, device_found, register_found, address_found}
use Rattle.cc_typed_bodies.specs.CcTypedTerms.Primary.{named}
use Rattle.cc_typed_bodies.specs.CcTypedTerms.Values.{valued}
use Rattle.cc_program.specs.declared.expr.Expr.TheOpen as one
use Rattle.cc_program.specs.declared.expr.Place.{Place, out-Place}
use Rattle.cc_program.specs.declared.func.Func.{Func}
use Rattle.cc_program.specs.declared.object.Device.{Device}
use Rattle.cc_program.specs.declared.object.Object.{Object}
use Rattle.cc_program.specs.declared.types.Structure.{Structure}
use Rattle.cc_program.specs.Qualifiers.{is_const, is_volatile}
use Rattle.cc_typed_bodies.specs.CcOperands.declared.rule.Rule.TheVariants as rule
use Rattle.cc_program.specs.declared.expr.Expr.{Expr}
use Rattle.cc_program.specs.declared.program.Program.{Program}
use Rattle.cc_program.specs.declared.types.CType.{CType}
use Rattle.cc_program.specs.declared.types.Shape.{Shape, out-Shape, out-roll-Shape}
use Rattle.cc_program.specs.declared.types.Shape.TheOpen as shape
use Rattle.cc_program.specs.declared.types.Sig.{Sig}
use Rattle.cc_typed_bodies.specs.CcScopes.State.{State, with_declared}
use Rattle.cc_typed_bodies.specs.CcScopes.Verdicts.{Found, whole, and_then}
use Rattle.cc_typed_bodies.specs.CcSyntax.Kinds.{Kind, qualified_kind, shape_kind, extent_in}
use Rattle.cc_typed_bodies.specs.CcSyntax.Programs.{kind_in}
use Rattle.cc_typed_bodies.specs.CcSyntax.Sizes.{AreSized}
use Rattle.cc_typed_bodies.specs.CcSyntax.Sound.{IsSound, is_device}
use Rattle.cc_typed_bodies.specs.CcSyntax.SameTypes.{is_void_shape}
use Rattle.cc_typed_bodies.specs.CcSyntax.Types.{Named}
use Rattle.cc_typed_bodies.specs.CcSyntax.Values.{ValueType, NoValue, Integer, ToObject, ToFunction, PlaceType, DevicePlace, ObjectPlace, FunctionPlace, is_void, object_place, pointed_to, member_at, member_in, member_shape, member_of}
use Rattle.cc_typed_bodies.specs.CcTerms.Operations.{prefixed}
use Rattle.cc_typed_bodies.specs.CcTerms.Terms.{tree_of}
use Rattle.cc_tree.specs.declared.at.At.{At}
use Rattle.cc_tree.specs.declared.tree.Declr.TheOpen as trees
use Rattle.cc_tree.specs.declared.tree.Tree as tree
use Rattle.cc_tree.specs.declared.tree.Tree.{Tree}
use Rattle.cc_tree.specs.declared.tree.Tree.TheVariants as tree_rolls
use Rattle.cc_tree.specs.declared.tree.TypeName.{TypeName}
use Rattle.cc_expression_trees.specs.Types.{plain_suffix, ShowsTypeName}
use Rattle.cc_expression_trees.specs.Constants.{qualified, plain}
use Rattle.cc_expression_trees.specs.Exprs.{ShowsPlace, PlaceInParens, ShowsLocal, ShowsStatic, ShowsDevice, ShowsNumbered, ShowsElement, ShowsMember, ShowsPointed}
use Rattle.cc_shown_effects.specs.Accesses.{Accesses, NoneNumbered, Known, First}
use Rattle.cc_shown_expressions.proofs.Constants.{number-tree, paren-tree}
use Rattle.cc_shown_expressions.proofs.Places.{no-device-element}
use Rattle.cc_shown_expressions.proofs.Shown.{place-shown}
use Rattle.cc_shown_expressions.proofs.Stand.{tested-at}
use Rattle.cc_shown_expressions.specs.Fits.{is_device_place}
use Rattle.cc_shown_expressions.specs.KnownNames.{KnowsNames, TypesStand}
use Rattle.cc_shown_expressions.specs.Normal.{HasPlace}
use Rattle.cc_shown_expressions.specs.OperationNumbers.{Numbers, place_numbered}
use Rattle.cc_shown_expressions.proofs.Levels.{place-at, place-numbered-at}
use Rattle.cc_shown_expressions.proofs.PlaceParts.{element-parts, member-parts, pointed-parts}
use Rattle.cc_shown_expressions.proofs.Trees.{tree-at, name-tree, cast-by}
use Rattle.cc_shown_expressions.specs.Numbers.{type_numbered, place_type_numbered}
use Rattle.cc_shown_expressions.proofs.Kept.{void-numbered}
use Rattle.cc_shown_expressions.proofs.Numbering.{level-at, constant-kept, volatile-kept}
use Rattle.cc_shown_expressions.proofs.Standing.{kind-at}
use Rattle.cc_shown_expressions.proofs.TypeNames.{type-name-found}

abbrev is_device_level : {A B : Type 0} → one.Place-F A B → Bool
is_device_level (one.Local r) = false
is_device_level (one.Static i) = false
is_device_level (one.Device i) = true
is_device_level (one.Element a i) = false
is_device_level (one.Member a i) = false
is_device_level (one.Deref e) = false

plain-local : (o : Option Named) (t : PlaceType) → option_map (λ (l : Named). object_place l.1) o ≡ Some t → is_device_place t ≡ false
plain-local None t h = absurd (cc)
plain-local (Some l) t h = let e : object_place l.1 ≡ t = cc in ap is_device_place (sym e)

plain-static : (o : Option Object) (t : PlaceType) → option_map (λ (o : Object). object_place o.ctype) o ≡ Some t → is_device_place t ≡ false
plain-static None t h = absurd (cc)
plain-static (Some l) t h = let e : object_place l.ctype ≡ t = cc in ap is_device_place (sym e)

plain-pointed : (v : ValueType) (t : PlaceType) → pointed_to v ≡ Some t → is_device_place t ≡ false
plain-pointed NoValue t h = absurd (cc)
plain-pointed (Integer i) t h = absurd (cc)
plain-pointed (ToObject c v u) t h = by (is_void u) h where
  by : (b : Bool) → (if b then None else Some (ObjectPlace c v u)) ≡ Some t → is_device_place t ≡ false
  by true h = absurd (cc)
  by false h = let e : ObjectPlace c v u ≡ t = cc in ap is_device_place (sym e)
plain-pointed (ToFunction s) t h = let e : FunctionPlace s ≡ t = cc in ap is_device_place (sym e)

member-plain : (c v : Bool) (o : Option Named) (t : PlaceType) → member_at c v o ≡ Some t → is_device_place t ≡ false
member-plain c v None t h = absurd (cc)
member-plain c v (Some l) t h = let e : ObjectPlace (c || is_const l.1) (v || is_volatile l.1) l.1 ≡ t = cc in ap is_device_place (sym e)

structure-plain : (c v : Bool) (m : ℕ) (o : Option Structure) (t : PlaceType) → member_in c v m o ≡ Some t → is_device_place t ≡ false
structure-plain c v m None t h = absurd (cc)
structure-plain c v m (Some s) t h = member-plain c v (slice_get s.members m) t h

level-plain : (structures : List Structure) (c v : Bool) (m : ℕ) (y : shape.Shape-F Shape CType Sig) (t : PlaceType) → member_shape structures c v m y ≡ Some t → is_device_place t ≡ false
level-plain structures c v m (shape.Struct i) t h = structure-plain c v m (slice_get structures i) t h
level-plain structures c v m shape.Void t h = absurd (cc)
level-plain structures c v m (shape.Int i) t h = absurd (cc)
level-plain structures c v m (shape.Pointer to) t h = absurd (cc)
level-plain structures c v m (shape.Array of n) t h = absurd (cc)
level-plain structures c v m (shape.Func g) t h = absurd (cc)

plain-member : (structures : List Structure) (m : ℕ) (a t : PlaceType) → member_of structures m a ≡ Some t → is_device_place t ≡ false
plain-member structures m (DevicePlace c i) t h = absurd (cc)
plain-member structures m (ObjectPlace c v u) t h = level-plain structures c v m (out-Shape u.shape) t h
plain-member structures m (FunctionPlace g) t h = absurd (cc)

module _ (p : Program) (f : Func) (n : Numbers) (s : State) (sound : IsSound p) (sized : AreSized p.structures p.target) (names : KnowsNames p f n s) (stand : TypesStand p f) where
  abbrev numbered : CType → CType
  numbered t = type_numbered n.structure t

  abbrev place : PlaceType → PlaceType
  place t = place_type_numbered n.structure t

  -- typed to a place, from what is known here to what is known then
  abbrev pub IsFoundTo : State → Tree → ℕ → Place → PlaceType → Type 0
  IsFoundTo u x at a t = tree_of p.target p.roles x at s ≡ Ok (IsPlace (place_numbered n a) (place t), u)

  -- ---- what is no device

  plain-by : (a : Place) (t : PlaceType) (y : one.Place-F Expr Place) → out-Place a ≡ y → is_device_level y ≡ false → HasPlace p f a t → is_device_place t ≡ false
  plain-by a t (one.Local r) e h k = plain-local (slice_get f.locals r) t (sym (place-at p f a (one.Local r) e) ∙ k.typed)
  plain-by a t (one.Static i) e h k = plain-static (slice_get p.objects i) t (sym (place-at p f a (one.Static i) e) ∙ k.typed)
  plain-by a t (one.Device i) e h k = absurd (cc)
  plain-by a t (one.Element b i) e h k = let q = element-parts p f a b i t e k in (no-device-element q.own t q.element).1
  plain-by a t (one.Member b i) e h k = let q = member-parts p f a b i t e k in plain-member p.structures i q.own t q.member
  plain-by a t (one.Deref b) e h k = let q = pointed-parts p f a b t e k in plain-pointed q.own t q.pointed

  stays : (a : Place) (y : one.Place-F Expr Place) (u : State) → out-Place a ≡ y → is_device_level y ≡ false → Accesses p n s a u → s ≡ u
  stays a y _ e h (NoneNumbered k) = refl
  stays a y _ e h (Known i d o there none known) = let g : true ≡ false = ap is_device_level (sym o ∙ e) ∙ h in absurd (cc)
  stays a y _ e h (First i d o there none unknown next) = let g : true ≡ false = ap is_device_level (sym o ∙ e) ∙ h in absurd (cc)

  other-found : (a : Place) (x : Tree) → ShowsPlace p f a x → (y : one.Place-F Expr Place) → out-Place a ≡ y → is_device_level y ≡ false → (at : ℕ) (t : PlaceType) → HasPlace p f a t → (u : State) → Accesses p n s a u → IsFoundTo u x at a t
  other-found a x h y e l at t k u acc =
      (place-shown p f n s sized names stand a x h at t k (plain-by a t y e l k)).placed ∙ ap (λ (u : State). Ok (IsPlace (place_numbered n a) (place t), u)) (stays a y u e l acc)

  -- ---- devices

  device-typed : (a : Place) (i : ℕ) (d : Device) (t : PlaceType) → out-Place a ≡ one.Device i → slice_get p.devices i ≡ Some d → HasPlace p f a t → DevicePlace d.constant d.int ≡ t
  device-typed a i d t e there k =
      let same : Some (DevicePlace d.constant d.int) ≡ Some t = sym (place-at p f a (one.Device i) e ∙ ap (option_map (λ (d : Device). DevicePlace d.constant d.int)) there) ∙ k.typed in
      cc

  -- the same device
  one-device : (a : Place) (i j : ℕ) (d e : Device) → out-Place a ≡ one.Device i → slice_get p.devices i ≡ Some d → out-Place a ≡ one.Device j → slice_get p.devices j ≡ Some e → (i ≡ j) × (d ≡ e)
  one-device a i j d e h k g l =
      let same : one.Device i ≡ one.Device j = sym h ∙ g in
      let ids : i ≡ j = cc in
      let there : Some d ≡ Some e = sym k ∙ ap (slice_get p.devices) ids ∙ l in
      let devices : d ≡ e = cc in
      (ids, devices)

  device-stays : (a : Place) (i : ℕ) (d : Device) (x : List ℕ) (u : State) → out-Place a ≡ one.Device i → slice_get p.devices i ≡ Some d → d.name ≡ Some x → Accesses p n s a u → s ≡ u
  device-stays a i d x _ e there named (NoneNumbered k) = refl
  device-stays a i d x _ e there named (Known j c o same none known) =
      let q = one-device a i j d c e there o same in
      let g : None ≡ Some x = sym none ∙ ap (λ (d : Device). d.name) (sym q.1) ∙ named in absurd (cc)
  device-stays a i d x _ e there named (First j c o same none unknown next) =
      let q = one-device a i j d c e there o same in
      let g : None ≡ Some x = sym none ∙ ap (λ (d : Device). d.name) (sym q.1) ∙ named in absurd (cc)

  named-found : (a : Place) (i : ℕ) (d : Device) (x : List ℕ) (at : ℕ) (t : PlaceType) (u : State) → out-Place a ≡ one.Device i → slice_get p.devices i ≡ Some d → d.name ≡ Some x → HasPlace p f a t → Accesses p n s a u → IsFoundTo u (tree.Named x) at a t
  named-found a i d x at t u e there named k acc =
      name-tree p n s x at ∙ ap (whole at s) (names.devices i d x there named at)
      ∙ ap (λ (b : Place). Ok (IsPlace b (DevicePlace d.constant d.int), s)) (sym (place-numbered-at n a (one.Device i) e))
      ∙ ap (λ (b : PlaceType). Ok (IsPlace (place_numbered n a) (place b), s)) (device-typed a i d t e there k)
      ∙ ap (λ (u : State). Ok (IsPlace (place_numbered n a) (place t), u)) (device-stays a i d x u e there named acc)

  -- `*(volatile T *)n`

  module _ (d : Device) where
    abbrev target_type : CType
    target_type = qualified d.constant true (shape.Int d.int)

    abbrev pointer : CType
    pointer = plain (shape.Pointer (qualified d.constant true (shape.Int d.int)))

    target-level : out-Shape (qualified d.constant true (shape.Int d.int)).shape ≡ shape.Int d.int
    target-level = out-roll-Shape (shape.Int d.int)

    pointer-level : out-Shape (plain (shape.Pointer (qualified d.constant true (shape.Int d.int)))).shape ≡ shape.Pointer (qualified d.constant true (shape.Int d.int))
    pointer-level = out-roll-Shape (shape.Pointer (qualified d.constant true (shape.Int d.int)))

    pointer-stands : is_some (kind_in p (plain (shape.Pointer (qualified d.constant true (shape.Int d.int))))) ≡ true
    pointer-stands =
        ap is_some (kind-at p (plain (shape.Pointer (qualified d.constant true (shape.Int d.int)))) (shape.Pointer (qualified d.constant true (shape.Int d.int))) pointer-level
        ∙ ap (λ (k : Option Kind). qualified_kind false (shape_kind p.target (extent_in p.structures p.target) (shape.Pointer k))) (kind-at p (qualified d.constant true (shape.Int d.int)) (shape.Int d.int) target-level))

    address-tree : (type : TypeName) (j k : ℕ) → ShowsTypeName p.structures pointer type →
        tree_of p.target p.roles (tree.Cast type (record { at = k; node = tree.Number d.number (plain_suffix d.number) })) j s ≡ Ok (IsAddress (pos d.number) (unqualified (numbered pointer)) j, s)
    address-tree type j k named =
        let x : At Tree = record { at = k; node = tree.Number d.number (plain_suffix d.number) } in
        let t = number_type p.target d.number (plain_suffix d.number) in
        cast-by p n s type x j (numbered pointer) (integer (pos d.number) t) (IsAddress (pos d.number) (unqualified (numbered pointer)) j) (type-name-found p n.structure p.roles sized s names.structures pointer type named pointer-stands true)
        (ap (λ (m : Found TypedExpr). and_then m (valued k)) (number-tree p.target p.roles s d.number (plain_suffix d.number) k))
        (constant-pointer p.target j (numbered pointer) (numbered target_type) (pos d.number) t (integer (pos d.number) t) (level-at n.structure pointer (shape.Pointer target_type) pointer-level)
        (void-numbered n.structure target_type ∙ ap is_void_shape target-level) refl (constancy-of p.target (pos d.number) t))

    device-is : d.name ≡ None → device_of (pos d.number) d.constant d.int ≡ d
    device-is h = ap (λ (x : Option (List ℕ)). record { name = x; number = d.number; int = d.int; constant = d.constant }) (sym h)

    starred : (at : ℕ) → fits_pointer p.target (pos d.number) ≡ true → d.name ≡ None →
        address_found p.target at (pos d.number) (unqualified (numbered pointer)) s (out-Shape (numbered pointer).shape) ≡ Ok (with_device d s (number_of d s.names))
    starred at fits h =
        ap (address_found p.target at (pos d.number) (unqualified (numbered pointer)) s) (level-at n.structure pointer (shape.Pointer target_type) pointer-level)
        ∙ ap (register_found p.target at (pos d.number) (unqualified (numbered pointer)) s (numbered target_type)) (level-at n.structure target_type (shape.Int d.int) target-level)
        ∙ ap (λ (b : Bool). if b then device_found p.target at (pos d.number) (device_of (pos d.number) (numbered target_type).constant d.int) s else whole at s (no_device (pos d.number) (unqualified (numbered pointer)))) (volatile-kept n.structure target_type)
        ∙ ap (λ (b : Bool). if b then Ok (with_device (device_of (pos d.number) (numbered target_type).constant d.int) s (number_of (device_of (pos d.number) (numbered target_type).constant d.int) s.names)) else whole at s (Err rule.Device)) fits
        ∙ ap (λ (c : Bool). Ok (with_device (device_of (pos d.number) c d.int) s (number_of (device_of (pos d.number) c d.int) s.names))) (constant-kept n.structure target_type)
        ∙ ap (λ (e : Device). Ok (with_device e s (number_of e s.names))) (device-is h)

  device-fits : (i : ℕ) (d : Device) → slice_get p.devices i ≡ Some d → d.name ≡ None → fits_pointer p.target (pos d.number) ≡ true
  device-fits i d there h =
      sym (ap (λ (x : Option (List ℕ)). if is_none x then nat_lt d.number (2 ^ (8 * p.target.pointer_bytes)) else nat_eq d.number 0) h) ∙ tested-at (is_device p.target) p.devices i d sound.devices there

  -- the device is known, or declared there
  accessed-by : (a : Place) (i : ℕ) (d : Device) (u : State) → out-Place a ≡ one.Device i → slice_get p.devices i ≡ Some d → d.name ≡ None → Accesses p n s a u → with_device d s (number_of d s.names) ≡ (device_place (n.device i) d, u)
  accessed-by a i d _ e there h (NoneNumbered k) = let g : false ≡ true = sym (ap is_some h) ∙ k i d e there in absurd (cc)
  accessed-by a i d _ e there h (Known j c o same none known) =
      let q = one-device a i j d c e there o same in
      ap (with_device d s) (ap (λ (d : Device). number_of d s.names) q.1 ∙ known ∙ ap (λ (k : ℕ). Some (n.device k)) (sym q.0))
  accessed-by a i d _ e there h (First j c o same none unknown next) =
      let q = one-device a i j d c e there o same in
      ap (with_device d s) (ap (λ (d : Device). number_of d s.names) q.1 ∙ unknown)
      ∙ ap (λ (k : ℕ). (device_place k d, with_declared (declared_device d) s)) (sym next ∙ ap n.device (sym q.0))
      ∙ ap (λ (c : Device). (device_place (n.device i) d, with_declared (declared_device c) s)) q.1

  numbered-found : (a : Place) (i : ℕ) (d : Device) (type : TypeName) (j k at : ℕ) (t : PlaceType) (u : State) → out-Place a ≡ one.Device i → slice_get p.devices i ≡ Some d → d.name ≡ None →
      ShowsTypeName p.structures (plain (shape.Pointer (qualified d.constant true (shape.Int d.int)))) type → HasPlace p f a t → Accesses p n s a u →
      IsFoundTo u (tree.Prefix m.Star (record { at = j; node = tree.Cast type (record { at = k; node = tree.Number d.number (plain_suffix d.number) }) })) at a t
  numbered-found a i d type j k at t u e there none named h acc =
      let x : At Tree = record { at = j; node = tree.Cast type (record { at = k; node = tree.Number d.number (plain_suffix d.number) }) } in
      tree-at p n s (tree.Prefix m.Star x) (trees.Prefix m.Star x) (tree_rolls.outs-Prefix m.Star x) at
      ∙ ap (λ (r : Found TypedExpr). and_then r (prefixed p.target m.Star at j)) (address-tree d type j k named)
      ∙ starred d at (device-fits i d there none) none
      ∙ ap (λ (r : TypedExpr × State). Ok r) (accessed-by a i d u e there none acc)
      ∙ ap (λ (b : Place). Ok (IsPlace b (DevicePlace d.constant d.int), u)) (sym (place-numbered-at n a (one.Device i) e))
      ∙ ap (λ (b : PlaceType). Ok (IsPlace (place_numbered n a) (place b), u)) (device-typed a i d t e there h)

  pub place-accessed : (a : Place) (x : Tree) → ShowsPlace p f a x → (at : ℕ) (t : PlaceType) → HasPlace p f a t → (u : State) → Accesses p n s a u → IsFoundTo u x at a t
  place-accessed _ _ (PlaceInParens a x h) at t k u acc = paren-tree p.target p.roles s x at ∙ place-accessed a x.node h x.at t k u acc
  place-accessed _ _ (ShowsDevice a i d x o there named) at t k u acc = named-found a i d x at t u o there named k acc
  place-accessed _ _ (ShowsNumbered a i d type j l o there none named) at t k u acc = numbered-found a i d type j l at t u o there none named k acc
  place-accessed _ _ (ShowsLocal a r l o there) at t k u acc = other-found a (tree.Named l.0) (ShowsLocal a r l o there) (one.Local r) o refl at t k u acc
  place-accessed _ _ (ShowsStatic a i b o there) at t k u acc = other-found a (tree.Named b.name) (ShowsStatic a i b o there) (one.Static i) o refl at t k u acc
  place-accessed _ _ (ShowsElement a b e x y o h g) at t k u acc = other-found a (tree.Subscript x y) (ShowsElement a b e x y o h g) (one.Element b e) o refl at t k u acc
  place-accessed _ _ (ShowsMember a b i name x o named h) at t k u acc = other-found a (tree.Member x name) (ShowsMember a b i name x o named h) (one.Member b i) o refl at t k u acc
  place-accessed _ _ (ShowsPointed a e x o h) at t k u acc = other-found a (tree.Prefix m.Star x) (ShowsPointed a e x o h) (one.Deref e) o refl at t k u acc

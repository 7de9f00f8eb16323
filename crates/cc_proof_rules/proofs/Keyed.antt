-- Each scalar of a static object, and of a local that is no register, has a key of the program (C99 6.2.5, 20 and 21).
use Rattle.std.proofs.Common.{arith, ◌≡◌, ◌+◌, ℕ, Bool, true, false, not, ◌&&◌, ◌||◌, List, [], ◌∷◌, ◌++◌, Option, Some, None, refl, ap, sym, ◌∙◌, subst, slice_get}
use Rattle.std.specs.Prelude.{option_map, if◌then◌else◌}
use Rattle.std.proofs.lemmas.Option.{none-some}
use Rattle.cc_state_values_sound.specs.CcEval.Context.{local_type}
use Rattle.cc_program.specs.declared.func.Func.{Func}
use Rattle.cc_program.specs.declared.object.Object.{Object}
use Rattle.cc_program.specs.declared.program.Program.{Program}
use Rattle.cc_program.specs.declared.types.CType.{CType, fold-CType, fold_out-CType}
use Rattle.cc_program.specs.declared.types.Shape.{Shape, fold-Shape, fold_out-Shape, out-Shape, map-Shape}
use Rattle.cc_program.specs.declared.types.Shape.TheOpen as shape
use Rattle.cc_program.specs.declared.types.Sig.{Sig, fold-Sig}
use Rattle.cc_program.specs.declared.types.Structure.{Structure}
use Rattle.cc_program.specs.declared.value.Part.{Part}
use Rattle.cc_program.specs.declared.value.Part.TheVariants as part
use Rattle.cc_program.specs.declared.value.Root.TheVariants as root
use Rattle.cc_program.specs.Qualifiers.{is_const, is_volatile}
use Rattle.cc_proof_rules.proofs.Numbered.{key_numbered}
use Rattle.cc_proof_rules.proofs.Positions.{IsIn, in_left, in_right, made_there, listed_there}
use Rattle.cc_rules.specs.CcStateFacts.declared.facts.Key.{Key}
use Rattle.cc_rules.specs.CcStateFacts.declared.facts.Key.TheVariants as key
use Rattle.cc_rules.specs.CcStateKeys.Keys.{scalars_step, are_scalars, has_object_key, has_local_key, has_member_key, local_keys, member_keys, keys_of, key_number, structure_shape, key_of_member, key_along, cell_key}
use Rattle.cc_rules.specs.CcStateKeys.Lists.{made_from, all_from}
use Rattle.cc_rules.specs.CcStateKeys.Paths.{LeadsTo}
use Rattle.cc_state_values_sound.specs.CcSyntax.Expressions.{of_one}
use Rattle.cc_state_values_sound.specs.CcSyntax.Initial.{bound_shape, is_below, place_at}
use Rattle.cc_state_values_sound.specs.CcSyntax.Registers.{is_register}
use Rattle.cc_state_values_sound.specs.CcSyntax.Types.{Named}
use Rattle.cc_state_values_sound.specs.CcSyntax.Values.{ValueType, PlaceType, ObjectPlace, object_place, scalar_shape, scalar_value, read_from, element_shape, member_at, member_in, member_shape}

-- ---- types of scalars

abbrev shape_scalars : Shape → Bool
shape_scalars s = fold-Shape Bool Bool (Unit {0}) scalars_step (λ t. t.shape) (λ s. tt) s

abbrev type_scalars : CType → Bool
type_scalars t = fold-CType Bool Bool (Unit {0}) scalars_step (λ t. t.shape) (λ s. tt) t

abbrev sig_scalars : Sig → Unit {0}
sig_scalars s = fold-Sig Bool Bool (Unit {0}) scalars_step (λ t. t.shape) (λ s. tt) s

abbrev parts_scalars : shape.Shape-F Shape CType Sig → Bool
parts_scalars x = scalars_step (map-Shape Shape CType Sig Bool Bool (Unit {0}) shape_scalars type_scalars sig_scalars x)

scalars_open : (t : CType) → are_scalars t ≡ parts_scalars (out-Shape t.shape)
unfolding are_scalars
scalars_open t = fold_out-CType Bool Bool (Unit {0}) scalars_step (λ t. t.shape) (λ s. tt) t ∙ fold_out-Shape Bool Bool (Unit {0}) scalars_step (λ t. t.shape) (λ s. tt) t.shape

scalar_of_shape : (x : shape.Shape-F Shape CType Sig) (w : ValueType) → scalar_shape x ≡ Some w → parts_scalars x ≡ true
scalar_of_shape (shape.Int t) w e = refl
scalar_of_shape (shape.Pointer to) w e = refl
scalar_of_shape shape.Void w e = absurd (none-some w e)
scalar_of_shape (shape.Array of n) w e = absurd (none-some w e)
scalar_of_shape (shape.Struct s) w e = absurd (none-some w e)
scalar_of_shape (shape.Func sig) w e = absurd (none-some w e)

pub scalar_scalars : (t : CType) (w : ValueType) → scalar_value t ≡ Some w → are_scalars t ≡ true
scalar_scalars t w e = scalars_open t ∙ scalar_of_shape (out-Shape t.shape) w e

array_scalars : (t of : CType) (n : ℕ) → out-Shape t.shape ≡ shape.Array of n → are_scalars of ≡ true → are_scalars t ≡ true
unfolding are_scalars
array_scalars t of n e h = scalars_open t ∙ ap parts_scalars e ∙ h

-- ---- the keys of a program

module _ (p : Program) where
  abbrev Listed : Key → Type 0
  Listed k = IsIn (keys_of p) k

  itself : (n : ℕ) → n ≡ 0 + n
  itself n = omega arith

  both : (a b : Bool) → a ≡ true → b ≡ true → (a && b) ≡ true
  both true b h k = k
  both false b h k = h

  pub object_listed : (i : ℕ) (o : Object) → slice_get p.objects i ≡ Some o → are_scalars o.ctype ≡ true → Listed (key.Object i)
  object_listed i o e h =
      in_left (made_from has_object_key key.Object 0 p.objects) (all_from local_keys 0 p.funcs ++ all_from member_keys 0 p.structures) (key.Object i)
      (made_there has_object_key key.Object 0 p.objects i o i e (itself i) h)

  pub local_listed : (g r : ℕ) (f : Func) (l : Named) → slice_get p.funcs g ≡ Some f → slice_get f.locals r ≡ Some l → is_register f r ≡ false → are_scalars l.1 ≡ true → Listed (key.Local g r)
  local_listed g r f l e k other h =
      in_right (made_from has_object_key key.Object 0 p.objects) (all_from local_keys 0 p.funcs ++ all_from member_keys 0 p.structures) (key.Local g r)
      (in_left (all_from local_keys 0 p.funcs) (all_from member_keys 0 p.structures) (key.Local g r)
      (listed_there local_keys 0 p.funcs g f g (key.Local g r) e (itself g)
      (made_there (has_local_key f) (key.Local g) 0 f.locals r l r k (itself r) (both (are_scalars l.1) (not (is_register f r)) h (ap not other)))))

  pub member_listed : (s m : ℕ) (structure : Structure) (n : Named) → slice_get p.structures s ≡ Some structure → slice_get structure.members m ≡ Some n → are_scalars n.1 ≡ true → Listed (key.Member s m)
  member_listed s m structure n e k h =
      in_right (made_from has_object_key key.Object 0 p.objects) (all_from local_keys 0 p.funcs ++ all_from member_keys 0 p.structures) (key.Member s m)
      (in_right (all_from local_keys 0 p.funcs) (all_from member_keys 0 p.structures) (key.Member s m)
      (listed_there member_keys 0 p.structures s structure s (key.Member s m) e (itself s) (made_there has_member_key (key.Member s) 0 structure.members m n m k (itself m) h)))

  -- ---- along a path to a scalar

  abbrev ends_in : List Part → Option PlaceType → Option ValueType
  ends_in path a = of_one (of_one a (place_at p.structures path)) read_from

  -- from an object of a type, where the key so far is one of the program if the type is of scalars
  abbrev Along : List Part → Type 0
  Along path = (constant volatile : Bool) (t : CType) (before : Key) → (are_scalars t ≡ true → Listed before) → (w : ValueType) → ends_in path (Some (ObjectPlace constant volatile t)) ≡ Some w →
      Listed (key_along p.structures path (Some (ObjectPlace constant volatile t)) before)

  module _ (path : List Part) (rest : Along path) (constant volatile : Bool) (t : CType) (before : Key) (h : are_scalars t ≡ true → Listed before) (w : ValueType) where
    -- an element
    element_listed : (x : shape.Shape-F Shape CType Sig) → out-Shape t.shape ≡ x → ends_in path (element_shape constant volatile x) ≡ Some w → Listed (key_along p.structures path (element_shape constant volatile x) before)
    element_listed (shape.Array of n) i e = rest constant volatile of before (λ s. h (array_scalars t of n i s)) w e
    element_listed shape.Void i e = absurd (none-some w e)
    element_listed (shape.Int u) i e = absurd (none-some w e)
    element_listed (shape.Pointer to) i e = absurd (none-some w e)
    element_listed (shape.Struct s) i e = absurd (none-some w e)
    element_listed (shape.Func sig) i e = absurd (none-some w e)

    within_listed : (b : Bool) (a : Option PlaceType) → (ends_in path a ≡ Some w → Listed (key_along p.structures path a before)) → ends_in path (if b then a else None) ≡ Some w → Listed (key_along p.structures path (if b then a else None) before)
    within_listed true a k e = k e
    within_listed false a k e = absurd (none-some w e)

    index_listed : (i : ℕ) → ends_in (part.Index i ∷ path) (Some (ObjectPlace constant volatile t)) ≡ Some w → Listed (key_along p.structures (part.Index i ∷ path) (Some (ObjectPlace constant volatile t)) before)
    index_listed i e = within_listed (is_below i (bound_shape (out-Shape t.shape))) (element_shape constant volatile (out-Shape t.shape)) (element_listed (out-Shape t.shape) refl) e

    -- a member
    member_by : (s m : ℕ) (structure : Structure) → slice_get p.structures s ≡ Some structure → (n : Option Named) → slice_get structure.members m ≡ n → ends_in path (member_at constant volatile n) ≡ Some w →
        Listed (key_along p.structures path (member_at constant volatile n) (key.Member s m))
    member_by s m structure i None j e = absurd (none-some w e)
    member_by s m structure i (Some n) j e = rest (constant || is_const n.1) (volatile || is_volatile n.1) n.1 (key.Member s m) (member_listed s m structure n i j) w e

    structure_by : (s m : ℕ) (structure : Option Structure) → slice_get p.structures s ≡ structure → ends_in path (member_in constant volatile m structure) ≡ Some w →
        Listed (key_along p.structures path (member_in constant volatile m structure) (key.Member s m))
    structure_by s m None i e = absurd (none-some w e)
    structure_by s m (Some structure) i e = member_by s m structure i (slice_get structure.members m) refl e

    member_of_shape : (m : ℕ) (x : shape.Shape-F Shape CType Sig) → ends_in path (member_shape p.structures constant volatile m x) ≡ Some w →
        Listed (key_along p.structures path (member_shape p.structures constant volatile m x) (key_of_member (structure_shape x) m before))
    member_of_shape m (shape.Struct s) e = structure_by s m (slice_get p.structures s) refl e
    member_of_shape m shape.Void e = absurd (none-some w e)
    member_of_shape m (shape.Int u) e = absurd (none-some w e)
    member_of_shape m (shape.Pointer to) e = absurd (none-some w e)
    member_of_shape m (shape.Array of n) e = absurd (none-some w e)
    member_of_shape m (shape.Func sig) e = absurd (none-some w e)

  along : (path : List Part) → Along path
  along [] constant volatile t before h w e = h (scalar_scalars t w e)
  along (part.Index i ∷ path) constant volatile t before h w e = index_listed path (along path) constant volatile t before h w i e
  along (part.Member m ∷ path) constant volatile t before h w e = member_of_shape path (along path) constant volatile t before h w m (out-Shape t.shape) e

  -- ---- of objects and locals

  static_by : (i : ℕ) (path : List Part) (o : Option Object) → slice_get p.objects i ≡ o → (w : ValueType) → ends_in path (option_map (λ (o : Object). object_place o.ctype) o) ≡ Some w →
      Listed (key_along p.structures path (option_map (λ (o : Object). object_place o.ctype) o) (key.Object i))
  static_by i path None e w h = absurd (none-some w h)
  static_by i path (Some o) e w h = along path (is_const o.ctype) (is_volatile o.ctype) o.ctype (key.Object i) (object_listed i o e) w h

  pub static_listed : (i : ℕ) (path : List Part) (k : ℕ) → LeadsTo p (root.Static i) path k → Listed (cell_key p (root.Static i) path)
  static_listed i path k leads = static_by i path (slice_get p.objects i) refl leads.0 leads.1

  pub static_numbered : (i : ℕ) (path : List Part) (k : ℕ) → LeadsTo p (root.Static i) path k → (n : ℕ) × (key_number p (cell_key p (root.Static i) path) ≡ Some n)
  static_numbered i path k leads = key_numbered p (cell_key p (root.Static i) path) (static_listed i path k leads)

  local_by : (g r : ℕ) (path : List Part) (f : Func) → slice_get p.funcs g ≡ Some f → is_register f r ≡ false → (l : Option Named) → slice_get f.locals r ≡ l → (w : ValueType) →
      ends_in path (option_map (λ (l : Named). object_place l.1) l) ≡ Some w → Listed (key_along p.structures path (option_map (λ (l : Named). object_place l.1) l) (key.Local g r))
  local_by g r path f i other None e w h = absurd (none-some w h)
  local_by g r path f i other (Some l) e w h = along path (is_const l.1) (is_volatile l.1) l.1 (key.Local g r) (local_listed g r f l i e other) w h

  pub local_key_listed : (number g r : ℕ) (path : List Part) (k : ℕ) (f : Func) → slice_get p.funcs g ≡ Some f → is_register f r ≡ false → LeadsTo p (root.Auto number g r) path k → Listed (cell_key p (root.Auto number g r) path)
  local_key_listed number g r path k f e other leads =
      subst (λ (a : Option PlaceType). Listed (key_along p.structures path a (key.Local g r))) (sym (ap (local_type r) e))
      (local_by g r path f e other (slice_get f.locals r) refl leads.0 (ap (ends_in path) (sym (ap (local_type r) e)) ∙ leads.1))

  pub local_key_numbered : (number g r : ℕ) (path : List Part) (k : ℕ) (f : Func) → slice_get p.funcs g ≡ Some f → is_register f r ≡ false → LeadsTo p (root.Auto number g r) path k →
      (n : ℕ) × (key_number p (cell_key p (root.Auto number g r) path) ≡ Some n)
  local_key_numbered number g r path k f e other leads = key_numbered p (cell_key p (root.Auto number g r) path) (local_key_listed number g r path k f e other leads)

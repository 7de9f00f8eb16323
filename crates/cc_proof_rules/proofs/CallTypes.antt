-- The types of calls (C99 6.5.2.2, 6.9.1): what is called is a function of the type that the expression points to, whose parameters are
-- scalars of the arguments' types.
use Rattle.std.proofs.Common.{◌≡◌, ℕ, zero, suc, Bool, true, false, true≢false, not, List, [], ◌∷◌, map, Contains, Option, Some, None, slice_get, refl, sym, ap, subst, ◌∙◌}
use Rattle.std.specs.Prelude.{option_map, option_and_then, if◌then◌else◌}
use Rattle.std.proofs.lemmas.List.Elements.{All-contains}
use Rattle.std.proofs.lemmas.Option.{same_Some, none-some}
use Rattle.cc_state_values_sound.specs.CcEval.Context.{local_type}
use Rattle.cc_state_values_sound.specs.CcPlaces.declared.abs.Abs.{Abs}
use Rattle.cc_state_values_sound.specs.CcPlaces.declared.abs.Abs.TheVariants as abs
use Rattle.cc_state_values_sound.specs.CcPlaces.declared.addrs.Addrs.{Addrs}
use Rattle.cc_state_values_sound.specs.CcPlaces.Abstract.{HasValue}
use Rattle.cc_state_values_sound.specs.CcPlaces.Kept.{member_for}
use Rattle.cc_state_values_sound.specs.CcPlaces.Sets.{HasAddress}
use Rattle.cc_program.specs.declared.expr.Expr.{Expr, out-Expr, map-Expr, fold_out-Expr}
use Rattle.cc_program.specs.declared.expr.Expr.TheOpen as one
use Rattle.cc_program.specs.declared.expr.Place.{Place as PlaceOf, out-Place, map-Place, fold_out-Place}
use Rattle.cc_program.specs.declared.func.Func.{Func}
use Rattle.cc_program.specs.declared.program.Program.{Program}
use Rattle.cc_program.specs.declared.types.CType.{CType}
use Rattle.cc_program.specs.declared.types.Shape.{Shape, out-Shape}
use Rattle.cc_program.specs.declared.types.Shape.TheOpen as shape
use Rattle.cc_program.specs.declared.types.Sig.{Sig, out-Sig}
use Rattle.cc_program.specs.declared.types.Structure.{Structure}
use Rattle.cc_program.specs.declared.value.Address.TheVariants as address
use Rattle.cc_program.specs.declared.value.Part.{Part}
use Rattle.cc_program.specs.declared.value.Part.TheVariants as part
use Rattle.cc_program.specs.declared.value.Root.TheVariants as root
use Rattle.cc_program.specs.declared.value.Value.TheVariants.{Place}
use Rattle.cc_program.specs.Qualifiers.{is_const, is_volatile}
use Rattle.cc_proof_rules.proofs.Lists.{contains_at}
use Rattle.cc_proof_rules.proofs.Numbered.{register_at, register_below}
use Rattle.cc_state.specs.Shape.{IsSetIn, IsPointFact}
use Rattle.cc_rules.specs.CcStateFacts.declared.facts.Facts.{Facts}
use Rattle.cc_rules.specs.CcStateFacts.declared.facts.Key.{Key}
use Rattle.cc_rules.specs.CcStateFacts.declared.facts.Key.TheVariants as key
use Rattle.cc_rules.specs.CcStateFacts.declared.facts.PointFact.{PointFact}
use Rattle.cc_rules.specs.CcStateFacts.Facts.{fact_at, local_at, local_of}
use Rattle.cc_rules.specs.CcStateKeys.Keys.{key_along, cell_key}
use Rattle.cc_rules.specs.CcStateKeys.Paths.{LeadsTo}
use Rattle.cc_rules.specs.CcStateKeys.Tracked.{register_number}
use Rattle.cc_state_values_sound.specs.CcStateOperators.Addresses.{IsOnly}
use Rattle.cc_state_values_sound.specs.CcStateOperators.Domains.{Domain}
use Rattle.cc_rules.specs.CcStateReads.Reads.{registers_at}
use Rattle.cc_state_values_sound.specs.CcStateValues.Values.{IsVal, OfConst, OfNull, OfFunction, OfRegister, OfAddress, OfUn, OfBin, OfConv, OfQualify, OfMove, OfGap, OfCompare, OfBoth, OfEither, OfChoose}
use Rattle.cc_state_values_sound.proofs.CcSyntax.Prefixes.{both_true}
use Rattle.cc_state_values_sound.proofs.CcSyntax.SameLemmas.{sig_compared, shape_of_same}
use Rattle.cc_state_values_sound.specs.CcSyntax.Effects.{PlaceEffects, Effects, effect_step, place_effect_step, effects_of, place_effects_of}
use Rattle.cc_state_values_sound.specs.CcSyntax.Expressions.{of_one, of_two, expr_step, place_step, type_of, place_type}
use Rattle.cc_state_values_sound.specs.CcSyntax.Forms.{form_at, form_of}
use Rattle.cc_state_values_sound.specs.CcSyntax.Initial.{bound_shape, is_below, place_at}
use Rattle.cc_state_values_sound.specs.CcSyntax.Names.{are_names}
use Rattle.cc_state_values_sound.specs.CcSyntax.Normal.{IsNormal, is_callee}
use Rattle.cc_state_values_sound.specs.CcSyntax.Operators.{is_handler, function_type, assignment_type, call_type, when}
use Rattle.cc_state_values_sound.specs.CcSyntax.Pairs.{all_pairs}
use Rattle.cc_state_values_sound.specs.CcSyntax.Registers.{is_register}
use Rattle.cc_state_values_sound.specs.CcSyntax.SameTypes.{is_void_shape, same_shape}
use Rattle.cc_state_values_sound.specs.CcSyntax.Sound.{IsFuncBy, are_parameters}
use Rattle.cc_state_values_sound.specs.CcSyntax.Types.{Named}
use Rattle.cc_state_values_sound.specs.CcSyntax.Values.{ValueType, NoValue, Integer, ToObject, ToFunction, PlaceType, object_place, result_value, scalar_shape, scalar_value, read_from, written_to, element_shape, member_shape, is_void, is_assignable, is_assignable_some, are_assignable}
use Rattle.cc_state_values_sound.specs.CcSyntax.Views.{View, of_program}

-- ---- lists of two that fit

pairs_at : {A B : Type 0} (fits : A → B → Bool) (xs : List A) (ys : List B) → all_pairs fits xs ys ≡ true → (i : ℕ) (y : B) → slice_get ys i ≡ Some y → (x : A) × (slice_get xs i ≡ Some x) × (fits x y ≡ true)
pairs_at fits [] [] h i y e = absurd (none-some y e)
pairs_at fits [] (z ∷ ys) h i y e = absurd (true≢false (sym h))
pairs_at fits (x ∷ xs) [] h i y e = absurd (none-some y e)
pairs_at fits (x ∷ xs) (z ∷ ys) h zero y e = (x, refl, subst (λ w. fits x w ≡ true) (same_Some z y e) (both_true (fits x z) (all_pairs fits xs ys) h).0)
pairs_at fits (x ∷ xs) (z ∷ ys) h (suc i) y e = pairs_at fits xs ys (both_true (fits x z) (all_pairs fits xs ys) h).1 i y e

mapped_at : {A B : Type 0} (g : A → B) (xs : List A) (i : ℕ) (x : A) → slice_get xs i ≡ Some x → slice_get (map g xs) i ≡ Some (g x)
mapped_at g [] i x e = absurd (none-some x e)
mapped_at g (y ∷ xs) zero x e = ap Some (ap g (same_Some y x e))
mapped_at g (y ∷ xs) (suc i) x e = mapped_at g xs i x e

-- ---- types of expressions, opened at the top

module _ (p : Program) (f : Func) where
  abbrev its : View
  its = of_program p

  abbrev typed : Expr → Option ValueType
  typed e = type_of its f.locals e

  abbrev placed : PlaceOf → Option PlaceType
  placed a = place_type its f.locals a

  abbrev types_in : one.Expr-F Expr PlaceOf → one.Expr-F (Option ValueType) (Option PlaceType)
  types_in x = map-Expr Expr PlaceOf (Option ValueType) (Option PlaceType) typed placed x

  abbrev place_types_in : one.Place-F Expr PlaceOf → one.Place-F (Option ValueType) (Option PlaceType)
  place_types_in x = map-Place Expr PlaceOf (Option ValueType) (Option PlaceType) typed placed x

  type_at : (e : Expr) (x : one.Expr-F Expr PlaceOf) → out-Expr e ≡ x → typed e ≡ expr_step its f.locals (types_in x)
  unfolding type_of place_type
  type_at e x h = fold_out-Expr (Option ValueType) (Option PlaceType) (expr_step its f.locals) (place_step its f.locals) e ∙ ap (λ (z : one.Expr-F Expr PlaceOf). expr_step its f.locals (types_in z)) h

  place_at_top : (a : PlaceOf) (x : one.Place-F Expr PlaceOf) → out-Place a ≡ x → placed a ≡ place_step its f.locals (place_types_in x)
  unfolding type_of place_type
  place_at_top a x h = fold_out-Place (Option ValueType) (Option PlaceType) (expr_step its f.locals) (place_step its f.locals) a ∙ ap (λ (z : one.Place-F Expr PlaceOf). place_step its f.locals (place_types_in z)) h

  -- ---- calls

  pub record IsTypedCall (fe : Expr) (args : List Expr) (u : ValueType) : Type 0 where
    pub sig : Sig
    pub callee : typed fe ≡ Some (ToFunction sig)
    pub fits : are_assignable (out-Sig sig).params (map typed args) ≡ true
    pub result : result_value (out-Sig sig).result ≡ Some u

  call_by : (fe : Expr) (args : List Expr) (u : ValueType) (sig : Sig) → typed fe ≡ Some (ToFunction sig) → (b : Bool) → are_assignable (out-Sig sig).params (map typed args) ≡ b →
      (if b then result_value (out-Sig sig).result else None) ≡ Some u → IsTypedCall fe args u
  call_by fe args u sig e true k h = record { sig = sig; callee = e; fits = k; result = h }
  call_by fe args u sig e false k h = absurd (none-some u h)

  call_of_type : (fe : Expr) (args : List Expr) (u : ValueType) (o : Option ValueType) → typed fe ≡ o → of_one o (λ t. call_type t (map typed args)) ≡ Some u → IsTypedCall fe args u
  call_of_type fe args u None e h = absurd (none-some u h)
  call_of_type fe args u (Some NoValue) e h = absurd (none-some u h)
  call_of_type fe args u (Some (Integer t)) e h = absurd (none-some u h)
  call_of_type fe args u (Some (ToObject constant volatile t)) e h = absurd (none-some u h)
  call_of_type fe args u (Some (ToFunction sig)) e h = call_by fe args u sig e (are_assignable (out-Sig sig).params (map typed args)) refl h

  pub call_typed : (e fe : Expr) (args : List Expr) → out-Expr e ≡ one.Call fe args → (u : ValueType) → typed e ≡ Some u → IsTypedCall fe args u
  call_typed e fe args i u h = call_of_type fe args u (typed fe) refl (sym (type_at e (one.Call fe args) i) ∙ h)

  -- ---- assignments: what is assigned has a value

  no_void : (t : ValueType) → is_assignable t NoValue ≡ false
  no_void NoValue = refl
  no_void (Integer t) = refl
  no_void (ToObject constant volatile t) = refl
  no_void (ToFunction sig) = refl

  assigned_by : (to u : ValueType) (b : Bool) → is_assignable to u ≡ b → (t : ValueType) → when b to ≡ Some t → u ≡ NoValue → ⊥
  assigned_by to u true k t h void = true≢false (sym k ∙ ap (is_assignable to) void ∙ no_void to)
  assigned_by to u false k t h void = none-some t h

  assigned_types : (to : Option ValueType) (o : Option ValueType) (t : ValueType) → of_two to o assignment_type ≡ Some t → (u : ValueType) × (o ≡ Some u) × (u ≡ NoValue → ⊥)
  assigned_types None o t h = absurd (none-some t h)
  assigned_types (Some to) None t h = absurd (none-some t h)
  assigned_types (Some to) (Some u) t h = (u, refl, assigned_by to u (is_assignable to u) refl t h)

  pub assigned_typed : (e x : Expr) (a : PlaceOf) → out-Expr e ≡ one.Assign a x → (t : ValueType) → typed e ≡ Some t → (u : ValueType) × (typed x ≡ Some u) × (u ≡ NoValue → ⊥)
  assigned_typed e x a i t h = assigned_types (of_one (placed a) written_to) (typed x) t (sym (type_at e (one.Assign a x) i) ∙ h)

  -- ---- what is called

  register_of : (a : PlaceOf) (x : one.Place-F Expr PlaceOf) (r : ℕ) → out-Place a ≡ x → (place_effects_of f a).register ≡ Some r → x ≡ one.Local r
  unfolding effects_of place_effects_of
  register_of a x r i h = by x (sym (ap (λ (z : PlaceEffects). z.register) (fold_out-Place Effects PlaceEffects effect_step (place_effect_step f) a ∙ ap effects_in i)) ∙ h)
    where
      effects_in : one.Place-F Expr PlaceOf → PlaceEffects
      effects_in z = place_effect_step f (map-Place Expr PlaceOf Effects PlaceEffects (effects_of f) (place_effects_of f) z)

      local_of : ℕ → one.Place-F Expr PlaceOf
      local_of q = one.Local q

      local_by : (b : Bool) (q : ℕ) → (if b then Some q else None) ≡ Some r → local_of q ≡ local_of r
      local_by true q k = ap local_of (same_Some q r k)
      local_by false q k = absurd (none-some r k)

      by : (z : one.Place-F Expr PlaceOf) → (effects_in z).register ≡ Some r → z ≡ one.Local r
      by (one.Local q) k = local_by (is_register f q) q k
      by (one.Static j) k = absurd (none-some r k)
      by (one.Device n) k = absurd (none-some r k)
      by (one.Element b j) k = absurd (none-some r k)
      by (one.Member b m) k = absurd (none-some r k)
      by (one.Deref b) k = absurd (none-some r k)

-- a function of a type
pub function_of_type : (p : Program) (g : ℕ) (function : Func) (sig : Sig) → slice_get p.funcs g ≡ Some function → is_assignable_some (Some (ToFunction sig)) (function_type (slice_get p.funcs g)) ≡ true → function.sig ≡ sig
function_of_type p g function sig e h = by (not (is_handler function)) (sym (ap (λ (o : Option Func). is_assignable_some (Some (ToFunction sig)) (function_type o)) e) ∙ h)
  where
    by : (b : Bool) → is_assignable_some (Some (ToFunction sig)) (when b (ToFunction function.sig)) ≡ true → function.sig ≡ sig
    by true k = sym ((sig_compared sig).same function.sig k)
    by false k = absurd (true≢false (sym k))

-- ---- what may be called is of the type

module _ {I : Type 0} (d : Domain I) (p : Program) (id : ℕ) (f : Func) (register : ℕ → Option (Abs I)) where
  abbrev CalleeAt : one.Expr-F Expr PlaceOf → Abs I → Type 0
  CalleeAt (one.FuncAddr g) y = (s : Addrs) × IsOnly (address.Func g) s × (y ≡ abs.Addrs s)
  CalleeAt (one.Load a) y = (r : ℕ) × ((place_effects_of f a).register ≡ Some r) × (register r ≡ Some y)
  CalleeAt _ y = Unit {0}

  callee_form : (e : Expr) (y : Abs I) → IsVal d p id f register e y → CalleeAt (out-Expr e) y
  callee_form e y (OfConst n t x h k l) = subst (λ z. CalleeAt z y) (sym h) tt
  callee_form e y (OfNull t s h k l) = subst (λ z. CalleeAt z y) (sym h) tt
  callee_form e y (OfFunction g s h k l) = subst (λ z. CalleeAt z y) (sym h) (s, k, l)
  callee_form e y (OfRegister a r h k l) = subst (λ z. CalleeAt z y) (sym h) (r, k, l)
  callee_form e y (OfAddress a s h k l) = subst (λ z. CalleeAt z y) (sym h) tt
  callee_form e y (OfUn q t a x z h k w g l) = subst (λ z. CalleeAt z y) (sym h) tt
  callee_form e y (OfBin q t a b x w z h k m v g l) = subst (λ z. CalleeAt z y) (sym h) tt
  callee_form e y (OfConv t a x z h k g l) = subst (λ z. CalleeAt z y) (sym h) tt
  callee_form e y (OfQualify t a h k) = subst (λ z. CalleeAt z y) (sym h) tt
  callee_form e y (OfMove a b back s r x h k m g l) = subst (λ z. CalleeAt z y) (sym h) tt
  callee_form e y (OfGap a b s t x h k m g l) = subst (λ z. CalleeAt z y) (sym h) tt
  callee_form e y (OfCompare q a b s t x h k m g l) = subst (λ z. CalleeAt z y) (sym h) tt
  callee_form e y (OfBoth a b x w z h k m g l) = subst (λ z. CalleeAt z y) (sym h) tt
  callee_form e y (OfEither a b x w z h k m g l) = subst (λ z. CalleeAt z y) (sym h) tt
  callee_form e y (OfChoose c a b x u w h k m n g) = subst (λ z. CalleeAt z y) (sym h) tt

function_kept : (exact : Bool) (g : ℕ) → member_for exact (address.Func g) ≡ address.Func g
function_kept true g = refl
function_kept false g = refl

one_function_in : (s : Addrs) (g h : ℕ) → IsOnly (address.Func g) s → HasAddress s (address.Func h) → g ≡ h
one_function_in s g h only has =
    let b = (only.has (address.Func h)).0 has in
    let same : address.Func g ≡ address.Func h =
    sym (function_kept s.is_exact g) ∙ ap (member_for s.is_exact) (sym b.1) ∙ b.2 ∙ function_kept s.is_exact h in
    cc

module _ {I : Type 0} (d : Domain I) (p : Program) (facts : Facts I) (n id : ℕ) (f : Func) (fact : PointFact I) (there : fact_at facts n ≡ Some fact) (shape : IsPointFact d p f fact) where
  abbrev sets : ℕ → Option (Abs I)
  sets = registers_at facts f n

  -- of a register: the sets are of its type
  register_set : (r : ℕ) (y : Abs I) → sets r ≡ Some y → (l : Named) × (t : ValueType) × (slice_get f.locals r ≡ Some l) × (scalar_value l.1 ≡ Some t) × IsSetIn p d t y
  register_set r y h = by (register_number f r) refl h
    where
      by : (o : Option ℕ) → register_number f r ≡ o → option_and_then (local_at facts n) o ≡ Some y → (l : Named) × (t : ValueType) × (slice_get f.locals r ≡ Some l) × (scalar_value l.1 ≡ Some t) × IsSetIn p d t y
      by None e k = absurd (none-some y k)
      by (Some number) e k =
          let (t, z, (of_type, has, in_set)) = shape.locals.there number (register_below f r number e) in
          let (q, l, is, local, typed) = of_type in
          let same : z ≡ y = same_Some z y (sym has ∙ ap (λ (o : Option (PointFact I)). option_and_then (λ (x : PointFact I). local_of x number) o) (sym there) ∙ k) in
          let own : q ≡ r = same_Some q r (sym is ∙ register_at f r number e) in
          (l, t, subst (λ (m : ℕ). slice_get f.locals m ≡ Some l) own local, typed, subst (IsSetIn p d t) same in_set)

  pub callee_typed : (fe : Expr) (sig : Sig) → is_callee p.target f (form_of fe) ≡ true → type_of (of_program p) f.locals fe ≡ Some (ToFunction sig) → (y : Abs I) → IsVal d p id f sets fe y → (g : ℕ) → HasValue d.has y (Place (address.Func g)) →
      is_assignable_some (Some (ToFunction sig)) (function_type (slice_get p.funcs g)) ≡ true
  callee_typed fe sig callee typed y val g has = by (out-Expr fe) refl callee (callee_form d p id f sets fe y val)
    where
      in_addresses : (s : Addrs) → y ≡ abs.Addrs s → HasAddress s (address.Func g)
      in_addresses s e = subst (λ (z : Abs I). HasValue d.has z (Place (address.Func g))) e has

      itself : (o : Option ValueType) → o ≡ Some (ToFunction sig) → is_assignable_some (Some (ToFunction sig)) o ≡ true
      itself o e = ap (is_assignable_some (Some (ToFunction sig))) e ∙ (sig_compared sig).itself

      in_set : (z : Abs I) → IsSetIn p d (ToFunction sig) z → HasValue d.has z (Place (address.Func g)) → is_assignable_some (Some (ToFunction sig)) (function_type (slice_get p.funcs g)) ≡ true
      in_set (abs.Ints x) h k = absurd k
      in_set (abs.Addrs s) h k = h (address.Func g) (subst (Contains s.members) (function_kept s.is_exact g) k)

      by_register : (a : PlaceOf) (r : ℕ) → out-Expr fe ≡ one.Load a → (place_effects_of f a).register ≡ Some r → sets r ≡ Some y → is_assignable_some (Some (ToFunction sig)) (function_type (slice_get p.funcs g)) ≡ true
      by_register a r i own h =
          let (l, t, local, scalar, held) = register_set r y h in
          let is_local : out-Place a ≡ one.Local r = register_of p f a (out-Place a) r refl own in
          let place : place_type (of_program p) f.locals a ≡ Some (object_place l.1) = place_at_top p f a (one.Local r) is_local ∙ ap (option_map (λ (l : Named). object_place l.1)) local in
          let its : type_of (of_program p) f.locals fe ≡ Some t = type_at p f fe (one.Load a) i ∙ ap (λ (o : Option PlaceType). of_one o read_from) place ∙ scalar in
          let same : t ≡ ToFunction sig = same_Some t (ToFunction sig) (sym its ∙ typed) in
          in_set y (subst (λ (z : ValueType). IsSetIn p d z y) same held) has

      by : (x : one.Expr-F Expr PlaceOf) → out-Expr fe ≡ x → is_callee p.target f (form_at x) ≡ true → CalleeAt d p id f sets x y → is_assignable_some (Some (ToFunction sig)) (function_type (slice_get p.funcs g)) ≡ true
      by (one.FuncAddr h) i k (s, only, is) =
          let same : h ≡ g = one_function_in s h g only (in_addresses s is) in
          itself (function_type (slice_get p.funcs g)) (ap (λ (m : ℕ). function_type (slice_get p.funcs m)) (sym same) ∙ sym (type_at p f fe (one.FuncAddr h) i) ∙ typed)
      by (one.Load a) i k (r, own, h) = by_register a r i own h
      by _ i k h = absurd (cc)

-- ---- parameters are scalars

parameters_at : (ts : List CType) (ls : List Named) → are_parameters ts ls ≡ true → (i : ℕ) (t : CType) → slice_get ts i ≡ Some t → (l : Named) × (slice_get ls i ≡ Some l) × (t.shape ≡ l.1.shape)
parameters_at [] ls h i t e = absurd (none-some t e)
parameters_at (u ∷ ts) [] h i t e = absurd (true≢false (sym h))
parameters_at (u ∷ ts) (l ∷ ls) h zero t e =
    let same : u ≡ t = same_Some u t e in
    (l, refl, ap (λ (z : CType). z.shape) (sym same) ∙ shape_of_same u l.1 (both_true (same_shape u.shape l.1.shape) (are_parameters ts ls) h).0)
parameters_at (u ∷ ts) (l ∷ ls) h (suc i) t e = parameters_at ts ls (both_true (same_shape u.shape l.1.shape) (are_parameters ts ls) h).1 i t e

assigned_scalar : (to : Option ValueType) (from : Option ValueType) → is_assignable_some to from ≡ true → (w : ValueType) × (to ≡ Some w)
assigned_scalar None from h = absurd (true≢false (sym h))
assigned_scalar (Some w) from h = (w, refl)

-- the local of a function that gets an argument
pub record IsParameter (function : Func) (i : ℕ) : Type 0 where
  pub local : Named
  pub there : slice_get function.locals i ≡ Some local
  pub ctype : ValueType
  pub scalar : scalar_value local.1 ≡ Some ctype

pub parameter_of : (p : Program) → IsNormal p → (g : ℕ) (function : Func) → slice_get p.funcs g ≡ Some function → (f : Func) (fe : Expr) (args : List Expr) (u : ValueType) (call : IsTypedCall p f fe args u) → function.sig ≡ call.sig →
    (i : ℕ) (arg : Expr) → slice_get args i ≡ Some arg → IsParameter function i
parameter_of p normal g function e f fe args u call same i arg at =
    let own = All-contains (IsFuncBy p are_names) p.funcs function normal.sound.funcs (contains_at p.funcs g function e) in
    let fits = pairs_at (λ t v. is_assignable_some (scalar_value t) v) (out-Sig call.sig).params (map (type_of (of_program p) f.locals) args) call.fits i (type_of (of_program p) f.locals arg) (mapped_at (type_of (of_program p) f.locals) args i arg at) in
    let scalar = assigned_scalar (scalar_value fits.0) (type_of (of_program p) f.locals arg) fits.2 in
    let local = parameters_at (out-Sig function.sig).params function.locals own.first i fits.0 (ap (λ (s : Sig). slice_get (out-Sig s).params i) same ∙ fits.1) in
    record { local = local.0; there = local.1; ctype = scalar.0; scalar = ap (λ (s : Shape). scalar_shape (out-Shape s)) (sym local.2) ∙ scalar.1 }

-- ---- the key of a scalar is its own

module _ (structures : List Structure) where
  abbrev step_in : Bool → Bool → Part → shape.Shape-F Shape CType Sig → Option PlaceType
  step_in constant volatile (part.Index i) x = if is_below i (bound_shape x) then element_shape constant volatile x else None
  step_in constant volatile (part.Member m) x = member_shape structures constant volatile m x

  no_part : (constant volatile : Bool) (x : shape.Shape-F Shape CType Sig) (w : ValueType) → scalar_shape x ≡ Some w → (step : Part) → step_in constant volatile step x ≡ None
  no_part constant volatile (shape.Int t) w e (part.Index i) = refl
  no_part constant volatile (shape.Int t) w e (part.Member m) = refl
  no_part constant volatile (shape.Pointer to) w e (part.Index i) = refl
  no_part constant volatile (shape.Pointer to) w e (part.Member m) = refl
  no_part constant volatile shape.Void w e step = absurd (none-some w e)
  no_part constant volatile (shape.Array of n) w e step = absurd (none-some w e)
  no_part constant volatile (shape.Struct s) w e step = absurd (none-some w e)
  no_part constant volatile (shape.Func sig) w e step = absurd (none-some w e)

  abbrev ends_in : List Part → Option PlaceType → Option ValueType
  ends_in path a = of_one (of_one a (place_at structures path)) read_from

  own_key : (t : CType) (w : ValueType) → scalar_value t ≡ Some w → (path : List Part) (u : ValueType) → ends_in path (Some (object_place t)) ≡ Some u → (before : Key) → key_along structures path (Some (object_place t)) before ≡ before
  own_key t w s [] u e before = refl
  own_key t w s (part.Index i ∷ path) u e before =
      absurd (none-some u (sym (ap (λ (o : Option PlaceType). of_one (of_one o (place_at structures path)) read_from) (no_part (is_const t) (is_volatile t) (out-Shape t.shape) w s (part.Index i))) ∙ e))
  own_key t w s (part.Member m ∷ path) u e before =
      absurd (none-some u (sym (ap (λ (o : Option PlaceType). of_one (of_one o (place_at structures path)) read_from) (no_part (is_const t) (is_volatile t) (out-Shape t.shape) w s (part.Member m))) ∙ e))

pub parameter_key : (p : Program) (g : ℕ) (function : Func) → slice_get p.funcs g ≡ Some function → (i : ℕ) → IsParameter function i → (number : ℕ) (path : List Part) (k : ℕ) → LeadsTo p (root.Auto number g i) path k →
    cell_key p (root.Auto number g i) path ≡ key.Local g i
parameter_key p g function e i it number path k leads =
    let place : local_type i (slice_get p.funcs g) ≡ Some (object_place it.local.1) = ap (local_type i) e ∙ ap (option_map (λ (l : Named). object_place l.1)) it.there in
    ap (λ (a : Option PlaceType). key_along p.structures path a (key.Local g i)) place
    ∙ own_key p.structures it.local.1 it.ctype it.scalar path leads.0 (sym (ap (λ (a : Option PlaceType). ends_in p.structures path a) place) ∙ leads.1) (key.Local g i)

-- ---- a function whose result has a value

pub result_given : (t : CType) (u : ValueType) → result_value t ≡ Some u → (u ≡ NoValue → ⊥) → is_void t ≡ false
result_given t u h some = by (is_void_shape (out-Shape t.shape)) h
  where
    by : (b : Bool) → (if b then Some NoValue else scalar_value t) ≡ Some u → b ≡ false
    by true k = absurd (some (sym (same_Some NoValue u k)))
    by false k = refl

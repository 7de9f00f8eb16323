-- A program whose expressions are lowered is typed where its source is.
use Rattle.std.proofs.Common.{◌≡◌, ◌≤◌, ◌<◌, ℕ, zero, suc, Bool, true, false, not, ◌+◌, ◌&&◌, ◌||◌, List, [], ◌∷◌, ◌++◌, length, map, drop, All, get_or, Option, Some, None, slice_get, option_map, refl, ap, sym, ◌∙◌, subst, arith, rules, eqb, IsTrue}
use Rattle.std.proofs.lemmas.Bool.{eqb-true, lt-ltb}
use Rattle.std.proofs.lemmas.List.{length-map, get_or-map}
use Rattle.std.proofs.lemmas.Option.{same_Some}
use Rattle.std.specs.List.{list_all}
use Rattle.std.specs.Prelude.{nat_le, ◌^◌}
use Rattle.cc_program.specs.CcNum.declared.target.Target.{Target}
use Rattle.cc_program.specs.CcNum.Integers.{bytes_of}
use Rattle.cc_program.proofs.CcNum.Conversions.{few_bytes}
use Rattle.cc_lower_continues.specs.Continues.{HasFewLocals}
use Rattle.cc_lower_expressions.specs.Expressions.{Temps}
use Rattle.cc_lower_expressions.specs.Programs.{made_of, temporaries, lowered_body, lower_func, lower_expressions_program}
use Rattle.cc_lower_expressions.specs.Statements.{lower_list}
use Rattle.cc_lower_expressions.specs.Temporaries.{declared_type}
use Rattle.cc_operands.specs.Qualified.{plain, qualified_as}
use Rattle.cc_operand_types.specs.Typed.{is_pointed_kind, place_stands, stands}
use Rattle.cc_operand_types.proofs.Requalified.{kind_at, requalifies, there, widened}
use Rattle.cc_operand_types.proofs.Standing.{object_type, sig-opens}
use Rattle.cc_program.specs.declared.expr.Expr.{Expr, roll-Expr}
use Rattle.cc_program.specs.declared.expr.Place.{Place}
use Rattle.cc_program.specs.declared.expr.Expr.TheOpen as one
use Rattle.cc_program.specs.declared.func.Func.{Func}
use Rattle.cc_program.specs.declared.object.Device.{Device}
use Rattle.cc_program.specs.declared.object.Object.{Object}
use Rattle.cc_program.specs.declared.program.Program.{Program}
use Rattle.cc_program.specs.declared.types.CType.{CType}
use Rattle.cc_program.specs.declared.types.Shape.{Int, Pointer, Func as FuncShape}
use Rattle.cc_program.specs.declared.types.Shape.TheOpen as shape
use Rattle.cc_program.specs.declared.types.Shape.TheVariants.{outs-Int, outs-Pointer, outs-Func}
use Rattle.cc_program.specs.declared.types.Sig.{Sig, out-Sig}
use Rattle.cc_eval.specs.CcSyntax.Expressions.{type_of}
use Rattle.cc_eval.specs.CcSyntax.Kinds.{Kind, IsVoid, IsScalar, IsStructure, IsArray, IsIncomplete, IsFunction, kind_of, is_sig, is_small, is_result, is_plain_scalar, is_object_type, shape_kind, qualified_kind}
use Rattle.cc_eval.specs.CcSyntax.Operators.{function_type, is_handler}
use Rattle.cc_eval.specs.CcSyntax.SameTypes.{same_shape}
use Rattle.cc_eval.specs.CcSyntax.Sound.{any_names, IsFuncBy, IsTypedProgram, is_local, is_object, is_automatic, are_parameters}
use Rattle.cc_eval.specs.CcSyntax.Statements.{is_sound_body}
use Rattle.cc_eval.specs.CcSyntax.Types.{Named}
use Rattle.cc_eval.specs.CcSyntax.Values.{ValueType, NoValue, Integer, ToObject, ToFunction, PlaceType, DevicePlace, object_place, is_scalar}
use Rattle.cc_eval.specs.CcSyntax.Views.{View, of_program, kind_in}
use Rattle.cc_lower_sound.specs.Statements.{are_plain, has_plain_statements}
use Rattle.cc_lower_sound.proofs.Bools.{two, first_true, second_true, all-append}
use Rattle.cc_lower_sound.proofs.ChangedFunctions.{HasSameHead, view_same, changed_typed}
use Rattle.cc_lower_sound.proofs.Lowered.{is_declared}
use Rattle.cc_lower_sound.proofs.LoweredBodies.{body_made, result}
use Rattle.cc_lower_sound.proofs.Pieces.{Any, Gives, AreGood, Declared}
use Rattle.cc_lower_sound.proofs.Readings.{typed}
use Rattle.cc_lower_sound.proofs.Scalars.{passes}
use Rattle.cc_lower_sound.proofs.Standing.{declares, all_stand, all_declare, points_to_void}
use Rattle.cc_lower_sound.proofs.TypedBodies.{body_reading, body_laws, all_sound, any_each}
use Rattle.cc_lower_sound.proofs.TypedMembers.{typed_members_stand}
use Rattle.cc_lower_sound.proofs.TypedReading.{reading, typed_laws, IsTemp, never_const}

-- ---- lists

pub all_at : {A : Type 0} (P : A → Type 0) (xs : List A) (i : ℕ) (x : A) → All P xs → slice_get xs i ≡ Some x → P x
all_at P [] i x h e = absurd (cc)
all_at {A} P (y ∷ xs) zero x h e = let k : y ≡ x = cc in subst P k (h 0 y (omega arith))
all_at {A} P (y ∷ xs) (suc i) x h e = all_at P xs i x (λ j d lt. h (suc j) d (omega arith)) e

pub tested_at : {A : Type 0} (test : A → Bool) (xs : List A) (i : ℕ) (x : A) → list_all test xs ≡ true → slice_get xs i ≡ Some x → test x ≡ true
tested_at test [] i x h e = absurd (cc)
tested_at test (y ∷ xs) zero x h e = let k : y ≡ x = cc in subst (λ z. test z ≡ true) k (first_true (test y) (list_all test xs) h)
tested_at test (y ∷ xs) (suc i) x h e = tested_at test xs i x (second_true (test y) (list_all test xs) h) e

pub tested_or : {A : Type 0} (test : A → Bool) (xs : List A) (i : ℕ) (d : A) → list_all test xs ≡ true → i < length xs → test (get_or xs i d) ≡ true
tested_or test [] i d h lt = absurd (omega arith)
tested_or test (x ∷ xs) zero d h lt = first_true (test x) (list_all test xs) h
tested_or test (x ∷ xs) (suc i) d h lt = tested_or test xs i d (second_true (test x) (list_all test xs) h) (omega arith)

pub kept_front : {A : Type 0} (xs ys : List A) (i : ℕ) (x : A) → slice_get xs i ≡ Some x → slice_get (xs ++ ys) i ≡ Some x
kept_front [] ys i x h = absurd (cc)
kept_front (y ∷ xs) ys zero x h = h
kept_front (y ∷ xs) ys (suc i) x h = kept_front xs ys i x h

pub behind : {A : Type 0} (xs ys : List A) (x : A) → slice_get (xs ++ x ∷ ys) (length xs) ≡ Some x
behind [] ys x = refl
behind (y ∷ xs) ys x = behind xs ys x

pub moved : {A : Type 0} (xs ys : List A) (x : A) → xs ++ x ∷ ys ≡ (xs ++ x ∷ []) ++ ys
moved [] ys x = refl
moved {A} (y ∷ xs) ys x = ap (λ (l : List A). y ∷ l) (moved xs ys x)

pub longer : {A : Type 0} (xs : List A) (x : A) → length (xs ++ x ∷ []) ≡ length xs + 1
longer [] x = refl
longer {A} (y ∷ xs) x = let h = longer xs x in omega arith

all_dropped : {A : Type 0} (test : A → Bool) (n : ℕ) (xs : List A) → list_all test xs ≡ true → list_all test (drop n xs) ≡ true
all_dropped test zero xs h = h
all_dropped test (suc n) [] h = refl
all_dropped test (suc n) (x ∷ xs) h = all_dropped test n xs (second_true (test x) (list_all test xs) h)

all_behind : {A : Type 0} (test : A → Bool) (n : ℕ) (xs ys : List A) → list_all test (drop n xs) ≡ true → list_all test ys ≡ true → list_all test (drop n (xs ++ ys)) ≡ true
all_behind test zero xs ys h k = all-append test xs ys h k
all_behind test (suc n) [] ys h k = all_dropped test (suc n) ys k
all_behind test (suc n) (x ∷ xs) ys h k = all_behind test n xs ys h k

parameters_front : (ts : List CType) (xs ys : List Named) → are_parameters ts xs ≡ true → are_parameters ts (xs ++ ys) ≡ true
parameters_front [] xs ys h = refl
parameters_front (t ∷ ts) [] ys h = absurd (cc)
parameters_front (t ∷ ts) (x ∷ xs) ys h =
    two (same_shape t.shape x.1.shape) (are_parameters ts (xs ++ ys)) (first_true (same_shape t.shape x.1.shape) (are_parameters ts xs) h) (parameters_front ts xs ys (second_true (same_shape t.shape x.1.shape) (are_parameters ts xs) h))

-- ---- what may be declared is an object

few_pointer_bytes : (target : Target) → target.pointer_bytes ≤ 8
few_pointer_bytes target = by_test (eqb target.pointer_bytes 2) refl target.pointer
  where
    by_test : (b : Bool) → eqb target.pointer_bytes 2 ≡ b → IsTrue (b || eqb target.pointer_bytes 4) → target.pointer_bytes ≤ 8
    by_test true e h = let k = eqb-true target.pointer_bytes 2 e in omega arith
    by_test false e h = let k = eqb-true target.pointer_bytes 4 h in omega arith

eight_small : (n : ℕ) → n ≤ 8 → is_small n ≡ true
eight_small n h = small_by n (omega arith)
  where
    small_by : (n : ℕ) → n ≤ 4294967295 → nat_le n 4294967295 ≡ true
    small_by n h = search rules

module _ (v : View) where
  pointer_object : (k : Option Kind) → is_pointed_kind false k ≡ true → is_object_type (qualified_kind false (shape_kind v.target v.extents (shape.Pointer k))) ≡ is_small v.target.pointer_bytes
  pointer_object None h = absurd (cc)
  pointer_object (Some IsVoid) h = absurd (cc)
  pointer_object (Some (IsScalar q n)) h = refl
  pointer_object (Some (IsStructure n)) h = refl
  pointer_object (Some (IsArray n)) h = refl
  pointer_object (Some IsIncomplete) h = refl
  pointer_object (Some IsFunction) h = absurd (cc)

  small_pointer : is_small v.target.pointer_bytes ≡ true
  small_pointer = eight_small v.target.pointer_bytes (few_pointer_bytes v.target)

  pub declared_object : (t : ValueType) → is_scalar t ≡ true → declares v t ≡ true → is_object_type (kind_in v (declared_type (Some t))) ≡ true
  declared_object NoValue s h = absurd (cc)
  declared_object (Integer i) s h = ap is_object_type (kind_at v (plain (Int i)) (shape.Int i) (outs-Int i)) ∙ eight_small (bytes_of i v.target) (few_bytes i v.target)
  declared_object (ToObject c u t) s h =
      let k = there v false (kind_in v t) h in
      let r = requalifies v t c u k.0 k.1 (widened v false k.0 (ap (is_pointed_kind false) (sym k.1) ∙ h)) in
      let d : CType = qualified_as c u t in
      ap is_object_type (kind_at v (plain (Pointer d)) (shape.Pointer d) (outs-Pointer d))
      ∙ pointer_object (kind_in v d) (ap (is_pointed_kind false) r.is ∙ r.pointed false ∙ ap (is_pointed_kind false) (sym k.1) ∙ h)
      ∙ small_pointer
  declared_object (ToFunction f) s h =
      let d : CType = plain (FuncShape f) in
      ap is_object_type (kind_at v (plain (Pointer d)) (shape.Pointer d) (outs-Pointer d))
      ∙ function_object (kind_in v d) f (kind_at v d (shape.Func f) (outs-Func f)) h
      ∙ small_pointer
    where
      function_by : (good : Bool) → good ≡ true → is_object_type (qualified_kind false (shape_kind v.target v.extents (shape.Pointer (qualified_kind false (shape_kind v.target v.extents (shape.Func good)))))) ≡ is_small v.target.pointer_bytes
      function_by true e = refl
      function_by false e = absurd (cc)

      function_object : (k : Option Kind) (f : Sig) → k ≡ qualified_kind false (shape_kind v.target v.extents (shape.Func (is_sig v.target v.extents f))) → is_sig v.target v.extents f ≡ true → is_object_type (qualified_kind false (shape_kind v.target v.extents (shape.Pointer k))) ≡ is_small v.target.pointer_bytes
      function_object k f e h = ap (λ (o : Option Kind). is_object_type (qualified_kind false (shape_kind v.target v.extents (shape.Pointer o)))) e ∙ function_by (is_sig v.target v.extents f) h

-- ---- temporaries

abbrev pub as_local : Option ValueType → Named
as_local t = ([], declared_type t)

temps_declared : (p : Program) (f : Func) (all front : List Named) (r : CType) (ts : Temps) → all ≡ front ++ map as_local ts → Declared (IsTemp p f all r) (length front) ts
temps_declared p f all front r [] e = tt
temps_declared p f all front r (o ∷ ts) e =
    let h = temps_declared p f all (front ++ as_local o ∷ []) r ts (e ∙ moved front (map as_local ts) (as_local o)) in (
      λ t k. (as_local o, ap (λ (l : List Named). slice_get l (length front)) e ∙ behind front (map as_local ts) (as_local o), ap declared_type k),
      subst (λ (n : ℕ). Declared (IsTemp p f all r) n ts) (longer front (as_local o)) h,
    )

temps_local : (p : Program) (ts : Temps) → AreGood (declares (of_program p)) ts → list_all (is_local p) (map as_local ts) ≡ true
temps_local p [] h = refl
temps_local p (o ∷ ts) h =
    two (is_local p (as_local o)) (list_all (is_local p) (map as_local ts))
    (ap (λ (z : Option ValueType). is_local p (as_local z)) h.0.is ∙ declared_object (of_program p) h.0.type h.0.scalar h.0.standing) (temps_local p ts h.1)

temps_automatic : (p : Program) (ts : Temps) → AreGood (declares (of_program p)) ts → list_all is_automatic (map as_local ts) ≡ true
temps_automatic p [] h = refl
temps_automatic p (o ∷ ts) h =
    two (is_automatic (as_local o)) (list_all is_automatic (map as_local ts))
    (ap (λ (z : Option ValueType). is_automatic (as_local z)) h.0.is ∙ ap not (never_const h.0.type h.0.scalar)) (temps_automatic p ts h.1)

-- ---- what stands in a typed program

module _ (p : Program) (h : IsTypedProgram p) where
  abbrev v : View
  v = of_program p

  object_stands : (o : Option Object) (t : PlaceType) → ((x : Object) → o ≡ Some x → is_object p x ≡ true) → option_map (λ (o : Object). object_place o.ctype) o ≡ Some t → place_stands v t ≡ true
  object_stands None t f e = absurd (cc)
  object_stands (Some x) t f e = subst (λ (z : PlaceType). place_stands v z ≡ true) (same_Some (object_place x.ctype) t e) (object_type (kind_in v x.ctype) (f x refl))

  device_stands : (o : Option Device) (t : PlaceType) → option_map (λ (d : Device). DevicePlace d.constant d.int) o ≡ Some t → place_stands v t ≡ true
  device_stands None t e = absurd (cc)
  device_stands (Some d) t e = subst (λ (z : PlaceType). place_stands v z ≡ true) (same_Some (DevicePlace d.constant d.int) t e) refl

  plain_params : (ts : List CType) → list_all (λ (t : CType). is_plain_scalar (kind_in v t)) ts ≡ list_all is_plain_scalar (map (kind_of v.target v.extents) ts)
  plain_params [] = refl
  plain_params (t ∷ ts) = ap (λ (b : Bool). is_plain_scalar (kind_in v t) && b) (plain_params ts)

  sig_stands : (f : Func) → IsFuncBy p any_names f → is_sig v.target v.extents f.sig ≡ true
  sig_stands f k = sig-opens v f.sig ∙ two (is_result (kind_in v (out-Sig f.sig).result)) (list_all is_plain_scalar (map (kind_of v.target v.extents) (out-Sig f.sig).params)) k.result (sym (plain_params (out-Sig f.sig).params) ∙ k.parameters)

  function_stands : (o : Option Func) (t : ValueType) → ((f : Func) → o ≡ Some f → IsFuncBy p any_names f) → function_type o ≡ Some t → (stands v t ≡ true) × (points_to_void t ≡ false)
  function_stands None t g e = absurd (cc)
  function_stands (Some f) t g e =
      subst (λ (z : ValueType). (stands v z ≡ true) × (points_to_void z ≡ false)) (passes (not (is_handler f)) (ToFunction f.sig) t e).is (sig_stands f (g f refl), refl)

  module _ (f : Func) (k : IsFuncBy p any_names f) where
    locals_stand : (r : ℕ) (l : Named) → slice_get f.locals r ≡ Some l → is_pointed_kind false (kind_in v l.1) ≡ true
    locals_stand r l e = object_type (kind_in v l.1) (tested_at (is_local p) f.locals r l k.locals e)

    statics_stand : (i : ℕ) (t : PlaceType) → v.statics i ≡ Some t → place_stands v t ≡ true
    statics_stand i t e = object_stands (slice_get p.objects i) t (λ x z. tested_at (is_object p) p.objects i x h.objects z) e

    functions_stand : (i : ℕ) (t : ValueType) → v.functions i ≡ Some t → (stands v t ≡ true) × (points_to_void t ≡ false)
    functions_stand i t e = function_stands (slice_get p.funcs i) t (λ g z. all_at (IsFuncBy p any_names) p.funcs i g h.funcs z) e

    pub standing : (e : Expr) (t : ValueType) → typed p f e ≡ Some t → stands v t ≡ true
    standing = all_stand v f.locals (typed_members_stand p h.structures) locals_stand statics_stand (λ i t e. device_stands (slice_get p.devices i) t e) functions_stand

    pub declaring : (x : one.Expr-F Expr Place) (t : ValueType) → is_declared x ≡ true → typed p f (roll-Expr x) ≡ Some t → declares v t ≡ true
    declaring = all_declare v f.locals (typed_members_stand p h.structures) locals_stand statics_stand (λ i t e. device_stands (slice_get p.devices i) t e) functions_stand

    -- ---- a function with its temporaries

    abbrev new_locals : List Named
    new_locals = f.locals ++ temporaries p f

    module _ (plain_body : are_plain f.body ≡ true) where
      abbrev kept : (r : ℕ) (l : Named) → slice_get f.locals r ≡ Some l → slice_get new_locals r ≡ Some l
      kept r l e = kept_front f.locals (temporaries p f) r l e

      abbrev body_gives : Gives (declares v) (IsTemp p f new_locals (result f)) (λ s. (body_reading p f new_locals).StmAt false false s) (Unit {0}) Any (lower_list p f f.body)
      body_gives = body_made p f (reading p f new_locals (result f)) (body_reading p f new_locals) (typed_laws p f new_locals (result f) kept) (body_laws p f new_locals kept) standing declaring f.body k.body plain_body (any_each f.body)

      pub good_temps : AreGood (declares v) (made_of p f).temps
      good_temps = body_gives.good (length f.locals)

      sound_body : is_sound_body p.target (type_of v new_locals) (out-Sig f.sig).result (lowered_body p f) ≡ true
      sound_body = all_sound p f new_locals (lowered_body p f) false false (body_gives.made (length f.locals) tt (temps_declared p f new_locals f.locals (result f) (made_of p f).temps refl)).0

-- ---- programs

heads : (p : Program) (f : Func) → HasSameHead f (lower_func p f)
heads p f = record { name = refl; sig = refl; entry = refl }

module _ (p : Program) (h : IsTypedProgram p) where
  func_typed : (f : Func) → IsFuncBy p any_names f → are_plain f.body ≡ true → HasFewLocals (lower_func p f) → IsFuncBy (lower_expressions_program p) any_names (lower_func p f)
  func_typed f k plain_body few = record {
    result = k.result;
    parameters = k.parameters;
    form = k.form;
    entry = k.entry;
    count = k.count;
    first = parameters_front (out-Sig f.sig).params f.locals (temporaries p f) k.first;
    few = lt-ltb (length (f.locals ++ temporaries p f)) (2 ^ 32) few;
    locals = all-append (is_local p) f.locals (temporaries p f) k.locals (temps_local p (made_of p f).temps (good_temps p h f k plain_body));
    automatic = all_behind is_automatic f.params f.locals (temporaries p f) k.automatic (temps_automatic p (made_of p f).temps (good_temps p h f k plain_body));
    names = refl;
    body = subst (λ (v : View). is_sound_body p.target (type_of v (f.locals ++ temporaries p f)) (out-Sig f.sig).result (lowered_body p f) ≡ true) (sym (view_same (lower_func p) (heads p) p)) (sound_body p h f k plain_body);
  }

  few_at : All HasFewLocals (lower_expressions_program p).funcs → (i : ℕ) (d : Func) → i < length p.funcs → HasFewLocals (lower_func p (get_or p.funcs i d))
  few_at few i d lt = subst HasFewLocals (get_or-map (lower_func p) p.funcs i d (lower_func p d) lt) (few i (lower_func p d) (subst (λ (n : ℕ). i < n) (sym (length-map p.funcs (lower_func p))) lt))

  pub lowered_program_typed : has_plain_statements p ≡ true → All HasFewLocals (lower_expressions_program p).funcs → IsTypedProgram (lower_expressions_program p)
  lowered_program_typed plain few =
      changed_typed (lower_func p) (heads p) p h (λ i d lt. func_typed (get_or p.funcs i d) (h.funcs i d lt) (tested_or (λ (f : Func). are_plain f.body) p.funcs i d plain lt) (few_at few i d lt))

-- What lowering makes is typed: operands and places have the types of their sources, but for qualifiers that they may lack at what is
-- pointed to, over locals to which the temporaries are added.
use Rattle.std.proofs.Common.{◌≡◌, ℕ, ℤ, Bool, true, false, ◌&&◌, List, [], ◌∷◌, map, Option, Some, None, is_some, slice_get, option_map, refl, ap, sym, ◌∙◌, subst}
use Rattle.std.proofs.lemmas.Option.{same_Some}
use Rattle.std.specs.List.{list_all}
use Rattle.std.specs.Prelude.{if◌then◌else◌}
use Rattle.cc_program.specs.CcNum.declared.int_type.IntType.{IntType}
use Rattle.cc_program.specs.CcNum.declared.op.BinOp.{BinOp}
use Rattle.cc_program.specs.CcNum.declared.op.UnOp.{UnOp}
use Rattle.cc_program.specs.CcNum.Integers.{is_value_of}
use Rattle.cc_lower_expressions.specs.Expressions.{temp, constant_in, constant_or, folded_un, folded_bin, folded_conv}
use Rattle.cc_lower_expressions.specs.Temporaries.{declared_type, is_same_type}
use Rattle.cc_operands.specs.Operands.{is_pointer}
use Rattle.cc_operands.specs.Qualified.{plain, qualified_as, type_of_value}
use Rattle.cc_operand_types.specs.Reduced.{Reduced, Unused, Integers, Pointers, Functions, ReducedPlace, ReducedLocals}
use Rattle.cc_operand_types.specs.Typed.{Agree, Same, Pointers as AgreePointers, stands}
use Rattle.cc_operand_types.proofs.Constants.{Fits, unary_fits, binary_fits, converted_fits}
use Rattle.cc_operand_types.proofs.Follows.{Gives}
use Rattle.cc_operand_types.proofs.Integers.{when_one}
use Rattle.cc_operand_types.proofs.Nulls.{null_typed}
use Rattle.cc_operand_types.proofs.ReducedPlaces.{read_reduced, written_reduced, address_reduced, pointed_reduced, member_reduced}
use Rattle.cc_operand_types.proofs.Rolls.{type-Const, type-Null, type-Load, type-AddrOf, type-Un, type-Bin, type-Conv, type-Qualify, type-Move, type-Gap, type-Compare, type-Assign, type-Call, place-Element, place-Member, place-Deref}
use Rattle.cc_operand_types.proofs.Rules.{unary_follows, binary_follows, conversion_follows, qualified_follows, moved_follows, gap_follows, comparison_follows, subscript_follows, restore_follows}
use Rattle.cc_operand_types.proofs.Typed.{reduced_typed, reduced_place}
use Rattle.cc_operand_types.proofs.Values.{reduced_itself, assigned_reduced, scalar_reduced}
use Rattle.cc_program.specs.Qualifiers.{of_element, is_const, is_volatile}
use Rattle.cc_program.proofs.QualifierLemmas.{const-opens, parts_const}
use Rattle.cc_program.specs.declared.expr.Expr.{Expr, Const, Load, Un, Bin, Conv, Assign, Call, Intr}
use Rattle.cc_program.specs.declared.expr.Expr.TheOpen as one
use Rattle.cc_program.specs.declared.expr.Expr.TheVariants.{rolls-Intr}
use Rattle.cc_program.specs.declared.expr.Intr.{Intr as Intrinsic}
use Rattle.cc_program.specs.declared.expr.Place.{Place, Local}
use Rattle.cc_program.specs.declared.expr.Place.TheVariants.{rolls-Local}
use Rattle.cc_program.specs.declared.func.Func.{Func}
use Rattle.cc_program.specs.declared.program.Program.{Program}
use Rattle.cc_program.specs.declared.stmt.Stmt.{Stmt, Do, If}
use Rattle.cc_program.specs.declared.stmt.Stmt.TheVariants.{rolls-Do, rolls-If}
use Rattle.cc_program.specs.declared.stmt.Stmt.TheOpen as is
use Rattle.cc_program.specs.declared.types.CType.{CType}
use Rattle.cc_program.specs.declared.types.Shape.{Shape, Int, Pointer, Func as FuncShape, out-Shape}
use Rattle.cc_program.specs.declared.types.Shape.TheOpen as shape
use Rattle.cc_program.specs.declared.types.Shape.TheVariants.{outs-Int, outs-Pointer}
use Rattle.cc_program.specs.declared.types.Sig.{Sig, out-Sig}
use Rattle.cc_program.proofs.Each.{Each}
use Rattle.cc_program.proofs.ExprInduction.{Parts, PlaceParts}
use Rattle.cc_eval.specs.CcSyntax.Expressions.{type_of, place_type, null_type, pointer_type}
use Rattle.cc_eval.specs.CcSyntax.Folding.{Constant, NoConstant, Value, Traps, unary_constant, binary_constant, converted_constant}
use Rattle.cc_eval.specs.CcSyntax.Forms.{form_of}
use Rattle.cc_eval.specs.CcSyntax.Kinds.{is_plain_scalar}
use Rattle.cc_eval.specs.CcSyntax.Operators.{pointer_in, void_pointer_in, first_of, is_unqualified, unary_type, unary_result, binary_type, binary_result, conversion_type, intrinsic_type, is_of, is_promoted, second_fits, is_integer}
use Rattle.cc_eval.specs.CcSyntax.Statements.{SoundWhere, is_condition}
use Rattle.cc_eval.specs.CcSyntax.Types.{Named}
use Rattle.cc_eval.specs.CcSyntax.Values.{ValueType, NoValue, Integer, ToObject, ToFunction, PlaceType, object_place, pointer_to, scalar_shape, scalar_value, result_value, is_scalar, is_void, is_assignable, is_assignable_some, are_assignable, read_from, written_to}
use Rattle.cc_eval.specs.CcSyntax.Views.{View, of_program, kind_in}
use Rattle.cc_eval.proofs.CcSyntax.AlikeLemmas.{alike_itself, implies_itself, assigned_on, assignable_object}
use Rattle.cc_lower_sound.proofs.Bools.{two}
use Rattle.cc_lower_sound.proofs.Levels.{type-roll, place-roll, sound, sound-roll}
use Rattle.cc_lower_sound.proofs.Readings.{Reading, Laws, CallOf, OfSig, AllVal, NoneLeft, More}
use Rattle.cc_lower_sound.proofs.Scalars.{passes}
use Rattle.cc_lower_sound.proofs.Standing.{declares, declared_stands, callee_declares}

-- ---- the declared type of a temporary

agree_reduced : (u t : ValueType) → Agree u t → Reduced u t
agree_reduced _ _ (Same t) = reduced_itself t
agree_reduced _ _ (AgreePointers c v t u h) = Pointers c v t c v u h (implies_itself c) (implies_itself v)

-- what may be assigned to one may be assigned to the other
agree_assigns : (u t from : ValueType) → Agree u t → is_assignable t from ≡ true → is_assignable u from ≡ true
agree_assigns _ _ from (Same t) h = h
agree_assigns _ _ from (AgreePointers c v t u k) h = assigned_on (ToObject c v t) (ToObject c v u) from (assignable_object c v t c v u k (implies_itself c) (implies_itself v)) h

-- a value of this type, and how it agrees with the other one
abbrev pub Declared : CType → ValueType → Type 0
Declared d t = (u : ValueType) × (scalar_value d ≡ Some u) × Agree u t

pointer_value : (b : Bool) (x : shape.Shape-F Shape CType Sig) (u : ValueType) → pointer_in b x ≡ Some u → scalar_shape x ≡ Some u
pointer_value b (shape.Pointer to) u h = ap Some (passes b (pointer_to to) u h).is
pointer_value b shape.Void u h = absurd (cc)
pointer_value b (shape.Int i) u h = absurd (cc)
pointer_value b (shape.Array of n) u h = absurd (cc)
pointer_value b (shape.Struct i) u h = absurd (cc)
pointer_value b (shape.Func s) u h = absurd (cc)

void_value : (b : Bool) (x : shape.Shape-F Shape CType Sig) (u : ValueType) → void_pointer_in b x ≡ Some u → scalar_shape x ≡ Some u
void_value b (shape.Pointer to) u h = ap Some (passes (b && (is_void to && is_unqualified to)) (pointer_to to) u h).is
void_value b shape.Void u h = absurd (cc)
void_value b (shape.Int i) u h = absurd (cc)
void_value b (shape.Array of n) u h = absurd (cc)
void_value b (shape.Struct i) u h = absurd (cc)
void_value b (shape.Func s) u h = absurd (cc)

first_value : (a b : Option ValueType) (o : Option ValueType) (u : ValueType) → ((x : ValueType) → a ≡ Some x → o ≡ Some x) → ((x : ValueType) → b ≡ Some x → o ≡ Some x) → first_of a b ≡ Some u → o ≡ Some u
first_value None b o u f g h = g u h
first_value (Some a) b o u f g h = f u h

null_value : (v : View) (d : CType) (u : ValueType) → null_type v d ≡ Some u → scalar_value d ≡ Some u
null_value v d u h = first_value (void_pointer_in (is_unqualified d) (out-Shape d.shape)) (pointer_type v d) (scalar_value d) u (void_value (is_unqualified d) (out-Shape d.shape)) (pointer_value (is_plain_scalar (kind_in v d)) (out-Shape d.shape)) h

pointer_declared : (v : View) (t : ValueType) → is_pointer t ≡ true → stands v t ≡ true → Declared (type_of_value t) t
pointer_declared v t h s =
    let n = null_typed v [] t h s in
    (n.own, null_value v (type_of_value t) n.own (sym (type-Null v [] (type_of_value t)) ∙ n.typed), n.agrees)

pub declared_value : (v : View) (t : ValueType) → is_scalar t ≡ true → stands v t ≡ true → Declared (declared_type (Some t)) t
declared_value v NoValue h s = absurd (cc)
declared_value v (Integer i) h s = (Integer i, ap scalar_shape (outs-Int i), Same (Integer i))
declared_value v (ToObject c u t) h s = pointer_declared v (ToObject c u t) refl s
declared_value v (ToFunction f) h s = pointer_declared v (ToFunction f) refl s

plain_const : (s : Shape) (x : shape.Shape-F Shape CType Sig) → out-Shape s ≡ x → of_element (parts_const x) ≡ false → is_const (plain s) ≡ false
plain_const s x e h = const-opens (plain s) ∙ (ap (λ y. of_element (parts_const y)) e ∙ h)

pub never_const : (t : ValueType) → is_scalar t ≡ true → is_const (declared_type (Some t)) ≡ false
never_const NoValue h = absurd (cc)
never_const (Integer i) h = plain_const (Int i) (shape.Int i) (outs-Int i) refl
never_const (ToObject c v t) h = plain_const (Pointer (qualified_as c v t)) (shape.Pointer (qualified_as c v t)) (outs-Pointer (qualified_as c v t)) refl
never_const (ToFunction f) h = plain_const (Pointer (plain (FuncShape f))) (shape.Pointer (plain (FuncShape f))) (outs-Pointer (plain (FuncShape f))) refl

any_each : (es : List Expr) → Each (λ (e : Expr). Unit {0}) es
any_each [] = tt
any_each (e ∷ es) = (tt, any_each es)

-- an argument with such a type fits, too
pub some_fits : (to : Option ValueType) (t u : ValueType) → Reduced u t → is_assignable_some to (Some t) ≡ true → is_assignable_some to (Some u) ≡ true
some_fits None t u r h = absurd (cc)
some_fits (Some to) t u r h = assigned_reduced to u t r h

pub anything : (x : one.Expr-F Expr Place) → Parts (λ e. Unit {0}) (λ a. Unit {0}) x
anything (one.Const n t) = tt
anything (one.Null t) = tt
anything (one.FuncAddr g) = tt
anything (one.Load a) = tt
anything (one.AddrOf a) = tt
anything (one.Un o t a) = tt
anything (one.Bin o t a b) = (tt, tt)
anything (one.Conv t a) = tt
anything (one.Qualify t a) = tt
anything (one.Move a b back) = (tt, tt)
anything (one.Gap a b) = (tt, tt)
anything (one.Compare o a b) = (tt, tt)
anything (one.Both a b) = (tt, tt)
anything (one.Either a b) = (tt, tt)
anything (one.Choose c a b) = (tt, tt, tt)
anything (one.Assign a e) = (tt, tt)
anything (one.Change a o t e) = (tt, tt)
anything (one.After a down) = tt
anything (one.Call g args) = (tt, any_each args)
anything (one.Intr i None) = tt
anything (one.Intr i (Some a)) = tt
anything (one.Seq a b) = (tt, tt)

pub anywhere : (x : one.Place-F Expr Place) → PlaceParts (λ e. Unit {0}) (λ a. Unit {0}) x
anywhere (one.Local r) = tt
anywhere (one.Static i) = tt
anywhere (one.Device d) = tt
anywhere (one.Element a i) = (tt, tt)
anywhere (one.Member a m) = tt
anywhere (one.Deref e) = tt

module _ (p : Program) (f : Func) (locals : List Named) (result : CType) where
  abbrev pub v : View
  v = of_program p

  abbrev pub new : Expr → Option ValueType
  new e = type_of v locals e

  abbrev pub new_place : Place → Option PlaceType
  new_place a = place_type v locals a

  abbrev pub Valued : ValueType → Expr → Type 0
  Valued t e = Gives Reduced (new e) t

  abbrev pub Placed : PlaceType → Place → Type 0
  Placed t a = Gives ReducedPlace (new_place a) t

  -- sound wherever it stands
  abbrev pub Sound : Stmt → Type 0
  Sound s = (b c : Bool) → sound p.target new result s b c ≡ true

  abbrev pub IsTemp : ℕ → ValueType → Type 0
  IsTemp n t = (l : Named) × (slice_get locals n ≡ Some l) × (l.1 ≡ declared_type (Some t))

  pub record TakesValues (n : ℕ) (t : ValueType) : Type 0 where
    pub place : PlaceType
    pub to : ValueType
    pub placed : new_place (Local n) ≡ Some place
    pub writes : written_to place ≡ Some to
    pub fits : is_assignable to t ≡ true

  abbrev pub reading : Reading
  reading = record {
    Val = Valued;
    Pla = Placed;
    Right = Valued;
    Calls = Valued;
    Stm = Sound;
    Temp = IsTemp;
    Takes = TakesValues;
    Old = λ e. Unit {0};
    OldPlace = λ a. Unit {0};
    stands = stands v;
    declares = declares v;
  }

  -- ---- temporaries

  local-type : (n : ℕ) → new_place (Local n) ≡ option_map (λ (l : Named). object_place l.1) (slice_get locals n)
  local-type n = ap new_place (sym (rolls-Local n)) ∙ place-roll v locals (one.Local n)

  temp_place : (n : ℕ) (t : ValueType) → IsTemp n t → new_place (Local n) ≡ Some (object_place (declared_type (Some t)))
  temp_place n t h = local-type n ∙ ap (option_map (λ (l : Named). object_place l.1)) h.1 ∙ ap (λ (d : CType). Some (object_place d)) h.2

  temp_typed : (n : ℕ) (t : ValueType) → IsTemp n t → is_scalar t ≡ true → declares v t ≡ true → Valued t (temp n)
  temp_typed n t h s d =
      let x = declared_value v t s (declared_stands v t d) in
      (x.0, type-Load v locals (Local n) (object_place (declared_type (Some t))) (Some x.0) (temp_place n t h) x.1, agree_reduced x.0 t x.2)

  temp_takes : (n : ℕ) (to t : ValueType) → IsTemp n to → is_scalar to ≡ true → declares v to ≡ true → is_assignable to t ≡ true → TakesValues n t
  temp_takes n to t h s d k =
      let x = declared_value v to s (declared_stands v to d) in
      record {
        place = object_place (declared_type (Some to));
        to = x.0;
        placed = temp_place n to h;
        writes = ap (λ (b : Bool). if b then None else scalar_value (declared_type (Some to))) (never_const to s) ∙ x.1;
        fits = agree_assigns x.0 to t x.2 k;
      }

  -- ---- folding

  integer_there : (i : IntType) (e : Expr) → new e ≡ Some (Integer i) → Valued (Integer i) e
  integer_there i e h = (Integer i, h, Integers i)

  number_typed : (n : ℤ) (i : IntType) → is_value_of i p.target n ≡ true → new (Const n i) ≡ Some (Integer i)
  number_typed n i h = type-Const v locals n i ∙ when_one (is_value_of i p.target n) (Integer i) h

  folded : (i : IntType) (c : Constant) (e : Expr) → Fits i p.target c → new e ≡ Some (Integer i) → new (constant_or i c e) ≡ Some (Integer i)
  folded i NoConstant e h k = k
  folded i (Value n) e h k = number_typed n i h
  folded i Traps e h k = k

  unary_typed : (o : UnOp) (i : IntType) (t r : ValueType) (e : Expr) → Valued t e → unary_type p.target o i t ≡ Some r → Valued r (folded_un p f declared_type is_same_type o i e)
  unary_typed o i t r e x h =
      let y = passes (is_promoted p.target i && is_of i t) (Integer (unary_result o i)) r h in
      let g = unary_follows p.structures p.target o i t x.0 x.2 r h in
      let z = passes (is_promoted p.target i && is_of i x.0) (Integer (unary_result o i)) g.0 g.1 in
      subst (λ (r : ValueType). Valued r (folded_un p f declared_type is_same_type o i e)) y.is
      (integer_there (unary_result o i) (folded_un p f declared_type is_same_type o i e) (folded (unary_result o i) (unary_constant p.target o i (constant_in (form_of e))) (Un o i e) (unary_fits o i p.target (constant_in (form_of e)))
      (type-Un v locals o i e x.0 (Some (Integer (unary_result o i))) x.1 (g.1 ∙ ap Some (sym z.is)))))

  binary_typed : (o : BinOp) (i : IntType) (t u r : ValueType) (e g : Expr) → Valued t e → Valued u g → binary_type p.target o i t u ≡ Some r → Valued r (folded_bin p f declared_type is_same_type o i e g)
  binary_typed o i t u r e g x y h =
      let a = passes (is_promoted p.target i && (is_of i t && second_fits p.target o i u)) (Integer (binary_result o i)) r h in
      let b = binary_follows p.structures p.target o i t x.0 u y.0 x.2 y.2 r h in
      let c = passes (is_promoted p.target i && (is_of i x.0 && second_fits p.target o i y.0)) (Integer (binary_result o i)) b.0 b.1 in
      subst (λ (r : ValueType). Valued r (folded_bin p f declared_type is_same_type o i e g)) a.is
      (integer_there (binary_result o i) (folded_bin p f declared_type is_same_type o i e g)
      (folded (binary_result o i) (binary_constant p.target o i (constant_in (form_of e)) (constant_in (form_of g))) (Bin o i e g) (binary_fits o i p.target (constant_in (form_of e)) (constant_in (form_of g)))
      (type-Bin v locals o i e g x.0 y.0 (Some (Integer (binary_result o i))) x.1 y.1 (b.1 ∙ ap Some (sym c.is)))))

  conversion_typed : (i : IntType) (t r : ValueType) (e : Expr) → Valued t e → conversion_type i t ≡ Some r → Valued r (folded_conv p f declared_type is_same_type i e)
  conversion_typed i t r e x h =
      let a = passes (is_integer t) (Integer i) r h in
      let b = conversion_follows p.structures p.target i t x.0 x.2 r h in
      let c = passes (is_integer x.0) (Integer i) b.0 b.1 in
      subst (λ (r : ValueType). Valued r (folded_conv p f declared_type is_same_type i e)) a.is
      (integer_there i (folded_conv p f declared_type is_same_type i e) (folded i (converted_constant p.target i (constant_in (form_of e))) (Conv i e) (converted_fits i p.target (constant_in (form_of e)))
      (type-Conv v locals i e x.0 (Some (Integer i)) x.1 (b.1 ∙ ap Some (sym c.is)))))

  -- ---- statements

  do_sound : (x : Expr) (t : ValueType) → new x ≡ Some t → Sound (Do x)
  do_sound x t h b c = ap (λ (s : Stmt). sound p.target new result s b c) (sym (rolls-Do x)) ∙ ap (λ (g : SoundWhere). g b c) (sound-roll p.target new result (is.Do x)) ∙ ap is_some h

  assign_sound : (a : Place) (at : PlaceType) (to t : ValueType) (e : Expr) → new_place a ≡ Some at → written_to at ≡ Some to → is_assignable to t ≡ true → Valued t e → Sound (Do (Assign a e))
  assign_sound a at to t e h w k x = do_sound (Assign a e) to (type-Assign v locals a e at to x.0 (Some to) h w x.1 (when_one (is_assignable to x.0) to (assigned_reduced to x.0 t x.2 k)))

  all_sound : (xs : List Stmt) (b c : Bool) → Each Sound xs → list_all (λ (s : SoundWhere). s b c) (map (sound p.target new result) xs) ≡ true
  all_sound [] b c h = refl
  all_sound (s ∷ xs) b c h = two (sound p.target new result s b c) (list_all (λ (s : SoundWhere). s b c) (map (sound p.target new result) xs)) (h.0 b c) (all_sound xs b c h.1)

  if_sound : (t : ValueType) (e : Expr) (xs ys : List Stmt) → is_scalar t ≡ true → Valued t e → Each Sound xs → Each Sound ys → Sound (If e xs ys)
  if_sound t e xs ys s x h k b c =
      ap (λ (s : Stmt). sound p.target new result s b c) (sym (rolls-If e xs ys)) ∙ ap (λ (g : SoundWhere). g b c) (sound-roll p.target new result (is.If e xs ys))
      ∙ two (is_condition (new e)) (list_all (λ (s : SoundWhere). s b c) (map (sound p.target new result) xs) && list_all (λ (s : SoundWhere). s b c) (map (sound p.target new result) ys))
      (ap is_condition x.1 ∙ scalar_reduced x.0 t x.2 s)
      (two (list_all (λ (s : SoundWhere). s b c) (map (sound p.target new result) xs)) (list_all (λ (s : SoundWhere). s b c) (map (sound p.target new result) ys)) (all_sound xs b c h) (all_sound ys b c k))

  -- ---- calls

  reduced_function : (u t : ValueType) (s : Sig) → Reduced u t → t ≡ ToFunction s → u ≡ ToFunction s
  reduced_function _ _ s (Unused u) e = absurd (cc)
  reduced_function _ _ s (Integers i) e = absurd (cc)
  reduced_function _ _ s (Pointers c x t c' x' u a k l) e = absurd (cc)
  reduced_function _ _ s (Functions g) e = e

  arguments_fit : (ts : List CType) (es : List Expr) → AllVal p f reading ts es → are_assignable ts (map new es) ≡ true
  arguments_fit _ _ NoneLeft = refl
  arguments_fit _ _ (More t u e ts es k x rest) =
      two (is_assignable_some (scalar_value t) (new e)) (are_assignable ts (map new es)) (ap (is_assignable_some (scalar_value t)) x.1 ∙ some_fits (scalar_value t) u x.0 x.2 k) (arguments_fit ts es rest)

  call_typed : (t r : ValueType) (h : Expr) (ts : List CType) (es : List Expr) → Valued t h → CallOf t ts r → AllVal p f reading ts es → Valued r (Call h es)
  call_typed _ _ h _ es x (OfSig sig r e) a =
      (r, type-Call v locals h es (ToFunction sig) (Some r) (x.1 ∙ ap Some (reduced_function x.0 (ToFunction sig) sig x.2 refl)) (ap (λ (b : Bool). if b then result_value (out-Sig sig).result else None) (arguments_fit (out-Sig sig).params es a) ∙ e), reduced_itself r)

  intrinsic_typed : (i : Intrinsic) (r : ValueType) → intrinsic_type i None ≡ Some r → Valued r (Intr i None)
  intrinsic_typed i r h = (r, ap new (sym (rolls-Intr i None)) ∙ type-roll v locals (one.Intr i None) ∙ h, reduced_itself r)

  restore_typed : (i : Intrinsic) (t r : ValueType) (e : Expr) → Valued t e → intrinsic_type i (Some (Some t)) ≡ Some r → Valued r (Intr i (Some e))
  restore_typed i t r e x h =
      let g = restore_follows i (Some t) (new e) (λ u q. subst (λ (z : ValueType). Valued z e) (same_Some t u q) x) r h in
      (g.0, ap new (sym (rolls-Intr i (Some e))) ∙ type-roll v locals (one.Intr i (Some e)) ∙ g.1, g.2)

  -- ---- reads

  read_typed : (a : PlaceType) (t : ValueType) (b : Place) → Placed a b → read_from a ≡ Some t → Valued t (Load b)
  read_typed a t b x h = (t, type-Load v locals b x.0 (Some t) x.1 (read_reduced x.0 a x.2 t h), reduced_itself t)

  module _ (kept : (r : ℕ) (l : Named) → slice_get f.locals r ≡ Some l → slice_get locals r ≡ Some l) where
    pub reduces : ReducedLocals locals f.locals
    reduces = λ r d h. (d, kept r d h, record { one = alike_itself d.1; constant = implies_itself (is_const d.1); volatile = implies_itself (is_volatile d.1) })

    pub typed_laws : Laws p f reading
    typed_laws = record {
      parts = λ x h. anything x;
      place_parts = λ x h. anywhere x;
      itself = λ e t later h o k. reduced_typed v locals f.locals reduces e t h;
      place_itself = λ a t later h o k. reduced_place v locals f.locals reduces a t h;
      number = λ n i h. integer_there i (Const n i) (number_typed n i h);
      null = λ t h k. let n = null_typed v locals t h k in (n.own, n.typed, agree_reduced n.own t n.agrees);
      temporary = temp_typed;
      register = λ r a t h x k. read_typed a t (Local r) x k;
      address = λ a b z t x same d o h. let g = address_reduced x.0 a x.2 t h in (g.0, type-AddrOf v locals b x.0 (Some g.0) x.1 g.1, g.2);
      unary = unary_typed;
      binary = binary_typed;
      conversion = conversion_typed;
      qualified = λ c t r e x h. let g = qualified_follows p.structures p.target (pointer_type v c) t x.0 x.2 r h in (g.0, type-Qualify v locals c e x.0 (Some g.0) x.1 g.1, g.2);
      moved = λ t u r e g back x y h. let z = moved_follows p.structures p.target t x.0 u y.0 x.2 y.2 r h in (z.0, type-Move v locals e g back x.0 y.0 (Some z.0) x.1 y.1 z.1, z.2);
      gap = λ t u r e g x y h. let z = gap_follows p.structures p.target t x.0 u y.0 x.2 y.2 r h in (z.0, type-Gap v locals e g x.0 y.0 (Some z.0) x.1 y.1 z.1, z.2);
      compared = λ o t u r e g x y h. let z = comparison_follows p.structures p.target o t x.0 u y.0 x.2 y.2 r h in (z.0, type-Compare v locals o e g x.0 y.0 (Some z.0) x.1 y.1 z.1, z.2);
      element = λ a r t b e x y h. let z = subscript_follows p.structures p.target a x.0 t y.0 x.2 y.2 r h in (z.0, place-Element v locals b e x.0 y.0 (Some z.0) x.1 y.1 z.1, z.2);
      member = λ a r b m x h. let z = member_reduced p.structures m x.0 a x.2 r h in (z.0, place-Member v locals b m x.0 (Some z.0) x.1 z.1, z.2);
      pointed = λ t r e x h. let z = pointed_reduced x.0 t x.2 r h in (z.0, place-Deref v locals e x.0 (Some z.0) x.1 z.1, z.2);
      read = read_typed;
      called = λ t e x. x;
      call = λ t r h ts es k x o a. call_typed t r h ts es x o a;
      call_by = λ t r n ts es h s d o a. call_typed t r (temp n) ts es (temp_typed n t h s d) o a;
      callee = callee_declares v;
      intrinsic = intrinsic_typed;
      restore = restore_typed;
      put = λ n t e h x. assign_sound (Local n) h.place h.to t e h.placed h.writes h.fits x;
      put_right = λ n t e h x. assign_sound (Local n) h.place h.to t e h.placed h.writes h.fits x;
      assign = λ a to t b e x h k y. assign_sound b x.0 to t e x.1 (written_reduced x.0 a x.2 to h) k y;
      alone = λ t e x. do_sound e x.0 x.1;
      fork = if_sound;
      takes = temp_takes;
      takes_local = λ r a to t h x k q. record { place = x.0; to = to; placed = x.1; writes = written_reduced x.0 a x.2 to k; fits = q };
    }

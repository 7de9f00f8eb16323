-- Lowered calls and intrinsics.
use Rattle.std.proofs.Common.{◌≡◌, ℕ, Bool, true, false, ◌+◌, List, [], ◌∷◌, length, map, Option, Some, None, refl}
use Rattle.std.specs.Prelude.{if◌then◌else◌}
use Rattle.cc_program.specs.CcNum.declared.int_type.IntType.TheVariants as int
use Rattle.cc_lower_expressions.specs.Expressions.{Piece, emit, set, into, mapped, Lowers, from_one, from_two, all_args, arguments, call_of, by_temp, call, right_value, right_alone, whole_right, is_callee, intr_operand}
use Rattle.cc_lower_expressions.specs.Temporaries.{declared_type, is_same_type}
use Rattle.cc_program.specs.declared.expr.Expr.{Expr, Intr}
use Rattle.cc_program.specs.declared.expr.Expr.TheOpen as one
use Rattle.cc_program.specs.declared.expr.Intr.{Intr as Intrinsic}
use Rattle.cc_program.specs.declared.expr.Intr.TheVariants as intr
use Rattle.cc_program.specs.declared.func.Func.{Func}
use Rattle.cc_program.specs.declared.program.Program.{Program}
use Rattle.cc_program.specs.declared.stmt.Stmt.{Do}
use Rattle.cc_program.specs.declared.types.CType.{CType}
use Rattle.cc_program.specs.declared.types.Sig.{Sig, out-Sig}
use Rattle.cc_program.proofs.Each.{Each}
use Rattle.cc_eval.specs.CcSyntax.Effects.{Registers, also, effects_of}
use Rattle.cc_eval.specs.CcSyntax.Expressions.{of_one}
use Rattle.cc_eval.specs.CcSyntax.Forms.{form_of}
use Rattle.cc_eval.specs.CcSyntax.Operators.{call_type, intrinsic_type, is_of}
use Rattle.cc_eval.specs.CcSyntax.Values.{ValueType, NoValue, Integer, ToObject, ToFunction, is_scalar, is_assignable_some, are_assignable, scalar_value, result_value}
use Rattle.cc_lower_sound.proofs.Bools.{first_true, second_true}
use Rattle.cc_lower_sound.proofs.LoweringParts.{low}
use Rattle.cc_lower_sound.proofs.Pieces.{Any, IsGood, AreGood, Declared, each_append, declared_apart, gives_done, gives_bind, gives_emit, gives_into, gives_mapped, gives_both}
use Rattle.cc_lower_sound.proofs.Readings.{Reading, Laws, CallOf, OfSig, AllVal, NoneLeft, More, typed, Makes, IsLowered, takes_own}
use Rattle.cc_lower_sound.proofs.Scalars.{HasOne, has_one, passes, assigned_scalar, of_scalar}
use Rattle.cc_lower_sound.proofs.LoweredOperands.{Claim, At}
use Rattle.cc_lower_sound.proofs.LoweredPlaces.{whole_right_made}

-- what a call has a type by
pub record IsCall (t : ValueType) (args : List (Option ValueType)) (r : ValueType) : Type 0 where
  pub params : List CType
  pub of : CallOf t params r
  pub fit : are_assignable params args ≡ true
  pub scalar : is_scalar t ≡ true

call_by : (sig : Sig) (args : List (Option ValueType)) (r : ValueType) (b : Bool) → are_assignable (out-Sig sig).params args ≡ b → (if b then result_value (out-Sig sig).result else None) ≡ Some r → IsCall (ToFunction sig) args r
call_by sig args r true e h = record { params = (out-Sig sig).params; of = OfSig sig r h; fit = e; scalar = refl }
call_by sig args r false e h = absurd (cc)

pub is_call : (t : ValueType) (args : List (Option ValueType)) (r : ValueType) → call_type t args ≡ Some r → IsCall t args r
is_call NoValue args r h = absurd (cc)
is_call (Integer i) args r h = absurd (cc)
is_call (ToObject c v t) args r h = absurd (cc)
is_call (ToFunction sig) args r h = call_by sig args r (are_assignable (out-Sig sig).params args) refl h

-- an argument has a type, and it is a scalar
pub record IsArgument (to o : Option ValueType) : Type 0 where
  pub type : ValueType
  pub is : o ≡ Some type
  pub scalar : is_scalar type ≡ true
  pub fits : is_assignable_some to (Some type) ≡ true

pub is_argument : (to o : Option ValueType) → is_assignable_some to o ≡ true → IsArgument to o
is_argument None o h = absurd (cc)
is_argument (Some to) None h = absurd (cc)
is_argument (Some to) (Some t) h = record { type = t; is = refl; scalar = assigned_scalar to t h; fits = h }

-- the operand of an intrinsic
pub record IsRestored (i : Intrinsic) (o : Option ValueType) (r : ValueType) : Type 0 where
  pub type : ValueType
  pub is : o ≡ Some type
  pub scalar : is_scalar type ≡ true
  pub gives : intrinsic_type i (Some (Some type)) ≡ Some r

pub is_restored : (i : Intrinsic) (o : Option ValueType) (r : ValueType) → intrinsic_type i (Some o) ≡ Some r → IsRestored i o r
is_restored intr.Off o r h = absurd (cc)
is_restored intr.On o r h = absurd (cc)
is_restored intr.Save o r h = absurd (cc)
is_restored intr.Restore None r h = absurd (cc)
is_restored intr.Restore (Some t) r h = record { type = t; is = refl; scalar = of_scalar int.UChar t (passes (is_of int.UChar t) NoValue r h).test; gives = h }

module _ (p : Program) (f : Func) (w : Reading) (laws : Laws p f w) (standing : (e : Expr) (t : ValueType) → typed p f e ≡ Some t → w.stands t ≡ true) where
  -- ---- arguments

  abbrev Values : List CType → List Expr → Type 0
  Values ts es = AllVal p f w ts es

  arguments_made : (ts : List CType) (es : List Expr) → Each (Claim p f w laws) es → Each w.Old es → are_assignable ts (map (typed p f) es) ≡ true → (later : Registers) →
      Makes p f w (Unit {0}) (Values ts) (arguments (map (low p f) es) later)
  arguments_made [] [] c o h later = gives_done [] (λ q. NoneLeft)
  arguments_made (t ∷ ts) [] c o h later = absurd (cc)
  arguments_made [] (e ∷ es) c o h later = absurd (cc)
  arguments_made (t ∷ ts) (e ∷ es) c o h later =
      let x = is_argument (scalar_value t) (typed p f e) (first_true (is_assignable_some (scalar_value t) (typed p f e)) (are_assignable ts (map (typed p f) es)) h) in
      gives_both (λ x xs. x ∷ xs) ((low p f e).operand (also (all_args (map (low p f) es)) later)) (arguments (map (low p f) es) later)
      (λ y ys q v vs. More t x.type y ts ys x.fits v vs)
      ((c.0 x.type x.is o.0).operand x.scalar (also (all_args (map (low p f) es)) later))
      (arguments_made ts es c.1 o.1 (second_true (is_assignable_some (scalar_value t) (typed p f e)) (are_assignable ts (map (typed p f) es)) h) later)

  -- ---- what is called

  module _ (tg r : ValueType) (ts : List CType) (scalar : is_scalar tg ≡ true) (stands : w.declares tg ≡ true) (of : CallOf tg ts r) where
    abbrev Callee : Expr × List Expr → Type 0
    Callee x = w.Val tg x.0 × Values ts x.1

    abbrev called_if : Bool → Option ValueType → Piece (Expr × List Expr) → ℕ → Piece Expr
    called_if b o z k = if b then mapped (λ x. call_of p f declared_type is_same_type x.0 x.1) z else by_temp p f declared_type is_same_type o z (k + length z.temps)

    good_by : (b : Bool) (o : Option ValueType) (z : Piece (Expr × List Expr)) (k : ℕ) → o ≡ Some tg → AreGood w.declares z.temps → AreGood w.declares (called_if b o z k).temps
    good_by true o z k e h = h
    good_by false o z k e h = each_append (IsGood w.declares) z.temps (o ∷ []) h (record { type = tg; is = e; scalar = scalar; standing = stands }, tt)

    made_by : (b : Bool) (o : Option ValueType) (z : Piece (Expr × List Expr)) (k : ℕ) → is_callee f (form_of z.value.0) ≡ b → o ≡ Some tg → (Declared w.Temp k z.temps → Each w.Stm z.stmts × Callee z.value) →
        Declared w.Temp k (called_if b o z k).temps → Each w.Stm (called_if b o z k).stmts × w.Calls r (called_if b o z k).value
    made_by true o z k c e h d = let x = h d in (x.0, laws.call tg r z.value.0 ts z.value.1 c x.1.0 of x.1.1)
    made_by false o z k c e h d =
        let parts = declared_apart w.Temp k z.temps (o ∷ []) d in
        let n : ℕ = k + length z.temps in
        let x = h parts.0 in
        let t = parts.1.0 tg e in
        (each_append w.Stm z.stmts (set n z.value.0 ∷ []) x.0 (laws.put n tg z.value.0 (takes_own p f w laws n tg t scalar stands) x.1.0, tt), laws.call_by tg r n ts z.value.1 t scalar stands of x.1.1)

  module _ (g : Expr) (args : List Expr) (r : ValueType) (cg : Claim p f w laws g) (ca : Each (Claim p f w laws) args) (og : w.Old g) (oa : Each w.Old args)
      (k : of_one (typed p f g) (λ t. call_type t (map (typed p f) args)) ≡ Some r) where
    abbrev x : HasOne (typed p f g) (λ t. call_type t (map (typed p f) args)) r
    x = has_one (typed p f g) (λ t. call_type t (map (typed p f) args)) r k

    abbrev y : IsCall x.first (map (typed p f) args) r
    y = is_call x.first (map (typed p f) args) r x.gives

    declared : w.declares x.first ≡ true
    declared = laws.callee x.first r y.params y.of (standing g x.first x.is)

    operands_made : (later : Registers) → Makes p f w (Unit {0}) (Callee x.first r y.params y.scalar declared y.of)
        (from_two (λ e xs. (e, xs)) (all_args (map (low p f) args)) (low p f g).operand (arguments (map (low p f) args)) later)
    operands_made later =
        gives_both {U = Callee x.first r y.params y.scalar declared y.of} (λ e xs. (e, xs)) ((low p f g).operand (also (all_args (map (low p f) args)) later)) (arguments (map (low p f) args) later) (λ e xs q v vs. (v, vs))
        ((cg x.first x.is og).operand y.scalar (also (all_args (map (low p f) args)) later)) (arguments_made y.params args ca oa y.fit later)

    pub call_made : (later : Registers) → Makes p f w (Unit {0}) (w.Calls r) (call p f declared_type is_same_type (low p f g) (map (low p f) args) later)
    call_made later =
        let h = operands_made later in
        let e = (cg x.first x.is og).ctype in
        let m = from_two (λ e xs. (e, xs)) (all_args (map (low p f) args)) (low p f g).operand (arguments (map (low p f) args)) later in
        record {
          good = λ n. good_by x.first r y.params y.scalar declared y.of (is_callee f (form_of (m n).value.0)) (low p f g).ctype (m n) n e (h.good n);
          made = λ n q d. made_by x.first r y.params y.scalar declared y.of (is_callee f (form_of (m n).value.0)) (low p f g).ctype (m n) n refl e (h.made n q) d;
        }

  -- ---- a right side, in three modes

  module _ (right : Lowers Expr) (t : ValueType) (m : (later : Registers) → Makes p f w (Unit {0}) (w.Calls t) (right later)) where
    right_value_made : is_scalar t ≡ true → w.declares t ≡ true → (later : Registers) → Makes p f w (Unit {0}) (w.Val t) (right_value (Some t) right later)
    right_value_made s st later =
        gives_bind (right later) (into (Some t)) (m later)
        (λ e. gives_into {V = w.Val t} (Some t) t e refl s st (λ q n d. (laws.put_right n t e (takes_own p f w laws n t d s st) (laws.called t e q.1), laws.temporary n t d s st)))

    right_alone_made : (later : Registers) → Makes p f w (Unit {0}) Any (right_alone right later)
    right_alone_made later = gives_bind (right later) (λ e. emit (Do e)) (m later) (λ e. gives_emit (Do e) (λ q. laws.alone t e q.1))

    as_right : (later : Registers) → Makes p f w (Unit {0}) (w.Right t) (right later)
    as_right later = record { good = (m later).good; made = λ k q d. let z = (m later).made k q d in (z.0, laws.called t (right later k).value z.1) }

    pub modes : (e : Expr) → w.declares t ≡ true →
        IsLowered p f w t (record { itself = e; ctype = Some t; effects = effects_of f e; operand = right_value (Some t) right; whole = whole_right p f declared_type is_same_type (Some t) right; effect = right_alone right })
    modes e st = record {
      ctype = refl;
      operand = λ s later. right_value_made s st later;
      whole = λ s o n later. whole_right_made p f w laws t s st (Some t) right refl o n later (as_right later);
      effect = λ later. right_alone_made later;
    }

  -- ---- kinds of expressions

  pub at-Call : (g : Expr) (args : List Expr) (t : ValueType) (e : Expr) → Claim p f w laws g → Each (Claim p f w laws) args → w.Old g → Each w.Old args → w.declares t ≡ true →
      of_one (typed p f g) (λ t. call_type t (map (typed p f) args)) ≡ Some t → At p f w laws t e (one.Call g args)
  at-Call g args t e cg ca og oa h k = modes (call p f declared_type is_same_type (low p f g) (map (low p f) args)) t (call_made g args t cg ca og oa k) e h

  pub at-Intr : (i : Intrinsic) (t : ValueType) (e : Expr) → w.declares t ≡ true → intrinsic_type i None ≡ Some t → At p f w laws t e (one.Intr i None)
  at-Intr i t e h k =
      modes (from_one (Intr i) (intr_operand None)) t (λ later. gives_done (Intr i None) (λ q. laws.intrinsic i t k)) e h

  pub at-Restore : (i : Intrinsic) (a : Expr) (t : ValueType) (e : Expr) → Claim p f w laws a → w.Old a → w.declares t ≡ true → intrinsic_type i (Some (typed p f a)) ≡ Some t → At p f w laws t e (one.Intr i (Some a))
  at-Restore i a t e ca oa h k =
      let x = is_restored i (typed p f a) t k in
      modes (from_one (Intr i) (intr_operand (Some (low p f a)))) t
      (λ later. gives_mapped (λ v. Intr i (Some v)) (λ v q u. laws.restore i x.type t v u x.gives) ((ca x.type x.is oa).operand x.scalar later)) e h

-- What lowering makes is in normal form, where the source is folded: operands are pure and folded, and each statement is normal.
use Rattle.std.proofs.Common.{◌≡◌, ◌⊎◌, inl, inr, ℕ, ℤ, Bool, true, false, not, ◌&&◌, ◌||◌, List, [], ◌∷◌, map, Option, Some, None, is_some, refl, ap, sym, ◌∙◌, subst, if◌then◌else◌}
use Rattle.std.specs.List.{list_all}
use Rattle.cc_program.specs.CcNum.declared.int_type.IntType.{IntType}
use Rattle.cc_program.specs.CcNum.declared.op.BinOp.{BinOp}
use Rattle.cc_program.specs.CcNum.declared.op.UnOp.{UnOp}
use Rattle.cc_program.specs.CcNum.declared.target.Target.{Target}
use Rattle.cc_lower_expressions.specs.Expressions.{temp, set, constant_in, constant_or, binary_type, is_callee as is_lowered_callee}
use Rattle.cc_operands.specs.Operands.{null_of}
use Rattle.cc_operands.specs.Qualified.{type_of_value}
use Rattle.cc_program.specs.declared.expr.Expr.{Expr, Const, Load, AddrOf, Un, Bin, Conv, Qualify, Move, Gap, Compare, Assign, Call, Intr, roll-Expr, out-Expr, out-roll-Expr, roll-out-Expr, map-Expr, fold-roll-Expr}
use Rattle.cc_program.specs.declared.expr.Expr.TheOpen as one
use Rattle.cc_program.specs.declared.expr.Expr.TheVariants.{rolls-Const, rolls-Null, rolls-Load, rolls-AddrOf, rolls-Un, rolls-Bin, rolls-Conv, rolls-Qualify, rolls-Move, rolls-Gap, rolls-Compare, rolls-Assign, rolls-Call, rolls-Intr}
use Rattle.cc_program.specs.declared.expr.Place.{Place, Local, Element, Member, Deref, roll-Place, map-Place, fold-roll-Place}
use Rattle.cc_program.specs.declared.expr.Place.TheVariants.{rolls-Local, rolls-Element, rolls-Member, rolls-Deref}
use Rattle.cc_program.specs.declared.func.Func.{Func}
use Rattle.cc_program.specs.declared.program.Program.{Program}
use Rattle.cc_program.specs.declared.stmt.Stmt.{Stmt, Do, If, roll-Stmt, map-Stmt, fold-roll-Stmt}
use Rattle.cc_program.specs.declared.stmt.Case.{Case, fold-Case}
use Rattle.cc_program.specs.declared.stmt.Stmt.TheVariants.{rolls-Do, rolls-If}
use Rattle.cc_program.specs.declared.stmt.Stmt.TheOpen as is
use Rattle.cc_program.specs.declared.types.CType.{CType}
use Rattle.cc_program.proofs.Each.{Each}
use Rattle.cc_program.proofs.ExprInduction.{Parts, PlaceParts, by_expr, by_place}
use Rattle.cc_eval.specs.CcSyntax.Effects.{Registers, no_one, is_soft, Effects, PlaceEffects, effects_of, place_effects_of, effect_step, place_effect_step}
use Rattle.cc_eval.specs.CcSyntax.Folding.{Constant, NoConstant, Value, Traps, Folding, has_value, unary_constant, binary_constant, converted_constant, folding_step, place_folding_step, folding_of, is_folded, is_folded_place, constant_of}
use Rattle.cc_eval.specs.CcSyntax.Forms.{Form, ConstantForm, FunctionForm, LoadForm, AssignForm, CallForm, IntrinsicForm, OtherForm, form_at, form_of}
use Rattle.cc_eval.specs.CcSyntax.Normal.{is_operand, is_register_place, is_other_place, is_callee, is_call, is_place_read, is_assignment, is_expression_statement, normal_step, is_normal_stmt}
use Rattle.cc_eval.specs.CcSyntax.Operators.{unary_result}
use Rattle.cc_eval.specs.CcSyntax.Registers.{is_register}
use Rattle.cc_lower_sound.proofs.Bools.{two, first_true, second_true}
use Rattle.cc_lower_sound.proofs.LoweredOperands.{effects-roll}
use Rattle.cc_lower_sound.proofs.LoweredPlaces.{place-effects-roll}
use Rattle.cc_lower_sound.proofs.Readings.{Reading, Laws, AllVal, NoneLeft, More}

-- ---- folding, opened

module _ (target : Target) where
  abbrev folding_at : one.Expr-F Expr Place → Folding
  folding_at x = folding_step target (map-Expr Expr Place Folding Bool (folding_of target) (is_folded_place target) x)

  abbrev place_folding_at : one.Place-F Expr Place → Bool
  place_folding_at x = place_folding_step target (map-Place Expr Place Folding Bool (folding_of target) (is_folded_place target) x)

  pub folding-roll : (x : one.Expr-F Expr Place) → folding_of target (roll-Expr x) ≡ folding_at x
  unfolding folding_of is_folded_place
  folding-roll x = fold-roll-Expr Folding Bool (folding_step target) (place_folding_step target) x

  pub place-folding-roll : (x : one.Place-F Expr Place) → is_folded_place target (roll-Place x) ≡ place_folding_at x
  unfolding folding_of is_folded_place
  place-folding-roll x = fold-roll-Place Folding Bool (folding_step target) (place_folding_step target) x

  -- a folded expression is a constant, or no integer constant expression with a value
  abbrev IsLiteral : Expr → Type 0
  IsLiteral e = (constant_of target e ≡ constant_in (form_of e)) ⊎ (has_value (constant_of target e) ≡ false)

  no_value : (parts value : Bool) → parts && not value ≡ true → value ≡ false
  no_value true true h = absurd (cc)
  no_value true false h = refl
  no_value false value h = absurd (cc)

  literal_at : (x : one.Expr-F Expr Place) → (folding_at x).is_folded ≡ true → ((folding_at x).constant ≡ constant_in (form_at x)) ⊎ (has_value (folding_at x).constant ≡ false)
  literal_at (one.Const n t) h = inl refl
  literal_at (one.Null t) h = inr refl
  literal_at (one.FuncAddr f) h = inr refl
  literal_at (one.Load a) h = inr refl
  literal_at (one.AddrOf a) h = inr refl
  literal_at (one.Un o t a) h = inr (no_value _ _ h)
  literal_at (one.Bin o t a b) h = inr (no_value _ _ h)
  literal_at (one.Conv t a) h = inr (no_value _ _ h)
  literal_at (one.Qualify t a) h = inr refl
  literal_at (one.Move a b back) h = inr refl
  literal_at (one.Gap a b) h = inr refl
  literal_at (one.Compare o a b) h = inr refl
  literal_at (one.Both a b) h = inr (no_value _ _ h)
  literal_at (one.Either a b) h = inr (no_value _ _ h)
  literal_at (one.Choose c a b) h = inr (no_value _ _ h)
  literal_at (one.Assign a e) h = inr refl
  literal_at (one.Change a o t e) h = inr refl
  literal_at (one.After a down) h = inr refl
  literal_at (one.Call f args) h = inr refl
  literal_at (one.Intr i a) h = inr refl
  literal_at (one.Seq a b) h = inr refl

  literal_by : (e : Expr) (x : one.Expr-F Expr Place) → roll-Expr x ≡ e → is_folded target e ≡ true → IsLiteral e
  literal_by e x r h =
      subst IsLiteral r
      (subst (λ (z : Folding). (z.constant ≡ constant_in (form_of (roll-Expr x))) ⊎ (has_value z.constant ≡ false)) (sym (folding-roll x))
      (subst (λ (y : one.Expr-F Expr Place). ((folding_at x).constant ≡ constant_in (form_at y)) ⊎ (has_value (folding_at x).constant ≡ false)) (sym (out-roll-Expr x))
      (literal_at x (ap (λ (z : Folding). z.is_folded) (sym (folding-roll x)) ∙ ap (is_folded target) r ∙ h))))

  literal : (e : Expr) → is_folded target e ≡ true → IsLiteral e
  literal e h = literal_by e (out-Expr e) (roll-out-Expr e) h

  -- ---- an operator that is not folded has no value

  unary_none : (o : UnOp) (i : IntType) (c : Constant) → has_value c ≡ false → has_value (unary_constant target o i c) ≡ false
  unary_none o i NoConstant h = refl
  unary_none o i (Value n) h = absurd (cc)
  unary_none o i Traps h = refl

  unary_unfolded : (o : UnOp) (i : IntType) (e : Expr) → is_folded target e ≡ true → has_value (unary_constant target o i (constant_in (form_of e))) ≡ false → has_value (unary_constant target o i (constant_of target e)) ≡ false
  unary_unfolded o i e h k = by_literal (literal e h)
    where
      by_literal : IsLiteral e → has_value (unary_constant target o i (constant_of target e)) ≡ false
      by_literal (inl l) = ap (λ (c : Constant). has_value (unary_constant target o i c)) l ∙ k
      by_literal (inr l) = unary_none o i (constant_of target e) l

  converted_none : (i : IntType) (c : Constant) → has_value c ≡ false → has_value (converted_constant target i c) ≡ false
  converted_none i NoConstant h = refl
  converted_none i (Value n) h = absurd (cc)
  converted_none i Traps h = refl

  converted_unfolded : (i : IntType) (e : Expr) → is_folded target e ≡ true → has_value (converted_constant target i (constant_in (form_of e))) ≡ false → has_value (converted_constant target i (constant_of target e)) ≡ false
  converted_unfolded i e h k = by_literal (literal e h)
    where
      by_literal : IsLiteral e → has_value (converted_constant target i (constant_of target e)) ≡ false
      by_literal (inl l) = ap (λ (c : Constant). has_value (converted_constant target i c)) l ∙ k
      by_literal (inr l) = converted_none i (constant_of target e) l

  left_none : (o : BinOp) (i : IntType) (a b : Constant) → has_value a ≡ false → has_value (binary_constant target o i a b) ≡ false
  left_none o i NoConstant b h = refl
  left_none o i (Value n) b h = absurd (cc)
  left_none o i Traps NoConstant h = refl
  left_none o i Traps (Value n) h = refl
  left_none o i Traps Traps h = refl

  right_none : (o : BinOp) (i : IntType) (a b : Constant) → has_value b ≡ false → has_value (binary_constant target o i a b) ≡ false
  right_none o i NoConstant b h = refl
  right_none o i (Value n) NoConstant h = refl
  right_none o i (Value n) (Value m) h = absurd (cc)
  right_none o i (Value n) Traps h = refl
  right_none o i Traps NoConstant h = refl
  right_none o i Traps (Value m) h = absurd (cc)
  right_none o i Traps Traps h = refl

  binary_unfolded : (o : BinOp) (i : IntType) (e g : Expr) → is_folded target e ≡ true → is_folded target g ≡ true → has_value (binary_constant target o i (constant_in (form_of e)) (constant_in (form_of g))) ≡ false →
      has_value (binary_constant target o i (constant_of target e) (constant_of target g)) ≡ false
  binary_unfolded o i e g h z k = by_literals (literal e h) (literal g z)
    where
      by_literals : IsLiteral e → IsLiteral g → has_value (binary_constant target o i (constant_of target e) (constant_of target g)) ≡ false
      by_literals (inl l) (inl m) = ap (λ (c : Constant). has_value (binary_constant target o i c (constant_of target g))) l ∙ ap (λ (c : Constant). has_value (binary_constant target o i (constant_in (form_of e)) c)) m ∙ k
      by_literals (inr l) m = left_none o i (constant_of target e) (constant_of target g) l
      by_literals (inl l) (inr m) = right_none o i (constant_of target e) (constant_of target g) m

soft_register : (o : Option ℕ) (later : Registers) → is_soft o later ≡ true → (r : ℕ) × (o ≡ Some r)
soft_register None later h = absurd (cc)
soft_register (Some r) later h = (r, refl)

module _ (p : Program) (f g : Func) (kept : (r : ℕ) → is_register f r ≡ true → is_register g r ≡ true) where
  abbrev target : Target
  target = p.target

  -- ---- what is pure stays so

  abbrev Pure : Expr → Type 0
  Pure e = (later : Registers) → (effects_of f e).pure later ≡ true → (effects_of g e).pure no_one ≡ true

  pub record PurePlace (a : Place) : Type 0 where
    pub pure : (later : Registers) → (place_effects_of f a).pure later ≡ true → (place_effects_of g a).pure no_one ≡ true
    pub register : (r : ℕ) → (place_effects_of f a).register ≡ Some r → (place_effects_of g a).register ≡ Some r

  abbrev effects_at : Func → one.Expr-F Expr Place → Effects
  effects_at h x = effect_step (map-Expr Expr Place Effects PlaceEffects (effects_of h) (place_effects_of h) x)

  abbrev place_effects_at : Func → one.Place-F Expr Place → PlaceEffects
  place_effects_at h x = place_effect_step h (map-Place Expr Place Effects PlaceEffects (effects_of h) (place_effects_of h) x)

  pair_pure : (a b : Expr) → Pure a → Pure b → (later : Registers) → (effects_of f a).pure later && (effects_of f b).pure later ≡ true → (effects_of g a).pure no_one && (effects_of g b).pure no_one ≡ true
  pair_pure a b ha hb later h =
      two ((effects_of g a).pure no_one) ((effects_of g b).pure no_one) (ha later (first_true ((effects_of f a).pure later) ((effects_of f b).pure later) h)) (hb later (second_true ((effects_of f a).pure later) ((effects_of f b).pure later) h))

  pure_at : (x : one.Expr-F Expr Place) → Parts Pure PurePlace x → (later : Registers) → (effects_at f x).pure later ≡ true → (effects_at g x).pure no_one ≡ true
  pure_at (one.Const n t) q later h = refl
  pure_at (one.Null t) q later h = refl
  pure_at (one.FuncAddr i) q later h = refl
  pure_at (one.Load a) q later h = let r = soft_register (place_effects_of f a).register later h in ap (λ (o : Option ℕ). is_soft o no_one) (q.register r.0 r.1)
  pure_at (one.AddrOf a) q later h = q.pure later h
  pure_at (one.Un o t a) q later h = q later h
  pure_at (one.Bin o t a b) q later h = pair_pure a b q.0 q.1 later h
  pure_at (one.Conv t a) q later h = q later h
  pure_at (one.Qualify t a) q later h = q later h
  pure_at (one.Move a b back) q later h = pair_pure a b q.0 q.1 later h
  pure_at (one.Gap a b) q later h = pair_pure a b q.0 q.1 later h
  pure_at (one.Compare o a b) q later h = pair_pure a b q.0 q.1 later h
  pure_at (one.Both a b) q later h = pair_pure a b q.0 q.1 later h
  pure_at (one.Either a b) q later h = pair_pure a b q.0 q.1 later h
  pure_at (one.Choose c a b) q later h =
      two ((effects_of g c).pure no_one) ((effects_of g a).pure no_one && (effects_of g b).pure no_one)
      (q.0 later (first_true ((effects_of f c).pure later) ((effects_of f a).pure later && (effects_of f b).pure later) h))
      (pair_pure a b q.1 q.2 later (second_true ((effects_of f c).pure later) ((effects_of f a).pure later && (effects_of f b).pure later) h))
  pure_at (one.Assign a e) q later h = absurd (cc)
  pure_at (one.Change a o t e) q later h = absurd (cc)
  pure_at (one.After a down) q later h = absurd (cc)
  pure_at (one.Call i args) q later h = absurd (cc)
  pure_at (one.Intr i a) q later h = absurd (cc)
  pure_at (one.Seq a b) q later h = absurd (cc)

  register_by : (s r : ℕ) (b : Bool) → is_register f s ≡ b → (if b then Some s else None) ≡ Some r → (if is_register g s then Some s else None) ≡ Some r
  register_by s r true e h = ap (λ (b : Bool). if b then Some s else None) (kept s e) ∙ h
  register_by s r false e h = absurd (cc)

  place_pure_at : (x : one.Place-F Expr Place) → PlaceParts Pure PurePlace x → (later : Registers) → (place_effects_at f x).pure later ≡ true → (place_effects_at g x).pure no_one ≡ true
  place_pure_at (one.Local s) q later h = refl
  place_pure_at (one.Static i) q later h = refl
  place_pure_at (one.Device i) q later h = refl
  place_pure_at (one.Element a i) q later h =
      two ((place_effects_of g a).pure no_one) ((effects_of g i).pure no_one) (q.0.pure later (first_true ((place_effects_of f a).pure later) ((effects_of f i).pure later) h)) (q.1 later (second_true ((place_effects_of f a).pure later) ((effects_of f i).pure later) h))
  place_pure_at (one.Member a m) q later h = q.pure later h
  place_pure_at (one.Deref e) q later h = q later h

  place_register_at : (x : one.Place-F Expr Place) (r : ℕ) → (place_effects_at f x).register ≡ Some r → (place_effects_at g x).register ≡ Some r
  place_register_at (one.Local s) r h = register_by s r (is_register f s) refl h
  place_register_at (one.Static i) r h = absurd (cc)
  place_register_at (one.Device i) r h = absurd (cc)
  place_register_at (one.Element a i) r h = absurd (cc)
  place_register_at (one.Member a m) r h = absurd (cc)
  place_register_at (one.Deref e) r h = absurd (cc)

  pure_level : (x : one.Expr-F Expr Place) → Parts Pure PurePlace x → Pure (roll-Expr x)
  pure_level x q later h = ap (λ (z : Effects). z.pure no_one) (effects-roll p g x) ∙ pure_at x q later (ap (λ (z : Effects). z.pure later) (sym (effects-roll p f x)) ∙ h)

  pure_place_level : (x : one.Place-F Expr Place) → PlaceParts Pure PurePlace x → PurePlace (roll-Place x)
  pure_place_level x q = record {
    pure = λ later h. ap (λ (z : PlaceEffects). z.pure no_one) (place-effects-roll p g x) ∙ place_pure_at x q later (ap (λ (z : PlaceEffects). z.pure later) (sym (place-effects-roll p f x)) ∙ h);
    register = λ r h. ap (λ (z : PlaceEffects). z.register) (place-effects-roll p g x) ∙ place_register_at x r (ap (λ (z : PlaceEffects). z.register) (sym (place-effects-roll p f x)) ∙ h);
  }

  pure_kept : (e : Expr) → Pure e
  pure_kept = by_expr Pure PurePlace pure_level pure_place_level

  pure_place_kept : (a : Place) → PurePlace a
  pure_place_kept = by_place Pure PurePlace pure_level pure_place_level

  -- ---- the reading

  abbrev pub Operand : Expr → Type 0
  Operand e = is_operand target g e ≡ true

  abbrev NormalPlace : Place → Type 0
  NormalPlace a = (place_effects_of g a).pure no_one && is_folded_place target a ≡ true

  abbrev pub IsNormal : Stmt → Type 0
  IsNormal s = is_normal_stmt target g s ≡ true

  abbrev pub normal_reading : Reading
  normal_reading = record {
    Val = λ t e. Operand e;
    Pla = λ t a. NormalPlace a;
    Right = λ t e. is_operand target g e || (is_place_read target g (form_of e) || is_call target g (form_of e)) ≡ true;
    Calls = λ t e. is_call target g (form_of e) ≡ true;
    Stm = IsNormal;
    Temp = λ n t. is_register g n ≡ true;
    Takes = λ n t. is_register g n ≡ true;
    Old = λ e. is_folded target e ≡ true;
    OldPlace = λ a. is_folded_place target a ≡ true;
    stands = λ t. true;
    declares = λ t. true;
  }

  -- ---- operands

  abbrev folding_here : one.Expr-F Expr Place → Folding
  folding_here x = folding_at target x

  operand : (e : Expr) (x : one.Expr-F Expr Place) → roll-Expr x ≡ e → (effects_at g x).pure no_one ≡ true → (folding_here x).is_folded ≡ true → Operand e
  operand e x r h k =
      subst Operand r (two ((effects_of g (roll-Expr x)).pure no_one) (is_folded target (roll-Expr x)) (ap (λ (z : Effects). z.pure no_one) (effects-roll p g x) ∙ h) (ap (λ (z : Folding). z.is_folded) (folding-roll target x) ∙ k))

  pure_of : (e : Expr) → Operand e → (effects_of g e).pure no_one ≡ true
  pure_of e h = first_true ((effects_of g e).pure no_one) (is_folded target e) h

  folded_of : (e : Expr) → Operand e → is_folded target e ≡ true
  folded_of e h = second_true ((effects_of g e).pure no_one) (is_folded target e) h

  pure_both : (a b : Expr) → Operand a → Operand b → (effects_of g a).pure no_one && (effects_of g b).pure no_one ≡ true
  pure_both a b h k = two ((effects_of g a).pure no_one) ((effects_of g b).pure no_one) (pure_of a h) (pure_of b k)

  folded_both : (a b : Expr) → Operand a → Operand b → is_folded target a && is_folded target b ≡ true
  folded_both a b h k = two (is_folded target a) (is_folded target b) (folded_of a h) (folded_of b k)

  number_normal : (n : ℤ) (i : IntType) → Operand (Const n i)
  number_normal n i = operand (Const n i) (one.Const n i) (rolls-Const n i) refl refl

  register-is : (n : ℕ) → is_register g n ≡ true → (place_effects_of g (Local n)).register ≡ Some n
  register-is n h = ap (λ (a : Place). (place_effects_of g a).register) (sym (rolls-Local n)) ∙ ap (λ (z : PlaceEffects). z.register) (place-effects-roll p g (one.Local n)) ∙ ap (λ (b : Bool). if b then Some n else None) h

  local_folded : (n : ℕ) → is_folded_place target (Local n) ≡ true
  local_folded n = ap (is_folded_place target) (sym (rolls-Local n)) ∙ place-folding-roll target (one.Local n)

  -- the value of a register
  read_register : (a : Place) (r : ℕ) → (place_effects_of g a).register ≡ Some r → is_folded_place target a ≡ true → Operand (Load a)
  read_register a r h k = operand (Load a) (one.Load a) (rolls-Load a) (ap (λ (o : Option ℕ). is_soft o no_one) h) k

  temp_normal : (n : ℕ) → is_register g n ≡ true → Operand (temp n)
  temp_normal n h = read_register (Local n) n (register-is n h) (local_folded n)

  unfolded : (parts value : Bool) → parts ≡ true → value ≡ false → parts && not value ≡ true
  unfolded parts value h k = two parts (not value) h (ap not k)

  unary_by : (o : UnOp) (i : IntType) (e : Expr) (c : Constant) → unary_constant target o i (constant_in (form_of e)) ≡ c → Operand e → Operand (constant_or (unary_result o i) c (Un o i e))
  unary_by o i e NoConstant h k =
      operand (Un o i e) (one.Un o i e) (rolls-Un o i e) (pure_of e k) (unfolded (is_folded target e) (has_value (unary_constant target o i (constant_of target e))) (folded_of e k) (unary_unfolded target o i e (folded_of e k) (ap has_value h)))
  unary_by o i e (Value n) h k = number_normal n (unary_result o i)
  unary_by o i e Traps h k =
      operand (Un o i e) (one.Un o i e) (rolls-Un o i e) (pure_of e k) (unfolded (is_folded target e) (has_value (unary_constant target o i (constant_of target e))) (folded_of e k) (unary_unfolded target o i e (folded_of e k) (ap has_value h)))

  converted_by : (i : IntType) (e : Expr) (c : Constant) → converted_constant target i (constant_in (form_of e)) ≡ c → Operand e → Operand (constant_or i c (Conv i e))
  converted_by i e NoConstant h k =
      operand (Conv i e) (one.Conv i e) (rolls-Conv i e) (pure_of e k) (unfolded (is_folded target e) (has_value (converted_constant target i (constant_of target e))) (folded_of e k) (converted_unfolded target i e (folded_of e k) (ap has_value h)))
  converted_by i e (Value n) h k = number_normal n i
  converted_by i e Traps h k =
      operand (Conv i e) (one.Conv i e) (rolls-Conv i e) (pure_of e k) (unfolded (is_folded target e) (has_value (converted_constant target i (constant_of target e))) (folded_of e k) (converted_unfolded target i e (folded_of e k) (ap has_value h)))

  binary_operand : (o : BinOp) (i : IntType) (a b : Expr) → Operand a → Operand b → has_value (binary_constant target o i (constant_in (form_of a)) (constant_in (form_of b))) ≡ false → Operand (Bin o i a b)
  binary_operand o i a b h k z =
      operand (Bin o i a b) (one.Bin o i a b) (rolls-Bin o i a b) (pure_both a b h k)
      (unfolded (is_folded target a && is_folded target b) (has_value (binary_constant target o i (constant_of target a) (constant_of target b))) (folded_both a b h k) (binary_unfolded target o i a b (folded_of a h) (folded_of b k) z))

  binary_by : (o : BinOp) (i : IntType) (a b : Expr) (c : Constant) → binary_constant target o i (constant_in (form_of a)) (constant_in (form_of b)) ≡ c → Operand a → Operand b → Operand (constant_or (binary_type o i) c (Bin o i a b))
  binary_by o i a b NoConstant e h k = binary_operand o i a b h k (ap has_value e)
  binary_by o i a b (Value n) e h k = number_normal n (binary_type o i)
  binary_by o i a b Traps e h k = binary_operand o i a b h k (ap has_value e)

  -- ---- places

  normal_place : (a : Place) (x : one.Place-F Expr Place) → roll-Place x ≡ a → (place_effects_at g x).pure no_one ≡ true → place_folding_at target x ≡ true → NormalPlace a
  normal_place a x r h k =
      subst NormalPlace r (two ((place_effects_of g (roll-Place x)).pure no_one) (is_folded_place target (roll-Place x)) (ap (λ (z : PlaceEffects). z.pure no_one) (place-effects-roll p g x) ∙ h) (place-folding-roll target x ∙ k))

  pure_place : (a : Place) → NormalPlace a → (place_effects_of g a).pure no_one ≡ true
  pure_place a h = first_true ((place_effects_of g a).pure no_one) (is_folded_place target a) h

  folded_place : (a : Place) → NormalPlace a → is_folded_place target a ≡ true
  folded_place a h = second_true ((place_effects_of g a).pure no_one) (is_folded_place target a) h

  -- ---- right sides

  form-is : (e : Expr) (x : one.Expr-F Expr Place) → roll-Expr x ≡ e → form_of e ≡ form_at x
  form-is e x r = ap form_of (sym r) ∙ ap form_at (out-roll-Expr x)

  first_or : (a b c : Bool) → a ≡ true → a || (b || c) ≡ true
  first_or a b c h = rw h refl

  second_or : (a b c : Bool) → b ≡ true → a || (b || c) ≡ true
  second_or true b c h = refl
  second_or false b c h = rw h refl

  third_or : (a b c : Bool) → c ≡ true → a || (b || c) ≡ true
  third_or true b c h = refl
  third_or false true c h = refl
  third_or false false c h = h

  abbrev IsRight : Expr → Type 0
  IsRight e = is_operand target g e || (is_place_read target g (form_of e) || is_call target g (form_of e)) ≡ true

  other_place : (b : Place) → (place_effects_of g b).register ≡ None → NormalPlace b → is_other_place target g b ≡ true
  other_place b h k = two (not (is_register_place target g b)) ((place_effects_of g b).pure no_one && is_folded_place target b) (ap (λ (o : Option ℕ). not (is_some o)) h) k

  read_by : (b : Place) (o : Option ℕ) → (place_effects_of g b).register ≡ o → NormalPlace b → IsRight (Load b)
  read_by b (Some r) h k = first_or (is_operand target g (Load b)) (is_place_read target g (form_of (Load b))) (is_call target g (form_of (Load b))) (read_register b r h (folded_place b k))
  read_by b None h k =
      second_or (is_operand target g (Load b)) (is_place_read target g (form_of (Load b))) (is_call target g (form_of (Load b))) (ap (is_place_read target g) (form-is (Load b) (one.Load b) (rolls-Load b)) ∙ other_place b h k)

  -- ---- calls

  is_normal_callee : (h : Expr) (x : one.Expr-F Expr Place) → roll-Expr x ≡ h → is_lowered_callee f (form_at x) ≡ true → Operand h → is_callee target g (form_at x) ≡ true
  is_normal_callee h (one.FuncAddr i) r c k = refl
  is_normal_callee h (one.Load a) r c k =
      let z : (effects_at g (one.Load a)).pure no_one ≡ true = ap (λ (z : Effects). z.pure no_one) (sym (effects-roll p g (one.Load a))) ∙ ap (λ (e : Expr). (effects_of g e).pure no_one) r ∙ pure_of h k in
      let s = soft_register (place_effects_of g a).register no_one z in ap is_some s.1
  is_normal_callee h (one.Const n t) r c k = absurd (cc)
  is_normal_callee h (one.Null t) r c k = absurd (cc)
  is_normal_callee h (one.AddrOf a) r c k = absurd (cc)
  is_normal_callee h (one.Un o t a) r c k = absurd (cc)
  is_normal_callee h (one.Bin o t a b) r c k = absurd (cc)
  is_normal_callee h (one.Conv t a) r c k = absurd (cc)
  is_normal_callee h (one.Qualify t a) r c k = absurd (cc)
  is_normal_callee h (one.Move a b back) r c k = absurd (cc)
  is_normal_callee h (one.Gap a b) r c k = absurd (cc)
  is_normal_callee h (one.Compare o a b) r c k = absurd (cc)
  is_normal_callee h (one.Both a b) r c k = absurd (cc)
  is_normal_callee h (one.Either a b) r c k = absurd (cc)
  is_normal_callee h (one.Choose d a b) r c k = absurd (cc)
  is_normal_callee h (one.Assign a e) r c k = absurd (cc)
  is_normal_callee h (one.Change a o t e) r c k = absurd (cc)
  is_normal_callee h (one.After a down) r c k = absurd (cc)
  is_normal_callee h (one.Call i args) r c k = absurd (cc)
  is_normal_callee h (one.Intr i a) r c k = absurd (cc)
  is_normal_callee h (one.Seq a b) r c k = absurd (cc)

  all_operands : (ts : List CType) (es : List Expr) → AllVal p f normal_reading ts es → list_all (is_operand target g) es ≡ true
  all_operands _ _ NoneLeft = refl
  all_operands _ _ (More t u e ts es k x rest) = two (is_operand target g e) (list_all (is_operand target g) es) x (all_operands ts es rest)

  call_normal : (h : Expr) (ts : List CType) (es : List Expr) → is_callee target g (form_of h) ≡ true → AllVal p f normal_reading ts es → is_call target g (form_of (Call h es)) ≡ true
  call_normal h ts es c a = ap (is_call target g) (form-is (Call h es) (one.Call h es) (rolls-Call h es)) ∙ two (is_callee target g (form_of h)) (list_all (is_operand target g) es) c (all_operands ts es a)

  temp_callee : (n : ℕ) → is_register g n ≡ true → is_callee target g (form_of (temp n)) ≡ true
  temp_callee n h = ap (is_callee target g) (form-is (temp n) (one.Load (Local n)) (rolls-Load (Local n))) ∙ ap is_some (register-is n h)

  -- ---- statements

  abbrev normal_at : is.Stmt-F Stmt Case → Bool
  normal_at x = normal_step target g (map-Stmt Stmt Case Bool Bool (is_normal_stmt target g) (λ c. fold-Case Bool Bool (normal_step target g) (λ c. list_all (λ b. b) c.body) c) x)

  pub normal : (s : Stmt) (x : is.Stmt-F Stmt Case) → roll-Stmt x ≡ s → normal_at x ≡ true → IsNormal s
  normal s x r h = subst IsNormal r (fold-roll-Stmt Bool Bool (normal_step target g) (λ c. list_all (λ b. b) c.body) x ∙ h)

  do_normal : (e : Expr) → is_expression_statement target g (form_of e) ≡ true → IsNormal (Do e)
  do_normal e h = normal (Do e) (is.Do e) (rolls-Do e) h

  assign-form : (a : Place) (e : Expr) → is_expression_statement target g (form_of (Assign a e)) ≡ is_assignment target g a e
  assign-form a e = ap (is_expression_statement target g) (form-is (Assign a e) (one.Assign a e) (rolls-Assign a e))

  set_normal : (n : ℕ) (e : Expr) → is_register g n ≡ true → IsRight e → IsNormal (set n e)
  set_normal n e h k =
      do_normal (Assign (Local n) e) (assign-form (Local n) e
      ∙ ap (λ (o : Option ℕ). if is_some o then is_operand target g e || (is_place_read target g (form_of e) || is_call target g (form_of e)) else is_other_place target g (Local n) && is_operand target g e) (register-is n h) ∙ k)

  assign_by : (b : Place) (e : Expr) (o : Option ℕ) → (place_effects_of g b).register ≡ o → NormalPlace b → Operand e → is_assignment target g b e ≡ true
  assign_by b e (Some r) h k z =
      ap (λ (o : Option ℕ). if is_some o then is_operand target g e || (is_place_read target g (form_of e) || is_call target g (form_of e)) else is_other_place target g b && is_operand target g e) h
      ∙ first_or (is_operand target g e) (is_place_read target g (form_of e)) (is_call target g (form_of e)) z
  assign_by b e None h k z =
      ap (λ (o : Option ℕ). if is_some o then is_operand target g e || (is_place_read target g (form_of e) || is_call target g (form_of e)) else is_other_place target g b && is_operand target g e) h
      ∙ two (is_other_place target g b) (is_operand target g e) (other_place b h k) z

  alone_by : (x : Form) → is_call target g x ≡ true → is_expression_statement target g x ≡ true
  alone_by (CallForm h es) k = k
  alone_by (IntrinsicForm a) k = k
  alone_by FunctionForm k = absurd (cc)
  alone_by (LoadForm a) k = absurd (cc)
  alone_by (ConstantForm n t) k = absurd (cc)
  alone_by (AssignForm a e) k = absurd (cc)
  alone_by OtherForm k = absurd (cc)

  pub all_normal : (xs : List Stmt) → Each IsNormal xs → list_all (λ b. b) (map (is_normal_stmt target g) xs) ≡ true
  all_normal [] h = refl
  all_normal (s ∷ xs) h = two (is_normal_stmt target g s) (list_all (λ b. b) (map (is_normal_stmt target g) xs)) h.0 (all_normal xs h.1)

  -- ---- the parts of a folded source

  abbrev Folded : Expr → Type 0
  Folded e = is_folded target e ≡ true

  abbrev FoldedPlace : Place → Type 0
  FoldedPlace a = is_folded_place target a ≡ true

  each_folded : (es : List Expr) → list_all (λ (z : Folding). z.is_folded) (map (folding_of target) es) ≡ true → Each Folded es
  each_folded [] h = tt
  each_folded (e ∷ es) h =
      (first_true (is_folded target e) (list_all (λ (z : Folding). z.is_folded) (map (folding_of target) es)) h, each_folded es (second_true (is_folded target e) (list_all (λ (z : Folding). z.is_folded) (map (folding_of target) es)) h))

  folded_pair : (a b : Bool) → a && b ≡ true → (a ≡ true) × (b ≡ true)
  folded_pair a b h = (first_true a b h, second_true a b h)

  folded_parts : (x : one.Expr-F Expr Place) → (folding_here x).is_folded ≡ true → Parts Folded FoldedPlace x
  folded_parts (one.Const n t) h = tt
  folded_parts (one.Null t) h = tt
  folded_parts (one.FuncAddr i) h = tt
  folded_parts (one.Load a) h = h
  folded_parts (one.AddrOf a) h = h
  folded_parts (one.Un o t a) h = first_true (is_folded target a) _ h
  folded_parts (one.Bin o t a b) h = folded_pair (is_folded target a) (is_folded target b) (first_true (is_folded target a && is_folded target b) _ h)
  folded_parts (one.Conv t a) h = first_true (is_folded target a) _ h
  folded_parts (one.Qualify t a) h = h
  folded_parts (one.Move a b back) h = folded_pair (is_folded target a) (is_folded target b) h
  folded_parts (one.Gap a b) h = folded_pair (is_folded target a) (is_folded target b) h
  folded_parts (one.Compare o a b) h = folded_pair (is_folded target a) (is_folded target b) h
  folded_parts (one.Both a b) h = folded_pair (is_folded target a) (is_folded target b) (first_true (is_folded target a && is_folded target b) _ h)
  folded_parts (one.Either a b) h = folded_pair (is_folded target a) (is_folded target b) (first_true (is_folded target a && is_folded target b) _ h)
  folded_parts (one.Choose c a b) h =
      let k = first_true (is_folded target c && (is_folded target a && is_folded target b)) _ h in
      let q = second_true (is_folded target c) (is_folded target a && is_folded target b) k in
      (first_true (is_folded target c) (is_folded target a && is_folded target b) k, first_true (is_folded target a) (is_folded target b) q, second_true (is_folded target a) (is_folded target b) q)
  folded_parts (one.Assign a e) h = folded_pair (is_folded_place target a) (is_folded target e) h
  folded_parts (one.Change a o t e) h = folded_pair (is_folded_place target a) (is_folded target e) h
  folded_parts (one.After a down) h = h
  folded_parts (one.Call i args) h =
      (first_true (is_folded target i) (list_all (λ (z : Folding). z.is_folded) (map (folding_of target) args)) h, each_folded args (second_true (is_folded target i) (list_all (λ (z : Folding). z.is_folded) (map (folding_of target) args)) h))
  folded_parts (one.Intr i None) h = tt
  folded_parts (one.Intr i (Some a)) h = h
  folded_parts (one.Seq a b) h = folded_pair (is_folded target a) (is_folded target b) h

  folded_place_parts : (x : one.Place-F Expr Place) → place_folding_at target x ≡ true → PlaceParts Folded FoldedPlace x
  folded_place_parts (one.Local s) h = tt
  folded_place_parts (one.Static i) h = tt
  folded_place_parts (one.Device i) h = tt
  folded_place_parts (one.Element a i) h = folded_pair (is_folded_place target a) (is_folded target i) h
  folded_place_parts (one.Member a m) h = h
  folded_place_parts (one.Deref e) h = h

  -- ---- the laws

  pub normal_laws : Laws p f normal_reading
  normal_laws = record {
    parts = λ x h. folded_parts x (ap (λ (z : Folding). z.is_folded) (sym (folding-roll target x)) ∙ h);
    place_parts = λ x h. folded_place_parts x (sym (place-folding-roll target x) ∙ h);
    itself = λ e t later h o k. two ((effects_of g e).pure no_one) (is_folded target e) (pure_kept e later k) o;
    place_itself = λ a t later h o k. two ((place_effects_of g a).pure no_one) (is_folded_place target a) ((pure_place_kept a).pure later k) o;
    number = λ n i h. number_normal n i;
    null = λ t h k. operand (null_of t) (one.Null (type_of_value t)) (rolls-Null (type_of_value t)) refl refl;
    temporary = λ n t h s d. temp_normal n h;
    register = λ r a t h x k. read_register (Local r) r (register-is r (kept r h)) (local_folded r);
    address = λ a b x t h same d o k. operand (AddrOf b) (one.AddrOf b) (rolls-AddrOf b) (pure_place b h) (folded_place b h);
    unary = λ o i t r e x h. unary_by o i e (unary_constant target o i (constant_in (form_of e))) refl x;
    binary = λ o i t u r e b x y h. binary_by o i e b (binary_constant target o i (constant_in (form_of e)) (constant_in (form_of b))) refl x y;
    conversion = λ i t r e x h. converted_by i e (converted_constant target i (constant_in (form_of e))) refl x;
    qualified = λ c t r e x h. operand (Qualify c e) (one.Qualify c e) (rolls-Qualify c e) (pure_of e x) (folded_of e x);
    moved = λ t u r e b back x y h. operand (Move e b back) (one.Move e b back) (rolls-Move e b back) (pure_both e b x y) (folded_both e b x y);
    gap = λ t u r e b x y h. operand (Gap e b) (one.Gap e b) (rolls-Gap e b) (pure_both e b x y) (folded_both e b x y);
    compared = λ o t u r e b x y h. operand (Compare o e b) (one.Compare o e b) (rolls-Compare o e b) (pure_both e b x y) (folded_both e b x y);
    element = λ a r t b e x y h. normal_place (Element b e) (one.Element b e) (rolls-Element b e) (two ((place_effects_of g b).pure no_one) ((effects_of g e).pure no_one) (pure_place b x) (pure_of e y)) (two (is_folded_place target b) (is_folded target e) (folded_place b x) (folded_of e y));
    member = λ a r b m x h. normal_place (Member b m) (one.Member b m) (rolls-Member b m) (pure_place b x) (folded_place b x);
    pointed = λ t r e x h. normal_place (Deref e) (one.Deref e) (rolls-Deref e) (pure_of e x) (folded_of e x);
    read = λ a t b x h. read_by b (place_effects_of g b).register refl x;
    called = λ t e x. third_or (is_operand target g e) (is_place_read target g (form_of e)) (is_call target g (form_of e)) x;
    call = λ t r h ts es c x o a. call_normal h ts es (is_normal_callee h (out-Expr h) (roll-out-Expr h) c x) a;
    call_by = λ t r n ts es h s d o a. call_normal (temp n) ts es (temp_callee n h) a;
    callee = λ t r ts o h. refl;
    intrinsic = λ i r h. ap (is_call target g) (form-is (Intr i None) (one.Intr i None) (rolls-Intr i None));
    restore = λ i t r e x h. ap (is_call target g) (form-is (Intr i (Some e)) (one.Intr i (Some e)) (rolls-Intr i (Some e))) ∙ x;
    put = λ n t e h x. set_normal n e h (first_or (is_operand target g e) (is_place_read target g (form_of e)) (is_call target g (form_of e)) x);
    put_right = λ n t e h x. set_normal n e h x;
    assign = λ a to t b e x h k y. do_normal (Assign b e) (assign-form b e ∙ assign_by b e (place_effects_of g b).register refl x y);
    alone = λ t e x. do_normal e (alone_by (form_of e) x);
    fork = λ t c xs ys s x h k. normal (If c xs ys) (is.If c xs ys) (rolls-If c xs ys)
        (two (is_operand target g c) (list_all (λ b. b) (map (is_normal_stmt target g) xs) && list_all (λ b. b) (map (is_normal_stmt target g) ys)) x
        (two (list_all (λ b. b) (map (is_normal_stmt target g) xs)) (list_all (λ b. b) (map (is_normal_stmt target g) ys)) (all_normal xs h) (all_normal ys k)));
    takes = λ n to t h s d k. h;
    takes_local = λ r a to t h x k q. kept r h;
  }

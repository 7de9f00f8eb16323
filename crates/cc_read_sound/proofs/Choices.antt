-- Conditions, choices, loops and jumps whose parts are typed and sound are sound.
use Rattle.std.proofs.Common.{◌≡◌, Bool, true, false, List, [], ◌∷◌, Option, Some, None, Ok, Err, refl, ap, ◌∙◌, subst}
use Rattle.std.specs.Prelude.{is_some, if◌then◌else◌}
use Rattle.std.specs.List.{list_all}
use Rattle.cc_program.specs.CcNum.declared.target.Target.{Target}
use Rattle.cc_type.specs.CcOperands.Assignments.{assigned}
use Rattle.cc_type.specs.CcOperands.Operands.{Operand}
use Rattle.cc_type.specs.CcOperands.Verdicts.{must}
use Rattle.cc_type.specs.CcOperands.declared.rule.Rule.TheVariants as rule
use Rattle.cc_operand_types.proofs.Operands.{ok_is, must_ok, value_ok, structure_ok, any_type}
use Rattle.cc_operand_types.proofs.Rolls.{type-Seq}
use Rattle.cc_operand_types.proofs.Stores.{then_ok, assigned_typed}
use Rattle.cc_operand_types.specs.Typed.{IsTypedOperand, IsAssigned, stands}
use Rattle.cc_type.specs.CcSyntax.Views.{View}
use Rattle.cc_type.specs.CcSyntax.Expressions.{type_of}
use Rattle.cc_program.specs.declared.expr.Expr.{Expr, Seq}
use Rattle.cc_program.specs.declared.stmt.Stmt.{Stmt, If, While, DoWhile, For, Break, Continue, Return}
use Rattle.cc_program.specs.declared.types.CType.{CType}
use Rattle.cc_type.proofs.CcSyntax.Prefixes.{both_true}
use Rattle.cc_type.specs.CcSyntax.Statements.{is_condition, is_typed, is_optional_condition}
use Rattle.cc_type.specs.CcSyntax.Types.{Named}
use Rattle.cc_type.specs.CcSyntax.Values.{ValueType, is_scalar, is_void, scalar_value, is_assignable, is_assignable_some}
use Rattle.cc_type.specs.CcTypedStatements.Conditions.{condition as condition_of, maybe_condition, effect, joined, joined_to, then_one}
use Rattle.cc_type.specs.CcTypedStatements.Jumps.{break_of, continue_of, returned, returned_by}
use Rattle.cc_type.specs.CcTypedStatements.Statements.{if_of, while_of, do_of, for_of}
use Rattle.cc_type.specs.CcTypedStatements.declared.jumps.Jumps.{Jumps}
use Rattle.cc_read_sound.specs.Sound.{Keeps, AreSound, sound_list}
use Rattle.cc_read_sound.proofs.KeptStatements.{condition_kept, reduced_assigned}
use Rattle.cc_read_sound.proofs.Opened.{if_sound, while_sound, do_while_sound, for_sound, break_sound, continue_sound, return_sound}

-- an expression for what it does
pub effect_sound : (v : View) (declared : List Named) (x : Operand) (e : Expr) → IsTypedOperand v declared x → effect x ≡ Ok e → (t : ValueType) × (type_of v declared e ≡ Some t)
effect_sound v declared x e hx h =
    let k = structure_ok x (Ok x.value) e h in
    subst (λ (d : Expr). (t : ValueType) × (type_of v declared d ≡ Some t)) (ok_is k.1) (any_type v declared x hx k.0)

-- jumps (6.8.6)
module _ (target : Target) (typed : Expr → Option ValueType) (result : CType) where
  pub broken_by : (j : Jumps) (ss : List Stmt) → break_of j ≡ Ok ss → AreSound target typed result j ss
  broken_by j ss h = let k = must_ok j.breaks rule.Break (Ok (Break ∷ [])) ss h in subst (AreSound target typed result j) (ok_is k.1) (break_sound target typed result j.breaks j.continues k.0)

  pub continued_by : (j : Jumps) (ss : List Stmt) → continue_of j ≡ Ok ss → AreSound target typed result j ss
  continued_by j ss h = let k = must_ok j.continues rule.Continue (Ok (Continue ∷ [])) ss h in subst (AreSound target typed result j) (ok_is k.1) (continue_sound target typed result j.breaks j.continues k.0)

module _ (v : View) (declared : List Named) (typed : Expr → Option ValueType) (keeps : Keeps v declared typed) (result : CType) where
  abbrev Typed : Operand → Type 0
  Typed x = IsTypedOperand v declared x

  abbrev Sound : Jumps → List Stmt → Type 0
  Sound j ss = AreSound v.target typed result j ss

  pub condition_sound : (x : Operand) (e : Expr) → Typed x → condition_of x ≡ Ok e → is_condition (typed e) ≡ true
  condition_sound x e hx h =
      let k = must_ok (is_scalar x.type) rule.NoScalar (Ok x.value) e (value_ok x (must (is_scalar x.type) rule.NoScalar (Ok x.value)) e h).1 in
      subst (λ (d : Expr). is_condition (typed d) ≡ true) (ok_is k.1) (condition_kept v declared typed keeps x hx k.0)

  optional_sound : (x : Option Operand) (e : Option Expr) → ((y : Operand) → x ≡ Some y → Typed y) → maybe_condition x ≡ Ok e → is_optional_condition v.target typed result e ≡ true
  optional_sound None e hx h = subst (λ (d : Option Expr). is_optional_condition v.target typed result d ≡ true) (ok_is h) refl
  optional_sound (Some x) e hx h =
      let k = then_ok (condition_of x) (λ d. Ok (Some d)) e h in
      subst (λ (d : Option Expr). is_optional_condition v.target typed result d ≡ true) (ok_is k.2) (condition_sound x k.0 (hx x refl) k.1)

  -- ---- choices and loops (6.8.4.1, 6.8.5)

  pub chosen_sound : (x : Operand) (a b : List Stmt) (j : Jumps) (ss : List Stmt) → Typed x → Sound j a → Sound j b → if_of x a b ≡ Ok ss → Sound j ss
  chosen_sound x a b j ss hx ha hb h =
      let k = then_ok (condition_of x) (λ e. Ok (If e a b ∷ [])) ss h in
      subst (Sound j) (ok_is k.2) (if_sound v.target typed result k.0 a b j.breaks j.continues (condition_sound x k.0 hx k.1) ha hb)

  pub repeated_sound : (x : Operand) (a : List Stmt) (j : Jumps) (ss : List Stmt) → Typed x → sound_list v.target typed result true true a ≡ true → while_of x a ≡ Ok ss → Sound j ss
  repeated_sound x a j ss hx ha h =
      let k = then_ok (condition_of x) (λ e. Ok (While e a ∷ [])) ss h in
      subst (Sound j) (ok_is k.2) (while_sound v.target typed result k.0 a j.breaks j.continues (condition_sound x k.0 hx k.1) ha)

  pub done_sound : (a : List Stmt) (x : Operand) (j : Jumps) (ss : List Stmt) → Typed x → sound_list v.target typed result true true a ≡ true → do_of a x ≡ Ok ss → Sound j ss
  done_sound a x j ss hx ha h =
      let k = then_ok (condition_of x) (λ e. Ok (DoWhile a e ∷ [])) ss h in
      subst (Sound j) (ok_is k.2) (do_while_sound v.target typed result a k.0 j.breaks j.continues (condition_sound x k.0 hx k.1) ha)

  pub counted_sound : (first : Option Expr) (test : Option Operand) (step : Option Expr) (a : List Stmt) (j : Jumps) (ss : List Stmt) →
      is_typed v.target typed result first ≡ true → ((y : Operand) → test ≡ Some y → Typed y) → is_typed v.target typed result step ≡ true → sound_list v.target typed result true true a ≡ true →
      for_of first test step a ≡ Ok ss → Sound j ss
  counted_sound first test step a j ss hf ht hs ha h =
      let k = then_ok (maybe_condition test) (λ e. Ok (For first e step a ∷ [])) ss h in
      subst (Sound j) (ok_is k.2) (for_sound v.target typed result first k.0 step a j.breaks j.continues hf (optional_sound test k.0 ht k.1) hs ha)

  -- ---- what is returned (6.8.6.4)

  value_by : (x : Operand) (to : ValueType) (e : Expr) → IsAssigned v declared to e → (u : ValueType) × (typed e ≡ Some u) × (is_assignable to u ≡ true)
  value_by x to e h = let k = keeps e h.own h.typed in (k.0, k.1, reduced_assigned to k.0 h.own k.2 h.assignable)

  returned_to : (x : Operand) (o : Option ValueType) (j : Jumps) (ss : List Stmt) → Typed x → scalar_value result ≡ o → ((to : ValueType) → o ≡ Some to → stands v to ≡ true) →
      returned_by v.target x o ≡ Ok ss → Sound j ss
  returned_to x None j ss hx e hs h = absurd (cc)
  returned_to x (Some to) j ss hx e hs h =
      let k = then_ok (assigned v.target to x) (λ y. Ok (Return (Some y.value) ∷ [])) ss h in
      let a = value_by x to k.0.value (assigned_typed v declared to x k.0 (hs to refl) hx k.1) in
      subst (Sound j) (ok_is k.2) (return_sound v.target typed result (Some k.0.value) j.breaks j.continues
      (ap (λ (o : Option ValueType). is_assignable_some o (typed k.0.value)) e ∙ ap (is_assignable_some (Some to)) a.1 ∙ a.2))

  returned_if : (b : Bool) (x : Operand) (j : Jumps) (ss : List Stmt) → Typed x → ((to : ValueType) → scalar_value result ≡ Some to → stands v to ≡ true) →
      (if b then Err rule.ReturnValue else returned_by v.target x (scalar_value result)) ≡ Ok ss → Sound j ss
  returned_if true x j ss hx hs h = absurd (cc)
  returned_if false x j ss hx hs h = returned_to x (scalar_value result) j ss hx refl hs h

  pub returned_sound : (x : Option Operand) (j : Jumps) (ss : List Stmt) → ((y : Operand) → x ≡ Some y → Typed y) → ((to : ValueType) → scalar_value result ≡ Some to → stands v to ≡ true) →
      returned v.target result x ≡ Ok ss → Sound j ss
  returned_sound None j ss hx hs h =
      let k = must_ok (is_void result) rule.ReturnValue (Ok (Return None ∷ [])) ss h in
      subst (Sound j) (ok_is k.1) (return_sound v.target typed result None j.breaks j.continues k.0)
  returned_sound (Some x) j ss hx hs h = returned_if (is_void result) x j ss (hx x refl) hs h

-- ---- assignments that are joined

-- each is typed, and so is what is joined of them; a `typed` of one's own has sequences typed
abbrev pub Sequences : (Expr → Option ValueType) → Type 0
Sequences typed = (a b : Expr) → is_some (typed a) ≡ true → is_some (typed b) ≡ true → is_some (typed (Seq a b)) ≡ true

some_typed : (o : Option ValueType) → is_some o ≡ true → (t : ValueType) × (o ≡ Some t)
some_typed None h = absurd (cc)
some_typed (Some t) h = (t, refl)

pub sequences : (v : View) (locals : List Named) → Sequences (type_of v locals)
sequences v locals a b h k =
    let s = some_typed (type_of v locals a) h in
    let t = some_typed (type_of v locals b) k in
    ap is_some (type-Seq v locals a b s.0 t.0 s.1 t.1)

module _ (target : Target) (typed : Expr → Option ValueType) (result : CType) (sequence : Sequences typed) where
  one_typed : (before : Option Expr) (e : Expr) → is_typed target typed result before ≡ true → is_some (typed e) ≡ true → is_typed target typed result (then_one before e) ≡ true
  one_typed None e h k = k
  one_typed (Some d) e h k = sequence d e h k

  joined_typed : (before : Option Expr) (es : List Expr) → is_typed target typed result before ≡ true → list_all (λ e. is_some (typed e)) es ≡ true → is_typed target typed result (joined_to before es) ≡ true
  joined_typed before [] h k = h
  joined_typed before (e ∷ es) h k =
      let c = both_true (is_some (typed e)) (list_all (λ e. is_some (typed e)) es) k in
      joined_typed (then_one before e) es (one_typed before e h c.0) c.1

  pub joined_sound : (es : List Expr) → list_all (λ e. is_some (typed e)) es ≡ true → is_typed target typed result (joined es) ≡ true
  joined_sound es k = joined_typed None es refl k

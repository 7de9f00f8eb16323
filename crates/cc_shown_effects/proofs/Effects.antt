-- Trees that show expression statements of a program in normal form are typed to what they do.
use Rattle.std.proofs.Common.{◌≡◌, ℕ, Bool, true, false, ◌&&◌, ◌||◌, Option, Some, None, Ok, refl, ap, sym, ◌∙◌, subst}
use Rattle.std.specs.List.{list_all}
use Rattle.cc_bodies.specs.Stmts.{taker}
use Rattle.cc_typed_bodies.specs.CcDesignators.Designators.{IsValue}
use Rattle.cc_typed_bodies.specs.CcLex.declared.token.Mark.TheVariants as m
use Rattle.cc_shown_expressions.proofs.ChoiceRules.{assign-rule}
use Rattle.cc_typed_bodies.specs.CcOperands.Operands.{operand, constant_at, is_zero_constant, is_to_void, is_null_at, is_null_constant}
use Rattle.cc_program.specs.declared.expr.Expr.{Expr, out-Expr}
use Rattle.cc_program.specs.declared.expr.Expr.TheOpen as one
use Rattle.cc_program.specs.declared.expr.Place.{Place}
use Rattle.cc_program.specs.declared.func.Func.{Func}
use Rattle.cc_program.specs.declared.program.Program.{Program}
use Rattle.cc_program.specs.declared.types.CType.{CType}
use Rattle.cc_typed_bodies.specs.CcScopes.State.{State}
use Rattle.cc_typed_bodies.specs.CcSyntax.Effects.{Effects, no_one, effects_of}
use Rattle.cc_typed_bodies.specs.CcSyntax.Programs.{type_of, place_type}
use Rattle.cc_typed_bodies.specs.CcSyntax.Folding.{NoConstant, is_folded}
use Rattle.cc_typed_bodies.specs.CcSyntax.Forms.{form_at, form_of}
use Rattle.cc_typed_bodies.specs.CcSyntax.Normal.{is_operand, is_callee, is_call, is_place_read, is_assignment, is_expression_statement}
use Rattle.cc_typed_bodies.specs.CcSyntax.Sizes.{AreSized}
use Rattle.cc_typed_bodies.specs.CcSyntax.Sound.{IsSound}
use Rattle.cc_typed_bodies.specs.CcSyntax.Values.{ValueType, PlaceType, read_from, written_to, is_assignable}
use Rattle.cc_typed_bodies.proofs.CcSyntax.Prefixes.{both_true}
use Rattle.cc_typed_bodies.specs.CcTerms.Terms.{tree_of}
use Rattle.cc_tree.specs.declared.at.At.{At}
use Rattle.cc_tree.specs.declared.tree.Tree as tree
use Rattle.cc_tree.specs.declared.tree.Tree.{Tree}
use Rattle.cc_expression_trees.specs.Exprs.{ShowsPlace, ShowsValue}
use Rattle.cc_unit_trees.specs.Effects.{ShowsRight, ShowsCall, ShowsIntrinsic, ShowsIntrinsicOf, AnotherValue, ShowsEffect, ShowsAssignment, ShowsDone}
use Rattle.cc_shown_effects.specs.Accesses.{Accesses}
use Rattle.cc_shown_effects.specs.Taken.{IsTakenFrom}
use Rattle.cc_shown_effects.proofs.Assigned.{and-false, names-behind, assign-tree, taken-from, place-fits, read-taken, written-fits, takes-written}
use Rattle.cc_shown_effects.proofs.Devices.{place-accessed}
use Rattle.cc_shown_effects.proofs.Arguments.{has-operand}
use Rattle.cc_shown_effects.proofs.Calls.{call-shown}
use Rattle.cc_shown_effects.specs.Steps.{is_load, is_assign, Reads, APlace, NoPlace, Steps, Assigning, Another}
use Rattle.cc_shown_effects.proofs.Normal.{is_effect, contrary, no-value, RightKind, AnOperand, ARead, ACall, IsOfOperands, soft-operands, other-operands, assignment-normal, assign-parts}
use Rattle.cc_shown_expressions.proofs.Values.{value-taken}
use Rattle.cc_shown_effects.proofs.Intrinsics.{intrinsic-shown, argument-shown}
use Rattle.cc_shown_expressions.specs.Fits.{FitsValue}
use Rattle.cc_shown_expressions.specs.KnownNames.{KnowsNames, TypesStand}
use Rattle.cc_shown_expressions.specs.Normal.{HasPlace}
use Rattle.cc_shown_expressions.specs.OperationNumbers.{Numbers, expr_numbered}
use Rattle.cc_shown_expressions.proofs.Levels.{one-is, type-at, effects-at, expr-at, constant-numbered, null-numbered}
use Rattle.cc_shown_expressions.specs.Numbers.{value_numbered}
use Rattle.cc_shown_expressions.proofs.Kept.{assignable-numbered}

module _ (p : Program) (f : Func) (n : Numbers) (sound : IsSound p) (sized : AreSized p.structures p.target) (stand : TypesStand p f) where
  abbrev value : ValueType → ValueType
  value v = value_numbered n.structure v

  -- typed to what it does
  abbrev pub IsDone : State → State → Tree → ℕ → Expr → ValueType → Type 0
  IsDone s u x at e v = tree_of p.target p.roles x at s ≡ Ok (IsValue (operand (expr_numbered n e) (value_numbered n.structure v)), u)

  -- ---- what a call gives is assigned as it is

  effect-no-null : (e : Expr) (v : ValueType) → constant_at (out-Expr e) ≡ NoConstant → is_null_at (out-Expr e) ≡ false → is_null_constant (operand (expr_numbered n e) (value v)) ≡ false
  effect-no-null e v h k =
      ap (λ c. is_zero_constant c || (is_to_void (value v) && is_null_at (out-Expr (expr_numbered n e)))) (constant-numbered n e ∙ h)
      ∙ ap (λ (b : Bool). is_to_void (value v) && b) (null-numbered n e ∙ k) ∙ and-false (is_to_void (value v))

  done-taken : (s : State) (x : Tree) (at : ℕ) (e : Expr) (v w : ValueType) → IsDone s s x at e v → constant_at (out-Expr e) ≡ NoConstant → is_null_at (out-Expr e) ≡ false → is_assignable w v ≡ true → IsTakenFrom p n s s x at e w
  done-taken s x at e v w h c k fits = record {
    found = IsValue (operand (expr_numbered n e) (value v));
    is = h;
    operand = operand (expr_numbered n e) (value v);
    value = λ i. refl;
    assigned = assign-rule p.target (value w) (operand (expr_numbered n e) (value v)) refl (λ i. effect-no-null e v c k) (assignable-numbered n.structure w v fits);
  }

  -- ---- calls and intrinsics

  call-done : (s : State) → KnowsNames p f n s → (to : Option CType) (e : Expr) (x : Tree) → ShowsRight p f to e x → is_call p.target f (form_of e) ≡ true → (at : ℕ) (v : ValueType) → type_of p f.locals e ≡ Some v → is_effect (out-Expr e) ≡ true → IsDone s s x at e v
  call-done s names _ _ _ (ShowsCall to e g args x xs o h k) c at v t effect =
      let q = both_true (is_callee p.target f (form_of g)) (list_all (is_operand p.target f) args) (sym (ap (λ y. is_call p.target f (form_at y)) o) ∙ c) in
      call-shown p f sound stand n sized s names e g args v x xs at o t h k q.0 q.1
  call-done s names _ _ _ (ShowsIntrinsic to e i j o) c at v t effect = intrinsic-shown p f sound stand n sized s names e i v j at o t
  call-done s names _ _ _ (ShowsIntrinsicOf to e a i j x o h) c at v t effect =
      argument-shown p f sound stand n sized s names e a i v j at x o t h (sym (ap (λ y. is_call p.target f (form_at y)) o) ∙ c)
  call-done s names _ _ _ (AnotherValue to e x h) c at v t effect = absurd (no-value p f to e x h effect)

  call-level : (y : one.Expr-F Expr Place) → is_call p.target f (form_at y) ≡ true → (is_effect y ≡ true) × (constant_at y ≡ NoConstant) × (is_null_at y ≡ false) × (is_load y ≡ false)
  call-level (one.Call g args) h = (refl, refl, refl, refl)
  call-level (one.Intr i a) h = (refl, refl, refl, refl)
  call-level _ h = absurd (cc)

  -- ---- right sides

  record Parts (a : Place) (r : Expr) (t : PlaceType) (w c : ValueType) : Type 0 where
    pub written : written_to t ≡ Some w
    pub typed : type_of p f.locals r ≡ Some c
    pub assignable : is_assignable w c ≡ true
    pub fits : FitsValue p w

  -- an operand is shown as a value, since it has no effect
  operand-level : (r : Expr) (y : one.Expr-F Expr Place) → out-Expr r ≡ y → is_operand p.target f r ≡ true → is_effect y ≡ false
  operand-level r (one.Assign a e) o h = absurd (contrary ((effects_of f r).pure no_one) (both_true ((effects_of f r).pure no_one) (is_folded p.target r) h).0 (ap (λ (g : Effects). g.pure no_one) (effects-at p f r (one.Assign a e) o)))
  operand-level r (one.Call g args) o h = absurd (contrary ((effects_of f r).pure no_one) (both_true ((effects_of f r).pure no_one) (is_folded p.target r) h).0 (ap (λ (g : Effects). g.pure no_one) (effects-at p f r (one.Call g args) o)))
  operand-level r (one.Intr i a) o h = absurd (contrary ((effects_of f r).pure no_one) (both_true ((effects_of f r).pure no_one) (is_folded p.target r) h).0 (ap (λ (g : Effects). g.pure no_one) (effects-at p f r (one.Intr i a) o)))
  operand-level r _ o h = refl

  value-shown : (to : Option CType) (e : Expr) (x : Tree) → ShowsRight p f to e x → is_effect (out-Expr e) ≡ false → ShowsValue p f to e x
  value-shown _ _ _ (ShowsCall to e g args x xs o h k) c = absurd (contrary (is_effect (out-Expr e)) (ap is_effect o) c)
  value-shown _ _ _ (ShowsIntrinsic to e i j o) c = absurd (contrary (is_effect (out-Expr e)) (ap is_effect o) c)
  value-shown _ _ _ (ShowsIntrinsicOf to e a i j x o h) c = absurd (contrary (is_effect (out-Expr e)) (ap is_effect o) c)
  value-shown _ _ _ (AnotherValue to e x h) c = h

  load-operands : (r : Expr) (b : Place) → out-Expr r ≡ one.Load b → RightKind p f r → IsOfOperands p f b
  load-operands r b o (AnOperand h) =
      soft-operands p f b (sym (ap (λ (g : Effects). g.pure no_one) (effects-at p f r (one.Load b) o)) ∙ (both_true ((effects_of f r).pure no_one) (is_folded p.target r) h).0)
  load-operands r b o (ARead h) = other-operands p f b (sym (ap (λ y. is_place_read p.target f (form_at y)) o) ∙ h)
  load-operands r b o (ACall h) = let g : false ≡ true = sym (ap (λ y. is_call p.target f (form_at y)) o) ∙ h in absurd (cc)

  load-no-effect : (y : one.Expr-F Expr Place) (b : Place) → y ≡ one.Load b → is_effect y ≡ false
  load-no-effect y b h = ap is_effect h

  read-level : (y : one.Expr-F Expr Place) → is_place_read p.target f (form_at y) ≡ true → is_load y ≡ true
  read-level (one.Load a) h = refl
  read-level _ h = absurd (cc)

  right-taken : (t u : State) → KnowsNames p f n t → (own : PlaceType) (a : Place) (r : Expr) (x : Tree) (at : ℕ) (w c : ValueType) → ShowsRight p f (taker (Some own)) r x → RightKind p f r → Parts a r own w c → Reads p n r t u → IsTakenFrom p n t u x at r w
  right-taken t _ names own a r x at w c h kind q (APlace b u o acc) =
      let v = value-shown (taker (Some own)) r x h (load-no-effect (out-Expr r) b o) in
      let k = load-operands r b o kind in
      let l = one-is (place_type p f.locals b) read_from c (sym (type-at p f r (one.Load b) o) ∙ q.typed) in
      read-taken p f n sound sized stand t names b l.0 (record { typed = l.1; pure = k.0; folded = k.1 }) u acc (taker (Some own)) r x at c w v o l.2 q.assignable
  right-taken t _ names own a r x at w c h (AnOperand k) q (NoPlace o) =
      let v = value-shown (taker (Some own)) r x h (operand-level r (out-Expr r) refl k) in
      taken-from p f n sound sized stand t x at r w (value-taken p f n t sized names stand (taker (Some own)) r x v at c w (has-operand p f n sized stand t names r c w k q.typed q.assignable) q.fits q.assignable (takes-written own w q.written))
  right-taken t _ names own a r x at w c h (ARead k) q (NoPlace o) = absurd (contrary (is_load (out-Expr r)) (read-level (out-Expr r) k) o)
  right-taken t _ names own a r x at w c h (ACall k) q (NoPlace o) =
      let l = call-level (out-Expr r) k in
      done-taken t x at r c w (call-done t names (taker (Some own)) r x h k at c q.typed l.0) l.1 l.2 q.assignable

  -- ---- statements

  statement-assign : (e : Expr) (a : Place) (r : Expr) → out-Expr e ≡ one.Assign a r → is_expression_statement p.target f (form_of e) ≡ true → is_assignment p.target f a r ≡ true
  statement-assign e a r o h = sym (ap (λ y. is_expression_statement p.target f (form_at y)) o) ∙ h

  assign-done : (s t u : State) → KnowsNames p f n s → (e : Expr) (a : Place) (r : Expr) (v : ValueType) (x y : At Tree) (at : ℕ) → out-Expr e ≡ one.Assign a r → type_of p f.locals e ≡ Some v → ShowsPlace p f a x.node → ShowsRight p f (taker (place_type p f.locals a)) r y.node →
      is_expression_statement p.target f (form_of e) ≡ true → Accesses p n s a t → Reads p n r t u → IsDone s u (tree.Assign m.Assign x y) at e v
  assign-done s t u names e a r v x y at o typed place right normal acc reads =
      let q = assign-parts p f e a r v o typed in
      let k = assignment-normal p f a r (statement-assign e a r o normal) in
      let has : HasPlace p f a q.own = record { typed = q.placed; pure = k.0.0; folded = k.0.1 } in
      let fits = written-fits p q.own v (place-fits p f n sound sized stand s names a x.node x.at q.own place has) q.written in
      let taken = right-taken t u (names-behind p f n s t a names acc) q.own a r y.node y.at v q.right (subst (λ o. ShowsRight p f (taker o) r y.node) q.placed right) k.1 (record { written = q.written; typed = q.typed; assignable = q.assignable; fits = fits }) reads in
      assign-tree p f n sound sized stand s t u x y at a q.own r v (place-accessed p f n s sound sized names stand a x.node place x.at q.own has t acc) q.written taken
      ∙ ap (λ (z : Expr). Ok (IsValue (operand z (value v)), u)) (sym (expr-at n e (one.Assign a r) o))

  assign-level : (y : one.Expr-F Expr Place) (a : Place) (r : Expr) → y ≡ one.Assign a r → is_assign y ≡ true
  assign-level y a r h = ap is_assign h

  effect-assign : (s u : State) → KnowsNames p f n s → (e : Expr) (a : Place) (r : Expr) (v : ValueType) (x y : At Tree) (at : ℕ) → out-Expr e ≡ one.Assign a r → type_of p f.locals e ≡ Some v → ShowsPlace p f a x.node → ShowsRight p f (taker (place_type p f.locals a)) r y.node →
      is_expression_statement p.target f (form_of e) ≡ true → Steps p n e s u → IsDone s u (tree.Assign m.Assign x y) at e v
  effect-assign s _ names e a r v x y at o typed place right normal (Assigning b q t u i acc reads) =
      let same : one.Assign b q ≡ one.Assign a r = sym i ∙ o in
      let places : b ≡ a = cc in
      let rights : q ≡ r = cc in
      assign-done s t u names e a r v x y at o typed place right normal (subst (λ (b : Place). Accesses p n s b t) places acc) (subst (λ (q : Expr). Reads p n q t u) rights reads)
  effect-assign s _ names e a r v x y at o typed place right normal (Another i) = absurd (contrary (is_assign (out-Expr e)) (assign-level (out-Expr e) a r o) i)

  -- another statement is a call or an intrinsic
  other-level : (y : one.Expr-F Expr Place) → is_expression_statement p.target f (form_at y) ≡ true → is_assign y ≡ false → (is_call p.target f (form_at y) ≡ true) × (is_effect y ≡ true)
  other-level (one.Call g args) h k = (h, refl)
  other-level (one.Intr i a) h k = (h, refl)
  other-level (one.Assign a r) h k = absurd (cc)
  other-level _ h k = absurd (cc)

  right-assign : (to : Option CType) (e : Expr) (x : Tree) → ShowsRight p f to e x → is_assign (out-Expr e) ≡ true → ⊥
  right-assign _ _ _ (ShowsCall to e g args x xs o h k) c = contrary (is_assign (out-Expr e)) c (ap is_assign o)
  right-assign _ _ _ (ShowsIntrinsic to e i j o) c = contrary (is_assign (out-Expr e)) c (ap is_assign o)
  right-assign _ _ _ (ShowsIntrinsicOf to e a i j x o h) c = contrary (is_assign (out-Expr e)) c (ap is_assign o)
  right-assign _ _ _ (AnotherValue to e x h) c = no-value p f to e x h (assign-effect (out-Expr e) c) where
    assign-effect : (y : one.Expr-F Expr Place) → is_assign y ≡ true → is_effect y ≡ true
    assign-effect (one.Assign a r) h = refl
    assign-effect _ h = absurd (cc)

  pub effect-done : (s u : State) → KnowsNames p f n s → (e : Expr) (x : Tree) → ShowsEffect p f e x → (v : ValueType) (at : ℕ) → type_of p f.locals e ≡ Some v → is_expression_statement p.target f (form_of e) ≡ true → Steps p n e s u → IsDone s u x at e v
  effect-done s u names _ _ (ShowsAssignment e a r x y o place right) v at typed normal steps = effect-assign s u names e a r v x y at o typed place right normal steps
  effect-done s _ names _ _ (ShowsDone e x h) v at typed normal (Another k) =
      let q = other-level (out-Expr e) normal k in
      call-done s names None e x h q.0 at v typed q.1
  effect-done s _ names _ _ (ShowsDone e x h) v at typed normal (Assigning a r t u o acc reads) = absurd (right-assign None e x h (assign-level (out-Expr e) a r o))

  pub names-after-read : (t u : State) (r : Expr) → KnowsNames p f n t → Reads p n r t u → KnowsNames p f n u
  names-after-read t _ r names (APlace b u o acc) = names-behind p f n t u b names acc
  names-after-read t _ r names (NoPlace o) = names

  pub names-after : (s u : State) (e : Expr) → KnowsNames p f n s → Steps p n e s u → KnowsNames p f n u
  names-after s _ e names (Assigning a r t u o acc reads) = names-after-read t u r (names-behind p f n s t a names acc) reads
  names-after s _ e names (Another k) = names

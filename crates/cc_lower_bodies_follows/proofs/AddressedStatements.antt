-- What a function's statements become takes the addresses of the locals of which the statements take them.
use Rattle.std.proofs.Common.{◌≡◌, ℕ, Bool, true, false, ◌||◌, List, [], ◌∷◌, map, Some, None, refl, ap, sym, ◌∙◌, subst, if◌then◌else◌}
use Rattle.std.specs.List.{list_any}
use Rattle.cc_states.specs.CcEval.Context.{Context}
use Rattle.cc_states.specs.CcEval.Eval.{Meaning}
use Rattle.cc_states.proofs.CcEval.Links.{level}
use Rattle.cc_program.specs.declared.expr.Expr.{Expr, roll-Expr, map-Expr, fold-roll-Expr}
use Rattle.cc_program.specs.declared.expr.Expr.TheOpen as one
use Rattle.cc_program.specs.declared.expr.Place.{Place, roll-Place, fold-Place}
use Rattle.cc_program.specs.declared.func.Func.{Func}
use Rattle.cc_program.specs.declared.program.Program.{Program}
use Rattle.cc_program.specs.declared.stmt.Case.{Case, roll-Case, out-roll-Case, fold-roll-Case}
use Rattle.cc_program.specs.declared.stmt.Stmt.{Stmt, While, Switch, Break, Continue, Return, roll-Stmt, out-roll-Stmt, map-Stmt, fold-roll-Stmt}
use Rattle.cc_program.specs.declared.stmt.Stmt.TheVariants.{rolls-While, rolls-Switch, rolls-Break, rolls-Continue, rolls-Return}
use Rattle.cc_program.specs.declared.stmt.Stmt.TheOpen as is
use Rattle.cc_program.proofs.Each.{Each}
use Rattle.cc_program.proofs.ExprInduction.{Parts, by_expr}
use Rattle.cc_program.proofs.FoldFusion.{fused}
use Rattle.cc_program.proofs.StmtInduction.{StmtParts, CaseParts, by_stmts}
use Rattle.cc_states.specs.CcSyntax.Effects.{Registers, also, no_one}
use Rattle.cc_states.specs.CcSyntax.Registers.{is_taken_in}
use Rattle.cc_lower_expressions.specs.Expressions.{Make, Lowering, done, ◌>>=◌, emit, fork}
use Rattle.cc_lower_expressions.specs.Statements.{in_turn, all_made, if_operand, Condition, lowered, guard_by, condition_step, place_itself, condition, choice, returned, lower_in, lower_case_in, lower, lower_case, lower_list}
use Rattle.cc_lower_expressions.specs.Temporaries.{declared_type, is_same_type}
use Rattle.cc_lower_sound.proofs.AddressReading.{taken_at, stmt_at, stmt-taken-roll, taken_case, case-taken-roll}
use Rattle.cc_lower_sound.proofs.LoweringParts.{rolled}
use Rattle.cc_lower_expressions_follows.specs.Trees.{context_p}
use Rattle.cc_lower_expressions_follows.specs.WholeFits.{setting_of}
use Rattle.cc_lower_expressions_follows.proofs.Addressed.{takes, any, takes-rolled, Has, no_more, has_as, has_done, has_emit, has_then, has_fork, has_both, has_behind, has_before, or_none, or_grouped}
use Rattle.cc_lower_expressions_follows.proofs.AddressedExpressions.{SameTaken}
use Rattle.cc_lower_expressions_follows.proofs.AddressedLevels.{same_taken}
use Rattle.cc_lower_expressions_follows.proofs.Typing.{IsTyped, TypedExpr, TypedPlace, typed_parts}
use Rattle.cc_lower_bodies_follows.specs.Lowerable.{IsLowerableIn}
use Rattle.cc_lower_bodies_follows.proofs.LowerableStatements.{HasLowerableParts, PartsDo, PartsIf, PartsLoop, PartsSwitch, PartsBreak, PartsContinue, PartsReturn, PartsEnd, lowerable_parts}

has_if : {A : Type 0} (r : ℕ) (v : A → Bool) (t b : Bool) (m n : Make A) → Has r v t m → Has r v t n → Has r v t (if b then m else n)
has_if r v t true m n h k = h
has_if r v t false m n h k = k

module _ (r : ℕ) (p : Program) (f : Func) where
  abbrev c : Context
  c = context_p (setting_of p 0 0 f)

  abbrev low : Expr → Lowering
  low e = lowered p f e

  abbrev Takes : Bool → Make (Unit {0}) → Type 0
  Takes taken m = Has r (no_more r) taken m

  same : (e : Expr) → TypedExpr c e → SameTaken r p f declared_type is_same_type (takes r e) (low e)
  same e ty = same_taken r c declared_type is_same_type e ty

  -- ---- conditions

  by_operand : (e : Expr) → TypedExpr c e → (later : Registers) (these : Make (Unit {0})) (t : Bool) → Takes t these → Takes (takes r e || t) (if_operand (low e) later these)
  by_operand e ty later these t h =
      has_then r (λ (x : Expr). takes r x || t) (no_more r) (takes r e || t) ((low e).operand later) (λ v. fork v these (done tt)) (has_behind r (takes r) (takes r e) t ((low e).operand later) ((same e ty).operand later))
      (λ v. has_as r (no_more r) (takes r v || (t || false)) (takes r v || t) (fork v these (done tt)) (ap (λ (b : Bool). takes r v || b) (or_none t)) (has_fork r v these (done tt) t false h (has_done r (no_more r) (tt {0}))))

  abbrev Guards : Expr → Type 0
  Guards e = TypedExpr c e → (later : Registers) (these : Make (Unit {0})) (t : Bool) → Takes t these → Takes (takes r e || t) ((condition p f e).guard later these)

  abbrev guarded : one.Expr-F Expr Place → one.Expr-F Condition Place
  guarded x = map-Expr Expr Place Condition Place (condition p f) (fold-Place Condition Place (condition_step p f) (place_itself p f)) x

  condition-rolled : (x : one.Expr-F Expr Place) → condition p f (roll-Expr x) ≡ condition_step p f (guarded x)
  unfolding condition
  condition-rolled x = fold-roll-Expr Condition Place (condition_step p f) (place_itself p f) x

  condition-itself : (e : Expr) → (condition p f e).itself ≡ e
  unfolding condition
  condition-itself e = fused (condition_step p f) (place_itself p f) roll-Expr roll-Place (λ z. z.itself) (λ a. a) (λ x. refl) (λ x. refl) e ∙ rolled p f e

  guards_at : (e : Expr) (x : one.Expr-F Expr Place) → takes r e ≡ taken_at r x → Parts Guards (λ a. Unit {0}) x → Parts (TypedExpr c) (TypedPlace c) x → TypedExpr c e →
      (later : Registers) (these : Make (Unit {0})) (t : Bool) → Takes t these → Takes (takes r e || t) (guard_by p f (low e) (guarded x) later these)
  guards_at e (one.Both a b) is q k ty = λ later these t h.
      let assigned : Registers = (low (condition p f b).itself).effects.assigned in
      has_if r (no_more r) (takes r e || t) ((low e).effects.pure later) (if_operand (low e) later these) ((condition p f a).guard (also assigned later) ((condition p f b).guard later these)) (by_operand e ty later these t h)
      (has_as r (no_more r) (takes r a || (takes r b || t)) (takes r e || t) ((condition p f a).guard (also assigned later) ((condition p f b).guard later these)) (sym (or_grouped (takes r a) (takes r b) t) ∙ ap (λ (z : Bool). z || t) (sym is))
      (q.0 k.0 (also assigned later) ((condition p f b).guard later these) (takes r b || t) (q.1 k.1 later these t h)))
  guards_at e (one.Const n i) is q k ty = by_operand e ty
  guards_at e (one.Null i) is q k ty = by_operand e ty
  guards_at e (one.FuncAddr g) is q k ty = by_operand e ty
  guards_at e (one.Load a) is q k ty = by_operand e ty
  guards_at e (one.AddrOf a) is q k ty = by_operand e ty
  guards_at e (one.Un op i a) is q k ty = by_operand e ty
  guards_at e (one.Bin op i a b) is q k ty = by_operand e ty
  guards_at e (one.Conv i a) is q k ty = by_operand e ty
  guards_at e (one.Qualify i a) is q k ty = by_operand e ty
  guards_at e (one.Move a b back) is q k ty = by_operand e ty
  guards_at e (one.Gap a b) is q k ty = by_operand e ty
  guards_at e (one.Compare op a b) is q k ty = by_operand e ty
  guards_at e (one.Either a b) is q k ty = by_operand e ty
  guards_at e (one.Choose d a b) is q k ty = by_operand e ty
  guards_at e (one.Assign a b) is q k ty = by_operand e ty
  guards_at e (one.Change a op i b) is q k ty = by_operand e ty
  guards_at e (one.After a down) is q k ty = by_operand e ty
  guards_at e (one.Call g args) is q k ty = by_operand e ty
  guards_at e (one.Intr i a) is q k ty = by_operand e ty
  guards_at e (one.Seq a b) is q k ty = by_operand e ty

  guards_level : (x : one.Expr-F Expr Place) → Parts Guards (λ a. Unit {0}) x → Guards (roll-Expr x)
  guards_level x q ty =
      let is : (condition_step p f (guarded x)).itself ≡ roll-Expr x = ap (λ (z : Condition). z.itself) (sym (condition-rolled x)) ∙ condition-itself (roll-Expr x) in
      let parts = typed_parts c x (subst (λ (m : Meaning). IsTyped m.ctype) (level c x) ty) in
      subst (λ (z : Condition). (later : Registers) (these : Make (Unit {0})) (t : Bool) → Takes t these → Takes (takes r (roll-Expr x) || t) (z.guard later these)) (sym (condition-rolled x))
      (subst (λ (e : Expr). (later : Registers) (these : Make (Unit {0})) (t : Bool) → Takes t these → Takes (takes r (roll-Expr x) || t) (guard_by p f (low e) (guarded x) later these)) (sym is)
      (guards_at (roll-Expr x) x (takes-rolled r x) q parts ty))

  guards : (e : Expr) → Guards e
  guards = by_expr Guards (λ a. Unit {0}) guards_level (λ x h. tt)

  -- ---- lists, and cases

  statements_take : (t : Bool) (m : Make (Unit {0})) → Takes t m → (k : ℕ) → any r (m k).stmts ≡ t
  statements_take t m h k = sym (or_none (any r (m k).stmts)) ∙ h k

  abbrev many : List Case → Bool
  many cases = list_any (λ b. b) (map (taken_case r) cases)

  taken_as : (s : Stmt) (x : is.Stmt-F Stmt Case) → roll-Stmt x ≡ s → is_taken_in r s ≡ stmt_at r x
  taken_as s x e = ap (is_taken_in r) (sym e) ∙ stmt-taken-roll r x

  emits : (s : Stmt) (t : Bool) → is_taken_in r s ≡ t → Takes t (emit s)
  emits s t e = has_as r (no_more r) (is_taken_in r s) t (emit s) e (has_emit r s)

  abbrev Keeps : Stmt → Type 0
  Keeps s = IsLowerableIn p f s → Takes (is_taken_in r s) (lower p f s)

  abbrev CaseKeeps : Case → Type 0
  CaseKeeps k = Each (IsLowerableIn p f) k.body → Has r (taken_case r) (taken_case r k) (lower_case p f k)

  list_takes : (l : List Stmt) → Each Keeps l → Each (IsLowerableIn p f) l → Takes (any r l) (in_turn (map (lower p f) l))
  list_takes [] q h = has_done r (no_more r) (tt {0})
  list_takes (s ∷ l) q h =
      has_then r (λ (u : Unit {0}). any r l) (no_more r) (is_taken_in r s || any r l) (lower p f s) (λ u. in_turn (map (lower p f) l)) (has_behind r (no_more r) (is_taken_in r s) (any r l) (lower p f s) (q.0 h.0)) (λ u. list_takes l q.1 h.1)

  cases_take : (ks : List Case) → Each CaseKeeps ks → Each (λ k. Each (IsLowerableIn p f) k.body) ks → Has r many (many ks) (all_made (map (lower_case p f) ks))
  cases_take [] q h = has_done r many []
  cases_take (k ∷ ks) q h =
      has_both r (λ (x : Case) (xs : List Case). x ∷ xs) (taken_case r) many many (λ x xs. refl) (taken_case r k) (many ks) (lower_case p f k) (all_made (map (lower_case p f) ks)) (q.0 h.0) (cases_take ks q.1 h.1)

  -- ---- statements

  operand_then : (e : Expr) → TypedExpr c e → (t : Bool) (m : Expr → Make (Unit {0})) → ((v : Expr) → Takes (takes r v || t) (m v)) → Takes (takes r e || t) ((low e).operand no_one >>= m)
  operand_then e ty t m h = has_then r (λ (x : Expr). takes r x || t) (no_more r) (takes r e || t) ((low e).operand no_one) m (has_behind r (takes r) (takes r e) t ((low e).operand no_one) ((same e ty).operand no_one)) h

  choice_takes : (e : Expr) (a b : List Stmt) → TypedExpr c e → Takes (any r a) (in_turn (map (lower p f) a)) → Takes (any r b) (in_turn (map (lower p f) b)) → Takes (takes r e || (any r a || any r b)) (choice p f e (map (lower p f) a) (map (lower p f) b))
  choice_takes e a [] ty h k =
      has_as r (no_more r) (takes r e || any r a) (takes r e || (any r a || false)) ((condition p f e).guard no_one (in_turn (map (lower p f) a))) (ap (λ (z : Bool). takes r e || z) (sym (or_none (any r a))))
      (guards e ty no_one (in_turn (map (lower p f) a)) (any r a) h)
  choice_takes e a (s ∷ b) ty h k =
      operand_then e ty (any r a || any r (s ∷ b)) (λ v. fork v (in_turn (map (lower p f) a)) (in_turn (map (lower p f) (s ∷ b)))) (λ v. has_fork r v (in_turn (map (lower p f) a)) (in_turn (map (lower p f) (s ∷ b))) (any r a) (any r (s ∷ b)) h k)

  loop_takes : (e : Expr) (body : List Stmt) → Takes (any r body) (in_turn (map (lower p f) body)) → Takes (takes r e || any r body) (lower_in p f (is.While e (map (lower p f) body)))
  loop_takes e body h k =
      let xs : List Stmt = (in_turn (map (lower p f) body) k).stmts in
      or_none (is_taken_in r (While e xs) || false) ∙ or_none (is_taken_in r (While e xs)) ∙ taken_as (While e xs) (is.While e xs) (rolls-While e xs) ∙ ap (λ (z : Bool). takes r e || z) (statements_take (any r body) (in_turn (map (lower p f) body)) h k)

  switch_takes : (e : Expr) (cases : List Case) → TypedExpr c e → Has r many (many cases) (all_made (map (lower_case p f) cases)) → Takes (takes r e || many cases) (lower_in p f (is.Switch e (map (lower_case p f) cases)))
  switch_takes e cases ty h =
      operand_then e ty (many cases) (λ v. all_made (map (lower_case p f) cases) >>= (λ cs. emit (Switch v cs)))
      (λ v. has_then r (λ (ks : List Case). takes r v || many ks) (no_more r) (takes r v || many cases) (all_made (map (lower_case p f) cases)) (λ cs. emit (Switch v cs)) (has_before r many (many cases) (takes r v) (all_made (map (lower_case p f) cases)) h)
      (λ cs. emits (Switch v cs) (takes r v || many cs) (taken_as (Switch v cs) (is.Switch v cs) (rolls-Switch v cs))))

  return_takes : (e : Expr) → TypedExpr c e → Takes (takes r e) (returned p f (Some e))
  return_takes e ty =
      has_then r (takes r) (no_more r) (takes r e) ((low e).operand no_one) (λ v. emit (Return (Some v))) ((same e ty).operand no_one)
      (λ v. emits (Return (Some v)) (takes r v) (taken_as (Return (Some v)) (is.Return (Some v)) (rolls-Return (Some v))))

  level_takes : (x : is.Stmt-F Stmt Case) → HasLowerableParts p f 0 0 x → StmtParts Keeps CaseKeeps x → Takes (stmt_at r x) (lower_in p f (map-Stmt Stmt Case (Make (Unit {0})) (Make Case) (lower p f) (lower_case p f) x))
  level_takes _ (PartsDo e h) q = (same e h.typed).effect no_one
  level_takes _ (PartsIf e a b h k j) q = choice_takes e a b h.typed (list_takes a q.0 k) (list_takes b q.1 j)
  level_takes _ (PartsLoop e body o h) q = loop_takes e body (list_takes body q h)
  level_takes _ (PartsSwitch e cases h k) q = switch_takes e cases h.typed (cases_take cases q k)
  level_takes _ PartsBreak q = emits Break false (taken_as Break is.Break rolls-Break)
  level_takes _ PartsContinue q = emits Continue false (taken_as Continue is.Continue rolls-Continue)
  level_takes _ (PartsReturn e h) q = return_takes e h.typed
  level_takes _ PartsEnd q = emits (Return None) false (taken_as (Return None) (is.Return None) (rolls-Return None))

  lower-rolled : (x : is.Stmt-F Stmt Case) → lower p f (roll-Stmt x) ≡ lower_in p f (map-Stmt Stmt Case (Make (Unit {0})) (Make Case) (lower p f) (lower_case p f) x)
  unfolding lower lower_case
  lower-rolled x = fold-roll-Stmt (Make (Unit {0})) (Make Case) (lower_in p f) (lower_case_in p f) x

  lower-case-rolled : (x : is.Case-F Stmt Case) → lower_case p f (roll-Case x) ≡ lower_case_in p f (record { labels = x.labels; body = map (lower p f) x.body })
  unfolding lower lower_case
  lower-case-rolled x = fold-roll-Case (Make (Unit {0})) (Make Case) (lower_in p f) (lower_case_in p f) x

  stmt_level : (x : is.Stmt-F Stmt Case) → StmtParts Keeps CaseKeeps x → Keeps (roll-Stmt x)
  stmt_level x q h =
      subst (λ (m : Make (Unit {0})). Takes (is_taken_in r (roll-Stmt x)) m) (sym (lower-rolled x))
      (subst (λ (t : Bool). Takes t (lower_in p f (map-Stmt Stmt Case (Make (Unit {0})) (Make Case) (lower p f) (lower_case p f) x))) (sym (stmt-taken-roll r x))
      (level_takes x (subst (HasLowerableParts p f 0 0) (out-roll-Stmt x) (lowerable_parts p f 0 0 (roll-Stmt x) h)) q))

  case_level : (x : is.Case-F Stmt Case) → CaseParts Keeps CaseKeeps x → CaseKeeps (roll-Case x)
  case_level x q h =
      let each = subst (λ (y : is.Case-F Stmt Case). Each (IsLowerableIn p f) y.body) (out-roll-Case x) h in
      subst (λ (m : Make Case). Has r (taken_case r) (taken_case r (roll-Case x)) m) (sym (lower-case-rolled x))
      (λ k.
      let made = in_turn (map (lower p f) x.body) k in
      case-taken-roll r (record { labels = x.labels; body = made.stmts }) ∙ statements_take (any r x.body) (in_turn (map (lower p f) x.body)) (list_takes x.body q each) k ∙ sym (case-taken-roll r x))

  pub body_takes : (l : List Stmt) → Each (IsLowerableIn p f) l → (k : ℕ) → any r (lower_list p f l k).stmts ≡ any r l
  body_takes l h k = statements_take (any r l) (lower_list p f l) (list_takes l (by_stmts Keeps CaseKeeps stmt_level case_level l) h) k

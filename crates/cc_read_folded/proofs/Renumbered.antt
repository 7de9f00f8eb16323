-- By other numbers expressions, statements and bodies are folded as they were.
use Rattle.std.proofs.Common.{◌≡◌, Bool, true, ◌&&◌, List, [], ◌∷◌, map, Option, Some, None, option_map, refl, ap, sym, ◌∙◌}
use Rattle.std.specs.Prelude.{slice_get}
use Rattle.std.specs.List.{list_all}
use Rattle.cc_folded_bodies.proofs.Statements.{folded_case, folded_at, folded-stmt-roll, folded-case-roll}
use Rattle.cc_folded_operands.proofs.Opened.{folding_at, place_folding_at, folding_is, place_folding_is, static_folded, device_folded}
use Rattle.cc_lower_sound.specs.Folded.{is_optional_folded, is_folded_stmt, are_folded}
use Rattle.cc_program.specs.CcNum.declared.target.Target.{Target}
use Rattle.cc_program.proofs.Each.{Each}
use Rattle.cc_program.proofs.ExprInduction.{Parts, PlaceParts, by_expr}
use Rattle.cc_program.proofs.StmtInduction.{StmtParts, CaseParts, by_stmts}
use Rattle.cc_program.specs.declared.expr.Expr.{Expr, Const, Null, FuncAddr, Load, AddrOf, Un, Bin, Conv, Qualify, Move, Gap, Compare, Both, Either, Choose, Assign, Change, After, Call, Intr, Seq, roll-Expr, map-Expr, fold-roll-Expr}
use Rattle.cc_program.specs.declared.expr.Expr.TheOpen as one
use Rattle.cc_program.specs.declared.expr.Expr.TheVariants as expr_rolls
use Rattle.cc_program.specs.declared.expr.Place.{Place, Local, Element, Member, Deref, roll-Place, map-Place, fold-roll-Place}
use Rattle.cc_program.specs.declared.expr.Place.TheVariants as place_rolls
use Rattle.cc_program.specs.declared.stmt.Case.{Case, roll-Case, fold-roll-Case}
use Rattle.cc_program.specs.declared.stmt.Stmt.{Stmt, Do, If, While, DoWhile, For, Switch, Break, Continue, Return, Empty, Block, roll-Stmt, map-Stmt, fold-roll-Stmt}
use Rattle.cc_program.specs.declared.stmt.Stmt.TheOpen as is
use Rattle.cc_program.specs.declared.stmt.Stmt.TheVariants as stmt_rolls
use Rattle.cc_eval.specs.CcSyntax.Folding.{Constant, Folding, operation, variable, unary_constant, binary_constant, converted_constant, both_constant, either_constant, chosen_constant, folding_of, is_folded, is_folded_place}
use Rattle.cc_type.specs.CcUnit.Renumbered.{type_renumbered, func_by, object_by, device_by, expr_step, place_step, place_renumbered, expr_renumbered, stmt_step, case_step, stmt_renumbered, case_renumbered}
use Rattle.cc_type.specs.CcUnit.declared.ids.Id.{Id}
use Rattle.cc_type.specs.CcUnit.declared.ids.Id.TheVariants as id
use Rattle.cc_type.specs.CcUnit.declared.ids.Ids.{Ids}

both_same : (a b c d : Bool) → a ≡ c → b ≡ d → a && b ≡ (c && d)
both_same a b c d h k = ap (λ (z : Bool). z && b) h ∙ ap (λ (z : Bool). c && z) k

module _ (target : Target) (ids : Ids) where
  abbrev expr : Expr → Expr
  expr e = expr_renumbered ids e

  abbrev place : Place → Place
  place a = place_renumbered ids a

  abbrev Same : Expr → Type 0
  Same e = folding_of target (expr e) ≡ folding_of target e

  abbrev SamePlace : Place → Type 0
  SamePlace a = is_folded_place target (place a) ≡ is_folded_place target a

  -- ---- one level

  expr-roll : (x : one.Expr-F Expr Place) → expr (roll-Expr x) ≡ expr_step ids (map-Expr Expr Place Expr Place (expr_renumbered ids) (place_renumbered ids) x)
  unfolding expr_renumbered place_renumbered
  expr-roll x = fold-roll-Expr Expr Place (expr_step ids) (place_step ids) x

  place-roll : (x : one.Place-F Expr Place) → place (roll-Place x) ≡ place_step ids (map-Place Expr Place Expr Place (expr_renumbered ids) (place_renumbered ids) x)
  unfolding expr_renumbered place_renumbered
  place-roll x = fold-roll-Place Expr Place (expr_step ids) (place_step ids) x

  -- ---- parts

  folded_same : (e : Expr) → Same e → is_folded target (expr e) ≡ is_folded target e
  folded_same e h = ap (λ (z : Folding). z.is_folded) h

  two_same : (a b : Expr) → Same a → Same b → variable (is_folded target (expr a) && is_folded target (expr b)) ≡ variable (is_folded target a && is_folded target b)
  two_same a b h k = ap variable (both_same (is_folded target (expr a)) (is_folded target (expr b)) (is_folded target a) (is_folded target b) (folded_same a h) (folded_same b k))

  with_place_same : (a : Place) (e : Expr) → SamePlace a → Same e → variable (is_folded_place target (place a) && is_folded target (expr e)) ≡ variable (is_folded_place target a && is_folded target e)
  with_place_same a e h k = ap variable (both_same (is_folded_place target (place a)) (is_folded target (expr e)) (is_folded_place target a) (is_folded target e) h (folded_same e k))

  operation_same : (f : Constant → Constant → Constant) (a b : Expr) → Same a → Same b →
      operation (f (folding_of target (expr a)).constant (folding_of target (expr b)).constant) (is_folded target (expr a) && is_folded target (expr b))
      ≡ operation (f (folding_of target a).constant (folding_of target b).constant) (is_folded target a && is_folded target b)
  operation_same f a b h k =
      ap (λ (z : Folding). operation (f z.constant (folding_of target (expr b)).constant) (z.is_folded && is_folded target (expr b))) h
      ∙ ap (λ (z : Folding). operation (f (folding_of target a).constant z.constant) (is_folded target a && z.is_folded)) k

  choice_same : (c a b : Expr) → Same c → Same a → Same b →
      operation (chosen_constant (folding_of target (expr c)).constant (folding_of target (expr a)).constant (folding_of target (expr b)).constant) (is_folded target (expr c) && (is_folded target (expr a) && is_folded target (expr b)))
      ≡ operation (chosen_constant (folding_of target c).constant (folding_of target a).constant (folding_of target b).constant) (is_folded target c && (is_folded target a && is_folded target b))
  choice_same c a b h k l =
      ap (λ (z : Folding). operation (chosen_constant z.constant (folding_of target (expr a)).constant (folding_of target (expr b)).constant) (z.is_folded && (is_folded target (expr a) && is_folded target (expr b)))) h
      ∙ ap (λ (z : Folding). operation (chosen_constant (folding_of target c).constant z.constant (folding_of target (expr b)).constant) (is_folded target c && (z.is_folded && is_folded target (expr b)))) k
      ∙ ap (λ (z : Folding). operation (chosen_constant (folding_of target c).constant (folding_of target a).constant z.constant) (is_folded target c && (is_folded target a && z.is_folded))) l

  list_same : (es : List Expr) → Each Same es → list_all (λ (a : Folding). a.is_folded) (map (folding_of target) (map (expr_renumbered ids) es)) ≡ list_all (λ (a : Folding). a.is_folded) (map (folding_of target) es)
  list_same [] h = refl
  list_same (e ∷ es) h =
      both_same (is_folded target (expr e)) (list_all (λ (a : Folding). a.is_folded) (map (folding_of target) (map (expr_renumbered ids) es))) (is_folded target e) (list_all (λ (a : Folding). a.is_folded) (map (folding_of target) es))
      (folded_same e h.0) (list_same es h.1)

  -- ---- expressions

  step_same : (x : one.Expr-F Expr Place) → Parts Same SamePlace x → folding_of target (expr_step ids (map-Expr Expr Place Expr Place (expr_renumbered ids) (place_renumbered ids) x)) ≡ folding_at target x
  step_same (one.Const n t) q = folding_is target (Const n t) (one.Const n t) (expr_rolls.rolls-Const n t)
  step_same (one.Null t) q = folding_is target (Null (type_renumbered ids.structures t)) (one.Null (type_renumbered ids.structures t)) (expr_rolls.rolls-Null (type_renumbered ids.structures t))
  step_same (one.FuncAddr f) q = let i = func_by (slice_get ids.names f) in folding_is target (FuncAddr i) (one.FuncAddr i) (expr_rolls.rolls-FuncAddr i)
  step_same (one.Load a) q = folding_is target (Load (place a)) (one.Load (place a)) (expr_rolls.rolls-Load (place a)) ∙ ap variable q
  step_same (one.AddrOf a) q = folding_is target (AddrOf (place a)) (one.AddrOf (place a)) (expr_rolls.rolls-AddrOf (place a)) ∙ ap variable q
  step_same (one.Un o t a) q = folding_is target (Un o t (expr a)) (one.Un o t (expr a)) (expr_rolls.rolls-Un o t (expr a)) ∙ ap (λ (z : Folding). operation (unary_constant target o t z.constant) z.is_folded) q
  step_same (one.Bin o t a b) q = folding_is target (Bin o t (expr a) (expr b)) (one.Bin o t (expr a) (expr b)) (expr_rolls.rolls-Bin o t (expr a) (expr b)) ∙ operation_same (binary_constant target o t) a b q.0 q.1
  step_same (one.Conv t a) q = folding_is target (Conv t (expr a)) (one.Conv t (expr a)) (expr_rolls.rolls-Conv t (expr a)) ∙ ap (λ (z : Folding). operation (converted_constant target t z.constant) z.is_folded) q
  step_same (one.Qualify t a) q =
      let u = type_renumbered ids.structures t in folding_is target (Qualify u (expr a)) (one.Qualify u (expr a)) (expr_rolls.rolls-Qualify u (expr a)) ∙ ap (λ (z : Folding). variable z.is_folded) q
  step_same (one.Move a b back) q = folding_is target (Move (expr a) (expr b) back) (one.Move (expr a) (expr b) back) (expr_rolls.rolls-Move (expr a) (expr b) back) ∙ two_same a b q.0 q.1
  step_same (one.Gap a b) q = folding_is target (Gap (expr a) (expr b)) (one.Gap (expr a) (expr b)) (expr_rolls.rolls-Gap (expr a) (expr b)) ∙ two_same a b q.0 q.1
  step_same (one.Compare o a b) q = folding_is target (Compare o (expr a) (expr b)) (one.Compare o (expr a) (expr b)) (expr_rolls.rolls-Compare o (expr a) (expr b)) ∙ two_same a b q.0 q.1
  step_same (one.Both a b) q = folding_is target (Both (expr a) (expr b)) (one.Both (expr a) (expr b)) (expr_rolls.rolls-Both (expr a) (expr b)) ∙ operation_same both_constant a b q.0 q.1
  step_same (one.Either a b) q = folding_is target (Either (expr a) (expr b)) (one.Either (expr a) (expr b)) (expr_rolls.rolls-Either (expr a) (expr b)) ∙ operation_same either_constant a b q.0 q.1
  step_same (one.Choose c a b) q =
      folding_is target (Choose (expr c) (expr a) (expr b)) (one.Choose (expr c) (expr a) (expr b)) (expr_rolls.rolls-Choose (expr c) (expr a) (expr b)) ∙ choice_same c a b q.0 q.1 q.2
  step_same (one.Assign a e) q = folding_is target (Assign (place a) (expr e)) (one.Assign (place a) (expr e)) (expr_rolls.rolls-Assign (place a) (expr e)) ∙ with_place_same a e q.0 q.1
  step_same (one.Change a o t e) q = folding_is target (Change (place a) o t (expr e)) (one.Change (place a) o t (expr e)) (expr_rolls.rolls-Change (place a) o t (expr e)) ∙ with_place_same a e q.0 q.1
  step_same (one.After a down) q = folding_is target (After (place a) down) (one.After (place a) down) (expr_rolls.rolls-After (place a) down) ∙ ap variable q
  step_same (one.Call f args) q =
      let es = map (expr_renumbered ids) args in
      folding_is target (Call (expr f) es) (one.Call (expr f) es) (expr_rolls.rolls-Call (expr f) es)
      ∙ ap variable (both_same (is_folded target (expr f)) (list_all (λ (a : Folding). a.is_folded) (map (folding_of target) es)) (is_folded target f) (list_all (λ (a : Folding). a.is_folded) (map (folding_of target) args)) (folded_same f q.0) (list_same args q.1))
  step_same (one.Intr i None) q = folding_is target (Intr i None) (one.Intr i None) (expr_rolls.rolls-Intr i None)
  step_same (one.Intr i (Some a)) q = folding_is target (Intr i (Some (expr a))) (one.Intr i (Some (expr a))) (expr_rolls.rolls-Intr i (Some (expr a))) ∙ ap (λ (z : Folding). variable z.is_folded) q
  step_same (one.Seq a b) q = folding_is target (Seq (expr a) (expr b)) (one.Seq (expr a) (expr b)) (expr_rolls.rolls-Seq (expr a) (expr b)) ∙ two_same a b q.0 q.1

  device_same : (o : Option Id) → is_folded_place target (device_by o) ≡ true
  device_same (Some (id.Device d)) = device_folded target d
  device_same (Some (id.Object i)) = static_folded target i
  device_same (Some (id.Func f)) = static_folded target 0
  device_same None = static_folded target 0

  place_step_same : (x : one.Place-F Expr Place) → PlaceParts Same SamePlace x → is_folded_place target (place_step ids (map-Place Expr Place Expr Place (expr_renumbered ids) (place_renumbered ids) x)) ≡ place_folding_at target x
  place_step_same (one.Local n) q = place_folding_is target (Local n) (one.Local n) (place_rolls.rolls-Local n)
  place_step_same (one.Static i) q = static_folded target (object_by (slice_get ids.names i))
  place_step_same (one.Device d) q = device_same (slice_get ids.names d)
  place_step_same (one.Element a e) q =
      place_folding_is target (Element (place a) (expr e)) (one.Element (place a) (expr e)) (place_rolls.rolls-Element (place a) (expr e))
      ∙ both_same (is_folded_place target (place a)) (is_folded target (expr e)) (is_folded_place target a) (is_folded target e) q.0 (folded_same e q.1)
  place_step_same (one.Member a m) q = place_folding_is target (Member (place a) m) (one.Member (place a) m) (place_rolls.rolls-Member (place a) m) ∙ q
  place_step_same (one.Deref e) q = place_folding_is target (Deref (expr e)) (one.Deref (expr e)) (place_rolls.rolls-Deref (expr e)) ∙ folded_same e q

  level : (x : one.Expr-F Expr Place) → Parts Same SamePlace x → Same (roll-Expr x)
  level x q = ap (folding_of target) (expr-roll x) ∙ (step_same x q ∙ sym (folding_is target (roll-Expr x) x refl))

  place_level : (x : one.Place-F Expr Place) → PlaceParts Same SamePlace x → SamePlace (roll-Place x)
  place_level x q = ap (is_folded_place target) (place-roll x) ∙ (place_step_same x q ∙ sym (place_folding_is target (roll-Place x) x refl))

  expr_same : (e : Expr) → is_folded target (expr e) ≡ is_folded target e
  expr_same e = folded_same e (by_expr Same SamePlace level place_level e)

  -- ---- statements

  abbrev stmt_by : Stmt → Stmt
  stmt_by s = stmt_renumbered ids s

  abbrev case_by : Case → Case
  case_by c = case_renumbered ids c

  abbrev SameStmt : Stmt → Type 0
  SameStmt s = is_folded_stmt target (stmt_by s) ≡ is_folded_stmt target s

  abbrev SameCase : Case → Type 0
  SameCase c = folded_case target (case_by c) ≡ folded_case target c

  stmt-roll : (x : is.Stmt-F Stmt Case) → stmt_by (roll-Stmt x) ≡ stmt_step ids (map-Stmt Stmt Case Stmt Case (stmt_renumbered ids) (case_renumbered ids) x)
  unfolding stmt_renumbered case_renumbered
  stmt-roll x = fold-roll-Stmt Stmt Case (stmt_step ids) (case_step ids) x

  case-roll : (x : is.Case-F Stmt Case) → case_by (roll-Case x) ≡ roll-Case (record { labels = x.labels; body = map (stmt_renumbered ids) x.body })
  unfolding stmt_renumbered case_renumbered
  case-roll x = fold-roll-Case Stmt Case (stmt_step ids) (case_step ids) x

  statements_same : (ss : List Stmt) → Each SameStmt ss → are_folded target (map (stmt_renumbered ids) ss) ≡ are_folded target ss
  statements_same [] h = refl
  statements_same (s ∷ ss) h = both_same (is_folded_stmt target (stmt_by s)) (are_folded target (map (stmt_renumbered ids) ss)) (is_folded_stmt target s) (are_folded target ss) h.0 (statements_same ss h.1)

  abbrev all_cases : List Case → Bool
  all_cases cs = list_all (λ b. b) (map (folded_case target) cs)

  cases_same : (cs : List Case) → Each SameCase cs → all_cases (map (case_renumbered ids) cs) ≡ all_cases cs
  cases_same [] h = refl
  cases_same (c ∷ cs) h = both_same (folded_case target (case_by c)) (all_cases (map (case_renumbered ids) cs)) (folded_case target c) (all_cases cs) h.0 (cases_same cs h.1)

  optional_same : (o : Option Expr) → is_optional_folded target (option_map (expr_renumbered ids) o) ≡ is_optional_folded target o
  optional_same None = refl
  optional_same (Some e) = expr_same e

  opened : (s : Stmt) (x : is.Stmt-F Stmt Case) → roll-Stmt x ≡ s → is_folded_stmt target s ≡ folded_at target x
  opened s x r = ap (is_folded_stmt target) (sym r) ∙ folded-stmt-roll target x

  stmt_step_same : (x : is.Stmt-F Stmt Case) → StmtParts SameStmt SameCase x → is_folded_stmt target (stmt_step ids (map-Stmt Stmt Case Stmt Case (stmt_renumbered ids) (case_renumbered ids) x)) ≡ folded_at target x
  stmt_step_same (is.Do e) q = opened (Do (expr e)) (is.Do (expr e)) (stmt_rolls.rolls-Do (expr e)) ∙ expr_same e
  stmt_step_same (is.If e a b) q =
      let these = map (stmt_renumbered ids) a in
      let those = map (stmt_renumbered ids) b in
      opened (If (expr e) these those) (is.If (expr e) these those) (stmt_rolls.rolls-If (expr e) these those)
      ∙ both_same (is_folded target (expr e)) (are_folded target these && are_folded target those) (is_folded target e) (are_folded target a && are_folded target b) (expr_same e)
      (both_same (are_folded target these) (are_folded target those) (are_folded target a) (are_folded target b) (statements_same a q.0) (statements_same b q.1))
  stmt_step_same (is.While e a) q =
      let body = map (stmt_renumbered ids) a in
      opened (While (expr e) body) (is.While (expr e) body) (stmt_rolls.rolls-While (expr e) body) ∙ both_same (is_folded target (expr e)) (are_folded target body) (is_folded target e) (are_folded target a) (expr_same e) (statements_same a q)
  stmt_step_same (is.DoWhile a e) q =
      let body = map (stmt_renumbered ids) a in
      opened (DoWhile body (expr e)) (is.DoWhile body (expr e)) (stmt_rolls.rolls-DoWhile body (expr e)) ∙ both_same (is_folded target (expr e)) (are_folded target body) (is_folded target e) (are_folded target a) (expr_same e) (statements_same a q)
  stmt_step_same (is.For first test again a) q =
      let f = option_map (expr_renumbered ids) first in
      let t = option_map (expr_renumbered ids) test in
      let g = option_map (expr_renumbered ids) again in
      let body = map (stmt_renumbered ids) a in
      opened (For f t g body) (is.For f t g body) (stmt_rolls.rolls-For f t g body)
      ∙ both_same (is_optional_folded target f) (is_optional_folded target t && (is_optional_folded target g && are_folded target body)) (is_optional_folded target first) (is_optional_folded target test && (is_optional_folded target again && are_folded target a)) (optional_same first)
      (both_same (is_optional_folded target t) (is_optional_folded target g && are_folded target body) (is_optional_folded target test) (is_optional_folded target again && are_folded target a) (optional_same test)
      (both_same (is_optional_folded target g) (are_folded target body) (is_optional_folded target again) (are_folded target a) (optional_same again) (statements_same a q)))
  stmt_step_same (is.Switch e cases) q =
      let cs = map (case_renumbered ids) cases in
      opened (Switch (expr e) cs) (is.Switch (expr e) cs) (stmt_rolls.rolls-Switch (expr e) cs) ∙ both_same (is_folded target (expr e)) (all_cases cs) (is_folded target e) (all_cases cases) (expr_same e) (cases_same cases q)
  stmt_step_same is.Break q = opened Break is.Break stmt_rolls.rolls-Break
  stmt_step_same is.Continue q = opened Continue is.Continue stmt_rolls.rolls-Continue
  stmt_step_same (is.Return e) q = let o = option_map (expr_renumbered ids) e in opened (Return o) (is.Return o) (stmt_rolls.rolls-Return o) ∙ optional_same e
  stmt_step_same is.Empty q = opened Empty is.Empty stmt_rolls.rolls-Empty
  stmt_step_same (is.Block a) q = let body = map (stmt_renumbered ids) a in opened (Block body) (is.Block body) (stmt_rolls.rolls-Block body) ∙ statements_same a q

  stmt_level : (x : is.Stmt-F Stmt Case) → StmtParts SameStmt SameCase x → SameStmt (roll-Stmt x)
  stmt_level x q = ap (is_folded_stmt target) (stmt-roll x) ∙ (stmt_step_same x q ∙ sym (folded-stmt-roll target x))

  case_level : (x : is.Case-F Stmt Case) → CaseParts SameStmt SameCase x → SameCase (roll-Case x)
  case_level x q =
      ap (folded_case target) (case-roll x) ∙ (folded-case-roll target (record { labels = x.labels; body = map (stmt_renumbered ids) x.body }) ∙ (statements_same x.body q ∙ sym (folded-case-roll target x)))

  pub bodies_same : (ss : List Stmt) → are_folded target (map (stmt_renumbered ids) ss) ≡ are_folded target ss
  bodies_same ss = statements_same ss (by_stmts SameStmt SameCase stmt_level case_level ss)

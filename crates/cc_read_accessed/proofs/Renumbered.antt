-- By other numbers expressions, statements and bodies access a device by its number there.
use Rattle.std.proofs.Common.{◌≡◌, ◌||◌, true, ℕ, List, [], ◌∷◌, map, Option, Some, None, option_map, refl, ap, sym, ◌∙◌}
use Rattle.std.specs.Prelude.{nat_eq, slice_get}
use Rattle.std.specs.List.{list_any}
use Rattle.std.proofs.lemmas.Bool.{eqb-true, eq-eqb}
use Rattle.cc_accessed_operands.proofs.Accesses.{or_kept, no, accesses_at, place_access_at, accesses-roll, place-access-roll, case_accesses, cases_access, stmt_accesses_at, stmt-accesses-roll, case-accesses-roll}
use Rattle.cc_accessed_operands.specs.Accessed.{PlaceAccess, of_place, accesses, place_access, optional_accesses, stmt_accesses, list_accesses}
use Rattle.cc_program.proofs.Each.{Each}
use Rattle.cc_program.proofs.ExprInduction.{Parts, PlaceParts, by_expr}
use Rattle.cc_program.proofs.StmtInduction.{StmtParts, CaseParts, by_stmts}
use Rattle.cc_program.specs.declared.expr.Expr.{Expr, Load, AddrOf, Un, Bin, Conv, Qualify, Move, Gap, Compare, Both, Either, Choose, Assign, Change, After, Call, Intr, Seq, roll-Expr, map-Expr, fold-roll-Expr}
use Rattle.cc_program.specs.declared.expr.Expr.TheOpen as one
use Rattle.cc_program.specs.declared.expr.Expr.TheVariants as expr_rolls
use Rattle.cc_program.specs.declared.expr.Place.{Place, Device, Element, Member, Deref, roll-Place, map-Place, fold-roll-Place}
use Rattle.cc_program.specs.declared.expr.Place.TheVariants as place_rolls
use Rattle.cc_program.specs.declared.stmt.Case.{Case, roll-Case, fold-roll-Case}
use Rattle.cc_program.specs.declared.stmt.Stmt.{Stmt, Do, If, While, DoWhile, For, Switch, Return, Block, roll-Stmt, map-Stmt, fold-roll-Stmt}
use Rattle.cc_program.specs.declared.stmt.Stmt.TheOpen as is
use Rattle.cc_program.specs.declared.stmt.Stmt.TheVariants as stmt_rolls
use Rattle.cc_type.specs.CcUnit.Renumbered.{type_renumbered, device_by, expr_step, place_step, place_renumbered, expr_renumbered, stmt_step, case_step, stmt_renumbered, case_renumbered}
use Rattle.cc_type.specs.CcUnit.declared.ids.Id.{Id}
use Rattle.cc_type.specs.CcUnit.declared.ids.Id.TheVariants as id
use Rattle.cc_type.specs.CcUnit.declared.ids.Ids.{Ids}

-- the device i has the number j there
module _ (ids : Ids) (i j : ℕ) (numbered : slice_get ids.names i ≡ Some (id.Device j)) where
  abbrev expr : Expr → Expr
  expr e = expr_renumbered ids e

  abbrev place : Place → Place
  place a = place_renumbered ids a

  abbrev Kept : Expr → Type 0
  Kept e = accesses i e ≡ true → accesses j (expr e) ≡ true

  record PlaceKept (a : Place) : Type 0 where
    device : (place_access i a).is_device ≡ true → (place_access j (place a)).is_device ≡ true
    inside : (place_access i a).inside ≡ true → (place_access j (place a)).inside ≡ true

  -- ---- one level

  expr-roll : (x : one.Expr-F Expr Place) → expr (roll-Expr x) ≡ expr_step ids (map-Expr Expr Place Expr Place (expr_renumbered ids) (place_renumbered ids) x)
  unfolding expr_renumbered place_renumbered
  expr-roll x = fold-roll-Expr Expr Place (expr_step ids) (place_step ids) x

  place-roll : (x : one.Place-F Expr Place) → place (roll-Place x) ≡ place_step ids (map-Place Expr Place Expr Place (expr_renumbered ids) (place_renumbered ids) x)
  unfolding expr_renumbered place_renumbered
  place-roll x = fold-roll-Place Expr Place (expr_step ids) (place_step ids) x

  opened : (e : Expr) (x : one.Expr-F Expr Place) → roll-Expr x ≡ e → accesses_at j x ≡ true → accesses j e ≡ true
  opened e x r h = ap (accesses j) (sym r) ∙ (accesses-roll j x ∙ h)

  -- ---- parts

  at_place : (a : Place) → PlaceKept a → of_place (place_access i a) ≡ true → of_place (place_access j (place a)) ≡ true
  at_place a q h = or_kept (place_access i a).is_device (place_access i a).inside (place_access j (place a)).is_device (place_access j (place a)).inside q.device q.inside h

  two : (a b : Expr) → Kept a → Kept b → accesses i a || accesses i b ≡ true → accesses j (expr a) || accesses j (expr b) ≡ true
  two a b p q h = or_kept (accesses i a) (accesses i b) (accesses j (expr a)) (accesses j (expr b)) p q h

  at_place_or : (a : Place) (e : Expr) → PlaceKept a → Kept e → of_place (place_access i a) || accesses i e ≡ true → of_place (place_access j (place a)) || accesses j (expr e) ≡ true
  at_place_or a e p q h = or_kept (of_place (place_access i a)) (accesses i e) (of_place (place_access j (place a))) (accesses j (expr e)) (at_place a p) q h

  some_of : (es : List Expr) → Each Kept es → list_any (λ b. b) (map (accesses i) es) ≡ true → list_any (λ b. b) (map (accesses j) (map (expr_renumbered ids) es)) ≡ true
  some_of [] q h = no h
  some_of (e ∷ es) q h =
      or_kept (accesses i e) (list_any (λ b. b) (map (accesses i) es)) (accesses j (expr e)) (list_any (λ b. b) (map (accesses j) (map (expr_renumbered ids) es))) q.0 (some_of es q.1) h

  -- ---- expressions

  step : (x : one.Expr-F Expr Place) → Parts Kept PlaceKept x → accesses_at i x ≡ true → accesses j (expr_step ids (map-Expr Expr Place Expr Place (expr_renumbered ids) (place_renumbered ids) x)) ≡ true
  step (one.Const n t) q h = no h
  step (one.Null t) q h = no h
  step (one.FuncAddr f) q h = no h
  step (one.Load a) q h = opened (Load (place a)) (one.Load (place a)) (expr_rolls.rolls-Load (place a)) (at_place a q h)
  step (one.AddrOf a) q h = opened (AddrOf (place a)) (one.AddrOf (place a)) (expr_rolls.rolls-AddrOf (place a)) (q.inside h)
  step (one.Un o t a) q h = opened (Un o t (expr a)) (one.Un o t (expr a)) (expr_rolls.rolls-Un o t (expr a)) (q h)
  step (one.Bin o t a b) q h = opened (Bin o t (expr a) (expr b)) (one.Bin o t (expr a) (expr b)) (expr_rolls.rolls-Bin o t (expr a) (expr b)) (two a b q.0 q.1 h)
  step (one.Conv t a) q h = opened (Conv t (expr a)) (one.Conv t (expr a)) (expr_rolls.rolls-Conv t (expr a)) (q h)
  step (one.Qualify t a) q h = let u = type_renumbered ids.structures t in opened (Qualify u (expr a)) (one.Qualify u (expr a)) (expr_rolls.rolls-Qualify u (expr a)) (q h)
  step (one.Move a b back) q h = opened (Move (expr a) (expr b) back) (one.Move (expr a) (expr b) back) (expr_rolls.rolls-Move (expr a) (expr b) back) (two a b q.0 q.1 h)
  step (one.Gap a b) q h = opened (Gap (expr a) (expr b)) (one.Gap (expr a) (expr b)) (expr_rolls.rolls-Gap (expr a) (expr b)) (two a b q.0 q.1 h)
  step (one.Compare o a b) q h = opened (Compare o (expr a) (expr b)) (one.Compare o (expr a) (expr b)) (expr_rolls.rolls-Compare o (expr a) (expr b)) (two a b q.0 q.1 h)
  step (one.Both a b) q h = opened (Both (expr a) (expr b)) (one.Both (expr a) (expr b)) (expr_rolls.rolls-Both (expr a) (expr b)) (two a b q.0 q.1 h)
  step (one.Either a b) q h = opened (Either (expr a) (expr b)) (one.Either (expr a) (expr b)) (expr_rolls.rolls-Either (expr a) (expr b)) (two a b q.0 q.1 h)
  step (one.Choose c a b) q h =
      opened (Choose (expr c) (expr a) (expr b)) (one.Choose (expr c) (expr a) (expr b)) (expr_rolls.rolls-Choose (expr c) (expr a) (expr b))
      (or_kept (accesses i c) (accesses i a || accesses i b) (accesses j (expr c)) (accesses j (expr a) || accesses j (expr b)) q.0 (two a b q.1 q.2) h)
  step (one.Assign a e) q h = opened (Assign (place a) (expr e)) (one.Assign (place a) (expr e)) (expr_rolls.rolls-Assign (place a) (expr e)) (at_place_or a e q.0 q.1 h)
  step (one.Change a o t e) q h = opened (Change (place a) o t (expr e)) (one.Change (place a) o t (expr e)) (expr_rolls.rolls-Change (place a) o t (expr e)) (at_place_or a e q.0 q.1 h)
  step (one.After a down) q h = opened (After (place a) down) (one.After (place a) down) (expr_rolls.rolls-After (place a) down) (at_place a q h)
  step (one.Call f args) q h =
      let es = map (expr_renumbered ids) args in
      opened (Call (expr f) es) (one.Call (expr f) es) (expr_rolls.rolls-Call (expr f) es)
      (or_kept (accesses i f) (list_any (λ b. b) (map (accesses i) args)) (accesses j (expr f)) (list_any (λ b. b) (map (accesses j) es)) q.0 (some_of args q.1) h)
  step (one.Intr o None) q h = no h
  step (one.Intr o (Some a)) q h = opened (Intr o (Some (expr a))) (one.Intr o (Some (expr a))) (expr_rolls.rolls-Intr o (Some (expr a))) (q h)
  step (one.Seq a b) q h = opened (Seq (expr a) (expr b)) (one.Seq (expr a) (expr b)) (expr_rolls.rolls-Seq (expr a) (expr b)) (two a b q.0 q.1 h)

  -- ---- places

  abbrev of_step : one.Place-F Expr Place → Place
  of_step x = place_step ids (map-Place Expr Place Expr Place (expr_renumbered ids) (place_renumbered ids) x)

  access_is : (a : Place) (x : one.Place-F Expr Place) → roll-Place x ≡ a → place_access j a ≡ place_access_at j x
  access_is a x r = ap (place_access j) (sym r) ∙ place-access-roll j x

  inside_is : (a : Place) (x : one.Place-F Expr Place) → roll-Place x ≡ a → (place_access_at j x).inside ≡ true → (place_access j a).inside ≡ true
  inside_is a x r h = ap (λ (z : PlaceAccess). z.inside) (access_is a x r) ∙ h

  -- the device itself
  device_itself : (d : ℕ) → nat_eq i d ≡ true → (place_access j (device_by (slice_get ids.names d))).is_device ≡ true
  device_itself d h =
      let same : slice_get ids.names d ≡ Some (id.Device j) = ap (slice_get ids.names) (sym (eqb-true i d h)) ∙ numbered in
      ap (λ (o : Option Id). (place_access j (device_by o)).is_device) same
      ∙ (ap (λ (z : PlaceAccess). z.is_device) (access_is (Device j) (one.Device j) (place_rolls.rolls-Device j)) ∙ eq-eqb j j refl)

  device_step : (x : one.Place-F Expr Place) → PlaceParts Kept PlaceKept x → (place_access_at i x).is_device ≡ true → (place_access j (of_step x)).is_device ≡ true
  device_step (one.Local n) q h = no h
  device_step (one.Static n) q h = no h
  device_step (one.Device d) q h = device_itself d h
  device_step (one.Element a e) q h = no h
  device_step (one.Member a m) q h = no h
  device_step (one.Deref e) q h = no h

  inside_step : (x : one.Place-F Expr Place) → PlaceParts Kept PlaceKept x → (place_access_at i x).inside ≡ true → (place_access j (of_step x)).inside ≡ true
  inside_step (one.Local n) q h = no h
  inside_step (one.Static n) q h = no h
  inside_step (one.Device d) q h = no h
  inside_step (one.Element a e) q h =
      inside_is (Element (place a) (expr e)) (one.Element (place a) (expr e)) (place_rolls.rolls-Element (place a) (expr e))
      (or_kept (place_access i a).inside (accesses i e) (place_access j (place a)).inside (accesses j (expr e)) q.0.inside q.1 h)
  inside_step (one.Member a m) q h = inside_is (Member (place a) m) (one.Member (place a) m) (place_rolls.rolls-Member (place a) m) (q.inside h)
  inside_step (one.Deref e) q h = inside_is (Deref (expr e)) (one.Deref (expr e)) (place_rolls.rolls-Deref (expr e)) (q h)

  level : (x : one.Expr-F Expr Place) → Parts Kept PlaceKept x → Kept (roll-Expr x)
  level x q h = ap (accesses j) (expr-roll x) ∙ step x q (sym (accesses-roll i x) ∙ h)

  place_level : (x : one.Place-F Expr Place) → PlaceParts Kept PlaceKept x → PlaceKept (roll-Place x)
  place_level x q = record {
    device = λ h. ap (λ (a : Place). (place_access j a).is_device) (place-roll x) ∙ device_step x q (ap (λ (z : PlaceAccess). z.is_device) (sym (place-access-roll i x)) ∙ h);
    inside = λ h. ap (λ (a : Place). (place_access j a).inside) (place-roll x) ∙ inside_step x q (ap (λ (z : PlaceAccess). z.inside) (sym (place-access-roll i x)) ∙ h);
  }

  kept : (e : Expr) → Kept e
  kept e = by_expr Kept PlaceKept level place_level e

  -- ---- statements

  abbrev stmt : Stmt → Stmt
  stmt s = stmt_renumbered ids s

  abbrev case_by : Case → Case
  case_by c = case_renumbered ids c

  abbrev StmtKept : Stmt → Type 0
  StmtKept s = stmt_accesses i s ≡ true → stmt_accesses j (stmt s) ≡ true

  abbrev CaseKept : Case → Type 0
  CaseKept c = case_accesses i c ≡ true → case_accesses j (case_by c) ≡ true

  stmt-roll : (x : is.Stmt-F Stmt Case) → stmt (roll-Stmt x) ≡ stmt_step ids (map-Stmt Stmt Case Stmt Case (stmt_renumbered ids) (case_renumbered ids) x)
  unfolding stmt_renumbered case_renumbered
  stmt-roll x = fold-roll-Stmt Stmt Case (stmt_step ids) (case_step ids) x

  case-roll : (x : is.Case-F Stmt Case) → case_by (roll-Case x) ≡ roll-Case (record { labels = x.labels; body = map (stmt_renumbered ids) x.body })
  unfolding stmt_renumbered case_renumbered
  case-roll x = fold-roll-Case Stmt Case (stmt_step ids) (case_step ids) x

  list_kept : (ss : List Stmt) → Each StmtKept ss → list_accesses i ss ≡ true → list_accesses j (map (stmt_renumbered ids) ss) ≡ true
  list_kept [] q h = no h
  list_kept (s ∷ ss) q h = or_kept (stmt_accesses i s) (list_accesses i ss) (stmt_accesses j (stmt s)) (list_accesses j (map (stmt_renumbered ids) ss)) q.0 (list_kept ss q.1) h

  cases_kept : (cs : List Case) → Each CaseKept cs → cases_access i cs ≡ true → cases_access j (map (case_renumbered ids) cs) ≡ true
  cases_kept [] q h = no h
  cases_kept (c ∷ cs) q h = or_kept (case_accesses i c) (cases_access i cs) (case_accesses j (case_by c)) (cases_access j (map (case_renumbered ids) cs)) q.0 (cases_kept cs q.1) h

  optional_kept : (o : Option Expr) → optional_accesses i o ≡ true → optional_accesses j (option_map (expr_renumbered ids) o) ≡ true
  optional_kept None h = no h
  optional_kept (Some e) h = kept e h

  opened_stmt : (s : Stmt) (x : is.Stmt-F Stmt Case) → roll-Stmt x ≡ s → stmt_accesses_at j x ≡ true → stmt_accesses j s ≡ true
  opened_stmt s x r h = ap (stmt_accesses j) (sym r) ∙ (stmt-accesses-roll j x ∙ h)

  with_body : (e : Expr) (a : List Stmt) → Each StmtKept a → accesses i e || list_accesses i a ≡ true → accesses j (expr e) || list_accesses j (map (stmt_renumbered ids) a) ≡ true
  with_body e a q h = or_kept (accesses i e) (list_accesses i a) (accesses j (expr e)) (list_accesses j (map (stmt_renumbered ids) a)) (kept e) (list_kept a q) h

  statement : (x : is.Stmt-F Stmt Case) → StmtParts StmtKept CaseKept x → stmt_accesses_at i x ≡ true → stmt_accesses j (stmt_step ids (map-Stmt Stmt Case Stmt Case (stmt_renumbered ids) (case_renumbered ids) x)) ≡ true
  statement (is.Do e) q h = opened_stmt (Do (expr e)) (is.Do (expr e)) (stmt_rolls.rolls-Do (expr e)) (kept e h)
  statement (is.If e a b) q h =
      let these = map (stmt_renumbered ids) a in
      let those = map (stmt_renumbered ids) b in
      opened_stmt (If (expr e) these those) (is.If (expr e) these those) (stmt_rolls.rolls-If (expr e) these those)
      (or_kept (accesses i e) (list_accesses i a || list_accesses i b) (accesses j (expr e)) (list_accesses j these || list_accesses j those) (kept e)
      (or_kept (list_accesses i a) (list_accesses i b) (list_accesses j these) (list_accesses j those) (list_kept a q.0) (list_kept b q.1)) h)
  statement (is.While e a) q h = let body = map (stmt_renumbered ids) a in opened_stmt (While (expr e) body) (is.While (expr e) body) (stmt_rolls.rolls-While (expr e) body) (with_body e a q h)
  statement (is.DoWhile a e) q h = let body = map (stmt_renumbered ids) a in opened_stmt (DoWhile body (expr e)) (is.DoWhile body (expr e)) (stmt_rolls.rolls-DoWhile body (expr e)) (with_body e a q h)
  statement (is.For first test again a) q h =
      let f = option_map (expr_renumbered ids) first in
      let t = option_map (expr_renumbered ids) test in
      let g = option_map (expr_renumbered ids) again in
      let body = map (stmt_renumbered ids) a in
      opened_stmt (For f t g body) (is.For f t g body) (stmt_rolls.rolls-For f t g body)
      (or_kept (optional_accesses i first) (optional_accesses i test || (optional_accesses i again || list_accesses i a)) (optional_accesses j f) (optional_accesses j t || (optional_accesses j g || list_accesses j body)) (optional_kept first)
      (or_kept (optional_accesses i test) (optional_accesses i again || list_accesses i a) (optional_accesses j t) (optional_accesses j g || list_accesses j body) (optional_kept test)
      (or_kept (optional_accesses i again) (list_accesses i a) (optional_accesses j g) (list_accesses j body) (optional_kept again) (list_kept a q))) h)
  statement (is.Switch e cases) q h =
      let cs = map (case_renumbered ids) cases in
      opened_stmt (Switch (expr e) cs) (is.Switch (expr e) cs) (stmt_rolls.rolls-Switch (expr e) cs) (or_kept (accesses i e) (cases_access i cases) (accesses j (expr e)) (cases_access j cs) (kept e) (cases_kept cases q) h)
  statement is.Break q h = no h
  statement is.Continue q h = no h
  statement (is.Return e) q h = let o = option_map (expr_renumbered ids) e in opened_stmt (Return o) (is.Return o) (stmt_rolls.rolls-Return o) (optional_kept e h)
  statement is.Empty q h = no h
  statement (is.Block a) q h = let body = map (stmt_renumbered ids) a in opened_stmt (Block body) (is.Block body) (stmt_rolls.rolls-Block body) (list_kept a q h)

  stmt_level : (x : is.Stmt-F Stmt Case) → StmtParts StmtKept CaseKept x → StmtKept (roll-Stmt x)
  stmt_level x q h = ap (stmt_accesses j) (stmt-roll x) ∙ statement x q (sym (stmt-accesses-roll i x) ∙ h)

  case_level : (x : is.Case-F Stmt Case) → CaseParts StmtKept CaseKept x → CaseKept (roll-Case x)
  case_level x q h =
      ap (case_accesses j) (case-roll x) ∙ (case-accesses-roll j (record { labels = x.labels; body = map (stmt_renumbered ids) x.body }) ∙ list_kept x.body q (sym (case-accesses-roll i x) ∙ h))

  -- a body that accesses i accesses j there
  pub body_accesses : (ss : List Stmt) → list_accesses i ss ≡ true → list_accesses j (map (stmt_renumbered ids) ss) ≡ true
  body_accesses ss h = list_kept ss (by_stmts StmtKept CaseKept stmt_level case_level ss) h

-- Statements that are sound over a view are so, by other numbers, over one that has what they mention.
use Rattle.std.proofs.Common.{◌≡◌, ℕ, ℤ, Bool, true, List, [], ◌∷◌, ◌++◌, map, Option, Some, None, option_map, is_some, refl, sym, ◌∙◌, subst}
use Rattle.cc_program.specs.CcNum.declared.target.Target.{Target}
use Rattle.cc_operands.specs.CcSyntax.Views.{View}
use Rattle.cc_operands.specs.CcSyntax.Expressions.{type_of}
use Rattle.cc_program.specs.declared.expr.Expr.{Expr}
use Rattle.cc_program.specs.declared.stmt.Case.{Case, roll-Case, fold-roll-Case}
use Rattle.cc_program.specs.declared.stmt.Stmt.{Stmt, roll-Stmt, map-Stmt, fold-roll-Stmt}
use Rattle.cc_program.specs.declared.stmt.Stmt.TheOpen as is
use Rattle.cc_program.specs.declared.stmt.Stmt.TheVariants.{rolls-Do, rolls-If, rolls-While, rolls-DoWhile, rolls-For, rolls-Switch, rolls-Break, rolls-Continue, rolls-Return, rolls-Empty, rolls-Block}
use Rattle.cc_program.specs.declared.types.CType.{CType}
use Rattle.cc_program.proofs.Each.{Each, Held}
use Rattle.cc_operands.specs.CcSyntax.Statements.{labels_fit, is_condition, is_sound_body}
use Rattle.cc_operands.specs.CcSyntax.Types.{Named}
use Rattle.cc_operands.specs.CcSyntax.Values.{ValueType, NoValue, Integer, ToObject, ToFunction}
use Rattle.cc_unit.specs.Mentioned as mentioned
use Rattle.cc_unit.specs.Mentioned.{in_expr, in_maybe, in_stmt, in_case, all_of}
use Rattle.cc_unit.specs.Renumbered as renumbered
use Rattle.cc_unit.specs.Renumbered.{expr_renumbered, stmt_renumbered, case_renumbered, type_renumbered}
use Rattle.cc_unit.specs.declared.ids.Ids.{Ids}
use Rattle.cc_operand_types.specs.Kept.{Keeps}
use Rattle.cc_operand_types.proofs.Bodies.{follows_kept}
use Rattle.cc_operand_types.proofs.Changes.{changed, GoodLevel, IsChange, body_stays}
use Rattle.cc_operand_types.proofs.Follows.{Follows}
use Rattle.cc_relocated_units.specs.Renumbering.{Renumbers, RenumberedLocals, value_renumbered}
use Rattle.cc_relocated_units.proofs.Rules.{Numbered, mapped_follows, some_exact}
use Rattle.cc_relocated_units.proofs.Typed.{front_each, back_each, numbered_typed, members}
use Rattle.cc_relocated_units.proofs.Types.{void_kept}
use Rattle.cc_relocated_units.proofs.Values.{scalar_same}

-- ---- what statements ask of a type they ask of it by other numbers

module _ (numbers : List ℕ) where
  abbrev mapped : Option ValueType → Option ValueType
  mapped o = option_map (value_renumbered numbers) o

  there_same : (o : Option ValueType) → is_some (mapped o) ≡ is_some o
  there_same None = refl
  there_same (Some t) = refl

  condition_same : (o : Option ValueType) → is_condition (mapped o) ≡ is_condition o
  condition_same None = refl
  condition_same (Some t) = scalar_same numbers t

  labels_same : (target : Target) (ls : List (Option ℤ)) (o : Option ValueType) → labels_fit target ls (mapped o) ≡ labels_fit target ls o
  labels_same target ls None = refl
  labels_same target ls (Some NoValue) = refl
  labels_same target ls (Some (Integer i)) = refl
  labels_same target ls (Some (ToObject c v t)) = refl
  labels_same target ls (Some (ToFunction s)) = refl

-- ---- one level

module _ (ids : Ids) where
  renumbered-roll : (x : is.Stmt-F Stmt Case) → stmt_renumbered ids (roll-Stmt x) ≡ renumbered.stmt_step ids (map-Stmt Stmt Case Stmt Case (stmt_renumbered ids) (case_renumbered ids) x)
  unfolding stmt_renumbered case_renumbered
  renumbered-roll x = fold-roll-Stmt Stmt Case (renumbered.stmt_step ids) (renumbered.case_step ids) x

  case_level : (x : is.Case-F Stmt Case) → case_renumbered ids (roll-Case x) ≡ roll-Case (record { labels = x.labels; body = map (stmt_renumbered ids) x.body })
  unfolding stmt_renumbered case_renumbered
  case_level x = fold-roll-Case Stmt Case (renumbered.stmt_step ids) (renumbered.case_step ids) x

  rolled : (x : is.Stmt-F Stmt Case) → renumbered.stmt_step ids (map-Stmt Stmt Case Stmt Case (stmt_renumbered ids) (case_renumbered ids) x) ≡ roll-Stmt (changed (expr_renumbered ids) (stmt_renumbered ids) (case_renumbered ids) x)
  rolled (is.Do e) = sym (rolls-Do (expr_renumbered ids e))
  rolled (is.If e a b) = sym (rolls-If (expr_renumbered ids e) (map (stmt_renumbered ids) a) (map (stmt_renumbered ids) b))
  rolled (is.While e a) = sym (rolls-While (expr_renumbered ids e) (map (stmt_renumbered ids) a))
  rolled (is.DoWhile a e) = sym (rolls-DoWhile (map (stmt_renumbered ids) a) (expr_renumbered ids e))
  rolled (is.For first test step a) = sym (rolls-For (option_map (expr_renumbered ids) first) (option_map (expr_renumbered ids) test) (option_map (expr_renumbered ids) step) (map (stmt_renumbered ids) a))
  rolled (is.Switch e cases) = sym (rolls-Switch (expr_renumbered ids e) (map (case_renumbered ids) cases))
  rolled is.Break = sym rolls-Break
  rolled is.Continue = sym rolls-Continue
  rolled (is.Return e) = sym (rolls-Return (option_map (expr_renumbered ids) e))
  rolled is.Empty = sym rolls-Empty
  rolled (is.Block a) = sym (rolls-Block (map (stmt_renumbered ids) a))

mentioned-roll : (x : is.Stmt-F Stmt Case) → in_stmt (roll-Stmt x) ≡ mentioned.stmt_step (map-Stmt Stmt Case (List ℕ) (List ℕ) in_stmt in_case x)
unfolding in_stmt in_case
mentioned-roll x = fold-roll-Stmt (List ℕ) (List ℕ) mentioned.stmt_step mentioned.case_step x

mentioned_case-roll : (x : is.Case-F Stmt Case) → in_case (roll-Case x) ≡ all_of (map in_stmt x.body)
unfolding in_stmt in_case
mentioned_case-roll x = fold-roll-Case (List ℕ) (List ℕ) mentioned.stmt_step mentioned.case_step x

module _ (among : ℕ → Bool) where
  abbrev M : ℕ → Type 0
  M i = among i ≡ true

  abbrev pub Good : Expr → Type 0
  Good e = Each M (in_expr e)

  abbrev pub GoodStmt : Stmt → Type 0
  GoodStmt s = Each M (in_stmt s)

  abbrev pub GoodCase : Case → Type 0
  GoodCase c = Each M (in_case c)

  front : (a b : List ℕ) → Each M (a ++ b) → Each M a
  front a b h = front_each M a b h

  back : (a b : List ℕ) → Each M (a ++ b) → Each M b
  back a b h = back_each M a b h

  pub all_good : (a : List Stmt) → Each M (all_of (map in_stmt a)) → Each GoodStmt a
  all_good [] h = tt
  all_good (s ∷ a) h = (front (in_stmt s) (all_of (map in_stmt a)) h, all_good a (back (in_stmt s) (all_of (map in_stmt a)) h))

  cases_good : (a : List Case) → Each M (all_of (map in_case a)) → Each GoodCase a
  cases_good [] h = tt
  cases_good (c ∷ a) h = (front (in_case c) (all_of (map in_case a)) h, cases_good a (back (in_case c) (all_of (map in_case a)) h))

  maybe_good : (e : Option Expr) → Each M (in_maybe e) → Held Good e
  maybe_good None h = tt
  maybe_good (Some e) h = h

  level_good : (x : is.Stmt-F Stmt Case) → Each M (mentioned.stmt_step (map-Stmt Stmt Case (List ℕ) (List ℕ) in_stmt in_case x)) → GoodLevel Good GoodStmt GoodCase x
  level_good (is.Do e) h = h
  level_good (is.If e a b) h =
      let r = back (in_expr e) (all_of (map in_stmt a) ++ all_of (map in_stmt b)) h in (
        front (in_expr e) (all_of (map in_stmt a) ++ all_of (map in_stmt b)) h,
        all_good a (front (all_of (map in_stmt a)) (all_of (map in_stmt b)) r),
        all_good b (back (all_of (map in_stmt a)) (all_of (map in_stmt b)) r),
      )
  level_good (is.While e a) h = (front (in_expr e) (all_of (map in_stmt a)) h, all_good a (back (in_expr e) (all_of (map in_stmt a)) h))
  level_good (is.DoWhile a e) h = (back (all_of (map in_stmt a)) (in_expr e) h, all_good a (front (all_of (map in_stmt a)) (in_expr e) h))
  level_good (is.For first test step a) h =
      let r = back (in_maybe first) (in_maybe test ++ (in_maybe step ++ all_of (map in_stmt a))) h in
      let q = back (in_maybe test) (in_maybe step ++ all_of (map in_stmt a)) r in (
        maybe_good first (front (in_maybe first) (in_maybe test ++ (in_maybe step ++ all_of (map in_stmt a))) h),
        maybe_good test (front (in_maybe test) (in_maybe step ++ all_of (map in_stmt a)) r),
        maybe_good step (front (in_maybe step) (all_of (map in_stmt a)) q),
        all_good a (back (in_maybe step) (all_of (map in_stmt a)) q),
      )
  level_good (is.Switch e cases) h = (front (in_expr e) (all_of (map in_case cases)) h, cases_good cases (back (in_expr e) (all_of (map in_case cases)) h))
  level_good is.Break h = tt
  level_good is.Continue h = tt
  level_good (is.Return e) h = maybe_good e h
  level_good is.Empty h = tt
  level_good (is.Block a) h = all_good a h

-- ---- bodies

module _ (v w : View) (ids : Ids) (among : ℕ → Bool) (renumbers : Renumbers v w ids among) (before after : List Named) (locals : RenumberedLocals ids.structures before after) (result : CType) where
  abbrev old : Expr → Option ValueType
  old e = type_of v before e

  abbrev new : Expr → Option ValueType
  new e = type_of w after e

  kept_by : (target : Target) (o p : Option ValueType) → Follows (Numbered ids.structures) o p → Keeps target result (type_renumbered ids.structures result) o p
  kept_by target o p f =
      let numbers = ids.structures in
      let k = follows_kept target (type_renumbered numbers result) (option_map (value_renumbered numbers) o) p (mapped_follows numbers v.target v.structures w.structures (members v w ids among renumbers before after locals) o p f) in
      record {
        there = λ h. k.there (there_same numbers o ∙ h);
        condition = λ h. k.condition (condition_same numbers o ∙ h);
        labels = λ ls h. k.labels ls (labels_same numbers target ls o ∙ h);
        returned = λ h. k.returned (some_exact numbers v.target v.structures w.structures (members v w ids among renumbers before after locals) result o h);
      }

  is_change : (target : Target) → IsChange target old new result (type_renumbered ids.structures result) (expr_renumbered ids) (stmt_renumbered ids) (case_renumbered ids) (Good among) (GoodStmt among) (GoodCase among)
  is_change target = record {
    keeps = λ e g. kept_by target (old e) (new (expr_renumbered ids e)) (numbered_typed v w ids among renumbers before after locals e g);
    void = λ h. void_kept ids.structures result ∙ h;
    level = λ x. renumbered-roll ids x ∙ rolled ids x;
    case_level = λ x. case_level ids x;
    good = λ x g. level_good among x (subst (λ (l : List ℕ). Each (λ i. among i ≡ true) l) (mentioned-roll x) g);
    good_case = λ x g. all_good among x.body (subst (λ (l : List ℕ). Each (λ i. among i ≡ true) l) (mentioned_case-roll x) g);
  }

  pub body_numbered : (body : List Stmt) → Each (λ i. among i ≡ true) (all_of (map in_stmt body)) → is_sound_body v.target old result body ≡ true →
      is_sound_body w.target new (type_renumbered ids.structures result) (map (stmt_renumbered ids) body) ≡ true
  body_numbered body g h = subst (λ (target : Target). is_sound_body target new (type_renumbered ids.structures result) (map (stmt_renumbered ids) body) ≡ true) (sym renumbers.target)
      (body_stays v.target old new result (type_renumbered ids.structures result) (expr_renumbered ids) (stmt_renumbered ids) (case_renumbered ids) (Good among) (GoodStmt among) (GoodCase among) (is_change v.target) body (all_good among body g) h)

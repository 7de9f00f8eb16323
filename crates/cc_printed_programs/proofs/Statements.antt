-- Statements with the numbers of a unit, and back: what a sound statement names returns, and of its numbers holds what holds of the
-- names of the program.
use Rattle.std.proofs.Common.{◌≡◌, ◌∙◌, ℕ, Bool, true, false, ◌&&◌, List, [], ◌∷◌, ◌++◌, map, Option, Some, None, option_map, refl, ap, sym, subst}
use Rattle.std.specs.List.{list_all, flat_map}
use Rattle.cc_program.proofs.Each.{Each}
use Rattle.cc_program.proofs.StmtInduction.{StmtParts, CaseParts, by_stmt}
use Rattle.cc_program.specs.declared.expr.Expr.{Expr}
use Rattle.cc_program.specs.declared.func.Func.{Func}
use Rattle.cc_program.specs.declared.program.Program.{Program}
use Rattle.cc_program.specs.declared.stmt.Case.{Case, roll-Case, out-Case, out-roll-Case, fold_out-Case}
use Rattle.cc_program.specs.declared.stmt.Stmt.{Stmt, Do, If, While, DoWhile, Switch, Return, Block, out-Stmt, roll-Stmt, out-roll-Stmt, map-Stmt, fold_out-Stmt}
use Rattle.cc_program.specs.declared.stmt.Stmt.TheOpen as is
use Rattle.cc_program.specs.declared.stmt.Stmt.TheVariants as stmts
use Rattle.cc_program.specs.declared.types.Sig.{out-Sig}
use Rattle.cc_shown_effects.proofs.Levels.{condition-is, labels-are, assigned-is, sound_in, sound-at, case-sound, case-numbered}
use Rattle.cc_shown_effects.proofs.Lines.{stmt-at}
use Rattle.cc_shown_effects.specs.Numbers.{stmt_numbered, case_numbered, stmt_step}
use Rattle.cc_shown_expressions.specs.OperationNumbers.{Numbers, expr_numbered}
use Rattle.cc_printed_programs.specs.Returning.{Returns, HoldsOfNames}
use Rattle.cc_printed_programs.proofs.Expressions.{each-append, some-value, ExprComes, expr-comes}
use Rattle.cc_type.proofs.CcSyntax.Prefixes.{both_true}
use Rattle.cc_type.specs.CcSyntax.Programs.{type_of, is_sound_stmt, is_sound_body, is_typed, is_optional_condition, sound_step}
use Rattle.cc_type.specs.CcSyntax.Statements.{SoundWhere, Labelled, has_label, are_apart, labels_fit, is_condition}
use Rattle.cc_type.specs.CcSyntax.Values.{ValueType, scalar_value}
use Rattle.cc_type.specs.CcUnit.Mentioned as mentioned
use Rattle.cc_type.specs.CcUnit.Mentioned.{in_expr, in_maybe, in_stmt, in_case, all_of}
use Rattle.cc_type.specs.CcUnit.Renumbered as renumbered
use Rattle.cc_type.specs.CcUnit.Renumbered.{expr_renumbered, stmt_renumbered, case_renumbered}
use Rattle.cc_type.specs.CcUnit.declared.ids.Ids.{Ids}

-- ---- levels

module _ (n : Numbers) where
  abbrev numbered_stmt : is.Stmt-F Stmt Case → is.Stmt-F Stmt Case
  numbered_stmt (is.Do e) = is.Do (expr_numbered n e)
  numbered_stmt (is.If e a b) = is.If (expr_numbered n e) (map (stmt_numbered n) a) (map (stmt_numbered n) b)
  numbered_stmt (is.While e a) = is.While (expr_numbered n e) (map (stmt_numbered n) a)
  numbered_stmt (is.DoWhile a e) = is.DoWhile (map (stmt_numbered n) a) (expr_numbered n e)
  numbered_stmt (is.For first test again a) = is.For (option_map (expr_numbered n) first) (option_map (expr_numbered n) test) (option_map (expr_numbered n) again) (map (stmt_numbered n) a)
  numbered_stmt (is.Switch e cases) = is.Switch (expr_numbered n e) (map (case_numbered n) cases)
  numbered_stmt is.Break = is.Break
  numbered_stmt is.Continue = is.Continue
  numbered_stmt (is.Return e) = is.Return (option_map (expr_numbered n) e)
  numbered_stmt is.Empty = is.Empty
  numbered_stmt (is.Block a) = is.Block (map (stmt_numbered n) a)

  abbrev stepped : is.Stmt-F Stmt Case → Stmt
  stepped x = stmt_step n (map-Stmt Stmt Case Stmt Case (stmt_numbered n) (case_numbered n) x)

  outs : (x : is.Stmt-F Stmt Case) → out-Stmt (stepped x) ≡ numbered_stmt x
  outs (is.Do e) = stmts.outs-Do (expr_numbered n e)
  outs (is.If e a b) = stmts.outs-If (expr_numbered n e) (map (stmt_numbered n) a) (map (stmt_numbered n) b)
  outs (is.While e a) = stmts.outs-While (expr_numbered n e) (map (stmt_numbered n) a)
  outs (is.DoWhile a e) = stmts.outs-DoWhile (map (stmt_numbered n) a) (expr_numbered n e)
  outs (is.For first test again a) = stmts.outs-For (option_map (expr_numbered n) first) (option_map (expr_numbered n) test) (option_map (expr_numbered n) again) (map (stmt_numbered n) a)
  outs (is.Switch e cases) = stmts.outs-Switch (expr_numbered n e) (map (case_numbered n) cases)
  outs is.Break = stmts.outs-Break
  outs is.Continue = stmts.outs-Continue
  outs (is.Return e) = stmts.outs-Return (option_map (expr_numbered n) e)
  outs is.Empty = stmts.outs-Empty
  outs (is.Block a) = stmts.outs-Block (map (stmt_numbered n) a)

  stmt-roll : (x : is.Stmt-F Stmt Case) → stmt_numbered n (roll-Stmt x) ≡ stepped x
  stmt-roll x = stmt-at n (roll-Stmt x) x (out-roll-Stmt x)

  stmt-out : (x : is.Stmt-F Stmt Case) → out-Stmt (stmt_numbered n (roll-Stmt x)) ≡ numbered_stmt x
  stmt-out x = ap out-Stmt (stmt-roll x) ∙ outs x

  case-roll : (x : is.Case-F Stmt Case) → case_numbered n (roll-Case x) ≡ roll-Case (record { labels = x.labels; body = map (stmt_numbered n) x.body })
  case-roll x = case-numbered n (roll-Case x) ∙ ap (λ (y : is.Case-F Stmt Case). roll-Case (record { labels = y.labels; body = map (stmt_numbered n) y.body })) (out-roll-Case x)

module _ (ids : Ids) where
  abbrev again : is.Stmt-F Stmt Case → Stmt
  again x = renumbered.stmt_step ids (map-Stmt Stmt Case Stmt Case (stmt_renumbered ids) (case_renumbered ids) x)

  renumbered-at : (s : Stmt) (x : is.Stmt-F Stmt Case) → out-Stmt s ≡ x → stmt_renumbered ids s ≡ again x
  unfolding stmt_renumbered case_renumbered
  renumbered-at s x h = fold_out-Stmt Stmt Case (renumbered.stmt_step ids) (renumbered.case_step ids) s ∙ ap again h

  case-renumbered : (c : Case) → case_renumbered ids c ≡ roll-Case (record { labels = (out-Case c).labels; body = map (stmt_renumbered ids) (out-Case c).body })
  unfolding stmt_renumbered case_renumbered
  case-renumbered c = fold_out-Case Stmt Case (renumbered.stmt_step ids) (renumbered.case_step ids) c

  case-again : (x : is.Case-F Stmt Case) → case_renumbered ids (roll-Case x) ≡ roll-Case (record { labels = x.labels; body = map (stmt_renumbered ids) x.body })
  case-again x = case-renumbered (roll-Case x) ∙ ap (λ (y : is.Case-F Stmt Case). roll-Case (record { labels = y.labels; body = map (stmt_renumbered ids) y.body })) (out-roll-Case x)

abbrev spoken : is.Stmt-F Stmt Case → List ℕ
spoken x = mentioned.stmt_step (map-Stmt Stmt Case (List ℕ) (List ℕ) in_stmt in_case x)

spoken-at : (s : Stmt) (x : is.Stmt-F Stmt Case) → out-Stmt s ≡ x → in_stmt s ≡ spoken x
unfolding in_stmt in_case
spoken-at s x h = fold_out-Stmt (List ℕ) (List ℕ) mentioned.stmt_step mentioned.case_step s ∙ ap spoken h

case-spoken : (c : Case) → in_case c ≡ all_of (map in_stmt (out-Case c).body)
unfolding in_stmt in_case
case-spoken c = fold_out-Case (List ℕ) (List ℕ) mentioned.stmt_step mentioned.case_step c

-- ---- sound statements

module _ (p : Program) (ids : Ids) (n m : Numbers) (returns : Returns p ids n m) (M : ℕ → Type 0) (holds : HoldsOfNames p n M) (f : Func) where
  pub record StmtComes (s : Stmt) : Type 0 where
    pub back : stmt_renumbered ids (stmt_numbered n s) ≡ stmt_numbered m s
    pub said : Each M (in_stmt (stmt_numbered n s))

  record CaseComes (c : Case) : Type 0 where
    back : case_renumbered ids (case_numbered n c) ≡ case_numbered m c
    said : Each M (in_case (case_numbered n c))

  abbrev Claim : Stmt → Type 0
  Claim s = (b c : Bool) → is_sound_stmt p f s b c ≡ true → StmtComes s

  abbrev CaseClaim : Case → Type 0
  CaseClaim x = (b c : Bool) → (sound_in p f x).body b c ≡ true → CaseComes x

  pub record StmtsCome (ss : List Stmt) : Type 0 where
    pub back : map (stmt_renumbered ids) (map (stmt_numbered n) ss) ≡ map (stmt_numbered m) ss
    pub said : Each M (all_of (map in_stmt (map (stmt_numbered n) ss)))

  record CasesCome (cs : List Case) : Type 0 where
    back : map (case_renumbered ids) (map (case_numbered n) cs) ≡ map (case_numbered m) cs
    said : Each M (all_of (map in_case (map (case_numbered n) cs)))

  record MaybeComes (e : Option Expr) : Type 0 where
    back : option_map (expr_renumbered ids) (option_map (expr_numbered n) e) ≡ option_map (expr_numbered m) e
    said : Each M (in_maybe (option_map (expr_numbered n) e))

  record Level (x : is.Stmt-F Stmt Case) : Type 0 where
    back : again ids (numbered_stmt n x) ≡ stepped m x
    said : Each M (spoken (numbered_stmt n x))

  abbrev typed : Expr → Option ValueType
  typed e = type_of p f.locals e

  abbrev sounds : List Stmt → List SoundWhere
  sounds ss = map (is_sound_stmt p f) ss

  stmts-come : (ss : List Stmt) → Each Claim ss → (b c : Bool) → list_all (λ (g : SoundWhere). g b c) (sounds ss) ≡ true → StmtsCome ss
  stmts-come [] h b c k = record { back = refl; said = tt }
  stmts-come (s ∷ ss) h b c k =
      let q = both_true (is_sound_stmt p f s b c) (list_all (λ (g : SoundWhere). g b c) (sounds ss)) k in
      let here = h.0 b c q.0 in
      let rest = stmts-come ss h.1 b c q.1 in
      record {
        back = ap (λ (x : Stmt). x ∷ map (stmt_renumbered ids) (map (stmt_numbered n) ss)) here.back ∙ ap (λ (xs : List Stmt). stmt_numbered m s ∷ xs) rest.back;
        said = each-append M (in_stmt (stmt_numbered n s)) (all_of (map in_stmt (map (stmt_numbered n) ss))) here.said rest.said;
      }

  cases-come : (cs : List Case) → Each CaseClaim cs → (c : Bool) → list_all (λ (l : Labelled). l.body true c) (map (sound_in p f) cs) ≡ true → CasesCome cs
  cases-come [] h c k = record { back = refl; said = tt }
  cases-come (x ∷ cs) h c k =
      let q = both_true ((sound_in p f x).body true c) (list_all (λ (l : Labelled). l.body true c) (map (sound_in p f) cs)) k in
      let here = h.0 true c q.0 in
      let rest = cases-come cs h.1 c q.1 in
      record {
        back = ap (λ (y : Case). y ∷ map (case_renumbered ids) (map (case_numbered n) cs)) here.back ∙ ap (λ (ys : List Case). case_numbered m x ∷ ys) rest.back;
        said = each-append M (in_case (case_numbered n x)) (all_of (map in_case (map (case_numbered n) cs))) here.said rest.said;
      }

  here-comes : (e : Expr) (t : ValueType) → typed e ≡ Some t → ExprComes p ids n m returns M holds e
  here-comes e t h = expr-comes p ids n m returns M holds f e t h

  condition-comes : (e : Expr) → is_condition (typed e) ≡ true → ExprComes p ids n m returns M holds e
  condition-comes e h = let q = condition-is (typed e) h in here-comes e q.0 q.1

  typed-comes : (e : Option Expr) → is_typed p f e ≡ true → MaybeComes e
  typed-comes None h = record { back = refl; said = tt }
  typed-comes (Some e) h = let q = some-value (typed e) h in let c = here-comes e q.0 q.1 in record { back = ap (λ (x : Expr). Some x) c.back; said = c.said }

  optional-comes : (e : Option Expr) → is_optional_condition p f e ≡ true → MaybeComes e
  optional-comes None h = record { back = refl; said = tt }
  optional-comes (Some e) h = let c = condition-comes e h in record { back = ap (λ (x : Expr). Some x) c.back; said = c.said }

  -- a condition in front of statements
  abbrev in_stmts : List Stmt → List ℕ
  in_stmts ss = all_of (map in_stmt (map (stmt_numbered n) ss))

  level : (x : is.Stmt-F Stmt Case) → StmtParts Claim CaseClaim x → (b c : Bool) → sound_step p f (map-Stmt Stmt Case SoundWhere Labelled (is_sound_stmt p f) (sound_in p f) x) b c ≡ true → Level x
  level (is.Do e) h b c k = let q = some-value (typed e) k in let r = here-comes e q.0 q.1 in record { back = ap (λ (x : Expr). Do x) r.back; said = r.said }
  level (is.If e a d) h b c k =
      let q = both_true (is_condition (typed e)) (list_all (λ (g : SoundWhere). g b c) (sounds a) && list_all (λ (g : SoundWhere). g b c) (sounds d)) k in
      let s = both_true (list_all (λ (g : SoundWhere). g b c) (sounds a)) (list_all (λ (g : SoundWhere). g b c) (sounds d)) q.1 in
      let r = condition-comes e q.0 in
      let u = stmts-come a h.0 b c s.0 in
      let v = stmts-come d h.1 b c s.1 in
      record {
        back = ap (λ (x : Expr). If x (map (stmt_renumbered ids) (map (stmt_numbered n) a)) (map (stmt_renumbered ids) (map (stmt_numbered n) d))) r.back
            ∙ (ap (λ (xs : List Stmt). If (expr_numbered m e) xs (map (stmt_renumbered ids) (map (stmt_numbered n) d))) u.back ∙ ap (λ (xs : List Stmt). If (expr_numbered m e) (map (stmt_numbered m) a) xs) v.back);
        said = each-append M (in_expr (expr_numbered n e)) (in_stmts a ++ in_stmts d) r.said (each-append M (in_stmts a) (in_stmts d) u.said v.said);
      }
  level (is.While e a) h b c k =
      let q = both_true (is_condition (typed e)) (list_all (λ (g : SoundWhere). g true true) (sounds a)) k in
      let r = condition-comes e q.0 in
      let u = stmts-come a h true true q.1 in
      record {
        back = ap (λ (x : Expr). While x (map (stmt_renumbered ids) (map (stmt_numbered n) a))) r.back ∙ ap (λ (xs : List Stmt). While (expr_numbered m e) xs) u.back;
        said = each-append M (in_expr (expr_numbered n e)) (in_stmts a) r.said u.said;
      }
  level (is.DoWhile a e) h b c k =
      let q = both_true (is_condition (typed e)) (list_all (λ (g : SoundWhere). g true true) (sounds a)) k in
      let r = condition-comes e q.0 in
      let u = stmts-come a h true true q.1 in
      record {
        back = ap (λ (xs : List Stmt). DoWhile xs (expr_renumbered ids (expr_numbered n e))) u.back ∙ ap (λ (x : Expr). DoWhile (map (stmt_numbered m) a) x) r.back;
        said = each-append M (in_stmts a) (in_expr (expr_numbered n e)) u.said r.said;
      }
  level (is.For first test step a) h b c k =
      let q = both_true (is_typed p f first) (is_optional_condition p f test && (is_typed p f step && list_all (λ (g : SoundWhere). g true true) (sounds a))) k in
      let s = both_true (is_optional_condition p f test) (is_typed p f step && list_all (λ (g : SoundWhere). g true true) (sounds a)) q.1 in
      let t = both_true (is_typed p f step) (list_all (λ (g : SoundWhere). g true true) (sounds a)) s.1 in
      let x = typed-comes first q.0 in
      let y = optional-comes test s.0 in
      let z = typed-comes step t.0 in
      let u = stmts-come a h true true t.1 in
      record {
        back = rw (x.back, y.back, z.back, u.back) refl;
        said = each-append M (in_maybe (option_map (expr_numbered n) first)) (in_maybe (option_map (expr_numbered n) test) ++ (in_maybe (option_map (expr_numbered n) step) ++ in_stmts a)) x.said
            (each-append M (in_maybe (option_map (expr_numbered n) test)) (in_maybe (option_map (expr_numbered n) step) ++ in_stmts a) y.said (each-append M (in_maybe (option_map (expr_numbered n) step)) (in_stmts a) z.said u.said));
      }
  level (is.Switch e cases) h b c k =
      let ls = flat_map (λ (l : Labelled). l.labels) (map (sound_in p f) cases) in
      let inner = list_all (λ (l : Labelled). l.body true c) (map (sound_in p f) cases) in
      let some = list_all (λ (l : Labelled). has_label l.labels) (map (sound_in p f) cases) in
      let q = both_true (labels_fit p.target ls (typed e)) (are_apart ls && (some && inner)) k in
      let s = both_true (are_apart ls) (some && inner) q.1 in
      let t = both_true some inner s.1 in
      let l = labels-are p.target ls (typed e) q.0 in
      let r = here-comes e _ l.1 in
      let u = cases-come cases h c t.1 in
      record {
        back = ap (λ (x : Expr). Switch x (map (case_renumbered ids) (map (case_numbered n) cases))) r.back ∙ ap (λ (xs : List Case). Switch (expr_numbered m e) xs) u.back;
        said = each-append M (in_expr (expr_numbered n e)) (all_of (map in_case (map (case_numbered n) cases))) r.said u.said;
      }
  level is.Break h b c k = record { back = refl; said = tt }
  level is.Continue h b c k = record { back = refl; said = tt }
  level (is.Return None) h b c k = record { back = refl; said = tt }
  level (is.Return (Some e)) h b c k =
      let q = assigned-is (scalar_value (out-Sig f.sig).result) (typed e) k in
      let r = here-comes e q.1 q.3 in
      record { back = ap (λ (x : Expr). Return (Some x)) r.back; said = r.said }
  level is.Empty h b c k = record { back = refl; said = tt }
  level (is.Block a) h b c k = let u = stmts-come a h b c k in record { back = ap (λ (xs : List Stmt). Block xs) u.back; said = u.said }

  made : (x : is.Stmt-F Stmt Case) → StmtParts Claim CaseClaim x → Claim (roll-Stmt x)
  made x h b c k =
      let l = level x h b c (sym (ap (λ (g : SoundWhere). g b c) (sound-at p f (roll-Stmt x) x (out-roll-Stmt x))) ∙ k) in
      record {
        back = renumbered-at ids (stmt_numbered n (roll-Stmt x)) (numbered_stmt n x) (stmt-out n x) ∙ (l.back ∙ sym (stmt-roll m x));
        said = subst (λ (xs : List ℕ). Each M xs) (sym (spoken-at (stmt_numbered n (roll-Stmt x)) (numbered_stmt n x) (stmt-out n x))) l.said;
      }

  made_case : (x : is.Case-F Stmt Case) → CaseParts Claim CaseClaim x → CaseClaim (roll-Case x)
  made_case x h b c k =
      let body : list_all (λ (g : SoundWhere). g b c) (sounds x.body) ≡ true = sym (case-sound p f (roll-Case x) b c ∙ ap (λ (y : is.Case-F Stmt Case). list_all (λ (g : SoundWhere). g b c) (sounds y.body)) (out-roll-Case x)) ∙ k in
      let u = stmts-come x.body h b c body in
      let inside : is.Case-F Stmt Case = record { labels = x.labels; body = map (stmt_numbered n) x.body } in
      record {
        back = ap (case_renumbered ids) (case-roll n x) ∙ (case-again ids inside ∙ (ap (λ (ss : List Stmt). roll-Case (record { labels = x.labels; body = ss })) u.back ∙ sym (case-roll m x)));
        said = subst (λ (xs : List ℕ). Each M xs) (sym (ap in_case (case-roll n x) ∙ (case-spoken (roll-Case inside) ∙ ap (λ (y : is.Case-F Stmt Case). all_of (map in_stmt y.body)) (out-roll-Case inside)))) u.said;
      }

  pub stmt-comes : (s : Stmt) (b c : Bool) → is_sound_stmt p f s b c ≡ true → StmtComes s
  stmt-comes = by_stmt Claim CaseClaim made made_case

  pub body-comes : (ss : List Stmt) → is_sound_body p f ss ≡ true → StmtsCome ss
  body-comes ss h = stmts-come ss (all ss) false false h
    where
      all : (ss : List Stmt) → Each Claim ss
      all [] = tt
      all (s ∷ ss) = (stmt-comes s, all ss)

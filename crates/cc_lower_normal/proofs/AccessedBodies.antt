-- A device that statements access is in the text of what they are lowered to, where their loops are all `while (1)`.
use Rattle.std.proofs.Common.{◌≡◌, ◌∙◌, ◌+◌, ◌||◌, ℕ, Bool, true, false, List, [], ◌∷◌, map, length, Option, Some, None, refl, ap, sym, subst}
use Rattle.std.specs.List.{list_any, list_all, flat_map}
use Rattle.std.proofs.lemmas.Bool.{true≢false, and_parts}
use Rattle.cc_accessed_operands.specs.Accessed.{accesses, optional_accesses, stmt_accesses, list_accesses, is_accessed}
use Rattle.cc_accessed_operands.proofs.Accesses.{or_either, no, accesses_at, accesses-roll, case_accesses, cases_access, stmt_accesses_at, stmt-accesses-roll, case-accesses-roll}
use Rattle.cc_lower_expressions.specs.Expressions.{Make, done, ◌>>=◌, emit, fork, Lowering}
use Rattle.cc_lower_expressions.specs.Programs as expressions
use Rattle.cc_lower_expressions.specs.Programs.{lower_expressions_program}
use Rattle.cc_lower_expressions.specs.Statements.{in_turn, all_made, if_operand, Condition, guard_by, condition_step, place_itself, condition, choice, returned, lower_in, lower_case_in, lower, lower_case, lower_list}
use Rattle.cc_lower_normal.proofs.AccessedPieces.{has_front, has_back, head, Gives, first, second, fork_first, fork_second, in_both}
use Rattle.cc_lower_normal.proofs.AccessedExpressions.{kept}
use Rattle.cc_lower_numbers.proofs.Texts.{devices-Switch}
use Rattle.cc_lower_numbers_sound.proofs.Orders.{has}
use Rattle.cc_lower_sound.specs.Statements.{is_plain, are_plain, has_plain_statements}
use Rattle.cc_lower_sound.proofs.LoweringParts.{low, rolled}
use Rattle.cc_lower_sound.proofs.PlainStatements.{case_plain, plain_at, plain-roll, case-plain-roll}
use Rattle.cc_program.specs.declared.expr.Expr.{Expr, out-Expr, roll-Expr, roll-out-Expr, map-Expr, fold-roll-Expr}
use Rattle.cc_program.specs.declared.expr.Expr.TheOpen as one
use Rattle.cc_program.specs.declared.expr.Place.{Place, roll-Place, fold-Place}
use Rattle.cc_program.specs.declared.func.Func.{Func}
use Rattle.cc_program.specs.declared.program.Program.{Program}
use Rattle.cc_program.specs.declared.stmt.Case.{Case, roll-Case, out-Case, out-roll-Case, fold-roll-Case}
use Rattle.cc_program.specs.declared.stmt.Stmt.{Stmt, While, Switch, Return, roll-Stmt, map-Stmt, fold-roll-Stmt}
use Rattle.cc_program.specs.declared.stmt.Stmt.TheOpen as is
use Rattle.cc_program.specs.declared.stmt.Stmt.TheVariants.{rolls-While}
use Rattle.cc_program.proofs.Each.{Each}
use Rattle.cc_program.proofs.ExprInduction.{Parts, by_expr}
use Rattle.cc_program.proofs.FoldFusion.{fused}
use Rattle.cc_program.proofs.StmtInduction.{StmtParts, CaseParts, by_stmts}
use Rattle.cc_states.specs.CcSyntax.Effects.{Registers, also, no_one}
use Rattle.cc_states.specs.CcSyntax.Forms.{form_at, form_of}
use Rattle.cc_states.specs.CcSyntax.Normal.{is_one, devices_step, devices_of, devices_in, devices_in_text}

module _ (d : ℕ) where
  -- `1` accesses nothing
  one_idle_at : (x : one.Expr-F Expr Place) → is_one (form_at x) ≡ true → accesses_at d x ≡ false
  one_idle_at (one.Const n t) h = refl
  one_idle_at (one.Null t) h = no h
  one_idle_at (one.FuncAddr f) h = no h
  one_idle_at (one.Load a) h = no h
  one_idle_at (one.AddrOf a) h = no h
  one_idle_at (one.Un o t a) h = no h
  one_idle_at (one.Bin o t a b) h = no h
  one_idle_at (one.Conv t a) h = no h
  one_idle_at (one.Qualify t a) h = no h
  one_idle_at (one.Move a b back) h = no h
  one_idle_at (one.Gap a b) h = no h
  one_idle_at (one.Compare o a b) h = no h
  one_idle_at (one.Both a b) h = no h
  one_idle_at (one.Either a b) h = no h
  one_idle_at (one.Choose c a b) h = no h
  one_idle_at (one.Assign a e) h = no h
  one_idle_at (one.Change a o t e) h = no h
  one_idle_at (one.After a down) h = no h
  one_idle_at (one.Call f args) h = no h
  one_idle_at (one.Intr i a) h = no h
  one_idle_at (one.Seq a b) h = no h

  one_idle : (e : Expr) → is_one (form_of e) ≡ true → accesses d e ≡ false
  one_idle e h = ap (accesses d) (sym (roll-out-Expr e)) ∙ accesses-roll d (out-Expr e) ∙ one_idle_at (out-Expr e) h

  -- the cases of a `switch`
  record CaseHas (c : Case) : Type 0 where
    is : has d (devices_in (out-Case c).body) ≡ true

  abbrev cases_devices : List Case → List ℕ
  cases_devices cases = flat_map (λ c. devices_in (out-Case c).body) cases

  record CasesHave (cases : List Case) : Type 0 where
    is : has d (cases_devices cases) ≡ true

  module _ (p : Program) (f : Func) where
    abbrev L : Expr → Lowering
    L e = low p f e

    -- ---- conditions of an `if` without `else`

    operand_condition : (e : Expr) (later : Registers) (these : Make (Unit {0})) → accesses d e ≡ true → Gives d (if_operand (L e) later these)
    operand_condition e later these h = first d ((L e).operand later) (λ v. fork v these (done tt)) ((kept d p f e).operand h later)

    operand_these : (e : Expr) (later : Registers) (these : Make (Unit {0})) → Gives d these → Gives d (if_operand (L e) later these)
    operand_these e later these h = second d ((L e).operand later) (λ v. fork v these (done tt)) (λ k. fork_first d ((L e).operand later k).value these (done tt) h)

    abbrev Guard : Type 0
    Guard = Registers → Make (Unit {0}) → Make (Unit {0})

    record GuardKept (accessed : Bool) (guard : Guard) : Type 0 where
      condition_kept : accessed ≡ true → (later : Registers) (these : Make (Unit {0})) → Gives d (guard later these)
      these_kept : (later : Registers) (these : Make (Unit {0})) → Gives d these → Gives d (guard later these)

    abbrev Guards : Expr → Type 0
    Guards e = GuardKept (accesses d e) (condition p f e).guard

    abbrev guarded : one.Expr-F Expr Place → one.Expr-F Condition Place
    guarded x = map-Expr Expr Place Condition Place (condition p f) (fold-Place Condition Place (condition_step p f) (place_itself p f)) x

    abbrev behind : Expr → Registers → Registers
    behind b later = also (low p f (condition p f b).itself).effects.assigned later

    by_operand : (e : Expr) → GuardKept (accesses d e) (if_operand (L e))
    by_operand e = record { condition_kept = λ h later these. operand_condition e later these h; these_kept = λ later these h. operand_these e later these h }

    both_guards : (e a b : Expr) → Guards a → Guards b → (accesses d e ≡ true → accesses d a || accesses d b ≡ true) → GuardKept (accesses d e) (guard_by p f (L e) (guarded (one.Both a b)))
    both_guards e a b g k back = record {
      condition_kept = λ h later these.
          in_both d ((L e).effects.pure later) (if_operand (L e) later these) ((condition p f a).guard (behind b later) ((condition p f b).guard later these)) (operand_condition e later these h)
          (or_either (accesses d a) (accesses d b) (λ i. g.condition_kept i (behind b later) ((condition p f b).guard later these)) (λ i. g.these_kept (behind b later) ((condition p f b).guard later these) (k.condition_kept i later these)) (back h));
      these_kept = λ later these h.
          in_both d ((L e).effects.pure later) (if_operand (L e) later these) ((condition p f a).guard (behind b later) ((condition p f b).guard later these)) (operand_these e later these h)
          (g.these_kept (behind b later) ((condition p f b).guard later these) (k.these_kept later these h));
    }

    guards_at : (e : Expr) (x : one.Expr-F Expr Place) → Parts Guards (λ a. Unit {0}) x → accesses d e ≡ accesses_at d x → GuardKept (accesses d e) (guard_by p f (L e) (guarded x))
    guards_at e (one.Both a b) q s = both_guards e a b q.0 q.1 (λ h. sym s ∙ h)
    guards_at e (one.Const n i) q s = by_operand e
    guards_at e (one.Null i) q s = by_operand e
    guards_at e (one.FuncAddr g) q s = by_operand e
    guards_at e (one.Load a) q s = by_operand e
    guards_at e (one.AddrOf a) q s = by_operand e
    guards_at e (one.Un o i a) q s = by_operand e
    guards_at e (one.Bin o i a b) q s = by_operand e
    guards_at e (one.Conv i a) q s = by_operand e
    guards_at e (one.Qualify i a) q s = by_operand e
    guards_at e (one.Move a b back) q s = by_operand e
    guards_at e (one.Gap a b) q s = by_operand e
    guards_at e (one.Compare o a b) q s = by_operand e
    guards_at e (one.Either a b) q s = by_operand e
    guards_at e (one.Choose z a b) q s = by_operand e
    guards_at e (one.Assign a b) q s = by_operand e
    guards_at e (one.Change a o i b) q s = by_operand e
    guards_at e (one.After a down) q s = by_operand e
    guards_at e (one.Call g args) q s = by_operand e
    guards_at e (one.Intr i a) q s = by_operand e
    guards_at e (one.Seq a b) q s = by_operand e

    condition-roll : (x : one.Expr-F Expr Place) → condition p f (roll-Expr x) ≡ condition_step p f (guarded x)
    unfolding condition
    condition-roll x = fold-roll-Expr Condition Place (condition_step p f) (place_itself p f) x

    condition-itself : (e : Expr) → (condition p f e).itself ≡ e
    unfolding condition
    condition-itself e = fused (condition_step p f) (place_itself p f) roll-Expr roll-Place (λ c. c.itself) (λ a. a) (λ x. refl) (λ x. refl) e ∙ rolled p f e

    guards_level : (x : one.Expr-F Expr Place) → Parts Guards (λ a. Unit {0}) x → Guards (roll-Expr x)
    guards_level x q =
        let is : (condition_step p f (guarded x)).itself ≡ roll-Expr x = ap (λ (z : Condition). z.itself) (sym (condition-roll x)) ∙ condition-itself (roll-Expr x) in
        subst (λ (z : Condition). GuardKept (accesses d (roll-Expr x)) z.guard) (sym (condition-roll x))
        (subst (λ (e : Expr). GuardKept (accesses d (roll-Expr x)) (guard_by p f (low p f e) (guarded x))) (sym is) (guards_at (roll-Expr x) x q (accesses-roll d x)))

    guards : (e : Expr) → Guards e
    guards e = by_expr Guards (λ a. Unit {0}) guards_level (λ x h. tt) e

    -- ---- statements

    abbrev any : List Stmt → Bool
    any l = list_accesses d l

    abbrev Keeps : Stmt → Type 0
    Keeps s = is_plain s ≡ true → stmt_accesses d s ≡ true → Gives d (lower p f s)

    record GivesCase (m : Make Case) : Type 0 where
      at : (k : ℕ) → CaseHas (m k).value

    abbrev CaseKeeps : Case → Type 0
    CaseKeeps c = case_plain c ≡ true → case_accesses d c ≡ true → GivesCase (lower_case p f c)

    list_gives : (l : List Stmt) → Each Keeps l → are_plain l ≡ true → any l ≡ true → Gives d (in_turn (map (lower p f) l))
    list_gives [] q k h = no h
    list_gives (s ∷ l) q k h =
        let r = and_parts (is_plain s) (are_plain l) k in
        or_either (stmt_accesses d s) (any l) (λ i. first d (lower p f s) (λ u. in_turn (map (lower p f) l)) (q.0 r.0 i)) (λ i. second d (lower p f s) (λ u. in_turn (map (lower p f) l)) (λ n. list_gives l q.1 r.1 i)) h

    record GivesCases (m : Make (List Case)) : Type 0 where
      at : (k : ℕ) → CasesHave (m k).value

    cases_give : (l : List Case) → Each CaseKeeps l → list_all (λ b. b) (map case_plain l) ≡ true → cases_access d l ≡ true → GivesCases (all_made (map (lower_case p f) l))
    cases_give [] q k h = no h
    cases_give (c ∷ l) q k h =
        let r = and_parts (case_plain c) (list_all (λ b. b) (map case_plain l)) k in
        let m : Make Case = lower_case p f c in
        let ms : Make (List Case) = all_made (map (lower_case p f) l) in
        or_either (case_accesses d c) (cases_access d l)
        (λ i. record { at = λ n. record { is = has_front d (devices_in (out-Case (m n).value).body) (cases_devices (ms (n + length (m n).temps)).value) ((q.0 r.0 i).at n).is } })
        (λ i. record { at = λ n. record { is = has_back d (devices_in (out-Case (m n).value).body) (cases_devices (ms (n + length (m n).temps)).value) ((cases_give l q.1 r.1 i).at (n + length (m n).temps)).is } }) h

    choice_gives : (e : Expr) (these those : List Stmt) → (any these ≡ true → Gives d (in_turn (map (lower p f) these))) → (any those ≡ true → Gives d (in_turn (map (lower p f) those))) →
        accesses d e || (any these || any those) ≡ true → Gives d (choice p f e (map (lower p f) these) (map (lower p f) those))
    choice_gives e these [] g k h =
        or_either (accesses d e) (any these || false) (λ i. (guards e).condition_kept i no_one (in_turn (map (lower p f) these)))
        (λ i. or_either (any these) false (λ j. (guards e).these_kept no_one (in_turn (map (lower p f) these)) (g j)) (λ j. no j) i) h
    choice_gives e these (s ∷ those) g k h =
        let c : Make Expr = (L e).operand no_one in
        let x : Make (Unit {0}) = in_turn (map (lower p f) these) in
        let y : Make (Unit {0}) = in_turn (map (lower p f) (s ∷ those)) in
        or_either (accesses d e) (any these || any (s ∷ those)) (λ i. first d c (λ v. fork v x y) ((kept d p f e).operand i no_one))
        (λ i. second d c (λ v. fork v x y) (λ n. or_either (any these) (any (s ∷ those)) (λ j. fork_first d (c n).value x y (g j)) (λ j. fork_second d (c n).value x y (k j)) i)) h

    while_is : (e : Expr) (l : List Stmt) → devices_of (While e l) ≡ devices_in l
    while_is e l = ap devices_of (sym (rolls-While e l)) ∙ fold-roll-Stmt (List ℕ) (List ℕ) devices_step (λ c. flat_map (λ ds. ds) c.body) (is.While e l)

    switch_gives : (e : Expr) (cases : List Case) → Each CaseKeeps cases → list_all (λ b. b) (map case_plain cases) ≡ true → accesses d e || cases_access d cases ≡ true →
        Gives d ((L e).operand no_one >>= (λ v. all_made (map (lower_case p f) cases) >>= (λ cs. emit (Switch v cs))))
    switch_gives e cases q k h =
        let c : Make Expr = (L e).operand no_one in
        let ms : Make (List Case) = all_made (map (lower_case p f) cases) in
        or_either (accesses d e) (cases_access d cases) (λ i. first d c (λ v. ms >>= (λ cs. emit (Switch v cs))) ((kept d p f e).operand i no_one))
        (λ i. second d c (λ v. ms >>= (λ cs. emit (Switch v cs)))
        (λ n. second d ms (λ cs. emit (Switch (c n).value cs)) (λ j. record { at = λ m. head d (Switch (c n).value (ms j).value) [] (ap (has d) (devices-Switch (c n).value (ms j).value) ∙ ((cases_give cases q k i).at j).is) }))) h

    returned_gives : (e : Option Expr) → optional_accesses d e ≡ true → Gives d (returned p f e)
    returned_gives None h = no h
    returned_gives (Some e) h = first d ((L e).operand no_one) (λ v. emit (Return (Some v))) ((kept d p f e).operand h no_one)

    level : (x : is.Stmt-F Stmt Case) → StmtParts Keeps CaseKeeps x → plain_at x ≡ true → stmt_accesses_at d x ≡ true → Gives d (lower_in p f (map-Stmt Stmt Case (Make (Unit {0})) (Make Case) (lower p f) (lower_case p f) x))
    level (is.Do e) q k h = (kept d p f e).effect h no_one
    level (is.If e these those) q k h =
        let r = and_parts (are_plain these) (are_plain those) k in choice_gives e these those (list_gives these q.0 r.0) (list_gives those q.1 r.1) h
    level (is.While e body) q k h =
        let r = and_parts (is_one (form_of e)) (are_plain body) k in
        or_either (accesses d e) (any body) (λ i. absurd (true≢false (sym i ∙ one_idle e r.0)))
        (λ i. record { at = λ n. head d (While e (in_turn (map (lower p f) body) n).stmts) [] (ap (has d) (while_is e (in_turn (map (lower p f) body) n).stmts) ∙ ((list_gives body q r.1 i).at n).is) }) h
    level (is.DoWhile body e) q k h = no k
    level (is.For first test again body) q k h = no k
    level (is.Switch e cases) q k h = switch_gives e cases q k h
    level is.Break q k h = no h
    level is.Continue q k h = no h
    level (is.Return e) q k h = returned_gives e h
    level is.Empty q k h = no h
    level (is.Block body) q k h = no k

    lower-rolls : (x : is.Stmt-F Stmt Case) → lower p f (roll-Stmt x) ≡ lower_in p f (map-Stmt Stmt Case (Make (Unit {0})) (Make Case) (lower p f) (lower_case p f) x)
    unfolding lower lower_case
    lower-rolls x = fold-roll-Stmt (Make (Unit {0})) (Make Case) (lower_in p f) (lower_case_in p f) x

    lower-case-rolls : (x : is.Case-F Stmt Case) → lower_case p f (roll-Case x) ≡ lower_case_in p f (record { labels = x.labels; body = map (lower p f) x.body })
    unfolding lower lower_case
    lower-case-rolls x = fold-roll-Case (Make (Unit {0})) (Make Case) (lower_in p f) (lower_case_in p f) x

    made : (x : is.Stmt-F Stmt Case) → StmtParts Keeps CaseKeeps x → Keeps (roll-Stmt x)
    made x q k h = subst (λ (m : Make (Unit {0})). Gives d m) (sym (lower-rolls x)) (level x q (sym (plain-roll x) ∙ k) (sym (stmt-accesses-roll d x) ∙ h))

    case_made : (x : is.Case-F Stmt Case) → CaseParts Keeps CaseKeeps x → CaseKeeps (roll-Case x)
    case_made x q k h = subst GivesCase (sym (lower-case-rolls x)) (record { at = λ n. body n })
      where
        m : Gives d (in_turn (map (lower p f) x.body))
        m = list_gives x.body q (sym (case-plain-roll x) ∙ k) (sym (case-accesses-roll d x) ∙ h)

        body : (n : ℕ) → CaseHas (roll-Case (record { labels = x.labels; body = (in_turn (map (lower p f) x.body) n).stmts }))
        body n = record { is = ap (λ (z : is.Case-F Stmt Case). has d (devices_in z.body)) (out-roll-Case (record { labels = x.labels; body = (in_turn (map (lower p f) x.body) n).stmts })) ∙ (m.at n).is }

    pub body_has : (l : List Stmt) → are_plain l ≡ true → any l ≡ true → (k : ℕ) → has d (devices_in (lower_list p f l k).stmts) ≡ true
    body_has l k h n = ((list_gives l (by_stmts Keeps CaseKeeps made case_made l) k h).at n).is

  -- ---- programs

  module _ (p : Program) where
    funcs_have : (fs : List Func) → list_all (λ (f : Func). are_plain f.body) fs ≡ true → list_any (λ (f : Func). list_accesses d f.body) fs ≡ true →
        has d (flat_map (λ (f : Func). devices_in f.body) (map (expressions.lower_func p) fs)) ≡ true
    funcs_have [] k h = no h
    funcs_have (f ∷ fs) k h =
        let r = and_parts (are_plain f.body) (list_all (λ (f : Func). are_plain f.body) fs) k in
        let xs : List ℕ = devices_in (expressions.lower_func p f).body in
        let ys : List ℕ = flat_map (λ (f : Func). devices_in f.body) (map (expressions.lower_func p) fs) in
        or_either (list_accesses d f.body) (list_any (λ (f : Func). list_accesses d f.body) fs) (λ i. has_front d xs ys (body_has p f f.body r.0 i (length f.locals))) (λ i. has_back d xs ys (funcs_have fs r.1 i)) h

    pub lowered_has : has_plain_statements p ≡ true → is_accessed p d ≡ true → has d (devices_in_text (lower_expressions_program p)) ≡ true
    lowered_has k h = funcs_have p.funcs k h

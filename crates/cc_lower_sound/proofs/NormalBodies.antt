-- Statements that lowering makes are normal.
use Rattle.std.proofs.Common.{◌≡◌, ℕ, ℤ, Bool, true, ◌&&◌, List, [], ◌∷◌, map, Option, Some, None, refl, ap, sym, ◌∙◌}
use Rattle.std.specs.List.{list_all}
use Rattle.cc_program.specs.CcNum.declared.target.Target.{Target}
use Rattle.cc_operand_types.proofs.Changes.{GoodLevel}
use Rattle.cc_program.specs.declared.expr.Expr.{Expr}
use Rattle.cc_program.specs.declared.func.Func.{Func}
use Rattle.cc_program.specs.declared.program.Program.{Program}
use Rattle.cc_program.specs.declared.stmt.Case.{Case, roll-Case, fold-Case, fold-roll-Case}
use Rattle.cc_program.specs.declared.stmt.Stmt.{Stmt, If, While, Switch, Break, Continue, Return, roll-Stmt, map-Stmt, fold-roll-Stmt}
use Rattle.cc_program.specs.declared.stmt.Stmt.TheVariants.{rolls-If, rolls-While, rolls-Switch, rolls-Break, rolls-Continue, rolls-Return}
use Rattle.cc_program.specs.declared.stmt.Stmt.TheOpen as is
use Rattle.cc_program.proofs.Each.{Each, Held}
use Rattle.cc_eval.specs.CcSyntax.Folding.{is_folded}
use Rattle.cc_eval.specs.CcSyntax.Forms.{form_of}
use Rattle.cc_eval.specs.CcSyntax.Normal.{is_one, is_operand, normal_step, is_normal_stmt}
use Rattle.cc_eval.specs.CcSyntax.Registers.{is_register}
use Rattle.cc_lower_sound.specs.Folded.{is_optional_folded, folded_step, is_folded_stmt, are_folded}
use Rattle.cc_lower_sound.proofs.Bools.{two, first_true, second_true}
use Rattle.cc_lower_sound.proofs.LoweredBodies.{BodyReading, BodyLaws, AreCases}
use Rattle.cc_lower_sound.proofs.NormalReading.{normal_reading, IsNormal, normal, all_normal}

-- ---- folded statements, opened

module _ (target : Target) where
  abbrev pub folded_case : Case → Bool
  folded_case k = fold-Case Bool Bool (folded_step target) (λ c. list_all (λ b. b) c.body) k

  abbrev pub folded_at : is.Stmt-F Stmt Case → Bool
  folded_at x = folded_step target (map-Stmt Stmt Case Bool Bool (is_folded_stmt target) folded_case x)

  pub folded-stmt-roll : (x : is.Stmt-F Stmt Case) → is_folded_stmt target (roll-Stmt x) ≡ folded_at x
  unfolding is_folded_stmt
  folded-stmt-roll x = fold-roll-Stmt Bool Bool (folded_step target) (λ c. list_all (λ b. b) c.body) x

  pub folded-case-roll : (x : is.Case-F Stmt Case) → folded_case (roll-Case x) ≡ are_folded target x.body
  unfolding is_folded_stmt
  folded-case-roll x = fold-roll-Case Bool Bool (folded_step target) (λ c. list_all (λ b. b) c.body) x

  abbrev Folded : Expr → Type 0
  Folded e = is_folded target e ≡ true

  abbrev FoldedStmt : Stmt → Type 0
  FoldedStmt s = is_folded_stmt target s ≡ true

  abbrev FoldedCase : Case → Type 0
  FoldedCase k = folded_case k ≡ true

  pub each_stmt : (xs : List Stmt) → are_folded target xs ≡ true → Each FoldedStmt xs
  each_stmt [] h = tt
  each_stmt (s ∷ xs) h = (first_true (is_folded_stmt target s) (are_folded target xs) h, each_stmt xs (second_true (is_folded_stmt target s) (are_folded target xs) h))

  each_case : (xs : List Case) → list_all (λ b. b) (map folded_case xs) ≡ true → Each FoldedCase xs
  each_case [] h = tt
  each_case (k ∷ xs) h = (first_true (folded_case k) (list_all (λ b. b) (map folded_case xs)) h, each_case xs (second_true (folded_case k) (list_all (λ b. b) (map folded_case xs)) h))

  held : (e : Option Expr) → is_optional_folded target e ≡ true → Held Folded e
  held None h = tt
  held (Some e) h = h

  folded_level : (x : is.Stmt-F Stmt Case) → folded_at x ≡ true → GoodLevel Folded FoldedStmt FoldedCase x
  folded_level (is.Do e) h = h
  folded_level (is.If e a b) h =
      let r = second_true (is_folded target e) (are_folded target a && are_folded target b) h in
      (first_true (is_folded target e) (are_folded target a && are_folded target b) h, each_stmt a (first_true (are_folded target a) (are_folded target b) r), each_stmt b (second_true (are_folded target a) (are_folded target b) r))
  folded_level (is.While e a) h = (first_true (is_folded target e) (are_folded target a) h, each_stmt a (second_true (is_folded target e) (are_folded target a) h))
  folded_level (is.DoWhile a e) h = (first_true (is_folded target e) (are_folded target a) h, each_stmt a (second_true (is_folded target e) (are_folded target a) h))
  folded_level (is.For first test again a) h =
      let r = second_true (is_optional_folded target first) (is_optional_folded target test && (is_optional_folded target again && are_folded target a)) h in
      let q = second_true (is_optional_folded target test) (is_optional_folded target again && are_folded target a) r in (
        held first (first_true (is_optional_folded target first) (is_optional_folded target test && (is_optional_folded target again && are_folded target a)) h),
        held test (first_true (is_optional_folded target test) (is_optional_folded target again && are_folded target a) r),
        held again (first_true (is_optional_folded target again) (are_folded target a) q),
        each_stmt a (second_true (is_optional_folded target again) (are_folded target a) q),
      )
  folded_level (is.Switch e cases) h = (first_true (is_folded target e) (list_all (λ b. b) (map folded_case cases)) h, each_case cases (second_true (is_folded target e) (list_all (λ b. b) (map folded_case cases)) h))
  folded_level is.Break h = tt
  folded_level is.Continue h = tt
  folded_level (is.Return e) h = held e h
  folded_level is.Empty h = tt
  folded_level (is.Block a) h = each_stmt a h

module _ (p : Program) (f g : Func) (kept : (r : ℕ) → is_register f r ≡ true → is_register g r ≡ true) where
  abbrev pub normal_body_reading : BodyReading
  normal_body_reading = record { StmAt = λ b c s. IsNormal p f g kept s; OldStmt = FoldedStmt p.target; OldCase = FoldedCase p.target }

  abbrev case_normal : Case → Bool
  case_normal k = fold-Case Bool Bool (normal_step p.target g) (λ c. list_all (λ b. b) c.body) k

  cases_normal : (c : Bool) (ls : List (List (Option ℤ))) (ks : List Case) → AreCases normal_body_reading c ls ks → list_all (λ b. b) (map case_normal ks) ≡ true
  cases_normal c [] [] h = refl
  cases_normal c [] (k ∷ ks) h = absurd h
  cases_normal c (l ∷ ls) [] h = absurd h
  cases_normal c (l ∷ ls) (k ∷ ks) h =
      two (case_normal k) (list_all (λ b. b) (map case_normal ks))
      (ap case_normal h.0.is ∙ fold-roll-Case Bool Bool (normal_step p.target g) (λ c. list_all (λ b. b) c.body) (record { labels = l; body = h.0.body }) ∙ all_normal p f g kept h.0.body h.0.each) (cases_normal c ls ks h.1)

  abbrev all_are : List Stmt → Bool
  all_are xs = list_all (λ b. b) (map (is_normal_stmt p.target g) xs)

  pub normal_body_laws : BodyLaws p f (normal_reading p f g kept) normal_body_reading
  normal_body_laws = record {
    old = λ x h. folded_level p.target x (sym (folded-stmt-roll p.target x) ∙ h);
    old_case = λ x h. each_stmt p.target x.body (sym (folded-case-roll p.target x) ∙ h);
    here = λ b c s h. h;
    fork = λ b c t e xs ys s x h k. normal p f g kept (If e xs ys) (is.If e xs ys) (rolls-If e xs ys) (two (is_operand p.target g e) (all_are xs && all_are ys) x (two (all_are xs) (all_are ys) (all_normal p f g kept xs h) (all_normal p f g kept ys k)));
    loop = λ b c e xs o h z k. normal p f g kept (While e xs) (is.While e xs) (rolls-While e xs) (two (is_one (form_of e)) (all_are xs) o (all_normal p f g kept xs k));
    switch = λ b c i e ls ks x fit apart has cs. normal p f g kept (Switch e ks) (is.Switch e ks) (rolls-Switch e ks) (two (is_operand p.target g e) (list_all (λ b. b) (map case_normal ks)) x (cases_normal c ls ks cs));
    break = λ b c h. normal p f g kept Break is.Break rolls-Break refl;
    continue = λ b c h. normal p f g kept Continue is.Continue rolls-Continue refl;
    leave = λ b c h. normal p f g kept (Return None) (is.Return None) (rolls-Return None) refl;
    give = λ b c t e h s x. normal p f g kept (Return (Some e)) (is.Return (Some e)) (rolls-Return (Some e)) x;
  }

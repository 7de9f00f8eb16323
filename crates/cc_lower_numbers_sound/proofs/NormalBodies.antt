-- Statements by other numbers of locals and devices are in normal form where they were.
use Rattle.std.proofs.Common.{◌≡◌, ◌∙◌, ◌&&◌, ◌||◌, ◌∷◌, ℕ, Bool, true, false, not, List, [], map, Option, Some, None, option_map, is_some, refl, ap, sym, if◌then◌else◌}
use Rattle.std.specs.List.{list_all}
use Rattle.cc_program.specs.CcNum.declared.target.Target.{Target}
use Rattle.cc_program.specs.declared.expr.Expr.{Expr, fold-Expr, map-Expr}
use Rattle.cc_program.specs.declared.expr.Expr.TheOpen as one
use Rattle.cc_program.specs.declared.expr.Place.{Place, fold-Place, map-Place}
use Rattle.cc_program.specs.declared.func.Func.{Func}
use Rattle.cc_program.specs.declared.stmt.Case.{Case, roll-Case, fold-Case, map-Case, fold-roll-Case}
use Rattle.cc_program.specs.declared.stmt.Stmt.{Stmt, roll-Stmt, map-Stmt, fold-roll-Stmt}
use Rattle.cc_program.specs.declared.stmt.Stmt.TheOpen as is
use Rattle.cc_program.proofs.Each.{Each}
use Rattle.cc_program.proofs.FoldFusion.{fused, place_fused}
use Rattle.cc_program.proofs.StmtInduction.{StmtParts, CaseParts, by_stmt}
use Rattle.cc_syntax.specs.Effects.{Effects, PlaceEffects, no_one, is_soft, effect_step, place_effect_step, effects_of, place_effects_of}
use Rattle.cc_syntax.specs.Folding.{Folding, folding_step, place_folding_step, folding_of, is_folded_place}
use Rattle.cc_syntax.specs.Forms.{Form, ConstantForm, FunctionForm, LoadForm, AssignForm, CallForm, IntrinsicForm, OtherForm, form_of}
use Rattle.cc_syntax.specs.Normal.{is_one, is_operand, is_optional_operand, is_register_place, is_other_place, is_callee, is_call, is_place_read, is_assignment, is_expression_statement, normal_step, is_normal_stmt, is_normal_body}
use Rattle.cc_syntax.specs.Registers.{is_register}
use Rattle.cc_lower_numbers.specs.Renamed.{place_with, expr_renamed, place_renamed, stmt_with, stmt_renamed, case_renamed, stmt_step as renamed_stmt_step}
use Rattle.cc_lower_numbers_sound.proofs.Forms.{form_with, form_same}
use Rattle.cc_lower_numbers_sound.proofs.KeptFolds.{fold_kept, place_fold_kept}

-- ---- what is pure where no later operand assigns anything

record PlacePure : Type 0 where
  register : Bool
  pure : Bool

abbrev pure_step : one.Expr-F Bool PlacePure → Bool
pure_step (one.Const n t) = true
pure_step (one.Null t) = true
pure_step (one.FuncAddr f) = true
pure_step (one.Load a) = a.register
pure_step (one.AddrOf a) = a.pure
pure_step (one.Un o t a) = a
pure_step (one.Bin o t a b) = a && b
pure_step (one.Conv t a) = a
pure_step (one.Qualify t a) = a
pure_step (one.Move a b back) = a && b
pure_step (one.Gap a b) = a && b
pure_step (one.Compare o a b) = a && b
pure_step (one.Both a b) = a && b
pure_step (one.Either a b) = a && b
pure_step (one.Choose c a b) = c && (a && b)
pure_step (one.Assign a e) = false
pure_step (one.Change a o t e) = false
pure_step (one.After a down) = false
pure_step (one.Call f args) = false
pure_step (one.Intr i a) = false
pure_step (one.Seq a b) = false

abbrev local_pure : Bool → PlacePure
local_pure b = record { register = b; pure = true }

abbrev place_pure_step : (ℕ → Bool) → one.Place-F Bool PlacePure → PlacePure
place_pure_step register (one.Local r) = local_pure (register r)
place_pure_step register (one.Static i) = record { register = false; pure = true }
place_pure_step register (one.Device d) = record { register = false; pure = true }
place_pure_step register (one.Element a i) = record { register = false; pure = a.pure && i }
place_pure_step register (one.Member a m) = record { register = false; pure = a.pure }
place_pure_step register (one.Deref e) = record { register = false; pure = e }

abbrev is_pure : Effects → Bool
is_pure a = a.pure no_one

abbrev place_pure : PlaceEffects → PlacePure
place_pure a = record { register = is_some a.register; pure = a.pure no_one }

soft-is : (o : Option ℕ) → is_soft o no_one ≡ is_some o
soft-is None = refl
soft-is (Some r) = refl

some-if : (b : Bool) (r : ℕ) → is_some (if b then Some r else None) ≡ b
some-if true r = refl
some-if false r = refl

module _ (f : Func) where
  pure_part : (x : one.Expr-F Effects PlaceEffects) → is_pure (effect_step x) ≡ pure_step (map-Expr Effects PlaceEffects Bool PlacePure is_pure place_pure x)
  pure_part (one.Const n t) = refl
  pure_part (one.Null t) = refl
  pure_part (one.FuncAddr f) = refl
  pure_part (one.Load a) = soft-is a.register
  pure_part (one.AddrOf a) = refl
  pure_part (one.Un o t a) = refl
  pure_part (one.Bin o t a b) = refl
  pure_part (one.Conv t a) = refl
  pure_part (one.Qualify t a) = refl
  pure_part (one.Move a b back) = refl
  pure_part (one.Gap a b) = refl
  pure_part (one.Compare o a b) = refl
  pure_part (one.Both a b) = refl
  pure_part (one.Either a b) = refl
  pure_part (one.Choose c a b) = refl
  pure_part (one.Assign a e) = refl
  pure_part (one.Change a o t e) = refl
  pure_part (one.After a down) = refl
  pure_part (one.Call g args) = refl
  pure_part (one.Intr i a) = refl
  pure_part (one.Seq a b) = refl

  place_part : (x : one.Place-F Effects PlaceEffects) → place_pure (place_effect_step f x) ≡ place_pure_step (is_register f) (map-Place Effects PlaceEffects Bool PlacePure is_pure place_pure x)
  place_part (one.Local r) = ap local_pure (some-if (is_register f r) r)
  place_part (one.Static i) = refl
  place_part (one.Device d) = refl
  place_part (one.Element a i) = refl
  place_part (one.Member a m) = refl
  place_part (one.Deref e) = refl

  pure_is : (e : Expr) → (effects_of f e).pure no_one ≡ fold-Expr Bool PlacePure pure_step (place_pure_step (is_register f)) e
  unfolding effects_of place_effects_of
  pure_is e = fused effect_step (place_effect_step f) pure_step (place_pure_step (is_register f)) is_pure place_pure pure_part place_part e

  place_pure_is : (a : Place) → place_pure (place_effects_of f a) ≡ fold-Place Bool PlacePure pure_step (place_pure_step (is_register f)) a
  unfolding effects_of place_effects_of
  place_pure_is a = place_fused effect_step (place_effect_step f) pure_step (place_pure_step (is_register f)) is_pure place_pure pure_part place_part a

-- ---- by other numbers

module _ (target : Target) (local device : ℕ → ℕ) (g f : Func) (registers : (r : ℕ) → is_register g (local r) ≡ is_register f r) where
  abbrev renamed : Expr → Expr
  renamed e = expr_renamed local device e

  abbrev at_place : Place → Place
  at_place a = place_renamed local device a

  abbrev there : one.Place-F Bool PlacePure → PlacePure
  there x = place_pure_step (is_register g) x

  abbrev here : one.Place-F Bool PlacePure → PlacePure
  here x = place_pure_step (is_register f) x

  abbrev new_pure : Expr → Bool
  new_pure e = fold-Expr Bool PlacePure pure_step there e

  abbrev new_place_pure : Place → PlacePure
  new_place_pure a = fold-Place Bool PlacePure pure_step there a

  pure_kept : (x : one.Place-F Expr Place) →
      there (map-Place Expr Place Bool PlacePure new_pure new_place_pure (place_with local device x)) ≡ here (map-Place Expr Place Bool PlacePure new_pure new_place_pure x)
  pure_kept (one.Local r) = ap local_pure (registers r)
  pure_kept (one.Static i) = refl
  pure_kept (one.Device d) = refl
  pure_kept (one.Element a i) = refl
  pure_kept (one.Member a m) = refl
  pure_kept (one.Deref e) = refl

  pure_same : (e : Expr) → (effects_of g (renamed e)).pure no_one ≡ (effects_of f e).pure no_one
  pure_same e = pure_is g (renamed e) ∙ fold_kept pure_step there here local device pure_kept e ∙ sym (pure_is f e)

  place_pure_same : (a : Place) → place_pure (place_effects_of g (at_place a)) ≡ place_pure (place_effects_of f a)
  place_pure_same a = place_pure_is g (at_place a) ∙ place_fold_kept pure_step there here local device pure_kept a ∙ sym (place_pure_is f a)

  abbrev new_folding : Expr → Folding
  new_folding e = fold-Expr Folding Bool (folding_step target) (place_folding_step target) e

  abbrev new_place_folding : Place → Bool
  new_place_folding a = fold-Place Folding Bool (folding_step target) (place_folding_step target) a

  folding_kept : (x : one.Place-F Expr Place) →
      place_folding_step target (map-Place Expr Place Folding Bool new_folding new_place_folding (place_with local device x)) ≡ place_folding_step target (map-Place Expr Place Folding Bool new_folding new_place_folding x)
  folding_kept (one.Local r) = refl
  folding_kept (one.Static i) = refl
  folding_kept (one.Device d) = refl
  folding_kept (one.Element a i) = refl
  folding_kept (one.Member a m) = refl
  folding_kept (one.Deref e) = refl

  folding_same : (e : Expr) → folding_of target (renamed e) ≡ folding_of target e
  unfolding folding_of is_folded_place
  folding_same e = fold_kept (folding_step target) (place_folding_step target) (place_folding_step target) local device folding_kept e

  place_folding_same : (a : Place) → is_folded_place target (at_place a) ≡ is_folded_place target a
  unfolding folding_of is_folded_place
  place_folding_same a = place_fold_kept (folding_step target) (place_folding_step target) (place_folding_step target) local device folding_kept a

  -- ---- what statements have

  operand_same : (e : Expr) → is_operand target g (renamed e) ≡ is_operand target f e
  operand_same e = λ i. pure_same e i && (folding_same e i).is_folded

  optional_same : (e : Option Expr) → is_optional_operand target g (option_map renamed e) ≡ is_optional_operand target f e
  optional_same None = refl
  optional_same (Some e) = operand_same e

  operands_same : (args : List Expr) → list_all (is_operand target g) (map renamed args) ≡ list_all (is_operand target f) args
  operands_same [] = refl
  operands_same (e ∷ args) = λ i. operand_same e i && operands_same args i

  register_place_same : (a : Place) → is_register_place target g (at_place a) ≡ is_register_place target f a
  register_place_same a = ap (λ (x : PlacePure). x.register) (place_pure_same a)

  other_place_same : (a : Place) → is_other_place target g (at_place a) ≡ is_other_place target f a
  other_place_same a = λ i. not (register_place_same a i) && ((place_pure_same a i).pure && place_folding_same a i)

  callee_same : (x : Form) → is_callee target g (form_with local device x) ≡ is_callee target f x
  callee_same (ConstantForm n t) = refl
  callee_same FunctionForm = refl
  callee_same (LoadForm a) = register_place_same a
  callee_same (AssignForm a e) = refl
  callee_same (CallForm h args) = refl
  callee_same (IntrinsicForm a) = refl
  callee_same OtherForm = refl

  called_same : (e : Expr) → is_callee target g (form_of (renamed e)) ≡ is_callee target f (form_of e)
  called_same e = ap (is_callee target g) (form_same local device e) ∙ callee_same (form_of e)

  call_same : (x : Form) → is_call target g (form_with local device x) ≡ is_call target f x
  call_same (ConstantForm n t) = refl
  call_same FunctionForm = refl
  call_same (LoadForm a) = refl
  call_same (AssignForm a e) = refl
  call_same (CallForm h args) = λ i. called_same h i && operands_same args i
  call_same (IntrinsicForm a) = optional_same a
  call_same OtherForm = refl

  place_read_same : (x : Form) → is_place_read target g (form_with local device x) ≡ is_place_read target f x
  place_read_same (ConstantForm n t) = refl
  place_read_same FunctionForm = refl
  place_read_same (LoadForm a) = other_place_same a
  place_read_same (AssignForm a e) = refl
  place_read_same (CallForm h args) = refl
  place_read_same (IntrinsicForm a) = refl
  place_read_same OtherForm = refl

  read_same : (e : Expr) → is_place_read target g (form_of (renamed e)) ≡ is_place_read target f (form_of e)
  read_same e = ap (is_place_read target g) (form_same local device e) ∙ place_read_same (form_of e)

  calls_same : (e : Expr) → is_call target g (form_of (renamed e)) ≡ is_call target f (form_of e)
  calls_same e = ap (is_call target g) (form_same local device e) ∙ call_same (form_of e)

  assignment_same : (a : Place) (e : Expr) → is_assignment target g (at_place a) (renamed e) ≡ is_assignment target f a e
  assignment_same a e = λ i. if register_place_same a i then operand_same e i || (read_same e i || calls_same e i) else other_place_same a i && operand_same e i

  expression_same : (x : Form) → is_expression_statement target g (form_with local device x) ≡ is_expression_statement target f x
  expression_same (ConstantForm n t) = refl
  expression_same FunctionForm = refl
  expression_same (LoadForm a) = refl
  expression_same (AssignForm a e) = assignment_same a e
  expression_same (CallForm h args) = call_same (CallForm h args)
  expression_same (IntrinsicForm a) = call_same (IntrinsicForm a)
  expression_same OtherForm = refl

  one_same : (x : Form) → is_one (form_with local device x) ≡ is_one x
  one_same (ConstantForm n t) = refl
  one_same FunctionForm = refl
  one_same (LoadForm a) = refl
  one_same (AssignForm a e) = refl
  one_same (CallForm h args) = refl
  one_same (IntrinsicForm a) = refl
  one_same OtherForm = refl

  do_same : (e : Expr) → is_expression_statement target g (form_of (renamed e)) ≡ is_expression_statement target f (form_of e)
  do_same e = ap (is_expression_statement target g) (form_same local device e) ∙ expression_same (form_of e)

  while_same : (e : Expr) → is_one (form_of (renamed e)) ≡ is_one (form_of e)
  while_same e = ap is_one (form_same local device e) ∙ one_same (form_of e)

  -- ---- statements

  abbrev StmtSame : Stmt → Type 0
  StmtSame s = is_normal_stmt target g (stmt_renamed local device s) ≡ is_normal_stmt target f s

  abbrev is_normal_case : Func → Case → Bool
  is_normal_case h c = fold-Case Bool Bool (normal_step target h) (λ c. list_all (λ b. b) c.body) c

  abbrev CaseSame : Case → Type 0
  CaseSame c = is_normal_case g (case_renamed local device c) ≡ is_normal_case f c

  list_same : (l : List Stmt) → Each StmtSame l → map (is_normal_stmt target g) (map (stmt_renamed local device) l) ≡ map (is_normal_stmt target f) l
  list_same [] h = refl
  list_same (s ∷ l) h = λ i. h.0 i ∷ list_same l h.1 i

  cases_same : (l : List Case) → Each CaseSame l → map (is_normal_case g) (map (case_renamed local device) l) ≡ map (is_normal_case f) l
  cases_same [] h = refl
  cases_same (c ∷ l) h = λ i. h.0 i ∷ cases_same l h.1 i

  abbrev all : List Bool → Bool
  all bs = list_all (λ b. b) bs

  abbrev stmt_level : Func → is.Stmt-F Stmt Case → Bool
  stmt_level h x = normal_step target h (map-Stmt Stmt Case Bool Bool (is_normal_stmt target h) (is_normal_case h) x)

  abbrev renamed_level : is.Stmt-F Stmt Case → is.Stmt-F Stmt Case
  renamed_level x = stmt_with local device (map-Stmt Stmt Case Stmt Case (stmt_renamed local device) (case_renamed local device) x)

  level_same : (x : is.Stmt-F Stmt Case) → StmtParts StmtSame CaseSame x → stmt_level g (renamed_level x) ≡ stmt_level f x
  level_same (is.Do e) h = do_same e
  level_same (is.If e a b) h = λ i. operand_same e i && (all (list_same a h.0 i) && all (list_same b h.1 i))
  level_same (is.While e a) h = λ i. while_same e i && all (list_same a h i)
  level_same (is.DoWhile a e) h = refl
  level_same (is.For first test again a) h = refl
  level_same (is.Switch e cases) h = λ i. operand_same e i && all (cases_same cases h i)
  level_same is.Break h = refl
  level_same is.Continue h = refl
  level_same (is.Return e) h = optional_same e
  level_same is.Empty h = refl
  level_same (is.Block a) h = refl

  stmt_made : (x : is.Stmt-F Stmt Case) → StmtParts StmtSame CaseSame x → StmtSame (roll-Stmt x)
  unfolding stmt_renamed case_renamed
  stmt_made x h =
      ap (is_normal_stmt target g) (fold-roll-Stmt Stmt Case (renamed_stmt_step local device) roll-Case x)
      ∙ fold-roll-Stmt Bool Bool (normal_step target g) (λ c. list_all (λ b. b) c.body) (renamed_level x)
      ∙ level_same x h
      ∙ sym (fold-roll-Stmt Bool Bool (normal_step target f) (λ c. list_all (λ b. b) c.body) x)

  case_made : (x : is.Case-F Stmt Case) → CaseParts StmtSame CaseSame x → CaseSame (roll-Case x)
  unfolding stmt_renamed case_renamed
  case_made x h =
      ap (is_normal_case g) (fold-roll-Case Stmt Case (renamed_stmt_step local device) roll-Case x)
      ∙ fold-roll-Case Bool Bool (normal_step target g) (λ c. list_all (λ b. b) c.body) (map-Case Stmt Case Stmt Case (stmt_renamed local device) (case_renamed local device) x)
      ∙ ap all (list_same x.body h)
      ∙ sym (fold-roll-Case Bool Bool (normal_step target f) (λ c. list_all (λ b. b) c.body) x)

  stmt_same : (s : Stmt) → StmtSame s
  stmt_same s = by_stmt StmtSame CaseSame stmt_made case_made s

  bodies_same : (l : List Stmt) → map (is_normal_stmt target g) (map (stmt_renamed local device) l) ≡ map (is_normal_stmt target f) l
  bodies_same [] = refl
  bodies_same (s ∷ l) = λ i. stmt_same s i ∷ bodies_same l i

  pub normal_same : g.body ≡ map (stmt_renamed local device) f.body → is_normal_body target g ≡ is_normal_body target f
  normal_same e = ap (λ (l : List Stmt). all (map (is_normal_stmt target g) l)) e ∙ ap all (bodies_same f.body)

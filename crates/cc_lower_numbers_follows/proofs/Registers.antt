-- A function by other numbers has the same registers, by other numbers.
use Rattle.std.proofs.Common.{◌≡◌, ◌∙◌, ◌∷◌, ◌==◌, ◌||◌, ◌&&◌, ℕ, Bool, false, not, List, [], map, Option, Some, None, option_map, slice_get, refl, ap, sym}
use Rattle.std.specs.List.{list_any}
use Rattle.cc_program.specs.declared.expr.Expr.{Expr, roll-Expr, map-Expr, fold-roll-Expr}
use Rattle.cc_program.specs.declared.expr.Expr.TheOpen as one
use Rattle.cc_program.specs.declared.expr.Place.{Place, map-Place, fold-roll-Place}
use Rattle.cc_program.specs.declared.func.Func.{Func}
use Rattle.cc_program.specs.declared.stmt.Case.{Case, roll-Case, fold-Case, map-Case, fold-roll-Case}
use Rattle.cc_program.specs.declared.stmt.Stmt.{Stmt, roll-Stmt, map-Stmt, fold-roll-Stmt}
use Rattle.cc_program.specs.declared.stmt.Stmt.TheOpen as is
use Rattle.cc_program.specs.declared.types.CType.{CType}
use Rattle.cc_program.proofs.Each.{Each}
use Rattle.cc_program.proofs.FoldFusion.{fused}
use Rattle.cc_program.proofs.StmtInduction.{StmtParts, CaseParts, by_stmt}
use Rattle.cc_states.specs.CcSyntax.Registers.{PlaceUse, address_step, use_step, is_address_taken, place_use, is_taken_in_optional, stmt_step, is_taken_in, is_addressed, may_be_register, is_register}
use Rattle.cc_states.specs.CcSyntax.Types.{Named}
use Rattle.cc_lower_numbers.specs.Renamed.{place_with, expr_renamed, place_renamed, place_step as renamed_step, stmt_with, stmt_renamed, case_renamed, stmt_step as renamed_stmt_step}

module _ (local device : ℕ → ℕ) (same_number : (i j : ℕ) → (local i == local j) ≡ (i == j)) (r : ℕ) where
  abbrev taken_there : Expr → Bool
  taken_there e = is_address_taken (local r) e

  abbrev used_there : Place → PlaceUse
  used_there a = place_use (local r) a

  expr_part : (x : one.Expr-F Expr Place) → taken_there (roll-Expr x) ≡ address_step r (map-Expr Expr Place Bool PlaceUse taken_there used_there x)
  unfolding is_address_taken place_use
  expr_part x = fold-roll-Expr Bool PlaceUse (address_step (local r)) (use_step (local r)) x ∙ by x
    where
      by : (x : one.Expr-F Expr Place) → address_step (local r) (map-Expr Expr Place Bool PlaceUse taken_there used_there x) ≡ address_step r (map-Expr Expr Place Bool PlaceUse taken_there used_there x)
      by x = refl

  place_part : (x : one.Place-F Expr Place) → used_there (renamed_step local device x) ≡ use_step r (map-Place Expr Place Bool PlaceUse taken_there used_there x)
  unfolding is_address_taken place_use
  place_part x = fold-roll-Place Bool PlaceUse (address_step (local r)) (use_step (local r)) (place_with local device x) ∙ by x
    where
      by : (x : one.Place-F Expr Place) → use_step (local r) (map-Place Expr Place Bool PlaceUse taken_there used_there (place_with local device x)) ≡ use_step r (map-Place Expr Place Bool PlaceUse taken_there used_there x)
      by (one.Local i) = ap (λ (b : Bool). record { is_local = b; address_taken = false }) (same_number i r)
      by (one.Static i) = refl
      by (one.Device d) = refl
      by (one.Element a e) = refl
      by (one.Member a m) = refl
      by (one.Deref e) = refl

  pub taken_same : (e : Expr) → is_address_taken (local r) (expr_renamed local device e) ≡ is_address_taken r e
  unfolding is_address_taken place_use expr_renamed place_renamed
  taken_same e = fused roll-Expr (renamed_step local device) (address_step r) (use_step r) taken_there used_there expr_part place_part e

  optional_same : (e : Option Expr) → is_taken_in_optional (local r) (option_map (expr_renamed local device) e) ≡ is_taken_in_optional r e
  optional_same None = refl
  optional_same (Some e) = taken_same e

  -- ---- statements

  abbrev StmtSame : Stmt → Type 0
  StmtSame s = is_taken_in (local r) (stmt_renamed local device s) ≡ is_taken_in r s

  abbrev case_taken : ℕ → Case → Bool
  case_taken n c = fold-Case Bool Bool (stmt_step n) (λ c. list_any (λ b. b) c.body) c

  abbrev CaseSame : Case → Type 0
  CaseSame c = case_taken (local r) (case_renamed local device c) ≡ case_taken r c

  list_same : (l : List Stmt) → Each StmtSame l → map (is_taken_in (local r)) (map (stmt_renamed local device) l) ≡ map (is_taken_in r) l
  list_same [] h = refl
  list_same (s ∷ l) h = λ i. h.0 i ∷ list_same l h.1 i

  cases_same : (l : List Case) → Each CaseSame l → map (case_taken (local r)) (map (case_renamed local device) l) ≡ map (case_taken r) l
  cases_same [] h = refl
  cases_same (c ∷ l) h = λ i. h.0 i ∷ cases_same l h.1 i

  abbrev any : List Bool → Bool
  any bs = list_any (λ b. b) bs

  abbrev stmt_level : ℕ → is.Stmt-F Stmt Case → Bool
  stmt_level n x = stmt_step n (map-Stmt Stmt Case Bool Bool (is_taken_in n) (case_taken n) x)

  abbrev renamed_level : is.Stmt-F Stmt Case → is.Stmt-F Stmt Case
  renamed_level x = stmt_with local device (map-Stmt Stmt Case Stmt Case (stmt_renamed local device) (case_renamed local device) x)

  level_same : (x : is.Stmt-F Stmt Case) → StmtParts StmtSame CaseSame x → stmt_level (local r) (renamed_level x) ≡ stmt_level r x
  level_same (is.Do e) h = taken_same e
  level_same (is.If e a b) h = λ i. taken_same e i || (any (list_same a h.0 i) || any (list_same b h.1 i))
  level_same (is.While e a) h = λ i. taken_same e i || any (list_same a h i)
  level_same (is.DoWhile a e) h = λ i. any (list_same a h i) || taken_same e i
  level_same (is.For first test again a) h = λ i. optional_same first i || (optional_same test i || (optional_same again i || any (list_same a h i)))
  level_same (is.Switch e cases) h = λ i. taken_same e i || any (cases_same cases h i)
  level_same is.Break h = refl
  level_same is.Continue h = refl
  level_same (is.Return e) h = optional_same e
  level_same is.Empty h = refl
  level_same (is.Block a) h = ap any (list_same a h)

  stmt_made : (x : is.Stmt-F Stmt Case) → StmtParts StmtSame CaseSame x → StmtSame (roll-Stmt x)
  unfolding stmt_renamed case_renamed
  stmt_made x h =
      ap (is_taken_in (local r)) (fold-roll-Stmt Stmt Case (renamed_stmt_step local device) roll-Case x)
      ∙ fold-roll-Stmt Bool Bool (stmt_step (local r)) (λ c. list_any (λ b. b) c.body) (renamed_level x)
      ∙ level_same x h
      ∙ sym (fold-roll-Stmt Bool Bool (stmt_step r) (λ c. list_any (λ b. b) c.body) x)

  case_made : (x : is.Case-F Stmt Case) → CaseParts StmtSame CaseSame x → CaseSame (roll-Case x)
  unfolding stmt_renamed case_renamed
  case_made x h =
      ap (case_taken (local r)) (fold-roll-Case Stmt Case (renamed_stmt_step local device) roll-Case x)
      ∙ fold-roll-Case Bool Bool (stmt_step (local r)) (λ c. list_any (λ b. b) c.body) (map-Case Stmt Case Stmt Case (stmt_renamed local device) (case_renamed local device) x)
      ∙ ap any (list_same x.body h)
      ∙ sym (fold-roll-Case Bool Bool (stmt_step r) (λ c. list_any (λ b. b) c.body) x)

  stmt_same : (s : Stmt) → StmtSame s
  stmt_same s = by_stmt StmtSame CaseSame stmt_made case_made s

  body_same : (l : List Stmt) → list_any (λ b. b) (map (is_taken_in (local r)) (map (stmt_renamed local device) l)) ≡ list_any (λ b. b) (map (is_taken_in r) l)
  body_same [] = refl
  body_same (s ∷ l) = λ i. stmt_same s i || body_same l i

  pub addressed_same : (g f : Func) → g.body ≡ map (stmt_renamed local device) f.body → is_addressed g (local r) ≡ is_addressed f r
  addressed_same g f e = ap (λ (l : List Stmt). list_any (λ b. b) (map (is_taken_in (local r)) l)) e ∙ body_same f.body

  abbrev of_type : Option CType → Bool
  of_type t = may_be_register (option_map (λ t. ([], t)) t)

  typed_register : (l : Option Named) → may_be_register l ≡ of_type (option_map (λ l. l.1) l)
  typed_register None = refl
  typed_register (Some l) = refl

  pub register_same : (g f : Func) → g.body ≡ map (stmt_renamed local device) f.body → option_map (λ l. l.1) (slice_get g.locals (local r)) ≡ option_map (λ l. l.1) (slice_get f.locals r) → is_register g (local r) ≡ is_register f r
  unfolding is_register
  register_same g f e t =
      (λ i. (typed_register (slice_get g.locals (local r)) ∙ ap of_type t ∙ sym (typed_register (slice_get f.locals r))) i && not (addressed_same g f e i))

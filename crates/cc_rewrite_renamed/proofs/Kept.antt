-- A text by the numbers of an order, and then by numbers that lead back: what names only objects of the order is as it was.
use Rattle.std.proofs.Common.{◌≡◌, ◌∙◌, ◌∷◌, ℕ, suc, Bool, true, List, [], map, Option, Some, None, option_map, refl, ap, sym, arith}
use Rattle.std.specs.List.{All}
use Rattle.std.proofs.lemmas.Bool.{and_parts}
use Rattle.cc_lower_numbers.specs.Order.{place_in}
use Rattle.cc_program.specs.declared.expr.Expr.{Expr}
use Rattle.cc_program.specs.declared.func.Func.{Func}
use Rattle.cc_program.specs.declared.object.Object.{Object}
use Rattle.cc_program.specs.declared.stmt.Case.{Case, roll-Case, map-Case, fold-roll-Case}
use Rattle.cc_program.specs.declared.stmt.Stmt.{Stmt, roll-Stmt, map-Stmt, fold-roll-Stmt}
use Rattle.cc_program.specs.declared.stmt.Stmt.TheOpen as is
use Rattle.cc_program.specs.declared.value.Address.{Address}
use Rattle.cc_program.specs.declared.value.Address.TheVariants as address
use Rattle.cc_program.specs.declared.value.Leaf.{Leaf}
use Rattle.cc_program.specs.declared.value.Leaf.TheVariants as leaf
use Rattle.cc_program.specs.declared.value.Root.{Root}
use Rattle.cc_program.specs.declared.value.Root.TheVariants as root
use Rattle.cc_program.proofs.Each.{Each}
use Rattle.cc_program.proofs.StmtInduction.{StmtParts, CaseParts, by_stmt}
use Rattle.cc_rewrite_renamed.specs.Orders.{is_in, NamesInFunc, NamesInObject}
use Rattle.cc_rewrite_renamed.specs.Names.{all_of, names_in_expr, names_in_optional, stmt_step, names_in_stmt, names_in_case, names_in_root, names_in_address, names_in_leaf}
use Rattle.cc_rewrite_renamed.specs.Objects.{expr_renamed, root_renamed, address_renamed, leaf_renamed, object_renamed, func_renamed}
use Rattle.cc_rewrite_renamed.specs.Statements.{stmt_with, stmt_step as stmt_made, stmt_by, case_by}
use Rattle.cc_rewrite_renamed.proofs.Stays.{expr_back}

-- what each element of a list is after a change and one back, all are
pub all_back : {A : Type 0} (f g : A → A) (P : A → Type 0) → ((x : A) → P x → f (g x) ≡ x) → (xs : List A) → All P xs → map f (map g xs) ≡ xs
all_back f g P h [] a = refl
all_back f g P h (x ∷ xs) a = λ i. h x (a 0 x (omega arith)) i ∷ all_back f g P h xs (λ k d lt. a (suc k) d (omega (arith, lt))) i

-- ---- one level

module _ (expr : Expr → Expr) where
  abbrev layer : is.Stmt-F Stmt Case → is.Stmt-F Stmt Case
  layer x = stmt_with expr (map-Stmt Stmt Case Stmt Case (stmt_by expr) (case_by expr) x)

  stmt_level : (x : is.Stmt-F Stmt Case) → stmt_by expr (roll-Stmt x) ≡ roll-Stmt (layer x)
  unfolding stmt_by case_by
  stmt_level x = fold-roll-Stmt Stmt Case (stmt_made expr) roll-Case x

  case_level : (x : is.Case-F Stmt Case) → case_by expr (roll-Case x) ≡ roll-Case (map-Case Stmt Case Stmt Case (stmt_by expr) (case_by expr) x)
  unfolding stmt_by case_by
  case_level x = fold-roll-Case Stmt Case (stmt_made expr) roll-Case x

module _ (test : ℕ → Bool) where
  named_stmt_level : (x : is.Stmt-F Stmt Case) → names_in_stmt test (roll-Stmt x) ≡ stmt_step test (map-Stmt Stmt Case Bool Bool (names_in_stmt test) (names_in_case test) x)
  unfolding names_in_stmt names_in_case
  named_stmt_level x = fold-roll-Stmt Bool Bool (stmt_step test) (λ c. all_of c.body) x

  named_case_level : (x : is.Case-F Stmt Case) → names_in_case test (roll-Case x) ≡ all_of (map (names_in_stmt test) x.body)
  unfolding names_in_stmt names_in_case
  named_case_level x = fold-roll-Case Bool Bool (stmt_step test) (λ c. all_of c.body) x

-- ---- numbers that lead back

module _ (order : List ℕ) (back : ℕ → ℕ) (leads_back : (i : ℕ) → is_in order i ≡ true → back (place_in 0 order i) ≡ i) where
  abbrev place : ℕ → ℕ
  place i = place_in 0 order i

  abbrev forth : Expr → Expr
  forth e = expr_renamed place e

  -- ---- first values

  root_back : (o : Root) → names_in_root (is_in order) o ≡ true → root_renamed back (root_renamed place o) ≡ o
  root_back (root.Static i) h = ap (λ (n : ℕ). root.Static n) (leads_back i h)
  root_back (root.Auto number func local) h = refl

  address_back : (a : Address) → names_in_address (is_in order) a ≡ true → address_renamed back (address_renamed place a) ≡ a
  address_back address.Null h = refl
  address_back (address.Func g) h = refl
  address_back (address.At o path index count) h = ap (λ (o : Root). address.At o path index count) (root_back o h)

  leaf_back : (l : Leaf) → names_in_leaf (is_in order) l ≡ true → leaf_renamed back (leaf_renamed place l) ≡ l
  leaf_back (leaf.Int n) h = refl
  leaf_back (leaf.Place a) h = ap (λ (a : Address). leaf.Place a) (address_back a h)

  pub object_back : (o : Object) → NamesInObject order o → object_renamed back (object_renamed place o) ≡ o
  object_back o h = ap (λ (init : List Leaf). record { name = o.name; ctype = o.ctype; init = init }) (all_back (leaf_renamed back) (leaf_renamed place) (λ l. names_in_leaf (is_in order) l ≡ true) leaf_back o.init h)

  -- ---- expressions

  expr_kept : (e : Expr) → names_in_expr (is_in order) e ≡ true → expr_renamed back (forth e) ≡ e
  expr_kept e h = expr_back (is_in order) back place leads_back e h

  optional_back : (e : Option Expr) → names_in_optional (is_in order) e ≡ true → option_map (expr_renamed back) (option_map forth e) ≡ e
  optional_back None h = refl
  optional_back (Some e) h = ap (λ (e : Expr). Some e) (expr_kept e h)

  -- ---- statements

  abbrev forth_stmt : Stmt → Stmt
  forth_stmt s = stmt_by (expr_renamed place) s

  abbrev forth_case : Case → Case
  forth_case c = case_by (expr_renamed place) c

  abbrev back_stmt : Stmt → Stmt
  back_stmt s = stmt_by (expr_renamed back) s

  abbrev back_case : Case → Case
  back_case c = case_by (expr_renamed back) c

  abbrev StmtAt : Stmt → Type 0
  StmtAt s = names_in_stmt (is_in order) s ≡ true → back_stmt (forth_stmt s) ≡ s

  abbrev CaseAt : Case → Type 0
  CaseAt c = names_in_case (is_in order) c ≡ true → back_case (forth_case c) ≡ c

  list_back : (l : List Stmt) → Each StmtAt l → all_of (map (names_in_stmt (is_in order)) l) ≡ true → map back_stmt (map forth_stmt l) ≡ l
  list_back [] h k = refl
  list_back (s ∷ l) h k = let c = and_parts _ _ k in λ i. h.0 c.0 i ∷ list_back l h.1 c.1 i

  cases_back : (l : List Case) → Each CaseAt l → all_of (map (names_in_case (is_in order)) l) ≡ true → map back_case (map forth_case l) ≡ l
  cases_back [] h k = refl
  cases_back (s ∷ l) h k = let c = and_parts _ _ k in λ i. h.0 c.0 i ∷ cases_back l h.1 c.1 i

  abbrev StmtNames : is.Stmt-F Stmt Case → Type 0
  StmtNames x = stmt_step (is_in order) (map-Stmt Stmt Case Bool Bool (names_in_stmt (is_in order)) (names_in_case (is_in order)) x) ≡ true

  layer_back : (x : is.Stmt-F Stmt Case) → StmtParts StmtAt CaseAt x → StmtNames x → layer (expr_renamed back) (layer (expr_renamed place) x) ≡ x
  layer_back (is.Do e) h k = λ i. is.Do (expr_kept e k i)
  layer_back (is.If e a b) h k = let c = and_parts _ _ k in let d = and_parts _ _ c.1 in λ i. is.If (expr_kept e c.0 i) (list_back a h.0 d.0 i) (list_back b h.1 d.1 i)
  layer_back (is.While e a) h k = let c = and_parts _ _ k in λ i. is.While (expr_kept e c.0 i) (list_back a h c.1 i)
  layer_back (is.DoWhile a e) h k = let c = and_parts _ _ k in λ i. is.DoWhile (list_back a h c.0 i) (expr_kept e c.1 i)
  layer_back (is.For first test again a) h k =
      let c = and_parts _ _ k in let d = and_parts _ _ c.1 in let e = and_parts _ _ d.1 in
      λ i. is.For (optional_back first c.0 i) (optional_back test d.0 i) (optional_back again e.0 i) (list_back a h e.1 i)
  layer_back (is.Switch e cases) h k = let c = and_parts _ _ k in λ i. is.Switch (expr_kept e c.0 i) (cases_back cases h c.1 i)
  layer_back is.Break h k = refl
  layer_back is.Continue h k = refl
  layer_back (is.Return e) h k = λ i. is.Return (optional_back e k i)
  layer_back is.Empty h k = refl
  layer_back (is.Block a) h k = λ i. is.Block (list_back a h k i)

  stmt_at : (x : is.Stmt-F Stmt Case) → StmtParts StmtAt CaseAt x → StmtAt (roll-Stmt x)
  stmt_at x h k = ap back_stmt (stmt_level (expr_renamed place) x) ∙ stmt_level (expr_renamed back) (layer (expr_renamed place) x) ∙ ap roll-Stmt (layer_back x h (sym (named_stmt_level (is_in order) x) ∙ k))

  case_at : (x : is.Case-F Stmt Case) → CaseParts StmtAt CaseAt x → CaseAt (roll-Case x)
  case_at x h k =
      ap back_case (case_level (expr_renamed place) x) ∙ case_level (expr_renamed back) (map-Case Stmt Case Stmt Case forth_stmt forth_case x)
      ∙ ap (λ (body : List Stmt). roll-Case (record { labels = x.labels; body = body })) (list_back x.body h (sym (named_case_level (is_in order) x) ∙ k))

  stmt_back : (s : Stmt) → StmtAt s
  stmt_back s = by_stmt StmtAt CaseAt stmt_at case_at s

  pub func_back : (f : Func) → NamesInFunc order f → func_renamed back (func_renamed place f) ≡ f
  func_back f h =
      ap (λ (body : List Stmt). record { name = f.name; sig = f.sig; entry = f.entry; params = f.params; locals = f.locals; body = body })
      (all_back back_stmt forth_stmt (λ s. names_in_stmt (is_in order) s ≡ true) stmt_back f.body h)

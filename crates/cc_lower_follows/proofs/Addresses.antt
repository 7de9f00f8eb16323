-- The same addresses are taken in a lowered body: the step before a `continue` stands in the loop already, and a test that is left out is a constant.
use Rattle.std.proofs.Common.{◌≡◌, ℕ, Bool, true, false, ◌||◌, List, [], ◌∷◌, ◌++◌, map, Option, Some, None, refl, ap, sym, ◌∙◌}
use Rattle.std.proofs.lemmas.List.{map-append}
use Rattle.std.proofs.lemmas.List.Folds.{list_any-append}
use Rattle.std.specs.List.{list_any}
use Rattle.cc_program.specs.declared.expr.Expr.{Expr, out-Expr, map-Expr, fold_out-Expr, fold-roll-Expr}
use Rattle.cc_program.specs.declared.expr.Expr.TheOpen as one
use Rattle.cc_program.specs.declared.expr.Place.{Place}
use Rattle.cc_program.specs.declared.func.Func.{Func}
use Rattle.cc_program.specs.declared.stmt.Case.{Case, roll-Case, fold-Case, fold-roll-Case, out-roll-Case}
use Rattle.cc_program.specs.declared.stmt.Stmt.{Stmt, roll-Stmt, map-Stmt, fold-roll-Stmt, out-roll-Stmt}
use Rattle.cc_program.specs.declared.stmt.Stmt.TheOpen as is
use Rattle.cc_program.proofs.Each.{Each}
use Rattle.cc_program.proofs.StmtInduction.{StmtParts, CaseParts, by_stmts}
use Rattle.cc_steps.specs.CcSyntax.Registers.{PlaceUse, address_step, is_address_taken, place_use, is_taken_in_optional, stmt_step, is_taken_in, is_addressed, use_step}
use Rattle.cc_lower_statements.specs.Statements.{break_statement, constant_one, endless_loop, guarded, is_nonzero_constant, is_nonzero_constant_in, lower, lower_case, lower_cases, lower_func, lower_list, needed_test, needed_test_if, optional_statement}
use Rattle.cc_lower_statements.proofs.Layers.{lower-out, lower_case-out, lower_layer}

or_true : (x : Bool) → (x || true) ≡ true
or_true true = refl
or_true false = refl

or_false : (x : Bool) → (x || false) ≡ x
or_false true = refl
or_false false = refl

-- two that are the same, as far as it matters beside a third
abbrev Beside : Bool → Bool → Bool → Type 0
Beside b x y = (x || b) ≡ (y || b)

beside_at : (b x y : Bool) → (b ≡ false → x ≡ y) → Beside b x y
beside_at true x y h = or_true x ∙ sym (or_true y)
beside_at false x y h = ap (λ c. c || false) (h refl)

beside_out : (b x y : Bool) → b ≡ false → Beside b x y → x ≡ y
beside_out b x y e h = sym (or_false x) ∙ ap (λ c. x || c) (sym e) ∙ h ∙ ap (λ c. y || c) e ∙ or_false y

within : (b x : Bool) → b ≡ false → (x || b) ≡ b → x ≡ false
within b x e h = sym (or_false x) ∙ ap (λ c. x || c) (sym e) ∙ h ∙ e

module _ (r : ℕ) where
  abbrev case_taken : Case → Bool
  case_taken c = fold-Case Bool Bool (stmt_step r) (λ c. list_any (λ b. b) c.body) c

  abbrev taken : List Stmt → Bool
  taken l = list_any (λ b. b) (map (is_taken_in r) l)

  abbrev cases_taken : List Case → Bool
  cases_taken l = list_any (λ b. b) (map case_taken l)

  taken-append : (xs ys : List Stmt) → taken (xs ++ ys) ≡ (taken xs || taken ys)
  taken-append xs ys = ap (list_any (λ b. b)) (map-append (is_taken_in r) xs ys) ∙ list_any-append (λ b. b) (map (is_taken_in r) xs) (map (is_taken_in r) ys)

  abbrev taken_layer : is.Stmt-F Stmt Case → Bool
  taken_layer x = stmt_step r (map-Stmt Stmt Case Bool Bool (is_taken_in r) case_taken x)

  taken-roll : (x : is.Stmt-F Stmt Case) → is_taken_in r (roll-Stmt x) ≡ taken_layer x
  taken-roll x = fold-roll-Stmt Bool Bool (stmt_step r) (λ c. list_any (λ b. b) c.body) x

  case-roll : (x : is.Case-F Stmt Case) → case_taken (roll-Case x) ≡ taken x.body
  case-roll x = fold-roll-Case Bool Bool (stmt_step r) (λ c. list_any (λ b. b) c.body) x

  -- a statement alone
  taken-one : (x : is.Stmt-F Stmt Case) → taken (roll-Stmt x ∷ []) ≡ taken_layer x
  taken-one x = or_false (is_taken_in r (roll-Stmt x)) ∙ taken-roll x

  constant_taken_in : (x : one.Expr-F Expr Place) → is_nonzero_constant_in x ≡ true → address_step r (map-Expr Expr Place Bool PlaceUse (is_address_taken r) (place_use r) x) ≡ false
  constant_taken_in (one.Const n t) h = refl
  constant_taken_in (one.Null t) h = refl
  constant_taken_in (one.FuncAddr f) h = refl
  constant_taken_in (one.Load a) h = absurd (cc)
  constant_taken_in (one.AddrOf a) h = absurd (cc)
  constant_taken_in (one.Un o t a) h = absurd (cc)
  constant_taken_in (one.Bin o t a b) h = absurd (cc)
  constant_taken_in (one.Conv t a) h = absurd (cc)
  constant_taken_in (one.Qualify t a) h = absurd (cc)
  constant_taken_in (one.Move a b back) h = absurd (cc)
  constant_taken_in (one.Gap a b) h = absurd (cc)
  constant_taken_in (one.Compare o a b) h = absurd (cc)
  constant_taken_in (one.Both a b) h = absurd (cc)
  constant_taken_in (one.Either a b) h = absurd (cc)
  constant_taken_in (one.Choose c a b) h = absurd (cc)
  constant_taken_in (one.Assign a e) h = absurd (cc)
  constant_taken_in (one.Change a o t e) h = absurd (cc)
  constant_taken_in (one.After a down) h = absurd (cc)
  constant_taken_in (one.Call f args) h = absurd (cc)
  constant_taken_in (one.Intr i a) h = absurd (cc)
  constant_taken_in (one.Seq a b) h = absurd (cc)

  constant_taken : (e : Expr) → is_nonzero_constant e ≡ true → is_address_taken r e ≡ false
  unfolding is_address_taken place_use is_nonzero_constant
  constant_taken e h = fold_out-Expr Bool PlaceUse (address_step r) (use_step r) e ∙ constant_taken_in (out-Expr e) h

  one-taken : is_address_taken r constant_one ≡ false
  unfolding is_address_taken
  one-taken = fold-roll-Expr Bool PlaceUse (address_step r) (use_step r) _

  -- the test of a loop, and what it guards
  needed_taken : (b : Bool) (e : Expr) (inside : List Stmt) → is_nonzero_constant e ≡ b → taken (guarded (needed_test_if b e) inside) ≡ (is_address_taken r e || taken inside)
  needed_taken true e inside h = ap (λ c. c || taken inside) (sym (constant_taken e h))
  needed_taken false e inside h =
      taken-one (is.If e inside (break_statement ∷ [])) ∙ ap (λ c. is_address_taken r e || (taken inside || c)) (taken-one is.Break) ∙ ap (λ c. is_address_taken r e || c) (or_false (taken inside))

  guarded_taken : (test : Option Expr) (inside : List Stmt) → taken (guarded (needed_test test) inside) ≡ (is_taken_in_optional r test || taken inside)
  guarded_taken None inside = refl
  guarded_taken (Some e) inside = needed_taken (is_nonzero_constant e) e inside refl

  endless_loop_taken : (inside : List Stmt) → taken (endless_loop inside ∷ []) ≡ taken inside
  endless_loop_taken inside = taken-one (is.While constant_one inside) ∙ ap (λ c. c || taken inside) one-taken

  optional_taken : (e : Option Expr) → taken (optional_statement e) ≡ is_taken_in_optional r e
  optional_taken None = refl
  optional_taken (Some e) = taken-one (is.Do e)

  -- ---- what a statement takes the address of, beside the step before a `continue`
  abbrev Takes : Stmt → Type 0
  Takes s = (step : List Stmt) (b : Bool) → Beside b (taken step) false → Beside b (taken (lower s step)) (is_taken_in r s)

  abbrev CaseTakes : Case → Type 0
  CaseTakes c = (step : List Stmt) (b : Bool) → Beside b (taken step) false → Beside b (case_taken (lower_case c step)) (case_taken c)

  both : (b x y z w : Bool) → Beside b x z → Beside b y w → Beside b (x || y) (z || w)
  both b x y z w h k = beside_at b (x || y) (z || w) (λ e. ap (λ c. c || y) (beside_out b x z e h) ∙ ap (λ c. z || c) (beside_out b y w e k))

  list_takes : (l : List Stmt) → Each Takes l → (step : List Stmt) (b : Bool) → Beside b (taken step) false → Beside b (taken (lower_list l step)) (taken l)
  list_takes [] h step b k = refl
  list_takes (s ∷ l) h step b k =
      ap (λ c. c || b) (taken-append (lower s step) (lower_list l step)) ∙ both b (taken (lower s step)) (taken (lower_list l step)) (is_taken_in r s) (taken l) (h.0 step b k) (list_takes l h.1 step b k)

  cases_take : (l : List Case) → Each CaseTakes l → (step : List Stmt) (b : Bool) → Beside b (taken step) false → Beside b (cases_taken (lower_cases l step)) (cases_taken l)
  cases_take [] h step b k = refl
  cases_take (c ∷ l) h step b k =
      both b (case_taken (lower_case c step)) (cases_taken (lower_cases l step)) (case_taken c) (cases_taken l) (h.0 step b k) (cases_take l h.1 step b k)

  same : (b x y : Bool) → x ≡ y → Beside b x y
  same b x y h = ap (λ c. c || b) h

  -- the body of a `for`, with its step
  for_body_taken : (a : List Stmt) → Each Takes a → (again : Option Expr) → taken (lower_list a (optional_statement again) ++ optional_statement again) ≡ (is_taken_in_optional r again || taken a)
  for_body_taken a h again =
      let s = optional_taken again in
      taken-append (lower_list a (optional_statement again)) (optional_statement again) ∙ ap (λ c. taken (lower_list a (optional_statement again)) || c) s
      ∙ list_takes a h (optional_statement again) (is_taken_in_optional r again) (ap (λ c. c || is_taken_in_optional r again) s ∙ or_self (is_taken_in_optional r again)) ∙ or_swap (taken a) (is_taken_in_optional r again)
    where
      or_self : (x : Bool) → (x || x) ≡ x
      or_self true = refl
      or_self false = refl

      or_swap : (x y : Bool) → (x || y) ≡ (y || x)
      or_swap true true = refl
      or_swap true false = refl
      or_swap false true = refl
      or_swap false false = refl

  none : Beside false (taken []) false
  none = refl

  -- with no step the same is taken
  alone : (l : List Stmt) → Each Takes l → taken (lower_list l []) ≡ taken l
  alone l h = beside_out false (taken (lower_list l [])) (taken l) refl (list_takes l h [] false none)

  layer_taken : (x : is.Stmt-F Stmt Case) → StmtParts Takes CaseTakes x → (step : List Stmt) (b : Bool) → Beside b (taken step) false → Beside b (taken (lower_layer x step)) (taken_layer x)
  layer_taken (is.Do e) h step b k = same b _ _ (taken-one (is.Do e))
  layer_taken (is.If e these those) h step b k =
      same b _ _ (taken-one (is.If e (lower_list these step) (lower_list those step)))
      ∙ both b (is_address_taken r e) (taken (lower_list these step) || taken (lower_list those step)) (is_address_taken r e) (taken these || taken those) refl
      (both b (taken (lower_list these step)) (taken (lower_list those step)) (taken these) (taken those) (list_takes these h.0 step b k) (list_takes those h.1 step b k))
  layer_taken (is.While e a) h step b k =
      same b _ _ (endless_loop_taken (guarded (needed_test (Some e)) (lower_list a [])) ∙ guarded_taken (Some e) (lower_list a []) ∙ ap (λ c. is_address_taken r e || c) (alone a h))
  layer_taken (is.DoWhile a e) h step b k =
      same b _ _ (endless_loop_taken (lower_list a [] ++ guarded (needed_test (Some e)) []) ∙ taken-append (lower_list a []) (guarded (needed_test (Some e)) [])
      ∙ ap (λ c. c || taken (guarded (needed_test (Some e)) [])) (alone a h) ∙ ap (λ c. taken a || c) (guarded_taken (Some e) [] ∙ or_false (is_address_taken r e)))
  layer_taken (is.For first test again a) h step b k =
      same b _ _ (taken-append (optional_statement first) (endless_loop (guarded (needed_test test) (lower_list a (optional_statement again) ++ optional_statement again)) ∷ [])
      ∙ ap (λ c. c || taken (endless_loop (guarded (needed_test test) (lower_list a (optional_statement again) ++ optional_statement again)) ∷ [])) (optional_taken first)
      ∙ ap (λ c. is_taken_in_optional r first || c) (endless_loop_taken (guarded (needed_test test) (lower_list a (optional_statement again) ++ optional_statement again)) ∙ guarded_taken test (lower_list a (optional_statement again) ++ optional_statement again)
      ∙ ap (λ c. is_taken_in_optional r test || c) (for_body_taken a h again)))
  layer_taken (is.Switch e cases) h step b k =
      same b _ _ (taken-one (is.Switch e (lower_cases cases step)))
      ∙ both b (is_address_taken r e) (cases_taken (lower_cases cases step)) (is_address_taken r e) (cases_taken cases) refl (cases_take cases h step b k)
  layer_taken is.Break h step b k = same b _ _ (taken-one is.Break)
  layer_taken is.Continue h step b k =
      same b _ _ (taken-append step (roll-Stmt is.Continue ∷ []) ∙ ap (λ c. taken step || c) (taken-one is.Continue) ∙ or_false (taken step)) ∙ k
  layer_taken (is.Return e) h step b k = same b _ _ (taken-one (is.Return e))
  layer_taken is.Empty h step b k = refl
  layer_taken (is.Block a) h step b k = list_takes a h step b k

  takes_level : (x : is.Stmt-F Stmt Case) → StmtParts Takes CaseTakes x → Takes (roll-Stmt x)
  takes_level x h step b k =
      same b _ _ (ap taken (lower-out (roll-Stmt x) step ∙ ap (λ y. lower_layer y step) (out-roll-Stmt x))) ∙ layer_taken x h step b k ∙ same b _ _ (sym (taken-roll x))

  case_level : (x : is.Case-F Stmt Case) → CaseParts Takes CaseTakes x → CaseTakes (roll-Case x)
  case_level x h step b k =
      same b _ _ (ap case_taken (lower_case-out (roll-Case x) step) ∙ case-roll _ ∙ ap (λ (c : is.Case-F Stmt Case). taken (lower_list c.body step)) (out-roll-Case x))
      ∙ list_takes x.body h step b k ∙ same b _ _ (sym (case-roll x))

  pub taken_lowered : (l : List Stmt) → taken (lower_list l []) ≡ taken l
  taken_lowered l = alone l (by_stmts Takes CaseTakes takes_level case_level l)

pub addressed_same : (f : Func) (r : ℕ) → is_addressed (lower_func f) r ≡ is_addressed f r
addressed_same f r = taken_lowered r f.body

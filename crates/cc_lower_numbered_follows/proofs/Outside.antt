-- A typed function takes no address of a local that is not there.
use Rattle.std.proofs.Common.{◌≡◌, ◌∙◌, ◌≤◌, ℕ, Bool, true, false, List, [], ◌∷◌, map, length, Option, Some, None, refl, ap, sym, arith}
use Rattle.std.specs.Prelude.{nat_eq, nat_lt, ◌&&◌, ◌||◌}
use Rattle.std.specs.List.{list_any}
use Rattle.std.proofs.lemmas.Bool.{and_parts, ltb-true, ne_eqb}
use Rattle.cc_lower_continues_follows.proofs.ExpressionNames.{optional_below, is_below, is_below-out, is_below_in, is_case_below, is_case_below-out, are_below, are_cases_below}
use Rattle.cc_lower_continues_follows.proofs.TypedNames.{body_bounded}
use Rattle.cc_lower_sound.proofs.AddressReading.{neither, second_false, taken_at, use_at, taken-roll, use-roll, taken_case, stmt_at, stmt-taken-roll, case-taken-roll}
use Rattle.cc_meaning_simulations.specs.NamedLocals.{all_in, names_below, names_step, place_names_below, place_names_step}
use Rattle.cc_meaning_simulations.proofs.MoreLocals.{names-roll, place_names-roll}
use Rattle.cc_program.specs.declared.expr.Expr.{Expr, roll-Expr, map-Expr}
use Rattle.cc_program.specs.declared.expr.Expr.TheOpen as one
use Rattle.cc_program.specs.declared.expr.Place.{Place, roll-Place, map-Place}
use Rattle.cc_program.specs.declared.func.Func.{Func}
use Rattle.cc_program.specs.declared.program.Program.{Program}
use Rattle.cc_program.specs.declared.stmt.Case.{Case, roll-Case, out-roll-Case}
use Rattle.cc_program.specs.declared.stmt.Stmt.{Stmt, roll-Stmt, out-roll-Stmt, map-Stmt}
use Rattle.cc_program.specs.declared.stmt.Stmt.TheOpen as is
use Rattle.cc_program.proofs.Each.{Each}
use Rattle.cc_program.proofs.ExprInduction.{Parts, PlaceParts, by_expr}
use Rattle.cc_program.proofs.StmtInduction.{StmtParts, CaseParts, by_stmts}
use Rattle.cc_states.specs.CcSyntax.Registers.{PlaceUse, is_address_taken, place_use, is_taken_in, is_taken_in_optional, is_addressed}
use Rattle.cc_states.specs.CcSyntax.Sound.{any_names, IsFuncBy}

module _ (n r : ℕ) (outside : n ≤ r) where
  -- ---- expressions

  abbrev Far : Expr → Type 0
  Far e = names_below n e ≡ true → is_address_taken r e ≡ false

  -- neither the local nor a place that takes its address
  abbrev FarPlace : Place → Type 0
  FarPlace a = place_names_below n a ≡ true → (place_use r a).is_local || (place_use r a).address_taken ≡ false

  taken_by : (a : Place) → FarPlace a → place_names_below n a ≡ true → (place_use r a).address_taken ≡ false
  taken_by a h k = second_false ((place_use r a).is_local) ((place_use r a).address_taken) (h k)

  pair : (a b : Expr) → Far a → Far b → (names_below n a && names_below n b) ≡ true → is_address_taken r a || is_address_taken r b ≡ false
  pair a b h k w = let p = and_parts (names_below n a) (names_below n b) w in neither (is_address_taken r a) (is_address_taken r b) (h p.0) (k p.1)

  written : (a : Place) (e : Expr) → FarPlace a → Far e → (place_names_below n a && names_below n e) ≡ true → (place_use r a).address_taken || is_address_taken r e ≡ false
  written a e h k w = let p = and_parts (place_names_below n a) (names_below n e) w in neither ((place_use r a).address_taken) (is_address_taken r e) (taken_by a h p.0) (k p.1)

  arguments : (args : List Expr) → Each Far args → all_in (map (names_below n) args) ≡ true → list_any (λ b. b) (map (is_address_taken r) args) ≡ false
  arguments [] h w = refl
  arguments (a ∷ args) h w =
      let p = and_parts (names_below n a) (all_in (map (names_below n) args)) w in
      neither (is_address_taken r a) (list_any (λ b. b) (map (is_address_taken r) args)) (h.0 p.0) (arguments args h.1 p.1)

  level : (x : one.Expr-F Expr Place) → Parts Far FarPlace x → names_step n (map-Expr Expr Place Bool Bool (names_below n) (place_names_below n) x) ≡ true → taken_at r x ≡ false
  level (one.Const k t) h w = refl
  level (one.Null t) h w = refl
  level (one.FuncAddr g) h w = refl
  level (one.Load a) h w = taken_by a h w
  level (one.AddrOf a) h w = h w
  level (one.Un o t a) h w = h w
  level (one.Bin o t a b) h w = pair a b h.0 h.1 w
  level (one.Conv t a) h w = h w
  level (one.Qualify t a) h w = h w
  level (one.Move a b back) h w = pair a b h.0 h.1 w
  level (one.Gap a b) h w = pair a b h.0 h.1 w
  level (one.Compare o a b) h w = pair a b h.0 h.1 w
  level (one.Both a b) h w = pair a b h.0 h.1 w
  level (one.Either a b) h w = pair a b h.0 h.1 w
  level (one.Choose c a b) h w =
      let p = and_parts (names_below n c) (names_below n a && names_below n b) w in neither (is_address_taken r c) (is_address_taken r a || is_address_taken r b) (h.0 p.0) (pair a b h.1 h.2 p.1)
  level (one.Assign a e) h w = written a e h.0 h.1 w
  level (one.Change a o t e) h w = written a e h.0 h.1 w
  level (one.After a down) h w = taken_by a h w
  level (one.Call g args) h w =
      let p = and_parts (names_below n g) (all_in (map (names_below n) args)) w in neither (is_address_taken r g) (list_any (λ b. b) (map (is_address_taken r) args)) (h.0 p.0) (arguments args h.1 p.1)
  level (one.Intr i None) h w = refl
  level (one.Intr i (Some a)) h w = h w
  level (one.Seq a b) h w = pair a b h.0 h.1 w

  other : (k : ℕ) → nat_lt k n ≡ true → nat_eq k r || false ≡ false
  other k w = let l = ltb-true k n w in neither (nat_eq k r) false (ne_eqb k r (λ e. omega (arith, l, e))) refl

  place_level : (x : one.Place-F Expr Place) → PlaceParts Far FarPlace x → place_names_step n (map-Place Expr Place Bool Bool (names_below n) (place_names_below n) x) ≡ true → (use_at r x).is_local || (use_at r x).address_taken ≡ false
  place_level (one.Local k) h w = other k w
  place_level (one.Static k) h w = refl
  place_level (one.Device d) h w = refl
  place_level (one.Element a e) h w = written a e h.0 h.1 w
  place_level (one.Member a m) h w = taken_by a h w
  place_level (one.Deref e) h w = h w

  made : (x : one.Expr-F Expr Place) → Parts Far FarPlace x → Far (roll-Expr x)
  made x h w = taken-roll r x ∙ level x h (sym (names-roll n x) ∙ w)

  place_made : (x : one.Place-F Expr Place) → PlaceParts Far FarPlace x → FarPlace (roll-Place x)
  place_made x h w = ap (λ (u : PlaceUse). u.is_local || u.address_taken) (use-roll r x) ∙ place_level x h (sym (place_names-roll n x) ∙ w)

  far : (e : Expr) → Far e
  far = by_expr Far FarPlace made place_made

  optional_far : (e : Option Expr) → optional_below n e ≡ true → is_taken_in_optional r e ≡ false
  optional_far None w = refl
  optional_far (Some e) w = far e w

  -- ---- statements

  abbrev FarIn : Stmt → Type 0
  FarIn s = is_below n s ≡ true → is_taken_in r s ≡ false

  abbrev FarCase : Case → Type 0
  FarCase c = is_case_below n c ≡ true → taken_case r c ≡ false

  abbrev any_in : List Stmt → Bool
  any_in list = list_any (λ b. b) (map (is_taken_in r) list)

  abbrev any_case : List Case → Bool
  any_case list = list_any (λ b. b) (map (taken_case r) list)

  each_far : (list : List Stmt) → Each FarIn list → are_below n list ≡ true → any_in list ≡ false
  each_far [] h w = refl
  each_far (s ∷ list) h w = let p = and_parts (is_below n s) (are_below n list) w in neither (is_taken_in r s) (any_in list) (h.0 p.0) (each_far list h.1 p.1)

  cases_far : (list : List Case) → Each FarCase list → are_cases_below n list ≡ true → any_case list ≡ false
  cases_far [] h w = refl
  cases_far (c ∷ list) h w = let p = and_parts (is_case_below n c) (are_cases_below n list) w in neither (taken_case r c) (any_case list) (h.0 p.0) (cases_far list h.1 p.1)

  stmt_level : (x : is.Stmt-F Stmt Case) → StmtParts FarIn FarCase x → is_below_in n (map-Stmt Stmt Case Bool Bool (is_below n) (is_case_below n) x) ≡ true → stmt_at r x ≡ false
  stmt_level (is.Do e) h w = far e w
  stmt_level (is.If e a b) h w =
      let p = and_parts (names_below n e) (are_below n a && are_below n b) w in
      let q = and_parts (are_below n a) (are_below n b) p.1 in
      neither (is_address_taken r e) (any_in a || any_in b) (far e p.0) (neither (any_in a) (any_in b) (each_far a h.0 q.0) (each_far b h.1 q.1))
  stmt_level (is.While e a) h w = let p = and_parts (names_below n e) (are_below n a) w in neither (is_address_taken r e) (any_in a) (far e p.0) (each_far a h p.1)
  stmt_level (is.DoWhile a e) h w = let p = and_parts (names_below n e) (are_below n a) w in neither (any_in a) (is_address_taken r e) (each_far a h p.1) (far e p.0)
  stmt_level (is.For first test again a) h w =
      let p = and_parts (optional_below n first) (optional_below n test && (optional_below n again && are_below n a)) w in
      let q = and_parts (optional_below n test) (optional_below n again && are_below n a) p.1 in
      let s = and_parts (optional_below n again) (are_below n a) q.1 in
      neither (is_taken_in_optional r first) (is_taken_in_optional r test || (is_taken_in_optional r again || any_in a)) (optional_far first p.0)
      (neither (is_taken_in_optional r test) (is_taken_in_optional r again || any_in a) (optional_far test q.0) (neither (is_taken_in_optional r again) (any_in a) (optional_far again s.0) (each_far a h s.1)))
  stmt_level (is.Switch e cases) h w = let p = and_parts (names_below n e) (are_cases_below n cases) w in neither (is_address_taken r e) (any_case cases) (far e p.0) (cases_far cases h p.1)
  stmt_level is.Break h w = refl
  stmt_level is.Continue h w = refl
  stmt_level (is.Return e) h w = optional_far e w
  stmt_level is.Empty h w = refl
  stmt_level (is.Block a) h w = each_far a h w

  stmt_made : (x : is.Stmt-F Stmt Case) → StmtParts FarIn FarCase x → FarIn (roll-Stmt x)
  stmt_made x h w =
      stmt-taken-roll r x
      ∙ stmt_level x h (sym (is_below-out n (roll-Stmt x) ∙ ap (λ (y : is.Stmt-F Stmt Case). is_below_in n (map-Stmt Stmt Case Bool Bool (is_below n) (is_case_below n) y)) (out-roll-Stmt x)) ∙ w)

  case_made : (x : is.Case-F Stmt Case) → CaseParts FarIn FarCase x → FarCase (roll-Case x)
  case_made x h w = case-taken-roll r x ∙ each_far x.body h (sym (is_case_below-out n (roll-Case x) ∙ ap (λ (y : is.Case-F Stmt Case). are_below n y.body) (out-roll-Case x)) ∙ w)

  pub body_far : (list : List Stmt) → are_below n list ≡ true → list_any (λ b. b) (map (is_taken_in r) list) ≡ false
  body_far list w = each_far list (by_stmts FarIn FarCase stmt_made case_made list) w

pub unaddressed : (p : Program) (f : Func) → IsFuncBy p any_names f → (r : ℕ) → length f.locals ≤ r → is_addressed f r ≡ false
unaddressed p f h r l = body_far (length f.locals) r l f.body (body_bounded p f h)

-- What accesses a device, opened at one level; alternatives that are kept.
use Rattle.std.proofs.Common.{◌≡◌, ◌∙◌, ◌||◌, ℕ, Bool, true, false, List, [], ◌∷◌, ◌++◌, map, refl, sym}
use Rattle.std.specs.List.{list_any}
use Rattle.std.proofs.lemmas.Bool.{true≢false, or_left, or_right}
use Rattle.cc_accessed_operands.specs.Accessed.{PlaceAccess, access_step, place_access_step, accesses, place_access, stmt_access_step, stmt_accesses, list_accesses}
use Rattle.cc_program.specs.declared.expr.Expr.{Expr, roll-Expr, map-Expr, fold-roll-Expr}
use Rattle.cc_program.specs.declared.expr.Expr.TheOpen as one
use Rattle.cc_program.specs.declared.expr.Place.{Place, roll-Place, map-Place, fold-roll-Place}
use Rattle.cc_program.specs.declared.stmt.Case.{Case, roll-Case, fold-Case, fold-roll-Case}
use Rattle.cc_program.specs.declared.stmt.Stmt.{Stmt, roll-Stmt, map-Stmt, fold-roll-Stmt}
use Rattle.cc_program.specs.declared.stmt.Stmt.TheOpen as is

-- one of two, where each of them gives another
pub or_kept : (a b c e : Bool) → (a ≡ true → c ≡ true) → (b ≡ true → e ≡ true) → (a || b) ≡ true → (c || e) ≡ true
or_kept true b c e f g h = or_left c e (f refl)
or_kept false b c e f g h = or_right c e (g h)

pub or_either : {C : Type 0} (a b : Bool) → (a ≡ true → C) → (b ≡ true → C) → (a || b) ≡ true → C
or_either true b f g h = f refl
or_either false b f g h = g h

pub no : {C : Type 0} → false ≡ true → C
no h = absurd (true≢false (sym h))

module _ (d : ℕ) where
  abbrev pub accesses_at : one.Expr-F Expr Place → Bool
  accesses_at x = access_step d (map-Expr Expr Place Bool PlaceAccess (accesses d) (place_access d) x)

  abbrev pub place_access_at : one.Place-F Expr Place → PlaceAccess
  place_access_at x = place_access_step d (map-Place Expr Place Bool PlaceAccess (accesses d) (place_access d) x)

  pub accesses-roll : (x : one.Expr-F Expr Place) → accesses d (roll-Expr x) ≡ accesses_at x
  unfolding accesses place_access
  accesses-roll x = fold-roll-Expr Bool PlaceAccess (access_step d) (place_access_step d) x

  pub place-access-roll : (x : one.Place-F Expr Place) → place_access d (roll-Place x) ≡ place_access_at x
  unfolding accesses place_access
  place-access-roll x = fold-roll-Place Bool PlaceAccess (access_step d) (place_access_step d) x

  -- ---- statements

  abbrev pub case_accesses : Case → Bool
  case_accesses c = fold-Case Bool Bool (stmt_access_step d) (λ c. list_any (λ b. b) c.body) c

  abbrev pub cases_access : List Case → Bool
  cases_access list = list_any (λ b. b) (map case_accesses list)

  abbrev pub stmt_accesses_at : is.Stmt-F Stmt Case → Bool
  stmt_accesses_at x = stmt_access_step d (map-Stmt Stmt Case Bool Bool (stmt_accesses d) case_accesses x)

  pub stmt-accesses-roll : (x : is.Stmt-F Stmt Case) → stmt_accesses d (roll-Stmt x) ≡ stmt_accesses_at x
  unfolding stmt_accesses
  stmt-accesses-roll x = fold-roll-Stmt Bool Bool (stmt_access_step d) (λ c. list_any (λ b. b) c.body) x

  pub case-accesses-roll : (x : is.Case-F Stmt Case) → case_accesses (roll-Case x) ≡ list_accesses d x.body
  unfolding stmt_accesses
  case-accesses-roll x = fold-roll-Case Bool Bool (stmt_access_step d) (λ c. list_any (λ b. b) c.body) x

  pub here : (x : is.Stmt-F Stmt Case) → stmt_accesses_at x ≡ true → stmt_accesses d (roll-Stmt x) ≡ true
  here x h = stmt-accesses-roll x ∙ h

  pub only : (x : is.Stmt-F Stmt Case) → stmt_accesses_at x ≡ true → list_accesses d (roll-Stmt x ∷ []) ≡ true
  only x h = or_left (stmt_accesses d (roll-Stmt x)) false (here x h)

  pub in_front : (xs ys : List Stmt) → list_accesses d xs ≡ true → list_accesses d (xs ++ ys) ≡ true
  in_front [] ys h = no h
  in_front (x ∷ xs) ys h = or_kept (stmt_accesses d x) (list_accesses d xs) (stmt_accesses d x) (list_accesses d (xs ++ ys)) (λ k. k) (in_front xs ys) h

  pub behind : (xs ys : List Stmt) → list_accesses d ys ≡ true → list_accesses d (xs ++ ys) ≡ true
  behind [] ys h = h
  behind (x ∷ xs) ys h = or_right (stmt_accesses d x) (list_accesses d (xs ++ ys)) (behind xs ys h)

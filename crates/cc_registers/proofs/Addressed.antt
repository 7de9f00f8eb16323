-- The locals whose addresses are taken are those that the list has.
use Rattle.std.proofs.Common.{◌≡◌, ◌++◌, ◌||◌, ℕ, Bool, true, false, List, [], ◌∷◌, map, Option, Some, None, refl, ap, sym, ◌∙◌}
use Rattle.std.specs.Prelude.{nat_eq}
use Rattle.std.specs.List.{list_any}
use Rattle.std.proofs.lemmas.List.Folds.{list_any-append}
use Rattle.cc_program.specs.declared.expr.Expr.{Expr}
use Rattle.cc_program.specs.declared.expr.Expr.TheOpen as one
use Rattle.cc_program.specs.declared.expr.Place.{map-Place}
use Rattle.cc_program.specs.declared.expr.Expr.{map-Expr}
use Rattle.cc_program.specs.declared.func.Func.{Func}
use Rattle.cc_program.specs.declared.stmt.Case.{Case, roll-Case, fold-Case, fold-roll-Case}
use Rattle.cc_program.specs.declared.stmt.Stmt.{Stmt, roll-Stmt, map-Stmt, fold-roll-Stmt}
use Rattle.cc_program.specs.declared.stmt.Stmt.TheOpen as is
use Rattle.cc_program.proofs.Each.{Each}
use Rattle.cc_program.proofs.FoldFusion.{fused}
use Rattle.cc_program.proofs.StmtInduction.{StmtParts, CaseParts, by_stmts}
use Rattle.cc_typed.specs.CcSyntax.Registers.{PlaceUse, address_step, use_step, is_address_taken, is_taken_in_optional, stmt_step, is_taken_in, is_addressed}
use Rattle.cc_registers.specs.Taken.{among, listed, all_of, PlaceTaken, taken_step, place_taken_step, taken_in, taken_if, stmt_taken_step, taken_by, taken_by_all}

abbrev any : List Bool → Bool
any bs = list_any (λ b. b) bs

module _ (local : ℕ) where
  abbrev has : List ℕ → Bool
  has list = among list local

  abbrev is_it : Option ℕ → Bool
  is_it None = false
  is_it (Some r) = nat_eq r local

  abbrev use_of : PlaceTaken → PlaceUse
  use_of a = record { is_local = is_it a.local; address_taken = has a.inside }

  two : (a b : List ℕ) → has (a ++ b) ≡ (has a || has b)
  two a b = list_any-append (λ n. nat_eq n local) a b

  or-none : (b : Bool) → (b || false) ≡ b
  or-none true = refl
  or-none false = refl

  one-is : (a : Option ℕ) → has (listed a) ≡ is_it a
  one-is None = refl
  one-is (Some r) = or-none (nat_eq r local)

  all : (lists : List (List ℕ)) → has (all_of lists) ≡ any (map has lists)
  all [] = refl
  all (a ∷ lists) = two a (all_of lists) ∙ ap (λ b. has a || b) (all lists)

  step-is : (x : one.Expr-F (List ℕ) PlaceTaken) → has (taken_step x) ≡ address_step local (map-Expr (List ℕ) PlaceTaken Bool PlaceUse has use_of x)
  step-is (one.Const n t) = refl
  step-is (one.Null t) = refl
  step-is (one.FuncAddr f) = refl
  step-is (one.Load a) = refl
  step-is (one.AddrOf a) = two (listed a.local) a.inside ∙ ap (λ b. b || has a.inside) (one-is a.local)
  step-is (one.Un o t a) = refl
  step-is (one.Bin o t a b) = two a b
  step-is (one.Conv t a) = refl
  step-is (one.Qualify t a) = refl
  step-is (one.Move a b back) = two a b
  step-is (one.Gap a b) = two a b
  step-is (one.Compare o a b) = two a b
  step-is (one.Both a b) = two a b
  step-is (one.Either a b) = two a b
  step-is (one.Choose c a b) = two c (a ++ b) ∙ ap (λ w. has c || w) (two a b)
  step-is (one.Assign a e) = two a.inside e
  step-is (one.Change a o t e) = two a.inside e
  step-is (one.After a down) = refl
  step-is (one.Call f args) = two f (all_of args) ∙ ap (λ w. has f || w) (all args)
  step-is (one.Intr i None) = refl
  step-is (one.Intr i (Some a)) = refl
  step-is (one.Seq a b) = two a b

  place-step-is : (x : one.Place-F (List ℕ) PlaceTaken) → use_of (place_taken_step x) ≡ use_step local (map-Place (List ℕ) PlaceTaken Bool PlaceUse has use_of x)
  place-step-is (one.Local r) = refl
  place-step-is (one.Static i) = refl
  place-step-is (one.Device d) = refl
  place-step-is (one.Element a i) = ap (λ (w : Bool). record { is_local = false; address_taken = w }) (two a.inside i)
  place-step-is (one.Member a m) = refl
  place-step-is (one.Deref e) = refl

  taken-is : (e : Expr) → has (taken_in e) ≡ is_address_taken local e
  unfolding taken_in is_address_taken
  taken-is e = fused taken_step place_taken_step (address_step local) (use_step local) has use_of step-is place-step-is e

  taken-if : (e : Option Expr) → has (taken_if e) ≡ is_taken_in_optional local e
  taken-if None = refl
  taken-if (Some e) = taken-is e

  -- ---- statements

  abbrev IsTaken : Stmt → Type 0
  IsTaken s = has (taken_by s) ≡ is_taken_in local s

  abbrev taken_case : Case → List ℕ
  taken_case c = fold-Case (List ℕ) (List ℕ) stmt_taken_step (λ c. all_of c.body) c

  abbrev is_taken_in_case : Case → Bool
  is_taken_in_case c = fold-Case Bool Bool (stmt_step local) (λ c. any c.body) c

  abbrev IsCaseTaken : Case → Type 0
  IsCaseTaken c = has (taken_case c) ≡ is_taken_in_case c

  list-is : {X : Type 0} (f : X → List ℕ) (g : X → Bool) (xs : List X) → Each (λ (x : X). has (f x) ≡ g x) xs → has (all_of (map f xs)) ≡ any (map g xs)
  list-is f g [] h = refl
  list-is f g (x ∷ xs) h = two (f x) (all_of (map f xs)) ∙ (λ i. h.0 i || list-is f g xs h.1 i)

  stmts-are : (xs : List Stmt) → Each IsTaken xs → has (all_of (map taken_by xs)) ≡ any (map (is_taken_in local) xs)
  stmts-are xs h = list-is taken_by (is_taken_in local) xs h

  cases-are : (xs : List Case) → Each IsCaseTaken xs → has (all_of (map taken_case xs)) ≡ any (map is_taken_in_case xs)
  cases-are xs h = list-is taken_case is_taken_in_case xs h

  abbrev raw : is.Stmt-F Stmt Case → is.Stmt-F (List ℕ) (List ℕ)
  raw x = map-Stmt Stmt Case (List ℕ) (List ℕ) taken_by taken_case x

  abbrev told : is.Stmt-F Stmt Case → is.Stmt-F Bool Bool
  told x = map-Stmt Stmt Case Bool Bool (is_taken_in local) is_taken_in_case x

  level : (x : is.Stmt-F Stmt Case) → StmtParts IsTaken IsCaseTaken x → has (stmt_taken_step (raw x)) ≡ stmt_step local (told x)
  level (is.Do e) h = taken-is e
  level (is.If e a b) h = two (taken_in e) (taken_by_all a ++ taken_by_all b) ∙ (λ i. taken-is e i || (two (taken_by_all a) (taken_by_all b) ∙ (λ j. stmts-are a h.0 j || stmts-are b h.1 j)) i)
  level (is.While e a) h = two (taken_in e) (taken_by_all a) ∙ (λ i. taken-is e i || stmts-are a h i)
  level (is.DoWhile a e) h = two (taken_by_all a) (taken_in e) ∙ (λ i. stmts-are a h i || taken-is e i)
  level (is.For first test step a) h =
      two (taken_if first) (taken_if test ++ (taken_if step ++ taken_by_all a)) ∙
      (λ i. taken-if first i || (two (taken_if test) (taken_if step ++ taken_by_all a) ∙ (λ j. taken-if test j || (two (taken_if step) (taken_by_all a) ∙ (λ k. taken-if step k || stmts-are a h k)) j)) i)
  level (is.Switch e cases) h = two (taken_in e) (all_of (map taken_case cases)) ∙ (λ i. taken-is e i || cases-are cases h i)
  level is.Break h = refl
  level is.Continue h = refl
  level (is.Return e) h = taken-if e
  level is.Empty h = refl
  level (is.Block a) h = stmts-are a h

  stmt-level : (x : is.Stmt-F Stmt Case) → StmtParts IsTaken IsCaseTaken x → IsTaken (roll-Stmt x)
  unfolding taken_by
  stmt-level x h =
      ap has (fold-roll-Stmt (List ℕ) (List ℕ) stmt_taken_step (λ c. all_of c.body) x) ∙ level x h ∙
      sym (fold-roll-Stmt Bool Bool (stmt_step local) (λ c. any c.body) x)

  case-level : (x : is.Case-F Stmt Case) → CaseParts IsTaken IsCaseTaken x → IsCaseTaken (roll-Case x)
  unfolding taken_by
  case-level x h =
      ap has (fold-roll-Case (List ℕ) (List ℕ) stmt_taken_step (λ c. all_of c.body) x) ∙ stmts-are x.body h ∙
      sym (fold-roll-Case Bool Bool (stmt_step local) (λ c. any c.body) x)

  pub addressed-is : (f : Func) → has (taken_by_all f.body) ≡ is_addressed f local
  addressed-is f = stmts-are f.body (by_stmts IsTaken IsCaseTaken stmt-level case-level f.body)

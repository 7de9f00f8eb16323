-- A path from a list leads where the rest of it leads from the statement at its first position.
use Rattle.std.proofs.Common.{arith, ◌≡◌, ◌≤◌, ◌-◌, ℕ, zero, suc, List, [], ◌∷◌, length, get_or, take, drop, Option, Some, None, slice_get, refl, ap, sym, ◌∙◌}
use Rattle.cc_flow_sound.specs.Statements.{inside, statement_at}
use Rattle.cc_program.specs.declared.stmt.Stmt.{Stmt, out-Stmt}
use Rattle.cc_rules_flows.specs.Descents.{descended}
use Rattle.cc_syntax.specs.Expressions.{of_one}

alone : (x : Option Stmt) → x ≡ of_one x (λ s. descended s [])
alone None = refl
alone (Some s) = refl

each : (x : Option Stmt) (f g : Stmt → Option Stmt) → ((s : Stmt) → f s ≡ g s) → of_one x f ≡ of_one x g
each None f g h = refl
each (Some s) f g h = h s

pub leads : (list : List Stmt) (n : ℕ) (path : List ℕ) → statement_at list (n ∷ path) ≡ of_one (slice_get list n) (λ s. descended s path)
leads list n [] = alone (slice_get list n)
leads list n (m ∷ path) = each (slice_get list n) (λ s. statement_at (inside (out-Stmt s)) (m ∷ path)) (λ s. descended s (m ∷ path)) (λ s. leads (inside (out-Stmt s)) m path)

-- the same of a path that begins so
pub led : (list : List Stmt) (path : List ℕ) (n : ℕ) (rest : List ℕ) (s : Stmt) → Some s ≡ slice_get list n → path ≡ n ∷ rest → descended s rest ≡ statement_at list path
led list path n rest s h e = ap (λ x. of_one x (λ s. descended s rest)) h ∙ (sym (leads list n rest) ∙ ap (statement_at list) (sym e))

all_taken : (xs : List ℕ) (k : ℕ) → k ≡ length xs → take k xs ≡ xs
all_taken [] zero h = refl
all_taken [] (suc k) h = refl
all_taken (x ∷ xs) zero h = absurd (omega (arith, h))
all_taken (x ∷ xs) (suc k) h = ap (λ ys. x ∷ ys) (all_taken xs k (omega (arith, h)))

-- a path is its first position, and the rest
pub cut : (path : List ℕ) (d : ℕ) → 1 ≤ length path → path ≡ get_or path 0 d ∷ take (length path - 1) (drop 1 path)
cut [] d h = absurd (omega (arith, h))
cut (n ∷ rest) d h = let e : length (n ∷ rest) - 1 ≡ length rest = omega arith in ap (λ ys. n ∷ ys) (sym (all_taken rest (length (n ∷ rest) - 1) e))

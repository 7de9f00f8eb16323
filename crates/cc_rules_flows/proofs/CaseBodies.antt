-- A position in the bodies of cases, one after the other.
use Rattle.std.proofs.Common.{arith, ◌≡◌, ◌<◌, ◌≤◌, ◌+◌, ◌-◌, ℕ, zero, suc, List, [], ◌∷◌, ◌++◌, length, drop, get_or, refl, ap, sym, subst, ◌∙◌, slice_get}
use Rattle.std.proofs.lemmas.List.{drop_more}
use Rattle.cc_flow_sound.specs.CcControl.Control.{bodies}
use Rattle.cc_program.specs.declared.stmt.Case.{Case}
use Rattle.cc_program.specs.declared.stmt.Stmt.{Stmt}

pub get_before : {A : Type 0} → (xs ys : List A) (k : ℕ) → k < length xs → slice_get (xs ++ ys) k ≡ slice_get xs k
get_before [] ys k h = absurd (omega (arith, h))
get_before (x ∷ xs) ys zero h = refl
get_before (x ∷ xs) ys (suc k) h = get_before xs ys k (omega (arith, h))

pub get_behind : {A : Type 0} → (xs ys : List A) (k j : ℕ) → k ≡ length xs + j → slice_get (xs ++ ys) k ≡ slice_get ys j
get_behind [] ys k j h = let e : k ≡ j = omega (arith, h) in ap (slice_get ys) e
get_behind (x ∷ xs) ys zero j h = absurd (omega (arith, h))
get_behind (x ∷ xs) ys (suc k) j h = get_behind xs ys k j (omega (arith, h))

pub bodies_from : (cases : List Case) (i : ℕ) (c : Case) → i < length cases → c ≡ get_or cases i c → bodies (drop i cases) ≡ c.body ++ bodies (drop (i + 1) cases)
bodies_from cases i c h is = ap bodies (drop_more cases i c h) ∙ ap (λ x. x.body ++ bodies (drop (i + 1) cases)) (sym is)

pub behind_body : (cases : List Case) (i : ℕ) (c : Case) (body : List Stmt) (position left j : ℕ) → i < length cases → c ≡ get_or cases i c → body ≡ c.body → left ≡ length body + j →
    slice_get (bodies cases) position ≡ slice_get (bodies (drop i cases)) left → slice_get (bodies cases) position ≡ slice_get (bodies (drop (i + 1) cases)) j
behind_body cases i c body position left j h is same far so =
    so ∙ (ap (λ xs. slice_get xs left) (bodies_from cases i c h is) ∙ get_behind c.body (bodies (drop (i + 1) cases)) left j (far ∙ ap (λ xs. length xs + j) same))

pub within_body : (cases : List Case) (i : ℕ) (c : Case) (body : List Stmt) (position left : ℕ) → i < length cases → c ≡ get_or cases i c → body ≡ c.body → left < length body →
    slice_get (bodies cases) position ≡ slice_get (bodies (drop i cases)) left → slice_get (bodies cases) position ≡ slice_get body left
within_body cases i c body position left h is same near so =
    so ∙ (ap (λ xs. slice_get xs left) (bodies_from cases i c h is) ∙ (get_before c.body (bodies (drop (i + 1) cases)) left (subst (λ xs. left < length xs) same near) ∙ ap (λ xs. slice_get xs left) (sym same)))

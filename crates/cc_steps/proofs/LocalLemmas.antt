-- The locals of an activation, as far as a loop has come.
use Rattle.std.proofs.Common.{arith, ◌≡◌, ◌<◌, ◌+◌, ◌-◌, ◌^◌, ◌≢◌, ℕ, zero, suc, List, [], ◌∷◌, ◌++◌, length, take, get_or, replicate, Some, None, slice_get, refl, ap, sym, ◌∙◌, Vec}
use Rattle.std.specs.declared.alloc.Global.{Global}
use Rattle.std.proofs.lemmas.List.{map-append, append-nil, replicate-append-replicate}
use Rattle.cc_cells.specs.Cells.{cells_of}
use Rattle.cc_cells.specs.Counts.{counted}
use Rattle.cc_control.specs.Control.{close}
use Rattle.cc_control.specs.View.{levels_of}
use Rattle.cc_control.proofs.LevelLemmas.{levels_of-nil}
use Rattle.cc_program.specs.declared.stmt.Stmt.{Stmt}
use Rattle.cc_program.specs.declared.program.Program.{Program}
use Rattle.cc_program.specs.declared.value.Value.{Value}
use Rattle.cc_eval.specs.CcSyntax.Types.{Named}
use Rattle.cc_steps.specs.State.{local_with, locals_with}

pub count-known : (n k : ℕ) → k ≡ counted n → k ≢ 2 ^ 64 - 1 → k ≡ n
count-known n k h b = omega (arith, h, b)

pub one-more : {A : Type 0} (n : ℕ) (x : A) → replicate (n + 1) x ≡ replicate n x ++ x ∷ []
one-more n x = sym (replicate-append-replicate n 1 x)

pub cells_of-push : {A : Type 0} (cells : List (Vec A Global)) (v : Vec A Global) → cells_of (cells ++ v ∷ []) ≡ cells_of cells ++ v.items ∷ []
unfolding cells_of
cells_of-push cells v = map-append (λ v. v.items) cells (v ∷ [])

pub cells_of-nil : {A : Type 0} → cells_of {A = A} [] ≡ []
unfolding cells_of
cells_of-nil = refl

pub locals-none : (p : Program) (args : List Value) → locals_with p args [] ≡ []
locals-none p [] = refl
locals-none p (v ∷ args) = refl

pub locals-more : (p : Program) (args : List Value) (locals : List Named) (i : ℕ) (d : Named) → i < length locals →
    locals_with p args (take (suc i) locals) ≡ locals_with p args (take i locals) ++ local_with p.structures (slice_get args i) (get_or locals i d).1 ∷ []
locals-more p args [] i d h = absurd (omega (arith, h))
locals-more p [] (l ∷ locals) zero d h = refl
locals-more p (v ∷ args) (l ∷ locals) zero d h = refl
locals-more p [] (l ∷ locals) (suc i) d h = ap (λ rest. local_with p.structures None l.1 ∷ rest) (locals-more p [] locals i d (omega (arith, h)))
locals-more p (v ∷ args) (l ∷ locals) (suc i) d h = ap (λ rest. local_with p.structures (Some v) l.1 ∷ rest) (locals-more p args locals i d (omega (arith, h)))

-- nothing stands behind the body of a function, and nothing around it
pub body-close : (body all : List Stmt) → all ≡ body → close (all ++ []) 0 (levels_of []) ≡ close body 0 []
body-close body all h = ap (λ list. close list 0 (levels_of [])) (append-nil all ∙ h) ∙ ap (close body 0) levels_of-nil

pub ruleset of_counts = (count-known)

pub ruleset of_repeats = (one-more)

pub ruleset of_locals = (cells_of-nil, cells_of-push, locals-none, locals-more)

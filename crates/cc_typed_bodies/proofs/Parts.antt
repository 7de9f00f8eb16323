-- What is found in a scope of its own, and one line more behind others.
use Rattle.std.proofs.Common.{◌≡◌, ◌∙◌, List, ◌++◌, Result, Ok, Err, ap, sym}
use Rattle.cc_program.specs.declared.stmt.Stmt.{Stmt}
use Rattle.cc_scopes.specs.Outcomes.{Gives}
use Rattle.cc_scopes.specs.State.{State, empty, entered, left}
use Rattle.cc_scopes.specs.Verdicts.{Found, and_then}
use Rattle.cc_scopes.specs.declared.verdict.Stop.{Stop}
use Rattle.cc_scopes.specs.declared.verdict.Stop.TheVariants as stop
use Rattle.cc_tree.specs.declared.at.At.{At}
use Rattle.cc_typed_bodies.specs.Meanings.{LineMeaning, scoped, line_found}
use Rattle.cc_typed_statements.specs.declared.jumps.Jumps.{Jumps}

pub scoped-gives : {A B : Type 0} (view : A → B) (r : Result A Stop) (inner : State → Found B) (s t u v : State) →
    t ≡ entered empty s → Gives view r u (inner t) → v ≡ left u → Gives view r v (scoped inner s)
unfolding scoped
scoped-gives view (Ok x) inner s t u v enters found leaves =
    ap (λ t. and_then (inner t) (λ x s. Ok (x, left s))) (sym enters) ∙ ap (λ m. and_then m (λ x s. Ok (x, left s))) found ∙ ap (λ v. Ok (view x, v)) (sym leaves)
scoped-gives view (Err (stop.Broken fault)) inner s t u v enters found leaves =
    ap (λ t. and_then (inner t) (λ x s. Ok (x, left s))) (sym enters) ∙ ap (λ m. and_then m (λ x s. Ok (x, left s))) found
scoped-gives view (Err stop.NoMemory) inner s t u v enters found leaves = tt

pub line-more : (j : Jumps) (l : At LineMeaning) (before more after : List Stmt) (s t : State) →
    l.node.line j l.at s ≡ Ok (more, t) → after ≡ before ++ more → line_found j l before s ≡ Ok (after, t)
line-more j l before more after s t found is = ap (λ m. and_then m (λ ss s. Ok (before ++ ss, s))) found ∙ ap (λ ss. Ok (ss, t)) (sym is)

pub line-stops : (j : Jumps) (l : At LineMeaning) (before : List Stmt) (s t : State) (why : Stop) →
    Gives {A = List Stmt} (λ ss. ss) (Err why) t (l.node.line j l.at s) → Gives {A = List Stmt} (λ ss. ss) (Err why) t (line_found j l before s)
line-stops j l before s t (stop.Broken fault) found = ap (λ m. and_then m (λ ss s. Ok (before ++ ss, s))) found
line-stops j l before s t stop.NoMemory found = tt

pub ruleset of_scopes = (scoped-gives)

pub ruleset of_lines = (line-more, line-stops)

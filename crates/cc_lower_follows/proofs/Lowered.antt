-- The lowered program follows its source and answers it.
use Rattle.std.proofs.Common.{◌≡◌, ℕ, zero, suc, Bool, true, false, ◌&&◌, List, [], ◌∷◌, Some, slice_get, refl, subst}
use Rattle.std.specs.List.{list_all}
use Rattle.std.proofs.lemmas.List.{append-nil}
use Rattle.cc_program.specs.declared.func.Func.{Func}
use Rattle.cc_program.specs.declared.program.Program.{Program}
use Rattle.cc_program.specs.declared.stmt.Stmt.{Stmt}
use Rattle.cc_steps.specs.Runs.{Follows, Answers}
use Rattle.cc_meaning_simulations.specs.Continuations.{resume}
use Rattle.cc_meaning_simulations.specs.Locksteps.{ControlConverges}
use Rattle.cc_meaning_simulations.specs.Transitions.{control_at, jump_to}
use Rattle.cc_meaning_simulations.proofs.Locksteps as lock
use Rattle.cc_lower_statements.specs.Statements.{lower_list, lower_body, lower_program}
use Rattle.cc_lower_follows.specs.Fit.{are_fit, IsFit}
use Rattle.cc_lower_follows.proofs.Converging.{resumes_alike}
use Rattle.cc_lower_follows.proofs.Relation.{Match}
use Rattle.cc_lower_follows.proofs.Steps.{alike, boundary}

is_func_fit : (funcs : List Func) (i : ℕ) (f : Func) → list_all (λ f. are_fit false f.body) funcs ≡ true → slice_get funcs i ≡ Some f → are_fit false f.body ≡ true
is_func_fit [] i f h e = absurd (cc)
is_func_fit (g ∷ funcs) zero f h e = let x : g ≡ f = cc in subst (λ (f : Func). are_fit false f.body ≡ true) x (both_left (are_fit false g.body) _ h)
  where
    both_left : (a b : Bool) → (a && b) ≡ true → a ≡ true
    both_left true b h = refl
    both_left false b h = absurd (cc)
is_func_fit (g ∷ funcs) (suc i) f h e = is_func_fit funcs i f (both_right (are_fit false g.body) _ h) e
  where
    both_right : (a b : Bool) → (a && b) ≡ true → b ≡ true
    both_right true b h = h
    both_right false b h = absurd (cc)

module _ (P : Program) (all_fit : IsFit P) where
  begins : (number id : ℕ) (f : Func) → slice_get P.funcs id ≡ Some f →
      ControlConverges (lower_program P) P (Match P) (jump_to (lower_program P) (control_at number id) (resume (lower_body f) [])) (jump_to P (control_at number id) (resume f.body []))
  begins number id f e =
      subst (λ (l : List Stmt). ControlConverges (lower_program P) P (Match P) (jump_to (lower_program P) (control_at number id) (resume l [])) (jump_to P (control_at number id) (resume f.body []))) (append-nil (lower_list f.body []))
      (resumes_alike P number id f e [] f.body tt (is_func_fit P.funcs id f all_fit e)).0

  module _ (main : Func) (there : slice_get P.funcs P.main ≡ Some main) where
    pub follows : Follows (lower_program P) P
    follows = lock.follows lower_body P (Match P) begins (λ q p m h k. alike P q p m) (boundary P) main there

    pub answers : Answers (lower_program P) P
    answers = lock.answers lower_body P (Match P) begins (λ q p m h k. alike P q p m) (boundary P) main there

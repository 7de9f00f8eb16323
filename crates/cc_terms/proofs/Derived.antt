-- What breaks no rule by itself: want of memory alone stops it.
use Rattle.std.proofs.Common.{ℕ, Result, Ok}
use Rattle.cc_typed_terms.specs.CcOperands.Verdicts.{Judges}
use Rattle.cc_typed_terms.specs.CcOperands.declared.verdict.Breach.{Breach}
use Rattle.cc_scopes.proofs.Outcomes.{judged-gives}
use Rattle.cc_scopes.specs.Outcomes.{Gives, stopped}
use Rattle.cc_scopes.specs.State.{State}

pub made-gives : {A B : Type 0} (view : A → B) (r : Result A Breach) (x : B) (at : ℕ) (s : State) → Judges view r (Ok x) → Gives view (stopped at r) s (Ok (x, s))
made-gives view r x at s h = judged-gives view r (Ok x) at s h

pub ruleset of_derived = (made-gives)

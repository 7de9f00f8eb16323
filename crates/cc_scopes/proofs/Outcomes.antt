-- What a construct breaks itself, at its place.
use Rattle.std.proofs.Common.{ℕ, Result, Ok, Err, ap}
use Rattle.cc_operands.specs.Verdicts.{Judged, Judges}
use Rattle.cc_operands.specs.declared.verdict.Breach.{Breach}
use Rattle.cc_operands.specs.declared.verdict.Breach.TheVariants as breach
use Rattle.cc_scopes.specs.Outcomes.{Gives, stopped}
use Rattle.cc_scopes.specs.State.{State}
use Rattle.cc_scopes.specs.Verdicts.{whole}

pub judged-gives : {A B : Type 0} (view : A → B) (r : Result A Breach) (j : Judged B) (at : ℕ) (s : State) → Judges view r j → Gives view (stopped at r) s (whole at s j)
judged-gives view (Ok x) j at s h = ap (whole at s) h
judged-gives view (Err (breach.Breaks rule)) j at s h = ap (whole at s) h
judged-gives view (Err breach.NoMemory) j at s h = tt

pub ruleset of_outcomes = (judged-gives)

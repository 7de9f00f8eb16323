-- What is judged of several constructs, each at its place.
use Rattle.std.proofs.Common.{Result, Ok, Err, ap}
use Rattle.cc_scopes.specs.Outcomes.{Gives}
use Rattle.cc_scopes.specs.State.{State}
use Rattle.cc_specifiers.specs.Places.{JudgedAt, JudgesAt}
use Rattle.cc_specifiers.specs.declared.fault.BreachAt.{BreachAt}
use Rattle.cc_specifiers.specs.declared.fault.BreachAt.TheVariants as there
use Rattle.cc_typed_terms.specs.Located.{located, stopped_there}

pub judged-there : {A B : Type 0} (view : A → B) (r : Result A BreachAt) (j : JudgedAt B) (s : State) → JudgesAt view r j → Gives view (stopped_there r) s (located s j)
judged-there view (Ok x) j s h = ap (located s) h
judged-there view (Err (there.Breaks at rule)) j s h = ap (located s) h
judged-there view (Err there.NoMemory) j s h = tt

pub ruleset of_placed = (judged-there)

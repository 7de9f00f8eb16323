-- What is judged of several constructs, each at its place.
use Rattle.std.specs.Prelude.{Result, Ok, Err}
use Rattle.cc_scopes.specs.State.{State}
use Rattle.cc_scopes.specs.Verdicts.{Found}
use Rattle.cc_scopes.specs.declared.verdict.Stop.{Stop}
use Rattle.cc_scopes.specs.declared.verdict.Stop.TheVariants as stop
use Rattle.cc_specifiers.specs.Places.{JudgedAt}
use Rattle.cc_specifiers.specs.declared.fault.BreachAt.{BreachAt}
use Rattle.cc_specifiers.specs.declared.fault.BreachAt.TheVariants as there

-- it declares nothing
abbrev pub located : {A : Type 0} → State → JudgedAt A → Found A
located s (Ok x) = Ok (x, s)
located s (Err broken) = Err (record { rule = broken.node; at = broken.at })

-- what the code answers of it
abbrev pub stopped_there : {A : Type 0} → Result A BreachAt → Result A Stop
stopped_there (Ok x) = Ok x
stopped_there (Err (there.Breaks at rule)) = Err (stop.Broken (record { rule = rule; at = at }))
stopped_there (Err there.NoMemory) = Err stop.NoMemory

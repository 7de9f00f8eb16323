-- What the code answers of a construct, and the state that it leaves; want of memory says nothing.
use Rattle.std.specs.Prelude.{◌≡◌, ℕ, Result, Ok, Err, ⊤}
use Rattle.cc_operands.specs.declared.verdict.Breach.{Breach}
use Rattle.cc_operands.specs.declared.verdict.Breach.TheVariants as breach
use Rattle.cc_scopes.specs.State.{State}
use Rattle.cc_scopes.specs.Verdicts.{Found}
use Rattle.cc_scopes.specs.declared.verdict.Stop.{Stop}
use Rattle.cc_scopes.specs.declared.verdict.Stop.TheVariants as stop

-- `view` says what the values of the code are
abbrev pub Gives : {A B : Type 0} → (A → B) → Result A Stop → State → Found B → Type 0
Gives view (Ok x) s found = found ≡ Ok (view x, s)
Gives view (Err (stop.Broken fault)) s found = found ≡ Err fault
Gives view (Err stop.NoMemory) s found = ⊤

-- what a construct breaks itself, at its place
abbrev pub stopped : {A : Type 0} → ℕ → Result A Breach → Result A Stop
stopped at (Ok x) = Ok x
stopped at (Err (breach.Breaks rule)) = Err (stop.Broken (record { rule = rule; at = at }))
stopped at (Err breach.NoMemory) = Err stop.NoMemory

-- What a construct is found to be: its meaning, or a rule that it breaks. Which rules a construct breaks whose parts
-- break none is told by its parts alone; where it stands, and what stands in front of it, is added here.
use Rattle.std.specs.Prelude.{ℕ, List, [], ◌∷◌, Option, Some, None, Result, Ok, Err}
use Rattle.cc_tree.specs.declared.at.At.{At}
use Rattle.cc_scopes.specs.State.{State}
use Rattle.cc_scopes.specs.declared.verdict.Fault.{Fault}
use Rattle.cc_operands.specs.Verdicts.{Judged}

-- of a construct with its parts: the whole and what is known behind it, or the first fault
abbrev pub Found : Type 0 → Type 0
Found A = Result (A × State) Fault

-- what is found of a construct that is judged, and gives nothing
abbrev pub Checked : Type 0
Checked = Unit {0}

abbrev pub checked : Checked
checked = tt

-- what a construct means at a place, where this is known
abbrev pub Meaning : Type 0 → Type 0
Meaning A = ℕ → State → Found A

-- the construct itself, which begins at this place
abbrev pub whole : {A : Type 0} → ℕ → State → Judged A → Found A
whole at s (Ok x) = Ok (x, s)
whole at s (Err rule) = Err (record { rule = rule; at = at })

abbrev pub and_then : {A B : Type 0} → Found A → (A → State → Found B) → Found B
and_then (Ok found) next = next found.0 found.1
and_then (Err fault) next = Err fault

-- a part at its place, and then what stands behind it
abbrev pub part : {A B : Type 0} → At (Meaning A) → State → (A → State → Found B) → Found B
part e s next = and_then (e.node e.at s) next

-- parts from left to right
abbrev pub all_found : {A B : Type 0} → (A → State → Found B) → List A → State → Found (List B)
all_found find [] s = Ok ([], s)
all_found find (e ∷ rest) s = and_then (find e s) (λ x s. and_then (all_found find rest s) (λ xs s. Ok (x ∷ xs, s)))

-- a part that may be missing
abbrev pub maybe_found : {A B : Type 0} → (A → State → Found B) → Option A → State → Found (Option B)
maybe_found find None s = Ok (None, s)
maybe_found find (Some e) s = and_then (find e s) (λ x s. Ok (Some x, s))

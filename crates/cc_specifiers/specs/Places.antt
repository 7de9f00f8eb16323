-- What is found of constructs that stand at places of a text: their meaning, or a rule that is broken at one; and what
-- the code answers of it.
use Rattle.std.specs.Prelude.{◌≡◌, ℕ, List, ◌++◌, Result, Ok, Err, ⊤}
use Rattle.cc_operands.specs.Verdicts.{Judged, judge_then}
use Rattle.cc_operands.specs.declared.rule.Rule.{Rule}
use Rattle.cc_operands.specs.declared.verdict.Breach.{Breach}
use Rattle.cc_operands.specs.declared.verdict.Breach.TheVariants as breach
use Rattle.cc_specifiers.specs.declared.fault.BreachAt.{BreachAt}
use Rattle.cc_specifiers.specs.declared.fault.BreachAt.TheVariants as fault
use Rattle.cc_tree.specs.declared.at.At.{At}

-- the meaning, or the rule that is broken first and where
abbrev pub JudgedAt : Type 0 → Type 0
JudgedAt A = Result A (At Rule)

-- of one construct at its place
abbrev pub judged_at : {A : Type 0} → ℕ → Judged A → JudgedAt A
judged_at at (Ok x) = Ok x
judged_at at (Err rule) = Err (record { at = at; node = rule })

-- and then what stands behind it
abbrev pub at_then : {A B : Type 0} → JudgedAt A → (A → JudgedAt B) → JudgedAt B
at_then (Ok x) next = next x
at_then (Err fault) next = Err fault

-- a list whose head is judged already
abbrev pub ahead : {A : Type 0} → List A → Judged (List A) → Judged (List A)
ahead done judged = judge_then judged (λ xs. Ok (done ++ xs))

abbrev pub behind : {A : Type 0} → List A → JudgedAt (List A) → JudgedAt (List A)
behind done judged = at_then judged (λ xs. Ok (done ++ xs))

-- what is found of a construct that is judged, and gives nothing
abbrev pub Checked : Type 0
Checked = Unit {0}

abbrev pub checked : Checked
checked = tt

-- what the code answers of one, at its place
abbrev pub breach_at_of : ℕ → Breach → BreachAt
breach_at_of at (breach.Breaks rule) = fault.Breaks at rule
breach_at_of at breach.NoMemory = fault.NoMemory

-- what the code answers, where `view` says what its values are; want of memory says nothing
abbrev pub JudgesAt : {A B : Type 0} → (A → B) → Result A BreachAt → JudgedAt B → Type 0
JudgesAt view (Ok x) judged = judged ≡ Ok (view x)
JudgesAt view (Err (fault.Breaks at rule)) judged = judged ≡ Err (record { at = at; node = rule })
JudgesAt view (Err fault.NoMemory) judged = ⊤

-- The constraints of a program in order: first what each key is asked to have, then, point by point, what the others ask.
use Rattle.std.specs.Prelude.{ℕ, List, [], ◌∷◌, map}
use Rattle.std.specs.List.{flat_map}
use Rattle.cc_rules_flows.specs.CcFlow.Points.{count_of}
use Rattle.cc_program.specs.declared.program.Program.{Program}
use Rattle.cc_rules_flows.specs.CcRulesNeeds.Flowing.{numbers}

pub data Rule : Type 0 where
  Initial : Rule
  Start : Rule
  Flow : Rule
  Write : Rule
  Touch : Rule
  Call : Rule
  Back : Rule
  Return : Rule
  Handler : Rule
  Stability : Rule

-- as reports have it
abbrev pub rule_number : Rule → ℕ
rule_number Initial = 1
rule_number Start = 2
rule_number Flow = 3
rule_number Write = 4
rule_number Touch = 5
rule_number Call = 6
rule_number Back = 7
rule_number Return = 8
rule_number Handler = 9
rule_number Stability = 10

-- that of the keys has point 0
pub record Constraint : Type 0 where
  pub rule : Rule
  pub point : ℕ

abbrev pub at_point : ℕ → Rule → Constraint
at_point n rule = record { rule = rule; point = n }

abbrev pub rules_at : List Rule
rules_at = Start ∷ Flow ∷ Write ∷ Touch ∷ Call ∷ Back ∷ Return ∷ Handler ∷ Stability ∷ []

abbrev pub constraints : Program → List Constraint
constraints p = at_point 0 Initial ∷ flat_map (λ n. map (at_point n) rules_at) (numbers 0 (count_of p))

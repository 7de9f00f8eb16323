-- What rows say, by their fields, and no row.
use Rattle.std.proofs.Common.{◌≡◌, ℕ, List, [], ◌∷◌, refl, Option, Some, None}
use Rattle.csv.specs.Records.{field_at}
use Rattle.cc_rows.specs.Rows.{Row}
use Rattle.cc_cost.specs.declared.setting.Line.{Line}
use Rattle.cc_cost.specs.declared.setting.Line.TheVariants as line
use Rattle.cc_cost.specs.Keys.{key_of}
use Rattle.cc_cost.specs.Settings.{line_of, says, settings_of}
use Rattle.cc_cost.specs.Rules.{first_from}

-- ---- the fields of a row

abbrev by_fields : Option (List ℕ) → Option (List ℕ) → Option (List ℕ) → Option (List ℕ) → Line
by_fields (Some a) (Some b) (Some c) None = says (key_of a) b c
by_fields (Some a) (Some b) (Some c) (Some d) = line.Breaks 1
by_fields (Some a) (Some b) None d = line.Breaks 1
by_fields (Some a) None c d = line.Breaks 1
by_fields None b c d = line.Breaks 1

pub line-by_fields : (row : Row) → line_of row ≡ by_fields (field_at row 0) (field_at row 1) (field_at row 2) (field_at row 3)
unfolding field_at
line-by_fields [] = refl
line-by_fields (a ∷ []) = refl
line-by_fields (a ∷ b ∷ []) = refl
line-by_fields (a ∷ b ∷ c ∷ []) = refl
line-by_fields (a ∷ b ∷ c ∷ d ∷ rest) = refl

pub ruleset of_lines = (line-by_fields)

-- no row breaks a rule where there is none
pub no-rows : first_from (settings_of []) [] [] ≡ None
unfolding first_from
no-rows = refl

pub ruleset of_text = (no-rows)

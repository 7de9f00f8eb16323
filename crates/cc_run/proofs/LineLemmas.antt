-- What a row gives, by its fields.
use Rattle.std.proofs.Common.{◌≡◌, ℕ, ℤ, List, [], ◌∷◌, refl, Option, Some, None}
use Rattle.csv.specs.Records.{field_at}
use Rattle.cc_rows.specs.Numbers.{signed_in}
use Rattle.cc_rows.specs.Rows.{Row}
use Rattle.cc_run.specs.declared.arrivals.Written.{Written}
use Rattle.cc_run.specs.Inputs.{input_in}
use Rattle.cc_run.specs.Arrivals.{written_in}

abbrev by_one : Option (List ℕ) → Option (List ℕ) → Option ℤ
by_one (Some a) None = signed_in a
by_one (Some a) (Some b) = None
by_one None b = None

pub input-by_fields : (row : Row) → input_in row ≡ by_one (field_at row 0) (field_at row 1)
unfolding field_at
input-by_fields [] = refl
input-by_fields (a ∷ []) = refl
input-by_fields (a ∷ b ∷ rest) = refl

pub ruleset of_inputs = (input-by_fields)

abbrev by_two : Option (List ℕ) → Option (List ℕ) → Option (List ℕ) → Option Written
by_two (Some a) (Some b) None = written_in (a ∷ b ∷ [])
by_two (Some a) (Some b) (Some c) = None
by_two (Some a) None c = None
by_two None b c = None

pub written-by_fields : (row : Row) → written_in row ≡ by_two (field_at row 0) (field_at row 1) (field_at row 2)
unfolding field_at
written-by_fields [] = refl
written-by_fields (a ∷ []) = refl
written-by_fields (a ∷ b ∷ []) = refl
written-by_fields (a ∷ b ∷ c ∷ rest) = refl

pub ruleset of_arrivals = (written-by_fields)

-- Names of temporaries, tried one after the other.
use Rattle.std.specs.Prelude.{ℕ, List, [], ◌∷◌, ◌++◌, codes, if◌then◌else◌}
use Rattle.cc_names.specs.Names.{is_among, with_number}

-- `t__n`
abbrev pub temporary : ℕ → List ℕ
temporary n = with_number (codes "t") n

-- the name with a number behind others, where it is none of these
abbrev pub with_temporary : List (List ℕ) → List (List ℕ) → ℕ → List (List ℕ)
with_temporary names out n = if is_among (temporary n) names then out else out ++ temporary n ∷ []

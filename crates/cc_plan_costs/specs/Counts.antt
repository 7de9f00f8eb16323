-- How often functions run, as a profile says it; and so how often a point does.
use Rattle.std.specs.Prelude.{ℕ, List, [], ◌∷◌, map, bytes_eq, slice_get, unwrap_or, if◌then◌else◌}
use Rattle.std.specs.Option.{option_map_or}
use Rattle.cc_rules_flows.specs.CcFlow.declared.types.Point.{Point}
use Rattle.cc_program.specs.declared.func.Func.{Func}
use Rattle.cc_program.specs.declared.program.Program.{Program}

-- the count that is given for a name: 1 where none is
abbrev pub count_for : List (List ℕ × ℕ) → List ℕ → ℕ
count_for [] name = 1
count_for (given ∷ more) name = if bytes_eq given.0 name then given.1 else count_for more name

-- of each function of a program, by its id
abbrev pub counts_of : List (List ℕ × ℕ) → Program → List ℕ
counts_of given p = map (λ (f : Func). count_for given f.name) p.funcs

module _ (points : List Point) where
  -- the function in which a point stands, by its id
  abbrev pub func_of : ℕ → ℕ
  func_of n = option_map_or (λ (q : Point). q.func) (slice_get points n) 0

  -- how often a point is come to, where functions run so often; once where that is not said
  abbrev pub weight_at : List ℕ → ℕ → ℕ
  weight_at counts n = unwrap_or (slice_get counts (func_of n)) 1

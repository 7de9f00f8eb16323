-- The keys of a profile, and how they are spelled.
use Rattle.std.specs.Prelude.{ℕ, List, [], ◌∷◌, Option, find, codes}
use Rattle.std.specs.Str.{bytes_eq}
use Rattle.cc_cost.specs.declared.key.Key.{Key}
use Rattle.cc_cost.specs.declared.key.Key.TheVariants as key

abbrev pub spelling : Key → List ℕ
spelling key.Int = codes "int"
spelling key.Pointer = codes "pointer"
spelling key.Char = codes "char"
spelling key.Align = codes "align"
spelling key.Atomic = codes "atomic"
spelling key.Handler = codes "handler"
spelling key.Intrinsic = codes "intrinsic"
spelling key.Count = codes "count"
spelling key.Weight = codes "weight"
spelling key.Budget = codes "budget"
spelling key.Level = codes "level"

abbrev pub keys : List Key
keys = key.Int ∷ key.Pointer ∷ key.Char ∷ key.Align ∷ key.Atomic ∷ key.Handler ∷ key.Intrinsic ∷ key.Count ∷ key.Weight
    ∷ key.Budget ∷ key.Level ∷ []

-- the key that is spelled so
unfoldable pub key_of : List ℕ → Option Key
key_of field = find (λ k. bytes_eq field (spelling k)) keys

-- Accesses that are put behind others of the same key, one for each point.
use Rattle.std.specs.Prelude.{◌≡◌, ℕ, ◌-◌, Bool, false, nat_eq, List, [], ◌∷◌, ◌++◌, length, Some, slice_get, slice_index_or, if◌then◌else◌}
use Rattle.std.specs.List.{Contains}
use Rattle.std.specs.Option.{option_map_or}
use Rattle.cc_program.specs.declared.program.Program.{Program}
use Rattle.cc_slots_accesses.specs.declared.access.Access.{Access}
use Rattle.cc_rules_flows.specs.CcStateFacts.declared.facts.Key.{Key}
use Rattle.cc_state_keys.specs.Keys.{key_number}

-- the last one is at a point
abbrev pub ends_at : List Access → ℕ → Bool
ends_at list point = option_map_or (λ (x : Access). nat_eq x.point point) (slice_get list (length list - 1)) false

abbrev pub put_behind : List Access → Access → List Access
put_behind list it = if ends_at list it.point then list else list ++ it ∷ []

-- the accesses of a key, by its number
abbrev pub of_number : List (List Access) → ℕ → List Access
of_number lists n = slice_index_or lists n []

-- an access is put behind those of some keys of a program, and of no others
pub record IsPut (p : Program) (named : List Key) (it : Access) (old new : List (List Access)) : Type 0 where
  pub count : length new ≡ length old
  pub put : (k : Key) (n : ℕ) → key_number p k ≡ Some n → Contains named k → of_number new n ≡ put_behind (of_number old n) it
  pub kept : (k : Key) (n : ℕ) → key_number p k ≡ Some n → (Contains named k → ⊥) → of_number new n ≡ of_number old n

-- Where the structures of a program stand, one by one.
use Rattle.std.specs.Prelude.{◌≡◌, ℕ, List, length, slice_get, Some}
use Rattle.cc_program.specs.declared.program.Program.{Program}
use Rattle.cc_slots_structures.specs.declared.standing.Standing.{Standing}
use Rattle.cc_slots_structures.specs.Copies.{capped, copies_in_ram}
use Rattle.cc_slots_structures.specs.Stands.{is_open, is_automatic}

pub record IsStanding (p : Program) (s : ℕ) (it : Standing) : Type 0 where
  pub copies : it.copies ≡ capped (copies_in_ram p s)
  pub is_open : it.is_open ≡ is_open p s
  pub is_automatic : it.is_automatic ≡ is_automatic p s

-- one for each structure, in their order
pub record AreStandings (p : Program) (list : List Standing) : Type 0 where
  pub count : length list ≡ length p.structures
  pub each : (s : ℕ) (it : Standing) → slice_get list s ≡ Some it → IsStanding p s it

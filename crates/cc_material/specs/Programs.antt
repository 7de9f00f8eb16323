-- The program that sources are, or why they are none, and the limits of programs: 4,096 functions, and 65,536 bytes of RAM.
use Rattle.std.specs.Prelude.{◌≡◌, ◌≤◌, ◌<◌, ℕ, List, [], length, slice_index_or}
use Rattle.std.specs.List.{All}
use Rattle.cc_cost.specs.declared.profile.Profile.{Profile}
use Rattle.cc_layout.specs.Seats.{ram}
use Rattle.cc_program.specs.declared.program.Program.{Program}
use Rattle.cc_read.specs.Refusals.{IsRefused}
use Rattle.cc_read.specs.Texts.{IsLow, Reads}
use Rattle.cc_read.specs.declared.refusal.Refusal.{Refusal}
use Rattle.cc_status.specs.declared.status.Status.{Status}
use Rattle.cc_status.specs.declared.status.Status.TheVariants as status
use Rattle.cc_status.specs.declared.status.What.{What}
use Rattle.cc_status.specs.declared.status.What.TheVariants as what

-- the texts are the program, with the profile's target and roles
pub record IsProgram (profile : Profile) (texts : List (List ℕ)) (p : Program) : Type 0 where
  pub reads : Reads texts profile.target profile.roles p
  pub low : All IsLow texts

-- the status tells why texts of sources of these names are refused, and the name of the one at fault
pub record TellsRefusal (names : List (List ℕ)) (profile : Profile) (texts : List (List ℕ)) (s : Status) : Type 0 where
  pub refusal : Refusal
  pub refused : IsRefused profile.target profile.roles texts refusal
  pub told : s ≡ status.Refused (slice_index_or names refusal.file []) refusal.why

pub record IsWithin (p : Program) : Type 0 where
  pub few : length p.funcs ≤ 4096
  pub small : ram p ≤ 65536

-- the first limit that the program is above, and the number that is above it
pub data IsAbove (p : Program) : What → ℕ → Type 0 where
  ManyFunctions : 4096 < length p.funcs → IsAbove p what.Functions (length p.funcs)
  MuchRam : length p.funcs ≤ 4096 → 65536 < ram p → IsAbove p what.Ram (ram p)

-- From what reading the sources answers to their program, or to why they are none.
use Rattle.std.proofs.Common.{◌≡◌, ℕ, List, []}
use Rattle.std.specs.Prelude.{◌≢◌, slice_index_or}
use Rattle.std.specs.List.{All}
use Rattle.cc_cost.specs.declared.profile.Profile.{Profile}
use Rattle.cc_material.specs.Programs.{IsProgram, TellsRefusal}
use Rattle.cc_program.specs.declared.program.Program.{Program}
use Rattle.cc_read.specs.Refusals.{IsRefused}
use Rattle.cc_read.specs.Texts.{IsLow, Reads}
use Rattle.cc_read.specs.declared.refusal.ReadRefusal.TheVariants as why
use Rattle.cc_read.specs.declared.refusal.Refusal.{Refusal}
use Rattle.cc_status.specs.declared.status.Status.{Status}
use Rattle.cc_status.specs.declared.status.Status.TheVariants as status

module _ (profile : Profile) (texts : List (List ℕ)) where
  pub is-program : (p : Program) → Reads texts profile.target profile.roles p → All IsLow texts → IsProgram profile texts p
  is-program p h low = record { reads = h; low = low }

  pub tells-refusal : (names : List (List ℕ)) (e : Refusal) (s : Status) → (e.why ≢ why.NoMemory → IsRefused profile.target profile.roles texts e) → (s ≢ status.NoMemory → e.why ≢ why.NoMemory) → (s ≢ status.NoMemory → s ≡ status.Refused (slice_index_or names e.file []) e.why) →
      s ≢ status.NoMemory → TellsRefusal names profile texts s
  tells-refusal names e s h w k n = record { refusal = e; refused = h (w n); told = k n }

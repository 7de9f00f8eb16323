-- What packing promises of the files, where they are told.
use Rattle.std.specs.Prelude.{◌≡◌, ◌≤◌, ◌⊎◌, ℕ, Bool, List, [], ◌∷◌, length, Some, IsTrue}
use Rattle.cc_cost.specs.declared.profile.Profile.{Profile}
use Rattle.cc_edge.specs.Files.{Files}
use Rattle.cc_files.specs.Unread.{AreSources}
use Rattle.cc_layout.specs.Seats.{ram}
use Rattle.cc_lower.specs.Lowered.{lowered}
use Rattle.cc_material.specs.Material.{IsProfile}
use Rattle.cc_material.specs.Programs.{IsProgram, IsWithin}
use Rattle.cc_program.specs.CcNum.declared.target.Target.{Target}
use Rattle.cc_packing.specs.Asked.{Asked}
use Rattle.cc_packing.specs.Outputs.{AreWritten, IsOutLeft, IsTableLeft}
use Rattle.cc_print.specs.Printed.{text}
use Rattle.cc_program.specs.declared.program.Program.{Program}
use Rattle.cc_program.specs.declared.program.Roles.{Roles}
use Rattle.cc_read.specs.Texts.{Reads}
use Rattle.cc_states.specs.CcSteps.Runs.{Follows, Answers}
use Rattle.cc_states.specs.CcSyntax.Normal.{IsNormal}
use Rattle.cc_table.specs.Table.{table_text}

-- the program q does what p does, in no more RAM
pub record IsPacked (q p : Program) : Type 0 where
  pub follows : Follows q p
  pub answers : Answers q p
  pub ram : ram q ≤ ram p

-- the program whose text the output is
abbrev pub output_of : Program → Program
output_of p = lowered p

-- the program is one that is packed: it and the text of the output are within the limits
pub record IsPackable (p : Program) : Type 0 where
  pub within : IsWithin p
  pub short : length (text (output_of p)) ≤ 16777216

-- the bytes are the printed text of the program that is written for this one, which is in normal form and packed, and as
-- which they alone read, with this target and these roles; the rows tell the RAM of both
pub record IsPackedText (target : Target) (roles : Roles) (p : Program) (bytes rows : List ℕ) : Type 0 where
  pub normal : IsNormal (output_of p)
  pub printed : bytes ≡ text (output_of p)
  pub reads_back : Reads (bytes ∷ []) target roles (output_of p)
  pub is_packed : IsPacked (output_of p) p
  pub tabled : rows ≡ table_text (ram p) (ram (output_of p))

-- the output and the table of the program that texts are
pub record AreMade (profile : Profile) (texts : List (List ℕ)) (bytes rows : List ℕ) : Type 0 where
  pub read : Program
  pub is_program : IsProgram profile texts read
  pub packable : IsPackable read
  pub output : IsPackedText profile.target profile.roles read bytes rows

-- what is read, as it stands in the files
pub record AreRead (files : Files) (a : Asked) (profile : Profile) (texts : List (List ℕ)) : Type 0 where
  pub profile_is : IsProfile files a.profile profile
  pub sources_are : AreSources files a.sources texts

-- all that packing needs is there: the profile and the sources are read, they are a program, and that is one that is packed
pub record CanBePacked (files : Files) (a : Asked) : Type 0 where
  pub profile : Profile
  pub texts : List (List ℕ)
  pub are_read : AreRead files a profile texts
  pub read : Program
  pub is_program : IsProgram profile texts read
  pub packable : IsPackable read

-- the output and the table that are asked for
pub record AreAsked (files : Files) (a : Asked) (bytes rows : List ℕ) : Type 0 where
  pub profile : Profile
  pub texts : List (List ℕ)
  pub are_read : AreRead files a profile texts
  pub made : AreMade profile texts bytes rows

-- the output does what the sources do, in no more RAM, the table, where it is named, tells the RAM of both, and nothing else
-- has changed
pub record Packs (a : Asked) (old new : Files) : Type 0 where
  pub bytes : List ℕ
  pub rows : List ℕ
  pub asked : AreAsked old a bytes rows
  pub written : AreWritten a.out a.table bytes rows old new

-- the output is as before, or has the first bytes of its text, and nothing else has changed
pub record Leaves (a : Asked) (old new : Files) : Type 0 where
  pub bytes : List ℕ
  pub rows : List ℕ
  pub asked : AreAsked old a bytes rows
  pub left : IsOutLeft a.out bytes old new

-- the output is whole, the table is as before, or has the first bytes of its text, and nothing else has changed
pub record LeavesTable (a : Asked) (table : List ℕ) (old new : Files) : Type 0 where
  pub bytes : List ℕ
  pub rows : List ℕ
  pub asked : AreAsked old a bytes rows
  pub left : IsTableLeft a.out table bytes rows old new

-- the name is that of the file at fault: the output, and then no other file has changed, or else the table, and then
-- the output is whole
abbrev pub IsAtFault : List ℕ → Asked → Bool → Files → Files → Type 0
IsAtFault name a told old new = ((name ≡ a.out) × (IsTrue told → Leaves a old new)) ⊎ ((a.table ≡ Some name) × (IsTrue told → LeavesTable a name old new))

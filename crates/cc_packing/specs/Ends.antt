-- How packing ends where nothing is written: the first cause, in the order in which they are looked for.
use Rattle.std.specs.Prelude.{◌<◌, ℕ, Bool, List, length}
use Rattle.cc_cost.specs.declared.profile.Profile.{Profile}
use Rattle.cc_edge.specs.Files.{Files}
use Rattle.cc_files.specs.Unread.{IsFirstSourceUnread}
use Rattle.cc_files.specs.declared.unread.Unread.{Unread}
use Rattle.cc_material.specs.Material.{IsProfile, ProfileEnds, is_refusal}
use Rattle.cc_material.specs.Programs.{IsAbove, IsProgram, IsWithin, TellsRefusal}
use Rattle.cc_packing.specs.Asked.{Asked}
use Rattle.cc_packing.specs.Headline.{AreRead, output_of}
use Rattle.cc_print.specs.Printed.{text}
use Rattle.cc_program.specs.declared.program.Program.{Program}
use Rattle.cc_status.specs.Statuses.{for_unread, is_over}
use Rattle.cc_status.specs.declared.status.Status.{Status}
use Rattle.cc_status.specs.declared.status.Status.TheVariants as status
use Rattle.cc_status.specs.declared.status.What.{What}
use Rattle.cc_status.specs.declared.status.What.TheVariants as what

-- the profile is not read, and else the first source that is not
pub data FilesEnd (files : Files) (rose : Type 0) (a : Asked) : Status → Type 0 where
  AtProfile : (s : Status) → ProfileEnds files rose a.profile s → FilesEnd files rose a s
  AtSources : (profile : Profile) (u : Unread) → IsProfile files a.profile profile → IsFirstSourceUnread files rose a.sources u → FilesEnd files rose a (for_unread u)

-- the program is not packed: it is above a limit, or the printed text is
pub data ProgramEnds (p : Program) : Status → Type 0 where
  AboveLimit : (w : What) (n : ℕ) → IsAbove p w n → ProgramEnds p (status.Limit w n)
  LongText : IsWithin p → 16777216 < length (text (output_of p)) → ProgramEnds p (status.Limit what.Out (length (text (output_of p))))

-- sources of these names are refused, or their program is not packed
pub data TextsEnd (names : List (List ℕ)) (profile : Profile) (texts : List (List ℕ)) : Status → Type 0 where
  AreRefused : (s : Status) → TellsRefusal names profile texts s → TextsEnd names profile texts s
  NotPacked : (p : Program) (s : Status) → IsProgram profile texts p → ProgramEnds p s → TextsEnd names profile texts s

-- where memory did not run out; where the store's faults have risen, a file may be told not to be read
pub data PackEnds (files : Files) (rose : Type 0) (a : Asked) : Status → Type 0 where
  AtFiles : (s : Status) → FilesEnd files rose a s → PackEnds files rose a s
  AtTexts : (profile : Profile) (texts : List (List ℕ)) (s : Status) → AreRead files a profile texts → TextsEnd a.sources profile texts s → PackEnds files rose a s

-- an answer of packing before anything is written: a number that is told is above its limit
abbrev pub is_pack_refusal : Status → Bool
is_pack_refusal (status.Limit w n) = is_over w n
is_pack_refusal s = is_refusal s

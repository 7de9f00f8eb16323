-- The profile that a command reads, and how the command ends where it is not read.
use Rattle.std.specs.Prelude.{◌≡◌, ◌≤◌, ⊤, ℕ, Bool, true, false, List, [], length, Option, Some, None}
use Rattle.cc_cost.specs.Given.{Gives}
use Rattle.cc_cost.specs.Rules.{first_fault}
use Rattle.cc_cost.specs.declared.fault.ProfileFault.TheVariants as fault
use Rattle.cc_cost.specs.declared.profile.Profile.{Profile}
use Rattle.cc_edge.specs.Files.{Files}
use Rattle.cc_files.specs.Unread.{IsUnread}
use Rattle.cc_files.specs.declared.unread.Unread.{Unread}
use Rattle.cc_read.specs.declared.refusal.ReadRefusal.TheVariants as why
use Rattle.cc_rows.specs.Rows.{Row, rows_of}
use Rattle.cc_status.specs.Statuses.{for_unread}
use Rattle.cc_status.specs.declared.status.Status.{Status}
use Rattle.cc_status.specs.declared.status.Status.TheVariants as status

-- a file of at most so many bytes
pub record IsThere (files : Files) (limit : ℕ) (name text : List ℕ) : Type 0 where
  pub there : files name ≡ Some text
  pub short : length text ≤ limit

-- the default where no profile is named, else what the rows of its file give
pub data IsProfile (files : Files) : Option (List ℕ) → Profile → Type 0 where
  ByDefault : (profile : Profile) → Gives [] profile → IsProfile files None profile
  ByFile : (name text : List ℕ) (profile : Profile) → IsThere files 65536 name text → first_fault (rows_of text) ≡ None → Gives (rows_of text) profile → IsProfile files (Some name) profile

-- the first row that breaks a rule, with the least rule that it breaks, as a status
abbrev pub IsWrongRow : List Row → Status → Type 0
IsWrongRow rows s = (row : ℕ) × (rule : ℕ) × (first_fault rows ≡ Some (row, rule)) × (s ≡ status.Profile (fault.Row row rule))

-- The file of the profile is not read, or a row of it breaks a rule. Where the store's faults have risen, a file may be told
-- not to be read.
pub data ProfileEnds (files : Files) (rose : Type 0) : Option (List ℕ) → Status → Type 0 where
  ProfileUnread : (name : List ℕ) (u : Unread) → IsUnread files rose 65536 name u → ProfileEnds files rose (Some name) (for_unread u)
  ProfileWrong : (name text : List ℕ) (s : Status) → IsThere files 65536 name text → IsWrongRow (rows_of text) s → ProfileEnds files rose (Some name) s

-- what holds of the file that is told not to be read, or to be too long
abbrev pub TellsFile : (List ℕ → Type 0) → (List ℕ → Type 0) → Status → Type 0
TellsFile unread long (status.ReadFault name) = unread name
TellsFile unread long (status.TooLong name) = long name
TellsFile unread long _ = ⊤

-- an answer whose cause is in what is read: a file, the rows of the profile, or the sources; or want of memory, which no other
-- answer tells
abbrev pub is_refusal : Status → Bool
is_refusal status.NoMemory = true
is_refusal (status.ReadFault name) = true
is_refusal (status.TooLong name) = true
is_refusal (status.Refused name why.NoMemory) = false
is_refusal (status.Refused name w) = true
is_refusal (status.Profile fault.NoMemory) = false
is_refusal (status.Profile w) = true
is_refusal s = false

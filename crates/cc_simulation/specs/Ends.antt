-- How a simulation ends where nothing is said: the first cause, in the order in which they are looked for.
use Rattle.std.specs.Prelude.{◌≤◌, ◌<◌, ℕ, ℤ, Bool, true, false, List, map}
use Rattle.cc_cost.specs.declared.profile.Profile.{Profile}
use Rattle.cc_edge.specs.Files.{Files}
use Rattle.cc_files.specs.Unread.{IsUnread, IsFirstSourceUnread}
use Rattle.cc_files.specs.declared.unread.Unread.{Unread}
use Rattle.cc_material.specs.Material.{IsProfile, IsThere, ProfileEnds, is_refusal}
use Rattle.cc_material.specs.Programs.{IsAbove, IsProgram, TellsRefusal}
use Rattle.cc_program.specs.declared.program.Program.{Program}
use Rattle.cc_rows.specs.Rows.{rows_of}
use Rattle.cc_run.specs.Arrivals.{written_in, arrivals_from}
use Rattle.cc_run.specs.Inputs.{input_in}
use Rattle.cc_run.specs.Outcomes.{TellsRow, first_none}
use Rattle.cc_run.specs.declared.fault.RowFault.{RowFault}
use Rattle.cc_run.specs.declared.fault.RowFault.TheVariants as row
use Rattle.cc_simulation.specs.Asked.{Asked}
use Rattle.cc_simulation.specs.Traces.{AreInputs, AreRead, IsRunnable}
use Rattle.cc_status.specs.Statuses.{for_unread, is_over}
use Rattle.cc_status.specs.declared.status.Status.{Status}
use Rattle.cc_status.specs.declared.status.Status.TheVariants as status
use Rattle.cc_status.specs.declared.status.What.{What}
use Rattle.cc_status.specs.declared.status.What.TheVariants as what
use Rattle.cc_states.specs.CcSyntax.Sound.{IsSound}

-- the first file that is not read, in the order of the words; the rows of the profile are judged as soon as it is read
pub data FilesEnd (files : Files) (rose : Type 0) (a : Asked) : Status → Type 0 where
  AtProfile : (s : Status) → ProfileEnds files rose a.profile s → FilesEnd files rose a s
  AtInputs : (profile : Profile) (u : Unread) → IsProfile files a.profile profile → IsUnread files rose 8388608 a.inputs u → FilesEnd files rose a (for_unread u)
  AtArrivals : (profile : Profile) (inputs : List ℕ) (u : Unread) → IsProfile files a.profile profile → IsThere files 8388608 a.inputs inputs → IsUnread files rose 8388608 a.arrivals u →
      FilesEnd files rose a (for_unread u)
  AtSources : (profile : Profile) (inputs arrivals : List ℕ) (u : Unread) → IsProfile files a.profile profile → IsThere files 8388608 a.inputs inputs → IsThere files 8388608 a.arrivals arrivals →
      IsFirstSourceUnread files rose a.sources u → FilesEnd files rose a (for_unread u)

-- the fault tells the first row of the inputs that gives none
abbrev pub TellsInput : List ℕ → RowFault → Type 0
TellsInput text fault = TellsRow (first_none (map input_in (rows_of text))) fault

-- the fault tells the first row of the arrivals that gives none of the program behind those before it
abbrev pub TellsArrival : Program → List ℕ → RowFault → Type 0
TellsArrival p text fault = TellsRow (first_none (arrivals_from p.funcs 0 (map written_in (rows_of text)))) fault

-- a row of the inputs gives none, or else one of the arrivals
pub data RowsEnd (p : Program) (inputs arrivals : List ℕ) : Status → Type 0 where
  WrongInput : (n : ℕ) → TellsInput inputs (row.Row n) → RowsEnd p inputs arrivals (status.Inputs n)
  WrongArrival : (numbers : List ℤ) (n : ℕ) → AreInputs inputs numbers → TellsArrival p arrivals (row.Row n) → RowsEnd p inputs arrivals (status.Arrivals n)

-- the program, which is sound, is not run: it is above a limit, or a row of what it is run over is wrong
pub data ProgramEnds (inputs arrivals : List ℕ) (p : Program) : Status → Type 0 where
  AboveLimit : IsSound p → (w : What) (n : ℕ) → IsAbove p w n → ProgramEnds inputs arrivals p (status.Limit w n)
  WrongRow : IsRunnable p → (s : Status) → RowsEnd p inputs arrivals s → ProgramEnds inputs arrivals p s

-- sources of these names are refused, or their program is not run
pub data SourcesEnd (names : List (List ℕ)) (profile : Profile) (sources : List (List ℕ)) (inputs arrivals : List ℕ) : Status → Type 0 where
  AreRefused : (s : Status) → TellsRefusal names profile sources s → SourcesEnd names profile sources inputs arrivals s
  NotRun : (p : Program) (s : Status) → IsProgram profile sources p → ProgramEnds inputs arrivals p s → SourcesEnd names profile sources inputs arrivals s

-- where memory did not run out; where the store's faults have risen, a file may be told not to be read
pub data RunEnds (files : Files) (rose : Type 0) (a : Asked) : Status → Type 0 where
  ManySteps : 1000000 < a.steps → RunEnds files rose a (status.Limit what.Steps a.steps)
  AtFiles : a.steps ≤ 1000000 → (s : Status) → FilesEnd files rose a s → RunEnds files rose a s
  AtProgram : a.steps ≤ 1000000 → (profile : Profile) (inputs arrivals : List ℕ) (sources : List (List ℕ)) (s : Status) → AreRead files a profile inputs arrivals sources →
      SourcesEnd a.sources profile sources inputs arrivals s → RunEnds files rose a s

-- the status for each fault of the rows; want of memory is always a status of its own
abbrev pub for_inputs : RowFault → Status
for_inputs (row.Row n) = status.Inputs n
for_inputs row.NoMemory = status.NoMemory

abbrev pub for_arrivals : RowFault → Status
for_arrivals (row.Row n) = status.Arrivals n
for_arrivals row.NoMemory = status.NoMemory

-- an answer of so few steps that they are run, where nothing is said: a number that is told is above its limit
abbrev pub is_run_refusal : Status → Bool
is_run_refusal (status.Inputs n) = true
is_run_refusal (status.Arrivals n) = true
is_run_refusal (status.Limit what.Out n) = false
is_run_refusal (status.Limit w n) = is_over w n
is_run_refusal s = is_refusal s

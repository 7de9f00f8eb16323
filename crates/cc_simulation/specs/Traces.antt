-- What a simulation promises of what it says, where the files are told.
use Rattle.std.specs.Prelude.{◌≡◌, ◌≤◌, ◌++◌, ℕ, ℤ, List, map, take, Some}
use Rattle.cc_cost.specs.declared.profile.Profile.{Profile}
use Rattle.cc_edge.specs.Files.{Files}
use Rattle.cc_files.specs.Unread.{AreSources}
use Rattle.cc_material.specs.Material.{IsProfile, IsThere}
use Rattle.cc_material.specs.Programs.{IsProgram, IsWithin}
use Rattle.cc_program.specs.declared.program.Program.{Program}
use Rattle.cc_rows.specs.Rows.{rows_of}
use Rattle.cc_run.specs.Arrivals.{written_in, arrivals_from}
use Rattle.cc_run.specs.Driven.{driven}
use Rattle.cc_run.specs.Inputs.{input_in}
use Rattle.cc_run.specs.Trace.{trace_text}
use Rattle.cc_simulation.specs.Asked.{Asked}
use Rattle.cc_states.specs.CcSyntax.Sound.{IsSound}

-- each row of the text gives an input, and these are they
abbrev pub AreInputs : List ℕ → List ℤ → Type 0
AreInputs text numbers = map Some numbers ≡ map input_in (rows_of text)

-- each row of the text gives an arrival of a handler of the program behind those before it, and these are they
abbrev pub AreArrivals : Program → List ℕ → List (ℕ × ℕ) → Type 0
AreArrivals p text turns = map Some turns ≡ arrivals_from p.funcs 0 (map written_in (rows_of text))

-- the text is the trace of the program over these inputs and arrivals, after so many turns
pub record IsTrace (p : Program) (inputs arrivals : List ℕ) (steps : ℕ) (text : List ℕ) : Type 0 where
  pub numbers : List ℤ
  pub turns : List (ℕ × ℕ)
  pub inputs_are : AreInputs inputs numbers
  pub arrivals_are : AreArrivals p arrivals turns
  pub is : text ≡ trace_text p (driven p numbers turns steps)

-- the program is one that is run: it is sound, as each is that is read, and within the limits
pub record IsRunnable (p : Program) : Type 0 where
  pub sound : IsSound p
  pub within : IsWithin p

-- the text is the trace of the program that the sources are
pub record IsMade (profile : Profile) (sources : List (List ℕ)) (inputs arrivals : List ℕ) (steps : ℕ) (text : List ℕ) : Type 0 where
  pub read : Program
  pub is_program : IsProgram profile sources read
  pub runnable : IsRunnable read
  pub trace : IsTrace read inputs arrivals steps text

-- what is read, as it stands in the files
pub record AreRead (files : Files) (a : Asked) (profile : Profile) (inputs arrivals : List ℕ) (sources : List (List ℕ)) : Type 0 where
  pub profile_is : IsProfile files a.profile profile
  pub inputs_are : IsThere files 8388608 a.inputs inputs
  pub arrivals_are : IsThere files 8388608 a.arrivals arrivals
  pub sources_are : AreSources files a.sources sources

-- the trace that is asked for
pub record IsAsked (files : Files) (a : Asked) (text : List ℕ) : Type 0 where
  pub few : a.steps ≤ 1000000
  pub profile : Profile
  pub inputs : List ℕ
  pub arrivals : List ℕ
  pub sources : List (List ℕ)
  pub are_read : AreRead files a profile inputs arrivals sources
  pub made : IsMade profile sources inputs arrivals a.steps text

-- the trace that is asked for was said
pub record Says (a : Asked) (files : Files) (old new : List ℕ) : Type 0 where
  pub text : List ℕ
  pub asked : IsAsked files a text
  pub said : new ≡ old ++ text

-- the first bytes of the trace that is asked for were said
pub record SaysFront (a : Asked) (files : Files) (old new : List ℕ) : Type 0 where
  pub text : List ℕ
  pub asked : IsAsked files a text
  pub count : ℕ
  pub said : new ≡ old ++ take count text

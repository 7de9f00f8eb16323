-- From what the parts answer of a program and its rows to its trace, or to why there is none.
use Rattle.std.proofs.Common.{◌≡◌, ◌∙◌, ℕ, ℤ, true, List, Result, Ok, Err, IfOk, IfErr, refl, ap}
use Rattle.std.specs.Prelude.{◌≢◌, Vec}
use Rattle.std.specs.declared.alloc.Global.{Global}
use Rattle.cc_cost.specs.declared.profile.Profile.{Profile}
use Rattle.cc_material.proofs.LimitLaws.{above-over}
use Rattle.cc_material.specs.Material.{TellsFile, is_refusal}
use Rattle.cc_material.specs.Programs.{IsAbove, IsProgram, ManyFunctions, MuchRam, IsWithin}
use Rattle.cc_program.specs.declared.program.Program.{Program}
use Rattle.cc_run.specs.Driven.{driven}
use Rattle.cc_run.specs.Trace.{trace_text}
use Rattle.cc_run.specs.declared.fault.RowFault.{RowFault}
use Rattle.cc_run.specs.declared.fault.RowFault.TheVariants as row
use Rattle.cc_simulation.specs.Ends.{TellsInput, TellsArrival, RowsEnd, WrongInput, WrongArrival, ProgramEnds, AboveLimit, WrongRow, SourcesEnd, NotRun, for_inputs, for_arrivals, is_run_refusal}
use Rattle.cc_simulation.specs.Traces.{AreInputs, AreArrivals, IsTrace, IsRunnable, IsMade}
use Rattle.cc_status.specs.declared.status.Status.{Status}
use Rattle.cc_status.specs.declared.status.Status.TheVariants as status
use Rattle.cc_status.specs.declared.status.What.{What}
use Rattle.cc_status.specs.declared.status.What.TheVariants as what
use Rattle.cc_states.proofs.CcSyntax.StructureLemmas.{sound_sizes}
use Rattle.cc_states.specs.CcSyntax.Layout.{HasSizes}
use Rattle.cc_states.specs.CcSyntax.Sound.{IsSound}

-- ---- rows

pub inputs-told : (p : Program) (inputs arrivals : List ℕ) (f : RowFault) → TellsInput inputs f → for_inputs f ≢ status.NoMemory → RowsEnd p inputs arrivals (for_inputs f)
inputs-told p inputs arrivals (row.Row n) h k = WrongInput n h
inputs-told p inputs arrivals row.NoMemory h k = absurd (k refl)

pub arrivals-told : (p : Program) (inputs arrivals : List ℕ) (numbers : List ℤ) (f : RowFault) → AreInputs inputs numbers → TellsArrival p arrivals f → for_arrivals f ≢ status.NoMemory → RowsEnd p inputs arrivals (for_arrivals f)
arrivals-told p inputs arrivals numbers (row.Row n) i h k = WrongArrival numbers n i h
arrivals-told p inputs arrivals numbers row.NoMemory i h k = absurd (k refl)

pub inputs-refusal : (f : RowFault) → is_run_refusal (for_inputs f) ≡ true
inputs-refusal (row.Row n) = refl
inputs-refusal row.NoMemory = refl

pub arrivals-refusal : (f : RowFault) → is_run_refusal (for_arrivals f) ≡ true
arrivals-refusal (row.Row n) = refl
arrivals-refusal row.NoMemory = refl

pub inputs-no-file : (P Q : List ℕ → Type 0) (f : RowFault) → TellsFile P Q (for_inputs f)
inputs-no-file P Q (row.Row n) = tt
inputs-no-file P Q row.NoMemory = tt

pub arrivals-no-file : (P Q : List ℕ → Type 0) (f : RowFault) → TellsFile P Q (for_arrivals f)
arrivals-no-file P Q (row.Row n) = tt
arrivals-no-file P Q row.NoMemory = tt

pub is-trace : (p : Program) (inputs arrivals : List ℕ) (steps : ℕ) (numbers : List ℤ) (turns given : List (ℕ × ℕ)) (text : List ℕ) → AreInputs inputs numbers → AreArrivals p arrivals turns → given ≡ turns →
    text ≡ trace_text p (driven p numbers given steps) → IsTrace p inputs arrivals steps text
is-trace p inputs arrivals steps numbers turns given text i a e h =
    record { numbers = numbers; turns = turns; inputs_are = i; arrivals_are = a; is = h ∙ ap (λ ts. trace_text p (driven p numbers ts steps)) e }

-- ---- programs

pub sizes : (p : Program) → IsSound p → HasSizes p
sizes p h = sound_sizes p h

module _ (inputs arrivals : List ℕ) (p : Program) (sound : IsSound p) where
  pub above-limit : (w : What) (n : ℕ) → IsAbove p w n → ProgramEnds inputs arrivals p (status.Limit w n)
  above-limit w n h = AboveLimit sound w n h

  module _ (within : IsWithin p) (r : Result (Vec ℕ Global) Status) where
    pub is-runnable : IfOk r (λ _. IsRunnable p)
    is-runnable = by_cases r
      where
        by_cases : (r : Result (Vec ℕ Global) Status) → IfOk r (λ _. IsRunnable p)
        by_cases (Ok t) = record { sound = sound; within = within }
        by_cases (Err s) = tt

    pub rows-end : IfErr r (λ s. s ≢ status.NoMemory → RowsEnd p inputs arrivals s) → IfErr r (λ s. s ≢ status.NoMemory → ProgramEnds inputs arrivals p s)
    rows-end h = by_cases r h
      where
        by_cases : (r : Result (Vec ℕ Global) Status) → IfErr r (λ s. s ≢ status.NoMemory → RowsEnd p inputs arrivals s) → IfErr r (λ s. s ≢ status.NoMemory → ProgramEnds inputs arrivals p s)
        by_cases (Ok t) h = tt
        by_cases (Err s) h = λ n. WrongRow (record { sound = sound; within = within }) s (h n)

pub above-refusal : (p : Program) (w : What) (n : ℕ) → IsAbove p w n → is_run_refusal (status.Limit w n) ≡ true
above-refusal p _ _ (ManyFunctions h) = above-over p what.Functions _ (ManyFunctions h)
above-refusal p _ _ (MuchRam few h) = above-over p what.Ram _ (MuchRam few h)

-- ---- sources

-- what refuses before a program is read refuses a run
pub run-refusal : (s : Status) → is_refusal s ≡ true → is_run_refusal s ≡ true
run-refusal status.Done h = h
run-refusal (status.Usage word) h = h
run-refusal (status.ReadFault name) h = h
run-refusal (status.TooLong name) h = h
run-refusal (status.Refused name w) h = h
run-refusal (status.Profile e) h = h
run-refusal (status.Inputs n) h = refl
run-refusal (status.Arrivals n) h = refl
run-refusal (status.Limit w n) h = absurd (cc)
run-refusal (status.WriteFault name) h = h
run-refusal status.NoMemory h = h

module _ (profile : Profile) (sources : List (List ℕ)) (inputs arrivals : List ℕ) (p : Program) (h : IsProgram profile sources p) where
  pub is-made : (steps : ℕ) (r : Result (Vec ℕ Global) Status) → IfOk r (λ _. IsRunnable p) → IfOk r (λ t. IsTrace p inputs arrivals steps t.items) → IfOk r (λ t. IsMade profile sources inputs arrivals steps t.items)
  is-made steps (Ok t) k o = record { read = p; is_program = h; runnable = k; trace = o }
  is-made steps (Err s) k o = tt

  pub not-run : (names : List (List ℕ)) (r : Result (Vec ℕ Global) Status) → IfErr r (λ s. s ≢ status.NoMemory → ProgramEnds inputs arrivals p s) → IfErr r (λ s. s ≢ status.NoMemory → SourcesEnd names profile sources inputs arrivals s)
  not-run names (Ok t) e = tt
  not-run names (Err s) e = λ n. NotRun p s h (e n)

pub ruleset of_rows = (inputs-told, arrivals-told, inputs-refusal, arrivals-refusal, inputs-no-file, arrivals-no-file, is-trace)

pub ruleset of_programs = (sizes, above-limit, is-runnable, rows-end, above-refusal)

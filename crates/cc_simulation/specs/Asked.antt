-- What a simulation is asked for: the files of its profile, if one is named, of its inputs, of its arrivals and of its sources,
-- and how many steps there are at the most.
use Rattle.std.specs.Prelude.{◌≡◌, ◌≤◌, ◌⊎◌, ℕ, List, Option, Some, option_map}
use Rattle.std.specs.List.{Contains}
use Rattle.cc_edge.specs.Faults.{raised}
use Rattle.cc_files.specs.Unread.{names_of}
use Rattle.cc_material.specs.Material.{TellsFile}
use Rattle.cc_simulation.specs.declared.simulation.Simulation.{Simulation}
use Rattle.cc_status.specs.declared.status.Status.{Status}

pub record Asked : Type 0 where
  pub profile : Option (List ℕ)
  pub inputs : List ℕ
  pub arrivals : List ℕ
  pub steps : ℕ
  pub sources : List (List ℕ)

abbrev pub asked_of : Simulation → Asked
asked_of s = record { profile = option_map (λ n. n.now) s.profile; inputs = s.inputs.now; arrivals = s.arrivals.now; steps = s.steps; sources = names_of s.sources.now }

-- the file is read
abbrev pub IsRead : Asked → List ℕ → Type 0
IsRead a name = (a.profile ≡ Some name) ⊎ ((name ≡ a.inputs) ⊎ ((name ≡ a.arrivals) ⊎ Contains a.sources name))

-- the file has given more bytes than its kind may have, where the count of bytes that were taken was `before` and is `now`
abbrev pub IsOver : Asked → ℕ → ℕ → List ℕ → Type 0
IsOver a before now name =
    ((a.profile ≡ Some name) × (raised 65537 before ≤ now))
    ⊎ ((((name ≡ a.inputs) ⊎ (name ≡ a.arrivals)) × (raised 8388609 before ≤ now))
    ⊎ (Contains a.sources name × (raised 1048577 before ≤ now)))

-- what a fault of reading tells where the files are not told
abbrev pub IsUntold : Asked → Type 0 → ℕ → ℕ → Status → Type 0
IsUntold a rose before now s = TellsFile (λ name. IsRead a name × rose) (IsOver a before now) s

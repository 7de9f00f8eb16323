-- What packing is asked for: the files of its profile, if one is named, of its output, of its table, if one is named, and of
-- its sources.
use Rattle.std.specs.Prelude.{◌≢◌, ◌≤◌, ◌≡◌, ◌⊎◌, ℕ, List, Option, Some, IfSome, option_map}
use Rattle.std.specs.List.{Contains}
use Rattle.cc_edge.specs.Faults.{raised}
use Rattle.cc_files.specs.Unread.{names_of}
use Rattle.cc_material.specs.Material.{TellsFile}
use Rattle.cc_packing.specs.declared.packing.Packing.{Packing}
use Rattle.cc_status.specs.declared.status.Status.{Status}

pub record Asked : Type 0 where
  pub profile : Option (List ℕ)
  pub out : List ℕ
  pub table : Option (List ℕ)
  pub sources : List (List ℕ)

abbrev pub asked_of : Packing → Asked
asked_of p = record { profile = option_map (λ n. n.now) p.profile; out = p.out.now; table = option_map (λ n. n.now) p.table; sources = names_of p.sources.now }

-- a table has another name than the output
abbrev pub IsApart : List ℕ → Option (List ℕ) → Type 0
IsApart out table = IfSome table (λ name. name ≢ out)

-- the file is read
abbrev pub IsRead : Asked → List ℕ → Type 0
IsRead a name = (a.profile ≡ Some name) ⊎ Contains a.sources name

-- the file has given more bytes than its kind may have, where the count of bytes that were taken was `before` and is `now`
abbrev pub IsOver : Asked → ℕ → ℕ → List ℕ → Type 0
IsOver a before now name = ((a.profile ≡ Some name) × (raised 65537 before ≤ now)) ⊎ (Contains a.sources name × (raised 1048577 before ≤ now))

-- what a fault of reading tells where the files are not told
abbrev pub IsUntold : Asked → Type 0 → ℕ → ℕ → Status → Type 0
IsUntold a rose before now s = TellsFile (λ name. IsRead a name × rose) (IsOver a before now) s

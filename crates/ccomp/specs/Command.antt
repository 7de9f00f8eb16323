-- The words of a command: pack PROFILE OUT TABLE CERT SOURCE.., where `-` stands for no PROFILE and no CERT, and may stand for
-- no TABLE, there are 1 to 64 sources, OUT is not `-`, and TABLE is not OUT; or run PROFILE INPUTS ARRIVALS STEPS SOURCE.., where
-- `-` stands for no PROFILE, and there are 1 to 64 sources; or make SEED COUNT.
use Rattle.std.specs.Prelude.{◌≡◌, ◌≢◌, ◌≤◌, ◌<◌, ℕ, Bool, true, false, List, [], ◌∷◌, length, map, nat_le, Option, Some, None, IfSome, String, string_bytes, codes, nat_eq, not, ◌&&◌, if◌then◌else◌}
use Rattle.std.specs.Cmp.Lexicographic.{pointwise}
use Rattle.std.specs.declared.alloc.Global.{Global}
use Rattle.cc_packing.specs.Asked.{Asked as Packed, asked_of as packed_of}
use Rattle.cc_simulation.specs.Asked.{Asked as Simulated, asked_of as simulated_of}
use Rattle.cc_status.specs.declared.status.What.{What}
use Rattle.cc_status.specs.declared.status.What.TheVariants as what
use Rattle.ccomp.specs.declared.command.Asked.{Asked}
use Rattle.ccomp.specs.declared.command.Asked.TheVariants as asked
use Rattle.ccomp.specs.Make.{seed_of, count_of, steps_of}

abbrev pub texts : List (String Global) → List (List ℕ)
texts words = map string_bytes words

-- what words ask for, or the word for which they are no command: to rewrite sources into an output; or to say the trace of a
-- run; or to say the source of so many counters, drawn from a seed
pub data Command : Type 0 where
  Pack : Packed → Command
  Run : Simulated → Command
  Make : ℕ → ℕ → Command
  Wrong : List ℕ → Command

abbrev pub is_dash : List ℕ → Bool
is_dash word = pointwise nat_eq word (codes "-")

abbrev pub is_pack : List ℕ → Bool
is_pack word = pointwise nat_eq word (codes "pack")

abbrev pub is_run : List ℕ → Bool
is_run word = pointwise nat_eq word (codes "run")

abbrev pub is_make : List ℕ → Bool
is_make word = pointwise nat_eq word (codes "make")

-- no name where the word is `-`
abbrev pub named : List ℕ → Option (List ℕ)
named word = if is_dash word then None else Some word

-- a CERT that is not `-`, else an OUT that is `-`, else an OUT that is TABLE too
abbrev pub pack_asked : List ℕ → List ℕ → List ℕ → List ℕ → List (List ℕ) → Command
pack_asked profile out table certificate sources =
    if not (is_dash certificate) then Wrong certificate
    else if is_dash out then Wrong out
    else if pointwise nat_eq table out then Wrong out
    else Pack (record { profile = named profile; out = out; table = named table; sources = sources })

-- the steps, or the word that writes no number of them
abbrev pub run_with : List ℕ → List ℕ → List ℕ → List ℕ → List (List ℕ) → Option ℕ → Command
run_with profile inputs arrivals steps sources None = Wrong steps
run_with profile inputs arrivals steps sources (Some n) = Run (record { profile = named profile; inputs = inputs; arrivals = arrivals; steps = n; sources = sources })

abbrev pub run_asked : List ℕ → List ℕ → List ℕ → List ℕ → List (List ℕ) → Command
run_asked profile inputs arrivals steps sources = run_with profile inputs arrivals steps sources (steps_of steps)

-- the seed and the count, or the first word that writes none
abbrev pub make_with : List ℕ → List ℕ → Option ℕ → Option ℕ → Command
make_with seed count None m = Wrong seed
make_with seed count (Some n) None = Wrong count
make_with seed count (Some n) (Some m) = Make n m

abbrev pub make_asked : List ℕ → List ℕ → Command
make_asked seed count = make_with seed count (seed_of seed) (count_of count)

abbrev pub may_be_sources : List (List ℕ) → Bool
may_be_sources names = nat_le 1 (length names) && nat_le (length names) 64

-- `pack` and `run` have four words and their sources behind them, and `make` two words
abbrev pub pack_of : List ℕ → List (List ℕ) → Command
pack_of command (profile ∷ out ∷ table ∷ certificate ∷ sources) = if may_be_sources sources then pack_asked profile out table certificate sources else Wrong command
pack_of command rest = Wrong command

abbrev pub run_of : List ℕ → List (List ℕ) → Command
run_of command (profile ∷ inputs ∷ arrivals ∷ steps ∷ sources) = if may_be_sources sources then run_asked profile inputs arrivals steps sources else Wrong command
run_of command rest = Wrong command

abbrev pub make_of : List ℕ → List (List ℕ) → Command
make_of command (seed ∷ count ∷ []) = make_asked seed count
make_of command rest = Wrong command

-- the command word is wrong where it is none of them, and where another number of words is behind it
abbrev pub command_of : List (List ℕ) → Command
command_of [] = Wrong []
command_of (command ∷ rest) = if is_pack command then pack_of command rest else if is_run command then run_of command rest else if is_make command then make_of command rest else Wrong command

abbrev pub asked_of : Asked → Command
asked_of (asked.Pack packing) = Pack (packed_of packing)
asked_of (asked.Run simulation) = Run (simulated_of simulation)
asked_of (asked.Make seed count) = Make seed count
asked_of (asked.Wrong word) = Wrong word.now

-- the command is `pack`, `run` or `make`, and of what it asks for this holds
abbrev pub ForEach : Command → (Packed → Type 0) → (Simulated → Type 0) → (ℕ → ℕ → Type 0) → Type 0
ForEach (Pack a) P Q R = P a
ForEach (Run a) P Q R = Q a
ForEach (Make seed count) P Q R = R seed count
ForEach (Wrong word) P Q R = ⊥

-- the command is one on files, and of what it asks for this holds
abbrev pub ForFiles : Command → (Packed → Type 0) → (Simulated → Type 0) → Type 0
ForFiles command P Q = ForEach command P Q (λ seed count. ⊥)

-- the command says something
abbrev pub says : Command → Bool
says (Pack a) = false
says (Run a) = true
says (Make seed count) = true
says (Wrong word) = false

-- what packing asks for: a table of another name than the output, and 1 to 64 sources
pub record IsPacking (a : Packed) : Type 0 where
  pub apart : IfSome a.table (λ name. name ≢ a.out)
  pub some : 1 ≤ length a.sources
  pub few : length a.sources ≤ 64

-- what a run asks for: 1 to 64 sources
pub record IsRun (a : Simulated) : Type 0 where
  pub some : 1 ≤ length a.sources
  pub few : length a.sources ≤ 64

-- what words ask for: what may be packed or run, and a count that is not 0
abbrev pub IsMeant : Command → Type 0
IsMeant (Pack a) = IsPacking a
IsMeant (Run a) = IsRun a
IsMeant (Make seed count) = 1 ≤ count
IsMeant (Wrong word) = Unit {0}

-- the limit of a run that is told, and the number that is above it
abbrev pub IsRunLimit : Simulated → What → ℕ → Type 0
IsRunLimit a what.Steps n = (n ≡ a.steps) × (1000000 < n)
IsRunLimit a what.Functions n = 4096 < n
IsRunLimit a what.Ram n = 65536 < n
IsRunLimit a what.Count n = ⊥
IsRunLimit a what.Out n = ⊥

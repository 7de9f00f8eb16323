-- No words ask for a table of the output's name, for no counters, or for no sources or too many.
use Rattle.std.proofs.Common.{◌≡◌, ◌≢◌, ◌≤◌, ◌<◌, ◌&&◌, ◌∙◌, sym, subst, refl, Bool, true, false, not, ℕ, nat_le, ◌-◌, ◌^◌, List, [], ◌∷◌, length, Option, Some, None, IfSome, if◌then◌else◌, nat_eq, arith}
use Rattle.std.specs.Cmp.Lexicographic.{pointwise}
use Rattle.std.proofs.lemmas.Bool.Decides.{nat_tests}
use Rattle.std.proofs.lemmas.List.{length-map}
use Rattle.std.proofs.lemmas.Slice.Eq.{bytes_eq-Decides}
use Rattle.std.specs.Prelude.{string_bytes}
use Rattle.cc_packing.specs.Asked.{Asked as Packed, asked_of as packed_of}
use Rattle.cc_packing.specs.declared.packing.Packing.{Packing}
use Rattle.cc_simulation.specs.Asked.{Asked as Simulated, asked_of as simulated_of}
use Rattle.cc_simulation.specs.declared.simulation.Simulation.{Simulation}
use Rattle.ccomp.specs.Command.{Command, Pack, Run, Wrong, is_dash, is_pack, is_run, is_make, named, pack_asked, run_with, make_with, pack_of, run_of, make_of, command_of, ForEach, IsPacking, IsRun, IsMeant}
use Rattle.ccomp.specs.Make.{number_of, bounded, seed_of, count_of, steps_of}

either : (b : Bool) (x y : Command) → IsMeant x → IsMeant y → IsMeant (if b then x else y)
either true x y h k = h
either false x y h k = k

-- names that differ in their bytes
differs : (table out : List ℕ) → pointwise nat_eq table out ≡ false → table ≢ out
differs table out h e = let same : pointwise nat_eq table out ≡ true = (bytes_eq-Decides table out).1 e in let both = sym h ∙ same in absurd (cc)

named-apart : (d : Bool) (out table : List ℕ) → table ≢ out → IfSome (if d then None else Some table) (λ name. name ≢ out)
named-apart true out table h = tt
named-apart false out table h = h

last-apart : (b : Bool) (profile out table : List ℕ) (sources : List (List ℕ)) → 1 ≤ length sources → length sources ≤ 64 → pointwise nat_eq table out ≡ b →
    IsMeant (if b then Wrong out else Pack (record { profile = named profile; out = out; table = named table; sources = sources }))
last-apart true profile out table sources some few h = tt
last-apart false profile out table sources some few h = record { apart = named-apart (is_dash table) out table (differs table out h); some = some; few = few }

pack-meant : (profile out table certificate : List ℕ) (sources : List (List ℕ)) → 1 ≤ length sources → length sources ≤ 64 → IsMeant (pack_asked profile out table certificate sources)
pack-meant profile out table certificate sources some few =
    either (not (is_dash certificate)) (Wrong certificate) _ tt
    (either (is_dash out) (Wrong out) _ tt (last-apart (pointwise nat_eq table out) profile out table sources some few refl))

within : (a b : Bool) (n : ℕ) → nat_le 1 n ≡ a → nat_le n 64 ≡ b → (x : Command) → (1 ≤ n → n ≤ 64 → IsMeant x) → (command : List ℕ) → IsMeant (if a && b then x else Wrong command)
within true true n h k x meant command = meant (grind (arith, nat_tests)) (grind (arith, nat_tests))
within true false n h k x meant command = tt
within false b n h k x meant command = tt

words-of-pack : (command : List ℕ) (rest : List (List ℕ)) → IsMeant (pack_of command rest)
words-of-pack x [] = tt
words-of-pack x (a ∷ []) = tt
words-of-pack x (a ∷ b ∷ []) = tt
words-of-pack x (a ∷ b ∷ c ∷ []) = tt
words-of-pack x (a ∷ b ∷ c ∷ d ∷ rest) = within (nat_le 1 (length rest)) (nat_le (length rest) 64) (length rest) refl refl (pack_asked a b c d rest) (pack-meant a b c d rest) x

steps-meant : (profile inputs arrivals steps : List ℕ) (sources : List (List ℕ)) (n : Option ℕ) → 1 ≤ length sources → length sources ≤ 64 → IsMeant (run_with profile inputs arrivals steps sources n)
steps-meant profile inputs arrivals steps sources None some few = tt
steps-meant profile inputs arrivals steps sources (Some n) some few = record { some = some; few = few }

words-of-run : (command : List ℕ) (rest : List (List ℕ)) → IsMeant (run_of command rest)
words-of-run x [] = tt
words-of-run x (a ∷ []) = tt
words-of-run x (a ∷ b ∷ []) = tt
words-of-run x (a ∷ b ∷ c ∷ []) = tt
words-of-run x (a ∷ b ∷ c ∷ d ∷ rest) = within (nat_le 1 (length rest)) (nat_le (length rest) 64) (length rest) refl refl (run_with a b c d rest (steps_of d)) (steps-meant a b c d rest (steps_of d)) x

-- a number within bounds is no less than the least
low : (a b : Bool) (n : ℕ) → nat_le 1 n ≡ a → IfSome (if a && b then Some n else None) (λ m. 1 ≤ m)
low true true n h = grind (arith, nat_tests)
low true false n h = tt
low false b n h = tt

bounded-low : (most : ℕ) (number : Option ℕ) → IfSome (bounded 1 most number) (λ m. 1 ≤ m)
bounded-low most None = tt
bounded-low most (Some n) = low (nat_le 1 n) (nat_le n most) n refl

with-meant : (seed count : List ℕ) (n m : Option ℕ) → IfSome m (λ m. 1 ≤ m) → IsMeant (make_with seed count n m)
with-meant seed count None m h = tt
with-meant seed count (Some n) None h = tt
with-meant seed count (Some n) (Some m) h = h

words-of-make : (command : List ℕ) (rest : List (List ℕ)) → IsMeant (make_of command rest)
words-of-make x [] = tt
words-of-make x (a ∷ []) = tt
words-of-make x (a ∷ b ∷ []) = with-meant a b (seed_of a) (count_of b) (bounded-low (2 ^ 32 - 1) (number_of b))
words-of-make x (a ∷ b ∷ c ∷ rest) = tt

pub command-meant : (words : List (List ℕ)) → IsMeant (command_of words)
command-meant [] = tt
command-meant (a ∷ rest) = either (is_pack a) (pack_of a rest) _ (words-of-pack a rest) (either (is_run a) (run_of a rest) _ (words-of-run a rest) (either (is_make a) (make_of a rest) (Wrong a) (words-of-make a rest) tt))

-- the sources of what may be packed are few enough to be counted
pub few-sources : (p : Packing) → IsPacking (packed_of p) → length p.sources.now < 2 ^ 32
few-sources p h = let n = length-map p.sources.now string_bytes in let k = h.few in omega (arith, n, k)

pub few-run : (s : Simulation) → IsRun (simulated_of s) → length s.sources.now < 2 ^ 32
few-run s h = let n = length-map s.sources.now string_bytes in let k = h.few in omega (arith, n, k)

-- what holds of what `pack`, or `run`, asks for
pub for-pack : (k : Command) (a : Packed) (P : Packed → Type 0) (Q : Simulated → Type 0) (R : ℕ → ℕ → Type 0) → Pack a ≡ k → P a → ForEach k P Q R
for-pack k a P Q R e h = subst (λ c. ForEach c P Q R) e h

pub for-run : (k : Command) (a : Simulated) (P : Packed → Type 0) (Q : Simulated → Type 0) (R : ℕ → ℕ → Type 0) → Run a ≡ k → Q a → ForEach k P Q R
for-run k a P Q R e h = subst (λ c. ForEach c P Q R) e h

-- what `pack` asks for where the words ask for this
pub packs-as : (k : Command) (a b : Packed) → Pack a ≡ k → k ≡ Pack b → a ≡ b
packs-as k a b e h = let same : Pack a ≡ Pack b = e ∙ h in cc

pub ruleset of_commands = (command-meant)

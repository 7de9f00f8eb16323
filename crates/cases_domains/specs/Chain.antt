-- A chain of constraints over 1,000 parts, each no or yes: part 999 has to be yes, and each other part
-- has to be yes where the next one is. The constraint number i is about the part 501 i modulo 1,000, so
-- the numbers leap through the chain; 501 * 501 is 1 modulo 1,000, so the part j has the number 501 j.
use Rattle.std.specs.Prelude.{ℕ, zero, suc, ◌+◌, ◌*◌, ◌%◌, ◌≡◌, ◌⊎◌, List, [], ◌∷◌, ◌++◌, length, Bool, true, false, Some, slice_get}
use Rattle.cc_lattice.specs.declared.table.Table.{Table}
use Rattle.cases_domains.specs.declared.chain.Truth.{Truth}
use Rattle.cases_domains.specs.declared.chain.Truth.TheVariants.{No, Yes}

-- no is below yes
abbrev pub IsBelowTruth : Truth → Truth → Type 0
IsBelowTruth No y = Unit {0}
IsBelowTruth Yes Yes = Unit {0}
IsBelowTruth Yes No = ⊥

-- the numbers below n
unfoldable pub numbers : ℕ → List ℕ
numbers zero = []
numbers (suc n) = numbers n ++ n ∷ []

-- a part for each of the keys 0 to 999
pub record IsChain (f : Table ℕ Truth) : Type 0 where
  pub keys : f.keys ≡ numbers 1000
  pub parts : length f.parts ≡ 1000

-- the part that the constraint of a number is about, and the number of the constraint about a part
abbrev pub turned : ℕ → ℕ
turned i = (501 * i) % 1000

-- whether a part has to be yes
abbrev pub IsAsked : ℕ → List Truth → Type 0
IsAsked j parts = (j ≡ 999) ⊎ (slice_get parts (j + 1) ≡ Some Yes)

abbrev pub AsksYes : ℕ → Table ℕ Truth → Table ℕ Truth → Type 0
AsksYes i f g = IsAsked (turned i) f.parts → slice_get g.parts (turned i) ≡ Some Yes

-- the constraint about the part before
abbrev pub before : ℕ → List ℕ
before zero = []
before (suc j) = turned j ∷ []

-- whether a part is no, and so can still rise
abbrev pub is_no : Truth → Bool
is_no No = true
is_no Yes = false

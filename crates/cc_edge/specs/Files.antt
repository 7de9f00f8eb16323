-- What the calls of a store say of its files, and those of a sink of what was said.
use Rattle.std.specs.Prelude.{◌≡◌, ℕ, ◌+◌, ◌≤◌, ◌<◌, List, [], ◌++◌, take, drop, length, Option, Some, None, IsSomeAnd}
use Rattle.cc_edge.specs.declared.store.Got.{Got}
use Rattle.cc_edge.specs.declared.store.Got.TheVariants as got
use Rattle.cc_edge.specs.declared.store.Put.{Put}
use Rattle.cc_edge.specs.declared.store.Put.TheVariants as put
use Rattle.cc_edge.specs.declared.store.Made.{Made}
use Rattle.cc_edge.specs.declared.store.Made.TheVariants as made

-- the bytes of each name that has a file
abbrev pub Files : Type 0
Files = List ℕ → Option (List ℕ)

-- every file is as it was
abbrev pub KeepsFiles : Files → Files → Type 0
KeepsFiles old new = (name : List ℕ) → new name ≡ old name

-- every file but the named one is as it was
abbrev pub KeepsOthers : List ℕ → Files → Files → Type 0
KeepsOthers name old new = (other : List ℕ) → (other ≡ name → ⊥) → new other ≡ old other

-- a read gives at least one byte, and no more than its piece holds
abbrev pub IsReadWithin : Got → ℕ → Type 0
IsReadWithin (got.Bytes n) most = (0 < n) × (n ≤ most)
IsReadWithin got.End most = Unit {0}
IsReadWithin got.Failed most = Unit {0}

-- a read from a place gives the file's bytes from there, and the end where there are none
abbrev pub Gives : Got → ℕ → List ℕ → Option (List ℕ) → Type 0
Gives (got.Bytes n) at piece (Some bytes) = (at + n ≤ length bytes) × (take n piece ≡ take n (drop at bytes))
Gives (got.Bytes n) at piece None = ⊥
Gives got.End at piece (Some bytes) = length bytes ≤ at
Gives got.End at piece None = ⊥
Gives got.Failed at piece file = Unit {0}

-- the named file, after a call that makes it empty
abbrev pub created : Made → Option (List ℕ) → Option (List ℕ)
created made.Done old = Some []
created made.Failed old = old

-- a call takes at least one byte of its piece, and no more than there are
abbrev pub IsPutWithin : Put → ℕ → Type 0
IsPutWithin (put.Bytes n) most = (0 < n) × (n ≤ most)
IsPutWithin put.Failed most = Unit {0}

-- bytes, and behind them what a call took of a piece
abbrev pub appended : Put → List ℕ → List ℕ → List ℕ
appended (put.Bytes n) piece bytes = bytes ++ take n piece
appended put.Failed piece bytes = bytes

-- the file is there, and holds a prefix of the bytes
abbrev pub HoldsPrefix : List ℕ → Option (List ℕ) → Type 0
HoldsPrefix bytes file = IsSomeAnd file (λ held. (n : ℕ) × (held ≡ take n bytes))

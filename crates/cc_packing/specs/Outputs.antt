-- What writing a text into the output, and then another into the table, leaves of the files.
use Rattle.std.specs.Prelude.{◌≡◌, ◌⊎◌, ℕ, List, Option, Some, None, IfSome}
use Rattle.cc_edge.specs.Files.{Files, KeepsOthers, HoldsPrefix}

-- every file but the output, and the table where it is named, is as it was
abbrev pub KeepsRest : List ℕ → Option (List ℕ) → Files → Files → Type 0
KeepsRest out None old new = KeepsOthers out old new
KeepsRest out (Some table) old new = (other : List ℕ) → (other ≡ out → ⊥) → (other ≡ table → ⊥) → new other ≡ old other

-- both are whole
pub record AreWritten (out : List ℕ) (table : Option (List ℕ)) (bytes rows : List ℕ) (old new : Files) : Type 0 where
  pub output : new out ≡ Some bytes
  pub tabled : IfSome table (λ name. new name ≡ Some rows)
  pub others : KeepsRest out table old new

-- the output is as it was or has the first bytes of its text, and the table is as it was
pub record IsOutLeft (out bytes : List ℕ) (old new : Files) : Type 0 where
  pub left : (new out ≡ old out) ⊎ HoldsPrefix bytes (new out)
  pub others : KeepsOthers out old new

-- the output is whole, and the table is as it was or has the first bytes of its text
pub record IsTableLeft (out table bytes rows : List ℕ) (old new : Files) : Type 0 where
  pub output : new out ≡ Some bytes
  pub left : (new table ≡ old table) ⊎ HoldsPrefix rows (new table)
  pub others : KeepsRest out (Some table) old new

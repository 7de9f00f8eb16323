-- The flag as numbers: 0 where it may be off, and 1 where it may be on.
use Rattle.std.specs.Prelude.{◌≡◌, ◌⊎◌, ℤ, pos, Bool, true}

abbrev pub IsFlagOf : Bool → Bool → ℤ → Type 0
IsFlagOf off on m = ((off ≡ true) × (m ≡ pos 0)) ⊎ ((on ≡ true) × (m ≡ pos 1))

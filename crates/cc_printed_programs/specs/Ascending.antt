-- Offsets, by position, that never fall.
use Rattle.std.specs.Prelude.{◌≤◌, ◌<◌, ℕ}

-- of so many
abbrev pub Ascend : ℕ → (ℕ → ℕ) → Type 0
Ascend n at = (i j : ℕ) → i ≤ j → j < n → at i ≤ at j

-- A field of a word: so many bits from a bit up. And the word with another number there.
use Rattle.std.specs.Prelude.{ℕ, ◌+◌, ◌*◌, ◌-◌, ◌/◌, ◌%◌, ◌^◌}

unfoldable pub field : (word shift bits : ℕ) → ℕ
field word shift bits = word / 2 ^ shift % 2 ^ bits

unfoldable pub put : (word shift bits code : ℕ) → ℕ
put word shift bits code = (word / 2 ^ shift / 2 ^ bits * 2 ^ bits + code) * 2 ^ shift + word % 2 ^ shift

-- so many bits
abbrev pub mask : ℕ → ℕ
mask bits = 2 ^ bits - 1

-- all bits of a word of a size but those of a field
abbrev pub keep : (size shift bits : ℕ) → ℕ
keep size shift bits = 2 ^ size - 1 - mask bits * 2 ^ shift

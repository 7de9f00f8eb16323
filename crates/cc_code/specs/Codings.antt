-- How the values of a slot are told by codes of few bits: which kind of coding, and how many bits.
use Rattle.std.specs.Prelude.{◌≡◌, ◌≤◌, ◌^◌, ℕ, ℤ, pos, ◌+ℤ◌, true, ◌&&◌, nat_eq, int_le, int_lt, Option, Some, None, if◌then◌else◌}
use Rattle.cc_code.specs.declared.kinds.Coding.{Coding}
use Rattle.cc_code.specs.declared.kinds.Coding.TheVariants.{Const, Direct, Biased, Table}
use Rattle.cc_code.specs.Members.{count_of, has_coding}
use Rattle.cc_places.specs.declared.abs.Abs.{Abs}
use Rattle.cc_places.specs.declared.abs.Abs.TheVariants.{Ints, Addrs}
use Rattle.cc_sets.specs.declared.vals.Vals.{Vals}
use Rattle.cc_sets.specs.Rungs.{vals_ends}

-- the bits of a code: as many as tell the values apart, no fewer than asked, and no more
pub record AreBitsFor (values : Abs Vals) (least bits : ℕ) : Type 0 where
  pub enough : count_of values ≤ 2 ^ bits
  pub asked : least ≤ bits
  pub no_more : (b : ℕ) → count_of values ≤ 2 ^ b → least ≤ b → bits ≤ b

-- numbers from `low` to `high`: as they stand, where none is negative and all have so many bits; else from the least one on,
-- where their distances from it have so many; else by position
abbrev pub by_ends : ℕ → ℤ → ℤ → Coding
by_ends bits low high =
    if int_le (pos 0) low && int_lt high (pos (2 ^ bits)) then Direct
    else (if int_lt high (low +ℤ pos (2 ^ bits)) then Biased low else Table)

abbrev pub by_optional_ends : ℕ → Option (ℤ × ℤ) → Coding
by_optional_ends bits None = Table
by_optional_ends bits (Some ends) = by_ends bits ends.0 ends.1

-- addresses are told by position
abbrev pub kind_by : ℕ → Abs Vals → Coding
kind_by bits (Ints x) = by_optional_ends bits (vals_ends x)
kind_by bits (Addrs s) = Table

-- a value that needs no bits is a constant
abbrev pub kind_of : Abs Vals → ℕ → Coding
kind_of values bits = if nat_eq (count_of values) 1 && nat_eq bits 0 then Const else kind_by bits values

-- the coding of some values, and the bits of a code
pub record IsCodingOf (values : Abs Vals) (least : ℕ) (coding : Coding × ℕ) : Type 0 where
  pub told : has_coding values ≡ true
  pub bits : AreBitsFor values least coding.1
  pub kind : coding.0 ≡ kind_of values coding.1

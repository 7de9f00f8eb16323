-- Integer constants and characters fit the types that they have.
use Rattle.std.proofs.Common.{arith, ◌≡◌, ℕ, ◌*◌, ◌<◌, ◌^◌, ◌⊎◌, inl, inr, Bool, true, false, List, [], ◌∷◌, refl}
use Rattle.std.specs.Prelude.{pos, ◌≤ℤ◌, ℤ, if◌then◌else◌}
use Rattle.std.proofs.lemmas.Int.{ints}
use Rattle.cc_operands.specs.CcLex.declared.token.Suffix.{Suffix}
use Rattle.cc_program.specs.CcNum.declared.int_type.IntType.{IntType}
use Rattle.cc_program.specs.CcNum.declared.int_type.IntType.TheVariants as int
use Rattle.cc_program.specs.CcNum.declared.target.Target.{Target}
use Rattle.cc_program.specs.CcNum.Integers.{is_value_of, least_of_bits, most_of_bits}
use Rattle.cc_program.proofs.CcNum.Conversions.{converted-IsValueOf, int_bytes_is}
use Rattle.cc_program.proofs.CcNum.ResultLaws.{is_value_from}
use Rattle.cc_operands.specs.Operands.{first_with, types_by, number_type, character_value}

module _ (target : Target) (n : ℕ) where
  first_by : (b : Bool) (t u : IntType) → is_value_of t target (pos n) ≡ b → is_value_of u target (pos n) ≡ true → is_value_of (if b then t else u) target (pos n) ≡ true
  first_by true t u e h = e
  first_by false t u e h = h

  first_fits : (types : List IntType) → is_value_of int.ULongLong target (pos n) ≡ true → is_value_of (first_with target n types) target (pos n) ≡ true
  first_fits [] h = h
  first_fits (t ∷ rest) h = first_by (is_value_of t target (pos n)) t (first_with target n rest) refl (first_fits rest h)

  greatest_fits : n < 2 ^ 64 → is_value_of int.ULongLong target (pos n) ≡ true
  greatest_fits h = is_value_from int.ULongLong target (pos n) (record { least = omega (arith, ints); most = omega (arith, ints, h) })

  pub number_fits : (suffix : Suffix) → n < 2 ^ 64 → is_value_of (number_type target n suffix) target (pos n) ≡ true
  number_fits suffix h = first_fits (types_by suffix.unsigned suffix.decimal suffix.longs) (greatest_fits h)

wide : (b : ℕ) (s : Bool) (v : ℤ) → (b ≡ 2) ⊎ (b ≡ 4) → least_of_bits s 8 ≤ℤ v → v ≤ℤ most_of_bits s 8 → (least_of_bits true (8 * b) ≤ℤ v) × (v ≤ℤ most_of_bits true (8 * b))
wide b true v (inl e) h k = rw e (omega (arith, ints, h, k), omega (arith, ints, h, k))
wide b true v (inr e) h k = rw e (omega (arith, ints, h, k), omega (arith, ints, h, k))
wide b false v (inl e) h k = rw e (omega (arith, ints, h, k), omega (arith, ints, h, k))
wide b false v (inr e) h k = rw e (omega (arith, ints, h, k), omega (arith, ints, h, k))

pub character_fits : (target : Target) (byte : ℕ) → is_value_of int.Int target (character_value target byte) ≡ true
character_fits target byte =
    let c = converted-IsValueOf (pos byte) int.Char target in
    let w = wide target.int_bytes target.char_signed (character_value target byte) (int_bytes_is target) c.least c.most in
    is_value_from int.Int target (character_value target byte) (record { least = w.0; most = w.1 })

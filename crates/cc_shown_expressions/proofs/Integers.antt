-- The types of the numbers that a program's constants are written with, and the values that `-` and a difference make of them:
-- a type of a lower rank than int has no constants, so its values are written as those of int.
use Rattle.std.proofs.Common.{◌≡◌, ℕ, ◌-◌, ◌<◌, ◌≤◌, Bool, true, false, not, ◌&&◌, List, [], ◌∷◌, ℤ, pos, negsuc, neg_ℤ, ◌-ℤ◌, ◌≤ℤ◌, ◌<ℤ◌, int_lt, unsigned_abs, Some, refl, ap, sym, ◌∙◌, subst, ⊎_elim, arith, pow_mono, if◌then◌else◌, nat_eq, nat_lt}
use Rattle.std.proofs.lemmas.Bool.Decides.{nat_tests, Decides-int_eq}
use Rattle.std.proofs.lemmas.Int.{ints}
use Rattle.std.specs.Ordering.{int_eq}
use Rattle.cc_program.specs.CcNum.declared.int_type.IntType.{IntType}
use Rattle.cc_program.specs.CcNum.declared.int_type.IntType.TheVariants as int
use Rattle.cc_program.specs.CcNum.declared.op.BinOp.TheVariants as op
use Rattle.cc_program.specs.CcNum.declared.op.UnOp.TheVariants as un
use Rattle.cc_program.specs.CcNum.declared.target.Target.{Target}
use Rattle.cc_program.specs.CcNum.Integers.{is_signed, bits_of, least_of, most_of, least_of_bits, most_of_bits, IsValueOf, is_value_of}
use Rattle.cc_program.specs.CcNum.Promotions.{rank_of, promoted, usual_of, common_of, common_by}
use Rattle.cc_program.specs.CcNum.Results.{result_of, unary_result_of}
use Rattle.cc_program.proofs.CcNum.Conversions.{int_bytes_is}
use Rattle.cc_program.proofs.CcNum.DivisionLaws.{ends_apart}
use Rattle.cc_program.proofs.CcNum.PromotionLaws.{promoted-same}
use Rattle.cc_program.proofs.CcNum.ResultLaws.{is_value_from, represented_same, unsigned_least, least_low, most_high}
use Rattle.cc_terms.specs.CcOperands.Operands.{first_with, types_by, number_type}
use Rattle.cc_pieces.specs.Constants.{has_unsigned_letter, long_letters_of, is_narrow}
use Rattle.cc_terms.specs.CcSyntax.Folding.{Value, NoConstant, result_constant, unary_constant, binary_constant}
use Rattle.cc_terms.specs.CcSyntax.Operators.{is_promoted}
use Rattle.cc_terms.specs.CcSyntax.SameTypes.{same_int}
use Rattle.cc_terms.proofs.CcSyntax.SameLemmas.{int_itself}
use Rattle.cc_expression_trees.specs.Types.{suffix}

-- ---- the type that a value is written in

abbrev pub host : IntType → IntType
host int.Bool = int.Int
host int.Char = int.Int
host int.SChar = int.Int
host int.UChar = int.Int
host int.Short = int.Int
host int.UShort = int.Int
host int.Int = int.Int
host int.UInt = int.UInt
host int.Long = int.Long
host int.ULong = int.ULong
host int.LongLong = int.LongLong
host int.ULongLong = int.ULongLong

pub own-host : (t : IntType) → is_narrow t ≡ false → host t ≡ t
own-host int.Bool h = absurd (cc)
own-host int.Char h = absurd (cc)
own-host int.SChar h = absurd (cc)
own-host int.UChar h = absurd (cc)
own-host int.Short h = absurd (cc)
own-host int.UShort h = absurd (cc)
own-host int.Int h = refl
own-host int.UInt h = refl
own-host int.Long h = refl
own-host int.ULong h = refl
own-host int.LongLong h = refl
own-host int.ULongLong h = refl

host-rank : (t : IntType) → 3 ≤ rank_of (host t)
host-rank int.Bool = omega arith
host-rank int.Char = omega arith
host-rank int.SChar = omega arith
host-rank int.UChar = omega arith
host-rank int.Short = omega arith
host-rank int.UShort = omega arith
host-rank int.Int = omega arith
host-rank int.UInt = omega arith
host-rank int.Long = omega arith
host-rank int.ULong = omega arith
host-rank int.LongLong = omega arith
host-rank int.ULongLong = omega arith

pub host-promoted : (target : Target) (t : IntType) → is_promoted target (host t) ≡ true
host-promoted target t = ap (λ (u : IntType). same_int u (host t)) (promoted-same (host t) target (host-rank t)) ∙ int_itself (host t)

-- ---- the type of a number with the letters of a type

module _ (target : Target) (a : ℕ) where
  first-is : (t : IntType) (rest : List IntType) → is_value_of t target (pos a) ≡ true → first_with target a (t ∷ rest) ≡ t
  first-is t rest h = ap (λ (b : Bool). if b then t else first_with target a rest) h

  wide-number : (t : IntType) (decimal : Bool) → is_narrow t ≡ false → is_value_of t target (pos a) ≡ true → first_with target a (types_by (has_unsigned_letter t) decimal (long_letters_of t)) ≡ t
  wide-number int.Bool decimal n h = absurd (cc)
  wide-number int.Char decimal n h = absurd (cc)
  wide-number int.SChar decimal n h = absurd (cc)
  wide-number int.UChar decimal n h = absurd (cc)
  wide-number int.Short decimal n h = absurd (cc)
  wide-number int.UShort decimal n h = absurd (cc)
  wide-number int.Int true n h = first-is int.Int (int.Long ∷ int.LongLong ∷ []) h
  wide-number int.Int false n h = first-is int.Int (int.UInt ∷ int.Long ∷ int.ULong ∷ int.LongLong ∷ int.ULongLong ∷ []) h
  wide-number int.UInt decimal n h = first-is int.UInt (int.ULong ∷ int.ULongLong ∷ []) h
  wide-number int.Long true n h = first-is int.Long (int.LongLong ∷ []) h
  wide-number int.Long false n h = first-is int.Long (int.ULong ∷ int.LongLong ∷ int.ULongLong ∷ []) h
  wide-number int.ULong decimal n h = first-is int.ULong (int.ULongLong ∷ []) h
  wide-number int.LongLong true n h = first-is int.LongLong [] h
  wide-number int.LongLong false n h = first-is int.LongLong (int.ULongLong ∷ []) h
  wide-number int.ULongLong decimal n h = first-is int.ULongLong [] h

  narrow-number : (t : IntType) (decimal : Bool) → is_narrow t ≡ true → is_value_of int.Int target (pos a) ≡ true → first_with target a (types_by (has_unsigned_letter t) decimal (long_letters_of t)) ≡ int.Int
  narrow-number int.Bool decimal n h = wide-number int.Int decimal refl h
  narrow-number int.Char decimal n h = wide-number int.Int decimal refl h
  narrow-number int.SChar decimal n h = wide-number int.Int decimal refl h
  narrow-number int.UChar decimal n h = wide-number int.Int decimal refl h
  narrow-number int.Short decimal n h = wide-number int.Int decimal refl h
  narrow-number int.UShort decimal n h = wide-number int.Int decimal refl h
  narrow-number int.Int decimal n h = absurd (cc)
  narrow-number int.UInt decimal n h = absurd (cc)
  narrow-number int.Long decimal n h = absurd (cc)
  narrow-number int.ULong decimal n h = absurd (cc)
  narrow-number int.LongLong decimal n h = absurd (cc)
  narrow-number int.ULongLong decimal n h = absurd (cc)

  narrow-host : (t : IntType) → is_narrow t ≡ true → host t ≡ int.Int
  narrow-host int.Bool h = refl
  narrow-host int.Char h = refl
  narrow-host int.SChar h = refl
  narrow-host int.UChar h = refl
  narrow-host int.Short h = refl
  narrow-host int.UShort h = refl
  narrow-host int.Int h = refl
  narrow-host int.UInt h = absurd (cc)
  narrow-host int.Long h = absurd (cc)
  narrow-host int.ULong h = absurd (cc)
  narrow-host int.LongLong h = absurd (cc)
  narrow-host int.ULongLong h = absurd (cc)

  number-by : (t : IntType) (b : Bool) → is_narrow t ≡ b → is_value_of (host t) target (pos a) ≡ true → number_type target a (suffix a (has_unsigned_letter t) (long_letters_of t)) ≡ host t
  number-by t true e h =
      let k = narrow-host t e in
      narrow-number t (not (nat_eq a 0)) e (subst (λ (u : IntType). is_value_of u target (pos a) ≡ true) k h) ∙ sym k
  number-by t false e h =
      let k = own-host t e in
      wide-number t (not (nat_eq a 0)) e (subst (λ (u : IntType). is_value_of u target (pos a) ≡ true) k h) ∙ sym k

  pub number-typed : (t : IntType) → is_value_of (host t) target (pos a) ≡ true → number_type target a (suffix a (has_unsigned_letter t) (long_letters_of t)) ≡ host t
  number-typed t h = number-by t (is_narrow t) refl h

-- ---- numbers by their signs

pub not-below : (n : ℤ) → int_lt n (pos 0) ≡ false → n ≡ pos (unsigned_abs n)
not-below (pos m) h = refl
not-below (negsuc m) h = absurd (cc)

below : (n : ℤ) → int_lt n (pos 0) ≡ true → n <ℤ pos 0
below n h = grind (arith, ints)

pub negated-size : (n : ℤ) → n <ℤ pos 0 → n ≡ neg_ℤ (pos (unsigned_abs n))
negated-size (pos m) h = absurd (omega (arith, ints))
negated-size (negsuc m) h = refl

size-some : (n : ℤ) → n <ℤ pos 0 → 0 < unsigned_abs n
size-some (pos m) h = absurd (omega (arith, ints))
size-some (negsuc m) h = omega arith

-- ---- types with signs

module _ (target : Target) where
  signed-by : (t : IntType) (n : ℤ) (b : Bool) → is_signed t target ≡ b → n <ℤ pos 0 → IsValueOf t target n → b ≡ true
  signed-by t n true e h v = refl
  signed-by t n false e h v = let l = unsigned_least t target e in let m = v.least in absurd (omega (arith, ints))

  pub signed-is : (t : IntType) (n : ℤ) → n <ℤ pos 0 → IsValueOf t target n → is_signed t target ≡ true
  signed-is t n h v = signed-by t n (is_signed t target) refl h v

  host-signed : (t : IntType) → is_signed t target ≡ true → is_signed (host t) target ≡ true
  host-signed int.Bool h = refl
  host-signed int.Char h = refl
  host-signed int.SChar h = refl
  host-signed int.UChar h = refl
  host-signed int.Short h = refl
  host-signed int.UShort h = refl
  host-signed int.Int h = refl
  host-signed int.UInt h = h
  host-signed int.Long h = refl
  host-signed int.ULong h = h
  host-signed int.LongLong h = refl
  host-signed int.ULongLong h = h

  record Within (t u : IntType) : Type 0 where
    low : least_of u target ≤ℤ least_of t target
    high : most_of t target ≤ℤ most_of u target

  wider-low : (v w : ℕ) → 1 ≤ v → v ≤ w → least_of_bits true w ≤ℤ least_of_bits true v
  wider-low v w s h = let le : v - 1 ≤ w - 1 = omega arith in let p = pow_mono le in omega (arith, ints)

  wider-high : (v w : ℕ) → 1 ≤ v → v ≤ w → most_of_bits true v ≤ℤ most_of_bits true w
  wider-high v w s h = let le : v - 1 ≤ w - 1 = omega arith in let p = pow_mono le in omega (arith, ints)

  some-int : 16 ≤ bits_of int.Int target
  some-int = ⊎_elim (λ e. omega arith) (λ e. omega arith) (int_bytes_is target)

  low-char : (b : Bool) → b ≡ true → least_of_bits b 8 ≡ least_of_bits true 8
  low-char b e = ap (λ (c : Bool). least_of_bits c 8) e

  high-char : (b : Bool) → b ≡ true → most_of_bits b 8 ≡ most_of_bits true 8
  high-char b e = ap (λ (c : Bool). most_of_bits c 8) e

  itself : (t : IntType) → Within t t
  itself t = record { low = omega (arith, ints); high = omega (arith, ints) }

  within-host : (t : IntType) → is_signed t target ≡ true → Within t (host t)
  within-host int.Bool h = absurd (cc)
  within-host int.Char h = record {
    low = subst (λ (z : ℤ). least_of_bits true (bits_of int.Int target) ≤ℤ z) (sym (low-char target.char_signed h)) (wider-low 8 (bits_of int.Int target) (omega arith) (omega (arith, some-int)));
    high = subst (λ (z : ℤ). z ≤ℤ most_of_bits true (bits_of int.Int target)) (sym (high-char target.char_signed h)) (wider-high 8 (bits_of int.Int target) (omega arith) (omega (arith, some-int)));
  }
  within-host int.SChar h = record { low = wider-low 8 (bits_of int.Int target) (omega arith) (omega (arith, some-int)); high = wider-high 8 (bits_of int.Int target) (omega arith) (omega (arith, some-int)) }
  within-host int.UChar h = absurd (cc)
  within-host int.Short h = record { low = wider-low 16 (bits_of int.Int target) (omega arith) some-int; high = wider-high 16 (bits_of int.Int target) (omega arith) some-int }
  within-host int.UShort h = absurd (cc)
  within-host int.Int h = itself int.Int
  within-host int.UInt h = itself int.UInt
  within-host int.Long h = itself int.Long
  within-host int.ULong h = itself int.ULong
  within-host int.LongLong h = itself int.LongLong
  within-host int.ULongLong h = itself int.ULongLong

  -- ---- a value below 0, and the number that it is written with

  pub record Negated (t : IntType) (n : ℤ) (a : ℕ) : Type 0 where
    pub signed : is_signed (host t) target ≡ true
    pub number : IsValueOf (host t) target (pos a)
    pub opposite : IsValueOf (host t) target (neg_ℤ (pos a))
    pub value : IsValueOf (host t) target n

  above-least : (n l : ℤ) → l ≤ℤ n → int_eq n l ≡ false → l <ℤ n
  above-least n l h e = let d = Decides-int_eq n l in let other : n ≡ l → ⊥ = λ same. (let g : false ≡ true = sym e ∙ d.1 same in cc) in strict n l h other where
    strict : (n l : ℤ) → l ≤ℤ n → (n ≡ l → ⊥) → l <ℤ n
    strict n l h k = omega (arith, ints)

  fits-negated : (n l m low high : ℤ) (a : ℕ) → n ≡ neg_ℤ (pos a) → l <ℤ n → l ≡ neg_ℤ m -ℤ pos 1 → low ≤ℤ l → m ≤ℤ high → low ≤ℤ pos 0 → n <ℤ pos 0 → (low ≤ℤ pos a) × (pos a ≤ℤ high) × (low ≤ℤ n) × (n ≤ℤ high)
  fits-negated n l m low high a e h k g i j q = (omega (arith, ints), omega (arith, ints), omega (arith, ints), omega (arith, ints))

  pub negated-fits : (t : IntType) (n : ℤ) → IsValueOf t target n → n <ℤ pos 0 → int_eq n (least_of t target) ≡ false → Negated t n (unsigned_abs n)
  negated-fits t n v h e =
      let s = signed-is t n h v in
      let w = within-host t s in
      let g = negated-size n h in
      let r = fits-negated n (least_of t target) (most_of t target) (least_of (host t) target) (most_of (host t) target) (unsigned_abs n) g (above-least n (least_of t target) v.least e) (ends_apart t target s) w.low w.high (least_low (host t) target) h in
      let value : IsValueOf (host t) target n = record { least = r.2; most = r.3 } in
      record { signed = host-signed t s; number = record { least = r.0; most = r.1 }; opposite = subst (IsValueOf (host t) target) g value; value = value }

  fits-least : (n l m low high : ℤ) (a : ℕ) → n ≡ neg_ℤ (pos a) → 0 < a → n ≡ l → l ≡ neg_ℤ m -ℤ pos 1 → low ≤ℤ l → m ≤ℤ high → low ≤ℤ pos 0 →
      (low ≤ℤ pos (a - 1)) × (pos (a - 1) ≤ℤ high) × (low ≤ℤ neg_ℤ (pos (a - 1))) × (neg_ℤ (pos (a - 1)) ≤ℤ high) × (low ≤ℤ n) × (n ≤ℤ high) × (n ≡ neg_ℤ (pos (a - 1)) -ℤ pos 1)
  fits-least n l m low high a e b h k g i j = (omega (arith, ints), omega (arith, ints), omega (arith, ints), omega (arith, ints), omega (arith, ints), omega (arith, ints), omega (arith, ints))

  pub least-fits : (t : IntType) (n : ℤ) → IsValueOf t target n → n <ℤ pos 0 → int_eq n (least_of t target) ≡ true → Negated t n (unsigned_abs n - 1) × (n ≡ neg_ℤ (pos (unsigned_abs n - 1)) -ℤ pos 1)
  least-fits t n v h e =
      let s = signed-is t n h v in
      let w = within-host t s in
      let r = fits-least n (least_of t target) (most_of t target) (least_of (host t) target) (most_of (host t) target) (unsigned_abs n) (negated-size n h) (size-some n h) ((Decides-int_eq n (least_of t target)).0 e) (ends_apart t target s) w.low w.high (least_low (host t) target) in
      (record { signed = host-signed t s; number = record { least = r.0; most = r.1 }; opposite = record { least = r.2; most = r.3 }; value = record { least = r.4; most = r.5 } }, r.6)

  -- ---- what the operators make of them

  unary-valued : (u : IntType) (a : ℤ) → is_promoted target u ≡ true → is_value_of u target a ≡ true → unary_constant target un.Neg u (Value a) ≡ result_constant (unary_result_of un.Neg a u target)
  unary-valued u a h k = ap (λ (b : Bool). if b && is_value_of u target a then result_constant (unary_result_of un.Neg a u target) else NoConstant) h ∙ ap (λ (b : Bool). if b then result_constant (unary_result_of un.Neg a u target) else NoConstant) k

  opposite-of : (u : IntType) (a : ℤ) → IsValueOf u target (neg_ℤ a) → unary_result_of un.Neg a u target ≡ Some (neg_ℤ a)
  unfolding unary_result_of
  opposite-of u a h = represented_same (neg_ℤ a) u target h

  pub negative-constant : (u : IntType) (a : ℤ) → is_promoted target u ≡ true → IsValueOf u target a → IsValueOf u target (neg_ℤ a) → unary_constant target un.Neg u (Value a) ≡ Value (neg_ℤ a)
  negative-constant u a h k g = unary-valued u a h (is_value_from u target a k) ∙ ap result_constant (opposite-of u a g)

  binary-valued : (u : IntType) (a b : ℤ) → is_promoted target u ≡ true → is_value_of u target a ≡ true → is_value_of u target b ≡ true → binary_constant target op.Sub u (Value a) (Value b) ≡ result_constant (result_of op.Sub a b u target)
  binary-valued u a b h k g =
      ap (λ (c : Bool). if c && (is_value_of u target a && is_value_of u target b) then result_constant (result_of op.Sub a b u target) else NoConstant) h
      ∙ ap (λ (c : Bool). if c && is_value_of u target b then result_constant (result_of op.Sub a b u target) else NoConstant) k
      ∙ ap (λ (c : Bool). if c then result_constant (result_of op.Sub a b u target) else NoConstant) g

  difference-of : (u : IntType) (a b : ℤ) → IsValueOf u target (a -ℤ b) → result_of op.Sub a b u target ≡ Some (a -ℤ b)
  unfolding result_of
  difference-of u a b h = represented_same (a -ℤ b) u target h

  pub difference-constant : (u : IntType) (a b : ℤ) → is_promoted target u ≡ true → IsValueOf u target a → IsValueOf u target b → IsValueOf u target (a -ℤ b) → binary_constant target op.Sub u (Value a) (Value b) ≡ Value (a -ℤ b)
  difference-constant u a b h k g i = binary-valued u a b h (is_value_from u target a k) (is_value_from u target b g) ∙ ap result_constant (difference-of u a b i)

  -- the common type with int
  not-less : (r : ℕ) → 3 ≤ r → nat_lt r 3 ≡ false
  not-less r h = grind (arith, nat_tests)

  usual-int : (u : IntType) → 3 ≤ rank_of u → is_signed u target ≡ true → usual_of u int.Int target ≡ u
  unfolding usual_of
  usual-int u r h =
      ap (λ (x : IntType). common_of x (promoted int.Int target) target) (promoted-same u target r)
      ∙ ap (λ (y : IntType). common_of u y target) (promoted-same int.Int target (omega arith))
      ∙ ap (λ (b : Bool). common_by b true u int.Int target) h
      ∙ ap (λ (b : Bool). if b then int.Int else u) (not-less (rank_of u) r)

  pub usual-host : (t : IntType) → is_signed (host t) target ≡ true → usual_of (host t) int.Int target ≡ host t
  usual-host t h = usual-int (host t) (host-rank t) h

  pub one-value : (u : IntType) → IsValueOf u target (pos 1)
  one-value u = let l = least_low u target in record { least = omega (arith, ints); most = most_high u target }

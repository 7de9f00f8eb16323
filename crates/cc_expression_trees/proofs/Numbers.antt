-- The numbers that constants are written with are integer constants of their types, and part from what stands behind.
use Rattle.std.proofs.Common.{◌≡◌, ◌-◌, ◌^◌, ◌<◌, ◌≤◌, ℕ, Bool, true, false, ◌||◌, not, eqb, cond, ℤ, pos, negsuc, neg_ℤ, ◌≤ℤ◌, unsigned_abs, List, [], ◌∷◌, ◌++◌, decimal, refl, sym, ◌∙◌, true≢false, subst, arith, lit≤, pow_mono, append_assoc}
use Rattle.std.proofs.lemmas.Int.{ints}
use Rattle.std.proofs.lemmas.Bool.Decides.{nat_tests, Decides-int_eq}
use Rattle.std.specs.Prelude.{int_lt}
use Rattle.std.specs.Ordering.{int_eq}
use Rattle.std.specs.List.{list_all}
use Rattle.cc_program.specs.CcNum.declared.int_type.IntType.{IntType}
use Rattle.cc_program.specs.CcNum.declared.int_type.IntType.TheVariants as int
use Rattle.cc_program.specs.CcNum.declared.target.Target.{Target}
use Rattle.cc_program.specs.CcNum.Integers.{bits_of, is_signed, least_of, most_of, least_of_bits, most_of_bits, IsValueOf}
use Rattle.cc_program.proofs.CcNum.Conversions.{few_bytes}
use Rattle.cc_program.proofs.CcNum.Exact.{value_narrow}
use Rattle.cc_program.specs.CcWords.Names.{is_letter_or_digit, is_digit}
use Rattle.cc_lex.specs.Bytes.{begins_with}
use Rattle.cc_lex.specs.Numbers.{greatest}
use Rattle.cc_lex.specs.declared.token.Kind.TheVariants as kind
use Rattle.cc_lex.specs.declared.token.Mark.TheVariants as m
use Rattle.cc_lex.proofs.Booleans.{and-true}
use Rattle.cc_pieces.specs.Constants.{has_unsigned_letter, long_letters_of, of_type, negative, least, constant}
use Rattle.cc_pieces.specs.Pieces.{Pieces, punct, plain_number, space, flat}
use Rattle.cc_expression_trees.specs.Parts.{Fits, is_apart}
use Rattle.cc_expression_trees.proofs.Numerals.{IsNumeral, numeral}
use Rattle.cc_expression_trees.specs.Soft.{IsSoft}
use Rattle.cc_expression_trees.specs.Types.{suffix}
use Rattle.cc_expression_trees.proofs.TypeFitting.{number-apart, close-apart, number-fits}

-- an operand begins with a letter, a digit or a parenthesis
abbrev pub is_first : ℕ → Bool
is_first b = is_letter_or_digit b || eqb b 40

abbrev pub Starts : List ℕ → Type 0
Starts text = begins_with is_first text ≡ true

-- ---- ranges

few-bits : (s : Bool) (w : ℕ) → w ≤ 16 → most_of_bits s w ≤ℤ pos (2 ^ 63 - 1)
few-bits true w h = let few : w - 1 ≤ 16 = omega arith in let p = pow_mono few in omega (arith, ints)
few-bits false w h = let p = pow_mono h in omega (arith, ints)

signed-bits : (w : ℕ) → w ≤ 64 → most_of_bits true w ≤ℤ pos (2 ^ 63 - 1)
signed-bits w h = let few : w - 1 ≤ 63 = omega arith in let p = pow_mono few in omega (arith, ints)

bits-low : (s : Bool) (w : ℕ) → w ≤ 64 → neg_ℤ (pos (2 ^ 63)) ≤ℤ least_of_bits s w
bits-low true w h = let few : w - 1 ≤ 63 = omega arith in let p = pow_mono few in omega (arith, ints)
bits-low false w h = omega (arith, ints)

least-low : (t : IntType) (target : Target) → neg_ℤ (pos (2 ^ 63)) ≤ℤ least_of t target
least-low int.Bool target = omega (arith, ints)
least-low t target = let few = few_bytes t target in bits-low (is_signed t target) (bits_of t target) (omega (arith, few))

-- a type without the letter has no value above 2^63 - 1
small-most : (t : IntType) (target : Target) → has_unsigned_letter t ≡ false → most_of t target ≤ℤ pos (2 ^ 63 - 1)
small-most int.Bool target h = omega (arith, ints)
small-most int.Char target h = few-bits target.char_signed 8 (lit≤ tt)
small-most int.SChar target h = few-bits true 8 (lit≤ tt)
small-most int.UChar target h = few-bits false 8 (lit≤ tt)
small-most int.Short target h = few-bits true 16 (lit≤ tt)
small-most int.UShort target h = few-bits false 16 (lit≤ tt)
small-most int.Int target h = signed-bits (bits_of int.Int target) (let few = few_bytes int.Int target in omega (arith, few))
small-most int.Long target h = signed-bits 32 (lit≤ tt)
small-most int.LongLong target h = signed-bits 64 (lit≤ tt)
small-most int.UInt target h = absurd (cc)
small-most int.ULong target h = absurd (cc)
small-most int.ULongLong target h = absurd (cc)

longs-few : (t : IntType) → long_letters_of t ≤ 2
longs-few int.Bool = lit≤ tt
longs-few _ = lit≤ tt

great : (d u : Bool) (n : ℕ) → n ≤ 2 ^ 63 - 1 → n ≤ greatest d u
great true true n h = omega (arith, h)
great true false n h = h
great false u n h = omega (arith, h)

great-unsigned : (d u : Bool) (n : ℕ) → u ≡ true → n < 2 ^ 64 → n ≤ greatest d u
great-unsigned true true n e h = omega (arith, h)
great-unsigned false true n e h = omega (arith, h)
great-unsigned true false n e h = absurd (cc)
great-unsigned false false n e h = absurd (cc)

natural-by : (t : IntType) (target : Target) (n : ℤ) (u : Bool) → has_unsigned_letter t ≡ u → IsValueOf t target n → int_lt n (pos 0) ≡ false → (d : Bool) → unsigned_abs n ≤ greatest d u
natural-by t target (pos k) true e v h d = let r = (value_narrow t target (pos k) v).high in great-unsigned d true k refl (omega (arith, ints, r))
natural-by t target (pos k) false e v h d = let a = small-most t target e in let b = v.most in great d false k (omega (arith, ints, a, b))
natural-by t target (negsuc k) u e v h d = absurd (cc)

int-other : (m n : ℤ) → int_eq m n ≡ false → m ≡ n → ⊥
int-other m n h e = let d = Decides-int_eq m n in true≢false (sym (d.1 e) ∙ h)

pos-not : (k : ℕ) → int_lt (pos k) (pos 0) ≡ false
pos-not k = grind (arith, ints)

pos-other : (k : ℕ) → int_lt (pos k) (pos 0) ≡ true → ⊥
pos-other k e = true≢false (sym e ∙ pos-not k)

-- ---- pieces

of-type-fits : (t : IntType) (n : ℕ) (ps : Pieces) → ((d : Bool) → n ≤ greatest d (has_unsigned_letter t)) → Fits ps → IsSoft (flat ps) → Fits (of_type t n ∷ ps)
of-type-fits t n ps h f s = ((h (not (eqb n 0)), refl, longs-few t), number-apart n (suffix n (has_unsigned_letter t) (long_letters_of t)) (flat ps) s, f)

digit-first : (n : ℕ) (ds text : List ℕ) → IsNumeral n ds → Starts (ds ++ text)
digit-first n [] text i = absurd i.2
digit-first n (c ∷ cs) text i = first c (and-true (is_digit c) (list_all is_digit cs) i.0).0 where
  first : (b : ℕ) → is_digit b ≡ true → is_first b ≡ true
  first b h = grind (arith, nat_tests)

below : (d u : Bool) (n : ℕ) → n ≤ greatest d u → n < 2 ^ 64
below true false n h = omega (arith, h)
below true true n h = omega (arith, h)
below false u n h = omega (arith, h)

number-first : (n : ℕ) (tail text : List ℕ) → n < 2 ^ 64 → Starts ((decimal n ++ tail) ++ text)
number-first n tail text h = subst Starts (sym (append_assoc (decimal n) tail text)) (digit-first n (decimal n) (tail ++ text) (numeral n h))

minus-apart : (text : List ℕ) → Starts text → is_apart (kind.Punct m.Minus) text ≡ true
minus-apart [] h = refl
minus-apart (b ∷ text) h = grind (arith, nat_tests)

of-type-first : (t : IntType) (n : ℕ) (ps : Pieces) → ((d : Bool) → n ≤ greatest d (has_unsigned_letter t)) → Starts (flat (of_type t n ∷ ps))
of-type-first t n ps h = number-first n _ (flat ps) (below (not (eqb n 0)) (has_unsigned_letter t) n (h (not (eqb n 0))))

negative-fits : (t : IntType) (n : ℕ) (ps : Pieces) → n ≤ 2 ^ 63 - 1 → Fits ps → Fits (negative t n ps)
negative-fits t n ps h f =
    let g = λ (d : Bool). great d (has_unsigned_letter t) n h in
    (refl, refl, (refl, minus-apart (flat (of_type t n ∷ punct m.RParen ∷ ps)) (of-type-first t n (punct m.RParen ∷ ps) g), of-type-fits t n (punct m.RParen ∷ ps) g (refl, close-apart (flat ps), f) refl))

least-fits : (t : IntType) (n : ℕ) (ps : Pieces) → n ≤ 2 ^ 63 - 1 → Fits ps → Fits (least t n ps)
least-fits t n ps h f =
    let g = λ (d : Bool). great d (has_unsigned_letter t) n h in
    let qs = space ∷ punct m.Minus ∷ space ∷ plain_number 1 ∷ punct m.RParen ∷ ps in
    (refl, refl, (refl, minus-apart (flat (of_type t n ∷ qs)) (of-type-first t n qs g), of-type-fits t n qs g (refl, (refl, refl, (refl, number-fits 1 (punct m.RParen ∷ ps) (lit≤ tt) refl (refl, close-apart (flat ps), f)))) refl))

module _ (target : Target) (n : ℤ) (t : IntType) (v : IsValueOf t target n) where
  low-abs : (n : ℤ) → neg_ℤ (pos (2 ^ 63)) ≤ℤ n → int_lt n (pos 0) ≡ true → unsigned_abs n - 1 ≤ 2 ^ 63 - 1
  low-abs (pos k) h e = absurd (pos-other k e)
  low-abs (negsuc k) h e = omega (arith, ints, h)

  low-other : (n l : ℤ) → neg_ℤ (pos (2 ^ 63)) ≤ℤ l → l ≤ℤ n → (n ≡ l → ⊥) → int_lt n (pos 0) ≡ true → unsigned_abs n ≤ 2 ^ 63 - 1
  low-other (pos k) l h k' o e = absurd (pos-other k e)
  low-other (negsuc k) l h k' o e = omega (arith, ints, h, k', o)

  chosen : (a b : Bool) → int_lt n (pos 0) ≡ a → int_eq n (least_of t target) ≡ b → (ps : Pieces) → Fits ps → IsSoft (flat ps) →
      Fits (cond a (cond b (least t (unsigned_abs n - 1) ps) (negative t (unsigned_abs n) ps)) (of_type t (unsigned_abs n) ∷ ps))
      × Starts (flat (cond a (cond b (least t (unsigned_abs n - 1) ps) (negative t (unsigned_abs n) ps)) (of_type t (unsigned_abs n) ∷ ps)))
  chosen true true e g ps f s = (least-fits t (unsigned_abs n - 1) ps (low-abs n (value_narrow t target n v).low e) f, refl)
  chosen true false e g ps f s = (negative-fits t (unsigned_abs n) ps (low-other n (least_of t target) (least-low t target) v.least (int-other n (least_of t target) g) e) f, refl)
  chosen false b e g ps f s =
      let h = natural-by t target n (has_unsigned_letter t) refl v e in
      (of-type-fits t (unsigned_abs n) ps h f s, of-type-first t (unsigned_abs n) ps h)

  pub constant-fits : (ps : Pieces) → Fits ps → IsSoft (flat ps) → Fits (constant target n t ps) × Starts (flat (constant target n t ps))
  unfolding constant
  constant-fits ps f s = chosen (int_lt n (pos 0)) (int_eq n (least_of t target)) refl refl ps f s

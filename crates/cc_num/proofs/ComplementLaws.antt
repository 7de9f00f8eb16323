-- ~a is -a - 1: in a signed type that is a value; in an unsigned one it differs by 2^w from what a
-- lacks to the greatest value.
use Rattle.std.proofs.Common.{◌≡◌, ℕ, ◌^◌, Bool, true, false, ℤ, pos, neg_ℤ, ◌+ℤ◌, ◌-ℤ◌, Some, ap, ◌∙◌, arith, pow_pos}
use Rattle.std.proofs.lemmas.Int.{ints}
use Rattle.cc_num.specs.declared.int_type.IntType.{IntType}
use Rattle.cc_num.specs.declared.target.Target.{Target}
use Rattle.cc_num.specs.declared.op.UnOp.TheVariants as unary
use Rattle.cc_num.specs.Integers.{bits_of, is_signed, most_of, most_of_bits, IsValueOf}
use Rattle.cc_num.specs.Promotions.{promoted}
use Rattle.cc_num.specs.Results.{unary_result_of}
use Rattle.cc_num.proofs.Residues.{remainder_same}
use Rattle.cc_num.proofs.Conversions.{most_is, converted-same}
use Rattle.cc_num.proofs.Patterns.{converted_like}
use Rattle.cc_num.proofs.PromotionLaws.{not_Bool}
use Rattle.cc_num.proofs.ResultLaws.{unsigned_least}
use Rattle.cc_num.proofs.DivisionLaws.{ends_apart}

pub signed_complement : (a : ℤ) (t : IntType) (target : Target) → is_signed t target ≡ true → IsValueOf t target a → unary_result_of unary.Not a t target ≡ Some (neg_ℤ a -ℤ pos 1)
unfolding unary_result_of
signed_complement a t target s h =
    let e = ends_apart t target s in
    let l = h.least in
    let m = h.most in
    ap Some (converted-same t target (neg_ℤ a -ℤ pos 1) (record { least = omega (arith, ints); most = omega (arith, ints) }))

unsigned_most : (s : Bool) (w : ℕ) → s ≡ false → most_of_bits s w +ℤ pos 1 ≡ pos (2 ^ w)
unsigned_most true w s = cc
unsigned_most false w s = let p = pow_pos w in omega (arith, ints)

pub unsigned_complement : (a : ℤ) (t : IntType) (target : Target) → promoted t target ≡ t → is_signed t target ≡ false → IsValueOf t target a → unary_result_of unary.Not a t target ≡ Some (most_of t target -ℤ a)
unfolding unary_result_of
unsigned_complement a t target p s h =
    let other = not_Bool t target p in
    let e = most_is t target other in
    let u = unsigned_most (is_signed t target) (bits_of t target) s in
    let z = unsigned_least t target s in
    let l = h.least in
    let m = h.most in
    let same = remainder_same (neg_ℤ a -ℤ pos 1) (most_of t target -ℤ a) (2 ^ bits_of t target) 0 1 (pow_pos (bits_of t target)) (omega (arith, ints)) in
    ap Some (converted_like (neg_ℤ a -ℤ pos 1) (most_of t target -ℤ a) t target other same
    ∙ converted-same t target (most_of t target -ℤ a) (record { least = omega (arith, ints); most = omega (arith, ints) }))

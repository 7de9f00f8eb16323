-- A promotion gives a type of the rank of int or more, and such a type stays. Of those types the
-- rank and the sign tell which it is, so that the usual conversions are commutative.
use Rattle.std.proofs.Common.{◌≡◌, ◌≢◌, ℕ, ◌≤◌, Bool, true, false, refl, sym, ap, ap₂, ◌∙◌, arith, if◌then◌else◌, nat_lt, nat_le, ltb-true, ltb-false, zero, suc}
use Rattle.cc_num.specs.declared.int_type.IntType.{IntType}
use Rattle.cc_num.specs.declared.int_type.IntType.TheVariants as int
use Rattle.cc_num.specs.declared.target.Target.{Target}
use Rattle.cc_num.specs.Integers.{is_signed, represents_all}
use Rattle.cc_num.specs.Promotions.{rank_of, unsigned_of, promoted, mixed_of, common_by, common_of, usual_of}

-- int or unsigned int, by a test
int_or : (b : Bool) → 3 ≤ rank_of (if b then int.Int else int.UInt)
int_or true = omega arith
int_or false = omega arith

-- what a promotion gives has at least the rank of int
pub rank_of-promoted : (t : IntType) (target : Target) → 3 ≤ rank_of (promoted t target)
unfolding promoted
rank_of-promoted int.Bool target = int_or (represents_all int.Int int.Bool target)
rank_of-promoted int.Char target = int_or (represents_all int.Int int.Char target)
rank_of-promoted int.SChar target = int_or (represents_all int.Int int.SChar target)
rank_of-promoted int.UChar target = int_or (represents_all int.Int int.UChar target)
rank_of-promoted int.Short target = int_or (represents_all int.Int int.Short target)
rank_of-promoted int.UShort target = int_or (represents_all int.Int int.UShort target)
rank_of-promoted t target = omega arith

-- and what has that rank stays
pub promoted-same : (t : IntType) (target : Target) → 3 ≤ rank_of t → promoted t target ≡ t
unfolding promoted
promoted-same int.Bool target h = absurd (omega arith)
promoted-same int.Char target h = absurd (omega arith)
promoted-same int.SChar target h = absurd (omega arith)
promoted-same int.UChar target h = absurd (omega arith)
promoted-same int.Short target h = absurd (omega arith)
promoted-same int.UShort target h = absurd (omega arith)
promoted-same t target h = refl

pub promoted-promoted : (t : IntType) (target : Target) → promoted (promoted t target) target ≡ promoted t target
promoted-promoted t target = promoted-same (promoted t target) target (rank_of-promoted t target)

-- so a type that is its own promotion has it
pub rank_from_promoted : (t : IntType) (target : Target) → promoted t target ≡ t → 3 ≤ rank_of t
rank_from_promoted t target e = let h = rank_of-promoted t target in let r = ap rank_of e in omega arith

pub not_Bool : (t : IntType) (target : Target) → promoted t target ≡ t → t ≢ int.Bool
not_Bool t target e = λ b. let h = rank_from_promoted t target e in let r = ap rank_of b in absurd (omega arith)

-- the usual conversions give such a type too
rank_of-unsigned_of : (t : IntType) → rank_of (unsigned_of t) ≡ rank_of t
rank_of-unsigned_of int.SChar = refl
rank_of-unsigned_of t = refl

rank_of-either : (c : Bool) (x y : IntType) → 3 ≤ rank_of x → 3 ≤ rank_of y → 3 ≤ rank_of (if c then x else y)
rank_of-either true x y h k = h
rank_of-either false x y h k = k

rank_of-mixed_of : (s u : IntType) (target : Target) → 3 ≤ rank_of s → 3 ≤ rank_of u → 3 ≤ rank_of (mixed_of s u target)
rank_of-mixed_of s u target h k =
    let n : 3 ≤ rank_of (unsigned_of s) = let e = rank_of-unsigned_of s in omega arith in
    rank_of-either (nat_le (rank_of s) (rank_of u)) u (if represents_all s u target then s else unsigned_of s) k (rank_of-either (represents_all s u target) s (unsigned_of s) h n)

rank_of-common_by : (s u : Bool) (a b : IntType) (target : Target) → 3 ≤ rank_of a → 3 ≤ rank_of b → 3 ≤ rank_of (common_by s u a b target)
rank_of-common_by true false a b target h k = rank_of-mixed_of a b target h k
rank_of-common_by false true a b target h k = rank_of-mixed_of b a target k h
rank_of-common_by true true a b target h k = rank_of-either (nat_lt (rank_of a) (rank_of b)) b a k h
rank_of-common_by false false a b target h k = rank_of-either (nat_lt (rank_of a) (rank_of b)) b a k h

pub promoted-usual_of : (a b : IntType) (target : Target) → promoted (usual_of a b target) target ≡ usual_of a b target
unfolding usual_of
promoted-usual_of a b target =
    let p = promoted a target in
    let q = promoted b target in
    promoted-same (common_of p q target) target
    (rank_of-common_by (is_signed p target) (is_signed q target) p q target (rank_of-promoted a target) (rank_of-promoted b target))

-- the type of that rank, from int on, with a sign or without
named : ℕ → Bool → IntType
named (suc (suc (suc zero))) true = int.Int
named (suc (suc (suc zero))) false = int.UInt
named (suc (suc (suc (suc zero)))) true = int.Long
named (suc (suc (suc (suc zero)))) false = int.ULong
named _ true = int.LongLong
named _ false = int.ULongLong

named-rank_of : (t : IntType) (target : Target) → 3 ≤ rank_of t → named (rank_of t) (is_signed t target) ≡ t
unfolding named
named-rank_of int.Bool target h = absurd (omega arith)
named-rank_of int.Char target h = absurd (omega arith)
named-rank_of int.SChar target h = absurd (omega arith)
named-rank_of int.UChar target h = absurd (omega arith)
named-rank_of int.Short target h = absurd (omega arith)
named-rank_of int.UShort target h = absurd (omega arith)
named-rank_of t target h = refl

same_type : (a b : IntType) (target : Target) → 3 ≤ rank_of a → 3 ≤ rank_of b → rank_of a ≡ rank_of b → is_signed a target ≡ is_signed b target → a ≡ b
same_type a b target h k r s = sym (named-rank_of a target h) ∙ ap₂ named r s ∙ named-rank_of b target k

-- the order of the operands is free
greater_by : (c d : Bool) (a b : IntType) → nat_lt (rank_of a) (rank_of b) ≡ c → nat_lt (rank_of b) (rank_of a) ≡ d → (rank_of a ≡ rank_of b → a ≡ b) → (if c then b else a) ≡ (if d then a else b)
greater_by true true a b e f same = let m = ltb-true (rank_of a) (rank_of b) e in let n = ltb-true (rank_of b) (rank_of a) f in absurd (omega arith)
greater_by true false a b e f same = refl
greater_by false true a b e f same = refl
greater_by false false a b e f same = let m = ltb-false (rank_of a) (rank_of b) e in let n = ltb-false (rank_of b) (rank_of a) f in same (omega arith)

common_swap : (s u : Bool) (a b : IntType) (target : Target) → is_signed a target ≡ s → is_signed b target ≡ u → 3 ≤ rank_of a → 3 ≤ rank_of b → common_by s u a b target ≡ common_by u s b a target
common_swap true false a b target e f h k = refl
common_swap false true a b target e f h k = refl
common_swap true true a b target e f h k = greater_by (nat_lt (rank_of a) (rank_of b)) (nat_lt (rank_of b) (rank_of a)) a b refl refl (λ r. same_type a b target h k r (e ∙ sym f))
common_swap false false a b target e f h k = greater_by (nat_lt (rank_of a) (rank_of b)) (nat_lt (rank_of b) (rank_of a)) a b refl refl (λ r. same_type a b target h k r (e ∙ sym f))

pub usual_of-comm : (a b : IntType) (target : Target) → usual_of a b target ≡ usual_of b a target
unfolding usual_of
usual_of-comm a b target =
    let p = promoted a target in
    let q = promoted b target in
    common_swap (is_signed p target) (is_signed q target) p q target refl refl (rank_of-promoted a target) (rank_of-promoted b target)

-- two operands of one type have its promotion
either_same : (c : Bool) (p : IntType) → (if c then p else p) ≡ p
either_same true p = refl
either_same false p = refl

common_same : (s : Bool) (p : IntType) (target : Target) → common_by s s p p target ≡ p
common_same true p target = either_same (nat_lt (rank_of p) (rank_of p)) p
common_same false p target = either_same (nat_lt (rank_of p) (rank_of p)) p

pub usual_of-same : (t : IntType) (target : Target) → usual_of t t target ≡ promoted t target
unfolding usual_of
usual_of-same t target = let p = promoted t target in common_same (is_signed p target) p target

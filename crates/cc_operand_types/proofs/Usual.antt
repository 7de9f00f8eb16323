-- The usual conversions with what they give change nothing more.
use Rattle.std.proofs.Common.{◌≡◌, ◌≤◌, Bool, true, false, refl, ap, sym, ◌∙◌, arith, if◌then◌else◌}
use Rattle.cc_program.specs.CcNum.declared.int_type.IntType.{IntType}
use Rattle.cc_program.specs.CcNum.declared.int_type.IntType.TheVariants as int
use Rattle.cc_program.specs.CcNum.declared.target.Target.{Target}
use Rattle.cc_program.specs.CcNum.Integers.{represents_all}
use Rattle.cc_program.specs.CcNum.Promotions.{rank_of, promoted, common_of, usual_of}
use Rattle.cc_program.proofs.CcNum.PromotionLaws.{rank_of-promoted, promoted-usual_of}

of-UInt-Long : (c : Target) (b : Bool) → represents_all int.Long int.UInt c ≡ b → common_of int.UInt (if b then int.Long else int.ULong) c ≡ (if b then int.Long else int.ULong)
of-UInt-Long c true h = rw h refl
of-UInt-Long c false h = refl

of-UInt-LongLong : (c : Target) (b : Bool) → represents_all int.LongLong int.UInt c ≡ b → common_of int.UInt (if b then int.LongLong else int.ULongLong) c ≡ (if b then int.LongLong else int.ULongLong)
of-UInt-LongLong c true h = rw h refl
of-UInt-LongLong c false h = refl

of-Long-UInt : (c : Target) (b : Bool) → represents_all int.Long int.UInt c ≡ b → common_of int.Long (if b then int.Long else int.ULong) c ≡ (if b then int.Long else int.ULong)
of-Long-UInt c true h = refl
of-Long-UInt c false h = refl

of-ULong-LongLong : (c : Target) (b : Bool) → represents_all int.LongLong int.ULong c ≡ b → common_of int.ULong (if b then int.LongLong else int.ULongLong) c ≡ (if b then int.LongLong else int.ULongLong)
of-ULong-LongLong c true h = refl
of-ULong-LongLong c false h = refl

of-LongLong-UInt : (c : Target) (b : Bool) → represents_all int.LongLong int.UInt c ≡ b → common_of int.LongLong (if b then int.LongLong else int.ULongLong) c ≡ (if b then int.LongLong else int.ULongLong)
of-LongLong-UInt c true h = refl
of-LongLong-UInt c false h = refl

of-LongLong-ULong : (c : Target) (b : Bool) → represents_all int.LongLong int.ULong c ≡ b → common_of int.LongLong (if b then int.LongLong else int.ULongLong) c ≡ (if b then int.LongLong else int.ULongLong)
of-LongLong-ULong c true h = refl
of-LongLong-ULong c false h = refl

common_again : (a b : IntType) (c : Target) → 3 ≤ rank_of a → 3 ≤ rank_of b → common_of a (common_of a b c) c ≡ common_of a b c
common_again int.Int int.Int c h k = refl
common_again int.Int int.UInt c h k = refl
common_again int.Int int.Long c h k = refl
common_again int.Int int.ULong c h k = refl
common_again int.Int int.LongLong c h k = refl
common_again int.Int int.ULongLong c h k = refl
common_again int.Int int.Bool c h k = absurd (omega (arith, k))
common_again int.Int int.Char c h k = absurd (omega (arith, k))
common_again int.Int int.SChar c h k = absurd (omega (arith, k))
common_again int.Int int.UChar c h k = absurd (omega (arith, k))
common_again int.Int int.Short c h k = absurd (omega (arith, k))
common_again int.Int int.UShort c h k = absurd (omega (arith, k))
common_again int.UInt int.Int c h k = refl
common_again int.UInt int.UInt c h k = refl
common_again int.UInt int.Long c h k = of-UInt-Long c (represents_all int.Long int.UInt c) refl
common_again int.UInt int.ULong c h k = refl
common_again int.UInt int.LongLong c h k = of-UInt-LongLong c (represents_all int.LongLong int.UInt c) refl
common_again int.UInt int.ULongLong c h k = refl
common_again int.UInt int.Bool c h k = absurd (omega (arith, k))
common_again int.UInt int.Char c h k = absurd (omega (arith, k))
common_again int.UInt int.SChar c h k = absurd (omega (arith, k))
common_again int.UInt int.UChar c h k = absurd (omega (arith, k))
common_again int.UInt int.Short c h k = absurd (omega (arith, k))
common_again int.UInt int.UShort c h k = absurd (omega (arith, k))
common_again int.Long int.Int c h k = refl
common_again int.Long int.UInt c h k = of-Long-UInt c (represents_all int.Long int.UInt c) refl
common_again int.Long int.Long c h k = refl
common_again int.Long int.ULong c h k = refl
common_again int.Long int.LongLong c h k = refl
common_again int.Long int.ULongLong c h k = refl
common_again int.Long int.Bool c h k = absurd (omega (arith, k))
common_again int.Long int.Char c h k = absurd (omega (arith, k))
common_again int.Long int.SChar c h k = absurd (omega (arith, k))
common_again int.Long int.UChar c h k = absurd (omega (arith, k))
common_again int.Long int.Short c h k = absurd (omega (arith, k))
common_again int.Long int.UShort c h k = absurd (omega (arith, k))
common_again int.ULong int.Int c h k = refl
common_again int.ULong int.UInt c h k = refl
common_again int.ULong int.Long c h k = refl
common_again int.ULong int.ULong c h k = refl
common_again int.ULong int.LongLong c h k = of-ULong-LongLong c (represents_all int.LongLong int.ULong c) refl
common_again int.ULong int.ULongLong c h k = refl
common_again int.ULong int.Bool c h k = absurd (omega (arith, k))
common_again int.ULong int.Char c h k = absurd (omega (arith, k))
common_again int.ULong int.SChar c h k = absurd (omega (arith, k))
common_again int.ULong int.UChar c h k = absurd (omega (arith, k))
common_again int.ULong int.Short c h k = absurd (omega (arith, k))
common_again int.ULong int.UShort c h k = absurd (omega (arith, k))
common_again int.LongLong int.Int c h k = refl
common_again int.LongLong int.UInt c h k = of-LongLong-UInt c (represents_all int.LongLong int.UInt c) refl
common_again int.LongLong int.Long c h k = refl
common_again int.LongLong int.ULong c h k = of-LongLong-ULong c (represents_all int.LongLong int.ULong c) refl
common_again int.LongLong int.LongLong c h k = refl
common_again int.LongLong int.ULongLong c h k = refl
common_again int.LongLong int.Bool c h k = absurd (omega (arith, k))
common_again int.LongLong int.Char c h k = absurd (omega (arith, k))
common_again int.LongLong int.SChar c h k = absurd (omega (arith, k))
common_again int.LongLong int.UChar c h k = absurd (omega (arith, k))
common_again int.LongLong int.Short c h k = absurd (omega (arith, k))
common_again int.LongLong int.UShort c h k = absurd (omega (arith, k))
common_again int.ULongLong int.Int c h k = refl
common_again int.ULongLong int.UInt c h k = refl
common_again int.ULongLong int.Long c h k = refl
common_again int.ULongLong int.ULong c h k = refl
common_again int.ULongLong int.LongLong c h k = refl
common_again int.ULongLong int.ULongLong c h k = refl
common_again int.ULongLong int.Bool c h k = absurd (omega (arith, k))
common_again int.ULongLong int.Char c h k = absurd (omega (arith, k))
common_again int.ULongLong int.SChar c h k = absurd (omega (arith, k))
common_again int.ULongLong int.UChar c h k = absurd (omega (arith, k))
common_again int.ULongLong int.Short c h k = absurd (omega (arith, k))
common_again int.ULongLong int.UShort c h k = absurd (omega (arith, k))
common_again int.Bool b c h k = absurd (omega (arith, h))
common_again int.Char b c h k = absurd (omega (arith, h))
common_again int.SChar b c h k = absurd (omega (arith, h))
common_again int.UChar b c h k = absurd (omega (arith, h))
common_again int.Short b c h k = absurd (omega (arith, h))
common_again int.UShort b c h k = absurd (omega (arith, h))

usual_opened : (s j : IntType) (c : Target) → usual_of s j c ≡ common_of (promoted s c) (promoted j c) c
unfolding usual_of
usual_opened s j c = refl

pub usual_again : (s j : IntType) (c : Target) → usual_of s (usual_of s j c) c ≡ usual_of s j c
usual_again s j c = usual_opened s (usual_of s j c) c ∙ ap (λ (t : IntType). common_of (promoted s c) t c) (promoted-usual_of s j c ∙ usual_opened s j c)
    ∙ common_again (promoted s c) (promoted j c) c (rank_of-promoted s c) (rank_of-promoted j c) ∙ sym (usual_opened s j c)

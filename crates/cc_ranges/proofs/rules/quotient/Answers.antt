-- A quotient is no greater than what is divided, with either sign.
use Rattle.std.proofs.Common.{◌≡◌, Bool, true, false, ◌&&◌, ℤ, pos, neg_ℤ, int_le, None, if◌then◌else◌, refl, sym, ap, ap₂, ◌∙◌}
use Rattle.cc_num.specs.declared.int_type.IntType.{IntType}
use Rattle.cc_num.specs.declared.target.Target.{Target}
use Rattle.cc_ranges.specs.Ends.{Ends, fitted}
use Rattle.cc_ranges.specs.Rules.{only_zero, magnitude, div_rule}
use Rattle.cc_ranges.proofs.Narrow.{low_narrow, test_low, cast_same, cast_negated}
use Rattle.cc_ranges.proofs.rules.quotient.Goals as goal
use Rattle.cc_ranges.proofs.rules.quotient.Goals.{else-a-ge0-via-then-a-ge0+else-b-ge0, else-a-ge0-via-else-a-ge0}

first_off : (p q : Bool) → p ≡ false → (p && q) ≡ false
first_off p q e = ap (λ x. x && q) e

second_off : (p q : Bool) → q ≡ false → (p && q) ≡ false
second_off true q e = e
second_off false q e = refl

either_sign : (r : Ends) (la ha lb hb x y : ℤ) (t : IntType) (target : Target) → only_zero lb hb ≡ false → (int_le (pos 0) la && int_le (pos 0) lb) ≡ false
    → r ≡ fitted x y t target → x ≡ neg_ℤ (pos (magnitude la ha)) → y ≡ pos (magnitude la ha) → r ≡ div_rule la ha lb hb t target
unfolding div_rule
either_sign r la ha lb hb x y t target z p f g h =
    f ∙ ap₂ (λ u v. fitted u v t target) g h
    ∙ sym (ap (λ b. if b then None else (if int_le (pos 0) la && int_le (pos 0) lb then fitted (pos 0) ha t target else fitted (neg_ℤ (pos (magnitude la ha))) (pos (magnitude la ha)) t target)) z
    ∙ ap (λ b. if b then fitted (pos 0) ha t target else fitted (neg_ℤ (pos (magnitude la ha))) (pos (magnitude la ha)) t target) p)

pub returns : goal.returns
returns c =
    let a = c.args.a.now in
    let b = c.args.b.now in
    let m = c.magnitude-most.ensures in
    let off : (int_le (pos 0) a.low && int_le (pos 0) b.low) ≡ false = elim c.else-a-ge0.branch [
      | else-a-ge0-via-then-a-ge0+else-b-ge0 w ↦ second_off _ _ (test_low b.low false (low_narrow b.low b.high b.ends) w.if-b-ge0.false)
      | else-a-ge0-via-else-a-ge0 w ↦ first_off _ _ (test_low a.low false (low_narrow a.low a.high a.ends) w.if-a-ge0.false)
    ] in
    either_sign _ a.low a.high b.low b.high _ _ c.args.t c.args.target.now (sym c.only_zero.ensures ∙ c.if-only_zero.false) off c.fitted-2.ensures
    (cast_negated _ m.most ∙ ap (λ n. neg_ℤ (pos n)) m.value) (cast_same _ m.most ∙ ap pos m.value)

-- The least and the greatest value of a type are those of its bits.
use Rattle.std.proofs.Common.{◌≡◌, ◌∙◌, ℕ, Bool, ℤ, ◌≤ℤ◌, sym, ap₂, subst}
use Rattle.cc_num.specs.declared.int_type.IntType.{IntType}
use Rattle.cc_num.specs.declared.target.Target.{Target}
use Rattle.cc_num.specs.Integers.{IsValueOf}
use Rattle.cc_num.specs.Integers.{least_of, most_of, least_of_bits, most_of_bits}
use Rattle.cc_num.proofs.Conversions.{least_is, most_is}
use Rattle.cc_sets.proofs.make.whole.Goals as goal

whole_has : (s : Bool) (b : ℕ) (low high : ℤ) (t : IntType) (target : Target) → least_of t target ≡ low → most_of t target ≡ high → (v : ℤ) → ((low ≤ℤ v) × (v ≤ℤ high) → IsValueOf t target v) × (IsValueOf t target v → (low ≤ℤ v) × (v ≤ℤ high))
whole_has s b low high t target e f v = (
  λ h. record { least = subst (λ (x : ℤ). x ≤ℤ v) (sym e) h.0; most = subst (λ (x : ℤ). v ≤ℤ x) (sym f) h.1 },
  λ h. (subst (λ (x : ℤ). x ≤ℤ v) e h.least, subst (λ (x : ℤ). v ≤ℤ x) f h.most),
)

pub returns-in_default : goal.returns-in_default
returns-in_default c =
    let t = c.args.t in
    let target = c.args.target.now in
    whole_has c.is_signed.result c.bits.result (least_of_bits c.is_signed.result c.bits.result) (most_of_bits c.is_signed.result c.bits.result) t target
    (least_is t target ∙ ap₂ least_of_bits (sym c.is_signed.ensures) (sym c.bits.ensures.value))
    (most_is t target c.in_default.not-Bool ∙ ap₂ most_of_bits (sym c.is_signed.ensures) (sym c.bits.ensures.value))

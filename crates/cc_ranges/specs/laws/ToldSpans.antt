-- Intervals are known by their members: one is below those that have its members, a comparison of two gives what members of them give, and
-- one whose numbers have a type stays what it is when it is converted to that type.
use Rattle.std.specs.Prelude.{◌≡◌, ◌⊎◌, true, ℤ, ◌≤ℤ◌, None}
use Rattle.std.specs.Int.{int_max}
use Rattle.std.proofs.Common.{refl, sym, subst, ◌∙◌, arith}
use Rattle.std.specs.Option.{IfSome}
use Rattle.std.proofs.lemmas.Int.{ints, clamps}
use Rattle.cc_num.specs.declared.int_type.IntType.{IntType}
use Rattle.cc_num.specs.declared.target.Target.{Target}
use Rattle.cc_num.specs.declared.op.BinOp.{BinOp}
use Rattle.cc_num.specs.Integers.{IsValueOf}
use Rattle.cc_lattice.specs.Domains.{AreOperands, AreMatched, IsResultOf, is_comparison, is_order}
use Rattle.cc_ranges.specs.declared.span.Interval.{Interval}
use Rattle.cc_ranges.specs.declared.span.Span.{Span}
use Rattle.cc_ranges.specs.declared.span.Span.TheVariants.{Empty, Between}
use Rattle.cc_ranges.specs.Ends.{Ends, EndsHave, EndsBelow, IsInterval}
use Rattle.cc_ranges.specs.Rules.{op_ends, to_ends}
use Rattle.cc_ranges.specs.Spans.{ends_of}
use Rattle.cc_ranges.specs.laws.Fits.{ends_itself}
use Rattle.cc_ranges.specs.laws.SpanLaws.{SpanHas, SpanBelow, spans_same, low_in, high_in}
use Rattle.cc_ranges.specs.laws.ToldRules.{HaveCommon, HaveEnds, IsTold, rule_told, told_result, conversion_kept}

pub span_members_below : (x y : Span) → ((v : ℤ) → SpanHas x v → SpanHas y v) → SpanBelow x y
span_members_below Empty y h = tt
span_members_below (Between i) Empty h = absurd (h i.low (low_in i))
span_members_below (Between i) (Between j) h = ((h i.low (low_in i)).0, (h i.high (high_in i)).1)

-- comparisons

their_ends : (i j : Interval) → HaveEnds (SpanHas (Between i)) (SpanHas (Between j)) i.low i.high j.low j.high
their_ends i j = record {
  low_in_left = low_in i;
  high_in_left = high_in i;
  low_in_right = low_in j;
  high_in_right = high_in j;
  left_ordered = i.ends.ordered;
  right_ordered = j.ends.ordered;
}

-- intervals that are not apart have the greater of their low ends
they_meet : (i j : Interval) → j.low ≤ℤ i.high → i.low ≤ℤ j.high → HaveCommon (SpanHas (Between i)) (SpanHas (Between j))
they_meet i j h k =
    let a = i.ends.ordered in let b = j.ends.ordered in
    (int_max i.low j.low, (omega (arith, ints, clamps), omega (arith, ints, clamps)), (omega (arith, ints, clamps), omega (arith, ints, clamps)))

told_by : (o : BinOp) (a b : Span) (t : IntType) (target : Target) → is_comparison o ≡ true → (z : ℤ) → EndsHave (op_ends o (ends_of a) (ends_of b) t target) z → IsTold (SpanHas a) (SpanHas b) o z
told_by o Empty b t target c z h = absurd h
told_by o (Between i) Empty t target c z h = absurd h
told_by o (Between i) (Between j) t target c z h =
    rule_told o (SpanHas (Between i)) (SpanHas (Between j)) i.low i.high j.low j.high z t target c (their_ends i j) (λ e. they_meet i j) h

pub span_comparison_told : (o : BinOp) (a b r : Span) (t : IntType) (target : Target) → is_comparison o ≡ true → AreOperands SpanHas o a b t target
    → ends_of r ≡ op_ends o (ends_of a) (ends_of b) t target → (is_order o ≡ true) ⊎ AreMatched SpanHas (λ _. None) a b → (z : ℤ) → SpanHas r z → IsResultOf SpanHas o a b t target z
span_comparison_told o a b r t target c k e m z h =
    told_result o (SpanHas a) (SpanHas b) z t target c (told_by o a b t target c z (subst (λ (x : Ends). EndsHave x z) e h))

-- conversions

to_ends_kept : (a : Span) (t : IntType) (target : Target) → ((v : ℤ) → SpanHas a v → IsValueOf t target v) → to_ends (ends_of a) t target ≡ ends_of a
to_ends_kept Empty t target h = refl
to_ends_kept (Between i) t target h =
    conversion_kept i.low i.high t target i.ends.ordered (record { first = (h i.low (low_in i)).least; last = (h i.high (high_in i)).most })

same_span : (r a : Span) → ends_of r ≡ ends_of a → r ≡ a
same_span r a e = spans_same r a
    (subst (λ (x : Ends). EndsBelow x (ends_of a)) (sym e) (ends_itself (ends_of a)))
    (subst (λ (x : Ends). EndsBelow (ends_of a) x) (sym e) (ends_itself (ends_of a)))

pub span_to_kept : (a r : Span) (t : IntType) (target : Target) → ends_of r ≡ to_ends (ends_of a) t target → ((v : ℤ) → SpanHas a v → IsValueOf t target v) → r ≡ a
span_to_kept a r t target e h = same_span r a (e ∙ to_ends_kept a t target h)

-- the least interval that has a number has no other

alone : (v : ℤ) → IsInterval v v → Span
alone v e = Between (record { low = v; high = v; ends = e })

pub span_least_alone : (x : Span) (v : ℤ) → SpanHas x v → ((y : Span) → SpanHas y v → SpanBelow x y) → (w : ℤ) → SpanHas x w → v ≡ w
unfolding alone
span_least_alone Empty v h least w m = absurd h
span_least_alone (Between i) v h least w m =
    let e = i.ends in let low = h.0 in let high = h.1 in
    let ends : IsInterval v v = record { ordered = omega (arith, ints); least = let a = e.least in omega (arith, ints); most = let b = e.most in omega (arith, ints) } in
    let k = least (alone v ends) (omega (arith, ints), omega (arith, ints)) in let k0 = k.0 in let k1 = k.1 in let m0 = m.0 in let m1 = m.1 in omega (arith, ints)

-- an interval has all numbers between its ends

pub span_range_has : (x : Span) → IfSome (ends_of x) (λ (ends : ℤ × ℤ). (v : ℤ) → ends.0 ≤ℤ v → v ≤ℤ ends.1 → SpanHas x v)
span_range_has Empty = tt
span_range_has (Between i) = λ v low high. (low, high)

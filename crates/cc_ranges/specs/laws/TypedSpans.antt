-- Intervals keep to their types: operators, conversions and joins give no values but those of the type of their result.
use Rattle.std.specs.Prelude.{◌≡◌, ℤ, ◌≤ℤ◌}
use Rattle.std.proofs.Common.{subst, arith}
use Rattle.std.proofs.lemmas.Int.{ints}
use Rattle.cc_num.specs.declared.int_type.IntType.{IntType}
use Rattle.cc_num.specs.declared.target.Target.{Target}
use Rattle.cc_num.specs.declared.op.BinOp.{BinOp}
use Rattle.cc_num.specs.declared.op.UnOp.{UnOp}
use Rattle.cc_num.specs.Integers.{least_of, most_of, IsValueOf}
use Rattle.cc_num.specs.Results.{is_shift}
use Rattle.cc_num.proofs.ResultLaws.{least_low, most_high}
use Rattle.cc_lattice.specs.Domains.{AreOperands, AreOperandsOne, IsInReach, type_given, type_given_of_one}
use Rattle.cc_lattice.specs.Orders.{IsLeastUpperBound}
use Rattle.cc_lattice.proofs.IntValues.{least_in, most_in}
use Rattle.cc_ranges.specs.declared.span.Span.{Span}
use Rattle.cc_ranges.specs.declared.span.Span.TheVariants.{Empty, Between}
use Rattle.cc_ranges.specs.Ends.{Ends, EndsHave, EndsBelow, whole_ends}
use Rattle.cc_ranges.specs.Rules.{op_ends, op_one_ends, to_ends}
use Rattle.cc_ranges.specs.Spans.{ends_of}
use Rattle.cc_ranges.specs.laws.Fits.{below_has}
use Rattle.cc_ranges.specs.laws.SpanLaws.{SpanHas, SpanBelow, low_in, high_in, second_value}
use Rattle.cc_ranges.specs.laws.TypedRules.{rule_in, one_in, conversion_in, value_in}

pub span_in_reach : (x : Span) (v : ℤ) → SpanHas x v → IsInReach v
span_in_reach Empty v h = absurd h
span_in_reach (Between i) v h =
    let a = i.ends.least in let b = i.ends.most in let c = h.0 in let d = h.1 in
    record { least = omega (arith, ints); most = omega (arith, ints) }

named_value : (e f : Ends) (t : IntType) (target : Target) (v : ℤ) → e ≡ f → EndsBelow f (whole_ends t target) → EndsHave e v → IsValueOf t target v
named_value e f t target v same h k = value_in f t target v h (subst (λ (x : Ends). EndsHave x v) same k)

op_ends_in : (o : BinOp) (a b : Span) (t : IntType) (target : Target) → AreOperands SpanHas o a b t target → EndsBelow (op_ends o (ends_of a) (ends_of b) t target) (whole_ends (type_given o t) target)
op_ends_in o Empty b t target k = tt
op_ends_in o (Between i) Empty t target k = tt
op_ends_in o (Between i) (Between j) t target k =
    rule_in o i.low i.high j.low j.high t target i.ends.ordered
    (record { first = (k.first i.low (low_in i)).least; last = (k.first i.high (high_in i)).most })
    (λ s. record {
      first = (second_value (is_shift o) t target j.low s (k.second j.low (low_in j))).least;
      last = (second_value (is_shift o) t target j.high s (k.second j.high (high_in j))).most;
    })

pub span_op_typed : (o : BinOp) (a b r : Span) (t : IntType) (target : Target) → AreOperands SpanHas o a b t target → ends_of r ≡ op_ends o (ends_of a) (ends_of b) t target
    → (v : ℤ) → SpanHas r v → IsValueOf (type_given o t) target v
span_op_typed o a b r t target k e v h = named_value (ends_of r) (op_ends o (ends_of a) (ends_of b) t target) (type_given o t) target v e (op_ends_in o a b t target k) h

one_ends_in : (o : UnOp) (a : Span) (t : IntType) (target : Target) → AreOperandsOne SpanHas a t target → EndsBelow (op_one_ends o (ends_of a) t target) (whole_ends (type_given_of_one o t) target)
one_ends_in o Empty t target k = tt
one_ends_in o (Between i) t target k = one_in o i.low i.high t target k.promotion (k.first i.low (low_in i)) (k.first i.high (high_in i))

pub span_one_typed : (o : UnOp) (a r : Span) (t : IntType) (target : Target) → AreOperandsOne SpanHas a t target → ends_of r ≡ op_one_ends o (ends_of a) t target
    → (v : ℤ) → SpanHas r v → IsValueOf (type_given_of_one o t) target v
span_one_typed o a r t target k e v h = named_value (ends_of r) (op_one_ends o (ends_of a) t target) (type_given_of_one o t) target v e (one_ends_in o a t target k) h

to_ends_in : (a : Span) (t : IntType) (target : Target) → EndsBelow (to_ends (ends_of a) t target) (whole_ends t target)
to_ends_in Empty t target = tt
to_ends_in (Between i) t target = conversion_in i.low i.high t target

pub span_to_typed : (a r : Span) (t : IntType) (target : Target) → ends_of r ≡ to_ends (ends_of a) t target → (v : ℤ) → SpanHas r v → IsValueOf t target v
span_to_typed a r t target e v h = named_value (ends_of r) (to_ends (ends_of a) t target) t target v e (to_ends_in a t target) h

-- the interval of all values of a type
whole_span : (t : IntType) (target : Target) → Span
whole_span t target = Between (record {
  low = least_of t target;
  high = most_of t target;
  ends = record { ordered = ordered; least = least_in t target; most = most_in t target };
})
  where
    ordered : least_of t target ≤ℤ most_of t target
    ordered = let l = least_low t target in let m = most_high t target in omega (arith, ints)

below_whole : (x : Span) (t : IntType) (target : Target) → ((v : ℤ) → SpanHas x v → IsValueOf t target v) → SpanBelow x (whole_span t target)
unfolding whole_span
below_whole Empty t target h = tt
below_whole (Between i) t target h = ((h i.low (low_in i)).least, (h i.high (high_in i)).most)

whole_value : (t : IntType) (target : Target) (v : ℤ) → SpanHas (whole_span t target) v → IsValueOf t target v
unfolding whole_span
whole_value t target v h = record { least = h.0; most = h.1 }

pub span_join_typed : (x y j : Span) (t : IntType) (target : Target) → IsLeastUpperBound (λ _ _. Unit {0}) SpanBelow x y j →
    ((v : ℤ) → SpanHas x v → IsValueOf t target v) → ((v : ℤ) → SpanHas y v → IsValueOf t target v) → (v : ℤ) → SpanHas j v → IsValueOf t target v
span_join_typed x y j t target l h k v m =
    let w = whole_span t target in
    whole_value t target v (below_has (ends_of j) (ends_of w) v (l.least w tt tt (below_whole x t target h) (below_whole y t target k)) m)

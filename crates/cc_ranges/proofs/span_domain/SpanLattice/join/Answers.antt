-- From the lesser of the low ends to the greater of the high ones.
use Rattle.std.proofs.Common.{◌≡◌, ℤ, FitsSigned, to_z, of_z, to_z-of_z, rules, sym, subst, ap₂, ◌∙◌, arith}
use Rattle.std.specs.Int.{w128, int_max, int_min}
use Rattle.std.proofs.lemmas.Int.{ints, clamps}
use Rattle.cc_lattice.specs.Orders.{IsLeastUpperBound}
use Rattle.cc_ranges.specs.declared.span.Interval.{Interval}
use Rattle.cc_ranges.specs.declared.span.Span.{Span}
use Rattle.cc_ranges.specs.declared.span.Span.TheVariants.{Empty, Between}
use Rattle.cc_ranges.specs.Ends.{IsInterval}
use Rattle.cc_ranges.specs.laws.SpanLaws.{SpanBelow}
use Rattle.cc_ranges.proofs.Narrow.{low_narrow, high_narrow, narrow_same}
use Rattle.cc_ranges.proofs.span_domain.SpanLattice.join.Goals as goal

-- the ends of the hull
record AreJoined (i j : Interval) (low high : ℤ) : Type 0 where
  lesser : low ≡ int_min i.low j.low
  greater : high ≡ int_max i.high j.high

joined_interval : (i j : Interval) (low high : ℤ) → AreJoined i j low high → IsInterval low high
joined_interval i j low high p =
    let e = p.lesser in let f = p.greater in
    let io = i.ends.ordered in let il = i.ends.least in let im = i.ends.most in
    let jo = j.ends.ordered in let jl = j.ends.least in let jm = j.ends.most in
    record { ordered = omega (arith, ints, clamps); least = omega (arith, ints, clamps); most = omega (arith, ints, clamps) }

abbrev interval : (low high : ℤ) → IsInterval low high → Interval
interval low high p = record { low = low; high = high; ends = p }

least_of_two : (i j : Interval) (low high : ℤ) (p : IsInterval low high) (u : Span) → AreJoined i j low high
    → SpanBelow (Between i) u → SpanBelow (Between j) u → SpanBelow (Between (interval low high p)) u
least_of_two i j low high p Empty q a b = absurd a
least_of_two i j low high p (Between k) q a b =
    let e = q.lesser in let f = q.greater in
    let a0 = a.0 in let a1 = a.1 in let b0 = b.0 in let b1 = b.1 in
    (omega (arith, ints, clamps), omega (arith, ints, clamps))

joined : (x y : Span) (i j : Interval) (low high : ℤ) (p : IsInterval low high) → x ≡ Between i → y ≡ Between j → AreJoined i j low high
    → IsLeastUpperBound (λ (_ : Span) (_ : Span). Unit {0}) SpanBelow x y (Between (interval low high p))
joined x y i j low high p e f q =
    let g = q.lesser in let h = q.greater in
    subst (λ (s : Span). IsLeastUpperBound (λ (_ : Span) (_ : Span). Unit {0}) SpanBelow s y (Between (interval low high p))) (sym e)
    (subst (λ (s : Span). IsLeastUpperBound (λ (_ : Span) (_ : Span). Unit {0}) SpanBelow (Between i) s (Between (interval low high p))) (sym f)
    (record {
      left_alike = tt;
      right_alike = tt;
      left = (omega (arith, ints, clamps), omega (arith, ints, clamps));
      right = (omega (arith, ints, clamps), omega (arith, ints, clamps));
      least = λ u _ _ a b. least_of_two i j low high p u q a b;
    }))

are_joined : (c : goal.After-greater) → AreJoined c.in-Between-Between.a c.in-Between-Between.b (to_z w128 (of_z w128 c.lesser.result)) (to_z w128 (of_z w128 c.greater.result))
are_joined c =
    let i = c.in-Between-Between.a in
    let j = c.in-Between-Between.b in
    let f : FitsSigned w128 c.lesser.result = search rules in
    let g : FitsSigned w128 c.greater.result = search rules in
    record {
      lesser = to_z-of_z f ∙ (c.lesser.ensures ∙ ap₂ int_min (narrow_same i.low (low_narrow i.low i.high i.ends)) (narrow_same j.low (low_narrow j.low j.high j.ends)));
      greater = to_z-of_z g ∙ (c.greater.ensures ∙ ap₂ int_max (narrow_same i.high (high_narrow i.low i.high i.ends)) (narrow_same j.high (high_narrow j.low j.high j.ends)));
    }

pub invariant_of-result : goal.invariant_of-result
invariant_of-result c = record { ends = joined_interval c.in-Between-Between.a c.in-Between-Between.b _ _ (are_joined c) }

pub returns-in-Between-Between : goal.returns-in-Between-Between
returns-in-Between-Between c =
    joined c.args.self.now c.args.other.now c.in-Between-Between.a c.in-Between-Between.b _ _ _ c.in-Between-Between.is-0 c.in-Between-Between.is-1 (are_joined c.before)

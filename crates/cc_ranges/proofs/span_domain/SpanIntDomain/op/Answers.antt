-- Both ends of a second operand are members, so they are values of the type where it is no shift's.
use Rattle.std.proofs.Common.{◌≡◌, false, subst}
use Rattle.cc_num.specs.declared.int_type.IntType.{IntType}
use Rattle.cc_num.specs.declared.target.Target.{Target}
use Rattle.cc_num.specs.declared.op.BinOp.{BinOp}
use Rattle.cc_num.specs.Results.{is_shift}
use Rattle.cc_lattice.specs.Domains.{AreOperands}
use Rattle.cc_ranges.specs.declared.span.Interval.{Interval}
use Rattle.cc_ranges.specs.declared.span.Span.{Span}
use Rattle.cc_ranges.specs.declared.span.Span.TheVariants.{Between}
use Rattle.cc_ranges.specs.Ends.{LieIn}
use Rattle.cc_ranges.specs.laws.SpanLaws.{SpanHas, second_value, low_in, high_in}
use Rattle.cc_ranges.proofs.span_domain.SpanIntDomain.op.Goals as goal

second_inside : (o : BinOp) (x y : Span) (j : Interval) (t : IntType) (target : Target) → AreOperands SpanHas o x y t target → y ≡ Between j → is_shift o ≡ false
    → LieIn j.low j.high t target
second_inside o x y j t target k e s =
    let operands = subst (λ (z : Span). AreOperands SpanHas o x z t target) e k in
    record {
      first = (second_value (is_shift o) t target j.low s (operands.second j.low (low_in j))).least;
      last = (second_value (is_shift o) t target j.high s (operands.second j.high (high_in j))).most;
    }

pub rule-requires-clause-second : goal.rule-requires-clause-second
rule-requires-clause-second c =
    λ s. second_inside c.args.op c.args.a.now c.args.b.now c.in-Between-Between.b c.args.t c.args.target.now c.requires c.in-Between-Between.is-1 s

-- Members of a second operand are values of the type where it is no shift's.
use Rattle.std.proofs.Common.{◌≡◌, false, ℤ, subst}
use Rattle.std.specs.List.{Contains}
use Rattle.cc_num.specs.declared.int_type.IntType.{IntType}
use Rattle.cc_num.specs.declared.target.Target.{Target}
use Rattle.cc_num.specs.declared.op.BinOp.{BinOp}
use Rattle.cc_num.specs.Integers.{IsValueOf}
use Rattle.cc_num.specs.Results.{is_shift}
use Rattle.cc_explicit.specs.declared.explicit.Explicit.{Explicit}
use Rattle.cc_sets.specs.declared.vals.Vals.{Vals}
use Rattle.cc_sets.specs.declared.vals.Vals.TheVariants.{Few}
use Rattle.cc_sets.specs.Rungs.{ValsHas}
use Rattle.cc_lattice.specs.Domains.{AreOperands}
use Rattle.cc_ranges.specs.laws.SpanLaws.{second_value}
use Rattle.cc_sets.proofs.vals_domain.ValsIntDomain.op.Goals as goal

second_values : (o : BinOp) (a b : Vals) (s : Explicit) (t : IntType) (target : Target) → AreOperands ValsHas o a b t target → b ≡ Few s → (v : ℤ) → Contains s.items.items v → is_shift o ≡ false → IsValueOf t target v
second_values o a b s t target k e v h g = second_value (is_shift o) t target v g ((subst (λ (x : Vals). AreOperands ValsHas o a x t target) e k).second v h)

pub image-requires-clause-second : goal.image-requires-clause-second
image-requires-clause-second c = second_values c.args.op c.args.a.now c.args.b.now c.in-Few-Few.b c.args.t c.args.target.now c.requires c.in-Few-Few.is-1

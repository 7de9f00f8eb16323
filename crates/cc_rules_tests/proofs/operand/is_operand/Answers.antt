-- An expression that is no conversion reads the register, or the conversion's operand does.
use Rattle.std.proofs.Common.{◌≡◌, true, ap, sym, ◌∙◌}
use Rattle.cc_rules_flows.specs.CcStateOperators.Domains.{domain}
use Rattle.cc_rules_tests.specs.Forms.{converted_view}
use Rattle.cc_rules_tests.proofs.Operands.{converted, not_converted}
use Rattle.cc_rules_tests.proofs.operand.is_operand.Goals as goal

pub returns-in-None : goal.returns-in-None
returns-in-None g c =
    not_converted (domain g.I.Concrete.Has g.I.Lattice.IsBelow g.I.IntDomain.OpGives g.I.IntDomain.OpOneGives g.I.IntDomain.ToGives g.I.IntDomain.KeepGives g.I.IntDomain.members_of) c.args.t.now c.args.r c.args.x.now c.requires c.args.a.now c.is_read.result (sym (sym (ap converted_view c.in-None.is) ∙ c.conversion_of.ensures)) c.is_read.ensures

pub returns-then-is_read : goal.returns-then-is_read
returns-then-is_read g c =
    converted (domain g.I.Concrete.Has g.I.Lattice.IsBelow g.I.IntDomain.OpGives g.I.IntDomain.OpOneGives g.I.IntDomain.ToGives g.I.IntDomain.KeepGives g.I.IntDomain.members_of) c.args.t.now c.args.r c.args.x.now c.requires c.args.a.now c.in-Some.c.operand.now c.in-Some.c.to c.are_values.result
    (sym (sym (ap converted_view c.in-Some.is) ∙ c.conversion_of.ensures))
    ((λ k. (c.is_read-in-Some.ensures.0 c.if-is_read.true, c.are_values.ensures.0 k)), (λ k. c.are_values.ensures.1 k.1))

pub returns-else-is_read : goal.returns-else-is_read
returns-else-is_read g c =
    converted (domain g.I.Concrete.Has g.I.Lattice.IsBelow g.I.IntDomain.OpGives g.I.IntDomain.OpOneGives g.I.IntDomain.ToGives g.I.IntDomain.KeepGives g.I.IntDomain.members_of) c.args.t.now c.args.r c.args.x.now c.requires c.args.a.now c.in-Some.c.operand.now c.in-Some.c.to c.is_read-in-Some.result
    (sym (sym (ap converted_view c.in-Some.is) ∙ c.conversion_of.ensures))
    ((λ k. let e : c.is_read-in-Some.result ≡ true = k in absurd (cc)), (λ k. c.is_read-in-Some.ensures.1 k.0))

-- A pointer has a set of addresses.
use Rattle.std.proofs.Common.{ap, ◌∙◌, subst}
use Rattle.std.specs.List.{flat_map}
use Rattle.std.proofs.lemmas.Result.{IfOk-weaker}
use Rattle.cc_state_values.specs.CcStateOperators.Domains.{domain}
use Rattle.cc_state_values.specs.CcStateOperators.Operands.{AreAddrs}
use Rattle.cc_state_reads.specs.Named.{target_class}
use Rattle.cc_state_reads.proofs.Classes.{is_pointer, target_classes}
use Rattle.cc_state_reads.proofs.named.target_classes.Goals as goal
use Rattle.cc_state_values.proofs.Parts.{target_part}

pub value_of-requires-clause-pure : goal.value_of-requires-clause-pure
value_of-requires-clause-pure g c = let (a, h, pure) = c.requires.pure in target_part c.args.c.now.program.now c.args.c.now.func.now a c.args.e.now h pure

pub unreachable-requires : goal.unreachable-requires
unreachable-requires g c =
    subst AreAddrs c.in-Ints.is (is_pointer (domain g.I.Concrete.Has g.I.Lattice.IsBelow g.I.IntDomain.OpGives g.I.IntDomain.OpOneGives g.I.IntDomain.ToGives g.I.IntDomain.KeepGives g.I.IntDomain.members_of) c.args.c.now c.args.e.now c.in_ok-value_of.field-0 c.requires.pure c.in_ok-value_of.ensures.value c.in_ok-value_of.ensures.typed)

pub returns : goal.returns
returns g c =
    IfOk-weaker c.targets.result _ _ (λ v k. target_classes (domain g.I.Concrete.Has g.I.Lattice.IsBelow g.I.IntDomain.OpGives g.I.IntDomain.OpOneGives g.I.IntDomain.ToGives g.I.IntDomain.KeepGives g.I.IntDomain.members_of) c.args.c.now c.args.e.now c.in_ok-value_of.field-0 c.in-Addrs.s v.items c.in_ok-value_of.ensures.value c.in-Addrs.is (k ∙ ap (flat_map (target_class c.args.c.now.program.now)) c.all.ensures)) c.targets.ensures

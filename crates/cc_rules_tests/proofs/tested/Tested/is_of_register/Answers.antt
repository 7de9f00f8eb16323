-- By the type of the local.
use Rattle.std.proofs.Common.{option_map, ap, sym, ◌∙◌}
use Rattle.std.specs.Option.{option_copied}
use Rattle.cc_rules_flows.specs.CcTyped.View.{value_view}
use Rattle.cc_rules_flows.specs.CcStateOperators.Domains.{domain}
use Rattle.cc_rules_tests.proofs.Registers.{local_there, of_local, of_no_local, of_no_type}
use Rattle.cc_rules_tests.proofs.tested.Tested.is_of_register.Goals as goal

pub returns-in-None : goal.returns-in-None
returns-in-None g c = of_no_local (domain g.I.Concrete.Has g.I.Lattice.IsBelow g.I.IntDomain.OpGives g.I.IntDomain.OpOneGives g.I.IntDomain.ToGives g.I.IntDomain.KeepGives g.I.IntDomain.members_of) c.args.self.now c.args.r c.args.y.now (local_there (domain g.I.Concrete.Has g.I.Lattice.IsBelow g.I.IntDomain.OpGives g.I.IntDomain.OpOneGives g.I.IntDomain.ToGives g.I.IntDomain.KeepGives g.I.IntDomain.members_of) c.args.self.now c.args.r c.all.result.now _ c.all.ensures (sym c.at.ensures ∙ ap option_copied c.in-None.is))

pub returns-in-None-scalar_value : goal.returns-in-None-scalar_value
returns-in-None-scalar_value g c =
    let is = local_there (domain g.I.Concrete.Has g.I.Lattice.IsBelow g.I.IntDomain.OpGives g.I.IntDomain.OpOneGives g.I.IntDomain.ToGives g.I.IntDomain.KeepGives g.I.IntDomain.members_of) c.args.self.now c.args.r c.all.result.now _ c.all.ensures (sym c.at.ensures ∙ ap option_copied c.in-Some.is) in
    of_no_type (domain g.I.Concrete.Has g.I.Lattice.IsBelow g.I.IntDomain.OpGives g.I.IntDomain.OpOneGives g.I.IntDomain.ToGives g.I.IntDomain.KeepGives g.I.IntDomain.members_of) c.args.self.now c.args.r c.in-Some.local.now c.args.y.now is (sym c.scalar_value.ensures ∙ ap (option_map value_view) c.in-None-scalar_value.is)

pub returns-in-Some-scalar_value : goal.returns-in-Some-scalar_value
returns-in-Some-scalar_value g c =
    let is = local_there (domain g.I.Concrete.Has g.I.Lattice.IsBelow g.I.IntDomain.OpGives g.I.IntDomain.OpOneGives g.I.IntDomain.ToGives g.I.IntDomain.KeepGives g.I.IntDomain.members_of) c.args.self.now c.args.r c.all.result.now _ c.all.ensures (sym c.at.ensures ∙ ap option_copied c.in-Some.is) in
    of_local (domain g.I.Concrete.Has g.I.Lattice.IsBelow g.I.IntDomain.OpGives g.I.IntDomain.OpOneGives g.I.IntDomain.ToGives g.I.IntDomain.KeepGives g.I.IntDomain.members_of) c.args.self.now c.args.r c.in-Some.local.now (value_view c.in-Some-scalar_value.t) c.args.y.now c.are_of.result is (sym c.scalar_value.ensures ∙ ap (option_map value_view) c.in-Some-scalar_value.is) c.are_of.ensures

-- By what is found at the place.
use Rattle.std.proofs.Common.{None, Some, ap, sym, ◌∙◌}
use Rattle.std.specs.Prelude.{option_map}
use Rattle.std.specs.Option.{option_copied}
use Rattle.cc_state_reads.specs.CcStateOperators.Domains.{domain}
use Rattle.cc_state_shaped.proofs.Typed.{found_at, no_function, of_result}
use Rattle.cc_state_shaped.proofs.lists.is_result_set.Goals as goal
use Rattle.cc_state_reads.specs.CcTyped.View.{value_view}

pub returns-in-None : goal.returns-in-None
returns-in-None g c =
    let d = domain g.I.Concrete.Has g.I.Lattice.IsBelow g.I.IntDomain.OpGives g.I.IntDomain.OpOneGives g.I.IntDomain.ToGives g.I.IntDomain.KeepGives g.I.IntDomain.members_of in
    let p = c.args.layout.now.program.now in
    no_function d p c.args.set.now c.args.id (found_at p.funcs c.all.result.now c.args.id None (c.all.ensures) (sym (ap option_copied c.in-None.is) ∙ c.at.ensures))

pub returns-in-Some : goal.returns-in-Some
returns-in-Some g c =
    let d = domain g.I.Concrete.Has g.I.Lattice.IsBelow g.I.IntDomain.OpGives g.I.IntDomain.OpOneGives g.I.IntDomain.ToGives g.I.IntDomain.KeepGives g.I.IntDomain.members_of in
    let p = c.args.layout.now.program.now in
    of_result d p c.args.set.now c.args.id c.in-Some.func.now (option_map value_view c.result_value.result) c.is_set_of.result (found_at p.funcs c.all.result.now c.args.id (Some c.in-Some.func.now) (c.all.ensures) (sym (ap option_copied c.in-Some.is) ∙ c.at.ensures)) c.result_value.ensures c.is_set_of.ensures

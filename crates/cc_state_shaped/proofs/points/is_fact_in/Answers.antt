use Rattle.std.proofs.Common.{None, Some, ap, sym, ◌∙◌}
use Rattle.std.specs.Option.{option_copied, option_map}
use Rattle.std.proofs.lemmas.Option.{none-some, same_Some}
use Rattle.cc_state_reads.specs.CcStateKeys.Tracked.{registers}
use Rattle.cc_state_reads.specs.CcStateOperators.Domains.{domain}
use Rattle.cc_state_shaped.proofs.Known.{in_none, in_some, registers_in}
use Rattle.cc_state_shaped.proofs.Typed.{found_at}
use Rattle.cc_state_shaped.proofs.points.is_fact_in.Goals as goal

pub returns-in-None : goal.returns-in-None
returns-in-None g c =
    let d = domain g.I.Concrete.Has g.I.Lattice.IsBelow g.I.IntDomain.OpGives g.I.IntDomain.OpOneGives g.I.IntDomain.ToGives g.I.IntDomain.KeepGives g.I.IntDomain.members_of in
    let p = c.args.layout.now.program.now in
    in_none d p c.args.id c.args.fact.now (found_at p.funcs c.all.result.now c.args.id None (c.all.ensures) (sym (ap option_copied c.in-None.is) ∙ c.at.ensures))

pub unreachable-requires : goal.unreachable-requires
unreachable-requires g c =
    let p = c.args.layout.now.program.now in
    let lists = c.args.layout.now.registers in
    let there = registers_in p lists c.args.id c.requires.registers ∙ ap (option_map registers) (found_at p.funcs c.all.result.now c.args.id (Some c.in-Some.func.now) (c.all.ensures) (sym (ap option_copied c.in-Some.is) ∙ c.at.ensures)) in
    none-some (registers c.in-Some.func.now) (sym (found_at lists c.all-in-Some.result.now c.args.id None (c.all-in-Some.ensures) (sym (ap option_copied c.in-None-at.is) ∙ c.at-in-Some.ensures)) ∙ there)

pub is_point_fact-requires-clause-registers : goal.is_point_fact-requires-clause-registers
is_point_fact-requires-clause-registers g c =
    let p = c.args.layout.now.program.now in
    let lists = c.args.layout.now.registers in
    let there = registers_in p lists c.args.id c.requires.registers ∙ ap (option_map registers) (found_at p.funcs c.all.result.now c.args.id (Some c.in-Some.func.now) (c.all.ensures) (sym (ap option_copied c.in-Some.is) ∙ c.at.ensures)) in
    c.all-in-Some-at.ensures ∙ same_Some c.in-Some-at.registers.now (registers c.in-Some.func.now) (sym (found_at lists c.all-in-Some.result.now c.args.id (Some c.in-Some-at.registers.now) (c.all-in-Some.ensures) (sym (ap option_copied c.in-Some-at.is) ∙ c.at-in-Some.ensures)) ∙ there)

pub returns-in-Some-at : goal.returns-in-Some-at
returns-in-Some-at g c =
    let d = domain g.I.Concrete.Has g.I.Lattice.IsBelow g.I.IntDomain.OpGives g.I.IntDomain.OpOneGives g.I.IntDomain.ToGives g.I.IntDomain.KeepGives g.I.IntDomain.members_of in
    let p = c.args.layout.now.program.now in
    in_some d p c.args.id c.args.fact.now c.in-Some.func.now c.is_point_fact.result (found_at p.funcs c.all.result.now c.args.id (Some c.in-Some.func.now) (c.all.ensures) (sym (ap option_copied c.in-Some.is) ∙ c.at.ensures)) c.is_point_fact.ensures

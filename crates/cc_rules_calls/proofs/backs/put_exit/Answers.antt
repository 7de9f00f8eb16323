use Rattle.std.proofs.Common.{◌++◌, length, refl, ap, ◌∙◌}
use Rattle.cc_rules_calls.proofs.BackLemmas.{exit_asked, is_within}
use Rattle.cc_rules_calls.specs.Backs.{points_behind}
use Rattle.cc_state_points.specs.CcStateOperators.Domains.{domain}
use Rattle.cc_rules_calls.proofs.backs.put_exit.Goals as goal

pub given_by-requires : goal.given_by-requires
given_by-requires g c = record { registers = c.requires.here.registers; few = c.requires.here.few; function = c.requires.function; gets = c.requires.gets }

pub behind-requires : goal.behind-requires
behind-requires g c =
    is_within (domain g.I.Concrete.Has g.I.Lattice.IsBelow g.I.IntDomain.OpGives g.I.IntDomain.OpOneGives g.I.IntDomain.ToGives g.I.IntDomain.KeepGives g.I.IntDomain.members_of) c.args.here.now c.args.register c.args.id c.args.function.now.func.now c.in_ok-given.given _ c.requires.here.each c.in_ok-given.ensures

pub returns : goal.returns
returns g c =
    exit_asked (domain g.I.Concrete.Has g.I.Lattice.IsBelow g.I.IntDomain.OpGives g.I.IntDomain.OpOneGives g.I.IntDomain.ToGives g.I.IntDomain.KeepGives g.I.IntDomain.members_of) c.args.here.now c.args.register c.args.id c.args.function.now c.args.exit.now c.in_ok-flow.flow c.in_ok-given.given (length c.args.here.now.context.registers.now) c.args.asked.now.items c.put_points.new.asked.items c.requires.here c.requires.function c.requires.exit
    c.in_ok-given.ensures refl c.in_ok-flow.ensures (c.in_ok-put_points.ensures ∙ ap (λ next. c.args.asked.now.items ++ points_behind next (length c.args.here.now.context.registers.now) c.in_ok-flow.flow) c.all.ensures)

-- The point is there, and so is its function.
use Rattle.std.proofs.Common.{◌∙◌}
use Rattle.cc_state.proofs.Sets.{few_locals}
use Rattle.cc_state_holds.proofs.Placed.{place_there, its_function}
use Rattle.cc_state_holds.proofs.activations.is_right_by.Goals as goal
use Rattle.cc_state_reads.specs.CcStateOperators.Domains.{domain}

pub func_at-func-requires-clause-flow : goal.func_at-func-requires-clause-flow
func_at-func-requires-clause-flow g c = c.requires.basis.flow

pub registers-requires : goal.registers-requires
registers-requires g c = few_locals c.args.b.now.program.now c.requires.basis.normal c.args.n c.func_at-func.ensures.0 c.func_at-func.result.now c.func_at-func.ensures.1

pub func_at-func-requires-clause-there : goal.func_at-func-requires-clause-there
func_at-func-requires-clause-there g c = place_there (domain g.I.Concrete.Has g.I.Lattice.IsBelow g.I.IntDomain.OpGives g.I.IntDomain.OpOneGives g.I.IntDomain.ToGives g.I.IntDomain.KeepGives g.I.IntDomain.members_of) c.args.b.now.program.now c.args.b.now.facts.now c.requires.basis.shape c.args.n c.args.fact.now c.requires.known

pub is_right_at-requires-clause-basis : goal.is_right_at-requires-clause-basis
is_right_at-requires-clause-basis g c = c.requires.basis

pub is_right_at-requires-clause-place : goal.is_right_at-requires-clause-place
is_right_at-requires-clause-place g c = record {
  func = c.func_at-func.result.now;
  function = its_function (domain g.I.Concrete.Has g.I.Lattice.IsBelow g.I.IntDomain.OpGives g.I.IntDomain.OpOneGives g.I.IntDomain.ToGives g.I.IntDomain.KeepGives g.I.IntDomain.members_of) c.args.b.now.program.now c.args.b.now.facts.now c.args.n c.func_at-func.result.now c.func_at-func.ensures;
  known = c.requires.known;
  registers = c.deref.ensures.value ∙ c.in_ok-registers.ensures;
}

pub is_right_at-requires-clause-stands : goal.is_right_at-requires-clause-stands
is_right_at-requires-clause-stands g c = c.requires.stands

pub returns : goal.returns
returns g c = c.is_right_at.ensures

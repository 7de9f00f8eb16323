use Rattle.std.proofs.Common.{◌∙◌, sym, rules, arith, Some, None}
use Rattle.cc_scopes.specs.View.{state_of}
use Rattle.cc_scopes.proofs.States.{designated-last}
use Rattle.cc_scopes.proofs.state.State.designated.Goals as goal

pub returns-in-Some : goal.returns-in-Some
unfolding state_of
returns-in-Some c =
    sym (designated-last c.args.name.now c.as_slice-scopes.result.now c.loop-n.n c.index-scopes-n.result (Some c.in-Some.d.now) (omega arith) c.loop-n.invariant.0 c.index-scopes-n.is (search rules)) ∙ c.loop-n.invariant.1

pub loop-n-preserved : goal.loop-n-preserved
loop-n-preserved c = (
  omega (arith, c.loop-n.invariant.0),
  sym (designated-last c.args.name.now c.as_slice-scopes.result.now c.loop-n.n c.index-scopes-n.result None (omega arith) c.loop-n.invariant.0 c.index-scopes-n.is (search rules)) ∙ c.loop-n.invariant.1,
)

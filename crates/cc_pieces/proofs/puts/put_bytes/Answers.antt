use Rattle.std.proofs.Common.{arith, ◌-◌}
use Rattle.cc_pieces.proofs.PieceLemmas.{front-none, front-next}
use Rattle.cc_pieces.proofs.puts.put_bytes.Goals as goal

pub loop-left-init : goal.loop-left-init
loop-left-init c = (omega arith, front-none c.args.out.now.items c.args.bytes.now)

pub loop-left-preserved : goal.loop-left-preserved
loop-left-preserved c = (
  omega arith,
  front-next c.args.bytes.now (c.loop-left.left - 1) c.loop-left.left _ c.args.out.now.items c.loop-left.out.items _ (omega arith) (omega arith) c.loop-left.invariant.1 c.in_ok-push.ensures.items,
)

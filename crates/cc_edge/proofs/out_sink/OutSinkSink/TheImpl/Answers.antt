-- The standard output tells nothing of what was said, so what the trait says of it asks for nothing.
use Rattle.std.proofs.Common.{rules, false, IsTrue}
use Rattle.cc_edge.proofs.out_sink.OutSinkSink.TheImpl.Goals as goal

untold : (A : Type 0) → IsTrue false → A
untold A h = cc

pub put-tells : goal.put-tells
put-tells g c = record {
  told = search rules;
  later = search rules;
  count = search rules;
  cause = search rules;
  bytes = untold _;
}

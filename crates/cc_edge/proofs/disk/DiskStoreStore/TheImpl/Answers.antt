-- The disk tells no files, so what the trait says of told files asks for nothing.
use Rattle.std.proofs.Common.{rules, false, IsTrue}
use Rattle.cc_edge.proofs.disk.DiskStoreStore.TheImpl.Goals as goal

untold : (A : Type 0) → IsTrue false → A
untold A h = cc

pub read_at-tells : goal.read_at-tells
read_at-tells g c = record {
  told = search rules;
  later = search rules;
  count = search rules;
  cause = search rules;
  stay = search rules;
  bytes = untold _;
  missing = untold _;
  taken = search rules;
  end = search rules;
}

pub create-tells : goal.create-tells
create-tells g c = record {
  told = search rules;
  later = search rules;
  taken = search rules;
  end = search rules;
  cause = search rules;
  file = untold _;
  others = search rules;
}

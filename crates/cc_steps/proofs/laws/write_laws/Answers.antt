use Rattle.cc_steps.proofs.CellsApart.{set_here, set_elsewhere, elsewhere as unchanged, written_here, apart as in_either_order}
use Rattle.cc_steps.proofs.laws.write_laws.Goals as goal

pub returns : goal.returns
returns c = record {
  scalar = λ scalars k v x h. set_here scalars k v x h;
  other_scalars = λ scalars k other v h. set_elsewhere scalars k other v h;
  elsewhere = λ cells object other scalar v h. unchanged cells object other scalar v h;
  there = λ cells object scalar v. written_here cells object scalar v;
  apart = λ cells object other scalar k v w h. in_either_order cells object other scalar k v w h;
}

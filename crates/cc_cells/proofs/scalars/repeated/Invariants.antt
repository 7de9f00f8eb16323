use Rattle.std.proofs.Common.{◌≡◌, replicate}
use Rattle.std.specs.List.{flat_map}
use Rattle.cc_cells.proofs.scalars.repeated.Given as goal

abbrev pub invariant-loop-time : goal.invariant-loop-time
invariant-loop-time l = l.all.items ≡ flat_map (λ zeros. zeros) (replicate l._time l.values)

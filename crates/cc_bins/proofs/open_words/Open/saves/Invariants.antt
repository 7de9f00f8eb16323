use Rattle.std.proofs.Common.{◌≡◌, ◌≤◌, ◌*◌, sum_by, take}
use Rattle.cc_bins.proofs.open_words.Open.saves.Given as goal

abbrev pub invariant-loop-placed : goal.invariant-loop-placed
invariant-loop-placed l = record {
  sum : l.bytes ≡ sum_by (λ p. p.want.bytes) (take l.placed-index l.self.slots);
  small : l.bytes ≤ l.placed-index * 4294967295;
}

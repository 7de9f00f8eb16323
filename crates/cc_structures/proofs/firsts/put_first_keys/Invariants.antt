use Rattle.std.proofs.Common.{◌≡◌, [], take}
use Rattle.cc_structures.specs.Ordered.{first_keys_behind}
use Rattle.cc_structures.specs.View.{knowns_of, lists_of}
use Rattle.cc_structures.proofs.FirstLemmas.{seen_in}
use Rattle.cc_structures.proofs.firsts.put_first_keys.Given as goal

abbrev pub invariant-loop-s : goal.invariant-loop-s
invariant-loop-s l = record {
  seen : l.seen.keys ≡ seen_in l.numbers (knowns_of (take l.s-index l.knowns));
  keys : lists_of l.keys.items ≡ first_keys_behind l.numbers [] (knowns_of (take l.s-index l.knowns));
}

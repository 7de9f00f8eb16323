use Rattle.std.proofs.Common.{◌≡◌, ◌≤◌, ◌+◌, length, map, sum}
use Rattle.cc_read.specs.Texts.{bytes_of}
use Rattle.cases_read.proofs.texts.texts_of.Given as goal

abbrev pub invariant-loop-part : goal.invariant-loop-part
invariant-loop-part l = record {
  few : length l.texts.items ≤ 64;
  total : l.left + sum (map length (bytes_of l.texts.items)) ≡ 4194304;
}

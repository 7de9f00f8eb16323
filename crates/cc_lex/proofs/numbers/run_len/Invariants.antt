use Rattle.std.proofs.Common.{◌≡◌, ◌+◌, drop}
use Rattle.cc_lex.specs.Scan.{run_len}
use Rattle.cc_lex.proofs.numbers.run_len.Given as goal

abbrev pub invariant-loop-n : goal.invariant-loop-n
invariant-loop-n l = l.n + run_len l.last (drop l.n l.text) ≡ run_len l.fn.before l.text

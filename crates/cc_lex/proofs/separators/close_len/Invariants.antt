use Rattle.std.proofs.Common.{◌≡◌, false, drop}
use Rattle.cc_lex.specs.Scan.{close_len}
use Rattle.cc_lex.proofs.Loops.{more}
use Rattle.cc_lex.proofs.separators.close_len.Given as goal

abbrev pub invariant-loop-n : goal.invariant-loop-n
invariant-loop-n l = more l.n (close_len l.star (drop l.n l.text)) ≡ close_len false l.text

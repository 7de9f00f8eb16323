use Rattle.std.proofs.Common.{◌≡◌, false, drop}
use Rattle.cc_lex.specs.Scan.{content_len}
use Rattle.cc_lex.proofs.Loops.{more}
use Rattle.cc_lex.proofs.literals.content_len.Given as goal

abbrev pub invariant-loop-n : goal.invariant-loop-n
invariant-loop-n l = more l.n (content_len l.quote l.escaped (drop l.n l.text)) ≡ content_len l.quote false l.text

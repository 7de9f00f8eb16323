use Rattle.std.proofs.Common.{◌≡◌, ◌+◌, length}
use Rattle.cc_lex.specs.Scan.{bytes_of}
use Rattle.cc_lex.proofs.Contents.{after_bytes}
use Rattle.cc_lex.proofs.literals.text_bytes.Given as goal

abbrev pub invariant-loop-rest : goal.invariant-loop-rest
invariant-loop-rest l = record {
  place : l.here + length l.rest ≡ l.fn.at + length l.fn.content;
  found : after_bytes l.bytes.items (bytes_of 0 l.here l.rest) ≡ bytes_of 0 l.fn.at l.fn.content;
}

abbrev pub decreases-loop-rest : goal.decreases-loop-rest
decreases-loop-rest l = length l.rest

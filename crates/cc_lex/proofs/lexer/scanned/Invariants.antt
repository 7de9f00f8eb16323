use Rattle.std.proofs.Common.{◌≡◌, ◌+◌, length, true}
use Rattle.cc_lex.specs.Scan.{tokens_of}
use Rattle.cc_lex.proofs.Scanned.{after_tokens}
use Rattle.cc_lex.proofs.lexer.scanned.Given as goal

abbrev pub invariant-loop-rest : goal.invariant-loop-rest
invariant-loop-rest l = record {
  place : l.at + length l.rest ≡ length l.text;
  found : after_tokens l.tokens.items (tokens_of 0 l.fresh l.at l.rest) ≡ tokens_of 0 true 0 l.text;
}

abbrev pub decreases-loop-rest : goal.decreases-loop-rest
decreases-loop-rest l = length l.rest

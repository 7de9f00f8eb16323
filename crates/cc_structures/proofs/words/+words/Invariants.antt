use Rattle.std.proofs.Common.{◌≡◌, ◌++◌, take, map, flat_map}
use Rattle.cc_structures.specs.Words.{type_words, type_parts}
use Rattle.cc_structures.proofs.words.+words.Given as goal

abbrev pub invariant-put_sig-loop-param : goal.invariant-put_sig-loop-param
invariant-put_sig-loop-param l = record {
  words : l.words.items ≡ l.initial.words.items ++ flat_map (λ ws. ws) (map type_words (take l.param-index l.param-items));
  parts : l.parts.items ≡ l.initial.parts.items ++ flat_map (λ ps. ps) (map type_parts (take l.param-index l.param-items));
}

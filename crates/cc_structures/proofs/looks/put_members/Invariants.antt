use Rattle.std.proofs.Common.{◌≡◌, ◌++◌, take, map, flat_map}
use Rattle.cc_syntax.specs.Types.{Named}
use Rattle.cc_structures.specs.View.{names_of}
use Rattle.cc_structures.specs.Words.{type_words, type_parts}
use Rattle.cc_structures.proofs.looks.put_members.Given as goal

abbrev pub invariant-loop-m : goal.invariant-loop-m
invariant-loop-m l = record {
  names : names_of l.names.items ≡ names_of l.initial.names.items ++ map (λ (m : Named). m.0) (take l.m-index l.members);
  words : l.words.items ≡ l.initial.words.items ++ flat_map (λ (m : Named). type_words m.1) (take l.m-index l.members);
  parts : l.parts.items ≡ l.initial.parts.items ++ flat_map (λ (m : Named). type_parts m.1) (take l.m-index l.members);
}

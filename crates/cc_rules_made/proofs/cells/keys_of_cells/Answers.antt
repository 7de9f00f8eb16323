use Rattle.std.proofs.Common.{◌<◌, ◌^◌, List, length, sym, subst, ◌∙◌}
use Rattle.cc_rules_made.proofs.cells.keys_of_cells.Goals as goal
use Rattle.cc_rules_asked.specs.CcStateFacts.declared.facts.Key.{Key}

pub numbers_of-requires : goal.numbers_of-requires
numbers_of-requires c = record {
  keys = c.deref.ensures.value ∙ c.in_ok-keys.ensures;
  few = subst (λ (ks : List Key). length ks < 2 ^ 32) (sym (c.deref.ensures.value ∙ c.in_ok-keys.ensures)) c.requires.few;
}

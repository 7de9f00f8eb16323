use Rattle.std.proofs.Common.{List, ap, ◌∙◌}
use Rattle.std.specs.List.{filter}
use Rattle.cc_state_keys.specs.CcStateFacts.declared.facts.Key.{Key}
use Rattle.cc_state_reads.specs.Named.{is_among}
use Rattle.cc_state_reads.proofs.named.keys_named.Goals as goal

pub returns : goal.returns
returns g c = (c.in_ok-classes.classes.items, c.in_ok-classes.ensures, c.of.ensures ∙ (c.in_ok-those_among.ensures ∙ (ap (λ (classes : List Key). filter (is_among classes) c.args.keys.now) c.deref.ensures.value ∙ ap (filter (is_among c.in_ok-classes.classes.items)) c.requires.keys)))

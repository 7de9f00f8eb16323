use Rattle.std.proofs.Common.{◌≡◌, ◌++◌, take}
use Rattle.cc_things.specs.Mentions.{mentions_in}
use Rattle.cc_things.specs.View.{views_of}
use Rattle.cc_unit.specs.Mentioned.{mentioned}
use Rattle.cc_things.proofs.mention.put_mentions.Given as goal

abbrev pub invariant-loop-name : goal.invariant-loop-name
invariant-loop-name l = record {
  counted : l.position ≡ l.name-index;
  put : views_of l.mentions.items ≡ views_of l.initial.mentions.items ++ mentions_in l.text (mentioned l.names) 0 (take l.name-index l.names);
}

use Rattle.std.proofs.Common.{◌≡◌, take}
use Rattle.cc_things.specs.Mentions.{mentions}
use Rattle.cc_things.specs.View.{views_of}
use Rattle.cc_things.proofs.mention.mentions.Given as goal

abbrev pub invariant-loop-x : goal.invariant-loop-x
invariant-loop-x l = record {
  counted : l.text ≡ l.x-index;
  put : views_of l.mentions.items ≡ mentions (take l.x-index l.texts);
}

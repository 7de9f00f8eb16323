use Rattle.std.proofs.Common.{◌≡◌, map}
use Rattle.cc_link.proofs.Sources.{Done}
use Rattle.cc_link.specs.Kept.{id_or_none}
use Rattle.cc_things.specs.Mentions.{Mention, mentions_from}
use Rattle.cc_unit.specs.declared.ids.Id.{Id}
use Rattle.cc_link.proofs.ids.all_ids.Given as goal

abbrev pub invariant-loop-x : goal.invariant-loop-x
invariant-loop-x l = record {
  at : l.text ≡ l.x-index;
  done : (id_of : Mention → Id) → map (λ k. id_or_none l.table k) l.numbers ≡ map id_of (mentions_from 0 l.texts) → Done id_of l.structures l.table l.texts l.x-index l.rest l.ids.items;
}

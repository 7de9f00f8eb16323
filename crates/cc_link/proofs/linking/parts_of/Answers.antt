use Rattle.std.proofs.Common.{◌∙◌, ap}
use Rattle.cc_link.proofs.Sources.{mentions_told}
use Rattle.cc_link.specs.Kept.{id_or_none}
use Rattle.cc_link.specs.Linked.{id_of_mention, ids_from}
use Rattle.cc_link.proofs.linking.parts_of.Goals as goal

pub parts_with-requires : goal.parts_with-requires
parts_with-requires c =
    let texts = c.args.texts.now in
    let g = c.requires in
    record {
      gathered = g;
      ids =
          c.as_slice-4.ensures.value
          ∙ (c.in_ok-ids.ensures (id_of_mention texts) (mentions_told texts c.as_slice-2.result.now c.as_slice-3.result.now (λ k. ap (λ l. id_or_none l k) c.as_slice-2.ensures.value ∙ g.ids k) (c.as_slice-3.ensures.value ∙ g.numbers))
          ∙ ap (λ n. ids_from (id_of_mention texts) n 0 texts) c.as_slice.ensures.value);
    }

use Rattle.std.proofs.Common.{◌≡◌, ◌∙◌, ◌+◌, ◌++◌, [], ◌∷◌, length, map, drop, take, ap, refl, sym}
use Rattle.cc_link.proofs.Sources.{done_more, done_end}
use Rattle.cc_link.specs.Kept.{id_or_none}
use Rattle.cc_link.specs.Linked.{ids_from}
use Rattle.cc_structures.specs.Structures.{numbers_of}
use Rattle.cc_link.proofs.ids.all_ids.Goals as goal

pub loop-x-init : goal.loop-x-init
loop-x-init c = record {
  at = refl;
  done = λ id_of same. record {
    left = same;
    done = sym (ap (λ l. l ++ ids_from id_of c.args.structures.now 0 c.args.texts.now) c.new-ids.ensures.items);
  };
}

pub loop-x-preserved : goal.loop-x-preserved
loop-x-preserved c =
    let texts = c.args.texts.now in
    let table = c.args.table.now in
    let structures = c.args.structures.now in
    let i = c.loop-x.x-index in
    let count : length c.all-count.result.now ≡ length c.x-item.result.unit.names = ap length c.all-count.ensures in
    let numbered : c.of.result ≡ numbers_of structures i =
    c.of.ensures ∙ (c.in_ok-numbers_here.ensures.items ∙ (c.structures_in.ensures ∙ ap (numbers_of structures) c.loop-x.invariant.at)) in
    let named : c.in_ok-names.names ≡ map (λ k. id_or_none table k) (take (length c.all-count.result.now) c.loop-x.rest.now) =
    c.in_ok-names.ensures ∙ ap (map (λ k. id_or_none table k)) c.front.ensures in
    record {
      at = ap (λ n. n + 1) c.loop-x.invariant.at;
      done = λ id_of same.
          done_more id_of structures table texts i (length c.all-count.result.now) c.x-item.result c.loop-x.rest.now c.behind-rest.result.now c.of.result c.in_ok-names.names c.loop-x.ids.items c.push.new.self.items
          c.loop-x-test.true c.x-item.is count numbered named c.behind-rest.ensures c.in_ok-push.ensures.items (c.loop-x.invariant.done id_of same);
    }

pub returns : goal.returns
returns c = λ id_of same. done_end id_of c.args.structures.now c.args.table.now c.args.texts.now c.loop-x.x-index _ c.loop-x.ids.items c.loop-x-test.false (c.loop-x.invariant.done id_of same)

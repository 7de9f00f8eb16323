use Rattle.std.proofs.Common.{◌∙◌, ap, map, []}
use Rattle.std.proofs.lemmas.Result.{IfOk-weaker}
use Rattle.cc_structures.specs.Looks.{node_of}
use Rattle.cc_structures.specs.Ordered.{first_keys_behind}
use Rattle.cc_structures.specs.Structures.{Numbering}
use Rattle.cc_structures.specs.View.{units_of, knowns_of, nodes_of}
use Rattle.cc_structures.proofs.TypeLemmas.{looks-counted, keys-counted, types-are}
use Rattle.cc_structures.proofs.structures.types_of.Goals as goal

pub refined-requires-clause-nodes : goal.refined-requires-clause-nodes
refined-requires-clause-nodes c = ap nodes_of c.as_slice.ensures.value ∙ (c.in_ok-looks.ensures.nodes ∙ ap (map node_of) c.requires)

pub refined-requires-clause-start : goal.refined-requires-clause-start
refined-requires-clause-start c =
    looks-counted (units_of c.args.texts.now) c.in_ok-looks.field-0.looks.items (knowns_of c.args.knowns.now) c.in_ok-start.start.numbers.items c.in_ok-start.start.count c.in_ok-looks.ensures.looks c.requires c.in_ok-start.ensures.numbers c.in_ok-start.ensures.count

pub refined-requires-2-clause-nodes : goal.refined-requires-2-clause-nodes
refined-requires-2-clause-nodes c = ap nodes_of c.as_slice-3.ensures.value ∙ (c.in_ok-looks.ensures.nodes ∙ ap (map node_of) c.requires)

pub refined-requires-2-clause-start : goal.refined-requires-2-clause-start
refined-requires-2-clause-start c =
    keys-counted (units_of c.args.texts.now) c.in_ok-alike.alike.items c.in_ok-keys.keys.items (knowns_of c.args.knowns.now) c.in_ok-start-2.start.numbers.items c.in_ok-start-2.start.count
    (c.in_ok-keys.ensures ∙ ap (λ (n : Numbering). first_keys_behind n [] (knowns_of c.args.knowns.now)) c.as_slice-2.ensures.value) c.requires c.in_ok-start-2.ensures.numbers c.in_ok-start-2.ensures.count

pub returns : goal.returns
returns c = IfOk-weaker c.refined-2.result _ _
    (λ r h. types-are (units_of c.args.texts.now) c.in_ok-looks.field-0.looks.items c.in_ok-keys.keys.items (knowns_of c.args.knowns.now) c.in_ok-start.start.numbers.items c.in_ok-alike.alike.items c.in_ok-start-2.start.numbers.items r.items
    c.in_ok-looks.ensures.looks c.requires c.in_ok-start.ensures.numbers c.in_ok-alike.ensures (c.in_ok-keys.ensures ∙ ap (λ (n : Numbering). first_keys_behind n [] (knowns_of c.args.knowns.now)) c.as_slice-2.ensures.value)
    c.in_ok-start-2.ensures.numbers h)
    c.refined-2.ensures

use Rattle.std.proofs.Common.{◌∙◌, ap, [], fold, nat_eq, List}
use Rattle.std.proofs.lemmas.Result.{IfOk-weaker}
use Rattle.indexmap.specs.IndexSet.{insert_key}
use Rattle.cc_structures.specs.Ordered.{firsts_behind, classes_of}
use Rattle.cc_structures.specs.Structures.{Known}
use Rattle.cc_structures.specs.View.{knowns_of}
use Rattle.cc_structures.proofs.ordered.firsts_in_order.Goals as goal

pub returns-clause-found : goal.returns-clause-found
returns-clause-found c = IfOk-weaker c.firsts_of.result _ _
    (λ r h. h ∙ ap (λ (ks : List Known). fold (insert_key nat_eq) [] (classes_of c.args.numbers.now ks)) (ap knowns_of c.as_slice.ensures.value ∙ c.in_ok-order.ensures))
    c.firsts_of.ensures.found

pub returns-clause-firsts : goal.returns-clause-firsts
returns-clause-firsts c = IfOk-weaker c.firsts_of.result _ _
    (λ r h. h ∙ ap (firsts_behind c.args.numbers.now []) (ap knowns_of c.as_slice.ensures.value ∙ c.in_ok-order.ensures))
    c.firsts_of.ensures.firsts

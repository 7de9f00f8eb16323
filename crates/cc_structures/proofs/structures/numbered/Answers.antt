use Rattle.std.proofs.Common.{◌++◌, filter, not, refl}
use Rattle.cc_structures.specs.Ordered.{positions_of}
use Rattle.cc_structures.specs.Structures.{Known, is_complete}
use Rattle.cc_structures.specs.View.{units_of, knowns_of}
use Rattle.cc_structures.proofs.OrderLemmas.{numbered-by}
use Rattle.cc_structures.proofs.structures.numbered.Goals as goal

pub returns : goal.returns
returns c =
    let types = c.args.types.now in
    let known = knowns_of c.args.knowns.now in
    let keys = c.in_ok-found.field-0.found.keys in
    numbered-by (units_of c.args.texts.now) types known (filter (λ (k : Known). not (is_complete k)) known ++ filter is_complete known) (knowns_of c.in_ok-found.field-0.firsts.items) keys (positions_of types keys known) c.in_ok-numbers.numbers.items
    c.requires.types c.requires.knowns refl c.in_ok-found.ensures.found c.in_ok-found.ensures.firsts refl c.in_ok-numbers.ensures

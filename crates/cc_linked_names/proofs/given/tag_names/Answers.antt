use Rattle.std.proofs.Common.{◌≡◌, ◌∙◌, [], ℕ, List, map, ap}
use Rattle.std.proofs.lemmas.Result.{IfOk-weaker}
use Rattle.std.specs.Prelude.{Vec}
use Rattle.std.specs.declared.alloc.Global.{Global}
use Rattle.cc_linked_names.specs.Given.{tag_wish}
use Rattle.cc_names.specs.Holds.{Holds}
use Rattle.cc_names.specs.Names.{is_among, names_for}
use Rattle.cc_names.specs.View.{HaveSame, wishes_of}
use Rattle.cc_structures.specs.View.{knowns_of}
use Rattle.cc_linked_names.proofs.given.tag_names.Goals as goal

pub returns-clause-names : goal.returns-clause-names
returns-clause-names c =
    IfOk-weaker c.names_for.result
    (λ (names : Vec (List ℕ) Global). (reserved given had : List (List ℕ)) → Holds c.args.taken.now reserved given → HaveSame c.new-space.result had → names.items ≡ names_for reserved given had (wishes_of c.as_slice.result.now))
    (λ (names : Vec (List ℕ) Global). (reserved given : List (List ℕ)) → Holds c.args.taken.now reserved given → names.items ≡ names_for reserved given [] (map tag_wish (knowns_of c.args.firsts.now)))
    (λ names told r g h. told r g [] h (λ x. ap (is_among x) c.new-space.ensures) ∙ ap (names_for r g []) (ap wishes_of c.as_slice.ensures.value ∙ c.in_ok-wishes.ensures))
    c.names_for.ensures.names

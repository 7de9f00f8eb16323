use Rattle.std.proofs.Common.{◌≡◌, ◌∙◌, ◌++◌, ℕ, List, map, ap}
use Rattle.std.proofs.lemmas.Result.{IfOk-weaker}
use Rattle.std.specs.Prelude.{Vec}
use Rattle.std.specs.declared.alloc.Global.{Global}
use Rattle.cc_definitions.specs.Definitions.{thing_at}
use Rattle.cc_linked_names.specs.Given.{thing_wish}
use Rattle.cc_names.specs.Holds.{Holds}
use Rattle.cc_names.specs.Names.{names_for}
use Rattle.cc_names.specs.View.{HaveSame, wishes_of}
use Rattle.cc_typed.specs.CcSyntax.Names.{intrinsic_names}
use Rattle.cc_things.specs.View.{thing_view}
use Rattle.cc_linked_names.proofs.given.thing_names.Goals as goal

pub returns-clause-names : goal.returns-clause-names
returns-clause-names c =
    let intrinsics = intrinsic_names c.args.roles.now in
    let wished = map (λ k. thing_wish (thing_at (map thing_view c.args.things.now) k)) c.args.named.now in
    IfOk-weaker c.names_for.result
    (λ (names : Vec (List ℕ) Global). (reserved given had : List (List ℕ)) → Holds c.args.taken.now reserved given → HaveSame c.add_intrinsics.new.space had → names.items ≡ names_for reserved given had (wishes_of c.as_slice.result.now))
    (λ (names : Vec (List ℕ) Global). (reserved given : List (List ℕ)) → Holds c.args.taken.now reserved given → names.items ≡ names_for reserved given intrinsics wished)
    (λ names told r g h. told r g intrinsics h c.in_ok-add_intrinsics.ensures ∙ ap (names_for r g intrinsics) (ap wishes_of c.as_slice.ensures.value ∙ c.in_ok-wishes.ensures))
    c.names_for.ensures.names

pub returns-clause-space : goal.returns-clause-space
returns-clause-space c =
    let intrinsics = intrinsic_names c.args.roles.now in
    IfOk-weaker c.names_for.result
    (λ (names : Vec (List ℕ) Global). (had : List (List ℕ)) → HaveSame c.add_intrinsics.new.space had → HaveSame c.names_for.new.space (had ++ names.items))
    (λ (names : Vec (List ℕ) Global). HaveSame c.names_for.new.space (intrinsics ++ names.items))
    (λ names told. told intrinsics c.in_ok-add_intrinsics.ensures)
    c.names_for.ensures.space

-- An address is named by its path, and its key is one that may be named.
use Rattle.std.proofs.Common.{◌≡◌, ◌↔◌, List, IsTrue, ap, sym, ◌∙◌, subst}
use Rattle.cc_state_reads.specs.CcEval.Context.{object_type}
use Rattle.cc_program.specs.declared.value.Address.{Address}
use Rattle.cc_program.specs.declared.value.Part.{Part}
use Rattle.cc_state.specs.Shape.{MayPoint}
use Rattle.cc_state_reads.specs.CcStateKeys.Keys.{cell_key}
use Rattle.cc_state_shaped.proofs.Names.{named}
use Rattle.cc_state_shaped.proofs.addresses.may_point.Goals as goal
use Rattle.cc_state_reads.specs.CcSyntax.Expressions.{of_one}
use Rattle.cc_state_reads.specs.CcSyntax.Initial.{place_at, names}
use Rattle.cc_state_reads.specs.CcTyped.View.{value_view}

pub returns-then-is_named : goal.returns-then-is_named
returns-then-is_named c =
    let p = c.args.layout.now.program.now in
    let to = value_view c.args.to in
    let o = c.in-At.object in
    let path = c.in-At.path in
    let there = names to path c.in-At.index c.in-At.count (of_one (object_type p o) (place_at p.structures path)) in
    let is : c.is_named.result ≡ there = c.is_named.ensures ∙ ap (λ (ps : List Part). names to ps c.in-At.index c.in-At.count (of_one (object_type p o) (place_at p.structures ps))) c.all.ensures in
    subst (λ (a : Address). IsTrue c.may_name.result ↔ MayPoint p to a) (sym c.in-At.is)
    (named p (cell_key p o path) c.cell_key.result there c.is_named.result c.may_name.result (c.cell_key.ensures ∙ ap (cell_key p o) c.all-then-is_named.ensures) is c.if-is_named.true c.may_name.ensures)

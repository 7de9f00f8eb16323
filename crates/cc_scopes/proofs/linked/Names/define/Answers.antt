use Rattle.std.proofs.Common.{◌∙◌, add-one, set}
use Rattle.cc_scopes.specs.Definitions.{defined_at}
use Rattle.cc_scopes.proofs.LinkedLemmas.{change_at-set}
use Rattle.cc_scopes.proofs.linked.Names.define.Goals as goal

pub returns-in-Some : goal.returns-in-Some
returns-in-Some c =
    let d = c.index_mut-d.result.now in
    (λ j. set c.args.self.now.all.items c.args.id (record { name = d.name; linkage = d.linkage; ctype = c.args.ctype; first = c.first_or-d.ensures j; tentative = d.tentative; definitions = (c.in-Some.ensures.1 ∙ add-one d.definitions) j; kind = c.args.kind }))
    ∙ change_at-set (defined_at c.args.at c.args.ctype c.args.kind) c.args.self.now.all.items c.args.id d c.index_mut-d.ensures.value

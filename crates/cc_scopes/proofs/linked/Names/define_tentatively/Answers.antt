use Rattle.std.proofs.Common.{◌∙◌, true, set}
use Rattle.cc_scopes.specs.Definitions.{tentative_at}
use Rattle.cc_scopes.proofs.LinkedLemmas.{change_at-set}
use Rattle.cc_scopes.proofs.linked.Names.define_tentatively.Goals as goal

pub returns-then-id-len : goal.returns-then-id-len
returns-then-id-len c =
    let d = c.index_mut-d.result.now in
    (λ j. set c.args.self.now.all.items c.args.id (record { name = d.name; linkage = d.linkage; ctype = d.ctype; first = c.first_or-d.ensures j; tentative = true; definitions = d.definitions; kind = d.kind }))
    ∙ change_at-set (tentative_at c.args.at) c.args.self.now.all.items c.args.id d c.index_mut-d.ensures.value

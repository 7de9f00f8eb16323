use Rattle.std.proofs.Common.{◌∙◌, ap, set}
use Rattle.cc_scopes.specs.Definitions.{entry_added, with_entry}
use Rattle.cc_scopes.proofs.LinkedLemmas.{change_at-set}
use Rattle.cc_scopes.proofs.linked.Names.add_entry.Goals as goal

pub returns-then-id-len : goal.returns-then-id-len
returns-then-id-len c =
    let d = c.index_mut-d.result.now in
    (λ j. set c.args.self.now.all.items c.args.id (record { name = d.name; linkage = d.linkage; ctype = d.ctype; first = d.first; tentative = d.tentative; definitions = d.definitions; kind = (c.entry_added.ensures ∙ ap (entry_added c.args.entry) c.replace-kind.ensures.value) j }))
    ∙ change_at-set (with_entry c.args.entry) c.args.self.now.all.items c.args.id d c.index_mut-d.ensures.value

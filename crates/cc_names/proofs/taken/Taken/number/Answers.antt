use Rattle.std.proofs.Common.{◌∙◌, ap, sym, subst}
use Rattle.cc_names.specs.Holds.{IsNoted}
use Rattle.cc_names.specs.View.{with_name}
use Rattle.cc_names.proofs.Takings.{holds-numbered, numbered-found}
use Rattle.cc_names.proofs.taken.Taken.number.Goals as goal

pub returns-clause-name : goal.returns-clause-name
returns-clause-name c = numbered-found c.args.self.now c.args.base.now c.in_ok-name.name.items c.in_ok-number.number c.in_ok-name.ensures c.in_ok-number.ensures.found

pub returns-clause-taken : goal.returns-clause-taken
returns-clause-taken c =
    holds-numbered c.args.self.now c.take.new.self c.in_ok-name.name.items c.args.base.now c.in_ok-number.number
    (c.in_ok-take.ensures.names ∙ ap (with_name c.args.self.now.names) c.as_slice.ensures.value)
    c.in_ok-take.ensures.count
    c.in_ok-take.ensures.renamed
    (subst (λ s. IsNoted c.args.self.now.numbered s c.args.base.now c.in_ok-number.number) (sym c.in_ok-take.ensures.numbered) c.in_ok-note.ensures)
    c.in_ok-number.ensures.behind

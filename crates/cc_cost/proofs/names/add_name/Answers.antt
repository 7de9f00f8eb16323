use Rattle.std.proofs.Common.{◌∙◌, ◌++◌, ◌∷◌, [], cond, ap, sym}
use Rattle.cc_cost.specs.Sets.{names_of}
use Rattle.cc_cost.proofs.SetLemmas.{names-added}
use Rattle.cc_cost.proofs.names.add_name.Goals as goal

pub returns-clause-names : goal.returns-clause-names
returns-clause-names c =
    names-added c.args.names.now c.insert.new.self c.args.name c.in_ok-insert.ensures.keys
    ∙ ap (λ b. cond b (names_of c.args.names.now ++ c.args.name.now ∷ []) (names_of c.args.names.now)) (sym c.in_ok-insert.ensures.added)

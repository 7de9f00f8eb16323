use Rattle.std.proofs.Common.{rules, tests, ◌≡◌, ◌∙◌}
use Rattle.std.proofs.lemmas.Iterator.{YieldsList-from_slice}
use Rattle.std.proofs.lemmas.Iterator.Search.{all_from_yields_List}
use Rattle.std.specs.List.{list_all}
use Rattle.cc_program.specs.declared.stmt.Case.{Case, out-Case}
use Rattle.cc_typed.specs.CcSyntax.Statements.{label_fits}
use Rattle.cc_sound.proofs.LabelLemmas.{all_labels}
use Rattle.cc_sound.proofs.statements.all_labels_fit.Goals as goal

pub returns : goal.returns
returns c =
    let e : c.all.result ≡ list_all (λ (case : Case). list_all (label_fits c.args.target.now c.args.t) (out-Case case).labels) c.args.cases.now = all_from_yields_List (λ (case : Case). list_all (label_fits c.args.target.now c.args.t) (out-Case case).labels) _ _ c.all.result c.all.ensures.ran (YieldsList-from_slice c.args.cases.now cc) (λ x b q k. search (rules, tests)) in
    e ∙ all_labels c.args.t c.args.target.now c.args.cases.now

use Rattle.std.proofs.Common.{rules, tests, ◌≡◌, ◌∙◌}
use Rattle.std.proofs.lemmas.Iterator.{YieldsList-from_slice}
use Rattle.std.proofs.lemmas.Iterator.Search.{any_from_yields_List}
use Rattle.std.specs.List.{list_any}
use Rattle.cc_program.specs.declared.stmt.Case.{Case, out-Case}
use Rattle.cc_typed.specs.CcSyntax.Statements.{same_label}
use Rattle.cc_sound.proofs.LabelLemmas.{any_labels}
use Rattle.cc_sound.proofs.statements.is_among_cases.Goals as goal

pub returns : goal.returns
returns c =
    let e : c.any.result ≡ list_any (λ (case : Case). list_any (same_label c.args.label) (out-Case case).labels) c.args.cases.now = any_from_yields_List (λ (case : Case). list_any (same_label c.args.label) (out-Case case).labels) _ _ c.any.result c.any.ensures.ran (YieldsList-from_slice c.args.cases.now cc) (λ x b q k. search (rules, tests)) in
    e ∙ any_labels c.args.label c.args.cases.now

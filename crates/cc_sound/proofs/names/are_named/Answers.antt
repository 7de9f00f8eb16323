use Rattle.std.proofs.Common.{rules, tests, ◌≡◌, ◌∙◌}
use Rattle.std.proofs.lemmas.Iterator.{YieldsList-from_slice}
use Rattle.std.proofs.lemmas.Iterator.Search.{all_from_yields_List}
use Rattle.std.specs.List.{list_all}
use Rattle.cc_program.specs.CcWords.Names.{is_name}
use Rattle.cc_typed.specs.CcSyntax.Types.{Named}
use Rattle.cc_sound.proofs.NameLemmas.{all_locals}
use Rattle.cc_sound.proofs.names.are_named.Goals as goal

pub returns : goal.returns
returns c =
    let e : c.all.result ≡ list_all (λ (l : Named). is_name l.0) c.args.locals.now = all_from_yields_List (λ (l : Named). is_name l.0) _ _ c.all.result c.all.ensures.ran (YieldsList-from_slice c.args.locals.now cc) (λ x b q k. search (rules, tests)) in
    e ∙ all_locals c.args.locals.now

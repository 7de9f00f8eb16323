use Rattle.std.proofs.Common.{rules, tests, ◌≡◌, ◌∙◌}
use Rattle.std.proofs.lemmas.Iterator.{YieldsList-from_slice}
use Rattle.std.proofs.lemmas.Iterator.Search.{any_from_yields_List}
use Rattle.std.specs.List.{list_any}
use Rattle.std.specs.Str.{bytes_eq}
use Rattle.cc_typed.specs.CcSyntax.Types.{Named}
use Rattle.cc_sound.proofs.NameLemmas.{any_locals}
use Rattle.cc_sound.proofs.names.has_local.Goals as goal

pub returns : goal.returns
returns c =
    let e : c.any.result ≡ list_any (λ (l : Named). bytes_eq c.args.name.now l.0) c.args.locals.now = any_from_yields_List (λ (l : Named). bytes_eq c.args.name.now l.0) _ _ c.any.result c.any.ensures.ran (YieldsList-from_slice c.args.locals.now cc) (λ x b q k. search (rules, tests)) in
    e ∙ any_locals c.args.name.now c.args.locals.now

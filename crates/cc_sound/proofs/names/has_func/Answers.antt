use Rattle.std.proofs.Common.{rules, tests, ◌≡◌, ◌∙◌}
use Rattle.std.proofs.lemmas.Iterator.{YieldsList-from_slice}
use Rattle.std.proofs.lemmas.Iterator.Search.{any_from_yields_List}
use Rattle.std.specs.List.{list_any}
use Rattle.std.specs.Str.{bytes_eq}
use Rattle.cc_program.specs.declared.func.Func.{Func}
use Rattle.cc_sound.proofs.NameLemmas.{any_funcs}
use Rattle.cc_sound.proofs.names.has_func.Goals as goal

pub returns : goal.returns
returns c =
    let e : c.any.result ≡ list_any (λ (f : Func). bytes_eq c.args.name.now f.name) c.args.funcs.now = any_from_yields_List (λ (f : Func). bytes_eq c.args.name.now f.name) _ _ c.any.result c.any.ensures.ran (YieldsList-from_slice c.args.funcs.now cc) (λ x b q k. search (rules, tests)) in
    e ∙ any_funcs c.args.name.now c.args.funcs.now

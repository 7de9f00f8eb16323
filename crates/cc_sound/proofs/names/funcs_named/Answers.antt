use Rattle.std.proofs.Common.{rules, tests, ◌≡◌, ◌∙◌}
use Rattle.std.proofs.lemmas.Iterator.{YieldsList-from_slice}
use Rattle.std.proofs.lemmas.Iterator.Search.{all_from_yields_List}
use Rattle.std.specs.List.{list_all}
use Rattle.cc_program.specs.CcWords.Names.{is_name}
use Rattle.cc_program.specs.declared.func.Func.{Func}
use Rattle.cc_sound.proofs.NameLemmas.{all_funcs}
use Rattle.cc_sound.proofs.names.funcs_named.Goals as goal

pub returns : goal.returns
returns c =
    let e : c.all.result ≡ list_all (λ (f : Func). is_name f.name) c.args.funcs.now = all_from_yields_List (λ (f : Func). is_name f.name) _ _ c.all.result c.all.ensures.ran (YieldsList-from_slice c.args.funcs.now cc) (λ x b q k. search (rules, tests)) in
    e ∙ all_funcs c.args.funcs.now

use Rattle.std.proofs.Common.{rules, tests, ◌≡◌, ◌∙◌}
use Rattle.std.proofs.lemmas.Iterator.{YieldsList-from_slice}
use Rattle.std.proofs.lemmas.Iterator.Search.{all_from_yields_List}
use Rattle.std.specs.List.{list_all}
use Rattle.cc_program.specs.CcWords.Names.{is_name}
use Rattle.cc_program.specs.declared.types.Structure.{Structure}
use Rattle.cc_sound.proofs.NameLemmas.{all_structures}
use Rattle.cc_sound.proofs.names.tags_named.Goals as goal

pub returns : goal.returns
returns c =
    let e : c.all.result ≡ list_all (λ (s : Structure). is_name s.tag) c.args.structures.now = all_from_yields_List (λ (s : Structure). is_name s.tag) _ _ c.all.result c.all.ensures.ran (YieldsList-from_slice c.args.structures.now cc) (λ x b q k. search (rules, tests)) in
    e ∙ all_structures c.args.structures.now

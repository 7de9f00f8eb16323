use Rattle.std.proofs.Common.{rules, tests, ◌≡◌, ◌∙◌}
use Rattle.std.proofs.lemmas.Iterator.{YieldsList-from_slice}
use Rattle.std.proofs.lemmas.Iterator.Search.{any_from_yields_List}
use Rattle.std.specs.List.{list_any}
use Rattle.std.specs.Str.{bytes_eq}
use Rattle.cc_program.specs.declared.types.Structure.{Structure}
use Rattle.cc_sound.proofs.NameLemmas.{any_structures}
use Rattle.cc_sound.proofs.names.has_structure.Goals as goal

pub returns : goal.returns
returns c =
    let e : c.any.result ≡ list_any (λ (s : Structure). bytes_eq c.args.name.now s.tag) c.args.structures.now = any_from_yields_List (λ (s : Structure). bytes_eq c.args.name.now s.tag) _ _ c.any.result c.any.ensures.ran (YieldsList-from_slice c.args.structures.now cc) (λ x b q k. search (rules, tests)) in
    e ∙ any_structures c.args.name.now c.args.structures.now

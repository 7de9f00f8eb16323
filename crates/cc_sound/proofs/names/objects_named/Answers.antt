use Rattle.std.proofs.Common.{rules, tests, ◌≡◌, ◌∙◌}
use Rattle.std.proofs.lemmas.Iterator.{YieldsList-from_slice}
use Rattle.std.proofs.lemmas.Iterator.Search.{all_from_yields_List}
use Rattle.std.specs.List.{list_all}
use Rattle.cc_program.specs.CcWords.Names.{is_name}
use Rattle.cc_program.specs.declared.object.Object.{Object}
use Rattle.cc_sound.proofs.NameLemmas.{all_objects}
use Rattle.cc_sound.proofs.names.objects_named.Goals as goal

pub returns : goal.returns
returns c =
    let e : c.all.result ≡ list_all (λ (o : Object). is_name o.name) c.args.objects.now = all_from_yields_List (λ (o : Object). is_name o.name) _ _ c.all.result c.all.ensures.ran (YieldsList-from_slice c.args.objects.now cc) (λ x b q k. search (rules, tests)) in
    e ∙ all_objects c.args.objects.now

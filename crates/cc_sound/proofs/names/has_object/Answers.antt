use Rattle.std.proofs.Common.{rules, tests, ◌≡◌, ◌∙◌}
use Rattle.std.proofs.lemmas.Iterator.{YieldsList-from_slice}
use Rattle.std.proofs.lemmas.Iterator.Search.{any_from_yields_List}
use Rattle.std.specs.List.{list_any}
use Rattle.std.specs.Str.{bytes_eq}
use Rattle.cc_program.specs.declared.object.Object.{Object}
use Rattle.cc_sound.proofs.NameLemmas.{any_objects}
use Rattle.cc_sound.proofs.names.has_object.Goals as goal

pub returns : goal.returns
returns c =
    let e : c.any.result ≡ list_any (λ (o : Object). bytes_eq c.args.name.now o.name) c.args.objects.now = any_from_yields_List (λ (o : Object). bytes_eq c.args.name.now o.name) _ _ c.any.result c.any.ensures.ran (YieldsList-from_slice c.args.objects.now cc) (λ x b q k. search (rules, tests)) in
    e ∙ any_objects c.args.name.now c.args.objects.now

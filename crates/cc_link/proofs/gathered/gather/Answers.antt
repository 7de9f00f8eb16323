use Rattle.std.proofs.Common.{◌≡◌, ◌∙◌, map, ap, sym}
use Rattle.cc_definitions.specs.Definitions.{devices, functions, objects}
use Rattle.cc_link.specs.Linked.{id_at}
use Rattle.cc_linked_names.specs.Given.{local_names, name_at, reserved_names, tags}
use Rattle.cc_structures.specs.View.{knowns_of}
use Rattle.cc_things.specs.Mentions.{mentions}
use Rattle.cc_things.specs.Things.{numbers_in, things, things_in}
use Rattle.cc_things.specs.View.{thing_view, views_of}
use Rattle.cc_link.proofs.gathered.gather.Goals as goal

pub returns : goal.returns
returns c =
    let texts = c.args.texts.now in
    let roles = c.args.roles.now in
    let reserved = reserved_names texts roles in
    let mentioned : views_of c.as_slice.result.now ≡ mentions texts = ap views_of c.as_slice.ensures.value ∙ c.in_ok-mentions.ensures in
    let told : map thing_view c.in_ok-things.things.things.items ≡ things texts = c.in_ok-things.ensures.things ∙ ap things_in mentioned in
    let tabled : map thing_view c.as_slice-2.result.now ≡ things texts = ap (map thing_view) c.as_slice-2.ensures.value ∙ told in
    let named : map thing_view c.as_slice-3.result.now ≡ things texts = ap (map thing_view) c.as_slice-3.ensures.value ∙ told in
    let known : knowns_of c.as_slice-4.result.now ≡ knowns_of c.in_ok-structures.structures.firsts.items = ap knowns_of c.as_slice-4.ensures.value in
    let firsts = knowns_of c.as_slice-4.result.now in
    record {
      things = told;
      numbers = c.in_ok-things.ensures.numbers ∙ ap numbers_in mentioned;
      numbered = c.in_ok-structures.ensures;
      devices = c.in_ok-table.ensures.devices ∙ ap devices tabled;
      functions = c.in_ok-table.ensures.functions ∙ ap functions tabled;
      objects = c.in_ok-table.ensures.objects ∙ ap objects tabled;
      ids = λ k. c.in_ok-table.ensures.ids k ∙ ap (λ ts. id_at ts k) tabled;
      names = λ k.
          c.in_ok-given.ensures.names k
          ∙ (ap (λ ts. name_at ts reserved roles firsts k) named ∙ ap (λ fs. name_at (things texts) reserved roles fs k) known);
      tags =
          c.in_ok-given.ensures.tags
          ∙ (ap (λ ts. tags ts reserved roles firsts) named ∙ ap (tags (things texts) reserved roles) known);
      locals =
          c.in_ok-given.ensures.locals (c.as_slice-5.ensures.value ∙ (c.in_ok-table.ensures.functions ∙ ap functions (tabled ∙ sym named)))
          ∙ (ap (λ ts. local_names ts reserved roles firsts) named ∙ ap (local_names (things texts) reserved roles) known);
    }

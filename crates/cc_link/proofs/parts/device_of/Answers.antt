use Rattle.std.proofs.Common.{◌≡◌, ◌∙◌, None, Some, ap, sym}
use Rattle.std.specs.Prelude.{option_and_then, option_map, slice_get}
use Rattle.cc_definitions.proofs.Finding.{views-first}
use Rattle.cc_link.specs.Linked.{device_in}
use Rattle.cc_things.specs.Mentions.{Mention}
use Rattle.cc_things.specs.View.{view_of, views_of}
use Rattle.cc_link.proofs.parts.device_of.Goals as goal

pub returns-in-None : goal.returns-in-None
returns-in-None c =
    let first : None ≡ slice_get (views_of c.args.t.now.mentions.items) 0 =
    ap (option_map view_of) (c.in-None.ensures ∙ ap (λ l. slice_get l 0) c.as_slice.ensures.value) ∙ sym (views-first c.args.t.now.mentions.items) in
    ap (option_and_then (λ (m : Mention). device_in m.name.kind)) first

pub returns-in-Some : goal.returns-in-Some
returns-in-Some c =
    let first : Some (view_of c.in-Some.m.now) ≡ slice_get (views_of c.args.t.now.mentions.items) 0 =
    ap (option_map view_of) (c.in-Some.ensures ∙ ap (λ l. slice_get l 0) c.as_slice.ensures.value) ∙ sym (views-first c.args.t.now.mentions.items) in
    c.device_in.ensures ∙ ap (option_and_then (λ (m : Mention). device_in m.name.kind)) first

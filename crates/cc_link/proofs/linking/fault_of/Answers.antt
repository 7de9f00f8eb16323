use Rattle.std.proofs.Common.{◌≡◌, ◌∙◌, List, Option, map, ap}
use Rattle.std.proofs.Math.Path.{fun_ext}
use Rattle.std.proofs.lemmas.Result.{IfOk-weaker}
use Rattle.cc_causes.specs.Causes.{cause}
use Rattle.cc_causes.specs.declared.fault.LinkFault.{LinkFault}
use Rattle.cc_link.specs.Kept.{AreGathered}
use Rattle.cc_link.specs.Linked.{first_cause}
use Rattle.cc_linked_names.specs.Given.{given_name, name_at, reserved_names}
use Rattle.cc_structures.specs.View.{knowns_of}
use Rattle.cc_things.specs.Things.{things}
use Rattle.cc_things.specs.View.{thing_view}
use Rattle.cc_things.specs.declared.text.Text.{Text}
use Rattle.cc_link.proofs.linking.fault_of.Goals as goal

pub returns : goal.returns
returns c =
    let roles = c.args.roles.now in
    let sources = c.args.sources.now in
    let given = given_name sources.given in
    let numbers = c.as_slice.result.now in
    let firsts = knowns_of sources.structures.firsts.items in
    IfOk-weaker c.first_fault.result
    (λ (fault : Option LinkFault). fault ≡ cause (map thing_view c.as_slice-2.result.now) roles given numbers)
    (λ (fault : Option LinkFault). (texts : List Text) → AreGathered texts roles sources → fault ≡ first_cause texts roles sources.structures.numbers.items firsts)
    (λ fault told texts g.
    told
    ∙ (ap (λ ts. cause (map thing_view ts) roles given numbers) c.as_slice-2.ensures.value
    ∙ (ap (λ ts. cause ts roles given numbers) g.things
    ∙ (ap (λ name_of. cause (things texts) roles name_of numbers) (fun_ext g.names)
    ∙ ap (cause (things texts) roles (name_at (things texts) (reserved_names texts roles) roles firsts)) c.as_slice.ensures.value))))
    c.first_fault.ensures

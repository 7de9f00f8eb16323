use Rattle.std.proofs.Common.{◌≡◌, ◌∙◌, ℕ, List, map, ap}
use Rattle.std.proofs.Math.Path.{fun_ext}
use Rattle.std.specs.Prelude.{filter_map, position, unwrap_or, zip}
use Rattle.cc_definitions.specs.Definitions.{thing_at}
use Rattle.cc_definitions.specs.Handlers.{is_named_main}
use Rattle.cc_link.specs.Linked.{structure_of, device_at, object_at, func_at, all_ids}
use Rattle.cc_linked_names.specs.Given.{given_name, name_at, reserved_names, tags}
use Rattle.cc_program.specs.CcNum.declared.target.Target.{Target}
use Rattle.cc_program.specs.declared.func.Func.{Func}
use Rattle.cc_program.specs.declared.object.Device.{Device}
use Rattle.cc_program.specs.declared.object.Object.{Object}
use Rattle.cc_program.specs.declared.program.Program.{Program}
use Rattle.cc_program.specs.declared.program.Roles.{Roles}
use Rattle.cc_program.specs.declared.types.Structure.{Structure}
use Rattle.cc_structures.specs.View.{knowns_of}
use Rattle.cc_things.specs.Things.{things}
use Rattle.cc_things.specs.View.{thing_view}
use Rattle.cc_link.proofs.linking.parts_with.Goals as goal

parts_same : (target : Target) (roles : Roles) (ss ts : List Structure) (ds es : List Device) (os ps : List Object) (fs gs : List Func) (m n : ℕ) → ss ≡ ts → ds ≡ es → os ≡ ps → fs ≡ gs → m ≡ n →
    (let p : Program = record { target = target; roles = roles; structures = ss; devices = ds; objects = os; funcs = fs; main = m } in p) ≡ record { target = target; roles = roles; structures = ts; devices = es; objects = ps; funcs = gs; main = n }
parts_same target roles ss ts ds es os ps fs gs m n a b c d e = cc

pub returns : goal.returns
returns c = λ target.
    let texts = c.args.texts.now in
    let roles = c.args.roles.now in
    let sources = c.args.sources.now in
    let given = given_name sources.given in
    let g = c.requires.gathered in
    let numbers = sources.structures.numbers.items in
    let names = name_at (things texts) (reserved_names texts roles) roles (knowns_of sources.structures.firsts.items) in
    let named : given ≡ names = fun_ext g.names in
    let known : map thing_view c.as_slice-things.result.now ≡ things texts = ap (map thing_view) c.as_slice-things.ensures.value ∙ g.things in
    parts_same target roles _ _ _ _ _ _ _ _ _ _
    (c.in_ok-structures.ensures
    ∙ (ap (λ n. map (structure_of n) (zip c.as_slice-3.result.now (knowns_of c.as_slice-4.result.now))) c.as_slice-2.ensures.value
    ∙ (ap (λ t. map (structure_of numbers) (zip t (knowns_of c.as_slice-4.result.now))) (c.as_slice-3.ensures.value ∙ g.tags)
    ∙ ap (λ f. map (structure_of numbers) (zip (tags (things texts) (reserved_names texts roles) roles (knowns_of sources.structures.firsts.items)) (knowns_of f))) c.as_slice-4.ensures.value)))
    (c.in_ok-devices.ensures
    ∙ (ap (λ ts. filter_map (device_at ts given) c.as_slice-5.result.now) known
    ∙ (ap (λ n. filter_map (device_at (things texts) n) c.as_slice-5.result.now) named
    ∙ ap (filter_map (device_at (things texts) names)) (c.as_slice-5.ensures.value ∙ g.devices))))
    (c.in_ok-objects.ensures
    ∙ (ap (λ ts. filter_map (object_at ts given c.args.ids.now) c.as_slice-6.result.now) known
    ∙ (ap (λ n. filter_map (object_at (things texts) n c.args.ids.now) c.as_slice-6.result.now) named
    ∙ (ap (λ i. filter_map (object_at (things texts) names i) c.as_slice-6.result.now) c.requires.ids
    ∙ ap (filter_map (object_at (things texts) names (all_ids texts numbers))) (c.as_slice-6.ensures.value ∙ g.objects)))))
    (c.in_ok-funcs.ensures
    ∙ (ap (λ ts. filter_map (func_at ts given roles c.args.ids.now) sources.given.locals.items) known
    ∙ (ap (λ n. filter_map (func_at (things texts) n roles c.args.ids.now) sources.given.locals.items) named
    ∙ (ap (λ i. filter_map (func_at (things texts) names roles i) sources.given.locals.items) c.requires.ids
    ∙ ap (filter_map (func_at (things texts) names roles (all_ids texts numbers))) g.locals))))
    (c.in_ok-main.ensures
    ∙ (ap (λ ts. unwrap_or (position (λ k. is_named_main (thing_at ts k)) c.as_slice.result.now) 0) known
    ∙ ap (λ fs. unwrap_or (position (λ k. is_named_main (thing_at (things texts) k)) fs) 0) (c.as_slice.ensures.value ∙ g.functions)))

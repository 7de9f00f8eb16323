-- Objects and devices that a source uses are in the program, with their types by its numbers.
use Rattle.std.proofs.Common.{◌≡◌, ◌∙◌, ◌⊎◌, inl, inr, ℕ, Bool, true, false, true≢false, not, ◌&&◌, List, Option, Some, None, is_some, option_map, slice_get, refl, ap, sym}
use Rattle.std.specs.Prelude.{filter_map}
use Rattle.std.specs.Option.{option_map_or}
use Rattle.std.specs.List.{list_any}
use Rattle.cc_causes.specs.Causes.{cause_of_things}
use Rattle.cc_definitions.specs.Definitions.{thing_at, definition, objects}
use Rattle.cc_link.specs.Linked.{all_ids, id_at, ids_in, object_at, object_in, name_or_none}
use Rattle.cc_program.specs.CcNum.declared.target.Target.{Target}
use Rattle.cc_program.specs.declared.object.Object.{Object}
use Rattle.cc_program.specs.declared.value.Leaf.{Leaf}
use Rattle.cc_linked_programs.proofs.Agreeing.{used_there, mention_in}
use Rattle.cc_linked_programs.proofs.ThingLists.{given-at}
use Rattle.cc_linked_programs.proofs.ThingSources.{ids_are, its_thing, number_of, number_within, is_mention}
use Rattle.cc_relocated_units.specs.Units.{unit_view, IsSoundUnit, IsSoundKind}
use Rattle.cc_structures.specs.Structures.{Numbering, numbers_of, type_in}
use Rattle.cc_structures.proofs.Elements.{In, in-any}
use Rattle.cc_things.specs.Mentions.{Mention, mentions}
use Rattle.cc_things.specs.Things.{Thing, identity_of, thing_of, things, is_defined, is_device, is_device_kind, is_func_kind}
use Rattle.cc_things.specs.declared.text.Text.{Text}
use Rattle.cc_unit.specs.Renumbered.{type_renumbered}
use Rattle.cc_unit.specs.declared.ids.Id.TheVariants as id
use Rattle.cc_unit.specs.declared.ids.Ids.{Ids}
use Rattle.cc_unit.specs.declared.unit.UnitKind.{UnitKind}
use Rattle.cc_unit.specs.declared.unit.UnitKind.TheVariants as kind
use Rattle.cc_linked_programs.proofs.Defined.{each_named, sound_mention, DefinitionOf, definition_of, same_device, not_defined}
use Rattle.cc_linked_programs.proofs.ViewNumbers.{object-id, objects-in}
use Rattle.cc_linked_programs.proofs.Shapes.{function_kept, function_is}
use Rattle.cc_linked_programs.specs.FunctionTypes.{is_function_type}

module _ (texts : List Text) (target : Target) (sound : (t : ℕ) (x : Text) → slice_get texts t ≡ Some x → IsSoundUnit target x.unit) (numbering : Numbering) (none : cause_of_things numbering (things texts) ≡ None)
    (name_of : ℕ → Option (List ℕ)) where
  abbrev ts : List Thing
  ts = things texts

  abbrev thing : Mention → Thing
  thing m = thing_of (mentions texts) (identity_of m)

  -- the objects of the program
  abbrev program_objects : List Object
  program_objects = filter_map (object_at ts name_of (all_ids texts numbering)) (objects ts)

  some_mapped : {A B : Type 0} (f : A → B) (o : Option A) → is_some o ≡ true → is_some (option_map f o) ≡ true
  some_mapped f None h = absurd (true≢false (sym h))
  some_mapped f (Some x) h = refl

  each_object : (k : ℕ) → In k (objects ts) → is_some (object_at ts name_of (all_ids texts numbering) k) ≡ true
  each_object k i = some_mapped (object_in (all_ids texts numbering) (name_or_none ts name_of k)) (definition (thing_at ts k)) (objects-in ts k i)

  none_of : (a b : Bool) → b ≡ true → a && not b ≡ false
  none_of true b e = ap not e
  none_of false b e = refl

  pub no_device : (m : Mention) → is_defined (thing m) ≡ true → is_device (thing m) ≡ false
  no_device m e = none_of (list_any (λ (k : Mention). is_device_kind k.name.kind) (thing m).mentions) (is_defined (thing m)) e

  pub ids_structures : (m : Mention) → In m (mentions texts) → (ids_in (all_ids texts numbering) m.text).structures ≡ numbers_of numbering m.text
  ids_structures m h = let r = is_mention texts m h in ap (λ (i : Ids). i.structures) (ids_are texts numbering m.text r.text r.there)

  -- what is defined, and is no function, is an object of the program, with the type that each mention has
  pub defined_object : (m : Mention) → In m (mentions texts) → is_defined (thing m) ≡ true → is_function_type m.name.ctype ≡ false →
      (at : ℕ) × (id_at ts (number_of texts m) ≡ id.Object at) × ((o : Object) × (slice_get program_objects at ≡ Some o) × (o.ctype ≡ type_in numbering m.text m.name.ctype))
  defined_object m h e plain =
      let k = number_of texts m in
      let d = definition_of texts target sound numbering none m h e in
      let t : thing_at ts k ≡ thing m = its_thing texts m h in
      let defined : definition (thing_at ts k) ≡ Some d.by = ap definition t ∙ d.is in
      let p = object-id ts k (number_within texts m h) (ap is_some defined) (ap is_device t ∙ no_device m e) (ap (λ (o : Option Mention). option_map_or (λ (j : Mention). is_func_kind j.name.kind) o false) defined ∙ no_function d) in
      let o = object_in (all_ids texts numbering) (name_or_none ts name_of k) d.by in (
        p.0,
        p.1,
        (
          o,
          given-at (object_at ts name_of (all_ids texts numbering)) (objects ts) each_object p.0 k p.2 ∙ ap (option_map (object_in (all_ids texts numbering) (name_or_none ts name_of k))) defined,
          ap (λ (numbers : List ℕ). type_renumbered numbers d.by.name.ctype) (ids_structures d.by d.known) ∙ d.type,
        ),
      )
    where
      no_function : (d : DefinitionOf texts target sound numbering none m) → is_func_kind d.by.name.kind ≡ false
      no_function d = by d.by.name.kind refl (sound_mention texts target sound d.by d.known).name
        where
          by : (k : UnitKind) → d.by.name.kind ≡ k → IsSoundKind (unit_view target (sound_mention texts target sound d.by d.known).text.unit) d.by.name k → is_func_kind k ≡ false
          by (kind.Object init) q s = refl
          by (kind.Device x) q s = refl
          by (kind.Func entry f) q s =
              absurd (true≢false (sym (function_is d.by.name.ctype s.sig s.typed) ∙ (sym (function_kept (numbers_of numbering d.by.text) d.by.name.ctype)
              ∙ (ap is_function_type d.type ∙ (function_kept (numbers_of numbering m.text) m.name.ctype ∙ plain)))))

  -- what a source uses as an object is defined
  pub object_defined : (m : Mention) (init : List Leaf) → In m (mentions texts) → m.used ≡ true → m.name.kind ≡ kind.Object init → is_defined (thing m) ≡ true
  object_defined m init h u q = by (used_there texts (each_named texts target sound) numbering none m h u)
    where
      not_kinds : (a b : UnitKind) → is_device_kind a ≡ true → a ≡ b → is_device_kind b ≡ true
      not_kinds a b e f = sym (ap is_device_kind f) ∙ e

      device : is_device (thing m) ≡ true → is_defined (thing m) ≡ true
      device e =
          let r = in-any (λ (k : Mention). is_device_kind k.name.kind) (thing m).mentions (any_of (list_any (λ (k : Mention). is_device_kind k.name.kind) (thing m).mentions) (is_defined (thing m)) e) in
          let k = mention_in texts (each_named texts target sound) (identity_of m) r.0 r.1.0 in
          found r.0 r.0.name.kind refl r.1.1 k.0 k.1
        where
          any_of : (a b : Bool) → a && not b ≡ true → a ≡ true
          any_of true b h = refl
          any_of false b h = absurd (true≢false (sym h))

          found : (k : Mention) (d : UnitKind) → k.name.kind ≡ d → is_device_kind k.name.kind ≡ true → In k (mentions texts) → identity_of k ≡ identity_of m → is_defined (thing m) ≡ true
          found k (kind.Object ls) f g i e' = absurd (true≢false (sym g ∙ ap is_device_kind f))
          found k (kind.Func entry b) f g i e' = absurd (true≢false (sym g ∙ ap is_device_kind f))
          found k (kind.Device d) f g i e' =
              let same : thing k ≡ thing m = ap (thing_of (mentions texts)) e' in
              let s = same_device texts target sound numbering none k m d i h (sym e') f (ap is_defined same ∙ not_defined texts target sound numbering none m h e) in
              absurd (true≢false (sym (ap is_device_kind s.is) ∙ ap is_device_kind q))

      by : (is_defined (thing m) ≡ true) ⊎ (is_device (thing m) ≡ true) → is_defined (thing m) ≡ true
      by (inl e) = e
      by (inr e) = device e

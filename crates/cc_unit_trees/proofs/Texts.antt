-- A program's text is that of its external declarations.
use Rattle.std.proofs.Common.{◌≡◌, ℕ, ◌+◌, Bool, true, false, not, cond, List, [], ◌∷◌, ◌++◌, map, take, Option, Some, None, refl, ap, sym, ◌∙◌}
use Rattle.std.specs.List.{filter}
use Rattle.std.specs.Option.{is_none}
use Rattle.cc_pieces.specs.Pieces.{Pieces}
use Rattle.cc_print.specs.Printed.{intrinsics, printed}
use Rattle.cc_print.specs.Units.{each, is_used, intrinsic_line, intrinsic_prototype, first_naming, is_in_parameters, tag_line, line_if, announcements, structure, device_line, device_named, prototype, object_line, function}
use Rattle.cc_print.specs.Values.{definition_line, definition}
use Rattle.cc_program.specs.declared.expr.Intr.TheVariants as intr
use Rattle.cc_program.specs.declared.object.Device.{Device}
use Rattle.cc_program.specs.declared.program.Program.{Program}
use Rattle.cc_program.specs.declared.types.Structure.{Structure}
use Rattle.cc_typed.specs.CcSyntax.Normal.{has_name}
use Rattle.cc_unit_trees.specs.Externals.{External, AnIntrinsic, ATag, AStructure, ADevice, APrototype, AnObject, AValue, AFunction, intrinsics_used, in_front_if, announced, is_given, externals, external_text}
use Rattle.cc_unit_trees.proofs.EachExternal.{each-append, each-map, each-filter}

-- ---- structures that are announced

line-if : (b : Bool) (s : Structure) (ss : List Structure) (qs ps : Pieces) → each tag_line ss ps ≡ qs → each tag_line (in_front_if b s ss) ps ≡ line_if b s qs
line-if true s ss qs ps h = ap (tag_line s) h
line-if false s ss qs ps h = h

tags-text : (all : List Structure) (i : ℕ) (rest : List Structure) (ps : Pieces) → each tag_line (announced all i rest) ps ≡ announcements all i rest ps
tags-text all i [] ps = refl
tags-text all i (s ∷ rest) ps = line-if (is_in_parameters (first_naming i (take i all))) s (announced all (i + 1) rest) (announcements all (i + 1) rest ps) ps (tags-text all (i + 1) rest ps)

-- ---- devices with names

unnamed-device : (d : Device) (o : Option (List ℕ)) (ps : Pieces) → not (is_none o) ≡ false → device_named d o ps ≡ ps
unnamed-device d None ps h = refl
unnamed-device d (Some x) ps h = absurd (cc)

module _ (p : Program) where
  -- ---- intrinsics and first values

  chosen : (b : Bool) (qs ps : Pieces) → b ≡ true → cond b qs ps ≡ qs
  chosen true qs ps h = refl
  chosen false qs ps h = absurd (cc)

  left_out : (b : Bool) (qs ps : Pieces) → b ≡ false → cond b qs ps ≡ ps
  left_out true qs ps h = absurd (cc)
  left_out false qs ps h = refl

  intrinsics-text : (ps : Pieces) → each (intrinsic_line p) (intrinsics_used p) ps ≡ intrinsics p ps
  intrinsics-text ps = each-filter (λ i. is_used i p) (intrinsic_line p) (intrinsic_prototype p) (λ i qs h. chosen (is_used i p) (intrinsic_line p i qs) qs h) (λ i qs h. left_out (is_used i p) (intrinsic_line p i qs) qs h)
      (intr.Off ∷ intr.On ∷ intr.Save ∷ intr.Restore ∷ []) ps

  devices-text : (ps : Pieces) → each device_line (filter has_name p.devices) ps ≡ each device_line p.devices ps
  devices-text ps = each-filter has_name device_line device_line (λ d qs h. refl) (λ d qs h. unnamed-device d d.name qs h) p.devices ps

  values-text : (ps : Pieces) → each (definition_line p) (filter is_given p.objects) ps ≡ each (definition p) p.objects ps
  values-text ps = each-filter is_given (definition_line p) (definition p) (λ o qs h. chosen (is_given o) (definition_line p o qs) qs h) (λ o qs h. left_out (is_given o) (definition_line p o qs) qs h) p.objects ps

  -- ---- the whole

  abbrev text_of : List External → Pieces → Pieces
  text_of es ps = each (external_text p) es ps

  -- those of one kind, in front of the others
  part : {A : Type 0} (make : A → External) (xs : List A) (es : List External) (rest whole : Pieces → Pieces) → ((ps : Pieces) → text_of es ps ≡ rest ps) →
      ((ps : Pieces) → each (λ x. external_text p (make x)) xs ps ≡ whole ps) → (ps : Pieces) → text_of (map make xs ++ es) ps ≡ whole (rest ps)
  part make xs es rest whole h k ps =
      each-append (external_text p) (map make xs) es ps ∙ (ap (λ qs. text_of (map make xs) qs) (h ps) ∙ (each-map (external_text p) make xs (rest ps) ∙ k (rest ps)))

  abbrev functions_text : Pieces → Pieces
  functions_text ps = each (function p) p.funcs ps

  abbrev values_text : Pieces → Pieces
  values_text ps = each (definition p) p.objects (functions_text ps)

  abbrev objects_text : Pieces → Pieces
  objects_text ps = each (object_line p.structures) p.objects (values_text ps)

  abbrev prototypes_text : Pieces → Pieces
  prototypes_text ps = each (prototype p.structures) p.funcs (objects_text ps)

  abbrev devices_text : Pieces → Pieces
  devices_text ps = each device_line p.devices (prototypes_text ps)

  abbrev structures_text : Pieces → Pieces
  structures_text ps = each (structure p.structures) p.structures (devices_text ps)

  abbrev tags_text : Pieces → Pieces
  tags_text ps = announcements p.structures 0 p.structures (structures_text ps)

  abbrev es_values : List External
  es_values = map AValue (filter is_given p.objects) ++ map AFunction p.funcs

  abbrev es_objects : List External
  es_objects = map AnObject p.objects ++ es_values

  abbrev es_prototypes : List External
  es_prototypes = map APrototype p.funcs ++ es_objects

  abbrev es_devices : List External
  es_devices = map ADevice (filter has_name p.devices) ++ es_prototypes

  abbrev es_structures : List External
  es_structures = map AStructure p.structures ++ es_devices

  abbrev es_tags : List External
  es_tags = map ATag (announced p.structures 0 p.structures) ++ es_structures

  pub externals-text : printed p ≡ each (external_text p) (externals p) []
  unfolding printed
  externals-text =
      let values = part AValue (filter is_given p.objects) (map AFunction p.funcs) functions_text (λ ps. each (definition p) p.objects ps) (λ ps. each-map (external_text p) AFunction p.funcs ps) values-text in
      let objects = part AnObject p.objects es_values values_text (λ ps. each (object_line p.structures) p.objects ps) values (λ ps. refl) in
      let prototypes = part APrototype p.funcs es_objects objects_text (λ ps. each (prototype p.structures) p.funcs ps) objects (λ ps. refl) in
      let devices = part ADevice (filter has_name p.devices) es_prototypes prototypes_text (λ ps. each device_line p.devices ps) prototypes devices-text in
      let structures = part AStructure p.structures es_devices devices_text (λ ps. each (structure p.structures) p.structures ps) devices (λ ps. refl) in
      let tags = part ATag (announced p.structures 0 p.structures) es_structures structures_text (λ ps. announcements p.structures 0 p.structures ps) structures (λ ps. tags-text p.structures 0 p.structures ps) in
      sym (part AnIntrinsic (intrinsics_used p) es_tags tags_text (λ ps. intrinsics p ps) tags intrinsics-text [])

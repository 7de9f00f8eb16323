-- The unit that a sound program's text is links to the program, where what the program has is as it was behind the numbers of the
-- unit and the ids of linking.
use Rattle.std.proofs.Common.{◌≡◌, ◌∙◌, inl, inr, ◌+◌, ℕ, true, List, [], ◌∷◌, ◌++◌, length, map, zip, filter_map, Option, Some, unwrap_or, slice_get, refl, ap, sym, subst, arith}
use Rattle.std.specs.Prelude.{position}
use Rattle.std.specs.Str.{bytes_eq}
use Rattle.std.specs.List.{list_all}
use Rattle.std.proofs.lemmas.List.Elements.{filter_map-append}
use Rattle.cc_definitions.specs.Definitions.{thing_at, devices, objects}
use Rattle.cc_definitions.specs.Handlers.{is_named_main}
use Rattle.cc_causes.specs.Entries.{entry_at}
use Rattle.cc_given_names.proofs.Among.{same-text}
use Rattle.cc_link.specs.Linked.{Links, structure_of, device_at, device_by, object_at as linked_object_at, object_by, func_at, func_by, main_number, program, all_ids, ids_in, id_at}
use Rattle.cc_linked_names.specs.Given.{locals_for, name_at, reserved_names, local_names as given_locals, file_names as given_names, tags as given_tags, local_wishes}
use Rattle.cc_linked_programs.proofs.Places.{distinct-places}
use Rattle.cc_linked_programs.proofs.ThingSources.{ids_are}
use Rattle.cc_names.specs.Names.{Own, names_for, numbers_from}
use Rattle.cc_program.specs.declared.func.Entry.{Entry}
use Rattle.cc_program.specs.declared.func.Func.{Func}
use Rattle.cc_program.specs.declared.object.Device.{Device}
use Rattle.cc_program.specs.declared.object.Object.{Object}
use Rattle.cc_program.specs.declared.program.Program.{Program}
use Rattle.cc_program.specs.declared.stmt.Stmt.{Stmt}
use Rattle.cc_program.specs.declared.types.CType.{CType}
use Rattle.cc_program.specs.declared.types.Sig.{Sig}
use Rattle.cc_program.specs.declared.types.Structure.{Structure}
use Rattle.cc_program.specs.declared.value.Leaf.{Leaf}
use Rattle.cc_relocation.specs.Relocated.{local_with, func_with, device_with, object_with}
use Rattle.cc_shown_declarations.specs.Numbers.{leaf_numbered}
use Rattle.cc_shown_effects.specs.Numbers.{stmt_numbered}
use Rattle.cc_printed_programs.specs.Ascending.{Ascend}
use Rattle.cc_printed_programs.specs.Kept.{AreKept}
use Rattle.cc_shown_declarations.specs.UnitNumbers.{first_function, first_object, device_number}
use Rattle.cc_printed_programs.specs.Numbers.{unit_numbers, own_numbers}
use Rattle.cc_printed_programs.specs.Returning.{Returns}
use Rattle.cc_printed_programs.specs.Units.{structure_shown, body_shown, device_shown, function_shown, object_shown, names_shown, unit_shown}
use Rattle.cc_printed_programs.proofs.Causes.{no-cause-of-things, no-bad-handler, entry-is, runs-first, main-function}
use Rattle.cc_printed_programs.proofs.Identities.{shown_names, device_part, function_part, object_part, device-names-are, names-apart}
use Rattle.cc_printed_programs.proofs.ShownLists.{get-map, within, in-get, unique-place, position-some}
use Rattle.cc_printed_programs.proofs.Naming.{Apart, parted, stay, apart-left, apart-right, apart-both}
use Rattle.cc_printed_programs.proofs.Named.{with_locals, locals-are, given-with, file-names-are, name-is}
use Rattle.cc_printed_programs.proofs.Ranges.{get-number, length-numbers, listed}
use Rattle.cc_printed_programs.proofs.Sections.{text, ts, apart, thing-is, devices-are-numbers, functions-are, objects-are, function-id, object-id, device-id, function-number}
use Rattle.cc_printed_programs.proofs.Structures.{all_known, own_numbering, are_numbered, tags-wished, structures-made}
use Rattle.cc_printed_programs.proofs.Things.{id-here}
use Rattle.cc_printed_programs.proofs.UnitNames.{named, numbered, devices-are, named-there, numbered-there, function-there, object-there, device-there}
use Rattle.cc_structures.proofs.Elements.{In, map-both, length-map_of}
use Rattle.cc_structures.specs.Structures.{Known, Numbering}
use Rattle.cc_type.proofs.CcSyntax.Parts.{all_at}
use Rattle.cc_type.proofs.CcSyntax.Prefixes.{both_true}
use Rattle.cc_type.specs.CcSyntax.Lists.{come_first}
use Rattle.cc_type.specs.CcSyntax.Names.{file_names, intrinsic_names, local_names, tags}
use Rattle.cc_type.specs.CcSyntax.Normal.{has_name, count_named}
use Rattle.cc_type.specs.CcSyntax.Sound.{IsSound, IsFunc, main_name}
use Rattle.cc_type.specs.CcSyntax.Types.{Named}
use Rattle.cc_things.specs.Things.{Thing}
use Rattle.cc_things.specs.declared.text.Text.{Text}
use Rattle.cc_type.specs.CcUnit.Renumbered.{structure_by, object_by as object_id_by, func_by as func_id_by, device_by as device_id_by, type_renumbered, leaf_renumbered, stmt_renumbered}
use Rattle.cc_type.specs.CcUnit.declared.ids.Id.{Id}
use Rattle.cc_type.specs.CcUnit.declared.ids.Ids.{Ids}
use Rattle.cc_type.specs.CcUnit.declared.unit.TypedUnit.{TypedUnit}
use Rattle.cc_type.specs.CcUnit.declared.unit.UnitName.{UnitName}
use Rattle.cc_program.specs.CcWords.Names.{is_name, are_distinct}

program-of_fields : (p : Program) (ss : List Structure) (ds : List Device) (os : List Object) (fs : List Func) (m : ℕ) → ss ≡ p.structures → ds ≡ p.devices → os ≡ p.objects → fs ≡ p.funcs → m ≡ p.main →
    p ≡ record { target = p.target; roles = p.roles; structures = ss; devices = ds; objects = os; funcs = fs; main = m }
program-of_fields p ss ds os fs m a b c d e = rw (a, b, c, d, e) refl

module _ (p : Program) (function_at object_at : ℕ → ℕ) (identifiers : List (List ℕ)) (sound : IsSound p) (order : come_first has_name p.devices ≡ true)
    (functions_ascend : Ascend (length p.funcs) function_at) (objects_ascend : Ascend (length p.objects) object_at) where
  abbrev all : List Thing
  all = ts p function_at object_at identifiers sound order

  abbrev pub own_text : Text
  own_text = record { unit = unit_shown p function_at object_at; identifiers = identifiers }

  abbrev unit : TypedUnit
  unit = unit_shown p function_at object_at

  abbrev names : List UnitName
  names = names_shown p function_at object_at

  abbrev reserved : List (List ℕ)
  reserved = reserved_names (own_text ∷ []) p.roles

  abbrev firsts : List Known
  firsts = all_known unit

  abbrev numbering : Numbering
  numbering = own_numbering unit

  abbrev name_of : ℕ → Option (List ℕ)
  name_of k = name_at all reserved p.roles firsts k

  abbrev pub ids : Ids
  ids = ids_in (all_ids (own_text ∷ []) (own_numbering (unit_shown p function_at object_at))) 0

  -- ---- ids

  as-many : length (map structure_shown p.structures) ≡ length p.structures
  as-many = length-map_of structure_shown p.structures

  structures-by : ids.structures ≡ numbers_from 0 (length p.structures)
  structures-by = ap (λ (i : Ids). i.structures) (ids_are (own_text ∷ []) numbering 0 own_text refl) ∙ ap (numbers_from 0) as-many

  structure-id : (i : ℕ) (s : Structure) → slice_get p.structures i ≡ Some s → structure_by (slice_get ids.structures i) ≡ i
  structure-id i s e = ap (λ (ns : List ℕ). structure_by (slice_get ns i)) structures-by ∙ ap structure_by (get-number 0 (length p.structures) i i (within p.structures i s e) (omega arith))

  id-at : (k : ℕ) (n : UnitName) → slice_get names k ≡ Some n → slice_get ids.names k ≡ Some (id_at all k)
  id-at k n e = id-here (text p function_at object_at identifiers sound order) (apart p function_at object_at identifiers sound order) numbering k n e

  -- by the numbers of the unit, and by these ids, each has its own number again
  pub ids-return : Returns p ids (unit_numbers p) own_numbers
  ids-return = record {
    structures = structure-id;
    objects = λ i o e. ap object_id_by (id-at (first_object p + i) _ (object-there p function_at object_at i (first_object p + i) o e refl) ∙ ap (λ (x : Id). Some x) (object-id p function_at object_at identifiers sound order functions_ascend objects_ascend i o e));
    devices = λ i d e. ap device_id_by (id-at (device_number p i) _ (device-there p function_at object_at order i d e) ∙ ap (λ (x : Id). Some x) (device-id p function_at object_at identifiers sound order functions_ascend objects_ascend i d e));
    funcs = λ i f e. ap func_id_by (id-at (first_function p + i) _ (function-there p function_at object_at i (first_function p + i) f e refl) ∙ ap (λ (x : Id). Some x) (function-id p function_at object_at identifiers sound order functions_ascend objects_ascend i f e));
  }

  module _ (kept : AreKept p ids (names_shown p function_at object_at)) where
    -- ---- structures

    tags-are : given_tags all reserved p.roles firsts ≡ tags p
    tags-are =
        let d = (both_true (list_all is_name (tags p)) (are_distinct (tags p)) sound.tag_names).1 in
        ap (names_for reserved [] []) (tags-wished 0 p.structures) ∙ stay reserved [] [] (tags p) d (λ x i. refl)

    numbers-same : numbers_from 0 (length (map structure_shown p.structures)) ≡ ids.structures
    numbers-same = sym (ap (λ (i : Ids). i.structures) (ids_are (own_text ∷ []) numbering 0 own_text refl))

    structures-are : map (structure_of numbering) (zip (given_tags all reserved p.roles firsts) firsts) ≡ p.structures
    structures-are =
        ap (λ (xs : List (List ℕ)). map (structure_of numbering) (zip xs firsts)) tags-are
        ∙ structures-made (numbers_from 0 (length (map structure_shown p.structures))) 0 p.structures
        (λ s i m j. ap (λ (ns : List ℕ). type_renumbered ns m.1) numbers-same ∙ kept.members s i m j)

    -- ---- devices

    device-made : (k : ℕ) (d : Device) → slice_get names k ≡ Some (device_shown d) → device_at all name_of k ≡ Some d
    device-made k d e =
        ap (device_by (name_of k)) (thing-is p function_at object_at identifiers sound order k (device_shown d) e)
        ∙ ap (λ (o : Option (List ℕ)). Some (device_with o d)) (name-is p function_at object_at identifiers sound order reserved firsts k (device_shown d) e)

    devices-made : filter_map (device_at all name_of) (devices all) ≡ p.devices
    devices-made =
        ap (filter_map (device_at all name_of)) (devices-are-numbers p function_at object_at identifiers sound order)
        ∙ (filter_map-append (device_at all name_of) (numbers_from 0 (count_named p.devices)) (numbers_from (first_object p + length p.objects) (length (numbered p)))
        ∙ (ap (λ (ds : List Device). ds ++ filter_map (device_at all name_of) (numbers_from (first_object p + length p.objects) (length (numbered p))))
        (listed (device_at all name_of) 0 (named p) (λ j k d e f. let s : j ≡ k = omega (arith, e) in device-made k d (named-there p function_at object_at k d (subst (λ (i : ℕ). slice_get (named p) i ≡ Some d) s f))))
        ∙ (ap (λ (ds : List Device). named p ++ ds)
        (listed (device_at all name_of) (first_object p + length p.objects) (numbered p) (λ j k d e f. device-made k d (numbered-there p function_at object_at j k d f (omega (arith, e)))))
        ∙ devices-are p order)))

    -- ---- objects

    object-made : (i k : ℕ) (o : Object) → k ≡ first_object p + i → slice_get p.objects i ≡ Some o → linked_object_at all name_of (all_ids (own_text ∷ []) numbering) k ≡ Some o
    object-made i k o h e =
        let there = object-there p function_at object_at i k o e h in
        let name : unwrap_or (name_of k) [] ≡ o.name = ap (λ (x : Option (List ℕ)). unwrap_or x []) (name-is p function_at object_at identifiers sound order reserved firsts k (object_shown p (object_at i) o) there) in
        ap (object_by (all_ids (own_text ∷ []) numbering) (unwrap_or (name_of k) [])) (thing-is p function_at object_at identifiers sound order k (object_shown p (object_at i) o) there)
        ∙ (ap (λ (x : List ℕ). Some (object_with x ids o.ctype (map (leaf_numbered (unit_numbers p)) o.init))) name
        ∙ (ap (λ (t : CType). Some (record { name = o.name; ctype = t; init = map (leaf_renumbered ids) (map (leaf_numbered (unit_numbers p)) o.init) })) (kept.objects i o e)
        ∙ ap (λ (ls : List Leaf). Some (record { name = o.name; ctype = o.ctype; init = ls })) (kept.values i o e)))

    objects-made : filter_map (linked_object_at all name_of (all_ids (own_text ∷ []) numbering)) (objects all) ≡ p.objects
    objects-made =
        ap (filter_map (linked_object_at all name_of (all_ids (own_text ∷ []) numbering))) (objects-are p function_at object_at identifiers sound order functions_ascend objects_ascend)
        ∙ listed (linked_object_at all name_of (all_ids (own_text ∷ []) numbering)) (first_object p) p.objects (λ j k o e f. object-made j k o e f)

    -- ---- functions

    own-function : (i : ℕ) (f : Func) → slice_get p.funcs i ≡ Some f → IsFunc p f
    own-function i f e = all_at (IsFunc p) p.funcs i f e sound.funcs

    -- no local has a name of the file
    local-space : (f : Func) → IsFunc p f → (are_distinct (local_names f.locals) ≡ true) × Apart (local_names f.locals) (intrinsic_names p.roles ++ given_names all reserved p.roles firsts)
    local-space f own =
        let d = (both_true (list_all is_name (local_names f.locals ++ file_names p)) (are_distinct (local_names f.locals ++ file_names p)) own.names).1 in
        let a = parted (local_names f.locals) (file_names p) d in
        (a.left, subst (λ (xs : List (List ℕ)). Apart (local_names f.locals) (intrinsic_names p.roles ++ xs)) (sym (file-names-are p function_at object_at identifiers sound order reserved firsts)) (from-file (local_names f.locals) a.apart))
      where
        from-file : (ls : List (List ℕ)) → Apart ls (file_names p) → Apart ls (intrinsic_names p.roles ++ shown_names p)
        from-file ls h =
            let dn = apart-left ls _ _ h in
            let r = apart-right ls _ (object_part p ++ (function_part p ++ intrinsic_names p.roles)) h in
            let o = apart-left ls (object_part p) (function_part p ++ intrinsic_names p.roles) r in
            let s = apart-right ls (object_part p) (function_part p ++ intrinsic_names p.roles) r in
            let g = apart-left ls (function_part p) (intrinsic_names p.roles) s in
            let i = apart-right ls (function_part p) (intrinsic_names p.roles) s in
            apart-both ls (intrinsic_names p.roles) (shown_names p) i (apart-both ls (device_part p) (function_part p ++ object_part p) (subst (Apart ls) (device-names-are p.devices) dn) (apart-both ls (function_part p) (object_part p) g o))

    function-locals : (given : List (List ℕ)) (i k : ℕ) (f : Func) → k ≡ first_function p + i → slice_get p.funcs i ≡ Some f →
        names_for reserved given (intrinsic_names p.roles ++ given_names all reserved p.roles firsts) (local_wishes (thing_at all k)) ≡ local_names f.locals
    function-locals given i k f h e =
        let there = function-there p function_at object_at i k f e h in
        let space = local-space f (own-function i f e) in
        ap (λ (t : Thing). names_for reserved given (intrinsic_names p.roles ++ given_names all reserved p.roles firsts) (local_wishes t)) (thing-is p function_at object_at identifiers sound order k (function_shown p (function_at i) f) there)
        ∙ (ap (names_for reserved given (intrinsic_names p.roles ++ given_names all reserved p.roles firsts)) (sym (map-both (λ (l : Named). l.0) Own f.locals))
        ∙ stay reserved given (intrinsic_names p.roles ++ given_names all reserved p.roles firsts) (local_names f.locals) space.0 space.1)

    locals-given : given_locals all reserved p.roles firsts ≡ with_locals (first_function p) p.funcs
    locals-given =
        let outer = intrinsic_names p.roles ++ given_names all reserved p.roles firsts in
        let given = given_tags all reserved p.roles firsts ++ given_names all reserved p.roles firsts in
        ap (locals_for all reserved outer given) (functions-are p function_at object_at identifiers sound order functions_ascend objects_ascend)
        ∙ locals-are all reserved outer (first_function p) p.funcs (λ given j k f e g. function-locals given j k f e g) given

    locals-stay : (ls : List Named) → ((l : Named) → In l ls → type_renumbered ids.structures l.1 ≡ l.1) → map (local_with ids.structures) (zip (local_names ls) ls) ≡ ls
    locals-stay [] h = refl
    locals-stay (l ∷ ls) h =
        ap (λ (t : CType). (l.0, t) ∷ map (local_with ids.structures) (zip (local_names ls) ls)) (h l (inl refl))
        ∙ ap (λ (ns : List Named). l ∷ ns) (locals-stay ls (λ n i. h n (inr i)))

    function-made : (i k : ℕ) (f : Func) → k ≡ first_function p + i → slice_get p.funcs i ≡ Some f → func_at all name_of p.roles (all_ids (own_text ∷ []) numbering) (k, local_names f.locals) ≡ Some f
    function-made i k f h e =
        let there = function-there p function_at object_at i k f e h in
        let name : unwrap_or (name_of k) [] ≡ f.name = ap (λ (x : Option (List ℕ)). unwrap_or x []) (name-is p function_at object_at identifiers sound order reserved firsts k (function_shown p (function_at i) f) there) in
        let entry : entry_at all p.roles name_of k ≡ f.entry = ap (entry_at all p.roles name_of) h ∙ entry-is p function_at object_at identifiers sound order reserved firsts ids kept i f e in
        ap (func_by (all_ids (own_text ∷ []) numbering) (unwrap_or (name_of k) []) (local_names f.locals) (entry_at all p.roles name_of k)) (thing-is p function_at object_at identifiers sound order k (function_shown p (function_at i) f) there)
        ∙ (ap (λ (x : List ℕ). Some (func_with x (local_names f.locals) (entry_at all p.roles name_of k) ids (body_shown p f))) name
        ∙ (ap (λ (x : Option Entry). Some (func_with f.name (local_names f.locals) x ids (body_shown p f))) entry
        ∙ (ap (λ (s : Sig). Some (record { name = f.name; sig = s; entry = f.entry; params = f.params; locals = map (local_with ids.structures) (zip (local_names f.locals) f.locals); body = map (stmt_renumbered ids) (map (stmt_numbered (unit_numbers p)) f.body) })) (kept.sigs i f e)
        ∙ (ap (λ (ls : List Named). Some (record { name = f.name; sig = f.sig; entry = f.entry; params = f.params; locals = ls; body = map (stmt_renumbered ids) (map (stmt_numbered (unit_numbers p)) f.body) })) (locals-stay f.locals (kept.locals i f e))
        ∙ ap (λ (ss : List Stmt). Some (record { name = f.name; sig = f.sig; entry = f.entry; params = f.params; locals = f.locals; body = ss })) (kept.bodies i f e)))))

    functions-made : filter_map (func_at all name_of p.roles (all_ids (own_text ∷ []) numbering)) (given_locals all reserved p.roles firsts) ≡ p.funcs
    functions-made =
        ap (filter_map (func_at all name_of p.roles (all_ids (own_text ∷ []) numbering))) locals-given
        ∙ given-with (func_at all name_of p.roles (all_ids (own_text ∷ []) numbering)) (first_function p) p.funcs (λ j k f e g. function-made j k f e g)

    -- ---- the function that runs first

    main-at : (j k : ℕ) → slice_get (numbers_from (first_function p) (length p.funcs)) j ≡ Some k → is_named_main (thing_at all k) ≡ true → j ≡ p.main
    main-at j k e h =
        let a = function-number p function_at object_at identifiers sound order k (in-get (numbers_from (first_function p) (length p.funcs)) j k e) in
        let place = a.place in
        let low = within (numbers_from (first_function p) (length p.funcs)) j k e in
        let many = length-numbers (first_function p) (length p.funcs) in
        let number = get-number (first_function p) (length p.funcs) j (first_function p + j) (omega (arith, low, many)) refl in
        let same : k ≡ first_function p + j = some-same (sym e ∙ number) in
        let own : j ≡ a.at = omega (arith, place, same) in
        let named : bytes_eq main_name a.func.name ≡ true = sym (ap is_named_main a.thing) ∙ h in
        let m = main-function p function_at object_at identifiers sound order in
        let d = parted (device_part p) (function_part p ++ object_part p) (names-apart p sound).whole in
        let f = parted (function_part p) (object_part p) d.right in
        own ∙ distinct-places (function_part p) f.left a.at p.main main_name
        (get-map (λ (g : Func). g.name) p.funcs a.at a.func a.there ∙ ap (λ (x : List ℕ). Some x) (sym (same-text main_name a.func.name named)))
        (get-map (λ (g : Func). g.name) p.funcs p.main m.func m.there ∙ ap (λ (x : List ℕ). Some x) m.named)
      where
        some-same : {x y : ℕ} → Some x ≡ Some y → x ≡ y
        some-same e = cc e

    main-is : main_number all ≡ p.main
    main-is =
        let m = main-function p function_at object_at identifiers sound order in
        let low = within p.funcs p.main m.func m.there in
        let many = length-numbers (first_function p) (length p.funcs) in
        let k = first_function p + p.main in
        let there = function-there p function_at object_at p.main k m.func m.there refl in
        let passes : is_named_main (thing_at all k) ≡ true = ap is_named_main (thing-is p function_at object_at identifiers sound order k (function_shown p (function_at p.main) m.func) there) ∙ runs-first p function_at object_at identifiers sound order k p.main m.func m.named in
        let place = unique-place (λ (j : ℕ). is_named_main (thing_at all j)) (numbers_from (first_function p) (length p.funcs)) p.main k (get-number (first_function p) (length p.funcs) p.main k low refl) passes (λ j y e h. main-at j y e h) in
        let found = position-some (λ (j : ℕ). is_named_main (thing_at all j)) (numbers_from (first_function p) (length p.funcs)) p.main place (omega (arith, low, many)) in
        ap (λ (ks : List ℕ). unwrap_or (position (λ (j : ℕ). is_named_main (thing_at all j)) ks) 0) (functions-are p function_at object_at identifiers sound order functions_ascend objects_ascend)
        ∙ ap (λ (o : Option ℕ). unwrap_or o 0) found

    -- ---- all

    program-is : p ≡ program (own_text ∷ []) p.roles numbering firsts p.target
    program-is = program-of_fields p
        (map (structure_of numbering) (zip (given_tags all reserved p.roles firsts) firsts))
        (filter_map (device_at all name_of) (devices all))
        (filter_map (linked_object_at all name_of (all_ids (own_text ∷ []) numbering)) (objects all))
        (filter_map (func_at all name_of p.roles (all_ids (own_text ∷ []) numbering)) (given_locals all reserved p.roles firsts))
        (main_number all) structures-are devices-made objects-made functions-made main-is

    pub kept-links : Links (own_text ∷ []) p.target p.roles p
    kept-links =
        let a = no-cause-of-things p function_at object_at identifiers sound order numbering in
        let b = no-bad-handler p function_at object_at identifiers sound order reserved firsts ids kept in
        record {
          numbering = numbering;
          firsts = firsts;
          numbered = are_numbered unit p.structures refl sound.order;
          none = rw (a, b) refl;
          is = program-is;
        }

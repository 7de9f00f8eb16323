-- A unit that shows a program is found to have what the program declares.
use Rattle.std.proofs.Common.{arith, ◌≡◌, ℕ, suc, false, List, [], ◌∷◌, ◌++◌, map, length, drop, Some, Ok, refl, ap, sym, ◌∙◌, subst, slice_get, append_assoc}
use Rattle.std.specs.List.{list_any, filter, flat_map}
use Rattle.std.specs.Str.{bytes_eq}
use Rattle.std.proofs.lemmas.List.{length-map}
use Rattle.cc_program.specs.declared.object.Device.{Device}
use Rattle.cc_program.specs.declared.program.Program.{Program}
use Rattle.cc_type.specs.CcScopes.State.{State, Name, at_first}
use Rattle.cc_type.specs.CcScopes.Verdicts.{checked}
use Rattle.cc_type.specs.CcSyntax.Normal.{has_name, count_named, IsNormal}
use Rattle.cc_type.specs.CcSyntax.Sound.{IsSound}
use Rattle.cc_tree.specs.declared.at.At.{At}
use Rattle.cc_tree.specs.declared.unit.Item.{Item}
use Rattle.cc_type.specs.Defined.{defined_by}
use Rattle.cc_type.specs.Units.{items_found}
use Rattle.cc_unit_trees.specs.Externals.{External, AnIntrinsic, ATag, AStructure, ADevice, APrototype, AnObject, AValue, AFunction, intrinsics_used, announced, is_given, externals}
use Rattle.cc_unit_trees.specs.Programs.{ShowsExternals, NoExternal, MoreExternals}
use Rattle.cc_shown_declarations.specs.Order.{appearance, structure_number}
use Rattle.cc_shown_declarations.specs.States.{first_state}
use Rattle.cc_shown_declarations.proofs.Items.{structure-items}
use Rattle.cc_shown_declarations.proofs.Turns.{ShownApart, shown-apart, found-behind}
use Rattle.cc_shown_names.proofs.Definitions.{all-found}
use Rattle.cc_shown_expressions.specs.Known.{KnowsStructures}
use Rattle.cc_shown_names.specs.Names.{object_given, placed}
use Rattle.cc_shown_names.specs.Numbers.{read_numbers}
use Rattle.cc_shown_names.specs.Parts.{HasParts}
use Rattle.cc_shown_names.specs.States.{place_in, places, unit_state, devices_declared, functions_declared, objects_declared, objects_given, last_state}
use Rattle.cc_shown_names.proofs.Base.{sized}
use Rattle.cc_shown_names.proofs.Defined.{device-name-at, not-defined}
use Rattle.cc_shown_names.proofs.Devices.{devices-found}
use Rattle.cc_shown_names.proofs.Intrinsics.{intrinsics-found}
use Rattle.cc_shown_names.proofs.KnownFile.{file-known}
use Rattle.cc_shown_names.proofs.KnownStates.{placed-given}
use Rattle.cc_shown_names.proofs.Last.{shown-functions, all-used, last-is}
use Rattle.cc_shown_names.proofs.Objects.{objects-found}
use Rattle.cc_shown_names.proofs.Prototypes.{functions-found}
use Rattle.cc_shown_names.proofs.Values.{TypesObjects, values-found}

as-many : (p : Program) (es : List External) (xs : List (At Item)) → ShowsExternals p es xs → length xs ≡ length es
as-many p _ _ NoExternal = refl
as-many p _ _ (MoreExternals e es x xs h r) = ap suc (as-many p es xs r)

drop-none : {A : Type 0} → (xs : List A) → drop 0 xs ≡ xs
drop-none [] = refl
drop-none (x ∷ xs) = refl

module _ (p : Program) (normal : IsNormal p) (known : KnowsStructures p (structure_number p) (first_state p (length p.structures) (appearance p))) (typed : TypesObjects p) (defined : List Name) where
  abbrev sound : IsSound p
  sound = normal.sound

  abbrev found : List (At Item) → State → State → Type 0
  found xs s u = items_found p.target p.roles defined xs s ≡ Ok (checked, u)

  pub definitions-found : (objects : List ℕ) (xs : List (At Item)) → length objects ≡ length p.objects → ShowsExternals p (map AFunction p.funcs) xs → found xs (unit_state p (objects_given p objects)) (last_state p objects (places xs))
  definitions-found objects xs long h =
      let fs = shown-functions p p.funcs xs h in
      let file = file-known p normal known (placed (object_given p) objects p.objects) (placed-given p objects p.objects long) in
      all-found p (read_numbers p) sound (sized p sound) normal.bodies defined p.funcs xs fs 0 (count_named p.devices) (length p.devices) (unit_state p (objects_given p objects)) (drop-none p.funcs) file (all-used p normal) (omega arith)
      ∙ ap (λ s. Ok (checked, s)) (last-is p normal objects xs fs)

  -- ---- one part behind another

  turn : (ys zs : List (At Item)) (s t u : State) → found ys s t → found zs t u → found (ys ++ zs) s u
  turn ys zs s t u h k = found-behind p.target p.roles defined ys zs s t h ∙ k

  abbrev kinds_behind : List External
  kinds_behind = map ADevice (filter has_name p.devices) ++ (map APrototype p.funcs ++ (map AnObject p.objects ++ (map AValue (filter is_given p.objects) ++ map AFunction p.funcs)))

  abbrev of_structures : List External
  of_structures = map ATag (announced p.structures 0 p.structures) ++ map AStructure p.structures

  assoc-four : (vs ws xs ys zs : List (At Item)) → (vs ++ (ws ++ (xs ++ ys))) ++ zs ≡ vs ++ (ws ++ (xs ++ (ys ++ zs)))
  assoc-four vs ws xs ys zs =
      append_assoc vs (ws ++ (xs ++ ys)) zs ∙ ap (λ us. vs ++ us) (append_assoc ws (xs ++ ys) zs ∙ ap (λ us. ws ++ us) (append_assoc xs ys zs))

  pub record UnitFound (xs : List (At Item)) : Type 0 where
    pub parts : HasParts p xs
    pub is : found xs at_first (last_state p (places parts.objects) (places parts.functions))

  module _ (extern : (i : ℕ) (d : Device) (x : Name) → slice_get p.devices i ≡ Some d → d.name ≡ Some x → list_any (bytes_eq x) defined ≡ false) (xs : List (At Item)) (shown : ShowsExternals p (externals p) xs) where
    a : ShownApart p (map AnIntrinsic (intrinsics_used p)) (map ATag (announced p.structures 0 p.structures) ++ (map AStructure p.structures ++ kinds_behind)) xs
    a = shown-apart p (map AnIntrinsic (intrinsics_used p)) (map ATag (announced p.structures 0 p.structures) ++ (map AStructure p.structures ++ kinds_behind)) xs shown

    b : ShownApart p of_structures kinds_behind a.behind
    b = shown-apart p of_structures kinds_behind a.behind (subst (λ es. ShowsExternals p es a.behind) (sym (append_assoc (map ATag (announced p.structures 0 p.structures)) (map AStructure p.structures) kinds_behind)) a.second)

    c : ShownApart p (map ADevice (filter has_name p.devices)) (map APrototype p.funcs ++ (map AnObject p.objects ++ (map AValue (filter is_given p.objects) ++ map AFunction p.funcs))) b.behind
    c = shown-apart p (map ADevice (filter has_name p.devices)) (map APrototype p.funcs ++ (map AnObject p.objects ++ (map AValue (filter is_given p.objects) ++ map AFunction p.funcs))) b.behind b.second

    d : ShownApart p (map APrototype p.funcs) (map AnObject p.objects ++ (map AValue (filter is_given p.objects) ++ map AFunction p.funcs)) c.behind
    d = shown-apart p (map APrototype p.funcs) (map AnObject p.objects ++ (map AValue (filter is_given p.objects) ++ map AFunction p.funcs)) c.behind c.second

    e : ShownApart p (map AnObject p.objects) (map AValue (filter is_given p.objects) ++ map AFunction p.funcs) d.behind
    e = shown-apart p (map AnObject p.objects) (map AValue (filter is_given p.objects) ++ map AFunction p.funcs) d.behind d.second

    f : ShownApart p (map AValue (filter is_given p.objects)) (map AFunction p.funcs) e.behind
    f = shown-apart p (map AValue (filter is_given p.objects)) (map AFunction p.funcs) e.behind e.second

    many-objects : length e.front ≡ length p.objects
    many-objects = as-many p (map AnObject p.objects) e.front e.first ∙ length-map p.objects AnObject

    many-places : length (places e.front) ≡ length p.objects
    many-places = length-map e.front (λ (x : At Item). place_in x.node) ∙ many-objects

    from-values : found e.behind (unit_state p (objects_declared p (places e.front))) (last_state p (places e.front) (places f.behind))
    from-values =
        ap (λ ys. items_found p.target p.roles defined ys (unit_state p (objects_declared p (places e.front)))) f.is
        ∙ turn f.front f.behind (unit_state p (objects_declared p (places e.front))) (unit_state p (objects_given p (places e.front))) (last_state p (places e.front) (places f.behind))
        (values-found p sound known typed defined (places e.front) f.front many-places f.first) (definitions-found (places e.front) f.behind many-places f.second)

    from-objects : found d.behind (unit_state p (functions_declared p)) (last_state p (places e.front) (places f.behind))
    from-objects =
        ap (λ ys. items_found p.target p.roles defined ys (unit_state p (functions_declared p))) e.is
        ∙ turn e.front e.behind (unit_state p (functions_declared p)) (unit_state p (objects_declared p (places e.front))) (last_state p (places e.front) (places f.behind)) (objects-found p sound known defined e.front e.first) from-values

    from-prototypes : found c.behind (unit_state p (devices_declared p)) (last_state p (places e.front) (places f.behind))
    from-prototypes =
        ap (λ ys. items_found p.target p.roles defined ys (unit_state p (devices_declared p))) d.is
        ∙ turn d.front d.behind (unit_state p (devices_declared p)) (unit_state p (functions_declared p)) (last_state p (places e.front) (places f.behind)) (functions-found p sound known defined d.front d.first) from-objects

    from-devices : found b.behind (unit_state p []) (last_state p (places e.front) (places f.behind))
    from-devices =
        ap (λ ys. items_found p.target p.roles defined ys (unit_state p [])) c.is
        ∙ turn c.front c.behind (unit_state p []) (unit_state p (devices_declared p)) (last_state p (places e.front) (places f.behind)) (devices-found p sound known defined extern c.front c.first) from-prototypes

    from-structures : found a.behind at_first (last_state p (places e.front) (places f.behind))
    from-structures =
        ap (λ ys. items_found p.target p.roles defined ys at_first) b.is
        ∙ turn b.front b.behind at_first (unit_state p []) (last_state p (places e.front) (places f.behind)) (structure-items p sound p.roles defined b.front b.first) from-devices

    from-first : found xs at_first (last_state p (places e.front) (places f.behind))
    from-first =
        ap (λ ys. items_found p.target p.roles defined ys at_first) a.is
        ∙ turn a.front a.behind at_first at_first (last_state p (places e.front) (places f.behind)) (intrinsics-found p sound defined at_first (intrinsics_used p) a.front a.first) from-structures

    whole-is : xs ≡ (a.front ++ (b.front ++ (c.front ++ d.front))) ++ (e.front ++ (f.front ++ f.behind))
    whole-is =
        a.is ∙ ap (λ ys. a.front ++ ys) (b.is ∙ ap (λ ys. b.front ++ ys) (c.is ∙ ap (λ ys. c.front ++ ys) (d.is ∙ ap (λ ys. d.front ++ ys) (e.is ∙ ap (λ ys. e.front ++ ys) f.is))))
        ∙ sym (assoc-four a.front b.front c.front d.front (e.front ++ (f.front ++ f.behind)))

    pub unit-found : UnitFound xs
    unit-found = record {
      parts = record {
        front = a.front ++ (b.front ++ (c.front ++ d.front));
        objects = e.front;
        values = f.front;
        functions = f.behind;
        whole = whole-is;
        show_objects = e.first;
        show_functions = f.second;
        many_objects = many-objects;
        many_functions = as-many p (map AFunction p.funcs) f.behind f.second ∙ length-map p.funcs AFunction;
      };
      is = from-first;
    }

-- no device of the program is an object that the unit defines
pub devices-apart : (p : Program) → IsSound p → (xs : List (At Item)) → ShowsExternals p (externals p) xs → (i : ℕ) (d : Device) (x : Name) → slice_get p.devices i ≡ Some d → d.name ≡ Some x → list_any (bytes_eq x) (flat_map (λ (i : At Item). defined_by i.node) xs) ≡ false
devices-apart p sound xs h i d x e k = let q = device-name-at p.devices i d x e k in not-defined p sound q.0 x q.1 xs h

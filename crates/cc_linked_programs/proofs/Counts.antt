-- A program that few sources link to has fewer than 2^32 of each thing.
use Rattle.std.proofs.Common.{◌≡◌, ◌≤◌, ℕ, true, List, length, ◌++◌, Option, ap, subst, arith}
use Rattle.std.specs.Prelude.{zip}
use Rattle.std.specs.List.{list_all}
use Rattle.std.proofs.lemmas.Bool.{and_parts, lt-ltb, ltb-true}
use Rattle.std.proofs.lemmas.List.{length-map}
use Rattle.cc_definitions.specs.Definitions.{devices, functions, objects}
use Rattle.cc_link.specs.Linked.{Links, all_ids, device_at, func_at, object_at, structure_of}
use Rattle.cc_linked_names.specs.Given.{name_at, reserved_names}
use Rattle.cc_linked_names.specs.Given as linked
use Rattle.cc_program.specs.CcNum.declared.target.Target.{Target}
use Rattle.cc_program.specs.declared.func.Func.{Func}
use Rattle.cc_program.specs.declared.program.Program.{Program}
use Rattle.cc_program.specs.declared.program.Roles.{Roles}
use Rattle.cc_relocation.specs.Relocated.{local_with}
use Rattle.cc_structures.proofs.Elements.{In}
use Rattle.cc_structures.specs.Structures.{structures}
use Rattle.cc_structures.specs.View.{units_of}
use Rattle.cc_operands.specs.CcSyntax.Names.{intrinsic_names, local_names}
use Rattle.cc_operands.specs.CcSyntax.Sound.{have_ids}
use Rattle.cc_operands.specs.CcSyntax.Types.{Named}
use Rattle.cc_things.specs.Mentions.{mentions}
use Rattle.cc_things.specs.Things.{is_device, things}
use Rattle.cc_things.specs.declared.text.Text.{Text}
use Rattle.cc_program.specs.CcWords.Names.{is_name}
use Rattle.cc_linked_programs.specs.Few.{FewTexts, EachOfText}
use Rattle.cc_linked_programs.proofs.Listed.{length-functions, length-numbers, length-objects, local-numbers}
use Rattle.cc_linked_programs.proofs.NameLists.{in-filter_map}
use Rattle.cc_linked_programs.proofs.Names.{func-from}
use Rattle.cc_linked_programs.proofs.NameNumbers.{length-filter_map, length-zip}
use Rattle.cc_linked_programs.proofs.NameSources.{function-few, length-firsts, length-things}

have-ids : (n m : ℕ) → n ≤ m → have_ids m ≡ true → have_ids n ≡ true
have-ids n m l h = let k = ltb-true m 4294967296 h in lt-ltb n 4294967296 (omega (arith, l, k))

module _ (texts : List Text) (target : Target) (roles : Roles) (p : Program) (links : Links texts target roles p) where
  abbrev names_at : ℕ → Option (List ℕ)
  names_at k = name_at (things texts) (reserved_names texts roles) roles links.firsts k

  abbrev locals : List (ℕ × List (List ℕ))
  locals = linked.local_names (things texts) (reserved_names texts roles) roles links.firsts

  length-locals : length locals ≤ length (things texts)
  length-locals =
      let fs = functions (things texts) in
      let given = linked.file_names (things texts) (reserved_names texts roles) roles links.firsts in
      let n = ap (λ (l : List ℕ). length l) (local-numbers (things texts) (reserved_names texts roles) (intrinsic_names roles ++ given) (linked.tags (things texts) (reserved_names texts roles) roles links.firsts ++ given) (functions (things texts))) in
      let m = length-map locals (λ (f : ℕ × List (List ℕ)). f.0) in
      let l = length-functions (things texts) in
      omega (arith, n, m, l)

  module _ (few : FewTexts texts) where
    within : (n : ℕ) → n ≤ length (things texts) → have_ids n ≡ true
    within n h = let l = length-things texts in have-ids n (length (mentions texts)) (omega (arith, h, l)) few.mentions

    pub few_structures : have_ids (length p.structures) ≡ true
    few_structures =
        let e = ap (λ (q : Program). length q.structures) links.is in
        let tags = linked.tags (things texts) (reserved_names texts roles) roles links.firsts in
        let m = length-map (zip tags links.firsts) (structure_of links.numbering) in
        let z = length-zip tags links.firsts in
        let l = length-firsts (units_of texts) links.numbering links.firsts links.numbered in
        have-ids (length p.structures) (length (structures (units_of texts))) (omega (arith, e, m, z, l)) few.structures

    pub few_devices : have_ids (length p.devices) ≡ true
    few_devices =
        let e = ap (λ (q : Program). length q.devices) links.is in
        let m = length-filter_map (device_at (things texts) names_at) (devices (things texts)) in
        let l = length-numbers (things texts) is_device in
        within (length p.devices) (omega (arith, e, m, l))

    pub few_objects : have_ids (length p.objects) ≡ true
    few_objects =
        let e = ap (λ (q : Program). length q.objects) links.is in
        let m = length-filter_map (object_at (things texts) names_at (all_ids texts links.numbering)) (objects (things texts)) in
        let l = length-objects (things texts) in
        within (length p.objects) (omega (arith, e, m, l))

    pub few_funcs : have_ids (length p.funcs) ≡ true
    few_funcs =
        let e = ap (λ (q : Program). length q.funcs) links.is in
        let m = length-filter_map (func_at (things texts) names_at roles (all_ids texts links.numbering)) locals in
        let l = length-locals in
        within (length p.funcs) (omega (arith, e, m, l))

  pub few_locals : EachOfText texts → (f : Func) → In f p.funcs → have_ids (length f.locals) ≡ true
  few_locals each f i =
      let r = in-filter_map (func_at (things texts) names_at roles (all_ids texts links.numbering)) locals f (subst (λ (q : Program). In f q.funcs) links.is i) in
      let u = func-from (things texts) names_at roles (all_ids texts links.numbering) r.0 f r.2 in
      let g = and_parts (have_ids (length u.func.locals)) (list_all is_name (local_names u.func.locals)) (function-few texts each r.0.0 u.func u.has) in
      let e = ap (λ (l : List Named). length l) u.locals in
      let m = length-map (zip r.0.1 u.func.locals) (local_with u.structures) in
      let z = length-zip r.0.1 u.func.locals in
      have-ids (length f.locals) (length u.func.locals) (omega (arith, e, m, z)) g.0

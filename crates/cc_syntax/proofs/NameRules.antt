-- A sound program is a typed one whose names are apart.
use Rattle.std.proofs.Common.{◌≡◌, ◌+◌, ◌<◌, arith, ℕ, zero, suc, Bool, true, false, ◌&&◌, List, [], ◌∷◌, ◌++◌, length, refl, ap, ◌∙◌}
use Rattle.std.specs.List.{list_all, All}
use Rattle.cc_program.specs.CcNum.declared.target.Target.{Target}
use Rattle.cc_program.specs.declared.func.Func.{Func}
use Rattle.cc_program.specs.declared.program.Program.{Program}
use Rattle.cc_program.specs.declared.types.Structure.{Structure}
use Rattle.cc_syntax.specs.Names.{are_names, file_names, local_names}
use Rattle.cc_syntax.specs.Sound.{have_ids, is_member, is_structure_by, are_structures_by, any_names, IsFuncBy, IsFunc, IsSound, IsTypedProgram, AreNamesApart}
use Rattle.cc_syntax.proofs.Prefixes.{both_true}

both : (a b : Bool) → a ≡ true → b ≡ true → a && b ≡ true
both a b h k = ap (λ (c : Bool). c && b) h ∙ k

-- ---- structures

abbrev members_named : Structure → Bool
members_named s = are_names (local_names s.members)

module _ (count : ℕ) (target : Target) where
  structure_typed : (before : List Structure) (s : Structure) → is_structure_by are_names before count target s ≡ true → (is_structure_by any_names before count target s ≡ true) × (members_named s ≡ true)
  structure_typed before s h =
      let x = both_true (have_ids (length s.members)) _ h in
      let y = both_true (members_named s) (list_all (is_member before count target) s.members) x.1 in
      (both (have_ids (length s.members)) (list_all (is_member before count target) s.members) x.0 y.1, y.0)

  structure_sound : (before : List Structure) (s : Structure) → is_structure_by any_names before count target s ≡ true → members_named s ≡ true → is_structure_by are_names before count target s ≡ true
  structure_sound before s h k =
      let x = both_true (have_ids (length s.members)) (list_all (is_member before count target) s.members) h in
      both (have_ids (length s.members)) (members_named s && list_all (is_member before count target) s.members) x.0 (both (members_named s) (list_all (is_member before count target) s.members) k x.1)

  structures_typed : (before list : List Structure) → are_structures_by are_names before count target list ≡ true → (are_structures_by any_names before count target list ≡ true) × (list_all members_named list ≡ true)
  structures_typed before [] h = (refl, refl)
  structures_typed before (s ∷ list) h =
      let x = both_true (is_structure_by are_names before count target s) (are_structures_by are_names (before ++ s ∷ []) count target list) h in
      let y = structure_typed before s x.0 in
      let z = structures_typed (before ++ s ∷ []) list x.1 in
      (both (is_structure_by any_names before count target s) (are_structures_by any_names (before ++ s ∷ []) count target list) y.0 z.0, both (members_named s) (list_all members_named list) y.1 z.1)

  structures_sound : (before list : List Structure) → are_structures_by any_names before count target list ≡ true → list_all members_named list ≡ true → are_structures_by are_names before count target list ≡ true
  structures_sound before [] h k = refl
  structures_sound before (s ∷ list) h k =
      let x = both_true (is_structure_by any_names before count target s) (are_structures_by any_names (before ++ s ∷ []) count target list) h in
      let y = both_true (members_named s) (list_all members_named list) k in
      both (is_structure_by are_names before count target s) (are_structures_by are_names (before ++ s ∷ []) count target list) (structure_sound before s x.0 y.0) (structures_sound (before ++ s ∷ []) list x.1 y.1)

-- ---- functions

module _ (p : Program) where
  abbrev locals_named : Func → Bool
  locals_named f = are_names (local_names f.locals ++ file_names p)

  func_typed : (f : Func) → IsFunc p f → IsFuncBy p any_names f
  func_typed f h = record { result = h.result; parameters = h.parameters; form = h.form; entry = h.entry; count = h.count; first = h.first; few = h.few; locals = h.locals; automatic = h.automatic; names = refl; body = h.body }

  func_sound : (f : Func) → IsFuncBy p any_names f → locals_named f ≡ true → IsFunc p f
  func_sound f h k = record { result = h.result; parameters = h.parameters; form = h.form; entry = h.entry; count = h.count; first = h.first; few = h.few; locals = h.locals; automatic = h.automatic; names = k; body = h.body }

  locals_of : (fs : List Func) → All (IsFunc p) fs → list_all locals_named fs ≡ true
  locals_of [] h = refl
  locals_of (f ∷ fs) h = both (locals_named f) (list_all locals_named fs) (h zero f (omega arith)).names (locals_of fs (λ k d b. h (suc k) d (omega (arith, b))))

  funcs_sound : (fs : List Func) → All (IsFuncBy p any_names) fs → list_all locals_named fs ≡ true → All (IsFunc p) fs
  funcs_sound [] h k i d b = absurd (omega (arith, b))
  funcs_sound (f ∷ fs) h k zero d b = func_sound f (h zero d b) (both_true (locals_named f) (list_all locals_named fs) k).0
  funcs_sound (f ∷ fs) h k (suc i) d b = funcs_sound fs (λ j e c. h (suc j) e (omega (arith, c))) (both_true (locals_named f) (list_all locals_named fs) k).1 i d (omega (arith, b))

  -- ---- programs

  pub sound-typed : IsSound p → IsTypedProgram p
  sound-typed h = record {
    few_structures = h.few_structures;
    few_devices = h.few_devices;
    few_objects = h.few_objects;
    few_funcs = h.few_funcs;
    tag_names = refl;
    names = refl;
    order = h.order;
    structures = (structures_typed (length p.structures) p.target [] p.structures h.structures).0;
    devices = h.devices;
    distinct_devices = h.distinct_devices;
    objects = h.objects;
    initial = h.initial;
    funcs = λ k d b. func_typed _ (h.funcs k d b);
    handlers = h.handlers;
    main = h.main;
  }

  pub sound-named : IsSound p → AreNamesApart p
  sound-named h = record {
    tag_names = h.tag_names;
    names = h.names;
    members = (structures_typed (length p.structures) p.target [] p.structures h.structures).1;
    locals = locals_of p.funcs h.funcs;
  }

  pub typed-sound : IsTypedProgram p → AreNamesApart p → IsSound p
  typed-sound h n = record {
    few_structures = h.few_structures;
    few_devices = h.few_devices;
    few_objects = h.few_objects;
    few_funcs = h.few_funcs;
    tag_names = n.tag_names;
    names = n.names;
    order = h.order;
    structures = structures_sound (length p.structures) p.target [] p.structures h.structures n.members;
    devices = h.devices;
    distinct_devices = h.distinct_devices;
    objects = h.objects;
    initial = h.initial;
    funcs = funcs_sound p.funcs h.funcs n.locals;
    handlers = h.handlers;
    main = h.main;
  }

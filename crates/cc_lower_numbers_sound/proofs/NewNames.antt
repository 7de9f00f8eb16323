-- The names of temporaries: as many as are wanted, distinct, and none that the program has.
use Rattle.std.proofs.Common.{◌≡◌, ◌∙◌, ◌<◌, ◌≤◌, ◌+◌, ◌*◌, ℕ, zero, suc, Bool, true, List, [], ◌∷◌, ◌++◌, Option, Some, None, length, map, max, get_or, refl, ap, sym, subst, arith, length-append}
use Rattle.std.specs.Prelude.{fold, replicate, codes}
use Rattle.std.specs.List.{list_all, flat_map}
use Rattle.std.proofs.lemmas.Bool.{true≢false, and_parts, and_from, ltb-true}
use Rattle.std.proofs.lemmas.List.{length-map, length-replicate}
use Rattle.cc_given_names.specs.Spaces.{AreAmong, HaveNumbers, is_named}
use Rattle.cc_given_names.proofs.Among.{among-left}
use Rattle.cc_given_names.proofs.Spaces.{names-apart, names-distinct, names-named}
use Rattle.cc_names.specs.Names.{Wish, Numbered, is_among, new_name, names_for}
use Rattle.cc_program.specs.CcNum.declared.target.Target.{Target}
use Rattle.cc_program.specs.declared.func.Func.{Func}
use Rattle.cc_program.specs.declared.object.Device.{Device}
use Rattle.cc_program.specs.declared.object.Object.{Object}
use Rattle.cc_program.specs.declared.program.Program.{Program}
use Rattle.cc_program.specs.declared.types.CType.{CType}
use Rattle.cc_program.specs.declared.types.Structure.{Structure}
use Rattle.cc_syntax.specs.Names.{with_name, device_names, intrinsic_names, file_names, tags, local_names}
use Rattle.cc_syntax.specs.Sound.{any_names, IsTypedProgram, have_ids, is_member, is_structure_by, are_structures_by}
use Rattle.cc_program.specs.CcWords.Names.{is_name, are_distinct}
use Rattle.cc_program.specs.CcWords.Words.{word_of}
use Rattle.cc_lower_numbers.specs.Numbered.{names_of_program, most_temporaries, temporary_names}
use Rattle.cc_lower_numbers.specs.Temporaries.{temporary_count}
use Rattle.cc_lower_numbers_sound.proofs.NameLists.{Apart}

-- ---- counts

pub tested_or : {A : Type 0} (test : A → Bool) (xs : List A) (i : ℕ) (d : A) → list_all test xs ≡ true → i < length xs → test (get_or xs i d) ≡ true
tested_or test [] i d h l = absurd (omega arith)
tested_or test (x ∷ xs) zero d h l = (and_parts (test x) (list_all test xs) h).0
tested_or test (x ∷ xs) (suc i) d h l = tested_or test xs i d (and_parts (test x) (list_all test xs) h).1 (omega arith)

flat_count : {A B : Type 0} (g : A → List B) (xs : List A) → ((i : ℕ) (d : A) → i < length xs → length (g (get_or xs i d)) ≤ 4294967296) → length (flat_map g xs) ≤ length xs * 4294967296
flat_count g [] w = omega arith
flat_count g (x ∷ xs) w =
    let a = length-append (g x) (flat_map g xs) in
    let b = w 0 x (omega arith) in
    let c = flat_count g xs (λ i d l. w (suc i) d (omega arith)) in
    omega (arith, a, b, c)

name_count : (o : Option (List ℕ)) (xs : List (List ℕ)) → length (with_name o xs) ≤ suc (length xs)
name_count None xs = omega arith
name_count (Some x) xs = omega arith

device_count : (ds : List Device) → length (device_names ds) ≤ length ds
device_count [] = omega arith
device_count (d ∷ ds) = let a = name_count d.name (device_names ds) in let b = device_count ds in omega (arith, a, b)

short_members : (before list : List Structure) (count : ℕ) (target : Target) → are_structures_by any_names before count target list ≡ true → list_all (λ (s : Structure). have_ids (length s.members)) list ≡ true
short_members before [] count target h = refl
short_members before (s ∷ list) count target h =
    let p = and_parts (is_structure_by any_names before count target s) (are_structures_by any_names (before ++ s ∷ []) count target list) h in
    let q = and_parts (have_ids (length s.members)) (list_all (is_member before count target) s.members) p.0 in
    and_from (have_ids (length s.members)) (list_all (λ (s : Structure). have_ids (length s.members)) list) q.0 (short_members (before ++ s ∷ []) list count target p.1)

most_below : (b : ℕ) (fs : List Func) (a : ℕ) → a ≤ b → ((i : ℕ) (d : Func) → i < length fs → length (get_or fs i d).locals ≤ b) → fold max a (map temporary_count fs) ≤ b
most_below b [] a l w = l
most_below b (f ∷ fs) a l w = let k = w 0 f (omega arith) in most_below b fs (max a (temporary_count f)) (omega (arith, k, l)) (λ i d h. w (suc i) d (omega arith))

module _ (p : Program) (h : IsTypedProgram p) where
  abbrev wishes : List Wish
  wishes = replicate (most_temporaries p) (Numbered (codes "t"))

  abbrev pub reserved : List (List ℕ)
  reserved = names_of_program p

  members_short : (i : ℕ) (d : Structure) → i < length p.structures → length (local_names (get_or p.structures i d).members) ≤ 4294967296
  members_short i d l =
      let a = ltb-true (length (get_or p.structures i d).members) 4294967296 (tested_or (λ (s : Structure). have_ids (length s.members)) p.structures i d (short_members [] p.structures (length p.structures) p.target h.structures) l) in
      let b = length-map (get_or p.structures i d).members (λ (m : List ℕ × CType). m.0) in
      subst (λ (n : ℕ). n ≤ 4294967296) (sym b) (below (length (get_or p.structures i d).members) a)
    where
      below : (n : ℕ) → n < 4294967296 → n ≤ 4294967296
      below n l = omega arith

  locals_short : (i : ℕ) (d : Func) → i < length p.funcs → length (get_or p.funcs i d).locals ≤ 4294967296
  locals_short i d l = below (length (get_or p.funcs i d).locals) (ltb-true (length (get_or p.funcs i d).locals) 4294967296 (h.funcs i d l).few)
    where
      below : (n : ℕ) → n < 4294967296 → n ≤ 4294967296
      below n l = omega arith

  local_names_short : (i : ℕ) (d : Func) → i < length p.funcs → length (local_names (get_or p.funcs i d).locals) ≤ 4294967296
  local_names_short i d l = subst (λ (n : ℕ). n ≤ 4294967296) (sym (length-map (get_or p.funcs i d).locals (λ (m : List ℕ × CType). m.0))) (locals_short i d l)

  file_count : length (file_names p) ≤ length p.devices + (length p.objects + (length p.funcs + 4))
  file_count =
      let a = length-append (device_names p.devices) (map (λ (o : Object). o.name) p.objects ++ (map (λ (f : Func). f.name) p.funcs ++ intrinsic_names p.roles)) in
      let b = length-append (map (λ (o : Object). o.name) p.objects) (map (λ (f : Func). f.name) p.funcs ++ intrinsic_names p.roles) in
      let c = length-append (map (λ (f : Func). f.name) p.funcs) (intrinsic_names p.roles) in
      let d = device_count p.devices in
      let e = length-map p.objects (λ (o : Object). o.name) in
      let g = length-map p.funcs (λ (f : Func). f.name) in
      omega (arith, a, b, c, d, e, g)

  total : (ss ms ds os fs file locals reserved_count most : ℕ) → ss < 4294967296 → ms ≤ ss * 4294967296 → ds < 4294967296 → os < 4294967296 → fs < 4294967296 → file ≤ ds + (os + (fs + 4)) → locals ≤ fs * 4294967296 →
      reserved_count ≡ ss + (ms + (file + locals)) → most ≤ 4294967296 → HaveNumbers (reserved_count + (0 + most))
  total ss ms ds os fs file locals reserved_count most a b c d e g k m n = omega arith

  reserved_is : length reserved ≡ length p.structures + (length (flat_map (λ (s : Structure). local_names s.members) p.structures) + (length (file_names p) + length (flat_map (λ (f : Func). local_names f.locals) p.funcs)))
  reserved_is =
      let a = length-append (tags p) (flat_map (λ (s : Structure). local_names s.members) p.structures ++ (file_names p ++ flat_map (λ (f : Func). local_names f.locals) p.funcs)) in
      let b = length-append (flat_map (λ (s : Structure). local_names s.members) p.structures) (file_names p ++ flat_map (λ (f : Func). local_names f.locals) p.funcs) in
      let c = length-append (file_names p) (flat_map (λ (f : Func). local_names f.locals) p.funcs) in
      let d = length-map p.structures (λ (s : Structure). s.tag) in
      a ∙ ap (λ (n : ℕ). n + length (flat_map (λ (s : Structure). local_names s.members) p.structures ++ (file_names p ++ flat_map (λ (f : Func). local_names f.locals) p.funcs))) d
      ∙ ap (λ (n : ℕ). length p.structures + n) (b ∙ ap (λ (n : ℕ). length (flat_map (λ (s : Structure). local_names s.members) p.structures) + n) c)

  enough : HaveNumbers (length reserved + (0 + length wishes))
  enough =
      subst (λ (n : ℕ). HaveNumbers (length reserved + (0 + n))) (sym (length-replicate (most_temporaries p) (Numbered (codes "t"))))
      (total (length p.structures) (length (flat_map (λ (s : Structure). local_names s.members) p.structures)) (length p.devices) (length p.objects) (length p.funcs) (length (file_names p)) (length (flat_map (λ (f : Func). local_names f.locals) p.funcs)) (length reserved) (most_temporaries p)
      (ltb-true (length p.structures) 4294967296 h.few_structures) (flat_count (λ (s : Structure). local_names s.members) p.structures members_short) (ltb-true (length p.devices) 4294967296 h.few_devices) (ltb-true (length p.objects) 4294967296 h.few_objects)
      (ltb-true (length p.funcs) 4294967296 h.few_funcs) file_count (flat_count (λ (f : Func). local_names f.locals) p.funcs local_names_short) reserved_is (most_below 4294967296 p.funcs 0 zero_below locals_short))
    where
      zero_below : 0 ≤ 4294967296
      zero_below = omega arith

  -- ---- names

  nothing_among : (ys : List (List ℕ)) → AreAmong [] ys
  nothing_among ys x e = absurd (true≢false (sym e))

  pub new_distinct : are_distinct (temporary_names p) ≡ true
  new_distinct = names-distinct reserved [] [] wishes (nothing_among (reserved ++ [])) enough

  t_named : is_name (codes "t") ≡ true
  unfolding is_name word_of
  t_named = refl

  all_wished : (n : ℕ) → list_all is_named (replicate n (Numbered (codes "t"))) ≡ true
  all_wished zero = refl
  all_wished (suc n) = and_from (is_name (codes "t")) (list_all is_named (replicate n (Numbered (codes "t")))) t_named (all_wished n)

  pub new_named : list_all is_name (temporary_names p) ≡ true
  new_named = names-named reserved [] [] wishes (all_wished (most_temporaries p))

  -- numbered names are new whatever their space is
  spaces_same : (n : ℕ) (given space other : List (List ℕ)) → names_for reserved given space (replicate n (Numbered (codes "t"))) ≡ names_for reserved given other (replicate n (Numbered (codes "t")))
  unfolding names_for
  spaces_same zero given space other = refl
  spaces_same (suc n) given space other =
      let x : List ℕ = new_name reserved given (codes "t") 1 in ap (λ (l : List (List ℕ)). x ∷ l) (spaces_same n (given ++ x ∷ []) (space ++ x ∷ []) (other ++ x ∷ []))

  pub new_apart : Apart (temporary_names p) reserved
  new_apart x i =
      names-apart reserved [] reserved wishes (λ z e. among-left z reserved [] e) enough x (ap (is_among x) (sym (spaces_same (most_temporaries p) [] [] reserved)) ∙ i)

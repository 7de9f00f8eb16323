-- The names of a numbered program are apart where those of its source are, but for the temporaries.
use Rattle.std.proofs.Common.{◌≡◌, ◌∙◌, ◌⊎◌, inl, inr, ◌<◌, ℕ, suc, Bool, true, false, List, [], ◌∷◌, ◌++◌, length, map, take, get_or, refl, ap, sym, arith}
use Rattle.std.specs.Prelude.{zip}
use Rattle.std.specs.List.{list_all, flat_map}
use Rattle.std.proofs.lemmas.Bool.{and_parts, and_from}
use Rattle.cc_given_names.specs.Spaces.{AreAmong}
use Rattle.cc_given_names.proofs.Among.{among-left, among-right, absent, distinct-append}
use Rattle.cc_names.specs.Names.{is_among}
use Rattle.cc_program.specs.declared.func.Func.{Func}
use Rattle.cc_program.specs.declared.object.Object.{Object}
use Rattle.cc_program.specs.declared.program.Program.{Program}
use Rattle.cc_program.specs.declared.types.Structure.{Structure}
use Rattle.cc_syntax.specs.Names.{are_names, device_names, intrinsic_names, file_names, tags, local_names}
use Rattle.cc_syntax.specs.Normal.{devices_in_text}
use Rattle.cc_syntax.specs.Sound.{IsTypedProgram, AreNamesApart}
use Rattle.cc_syntax.specs.Types.{Named}
use Rattle.cc_program.specs.CcWords.Names.{is_name, are_distinct}
use Rattle.cc_lower_numbers.specs.Numbered.{with_name, named_from, device_order, names_of_program, temporary_names, numbered_locals, numbered_func, numbered}
use Rattle.cc_lower_numbers.specs.Order.{place_in, arranged}
use Rattle.cc_lower_numbers.specs.Temporaries.{kept_count, temporaries}
use Rattle.cc_lower_numbers_sound.specs.Names.{AreNamesApartButForTemporaries}
use Rattle.cc_lower_numbers_sound.proofs.DeviceNames.{order-among, order-distinct}
use Rattle.cc_lower_numbers_sound.proofs.NameLists.{Apart, among-either, distinct-front, distinct-back, parts-apart, taken-among, taken-distinct, all-named, names-append, names-take, among-flat}
use Rattle.cc_lower_numbers_sound.proofs.NewNames.{tested_or, new_distinct, new_named, new_apart}
use Rattle.cc_lower_numbers_sound.proofs.Orders.{ordered-once}

-- names of locals that get new ones are the first of these
zip-names : (names : List (List ℕ)) (xs : List Named) → local_names (map with_name (zip names xs)) ≡ take (length xs) names
zip-names [] [] = refl
zip-names [] (x ∷ xs) = refl
zip-names (n ∷ names) [] = refl
zip-names (n ∷ names) (x ∷ xs) = ap (λ (l : List (List ℕ)). n ∷ l) (zip-names names xs)

names-of : (xs : List (List ℕ)) → list_all is_name xs ≡ true → are_distinct xs ≡ true → are_names xs ≡ true
names-of xs h d = and_from (list_all is_name xs) (are_distinct xs) h d

module _ (p : Program) (h : IsTypedProgram p) (n : AreNamesApartButForTemporaries p) where
  abbrev change : Func → Func
  change f = numbered_func (temporary_names p) (place_in 0 (device_order p)) f

  abbrev others : List (List ℕ)
  others = map (λ (o : Object). o.name) p.objects ++ (map (λ (f : Func). f.name) p.funcs ++ intrinsic_names p.roles)

  abbrev old_devices : List (List ℕ)
  old_devices = device_names p.devices

  abbrev new_devices : List (List ℕ)
  new_devices = device_names (arranged p.devices (device_order p))

  func_names : (fs : List Func) → map (λ (f : Func). f.name) (map change fs) ≡ map (λ (f : Func). f.name) fs
  func_names [] = refl
  func_names (f ∷ fs) = ap (λ (l : List (List ℕ)). f.name ∷ l) (func_names fs)

  file-is : file_names (numbered p) ≡ new_devices ++ others
  file-is = ap (λ (l : List (List ℕ)). new_devices ++ (map (λ (o : Object). o.name) p.objects ++ (l ++ intrinsic_names p.roles))) (func_names p.funcs)

  old_file : (list_all is_name (file_names p) ≡ true) × (are_distinct (file_names p) ≡ true)
  old_file = and_parts (list_all is_name (file_names p)) (are_distinct (file_names p)) n.names

  devices-among : AreAmong new_devices old_devices
  devices-among = order-among p.devices (device_order p)

  moved-among : AreAmong (new_devices ++ others) (file_names p)
  moved-among x i = by (among-either x new_devices others i)
    where
      by : (is_among x new_devices ≡ true) ⊎ (is_among x others ≡ true) → is_among x (file_names p) ≡ true
      by (inl k) = among-left x old_devices others (devices-among x k)
      by (inr k) = among-right x old_devices others k

  file-among : AreAmong (file_names (numbered p)) (file_names p)
  file-among x i = moved-among x (sym (ap (is_among x) file-is) ∙ i)

  moved-distinct : are_distinct (new_devices ++ others) ≡ true
  moved-distinct =
      distinct-append new_devices others (order-distinct p.devices (distinct-front old_devices others old_file.1) (device_order p) (ordered-once 0 (length p.devices) (named_from 0 p.devices ++ devices_in_text p))) (distinct-back old_devices others old_file.1)
      (λ x i. parts-apart old_devices others old_file.1 x (devices-among x i))

  file-distinct : are_distinct (file_names (numbered p)) ≡ true
  file-distinct = ap are_distinct file-is ∙ moved-distinct

  file-named : list_all is_name (file_names (numbered p)) ≡ true
  file-named = all-named (file_names (numbered p)) (file_names p) file-among old_file.0

  -- ---- locals

  module _ (f : Func) (k : are_names (local_names (take (kept_count f) f.locals) ++ file_names p) ≡ true) (inside : AreAmong (local_names f.locals) (names_of_program p)) where
    abbrev kept : List (List ℕ)
    kept = local_names (take (kept_count f) f.locals)

    abbrev new : List (List ℕ)
    new = take (length (arranged f.locals (temporaries f))) (temporary_names p)

    locals-are : local_names (numbered_locals (temporary_names p) f) ≡ kept ++ new
    locals-are = names-append (take (kept_count f) f.locals) (map with_name (zip (temporary_names p) (arranged f.locals (temporaries f)))) ∙ ap (λ (l : List (List ℕ)). kept ++ l) (zip-names (temporary_names p) (arranged f.locals (temporaries f)))

    old_names : (list_all is_name (kept ++ file_names p) ≡ true) × (are_distinct (kept ++ file_names p) ≡ true)
    old_names = and_parts (list_all is_name (kept ++ file_names p)) (are_distinct (kept ++ file_names p)) k

    new-among : AreAmong new (temporary_names p)
    new-among = taken-among (length (arranged f.locals (temporaries f))) (temporary_names p)

    new-not-there : Apart new (names_of_program p)
    new-not-there x i = new_apart p h x (new-among x i)

    kept-inside : AreAmong kept (names_of_program p)
    kept-inside x i = inside x (taken-among (kept_count f) (local_names f.locals) x (ap (is_among x) (sym (names-take (kept_count f) f.locals)) ∙ i))

    file-inside : AreAmong (file_names p) (names_of_program p)
    file-inside x i =
        among-right x (tags p) (flat_map (λ (s : Structure). local_names s.members) p.structures ++ (file_names p ++ flat_map (λ (f : Func). local_names f.locals) p.funcs))
        (among-right x (flat_map (λ (s : Structure). local_names s.members) p.structures) (file_names p ++ flat_map (λ (f : Func). local_names f.locals) p.funcs) (among-left x (file_names p) (flat_map (λ (f : Func). local_names f.locals) p.funcs) i))

    -- names that are apart from what is among others
    apart-of : (xs ys zs : List (List ℕ)) → Apart xs zs → AreAmong ys zs → Apart xs ys
    apart-of xs ys zs a w x i = absent x ys zs w (a x i)

    reversed : (xs ys : List (List ℕ)) → Apart xs ys → Apart ys xs
    reversed xs ys a x i = by (is_among x xs) refl
      where
        by : (b : Bool) → is_among x xs ≡ b → b ≡ false
        by true e = sym i ∙ a x e
        by false e = refl

    both-distinct : are_distinct (kept ++ new) ≡ true
    both-distinct =
        distinct-append kept new (distinct-front kept (file_names p) old_names.1) (taken-distinct (length (arranged f.locals (temporaries f))) (temporary_names p) (new_distinct p h))
        (reversed new kept (apart-of new kept (names_of_program p) new-not-there kept-inside))

    all-distinct : are_distinct ((kept ++ new) ++ file_names (numbered p)) ≡ true
    all-distinct =
        distinct-append (kept ++ new) (file_names (numbered p)) both-distinct file-distinct
        (λ x i. absent x (file_names (numbered p)) (file_names p) file-among (by x (among-either x kept new i)))
      where
        by : (x : List ℕ) → (is_among x kept ≡ true) ⊎ (is_among x new ≡ true) → is_among x (file_names p) ≡ false
        by x (inl i) = parts-apart kept (file_names p) old_names.1 x i
        by x (inr i) = apart-of new (file_names p) (names_of_program p) new-not-there file-inside x i

    among-old : AreAmong ((kept ++ new) ++ file_names (numbered p)) ((kept ++ file_names p) ++ temporary_names p)
    among-old x i = by (among-either x (kept ++ new) (file_names (numbered p)) i)
      where
        in_local : (is_among x kept ≡ true) ⊎ (is_among x new ≡ true) → is_among x ((kept ++ file_names p) ++ temporary_names p) ≡ true
        in_local (inl k) = among-left x (kept ++ file_names p) (temporary_names p) (among-left x kept (file_names p) k)
        in_local (inr k) = among-right x (kept ++ file_names p) (temporary_names p) (new-among x k)

        by : (is_among x (kept ++ new) ≡ true) ⊎ (is_among x (file_names (numbered p)) ≡ true) → is_among x ((kept ++ file_names p) ++ temporary_names p) ≡ true
        by (inl k) = in_local (among-either x kept new k)
        by (inr k) = among-left x (kept ++ file_names p) (temporary_names p) (among-right x kept (file_names p) (file-among x k))

    appended : (xs ys : List (List ℕ)) → list_all is_name xs ≡ true → list_all is_name ys ≡ true → list_all is_name (xs ++ ys) ≡ true
    appended [] ys a b = b
    appended (x ∷ xs) ys a b = let q = and_parts (is_name x) (list_all is_name xs) a in and_from (is_name x) (list_all is_name (xs ++ ys)) q.0 (appended xs ys q.1 b)

    locals-apart : are_names (local_names (change f).locals ++ file_names (numbered p)) ≡ true
    locals-apart =
        ap (λ (l : List (List ℕ)). are_names (l ++ file_names (numbered p))) locals-are
        ∙ names-of ((kept ++ new) ++ file_names (numbered p))
        (all-named ((kept ++ new) ++ file_names (numbered p)) ((kept ++ file_names p) ++ temporary_names p) among-old (appended (kept ++ file_names p) (temporary_names p) old_names.0 (new_named p h))) all-distinct

  -- ---- programs

  funcs-apart : (fs : List Func) → ((i : ℕ) (d : Func) → i < length fs → are_names (local_names (change (get_or fs i d)).locals ++ file_names (numbered p)) ≡ true) →
      list_all (λ (f : Func). are_names (local_names f.locals ++ file_names (numbered p))) (map change fs) ≡ true
  funcs-apart [] w = refl
  funcs-apart (f ∷ fs) w =
      and_from (are_names (local_names (change f).locals ++ file_names (numbered p))) (list_all (λ (f : Func). are_names (local_names f.locals ++ file_names (numbered p))) (map change fs)) (w 0 f (omega arith)) (funcs-apart fs (λ i d l. w (suc i) d (omega arith)))

  locals-inside : (i : ℕ) (d : Func) → i < length p.funcs → AreAmong (local_names (get_or p.funcs i d).locals) (names_of_program p)
  locals-inside i d l x k =
      among-right x (tags p) (flat_map (λ (s : Structure). local_names s.members) p.structures ++ (file_names p ++ flat_map (λ (f : Func). local_names f.locals) p.funcs))
      (among-right x (flat_map (λ (s : Structure). local_names s.members) p.structures) (file_names p ++ flat_map (λ (f : Func). local_names f.locals) p.funcs)
      (among-right x (file_names p) (flat_map (λ (f : Func). local_names f.locals) p.funcs) (among-flat (λ (f : Func). local_names f.locals) p.funcs i d x l k)))

  pub numbered_apart : AreNamesApart (numbered p)
  numbered_apart = record {
    tag_names = n.tag_names;
    names = names-of (file_names (numbered p)) file-named file-distinct;
    members = n.members;
    locals = funcs-apart p.funcs (λ i d l. locals-apart (get_or p.funcs i d) (tested_or (λ (f : Func). are_names (local_names (take (kept_count f) f.locals) ++ file_names p)) p.funcs i d n.locals l) (locals-inside i d l));
  }

-- The names of a program with the objects of an order are apart where those of its source are. What is proved of devices in an order serves for
-- objects, as devices of their names.
use Rattle.std.proofs.Common.{◌≡◌, ◌∙◌, ◌⊎◌, inl, inr, ◌∷◌, ◌++◌, arith, ℕ, suc, true, false, not, List, [], map, Option, Some, None, option_map, slice_get, refl, ap, sym}
use Rattle.std.specs.Prelude.{option_to_list}
use Rattle.std.specs.List.{list_all}
use Rattle.std.proofs.lemmas.Bool.{and_parts, and_from, cases_Bool, not_from_false}
use Rattle.std.proofs.lemmas.List.{map-append}
use Rattle.std.proofs.lemmas.Option.{slice_get-map}
use Rattle.cc_given_names.specs.Spaces.{AreAmong}
use Rattle.cc_given_names.proofs.Among.{among-left, among-right, distinct-append}
use Rattle.cc_lower_numbers.specs.Order.{arranged}
use Rattle.cc_lower_numbers_sound.proofs.DeviceNames.{order-among, order-distinct}
use Rattle.cc_lower_numbers_sound.proofs.NameLists.{among-either, distinct-front, distinct-back, parts-apart, all-named}
use Rattle.cc_lower_numbers_sound.proofs.Orders.{has, once, place-there}
use Rattle.cc_names.specs.Names.{is_among}
use Rattle.cc_program.specs.CcNum.declared.int_type.IntType.TheVariants as int
use Rattle.cc_program.specs.declared.func.Func.{Func}
use Rattle.cc_program.specs.declared.object.Device.{Device}
use Rattle.cc_program.specs.declared.object.Object.{Object}
use Rattle.cc_program.specs.declared.program.Program.{Program}
use Rattle.cc_eval.specs.CcSyntax.Names.{are_names, device_names, intrinsic_names, file_names, local_names}
use Rattle.cc_eval.specs.CcSyntax.Sound.{AreNamesApart}
use Rattle.cc_program.specs.CcWords.Names.{is_name, are_distinct}
use Rattle.cc_rewrite_renamed.specs.Objects.{ordered_object, ordered_func}
use Rattle.cc_rewrite_renamed.specs.Orders.{IsOrderOf}
use Rattle.cc_rewrite_renamed.proofs.Sources.{ordered}

-- ---- objects as devices of their names

abbrev named : Object → Device
named o = record { name = Some o.name; number = 0; int = int.Int; constant = false }

abbrev names_of : List Object → List (List ℕ)
names_of os = map (λ (o : Object). o.name) os

names-are : (os : List Object) → device_names (map named os) ≡ names_of os
names-are [] = refl
names-are (o ∷ os) = ap (λ (l : List (List ℕ)). o.name ∷ l) (names-are os)

module _ (all : List Object) where
  one-named : (o : Option Object) → option_to_list (option_map named o) ≡ map named (option_to_list o)
  one-named None = refl
  one-named (Some o) = refl

  arranged-named : (order : List ℕ) → arranged (map named all) order ≡ map named (arranged all order)
  arranged-named [] = refl
  arranged-named (j ∷ js) =
      (λ i. (ap option_to_list (slice_get-map named all j) ∙ one-named (slice_get all j)) i ++ arranged-named js i) ∙ sym (map-append named (option_to_list (slice_get all j)) (arranged all js))

  order-names : (order : List ℕ) → device_names (arranged (map named all) order) ≡ names_of (arranged all order)
  order-names order = ap device_names (arranged-named order) ∙ names-are (arranged all order)

  names-among : (order : List ℕ) → AreAmong (names_of (arranged all order)) (names_of all)
  names-among order x i = sym (ap (is_among x) (names-are all)) ∙ order-among (map named all) order x (ap (is_among x) (order-names order) ∙ i)

  names-distinct : (order : List ℕ) → once order ≡ true → are_distinct (names_of all) ≡ true → are_distinct (names_of (arranged all order)) ≡ true
  names-distinct order o d = sym (ap are_distinct (order-names order)) ∙ order-distinct (map named all) (ap are_distinct (names-are all) ∙ d) order o

-- ---- an order with each number once

once-from : (order : List ℕ) → ((i j k : ℕ) → slice_get order i ≡ Some k → slice_get order j ≡ Some k → i ≡ j) → once order ≡ true
once-from [] h = refl
once-from (j ∷ js) h =
    and_from (not (has j js)) (once js) (not_from_false (has j js) (by (cases_Bool (has j js)))) (once-from js (λ a b k x y. let e = h (suc a) (suc b) k x y in omega (arith, e)))
  where
    by : (has j js ≡ true) ⊎ (has j js ≡ false) → has j js ≡ false
    by (inl t) = let s = place-there 0 js j t in let e = h 0 (suc s.behind) j refl s.there in absurd (omega (arith, e))
    by (inr f) = f

-- ---- the program

module _ (order : List ℕ) (p : Program) (h : IsOrderOf order p) (n : AreNamesApart p) where
  abbrev new : Program
  new = ordered order p h

  abbrev front : List (List ℕ)
  front = device_names p.devices

  abbrev behind : List (List ℕ)
  behind = map (λ (f : Func). f.name) p.funcs ++ intrinsic_names p.roles

  abbrev kept : List (List ℕ)
  kept = names_of (arranged p.objects order)

  func-names : (fs : List Func) → map (λ (f : Func). f.name) (map (ordered_func order) fs) ≡ map (λ (f : Func). f.name) fs
  func-names [] = refl
  func-names (f ∷ fs) = ap (λ (l : List (List ℕ)). f.name ∷ l) (func-names fs)

  object-names : (os : List Object) → names_of (map (ordered_object order) os) ≡ names_of os
  object-names [] = refl
  object-names (o ∷ os) = ap (λ (l : List (List ℕ)). o.name ∷ l) (object-names os)

  file-is : file_names new ≡ front ++ (kept ++ behind)
  file-is = λ i. front ++ (object-names (arranged p.objects order) i ++ (func-names p.funcs i ++ intrinsic_names p.roles))

  old : (list_all is_name (file_names p) ≡ true) × (are_distinct (file_names p) ≡ true)
  old = and_parts (list_all is_name (file_names p)) (are_distinct (file_names p)) n.names

  rest-distinct : are_distinct (names_of p.objects ++ behind) ≡ true
  rest-distinct = distinct-back front (names_of p.objects ++ behind) old.1

  rest-among : AreAmong (kept ++ behind) (names_of p.objects ++ behind)
  rest-among x i = by (among-either x kept behind i)
    where
      by : (is_among x kept ≡ true) ⊎ (is_among x behind ≡ true) → is_among x (names_of p.objects ++ behind) ≡ true
      by (inl k) = among-left x (names_of p.objects) behind (names-among p.objects order x k)
      by (inr k) = among-right x (names_of p.objects) behind k

  kept-distinct : are_distinct (kept ++ behind) ≡ true
  kept-distinct =
      distinct-append kept behind (names-distinct p.objects order (once-from order h.once) (distinct-front (names_of p.objects) behind rest-distinct)) (distinct-back (names_of p.objects) behind rest-distinct)
      (λ x i. parts-apart (names_of p.objects) behind rest-distinct x (names-among p.objects order x i))

  moved-among : AreAmong (front ++ (kept ++ behind)) (file_names p)
  moved-among x i = by (among-either x front (kept ++ behind) i)
    where
      by : (is_among x front ≡ true) ⊎ (is_among x (kept ++ behind) ≡ true) → is_among x (file_names p) ≡ true
      by (inl k) = among-left x front (names_of p.objects ++ behind) k
      by (inr k) = among-right x front (names_of p.objects ++ behind) (rest-among x k)

  file-among : AreAmong (file_names new) (file_names p)
  file-among x i = moved-among x (sym (ap (is_among x) file-is) ∙ i)

  absent-in : (x : List ℕ) → is_among x front ≡ true → is_among x (kept ++ behind) ≡ false
  absent-in x i = by (cases_Bool (is_among x (kept ++ behind)))
    where
      by : (is_among x (kept ++ behind) ≡ true) ⊎ (is_among x (kept ++ behind) ≡ false) → is_among x (kept ++ behind) ≡ false
      by (inl k) = k ∙ sym (rest-among x k) ∙ parts-apart front (names_of p.objects ++ behind) old.1 x i
      by (inr f) = f

  file-distinct : are_distinct (file_names new) ≡ true
  file-distinct = ap are_distinct file-is ∙ distinct-append front (kept ++ behind) (distinct-front front (names_of p.objects ++ behind) old.1) kept-distinct absent-in

  file-names : are_names (file_names new) ≡ true
  file-names = and_from (list_all is_name (file_names new)) (are_distinct (file_names new)) (all-named (file_names new) (file_names p) file-among old.0) file-distinct

  -- ---- locals

  behind-among : (xs : List (List ℕ)) → AreAmong (xs ++ file_names new) (xs ++ file_names p)
  behind-among xs x i = by (among-either x xs (file_names new) i)
    where
      by : (is_among x xs ≡ true) ⊎ (is_among x (file_names new) ≡ true) → is_among x (xs ++ file_names p) ≡ true
      by (inl k) = among-left x xs (file_names p) k
      by (inr k) = among-right x xs (file_names p) (file-among x k)

  local-names : (f : Func) → are_names (local_names f.locals ++ file_names p) ≡ true → are_names (local_names f.locals ++ file_names new) ≡ true
  local-names f k =
      and_from (list_all is_name (xs ++ file_names new)) (are_distinct (xs ++ file_names new)) (all-named (xs ++ file_names new) (xs ++ file_names p) (behind-among xs) q.0)
      (distinct-append xs (file_names new) (distinct-front xs (file_names p) q.1) file-distinct apart)
    where
      xs : List (List ℕ)
      xs = local_names f.locals

      q : (list_all is_name (xs ++ file_names p) ≡ true) × (are_distinct (xs ++ file_names p) ≡ true)
      q = and_parts (list_all is_name (xs ++ file_names p)) (are_distinct (xs ++ file_names p)) k

      apart : (x : List ℕ) → is_among x xs ≡ true → is_among x (file_names new) ≡ false
      apart x i = by (cases_Bool (is_among x (file_names new)))
        where
          by : (is_among x (file_names new) ≡ true) ⊎ (is_among x (file_names new) ≡ false) → is_among x (file_names new) ≡ false
          by (inl t) = t ∙ sym (file-among x t) ∙ parts-apart xs (file_names p) q.1 x i
          by (inr g) = g

  locals-named : (fs : List Func) → list_all (λ (f : Func). are_names (local_names f.locals ++ file_names p)) fs ≡ true → list_all (λ (f : Func). are_names (local_names f.locals ++ file_names new)) (map (ordered_func order) fs) ≡ true
  locals-named [] k = refl
  locals-named (f ∷ fs) k =
      let q = and_parts (are_names (local_names f.locals ++ file_names p)) (list_all (λ (f : Func). are_names (local_names f.locals ++ file_names p)) fs) k in
      and_from (are_names (local_names f.locals ++ file_names new)) (list_all (λ (f : Func). are_names (local_names f.locals ++ file_names new)) (map (ordered_func order) fs)) (local-names f q.0) (locals-named fs q.1)

  pub ordered_apart : AreNamesApart new
  ordered_apart = record { tag_names = n.tag_names; names = file-names; members = n.members; locals = locals-named p.funcs n.locals }

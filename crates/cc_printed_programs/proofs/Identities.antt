-- The names of the unit that a program's text is have identities of their own: no two are one thing.
use Rattle.std.proofs.Common.{◌≡◌, ◌∙◌, ◌+◌, ℕ, zero, suc, Bool, true, false, true≢false, not, List, [], ◌∷◌, ◌++◌, length, map, filter, Option, Some, None, unwrap_or, slice_get, refl, ap, sym, subst, arith}
use Rattle.std.specs.List.{list_all, list_any}
use Rattle.std.specs.Option.{is_none}
use Rattle.std.proofs.lemmas.Bool.{eq-eqb}
use Rattle.cc_linked_programs.proofs.Places.{distinct-places}
use Rattle.cc_program.specs.declared.func.Func.{Func}
use Rattle.cc_program.specs.declared.object.Device.{Device}
use Rattle.cc_program.specs.declared.object.Object.{Object}
use Rattle.cc_program.specs.declared.program.Program.{Program}
use Rattle.cc_printed_programs.specs.Units.{device_linkage, device_shown, names_shown}
use Rattle.cc_printed_programs.proofs.ShownLists.{get-left, get-right, get-map, in-get}
use Rattle.cc_printed_programs.proofs.Naming.{Apart, parted, joined, flipped, apart-left, apart-right, apart-both, both-apart}
use Rattle.cc_printed_programs.proofs.Things.{mention_at}
use Rattle.cc_printed_programs.proofs.UnitNames.{named, Shown, NamedDevice, AFunction, AnObject, NumberedDevice, shown-at}
use Rattle.cc_structures.proofs.Elements.{any-in, length-map_of}
use Rattle.cc_type.proofs.CcSyntax.Prefixes.{both_true}
use Rattle.cc_type.specs.CcSyntax.Lists.{come_first}
use Rattle.cc_type.specs.CcSyntax.Names.{device_names, file_names, intrinsic_names}
use Rattle.cc_type.specs.CcSyntax.Normal.{has_name, count_named}
use Rattle.cc_type.specs.CcSyntax.SameTypes.{same_int, same_flag}
use Rattle.cc_type.specs.CcSyntax.Sound.{IsSound, devices_differ, is_numbered, is_same_device}
use Rattle.cc_things.specs.Things.{Identity, External, Numbered, Single, identity_of, external_or, address_or, position_of_type}
use Rattle.cc_type.specs.CcUnit.declared.unit.UnitName.{UnitName}
use Rattle.cc_program.specs.CcWords.Names.{is_name, are_distinct}

-- ---- names that a program's file has, in the order of its text

abbrev pub name_or_none : Device → List ℕ
name_or_none d = unwrap_or d.name []

pub has-a-name : (d : Device) → has_name d ≡ true → d.name ≡ Some (name_or_none d)
has-a-name d h = by d.name refl h
  where
    by : (o : Option (List ℕ)) → d.name ≡ o → not (is_none o) ≡ true → d.name ≡ Some (unwrap_or d.name [])
    by None e k = absurd (true≢false (sym k))
    by (Some x) e k = e ∙ ap (λ (y : List ℕ). Some y) (sym (ap (λ (o : Option (List ℕ)). unwrap_or o []) e))

pub has-no-name : (d : Device) → is_numbered d ≡ true → d.name ≡ None
has-no-name d h = by d.name refl h
  where
    by : (o : Option (List ℕ)) → d.name ≡ o → is_none o ≡ true → d.name ≡ None
    by None e k = e
    by (Some x) e k = absurd (true≢false (sym k))

pub device-names-are : (ds : List Device) → device_names ds ≡ map name_or_none (filter has_name ds)
device-names-are [] = refl
device-names-are (d ∷ ds) = by d.name refl (device-names-are ds)
  where
    by : (o : Option (List ℕ)) → d.name ≡ o → device_names ds ≡ map name_or_none (filter has_name ds) → device_names (d ∷ ds) ≡ map name_or_none (filter has_name (d ∷ ds))
    by None e rest = rw e rest
    by (Some x) e rest = rw e (ap (λ (xs : List (List ℕ)). x ∷ xs) rest)

module _ (p : Program) where
  abbrev pub device_part : List (List ℕ)
  device_part = map name_or_none (named p)

  abbrev pub function_part : List (List ℕ)
  function_part = map (λ (f : Func). f.name) p.funcs

  abbrev pub object_part : List (List ℕ)
  object_part = map (λ (o : Object). o.name) p.objects

  -- with external names, and all
  abbrev pub outside : List (List ℕ)
  outside = device_part ++ function_part

  abbrev pub shown_names : List (List ℕ)
  shown_names = device_part ++ (function_part ++ object_part)

  pub record NamesApart : Type 0 where
    pub outer : are_distinct (outside) ≡ true
    pub whole : are_distinct (shown_names) ≡ true
    pub intrinsics : Apart (shown_names) (intrinsic_names p.roles)

  pub names-apart : IsSound p → NamesApart
  names-apart sound =
      let d : are_distinct (device_part ++ (object_part ++ (function_part ++ intrinsic_names p.roles))) ≡ true =
      ap (λ (xs : List (List ℕ)). are_distinct (xs ++ (object_part ++ (function_part ++ intrinsic_names p.roles)))) (sym (device-names-are p.devices)) ∙ (both_true (list_all is_name (file_names p)) (are_distinct (file_names p)) sound.names).1 in
      let a = parted device_part (object_part ++ (function_part ++ intrinsic_names p.roles)) d in
      let b = parted object_part (function_part ++ intrinsic_names p.roles) a.right in
      let c = parted function_part (intrinsic_names p.roles) b.right in
      let device_object = apart-left device_part object_part (function_part ++ intrinsic_names p.roles) a.apart in
      let behind = apart-right device_part object_part (function_part ++ intrinsic_names p.roles) a.apart in
      let device_function = apart-left device_part function_part (intrinsic_names p.roles) behind in
      let device_intrinsic = apart-right device_part function_part (intrinsic_names p.roles) behind in
      let object_function = apart-left object_part function_part (intrinsic_names p.roles) b.apart in
      let object_intrinsic = apart-right object_part function_part (intrinsic_names p.roles) b.apart in
      let two = joined function_part object_part c.left b.left (flipped object_part function_part object_function) in
      record {
        outer = joined device_part function_part a.left c.left device_function;
        whole = joined device_part (function_part ++ object_part) a.left two (apart-both device_part function_part object_part device_function device_object);
        intrinsics = both-apart device_part (function_part ++ object_part) (intrinsic_names p.roles) device_intrinsic (both-apart function_part object_part (intrinsic_names p.roles) c.apart object_intrinsic);
      }

-- ---- devices without names differ

same-int : (d e : Device) → position_of_type d.int ≡ position_of_type e.int → same_int d.int e.int ≡ true
unfolding same_int
same-int d e h = eq-eqb (position_of_type d.int) (position_of_type e.int) h

flag-self : (a : Bool) → same_flag a a ≡ true
flag-self true = refl
flag-self false = refl

same-device : (d e : Device) → is_numbered d ≡ true → is_numbered e ≡ true → d.number ≡ e.number → position_of_type d.int ≡ position_of_type e.int → d.constant ≡ e.constant → is_same_device d e ≡ true
same-device d e h k n i c =
    let flags : same_flag d.constant e.constant ≡ true = ap (λ (b : Bool). same_flag d.constant b) (sym c) ∙ flag-self d.constant in
    rw (h, k, eq-eqb d.number e.number n, same-int d e i, flags) refl

negated : (b : Bool) → not b ≡ true → b ≡ false
negated true h = absurd (true≢false (sym h))
negated false h = refl

one-device : (ds : List Device) → devices_differ ds ≡ true → (i j : ℕ) (d e : Device) → slice_get ds i ≡ Some d → slice_get ds j ≡ Some e → is_same_device d e ≡ true → is_same_device e d ≡ true → i ≡ j
one-device [] h i j d e f g s t = absurd (cc)
one-device (x ∷ ds) h zero zero d e f g s t = refl
one-device (x ∷ ds) h zero (suc j) d e f g s t =
    let q = both_true (not (list_any (is_same_device x) ds)) (devices_differ ds) h in
    let own : x ≡ d = cc f in
    let any = any-in (is_same_device x) ds e (in-get ds j e g) (subst (λ (y : Device). is_same_device y e ≡ true) (sym own) s) in
    absurd (true≢false (sym any ∙ negated (list_any (is_same_device x) ds) q.0))
one-device (x ∷ ds) h (suc i) zero d e f g s t =
    let q = both_true (not (list_any (is_same_device x) ds)) (devices_differ ds) h in
    let own : x ≡ e = cc g in
    let any = any-in (is_same_device x) ds d (in-get ds i d f) (subst (λ (y : Device). is_same_device y d ≡ true) (sym own) t) in
    absurd (true≢false (sym any ∙ negated (list_any (is_same_device x) ds) q.0))
one-device (x ∷ ds) h (suc i) (suc j) d e f g s t = ap suc (one-device ds (both_true (not (list_any (is_same_device x) ds)) (devices_differ ds) h).1 i j d e f g s t)

-- ---- identities

module _ (p : Program) (function_at object_at : ℕ → ℕ) (sound : IsSound p) (order : come_first has_name p.devices ≡ true) (numbers : List ℕ) where
  data Identified (k : ℕ) (x : Identity) : Type 0 where
    ByName : (y : List ℕ) → slice_get (outside p) k ≡ Some y → x ≡ External y → Identified k x
    ByAddress : (i : ℕ) (d : Device) → slice_get p.devices i ≡ Some d → is_numbered d ≡ true → k ≡ length p.funcs + (length p.objects + i) → x ≡ Numbered d.number (position_of_type d.int) d.constant → Identified k x
    ByPlace : x ≡ Single 0 k → Identified k x

  device-identity : (k : ℕ) (d : Device) (o : Option (List ℕ)) → d.name ≡ o → identity_of (mention_at numbers k (device_shown d)) ≡ external_or (device_linkage o) o (address_or d o (Single 0 k))
  device-identity k d o e = ap (λ (o : Option (List ℕ)). external_or (device_linkage o) o (address_or d o (Single 0 k))) e

  many : length (device_part p) ≡ count_named p.devices
  many = length-map_of name_or_none (named p)

  by-shown : (k : ℕ) (n : UnitName) → Shown p function_at object_at order k n → Identified k (identity_of (mention_at numbers k n))
  by-shown k n (NamedDevice d e f h low s) =
      let name = has-a-name d h in
      ByName (name_or_none d) (get-left (device_part p) (function_part p) k (name_or_none d) (get-map name_or_none (named p) k d f))
      (ap (λ (m : UnitName). identity_of (mention_at numbers k m)) s ∙ device-identity k d (Some (name_or_none d)) name)
  by-shown k n (AFunction i f e h s) =
      let c = many in
      ByName f.name (get-right (device_part p) (function_part p) i k f.name (omega (arith, h, c)) (get-map (λ (g : Func). g.name) p.funcs i f e)) (ap (λ (m : UnitName). identity_of (mention_at numbers k m)) s)
  by-shown k n (AnObject i o e h s) = ByPlace (ap (λ (m : UnitName). identity_of (mention_at numbers k m)) s)
  by-shown k n (NumberedDevice i d e h high g s) =
      ByAddress i d e h g (ap (λ (m : UnitName). identity_of (mention_at numbers k m)) s ∙ device-identity k d None (has-no-name d h))

  one-place : (j k : ℕ) (x y : Identity) → Identified j x → Identified k y → x ≡ y → j ≡ k
  one-place j k x y (ByName a e f) (ByName b g h) q =
      let s : External a ≡ External b = sym f ∙ (q ∙ h) in
      let t : a ≡ b = cc s in
      distinct-places (outside p) (names-apart p sound).outer j k b (e ∙ ap (λ (z : List ℕ). Some z) t) g
  one-place j k x y (ByName a e f) (ByAddress i d g h l r) q = let s : External a ≡ Numbered d.number (position_of_type d.int) d.constant = sym f ∙ (q ∙ r) in absurd (cc s)
  one-place j k x y (ByName a e f) (ByPlace g) q = let s : External a ≡ Single 0 k = sym f ∙ (q ∙ g) in absurd (cc s)
  one-place j k x y (ByAddress i d g h l r) (ByName a e f) q = let s : Numbered d.number (position_of_type d.int) d.constant ≡ External a = sym r ∙ (q ∙ f) in absurd (cc s)
  one-place j k x y (ByAddress i d g h l r) (ByAddress i' d' g' h' l' r') q =
      let s : Numbered d.number (position_of_type d.int) d.constant ≡ Numbered d'.number (position_of_type d'.int) d'.constant = sym r ∙ (q ∙ r') in
      let number : d.number ≡ d'.number = cc s in
      let int : position_of_type d.int ≡ position_of_type d'.int = cc s in
      let const : d.constant ≡ d'.constant = cc s in
      let same = one-device p.devices sound.distinct_devices i i' d d' g g' (same-device d d' h h' number int const) (same-device d' d h' h (sym number) (sym int) (sym const)) in
      omega (arith, l, l', same)
  one-place j k x y (ByAddress i d g h l r) (ByPlace f) q = let s : Numbered d.number (position_of_type d.int) d.constant ≡ Single 0 k = sym r ∙ (q ∙ f) in absurd (cc s)
  one-place j k x y (ByPlace f) (ByName a e g) q = let s : Single 0 j ≡ External a = sym f ∙ (q ∙ g) in absurd (cc s)
  one-place j k x y (ByPlace f) (ByAddress i d g h l r) q = let s : Single 0 j ≡ Numbered d.number (position_of_type d.int) d.constant = sym f ∙ (q ∙ r) in absurd (cc s)
  one-place j k x y (ByPlace f) (ByPlace g) q = let s : Single 0 j ≡ Single 0 k = sym f ∙ (q ∙ g) in cc s

  pub identities-apart : (j k : ℕ) (m n : UnitName) → slice_get (names_shown p function_at object_at) j ≡ Some m → slice_get (names_shown p function_at object_at) k ≡ Some n →
      identity_of (mention_at numbers j m) ≡ identity_of (mention_at numbers k n) → j ≡ k
  identities-apart j k m n e f h = one-place j k (identity_of (mention_at numbers j m)) (identity_of (mention_at numbers k n)) (by-shown j m (shown-at p function_at object_at order j m e)) (by-shown k n (shown-at p function_at object_at order k n f)) h

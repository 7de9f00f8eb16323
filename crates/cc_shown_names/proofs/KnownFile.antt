-- What is known in front of a program's definitions.
use Rattle.std.proofs.Common.{arith, ◌≡◌, ◌≤◌, ℕ, zero, suc, ◌+◌, ◌-◌, Bool, true, false, cond, not, ◌&&◌, nat_eq, List, [], ◌∷◌, ◌++◌, map, length, position, take, Option, Some, None, option_map, Ok, refl, ap, sym, ◌∙◌, slice_get, length-append}
use Rattle.std.specs.Prelude.{if◌then◌else◌}
use Rattle.std.specs.List.{filter, position_from}
use Rattle.std.specs.Option.{is_none}
use Rattle.std.proofs.lemmas.Bool.{lt-ltb, le-ltb}
use Rattle.std.proofs.lemmas.Iterator.Adapters.{position_from-zero}
use Rattle.std.proofs.lemmas.Option.{slice_get-map, slice_get_within}
use Rattle.cc_type.specs.CcDesignators.Designators.{IsPlace}
use Rattle.cc_type.specs.CcTypedTerms.Devices.{names_device}
use Rattle.cc_type.specs.CcTypedTerms.Primary.{named}
use Rattle.cc_program.specs.declared.expr.Place.{Device as DeviceAt}
use Rattle.cc_program.specs.declared.func.Func.{Func}
use Rattle.cc_program.specs.declared.object.Device.{Device}
use Rattle.cc_program.specs.declared.object.Object.{Object}
use Rattle.cc_program.specs.declared.program.Program.{Program}
use Rattle.cc_type.specs.CcScopes.State.{State, Name, name_or_none}
use Rattle.cc_type.specs.CcScopes.declared.unit.Declared.{Declared}
use Rattle.cc_type.specs.CcSyntax.Lists.{come_first, is_count}
use Rattle.cc_type.specs.CcSyntax.Names.{device_names}
use Rattle.cc_type.specs.CcSyntax.Normal.{has_name, count_named, devices_in_text, next_of, IsNormal}
use Rattle.cc_type.specs.CcSyntax.SameTypes.{same_int, same_flag}
use Rattle.cc_type.specs.CcSyntax.Sound.{IsSound, is_numbered, is_same_device}
use Rattle.cc_type.specs.CcSyntax.Types.{Named}
use Rattle.cc_type.specs.CcSyntax.Values.{DevicePlace}
use Rattle.cc_type.proofs.CcSyntax.Prefixes.{both_true}
use Rattle.cc_shown_declarations.specs.Entries.{written_entry}
use Rattle.cc_shown_declarations.specs.Order.{appearance, structure_number}
use Rattle.cc_shown_declarations.specs.States.{first_state}
use Rattle.cc_shown_names.specs.Bodies.{first_locals}
use Rattle.cc_shown_names.specs.Definitions.{IsKnownFunction, KnowsFile}
use Rattle.cc_shown_names.specs.Devices.{KnowsDevices}
use Rattle.cc_shown_names.proofs.Changes.{stays-there}
use Rattle.cc_shown_expressions.specs.Known.{KnowsStructures}
use Rattle.cc_shown_expressions.specs.KnownNames.{KnowsNames}
use Rattle.cc_shown_names.specs.Names.{device_declared, function_declared}
use Rattle.cc_shown_declarations.specs.UnitNumbers.{device_number}
use Rattle.cc_shown_names.specs.Numbers.{read_numbers}
use Rattle.cc_shown_names.specs.States.{unit_state, devices_declared, functions_declared}
use Rattle.cc_shown_names.proofs.Base.{structures-in, own-name, device-keys}
use Rattle.cc_shown_names.proofs.Firsts.{passing-there, none-behind, passes-before}
use Rattle.cc_shown_names.proofs.Keys.{func_names, object_names, unit_keys}
use Rattle.cc_shown_names.proofs.KnownStates.{AreObjects, NoObject, MoreObjects, count-functions, function-there, names-it, apart-here, function-named, object-named}
use Rattle.cc_shown_names.proofs.Scope.{key-there, found-here, linked-here}

-- ---- a list of which none passes a test

none-from : {A : Type 0} → (test : A → Bool) (i : ℕ) (xs : List A) → ((j : ℕ) (x : A) → slice_get xs j ≡ Some x → test x ≡ false) → position_from test i xs ≡ None
none-from test i [] h = refl
none-from test i (x ∷ xs) h = ap (λ b. cond b (Some i) (position_from test (i + 1) xs)) (h 0 x refl) ∙ none-from test (i + 1) xs (λ j y e. h (suc j) y e)

no-position : {A : Type 0} → (test : A → Bool) (xs : List A) → ((j : ℕ) (x : A) → slice_get xs j ≡ Some x → test x ≡ false) → position test xs ≡ None
no-position test xs h = position_from-zero test xs ∙ none-from test 0 xs h

second-false : (a b c : Bool) → b ≡ false → a && (b && c) ≡ false
second-false a true c h = absurd (cc)
second-false true false c h = refl
second-false false false c h = refl

not-false : (b : Bool) → not b ≡ true → b ≡ false
not-false true h = absurd (cc)
not-false false h = refl

not-named : (o : Option Name) → not (is_none o) ≡ false → o ≡ None
not-named None h = refl
not-named (Some x) h = absurd (cc)

module _ (p : Program) (normal : IsNormal p) (known : KnowsStructures p (structure_number p) (first_state p (length p.structures) (appearance p))) (ds : List Declared) (objects : AreObjects p p.objects ds) where
  abbrev sound : IsSound p
  sound = normal.sound

  abbrev now : State
  now = unit_state p (functions_declared p ++ ds)

  -- ---- devices in the order of the text

  in-order : (come_first has_name p.devices ≡ true) × (is_count (length p.devices) (next_of (count_named p.devices) (devices_in_text p)) ≡ true)
  in-order = both_true (come_first has_name p.devices) (is_count (length p.devices) (next_of (count_named p.devices) (devices_in_text p))) normal.devices

  has-a-name : (d : Device) (x : Name) → d.name ≡ Some x → has_name d ≡ true
  has-a-name d x h = ap (λ (o : Option Name). not (is_none o)) h

  device-there : (i : ℕ) (d : Device) (x : Name) → slice_get p.devices i ≡ Some d → d.name ≡ Some x → slice_get (functions_declared p ++ ds) i ≡ Some (device_declared d)
  device-there i d x h e =
      let g = passing-there has_name p.devices i d in-order.0 h (has-a-name d x e) in
      let a : slice_get (devices_declared p) i ≡ Some (device_declared d) = slice_get-map device_declared (filter has_name p.devices) i ∙ ap (option_map device_declared) g in
      stays-there (functions_declared p) ds i (device_declared d) (stays-there (devices_declared p) (map (function_declared p) p.funcs) i (device_declared d) a)

  device-is : (i : ℕ) (d : Device) (x : Name) → slice_get p.devices i ≡ Some d → d.name ≡ Some x → device_number p i ≡ i
  device-is i d x h e =
      let l = slice_get_within (filter has_name p.devices) i d (passing-there has_name p.devices i d in-order.0 h (has-a-name d x e)) in
      ap (λ b. if b then i else length p.funcs + (length p.objects + i)) (lt-ltb i (count_named p.devices) l)

  device-own : (i : ℕ) (d : Device) (x : Name) → slice_get p.devices i ≡ Some d → d.name ≡ Some x → slice_get (unit_keys p) i ≡ Some x
  device-own i d x h e =
      let g = passing-there has_name p.devices i d in-order.0 h (has-a-name d x e) in
      let a : slice_get (devices_declared p) i ≡ Some (device_declared d) = slice_get-map device_declared (filter has_name p.devices) i ∙ ap (option_map device_declared) g in
      stays-there (device_names p.devices) (func_names p ++ object_names p) i x (ap (λ ns. slice_get ns i) (sym (device-keys p.devices)) ∙ key-there (devices_declared p) i (device_declared d) a ∙ ap (λ (o : Option Name). Some (name_or_none o)) e)

  device-named : (i : ℕ) (d : Device) (x : Name) → slice_get p.devices i ≡ Some d → d.name ≡ Some x → (at : ℕ) → named p.roles at x now ≡ Ok (IsPlace (DeviceAt (device_number p i)) (DevicePlace d.constant d.int))
  device-named i d x h e at =
      names-it p (functions_declared p ++ ds) i (device_declared d) x (apart-here p sound known ds objects) (device-there i d x h e) e refl (own-name p sound i x (device-own i d x h e)) at
      ∙ ap (λ k. Ok (IsPlace (DeviceAt k) (DevicePlace d.constant d.int))) (sym (device-is i d x h e))

  -- ---- what names designate

  no-locals : (ls : List Named) (i : ℕ) (l : Named) → slice_get (take 0 ls) i ≡ Some l → ⊥
  no-locals [] i l h = cc
  no-locals (m ∷ ls) i l h = cc

  pub names-known : (f : Func) → KnowsNames p (first_locals 0 f) (read_numbers p) now
  names-known f = record {
    structures = structures-in p known (functions_declared p ++ ds);
    locals = λ i l e at. absurd (no-locals f.locals i l e);
    objects = λ i o e at. object-named p sound known ds objects i o e at;
    devices = λ i d x e h at. device-named i d x e h at;
    funcs = λ i g e at. function-named p sound known ds objects i g e at;
  }

  pub function-known : (i : ℕ) (g : Func) → slice_get p.funcs i ≡ Some g → IsKnownFunction (read_numbers p) now g ((read_numbers p).func i)
  function-known i g h =
      let apart = apart-here p sound known ds objects in
      let there = function-there p ds i g h in record {
        linked = linked-here p (functions_declared p ++ ds) ((read_numbers p).func i) (function_declared p g) g.name apart there refl refl;
        here = found-here p (functions_declared p ++ ds) ((read_numbers p).func i) (function_declared p g) g.name apart there refl refl;
        declared = function_declared p g;
        there = there;
        linkage = refl;
        ctype = refl;
        entry = written_entry g.entry;
        body = None;
        kind = refl;
      }

  -- ---- devices without names are declared by no item

  other-device : (d e : Device) → is_numbered e ≡ false → is_same_device d e ≡ false
  other-device d e h = second-false (is_numbered d) (is_numbered e) (nat_eq d.number e.number && (same_int d.int e.int && same_flag d.constant e.constant)) h

  named-device : (e : Device) → has_name e ≡ true → is_numbered e ≡ false
  named-device e h = not-false (is_numbered e) h

  -- what declares a name is no device without one
  abbrev Names_other : List Declared → Type 0
  Names_other xs = (d : Device) (j : ℕ) (x : Declared) → slice_get xs j ≡ Some x → names_device d x.kind ≡ false

  both-other : (xs ys : List Declared) → Names_other xs → Names_other ys → Names_other (xs ++ ys)
  both-other [] ys h k d j x e = k d j x e
  both-other (z ∷ xs) ys h k d zero x e = h d 0 x e
  both-other (z ∷ xs) ys h k d (suc j) x e = both-other xs ys (λ d i y g. h d (suc i) y g) k d j x e

  devices-other-by : (c : Device) (cs : List Device) (b : Bool) → has_name c ≡ b → Names_other (map device_declared (filter has_name cs)) → Names_other (map device_declared (cond b (c ∷ filter has_name cs) (filter has_name cs)))
  devices-other-by c cs true h k d zero x e =
      let same : device_declared c ≡ x = cc in
      ap (λ (x : Declared). names_device d x.kind) (sym same) ∙ other-device d c (named-device c h)
  devices-other-by c cs true h k d (suc j) x e = k d j x e
  devices-other-by c cs false h k d j x e = k d j x e

  devices-other : (cs : List Device) → Names_other (map device_declared (filter has_name cs))
  devices-other [] d j x e = absurd (cc)
  devices-other (c ∷ cs) d j x e = devices-other-by c cs (has_name c) refl (devices-other cs) d j x e

  functions-other : (fs : List Func) → Names_other (map (function_declared p) fs)
  functions-other [] d j x e = absurd (cc)
  functions-other (f ∷ fs) d zero x e = let same : function_declared p f ≡ x = cc in ap (λ (x : Declared). names_device d x.kind) (sym same)
  functions-other (f ∷ fs) d (suc j) x e = functions-other fs d j x e

  objects-other : (os : List Object) (es : List Declared) → AreObjects p os es → Names_other es
  objects-other _ _ NoObject d j x e = absurd (cc)
  objects-other _ _ (MoreObjects o os c es is r) d zero x e = let same : c ≡ x = cc in ap (λ (x : Declared). names_device d x.kind) (sym same) ∙ ap (names_device d) is.kind
  objects-other _ _ (MoreObjects o os c es is r) d (suc j) x e = objects-other os es r d j x e

  all-other : Names_other (functions_declared p ++ ds)
  all-other = both-other (functions_declared p) ds (both-other (devices_declared p) (map (function_declared p) p.funcs) (devices-other p.devices) (functions-other p.funcs)) (objects-other p.objects ds objects)

  long-objects : (os : List Object) (es : List Declared) → AreObjects p os es → length es ≡ length os
  long-objects _ _ NoObject = refl
  long-objects _ _ (MoreObjects o os c es is r) = ap suc (long-objects os es r)

  next-number : (i : ℕ) → count_named p.devices ≤ i → device_number p i ≡ length (functions_declared p ++ ds) + (i - count_named p.devices)
  next-number i l =
      let a = length-append (functions_declared p) ds in
      let b = count-functions p in
      let c = long-objects p.objects ds objects in
      let d : length p.funcs + (length p.objects + i) ≡ length (functions_declared p ++ ds) + (i - count_named p.devices) = omega (arith, a, b, c, l) in
      ap (λ b. if b then i else length p.funcs + (length p.objects + i)) (le-ltb i (count_named p.devices) l) ∙ d

  pub devices-known : KnowsDevices p (read_numbers p) (count_named p.devices) (functions_declared p ++ ds)
  devices-known = record {
    nameless = λ i d h l. not-named d.name (none-behind has_name p.devices i d in-order.0 h l);
    known = λ i d h none l. absurd (let g : true ≡ false = sym (passes-before has_name p.devices i d in-order.0 h l) ∙ ap (λ (o : Option Name). not (is_none o)) none in cc);
    unknown = λ i d h l. no-position (λ (x : Declared). names_device d x.kind) (functions_declared p ++ ds) (all-other d);
    next = λ i d h l. next-number i l;
  }

  pub file-known : KnowsFile p (read_numbers p) (count_named p.devices) now
  file-known = record { names = names-known; functions = function-known; devices = devices-known }

-- The unit that the text of a program in normal form leaves is the one that shows the program: from the numbers that structures have
-- while the text is read all comes back to the program's, and the names stand as they were declared.
use Rattle.std.proofs.Common.{◌≡◌, ◌∙◌, ◌+◌, ◌<◌, ◌≤◌, ℕ, zero, suc, Bool, true, false, cond, List, [], ◌∷◌, ◌++◌, length, map, drop, Option, Some, None, unwrap_or, slice_get, filter, refl, ap, sym, arith}
use Rattle.std.proofs.lemmas.Bool.Decides.{nat_tests}
use Rattle.std.proofs.lemmas.List.{length-map, length-append}
use Rattle.std.specs.Prelude.{nat_lt, if◌then◌else◌}
use Rattle.cc_expression_trees.proofs.Levels.{sig-roll}
use Rattle.cc_type.specs.CcNumbering.Names.{own_id, count_of, name_in}
use Rattle.cc_type.specs.CcNumbering.Structures.{all_named_in}
use Rattle.cc_type.specs.CcNumbering.Units.{ids_of, unit_left}
use Rattle.cc_type.specs.CcOperands.Qualified.{plain}
use Rattle.cc_type.specs.CcTypedTerms.Devices.{declared_device}
use Rattle.cc_program.specs.declared.expr.Place.{Device as DeviceAt}
use Rattle.cc_program.specs.declared.func.Entry.{Entry}
use Rattle.cc_program.specs.declared.func.Func.{Func}
use Rattle.cc_program.specs.declared.object.Device.{Device}
use Rattle.cc_program.specs.declared.object.Object.{Object}
use Rattle.cc_program.specs.declared.program.Program.{Program}
use Rattle.cc_program.specs.declared.stmt.Stmt.{Stmt}
use Rattle.cc_program.specs.declared.types.CType.{CType}
use Rattle.cc_program.specs.declared.types.Shape.{Int, Func as FuncShape}
use Rattle.cc_program.specs.declared.types.Sig.{Sig, out-Sig, roll-out-Sig}
use Rattle.cc_program.specs.declared.value.Address.TheVariants as address
use Rattle.cc_program.specs.declared.value.Leaf.{Leaf}
use Rattle.cc_program.specs.declared.value.Leaf.TheVariants as leaf
use Rattle.cc_program.specs.declared.value.Root.{Root}
use Rattle.cc_program.specs.declared.value.Root.TheVariants as root
use Rattle.cc_type.specs.CcScopes.State.{State}
use Rattle.cc_type.specs.CcScopes.declared.unit.Declared.{Declared}
use Rattle.cc_shown_declarations.specs.Entries.{written_entry}
use Rattle.cc_shown_declarations.specs.Numbers.{root_numbered, leaf_numbered}
use Rattle.cc_shown_declarations.proofs.Left.{number-left, structures-left}
use Rattle.cc_shown_effects.specs.Numbers.{stmt_numbered}
use Rattle.cc_shown_expressions.specs.Numbers.{type_numbered, sig_numbered, named_numbered}
use Rattle.cc_shown_expressions.specs.OperationNumbers.{Numbers}
use Rattle.cc_shown_expressions.proofs.Identity.{stays}
use Rattle.cc_shown_expressions.proofs.Stand.{tested-at, types-stand}
use Rattle.cc_shown_expressions.proofs.Standing.{Stands}
use Rattle.cc_shown_names.specs.Names.{device_declared, placed, function_defined, object_given}
use Rattle.cc_shown_names.specs.Numbers.{read_numbers}
use Rattle.cc_shown_names.specs.States.{devices_declared, last_state, place_at}
use Rattle.cc_shown_declarations.specs.UnitNumbers.{first_function, first_object}
use Rattle.cc_printed_programs.specs.Numbers.{unit_numbers}
use Rattle.cc_printed_programs.specs.Returning.{Returns, HoldsOfNames}
use Rattle.cc_printed_programs.specs.Units.{structure_shown, device_linkage, device_shown, positioned_from, function_shown, object_shown, names_shown, unit_shown}
use Rattle.cc_printed_programs.proofs.ShownLists.{get-left, get-right, get-map}
use Rattle.cc_printed_programs.proofs.Statements.{body-comes}
use Rattle.cc_printed_programs.proofs.Types.{comes, sig-back}
use Rattle.cc_type.proofs.CcSyntax.Parts.{all_at}
use Rattle.cc_type.proofs.CcSyntax.Prefixes.{both_true}
use Rattle.cc_type.specs.CcSyntax.Kinds.{is_sig, is_plain_scalar, extent_in}
use Rattle.cc_type.specs.CcSyntax.Lists.{come_first, is_count}
use Rattle.cc_type.specs.CcSyntax.Normal.{IsNormal, has_name, count_named, next_of, devices_in_text}
use Rattle.cc_type.specs.CcSyntax.Programs.{kind_in}
use Rattle.cc_type.specs.CcSyntax.Sound.{IsSound, IsFunc, is_numbered, is_object}
use Rattle.cc_type.specs.CcSyntax.Types.{Named}
use Rattle.cc_unit_trees.specs.Externals.{is_given}
use Rattle.cc_type.specs.CcUnit.Renumbered.{structure_by, object_by, device_by, func_by, type_renumbered, sig_renumbered, stmt_renumbered}
use Rattle.cc_type.specs.CcUnit.declared.ids.Ids.{Ids}
use Rattle.cc_type.specs.CcUnit.declared.unit.Linkage.{Linkage}
use Rattle.cc_type.specs.CcUnit.declared.unit.Linkage.TheVariants as linkage
use Rattle.cc_type.specs.CcUnit.declared.unit.UnitKind.TheVariants as kind
use Rattle.cc_type.specs.CcUnit.declared.unit.UnitName.{UnitName}
use Rattle.cc_type.specs.CcUnit.declared.unit.UnitStructure.{UnitStructure}
use Rattle.cc_printed_programs.proofs.Devices.{none-dropped, numbered-behind}
use Rattle.cc_printed_programs.proofs.Lists.{get-there, placed-there, placed-length, own-at, four-mapped, mapped-all}
use Rattle.cc_printed_programs.proofs.Names.{count-one, linkage-named, no-name, object-some, sig-own, int-stays, function-type, same-structures}

module _ (p : Program) (normal : IsNormal p) (objects functions : List ℕ) (many_objects : length objects ≡ length p.objects) (many_functions : length functions ≡ length p.funcs) where
  abbrev read : Numbers
  read = read_numbers p

  abbrev own : Numbers
  own = unit_numbers p

  abbrev last : State
  last = last_state p objects functions

  abbrev ids : Ids
  ids = ids_of last

  abbrev named : List Declared
  named = devices_declared p

  abbrev defined : List Declared
  defined = placed (function_defined p) functions p.funcs

  abbrev given : List Declared
  given = placed (object_given p) objects p.objects

  abbrev others : List Declared
  others = map declared_device (drop (count_named p.devices) p.devices)

  abbrev all : List Declared
  all = ((named ++ defined) ++ given) ++ others

  sound : IsSound p
  sound = normal.sound

  order : come_first has_name p.devices ≡ true
  order = (both_true (come_first has_name p.devices) (is_count (length p.devices) (next_of (count_named p.devices) (devices_in_text p))) normal.devices).0

  count-named : length named ≡ count_named p.devices
  count-named = length-map (filter has_name p.devices) device_declared

  count-defined : length (named ++ defined) ≡ first_object p
  count-defined =
      let a = length-append named defined in
      let b = placed-length (function_defined p) functions p.funcs many_functions in
      omega (arith, a, b, count-named)

  count-given : length ((named ++ defined) ++ given) ≡ first_object p + length p.objects
  count-given =
      let a = length-append (named ++ defined) given in
      let b = placed-length (object_given p) objects p.objects many_objects in
      omega (arith, a, b, count-defined)

  -- ---- what stands at each number

  function-there : (i : ℕ) (f : Func) → slice_get p.funcs i ≡ Some f → (at : ℕ) × (slice_get all (first_function p + i) ≡ Some (function_defined p at f))
  function-there i f e =
      let q = placed-there (function_defined p) functions p.funcs i f many_functions e in
      let d = function_defined p q.0 f in (
        q.0,
        get-left ((named ++ defined) ++ given) others (first_function p + i) d (get-left (named ++ defined) given (first_function p + i) d
            (get-right named defined i (first_function p + i) d (omega (arith, count-named)) q.1)),
      )

  object-there : (i : ℕ) (o : Object) → slice_get p.objects i ≡ Some o → (at : ℕ) × (slice_get all (first_object p + i) ≡ Some (object_given p at o))
  object-there i o e =
      let q = placed-there (object_given p) objects p.objects i o many_objects e in
      let d = object_given p q.0 o in
      (q.0, get-left ((named ++ defined) ++ given) others (first_object p + i) d (get-right (named ++ defined) given i (first_object p + i) d (omega (arith, count-defined)) q.1))

  named-there : (i : ℕ) → i < count_named p.devices → (d : Device) × (slice_get all i ≡ Some (device_declared d))
  named-there i h =
      let q = get-there (filter has_name p.devices) i h in
      let d = device_declared q.0 in
      (q.0, get-left ((named ++ defined) ++ given) others i d (get-left (named ++ defined) given i d (get-left named defined i d (get-map device_declared (filter has_name p.devices) i q.0 q.1))))

  other-at : (ds : List Device) (c i : ℕ) (d : Device) → c ≤ i → slice_get ds i ≡ Some d → (j : ℕ) × (i ≡ c + j) × (slice_get (drop c ds) j ≡ Some d)
  other-at [] c i d h e = absurd (cc)
  other-at (x ∷ xs) zero i d h e = (i, omega arith, ap (λ (ds : List Device). slice_get ds i) (none-dropped (x ∷ xs)) ∙ e)
  other-at (x ∷ xs) (suc c) zero d h e = absurd (omega (arith, h))
  other-at (x ∷ xs) (suc c) (suc i) d h e = let q = other-at xs c i d (omega (arith, h)) e in let s = q.1 in (q.0, omega (arith, s), q.2)

  other-there : (i : ℕ) (d : Device) → count_named p.devices ≤ i → slice_get p.devices i ≡ Some d → slice_get all (length p.funcs + (length p.objects + i)) ≡ Some (declared_device d)
  other-there i d h e =
      let q = other-at p.devices (count_named p.devices) i d h e in
      let s = q.1 in
      get-right ((named ++ defined) ++ given) others q.0 (length p.funcs + (length p.objects + i)) (declared_device d) (omega (arith, count-given, s))
      (get-map declared_device (drop (count_named p.devices) p.devices) q.0 d q.2)

  -- ---- so all comes back

  id-at : (k : ℕ) (d : Declared) → slice_get all k ≡ Some d → slice_get ids.names k ≡ Some (own_id k d.kind)
  id-at k d e = let z : 0 + k ≡ k = omega arith in own-at 0 k all d e ∙ ap (λ n. Some (own_id n d.kind)) z

  device-back : (i : ℕ) (d : Device) → slice_get p.devices i ≡ Some d → (b : Bool) → nat_lt i (count_named p.devices) ≡ b → device_by (slice_get ids.names (if b then i else length p.funcs + (length p.objects + i))) ≡ DeviceAt (if b then i else length p.funcs + (length p.objects + i))
  device-back i d e true l = let q = named-there i (grind (arith, nat_tests, l)) in ap device_by (id-at i (device_declared q.0) q.1)
  device-back i d e false l = ap device_by (id-at (length p.funcs + (length p.objects + i)) (declared_device d) (other-there i d (grind (arith, nat_tests, l)) e))

  returns : Returns p ids read own
  returns = record {
    structures = λ i s e. ap structure_by (number-left p sound i s e);
    objects = λ i o e. let q = object-there i o e in ap object_by (id-at (first_object p + i) (object_given p q.0 o) q.1);
    devices = λ i d e. device-back i d e (nat_lt i (count_named p.devices)) refl;
    funcs = λ i f e. let q = function-there i f e in ap func_by (id-at (first_function p + i) (function_defined p q.0 f) q.1);
  }

  abbrev Anything : ℕ → Type 0
  Anything k = Unit {0}

  holds : HoldsOfNames p read Anything
  holds = record { objects = λ i o e. tt; devices = λ i d e. tt; funcs = λ i f e h. tt }

  type-left : (t : CType) → Stands p t → type_renumbered ids.structures (type_numbered read.structure t) ≡ t
  type-left t h = comes p ids.structures read.structure own.structure returns.structures t h ∙ stays t

  own-function : (i : ℕ) (f : Func) → slice_get p.funcs i ≡ Some f → IsFunc p f
  own-function i f e = all_at (IsFunc p) p.funcs i f e sound.funcs

  sig-stands : (f : Func) → IsFunc p f → is_sig p.target (extent_in p.structures p.target) f.sig ≡ true
  sig-stands f own =
      let ps = mapped-all is_plain_scalar (kind_in p) (out-Sig f.sig).params own.parameters in
      sym (ap (is_sig p.target (extent_in p.structures p.target)) (roll-out-Sig f.sig)) ∙ (sig-roll p.structures (length p.structures) p.target (out-Sig f.sig) ∙ rw (own.result, ps) refl)

  sig-left : (i : ℕ) (f : Func) → slice_get p.funcs i ≡ Some f → sig_renumbered ids.structures (sig_numbered read.structure f.sig) ≡ f.sig
  sig-left i f e = sig-back p ids.structures read.structure own.structure returns.structures f.sig (sig-stands f (own-function i f e)) ∙ sig-own f.sig

  locals-left : (i : ℕ) (f : Func) → slice_get p.funcs i ≡ Some f → (m : ℕ) (ls : List Named) → ((n : ℕ) (l : Named) → slice_get ls n ≡ Some l → slice_get f.locals (m + n) ≡ Some l) →
      all_named_in ids.structures (map (named_numbered read.structure) ls) ≡ ls
  locals-left i f e m [] h = refl
  locals-left i f e m (l ∷ ls) h =
      let z : m + 0 ≡ m = omega arith in
      let here : slice_get f.locals m ≡ Some l = ap (slice_get f.locals) (sym z) ∙ h 0 l refl in
      ap (λ (u : CType). (l.0, u) ∷ all_named_in ids.structures (map (named_numbered read.structure) ls)) (type-left l.1 (object-some (kind_in p l.1) ((types-stand p sound i f e).locals m l here)))
      ∙ ap (λ (ks : List Named). l ∷ ks) (locals-left i f e (suc m) ls (λ n k g. let y : suc m + n ≡ m + suc n = omega arith in ap (slice_get f.locals) y ∙ h (suc n) k g))

  body-left : (i : ℕ) (f : Func) → slice_get p.funcs i ≡ Some f → map (stmt_renumbered ids) (map (stmt_numbered read) f.body) ≡ map (stmt_numbered own) f.body
  body-left i f e = (body-comes p ids read own returns Anything holds f f.body (own-function i f e).body).back

  -- ---- one name

  device-left : (d : Device) → has_name d ≡ true → name_in ids (device_declared d) ≡ device_shown d
  device-left d h =
      ap (λ (t : CType). record { name = d.name; linkage = linkage.External; ctype = t; first = None; count = 0; kind = kind.Device d }) (int-stays ids.structures d.constant d.int)
      ∙ ap (λ (l : Linkage). record { name = d.name; linkage = l; ctype = record { constant = d.constant; volatile = true; shape = Int d.int }; first = None; count = 0; kind = kind.Device d }) (sym (linkage-named d.name h))

  other-left : (d : Device) → is_numbered d ≡ true → name_in ids (declared_device d) ≡ device_shown d
  other-left d h =
      ap (λ (t : CType). record { name = None; linkage = linkage.Internal; ctype = t; first = None; count = 0; kind = kind.Device d }) (int-stays ids.structures d.constant d.int)
      ∙ ap (λ (x : Option (List ℕ)). record { name = x; linkage = device_linkage x; ctype = record { constant = d.constant; volatile = true; shape = Int d.int }; first = None; count = 0; kind = kind.Device d }) (sym (no-name d.name h))

  abbrev body_with : Func → Option Entry → Sig → List Named → List Stmt → Func
  body_with f x s ls ss = record { name = f.name; sig = s; entry = x; params = f.params; locals = ls; body = ss }

  abbrev function_with : ℕ → Func → CType → Option Entry → Sig → List Named → List Stmt → UnitName
  function_with at f t x s ls ss = record { name = Some f.name; linkage = linkage.External; ctype = t; first = Some at; count = 1; kind = kind.Func x (Some (body_with f x s ls ss)) }

  function-left : (i at : ℕ) (f : Func) → slice_get p.funcs i ≡ Some f → name_in ids (function_defined p at f) ≡ function_shown p at f
  function-left i at f e =
      let locals = all_named_in ids.structures (map (named_numbered read.structure) f.locals) in
      let body = map (stmt_renumbered ids) (map (stmt_numbered read) f.body) in
      let sig = sig_renumbered ids.structures (sig_numbered read.structure f.sig) in
      ap (λ (t : CType). function_with at f t (written_entry f.entry) sig locals body) (function-type ids.structures (sig_numbered read.structure f.sig))
      ∙ ap (λ (s : Sig). function_with at f (plain (FuncShape s)) (written_entry f.entry) s locals body) (sig-left i f e)
      ∙ ap (λ (ls : List Named). function_with at f (plain (FuncShape f.sig)) (written_entry f.entry) f.sig ls body) (locals-left i f e 0 f.locals (λ n l g. let z : 0 + n ≡ n = omega arith in ap (slice_get f.locals) z ∙ g))
      ∙ ap (λ (ss : List Stmt). function_with at f (plain (FuncShape f.sig)) (written_entry f.entry) f.sig f.locals ss) (body-left i f e)

  root-same : (r : Root) → root_numbered read r ≡ root_numbered own r
  root-same (root.Static i) = refl
  root-same (root.Auto activation func local) = refl

  leaf-same : (l : Leaf) → leaf_numbered read l ≡ leaf_numbered own l
  leaf-same (leaf.Int k) = refl
  leaf-same (leaf.Place address.Null) = refl
  leaf-same (leaf.Place (address.Func f)) = refl
  leaf-same (leaf.Place (address.At object path index count)) = ap (λ (r : Root). leaf.Place (address.At r path index count)) (root-same object)

  leaves-same : (ls : List Leaf) → map (leaf_numbered read) ls ≡ map (leaf_numbered own) ls
  leaves-same [] = refl
  leaves-same (l ∷ ls) = ap (λ (k : Leaf). k ∷ map (leaf_numbered read) ls) (leaf-same l) ∙ ap (λ (ks : List Leaf). leaf_numbered own l ∷ ks) (leaves-same ls)

  stand-object : (i : ℕ) (o : Object) → slice_get p.objects i ≡ Some o → Stands p o.ctype
  stand-object i o e = object-some (kind_in p o.ctype) (tested-at (is_object p) p.objects i o sound.objects e)

  object-left : (i at : ℕ) (o : Object) → slice_get p.objects i ≡ Some o → name_in ids (object_given p at o) ≡ object_shown p at o
  object-left i at o e =
      ap (λ (t : CType). record { name = Some o.name; linkage = linkage.Internal; ctype = t; first = Some at; count = count_of true (if is_given o then 1 else 0); kind = kind.Object (map (leaf_numbered read) o.init) }) (type-left o.ctype (stand-object i o e))
      ∙ ap (λ n. record { name = Some o.name; linkage = linkage.Internal; ctype = o.ctype; first = Some at; count = n; kind = kind.Object (map (leaf_numbered read) o.init) }) (count-one (is_given o))
      ∙ ap (λ (ls : List Leaf). record { name = Some o.name; linkage = linkage.Internal; ctype = o.ctype; first = Some at; count = 1; kind = kind.Object ls }) (leaves-same o.init)

  -- ---- all of them

  devices-left : (ds : List Device) → map (name_in ids) (map device_declared (filter has_name ds)) ≡ map device_shown (filter has_name ds)
  devices-left [] = refl
  devices-left (d ∷ ds) = by (has_name d) refl (devices-left ds)
    where
      by : (b : Bool) → has_name d ≡ b → map (name_in ids) (map device_declared (filter has_name ds)) ≡ map device_shown (filter has_name ds) →
          map (name_in ids) (map device_declared (cond b (d ∷ filter has_name ds) (filter has_name ds))) ≡ map device_shown (cond b (d ∷ filter has_name ds) (filter has_name ds))
      by true h next = ap (λ (n : UnitName). n ∷ map (name_in ids) (map device_declared (filter has_name ds))) (device-left d h) ∙ ap (λ (ns : List UnitName). device_shown d ∷ ns) next
      by false h next = next

  others-left : (ds : List Device) → map (name_in ids) (map declared_device (filter is_numbered ds)) ≡ map device_shown (filter is_numbered ds)
  others-left [] = refl
  others-left (d ∷ ds) = by (is_numbered d) refl (others-left ds)
    where
      by : (b : Bool) → is_numbered d ≡ b → map (name_in ids) (map declared_device (filter is_numbered ds)) ≡ map device_shown (filter is_numbered ds) →
          map (name_in ids) (map declared_device (cond b (d ∷ filter is_numbered ds) (filter is_numbered ds))) ≡ map device_shown (cond b (d ∷ filter is_numbered ds) (filter is_numbered ds))
      by true h next = ap (λ (n : UnitName). n ∷ map (name_in ids) (map declared_device (filter is_numbered ds))) (other-left d h) ∙ ap (λ (ns : List UnitName). device_shown d ∷ ns) next
      by false h next = next

  functions-left : (k : ℕ) (ats : List ℕ) (fs : List Func) → length ats ≡ length fs → ((j : ℕ) → slice_get functions (k + j) ≡ slice_get ats j) → ((j : ℕ) (f : Func) → slice_get fs j ≡ Some f → slice_get p.funcs (k + j) ≡ Some f) →
      map (name_in ids) (placed (function_defined p) ats fs) ≡ positioned_from (λ i f. function_shown p (place_at functions i) f) k fs
  functions-left k ats [] h o e = refl
  functions-left k [] (f ∷ fs) h o e = absurd (omega (arith, h))
  functions-left k (at ∷ ats) (f ∷ fs) h o e =
      let z : k + 0 ≡ k = omega arith in
      let here : slice_get p.funcs k ≡ Some f = ap (slice_get p.funcs) (sym z) ∙ e 0 f refl in
      let own : place_at functions k ≡ at = ap (place_at functions) (sym z) ∙ ap (λ (x : Option ℕ). unwrap_or x 0) (o 0) in
      ap (λ (n : UnitName). n ∷ map (name_in ids) (placed (function_defined p) ats fs)) (function-left k at f here ∙ ap (λ a. function_shown p a f) (sym own))
      ∙ ap (λ (ns : List UnitName). function_shown p (place_at functions k) f ∷ ns)
      (functions-left (suc k) ats fs (omega (arith, h)) (λ j. let y : suc k + j ≡ k + suc j = omega arith in ap (slice_get functions) y ∙ o (suc j)) (λ j g l. let y : suc k + j ≡ k + suc j = omega arith in ap (slice_get p.funcs) y ∙ e (suc j) g l))

  objects-left : (k : ℕ) (ats : List ℕ) (os : List Object) → length ats ≡ length os → ((j : ℕ) → slice_get objects (k + j) ≡ slice_get ats j) → ((j : ℕ) (o : Object) → slice_get os j ≡ Some o → slice_get p.objects (k + j) ≡ Some o) →
      map (name_in ids) (placed (object_given p) ats os) ≡ positioned_from (λ i o. object_shown p (place_at objects i) o) k os
  objects-left k ats [] h q e = refl
  objects-left k [] (o ∷ os) h q e = absurd (omega (arith, h))
  objects-left k (at ∷ ats) (o ∷ os) h q e =
      let z : k + 0 ≡ k = omega arith in
      let here : slice_get p.objects k ≡ Some o = ap (slice_get p.objects) (sym z) ∙ e 0 o refl in
      let own : place_at objects k ≡ at = ap (place_at objects) (sym z) ∙ ap (λ (x : Option ℕ). unwrap_or x 0) (q 0) in
      ap (λ (n : UnitName). n ∷ map (name_in ids) (placed (object_given p) ats os)) (object-left k at o here ∙ ap (λ a. object_shown p a o) (sym own))
      ∙ ap (λ (ns : List UnitName). object_shown p (place_at objects k) o ∷ ns)
      (objects-left (suc k) ats os (omega (arith, h)) (λ j. let y : suc k + j ≡ k + suc j = omega arith in ap (slice_get objects) y ∙ q (suc j)) (λ j g l. let y : suc k + j ≡ k + suc j = omega arith in ap (slice_get p.objects) y ∙ e (suc j) g l))

  abbrev function_at : ℕ → ℕ
  function_at i = place_at functions i

  abbrev object_at : ℕ → ℕ
  object_at i = place_at objects i

  names-left : map (name_in ids) all ≡ names_shown p function_at object_at
  names-left =
      four-mapped (name_in ids) named defined given others
      ∙ ap (λ (ns : List UnitName). ns ++ (map (name_in ids) defined ++ (map (name_in ids) given ++ map (name_in ids) others))) (devices-left p.devices)
      ∙ ap (λ (ns : List UnitName). map device_shown (filter has_name p.devices) ++ (ns ++ (map (name_in ids) given ++ map (name_in ids) others)))
      (functions-left 0 functions p.funcs many_functions (λ j. let z : 0 + j ≡ j = omega arith in ap (slice_get functions) z) (λ j f g. let z : 0 + j ≡ j = omega arith in ap (slice_get p.funcs) z ∙ g))
      ∙ ap (λ (ns : List UnitName). map device_shown (filter has_name p.devices) ++ (positioned_from (λ i f. function_shown p (function_at i) f) 0 p.funcs ++ (ns ++ map (name_in ids) others)))
      (objects-left 0 objects p.objects many_objects (λ j. let z : 0 + j ≡ j = omega arith in ap (slice_get objects) z) (λ j o g. let z : 0 + j ≡ j = omega arith in ap (slice_get p.objects) z ∙ g))
      ∙ ap (λ (ns : List UnitName). map device_shown (filter has_name p.devices) ++ (positioned_from (λ i f. function_shown p (function_at i) f) 0 p.funcs ++ (positioned_from (λ i o. object_shown p (object_at i) o) 0 p.objects ++ ns)))
      (ap (λ (ds : List Device). map (name_in ids) (map declared_device ds)) (numbered-behind p.devices order) ∙ others-left p.devices)

  pub unit-left : unit_left last ≡ unit_shown p function_at object_at
  unit-left =
      ap (λ (ss : List UnitStructure). record { structures = ss; names = map (name_in ids) all }) (structures-left p sound ∙ same-structures p.structures)
      ∙ ap (λ (ns : List UnitName). record { structures = map structure_shown p.structures; names = ns }) names-left

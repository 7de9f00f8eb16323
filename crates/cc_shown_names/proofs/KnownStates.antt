-- What is known where all that a program names is declared, whatever first values its objects have by then.
use Rattle.std.proofs.Common.{arith, ◌≡◌, ℕ, zero, suc, ◌+◌, true, List, [], ◌∷◌, ◌++◌, map, length, Some, None, option_map, Ok, refl, ap, sym, ◌∙◌, subst, slice_get, append_assoc, length-append}
use Rattle.std.specs.List.{filter}
use Rattle.std.proofs.lemmas.List.{length-map, map-append}
use Rattle.std.proofs.lemmas.Option.{slice_get-map}
use Rattle.cc_type.specs.CcDesignators.Designators.{IsPlace, IsFunction}
use Rattle.cc_type.specs.CcObjects.Values.{object_by, object_of, objects_in}
use Rattle.cc_type.specs.CcTypedTerms.Primary.{function_by, linked_by, linked, designates, named_by, named, intrinsic_named}
use Rattle.cc_program.specs.declared.expr.Place.{Static}
use Rattle.cc_program.specs.declared.func.Func.{Func}
use Rattle.cc_program.specs.declared.object.Object.{Object}
use Rattle.cc_program.specs.declared.program.Program.{Program}
use Rattle.cc_program.specs.declared.types.Shape.TheVariants as shape_rolls
use Rattle.cc_program.specs.declared.value.Leaf.{Leaf}
use Rattle.cc_type.specs.CcScopes.Linked.{is_linked}
use Rattle.cc_type.specs.CcScopes.State.{State, Name, name_or_none, or_else}
use Rattle.cc_type.specs.CcScopes.declared.unit.Declared.{Declared}
use Rattle.cc_type.specs.CcSyntax.Names.{device_names}
use Rattle.cc_type.specs.CcSyntax.Normal.{has_name, count_named}
use Rattle.cc_type.specs.CcSyntax.Sound.{IsSound}
use Rattle.cc_type.specs.CcSyntax.Values.{object_place}
use Rattle.cc_type.specs.CcUnit.declared.unit.Linkage.TheVariants as linkage
use Rattle.cc_type.specs.CcUnit.declared.unit.UnitKind.TheVariants as kind
use Rattle.cc_shown_declarations.specs.Known.{KnowsStatics}
use Rattle.cc_shown_declarations.specs.Numbers.{leaf_numbered}
use Rattle.cc_shown_declarations.specs.Order.{appearance, structure_number}
use Rattle.cc_shown_declarations.specs.States.{first_state}
use Rattle.cc_shown_names.proofs.Changes.{stays-there}
use Rattle.cc_shown_names.proofs.Names.{mapped}
use Rattle.cc_shown_expressions.specs.Known.{KnowsStructures}
use Rattle.cc_shown_expressions.specs.Numbers.{type_numbered, sig_numbered}
use Rattle.cc_shown_names.specs.Names.{device_declared, function_declared, object_declared, object_given, placed}
use Rattle.cc_shown_names.specs.Numbers.{read_numbers}
use Rattle.cc_shown_names.specs.States.{unit_state, devices_declared, functions_declared}
use Rattle.cc_shown_names.proofs.Base.{structures-in, apart, own-name, device-keys}
use Rattle.cc_shown_names.proofs.Keys.{Distinct, second-there, func_names, object_names, unit_keys}
use Rattle.cc_shown_names.proofs.Many.{many-structures}
use Rattle.cc_shown_names.proofs.Scope.{key, keys, found-here}

-- ---- a list of what objects are declared as, one each

module _ (p : Program) where
  pub record IsObject (o : Object) (d : Declared) : Type 0 where
    pub name : d.name ≡ Some o.name
    pub linkage : d.linkage ≡ linkage.Internal
    pub ctype : d.ctype ≡ type_numbered (structure_number p) o.ctype
    pub leaves : List Leaf
    pub kind : d.kind ≡ kind.Object leaves

  pub data AreObjects : List Object → List Declared → Type 0 where
    NoObject : AreObjects [] []
    MoreObjects : (o : Object) (os : List Object) (d : Declared) (ds : List Declared) → IsObject o d → AreObjects os ds → AreObjects (o ∷ os) (d ∷ ds)

  pub objects-joined : (os ps : List Object) (ds es : List Declared) → AreObjects os ds → AreObjects ps es → AreObjects (os ++ ps) (ds ++ es)
  objects-joined _ ps _ es NoObject k = k
  objects-joined _ ps _ es (MoreObjects o os d ds i h) k = MoreObjects o (os ++ ps) d (ds ++ es) i (objects-joined os ps ds es h k)

  pub object-keys : (os : List Object) (ds : List Declared) → AreObjects os ds → keys ds ≡ map (λ (o : Object). o.name) os
  object-keys _ _ NoObject = refl
  object-keys _ _ (MoreObjects o os d ds i h) = ap (λ n. name_or_none n ∷ keys ds) i.name ∙ ap (λ ns. o.name ∷ ns) (object-keys os ds h)

  pub record ObjectThere (o : Object) (ds : List Declared) (i : ℕ) : Type 0 where
    pub declared : Declared
    pub there : slice_get ds i ≡ Some declared
    pub is : IsObject o declared

  pub object-there : (os : List Object) (ds : List Declared) → AreObjects os ds → (i : ℕ) (o : Object) → slice_get os i ≡ Some o → ObjectThere o ds i
  object-there _ _ NoObject i o h = absurd (cc)
  object-there _ _ (MoreObjects q os d ds is r) zero o h =
      let same : q ≡ o = cc in
      record { declared = d; there = refl; is = subst (λ (q : Object). IsObject q d) same is }
  object-there _ _ (MoreObjects q os d ds is r) (suc i) o h = let f = object-there os ds r i o h in record { declared = f.declared; there = f.there; is = f.is }

  -- ---- objects at the offsets of their items

  pub declared-is : (at : ℕ) (o : Object) → IsObject o (object_declared p at o)
  declared-is at o = record { name = refl; linkage = refl; ctype = refl; leaves = []; kind = refl }

  pub given-object : (at : ℕ) (o : Object) → IsObject o (object_given p at o)
  given-object at o = record { name = refl; linkage = refl; ctype = refl; leaves = map (leaf_numbered (read_numbers p)) o.init; kind = refl }

  pub placed-declared : (ats : List ℕ) (os : List Object) → length ats ≡ length os → AreObjects os (placed (object_declared p) ats os)
  placed-declared ats [] e = NoObject
  placed-declared [] (o ∷ os) e = absurd (omega (arith, e))
  placed-declared (at ∷ ats) (o ∷ os) e = MoreObjects o os (object_declared p at o) (placed (object_declared p) ats os) (declared-is at o) (placed-declared ats os (omega (arith, e)))

  pub placed-given : (ats : List ℕ) (os : List Object) → length ats ≡ length os → AreObjects os (placed (object_given p) ats os)
  placed-given ats [] e = NoObject
  placed-given [] (o ∷ os) e = absurd (omega (arith, e))
  placed-given (at ∷ ats) (o ∷ os) e = MoreObjects o os (object_given p at o) (placed (object_given p) ats os) (given-object at o) (placed-given ats os (omega (arith, e)))

  -- ---- where names stand

  pub function-keys : (fs : List Func) → keys (map (function_declared p) fs) ≡ map (λ (f : Func). f.name) fs
  function-keys [] = refl
  function-keys (f ∷ fs) = ap (λ ns. f.name ∷ ns) (function-keys fs)

  pub all-keys : (ds : List Declared) → AreObjects p.objects ds → keys (functions_declared p ++ ds) ≡ unit_keys p
  all-keys ds h =
      map-append key (functions_declared p) ds
      ∙ ap (λ ns. ns ++ keys ds) (map-append key (devices_declared p) (map (function_declared p) p.funcs) ∙ ap (λ ns. ns ++ keys (map (function_declared p) p.funcs)) (device-keys p.devices))
      ∙ ap (λ ns. (device_names p.devices ++ ns) ++ keys ds) (function-keys p.funcs) ∙ ap (λ ns. (device_names p.devices ++ func_names p) ++ ns) (object-keys p.objects ds h)
      ∙ append_assoc (device_names p.devices) (func_names p) (object_names p)

  pub count-devices : length (devices_declared p) ≡ count_named p.devices
  count-devices = length-map (filter has_name p.devices) device_declared

  pub count-functions : length (functions_declared p) ≡ count_named p.devices + length p.funcs
  count-functions =
      length-append (devices_declared p) (map (function_declared p) p.funcs) ∙ ap (λ m. m + length (map (function_declared p) p.funcs)) count-devices
      ∙ ap (λ m. count_named p.devices + m) (length-map p.funcs (function_declared p))

  pub function-there : (ds : List Declared) (i : ℕ) (g : Func) → slice_get p.funcs i ≡ Some g → slice_get (functions_declared p ++ ds) ((read_numbers p).func i) ≡ Some (function_declared p g)
  function-there ds i g h =
      let n = count-devices in
      let m : (read_numbers p).func i ≡ length (devices_declared p) + i = omega (arith, n) in
      stays-there (functions_declared p) ds ((read_numbers p).func i) (function_declared p g)
      (second-there (devices_declared p) (map (function_declared p) p.funcs) ((read_numbers p).func i) i m ∙ slice_get-map (function_declared p) p.funcs i ∙ ap (option_map (function_declared p)) h)

  pub objects-behind : (ds : List Declared) (i : ℕ) → slice_get (functions_declared p ++ ds) ((read_numbers p).object i) ≡ slice_get ds i
  objects-behind ds i =
      let n = count-functions in
      let m : (read_numbers p).object i ≡ length (functions_declared p) + i = omega (arith, n) in
      second-there (functions_declared p) ds ((read_numbers p).object i) i m

  pub func-key : (i : ℕ) (g : Func) → slice_get p.funcs i ≡ Some g → slice_get (unit_keys p) (length (device_names p.devices) + i) ≡ Some g.name
  func-key i g h =
      second-there (device_names p.devices) (func_names p ++ object_names p) (length (device_names p.devices) + i) i refl
      ∙ stays-there (func_names p) (object_names p) i g.name (mapped (λ (g : Func). g.name) p.funcs i g h)

  pub object-key : (i : ℕ) (o : Object) → slice_get p.objects i ≡ Some o → slice_get (unit_keys p) (length (device_names p.devices) + (length (func_names p) + i)) ≡ Some o.name
  object-key i o h =
      second-there (device_names p.devices) (func_names p ++ object_names p) (length (device_names p.devices) + (length (func_names p) + i)) (length (func_names p) + i) refl
      ∙ second-there (func_names p) (object_names p) (length (func_names p) + i) i refl ∙ mapped (λ (o : Object). o.name) p.objects i o h

-- ---- what names designate

module _ (p : Program) (names : List Declared) (k : ℕ) (d : Declared) (x : Name) (apart : Distinct (keys names)) (there : slice_get names k ≡ Some d) (called : d.name ≡ Some x) (links : is_linked d.linkage ≡ true) (own : intrinsic_named p.roles x ≡ None) where
  pub names-it : (at : ℕ) → named p.roles at x (unit_state p names) ≡ linked_by k d.ctype d.kind
  names-it at =
      ap (λ i. named_by at x (unit_state p names) i) own
      ∙ ap (λ o. designates (unit_state p names) (or_else o None)) (found-here p names k d x apart there called links)
      ∙ ap (λ o. linked k o) there

module _ (p : Program) (sound : IsSound p) (known : KnowsStructures p (structure_number p) (first_state p (length p.structures) (appearance p))) (ds : List Declared) (objects : AreObjects p p.objects ds) where
  abbrev pub names_known : List Declared
  names_known = functions_declared p ++ ds

  abbrev pub here : State
  here = unit_state p names_known

  pub apart-here : Distinct (keys names_known)
  apart-here = subst Distinct (sym (all-keys p ds objects)) (apart p sound)

  pub function-named : (i : ℕ) (g : Func) → slice_get p.funcs i ≡ Some g → (at : ℕ) → named p.roles at g.name here ≡ Ok (IsFunction ((read_numbers p).func i) (sig_numbered (structure_number p) g.sig))
  function-named i g h at =
      names-it p names_known ((read_numbers p).func i) (function_declared p g) g.name apart-here (function-there p ds i g h) refl refl (own-name p sound (length (device_names p.devices) + i) g.name (func-key p i g h)) at
      ∙ ap (function_by ((read_numbers p).func i)) (shape_rolls.outs-Func (sig_numbered (structure_number p) g.sig))

  object-linked : (o : Object) (d : Declared) → IsObject p o d → is_linked d.linkage ≡ true
  object-linked o d is = ap is_linked is.linkage

  object-is : (k : ℕ) (o : Object) (d : Declared) → IsObject p o d → linked_by k d.ctype d.kind ≡ Ok (IsPlace (Static k) (object_place (type_numbered (structure_number p) o.ctype)))
  object-is k o d is = ap (linked_by k d.ctype) is.kind ∙ ap (λ t. Ok (IsPlace (Static k) (object_place t))) is.ctype

  pub object-named : (i : ℕ) (o : Object) → slice_get p.objects i ≡ Some o → (at : ℕ) → named p.roles at o.name here ≡ Ok (IsPlace (Static ((read_numbers p).object i)) (object_place (type_numbered (structure_number p) o.ctype)))
  object-named i o h at =
      let q = object-there p p.objects ds objects i o h in
      names-it p names_known ((read_numbers p).object i) q.declared o.name apart-here (objects-behind p ds i ∙ q.there) q.is.name (object-linked o q.declared q.is)
      (own-name p sound (length (device_names p.devices) + (length (func_names p) + i)) o.name (object-key p i o h)) at
      ∙ object-is ((read_numbers p).object i) o q.declared q.is

  object-type : (i : ℕ) (o : Object) → slice_get p.objects i ≡ Some o → objects_in here ((read_numbers p).object i) ≡ Some (type_numbered (structure_number p) o.ctype)
  object-type i o h =
      let q = object-there p p.objects ds objects i o h in
      ap object_of (objects-behind p ds i ∙ q.there) ∙ ap (object_by q.declared.ctype) q.is.kind ∙ ap (λ t. Some t) q.is.ctype

  pub statics : KnowsStatics p (read_numbers p) here
  statics = record {
    structures = structures-in p known names_known;
    many = many-structures p sound names_known;
    objects = object-named;
    types = object-type;
    funcs = function-named;
  }

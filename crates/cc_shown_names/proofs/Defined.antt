-- No object that a unit defines has the name of a device: each item but a device's declares another name, and a device is not
-- defined.
use Rattle.std.proofs.Common.{◌≡◌, ℕ, zero, suc, ◌+◌, Bool, true, false, ◌||◌, List, [], ◌∷◌, ◌++◌, map, length, Option, Some, None, refl, ap, sym, ◌∙◌, slice_get, option_to_list}
use Rattle.std.specs.Prelude.{if◌then◌else◌}
use Rattle.std.specs.List.{list_any, filter, flat_map}
use Rattle.std.specs.Str.{bytes_eq}
use Rattle.std.proofs.lemmas.List.Folds.{list_any-append}
use Rattle.cc_bodies.specs.Stmts.{intrinsic_name}
use Rattle.cc_expression_trees.specs.Types.{Core, Plain, Function, unnamed, Declares, ShowsWords, NoWord, MoreWords}
use Rattle.cc_expression_trees.proofs.Insides.{core_name, core-named}
use Rattle.cc_expression_trees.specs.Constants.{qualified}
use Rattle.cc_type.specs.CcObjects.Categories.{storage_class, storage_in, is_given}
use Rattle.cc_program.specs.declared.expr.Intr.{Intr}
use Rattle.cc_program.specs.declared.expr.Intr.TheVariants as intr
use Rattle.cc_program.specs.declared.func.Func.{Func}
use Rattle.cc_program.specs.declared.object.Device.{Device}
use Rattle.cc_program.specs.declared.object.Object.{Object}
use Rattle.cc_program.specs.declared.program.Program.{Program}
use Rattle.cc_program.specs.declared.types.CType.{CType}
use Rattle.cc_program.specs.declared.types.Shape.TheOpen as shape
use Rattle.cc_program.specs.declared.types.Sig.{out-Sig}
use Rattle.cc_program.specs.declared.types.Structure.{Structure}
use Rattle.cc_program.proofs.Each.{Each, each_of}
use Rattle.cc_type.specs.CcScopes.State.{Name, or_else}
use Rattle.cc_type.specs.CcSyntax.Names.{with_name, device_names, intrinsic_names}
use Rattle.cc_type.specs.CcSyntax.Normal.{has_name}
use Rattle.cc_type.specs.CcSyntax.Sound.{IsSound}
use Rattle.cc_tree.specs.declared.at.At.{At}
use Rattle.cc_tree.specs.declared.tree.Declr.{Declr}
use Rattle.cc_tree.specs.declared.tree.Spec as spec
use Rattle.cc_tree.specs.declared.tree.Spec.{Spec}
use Rattle.cc_tree.specs.declared.unit.Decl.{Decl}
use Rattle.cc_tree.specs.declared.unit.Given.{Given}
use Rattle.cc_tree.specs.declared.unit.Init.{Init}
use Rattle.cc_tree.specs.declared.unit.Item.{Item}
use Rattle.cc_tree.specs.declared.unit.Item.TheVariants as item
use Rattle.cc_type.specs.Defined.{name_in, given_in, defined_with, defined_by}
use Rattle.cc_unit_trees.specs.Externals.{External, AnIntrinsic, ATag, AStructure, ADevice, APrototype, AnObject, AValue, AFunction, intrinsics_used, announced, is_given as has_values, externals}
use Rattle.cc_unit_trees.specs.Items.{intrinsic_result, intrinsic_parameters, AnIntrinsic as AnIntrinsicItem, ShowsTag, ATag as ATagItem, OnlyNamed, WithMembers, ShowsDevice, ADevice as ADeviceItem, APrototype as APrototypeItem, AnObject as AnObjectItem, ADefinition}
use Rattle.cc_unit_trees.specs.Programs.{ShowsExternal, ShowsExternals, NoExternal, MoreExternals}
use Rattle.cc_unit_trees.specs.Units.{ShowsDecl, ShowsOne, ShowsDefinition as ADefinedFunction}
use Rattle.cc_unit_trees.proofs.Each.{each-append, each-mapped, each-passing}
use Rattle.cc_unit_trees.proofs.Lists.{each-from}
use Rattle.cc_program.specs.CcWords.declared.word.Word.{Word}
use Rattle.cc_program.specs.CcWords.declared.word.Word.TheVariants as w
use Rattle.cc_shown_names.proofs.Changes.{stays-there}
use Rattle.cc_shown_names.proofs.Names.{mapped}
use Rattle.cc_shown_names.proofs.Base.{apart}
use Rattle.cc_shown_names.proofs.Keys.{parts-apart, second-there, func_names, object_names, keys-own}
use Rattle.cc_shown_names.proofs.Leads.{word-storage}
use Rattle.cc_shown_names.proofs.One.{init_of, decl_of}

module _ (x : Name) where
  abbrev Free : List Name → Type 0
  Free ns = list_any (bytes_eq x) ns ≡ false

  both-free : (xs ys : List Name) → Free xs → Free ys → Free (xs ++ ys)
  both-free xs ys h k = list_any-append (bytes_eq x) xs ys ∙ ap (λ b. b || list_any (bytes_eq x) ys) h ∙ k

  -- ---- a declaration of one thing

  free-if : (b : Bool) (ns : List Name) → Free ns → Free (if b then ns else [])
  free-if true ns h = h
  free-if false ns h = refl

  free-with : (o : Option Word) (i : At Init) → Free (name_in i) → Free (defined_with o (i ∷ []))
  free-with (Some w.Typedef) i h = refl
  free-with (Some w.Extern) i h = both-free (given_in i) [] (free-if (is_given i) (name_in i) h) refl
  free-with None i h = both-free (name_in i) [] h refl
  free-with (Some y) i h = both-free (name_in i) [] h refl

  nothing-with : (o : Option Word) → Free (defined_with o [])
  nothing-with (Some w.Typedef) = refl
  nothing-with (Some w.Extern) = refl
  nothing-with None = refl
  nothing-with (Some y) = refl

  free-named : (structures : List Structure) (ss : List (At Spec)) (d : At Declr) (at : ℕ) (value : Option (At Given)) (b t : CType) (core : Core) (y : Name) → Declares structures b d.node core t → core_name core ≡ Some y → bytes_eq x y ≡ false →
      Free (defined_by (item.Decl (decl_of ss d at value)))
  free-named structures ss d at value b t core y h e k =
      free-with (storage_in ss) (init_of d at value)
      (ap (λ (o : Option Name). list_any (bytes_eq x) (option_to_list o)) (core-named structures h ∙ e) ∙ ap (λ b. b || false) k)

  free-decl : (structures : List Structure) (lead : List Word) (t : CType) (core : Core) (y : Name) (c : Decl) → ShowsDecl structures lead core t c → core_name core ≡ Some y → bytes_eq x y ≡ false → Free (defined_by (item.Decl c))
  free-decl structures lead t core y _ (ShowsOne b qs ss d at words base h) e k = free-named structures (qs ++ ss) d at None b t core y h e k

  -- ---- an item of each kind

  module _ (p : Program) where
    abbrev FreeOf : External → Type 0
    FreeOf (AnIntrinsic i) = bytes_eq x (intrinsic_name p.roles i) ≡ false
    FreeOf (ATag s) = Unit {0}
    FreeOf (AStructure s) = Unit {0}
    FreeOf (ADevice d) = Unit {0}
    FreeOf (APrototype f) = bytes_eq x f.name ≡ false
    FreeOf (AnObject o) = bytes_eq x o.name ≡ false
    FreeOf (AValue o) = bytes_eq x o.name ≡ false
    FreeOf (AFunction f) = Unit {0}

    free-tag : (s : Structure) (c : Item) → ShowsTag s c → Free (defined_by c)
    free-tag s _ (ATagItem at) = nothing-with (storage_in (record { at = at; node = spec.Struct (Some s.tag) None [] [] } ∷ []))

    extern-words : (xs : List Word) (qs ss : List (At Spec)) → ShowsWords xs qs → xs ≡ w.Extern ∷ [] → storage_in (qs ++ ss) ≡ Some w.Extern
    extern-words _ _ ss NoWord e = absurd (cc)
    extern-words _ _ ss (MoreWords y xs i qs r) e = let same : y ≡ w.Extern = cc in word-storage y i (qs ++ ss) ∙ ap (λ y. or_else (storage_class y) (storage_in (qs ++ ss))) same

    extern-free : (core : Core) (t : CType) (c : Decl) → ShowsDecl p.structures (w.Extern ∷ []) core t c → Free (defined_by (item.Decl c))
    extern-free core t _ (ShowsOne b qs ss d at words base h) = ap (λ o. list_any (bytes_eq x) (defined_with o (init_of d at None ∷ []))) (extern-words (w.Extern ∷ []) qs ss words refl)

    free-device : (d : Device) (c : Item) → ShowsDevice p d c → Free (defined_by c)
    free-device d _ (ADeviceItem y c e h) = extern-free (Plain (Some y)) (qualified d.constant true (shape.Int d.int)) c h

    free-one : (e : External) (c : Item) → ShowsExternal p e c → FreeOf e → Free (defined_by c)
    free-one (AnIntrinsic i) _ (AnIntrinsicItem c h) k = free-decl p.structures [] (intrinsic_result i) (Function (intrinsic_name p.roles i) (unnamed (intrinsic_parameters i))) (intrinsic_name p.roles i) c h refl k
    free-one (ATag s) c h k = free-tag s c h
    free-one (AStructure s) _ (OnlyNamed c e h) k = free-tag s c h
    free-one (AStructure s) _ (WithMembers l ls at ms e h) k = nothing-with (storage_in (record { at = at; node = spec.Struct (Some s.tag) (Some ms) [] [] } ∷ []))
    free-one (ADevice d) c h k = free-device d c h
    free-one (APrototype f) _ (APrototypeItem b qs ss d at e s h) k = free-named p.structures (qs ++ ss) d at None b (out-Sig f.sig).result (Function f.name (unnamed (out-Sig f.sig).params)) f.name h refl k
    free-one (AnObject o) _ (AnObjectItem c h) k = free-decl p.structures (w.Static ∷ []) o.ctype (Plain (Some o.name)) o.name c h refl k
    free-one (AValue o) _ (ADefinition b qs ss d g at words s h v) k = free-named p.structures (qs ++ ss) d at (Some g) b o.ctype (Plain (Some o.name)) o.name h refl k
    free-one (AFunction f) _ (ADefinedFunction b ss d xs ys s h l m) k = refl

    free-all : (es : List External) (cs : List (At Item)) → ShowsExternals p es cs → Each FreeOf es → Free (flat_map (λ (i : At Item). defined_by i.node) cs)
    free-all _ _ NoExternal k = refl
    free-all _ _ (MoreExternals e es c cs h r) k = both-free (defined_by c.node) (flat_map (λ (i : At Item). defined_by i.node) cs) (free-one e c.node h k.0) (free-all es cs r k.1)

-- ---- a device's name

abbrev index_of : Intr → ℕ
index_of intr.Off = 0
index_of intr.On = 1
index_of intr.Save = 2
index_of intr.Restore = 3

module _ (p : Program) (sound : IsSound p) (i : ℕ) (x : Name) (at : slice_get (device_names p.devices) i ≡ Some x) where
  behind-devices : (j : ℕ) (y : Name) → slice_get (func_names p ++ object_names p) j ≡ Some y → bytes_eq x y ≡ false
  behind-devices j y h = parts-apart (device_names p.devices) (func_names p ++ object_names p) (apart p sound) i j x y at h

  no-function : (j : ℕ) (f : Func) → slice_get p.funcs j ≡ Some f → bytes_eq x f.name ≡ false
  no-function j f h = behind-devices j f.name (stays-there (func_names p) (object_names p) j f.name (mapped (λ (f : Func). f.name) p.funcs j f h))

  no-object : (j : ℕ) (o : Object) → slice_get p.objects j ≡ Some o → bytes_eq x o.name ≡ false
  no-object j o h =
      behind-devices (length (func_names p) + j) o.name (second-there (func_names p) (object_names p) (length (func_names p) + j) j refl ∙ mapped (λ (o : Object). o.name) p.objects j o h)

  intrinsic-there : (k : Intr) → slice_get (intrinsic_names p.roles) (index_of k) ≡ Some (intrinsic_name p.roles k)
  intrinsic-there intr.Off = refl
  intrinsic-there intr.On = refl
  intrinsic-there intr.Save = refl
  intrinsic-there intr.Restore = refl

  no-intrinsic : (k : Intr) → bytes_eq x (intrinsic_name p.roles k) ≡ false
  no-intrinsic k = keys-own p sound.names i (index_of k) x (intrinsic_name p.roles k) (stays-there (device_names p.devices) (func_names p ++ object_names p) i x at) (intrinsic-there k)

  abbrev Others : List External → Type 0
  Others es = Each (FreeOf x p) es

  all-others : Others (externals p)
  all-others =
      let values : Others (map AValue (filter has_values p.objects)) = each-mapped (FreeOf x p) AValue (filter has_values p.objects) (each-passing (λ (o : Object). bytes_eq x o.name ≡ false) has_values p.objects (each-from (λ (o : Object). has_values o ≡ true → bytes_eq x o.name ≡ false) p.objects (λ j o h k. no-object j o h))) in
      let functions : Others (map AFunction p.funcs) = each-mapped (FreeOf x p) AFunction p.funcs (each_of (λ f. Unit {0}) (λ f. tt) p.funcs) in
      let objects : Others (map AnObject p.objects) = each-mapped (FreeOf x p) AnObject p.objects (each-from (λ (o : Object). bytes_eq x o.name ≡ false) p.objects no-object) in
      let prototypes : Others (map APrototype p.funcs) = each-mapped (FreeOf x p) APrototype p.funcs (each-from (λ (f : Func). bytes_eq x f.name ≡ false) p.funcs no-function) in
      let devices : Others (map ADevice (filter has_name p.devices)) = each-mapped (FreeOf x p) ADevice (filter has_name p.devices) (each_of (λ d. Unit {0}) (λ d. tt) (filter has_name p.devices)) in
      let structures : Others (map AStructure p.structures) = each-mapped (FreeOf x p) AStructure p.structures (each_of (λ s. Unit {0}) (λ s. tt) p.structures) in
      let tags : Others (map ATag (announced p.structures 0 p.structures)) = each-mapped (FreeOf x p) ATag (announced p.structures 0 p.structures) (each_of (λ s. Unit {0}) (λ s. tt) (announced p.structures 0 p.structures)) in
      let intrinsics : Others (map AnIntrinsic (intrinsics_used p)) = each-mapped (FreeOf x p) AnIntrinsic (intrinsics_used p) (each_of (λ k. bytes_eq x (intrinsic_name p.roles k) ≡ false) no-intrinsic (intrinsics_used p)) in
      let g1 = each-append (FreeOf x p) (map AValue (filter has_values p.objects)) (map AFunction p.funcs) values functions in
      let g2 = each-append (FreeOf x p) (map AnObject p.objects) (map AValue (filter has_values p.objects) ++ map AFunction p.funcs) objects g1 in
      let g3 = each-append (FreeOf x p) (map APrototype p.funcs) (map AnObject p.objects ++ (map AValue (filter has_values p.objects) ++ map AFunction p.funcs)) prototypes g2 in
      let g4 = each-append (FreeOf x p) (map ADevice (filter has_name p.devices)) (map APrototype p.funcs ++ (map AnObject p.objects ++ (map AValue (filter has_values p.objects) ++ map AFunction p.funcs))) devices g3 in
      let g5 = each-append (FreeOf x p) (map AStructure p.structures) (map ADevice (filter has_name p.devices) ++ (map APrototype p.funcs ++ (map AnObject p.objects ++ (map AValue (filter has_values p.objects) ++ map AFunction p.funcs)))) structures g4 in
      let g6 = each-append (FreeOf x p) (map ATag (announced p.structures 0 p.structures)) (map AStructure p.structures ++ (map ADevice (filter has_name p.devices) ++ (map APrototype p.funcs ++ (map AnObject p.objects ++ (map AValue (filter has_values p.objects) ++ map AFunction p.funcs))))) tags g5 in
      each-append (FreeOf x p) (map AnIntrinsic (intrinsics_used p)) (map ATag (announced p.structures 0 p.structures) ++ (map AStructure p.structures ++ (map ADevice (filter has_name p.devices) ++ (map APrototype p.funcs ++ (map AnObject p.objects ++ (map AValue (filter has_values p.objects) ++ map AFunction p.funcs)))))) intrinsics g6

  pub not-defined : (cs : List (At Item)) → ShowsExternals p (externals p) cs → list_any (bytes_eq x) (flat_map (λ (i : At Item). defined_by i.node) cs) ≡ false
  not-defined cs h = free-all x p (externals p) cs h all-others

-- where a named device stands among the names of devices
device-by : (d e : Device) (ds : List Device) (o : Option Name) (x : Name) → d.name ≡ o → d ≡ e → e.name ≡ Some x → (i : ℕ) × (slice_get (with_name d.name (device_names ds)) i ≡ Some x)
device-by d e ds None x h same k = absurd (let g : None ≡ Some x = sym h ∙ ap (λ (d : Device). d.name) same ∙ k in cc)
device-by d e ds (Some y) x h same k = (0, ap (λ o. slice_get (with_name o (device_names ds)) 0) (ap (λ (d : Device). d.name) same ∙ k))

behind-one : (d : Device) (ds : List Device) (o : Option Name) (x : Name) → d.name ≡ o → (i : ℕ) × (slice_get (device_names ds) i ≡ Some x) → (i : ℕ) × (slice_get (with_name d.name (device_names ds)) i ≡ Some x)
behind-one d ds None x h q = (q.0, ap (λ o. slice_get (with_name o (device_names ds)) q.0) h ∙ q.1)
behind-one d ds (Some y) x h q = (suc q.0, ap (λ o. slice_get (with_name o (device_names ds)) (suc q.0)) h ∙ q.1)

pub device-name-at : (ds : List Device) (j : ℕ) (d : Device) (x : Name) → slice_get ds j ≡ Some d → d.name ≡ Some x → (i : ℕ) × (slice_get (device_names ds) i ≡ Some x)
device-name-at [] j d x h k = absurd (cc)
device-name-at (c ∷ ds) zero d x h k = let same : c ≡ d = cc in device-by c d ds c.name x refl same k
device-name-at (c ∷ ds) (suc j) d x h k = behind-one c ds c.name x refl (device-name-at ds j d x h k)

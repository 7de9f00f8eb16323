-- Each external declaration of a normal program's text is read as an item that shows it, and its pieces part.
use Rattle.std.proofs.Common.{◌≡◌, ℕ, true, false, not, List, ◌++◌, map, Option, Some, None, refl, sym, subst, slice_get}
use Rattle.std.specs.List.{filter}
use Rattle.std.specs.Option.{is_none}
use Rattle.cc_program.specs.CcWords.Names.{is_name}
use Rattle.cc_bodies.specs.Stmts.{intrinsic_name}
use Rattle.cc_unit_trees.specs.Externals.{External, AnIntrinsic, ATag, AStructure, ADevice, APrototype, AnObject, AValue, AFunction, intrinsics_used, announced, is_given, externals, external_text}
use Rattle.cc_unit_trees.proofs.Lists.{each-from}
use Rattle.cc_unit_trees.proofs.FitNames.{tag-named, member-named, mapped-at, device-named, file-names, intrinsic-named, names-of}
use Rattle.cc_unit_trees.proofs.FitPrograms.{device-number, object-at, function-at, body-at}
use Rattle.cc_unit_trees.specs.ReadFunctions.{ReadsItem}
use Rattle.cc_unit_trees.proofs.FunctionFitting.{function-fits}
use Rattle.cc_unit_trees.proofs.Functions.{function-read}
use Rattle.cc_unit_trees.proofs.Sound.{result-reads, parameters-known, locals-known}
use Rattle.cc_unit_trees.specs.Items.{ShowsDevice}
use Rattle.cc_unit_trees.proofs.Items.{intrinsic-reads, tag-reads, structure-reads, device-reads, prototype-reads, object-reads, definition-reads, intrinsic-fits, tag-fits, structure-fits, device-fits, prototype-fits, object-fits, definition-fits}
use Rattle.cc_unit_trees.specs.ValueNames.{HasUnitNames}
use Rattle.cc_pieces.specs.Pieces.{Pieces}
use Rattle.cc_expression_trees.specs.Parts.{Fits}
use Rattle.cc_print.specs.Units.{device_named}
use Rattle.cc_program.specs.declared.expr.Intr.{Intr}
use Rattle.cc_program.specs.declared.func.Func.{Func}
use Rattle.cc_program.specs.declared.object.Device.{Device}
use Rattle.cc_program.specs.declared.object.Object.{Object}
use Rattle.cc_program.specs.declared.program.Program.{Program}
use Rattle.cc_program.specs.declared.types.Sig.{out-Sig}
use Rattle.cc_program.specs.declared.types.Structure.{Structure}
use Rattle.cc_program.proofs.Each.{Each, each_of}
use Rattle.cc_unit_trees.proofs.Lines.{body-reads}
use Rattle.cc_typed.specs.CcSyntax.Normal.{IsNormal, has_name}
use Rattle.cc_unit_trees.specs.Programs.{ShowsExternal}
use Rattle.cc_unit_trees.proofs.Each.{each-append, each-mapped, each-passing, each-announced}

-- what holds of an external declaration
pub record Stands (p : Program) (e : External) : Type 0 where
  pub reads : (at : ℕ) (ps : Pieces) → ReadsItem (ShowsExternal p e) at (external_text p e ps) ps
  pub fits : (ps : Pieces) → Fits ps → Fits (external_text p e ps)

name-there : (o : Option (List ℕ)) → not (is_none o) ≡ true → (x : List ℕ) × (o ≡ Some x)
name-there None h = absurd (cc)
name-there (Some x) h = (x, refl)

module _ (p : Program) (h : IsNormal p) where
  pub names : HasUnitNames p
  names = record {
    objects = λ i o e. mapped-at (λ (o : Object). o.name) p.objects (file-names p h.sound).objects i o e;
    funcs = λ i f e. mapped-at (λ (f : Func). f.name) p.funcs (file-names p h.sound).funcs i f e;
    devices = λ i d x e k. device-named p.devices (file-names p h.sound).devices i d x e k;
    tags = tag-named p h.sound;
    members = member-named p h.sound;
  }

  acts : (i : Intr) → is_name (intrinsic_name p.roles i) ≡ true
  acts i = intrinsic-named p.roles (file-names p h.sound).intrinsics i

  an-intrinsic : (i : Intr) → Stands p (AnIntrinsic i)
  an-intrinsic i = record { reads = intrinsic-reads p i; fits = intrinsic-fits p i (acts i) }

  a-tag : (i : ℕ) (s : Structure) → slice_get p.structures i ≡ Some s → Stands p (ATag s)
  a-tag i s e = record { reads = tag-reads s; fits = tag-fits s (names.tags i s e) }

  a-structure : (i : ℕ) (s : Structure) → slice_get p.structures i ≡ Some s → Stands p (AStructure s)
  a-structure i s e = record { reads = structure-reads p h.sound i s e; fits = structure-fits p h.sound names i s e }

  a-device : (i : ℕ) (d : Device) → slice_get p.devices i ≡ Some d → has_name d ≡ true → Stands p (ADevice d)
  a-device i d e k =
      let n = name-there d.name k in
      record {
        reads = λ at ps. subst (λ o. ReadsItem (ShowsDevice p d) at (device_named d o ps) ps) (sym n.1) (device-reads p d n.0 n.1 at ps);
        fits = λ ps f. subst (λ o. Fits (device_named d o ps)) (sym n.1) (device-fits d n.0 (names.devices i d n.0 e n.1) ps f);
      }

  a-prototype : (i : ℕ) (f : Func) → slice_get p.funcs i ≡ Some f → Stands p (APrototype f)
  a-prototype i f e = record { reads = prototype-reads p f (function-at p h i f e); fits = prototype-fits p names f (names.funcs i f e) (function-at p h i f e) }

  an-object : (i : ℕ) (o : Object) → slice_get p.objects i ≡ Some o → Stands p (AnObject o)
  an-object i o e = record { reads = object-reads p o (object-at p h i o e); fits = object-fits p names i o e (object-at p h i o e) }

  a-value : (i : ℕ) (o : Object) → slice_get p.objects i ≡ Some o → Stands p (AValue o)
  a-value i o e = record { reads = definition-reads p h.sound i o e; fits = definition-fits p h.sound names i o e }

  a-function : (i : ℕ) (f : Func) → slice_get p.funcs i ≡ Some f → Stands p (AFunction f)
  a-function i f e =
      let k = function-at p h i f e in
      let n = body-at p h i f e in
      record {
        reads = function-read p f (result-reads p (out-Sig f.sig).result k.result) (parameters-known p f.params f.locals k.locals) (locals-known p f.params f.locals k.locals) (body-reads p f f.body false false n k.body 1);
        fits = function-fits p names.tags (device-number p h) acts f (names-of p h.sound f k) (names.funcs i f e) k n;
      }

  pub each-stands : Each (Stands p) (externals p)
  each-stands =
      let funcs = each-mapped (Stands p) AFunction p.funcs (each-from (λ f. Stands p (AFunction f)) p.funcs a-function) in
      let values = each-append (Stands p) (map AValue (filter is_given p.objects)) (map AFunction p.funcs)
      (each-mapped (Stands p) AValue (filter is_given p.objects) (each-passing (λ o. Stands p (AValue o)) is_given p.objects (each-from (λ o. is_given o ≡ true → Stands p (AValue o)) p.objects (λ i o e k. a-value i o e)))) funcs in
      let objects = each-append (Stands p) (map AnObject p.objects) (map AValue (filter is_given p.objects) ++ map AFunction p.funcs)
      (each-mapped (Stands p) AnObject p.objects (each-from (λ o. Stands p (AnObject o)) p.objects an-object)) values in
      let prototypes = each-append (Stands p) (map APrototype p.funcs) (map AnObject p.objects ++ (map AValue (filter is_given p.objects) ++ map AFunction p.funcs))
      (each-mapped (Stands p) APrototype p.funcs (each-from (λ f. Stands p (APrototype f)) p.funcs a-prototype)) objects in
      let devices = each-append (Stands p) (map ADevice (filter has_name p.devices)) (map APrototype p.funcs ++ (map AnObject p.objects ++ (map AValue (filter is_given p.objects) ++ map AFunction p.funcs)))
      (each-mapped (Stands p) ADevice (filter has_name p.devices) (each-passing (λ d. Stands p (ADevice d)) has_name p.devices (each-from (λ d. has_name d ≡ true → Stands p (ADevice d)) p.devices a-device))) prototypes in
      let structures = each-append (Stands p) (map AStructure p.structures) (map ADevice (filter has_name p.devices) ++ (map APrototype p.funcs ++ (map AnObject p.objects ++ (map AValue (filter is_given p.objects) ++ map AFunction p.funcs))))
      (each-mapped (Stands p) AStructure p.structures (each-from (λ s. Stands p (AStructure s)) p.structures a-structure)) devices in
      let tags = each-append (Stands p) (map ATag (announced p.structures 0 p.structures)) (map AStructure p.structures ++ (map ADevice (filter has_name p.devices) ++ (map APrototype p.funcs ++ (map AnObject p.objects ++ (map AValue (filter is_given p.objects) ++ map AFunction p.funcs)))))
      (each-mapped (Stands p) ATag (announced p.structures 0 p.structures) (each-announced (λ s. Stands p (ATag s)) p.structures 0 p.structures (each-from (λ s. Stands p (ATag s)) p.structures a-tag))) structures in
      each-append (Stands p) (map AnIntrinsic (intrinsics_used p)) (map ATag (announced p.structures 0 p.structures) ++ (map AStructure p.structures ++ (map ADevice (filter has_name p.devices) ++ (map APrototype p.funcs ++ (map AnObject p.objects ++ (map AValue (filter is_given p.objects) ++ map AFunction p.funcs))))))
      (each-mapped (Stands p) AnIntrinsic (intrinsics_used p) (each_of (λ i. Stands p (AnIntrinsic i)) an-intrinsic (intrinsics_used p))) tags

-- A tree that shows a program declares what the program's text does.
use Rattle.std.proofs.Common.{◌≡◌, List, [], ◌∷◌, map, Some, None, refl, ap, sym, ◌∙◌}
use Rattle.cc_bodies.specs.Stmts.{intrinsic_name}
use Rattle.cc_unit_trees.specs.Externals.{External, AnIntrinsic, ATag, AStructure, ADevice, APrototype, AnObject, AValue, AFunction}
use Rattle.cc_unit_trees.specs.Units.{ShowsDecl, ShowsOne, ShowsFunction, ShowsDefinition as ADefinedFunction}
use Rattle.cc_unit_trees.specs.Items.{ShowsIntrinsic, AnIntrinsic as AnIntrinsicItem, ShowsTag, ATag as ATagItem, ShowsStructure, OnlyNamed, WithMembers, ShowsDevice, ADevice as ADeviceItem, ShowsPrototype, APrototype as APrototypeItem, ShowsObject, AnObject as AnObjectItem, ShowsDefinition, ADefinition}
use Rattle.cc_program.specs.declared.expr.Intr.{Intr}
use Rattle.cc_program.specs.declared.func.Func.{Func}
use Rattle.cc_program.specs.declared.object.Device.{Device}
use Rattle.cc_program.specs.declared.object.Object.{Object}
use Rattle.cc_program.specs.declared.program.Program.{Program}
use Rattle.cc_program.specs.declared.types.CType.{CType}
use Rattle.cc_program.specs.declared.types.Structure.{Structure}
use Rattle.cc_tree.specs.declared.at.At.{At}
use Rattle.cc_tree.specs.declared.tree.Spec.TheVariants as spec_rolls
use Rattle.cc_tree.specs.declared.unit.Decl.{Decl}
use Rattle.cc_tree.specs.declared.unit.Item.{Item}
use Rattle.cc_tree.specs.declared.unit.Item.TheVariants as item
use Rattle.cc_expression_trees.specs.Types.{Core}
use Rattle.cc_expression_trees.proofs.Insides.{core_name, core-named}
use Rattle.cc_program.specs.CcWords.declared.word.Word.{Word}
use Rattle.cc_unit_trees.specs.Names.{tag_at, declared, name_in}
use Rattle.cc_unit_trees.specs.Programs.{ShowsExternal, ShowsExternals, NoExternal, MoreExternals}

alone : {A : Type 0} {x y : A} → x ≡ y → x ∷ [] ≡ y ∷ []
alone h = ap (λ z. z ∷ []) h

module _ (p : Program) where
  decl-declares : {lead : List Word} {core : Core} {t : CType} {d : Decl} → ShowsDecl p.structures lead core t d → declared (item.Decl d) ≡ core_name core ∷ []
  decl-declares (ShowsOne b qs ss d at w s h) = alone (core-named p.structures h)

  intrinsic-declares : (i : Intr) {x : Item} → ShowsIntrinsic p i x → declared x ≡ Some (intrinsic_name p.roles i) ∷ []
  intrinsic-declares i (AnIntrinsicItem d h) = decl-declares h

  tag-declares : (s : Structure) {x : Item} → ShowsTag s x → declared x ≡ Some s.tag ∷ []
  tag-declares s (ATagItem at) = alone (ap (λ y. tag_at y) (spec_rolls.outs-Struct (Some s.tag) None [] []))

  structure-declares : (s : Structure) {x : Item} → ShowsStructure p s x → declared x ≡ Some s.tag ∷ []
  structure-declares s (OnlyNamed x e h) = tag-declares s h
  structure-declares s (WithMembers l ls at ms e h) = alone (ap (λ y. tag_at y) (spec_rolls.outs-Struct (Some s.tag) (Some ms) [] []))

  device-declares : (d : Device) {x : Item} → ShowsDevice p d x → declared x ≡ d.name ∷ []
  device-declares d (ADeviceItem x c e h) = decl-declares h ∙ alone (sym e)

  prototype-declares : (f : Func) {x : Item} → ShowsPrototype p f x → declared x ≡ Some f.name ∷ []
  prototype-declares f (APrototypeItem b qs ss d at e s h) = alone (core-named p.structures h)

  object-declares : (o : Object) {x : Item} → ShowsObject p o x → declared x ≡ Some o.name ∷ []
  object-declares o (AnObjectItem d h) = decl-declares h

  value-declares : (o : Object) {x : Item} → ShowsDefinition p o x → declared x ≡ Some o.name ∷ []
  value-declares o (ADefinition b qs ss d g at w s h v) = alone (core-named p.structures h)

  function-declares : (f : Func) {x : Item} → ShowsFunction p f x → declared x ≡ Some f.name ∷ []
  function-declares f (ADefinedFunction b ss d xs ys s h l k) = alone (core-named p.structures h)

  external-declares : (e : External) (x : Item) → ShowsExternal p e x → declared x ≡ name_in p e ∷ []
  external-declares (AnIntrinsic i) x h = intrinsic-declares i h
  external-declares (ATag s) x h = tag-declares s h
  external-declares (AStructure s) x h = structure-declares s h
  external-declares (ADevice d) x h = device-declares d h
  external-declares (APrototype f) x h = prototype-declares f h
  external-declares (AnObject o) x h = object-declares o h
  external-declares (AValue o) x h = value-declares o h
  external-declares (AFunction f) x h = function-declares f h

  pub all-declare : {es : List External} {xs : List (At Item)} → ShowsExternals p es xs → map (λ x. declared x.node) xs ≡ map (λ e. name_in p e ∷ []) es
  all-declare NoExternal = refl
  all-declare (MoreExternals e es x xs h k) = ap (λ y. y ∷ map (λ x. declared x.node) xs) (external-declares e x.node h) ∙ ap (λ ys. (name_in p e ∷ []) ∷ ys) (all-declare k)

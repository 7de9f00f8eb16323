-- Which trees of translation units show a program, whatever their offsets (C99 6.9): they have an item for each external
-- declaration of its text, in order, and no other.
use Rattle.std.specs.Prelude.{List, [], ◌∷◌}
use Rattle.cc_unit_trees.specs.Externals.{External, AnIntrinsic, ATag, AStructure, ADevice, APrototype, AnObject, AValue, AFunction, externals}
use Rattle.cc_unit_trees.specs.Units.{ShowsFunction}
use Rattle.cc_unit_trees.specs.Items.{ShowsIntrinsic, ShowsTag, ShowsStructure, ShowsDevice, ShowsPrototype, ShowsObject, ShowsDefinition}
use Rattle.cc_program.specs.declared.program.Program.{Program}
use Rattle.cc_tree.specs.declared.at.At.{At}
use Rattle.cc_tree.specs.declared.unit.Item.{Item}
use Rattle.cc_tree.specs.declared.unit.Unit.{Unit as UnitTree}

module _ (p : Program) where
  abbrev pub ShowsExternal : External → Item → Type 0
  ShowsExternal (AnIntrinsic i) x = ShowsIntrinsic p i x
  ShowsExternal (ATag s) x = ShowsTag s x
  ShowsExternal (AStructure s) x = ShowsStructure p s x
  ShowsExternal (ADevice d) x = ShowsDevice p d x
  ShowsExternal (APrototype f) x = ShowsPrototype p f x
  ShowsExternal (AnObject o) x = ShowsObject p o x
  ShowsExternal (AValue o) x = ShowsDefinition p o x
  ShowsExternal (AFunction f) x = ShowsFunction p f x

  pub data ShowsExternals : List External → List (At Item) → Type 0 where
    NoExternal : ShowsExternals [] []
    MoreExternals : (e : External) (es : List External) (x : At Item) (xs : List (At Item)) → ShowsExternal e x.node → ShowsExternals es xs → ShowsExternals (e ∷ es) (x ∷ xs)

  abbrev pub ShowsProgram : UnitTree → Type 0
  ShowsProgram u = ShowsExternals (externals p) u.items

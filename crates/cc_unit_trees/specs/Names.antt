-- What an item of a unit declares, and what an external declaration does: a tag, or a name (C99 6.2.3, 6.7, 6.9.1).
use Rattle.std.specs.Prelude.{List, [], ◌∷◌, map, Option, Some, None}
use Rattle.cc_bodies.specs.Stmts.{intrinsic_name}
use Rattle.cc_unit_trees.specs.Externals.{External, AnIntrinsic, ATag, AStructure, ADevice, APrototype, AnObject, AValue, AFunction}
use Rattle.cc_program.specs.declared.program.Program.{Program}
use Rattle.cc_tree.specs.declared.at.At.{At}
use Rattle.cc_tree.specs.declared.tree.Spec as spec
use Rattle.cc_tree.specs.declared.tree.Spec.{Spec}
use Rattle.cc_tree.specs.declared.tree.Declr.TheOpen as one
use Rattle.cc_tree.specs.declared.unit.Init.{Init}
use Rattle.cc_tree.specs.declared.unit.Item.{Item}
use Rattle.cc_tree.specs.declared.unit.Item.TheVariants as item
use Rattle.cc_tree.specs.Scopes.{name_of}
use Rattle.cc_tree.specs.Tokens.{Name}

abbrev pub tag_at : {A B C D E F G H : Type 0} → one.Spec-F A B C D E F G H → Option Name
tag_at (one.Struct tag members before behind) = tag
tag_at _ = None

abbrev pub tag_of : Spec → Option Name
tag_of s = tag_at (spec.out-Spec s)

-- a declaration of no names declares the tags of its specifiers
abbrev pub declared_by : List (At Spec) → List (At Init) → List (Option Name)
declared_by specs [] = map (λ s. tag_of s.node) specs
declared_by specs (i ∷ is) = map (λ i. name_of i.node.declr.node) (i ∷ is)

abbrev pub declared : Item → List (Option Name)
declared (item.Decl d) = declared_by d.specs d.inits
declared (item.Func specs d attrs body) = name_of d.node ∷ []

abbrev pub name_in : Program → External → Option Name
name_in p (AnIntrinsic i) = Some (intrinsic_name p.roles i)
name_in p (ATag s) = Some s.tag
name_in p (AStructure s) = Some s.tag
name_in p (ADevice d) = d.name
name_in p (APrototype f) = Some f.name
name_in p (AnObject o) = Some o.name
name_in p (AValue o) = Some o.name
name_in p (AFunction f) = Some f.name

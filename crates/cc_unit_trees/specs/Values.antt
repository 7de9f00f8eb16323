-- Which initialisers of a tree show the first values of a static object, whatever their offsets, with parentheses
-- anywhere (C99 6.7.8, 6.6): of a scalar an expression, of an array and of a structure one initialiser for each part, in
-- braces.
use Rattle.std.specs.Prelude.{◌≡◌, ℕ, ℤ, true, false, ◌⊎◌, List, [], ◌∷◌, ◌++◌, map, replicate, Some, slice_get}
use Rattle.std.specs.List.{list_all}
use Rattle.cc_program.specs.CcNum.declared.int_type.IntType.{IntType}
use Rattle.cc_lex.specs.declared.token.Mark.TheVariants as m
use Rattle.cc_bodies.specs.Names.{member_name}
use Rattle.cc_expression_trees.specs.Constants.{ShowsInteger, IsZero}
use Rattle.cc_program.specs.declared.func.Func.{Func}
use Rattle.cc_program.specs.declared.object.Object.{Object}
use Rattle.cc_program.specs.declared.program.Program.{Program}
use Rattle.cc_program.specs.declared.types.CType.{CType}
use Rattle.cc_program.specs.declared.types.Shape.{out-Shape}
use Rattle.cc_program.specs.declared.types.Shape.TheOpen as shape
use Rattle.cc_program.specs.declared.types.Structure.{Structure}
use Rattle.cc_program.specs.declared.value.Address.{Address}
use Rattle.cc_program.specs.declared.value.Address.TheVariants as address
use Rattle.cc_program.specs.declared.value.Leaf.{Leaf}
use Rattle.cc_program.specs.declared.value.Leaf.TheVariants as leaf
use Rattle.cc_program.specs.declared.value.Part.{Part}
use Rattle.cc_program.specs.declared.value.Part.TheVariants as part
use Rattle.cc_program.specs.declared.value.Root.TheVariants as root
use Rattle.cc_typed.specs.CcSyntax.Expressions.{of_one}
use Rattle.cc_typed.specs.CcSyntax.Initial.{bound_of, step_into, leads_to_element, is_zero}
use Rattle.cc_typed.specs.CcSyntax.Values.{PlaceType, object_place, pointer_to, element_of, address_of, is_assignable_some}
use Rattle.cc_tree.specs.declared.at.At.{At}
use Rattle.cc_tree.specs.declared.tree.Tree as tree
use Rattle.cc_tree.specs.declared.tree.Tree.{Tree}
use Rattle.cc_tree.specs.declared.unit.Given as given
use Rattle.cc_tree.specs.declared.unit.Given.{Given}
use Rattle.cc_tree.specs.Tokens.{Name}
use Rattle.cc_expression_trees.specs.Types.{plain_suffix}

-- a subscript, in decimal
pub data IsIndex : ℕ → Tree → Type 0 where
  Index : (n : ℕ) → IsIndex n (tree.Number n (plain_suffix n))
  IndexInParens : (n : ℕ) (x : At Tree) → IsIndex n x.node → IsIndex n (tree.Paren x)

module _ (p : Program) where
  -- ---- addresses

  -- what a path leads to in a static object, with the type of what is there
  pub data ShowsPart (object : ℕ) : List Part → PlaceType → Tree → Type 0 where
    PartInParens : (path : List Part) (a : PlaceType) (x : At Tree) → ShowsPart object path a x.node → ShowsPart object path a (tree.Paren x)
    ShowsObject : (o : Object) → slice_get p.objects object ≡ Some o → ShowsPart object [] (object_place o.ctype) (tree.Named o.name)
    ShowsMember : (path : List Part) (a b : PlaceType) (i : ℕ) (name : Name) (x : At Tree) → ShowsPart object path a x.node → step_into p.structures (part.Member i) a ≡ Some b → member_name p.structures i (Some a) ≡ Some name →
        ShowsPart object (path ++ part.Member i ∷ []) b (tree.Member x name)
    ShowsElement : (path : List Part) (a b : PlaceType) (i : ℕ) (x y : At Tree) → ShowsPart object path a x.node → step_into p.structures (part.Index i) a ≡ Some b → IsIndex i y.node →
        ShowsPart object (path ++ part.Index i ∷ []) b (tree.Subscript x y)

  -- an element of an array of so many, or the one past the last of them, which may be named in an address (6.5.3.2, 3)
  pub data ShowsAtIndex (to : CType) (object : ℕ) (path : List Part) (index count : ℕ) : Tree → Type 0 where
    ElementInParens : (x : At Tree) → ShowsAtIndex to object path index count x.node → ShowsAtIndex to object path index count (tree.Paren x)
    AtIndex : (a : PlaceType) (x y : At Tree) → ShowsPart object path a x.node → bound_of a ≡ Some count → is_assignable_some (Some (pointer_to to)) (of_one (element_of a) address_of) ≡ true → IsIndex index y.node →
        ShowsAtIndex to object path index count (tree.Subscript x y)

  -- What is no element of an array counts as an array of one (6.5.6, 7). The pointed-to type tells the address of an array
  -- of one from that of its element.
  pub data ShowsAddress (to : CType) : Address → Tree → Type 0 where
    AddressInParens : (a : Address) (x : At Tree) → ShowsAddress to a x.node → ShowsAddress to a (tree.Paren x)
    ShowsNull : (x : Tree) → IsZero x → ShowsAddress to address.Null x
    ShowsFunction : (i : ℕ) (g : Func) → slice_get p.funcs i ≡ Some g → ShowsAddress to (address.Func i) (tree.Named g.name)
    ShowsElementAddress : (object : ℕ) (path : List Part) (index count : ℕ) (x : At Tree) → ShowsAtIndex to object path index count x.node → ShowsAddress to (address.At (root.Static object) path index count) (tree.Prefix m.Amp x)
    ShowsWholeAddress : (object : ℕ) (path : List Part) (a : PlaceType) (x : At Tree) → leads_to_element path ≡ false → is_assignable_some (Some (pointer_to to)) (address_of a) ≡ true → ShowsPart object path a x.node →
        ShowsAddress to (address.At (root.Static object) path 0 1) (tree.Prefix m.Amp x)
    -- one past it
    ShowsPast : (object : ℕ) (path : List Part) (x y : At Tree) → ShowsAddress to (address.At (root.Static object) path 0 1) x.node → IsIndex 1 y.node → ShowsAddress to (address.At (root.Static object) path 1 1) (tree.Binary m.Plus x y)

  -- ---- values

  mutual
    -- the values of a type's scalars, in order of path, which stand in front of further ones
    pub data ShowsGiven : CType → List Leaf → List Leaf → Given → Type 0 where
      ShowsNumber : (t : CType) (i : IntType) (n : ℤ) (rest : List Leaf) (x : At Tree) → out-Shape t.shape ≡ shape.Int i → ShowsInteger p.target n i x.node → ShowsGiven t (leaf.Int n ∷ rest) rest (given.One x)
      ShowsPointer : (t to : CType) (a : Address) (rest : List Leaf) (x : At Tree) → out-Shape t.shape ≡ shape.Pointer to → ShowsAddress to a x.node → ShowsGiven t (leaf.Place a ∷ rest) rest (given.One x)
      ShowsArray : (t of : CType) (n : ℕ) (leaves rest : List Leaf) (gs : List (At Given)) → out-Shape t.shape ≡ shape.Array of n → ShowsEach (replicate n of) leaves rest gs → ShowsGiven t leaves rest (given.Many gs)
      ShowsStructure : (t : CType) (i : ℕ) (s : Structure) (leaves rest : List Leaf) (gs : List (At Given)) → out-Shape t.shape ≡ shape.Struct i → slice_get p.structures i ≡ Some s → ShowsEach (map (λ m. m.1) s.members) leaves rest gs →
          ShowsGiven t leaves rest (given.Many gs)

    -- of several types, one initialiser each
    pub data ShowsEach : List CType → List Leaf → List Leaf → List (At Given) → Type 0 where
      ShowsNone : (rest : List Leaf) → ShowsEach [] rest rest []
      ShowsMore : (t : CType) (ts : List CType) (leaves between rest : List Leaf) (g : At Given) (gs : List (At Given)) → ShowsGiven t leaves between g.node → ShowsEach ts between rest gs → ShowsEach (t ∷ ts) leaves rest (g ∷ gs)

  -- those with which an object starts: where it has none of its own, all of them are zero or null (6.7.8, 10)
  abbrev pub StartsWith : List Leaf → List Leaf → Type 0
  StartsWith leaves own = (leaves ≡ own) ⊎ ((own ≡ []) × (list_all is_zero leaves ≡ true))

  pub data ShowsInitial (o : Object) : Given → Type 0 where
    ShowsFirst : (leaves : List Leaf) (g : Given) → StartsWith leaves o.init → ShowsGiven o.ctype leaves [] g → ShowsInitial o g

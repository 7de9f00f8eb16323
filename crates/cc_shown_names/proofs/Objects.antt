-- The declarations of a program's objects without their first values, one behind another.
use Rattle.std.proofs.Common.{arith, ◌≡◌, ◌≤◌, ℕ, ◌+◌, true, false, List, [], ◌∷◌, ◌++◌, map, length, Some, None, Ok, refl, ap, sym, ◌∙◌, subst, slice_get, append_assoc, length-append}
use Rattle.std.specs.List.{list_all}
use Rattle.std.specs.Str.{bytes_eq}
use Rattle.std.proofs.lemmas.List.{map-append, append-nil}
use Rattle.std.proofs.lemmas.Option.{slice_get_within}
use Rattle.cc_expression_trees.specs.Types.{Plain}
use Rattle.cc_type.specs.CcLinkage.Linkage.{new_declared, declared}
use Rattle.cc_type.specs.CcLinkage.declared.linkage.DeclaredAs.TheVariants.{AsStatic}
use Rattle.cc_type.specs.CcObjects.Categories.{setting_of}
use Rattle.cc_type.specs.CcObjects.Linked.{device_by}
use Rattle.cc_type.specs.CcObjects.Types.{type_given, composite_by}
use Rattle.cc_type.specs.CcObjects.declared.category.Category.TheVariants as declares
use Rattle.cc_type.specs.CcOperands.Verdicts.{Judged}
use Rattle.cc_type.specs.CcTypedTerms.Primary.{intrinsic_named}
use Rattle.cc_program.specs.declared.object.Object.{Object}
use Rattle.cc_program.specs.declared.program.Program.{Program}
use Rattle.cc_program.specs.declared.types.CType.{CType}
use Rattle.cc_program.specs.declared.types.Shape.{Shape, out-Shape}
use Rattle.cc_program.specs.declared.types.Shape.TheOpen as shape
use Rattle.cc_program.specs.declared.types.Sig.{Sig}
use Rattle.cc_type.specs.CcScopes.Definitions.{tentative_at}
use Rattle.cc_type.specs.CcScopes.State.{State, Name}
use Rattle.cc_type.specs.CcScopes.Verdicts.{Found, whole, and_then, Checked, checked}
use Rattle.cc_type.specs.CcScopes.declared.unit.Declared.{Declared}
use Rattle.cc_type.specs.CcSpecifiers.declared.storage.Where.TheVariants as stands
use Rattle.cc_type.specs.CcSyntax.Kinds.{is_object_type}
use Rattle.cc_type.specs.CcSyntax.Names.{device_names}
use Rattle.cc_type.specs.CcSyntax.Programs.{kind_in}
use Rattle.cc_type.specs.CcSyntax.Sound.{IsSound, is_object, main_name}
use Rattle.cc_type.proofs.CcSyntax.Prefixes.{both_true}
use Rattle.cc_type.specs.CcTerms.InTurn.{in_turn}
use Rattle.cc_tree.specs.declared.at.At.{At}
use Rattle.cc_tree.specs.declared.tree.Declr.{Declr}
use Rattle.cc_tree.specs.declared.unit.Decl.{Decl}
use Rattle.cc_tree.specs.declared.unit.Item.{Item}
use Rattle.cc_tree.specs.declared.unit.Item.TheVariants as item
use Rattle.cc_type.specs.Units.{item_found, item_next, items_found}
use Rattle.cc_type.specs.CcTypedBodies.Declarations.{declared_left, named_found}
use Rattle.cc_type.specs.CcTypedBodies.Objects.{linked_known, linked_as}
use Rattle.cc_type.specs.CcUnit.declared.unit.UnitKind.{UnitKind}
use Rattle.cc_type.specs.CcUnit.declared.unit.UnitKind.TheVariants as kind
use Rattle.cc_unit_trees.specs.Externals.{AnObject}
use Rattle.cc_unit_trees.specs.Items.{ShowsObject, AnObject as AnObjectItem}
use Rattle.cc_unit_trees.specs.Programs.{ShowsExternals, NoExternal, MoreExternals}
use Rattle.cc_unit_trees.specs.Units.{ShowsDecl, ShowsOne}
use Rattle.cc_program.specs.CcWords.declared.word.Word.TheVariants as w
use Rattle.cc_shown_declarations.specs.Order.{appearance, structure_number}
use Rattle.cc_shown_declarations.specs.States.{first_state}
use Rattle.cc_shown_expressions.specs.Known.{KnowsStructures}
use Rattle.cc_shown_expressions.specs.Numbers.{type_numbered}
use Rattle.cc_shown_expressions.proofs.Words.{start, words-found}
use Rattle.cc_shown_names.specs.Names.{function_declared, object_declared, placed}
use Rattle.cc_shown_names.specs.States.{place_in, places, unit_state, devices_declared, functions_declared, objects_declared}
use Rattle.cc_shown_names.proofs.Base.{structures-in, sized, apart, own-name, not-main, device-keys}
use Rattle.cc_shown_names.proofs.Keys.{Distinct, second-there, func_names, object_names, unit_keys}
use Rattle.cc_shown_names.proofs.KnownStates.{function-keys}
use Rattle.cc_shown_names.proofs.One.{init_of, decl_of, behind-found, one-found, linked-is, object-declarator, object-category}
use Rattle.cc_shown_names.proofs.Scope.{key, keys, IsNew, next-new, linked-new, declared-next, may-be-new, change-there}

pub no-device : (x : Name) (t : CType) (y : shape.Shape-F Shape CType Sig) → device_by x t false y ≡ kind.Object []
no-device x t shape.Void = refl
no-device x t (shape.Int i) = refl
no-device x t (shape.Pointer to) = refl
no-device x t (shape.Array of n) = refl
no-device x t (shape.Struct i) = refl
no-device x t (shape.Func sig) = refl

module _ (p : Program) (sound : IsSound p) (known : KnowsStructures p (structure_number p) (first_state p (length p.structures) (appearance p))) (defined : List Name) where
  -- ---- one more

  module _ (names : List Declared) (o : Object) (fits : is_object_type (kind_in p o.ctype) ≡ true) (new : IsNew o.name names) (own : intrinsic_named p.roles o.name ≡ None) (other : bytes_eq o.name main_name ≡ false) where
    abbrev now : State
    now = unit_state p names

    abbrev structures : KnowsStructures p (structure_number p) now
    structures = structures-in p known names

    abbrev type : CType
    type = type_numbered (structure_number p) o.ctype

    abbrev behind : ℕ → State
    behind at = unit_state p (names ++ object_declared p at o ∷ [])

    left-is : (at : ℕ) → declared_left p.target p.roles defined at (declares.Linked AsStatic) o.name type [] None now ≡ Ok ([], behind at)
    left-is at =
        let d = new_declared o.name AsStatic type (kind.Object []) in
        ap (λ m. linked_as p.target p.roles defined at AsStatic o.name (composite_by o.name type now m) (type_given (composite_by o.name type now m) None now) None now) (linked-new 0 names o.name new)
        ∙ ap (λ (k : UnitKind). linked_known p.target p.roles at AsStatic type type None (declared o.name AsStatic type k now)) (no-device o.name type (out-Shape type.shape))
        ∙ ap (λ (r : ℕ × State). linked_known p.target p.roles at AsStatic type type None r) (declared-next p names o.name new AsStatic type (kind.Object []))
        ∙ ap (λ (s : State). Ok ([], s)) (change-there p names [] (length names) d (object_declared p at o) (tentative_at at) refl refl refl)

    named-is : (at : ℕ) (c : At Declr) → named_found p.target p.roles defined at (declares.Linked AsStatic) type [] (init_of c at None).node (Some o.name) now ≡ Ok ([], behind at)
    named-is at c =
        ap (λ (j : Judged CType). and_then (whole at now j) (λ t s. declared_left p.target p.roles defined at (declares.Linked AsStatic) o.name t [] None s))
        (linked-is p (structure_number p) defined now structures (sized p sound) o.name o.ctype fits own other AsStatic None (may-be-new p names o.name new AsStatic type))
        ∙ left-is at

    decl-found : (c : Decl) → ShowsDecl p.structures (w.Static ∷ []) (Plain (Some o.name)) o.ctype c → item_found p.target p.roles defined (item.Decl c) now ≡ Ok (checked, behind (place_in (item.Decl c)))
    decl-found _ (ShowsOne b qs ss c at words base h) =
        let setting = setting_of stands.AtFile (decl_of (qs ++ ss) c at None) now in
        let lead = words-found p.target p.roles setting (w.Static ∷ []) qs words (start None []) (start (Some w.Static) []) now refl in
        one-found p (structure_number p) defined now structures (qs ++ ss) c at None o.name b type (Some w.Static) [] (declares.Linked AsStatic) (behind at)
        (behind-found p (structure_number p) defined now structures setting (Some w.Static) [] b qs ss lead base) refl
        (object-declarator p (structure_number p) defined now structures (sized p sound) o.name o.ctype fits own other c at None b h)
        (object-category p (structure_number p) defined now structures (sized p sound) o.name o.ctype fits own other c.node b (Some w.Static) h)
        (named-is at c)

    pub item-found : (c : Item) → ShowsObject p o c → item_found p.target p.roles defined c now ≡ Ok (checked, behind (place_in c))
    item-found _ (AnObjectItem c h) = decl-found c h

  -- ---- all of them

  abbrev Items : List Object → List (At Item) → Type 0
  Items os xs = ShowsExternals p (map AnObject os) xs

  abbrev names_of : List Object → List Name
  names_of os = map (λ (o : Object). o.name) os

  -- where objects stand there are no functions
  no-function-at : (n : ℕ) → length (device_names p.devices) + length (func_names p) ≤ n → (j : ℕ) (y : Name) → slice_get (func_names p) j ≡ Some y → n ≡ length (device_names p.devices) + j → ⊥
  no-function-at n l j y h e = let k = slice_get_within (func_names p) j y h in absurd (omega (arith, k, l, e))

  pub object-other : (n : ℕ) (x : Name) → length (device_names p.devices) + length (func_names p) ≤ n → slice_get (unit_keys p) n ≡ Some x → bytes_eq x main_name ≡ false
  object-other n x l at = not-main p sound n x at (no-function-at n l)

  objects-from : (done : List Declared) (os : List Object) (xs : List (At Item)) → list_all (is_object p) os ≡ true → length (device_names p.devices) + length (func_names p) ≤ length (keys done) → keys done ++ names_of os ≡ unit_keys p → Items os xs →
      items_found p.target p.roles defined xs (unit_state p done) ≡ Ok (checked, unit_state p (done ++ placed (object_declared p) (places xs) os))
  objects-from done [] _ good l e NoExternal = ap (λ names. Ok (checked, unit_state p names)) (sym (append-nil done))
  objects-from done (o ∷ os) _ good l e (MoreExternals _ _ c cs h r) =
      let goods = both_true (is_object p o) (list_all (is_object p) os) good in
      let d = object_declared p (place_in c.node) o in
      let longer = done ++ d ∷ [] in
      let n : length (keys done) ≡ length (keys done) + 0 = omega arith in
      let at : slice_get (unit_keys p) (length (keys done)) ≡ Some o.name = ap (λ ns. slice_get ns (length (keys done))) (sym e) ∙ second-there (keys done) (o.name ∷ names_of os) (length (keys done)) 0 n in
      let new = next-new done o.name (names_of os) (subst Distinct (sym e) (apart p sound)) in
      let more : keys longer ≡ keys done ++ o.name ∷ [] = map-append key done (d ∷ []) in
      let keys_behind : keys longer ++ names_of os ≡ unit_keys p = ap (λ ns. ns ++ names_of os) more ∙ append_assoc (keys done) (o.name ∷ []) (names_of os) ∙ e in
      let m : length (keys longer) ≡ length (keys done) + 1 = ap length more ∙ length-append (keys done) (o.name ∷ []) in
      ap (λ (m : Found Checked). and_then m (in_turn (item_next p.target p.roles defined) cs)) (item-found done o goods.0 new (own-name p sound (length (keys done)) o.name at) (object-other (length (keys done)) o.name l at) c.node h)
      ∙ objects-from longer os cs goods.1 (omega (arith, l, m)) keys_behind r
      ∙ ap (λ names. Ok (checked, unit_state p names)) (append_assoc done (d ∷ []) (placed (object_declared p) (places cs) os))

  function-keys-are : keys (functions_declared p) ≡ device_names p.devices ++ func_names p
  function-keys-are =
      map-append key (devices_declared p) (map (function_declared p) p.funcs) ∙ ap (λ ns. ns ++ keys (map (function_declared p) p.funcs)) (device-keys p.devices) ∙ ap (λ ns. device_names p.devices ++ ns) (function-keys p p.funcs)

  pub objects-found : (xs : List (At Item)) → Items p.objects xs → items_found p.target p.roles defined xs (unit_state p (functions_declared p)) ≡ Ok (checked, unit_state p (objects_declared p (places xs)))
  objects-found xs h =
      let m : length (keys (functions_declared p)) ≡ length (device_names p.devices) + length (func_names p) = ap length function-keys-are ∙ length-append (device_names p.devices) (func_names p) in
      objects-from (functions_declared p) p.objects xs sound.objects (omega (arith, m)) (ap (λ ns. ns ++ object_names p) function-keys-are ∙ append_assoc (device_names p.devices) (func_names p) (object_names p)) h

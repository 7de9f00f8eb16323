-- The declarations of a program's objects with their first values, one behind another.
use Rattle.std.proofs.Common.{arith, ◌≡◌, ◌≤◌, ℕ, zero, suc, ◌+◌, Bool, true, false, cond, not, ◌&&◌, ◌||◌, List, [], ◌∷◌, ◌++◌, map, length, Some, None, Ok, refl, ap, sym, ◌∙◌, subst, slice_get, append_assoc}
use Rattle.std.specs.Prelude.{if◌then◌else◌}
use Rattle.std.specs.List.{filter}
use Rattle.std.specs.Str.{bytes_eq}
use Rattle.std.proofs.lemmas.List.{append-nil}
use Rattle.cc_expression_trees.specs.Types.{ShowsWords, ShowsBase, Declares, Plain}
use Rattle.cc_type.specs.CcInitialisers.Contents.{contents}
use Rattle.cc_type.specs.CcInitialisers.Initialisers.{here as given_here, initialised, bound_given}
use Rattle.cc_type.specs.CcLinkage.Linkage.{is_visible, same_element, may_be_by}
use Rattle.cc_type.specs.CcLinkage.declared.linkage.DeclaredAs.TheVariants.{AsStatic}
use Rattle.cc_type.specs.CcObjects.Categories.{setting_of}
use Rattle.cc_type.specs.CcObjects.Linked.{object_kind}
use Rattle.cc_print.specs.Values.{has_leaves}
use Rattle.cc_type.specs.CcObjects.Types.{contents_in, with_bound, element_type, type_given, completed_type, is_object_in, type_agrees, composite_of, composite_by, composite}
use Rattle.cc_type.specs.CcObjects.Values.{leaf_given, no_leaf}
use Rattle.cc_type.specs.CcObjects.declared.category.Category.TheVariants as declares
use Rattle.cc_type.specs.CcOperands.Verdicts.{Judged, must, judge_then}
use Rattle.cc_type.specs.CcOperands.declared.rule.Rule.TheVariants as rule
use Rattle.cc_type.specs.CcTypedTerms.Primary.{intrinsic_named, leaves_or_none}
use Rattle.cc_program.specs.Qualifiers.{is_const}
use Rattle.cc_program.specs.declared.expr.Place.{Static}
use Rattle.cc_program.specs.declared.object.Object.{Object}
use Rattle.cc_program.specs.declared.program.Program.{Program}
use Rattle.cc_program.specs.declared.types.CType.{CType}
use Rattle.cc_program.specs.declared.types.Shape.{Shape, out-Shape}
use Rattle.cc_program.specs.declared.types.Shape.TheOpen as shape
use Rattle.cc_program.specs.declared.types.Sig.{Sig}
use Rattle.cc_program.specs.declared.value.Leaf.{Leaf}
use Rattle.cc_type.specs.CcScopes.Definitions.{defined_at}
use Rattle.cc_type.specs.CcScopes.State.{State, Name, structures_of, with_unfinished, change_name}
use Rattle.cc_type.specs.CcScopes.Verdicts.{Found, whole, and_then, Checked, checked}
use Rattle.cc_type.specs.CcScopes.declared.unit.Declared.{Declared}
use Rattle.cc_type.specs.CcSpecifiers.Bounds.{is_bound}
use Rattle.cc_type.specs.CcSpecifiers.Declarators.{is_unbounded, bound_or_none}
use Rattle.cc_type.specs.CcSpecifiers.declared.storage.Where.TheVariants as stands
use Rattle.cc_type.specs.CcSyntax.Initial.{bound_shape}
use Rattle.cc_type.specs.CcSyntax.Kinds.{is_object_type}
use Rattle.cc_type.specs.CcSyntax.Names.{device_names}
use Rattle.cc_type.specs.CcSyntax.Programs.{kind_in}
use Rattle.cc_type.specs.CcSyntax.Sound.{IsSound, is_object, main_name}
use Rattle.cc_type.proofs.CcSyntax.SameLemmas.{compared}
use Rattle.cc_type.specs.CcTerms.InTurn.{in_turn}
use Rattle.cc_tree.specs.declared.at.At.{At}
use Rattle.cc_tree.specs.declared.tree.Declr.{Declr}
use Rattle.cc_tree.specs.declared.tree.Spec.{Spec}
use Rattle.cc_tree.specs.declared.unit.Given.{Given}
use Rattle.cc_tree.specs.declared.unit.Item.{Item}
use Rattle.cc_tree.specs.declared.unit.Item.TheVariants as item
use Rattle.cc_type.specs.Units.{item_found, item_next, items_found}
use Rattle.cc_type.specs.CcTypedBodies.Declarations.{declared_left, named_found}
use Rattle.cc_type.specs.CcTypedBodies.Objects.{leaves_found, linked_defined, linked_known, linked_as}
use Rattle.cc_type.specs.CcTypedBodies.Plans.{steps_done}
use Rattle.cc_type.specs.CcUnit.declared.unit.UnitKind.TheVariants as kind
use Rattle.cc_unit_trees.specs.Externals.{AValue, is_given}
use Rattle.cc_unit_trees.specs.Items.{ShowsDefinition, ADefinition}
use Rattle.cc_unit_trees.specs.Programs.{ShowsExternals, NoExternal, MoreExternals}
use Rattle.cc_unit_trees.specs.Values.{ShowsInitial}
use Rattle.cc_program.specs.CcWords.declared.word.Word.TheVariants as w
use Rattle.cc_shown_declarations.specs.Known.{KnowsStatics}
use Rattle.cc_shown_declarations.specs.Numbers.{leaf_numbered}
use Rattle.cc_shown_declarations.specs.Order.{appearance, structure_number}
use Rattle.cc_shown_declarations.specs.States.{first_state}
use Rattle.cc_shown_expressions.specs.Known.{KnowsStructures}
use Rattle.cc_shown_expressions.specs.Numbers.{type_numbered}
use Rattle.cc_shown_expressions.proofs.Stand.{tested-at}
use Rattle.cc_shown_expressions.proofs.Words.{start, words-found}
use Rattle.cc_shown_names.specs.Names.{object_declared, object_given, placed}
use Rattle.cc_shown_names.specs.Numbers.{read_numbers}
use Rattle.cc_shown_names.specs.States.{unit_state, functions_declared, objects_declared, objects_given}
use Rattle.cc_shown_names.proofs.Base.{structures-in, sized, own-name}
use Rattle.cc_shown_names.proofs.Keys.{Distinct, second-there, func_names}
use Rattle.cc_shown_names.proofs.ObjectTypes.{bounded}
use Rattle.cc_shown_names.proofs.KnownStates.{IsObject, AreObjects, NoObject, MoreObjects, objects-joined, declared-is, given-object, placed-declared, apart-here, statics, object-key}
use Rattle.cc_shown_names.proofs.Objects.{object-other}
use Rattle.cc_shown_names.proofs.One.{init_of, decl_of, behind-found, one-found, object-there, linked-is, object-declarator, object-category}
use Rattle.cc_shown_names.proofs.Scope.{keys, next-there, linked-here, declared-again, may-be-again, change-there}

-- the first values of objects are typed wherever their names are known
abbrev pub TypesObjects : Program → Type 0
TypesObjects p = (s : State) → KnowsStatics p (read_numbers p) s → (i : ℕ) (o : Object) → slice_get p.objects i ≡ Some o → (g : At Given) → ShowsInitial p o g.node →
    (leaves : List Leaf) × (leaves_or_none leaves ≡ map (leaf_numbered (read_numbers p)) o.init)
    × (steps_done p.target p.roles Leaf (leaf_given p.target) no_leaf (initialised (contents (structures_of s) (type_numbered (structure_number p) o.ctype) false) (given_here g)) s ≡ Ok (leaves, s))

chosen : {A : Type 0} → (v : Bool) (a b : A) → (if v && false then a else b) ≡ b
chosen true a b = refl
chosen false a b = refl

-- a type may be its own, also of an array without a bound
itself-by : (t : CType) (y : shape.Shape-F Shape CType Sig) → out-Shape t.shape ≡ y → may_be_by t t y ≡ true
itself-by t shape.Void e = (compared t).itself
itself-by t (shape.Int i) e = (compared t).itself
itself-by t (shape.Pointer to) e = (compared t).itself
itself-by t (shape.Array of zero) e = ap (same_element of) e ∙ (compared of).itself
itself-by t (shape.Array of (suc n)) e = (compared t).itself
itself-by t (shape.Struct i) e = (compared t).itself
itself-by t (shape.Func sig) e = (compared t).itself

module _ (p : Program) (sound : IsSound p) (known : KnowsStructures p (structure_number p) (first_state p (length p.structures) (appearance p))) (typed : TypesObjects p) (defined : List Name) where
  -- ---- one more, which is declared so far

  module _ (names rest : List Declared) (i first : ℕ) (o : Object) (fits : is_object_type (kind_in p o.ctype) ≡ true) (own : intrinsic_named p.roles o.name ≡ None) (other : bytes_eq o.name main_name ≡ false)
      (there : slice_get p.objects i ≡ Some o) (given : is_given o ≡ true) (apart : Distinct (keys (names ++ (object_declared p first o ∷ rest)))) (knows : KnowsStatics p (read_numbers p) (unit_state p (names ++ (object_declared p first o ∷ rest)))) where
    abbrev before : Declared
    before = object_declared p first o

    abbrev all : List Declared
    all = names ++ (before ∷ rest)

    abbrev now : State
    now = unit_state p all

    abbrev structures : KnowsStructures p (structure_number p) now
    structures = structures-in p known all

    abbrev type : CType
    type = type_numbered (structure_number p) o.ctype

    abbrev number : ℕ
    number = length names

    abbrev behind : State
    behind = unit_state p (names ++ (object_given p first o ∷ rest))

    at-number : slice_get all number ≡ Some before
    at-number = next-there names number before rest refl

    has-bound : is_unbounded type ≡ false
    has-bound = bounded p (structure_number p) o.ctype fits

    composite-is : composite o.name type now ≡ type
    composite-is =
        ap (composite_by o.name type now) (linked-here p all number before o.name apart at-number refl refl)
        ∙ ap (λ d. composite_of type (is_visible number o.name now) d) at-number
        ∙ ap (λ b. if is_visible number o.name now && b then type else type) has-bound ∙ chosen (is_visible number o.name now) type type

    completed-is : completed_type p.target type type now ≡ Ok type
    completed-is =
        ap (λ b. judge_then (must (not b || is_bound (bound_or_none (bound_shape (out-Shape type.shape)))) rule.ArrayBound (Ok type)) (λ u. must (is_object_in p.target now u) rule.NoObjectType (Ok u))) has-bound
        ∙ ap (λ b. must b rule.NoObjectType (Ok type)) (object-there p (structure_number p) defined now structures (sized p sound) o.name o.ctype fits own other)

    leaves-are : (at : ℕ) (g : At Given) (leaves : List Leaf) → steps_done p.target p.roles Leaf (leaf_given p.target) no_leaf (initialised (contents_in type now) (given_here g)) now ≡ Ok (leaves, now) → leaves_found p.target p.roles at number type type g now ≡ Ok (leaves, now)
    leaves-are at g leaves done =
        ap (λ b. and_then (steps_done p.target p.roles Leaf (leaf_given p.target) no_leaf (initialised (contents_in type now) (given_here g)) (if b then with_unfinished (Some (Static number)) now else now))
        (λ xs s. and_then (whole at s (completed_type p.target type type s)) (λ u s. Ok (xs, with_unfinished None s)))) has-bound
        ∙ ap (λ (r : Found (List Leaf)). and_then r (λ xs s. and_then (whole at s (completed_type p.target type type s)) (λ u s. Ok (xs, with_unfinished None s)))) done
        ∙ ap (λ (j : Judged CType). and_then (whole at now j) (λ u s. Ok (leaves, with_unfinished None s))) completed-is

    agrees-is : type_agrees type (slice_get all number) ≡ Ok type
    agrees-is = ap (type_agrees type) at-number ∙ ap (λ b. must b rule.DeclaredTwice (Ok type)) (compared type).itself

    changed-is : (at : ℕ) → change_name number (defined_at at type (kind.Object (map (leaf_numbered (read_numbers p)) o.init))) now ≡ behind
    changed-is at =
        change-there p names rest number before (object_given p first o) (defined_at at type (kind.Object (map (leaf_numbered (read_numbers p)) o.init))) refl
        (ap (λ b. record { name = Some o.name; linkage = before.linkage; ctype = type; first = Some first; tentative = true; definitions = if b then 1 else 0; kind = kind.Object (map (leaf_numbered (read_numbers p)) o.init) }) (sym given)) refl

    defined-is : (at : ℕ) (g : At Given) → ShowsInitial p o g.node → linked_defined p.target p.roles at type type number g now ≡ Ok ([], behind)
    defined-is at g shown =
        let q = typed now knows i o there g shown in
        ap (λ (r : Found (List Leaf)). and_then r (λ values s. and_then (whole at s (type_agrees type (slice_get s.names number))) (λ u s. Ok ([], change_name number (defined_at at u (kind.Object (leaves_or_none values))) s)))) (leaves-are at g q.0 q.2)
        ∙ ap (λ (j : Judged CType). and_then (whole at now j) (λ u s. Ok ([], change_name number (defined_at at u (kind.Object (leaves_or_none q.0))) s))) agrees-is
        ∙ ap (λ ls. Ok ([], change_name number (defined_at at type (kind.Object ls)) now)) q.1
        ∙ ap (λ (s : State). Ok ([], s)) (changed-is at)

    left-is : (at : ℕ) (g : At Given) → ShowsInitial p o g.node → declared_left p.target p.roles defined at (declares.Linked AsStatic) o.name type [] (Some g) now ≡ Ok ([], behind)
    left-is at g shown =
        ap (λ t. linked_as p.target p.roles defined at AsStatic o.name t (type_given t (Some g) now) (Some g) now) composite-is
        ∙ ap (λ b. linked_as p.target p.roles defined at AsStatic o.name type (if b then with_bound type (bound_given (contents_in (element_type type) now) g.node) else type) (Some g) now) has-bound
        ∙ ap (λ (r : ℕ × State). linked_known p.target p.roles at AsStatic type type (Some g) r) (declared-again p all number before o.name apart at-number refl refl AsStatic type (object_kind defined AsStatic o.name type))
        ∙ defined-is at g shown

    named-is : (at : ℕ) (c : At Declr) (g : At Given) → ShowsInitial p o g.node → named_found p.target p.roles defined at (declares.Linked AsStatic) type [] (init_of c at (Some g)).node (Some o.name) now ≡ Ok ([], behind)
    named-is at c g shown =
        ap (λ (j : Judged CType). and_then (whole at now j) (λ t s. declared_left p.target p.roles defined at (declares.Linked AsStatic) o.name t [] (Some g) s))
        (linked-is p (structure_number p) defined now structures (sized p sound) o.name o.ctype fits own other AsStatic None
        (may-be-again p all number before o.name apart at-number refl refl AsStatic type (itself-by type (out-Shape type.shape) refl)))
        ∙ left-is at g shown

    definition-found : (b : CType) (qs ss : List (At Spec)) (c : At Declr) (g : At Given) (at : ℕ) → ShowsWords (w.Static ∷ []) qs → ShowsBase p.structures b ss → Declares p.structures b c.node (Plain (Some o.name)) o.ctype → ShowsInitial p o g.node →
        item_found p.target p.roles defined (item.Decl (decl_of (qs ++ ss) c at (Some g))) now ≡ Ok (checked, behind)
    definition-found b qs ss c g at words base h shown =
        let setting = setting_of stands.AtFile (decl_of (qs ++ ss) c at (Some g)) now in
        let lead = words-found p.target p.roles setting (w.Static ∷ []) qs words (start None []) (start (Some w.Static) []) now refl in
        one-found p (structure_number p) defined now structures (qs ++ ss) c at (Some g) o.name b type (Some w.Static) [] (declares.Linked AsStatic) behind
        (behind-found p (structure_number p) defined now structures setting (Some w.Static) [] b qs ss lead base) refl
        (object-declarator p (structure_number p) defined now structures (sized p sound) o.name o.ctype fits own other c at (Some g) b h)
        (object-category p (structure_number p) defined now structures (sized p sound) o.name o.ctype fits own other c.node b (Some w.Static) h)
        (named-is at c g shown)

    pub item-found : (c : Item) → ShowsDefinition p o c → item_found p.target p.roles defined c now ≡ Ok (checked, behind)
    item-found _ (ADefinition b qs ss c g at words base h shown) = definition-found b qs ss c g at words base h shown

  -- ---- all of them

  abbrev Items : List Object → List (At Item) → Type 0
  Items os xs = ShowsExternals p (map AValue os) xs

  abbrev front : List Declared → List Declared
  front done = functions_declared p ++ done

  -- an object without first values of its own stays as it is
  nothing-given : (at : ℕ) (o : Object) → is_given o ≡ false → object_given p at o ≡ object_declared p at o
  nothing-given at o h =
      ap (λ b. record { name = Some o.name; linkage = (object_declared p at o).linkage; ctype = type_numbered (structure_number p) o.ctype; first = Some at; tentative = true; definitions = if b then 1 else 0; kind = kind.Object (map (leaf_numbered (read_numbers p)) o.init) }) h
      ∙ ap (λ ls. record { name = Some o.name; linkage = (object_declared p at o).linkage; ctype = type_numbered (structure_number p) o.ctype; first = Some at; tentative = true; definitions = 0; kind = kind.Object ls }) (no-leaves o.init (is_const o.ctype) h)
    where
      no-leaves : (ls : List Leaf) (c : Bool) → has_leaves ls || c ≡ false → map (leaf_numbered (read_numbers p)) ls ≡ []
      no-leaves [] c h = refl
      no-leaves (l ∷ ls) c h = absurd (cc)

  abbrev Finds : List Declared → List Object → List ℕ → List (At Item) → Type 0
  Finds done os ats xs = items_found p.target p.roles defined xs (unit_state p (front done ++ placed (object_declared p) ats os)) ≡ Ok (checked, unit_state p (front done ++ placed (object_given p) ats os))

  abbrev Next : List Object → Type 0
  Next os = (before : List Object) (done : List Declared) (ats : List ℕ) (xs : List (At Item)) → before ++ os ≡ p.objects → AreObjects p before done → length ats ≡ length os → Items (filter is_given os) xs → Finds done os ats xs

  shifted : (done rest : List Declared) (d : Declared) → front done ++ (d ∷ rest) ≡ front (done ++ d ∷ []) ++ rest
  shifted done rest d = sym (append_assoc (front done) (d ∷ []) rest) ∙ ap (λ ns. ns ++ rest) (append_assoc (functions_declared p) done (d ∷ []))

  module _ (before os : List Object) (o : Object) (done : List Declared) (at : ℕ) (ats : List ℕ) (parts : before ++ (o ∷ os) ≡ p.objects) (declared : AreObjects p before done) (long : length ats ≡ length os) where
    abbrev rest : List Declared
    rest = placed (object_declared p) ats os

    abbrev place : ℕ
    place = length before

    there : slice_get p.objects place ≡ Some o
    there =
        let n : place ≡ place + 0 = omega arith in
        ap (λ os. slice_get os place) (sym parts) ∙ second-there before (o ∷ os) place 0 n

    fits : is_object_type (kind_in p o.ctype) ≡ true
    fits = tested-at (is_object p) p.objects place o sound.objects there

    all-declared : AreObjects p p.objects (done ++ (object_declared p at o ∷ rest))
    all-declared =
        subst (λ os. AreObjects p os (done ++ (object_declared p at o ∷ rest))) parts
        (objects-joined p before (o ∷ os) done (object_declared p at o ∷ rest) declared (MoreObjects o os (object_declared p at o) rest (declared-is p at o) (placed-declared p ats os long)))

    joined : functions_declared p ++ (done ++ (object_declared p at o ∷ rest)) ≡ front done ++ (object_declared p at o ∷ rest)
    joined = sym (append_assoc (functions_declared p) done (object_declared p at o ∷ rest))

    one-given : is_given o ≡ true → (c : Item) → ShowsDefinition p o c →
        item_found p.target p.roles defined c (unit_state p (front done ++ (object_declared p at o ∷ rest))) ≡ Ok (checked, unit_state p (front done ++ (object_given p at o ∷ rest)))
    one-given given c h =
        let k = object-key p place o there in
        let n : length (device_names p.devices) + length (func_names p) ≤ length (device_names p.devices) + (length (func_names p) + place) = omega arith in
        item-found (front done) rest place at o fits (own-name p sound (length (device_names p.devices) + (length (func_names p) + place)) o.name k)
        (object-other p sound known defined (length (device_names p.devices) + (length (func_names p) + place)) o.name n k) there given
        (subst (λ ns. Distinct (keys ns)) joined (apart-here p sound known (done ++ (object_declared p at o ∷ rest)) all-declared))
        (subst (λ ns. KnowsStatics p (read_numbers p) (unit_state p ns)) joined (statics p sound known (done ++ (object_declared p at o ∷ rest)) all-declared)) c h

    abbrev after : List Object
    after = before ++ o ∷ []

    further : after ++ os ≡ p.objects
    further = append_assoc before (o ∷ []) os ∙ parts

    more : (d : Declared) → IsObject p o d → AreObjects p after (done ++ d ∷ [])
    more d is = objects-joined p before (o ∷ []) done (d ∷ []) declared (MoreObjects o [] d [] is NoObject)

    by-given : Next os → (b : Bool) → is_given o ≡ b → (xs : List (At Item)) → Items (cond b (o ∷ filter is_given os) (filter is_given os)) xs → Finds done (o ∷ os) (at ∷ ats) xs
    by-given next true e _ (MoreExternals _ _ c cs h r) =
        let g = object_given p at o in
        ap (λ (m : Found Checked). and_then m (in_turn (item_next p.target p.roles defined) cs)) (one-given e c.node h)
        ∙ ap (λ ns. items_found p.target p.roles defined cs (unit_state p ns)) (shifted done rest g)
        ∙ next after (done ++ g ∷ []) ats cs further (more g (given-object p at o)) long r
        ∙ ap (λ ns. Ok (checked, unit_state p ns)) (sym (shifted done (placed (object_given p) ats os) g))
    by-given next false e xs h =
        let d = object_declared p at o in
        ap (λ ns. items_found p.target p.roles defined xs (unit_state p ns)) (shifted done rest d)
        ∙ next after (done ++ d ∷ []) ats xs further (more d (declared-is p at o)) long h
        ∙ ap (λ ns. Ok (checked, unit_state p ns)) (sym (shifted done (placed (object_given p) ats os) d) ∙ ap (λ e. front done ++ (e ∷ placed (object_given p) ats os)) (sym (nothing-given at o e)))

  values-from : (os : List Object) → Next os
  values-from [] before done ats _ parts declared long NoExternal = refl
  values-from (o ∷ os) before done [] xs parts declared long h = absurd (omega (arith, long))
  values-from (o ∷ os) before done (at ∷ ats) xs parts declared long h =
      by-given before os o done at ats parts declared (omega (arith, long)) (values-from os) (is_given o) refl xs h

  pub values-found : (ats : List ℕ) (xs : List (At Item)) → length ats ≡ length p.objects → Items (filter is_given p.objects) xs → items_found p.target p.roles defined xs (unit_state p (objects_declared p ats)) ≡ Ok (checked, unit_state p (objects_given p ats))
  values-found ats xs long h =
      let none : front [] ≡ functions_declared p = append-nil (functions_declared p) in
      ap (λ ns. items_found p.target p.roles defined xs (unit_state p (ns ++ placed (object_declared p) ats p.objects))) (sym none)
      ∙ values-from p.objects [] [] ats xs refl NoObject long h
      ∙ ap (λ ns. Ok (checked, unit_state p (ns ++ placed (object_given p) ats p.objects))) none

-- An object that is given an initialiser at file scope: its entry is one of an object, whose type the definition agrees with (C99 6.2.7, 6.9.2).
use Rattle.std.proofs.Common.{◌≡◌, ◌+◌, ℕ, zero, suc, Bool, true, false, not, ◌&&◌, List, [], ◌∷◌, ◌++◌, length, Option, Some, None, Ok, refl, ap, sym, ◌∙◌, subst, arith}
use Rattle.std.proofs.lemmas.Slice.Eq.{bytes_eq-Decides}
use Rattle.std.specs.Prelude.{slice_get, if◌then◌else◌}
use Rattle.std.specs.List.{list_any}
use Rattle.std.specs.Str.{bytes_eq}
use Rattle.cc_read_sound.specs.External.{AreEntries}
use Rattle.cc_type.specs.CcInitialisers.Contents.{Contents}
use Rattle.cc_type.specs.CcInitialisers.Initialisers.{here as given_here, initialised}
use Rattle.cc_type.specs.CcLinkage.Linkage.{new_declared, declared_by}
use Rattle.cc_type.specs.CcLinkage.declared.linkage.DeclaredAs.{DeclaredAs}
use Rattle.cc_type.specs.CcObjects.Linked.{is_extern, device_by, object_kind}
use Rattle.cc_type.specs.CcObjects.Types.{contents_in, type_given, type_agrees, composite_by, is_object_in}
use Rattle.cc_type.specs.CcObjects.Values.{leaf_given, no_leaf}
use Rattle.cc_operand_types.proofs.Operands.{given, ok_is, must_ok}
use Rattle.cc_type.specs.CcOperands.Qualified.{is_function_type}
use Rattle.cc_type.specs.CcOperands.declared.rule.Rule.TheVariants as rule
use Rattle.cc_type.specs.CcTypedTerms.Primary.{leaves_or_none}
use Rattle.cc_program.proofs.Each.{Each}
use Rattle.cc_program.specs.declared.expr.Expr.{Expr}
use Rattle.cc_program.specs.declared.expr.Place.{Static}
use Rattle.cc_program.specs.declared.program.Roles.{Roles}
use Rattle.cc_program.specs.declared.types.CType.{CType}
use Rattle.cc_program.specs.declared.types.Shape.{Shape, out-Shape}
use Rattle.cc_program.specs.declared.types.Shape.TheOpen as shape
use Rattle.cc_program.specs.declared.types.Sig.{Sig}
use Rattle.cc_program.specs.declared.types.Structure.{Structure}
use Rattle.cc_program.specs.declared.value.Leaf.{Leaf}
use Rattle.cc_type.specs.CcScopes.Definitions.{defined_at}
use Rattle.cc_type.specs.CcScopes.Linked.{is_linked, has_name, linked_from, linked_name}
use Rattle.cc_type.specs.CcScopes.State.{State, Name, structures_of, layouts_of, bind, with_declared, change_name}
use Rattle.cc_type.specs.CcScopes.Verdicts.{whole, and_then}
use Rattle.cc_type.specs.CcScopes.declared.unit.Declared.{Declared}
use Rattle.cc_sound_declarations.proofs.Braces.{behind_entry}
use Rattle.cc_sound_declarations.proofs.Given.{goes_as}
use Rattle.cc_sound_declarations.proofs.Initialised.{StepFits}
use Rattle.cc_sound_declarations.proofs.Left.{IsInitialised, object_stays, values_same, declared_goes, device_stands, object_entry, initial_is, initialised_goes, initialised_stands}
use Rattle.cc_sound_declarations.proofs.Types.{completed_is}
use Rattle.cc_sound_declarations.proofs.Declaring.{declares_through, given_less}
use Rattle.cc_sound_declarations.proofs.Steps.{changed}
use Rattle.cc_sound_declarations.specs.Declaring.{DeclaresGiven}
use Rattle.cc_sound_declarations.specs.Entries.{IsEntry, IsEntryOf}
use Rattle.cc_sound_terms.proofs.Founds.{answer_is, then_found, whole_found}
use Rattle.cc_sound_terms.proofs.Growth.{get_last}
use Rattle.cc_sound_terms.specs.Behind.{SameKind, EntryKept}
use Rattle.cc_sound_terms.specs.Knowing.{KnowsStructures}
use Rattle.cc_sound_terms.specs.Standing.{IsDerived}
use Rattle.cc_type.proofs.CcSyntax.Prefixes.{both_true}
use Rattle.cc_type.proofs.CcSyntax.SameLemmas.{compared}
use Rattle.cc_type.proofs.CcSyntax.TypeLayouts.{parts_complete, complete-opens}
use Rattle.cc_type.specs.CcSpecifiers.Objects.{size_of}
use Rattle.cc_type.specs.CcSyntax.Kinds.{is_object_type, is_small}
use Rattle.cc_type.specs.CcSyntax.SameTypes.{same_type, is_func_shape}
use Rattle.cc_type.specs.CcSyntax.Types.{Named, complete_shape, is_complete}
use Rattle.cc_type.specs.CcSyntax.Views.{View, kind_in}
use Rattle.cc_tree.specs.declared.at.At.{At}
use Rattle.cc_tree.specs.declared.unit.Given.{Given}
use Rattle.cc_type.specs.CcTypedBodies.Objects.{leaves_found, linked_defined}
use Rattle.cc_type.specs.CcUnit.declared.unit.UnitKind.{UnitKind}
use Rattle.cc_type.specs.CcUnit.declared.unit.UnitKind.TheVariants as kind

some_is : {A : Type 0} (a b : A) → Some a ≡ Some b → a ≡ b
some_is a b h = cc

-- ---- the entry of a name that is known

record IsThere (x : Name) (ds : List Declared) (n : ℕ) : Type 0 where
  declared : Declared
  at : slice_get ds n ≡ Some declared
  named : declared.name ≡ Some x

same_named : (x : Name) (o : Option Name) → has_name x o ≡ true → o ≡ Some x
same_named x None h = absurd (cc)
same_named x (Some y) h = ap Some (sym ((bytes_eq-Decides x y).0 h))

record IsFound (x : Name) (ds : List Declared) (i n : ℕ) : Type 0 where
  before : ℕ
  place : n ≡ i + before
  there : IsThere x ds before

found_from : (x : Name) (ds : List Declared) (i n : ℕ) → linked_from i x ds ≡ Some n → IsFound x ds i n
found_from x [] i n h = absurd (cc)
found_from x (d ∷ ds) i n h = of_test (is_linked d.linkage && has_name x d.name) refl h (found_from x ds (suc i) n)
  where
    here : is_linked d.linkage && has_name x d.name ≡ true → i ≡ n → IsFound x (d ∷ ds) i n
    here e f =
        let b = both_true (is_linked d.linkage) (has_name x d.name) e in
        record { before = 0; place = omega (arith, f); there = record { declared = d; at = refl; named = same_named x d.name b.1 } }

    later : IsFound x ds (suc i) n → IsFound x (d ∷ ds) i n
    later f = let p = f.place in record { before = suc f.before; place = omega (arith, p); there = record { declared = f.there.declared; at = f.there.at; named = f.there.named } }

    of_test : (b : Bool) → is_linked d.linkage && has_name x d.name ≡ b → (if b then Some i else linked_from (suc i) x ds) ≡ Some n → (linked_from (suc i) x ds ≡ Some n → IsFound x ds (suc i) n) → IsFound x (d ∷ ds) i n
    of_test true e g f = here e (some_is i n g)
    of_test false e g f = later (f g)

linked_there : (x : Name) (s : State) (n : ℕ) → linked_name x s ≡ Some n → IsThere x s.names n
linked_there x s n h =
    let f = found_from x s.names 0 n h in
    let p = f.place in
    let e : f.before ≡ n = omega (arith, p) in
    subst (IsThere x s.names) e f.there

-- ---- a complete type is no function's

no_function_shape : (ss : List Structure) (y : shape.Shape-F Shape CType Sig) → complete_shape ss (parts_complete ss y) ≡ true → is_func_shape (λ sig. true) y ≡ false
no_function_shape ss (shape.Func sig) h = absurd (cc)
no_function_shape ss shape.Void h = refl
no_function_shape ss (shape.Int t) h = refl
no_function_shape ss (shape.Pointer to) h = refl
no_function_shape ss (shape.Array of n) h = refl
no_function_shape ss (shape.Struct i) h = refl

no_function : (ss : List Structure) (t : CType) → is_complete ss t ≡ true → is_function_type t ≡ false
no_function ss t h = no_function_shape ss (out-Shape t.shape) (sym (complete-opens ss t) ∙ h)

true_false : (b : Bool) → b ≡ true → b ≡ false → ⊥
true_false b e f = let c : true ≡ false = sym e ∙ f in absurd (cc)

module _ (v : View) (roles : Roles) (defined : List Name) where
  -- ---- an object that the unit defines has an entry of an object

  abbrev HasValues : UnitKind → Type 0
  HasValues k = (leaves : List Leaf) × (k ≡ kind.Object leaves)

  object_by : (x : Name) (y : Option Name) (t : CType) (k : UnitKind) → IsEntryOf v.target defined y t k → y ≡ Some x → list_any (bytes_eq x) defined ≡ true → is_function_type t ≡ false → HasValues k
  object_by x y t (kind.Object leaves) e n i f = (leaves, refl)
  object_by x y t (kind.Device d) e n i f = absurd (true_false (list_any (bytes_eq x) defined) i (e.undefined x n))
  object_by x y t (kind.Func entry body) e n i f = absurd (true_false (is_function_type t) e f)

  not_extern : (a b : Bool) → b ≡ true → a && not b ≡ false
  not_extern true true h = refl
  not_extern false true h = refl
  not_extern a false h = absurd (cc)

  no_device : (x : Name) (t : CType) (y : shape.Shape-F Shape CType Sig) → HasValues (device_by x t false y)
  no_device x t shape.Void = ([], refl)
  no_device x t (shape.Int i) = ([], refl)
  no_device x t (shape.Pointer to) = ([], refl)
  no_device x t (shape.Array of n) = ([], refl)
  no_device x t (shape.Struct i) = ([], refl)
  no_device x t (shape.Func sig) = ([], refl)

  new_object : (asked : DeclaredAs) (x : Name) (t : CType) → list_any (bytes_eq x) defined ≡ true → HasValues (object_kind defined asked x t)
  new_object asked x t h =
      subst (λ (b : Bool). HasValues (device_by x t b (out-Shape t.shape))) (sym (not_extern (is_extern asked) (list_any (bytes_eq x) defined) h)) (no_device x t (out-Shape t.shape))

  -- ---- a definition, of a name that is declared

  record Agrees (u w t : CType) : Type 0 where
    given : u ≡ t
    type : w ≡ u

  type_is : (t u : CType) → given t ≡ Ok u → t ≡ u
  type_is t u h = ok_is h

  agrees_is : (u w : CType) (o : Option Declared) (d : Declared) → o ≡ Some d → type_agrees u o ≡ Ok w → Agrees u w d.ctype
  agrees_is u w None d e h = absurd (cc)
  agrees_is u w (Some c) d e h =
      let m = must_ok (same_type u c.ctype) rule.DeclaredTwice (Ok u) w h in
      record { given = (compared u).same c.ctype m.0 ∙ ap (λ (z : Declared). z.ctype) (some_is c d e); type = sym (type_is u w m.1) }

  pub record IsDefinition (P : Type 0) (D : List Named) (at n : ℕ) (t u : CType) (g : At Given) (s : State) (r : List Expr × State) : Type 0 where
    pub values : List Leaf × State
    pub found : leaves_found v.target roles at n t u g s ≡ Ok values
    pub initial : IsInitialised v roles defined (List Leaf) t u (Static n) s values
    pub type : CType
    pub same : type ≡ u
    pub entry : Declared
    pub there : slice_get values.1.names n ≡ Some entry
    pub last : r.1 ≡ change_name n (defined_at at type (kind.Object (leaves_or_none values.0))) values.1
    pub filled : DeclaresGiven v defined P s D values.1 D
    pub closed : DeclaresGiven v defined P values.1 D r.1 D

  definition_goes : (P : Type 0) (D : List Named) (at n : ℕ) (t u : CType) (g : At Given) (s : State) (r : List Expr × State) (d : Declared) → slice_get s.names n ≡ Some d → (is_function_type d.ctype ≡ false → HasValues d.kind) →
      ((c : Contents) → Each StepFits (initialised c (given_here g))) → linked_defined v.target roles at t u n g s ≡ Ok r → IsDefinition P D at n t u g s r
  definition_goes P D at n t u g s r d there object f h =
      let a = then_found (leaves_found v.target roles at n t u g s) (λ values s. and_then (whole at s (type_agrees u (slice_get s.names n))) (λ u s. Ok ([], change_name n (defined_at at u (kind.Object (leaves_or_none values))) s))) r h in
      let i = initial_is v roles defined Leaf (leaf_given v.target) no_leaf at (Static n) t u u g s a.0 (f (contents_in u s)) a.1 in
      let filled = initialised_goes v roles defined P (List Leaf) t u (Static n) s a.0 D i in
      let leaves = leaves_or_none a.0.0 in
      let b = then_found (whole at a.0.1 (type_agrees u (slice_get a.0.1.names n))) (λ u s. Ok ([], change_name n (defined_at at u (kind.Object leaves)) s)) r a.2 in
      let c = whole_found at a.0.1 (type_agrees u (slice_get a.0.1.names n)) b.0 b.1 in
      let change = defined_at at b.0.0 (kind.Object leaves) in
      let e = answer_is [] (change_name n change b.0.1) r b.2 in
      let end = change_name n change a.0.1 in
      let same : r.1 ≡ end = e.1 ∙ ap (change_name n change) c.1 in
      let l = filled.names n d there in
      let agree = agrees_is u b.0.0 (slice_get a.0.1.names n) l.0 l.1 c.0 in
      let w = completed_is v t u i.type i.middle i.completed in
      let complete = both_true (is_complete (structures_of i.middle) u) (is_small (size_of v.target (structures_of i.middle) (layouts_of i.middle) u)) w.1 in
      let plain : is_function_type d.ctype ≡ false = sym (ap is_function_type (agree.given ∙ l.2.ctype)) ∙ no_function (structures_of i.middle) u complete.0 in
      let o = object plain in
      let before = object_stays o.0 l.0.kind (subst (λ (z : UnitKind). SameKind z l.0.kind) o.1 l.2.kind) in
      record {
        values = a.0;
        found = a.1;
        initial = i;
        type = b.0.0;
        same = agree.type;
        entry = l.0;
        there = l.1;
        last = same;
        filled = filled;
        closed = goes_as v defined P D D a.0.1 end r.1 same (changed v defined P n change a.0.1 D (λ y k. kept leaves l.0 y b.0.0 at before (some_is l.0 y (sym l.1 ∙ k)) (agree.type ∙ agree.given)));
      }
    where
      kept : (leaves : List Leaf) (l y : Declared) (w : CType) (at : ℕ) → HasValues l.kind → l ≡ y → w ≡ l.ctype → EntryKept y (defined_at at w (kind.Object leaves) y)
      kept leaves l y w at k e c = subst (λ (z : Declared). EntryKept z (defined_at at w (kind.Object leaves) z)) e (record { name = refl; ctype = c; kind = values_same leaves k.0 l.kind k.1 })

  none_is : (i : ℕ) → Some i ≡ None → ⊥
  none_is i h = cc

  -- ---- an object with linkage that is given an initialiser

  module _ (D : List Named) (at : ℕ) (asked : DeclaredAs) (x : Name) (t : CType) (g : At Given) (s : State) where
    -- its type, where it is known by that number, or new
    abbrev pub type_by : Option ℕ → CType
    type_by o = type_given (composite_by x t s o) (Some g) s

    abbrev pub known_by : Option ℕ → ℕ × State
    known_by o = declared_by x asked (type_by o) (object_kind defined asked x (type_by o)) s o

    pub external_definition : (P : Type 0) (o : Option ℕ) (r : List Expr × State) → linked_name x s ≡ o → AreEntries v.target defined s.names → list_any (bytes_eq x) defined ≡ true → ((c : Contents) → Each StepFits (initialised c (given_here g))) →
        linked_defined v.target roles at (composite_by x t s o) (type_by o) (known_by o).0 g (known_by o).1 ≡ Ok r → IsDefinition P D at (known_by o).0 (composite_by x t s o) (type_by o) g (known_by o).1 r
    external_definition P (Some n) r known entries i f h =
        let there = linked_there x s n known in
        definition_goes P D at n (composite_by x t s (Some n)) (type_by (Some n)) g (known_by (Some n)).1 r there.declared there.at (object_by x there.declared.name there.declared.ctype there.declared.kind (entries n there.declared there.at) there.named i) f h
    external_definition P None r known entries i f h =
        let d = new_declared x asked (type_by None) (object_kind defined asked x (type_by None)) in
        definition_goes P D at (length s.names) t (type_by None) g (known_by None).1 r d (get_last s.names d) (λ e. new_object asked x (type_by None) i) f h

    pub external_some : (o : Option ℕ) (r : List Expr × State) → linked_name x s ≡ o → AreEntries v.target defined s.names → list_any (bytes_eq x) defined ≡ true → ((c : Contents) → Each StepFits (initialised c (given_here g))) →
        linked_defined v.target roles at (composite_by x t s o) (type_by o) (known_by o).0 g (known_by o).1 ≡ Ok r → DeclaresGiven v defined (IsDerived v false true t) s D r.1 D
    external_some (Some n) r known entries i f h =
        let P = IsDerived v false true t in
        let u = type_by (Some n) in
        let start = (known_by (Some n)).1 in
        let d = external_definition P (Some n) r known entries i f h in
        declares_through v defined P s start r.1 D D D
        (declared_goes v roles defined P D x asked u (object_kind defined asked x u) s (Some n) (object_entry v roles defined P D asked x u) (λ e p k. absurd (none_is n e)))
        (declares_through v defined P start d.values.1 r.1 D D D d.filled d.closed)
    external_some None r known entries i f h =
        let u = type_by None in
        let Q = is_object_type (kind_in v u) ≡ true in
        let start = (known_by None).1 in
        let d = external_definition Q None r known entries i f h in
        let P = IsDerived v false true t in
        let plain = external_definition P None r known entries i f h in
        given_less v defined P Q s r.1 D D
        (λ p w. initialised_stands v roles defined (List Leaf) t g (Static (length s.names)) start s d.values d.initial p (subst (λ (z : State). KnowsStructures v z.structures) d.last w.structures))
        (behind_entry v defined P (new_declared x asked u (object_kind defined asked x u)) x s r.1 D D (declares_through v defined P start plain.values.1 r.1 D D D plain.filled plain.closed))
        (declares_through v defined Q s start r.1 D D D
        (declared_goes v roles defined Q D x asked u (object_kind defined asked x u) s None (object_entry v roles defined Q D asked x u) (λ e q w. device_stands v roles defined Q D x u (is_extern asked && not (list_any (bytes_eq x) defined)) (out-Shape u.shape) q))
        (declares_through v defined Q start d.values.1 r.1 D D D d.filled d.closed))

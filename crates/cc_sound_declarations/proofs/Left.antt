-- What each kind of name leaves, where its type may stand: a typedef, a function, an object.
use Rattle.std.proofs.Common.{◌≡◌, ℕ, Bool, true, false, ◌&&◌, List, [], ◌∷◌, ◌++◌, length, Option, Some, None, Ok, refl, ap, sym, ◌∙◌, subst}
use Rattle.std.specs.Prelude.{not, slice_get, if◌then◌else◌}
use Rattle.std.specs.List.{list_any}
use Rattle.std.specs.Str.{bytes_eq}
use Rattle.cc_typed_bodies.specs.CcInitialisers.Contents.{Contents}
use Rattle.cc_typed_bodies.specs.CcInitialisers.Initialisers.{here as given_here, initialised}
use Rattle.cc_typed_bodies.specs.CcInitialisers.Scalars.{scalars_from}
use Rattle.cc_typed_bodies.specs.CcLinkage.Linkage.{new_declared, declared_by, declared}
use Rattle.cc_typed_bodies.specs.CcLinkage.declared.linkage.DeclaredAs.{DeclaredAs}
use Rattle.cc_typed_bodies.specs.CcLinkage.declared.linkage.DeclaredAs.TheVariants.{AsStatic, AsObject, AsExtern}
use Rattle.cc_typed_bodies.specs.CcObjects.Linked.{device_by, is_extern, object_kind, static_object, with_static, with_automatic}
use Rattle.cc_typed_bodies.specs.CcObjects.Types.{contents_in, type_given, given_incomplete, completed_type, composite_by, is_complete_or_unbounded}
use Rattle.cc_typed_bodies.specs.CcObjects.Values.{leaf_given, expr_given, no_leaf, no_expr, assignments}
use Rattle.cc_typed_bodies.specs.CcOperands.Operands.{Operand}
use Rattle.cc_typed_bodies.specs.CcOperands.Qualified.{is_function_type, without_const}
use Rattle.cc_typed_bodies.specs.CcOperands.Verdicts.{Judged}
use Rattle.cc_typed_bodies.specs.CcOperands.declared.rule.Rule.TheVariants as rule
use Rattle.cc_typed_bodies.specs.CcSyntax.Views.{View, kind_in}
use Rattle.cc_typed_bodies.specs.CcTypedTerms.Primary.{is_intrinsic, leaves_or_none}
use Rattle.cc_program.proofs.Each.{Each}
use Rattle.cc_program.specs.declared.expr.Expr.{Expr}
use Rattle.cc_program.specs.declared.expr.Place.{Place, Local, Static}
use Rattle.cc_program.specs.declared.func.Entry.{Entry}
use Rattle.cc_program.specs.declared.program.Roles.{Roles}
use Rattle.cc_program.specs.declared.types.CType.{CType}
use Rattle.cc_program.specs.declared.types.Shape.{Shape, Array, out-Shape}
use Rattle.cc_program.specs.declared.types.Shape.TheOpen as shape
use Rattle.cc_program.specs.declared.types.Sig.{Sig}
use Rattle.cc_program.specs.declared.value.Leaf.{Leaf}
use Rattle.cc_typed_bodies.specs.CcScopes.Definitions.{tentative_at, entry_added, with_entry, with_values}
use Rattle.cc_typed_bodies.specs.CcScopes.Linked.{linked_name}
use Rattle.cc_typed_bodies.specs.CcScopes.State.{State, Name, bind, with_declared, with_unfinished, change_name}
use Rattle.cc_typed_bodies.specs.CcScopes.Verdicts.{whole, and_then}
use Rattle.cc_typed_bodies.specs.CcScopes.declared.designated.Designated.TheVariants as means
use Rattle.cc_typed_bodies.specs.CcScopes.declared.unit.Declared.{Declared}
use Rattle.cc_sound_declarations.specs.Entries.{IsEntryOf}
use Rattle.cc_sound_declarations.specs.Declaring.{AreDeclared, DeclaresGiven}
use Rattle.cc_sound_declarations.proofs.Declaring.{declares_itself, declares_through, of_extends}
use Rattle.cc_sound_declarations.proofs.Steps.{named, changed, unfinished, bound, automatic}
use Rattle.cc_sound_terms.specs.Behind.{KindStands, SigStands, Extends, SameKind, Objects, Devices, Functions, EntryKept, NamesKept}
use Rattle.cc_sound_terms.specs.Knowing.{Stands, KnowsStructures}
use Rattle.cc_sound_terms.specs.Standing.{IsDerived}
use Rattle.cc_sound_terms.specs.Typing.{KnowsTypes}
use Rattle.cc_sound_terms.proofs.Founds.{answer_is, then_found, whole_found}
use Rattle.cc_sound_terms.proofs.Growth.{get_last}
use Rattle.cc_typed_bodies.specs.CcSpecifiers.Attributes.{entry_by}
use Rattle.cc_typed_bodies.specs.CcSpecifiers.Declarators.{is_unbounded}
use Rattle.cc_typed_bodies.specs.CcSpecifiers.Modes.{modes_judged}
use Rattle.cc_typed_bodies.specs.CcSpecifiers.declared.attribute.Attribute.{Attribute}
use Rattle.cc_typed_bodies.specs.CcSyntax.Kinds.{is_object_type}
use Rattle.cc_typed_bodies.specs.CcSyntax.Types.{Named}
use Rattle.cc_typed_bodies.proofs.CcSyntax.Prefixes.{both_true}
use Rattle.cc_typed_bodies.specs.CcSyntax.Values.{ValueType}
use Rattle.cc_tree.specs.declared.at.At.{At}
use Rattle.cc_tree.specs.declared.unit.Given.{Given}
use Rattle.cc_typed_bodies.specs.Functions.{typedef_left, with_function, function_refused, function_left}
use Rattle.cc_typed_bodies.specs.Objects.{initial_values, leaves_found, exprs_found, linked_given, linked_known, static_left, automatic_left}
use Rattle.cc_typed_bodies.specs.Plans.{steps_done}
use Rattle.cc_typed_bodies.specs.CcUnit.Entries.{both_entries}
use Rattle.cc_typed_bodies.specs.CcUnit.declared.unit.UnitKind.{UnitKind}
use Rattle.cc_typed_bodies.specs.CcUnit.declared.unit.UnitKind.TheVariants as kind
use Rattle.cc_sound_declarations.proofs.Braces.{behind_entry, behind_object}
use Rattle.cc_sound_declarations.proofs.Given.{Leaves, goes_as, left_as, one_left, less}
use Rattle.cc_sound_terms.proofs.Closings.{closings_alike, closings_itself}
use Rattle.cc_sound_declarations.proofs.Initialised.{StepFits, steps_extend, broken_last}
use Rattle.cc_sound_declarations.proofs.Types.{complete_stands, plainly_derived, given_stands, modes_stand}

-- ---- entries

added_same : (entry : Option Entry) (k : UnitKind) → SameKind k (entry_added entry k)
added_same entry (kind.Func before body) = Functions before (both_entries before entry) body body
added_same entry (kind.Object leaves) = Objects leaves leaves
added_same entry (kind.Device d) = Devices d

pub entry_with : (entry : Option Entry) (d : Declared) → EntryKept d (with_entry entry d)
entry_with entry d = record { name = refl; ctype = refl; kind = added_same entry d.kind }

kind_itself : (k : UnitKind) → SameKind k k
kind_itself (kind.Object leaves) = Objects leaves leaves
kind_itself (kind.Device d) = Devices d
kind_itself (kind.Func entry body) = Functions entry entry body body

pub tentative_kept : (at : ℕ) (d : Declared) → EntryKept d (tentative_at at d)
tentative_kept at d = record { name = refl; ctype = refl; kind = kind_itself d.kind }

-- an object stays one
pub object_stays : (before : List Leaf) (k : UnitKind) → SameKind (kind.Object before) k → (after : List Leaf) × (k ≡ kind.Object after)
object_stays before _ (Objects _ after) = (after, refl)

pub values_same : (leaves before : List Leaf) (k : UnitKind) → k ≡ kind.Object before → SameKind k (kind.Object leaves)
values_same leaves before k e = subst (λ (z : UnitKind). SameKind z (kind.Object leaves)) (sym e) (Objects before leaves)

some_is : {A : Type 0} (a b : A) → Some a ≡ Some b → a ≡ b
some_is a b h = cc

-- an entry that was an object is told its first values
pub values_kept : (xs ys : List Declared) (n : ℕ) (first : Declared) (before leaves : List Leaf) → NamesKept xs ys → slice_get xs n ≡ Some first → first.kind ≡ kind.Object before → (d : Declared) → slice_get ys n ≡ Some d → EntryKept d (with_values leaves d)
values_kept xs ys n first before leaves k e f d g =
    let l = k n first e in
    let same : l.0 ≡ d = some_is l.0 d (sym l.1 ∙ g) in
    let o = object_stays before d.kind (subst (λ (z : UnitKind). SameKind z d.kind) f (subst (λ (y : Declared). SameKind first.kind y.kind) same l.2.kind)) in
    record { name = refl; ctype = refl; kind = values_same leaves o.0 d.kind o.1 }

type_named_is : (t u : CType) → means.TypeNamed t ≡ means.TypeNamed u → t ≡ u
type_named_is t u h = cc

module _ (v : View) (roles : Roles) (defined : List Name) where
  -- ---- typedefs

  pub typedef_goes : (at : ℕ) (x : Name) (t : CType) (marks : List (At (List Attribute))) (D : List Named) (s : State) (r : List Expr × State) → typedef_left v.target at x t marks s ≡ Ok r → DeclaresGiven v defined (IsDerived v false false t) s D r.1 D
  typedef_goes at x t marks D s r h =
      let a = then_found (whole at s (modes_judged v.target marks t)) (λ t s. Ok ([], bind x (means.TypeNamed t) s)) r h in
      let e = whole_found at s (modes_judged v.target marks t) a.0 a.1 in
      let b = answer_is [] (bind x (means.TypeNamed a.0.0) a.0.1) r a.2 in
      goes_as v defined (IsDerived v false false t) D D s (bind x (means.TypeNamed a.0.0) s) r.1 (b.1 ∙ ap (bind x (means.TypeNamed a.0.0)) e.1)
      (bound v defined (IsDerived v false false t) x (means.TypeNamed a.0.0) s D
      (λ p k w q. subst (Stands v) (type_named_is a.0.0 w q) (modes_stand v marks t a.0.0 e.0 (plainly_derived v t p))) tt)

  pub typedef_leaves : (at : ℕ) (x : Name) (t : CType) (marks : List (At (List Attribute))) (D : List Named) (s : State) (r : List Expr × State) → typedef_left v.target at x t marks s ≡ Ok r → Leaves v defined (IsDerived v false false t) D s r.1
  typedef_leaves at x t marks D s r h = one_left v defined (IsDerived v false false t) D s r.1 (typedef_goes at x t marks D s r h)

  -- ---- names with linkage

  linked_absurd : (i : ℕ) (w : CType) → means.Linked i ≡ means.TypeNamed w → ⊥
  linked_absurd i w h = cc

  module _ (P : Type 0) (D : List Named) where
    abbrev pub Goes : State → State → Type 0
    Goes s t = DeclaresGiven v defined P s D t D

    pub bound_linked : (x : Name) (i : ℕ) (s : State) → Goes s (bind x (means.Linked i) s)
    bound_linked x i s = bound v defined P x (means.Linked i) s D (λ p k w q. absurd (linked_absurd i w q)) tt

    -- a new one has a type that stands
    pub declared_goes : (x : Name) (asked : DeclaredAs) (t : CType) (k : UnitKind) (s : State) (o : Option ℕ) → IsEntryOf v.target defined (Some x) t k → (o ≡ None → P → KnowsTypes v s (declared_by x asked t k s o).1 → KindStands v t k) → Goes s (declared_by x asked t k s o).1
    declared_goes x asked t k s (Some i) n f = bound_linked x i s
    declared_goes x asked t k s None n f =
        let d = new_declared x asked t k in
        let t1 = with_declared d s in
        declares_through v defined P s t1 (bind x (means.Linked (length s.names)) t1) D D D
        (named v defined P d s D n (λ p w. f refl p (record { structures = w.structures; types = w.types; tags = w.tags })))
        (bound_linked x (length s.names) t1)

    -- ---- functions

    pub function_goes : (entry : Option Entry) (x : Name) (asked : DeclaredAs) (t : CType) (s : State) → is_function_type t ≡ true → (P → SigStands v (out-Shape t.shape)) → Goes s (with_function entry (declared x asked t (kind.Func None None) s))
    function_goes entry x asked t s n f =
        let known = declared x asked t (kind.Func None None) s in
        declares_through v defined P s known.1 (change_name known.0 (with_entry entry) known.1) D D D
        (declared_goes x asked t (kind.Func None None) s (linked_name x s) n (λ e p w. f p))
        (changed v defined P known.0 (with_entry entry) known.1 D (λ d e. entry_with entry d))

    pub refused_leaves : (value : Option (At Given)) (s : State) (r : List Expr × State) → function_refused v.target roles value s ≡ Ok r → r.1 ≡ s
    refused_leaves None s r h = (answer_is [] s r h).1
    refused_leaves (Some g) s r h = absurd (broken_last v roles Expr (expr_given v.target) no_expr (given_here g).node.visited (given_here g).at rule.InitialiserShape [] s r h)

    function_if : (b : Bool) (value : Option (At Given)) (s t : State) (r : List Expr × State) → Goes s t → (if b then function_refused v.target roles value s else function_refused v.target roles value t) ≡ Ok r → Goes s r.1
    function_if true value s t r g h = goes_as v defined P D D s s r.1 (refused_leaves value s r h) (declares_itself v defined P s D)
    function_if false value s t r g h = goes_as v defined P D D s t r.1 (refused_leaves value t r h) g

    pub function_stays : (asked : DeclaredAs) (x : Name) (t : CType) (marks : List (At (List Attribute))) (value : Option (At Given)) (s : State) (r : List Expr × State) → is_function_type t ≡ true → (P → SigStands v (out-Shape t.shape)) →
        function_left v.target roles asked x t marks value s ≡ Ok r → Goes s r.1
    function_stays asked x t marks value s r n f h =
        function_if (is_intrinsic roles x) value s (with_function (entry_by marks) (declared x asked t (kind.Func None None) s)) r (function_goes (entry_by marks) x asked t s n f) h

    pub function_leaves : (asked : DeclaredAs) (x : Name) (t : CType) (marks : List (At (List Attribute))) (value : Option (At Given)) (s : State) (r : List Expr × State) → is_function_type t ≡ true → (P → SigStands v (out-Shape t.shape)) →
        function_left v.target roles asked x t marks value s ≡ Ok r → Leaves v defined P D s r.1
    function_leaves asked x t marks value s r n f h = one_left v defined P D s r.1 (function_stays asked x t marks value s r n f h)

    -- ---- objects with linkage that are given no initialiser

    pub device_stands : (x : Name) (t : CType) (good : Bool) (y : shape.Shape-F Shape CType Sig) → is_object_type (kind_in v t) ≡ true → KindStands v t (device_by x t good y)
    device_stands x t good (shape.Int i) h = of_test (good && t.volatile)
      where
        of_test : (b : Bool) → KindStands v t (if b then kind.Device (record { name = Some x; number = 0; int = i; constant = t.constant }) else kind.Object [])
        of_test true = tt
        of_test false = h
    device_stands x t good shape.Void h = h
    device_stands x t good (shape.Pointer to) h = h
    device_stands x t good (shape.Array of n) h = h
    device_stands x t good (shape.Struct i) h = h
    device_stands x t good (shape.Func sig) h = h

    -- a device is what the unit does not define
    not_true : (b : Bool) → not b ≡ true → b ≡ false
    not_true false h = refl
    not_true true h = absurd (cc)

    name_is : (x y : Name) → Some x ≡ Some y → x ≡ y
    name_is x y h = cc

    device_entry : (x : Name) (t : CType) (good : Bool) (y : shape.Shape-F Shape CType Sig) → out-Shape t.shape ≡ y → (good ≡ true → list_any (bytes_eq x) defined ≡ false) → IsEntryOf v.target defined (Some x) t (device_by x t good y)
    device_entry x t good (shape.Int i) e f = of_test (good && t.volatile) refl
      where
        of_test : (b : Bool) → good && t.volatile ≡ b → IsEntryOf v.target defined (Some x) t (if b then kind.Device (record { name = Some x; number = 0; int = i; constant = t.constant }) else kind.Object [])
        of_test true g =
            let c = both_true good t.volatile g in
            record { fits = refl; named = refl; int = e; constant = refl; volatile = c.1; undefined = λ z k. ap (λ (n : Name). list_any (bytes_eq n) defined) (sym (name_is x z k)) ∙ f c.0 }
        of_test false g = tt
    device_entry x t good shape.Void e f = tt
    device_entry x t good (shape.Pointer to) e f = tt
    device_entry x t good (shape.Array of n) e f = tt
    device_entry x t good (shape.Struct i) e f = tt
    device_entry x t good (shape.Func sig) e f = tt

    pub object_entry : (asked : DeclaredAs) (x : Name) (t : CType) → IsEntryOf v.target defined (Some x) t (object_kind defined asked x t)
    object_entry asked x t =
        device_entry x t (is_extern asked && not (list_any (bytes_eq x) defined)) (out-Shape t.shape) refl
        (λ g. not_true (list_any (bytes_eq x) defined) (both_true (is_extern asked) (not (list_any (bytes_eq x) defined)) g).1)

    linked_none : (asked : DeclaredAs) (at : ℕ) (t u : CType) (n : ℕ) (s : State) (r : List Expr × State) → linked_given v.target roles at asked t u n None s ≡ Ok r → Goes s r.1
    linked_none AsExtern at t u n s r h = goes_as v defined P D D s s r.1 (answer_is [] s r h).1 (declares_itself v defined P s D)
    linked_none AsStatic at t u n s r h = goes_as v defined P D D s (change_name n (tentative_at at) s) r.1 (answer_is [] (change_name n (tentative_at at) s) r h).1
        (changed v defined P n (tentative_at at) s D (λ d e. tentative_kept at d))
    linked_none AsObject at t u n s r h = goes_as v defined P D D s (change_name n (tentative_at at) s) r.1 (answer_is [] (change_name n (tentative_at at) s) r h).1
        (changed v defined P n (tentative_at at) s D (λ d e. tentative_kept at d))

    -- the composite type is told of a name that is known alone
    pub composite_new : (x : Name) (t : CType) (s : State) (o : Option ℕ) → o ≡ None → composite_by x t s o ≡ t
    composite_new x t s None e = refl
    composite_new x t s (Some i) e = absurd (cc)

    pub linked_goes : (at : ℕ) (asked : DeclaredAs) (x : Name) (t w : CType) (s : State) (o : Option ℕ) (r : List Expr × State) → (P → KnowsStructures v s.structures → is_object_type (kind_in v t) ≡ true) →
        linked_known v.target roles at asked w (composite_by x t s o) None (declared_by x asked (composite_by x t s o) (object_kind defined asked x (composite_by x t s o)) s o) ≡ Ok r → Goes s r.1
    linked_goes at asked x t w s o r f h =
        let u = composite_by x t s o in
        let known = declared_by x asked u (object_kind defined asked x u) s o in
        declares_through v defined P s known.1 r.1 D D D
        (declared_goes x asked u (object_kind defined asked x u) s o (object_entry asked x u)
        (λ i p k. device_stands x u (is_extern asked && not (list_any (bytes_eq x) defined)) (out-Shape u.shape)
        (ap (λ (z : CType). is_object_type (kind_in v z)) (composite_new x t s o i)
        ∙ f p (subst (λ (c : Option ℕ). KnowsStructures v (declared_by x asked (composite_by x t s c) (object_kind defined asked x (composite_by x t s c)) s c).1.structures) i k.structures))))
        (linked_none asked at w u known.0 known.1 r h)

    pub linked_by_none : (at : ℕ) (asked : DeclaredAs) (x : Name) (t w : CType) (s : State) (o : Option ℕ) (r : List Expr × State) → (P → KnowsStructures v s.structures → is_object_type (kind_in v t) ≡ true) →
        linked_known v.target roles at asked w (composite_by x t s o) None (declared_by x asked (composite_by x t s o) (object_kind defined asked x (composite_by x t s o)) s o) ≡ Ok r → Leaves v defined P D s r.1
    linked_by_none at asked x t w s o r f h = one_left v defined P D s r.1 (linked_goes at asked x t w s o r f h)

  -- ---- what an initialiser gives

  pub record IsInitialised (X : Type 0) (t u : CType) (a : Place) (s : State) (r : X × State) : Type 0 where
    pub middle : State
    pub grown : Extends v (given_incomplete t a s) middle
    pub type : CType
    pub completed : completed_type v.target t u middle ≡ Ok type
    pub last : r.1 ≡ with_unfinished None middle

  module _ (X : Type 0) (given : Bool → ValueType → Operand → State → Judged X) (zero_of : Bool → ValueType → Judged X) where
    pub initial_is : (at : ℕ) (a : Place) (t u own : CType) (g : At Given) (s : State) (r : List X × State) → Each StepFits (initialised (contents_in own s) (given_here g)) → initial_values v.target roles X given zero_of at a t u own g s ≡ Ok r →
        IsInitialised (List X) t u a s r
    initial_is at a t u own g s r f h =
        let steps = initialised (contents_in own s) (given_here g) in
        let b = then_found (steps_done v.target roles X given zero_of steps (given_incomplete t a s)) (λ xs s. and_then (whole at s (completed_type v.target t u s)) (λ u s. Ok (xs, with_unfinished None s))) r h in
        let c = then_found (whole at b.0.1 (completed_type v.target t u b.0.1)) (λ u s. Ok (b.0.0, with_unfinished None s)) r b.2 in
        let d = whole_found at b.0.1 (completed_type v.target t u b.0.1) c.0 c.1 in
        let e = answer_is b.0.0 (with_unfinished None c.0.1) r c.2 in
        record {
          middle = b.0.1;
          grown = steps_extend v roles X given zero_of steps f (given_incomplete t a s) b.0 b.1;
          type = c.0.0;
          completed = d.0;
          last = e.1 ∙ ap (with_unfinished None) d.1;
        }

  pub begun : (P : Type 0) (b : Bool) (a : Place) (s : State) (D : List Named) → DeclaresGiven v defined P s D (if b then with_unfinished (Some a) s else s) D
  begun P true a s D = unfinished v defined P (Some a) s D
  begun P false a s D = declares_itself v defined P s D

  pub initialised_goes : (P X : Type 0) (t u : CType) (a : Place) (s : State) (r : X × State) (D : List Named) → IsInitialised X t u a s r → DeclaresGiven v defined P s D r.1 D
  initialised_goes P X t u a s r D i =
      subst (λ (z : State). DeclaresGiven v defined P s D z D) (sym i.last)
      (declares_through v defined P s i.middle (with_unfinished None i.middle) D D D
      (declares_through v defined P s (given_incomplete t a s) i.middle D D D (begun P (is_unbounded t) a s D) (of_extends v defined P (given_incomplete t a s) i.middle D i.grown))
      (unfinished v defined P None i.middle D))

  -- its type stands, by what is judged at the end
  pub initialised_stands : (X : Type 0) (t : CType) (g : At Given) (a : Place) (s before : State) (r : X × State) → IsInitialised X t (type_given t (Some g) before) a s r → IsDerived v false true t → KnowsStructures v r.1.structures →
      is_object_type (kind_in v (type_given t (Some g) before)) ≡ true
  initialised_stands X t g a s before r i d k =
      given_stands v t g before i.middle i.type d (subst (λ (z : State). KnowsStructures v z.structures) i.last k) i.completed

  -- ---- static objects of a block

  module _ (D : List Named) where
    pub static_goes : (P : Type 0) (at : ℕ) (x : Name) (u : CType) (s : State) → (P → is_object_type (kind_in v u) ≡ true) → DeclaresGiven v defined P s D (with_static at x u s) D
    static_goes P at x u s f =
        let d = static_object at x u in
        let t = with_declared d s in
        declares_through v defined P s t (bind x (means.Linked (length s.names)) t) D D D (named v defined P d s D tt (λ p k. f p)) (bound_linked P D x (length s.names) t)

    pub static_none : (at : ℕ) (x : Name) (t : CType) (s : State) (r : List Expr × State) → is_complete_or_unbounded v.target s t ≡ true → static_left v.target roles at x t None s ≡ Ok r → Leaves v defined (IsDerived v false false t) D s r.1
    static_none at x t s r c h =
        let e = answer_is [] (with_static at x t s) r h in
        less v defined (IsDerived v false false t) (is_object_type (kind_in v t) ≡ true) D s r.1
        (λ p k. complete_stands v t s (subst (λ (z : State). KnowsStructures v z.structures) e.1 k.structures) (plainly_derived v t p) c)
        (closings_itself v (IsDerived v false false t) s r.1 (ap (λ (z : State). z.structures) e.1))
        (left_as v defined (is_object_type (kind_in v t) ≡ true) D s (with_static at x t s) r.1 e.1 (one_left v defined (is_object_type (kind_in v t) ≡ true) D s (with_static at x t s) (static_goes (is_object_type (kind_in v t) ≡ true) at x t s (λ p. p))))

    pub static_some : (at : ℕ) (x : Name) (t : CType) (g : At Given) (s : State) (r : List Expr × State) → ((c : Contents) → Each StepFits (initialised c (given_here g))) → static_left v.target roles at x t (Some g) s ≡ Ok r →
        Leaves v defined (IsDerived v false true t) D s r.1
    static_some at x t g s r f h =
        let u = type_given t (Some g) s in
        let n = length s.names in
        let start = with_static at x u s in
        let a = then_found (leaves_found v.target roles at n t u g start) (λ values s. Ok ([], change_name n (with_values (leaves_or_none values)) s)) r h in
        let i = initial_is Leaf (leaf_given v.target) no_leaf at (Static n) t u u g start a.0 (f (contents_in u start)) a.1 in
        let Q = is_object_type (kind_in v u) ≡ true in
        let filled = initialised_goes Q (List Leaf) t u (Static n) start a.0 D i in
        let end = change_name n (with_values (leaves_or_none a.0.0)) a.0.1 in
        let e = answer_is [] end r a.2 in
        let P = IsDerived v false true t in
        let closings = behind_entry v defined P (static_object at x u) x s a.0.1 D D (initialised_goes P (List Leaf) t u (Static n) start a.0 D i) in
        less v defined P Q D s r.1
        (λ p k. initialised_stands (List Leaf) t g (Static n) start s a.0 i p (subst (λ (z : State). KnowsStructures v z.structures) e.1 k.structures))
        (closings_alike v P s a.0.1 r.1 (ap (λ (z : State). z.structures) e.1) (ap (λ (z : State). z.completed) e.1) closings)
        (left_as v defined Q D s end r.1 e.1 (one_left v defined Q D s end
        (declares_through v defined Q s a.0.1 end D D D
        (declares_through v defined Q s start a.0.1 D D D (static_goes Q at x u s (λ p. p)) filled)
        (changed v defined Q n (with_values (leaves_or_none a.0.0)) a.0.1 D
        (λ d j. values_kept start.names a.0.1.names n (static_object at x u) [] (leaves_or_none a.0.0) filled.names (get_last s.names (static_object at x u)) refl d j)))))

    -- ---- automatic objects

    pub automatic_none : (k : ℕ) → (at : ℕ) (x : Name) (t : CType) (s : State) (r : List Expr × State) → AreDeclared k D s → is_complete_or_unbounded v.target s t ≡ true → automatic_left v.target roles at x t None s ≡ Ok r → Leaves v defined (IsDerived v false false t) D s r.1
    automatic_none k at x t s r d c h =
        let e = answer_is [] (with_automatic x t s) r h in
        less v defined (IsDerived v false false t) (is_object_type (kind_in v t) ≡ true) D s r.1
        (λ p w. complete_stands v t s (subst (λ (z : State). KnowsStructures v z.structures) e.1 w.structures) (plainly_derived v t p) c)
        (closings_itself v (IsDerived v false false t) s r.1 (ap (λ (z : State). z.structures) e.1))
        (left_as v defined (is_object_type (kind_in v t) ≡ true) D s (with_automatic x t s) r.1 e.1
        (D ++ (x, t) ∷ [], automatic v defined (is_object_type (kind_in v t) ≡ true) x t s D k d (λ p w. p)))

    pub automatic_some : (k : ℕ) → (at : ℕ) (x : Name) (t : CType) (g : At Given) (s : State) (r : List Expr × State) → AreDeclared k D s → ((c : Contents) → Each StepFits (initialised c (given_here g))) → automatic_left v.target roles at x t (Some g) s ≡ Ok r →
        Leaves v defined (IsDerived v false true t) D s r.1
    automatic_some k at x t g s r d f h =
        let u = type_given t (Some g) s in
        let n = length s.locals in
        let start = with_automatic x u s in
        let E = D ++ (x, u) ∷ [] in
        let a = then_found (exprs_found v.target roles at n t u g start) (λ values s. Ok (assignments (scalars_from v.target (contents_in (without_const u) s) 0 (Local n)) values, s)) r h in
        let i = initial_is Expr (expr_given v.target) no_expr at (Local n) t u (without_const u) g start a.0 (f (contents_in (without_const u) start)) a.1 in
        let Q = is_object_type (kind_in v u) ≡ true in
        let e = answer_is (assignments (scalars_from v.target (contents_in (without_const u) a.0.1) 0 (Local n)) a.0.0) a.0.1 r a.2 in
        let P = IsDerived v false true t in
        let closings = behind_object v defined P x u s a.0.1 E E (initialised_goes P (List Expr) t u (Local n) start a.0 E i) in
        less v defined P Q D s r.1
        (λ p w. initialised_stands (List Expr) t g (Local n) start s a.0 i p (subst (λ (z : State). KnowsStructures v z.structures) e.1 w.structures))
        (closings_alike v P s a.0.1 r.1 (ap (λ (z : State). z.structures) e.1) (ap (λ (z : State). z.completed) e.1) closings)
        (left_as v defined Q D s a.0.1 r.1 e.1
        (E, declares_through v defined Q s start a.0.1 D E E (automatic v defined Q x u s D k d (λ p w. p)) (initialised_goes Q (List Expr) t u (Local n) start a.0 E i)))

-- What a declaration at file scope leaves.
use Rattle.std.proofs.Common.{◌≡◌, ℕ, Bool, true, false, ◌&&◌, List, [], ◌∷◌, ◌++◌, map, Option, Some, None, Ok, refl, ap, sym, ◌∙◌, subst}
use Rattle.std.specs.Prelude.{is_some}
use Rattle.std.specs.List.{list_all, list_any}
use Rattle.std.specs.Str.{bytes_eq}
use Rattle.cc_type.specs.CcTypedTerms.Declarators.{derived_type}
use Rattle.cc_type.specs.CcTypedTerms.Located.{located}
use Rattle.cc_read_sound.proofs.DeclaratorNames.{declarator_name}
use Rattle.cc_read_sound.proofs.DefinedNames.{IsExternal, all_external}
use Rattle.cc_read_sound.proofs.ExternalEntries.{entries_stay}
use Rattle.cc_read_sound.proofs.Linked.{external_some}
use Rattle.cc_read_sound.proofs.StorageClasses.{storage_is}
use Rattle.cc_read_sound.specs.External.{AreAmong, AreEntries}
use Rattle.cc_type.specs.CcLinkage.declared.linkage.DeclaredAs.{DeclaredAs}
use Rattle.cc_type.specs.CcObjects.Categories.{function_category, file_category, category_by, entity_of, is_given, setting_of, storage_in}
use Rattle.cc_type.specs.CcObjects.Names.{name_judged}
use Rattle.cc_type.specs.CcObjects.Tags.{defines_untagged, is_typedef_word, aliased, in_front}
use Rattle.cc_type.specs.CcObjects.Types.{is_complete_or_unbounded, composite}
use Rattle.cc_type.specs.CcObjects.declared.category.Category.{Category}
use Rattle.cc_type.specs.CcObjects.declared.category.Category.TheVariants as declares
use Rattle.cc_type.specs.CcOperands.Qualified.{is_function_type}
use Rattle.cc_program.proofs.Each.{Each}
use Rattle.cc_program.specs.declared.expr.Expr.{Expr}
use Rattle.cc_program.specs.declared.program.Roles.{Roles}
use Rattle.cc_program.specs.declared.types.CType.{CType}
use Rattle.cc_type.specs.CcScopes.Linked.{linked_name}
use Rattle.cc_type.specs.CcScopes.Standings.{is_none}
use Rattle.cc_type.specs.CcScopes.State.{State, Name, Scope, structures_of, layouts_of}
use Rattle.cc_type.specs.CcScopes.Verdicts.{whole, and_then}
use Rattle.cc_sound_declarations.proofs.Blocks.{Derived, Category_of, sig_derived, front_if, alias_if}
use Rattle.cc_sound_declarations.proofs.Forms.{form_is, function_derived}
use Rattle.cc_sound_declarations.proofs.Given.{Finds, goes_as, behind_goes}
use Rattle.cc_sound_declarations.proofs.Left.{typedef_goes, function_stays, linked_goes}
use Rattle.cc_sound_declarations.proofs.Lists.{initialised_fits}
use Rattle.cc_sound_declarations.proofs.Names.{IsOfObject, name_is}
use Rattle.cc_sound_declarations.proofs.Storage.{function_typedef, function_linked, typedef_plain, specified_fit}
use Rattle.cc_sound_declarations.proofs.Types.{complete_stands, plainly_derived}
use Rattle.cc_sound_declarations.specs.Ranges.{value_fits, init_fits, decl_fits}
use Rattle.cc_sound_declarations.proofs.Declaring.{declares_itself, declares_through, of_extends, given_from}
use Rattle.cc_sound_declarations.specs.Declaring.{Declares, DeclaresGiven}
use Rattle.cc_sound_terms.proofs.Cycle.{declr_holds}
use Rattle.cc_sound_terms.proofs.Founds.{answer_is, then_found, whole_found, located_found}
use Rattle.cc_sound_terms.proofs.Laws.{specifiers_stand}
use Rattle.cc_sound_terms.proofs.Types.{derived_holds}
use Rattle.cc_sound_terms.specs.Knowing.{Stands}
use Rattle.cc_sound_terms.specs.Ranges.{all_fit, declr_in_range, spec_in_range}
use Rattle.cc_sound_terms.specs.Standing.{IsDerived, DerivationsStand}
use Rattle.cc_type.specs.CcSpecifiers.Attributes.{attributes, entry_by, is_function}
use Rattle.cc_type.specs.CcSpecifiers.Declarators.{declares_function, form_of, type_found}
use Rattle.cc_type.specs.CcSpecifiers.declared.attribute.Attribute.{Attribute}
use Rattle.cc_type.specs.CcSpecifiers.declared.derivation.Declarator.{Declarator}
use Rattle.cc_type.specs.CcSpecifiers.declared.specifier.Specified.{Specified}
use Rattle.cc_type.specs.CcSpecifiers.declared.storage.Where.TheVariants as place
use Rattle.cc_type.proofs.CcSyntax.Prefixes.{both_true}
use Rattle.cc_type.specs.CcSyntax.Types.{Named}
use Rattle.cc_type.specs.CcSyntax.Views.{View}
use Rattle.cc_type.specs.CcTerms.InTurn.{in_turn}
use Rattle.cc_type.specs.CcTerms.Specifiers.{specified_found}
use Rattle.cc_type.specs.CcTerms.Terms.{spec_here, declr_of}
use Rattle.cc_tree.specs.Scopes.{name_of}
use Rattle.cc_tree.specs.declared.at.At.{At}
use Rattle.cc_tree.specs.declared.tree.Spec.{Spec}
use Rattle.cc_tree.specs.declared.unit.Decl.{Decl}
use Rattle.cc_tree.specs.declared.unit.Given.{Given}
use Rattle.cc_tree.specs.declared.unit.Init.{Init}
use Rattle.cc_tree.specs.declared.unit.Item.TheVariants as item
use Rattle.cc_type.specs.Defined.{defined_with, defined_by}
use Rattle.cc_type.specs.CcTypedBodies.Declarations.{marked, init_allowed, declared_left, declared_with, named_found, init_found, init_next, inits_found, declaration}
use Rattle.cc_program.specs.CcWords.declared.word.Word.{Word}
use Rattle.cc_program.specs.CcWords.declared.word.Word.TheVariants as w

-- ---- what declarators declare at file scope

file_typedef : (x : Option Word) → file_category x ≡ declares.Typedef → x ≡ Some w.Typedef
file_typedef None h = absurd (cc)
file_typedef (Some w.Typedef) h = refl
file_typedef (Some w.Static) h = absurd (cc)
file_typedef (Some w.Extern) h = absurd (cc)
file_typedef (Some x) h = absurd (cc)

pub external_typedef : (x : Option Word) (function : Bool) → category_by place.AtFile x function ≡ declares.Typedef → x ≡ Some w.Typedef
external_typedef x true h = function_typedef x h
external_typedef x false h = file_typedef x h

file_function : (x : Option Word) (asked : DeclaredAs) → file_category x ≡ declares.Function asked → ⊥
file_function None asked h = absurd (cc)
file_function (Some w.Typedef) asked h = absurd (cc)
file_function (Some w.Static) asked h = absurd (cc)
file_function (Some w.Extern) asked h = absurd (cc)
file_function (Some x) asked h = absurd (cc)

pub external_function : (x : Option Word) (function : Bool) (asked : DeclaredAs) → category_by place.AtFile x function ≡ declares.Function asked → function ≡ true
external_function x true asked h = refl
external_function x false asked h = absurd (file_function x asked h)

-- nothing automatic, and no static object without linkage
abbrev pub IsLinked : Category → Type 0
IsLinked declares.Typedef = Unit {0}
IsLinked (declares.Function asked) = Unit {0}
IsLinked (declares.Linked asked) = Unit {0}
IsLinked declares.StaticLocal = ⊥
IsLinked declares.Automatic = ⊥

function_is_linked : (x : Option Word) → IsLinked (function_category x)
function_is_linked None = tt
function_is_linked (Some w.Typedef) = tt
function_is_linked (Some w.Static) = tt
function_is_linked (Some x) = tt

file_is_linked : (x : Option Word) → IsLinked (file_category x)
file_is_linked None = tt
file_is_linked (Some w.Typedef) = tt
file_is_linked (Some w.Static) = tt
file_is_linked (Some w.Extern) = tt
file_is_linked (Some x) = tt

pub external_is_linked : (x : Option Word) (function : Bool) → IsLinked (category_by place.AtFile x function)
external_is_linked x true = function_is_linked x
external_is_linked x false = file_is_linked x

some_none : {A : Type 0} (x : A) → Some x ≡ None → ⊥
some_none x h = cc

module _ (v : View) (roles : Roles) (defined : List Name) (D : List Named) where
  abbrev Stays : Type 0 → State → State → Type 0
  Stays P s t = DeclaresGiven v defined P s D t D

  abbrev Entries : State → Type 0
  Entries s = AreEntries v.target defined s.names

  -- ---- what is left, by the category of a name

  pub record IsAllowed (c : Category) (x : Name) (t : CType) (value : Option (At Given)) : Type 0 where
    pub external : IsLinked c
    pub typedefs : c ≡ declares.Typedef → value ≡ None
    pub functions : (asked : DeclaredAs) → c ≡ declares.Function asked → is_function_type t ≡ true
    pub given : (g : At Given) → value ≡ Some g → list_any (bytes_eq x) defined ≡ true

  pub category_stays : (at : ℕ) (c : Category) (x : Name) (t : CType) (marks : List (At (List Attribute))) (value : Option (At Given)) (s : State) (r : List Expr × State) → Entries s → IsAllowed c x t value → value_fits value ≡ true →
      (IsOfObject c → is_complete_or_unbounded v.target s t ≡ true) → declared_left v.target roles defined at c x t marks value s ≡ Ok r → Stays (Derived v roles defined 0 value t) s r.1
  category_stays at declares.Typedef x t marks None s r i a f o h = typedef_goes v roles defined at x t marks D s r h
  category_stays at declares.Typedef x t marks (Some g) s r i a f o h = absurd (some_none g (a.typedefs refl))
  category_stays at (declares.Function asked) x t marks value s r i a f o h =
      function_stays v roles defined (Derived v roles defined 0 value t) D asked x t marks value s r (a.functions asked refl) (λ p. sig_derived v roles defined 0 (is_some value) t (a.functions asked refl) p) h
  category_stays at (declares.Linked asked) x t marks None s r i a f o h =
      linked_goes v roles defined (Derived v roles defined 0 None t) D at asked x t (composite x t s) s (linked_name x s) r (λ p w. complete_stands v t s w (plainly_derived v t p) (o tt)) h
  category_stays at (declares.Linked asked) x t marks (Some g) s r i a f o h =
      external_some v roles defined D at asked x t g s (linked_name x s) r refl i (a.given g refl) (initialised_fits g f) h
  category_stays at declares.StaticLocal x t marks value s r i a f o h = elim a.external [ ]
  category_stays at declares.Automatic x t marks value s r i a f o h = elim a.external [ ]

  -- ---- a declarator

  pub declared_stays : (at : ℕ) (c : Category) (x : Name) (t : CType) (marks : List (At (List Attribute))) (value : Option (At Given)) (s : State) (r : List Expr × State) → Entries s → IsAllowed c x t value → value_fits value ≡ true →
      declared_with v.target roles defined at c x t marks value s ≡ Ok r → Stays (Derived v roles defined 0 value t) s r.1
  declared_stays at c x t marks value s r i a f h =
      let b = then_found (whole at s (name_judged v.target roles c x t (entry_by marks) s)) (λ t s. declared_left v.target roles defined at c x t marks value s) r h in
      let e = whole_found at s (name_judged v.target roles c x t (entry_by marks) s) b.0 b.1 in
      let j = name_is v.target roles c x t b.0.0 (entry_by marks) s e.0 in
      category_stays at c x t marks value s r i a f j.object
      (ap (λ (u : CType). declared_left v.target roles defined at c x u marks value s) j.same ∙ ap (λ (z : State). declared_left v.target roles defined at c x b.0.0 marks value z) (sym e.1) ∙ b.2)

  pub named_stays : (at : ℕ) (c : Category) (t : CType) (before : List (At (List Attribute))) (i : Init) (o : Option Name) (s : State) (r : List Expr × State) → Entries s → ((x : Name) → o ≡ Some x → IsAllowed c x t i.value) → value_fits i.value ≡ true →
      named_found v.target roles defined at c t before i o s ≡ Ok r → Stays (Derived v roles defined 0 i.value t) s r.1
  named_stays at c t before i None s r w a f h = goes_as v defined (Derived v roles defined 0 i.value t) D D s s r.1 (answer_is [] s r h).1 (declares_itself v defined (Derived v roles defined 0 i.value t) s D)
  named_stays at c t before i (Some x) s r w a f h =
      let b = then_found (marked (entity_of c) before i s) (λ marks s. declared_with v.target roles defined at c x t marks i.value s) r h in
      let m = then_found (located s (attributes (entity_of c ∷ []) i.attrs)) (λ marks s. Ok (before ++ marks, s)) b.0 b.1 in
      let e = located_found s (attributes (entity_of c ∷ []) i.attrs) m.0 m.1 in
      let n = answer_is (before ++ m.0.0) m.0.1 b.0 m.2 in
      declared_stays at c x t b.0.0 i.value s r w (a x refl) f
      (ap (λ (z : State). declared_with v.target roles defined at c x t b.0.0 i.value z) (sym (n.1 ∙ e.1)) ∙ b.2)

  pub init_stays : (base : Specified) (i : At Init) (s : State) (r : List Expr × State) → Entries s → IsExternal defined base.specs.storage i → init_fits i ≡ true →
      init_found v.target roles defined place.AtFile base i s ≡ Ok r → Stays (Stands v base.ctype) s r.1
  init_stays base i s r entries external f h =
      let allowed = init_allowed i.node in
      let fit = both_true (declr_in_range i.node.declr.node) (value_fits i.node.value) f in
      let c = Category_of v roles defined 0 place.AtFile base i in
      let function = declares_function (is_function_type base.ctype) i.node.declr.node in
      let P = Stands v base.ctype in
      let a = then_found (declr_of v.target roles i.node.declr.node allowed i.node.declr.at s)
      (λ d s. and_then (derived_type v.target allowed base.ctype d s) (λ t s. named_found v.target roles defined i.at c t base.specs.marks i.node d.name s)) r h in
      let o = declr_holds v [] roles i.node.declr.node fit.0 allowed i.node.declr.at s a.0 a.1 in
      let b = then_found (derived_type v.target allowed base.ctype a.0.0 a.0.1) (λ t s. named_found v.target roles defined i.at c t base.specs.marks i.node a.0.0.name s) r a.2 in
      let q = derived_holds v allowed base.ctype a.0.0 a.0.1 b.0 b.1 in
      let l = located_found a.0.1 (type_found v.target (structures_of a.0.1) (layouts_of a.0.1) allowed base.ctype a.0.0.derivations) b.0 b.1 in
      let named = declarator_name v.target roles i.node.declr.node allowed i.node.declr.at s a.0 a.1 in
      let Q = P × DerivationsStand v allowed.unbounded a.0.0.derivations in
      let R = Q × IsDerived v false (is_some i.node.value) b.0.0 in
      let first = of_finds (Declarator Scope) (λ y. DerivationsStand v allowed.unbounded y.derivations) s a.0 (record { grows = o.grows; holds = λ w. o.holds w }) entries in
      let second = of_finds CType (λ t. Q → IsDerived v false (is_some i.node.value) t) a.0.1 b.0 (record { grows = q.grows; holds = λ w p. q.holds w p.1 p.0 }) first in
      behind_goes v defined P (Declarator Scope) (λ y. DerivationsStand v allowed.unbounded y.derivations) D D s a.0 r.1 (record { grows = o.grows; holds = λ w p. o.holds w })
      (behind_goes v defined Q CType (λ t. IsDerived v false (is_some i.node.value) t) D D a.0.1 b.0 r.1 (record { grows = q.grows; holds = λ w p. q.holds w p.1 p.0 })
      (given_from v defined R (Derived v roles defined 0 i.node.value b.0.0) b.0.1 r.1 D D (λ p. p.1)
      (named_stays i.at c b.0.0 base.specs.marks i.node a.0.0.name b.0.1 r second
      (λ x e. record {
        external = external_is_linked base.specs.storage function;
        typedefs = λ k. external.typedefs (external_typedef base.specs.storage function k);
        functions = λ asked k. function_derived v.target allowed base.ctype a.0.0.derivations a.0.1 b.0.0 (form_of i.node.declr.node) (form_is v.target roles i.node.declr.node allowed i.node.declr.at s a.0 a.1)
            (external_function base.specs.storage function asked k) l.0;
        given = λ g k. external.given g x k (sym named ∙ e);
      }) fit.1 b.2)))
    where
      of_finds : (A : Type 0) (T : A → Type 0) (s : State) (x : A × State) → Finds v defined A T s x → Entries s → Entries x.1
      of_finds A T s x o w = entries_stay v defined (Unit {0}) s x.1 D D (of_extends v defined (Unit {0}) s x.1 D o.grows) w

  pub inits_stay : (base : Specified) (is : List (At Init)) (before : List Expr) (s : State) (r : List Expr × State) → Entries s → Each (IsExternal defined base.specs.storage) is → list_all init_fits is ≡ true →
      in_turn (init_next v.target roles defined place.AtFile base) is before s ≡ Ok r → Stays (Stands v base.ctype) s r.1
  inits_stay base [] before s r entries external f h = goes_as v defined (Stands v base.ctype) D D s s r.1 (answer_is before s r h).1 (declares_itself v defined (Stands v base.ctype) s D)
  inits_stay base (i ∷ is) before s r entries external f h =
      let fit = both_true (init_fits i) (list_all init_fits is) f in
      let a = then_found (init_next v.target roles defined place.AtFile base i before s) (in_turn (init_next v.target roles defined place.AtFile base) is) r h in
      let b = then_found (init_found v.target roles defined place.AtFile base i s) (λ es s. Ok (before ++ es, s)) a.0 a.1 in
      let c = answer_is (before ++ b.0.0) b.0.1 a.0 b.2 in
      let first = goes_as v defined (Stands v base.ctype) D D s b.0.1 a.0.1 c.1 (init_stays base i s b.0 entries external.0 fit.0 b.1) in
      declares_through v defined (Stands v base.ctype) s a.0.1 r.1 D D D first
      (inits_stay base is a.0.0 a.0.1 r (entries_stay v defined (Stands v base.ctype) s a.0.1 D D first entries) external.1 fit.1 a.2)

-- ---- a declaration

pub external_declares : (v : View) (roles : Roles) (defined : List Name) (d : Decl) (D : List Named) (s : State) (r : List Expr × State) → decl_fits d ≡ true → AreEntries v.target defined s.names → AreAmong (defined_by (item.Decl d)) defined →
    declaration v.target roles defined place.AtFile d s ≡ Ok r → Declares v defined s D r.1 D
unfolding declaration
external_declares v roles defined decl D s r f entries among h =
    let fit = both_true (all_fit (map (λ (x : At Spec). record { at = x.at; node = spec_in_range x.node }) decl.specs)) (list_all init_fits decl.inits) f in
    let front = in_front decl s in
    let set = setting_of place.AtFile decl s in
    let first = front_if v roles defined 0 (is_none decl.inits) decl D s in
    let a = then_found (specified_found set (map (spec_here v.target roles) decl.specs) front) (λ base s. inits_found v.target roles defined place.AtFile base decl.inits (aliased decl base s)) r h in
    let o = specifiers_stand v roles set decl.specs fit.0 front a.0 a.1 in
    let P = Stands v a.0.0.ctype in
    let next = aliased decl a.0.0 a.0.1 in
    let alias = alias_if v roles defined 0 P (is_typedef_word a.0.0.specs.storage && defines_untagged decl.specs) decl a.0.0 D a.0.1 in
    let stored = storage_is set v.target roles decl.specs front a.0 a.1 in
    let fits = specified_fit set (map (spec_here v.target roles) decl.specs) front a.0 a.1 in
    let given = λ (e : a.0.0.specs.storage ≡ Some w.Typedef). typedef_plain place.AtFile (list_any is_function set.entities) (list_any is_given decl.inits) (fits w.Typedef e) in
    let external = all_external defined a.0.0.specs.storage decl.inits given (subst (λ (x : Option Word). AreAmong (defined_with x decl.inits) defined) (sym stored) among) in
    let front_entries = entries_stay v defined (Unit {0}) s front D D first entries in
    let found_entries = entries_stay v defined (Unit {0}) front a.0.1 D D (of_extends v defined (Unit {0}) front a.0.1 D o.grows) front_entries in
    let next_entries = entries_stay v defined P a.0.1 next D D alias found_entries in
    declares_through v defined (Unit {0}) s front r.1 D D D first
    (behind_goes v defined (Unit {0}) Specified (λ x. Stands v x.ctype) D D front a.0 r.1 (record { grows = o.grows; holds = λ w p. o.holds w })
    (given_from v defined (Unit {0} × P) P a.0.1 r.1 D D (λ p. p.1)
    (declares_through v defined P a.0.1 next r.1 D D D alias
    (inits_stay v roles defined D a.0.0 decl.inits [] next r next_entries external fit.1 a.2))))

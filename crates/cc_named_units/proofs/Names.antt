-- The name of a declarator may name something where those in it may; and what a declaration adds beside its declarators, tags and names of structures without one.
use Rattle.std.proofs.Common.{◌≡◌, Bool, true, false, ◌&&◌, List, [], ◌∷◌, Option, Some, None, refl, ap, sym, ◌∙◌, subst}
use Rattle.std.specs.Prelude.{if◌then◌else◌}
use Rattle.std.specs.List.{list_all}
use Rattle.cc_named_units.proofs.Adding.{adds_itself, structure_changed}
use Rattle.cc_named_units.proofs.Cycle.{spec-names, named_spec}
use Rattle.cc_named_units.proofs.Specifiers.{new_structure_adds}
use Rattle.cc_named_units.specs.Named.{Limits, IsNamedStructure, Adds}
use Rattle.cc_named_units.proofs.NamedRolled as rolled
use Rattle.cc_named_units.specs.Names.{HasNames, tag_named, tree_named, declr_named, params_named, spec_named, each_named, init_named, maybe_named, member_named, given_named}
use Rattle.cc_program.specs.CcNum.declared.target.Target.{Target}
use Rattle.cc_type.specs.CcObjects.Tags.{defines_untagged, aliased_at, first_name, is_typedef_word, aliased, sole_tag, tag_declared, is_extension_at, sole_spec, sole_declared, in_front}
use Rattle.cc_program.specs.declared.types.CType.{CType}
use Rattle.cc_program.specs.declared.types.Shape.{Shape, out-Shape}
use Rattle.cc_program.specs.declared.types.Shape.TheOpen as shape
use Rattle.cc_program.specs.declared.types.Sig.{Sig}
use Rattle.cc_type.specs.CcScopes.Standings.{with_alias, is_none}
use Rattle.cc_type.specs.CcScopes.State.{State, Name, KnownStructure, tagged_here}
use Rattle.cc_type.specs.CcScopes.Structures.{tag_by}
use Rattle.cc_type.specs.CcScopes.declared.designated.Tagged.{Tagged}
use Rattle.cc_sound_terms.proofs.TreeInduction.{bare_declr, by_declr}
use Rattle.cc_type.specs.CcSpecifiers.declared.specifier.Specified.{Specified}
use Rattle.cc_type.proofs.CcSyntax.Prefixes.{both_true}
use Rattle.cc_tree.proofs.NewNames.{name_of-Nothing, name_of-Named, name_of-Paren, name_of-Pointer, name_of-Array, name_of-Func}
use Rattle.cc_tree.specs.Scopes.{name_of}
use Rattle.cc_tree.specs.declared.at.At.{At}
use Rattle.cc_tree.specs.declared.tree.Declr.{Declr, roll-Declr}
use Rattle.cc_tree.specs.declared.tree.Declr.TheOpen as one
use Rattle.cc_tree.specs.declared.tree.Declr.TheVariants as declr_rolls
use Rattle.cc_tree.specs.declared.tree.Enumr.{Enumr}
use Rattle.cc_tree.specs.declared.tree.MemberDecl.{MemberDecl}
use Rattle.cc_tree.specs.declared.tree.Param.{Param}
use Rattle.cc_tree.specs.declared.tree.Params.{Params}
use Rattle.cc_tree.specs.declared.tree.Spec.{Spec, out-Spec, roll-out-Spec}
use Rattle.cc_tree.specs.declared.tree.Tree.{Tree}
use Rattle.cc_tree.specs.declared.tree.TypeName.{TypeName}
use Rattle.cc_tree.specs.declared.unit.Decl.{Decl}
use Rattle.cc_tree.specs.declared.unit.Init.{Init}
use Rattle.cc_program.specs.CcWords.Names.{is_name}

-- ---- the name of a declarator

abbrev IsNamedDeclr : Declr → Type 0
IsNamedDeclr d = (declr_named d).0 ≡ true → tag_named (name_of d) ≡ true

abbrev Any : {A : Type 0} → A → Type 0
Any x = Unit {0}

first_of : (a b : HasNames) → a ≡ b → a.0 ≡ true → b.0 ≡ true
first_of a b e h = sym (ap (λ (n : HasNames). n.0) e) ∙ h

named_by : (d : Declr) (o : Option Name) → name_of d ≡ o → tag_named o ≡ true → tag_named (name_of d) ≡ true
named_by d o e h = ap tag_named e ∙ h

abbrev Opened : Type 0
Opened = one.Declr-F ((x : Declr) × IsNamedDeclr x) ((x : Params) × Any x) ((x : Spec) × Any x) ((x : Tree) × Any x) ((x : Enumr) × Any x) ((x : MemberDecl) × Any x) ((x : Param) × Any x) ((x : TypeName) × Any x)

abbrev bare_at : At ((x : Declr) × IsNamedDeclr x) → At Declr
bare_at d = record { at = d.at; node = d.node.0 }

abbrev tree_bare_at : At ((x : Tree) × Any x) → At Tree
tree_bare_at e = record { at = e.at; node = e.node.0 }

level : (y : Opened) → IsNamedDeclr (roll-Declr (bare_declr IsNamedDeclr Any Any Any Any Any Any Any y))
level one.Nothing = subst IsNamedDeclr (sym declr_rolls.rolls-Nothing) (λ h. named_by declr_rolls.Nothing None name_of-Nothing refl)
level (one.Declr::Named x) = subst IsNamedDeclr (sym (declr_rolls.rolls-Named x)) (λ h. named_by (declr_rolls.Named x) (Some x) (name_of-Named x) (first_of (declr_named (declr_rolls.Named x)) (is_name x, true) (rolled.declr-Named x) h))
level (one.Declr::Paren d) =
    subst IsNamedDeclr (sym (declr_rolls.rolls-Paren (bare_at d)))
    (λ h. named_by (declr_rolls.Paren (bare_at d)) (name_of d.node.0) (name_of-Paren (bare_at d)) (d.node.1 (first_of (declr_named (declr_rolls.Paren (bare_at d))) (declr_named d.node.0) (rolled.declr-Paren (bare_at d)) h)))
level (one.Pointer words d) =
    subst IsNamedDeclr (sym (declr_rolls.rolls-Pointer words (bare_at d)))
    (λ h. named_by (declr_rolls.Pointer words (bare_at d)) (name_of d.node.0) (name_of-Pointer words (bare_at d)) (d.node.1 (first_of (declr_named (declr_rolls.Pointer words (bare_at d))) (declr_named d.node.0) (rolled.declr-Pointer words (bare_at d)) h)))
level (one.Array d None) =
    subst IsNamedDeclr (sym (declr_rolls.rolls-Array (bare_at d) None))
    (λ h. named_by (declr_rolls.Array (bare_at d) None) (name_of d.node.0) (name_of-Array (bare_at d) None)
    (d.node.1 (both_true (declr_named d.node.0).0 true (first_of (declr_named (declr_rolls.Array (bare_at d) None)) ((declr_named d.node.0).0 && true, (declr_named d.node.0).1) (rolled.declr-OpenArray (bare_at d)) h)).0))
level (one.Array d (Some k)) =
    subst IsNamedDeclr (sym (declr_rolls.rolls-Array (bare_at d) (Some (tree_bare_at k))))
    (λ h. named_by (declr_rolls.Array (bare_at d) (Some (tree_bare_at k))) (name_of d.node.0) (name_of-Array (bare_at d) (Some (tree_bare_at k)))
    (d.node.1 (both_true (declr_named d.node.0).0 (tree_named k.node.0)
    (first_of (declr_named (declr_rolls.Array (bare_at d) (Some (tree_bare_at k)))) ((declr_named d.node.0).0 && tree_named k.node.0, (declr_named d.node.0).1) (rolled.declr-Array (bare_at d) (tree_bare_at k)) h)).0))
level (one.Func d ps) =
    subst IsNamedDeclr (sym (declr_rolls.rolls-Func (bare_at d) ps.0))
    (λ h. named_by (declr_rolls.Func (bare_at d) ps.0) (name_of d.node.0) (name_of-Func (bare_at d) ps.0)
    (d.node.1 (both_true (declr_named d.node.0).0 (params_named ps.0)
    (first_of (declr_named (declr_rolls.Func (bare_at d) ps.0)) ((declr_named d.node.0).0 && params_named ps.0, (declr_named d.node.0).1) (rolled.declr-Func (bare_at d) ps.0) h)).0))

pub name_named : (d : Declr) → (declr_named d).0 ≡ true → tag_named (name_of d) ≡ true
name_named d = by_declr IsNamedDeclr Any Any Any Any Any Any Any level (λ y. tt) (λ y. tt) (λ y. tt) (λ y. tt) (λ y. tt) (λ y. tt) (λ y. tt) d

-- ---- the tag that stands alone

spec_opened : (x : Spec) → spec_named x ≡ named_spec (out-Spec x)
spec_opened x = subst (λ (z : Spec). spec_named z ≡ named_spec (out-Spec x)) (roll-out-Spec x) (spec-names (out-Spec x))

sole_tag_named : (y : one.Spec-F Declr Params Spec Tree Enumr MemberDecl Param TypeName) → named_spec y ≡ true → tag_named (sole_tag y) ≡ true
sole_tag_named (one.Word x) h = refl
sole_tag_named (one.Spec::Named x) h = refl
sole_tag_named (one.Struct tag None front behind) h = (both_true (tag_named tag) true h).0
sole_tag_named (one.Struct tag (Some ds) front behind) h = refl
sole_tag_named (one.Enum tag cs) h = refl
sole_tag_named (one.Attr a) h = refl

module _ (target : Target) (most : Limits) where
  tag_by_adds : (x : Name) (s : State) (o : Option Tagged) → is_name x ≡ true → Adds most 1 s (tag_by x s o)
  tag_by_adds x s None q = new_structure_adds target most (Some x) s q
  tag_by_adds x s (Some t) q = adds_itself most 1 s

  tag_declared_adds : (o : Option Name) (s : State) → tag_named o ≡ true → Adds most 1 s (tag_declared o s)
  tag_declared_adds None s q = adds_itself most 1 s
  tag_declared_adds (Some x) s q = tag_by_adds x s (tagged_here x s) q

  one_declared : (x : Spec) (s : State) → spec_named x ≡ true → Adds most 1 s (sole_declared (Some x) s)
  one_declared x s q = tag_declared_adds (sole_tag (out-Spec x)) s (sole_tag_named (out-Spec x) (sym (spec_opened x) ∙ q))

  sole_if : (b c : Bool) (x : Spec) (more : Option Spec) (s : State) → spec_named x ≡ true → Adds most 1 s (sole_declared more s) → Adds most 1 s (sole_declared (if b then more else (if c then Some x else None)) s)
  sole_if true c x more s q a = a
  sole_if false true x more s q a = one_declared x s q
  sole_if false false x more s q a = adds_itself most 1 s

  sole_adds : (specs : List (At Spec)) (s : State) → each_named spec_named specs ≡ true → Adds most 1 s (sole_declared (sole_spec specs) s)
  sole_adds [] s q = adds_itself most 1 s
  sole_adds (x ∷ xs) s q =
      let c = both_true (spec_named x.node) (each_named spec_named xs) q in
      sole_if (is_extension_at (out-Spec x.node)) (list_all (λ (x : At Spec). is_extension_at (out-Spec x.node)) xs) x.node (sole_spec xs) s c.0 (sole_adds xs s c.1)

  front_if : (b : Bool) (specs : List (At Spec)) (s : State) → each_named spec_named specs ≡ true → Adds most 1 s (if b then sole_declared (sole_spec specs) s else s)
  front_if true specs s q = sole_adds specs s q
  front_if false specs s q = adds_itself most 1 s

  pub front_adds : (d : Decl) (s : State) → each_named spec_named d.specs ≡ true → Adds most 1 s (in_front d s)
  front_adds d s q = front_if (is_none d.inits) d.specs s q

  -- ---- the name that a typedef gives to a structure without a tag

  alias_named : (x : Option Name) → tag_named x ≡ true → (k : KnownStructure) → IsNamedStructure most k → IsNamedStructure most (with_alias x k)
  alias_named x q k h = record { tag = h.tag; alias = q; members = h.members }

  aliased_at_adds : (x : Option Name) (s : State) (y : shape.Shape-F Shape CType Sig) → tag_named x ≡ true → Adds most 0 s (aliased_at x s y)
  aliased_at_adds x s (shape.Struct i) q = structure_changed most i (with_alias x) s (λ k h. alias_named x q k h)
  aliased_at_adds x s shape.Void q = adds_itself most 0 s
  aliased_at_adds x s (shape.Int i) q = adds_itself most 0 s
  aliased_at_adds x s (shape.Pointer to) q = adds_itself most 0 s
  aliased_at_adds x s (shape.Array of n) q = adds_itself most 0 s
  aliased_at_adds x s (shape.Func sig) q = adds_itself most 0 s

  first_named : (is : List (At Init)) → each_named init_named is ≡ true → tag_named (first_name is) ≡ true
  first_named [] q = refl
  first_named (i ∷ is) q =
      let c = both_true (init_named i.node) (each_named init_named is) q in
      let d = both_true (member_named i.node.declr.node) (maybe_named given_named i.node.value) c.0 in
      name_named i.node.declr.node (both_true (declr_named i.node.declr.node).0 (declr_named i.node.declr.node).1 d.0).0

  alias_if : (b : Bool) (x : Option Name) (s : State) (y : shape.Shape-F Shape CType Sig) → tag_named x ≡ true → Adds most 0 s (if b then aliased_at x s y else s)
  alias_if true x s y q = aliased_at_adds x s y q
  alias_if false x s y q = adds_itself most 0 s

  pub alias_adds : (d : Decl) (base : Specified) (s : State) → each_named init_named d.inits ≡ true → Adds most 0 s (aliased d base s)
  alias_adds d base s q = alias_if (is_typedef_word base.specs.storage && defines_untagged d.specs) (first_name d.inits) s (out-Shape base.ctype.shape) (first_named d.inits q)

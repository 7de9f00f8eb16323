-- What a declaration adds: no more locals than it declares names.
use Rattle.std.proofs.Common.{◌≡◌, ◌≤◌, ◌+◌, ℕ, suc, true, List, [], ◌∷◌, ◌++◌, map, Option, Some, None, Ok, refl, arith}
use Rattle.cc_named_units.specs.Counts.{each_count, maybe_count, declr_count, spec_count, given_count, init_count, decl_count}
use Rattle.cc_type.specs.CcTypedTerms.Declarators.{derived_type}
use Rattle.cc_type.specs.CcTypedTerms.Located.{located}
use Rattle.cc_named_units.proofs.Adding.{unmoved, adds_through, adds_same, chained, behind, before, done, placed}
use Rattle.cc_named_units.proofs.Cycle.{declr_adds, front_few, rest_few, few_but_one}
use Rattle.cc_named_units.proofs.Laws.{specifiers_add}
use Rattle.cc_named_units.specs.Named.{Limits, Adds}
use Rattle.cc_named_units.specs.Names.{each_named, maybe_named, declr_named, spec_named, member_named, given_named, init_named, decl_named}
use Rattle.cc_program.specs.CcNum.declared.target.Target.{Target}
use Rattle.cc_type.specs.CcObjects.Categories.{category_of, entity_of, setting_of}
use Rattle.cc_type.specs.CcObjects.Names.{name_judged}
use Rattle.cc_type.specs.CcObjects.Tags.{in_front, aliased}
use Rattle.cc_type.specs.CcObjects.declared.category.Category.{Category}
use Rattle.cc_type.specs.CcOperands.Qualified.{is_function_type}
use Rattle.cc_program.specs.declared.expr.Expr.{Expr}
use Rattle.cc_program.specs.declared.types.CType.{CType}
use Rattle.cc_type.specs.CcScopes.State.{State, Name, structures_of, layouts_of}
use Rattle.cc_type.specs.CcScopes.Verdicts.{whole, and_then}
use Rattle.cc_sound_terms.proofs.Founds.{answer, then_found, located_found, whole_found}
use Rattle.cc_type.specs.CcSpecifiers.Attributes.{attributes, entry_by}
use Rattle.cc_type.specs.CcSpecifiers.Declarators.{type_found}
use Rattle.cc_type.specs.CcSpecifiers.declared.attribute.Attribute.{Attribute}
use Rattle.cc_type.specs.CcSpecifiers.declared.attribute.Entity.{Entity}
use Rattle.cc_type.specs.CcSpecifiers.declared.specifier.Specified.{Specified}
use Rattle.cc_type.specs.CcSpecifiers.declared.storage.Where.{Where}
use Rattle.cc_type.proofs.CcSyntax.Prefixes.{both_true}
use Rattle.cc_type.specs.CcTerms.InTurn.{in_turn}
use Rattle.cc_type.specs.CcTerms.Specifiers.{specified_found}
use Rattle.cc_type.specs.CcTerms.Terms.{declr_of, spec_here}
use Rattle.cc_tree.specs.declared.at.At.{At}
use Rattle.cc_tree.specs.declared.unit.Decl.{Decl}
use Rattle.cc_tree.specs.declared.unit.Given.{Given}
use Rattle.cc_tree.specs.declared.unit.Init.{Init}
use Rattle.cc_type.specs.CcTypedBodies.Declarations.{marked, init_allowed, declared_left, declared_with, named_found, init_found, init_next, inits_found, declaration}
use Rattle.cc_program.specs.CcWords.Names.{is_name}
use Rattle.cc_named_units.proofs.Left.{IsGivenValue, count_of, left_adds}
use Rattle.cc_named_units.proofs.Names.{front_adds, alias_adds}

module _ (target : Target) (defined : List Name) (most : Limits) where
  abbrev more : Option (At Given) → ℕ
  more value = count_of most target value

  marked_adds : (e : Entity) (front : List (At (List Attribute))) (i : Init) (s : State) (r : List (At (List Attribute)) × State) → marked e front i s ≡ Ok r → Adds most 0 s r.1
  marked_adds e front i s r h =
      behind most 0 (located s (attributes (e ∷ []) i.attrs)) (λ marks s. answer (front ++ marks) s) s r (λ x f. placed most 0 s (attributes (e ∷ []) i.attrs) x f) (λ x f. done most 0 (front ++ x.0) x.1 r f) h

  with_adds : (at : ℕ) (c : Category) (x : Name) (t : CType) (marks : List (At (List Attribute))) (value : Option (At Given)) (s : State) (r : List Expr × State) → is_name x ≡ true → IsGivenValue most target value →
      declared_with target most.roles defined at c x t marks value s ≡ Ok r → Adds most (1 + more value) s r.1
  with_adds at c x t marks value s r n q h =
      let entry = entry_by marks in
      let a = then_found (whole at s (name_judged target most.roles c x t entry s)) (λ t s. declared_left target most.roles defined at c x t marks value s) r h in
      let w = whole_found at s (name_judged target most.roles c x t entry s) a.0 a.1 in
      adds_through most 0 (1 + more value) (1 + more value) s a.0.1 r.1 (omega arith) (unmoved most 0 s a.0.1 w.1) (left_adds most target defined at c x t a.0.0 entry s marks value a.0.1 r n w.0 q a.2)

  -- behind its declarator, which added so much
  named_adds : (used count at : ℕ) (c : Category) (t : CType) (front : List (At (List Attribute))) (i : Init) (o : Option Name) (s0 s : State) (r : List Expr × State) → used ≤ count →
      ((x : Name) → o ≡ Some x → (is_name x ≡ true) × (used + 1 ≤ count)) → IsGivenValue most target i.value → Adds most used s0 s → named_found target most.roles defined at c t front i o s ≡ Ok r → Adds most (count + more i.value) s0 r.1
  named_adds used count at c t front i None s0 s r l f q a h = adds_through most used 0 (count + more i.value) s0 s r.1 (omega arith) a (done most 0 [] s r h)
  named_adds used count at c t front i (Some x) s0 s r l f q a h =
      let k = f x refl in
      let one = k.1 in
      adds_through most used (1 + more i.value) (count + more i.value) s0 s r.1 (omega arith) a
      (behind most (1 + more i.value) (marked (entity_of c) front i s) (λ marks s. declared_with target most.roles defined at c x t marks i.value s) s r (λ y g. marked_adds (entity_of c) front i s y g)
      (λ y g. with_adds at c x t y.0 i.value y.1 r k.0 q g) h)

  init_adds : (place : Where) (base : Specified) (i : At Init) (s : State) (r : List Expr × State) → init_named i.node ≡ true → init_count i.node ≤ most.few → init_found target most.roles defined place base i s ≡ Ok r → Adds most (init_count i.node) s r.1
  init_adds place base i s r q l h =
      let d = i.node.declr in
      let count = declr_count d.node in
      let rest = maybe_count given_count i.node.value in
      let c = both_true (member_named d.node) (maybe_named given_named i.node.value) q in
      let name = both_true (declr_named d.node).0 (declr_named d.node).1 c.0 in
      let category = category_of place base.specs.storage (is_function_type base.ctype) d.node in
      let a = then_found (declr_of target most.roles d.node (init_allowed i.node) d.at s)
      (λ d s. and_then (derived_type target (init_allowed i.node) base.ctype d s) (λ t s. named_found target most.roles defined i.at category t base.specs.marks i.node d.name s)) r h in
      let b = declr_adds target most.roles most d.node name.0 (front_few count rest most.few l) (init_allowed i.node) d.at s a.0 a.1 in
      let e = then_found (derived_type target (init_allowed i.node) base.ctype a.0.0 a.0.1) (λ t s. named_found target most.roles defined i.at category t base.specs.marks i.node a.0.0.name s) r a.2 in
      let place = located_found a.0.1 (type_found target (structures_of a.0.1) (layouts_of a.0.1) (init_allowed i.node) base.ctype a.0.0.derivations) e.0 e.1 in
      named_adds b.used count i.at category e.0.0 base.specs.marks i.node a.0.0.name s e.0.1 r b.within b.name (c.1, rest_few count rest most.few l) (adds_same most b.used s a.0.1 e.0.1 place.1 b.adds) e.2

  next_adds : (place : Where) (base : Specified) (i : At Init) (front : List Expr) (s : State) (r : List Expr × State) → init_named i.node ≡ true → init_count i.node ≤ most.few → init_next target most.roles defined place base i front s ≡ Ok r →
      Adds most (init_count i.node) s r.1
  next_adds place base i front s r q l h =
      before most (init_count i.node) (init_found target most.roles defined place base i s) (λ es s. answer (front ++ es) s) s r (λ x f. init_adds place base i s x q l f) (λ x f. done most 0 (front ++ x.0) x.1 r f) h

  inits_add : (place : Where) (base : Specified) (is : List (At Init)) (front : List Expr) (s : State) (r : List Expr × State) → each_named init_named is ≡ true → each_count init_count is ≤ most.few →
      in_turn (init_next target most.roles defined place base) is front s ≡ Ok r → Adds most (each_count init_count is) s r.1
  inits_add place base [] front s r q l h = done most 0 front s r h
  inits_add place base (i ∷ is) front s r q l h =
      let c = both_true (init_named i.node) (each_named init_named is) q in
      let count = init_count i.node in
      let rest = each_count init_count is in
      let a = then_found (init_next target most.roles defined place base i front s) (in_turn (init_next target most.roles defined place base) is) r h in
      adds_through most count rest (count + rest) s a.0.1 r.1 (omega arith) (next_adds place base i front s a.0 c.0 (front_few count rest most.few l) a.1)
      (inits_add place base is a.0.0 a.0.1 r c.1 (rest_few count rest most.few l) a.2)

  pub declaration_adds : (d : Decl) → decl_named d ≡ true → decl_count d ≤ most.few → (place : Where) (s : State) (r : List Expr × State) → declaration target most.roles defined place d s ≡ Ok r → Adds most (decl_count d) s r.1
  unfolding declaration
  declaration_adds d q l place s r h =
      let c = both_true (each_named spec_named d.specs) (each_named init_named d.inits) q in
      let front = each_count spec_count d.specs in
      let count = each_count init_count d.inits in
      let few = few_but_one (front + count) most.few l in
      let start = in_front d s in
      adds_through most 1 (front + count) (suc (front + count)) s start r.1 (omega arith) (front_adds target most d s c.0)
      (chained most front count (front + count) (specified_found (setting_of place d s) (map (spec_here target most.roles) d.specs) start) (λ base s. inits_found target most.roles defined place base d.inits (aliased d base s)) start r (omega arith)
      (λ x f. specifiers_add target most.roles most (setting_of place d s) d.specs c.0 (front_few front count most.few few) start x f)
      (λ x f. adds_through most 0 count count x.1 (aliased d x.0 x.1) r.1 (omega arith) (alias_adds target most d x.0 x.1 c.1)
      (inits_add place x.0 d.inits [] (aliased d x.0 x.1) r c.1 (rest_few front count most.few few) f)) h)

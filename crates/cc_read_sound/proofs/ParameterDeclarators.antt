-- The parameters next to a declared name: what their scope designates. By induction over declarators.
use Rattle.std.proofs.Common.{◌≡◌, ℕ, Bool, true, false, ◌&&◌, ◌||◌, not, List, [], ◌∷◌, ◌++◌, Option, Some, None, Ok, refl, ap, sym, ◌∙◌, subst}
use Rattle.cc_type.specs.CcTypedTerms.Located.{located}
use Rattle.cc_operand_types.proofs.Operands.{must_ok, ok_is}
use Rattle.cc_type.specs.CcSyntax.Views.{View}
use Rattle.cc_type.specs.CcOperands.Operands.{Operand}
use Rattle.cc_type.specs.CcOperands.declared.rule.Rule.TheVariants as rule
use Rattle.cc_type.specs.CcTypedTerms.Values.{value_found}
use Rattle.cc_program.specs.declared.program.Roles.{Roles}
use Rattle.cc_read_sound.proofs.Rolled as rolled
use Rattle.cc_type.specs.CcScopes.State.{State, Scope}
use Rattle.cc_type.specs.CcScopes.Verdicts.{whole, and_then}
use Rattle.cc_sound_terms.proofs.Cycle.{params_hold, tree_holds}
use Rattle.cc_sound_terms.proofs.Founds.{answer, answer_is, then_found, whole_found, located_found, then_judged}
use Rattle.cc_sound_terms.proofs.Growth.{tag_through}
use Rattle.cc_sound_terms.proofs.Meant.{value_grows}
use Rattle.cc_sound_terms.proofs.TreeInduction.{by_declr}
use Rattle.cc_sound_terms.specs.Growing.{StructuresKept}
use Rattle.cc_sound_terms.specs.Ranges.{declr_fits, params_fit, spec_fits, tree_fits, enumr_fits, members_fit, param_fits, type_name_fits, fits, declr_in_range, params_in_range, spec_in_range, enumr_in_range, members_in_range, param_in_range, type_name_in_range}
use Rattle.cc_type.specs.CcSpecifiers.Bounds.{bound_judged}
use Rattle.cc_type.specs.CcSpecifiers.Derivations.{with_derivation, is_next_to_name, suffix_found, pointer_derivation}
use Rattle.cc_type.specs.CcSpecifiers.declared.derivation.Allowed.{Allowed}
use Rattle.cc_type.specs.CcSpecifiers.declared.derivation.Declarator.{Declarator}
use Rattle.cc_type.specs.CcSpecifiers.declared.derivation.Derivation.{Derivation}
use Rattle.cc_type.specs.CcSpecifiers.declared.derivation.Derivation.TheVariants as to
use Rattle.cc_type.specs.CcSpecifiers.declared.derivation.Parameter.{Parameter}
use Rattle.cc_type.proofs.CcSyntax.Prefixes.{both_true}
use Rattle.cc_type.specs.CcTerms.Constants.{enumr_step}
use Rattle.cc_type.specs.CcTerms.Declarators.{declarator, declr_step, params_step, param_step, type_name_step, without_bound, with_bound, bounded}
use Rattle.cc_type.specs.CcTerms.Expressions.{tree_step}
use Rattle.cc_type.specs.CcTerms.Meanings.{TreeMeaning, DeclrMeaning, ParamsMeaning, ParamMeaning, SpecMeaning, MembersMeaning, EnumrMeaning, TypeNameMeaning}
use Rattle.cc_type.specs.CcTerms.Members.{members_step}
use Rattle.cc_type.specs.CcTerms.Specifiers.{spec_step}
use Rattle.cc_type.specs.CcTerms.Terms.{tree_of, declr_of, params_of, param_of, spec_of, members_of, enumr_of, type_name_of, here}
use Rattle.cc_tree.specs.declared.at.At.{At}
use Rattle.cc_tree.specs.declared.tree.Declr.TheOpen as one
use Rattle.cc_tree.specs.declared.tree.Declr.{Declr, roll-Declr, map-Declr, fold-roll-Declr}
use Rattle.cc_tree.specs.declared.tree.Params.{Params, out-Params, roll-Params, roll-out-Params, map-Params, fold-roll-Params}
use Rattle.cc_tree.specs.declared.tree.Spec.{Spec}
use Rattle.cc_tree.specs.declared.tree.Tree.{Tree}
use Rattle.cc_tree.specs.declared.tree.Enumr.{Enumr}
use Rattle.cc_tree.specs.declared.tree.MemberDecl.{MemberDecl}
use Rattle.cc_tree.specs.declared.tree.Param.{Param}
use Rattle.cc_tree.specs.declared.tree.TypeName.{TypeName}
use Rattle.cc_program.specs.CcWords.declared.word.Word.{Word}
use Rattle.cc_read_sound.specs.Scopes.{have_names, IsParameterScope}
use Rattle.cc_read_sound.proofs.Parameters.{Listed, listed, unlisted}

module _ (v : View) (roles : Roles) where
  -- ---- a list of parameters

  params-means : (x : one.Params-F Declr Params Spec Tree Enumr MemberDecl Param TypeName) → params_of v.target roles (roll-Params x) ≡
      params_step (map-Params Declr Params Spec Tree Enumr MemberDecl Param TypeName DeclrMeaning ParamsMeaning SpecMeaning TreeMeaning EnumrMeaning MembersMeaning ParamMeaning TypeNameMeaning (declr_of v.target roles) (params_of v.target roles) (spec_of v.target roles) (tree_of v.target roles) (enumr_of v.target roles) (members_of v.target roles) (param_of v.target roles) (type_name_of v.target roles) x)
  unfolding declr_of params_of spec_of tree_of enumr_of members_of param_of type_name_of
  params-means x = fold-roll-Params DeclrMeaning ParamsMeaning SpecMeaning TreeMeaning EnumrMeaning MembersMeaning ParamMeaning TypeNameMeaning declr_step params_step (spec_step v.target) (tree_step v.target roles) (enumr_step v.target roles) (members_step v.target) (param_step v.target roles) (type_name_step v.target) x

  params-ranges : (x : one.Params-F Declr Params Spec Tree Enumr MemberDecl Param TypeName) → params_in_range (roll-Params x) ≡
      params_fit (map-Params Declr Params Spec Tree Enumr MemberDecl Param TypeName Bool Bool Bool Bool Bool Bool Bool Bool declr_in_range params_in_range spec_in_range fits enumr_in_range members_in_range param_in_range type_name_in_range x)
  unfolding declr_in_range params_in_range spec_in_range fits enumr_in_range members_in_range param_in_range type_name_in_range
  params-ranges x = fold-roll-Params Bool Bool Bool Bool Bool Bool Bool Bool declr_fits params_fit spec_fits tree_fits enumr_fits members_fit param_fits type_name_fits x

  abbrev PP : Params → Type 0
  PP p = params_in_range p ≡ true → (unnamed : Bool) (s : State) (r : (List Parameter × Scope) × State) → params_of v.target roles p unnamed s ≡ Ok r → Listed v roles unnamed r.0 r.1

  params_by : (x : one.Params-F Declr Params Spec Tree Enumr MemberDecl Param TypeName) → PP (roll-Params x)
  params_by one.Empty q unnamed s r h = unlisted v roles unnamed s r (sym (ap (λ (m : ParamsMeaning). m unnamed s) (params-means one.Empty)) ∙ h)
  params_by one.Void q unnamed s r h = unlisted v roles unnamed s r (sym (ap (λ (m : ParamsMeaning). m unnamed s) (params-means one.Void)) ∙ h)
  params_by (one.Many ps) q unnamed s r h =
      listed v roles ps (sym (rolled.each-mapped param_in_range ps) ∙ (sym (params-ranges (one.Many ps)) ∙ q)) unnamed s r (sym (ap (λ (m : ParamsMeaning). m unnamed s) (params-means (one.Many ps))) ∙ h)

  params_listed : (p : Params) → PP p
  params_listed p = subst PP (roll-out-Params p) (params_by (out-Params p))

  -- ---- next to the name

  abbrev pub DerivationListed : Bool → Derivation Scope → State → Type 0
  DerivationListed unnamed (to.Function ps scope) t = Listed v roles unnamed (ps, scope) t
  DerivationListed unnamed (to.Pointer constant volatile) t = Unit {0}
  DerivationListed unnamed (to.Array n) t = Unit {0}

  abbrev pub NextToName : Bool → List (At (Derivation Scope)) → State → Type 0
  NextToName unnamed [] t = Unit {0}
  NextToName unnamed (d ∷ ds) t = DerivationListed unnamed d.node t

  derivation_kept : (unnamed : Bool) (d : Derivation Scope) (s t : State) → StructuresKept s.structures t.structures → DerivationListed unnamed d s → DerivationListed unnamed d t
  derivation_kept unnamed (to.Function ps scope) s t k h =
      record { scope = record { names = h.scope.names; tags = λ x u f. tag_through s.structures t.structures u k (h.scope.tags x u f) }; named = h.named }
  derivation_kept unnamed (to.Pointer constant volatile) s t k h = tt
  derivation_kept unnamed (to.Array n) s t k h = tt

  next_kept : (unnamed : Bool) (ds : List (At (Derivation Scope))) (s t : State) → StructuresKept s.structures t.structures → NextToName unnamed ds s → NextToName unnamed ds t
  next_kept unnamed [] s t k h = tt
  next_kept unnamed (d ∷ ds) s t k h = derivation_kept unnamed d.node s t k h

  next_more : (unnamed : Bool) (ds : List (At (Derivation Scope))) (d : At (Derivation Scope)) (t : State) → NextToName unnamed ds t → (is_next_to_name ds ≡ true → DerivationListed unnamed d.node t) → NextToName unnamed (ds ++ d ∷ []) t
  next_more unnamed [] d t h f = f refl
  next_more unnamed (e ∷ ds) d t h f = h

  abbrev DeclrListed : DeclrMeaning → Type 0
  DeclrListed m = (allowed : Allowed) (at : ℕ) (s : State) (r : Declarator Scope × State) → m allowed at s ≡ Ok r → NextToName allowed.unnamed r.0.derivations r.1

  -- ---- each form of a declarator

  nothing_listed : (allowed : Allowed) (d : Declarator Scope) (s : State) (r : Declarator Scope × State) → NextToName allowed.unnamed d.derivations s → answer d s ≡ Ok r → NextToName allowed.unnamed r.0.derivations r.1
  nothing_listed allowed d s r k h =
      let e = answer_is d s r h in
      subst (λ (t : State). NextToName allowed.unnamed r.0.derivations t) (sym e.1) (subst (λ (x : Declarator Scope). NextToName allowed.unnamed x.derivations s) (sym e.0) k)

  pointer_listed : (words : List Word) (d : At DeclrMeaning) → DeclrListed d.node → DeclrListed (λ allowed at s. declarator allowed d s (λ d s. Ok (with_derivation at (pointer_derivation words) d, s)))
  pointer_listed words d hd allowed at s r h =
      let a = then_found (d.node allowed d.at s) (λ d s. Ok (with_derivation at (pointer_derivation words) d, s)) r h in
      nothing_listed allowed (with_derivation at (pointer_derivation words) a.0.0) a.0.1 r
      (next_more allowed.unnamed a.0.0.derivations (record { at = at; node = pointer_derivation words }) a.0.1 (hd allowed d.at s a.0 a.1) (λ e. tt)) a.2

  -- an array, with a bound or without
  array_next : (allowed : Allowed) (at : ℕ) (n : Option ℕ) (d : Declarator Scope) (s t : State) (r : Declarator Scope × State) → NextToName allowed.unnamed d.derivations s → StructuresKept s.structures t.structures →
      with_derivation at (to.Array n) d ≡ r.0 → r.1 ≡ t → NextToName allowed.unnamed r.0.derivations r.1
  array_next allowed at n d s t r k w e f =
      subst (λ (u : State). NextToName allowed.unnamed r.0.derivations u) (sym f) (subst (λ (x : Declarator Scope). NextToName allowed.unnamed x.derivations t) e
      (next_more allowed.unnamed d.derivations (record { at = at; node = to.Array n }) t (next_kept allowed.unnamed d.derivations s t w k) (λ e. tt)))

  same_structures : (s t : State) → t ≡ s → StructuresKept s.structures t.structures
  same_structures s t e = subst (λ (u : State). StructuresKept s.structures u.structures) (sym e) (λ i k h. (k, h, record { members = λ ms q. q; layout = λ ms q. refl }))

  bounded_listed : (allowed : Allowed) (at : ℕ) (d : Declarator Scope) (n : Option (At TreeMeaning)) (s : State) (r : Declarator Scope × State) → NextToName allowed.unnamed d.derivations s →
      ((e : At TreeMeaning) → n ≡ Some e → (s : State) (x : Operand × State) → value_found e s ≡ Ok x → StructuresKept s.structures x.1.structures) → bounded at allowed d n s ≡ Ok r → NextToName allowed.unnamed r.0.derivations r.1
  bounded_listed allowed at d None s r k g h =
      let e = whole_found at s (without_bound at allowed d) r h in
      let m = must_ok (allowed.unbounded && is_next_to_name d.derivations) rule.ArrayBound (Ok (with_derivation at (to.Array None) d)) r.0 e.0 in
      array_next allowed at None d s s r k (same_structures s s refl) (ok_is m.1) e.1
  bounded_listed allowed at d (Some n) s r k g h =
      let a = then_found (value_found n s) (λ x s. whole at s (with_bound at d x)) r h in
      let e = whole_found at a.0.1 (with_bound at d a.0.0) r a.2 in
      let b = then_judged (bound_judged a.0.0) (λ n. Ok (with_derivation at (to.Array (Some n)) d)) r.0 e.0 in
      array_next allowed at (Some b.0) d s a.0.1 r k (g n refl s a.0 a.1) (ok_is b.2) e.1

  array_listed : (d : At DeclrMeaning) (n : Option (At TreeMeaning)) → DeclrListed d.node → ((e : At TreeMeaning) → n ≡ Some e → (s : State) (x : Operand × State) → value_found e s ≡ Ok x → StructuresKept s.structures x.1.structures) →
      DeclrListed (λ allowed at s. declarator allowed d s (λ d s. and_then (located s (suffix_found false d.derivations)) (λ done s. bounded at allowed d n s)))
  array_listed d n hd g allowed at s r h =
      let a = then_found (d.node allowed d.at s) (λ d s. and_then (located s (suffix_found false d.derivations)) (λ done s. bounded at allowed d n s)) r h in
      let b = then_found (located a.0.1 (suffix_found false a.0.0.derivations)) (λ done s. bounded at allowed a.0.0 n s) r a.2 in
      let e = located_found a.0.1 (suffix_found false a.0.0.derivations) b.0 b.1 in
      bounded_listed allowed at a.0.0 n b.0.1 r (subst (λ (t : State). NextToName allowed.unnamed a.0.0.derivations t) (sym e.1) (hd allowed d.at s a.0 a.1)) g b.2

  flag_off : (unnamed next : Bool) → next ≡ true → unnamed ≡ false → (unnamed || not next) ≡ false
  flag_off unnamed next h k = ap (λ (b : Bool). b || not next) k ∙ ap not h

  function_listed : (d : At DeclrMeaning) (p : Params) → DeclrListed d.node → params_in_range p ≡ true →
      DeclrListed (λ allowed at s. declarator allowed d s (λ d s. and_then (located s (suffix_found true d.derivations)) (λ done s.
      and_then (params_of v.target roles p (allowed.unnamed || not (is_next_to_name d.derivations)) s) (λ ps s. Ok (with_derivation at (to.Function ps.0 ps.1) d, s)))))
  function_listed d p hd q allowed at s r h =
      let a = then_found (d.node allowed d.at s) (λ d s. and_then (located s (suffix_found true d.derivations)) (λ done s.
      and_then (params_of v.target roles p (allowed.unnamed || not (is_next_to_name d.derivations)) s) (λ ps s. Ok (with_derivation at (to.Function ps.0 ps.1) d, s)))) r h in
      let b = then_found (located a.0.1 (suffix_found true a.0.0.derivations)) (λ done s.
      and_then (params_of v.target roles p (allowed.unnamed || not (is_next_to_name a.0.0.derivations)) s) (λ ps s. Ok (with_derivation at (to.Function ps.0 ps.1) a.0.0, s))) r a.2 in
      let e = located_found a.0.1 (suffix_found true a.0.0.derivations) b.0 b.1 in
      let c = then_found (params_of v.target roles p (allowed.unnamed || not (is_next_to_name a.0.0.derivations)) b.0.1) (λ ps s. Ok (with_derivation at (to.Function ps.0 ps.1) a.0.0, s)) r b.2 in
      let l = params_listed p q (allowed.unnamed || not (is_next_to_name a.0.0.derivations)) b.0.1 c.0 c.1 in
      let g = params_hold v [] roles p q (allowed.unnamed || not (is_next_to_name a.0.0.derivations)) b.0.1 c.0 c.1 in
      let k = subst (λ (t : State). NextToName allowed.unnamed a.0.0.derivations t) (sym e.1) (hd allowed d.at s a.0 a.1) in
      nothing_listed allowed (with_derivation at (to.Function c.0.0.0 c.0.0.1) a.0.0) c.0.1 r
      (next_more allowed.unnamed a.0.0.derivations (record { at = at; node = to.Function c.0.0.0 c.0.0.1 }) c.0.1
      (next_kept allowed.unnamed a.0.0.derivations b.0.1 c.0.1 g.grows.grows.structures k)
      (λ n. record { scope = l.scope; named = λ u. l.named (flag_off allowed.unnamed (is_next_to_name a.0.0.derivations) n u) })) c.2

  -- ---- all of them

  abbrev PD : Declr → Type 0
  PD x = declr_in_range x ≡ true → DeclrListed (declr_of v.target roles x)

  abbrev SomeDeclr : Type 0
  SomeDeclr = (x : Declr) × PD x

  abbrev Any : Type 0 → Type 0
  Any A = (x : A) × Unit {0}

  abbrev bare : one.Declr-F SomeDeclr (Any Params) (Any Spec) (Any Tree) (Any Enumr) (Any MemberDecl) (Any Param) (Any TypeName) → one.Declr-F Declr Params Spec Tree Enumr MemberDecl Param TypeName
  bare x = map-Declr SomeDeclr (Any Params) (Any Spec) (Any Tree) (Any Enumr) (Any MemberDecl) (Any Param) (Any TypeName) Declr Params Spec Tree Enumr MemberDecl Param TypeName (λ x. x.0) (λ x. x.0) (λ x. x.0) (λ x. x.0) (λ x. x.0) (λ x. x.0) (λ x. x.0) (λ x. x.0) x

  abbrev ranged : one.Declr-F Declr Params Spec Tree Enumr MemberDecl Param TypeName → Bool
  ranged x = declr_fits (map-Declr Declr Params Spec Tree Enumr MemberDecl Param TypeName Bool Bool Bool Bool Bool Bool Bool Bool declr_in_range params_in_range spec_in_range fits enumr_in_range members_in_range param_in_range type_name_in_range x)

  abbrev meant : one.Declr-F Declr Params Spec Tree Enumr MemberDecl Param TypeName → DeclrMeaning
  meant x = declr_step (map-Declr Declr Params Spec Tree Enumr MemberDecl Param TypeName DeclrMeaning ParamsMeaning SpecMeaning TreeMeaning EnumrMeaning MembersMeaning ParamMeaning TypeNameMeaning (declr_of v.target roles) (params_of v.target roles) (spec_of v.target roles) (tree_of v.target roles) (enumr_of v.target roles) (members_of v.target roles) (param_of v.target roles) (type_name_of v.target roles) x)

  declr-ranges : (x : one.Declr-F Declr Params Spec Tree Enumr MemberDecl Param TypeName) → declr_in_range (roll-Declr x) ≡ ranged x
  unfolding declr_in_range params_in_range spec_in_range fits enumr_in_range members_in_range param_in_range type_name_in_range
  declr-ranges x = fold-roll-Declr Bool Bool Bool Bool Bool Bool Bool Bool declr_fits params_fit spec_fits tree_fits enumr_fits members_fit param_fits type_name_fits x

  declr-means : (x : one.Declr-F Declr Params Spec Tree Enumr MemberDecl Param TypeName) → declr_of v.target roles (roll-Declr x) ≡ meant x
  unfolding declr_of params_of spec_of tree_of enumr_of members_of param_of type_name_of
  declr-means x = fold-roll-Declr DeclrMeaning ParamsMeaning SpecMeaning TreeMeaning EnumrMeaning MembersMeaning ParamMeaning TypeNameMeaning declr_step params_step (spec_step v.target) (tree_step v.target roles) (enumr_step v.target roles) (members_step v.target) (param_step v.target roles) (type_name_step v.target) x

  same_bound : (a b : At TreeMeaning) → Some a ≡ Some b → a ≡ b
  same_bound a b h = cc

  bound_grows : (n : At Tree) → fits n.node ≡ true → (e : At TreeMeaning) → Some (here v.target roles n) ≡ Some e → (s : State) (x : Operand × State) → value_found e s ≡ Ok x → StructuresKept s.structures x.1.structures
  bound_grows n q e f s x h =
      (value_grows v (here v.target roles n) (λ at s r g. (tree_holds v [] roles n.node q at s r g).grows) s x (subst (λ (m : At TreeMeaning). value_found m s ≡ Ok x) (sym (same_bound (here v.target roles n) e f)) h)).grows.structures

  abbrev declr_at : At SomeDeclr → At DeclrMeaning
  declr_at d = record { at = d.at; node = declr_of v.target roles d.node.0 }

  level : (y : one.Declr-F SomeDeclr (Any Params) (Any Spec) (Any Tree) (Any Enumr) (Any MemberDecl) (Any Param) (Any TypeName)) → ranged (bare y) ≡ true → DeclrListed (meant (bare y))
  level one.Nothing q = λ allowed at s r h. nothing_listed allowed (record { name = None; derivations = [] }) s r tt h
  level (one.Declr::Named x) q = λ allowed at s r h. nothing_listed allowed (record { name = Some x; derivations = [] }) s r tt h
  level (one.Declr::Paren d) q = λ allowed at s r h. d.node.1 q allowed d.at s r h
  level (one.Pointer words d) q = pointer_listed words (declr_at d) (d.node.1 q)
  level (one.Array d None) q = let c = both_true (declr_in_range d.node.0) true q in array_listed (declr_at d) None (d.node.1 c.0) (λ e f. absurd (cc))
  level (one.Array d (Some n)) q =
      let c = both_true (declr_in_range d.node.0) (fits n.node.0) q in
      array_listed (declr_at d) (Some (here v.target roles (record { at = n.at; node = n.node.0 }))) (d.node.1 c.0) (bound_grows (record { at = n.at; node = n.node.0 }) c.1)
  level (one.Func d ps) q = let c = both_true (declr_in_range d.node.0) (params_in_range ps.0) q in function_listed (declr_at d) ps.0 (d.node.1 c.0) c.1

  made : (y : one.Declr-F SomeDeclr (Any Params) (Any Spec) (Any Tree) (Any Enumr) (Any MemberDecl) (Any Param) (Any TypeName)) → PD (roll-Declr (bare y))
  made y h = subst DeclrListed (sym (declr-means (bare y))) (level y (sym (declr-ranges (bare y)) ∙ h))

  pub declr_listed : (x : Declr) → declr_in_range x ≡ true → (allowed : Allowed) (at : ℕ) (s : State) (r : Declarator Scope × State) → declr_of v.target roles x allowed at s ≡ Ok r → NextToName allowed.unnamed r.0.derivations r.1
  declr_listed x h = by_declr PD (λ x. Unit {0}) (λ x. Unit {0}) (λ x. Unit {0}) (λ x. Unit {0}) (λ x. Unit {0}) (λ x. Unit {0}) (λ x. Unit {0}) made (λ y. tt) (λ y. tt) (λ y. tt) (λ y. tt) (λ y. tt) (λ y. tt) (λ y. tt) x h

  -- as a definition takes them
  pub parameters_listed : (x : Declr) → declr_in_range x ≡ true → (allowed : Allowed) → allowed.unnamed ≡ false → (at : ℕ) (s : State) (r : Declarator Scope × State) → declr_of v.target roles x allowed at s ≡ Ok r →
      (d : At (Derivation Scope)) (ds : List (At (Derivation Scope))) (ps : List Parameter) (scope : Scope) → r.0.derivations ≡ d ∷ ds → d.node ≡ to.Function ps scope → IsParameterScope v.target ps scope r.1 × (have_names ps ≡ true)
  parameters_listed x q allowed u at s r h d ds ps scope e f =
      let k = declr_listed x q allowed at s r h in
      let l = subst (λ (c : Derivation Scope). DerivationListed allowed.unnamed c r.1) f (subst (λ (xs : List (At (Derivation Scope))). NextToName allowed.unnamed xs r.1) e k) in
      (record { names = l.scope.names; tags = l.scope.tags }, l.named u)

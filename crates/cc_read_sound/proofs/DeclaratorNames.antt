-- The name that a declarator gives is that of its tree, by induction over declarators.
use Rattle.std.proofs.Common.{◌≡◌, ℕ, true, false, not, ◌||◌, [], List, Option, Some, None, Ok, ap, sym, ◌∙◌, subst}
use Rattle.cc_type.specs.CcTypedTerms.Located.{located}
use Rattle.cc_program.specs.CcNum.declared.target.Target.{Target}
use Rattle.cc_type.specs.CcOperands.Operands.{Operand}
use Rattle.cc_type.specs.CcTypedTerms.Values.{value_found}
use Rattle.cc_program.specs.declared.program.Roles.{Roles}
use Rattle.cc_type.specs.CcScopes.State.{State, Scope}
use Rattle.cc_type.specs.CcScopes.Verdicts.{whole, and_then}
use Rattle.cc_sound_declarations.proofs.Forms.{unbounded_is, bounded_is}
use Rattle.cc_sound_terms.proofs.Founds.{answer_is, then_found, whole_found}
use Rattle.cc_sound_terms.proofs.TreeInduction.{bare_declr, by_declr}
use Rattle.cc_type.specs.CcSpecifiers.Derivations.{with_derivation, is_next_to_name, suffix_found, pointer_derivation}
use Rattle.cc_type.specs.CcSpecifiers.declared.derivation.Allowed.{Allowed}
use Rattle.cc_type.specs.CcSpecifiers.declared.derivation.Declarator.{Declarator}
use Rattle.cc_type.specs.CcSpecifiers.declared.derivation.Derivation.TheVariants as to
use Rattle.cc_type.specs.CcTerms.Constants.{enumr_step}
use Rattle.cc_type.specs.CcTerms.Declarators.{without_bound, with_bound, bounded, declr_step, params_step, param_step, type_name_step}
use Rattle.cc_type.specs.CcTerms.Expressions.{tree_step}
use Rattle.cc_type.specs.CcTerms.Meanings.{TreeMeaning, DeclrMeaning, ParamsMeaning, ParamMeaning, SpecMeaning, MembersMeaning, EnumrMeaning, TypeNameMeaning}
use Rattle.cc_type.specs.CcTerms.Members.{members_step}
use Rattle.cc_type.specs.CcTerms.Specifiers.{spec_step}
use Rattle.cc_type.specs.CcTerms.Terms.{tree_of, declr_of, params_of, param_of, spec_of, members_of, enumr_of, type_name_of}
use Rattle.cc_tree.specs.Scopes.{declr_name, name_of}
use Rattle.cc_tree.specs.declared.at.At.{At}
use Rattle.cc_tree.specs.declared.tree.Declr.{Declr, roll-Declr, map-Declr, fold-roll-Declr}
use Rattle.cc_tree.specs.declared.tree.Declr.TheOpen as one
use Rattle.cc_tree.specs.declared.tree.Enumr.{Enumr}
use Rattle.cc_tree.specs.declared.tree.MemberDecl.{MemberDecl}
use Rattle.cc_tree.specs.declared.tree.Param.{Param}
use Rattle.cc_tree.specs.declared.tree.Params.{Params}
use Rattle.cc_tree.specs.declared.tree.Spec.{Spec}
use Rattle.cc_tree.specs.declared.tree.Tree.{Tree}
use Rattle.cc_tree.specs.declared.tree.TypeName.{TypeName}
use Rattle.cc_program.specs.CcWords.declared.word.Word.{Word}

abbrev NameIs : Option (List ℕ) → DeclrMeaning → Type 0
NameIs x m = (allowed : Allowed) (at : ℕ) (s : State) (r : Declarator Scope × State) → m allowed at s ≡ Ok r → r.0.name ≡ x

abbrev named : Declarator Scope → Option (List ℕ)
named d = d.name

nothing_name : (x : Option (List ℕ)) → NameIs x (λ allowed at s. Ok (record { name = x; derivations = [] }, s))
nothing_name x allowed at s r h = ap named (answer_is (record { name = x; derivations = [] }) s r h).0

pointer_name : (words : List Word) (d : At DeclrMeaning) (x : Option (List ℕ)) → NameIs x d.node → NameIs x (λ allowed at s. and_then (d.node allowed d.at s) (λ d s. Ok (with_derivation at (pointer_derivation words) d, s)))
pointer_name words d x hd allowed at s r h =
    let a = then_found (d.node allowed d.at s) (λ d s. Ok (with_derivation at (pointer_derivation words) d, s)) r h in
    let e = answer_is (with_derivation at (pointer_derivation words) a.0.0) a.0.1 r a.2 in
    ap named e.0 ∙ hd allowed d.at s a.0 a.1

bounded_name : (at : ℕ) (allowed : Allowed) (d : Declarator Scope) (n : Option (At TreeMeaning)) (s : State) (r : Declarator Scope × State) (x : Option (List ℕ)) → d.name ≡ x → bounded at allowed d n s ≡ Ok r → r.0.name ≡ x
bounded_name at allowed d None s r x e h =
    let a = whole_found at s (without_bound at allowed d) r h in
    sym (ap named (unbounded_is at allowed d r.0 a.0)) ∙ e
bounded_name at allowed d (Some n) s r x e h =
    let a = then_found (value_found n s) (λ x s. whole at s (with_bound at d x)) r h in
    let b = whole_found at a.0.1 (with_bound at d a.0.0) r a.2 in
    let c = bounded_is at d r.0 a.0.0 b.0 in
    sym (ap named c.1) ∙ e

array_name : (d : At DeclrMeaning) (n : Option (At TreeMeaning)) (x : Option (List ℕ)) → NameIs x d.node →
    NameIs x (λ allowed at s. and_then (d.node allowed d.at s) (λ d s. and_then (located s (suffix_found false d.derivations)) (λ done s. bounded at allowed d n s)))
array_name d n x hd allowed at s r h =
    let a = then_found (d.node allowed d.at s) (λ d s. and_then (located s (suffix_found false d.derivations)) (λ done s. bounded at allowed d n s)) r h in
    let b = then_found (located a.0.1 (suffix_found false a.0.0.derivations)) (λ done s. bounded at allowed a.0.0 n s) r a.2 in
    bounded_name at allowed a.0.0 n b.0.1 r x (hd allowed d.at s a.0 a.1) b.2

function_name : (d : At DeclrMeaning) (ps : ParamsMeaning) (x : Option (List ℕ)) → NameIs x d.node →
    NameIs x (λ allowed at s. and_then (d.node allowed d.at s) (λ d s. and_then (located s (suffix_found true d.derivations)) (λ done s.
    and_then (ps (allowed.unnamed || not (is_next_to_name d.derivations)) s) (λ ps s. Ok (with_derivation at (to.Function ps.0 ps.1) d, s)))))
function_name d ps x hd allowed at s r h =
    let a = then_found (d.node allowed d.at s) (λ d s. and_then (located s (suffix_found true d.derivations)) (λ done s. and_then (ps (allowed.unnamed || not (is_next_to_name d.derivations)) s) (λ ps s. Ok (with_derivation at (to.Function ps.0 ps.1) d, s)))) r h in
    let b = then_found (located a.0.1 (suffix_found true a.0.0.derivations)) (λ done s. and_then (ps (allowed.unnamed || not (is_next_to_name a.0.0.derivations)) s) (λ ps s. Ok (with_derivation at (to.Function ps.0 ps.1) a.0.0, s))) r a.2 in
    let c = then_found (ps (allowed.unnamed || not (is_next_to_name a.0.0.derivations)) b.0.1) (λ ps s. Ok (with_derivation at (to.Function ps.0 ps.1) a.0.0, s)) r b.2 in
    let e = answer_is (with_derivation at (to.Function c.0.0.0 c.0.0.1) a.0.0) c.0.1 r c.2 in
    ap named e.0 ∙ hd allowed d.at s a.0 a.1

module _ (target : Target) (roles : Roles) where
  abbrev PD : Declr → Type 0
  PD x = NameIs (name_of x) (declr_of target roles x)

  abbrev SomeDeclr : Type 0
  SomeDeclr = (x : Declr) × PD x

  abbrev Other : Type 0 → Type 0
  Other A = (x : A) × Unit {0}

  abbrev Parts : Type 0
  Parts = one.Declr-F SomeDeclr (Other Params) (Other Spec) (Other Tree) (Other Enumr) (Other MemberDecl) (Other Param) (Other TypeName)

  abbrev bare : Parts → one.Declr-F Declr Params Spec Tree Enumr MemberDecl Param TypeName
  bare y = bare_declr PD (λ x. Unit {0}) (λ x. Unit {0}) (λ x. Unit {0}) (λ x. Unit {0}) (λ x. Unit {0}) (λ x. Unit {0}) (λ x. Unit {0}) y

  abbrev meant : one.Declr-F Declr Params Spec Tree Enumr MemberDecl Param TypeName → DeclrMeaning
  meant x = declr_step (map-Declr Declr Params Spec Tree Enumr MemberDecl Param TypeName DeclrMeaning ParamsMeaning SpecMeaning TreeMeaning EnumrMeaning MembersMeaning ParamMeaning TypeNameMeaning (declr_of target roles) (params_of target roles) (spec_of target roles) (tree_of target roles) (enumr_of target roles) (members_of target roles) (param_of target roles) (type_name_of target roles) x)

  declr-means : (x : one.Declr-F Declr Params Spec Tree Enumr MemberDecl Param TypeName) → declr_of target roles (roll-Declr x) ≡ meant x
  unfolding declr_of params_of spec_of tree_of enumr_of members_of param_of type_name_of
  declr-means x = fold-roll-Declr DeclrMeaning ParamsMeaning SpecMeaning TreeMeaning EnumrMeaning MembersMeaning ParamMeaning TypeNameMeaning declr_step params_step (spec_step target) (tree_step target roles) (enumr_step target roles) (members_step target) (param_step target roles) (type_name_step target) x

  abbrev name_at : one.Declr-F Declr Params Spec Tree Enumr MemberDecl Param TypeName → Option (List ℕ)
  name_at x = declr_name (map-Declr Declr Params Spec Tree Enumr MemberDecl Param TypeName (Option (List ℕ)) (Unit {0}) (Unit {0}) (Unit {0}) (Unit {0}) (Unit {0}) (Unit {0}) (Unit {0}) (λ d. name_of d) (λ _. tt) (λ _. tt) (λ _. tt) (λ _. tt) (λ _. tt) (λ _. tt) (λ _. tt) x)

  name-opens : (x : one.Declr-F Declr Params Spec Tree Enumr MemberDecl Param TypeName) → name_of (roll-Declr x) ≡ name_at x
  name-opens x = fold-roll-Declr (Option (List ℕ)) (Unit {0}) (Unit {0}) (Unit {0}) (Unit {0}) (Unit {0}) (Unit {0}) (Unit {0}) declr_name (λ _. tt) (λ _. tt) (λ _. tt) (λ _. tt) (λ _. tt) (λ _. tt) (λ _. tt) x

  name_level : (y : Parts) → NameIs (name_at (bare y)) (meant (bare y))
  name_level one.Nothing = nothing_name None
  name_level (one.Declr::Named x) = nothing_name (Some x)
  name_level (one.Declr::Paren d) = λ allowed at s r h. d.node.1 allowed d.at s r h
  name_level (one.Pointer words d) = pointer_name words (record { at = d.at; node = declr_of target roles d.node.0 }) (name_of d.node.0) d.node.1
  name_level (one.Array d None) = array_name (record { at = d.at; node = declr_of target roles d.node.0 }) None (name_of d.node.0) d.node.1
  name_level (one.Array d (Some n)) = array_name (record { at = d.at; node = declr_of target roles d.node.0 }) (Some (record { at = n.at; node = tree_of target roles n.node.0 })) (name_of d.node.0) d.node.1
  name_level (one.Func d ps) = function_name (record { at = d.at; node = declr_of target roles d.node.0 }) (params_of target roles ps.0) (name_of d.node.0) d.node.1

  made_declr : (y : Parts) → PD (roll-Declr (bare y))
  made_declr y = subst (λ (m : DeclrMeaning). NameIs (name_of (roll-Declr (bare y))) m) (sym (declr-means (bare y))) (subst (λ (x : Option (List ℕ)). NameIs x (meant (bare y))) (sym (name-opens (bare y))) (name_level y))

  pub declarator_name : (x : Declr) → NameIs (name_of x) (declr_of target roles x)
  declarator_name x = by_declr PD (λ x. Unit {0}) (λ x. Unit {0}) (λ x. Unit {0}) (λ x. Unit {0}) (λ x. Unit {0}) (λ x. Unit {0}) (λ x. Unit {0}) made_declr (λ y. tt) (λ y. tt) (λ y. tt) (λ y. tt) (λ y. tt) (λ y. tt) (λ y. tt) x

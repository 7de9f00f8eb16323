-- What a declarator declares is told by the part of it next to the name: its first derivation, by induction over declarators.
use Rattle.std.proofs.Common.{◌≡◌, ℕ, Bool, true, false, not, ◌&&◌, ◌||◌, List, map, [], ◌∷◌, ◌++◌, Option, Some, None, Ok, Err, refl, ap, sym, ◌∙◌, subst}
use Rattle.cc_typed_bodies.specs.CcTypedTerms.Located.{located}
use Rattle.cc_program.specs.CcNum.declared.target.Target.{Target}
use Rattle.cc_operand_types.proofs.Operands.{ok_is, must_ok}
use Rattle.cc_typed_bodies.specs.CcOperands.Operands.{Operand}
use Rattle.cc_typed_bodies.specs.CcOperands.declared.rule.Rule.{Rule}
use Rattle.cc_typed_bodies.specs.CcOperands.declared.rule.Rule.TheVariants as rule
use Rattle.cc_typed_bodies.specs.CcOperands.Qualified.{is_function_type, unqualified}
use Rattle.cc_typed_bodies.specs.CcTypedTerms.Values.{value_found}
use Rattle.cc_program.specs.declared.program.Roles.{Roles}
use Rattle.cc_program.specs.declared.types.CType.{CType}
use Rattle.cc_program.specs.declared.types.Shape.{Func}
use Rattle.cc_program.specs.declared.types.Shape.TheOpen as shape
use Rattle.cc_program.specs.declared.types.Shape.TheVariants.{outs-Func}
use Rattle.cc_program.specs.declared.types.Sig.{roll-Sig}
use Rattle.cc_typed_bodies.specs.CcScopes.State.{State, Scope, structures_of, layouts_of}
use Rattle.cc_typed_bodies.specs.CcScopes.Verdicts.{whole, and_then}
use Rattle.cc_sound_terms.proofs.Founds.{answer_is, then_found, whole_found, then_judged}
use Rattle.cc_sound_terms.proofs.TreeInduction.{bare_declr, by_declr}
use Rattle.cc_typed_bodies.specs.CcSpecifiers.Bounds.{bound_judged}
use Rattle.cc_typed_bodies.specs.CcSpecifiers.Declarators.{function_to, derive_one, derive, breach, fault_or, derived_further, derived, type_found, nearer, form_step, form_of, is_function_form}
use Rattle.cc_typed_bodies.specs.CcSpecifiers.Derivations.{with_derivation, is_next_to_name, suffix_found, pointer_derivation}
use Rattle.cc_typed_bodies.specs.CcSpecifiers.Places.{JudgedAt}
use Rattle.cc_typed_bodies.specs.CcSpecifiers.declared.declarator.Form.{Form}
use Rattle.cc_typed_bodies.specs.CcSpecifiers.declared.declarator.Form.TheVariants as form
use Rattle.cc_typed_bodies.specs.CcSpecifiers.declared.derivation.Allowed.{Allowed}
use Rattle.cc_typed_bodies.specs.CcSpecifiers.declared.derivation.Declarator.{Declarator}
use Rattle.cc_typed_bodies.specs.CcSpecifiers.declared.derivation.Derivation.{Derivation}
use Rattle.cc_typed_bodies.specs.CcSpecifiers.declared.derivation.Derivation.TheVariants as to
use Rattle.cc_typed_bodies.specs.CcSpecifiers.declared.derivation.Parameter.{Parameter}
use Rattle.cc_typed_bodies.specs.CcSyntax.SameTypes.{is_func_shape}
use Rattle.cc_typed_bodies.specs.CcTerms.Constants.{enumr_step}
use Rattle.cc_typed_bodies.specs.CcTerms.Declarators.{without_bound, with_bound, bounded, declr_step, params_step, param_step, type_name_step}
use Rattle.cc_typed_bodies.specs.CcTerms.Expressions.{tree_step}
use Rattle.cc_typed_bodies.specs.CcTerms.Meanings.{TreeMeaning, DeclrMeaning, ParamsMeaning, ParamMeaning, SpecMeaning, MembersMeaning, EnumrMeaning, TypeNameMeaning}
use Rattle.cc_typed_bodies.specs.CcTerms.Members.{members_step}
use Rattle.cc_typed_bodies.specs.CcTerms.Specifiers.{spec_step}
use Rattle.cc_typed_bodies.specs.CcTerms.Terms.{tree_of, declr_of, params_of, param_of, spec_of, members_of, enumr_of, type_name_of}
use Rattle.cc_tree.specs.declared.at.At.{At}
use Rattle.cc_tree.specs.declared.tree.Declr.{Declr, roll-Declr, map-Declr, fold-roll-Declr}
use Rattle.cc_tree.specs.declared.tree.Declr.TheOpen as one
use Rattle.cc_tree.specs.declared.tree.Enumr.{Enumr}
use Rattle.cc_tree.specs.declared.tree.MemberDecl.{MemberDecl}
use Rattle.cc_tree.specs.declared.tree.Param.{Param}
use Rattle.cc_tree.specs.declared.tree.Params.{Params}
use Rattle.cc_tree.specs.declared.tree.Spec.{Spec}
use Rattle.cc_tree.specs.declared.tree.Tree.{Tree}
use Rattle.cc_tree.specs.declared.tree.TypeName.{TypeName}
use Rattle.cc_program.specs.CcWords.declared.word.Word.{Word}

abbrev form_at : Derivation Scope → Form
form_at (to.Pointer constant volatile) = form.Pointer
form_at (to.Array n) = form.Array
form_at (to.Function ps scope) = form.Function

abbrev pub first_form : List (At (Derivation Scope)) → Option Form
first_form [] = None
first_form (d ∷ ds) = Some (form_at d.node)

behind_first : (ds : List (At (Derivation Scope))) (d : At (Derivation Scope)) → first_form (ds ++ d ∷ []) ≡ nearer (first_form ds) (form_at d.node)
behind_first [] d = refl
behind_first (e ∷ ds) d = refl

abbrev FormIs : Option Form → DeclrMeaning → Type 0
FormIs f m = (allowed : Allowed) (at : ℕ) (s : State) (r : Declarator Scope × State) → m allowed at s ≡ Ok r → first_form r.0.derivations ≡ f

-- ---- each construct

nothing_form : (x : Option (List ℕ)) (f : Option Form) → f ≡ None → FormIs f (λ allowed at s. Ok (record { name = x; derivations = [] }, s))
nothing_form x f e allowed at s r h =
    let a = answer_is (record { name = x; derivations = [] }) s r h in
    ap (λ (d : Declarator Scope). first_form d.derivations) a.0 ∙ sym e

derived_form : (at : ℕ) (d : Derivation Scope) (x : Declarator Scope) (f : Option Form) → first_form x.derivations ≡ f → first_form (with_derivation at d x).derivations ≡ nearer f (form_at d)
derived_form at d x f e = behind_first x.derivations (record { at = at; node = d }) ∙ ap (λ (g : Option Form). nearer g (form_at d)) e

pointer_form : (words : List Word) (d : At DeclrMeaning) (f : Option Form) → FormIs f d.node → FormIs (nearer f form.Pointer) (λ allowed at s. and_then (d.node allowed d.at s) (λ d s. Ok (with_derivation at (pointer_derivation words) d, s)))
pointer_form words d f hd allowed at s r h =
    let a = then_found (d.node allowed d.at s) (λ d s. Ok (with_derivation at (pointer_derivation words) d, s)) r h in
    let e = answer_is (with_derivation at (pointer_derivation words) a.0.0) a.0.1 r a.2 in
    ap (λ (z : Declarator Scope). first_form z.derivations) e.0 ∙ derived_form at (pointer_derivation words) a.0.0 f (hd allowed d.at s a.0 a.1)

pub unbounded_is : (at : ℕ) (allowed : Allowed) (d y : Declarator Scope) → without_bound at allowed d ≡ Ok y → with_derivation at (to.Array None) d ≡ y
unbounded_is at allowed d y h = ok_is (must_ok (allowed.unbounded && is_next_to_name d.derivations) rule.ArrayBound (Ok (with_derivation at (to.Array None) d)) y h).1

pub bounded_is : (at : ℕ) (d y : Declarator Scope) (x : Operand) → with_bound at d x ≡ Ok y → (n : ℕ) × (with_derivation at (to.Array (Some n)) d ≡ y)
bounded_is at d y x h = let a = then_judged (bound_judged x) (λ n. Ok (with_derivation at (to.Array (Some n)) d)) y h in (a.0, ok_is a.2)

bounded_form : (at : ℕ) (allowed : Allowed) (d : Declarator Scope) (n : Option (At TreeMeaning)) (s : State) (r : Declarator Scope × State) (f : Option Form) → first_form d.derivations ≡ f → bounded at allowed d n s ≡ Ok r → first_form r.0.derivations ≡ nearer f form.Array
bounded_form at allowed d None s r f e h =
    let a = whole_found at s (without_bound at allowed d) r h in
    ap (λ (z : Declarator Scope). first_form z.derivations) (sym (unbounded_is at allowed d r.0 a.0)) ∙ derived_form at (to.Array None) d f e
bounded_form at allowed d (Some n) s r f e h =
    let a = then_found (value_found n s) (λ x s. whole at s (with_bound at d x)) r h in
    let b = whole_found at a.0.1 (with_bound at d a.0.0) r a.2 in
    let c = bounded_is at d r.0 a.0.0 b.0 in
    ap (λ (z : Declarator Scope). first_form z.derivations) (sym c.1) ∙ derived_form at (to.Array (Some c.0)) d f e

array_form : (d : At DeclrMeaning) (n : Option (At TreeMeaning)) (f : Option Form) → FormIs f d.node →
    FormIs (nearer f form.Array) (λ allowed at s. and_then (d.node allowed d.at s) (λ d s. and_then (located s (suffix_found false d.derivations)) (λ done s. bounded at allowed d n s)))
array_form d n f hd allowed at s r h =
    let a = then_found (d.node allowed d.at s) (λ d s. and_then (located s (suffix_found false d.derivations)) (λ done s. bounded at allowed d n s)) r h in
    let b = then_found (located a.0.1 (suffix_found false a.0.0.derivations)) (λ done s. bounded at allowed a.0.0 n s) r a.2 in
    bounded_form at allowed a.0.0 n b.0.1 r f (hd allowed d.at s a.0 a.1) b.2

function_form : (d : At DeclrMeaning) (ps : ParamsMeaning) (f : Option Form) → FormIs f d.node →
    FormIs (nearer f form.Function) (λ allowed at s. and_then (d.node allowed d.at s) (λ d s. and_then (located s (suffix_found true d.derivations)) (λ done s.
    and_then (ps (allowed.unnamed || not (is_next_to_name d.derivations)) s) (λ ps s. Ok (with_derivation at (to.Function ps.0 ps.1) d, s)))))
function_form d ps f hd allowed at s r h =
    let a = then_found (d.node allowed d.at s) (λ d s. and_then (located s (suffix_found true d.derivations)) (λ done s. and_then (ps (allowed.unnamed || not (is_next_to_name d.derivations)) s) (λ ps s. Ok (with_derivation at (to.Function ps.0 ps.1) d, s)))) r h in
    let b = then_found (located a.0.1 (suffix_found true a.0.0.derivations)) (λ done s. and_then (ps (allowed.unnamed || not (is_next_to_name a.0.0.derivations)) s) (λ ps s. Ok (with_derivation at (to.Function ps.0 ps.1) a.0.0, s))) r a.2 in
    let c = then_found (ps (allowed.unnamed || not (is_next_to_name a.0.0.derivations)) b.0.1) (λ ps s. Ok (with_derivation at (to.Function ps.0 ps.1) a.0.0, s)) r b.2 in
    let e = answer_is (with_derivation at (to.Function c.0.0.0 c.0.0.1) a.0.0) c.0.1 r c.2 in
    ap (λ (z : Declarator Scope). first_form z.derivations) e.0 ∙ derived_form at (to.Function c.0.0.0 c.0.0.1) a.0.0 f (hd allowed d.at s a.0 a.1)

module _ (target : Target) (roles : Roles) where
  abbrev PD : Declr → Type 0
  PD x = FormIs (form_of x) (declr_of target roles x)

  abbrev SomeDeclr : Type 0
  SomeDeclr = (x : Declr) × PD x

  abbrev Other : Type 0 → Type 0
  Other A = (x : A) × Unit {0}

  abbrev Parts : Type 0
  Parts = one.Declr-F SomeDeclr (Other Params) (Other Spec) (Other Tree) (Other Enumr) (Other MemberDecl) (Other Param) (Other TypeName)

  abbrev bare : Parts → one.Declr-F Declr Params Spec Tree Enumr MemberDecl Param TypeName
  bare y = bare_declr PD (λ x. Unit {0}) (λ x. Unit {0}) (λ x. Unit {0}) (λ x. Unit {0}) (λ x. Unit {0}) (λ x. Unit {0}) (λ x. Unit {0}) y

  abbrev meant : one.Declr-F Declr Params Spec Tree Enumr MemberDecl Param TypeName → DeclrMeaning
  meant x = declr_step (map-Declr Declr Params Spec Tree Enumr MemberDecl Param TypeName DeclrMeaning ParamsMeaning SpecMeaning TreeMeaning EnumrMeaning MembersMeaning ParamMeaning TypeNameMeaning (declr_of target roles) (params_of target roles) (spec_of target roles) (tree_of target roles) (enumr_of target roles) (members_of target roles) (param_of target roles) (type_name_of target roles) x)

  declr-means : (x : one.Declr-F Declr Params Spec Tree Enumr MemberDecl Param TypeName) → declr_of target roles (roll-Declr x) ≡ meant x
  unfolding declr_of params_of spec_of tree_of enumr_of members_of param_of type_name_of
  declr-means x = fold-roll-Declr DeclrMeaning ParamsMeaning SpecMeaning TreeMeaning EnumrMeaning MembersMeaning ParamMeaning TypeNameMeaning declr_step params_step (spec_step target) (tree_step target roles) (enumr_step target roles) (members_step target) (param_step target roles) (type_name_step target) x

  abbrev formed : one.Declr-F Declr Params Spec Tree Enumr MemberDecl Param TypeName → Option Form
  formed x = form_step (map-Declr Declr Params Spec Tree Enumr MemberDecl Param TypeName (Option Form) (Unit {0}) (Unit {0}) (Unit {0}) (Unit {0}) (Unit {0}) (Unit {0}) (Unit {0}) form_of (λ _. tt) (λ _. tt) (λ _. tt) (λ _. tt) (λ _. tt) (λ _. tt) (λ _. tt) x)

  form-opens : (x : one.Declr-F Declr Params Spec Tree Enumr MemberDecl Param TypeName) → form_of (roll-Declr x) ≡ formed x
  unfolding form_of
  form-opens x = fold-roll-Declr (Option Form) (Unit {0}) (Unit {0}) (Unit {0}) (Unit {0}) (Unit {0}) (Unit {0}) (Unit {0}) form_step (λ _. tt) (λ _. tt) (λ _. tt) (λ _. tt) (λ _. tt) (λ _. tt) (λ _. tt) x

  form_level : (y : Parts) → FormIs (formed (bare y)) (meant (bare y))
  form_level one.Nothing = nothing_form None None refl
  form_level (one.Declr::Named x) = nothing_form (Some x) None refl
  form_level (one.Declr::Paren d) = λ allowed at s r h. d.node.1 allowed d.at s r h
  form_level (one.Pointer words d) = pointer_form words (record { at = d.at; node = declr_of target roles d.node.0 }) (form_of d.node.0) d.node.1
  form_level (one.Array d None) = array_form (record { at = d.at; node = declr_of target roles d.node.0 }) None (form_of d.node.0) d.node.1
  form_level (one.Array d (Some n)) = array_form (record { at = d.at; node = declr_of target roles d.node.0 }) (Some (record { at = n.at; node = tree_of target roles n.node.0 })) (form_of d.node.0) d.node.1
  form_level (one.Func d ps) = function_form (record { at = d.at; node = declr_of target roles d.node.0 }) (params_of target roles ps.0) (form_of d.node.0) d.node.1

  made_declr : (y : Parts) → PD (roll-Declr (bare y))
  made_declr y = subst (λ (m : DeclrMeaning). FormIs (form_of (roll-Declr (bare y))) m) (sym (declr-means (bare y))) (subst (λ (f : Option Form). FormIs f (meant (bare y))) (sym (form-opens (bare y))) (form_level y))

  pub form_is : (x : Declr) → FormIs (form_of x) (declr_of target roles x)
  form_is x = by_declr PD (λ x. Unit {0}) (λ x. Unit {0}) (λ x. Unit {0}) (λ x. Unit {0}) (λ x. Unit {0}) (λ x. Unit {0}) (λ x. Unit {0}) made_declr (λ y. tt) (λ y. tt) (λ y. tt) (λ y. tt) (λ y. tt) (λ y. tt) (λ y. tt) x

-- ---- a function's type

function_type : (result : CType) (ps : List Parameter) → is_function_type (function_to result ps) ≡ true
function_type result ps = ap (is_func_shape (λ sig. true)) (outs-Func (roll-Sig (record { result = result; params = map (λ p. unqualified p.ctype) ps })))

abbrev ok_at : CType → JudgedAt CType
ok_at t = Ok t

ok_type : (t u : CType) → ok_at t ≡ Ok u → t ≡ u
ok_type t u h = cc

further_is : (d : Derivation Scope) (j : JudgedAt CType) (t : CType) → derived_further d j ≡ Ok t → (u : CType) × (t ≡ derive_one d u)
further_is d (Ok u) t h = (u, sym (ok_type (derive_one d u) t h))
further_is d (Err fault) t h = absurd (cc)

unfaulted : (at : ℕ) (o : Option Rule) (j : JudgedAt CType) (t : CType) → fault_or at o j ≡ Ok t → j ≡ Ok t
unfaulted at None j t h = h
unfaulted at (Some broken) j t h = absurd (cc)

function_by : (d : Derivation Scope) (u : CType) → form_at d ≡ form.Function → is_function_type (derive_one d u) ≡ true
function_by (to.Function ps scope) u e = function_type u ps
function_by (to.Pointer constant volatile) u e = absurd (cc)
function_by (to.Array n) u e = absurd (cc)

some_form : (a b : Form) → Some a ≡ Some b → a ≡ b
some_form a b h = cc

base_is : (base : Bool) (f : Option Form) → None ≡ f → is_function_form base f ≡ true → base ≡ true
base_is base None e h = h
base_is base (Some f) e h = absurd (cc)

form_function : (base : Bool) (f : Form) → is_function_form base (Some f) ≡ true → f ≡ form.Function
form_function base form.Function h = refl
form_function base form.Pointer h = absurd (cc)
form_function base form.Array h = absurd (cc)

-- what a declarator that declares a function derives is a function's type
pub function_derived : (target : Target) (allowed : Allowed) (base : CType) (ds : List (At (Derivation Scope))) (s : State) (t : CType) (f : Option Form) → first_form ds ≡ f → is_function_form (is_function_type base) f ≡ true →
    type_found target (structures_of s) (layouts_of s) allowed base ds ≡ Ok t → is_function_type t ≡ true
function_derived target allowed base [] s t f e g h = ap is_function_type (sym (ok_type base t h)) ∙ base_is (is_function_type base) f e g
function_derived target allowed base (d ∷ ds) s t f e g h =
    let a = unfaulted d.at (breach target (structures_of s) (layouts_of s) allowed.void (derive base ds) d.node) (derived_further d.node (derived target (structures_of s) (layouts_of s) false base ds)) t h in
    let b = further_is d.node (derived target (structures_of s) (layouts_of s) false base ds) t a in
    ap is_function_type b.1 ∙ function_by d.node b.0 (form_function (is_function_type base) (form_at d.node) (ap (is_function_form (is_function_type base)) e ∙ g))

-- What a function definition leaves: its specifiers and its declarator in front of what its body leaves.
use Rattle.std.proofs.Common.{◌≡◌, ◌⊎◌, inl, inr, ◌+◌, ℕ, Bool, true, false, ◌&&◌, List, [], ◌∷◌, length, Option, Some, None, Ok, refl, ap, sym, ◌∙◌, subst}
use Rattle.std.specs.Prelude.{slice_get}
use Rattle.cc_read_sound.proofs.ExternalEntries.{entries_stay}
use Rattle.cc_read_sound.specs.External.{AreEntries}
use Rattle.cc_type.specs.CcLinkage.Linkage.{declared, declared_by}
use Rattle.cc_type.specs.CcLinkage.declared.linkage.DeclaredAs.{DeclaredAs}
use Rattle.cc_program.specs.CcNum.declared.target.Target.{Target}
use Rattle.cc_type.specs.CcOperands.Qualified.{is_function_type}
use Rattle.cc_program.proofs.Each.{Each}
use Rattle.cc_program.specs.declared.func.Entry.{Entry}
use Rattle.cc_program.specs.declared.program.Roles.{Roles}
use Rattle.cc_program.specs.declared.types.CType.{CType}
use Rattle.cc_program.specs.declared.types.Shape.{out-Shape}
use Rattle.cc_program.specs.declared.types.Shape.TheOpen as shape
use Rattle.cc_type.specs.CcTypedTerms.Primary.{char_type, chars_type}
use Rattle.cc_program.specs.declared.types.Shape.TheVariants.{outs-Array, outs-Func}
use Rattle.cc_program.specs.declared.value.Leaf.{Leaf}
use Rattle.cc_program.specs.declared.types.Sig.{Sig, roll-Sig}
use Rattle.cc_read_sound.specs.Ranges.{each_fits, item_fits, line_in_range, specs_in_range}
use Rattle.cc_type.specs.CcScopes.Linked.{linked_name}
use Rattle.cc_type.specs.CcScopes.Definitions.{defined_at}
use Rattle.cc_type.specs.CcScopes.State.{State, Name, Scope, KnownStructure, structures_of, layouts_of, with_locals}
use Rattle.cc_type.specs.CcScopes.Verdicts.{Checked, checked}
use Rattle.cc_type.specs.CcScopes.declared.unit.Declared.{Declared}
use Rattle.cc_sound_declarations.proofs.Complete.{derived_is}
use Rattle.cc_sound_declarations.proofs.Blocks.{sig_derived}
use Rattle.cc_sound_declarations.proofs.Given.{behind_goes, goes_as}
use Rattle.cc_sound_declarations.proofs.Left.{function_goes}
use Rattle.cc_read_sound.proofs.Defined.{defined_goes, made_knows, made_sound, told_is}
use Rattle.cc_read_sound.proofs.Entries.{IsFunctionAt, entered_is}
use Rattle.cc_read_sound.proofs.Parts.{IsFound, IsNamed, named_is}
use Rattle.cc_read_sound.proofs.Signatures.{HasParameters, parameters_are, parameters_stand}
use Rattle.cc_read_sound.specs.Definitions.{AreApart, IsSoundAt}
use Rattle.cc_read_sound.proofs.FunctionBodies.{ordered_begun}
use Rattle.cc_read_sound.specs.FunctionBodies.{begun as body_begun}
use Rattle.cc_read_sound.proofs.ParameterDeclarators.{parameters_listed}
use Rattle.cc_read_sound.specs.Scopes.{IsParameterScope}
use Rattle.cc_sound_declarations.proofs.Declaring.{declares_itself, declares_through, given_from, known_behind, of_extends}
use Rattle.cc_sound_declarations.specs.Declaring.{Declares, DeclaresGiven}
use Rattle.cc_sound_terms.proofs.Behind.{known_first}
use Rattle.cc_sound_terms.proofs.Cycle.{declr_holds}
use Rattle.cc_sound_terms.proofs.Laws.{specifiers_stand}
use Rattle.cc_sound_terms.proofs.Types.{derived_holds}
use Rattle.cc_sound_terms.proofs.Founds.{answer_is}
use Rattle.cc_sound_terms.proofs.Growth.{get_front}
use Rattle.cc_sound_terms.proofs.Outcomes.{Outcome}
use Rattle.cc_sound_terms.specs.Behind.{EntryKept, Extends, HasEntry, IsUnnamed, OfString, OfDevice, SigStands}
use Rattle.cc_sound_terms.specs.Growing.{IsConstant, IsTag}
use Rattle.cc_sound_terms.specs.Knowing.{Stands}
use Rattle.cc_sound_terms.specs.Ordered.{IsOrdered}
use Rattle.cc_sound_terms.specs.Ranges.{declr_in_range}
use Rattle.cc_sound_terms.specs.Standing.{DerivationsStand, IsDerived, ParameterStands}
use Rattle.cc_sound_terms.specs.Typing.{Knows, KnowsTypes}
use Rattle.cc_type.specs.CcSpecifiers.Attributes.{entry_by}
use Rattle.cc_type.specs.CcSpecifiers.Declarators.{derive, derive_one, function_to}
use Rattle.cc_type.specs.CcSpecifiers.Derivations.{in_definition}
use Rattle.cc_type.specs.CcSpecifiers.Storage.{setting}
use Rattle.cc_type.specs.CcSpecifiers.declared.attribute.Entity.TheVariants as entity
use Rattle.cc_type.specs.CcSpecifiers.declared.derivation.Declarator.{Declarator}
use Rattle.cc_type.specs.CcSpecifiers.declared.derivation.Derivation.{Derivation}
use Rattle.cc_type.specs.CcSpecifiers.declared.derivation.Derivation.TheVariants as to
use Rattle.cc_type.specs.CcSpecifiers.declared.derivation.Parameter.{Parameter}
use Rattle.cc_type.specs.CcSpecifiers.declared.specifier.Specified.{Specified}
use Rattle.cc_type.specs.CcSpecifiers.declared.storage.Where.TheVariants as stands
use Rattle.cc_type.proofs.CcSyntax.Prefixes.{both_true}
use Rattle.cc_type.specs.CcSyntax.Kinds.{is_sig}
use Rattle.cc_type.specs.CcSyntax.SameTypes.{is_func_shape}
use Rattle.cc_type.specs.CcSyntax.Types.{Named}
use Rattle.cc_type.specs.CcSyntax.Views.{View}
use Rattle.cc_tree.specs.declared.at.At.{At}
use Rattle.cc_tree.specs.declared.tree.Attr.{Attr}
use Rattle.cc_tree.specs.declared.tree.Declr.{Declr}
use Rattle.cc_tree.specs.declared.tree.Spec.{Spec}
use Rattle.cc_tree.specs.declared.unit.Item.TheVariants as item
use Rattle.cc_tree.specs.declared.unit.Line.{Line}
use Rattle.cc_type.specs.Functions.{asked_by, entered_function, entry_at, function_defined, function_of, locals_of, named_function, signature_of}
use Rattle.cc_type.specs.CcUnit.declared.unit.UnitKind.TheVariants as kind

some_is : {A : Type 0} (a b : A) → Some a ≡ Some b → a ≡ b
some_is a b h = cc

-- ---- the type of a declarator with parameters

type_with : (base t : CType) (ds : List (At (Derivation Scope))) (ps : List Parameter) (scope : Scope) → HasParameters ds ps scope → t ≡ derive base ds → (u : CType) × (t ≡ function_to u ps)
type_with base t ds ps scope p e = (derive base p.rest, e ∙ ap (derive base) p.all ∙ ap (λ (d : Derivation Scope). derive_one d (derive base p.rest)) p.function)

function_type : (u : CType) (ps : List Parameter) → is_function_type (function_to u ps) ≡ true
function_type u ps = ap (is_func_shape (λ sig. true)) (outs-Func _)

-- ---- an entry that is declared changes no structure

declared_structures : (x : Name) (asked : DeclaredAs) (t : CType) (entry : Option Entry) (s : State) (o : Option ℕ) → (entered_function entry (declared_by x asked t (kind.Func None None) s o)).1.structures ≡ s.structures
declared_structures x asked t entry s (Some i) = refl
declared_structures x asked t entry s None = refl

scope_stays : (target : Target) (ps : List Parameter) (scope : Scope) (s t : State) → t.structures ≡ s.structures → IsParameterScope target ps scope s → IsParameterScope target ps scope t
scope_stays target ps scope s t e is = record { names = is.names; tags = λ x u h. subst (λ (ks : List KnownStructure). IsTag ks u) (sym e) (is.tags x u h) }

module _ (v : View) (roles : Roles) (defined : List Name) where
  -- ---- behind the declarator

  module _ (at : ℕ) (asked : DeclaredAs) (x : Name) (t base : CType) (ds : List (At (Derivation Scope))) (body : List (At Line)) (s r : State) (parts : IsNamed v.target roles defined at asked x t ds body s r)
      (fit : each_fits line_in_range body ≡ true) (derived : t ≡ derive base ds) (scopes : (ps : List Parameter) (scope : Scope) → HasParameters ds ps scope → IsParameterScope v.target ps scope s)
      (ordered : IsOrdered s) (entries : AreEntries v.target defined s.names) (apart : AreApart s.names) where
    abbrev parameters : HasParameters ds parts.ps parts.scope
    parameters = parameters_are ds (parts.ps, parts.scope) parts.parameters

    typed : (u : CType) × (t ≡ function_to u parts.ps)
    typed = type_with base t ds parts.ps parts.scope parameters derived

    pub is_function : is_function_type t ≡ true
    is_function = ap is_function_type typed.1 ∙ function_type typed.0 parts.ps

    abbrev start : ℕ × State
    start = entered_function (entry_by parts.marks) (declared x asked t (kind.Func None None) s)

    entry : IsFunctionAt start.1.names start.0 t
    entry = entered_is v.target defined asked x t (entry_by parts.marks) s entries apart is_function parts.agrees

    scope_there : IsParameterScope v.target parts.ps parts.scope start.1
    scope_there = scope_stays v.target parts.ps parts.scope s start.1 (declared_structures x asked t (entry_by parts.marks) s (linked_name x s)) (scopes parts.ps parts.scope parameters)

    -- what the types in front stand on
    abbrev P : Type 0
    P = SigStands v (out-Shape t.shape)

    begins : DeclaresGiven v defined P s [] start.1 []
    begins = function_goes v roles defined P [] (entry_by parts.marks) x asked t s is_function (λ p. p)

    start_ordered : IsOrdered start.1
    start_ordered = begins.ordered ordered

    ends : Declares v defined start.1 [] (function_defined at start.0 x t (signature_of t) (length (locals_of parts.ps)) parts.inside.0 parts.inside.1) []
    ends = defined_goes v roles defined at x t start.0 parts.ps parts.scope start.1 scope_there start_ordered entry body fit parts.inside parts.read

    pub named_goes : DeclaresGiven v defined P s [] r []
    named_goes = goes_as v defined P [] [] s (function_defined at start.0 x t (signature_of t) (length (locals_of parts.ps)) parts.inside.0 parts.inside.1) r parts.last
        (declares_through v defined P s start.1 (function_defined at start.0 x t (signature_of t) (length (locals_of parts.ps)) parts.inside.0 parts.inside.1) [] [] [] begins
        (given_from v defined P (Unit {0}) start.1 (function_defined at start.0 x t (signature_of t) (length (locals_of parts.ps)) parts.inside.0 parts.inside.1) [] [] (λ p. tt) ends))

    -- the signature stands where its type does
    sig_good : (sig : Sig) → out-Shape t.shape ≡ shape.Func sig → P → is_sig v.target v.extents sig ≡ true
    sig_good sig e p = subst (SigStands v) e p

    pub named_knows : P → Each (ParameterStands v) parts.ps → Knows v [] s r → Knows v (locals_of parts.ps) (body_begun parts.ps parts.scope start.1) parts.inside.1
    named_knows p each w =
        let last = function_defined at start.0 x t (signature_of t) (length (locals_of parts.ps)) parts.inside.0 parts.inside.1 in
        made_knows v roles defined at x t start.0 parts.ps parts.scope start.1 scope_there start_ordered entry body fit parts.inside parts.read each
        (known_behind v defined P s start.1 last [] [] [] begins (given_from v defined P (Unit {0}) start.1 last [] [] (λ p. tt) ends) (p, subst (λ (z : State). Knows v [] s z) parts.last w)).1

    -- where its body begins
    pub body_ordered : IsOrdered (body_begun parts.ps parts.scope start.1)
    body_ordered = ordered_begun v parts.ps parts.scope start.1 scope_there start_ordered

    -- its entry behind the body
    pub named_told : (e : Declared) → slice_get parts.inside.1.names start.0 ≡ Some e →
        EntryKept e (defined_at at t (kind.Func (entry_at start.0 (with_locals [] parts.inside.1)) (Some (function_of x (signature_of t) (length (locals_of parts.ps)) parts.inside.1.locals parts.inside.0))) e)
    named_told = told_is v roles defined at x t start.0 parts.ps parts.scope start.1 scope_there start_ordered entry body fit parts.inside parts.read

    pub named_sound : P → Each (ParameterStands v) parts.ps → Knows v [] s r → IsSoundAt v t (function_of x (signature_of t) (length (locals_of parts.ps)) parts.inside.1.locals parts.inside.0)
    named_sound p each w sig e =
        let last = function_defined at start.0 x t (signature_of t) (length (locals_of parts.ps)) parts.inside.0 parts.inside.1 in
        made_sound v roles defined at x t start.0 parts.ps parts.scope start.1 scope_there start_ordered entry body fit parts.inside parts.read typed.0 typed.1 sig e (sig_good sig e p) each
        (known_behind v defined P s start.1 last [] [] [] begins (given_from v defined P (Unit {0}) start.1 last [] [] (λ p. tt) ends) (p, subst (λ (z : State). Knows v [] s z) parts.last w)).1

  -- ---- objects stay apart from functions

  string_apart : (n : ℕ) → is_function_type (chars_type n) ≡ false
  string_apart n = ap (is_func_shape (λ sig. true)) (outs-Array (char_type true) n)

  unnamed_apart : (d : Declared) → IsUnnamed v.target d → (leaves : List Leaf) → d.kind ≡ kind.Object leaves → is_function_type d.ctype ≡ false
  unnamed_apart _ (OfString at bytes h) leaves e = string_apart (length bytes + 1)
  unnamed_apart _ (OfDevice n constant t h) leaves e = absurd (cc)

  apart_by : (s t : State) → Extends v s t → AreApart s.names → (i : ℕ) (d : Declared) → slice_get t.names i ≡ Some d → HasEntry s.names i ⊎ IsUnnamed v.target d → (leaves : List Leaf) → d.kind ≡ kind.Object leaves → is_function_type d.ctype ≡ false
  apart_by s t g a i d h (inr u) leaves e = unnamed_apart d u leaves e
  apart_by s t g a i d h (inl c) leaves e =
      let more = g.grows.names in
      let same : c.0 ≡ d = some_is c.0 d (sym (ap (λ (xs : List Declared). slice_get xs i) more.1 ∙ get_front s.names more.0 i c.0 c.1) ∙ h) in
      ap (λ (y : Declared). is_function_type y.ctype) (sym same) ∙ a i c.0 leaves c.1 (ap (λ (y : Declared). y.kind) same ∙ e)

  pub apart_extends : (s t : State) → Extends v s t → AreApart s.names → AreApart t.names
  apart_extends s t g a = λ i d leaves h e. apart_by s t g a i d h (g.added i d h) leaves e

  -- ---- the whole definition

  module _ (specs : List (At Spec)) (d : At Declr) (attrs : List (At Attr)) (body : List (At Line)) (s : State) (r : Checked × State) (fits : item_fits (item.Func specs d attrs body) ≡ true)
      (ordered : IsOrdered s) (entries : AreEntries v.target defined s.names) (apart : AreApart s.names) (found : IsFound v.target roles defined specs d attrs body s r) where
    spec_fits : specs_in_range specs ≡ true
    spec_fits = (both_true (specs_in_range specs) (declr_in_range d.node && each_fits line_in_range body) fits).0

    pub inner_fits : (declr_in_range d.node ≡ true) × (each_fits line_in_range body ≡ true)
    inner_fits = both_true (declr_in_range d.node) (each_fits line_in_range body) (both_true (specs_in_range specs) (declr_in_range d.node && each_fits line_in_range body) fits).1

    abbrev base : Specified × State
    base = found.base

    abbrev declarator : Declarator Scope × State
    declarator = found.declarator

    abbrev type : CType × State
    type = found.type

    pub specified : Outcome v (IsConstant v.target) (KnowsTypes v) Specified (λ x. Stands v x.ctype) s base
    specified = specifiers_stand v roles (setting stands.OfDefinition entity.Function) specs spec_fits s base found.specified

    pub declared_in : Outcome v (IsConstant v.target) (KnowsTypes v) (Declarator Scope) (λ y. DerivationsStand v false y.derivations) base.1 declarator
    declared_in = let o = declr_holds v [] roles d.node inner_fits.0 in_definition d.at base.1 declarator found.declared in record { grows = o.grows; holds = o.holds }

    pub derived_in : Outcome v (IsConstant v.target) (KnowsTypes v) CType (λ t. DerivationsStand v false declarator.0.derivations → Stands v base.0.ctype → IsDerived v false false t) declarator.1 type
    derived_in = let o = derived_holds v in_definition base.0.ctype declarator.0 declarator.1 type found.derived in record { grows = o.grows; holds = o.holds }

    pub there_ordered : IsOrdered type.1
    there_ordered = derived_in.grows.ordered (declared_in.grows.ordered (specified.grows.ordered ordered))

    extends_entries : (a b : State) → Extends v a b → AreEntries v.target defined a.names → AreEntries v.target defined b.names
    extends_entries a b g e = entries_stay v defined (Unit {0}) a b [] [] (of_extends v defined (Unit {0}) a b [] g) e

    pub there_entries : AreEntries v.target defined type.1.names
    there_entries = extends_entries declarator.1 type.1 derived_in.grows (extends_entries base.1 declarator.1 declared_in.grows (extends_entries s base.1 specified.grows entries))

    pub there_apart : AreApart type.1.names
    there_apart = apart_extends declarator.1 type.1 derived_in.grows (apart_extends base.1 declarator.1 declared_in.grows (apart_extends s base.1 specified.grows apart))

    pub type_derived : type.0 ≡ derive base.0.ctype declarator.0.derivations
    type_derived = derived_is v.target (structures_of declarator.1) (layouts_of declarator.1) in_definition.void base.0.ctype declarator.0.derivations type.0 found.types

    pub scopes : (ps : List Parameter) (scope : Scope) → HasParameters declarator.0.derivations ps scope → IsParameterScope v.target ps scope type.1
    scopes ps scope p = subst (λ (z : State). IsParameterScope v.target ps scope z) (sym found.same) (parameters_listed v roles d.node inner_fits.0 in_definition refl d.at base.1 declarator found.declared p.first p.rest ps scope p.all p.function).0

    -- what is known in front of the body
    abbrev P1 : Type 0
    P1 = Stands v base.0.ctype

    abbrev P2 : Type 0
    P2 = P1 × DerivationsStand v false declarator.0.derivations

    abbrev P3 : Type 0
    P3 = P2 × IsDerived v false false type.0

    module _ (x : Name) (parts : IsNamed v.target roles defined d.at (asked_by base.0.specs.storage) x type.0 declarator.0.derivations body type.1 r.1) where
      abbrev asked : DeclaredAs
      asked = asked_by base.0.specs.storage

      pub is_function_here : is_function_type type.0 ≡ true
      is_function_here = is_function d.at asked x type.0 base.0.ctype declarator.0.derivations body type.1 r.1 parts inner_fits.1 type_derived scopes there_ordered there_entries there_apart

      stands_there : P3 → SigStands v (out-Shape type.0.shape)
      stands_there p = sig_derived v roles defined 0 false type.0 is_function_here p.1

      level3 : DeclaresGiven v defined P3 type.1 [] r.1 []
      level3 = given_from v defined P3 (SigStands v (out-Shape type.0.shape)) type.1 r.1 [] [] stands_there
          (named_goes d.at asked x type.0 base.0.ctype declarator.0.derivations body type.1 r.1 parts inner_fits.1 type_derived scopes there_ordered there_entries there_apart)

      level2 : DeclaresGiven v defined P2 declarator.1 [] r.1 []
      level2 = behind_goes v defined P2 CType (λ t. IsDerived v false false t) [] [] declarator.1 type r.1 (record { grows = derived_in.grows; holds = λ w p. derived_in.holds w p.1 p.0 }) level3

      level1 : DeclaresGiven v defined P1 base.1 [] r.1 []
      level1 = behind_goes v defined P1 (Declarator Scope) (λ y. DerivationsStand v false y.derivations) [] [] base.1 declarator r.1 (record { grows = declared_in.grows; holds = λ w p. declared_in.holds w }) level2

      goes_named : Declares v defined s [] r.1 []
      goes_named = behind_goes v defined (Unit {0}) Specified (λ x. Stands v x.ctype) [] [] s base r.1 (record { grows = specified.grows; holds = λ w p. specified.holds w })
          (given_from v defined (Unit {0} × P1) P1 base.1 r.1 [] [] (λ p. p.1) level1)

      pub definition_told : (e : Declared) → slice_get parts.inside.1.names (entered_function (entry_by parts.marks) (declared x asked type.0 (kind.Func None None) type.1)).0 ≡ Some e →
          EntryKept e (defined_at d.at type.0 (kind.Func (entry_at (entered_function (entry_by parts.marks) (declared x asked type.0 (kind.Func None None) type.1)).0 (with_locals [] parts.inside.1))
          (Some (function_of x (signature_of type.0) (length (locals_of parts.ps)) parts.inside.1.locals parts.inside.0))) e)
      definition_told = named_told d.at asked x type.0 base.0.ctype declarator.0.derivations body type.1 r.1 parts inner_fits.1 type_derived scopes there_ordered there_entries there_apart

      -- where what there is behind it is known, its types stand, and so is what there is behind its declarator
      stands_in : Knows v [] s r.1 → P3 × Knows v [] type.1 r.1
      stands_in w0 =
          let p1 = specified.holds (known_first v s base.1 r.1 level1.structures w0.types) in
          let w1 = (known_behind v defined P1 s base.1 r.1 [] [] [] (of_extends v defined P1 s base.1 [] specified.grows) level1 (p1, w0)).1 in
          let p2 : P2 = (p1, declared_in.holds (known_first v base.1 declarator.1 r.1 level2.structures w1.types)) in
          let w2 = (known_behind v defined P2 base.1 declarator.1 r.1 [] [] [] (of_extends v defined P2 base.1 declarator.1 [] declared_in.grows) level2 (p2, w1)).1 in
          let p3 : P3 = (p2, derived_in.holds (known_first v declarator.1 type.1 r.1 level3.structures w2.types) p2.1 p1) in
          (p3, (known_behind v defined P3 declarator.1 type.1 r.1 [] [] [] (of_extends v defined P3 declarator.1 type.1 [] derived_in.grows) level3 (p3, w2)).1)

      parameters_in_place : P3 → Each (ParameterStands v) parts.ps
      parameters_in_place p = parameters_stand v declarator.0.derivations parts.ps parts.scope (parameters_are declarator.0.derivations (parts.ps, parts.scope) parts.parameters) p.0.1

      -- its body is sound
      pub definition_sound : Knows v [] s r.1 → IsSoundAt v type.0 (function_of x (signature_of type.0) (length (locals_of parts.ps)) parts.inside.1.locals parts.inside.0)
      definition_sound w =
          let c = stands_in w in
          named_sound d.at asked x type.0 base.0.ctype declarator.0.derivations body type.1 r.1 parts inner_fits.1 type_derived scopes there_ordered there_entries there_apart (stands_there c.0) (parameters_in_place c.0) c.1

      pub definition_knows : Knows v [] s r.1 → Knows v (locals_of parts.ps) (body_begun parts.ps parts.scope (entered_function (entry_by parts.marks) (declared x asked type.0 (kind.Func None None) type.1)).1) parts.inside.1
      definition_knows w =
          let c = stands_in w in
          named_knows d.at asked x type.0 base.0.ctype declarator.0.derivations body type.1 r.1 parts inner_fits.1 type_derived scopes there_ordered there_entries there_apart (stands_there c.0) (parameters_in_place c.0) c.1

      pub definition_begins : IsOrdered (body_begun parts.ps parts.scope (entered_function (entry_by parts.marks) (declared x asked type.0 (kind.Func None None) type.1)).1)
      definition_begins = body_ordered d.at asked x type.0 base.0.ctype declarator.0.derivations body type.1 r.1 parts inner_fits.1 type_derived scopes there_ordered there_entries there_apart

    -- without a name nothing is defined
    goes_by : (o : Option Name) → o ≡ declarator.0.name → named_function v.target roles defined d.at base.0 type.0 declarator.0.derivations attrs body o type.1 ≡ Ok r → Declares v defined s [] r.1 []
    goes_by (Some x) e h = goes_named x (named_is v.target roles defined d.at base.0 type.0 declarator.0.derivations attrs body x type.1 r h)
    goes_by None e h =
        let U = Unit {0} in
        goes_as v defined U [] [] s type.1 r.1 (answer_is checked type.1 r h).1
        (declares_through v defined U s base.1 type.1 [] [] [] (of_extends v defined U s base.1 [] specified.grows)
        (declares_through v defined U base.1 declarator.1 type.1 [] [] [] (of_extends v defined U base.1 declarator.1 [] declared_in.grows) (of_extends v defined U declarator.1 type.1 [] derived_in.grows)))

    pub definition_goes : Declares v defined s [] r.1 []
    definition_goes = goes_by declarator.0.name refl found.named

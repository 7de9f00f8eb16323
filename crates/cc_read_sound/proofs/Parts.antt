-- The parts of a function definition that is found: its specifiers, its declarator, and its body behind the entry that its name is given (C99 6.9.1).
use Rattle.std.proofs.Common.{◌≡◌, ℕ, Bool, true, false, List, [], ◌∷◌, ◌++◌, length, map, Option, Some, None, Ok, Err, refl, ap, sym, ◌∙◌, subst}
use Rattle.std.specs.Prelude.{if◌then◌else◌}
use Rattle.cc_type.specs.CcTypedTerms.Declarators.{derived_type}
use Rattle.cc_type.specs.CcTypedTerms.Located.{located}
use Rattle.cc_type.specs.CcLinkage.Linkage.{declared, may_be_declared, may_be_main}
use Rattle.cc_type.specs.CcLinkage.declared.linkage.DeclaredAs.{DeclaredAs}
use Rattle.cc_program.specs.CcNum.declared.target.Target.{Target}
use Rattle.cc_type.specs.CcObjects.Names.{function_judged}
use Rattle.cc_operand_types.proofs.Operands.{must_ok, ok_is}
use Rattle.cc_type.specs.CcOperands.Verdicts.{Judged, judge_then, must}
use Rattle.cc_type.specs.CcOperands.declared.rule.Rule.TheVariants as rule
use Rattle.cc_type.specs.CcTypedTerms.Primary.{is_intrinsic}
use Rattle.cc_program.specs.declared.func.Entry.{Entry}
use Rattle.cc_program.specs.declared.program.Roles.{Roles}
use Rattle.cc_program.specs.declared.stmt.Stmt.{Stmt}
use Rattle.cc_program.specs.declared.types.CType.{CType}
use Rattle.cc_program.specs.declared.types.Sig.{out-Sig}
use Rattle.cc_type.specs.CcScopes.State.{State, Name, Scope, entered, structures_of, layouts_of, with_locals}
use Rattle.cc_type.specs.CcScopes.Verdicts.{Found, whole, and_then, Checked, checked}
use Rattle.cc_sound_terms.proofs.Founds.{answer_is, then_found, whole_found, located_found, then_judged}
use Rattle.cc_type.specs.CcSpecifiers.Attributes.{attributes, entry_by}
use Rattle.cc_type.specs.CcSpecifiers.Declarators.{type_found}
use Rattle.cc_type.specs.CcSpecifiers.Derivations.{in_definition}
use Rattle.cc_type.specs.CcSpecifiers.Storage.{setting}
use Rattle.cc_type.specs.CcSpecifiers.declared.attribute.Attribute.{Attribute}
use Rattle.cc_type.specs.CcSpecifiers.declared.attribute.Entity.TheVariants as entity
use Rattle.cc_type.specs.CcSpecifiers.declared.derivation.Declarator.{Declarator}
use Rattle.cc_type.specs.CcSpecifiers.declared.derivation.Derivation.{Derivation}
use Rattle.cc_type.specs.CcSpecifiers.declared.derivation.Parameter.{Parameter}
use Rattle.cc_type.specs.CcSpecifiers.declared.specifier.Specified.{Specified}
use Rattle.cc_type.specs.CcSpecifiers.declared.storage.Where.TheVariants as stands
use Rattle.cc_type.specs.CcTerms.Specifiers.{specified_found}
use Rattle.cc_type.specs.CcTerms.Terms.{declr_of, spec_here}
use Rattle.cc_tree.specs.declared.at.At.{At}
use Rattle.cc_tree.specs.declared.tree.Attr.{Attr}
use Rattle.cc_tree.specs.declared.tree.Declr.{Declr}
use Rattle.cc_tree.specs.declared.tree.Spec.{Spec}
use Rattle.cc_tree.specs.declared.unit.Line.{Line}
use Rattle.cc_type.specs.Functions.{asked_by, definition_judged, definition_marks, entered_function, function_defined, function_entered, function_found, judged_function, locals_of, named_function, parameters_in, signature_of}
use Rattle.cc_type.specs.CcTypedBodies.Lines.{line_here}
use Rattle.cc_type.specs.CcTypedBodies.Meanings.{lines_found}
use Rattle.cc_type.specs.CcTypedStatements.Jumps.{no_jumps}
use Rattle.cc_type.specs.CcUnit.declared.unit.UnitKind.TheVariants as kind

module _ (target : Target) (roles : Roles) (defined : List Name) where
  -- with its attributes its name is declared, and then its body is read
  pub record IsNamed (at : ℕ) (asked : DeclaredAs) (x : Name) (t : CType) (ds : List (At (Derivation Scope))) (body : List (At Line)) (s r : State) : Type 0 where
    pub marks : List (At (List Attribute))
    pub ps : List Parameter
    pub scope : Scope
    pub parameters : parameters_in ds ≡ Ok (ps, scope)
    pub plain : is_intrinsic roles x ≡ false
    pub main : may_be_main x t ≡ true
    pub agrees : may_be_declared asked x t s ≡ true
    pub inside : List Stmt × State
    pub read : lines_found no_jumps (map (line_here target roles defined (out-Sig (signature_of t)).result) body)
        (entered scope (with_locals (locals_of ps) (entered_function (entry_by marks) (declared x asked t (kind.Func None None) s)).1)) ≡ Ok inside
    pub last : r ≡ function_defined at (entered_function (entry_by marks) (declared x asked t (kind.Func None None) s)).0 x t (signature_of t) (length (locals_of ps)) inside.0 inside.1

  -- what is judged of it
  record IsGood (asked : DeclaredAs) (x : Name) (t : CType) (ds : List (At (Derivation Scope))) (s : State) (ps : List Parameter × Scope) : Type 0 where
    parameters : parameters_in ds ≡ Ok ps
    plain : is_intrinsic roles x ≡ false
    main : may_be_main x t ≡ true
    agrees : may_be_declared asked x t s ≡ true

  good_if : (b : Bool) (asked : DeclaredAs) (x : Name) (t : CType) (s : State) (ps qs : List Parameter × Scope) → (if b then Err rule.MainOrIntrinsic else judge_then (function_judged asked x t s) (λ t. Ok ps)) ≡ Ok qs →
      (b ≡ false) × (may_be_main x t ≡ true) × (may_be_declared asked x t s ≡ true) × (ps ≡ qs)
  good_if true asked x t s ps qs h = absurd (cc)
  good_if false asked x t s ps qs h =
      let a = then_judged (function_judged asked x t s) (λ t. Ok ps) qs h in
      let b = must_ok (may_be_main x t) rule.MainOrIntrinsic (must (may_be_declared asked x t s) rule.DeclaredTwice (Ok t)) a.0 a.1 in
      let c = must_ok (may_be_declared asked x t s) rule.DeclaredTwice (Ok t) a.0 b.1 in
      (refl, b.0, c.0, ok_is a.2)

  good_is : (asked : DeclaredAs) (x : Name) (t : CType) (ds : List (At (Derivation Scope))) (s : State) (ps : List Parameter × Scope) → definition_judged roles asked x t ds s ≡ Ok ps → IsGood asked x t ds s ps
  good_is asked x t ds s ps h =
      let a = then_judged (parameters_in ds) (λ ps. if is_intrinsic roles x then Err rule.MainOrIntrinsic else judge_then (function_judged asked x t s) (λ t. Ok ps)) ps h in
      let g = good_if (is_intrinsic roles x) asked x t s a.0 ps a.2 in
      record { parameters = a.1 ∙ ap Ok g.3; plain = g.0; main = g.1; agrees = g.2 }

  pub named_is : (at : ℕ) (base : Specified) (t : CType) (ds : List (At (Derivation Scope))) (attrs : List (At Attr)) (body : List (At Line)) (x : Name) (s : State) (r : Checked × State) →
      named_function target roles defined at base t ds attrs body (Some x) s ≡ Ok r → IsNamed at (asked_by base.specs.storage) x t ds body s r.1
  named_is at base t ds attrs body x s r h =
      let asked = asked_by base.specs.storage in
      let a = then_found (definition_marks base.specs.marks attrs s) (λ marks s. judged_function target roles defined at asked x t ds (entry_by marks) body s) r h in
      let m = then_found (located s (attributes (entity.Function ∷ []) attrs)) (λ marks s. Ok (base.specs.marks ++ marks, s)) a.0 a.1 in
      let e = located_found s (attributes (entity.Function ∷ []) attrs) m.0 m.1 in
      let n = answer_is (base.specs.marks ++ m.0.0) m.0.1 a.0 m.2 in
      let marks = a.0.0 in
      let judged : judged_function target roles defined at asked x t ds (entry_by marks) body s ≡ Ok r = ap (λ (z : State). judged_function target roles defined at asked x t ds (entry_by marks) body z) (sym (n.1 ∙ e.1)) ∙ a.2 in
      let b = then_found (whole at s (definition_judged roles asked x t ds s)) (λ ps s. function_entered target roles defined at asked x t (entry_by marks) ps body s) r judged in
      let c = whole_found at s (definition_judged roles asked x t ds s) b.0 b.1 in
      let ps = b.0.0 in
      let good = good_is asked x t ds s ps c.0 in
      let inner : function_entered target roles defined at asked x t (entry_by marks) ps body s ≡ Ok r = ap (λ (z : State). function_entered target roles defined at asked x t (entry_by marks) ps body z) (sym c.1) ∙ b.2 in
      let start = entered_function (entry_by marks) (declared x asked t (kind.Func None None) s) in
      let d = then_found (lines_found no_jumps (map (line_here target roles defined (out-Sig (signature_of t)).result) body) (entered ps.1 (with_locals (locals_of ps.0) start.1)))
      (λ ss s. Ok (checked, function_defined at start.0 x t (signature_of t) (length (locals_of ps.0)) ss s)) r inner in
      record {
        marks = marks;
        ps = ps.0;
        scope = ps.1;
        parameters = good.parameters;
        plain = good.plain;
        main = good.main;
        agrees = good.agrees;
        inside = d.0;
        read = d.1;
        last = (answer_is checked (function_defined at start.0 x t (signature_of t) (length (locals_of ps.0)) d.0.0 d.0.1) r d.2).1;
      }

  -- its specifiers and its declarator in front
  pub record IsFound (specs : List (At Spec)) (d : At Declr) (attrs : List (At Attr)) (body : List (At Line)) (s : State) (r : Checked × State) : Type 0 where
    pub base : Specified × State
    pub specified : specified_found (setting stands.OfDefinition entity.Function) (map (spec_here target roles) specs) s ≡ Ok base
    pub declarator : Declarator Scope × State
    pub declared : declr_of target roles d.node in_definition d.at base.1 ≡ Ok declarator
    pub type : CType × State
    pub derived : derived_type target in_definition base.0.ctype declarator.0 declarator.1 ≡ Ok type
    pub types : type_found target (structures_of declarator.1) (layouts_of declarator.1) in_definition base.0.ctype declarator.0.derivations ≡ Ok type.0
    pub same : type.1 ≡ declarator.1
    pub named : named_function target roles defined d.at base.0 type.0 declarator.0.derivations attrs body declarator.0.name type.1 ≡ Ok r

  pub found_is : (specs : List (At Spec)) (d : At Declr) (attrs : List (At Attr)) (body : List (At Line)) (s : State) (r : Checked × State) → function_found target roles defined specs d attrs body s ≡ Ok r → IsFound specs d attrs body s r
  found_is specs d attrs body s r h =
      let a = then_found (specified_found (setting stands.OfDefinition entity.Function) (map (spec_here target roles) specs) s)
      (λ base s. and_then (declr_of target roles d.node in_definition d.at s) (λ x s. and_then (derived_type target in_definition base.ctype x s) (λ t s. named_function target roles defined d.at base t x.derivations attrs body x.name s))) r h in
      let b = then_found (declr_of target roles d.node in_definition d.at a.0.1)
      (λ x s. and_then (derived_type target in_definition a.0.0.ctype x s) (λ t s. named_function target roles defined d.at a.0.0 t x.derivations attrs body x.name s)) r a.2 in
      let c = then_found (derived_type target in_definition a.0.0.ctype b.0.0 b.0.1) (λ t s. named_function target roles defined d.at a.0.0 t b.0.0.derivations attrs body b.0.0.name s) r b.2 in
      let l = located_found b.0.1 (type_found target (structures_of b.0.1) (layouts_of b.0.1) in_definition a.0.0.ctype b.0.0.derivations) c.0 c.1 in
      record { base = a.0; specified = a.1; declarator = b.0; declared = b.1; type = c.0; derived = c.1; types = l.0; same = l.1; named = c.2 }

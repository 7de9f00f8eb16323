-- What a function definition adds: no more than it counts; and its locals are few, and have names.
use Rattle.std.proofs.Common.{◌≡◌, ◌≤◌, ◌+◌, ℕ, Bool, true, false, ◌&&◌, List, [], ◌∷◌, ◌++◌, map, length, Option, Some, None, Ok, Err, refl, ◌∙◌, subst, arith}
use Rattle.std.specs.Prelude.{not, is_some, if◌then◌else◌}
use Rattle.std.specs.List.{list_all}
use Rattle.std.proofs.lemmas.List.{length-map}
use Rattle.cc_named_units.specs.Counts.{each_count, declr_count, spec_count, line_count}
use Rattle.cc_type.specs.CcTypedTerms.Declarators.{derived_type}
use Rattle.cc_type.specs.CcTypedTerms.Located.{located}
use Rattle.cc_type.specs.CcLinkage.Linkage.{declared}
use Rattle.cc_type.specs.CcLinkage.declared.linkage.DeclaredAs.{DeclaredAs}
use Rattle.cc_named_units.proofs.Bodies.{body_lines_add}
use Rattle.cc_named_units.proofs.Left.{IsOwnName, defined_named, function_adds}
use Rattle.cc_named_units.proofs.Adding.{each_changed, changed-length, adds_through, adds_same, unmoved, chained, behind, done, placed}
use Rattle.cc_named_units.proofs.Cycle.{declr_adds, front_few, rest_few}
use Rattle.cc_named_units.proofs.Laws.{specifiers_add}
use Rattle.cc_named_units.specs.Named.{Limits, is_own, AreFewNames, IsNamedEntry, IsNamedParameter, AreNamedParameters, IsNamedNext, Adds}
use Rattle.cc_named_units.specs.Names.{each_named, tag_named, declr_named, spec_named, line_named, member_named}
use Rattle.cc_program.specs.CcNum.declared.target.Target.{Target}
use Rattle.cc_type.specs.CcObjects.Names.{function_judged}
use Rattle.cc_operand_types.proofs.Operands.{ok_is}
use Rattle.cc_type.specs.CcOperands.Verdicts.{judge_then}
use Rattle.cc_type.specs.CcOperands.declared.rule.Rule.TheVariants as rule
use Rattle.cc_type.specs.CcTypedTerms.Primary.{is_intrinsic}
use Rattle.cc_program.proofs.Each.{Each}
use Rattle.cc_program.specs.declared.func.Entry.{Entry}
use Rattle.cc_program.specs.declared.program.Roles.{Roles}
use Rattle.cc_program.specs.declared.types.CType.{CType}
use Rattle.cc_program.specs.declared.types.Sig.{out-Sig}
use Rattle.cc_type.specs.CcScopes.Definitions.{defined_at}
use Rattle.cc_type.specs.CcScopes.State.{State, Scope, Name, name_or_none, entered, with_locals, structures_of, layouts_of}
use Rattle.cc_type.specs.CcScopes.Verdicts.{whole, and_then, Checked, checked}
use Rattle.cc_sound_terms.proofs.Founds.{answer, answer_is, then_found, whole_found, located_found, then_judged}
use Rattle.cc_type.specs.CcSpecifiers.Attributes.{attributes, entry_by}
use Rattle.cc_type.specs.CcSpecifiers.Declarators.{type_found}
use Rattle.cc_type.specs.CcSpecifiers.Derivations.{in_definition}
use Rattle.cc_type.specs.CcSpecifiers.Storage.{setting}
use Rattle.cc_type.specs.CcSpecifiers.declared.attribute.Entity.TheVariants as entity
use Rattle.cc_type.specs.CcSpecifiers.declared.derivation.Derivation.{Derivation}
use Rattle.cc_type.specs.CcSpecifiers.declared.derivation.Derivation.TheVariants as to
use Rattle.cc_type.specs.CcSpecifiers.declared.derivation.Parameter.{Parameter}
use Rattle.cc_type.specs.CcSpecifiers.declared.specifier.Specified.{Specified}
use Rattle.cc_type.specs.CcSpecifiers.declared.storage.Where.TheVariants as stands
use Rattle.cc_type.proofs.CcSyntax.Prefixes.{both_true}
use Rattle.cc_type.proofs.CcSyntax.SameLemmas.{and_true}
use Rattle.cc_type.specs.CcSyntax.Names.{local_names}
use Rattle.cc_type.specs.CcTerms.Declarators.{declarator}
use Rattle.cc_type.specs.CcTerms.Specifiers.{specified_found}
use Rattle.cc_type.specs.CcTerms.Terms.{declr_of, spec_here, declr_here}
use Rattle.cc_tree.specs.declared.at.At.{At}
use Rattle.cc_tree.specs.declared.tree.Attr.{Attr}
use Rattle.cc_tree.specs.declared.tree.Declr.{Declr}
use Rattle.cc_tree.specs.declared.tree.Spec.{Spec}
use Rattle.cc_tree.specs.declared.unit.Line.{Line}
use Rattle.cc_type.specs.Functions.{parameters_of, parameters_in, local_of, locals_of, asked_by, signature_of, definition_judged, definition_marks, function_of, entry_at, function_defined, entered_function, function_entered, judged_function, named_function, function_found}
use Rattle.cc_type.specs.CcTypedBodies.Lines.{line_here}
use Rattle.cc_type.specs.CcTypedBodies.Meanings.{lines_found}
use Rattle.cc_type.specs.CcTypedStatements.Jumps.{no_jumps}
use Rattle.cc_type.specs.CcUnit.declared.unit.UnitKind.TheVariants as kind
use Rattle.cc_program.specs.CcWords.Names.{is_name}

-- ---- parameters as locals

named_there : (o : Option Name) → tag_named o ≡ true → is_some o ≡ true → is_name (name_or_none o) ≡ true
named_there None q k = absurd (cc)
named_there (Some x) q k = q

parameters_named : (ps : List Parameter) → Each (IsNamedParameter false) ps → list_all is_name (local_names (locals_of ps)) ≡ true
parameters_named [] e = refl
parameters_named (p ∷ ps) e = and_true (is_name (name_or_none p.name)) (list_all is_name (local_names (locals_of ps))) (named_there p.name e.0.name (e.0.there refl)) (parameters_named ps e.1)

same_parameters : (count : ℕ) (p q : List Parameter × Scope) → p ≡ q → AreNamedParameters false count p.0 → AreNamedParameters false count q.0
same_parameters count p q e h = subst (λ (r : List Parameter × Scope). AreNamedParameters false count r.0) e h

parameters_is : (count : ℕ) (d : Derivation Scope) (y : List Parameter × Scope) → parameters_of d ≡ Ok y → (IsNamedNext false count (record { at = 0; node = d } ∷ [])) → AreNamedParameters false count y.0
parameters_is count (to.Function ps scope) y h k = same_parameters count (ps, scope) y (ok_is h) k
parameters_is count (to.Pointer constant volatile) y h k = absurd (cc)
parameters_is count (to.Array n) y h k = absurd (cc)

parameters_first : (count : ℕ) (ds : List (At (Derivation Scope))) (y : List Parameter × Scope) → parameters_in ds ≡ Ok y → IsNamedNext false count ds → AreNamedParameters false count y.0
parameters_first count [] y h k = absurd (cc)
parameters_first count (d ∷ ds) y h k = parameters_is count d.node y h k

judged_if : (b : Bool) (asked : DeclaredAs) (x : Name) (t : CType) (s : State) (y r : List Parameter × Scope) → (if b then Err rule.MainOrIntrinsic else judge_then (function_judged asked x t s) (λ t. Ok y)) ≡ Ok r → (y ≡ r) × (not b ≡ true)
judged_if true asked x t s y r h = absurd (cc)
judged_if false asked x t s y r h = let a = then_judged (function_judged asked x t s) (λ t. Ok y) r h in (ok_is a.2, refl)

-- its name is no intrinsic's
definition_parameters : (roles : Roles) (count : ℕ) (asked : DeclaredAs) (x : Name) (t : CType) (ds : List (At (Derivation Scope))) (s : State) (r : List Parameter × Scope) → IsNamedNext false count ds → definition_judged roles asked x t ds s ≡ Ok r →
    AreNamedParameters false count r.0 × (is_own roles (Some x) ≡ true)
definition_parameters roles count asked x t ds s r k h =
    let a = then_judged (parameters_in ds) (λ ps. if is_intrinsic roles x then Err rule.MainOrIntrinsic else judge_then (function_judged asked x t s) (λ t. Ok ps)) r h in
    let b = judged_if (is_intrinsic roles x) asked x t s a.0 r a.2 in
    (same_parameters count a.0 r b.0 (parameters_first count ds a.0 a.1 k), b.1)

module _ (target : Target) (defined : List Name) (most : Limits) where
  -- ---- the body, in the scope of the parameters

  body_adds : (at : ℕ) (asked : DeclaredAs) (x : Name) (t : CType) (entry : Option Entry) (count : ℕ) (ps : List Parameter × Scope) → IsOwnName most x → AreNamedParameters false count ps.0 →
      (body : List (At Line)) → each_named line_named body ≡ true → count + each_count line_count body ≤ most.few → (s : State) (r : Checked × State) →
      function_entered target most.roles defined at asked x t entry ps body s ≡ Ok r → Adds most (1 + each_count line_count body) s r.1
  body_adds at asked x t entry count ps n k body q l s r h =
      let known = entered_function entry (declared x asked t (kind.Func None None) s) in
      let locals = locals_of ps.0 in
      let sig = signature_of t in
      let begun = entered ps.1 (with_locals locals known.1) in
      let a = then_found (lines_found no_jumps (map (line_here target most.roles defined (out-Sig sig).result) body) begun) (λ ss s. answer checked (function_defined at known.0 x t sig (length locals) ss s)) r h in
      let e = answer_is checked (function_defined at known.0 x t sig (length locals) a.0.0 a.0.1) r a.2 in
      let first = function_adds most entry x asked t s n in
      let second = body_lines_add target defined (out-Sig sig).result most body q (rest_few count (each_count line_count body) most.few l) no_jumps begun a.0 a.1 in
      let few = k.few in
      let same = length-map ps.0 local_of in
      let f0 = second.few_locals in
      let there : AreFewNames most.few a.0.1.locals = record { names = second.locals (parameters_named ps.0 k.each); few = omega arith } in
      let f = function_of x sig (length locals) a.0.1.locals a.0.0 in
      let change = defined_at at t (kind.Func (entry_at known.0 (with_locals [] a.0.1)) (Some f)) in
      let f1 = first.few_names in
      let f2 = second.few_names in
      let g1 = first.few_structures in
      let g2 = second.few_structures in
      let size = changed-length change known.0 a.0.1.names in
      adds_same most (1 + each_count line_count body) s (function_defined at known.0 x t sig (length locals) a.0.0 a.0.1) r.1 e.1
      (record {
        state = λ i.
            let j = first.state i in
            let w = second.state (record { structures = j.structures; names = j.names }) in
            record { structures = w.structures; names = each_changed (IsNamedEntry most) change known.0 a.0.1.names (λ d m. defined_named most at t (kind.Func (entry_at known.0 (with_locals [] a.0.1)) (Some f)) d there m) w.names };
        locals = λ i. refl;
        few_locals = omega arith;
        few_names = omega arith;
        few_structures = omega arith;
      })

  judged_adds : (at : ℕ) (asked : DeclaredAs) (x : Name) (t : CType) (ds : List (At (Derivation Scope))) (entry : Option Entry) (count : ℕ) → is_name x ≡ true → IsNamedNext false count ds →
      (body : List (At Line)) → each_named line_named body ≡ true → count + each_count line_count body ≤ most.few → (s : State) (r : Checked × State) →
      judged_function target most.roles defined at asked x t ds entry body s ≡ Ok r → Adds most (1 + each_count line_count body) s r.1
  judged_adds at asked x t ds entry count n k body q l s r h =
      let c = 1 + each_count line_count body in
      let a = then_found (whole at s (definition_judged most.roles asked x t ds s)) (λ ps s. function_entered target most.roles defined at asked x t entry ps body s) r h in
      let w = whole_found at s (definition_judged most.roles asked x t ds s) a.0 a.1 in
      let p = definition_parameters most.roles count asked x t ds s a.0.0 k w.0 in
      adds_through most 0 c c s a.0.1 r.1 (omega arith) (unmoved most 0 s a.0.1 w.1) (body_adds at asked x t entry count a.0.0 (n, p.1) p.0 body q l a.0.1 r a.2)

  -- behind its declarator, which added so much
  named_adds : (at : ℕ) (base : Specified) (t : CType) (ds : List (At (Derivation Scope))) (attrs : List (At Attr)) (used count : ℕ) → used ≤ count → (o : Option Name) → ((x : Name) → o ≡ Some x → (is_name x ≡ true) × (used + 1 ≤ count)) →
      IsNamedNext false count ds → (body : List (At Line)) → each_named line_named body ≡ true → count + each_count line_count body ≤ most.few → (s0 s : State) (r : Checked × State) → Adds most used s0 s →
      named_function target most.roles defined at base t ds attrs body o s ≡ Ok r → Adds most (count + each_count line_count body) s0 r.1
  named_adds at base t ds attrs used count within None f k body q l s0 s r a h = adds_through most used 0 (count + each_count line_count body) s0 s r.1 (omega arith) a (done most 0 checked s r h)
  named_adds at base t ds attrs used count within (Some x) f k body q l s0 s r a h =
      let c = 1 + each_count line_count body in
      let n = f x refl in
      let one = n.1 in
      adds_through most used c (count + each_count line_count body) s0 s r.1 (omega arith) a
      (behind most c (definition_marks base.specs.marks attrs s) (λ marks s. judged_function target most.roles defined at (asked_by base.specs.storage) x t ds (entry_by marks) body s) s r
      (λ y g. behind most 0 (located s (attributes (entity.Function ∷ []) attrs)) (λ marks s. answer (base.specs.marks ++ marks) s) s y (λ z i. placed most 0 s (attributes (entity.Function ∷ []) attrs) z i) (λ z i. done most 0 (base.specs.marks ++ z.0) z.1 y i) g)
      (λ y g. judged_adds at (asked_by base.specs.storage) x t ds (entry_by y.0) count n.0 k body q l y.1 r g) h)

  pub function_found_adds : (specs : List (At Spec)) (d : At Declr) (attrs : List (At Attr)) (body : List (At Line)) → each_named spec_named specs && (member_named d.node && each_named line_named body) ≡ true →
      each_count spec_count specs + (declr_count d.node + each_count line_count body) ≤ most.few → (s : State) (r : Checked × State) → function_found target most.roles defined specs d attrs body s ≡ Ok r →
      Adds most (each_count spec_count specs + (declr_count d.node + each_count line_count body)) s r.1
  function_found_adds specs d attrs body q l s r h =
      let set = setting stands.OfDefinition entity.Function in
      let front = each_count spec_count specs in
      let count = declr_count d.node in
      let lines = each_count line_count body in
      let few = rest_few front (count + lines) most.few l in
      let c = both_true (each_named spec_named specs) (member_named d.node && each_named line_named body) q in
      let e = both_true (member_named d.node) (each_named line_named body) c.1 in
      let name = both_true (declr_named d.node).0 (declr_named d.node).1 e.0 in
      chained most front (count + lines) (front + (count + lines)) (specified_found set (map (spec_here target most.roles) specs) s)
      (λ base s. declarator in_definition (declr_here target most.roles d) s (λ x s. and_then (derived_type target in_definition base.ctype x s) (λ t s. named_function target most.roles defined d.at base t x.derivations attrs body x.name s))) s r (omega arith)
      (λ x f. specifiers_add target most.roles most set specs c.0 (front_few front (count + lines) most.few l) s x f)
      (λ x f.
      let a = then_found (declr_of target most.roles d.node in_definition d.at x.1)
      (λ y s. and_then (derived_type target in_definition x.0.ctype y s) (λ t s. named_function target most.roles defined d.at x.0 t y.derivations attrs body y.name s)) r f in
      let b = declr_adds target most.roles most d.node name.0 (front_few count lines most.few few) in_definition d.at x.1 a.0 a.1 in
      let g = then_found (derived_type target in_definition x.0.ctype a.0.0 a.0.1) (λ t s. named_function target most.roles defined d.at x.0 t a.0.0.derivations attrs body a.0.0.name s) r a.2 in
      let place = located_found a.0.1 (type_found target (structures_of a.0.1) (layouts_of a.0.1) in_definition x.0.ctype a.0.0.derivations) g.0 g.1 in
      named_adds d.at x.0 g.0.0 a.0.0.derivations attrs b.used count b.within a.0.0.name b.name b.next body e.1 few x.1 g.0.1 r (adds_same most b.used x.1 a.0.1 g.0.1 place.1 b.adds) g.2) h

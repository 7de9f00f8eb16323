-- The definition of a function is typed to it: its declarator, its body in the scope of its parameters, and what is known behind
-- it.
use Rattle.std.proofs.Common.{◌≡◌, ℕ, ◌≤◌, true, List, [], ◌∷◌, ◌++◌, map, length, take, drop, Some, None, Ok, Err, ap, sym, ◌∙◌, slice_get, take-append-drop}
use Rattle.std.specs.Prelude.{if◌then◌else◌}
use Rattle.std.specs.Option.{is_some}
use Rattle.std.proofs.lemmas.List.{map-append}
use Rattle.cc_type.specs.CcTypedTerms.Declarators.{derived_type}
use Rattle.cc_type.specs.CcTypedTerms.Located.{located}
use Rattle.cc_unit_trees.specs.Units.{ShowsLocals}
use Rattle.cc_type.specs.CcLinkage.Linkage.{declared, may_be_declared}
use Rattle.cc_type.specs.CcLinkage.declared.linkage.DeclaredAs.TheVariants.{AsExtern}
use Rattle.cc_type.specs.CcObjects.Names.{function_judged}
use Rattle.cc_type.specs.CcOperands.Verdicts.{Judged, must, judge_then}
use Rattle.cc_type.specs.CcOperands.declared.rule.Rule.TheVariants as rule
use Rattle.cc_program.specs.declared.func.Func.{Func}
use Rattle.cc_program.specs.declared.program.Program.{Program}
use Rattle.cc_program.specs.declared.stmt.Stmt.{Stmt}
use Rattle.cc_program.specs.declared.types.CType.{CType}
use Rattle.cc_program.specs.declared.types.Shape.TheVariants as shape_rolls
use Rattle.cc_program.specs.declared.types.Sig.{Sig, out-Sig}
use Rattle.cc_type.specs.CcScopes.State.{State, Scope, with_locals}
use Rattle.cc_type.specs.CcScopes.Verdicts.{Found, whole, and_then, checked}
use Rattle.cc_type.specs.CcSpecifiers.Attributes.{entry_by}
use Rattle.cc_type.specs.CcSpecifiers.Derivations.{in_definition}
use Rattle.cc_type.specs.CcSpecifiers.Places.{JudgedAt}
use Rattle.cc_type.specs.CcSpecifiers.Storage.{setting}
use Rattle.cc_type.specs.CcSpecifiers.declared.attribute.Attribute.{Attribute}
use Rattle.cc_type.specs.CcSpecifiers.declared.attribute.Entity.TheVariants as entity
use Rattle.cc_type.specs.CcSpecifiers.declared.derivation.Declarator.{Declarator}
use Rattle.cc_type.specs.CcSpecifiers.declared.derivation.Derivation.{Derivation}
use Rattle.cc_type.specs.CcSpecifiers.declared.derivation.Derivation.TheVariants as to
use Rattle.cc_type.specs.CcSpecifiers.declared.derivation.Parameter.{Parameter}
use Rattle.cc_type.specs.CcSpecifiers.declared.specifier.Specified.{Specified}
use Rattle.cc_type.specs.CcSpecifiers.declared.storage.Where.TheVariants as stands
use Rattle.cc_unit_trees.specs.Lines.{ShowsStmts}
use Rattle.cc_type.specs.CcSyntax.Normal.{devices_in, is_normal_body, next_of}
use Rattle.cc_type.specs.CcSyntax.Sizes.{AreSized}
use Rattle.cc_type.specs.CcSyntax.Sound.{IsSound, IsFunc}
use Rattle.cc_type.specs.CcSyntax.Types.{Named}
use Rattle.cc_type.specs.CcTerms.Terms.{declr_of}
use Rattle.cc_tree.specs.declared.at.At.{At}
use Rattle.cc_tree.specs.declared.tree.Declr.{Declr}
use Rattle.cc_tree.specs.declared.tree.Spec.{Spec}
use Rattle.cc_tree.specs.declared.unit.Line.{Line}
use Rattle.cc_type.specs.Functions.{asked_by, locals_of, definition_judged, defined_as, function_of, function_defined, signature_at, entered_function, function_body_found, function_entered, judged_function, named_function, function_found}
use Rattle.cc_expression_trees.specs.Types.{ShowsBase}
use Rattle.cc_type.specs.CcTypedBodies.Lines.{line_here}
use Rattle.cc_type.specs.CcTypedBodies.Meanings.{lines_found}
use Rattle.cc_type.specs.CcTypedStatements.Jumps.{no_jumps}
use Rattle.cc_type.specs.CcUnit.declared.unit.UnitKind.TheVariants as kind
use Rattle.cc_shown_names.specs.Bodies.{first_locals, with_local_objects}
use Rattle.cc_shown_names.proofs.Bodies.{body-typed}
use Rattle.cc_shown_names.proofs.LocalObjects.{objects-behind, outside-stays}
use Rattle.cc_shown_names.specs.Functions.{parameters_scope, type_of_function, func_numbered, IsDefinition}
use Rattle.cc_shown_names.proofs.Main.{function-own, main-fits}
use Rattle.cc_shown_names.proofs.Parameters.{inside, knows-parameters, count-inside}
use Rattle.cc_shown_effects.specs.Numbers.{stmt_numbered}
use Rattle.cc_shown_expressions.specs.KnownNames.{KnowsNames, TypesStand}
use Rattle.cc_shown_expressions.specs.OperationNumbers.{Numbers}
use Rattle.cc_shown_names.specs.Devices.{KnowsDevices, with_devices}
use Rattle.cc_shown_expressions.specs.Known.{KnowsStructures}
use Rattle.cc_shown_expressions.specs.Numbers.{type_numbered, named_numbered, sig_numbered}
use Rattle.cc_shown_expressions.proofs.Bases.{specified-found}
use Rattle.cc_shown_expressions.proofs.Numbering.{sig-level}

module _ (p : Program) (i : ℕ) (f : Func) (n : Numbers) (defined : List (List ℕ)) (sound : IsSound p) (sized : AreSized p.structures p.target) (stand : TypesStand p f) (there : slice_get p.funcs i ≡ Some f) (own : IsFunc p f) where
  abbrev sig : Sig
  sig = sig_numbered n.structure f.sig

  abbrev type : CType
  type = type_of_function n f

  abbrev parameters : List Named
  parameters = take f.params f.locals

  abbrev others : List Named
  others = drop f.params f.locals

  abbrev numbered : List Named → List Named
  numbered ls = map (named_numbered n.structure) ls

  abbrev scope : Scope
  scope = parameters_scope n.structure parameters

  -- ---- the body, in the scope of the parameters

  module _ (first behind : ℕ) (t : State) (normal : is_normal_body p.target f ≡ true) (names : KnowsNames p (first_locals 0 f) n t) (devices : KnowsDevices p n first t.names) (next : next_of first (devices_in f.body) ≡ Some behind) (few : behind ≤ length p.devices) where
    abbrev start : State
    start = inside p f n own t

    abbrev end : State
    end = with_local_objects n others start

    result-is : (out-Sig sig).result ≡ type_numbered n.structure (out-Sig f.sig).result
    result-is = ap (λ s. s.result) (sig-level n.structure f.sig)

    lines-typed : (xs ys : List (At Line)) → ShowsLocals p.structures others xs → ShowsStmts p f f.body ys →
        lines_found no_jumps (map (line_here p.target p.roles defined (out-Sig sig).result) (xs ++ ys)) start ≡ Ok (map (stmt_numbered n) f.body, with_devices p first behind end)
    lines-typed xs ys locals shown =
        ap (λ r. lines_found no_jumps (map (line_here p.target p.roles defined r) (xs ++ ys)) start) result-is
        ∙ body-typed p f n defined sound sized stand own first behind start normal (knows-parameters p f n own t names) devices next few xs ys locals shown

    objects-are : end.locals ≡ numbered f.locals
    objects-are =
        objects-behind n others start own.automatic
        ∙ sym (map-append (named_numbered n.structure) parameters others) ∙ ap numbered (take-append-drop f.params f.locals)

    function-is : function_of f.name sig (length (numbered parameters)) end.locals (map (stmt_numbered n) f.body) ≡ func_numbered n f
    function-is =
        ap (λ k. function_of f.name sig k end.locals (map (stmt_numbered n) f.body)) (count-inside p f n own t)
        ∙ ap (λ ls. function_of f.name sig f.params ls (map (stmt_numbered n) f.body)) objects-are

    -- what is known behind it
    state-is : (at k : ℕ) → function_defined at k f.name type sig (length (numbered parameters)) (map (stmt_numbered n) f.body) (with_devices p first behind end)
        ≡ defined_as at k type (func_numbered n f) (with_locals [] (with_devices p first behind t))
    state-is at k =
        ap (λ (r : State). defined_as at k type (function_of f.name sig (length (numbered parameters)) end.locals (map (stmt_numbered n) f.body)) (with_locals [] (with_devices p first behind r))) (outside-stays n others start)
        ∙ ap (λ (g : Func). defined_as at k type g (with_locals [] (with_devices p first behind t))) function-is

    body-found : (at k : ℕ) (xs ys : List (At Line)) → ShowsLocals p.structures others xs → ShowsStmts p f f.body ys →
        function_body_found p.target p.roles defined at f.name type sig (numbered parameters) scope (xs ++ ys) (k, t) ≡ Ok (checked, defined_as at k type (func_numbered n f) (with_locals [] (with_devices p first behind t)))
    body-found at k xs ys locals shown =
        ap (λ (r : Found (List Stmt)). and_then r (λ ss s. Ok (checked, function_defined at k f.name type sig (length (numbered parameters)) ss s))) (lines-typed xs ys locals shown)
        ∙ ap (λ (s : State). Ok (checked, s)) (state-is at k)

  -- ---- the definition

  module _ (s : State) (free : may_be_declared AsExtern f.name type s ≡ true) where
    judged-is : (ps : List Parameter) (place : ℕ) (outer : List (At (Derivation Scope))) →
        definition_judged p.roles AsExtern f.name type (record { at = place; node = to.Function ps scope } ∷ outer) s ≡ Ok (ps, scope)
    judged-is ps place outer =
        ap (λ o. if is_some o then Err rule.MainOrIntrinsic else judge_then (function_judged AsExtern f.name type s) (λ t. Ok (ps, scope))) (function-own p sound.names i f there)
        ∙ ap (λ b. judge_then (must b rule.MainOrIntrinsic (must (may_be_declared AsExtern f.name type s) rule.DeclaredTwice (Ok type))) (λ t. Ok (ps, scope))) (main-fits n f own.form)
        ∙ ap (λ b. judge_then (must b rule.DeclaredTwice (Ok type)) (λ t. Ok (ps, scope))) free

    abbrev known : ℕ × State
    known = entered_function None (declared f.name AsExtern type (kind.Func None None) s)

    module _ (first behind : ℕ) (normal : is_normal_body p.target f ≡ true) (names : KnowsNames p (first_locals 0 f) n known.1) (devices : KnowsDevices p n first known.1.names) (next : next_of first (devices_in f.body) ≡ Some behind) (few : behind ≤ length p.devices) where
      abbrev last : ℕ → State
      last at = defined_as at known.0 type (func_numbered n f) (with_locals [] (with_devices p first behind known.1))

      named-is : (b : CType) (base : Specified) (d : At Declr) (xs ys : List (At Line)) (q : IsDefinition p f n s b d) → base.specs.storage ≡ None → base.specs.marks ≡ [] → ShowsLocals p.structures others xs → ShowsStmts p f f.body ys →
          named_function p.target p.roles defined d.at base type (record { at = q.place; node = to.Function q.parameters scope } ∷ q.outer) [] (xs ++ ys) (Some f.name) s ≡ Ok (checked, last d.at)
      named-is b base d xs ys q plain unmarked locals shown =
          let ds : List (At (Derivation Scope)) = record { at = q.place; node = to.Function q.parameters scope } ∷ q.outer in
          ap (λ (marks : List (At (List Attribute))). judged_function p.target p.roles defined d.at (asked_by base.specs.storage) f.name type ds (entry_by (marks ++ [])) (xs ++ ys) s) unmarked
          ∙ ap (λ w. judged_function p.target p.roles defined d.at (asked_by w) f.name type ds None (xs ++ ys) s) plain
          ∙ ap (λ (j : Judged (List Parameter × Scope)). and_then (whole d.at s j) (λ ps s. function_entered p.target p.roles defined d.at AsExtern f.name type None ps (xs ++ ys) s)) (judged-is q.parameters q.place q.outer)
          ∙ ap (λ g. function_body_found p.target p.roles defined d.at f.name type g (locals_of q.parameters) scope (xs ++ ys) known) (ap signature_at (shape_rolls.outs-Func sig))
          ∙ ap (λ ls. function_body_found p.target p.roles defined d.at f.name type sig ls scope (xs ++ ys) known) q.are
          ∙ body-found first behind known.1 normal names devices next few d.at known.0 xs ys locals shown

      pub definition-found : (b : CType) (ss : List (At Spec)) (d : At Declr) (xs ys : List (At Line)) → ShowsBase p.structures b ss → IsDefinition p f n s b d → ShowsLocals p.structures others xs → ShowsStmts p f f.body ys → KnowsStructures p n.structure s →
          function_found p.target p.roles defined ss d [] (xs ++ ys) s ≡ Ok (checked, last d.at)
      definition-found b ss d xs ys base q locals shown structures =
          let g = specified-found p n.structure p.roles s structures (setting stands.OfDefinition entity.Function) b ss base in
          let found : Specified = record { specs = g.specs; ctype = type_numbered n.structure b } in
          let ds : List (At (Derivation Scope)) = record { at = q.place; node = to.Function q.parameters scope } ∷ q.outer in
          ap (λ (r : Found Specified). and_then r (λ base s. and_then (declr_of p.target p.roles d.node in_definition d.at s) (λ x s.
          and_then (derived_type p.target in_definition base.ctype x s) (λ t s. named_function p.target p.roles defined d.at base t x.derivations [] (xs ++ ys) x.name s)))) g.is
          ∙ ap (λ (r : Found (Declarator Scope)). and_then r (λ x s. and_then (derived_type p.target in_definition (type_numbered n.structure b) x s) (λ t s. named_function p.target p.roles defined d.at found t x.derivations [] (xs ++ ys) x.name s))) q.is
          ∙ ap (λ (j : JudgedAt CType). and_then (located s j) (λ t s. named_function p.target p.roles defined d.at found t ds [] (xs ++ ys) (Some f.name) s)) q.typed
          ∙ named-is b found d xs ys q g.plain g.unmarked locals shown

-- The parts of a construct of a unit in the order in which they are read, each with what is known in front of it (C99 6.8,
-- 6.9).
use Rattle.std.specs.Prelude.{ℕ, false, List, [], ◌∷◌, ◌++◌, map, Option, Some, None, if◌then◌else◌}
use Rattle.cc_type.specs.CcTypedTerms.Declarators.{derived_type}
use Rattle.cc_first_faults.specs.Constructs.{Construct as Inner, ValueOf, Specifiers, Declaring, Declaration}
use Rattle.cc_first_faults.specs.FirstFaults.{after, parts_in_turn}
use Rattle.cc_first_faults.specs.Parts.{parts as inner_parts, attribute_parts, derivation_parts}
use Rattle.cc_type.specs.CcLinkage.Linkage.{declared}
use Rattle.cc_type.specs.CcLinkage.declared.linkage.DeclaredAs.{DeclaredAs}
use Rattle.cc_program.specs.CcNum.declared.int_type.IntType.{IntType}
use Rattle.cc_program.specs.CcNum.declared.target.Target.{Target}
use Rattle.cc_type.specs.CcOperands.Operands.{Operand}
use Rattle.cc_program.specs.declared.func.Entry.{Entry}
use Rattle.cc_program.specs.declared.program.Roles.{Roles}
use Rattle.cc_program.specs.declared.types.CType.{CType}
use Rattle.cc_program.specs.declared.types.Sig.{out-Sig}
use Rattle.cc_type.specs.CcScopes.State.{State, Name, Scope, empty, entered, with_locals}
use Rattle.cc_type.specs.CcScopes.Verdicts.{whole, maybe_found, checked}
use Rattle.cc_type.specs.CcSpecifiers.Attributes.{entry_by}
use Rattle.cc_type.specs.CcSpecifiers.Derivations.{in_definition}
use Rattle.cc_type.specs.CcSpecifiers.Storage.{setting}
use Rattle.cc_type.specs.CcSpecifiers.declared.attribute.Entity.TheVariants as entity
use Rattle.cc_type.specs.CcSpecifiers.declared.derivation.Derivation.{Derivation}
use Rattle.cc_type.specs.CcSpecifiers.declared.derivation.Parameter.{Parameter}
use Rattle.cc_type.specs.CcSpecifiers.declared.specifier.Specified.{Specified}
use Rattle.cc_type.specs.CcSpecifiers.declared.storage.Where.TheVariants as stands
use Rattle.cc_type.specs.CcTerms.Specifiers.{specified_found}
use Rattle.cc_type.specs.CcTerms.Terms.{declr_of, spec_here}
use Rattle.cc_tree.specs.declared.at.At.{At}
use Rattle.cc_tree.specs.declared.tree.Attr.{Attr}
use Rattle.cc_tree.specs.declared.tree.Declr.{Declr}
use Rattle.cc_tree.specs.declared.tree.Spec.{Spec}
use Rattle.cc_tree.specs.declared.tree.Tree.{Tree}
use Rattle.cc_tree.specs.declared.unit.First.{First}
use Rattle.cc_tree.specs.declared.unit.First.TheVariants as first
use Rattle.cc_tree.specs.declared.unit.Line.{Line, out-Line}
use Rattle.cc_tree.specs.declared.unit.Line.TheOpen as one_line
use Rattle.cc_type.specs.Functions.{definition_judged, definition_marks, entered_function, locals_of, signature_of, asked_by}
use Rattle.cc_type.specs.Units.{item_next}
use Rattle.cc_type.specs.CcTypedBodies.Lines.{line_here}
use Rattle.cc_type.specs.CcTypedBodies.Meanings.{opens_scope, line_found, body_found, item_found}
use Rattle.cc_type.specs.CcTypedBodies.Parts.{value_here, effect_found, first_found}
use Rattle.cc_type.specs.CcTypedStatements.Jumps.{no_jumps, in_loop, in_switch}
use Rattle.cc_type.specs.CcTypedStatements.Labels.{no_case, case_label, default_label, cases_behind}
use Rattle.cc_type.specs.CcTypedStatements.Switch.{switch_type}
use Rattle.cc_type.specs.CcTypedStatements.declared.cases.Cases.{Cases}
use Rattle.cc_type.specs.CcTypedStatements.declared.jumps.Jumps.{Jumps}
use Rattle.cc_type.specs.CcUnit.declared.unit.UnitKind.TheVariants as kind
use Rattle.cc_unit_faults.specs.Constructs.{Construct, Within, EffectOf, Statement, SwitchBody, Labelled, Definition, DefinitionNamed, WholeUnit, item_construct}

abbrev pub Parts : Type 0
Parts = List (Construct × State)

-- parts of a declaration, in a unit
abbrev pub within_unit : Inner × State → Construct × State
within_unit p = (Within p.0, p.1)

abbrev pub value_if_any : Option (At Tree) → State → Parts
value_if_any None s = []
value_if_any (Some e) s = (Within (ValueOf e), s) ∷ []

abbrev pub effect_if_any : Option (At Tree) → State → Parts
effect_if_any None s = []
effect_if_any (Some e) s = (EffectOf e, s) ∷ []

-- what stands first in a `for`
abbrev pub first_parts : First → State → Parts
first_parts (first.Decl d) s = (Within (Declaration stands.InFor d), s) ∷ []
first_parts (first.Expr e) s = effect_if_any e s

module _ (target : Target) (roles : Roles) where
  -- a value, and those parts behind it
  abbrev pub value_part : At Tree → State → (Operand → State → Parts) → Parts
  value_part e s rest = (Within (ValueOf e), s) ∷ after (value_here target roles e s) rest

module _ (target : Target) (roles : Roles) (defined : List Name) (result : CType) where
  -- ---- statements (6.8), in the scope that they may have of their own; a statement in one has its own too (6.8.4, 3;
  -- 6.8.5, 5)

  abbrev pub body_part : Jumps → At Line → State → Construct × State
  body_part j l s = (Statement result j l, entered empty s)

  abbrev pub else_part : Jumps → Option (At Line) → State → Parts
  else_part j None s = []
  else_part j (Some l) s = body_part j l s ∷ []

  abbrev pub line_parts : Jumps → List (At Line) → State → Parts
  line_parts j ls s = parts_in_turn (λ l. line_found j (line_here target roles defined result l)) (λ l before. Statement result j l) ls [] s

  abbrev pub inside_parts : Jumps → one_line.Line-F Line → State → Parts
  inside_parts j (one_line.Block ls) s = line_parts j ls s
  inside_parts j (one_line.Decl d) s = (Within (Declaration stands.InBlock d), s) ∷ []
  inside_parts j (one_line.Expr e) s = effect_if_any e s
  inside_parts j (one_line.If e a b) s =
      value_part target roles e s (λ x s. body_part j a s ∷ after (body_found j (line_here target roles defined result a) s) (λ ss s. else_part j b s))
  inside_parts j (one_line.While e a) s = value_part target roles e s (λ x s. body_part (in_loop j) a s ∷ [])
  inside_parts j (one_line.DoWhile a e) s =
      body_part (in_loop j) a s ∷ after (body_found (in_loop j) (line_here target roles defined result a) s) (λ ss s. (Within (ValueOf e), s) ∷ [])
  inside_parts j (one_line.For f test step a) s =
      first_parts f s ++ after (first_found target roles defined f s) (λ x s.
      value_if_any test s ++ after (maybe_found (value_here target roles) test s) (λ y s.
      effect_if_any step s ++ after (maybe_found (effect_found target roles) step s) (λ z s. body_part (in_loop j) a s ∷ [])))
  inside_parts j (one_line.Switch e a) s =
      value_part target roles e s (λ x s. (SwitchBody result (in_switch j) (switch_type target x.type) a, entered empty s) ∷ [])
  inside_parts j (one_line.Case e a) s = value_part target roles e s (λ x s. (Statement result j a, s) ∷ [])
  inside_parts j (one_line.Default a) s = (Statement result j a, s) ∷ []
  inside_parts j one_line.Break s = []
  inside_parts j one_line.Continue s = []
  inside_parts j (one_line.Return e) s = value_if_any e s

  abbrev pub statement_parts : Jumps → one_line.Line-F Line → State → Parts
  statement_parts j l s = inside_parts j l (if opens_scope l then entered empty s else s)

  -- ---- the body of a `switch`, and a line at its top level (6.8.4.2)

  abbrev pub switch_parts : Jumps → IntType → one_line.Line-F Line → At Line → State → Parts
  switch_parts j t (one_line.Block ls) l s =
      parts_in_turn (λ l. item_found j t (line_here target roles defined result l)) (λ l cases. Labelled result j t cases l) ls no_case (entered empty s)
  switch_parts j t _ l s = (Statement result j l, s) ∷ []

  abbrev pub labelled_parts : Jumps → IntType → Cases → one_line.Line-F Line → At Line → State → Parts
  labelled_parts j t cases (one_line.Case e a) l s =
      value_part target roles e s (λ x s. (Labelled result j t (cases_behind (case_label target t x cases) cases) a, s) ∷ [])
  labelled_parts j t cases (one_line.Default a) l s = (Labelled result j t (cases_behind (default_label cases) cases) a, s) ∷ []
  labelled_parts j t cases _ l s = (Statement result j l, s) ∷ []

-- ---- function definitions (6.9.1)

-- in front of the body of a function: it is declared, and its parameters are in scope
abbrev pub in_body : DeclaredAs → Name → CType → Option Entry → List Parameter × Scope → State → State
in_body asked x t entry ps s = entered ps.1 (with_locals (locals_of ps.0) (entered_function entry (declared x asked t (kind.Func None None) s)).1)

module _ (target : Target) (roles : Roles) (defined : List Name) where
  -- the name behind the attributes, the body behind the name
  abbrev pub named_parts : ℕ → Specified → CType → List (At (Derivation Scope)) → List (At Attr) → List (At Line) → Option Name → State → Parts
  named_parts at base t ds attrs body None s = []
  named_parts at base t ds attrs body (Some x) s =
      map within_unit (attribute_parts (entity.Function ∷ []) attrs s) ++ after (definition_marks base.specs.marks attrs s) (λ marks s.
      (DefinitionNamed at (asked_by base.specs.storage) x t ds, s) ∷ after (whole at s (definition_judged roles (asked_by base.specs.storage) x t ds s)) (λ ps s.
      line_parts target roles defined (out-Sig (signature_of t)).result no_jumps body (in_body (asked_by base.specs.storage) x t (entry_by marks) ps s)))

  abbrev pub definition_parts : List (At Spec) → At Declr → List (At Attr) → List (At Line) → State → Parts
  definition_parts specs d attrs body s =
      (Within (Specifiers (setting stands.OfDefinition entity.Function) specs), s)
      ∷ after (specified_found (setting stands.OfDefinition entity.Function) (map (spec_here target roles) specs) s) (λ base s.
      (Within (Declaring in_definition d), s) ∷ after (declr_of target roles d.node in_definition d.at s) (λ x s.
      map within_unit (derivation_parts false base.ctype x.derivations s) ++ after (derived_type target in_definition base.ctype x s) (λ t s.
      named_parts d.at base t x.derivations attrs body x.name s)))

  -- ---- all constructs

  abbrev pub parts : Construct → State → Parts
  parts (Within c) s = map within_unit (inner_parts target roles defined c s)
  parts (EffectOf e) s = (Within (ValueOf e), s) ∷ []
  parts (Statement result j l) s = statement_parts target roles defined result j (out-Line l.node) s
  parts (SwitchBody result j t l) s = switch_parts target roles defined result j t (out-Line l.node) l s
  parts (Labelled result j t cases l) s = labelled_parts target roles defined result j t cases (out-Line l.node) l s
  parts (Definition specs d attrs body) s = definition_parts specs d attrs body s
  parts (DefinitionNamed at asked x t ds) s = []
  parts (WholeUnit items) s = parts_in_turn (item_next target roles defined) (λ i done. item_construct i.node) items checked s

-- Function definitions (C99 6.9.1). The names are those of the objects that the unit defines.
use Rattle.std.specs.Prelude.{ℕ, List, [], ◌∷◌, ◌++◌, map, length, Option, Some, None, slice_get, Ok, Err, if◌then◌else◌}
use Rattle.cc_typed_terms.specs.Declarators.{derived_type}
use Rattle.cc_typed_terms.specs.Located.{located}
use Rattle.cc_typed_bodies.specs.CcLinkage.Linkage.{declared}
use Rattle.cc_typed_bodies.specs.CcLinkage.declared.linkage.DeclaredAs.{DeclaredAs}
use Rattle.cc_typed_bodies.specs.CcLinkage.declared.linkage.DeclaredAs.TheVariants.{AsStatic, AsExtern}
use Rattle.cc_program.specs.CcNum.declared.target.Target.{Target}
use Rattle.cc_typed_bodies.specs.CcObjects.Names.{function_judged}
use Rattle.cc_typed_bodies.specs.CcOperands.Qualified.{plain}
use Rattle.cc_typed_bodies.specs.CcOperands.Verdicts.{Judged, judge_then}
use Rattle.cc_typed_bodies.specs.CcOperands.declared.rule.Rule.TheVariants as rule
use Rattle.cc_typed_terms.specs.Primary.{is_intrinsic}
use Rattle.cc_program.specs.declared.func.Entry.{Entry}
use Rattle.cc_program.specs.declared.func.Func.{Func}
use Rattle.cc_program.specs.declared.program.Roles.{Roles}
use Rattle.cc_program.specs.declared.stmt.Stmt.{Stmt}
use Rattle.cc_program.specs.declared.types.CType.{CType}
use Rattle.cc_program.specs.declared.types.Shape.{Shape, Void, out-Shape}
use Rattle.cc_program.specs.declared.types.Shape.TheOpen as shape
use Rattle.cc_program.specs.declared.types.Sig.{Sig, out-Sig, roll-Sig}
use Rattle.cc_scopes.specs.Definitions.{defined_at, with_entry, entry_in}
use Rattle.cc_scopes.specs.State.{State, Scope, Name, name_or_none, entered, left, with_locals, change_name}
use Rattle.cc_scopes.specs.Verdicts.{Found, whole, and_then, Checked, checked}
use Rattle.cc_scopes.specs.declared.unit.Declared.{Declared}
use Rattle.cc_typed_bodies.specs.CcUnit.declared.unit.UnitKind.TheVariants as kind
use Rattle.cc_typed_bodies.specs.CcSpecifiers.Attributes.{attributes, entry_by}
use Rattle.cc_typed_bodies.specs.CcSpecifiers.Derivations.{in_definition}
use Rattle.cc_typed_bodies.specs.CcSpecifiers.Storage.{setting}
use Rattle.cc_typed_bodies.specs.CcSpecifiers.declared.attribute.Attribute.{Attribute}
use Rattle.cc_typed_bodies.specs.CcSpecifiers.declared.attribute.Entity.TheVariants as entity
use Rattle.cc_typed_bodies.specs.CcSpecifiers.declared.derivation.Derivation.{Derivation}
use Rattle.cc_typed_bodies.specs.CcSpecifiers.declared.derivation.Derivation.TheVariants as to
use Rattle.cc_typed_bodies.specs.CcSpecifiers.declared.derivation.Parameter.{Parameter}
use Rattle.cc_typed_bodies.specs.CcSpecifiers.declared.specifier.Specified.{Specified}
use Rattle.cc_typed_bodies.specs.CcSpecifiers.declared.storage.Where.TheVariants as stands
use Rattle.cc_typed_bodies.specs.CcSyntax.Types.{Named}
use Rattle.cc_terms.specs.Declarators.{declarator}
use Rattle.cc_terms.specs.Specifiers.{specified_found}
use Rattle.cc_terms.specs.Terms.{spec_here, declr_here}
use Rattle.cc_tree.specs.declared.at.At.{At}
use Rattle.cc_tree.specs.declared.tree.Attr.{Attr}
use Rattle.cc_tree.specs.declared.tree.Declr.{Declr}
use Rattle.cc_tree.specs.declared.tree.Spec.{Spec}
use Rattle.cc_tree.specs.declared.unit.Line.{Line}
use Rattle.cc_typed_bodies.specs.Lines.{line_here}
use Rattle.cc_typed_bodies.specs.Meanings.{lines_found}
use Rattle.cc_typed_bodies.specs.CcTypedStatements.Jumps.{no_jumps}
use Rattle.cc_program.specs.CcWords.declared.word.Word.{Word}
use Rattle.cc_program.specs.CcWords.declared.word.Word.TheVariants as w

-- ---- the declarator of a definition has parameters of its own (6.9.1, 2)

abbrev pub parameters_of : Derivation Scope → Judged (List Parameter × Scope)
parameters_of (to.Function ps scope) = Ok (ps, scope)
parameters_of (to.Pointer constant volatile) = Err rule.NoObjectType
parameters_of (to.Array n) = Err rule.NoObjectType

abbrev pub parameters_in : List (At (Derivation Scope)) → Judged (List Parameter × Scope)
parameters_in [] = Err rule.NoObjectType
parameters_in (d ∷ ds) = parameters_of d.node

-- each has a name
abbrev pub local_of : Parameter → Named
local_of p = (name_or_none p.name, p.ctype)

abbrev pub locals_of : List Parameter → List Named
locals_of ps = map local_of ps

abbrev pub asked_by : Option Word → DeclaredAs
asked_by (Some w.Static) = AsStatic
asked_by _ = AsExtern

abbrev pub no_signature : Sig
no_signature = roll-Sig (record { result = plain Void; params = [] })

abbrev pub signature_at : shape.Shape-F Shape CType Sig → Sig
signature_at (shape.Func sig) = sig
signature_at _ = no_signature

abbrev pub signature_of : CType → Sig
signature_of t = signature_at (out-Shape t.shape)

abbrev pub definition_judged : Roles → DeclaredAs → Name → CType → List (At (Derivation Scope)) → State → Judged (List Parameter × Scope)
definition_judged roles asked x t ds s =
    judge_then (parameters_in ds) (λ ps.
    if is_intrinsic roles x then Err rule.MainOrIntrinsic
    else judge_then (function_judged asked x t s) (λ t. Ok ps))

-- its attributes are those of the specifiers, and behind them those of the declarator
abbrev pub definition_marks : List (At (List Attribute)) → List (At Attr) → State → Found (List (At (List Attribute)))
definition_marks before attrs s = and_then (located s (attributes (entity.Function ∷ []) attrs)) (λ marks s. Ok (before ++ marks, s))

-- ---- the function itself

abbrev pub function_of : Name → Sig → ℕ → List Named → List Stmt → Func
function_of x sig params locals body = record { name = x; sig = sig; entry = None; params = params; locals = locals; body = body }

abbrev pub entry_of : Option Declared → Option Entry
entry_of None = None
entry_of (Some d) = entry_in d.kind

abbrev pub entry_at : ℕ → State → Option Entry
entry_at i s = entry_of (slice_get s.names i)

abbrev pub defined_as : ℕ → ℕ → CType → Func → State → State
defined_as at i t f s = change_name i (defined_at at t (kind.Func (entry_at i s) (Some f))) s

-- behind its body
abbrev pub function_defined : ℕ → ℕ → Name → CType → Sig → ℕ → List Stmt → State → State
function_defined at i x t sig params ss s = left (defined_as at i t (function_of x sig params s.locals ss) (with_locals [] s))

abbrev pub entered_function : Option Entry → ℕ × State → ℕ × State
entered_function entry known = (known.0, change_name known.0 (with_entry entry) known.1)

module _ (target : Target) (roles : Roles) (defined : List Name) where
  -- the parameters are in scope in the body's block, which is their scope (6.2.1, 4)
  abbrev pub function_body_found : ℕ → Name → CType → Sig → List Named → Scope → List (At Line) → ℕ × State → Found Checked
  function_body_found at x t sig locals scope body known =
      and_then (lines_found no_jumps (map (line_here target roles defined (out-Sig sig).result) body) (entered scope (with_locals locals known.1))) (λ ss s.
      Ok (checked, function_defined at known.0 x t sig (length locals) ss s))

  -- it is declared with its attributes, and then its body is read
  abbrev pub function_entered : ℕ → DeclaredAs → Name → CType → Option Entry → List Parameter × Scope → List (At Line) → State → Found Checked
  function_entered at asked x t entry ps body s =
      function_body_found at x t (signature_of t) (locals_of ps.0) ps.1 body (entered_function entry (declared x asked t (kind.Func None None) s))

  abbrev pub judged_function : ℕ → DeclaredAs → Name → CType → List (At (Derivation Scope)) → Option Entry → List (At Line) → State → Found Checked
  judged_function at asked x t ds entry body s =
      and_then (whole at s (definition_judged roles asked x t ds s)) (λ ps s. function_entered at asked x t entry ps body s)

  abbrev pub named_function : ℕ → Specified → CType → List (At (Derivation Scope)) → List (At Attr) → List (At Line) → Option Name → State → Found Checked
  named_function at base t ds attrs body None s = Ok (checked, s)
  named_function at base t ds attrs body (Some x) s =
      and_then (definition_marks base.specs.marks attrs s) (λ marks s. judged_function at (asked_by base.specs.storage) x t ds (entry_by marks) body s)

  abbrev pub function_found : List (At Spec) → At Declr → List (At Attr) → List (At Line) → State → Found Checked
  function_found specs d attrs body s =
      and_then (specified_found (setting stands.OfDefinition entity.Function) (map (spec_here target roles) specs) s) (λ base s.
      declarator in_definition (declr_here target roles d) s (λ x s.
      and_then (derived_type target in_definition base.ctype x s) (λ t s. named_function d.at base t x.derivations attrs body x.name s)))

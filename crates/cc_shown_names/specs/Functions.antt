-- A function with the numbers that a translation unit gives, what its declarator gives where it is defined, and the scope of its
-- parameters (C99 6.2.1, 4, 6.9.1).
use Rattle.std.specs.Prelude.{◌≡◌, ℕ, suc, List, [], ◌∷◌, map, take, Some, None, Ok}
use Rattle.cc_type.specs.CcOperands.Qualified.{plain}
use Rattle.cc_program.specs.declared.func.Func.{Func}
use Rattle.cc_program.specs.declared.program.Program.{Program}
use Rattle.cc_program.specs.declared.types.CType.{CType}
use Rattle.cc_program.specs.declared.types.Shape.{Func as FuncShape}
use Rattle.cc_type.specs.CcScopes.State.{State, Scope, Name, structures_of, layouts_of}
use Rattle.cc_type.specs.CcScopes.declared.designated.Designated.{Designated}
use Rattle.cc_type.specs.CcScopes.declared.designated.Designated.TheVariants as means
use Rattle.cc_shown_effects.specs.Numbers.{stmt_numbered}
use Rattle.cc_shown_expressions.specs.OperationNumbers.{Numbers}
use Rattle.cc_shown_expressions.specs.Numbers.{type_numbered, named_numbered, sig_numbered}
use Rattle.cc_type.specs.CcSpecifiers.Declarators.{type_found}
use Rattle.cc_type.specs.CcSpecifiers.Derivations.{in_definition}
use Rattle.cc_type.specs.CcSpecifiers.declared.derivation.Derivation.{Derivation}
use Rattle.cc_type.specs.CcSpecifiers.declared.derivation.Derivation.TheVariants as to
use Rattle.cc_type.specs.CcSpecifiers.declared.derivation.Parameter.{Parameter}
use Rattle.cc_type.specs.CcSyntax.Types.{Named}
use Rattle.cc_type.specs.CcTerms.Terms.{declr_of}
use Rattle.cc_tree.specs.declared.at.At.{At}
use Rattle.cc_tree.specs.declared.tree.Declr.{Declr}
use Rattle.cc_type.specs.Functions.{locals_of}

-- each parameter's name designates the local of its position
abbrev pub names_from : (ℕ → ℕ) → ℕ → List Named → List (Name × Designated)
names_from number i [] = []
names_from number i (l ∷ ls) = (l.0, means.Automatic i (type_numbered number l.1)) ∷ names_from number (suc i) ls

abbrev pub parameters_scope : (ℕ → ℕ) → List Named → Scope
parameters_scope number ls = record { names = names_from number 0 ls; tags = [] }

abbrev pub type_of_function : Numbers → Func → CType
type_of_function n f = plain (FuncShape (sig_numbered n.structure f.sig))

-- behind its body: whether it is a handler is said where it is declared
abbrev pub func_numbered : Numbers → Func → Func
func_numbered n f = record { name = f.name; sig = sig_numbered n.structure f.sig; entry = None; params = f.params; locals = map (named_numbered n.structure) f.locals; body = map (stmt_numbered n) f.body }

-- a declarator of the function with its parameters, behind specifiers of the type `base`
pub record IsDefinition (p : Program) (f : Func) (n : Numbers) (s : State) (base : CType) (d : At Declr) : Type 0 where
  pub parameters : List Parameter
  pub are : locals_of parameters ≡ map (named_numbered n.structure) (take f.params f.locals)
  pub place : ℕ
  pub outer : List (At (Derivation Scope))
  pub is : declr_of p.target p.roles d.node in_definition d.at s
      ≡ Ok (record { name = Some f.name; derivations = record { at = place; node = to.Function parameters (parameters_scope n.structure (take f.params f.locals)) } ∷ outer }, s)
  pub typed : type_found p.target (structures_of s) (layouts_of s) in_definition (type_numbered n.structure base)
      (record { at = place; node = to.Function parameters (parameters_scope n.structure (take f.params f.locals)) } ∷ outer) ≡ Ok (type_of_function n f)

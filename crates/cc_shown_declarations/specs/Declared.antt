-- A declarator that declares a function of a program, behind specifiers: its parameters and their scope, and its type.
use Rattle.std.specs.Prelude.{◌≡◌, ℕ, List, ◌∷◌, map, Some, Ok}
use Rattle.cc_type.specs.CcOperands.Qualified.{plain}
use Rattle.cc_program.specs.declared.program.Program.{Program}
use Rattle.cc_program.specs.declared.program.Roles.{Roles}
use Rattle.cc_program.specs.declared.types.CType.{CType}
use Rattle.cc_program.specs.declared.types.Shape.{Func}
use Rattle.cc_program.specs.declared.types.Sig.{Sig}
use Rattle.cc_type.specs.CcScopes.State.{State, Scope, Name, structures_of, layouts_of}
use Rattle.cc_shown_declarations.specs.Parameters.{Entry, entry_numbered, entry_of, scope_of}
use Rattle.cc_shown_expressions.specs.Numbers.{type_numbered, sig_numbered}
use Rattle.cc_type.specs.CcSpecifiers.Declarators.{type_found}
use Rattle.cc_type.specs.CcSpecifiers.declared.derivation.Allowed.{Allowed}
use Rattle.cc_type.specs.CcSpecifiers.declared.derivation.Derivation.{Derivation}
use Rattle.cc_type.specs.CcSpecifiers.declared.derivation.Derivation.TheVariants as to
use Rattle.cc_type.specs.CcSpecifiers.declared.derivation.Parameter.{Parameter}
use Rattle.cc_type.specs.CcTerms.Terms.{declr_of}
use Rattle.cc_tree.specs.declared.at.At.{At}
use Rattle.cc_tree.specs.declared.tree.Declr.{Declr}

module _ (p : Program) (number : ℕ → ℕ) (roles : Roles) (s : State) where
  -- behind specifiers of the type `base`, with these parameters
  pub record IsFunctionDeclared (d : Declr) (allowed : Allowed) (at : ℕ) (x : Name) (entries : List Entry) (base : CType) (sig : Sig) : Type 0 where
    pub parameters : List Parameter
    pub are : map entry_of parameters ≡ map (entry_numbered number) entries
    -- what is derived next to the name, and the rest
    pub place : ℕ
    pub outer : List (At (Derivation Scope))
    pub is : declr_of p.target roles d allowed at s ≡ Ok (record { name = Some x; derivations = record { at = place; node = to.Function parameters (scope_of (map (entry_numbered number) entries)) } ∷ outer }, s)
    pub typed : type_found p.target (structures_of s) (layouts_of s) allowed (type_numbered number base) (record { at = place; node = to.Function parameters (scope_of (map (entry_numbered number) entries)) } ∷ outer)
        ≡ Ok (plain (Func (sig_numbered number sig)))

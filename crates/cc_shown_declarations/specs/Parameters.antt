-- The parameters of a function as its declarator gives them, and the scope in which those with names are declared (C99
-- 6.2.1, 4; 6.7.5.3).
use Rattle.std.specs.Prelude.{◌≡◌, ℕ, suc, Bool, true, false, not, List, [], ◌∷◌, Option, Some, None}
use Rattle.std.specs.List.{list_all}
use Rattle.cc_type.specs.CcTypedTerms.Primary.{is_intrinsic}
use Rattle.cc_program.specs.declared.program.Roles.{Roles}
use Rattle.cc_program.specs.declared.types.CType.{CType}
use Rattle.cc_program.specs.declared.types.Shape.{Shape}
use Rattle.cc_program.specs.declared.types.Shape.TheOpen as shape
use Rattle.cc_program.specs.declared.types.Sig.{Sig}
use Rattle.cc_type.specs.CcScopes.State.{Scope, Name}
use Rattle.cc_type.specs.CcScopes.declared.designated.Designated.{Designated}
use Rattle.cc_type.specs.CcScopes.declared.designated.Designated.TheVariants as means
use Rattle.cc_shown_expressions.specs.Numbers.{type_numbered}
use Rattle.cc_type.specs.CcSpecifiers.declared.derivation.Parameter.{Parameter}
use Rattle.cc_program.specs.CcWords.Names.{are_distinct}

-- a parameter's name, if it has one, with its type
abbrev pub Entry : Type 0
Entry = Option Name × CType

abbrev pub entry_numbered : (ℕ → ℕ) → Entry → Entry
entry_numbered number e = (e.0, type_numbered number e.1)

abbrev pub entry_of : Parameter → Entry
entry_of q = (q.name, q.ctype)

-- ---- their names

abbrev pub with_name : Option Name → List Name → List Name
with_name None names = names
with_name (Some x) names = x ∷ names

abbrev pub entry_names : List Entry → List Name
entry_names [] = []
entry_names (e ∷ es) = with_name e.0 (entry_names es)

-- no two are the same, and none is an intrinsic's
abbrev pub HaveNewNames : Roles → List Entry → Type 0
HaveNewNames roles es = (are_distinct (entry_names es) ≡ true) × (list_all (λ x. not (is_intrinsic roles x)) (entry_names es) ≡ true)

-- ---- their scope: each name designates the local of its position

abbrev pub with_local : ℕ → Option Name → CType → List (Name × Designated) → List (Name × Designated)
with_local i None t names = names
with_local i (Some x) t names = (x, means.Automatic i t) ∷ names

abbrev pub locals_from : ℕ → List Entry → List (Name × Designated)
locals_from i [] = []
locals_from i (e ∷ es) = with_local i e.0 e.1 (locals_from (suc i) es)

abbrev pub scope_of : List Entry → Scope
scope_of es = record { names = locals_from 0 es; tags = [] }

abbrev pub is_function_shape : shape.Shape-F Shape CType Sig → Bool
is_function_shape (shape.Func sig) = true
is_function_shape _ = false

-- Devices without a name that stand behind a construct: each stood in front of it, or is accessed in it.
use Rattle.std.specs.Prelude.{◌≡◌, ◌⊎◌, ℕ, Bool, true, false, Option, Some, None, slice_get}
use Rattle.cc_accessed_operands.specs.Kept.{designated_accesses, IsKnownPlace}
use Rattle.cc_terms.specs.CcDesignators.Designators.{TypedExpr}
use Rattle.cc_terms.specs.CcScopes.State.{State}
use Rattle.cc_terms.specs.CcScopes.declared.unit.Declared.{Declared}
use Rattle.cc_terms.specs.CcSyntax.Sound.{is_numbered}
use Rattle.cc_terms.specs.CcUnit.declared.unit.UnitKind.{UnitKind}
use Rattle.cc_terms.specs.CcUnit.declared.unit.UnitKind.TheVariants as kind

-- a device without a name
abbrev pub is_numbered_kind : UnitKind → Bool
is_numbered_kind (kind.Device d) = is_numbered d
is_numbered_kind (kind.Object leaves) = false
is_numbered_kind (kind.Func entry body) = false

abbrev pub is_numbered_entry : Option Declared → Bool
is_numbered_entry None = false
is_numbered_entry (Some d) = is_numbered_kind d.kind

-- the name of that number is a device without a name
abbrev pub is_numbered_at : State → ℕ → Bool
is_numbered_at s i = is_numbered_entry (slice_get s.names i)

abbrev pub Accounts : (ℕ → Bool) → State → State → Type 0
Accounts accessed s t = (i : ℕ) → is_numbered_at t i ≡ true → (is_numbered_at s i ≡ true) ⊎ (accessed i ≡ true)

-- nothing that a construct leaves is accessed: it declares no device without a name
abbrev pub DeclaresNone : State → State → Type 0
DeclaresNone s t = Accounts (λ i. false) s t

-- what an expression is found to be
pub record IsAccounted (s : State) (r : TypedExpr × State) : Type 0 where
  pub known : IsKnownPlace r.0
  pub accounts : Accounts (λ i. designated_accesses i r.0) s r.1

-- Structures that are completed, and what the kind of a type becomes.
use Rattle.std.specs.Prelude.{◌≡◌, ℕ, Option, Some, None}
use Rattle.cc_operands.specs.CcSyntax.Kinds.{Kind, IsStructure, IsIncomplete}

-- what is complete stays so, with as many bytes, and what is there stays there
pub record Grow (before after : ℕ → Option (Option ℕ)) : Type 0 where
  pub complete : (i n : ℕ) → before i ≡ Some (Some n) → after i ≡ Some (Some n)
  pub there : (i : ℕ) → before i ≡ Some None → (x : Option ℕ) × (after i ≡ Some x)

-- the same kind, or an incomplete structure that is complete then
pub data Later : Kind → Kind → Type 0 where
  Same : (k : Kind) → Later k k
  Completed : (n : ℕ) → Later IsIncomplete (IsStructure n)

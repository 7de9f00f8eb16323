-- A twin of the code: what is answered to a list of tokens, by the turns that it leads through.
use Rattle.std.specs.Prelude.{◌≡◌, ◌≤◌, ◌-◌, ℕ, length, max, Some, slice_get, ⊤}
use Rattle.cc_lex.specs.declared.token.Token.{Token}
use Rattle.cc_tree.specs.declared.fault.GramFault.{GramFault}
use Rattle.cc_tree.specs.declared.fault.GramFault.TheVariants as fault
use Rattle.cc_tree.specs.declared.unit.Unit.{Unit as UnitTree}
use Rattle.cc_tree.specs.Faults.{place}
use Rattle.cc_tree.specs.Machine.{Reads, Refuses, Exceeds}
use Rattle.cc_tree.specs.Tokens.{Tokens}
use Rattle.cc_tree.specs.Turns.{tall}

-- Turns lead to the end, with this unit.
pub record ReadsUnit (limit : ℕ) (ts : Tokens) (u : UnitTree) : Type 0 where
  pub height : ℕ
  pub reads : Reads limit ts (tall u height)

-- Turns lead to a state from which there is no turn, at this offset.
pub record RefusesAt (limit : ℕ) (ts : Tokens) (n : ℕ) : Type 0 where
  pub ahead : ℕ
  pub refuses : Refuses limit ts ahead
  pub offset : n ≡ place ts ahead

-- the offset of the token from which so many stand to the end, or of the last one, with at least 64 before it
pub record DeepAt (ts : Tokens) (ahead : ℕ) (n : ℕ) : Type 0 where
  pub before : ℕ
  pub token : Token
  pub is : before ≡ length ts - max ahead 1
  pub there : slice_get ts before ≡ Some token
  pub enough : 64 ≤ before
  pub offset : n ≡ token.at

-- Turns lead to one that reads something higher than the limit.
pub record ExceedsAt (limit : ℕ) (ts : Tokens) (n : ℕ) : Type 0 where
  pub ahead : ℕ
  pub exceeds : Exceeds limit ts ahead
  pub place : DeepAt ts ahead n

abbrev pub IfSyntax : (ℕ → Type 0) → GramFault → Type 0
IfSyntax P (fault.Syntax n) = P n
IfSyntax P _ = ⊤

abbrev pub IfTooDeep : (ℕ → Type 0) → GramFault → Type 0
IfTooDeep P (fault.TooDeep n) = P n
IfTooDeep P _ = ⊤

-- no outside word is told
abbrev pub IsInside : GramFault → Type 0
IsInside (fault.Outside x n) = ⊥
IsInside _ = ⊤

-- Why tokens are refused, where memory did not run out, and at which of them.
use Rattle.std.specs.Prelude.{◌≡◌, ◌≤◌, ◌-◌, ◌+◌, ◌^◌, ℕ, length, min, max, Option, Some, None, slice_get}
use Rattle.cc_lex.specs.declared.token.Token.{Token}
use Rattle.cc_tree.specs.declared.fault.GramFault.{GramFault}
use Rattle.cc_tree.specs.declared.fault.GramFault.TheVariants as fault
use Rattle.cc_tree.specs.declared.unit.Unit.{Unit as UnitTree}
use Rattle.cc_tree.specs.Height.{unit_height, greatest_height}
use Rattle.cc_tree.specs.Machine.{Refuses, Exceeds}
use Rattle.cc_tree.specs.Outside.{first_outside}
use Rattle.cc_tree.specs.Sentences.{IsSentence}
use Rattle.cc_tree.specs.Tokens.{Tokens, Name}

-- a sentence of at most the greatest height, with its tree
pub record IsRead (ts : Tokens) (u : UnitTree) : Type 0 where
  pub sentence : IsSentence ts u
  pub low : unit_height u ≤ greatest_height

abbrev pub end_at : Option Token → ℕ
end_at None = 0
end_at (Some t) = min (t.at + t.len) (2 ^ 32 - 1)

-- the offset behind the last token, or the greatest one
abbrev pub end_of : Tokens → ℕ
end_of ts = end_at (slice_get ts (length ts - 1))

abbrev pub offset_at : ℕ → Option Token → ℕ
offset_at n None = n
offset_at n (Some t) = t.at

-- the offset of the token from which n tokens stand to the end, or the end
abbrev pub place : Tokens → ℕ → ℕ
place ts n = offset_at (end_of ts) (slice_get ts (length ts - n))

-- The tokens are read from left to right, and each is taken as what alone it can be behind those before it (Machine).
pub data HasFault : Tokens → GramFault → Type 0 where
  -- the first outside word
  IsOutside : (ts : Tokens) (x : Name) (at : ℕ) → first_outside ts ≡ Some (x, at) → HasFault ts (fault.Outside x at)
  -- No sentence of the greatest height or a lower one: no token before was refused, and with the one at the offset, or with
  -- what the last one closes, more nodes than that are open or just read. At least 64 tokens stand before it.
  IsTooDeep : (ts : Tokens) (ahead before : ℕ) (t : Token) → first_outside ts ≡ None → ((u : UnitTree) → IsRead ts u → ⊥) → Exceeds greatest_height ts ahead →
      before ≡ length ts - max ahead 1 → slice_get ts before ≡ Some t → 64 ≤ before → HasFault ts (fault.TooDeep t.at)
  -- No sentence: the token at the offset, or where that is the end the want of one, is refused, and no more nodes than the
  -- greatest height were open or just read before.
  IsWrong : (ts : Tokens) (ahead at : ℕ) → first_outside ts ≡ None → ((u : UnitTree) → IsSentence ts u → ⊥) → Refuses greatest_height ts ahead →
      at ≡ place ts ahead → HasFault ts (fault.Syntax at)

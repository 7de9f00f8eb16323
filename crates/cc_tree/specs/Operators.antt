-- The operators of expressions and how tightly they bind (C99 6.5): the higher the level, the tighter.
use Rattle.std.specs.Prelude.{ℕ, Bool, true, false, Option, Some, None}
use Rattle.cc_lex.specs.declared.token.Mark.{Mark}
use Rattle.cc_lex.specs.declared.token.Mark.TheVariants as m

-- 6.5.17
abbrev pub comma_level : ℕ
comma_level = 0

-- 6.5.16
abbrev pub assignment_level : ℕ
assignment_level = 1

-- 6.5.15
abbrev pub conditional_level : ℕ
conditional_level = 2

-- 6.5.4
abbrev pub cast_level : ℕ
cast_level = 13

-- 6.5.3
abbrev pub unary_level : ℕ
unary_level = 14

-- 6.5.2
abbrev pub postfix_level : ℕ
postfix_level = 15

-- the level of a binary operator, 6.5.5 to 6.5.14
abbrev pub binary_level : Mark → Option ℕ
binary_level m.OrOr = Some 3
binary_level m.AndAnd = Some 4
binary_level m.Bar = Some 5
binary_level m.Caret = Some 6
binary_level m.Amp = Some 7
binary_level m.EqEq = Some 8
binary_level m.NotEq = Some 8
binary_level m.Lt = Some 9
binary_level m.Gt = Some 9
binary_level m.Le = Some 9
binary_level m.Ge = Some 9
binary_level m.Shl = Some 10
binary_level m.Shr = Some 10
binary_level m.Plus = Some 11
binary_level m.Minus = Some 11
binary_level m.Star = Some 12
binary_level m.Slash = Some 12
binary_level m.Percent = Some 12
binary_level _ = None

-- 6.5.16
abbrev pub is_assignment : Mark → Bool
is_assignment m.Assign = true
is_assignment m.StarAssign = true
is_assignment m.SlashAssign = true
is_assignment m.PercentAssign = true
is_assignment m.PlusAssign = true
is_assignment m.MinusAssign = true
is_assignment m.ShlAssign = true
is_assignment m.ShrAssign = true
is_assignment m.AndAssign = true
is_assignment m.XorAssign = true
is_assignment m.OrAssign = true
is_assignment _ = false

-- the level that the operand of a prefix operator has at least, 6.5.3
abbrev pub operand_level : Mark → Option ℕ
operand_level m.PlusPlus = Some unary_level
operand_level m.MinusMinus = Some unary_level
operand_level m.Amp = Some cast_level
operand_level m.Star = Some cast_level
operand_level m.Plus = Some cast_level
operand_level m.Minus = Some cast_level
operand_level m.Tilde = Some cast_level
operand_level m.Bang = Some cast_level
operand_level _ = None

-- 6.5.2.4
abbrev pub is_postfix : Mark → Bool
is_postfix m.PlusPlus = true
is_postfix m.MinusMinus = true
is_postfix _ = false

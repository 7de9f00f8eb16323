-- The arguments of a call, as far as a loop has come.
use Rattle.std.proofs.Common.{arith, ◌≡◌, ◌<◌, ◌≤◌, ◌+◌, ◌-◌, ℕ, List, [], ◌∷◌, ◌++◌, map, take, drop, length, get_or, ap, sym, ◌∙◌}
use Rattle.std.proofs.lemmas.List.{drop_more, drop_all, length-drop, take_all}
use Rattle.cc_program.specs.declared.expr.Expr.{Expr}
use Rattle.cc_program.specs.declared.func.Func.{Func}
use Rattle.cc_program.specs.declared.program.Program.{Program}
use Rattle.cc_eval.specs.CcSyntax.Effects.{Registers, also, effects_of, all_assigned}
use Rattle.cc_lower_expressions.specs.Expressions.{piece}
use Rattle.cc_lower_accesses.specs.Modes.{operand_of, arguments_of}
use Rattle.cc_lower_accesses.proofs.AccessRules.{arguments-none, arguments-one}

-- those behind an argument, as a part of a slice
pub all-left : (n : ℕ) (xs : List Expr) → take (length xs - n) (drop n xs) ≡ drop n xs
all-left n xs = let l = length-drop n xs in take_all (length xs - n) (drop n xs) (omega (arith, l))

pub arguments-more : (p : Program) (f : Func) (es : List Expr) (i : ℕ) (e : Expr) (L : Registers) (k : ℕ) → i < length es → e ≡ get_or es i e →
    arguments_of p f (drop i es) L k ≡
    (let x = operand_of p f e (also (all_assigned (map (effects_of f) (drop (i + 1) es))) L) k in let y = arguments_of p f (drop (i + 1) es) L (k + length x.temps) in
    piece (x.temps ++ y.temps) (x.stmts ++ y.stmts) (x.value ∷ y.value))
arguments-more p f es i e L k h is =
    ap (λ (xs : List Expr). arguments_of p f xs L k) (drop_more es i e h ∙ ap (λ (x : Expr). x ∷ drop (i + 1) es) (sym is)) ∙ arguments-one p f e (drop (i + 1) es) L k

pub arguments-ended : (p : Program) (f : Func) (es : List Expr) (i : ℕ) (L : Registers) (k : ℕ) → length es ≤ i → arguments_of p f (drop i es) L k ≡ piece [] [] []
arguments-ended p f es i L k h = ap (λ (xs : List Expr). arguments_of p f xs L k) (drop_all i es h) ∙ arguments-none p f L k

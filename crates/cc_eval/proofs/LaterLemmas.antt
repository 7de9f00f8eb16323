-- The registers that the operands behind another one assign.
use Rattle.std.proofs.lemmas.List.{length-drop, take_all}
use Rattle.std.proofs.Common.{arith, ◌≡◌, ◌+◌, ◌-◌, ℕ, ap, sym, ◌∙◌, List, length, take, drop, map}
use Rattle.std.specs.Borrow.{Bor}
use Rattle.cc_program.specs.declared.expr.Expr.{Expr}
use Rattle.cc_eval.specs.declared.effects.Later.{Later, AllBehind, fold-roll-Later}
use Rattle.cc_eval.specs.declared.effects.Later.TheVariants.{rolls-AllBehind}
use Rattle.cc_eval.specs.declared.effects.Later.TheOpen as at
use Rattle.cc_eval.specs.Context.{Context}
use Rattle.cc_syntax.specs.Effects.{Registers, also}
use Rattle.cc_eval.specs.Eval.{meaning, assigned_by}
use Rattle.cc_eval.specs.View.{later_step, later_of}

pub all_behind : (c : Context) (es : Bor (List Expr)) (later : Bor Later) → later_of c (AllBehind es later) ≡ also (assigned_by (map (meaning c) es.now)) (later_of c later.now)
all_behind c es later = ap (later_of c) (sym (rolls-AllBehind es later)) ∙ fold-roll-Later Registers (later_step c) (at.AllBehind es later)

all_left : {A : Type 0} (n : ℕ) (xs : List A) → take (length xs - n) (drop n xs) ≡ drop n xs
all_left n xs = let l = length-drop n xs in take_all (length xs - n) (drop n xs) (omega (arith, l))

-- those behind an argument, as a part of a slice
pub rest_behind : (c : Context) (es : List Expr) (i : ℕ) (part : Bor (List Expr)) (later : Bor Later) → part.now ≡ take (length es - (i + 1)) (drop (i + 1) es) →
    later_of c (AllBehind part later) ≡ also (assigned_by (map (meaning c) (drop (i + 1) es))) (later_of c later.now)
rest_behind c es i part later h =
    all_behind c part later ∙ ap (λ (xs : List Expr). also (assigned_by (map (meaning c) xs)) (later_of c later.now)) (h ∙ all_left (i + 1) es)

-- Arguments, passed from left to right, as a loop takes them.
use Rattle.std.proofs.Common.{◌≡◌, ◌∙◌, ℕ, ◌+◌, ◌<◌, List, [], ◌∷◌, ◌++◌, Ok, Err, refl, ap, sym, append_assoc, map, drop, length, get_or}
use Rattle.std.proofs.lemmas.List.{append-nil, drop_more}
use Rattle.cc_designators.specs.Calls.{passed_to, passed}
use Rattle.cc_program.specs.CcNum.declared.target.Target.{Target}
use Rattle.cc_operands.specs.Operands.{Operand}
use Rattle.cc_operands.specs.View.{operand_view}
use Rattle.cc_operands.specs.declared.operand.Operand.{Operand as CodeOperand}
use Rattle.cc_program.specs.declared.expr.Expr.{Expr}
use Rattle.cc_program.specs.declared.types.CType.{CType}
use Rattle.cc_operands.specs.CcSyntax.Values.{scalar_value}
use Rattle.cc_operands.specs.Verdicts.{Judged, judge_then}

-- a list whose head is judged already
abbrev pub ahead : {A : Type 0} → List A → Judged (List A) → Judged (List A)
ahead done judged = judge_then judged (λ xs. Ok (done ++ xs))

pub ahead-none : {A : Type 0} (j : Judged (List A)) → ahead [] j ≡ j
ahead-none (Ok r) = refl
ahead-none (Err e) = refl

pub ahead-end : {A : Type 0} (a : List A) → ahead a (Ok []) ≡ Ok a
ahead-end a = rw (append-nil a) refl

pub ahead-more : {A : Type 0} (a : List A) (x : A) (j : Judged (List A)) → ahead a (ahead (x ∷ []) j) ≡ ahead (a ++ x ∷ []) j
ahead-more a x (Ok r) = rw (append_assoc a (x ∷ []) r) refl
ahead-more a x (Err e) = refl

-- one turn of the loop: an argument is passed
pub passed-more : (target : Target) (params : List CType) (i : ℕ) (t : CType) (done next : List Expr) (x : CodeOperand) (xs ys : List CodeOperand) (y : Operand) (whole : Judged (List Expr)) →
    i < length params → t ≡ get_or params i t → xs ≡ x ∷ ys → passed_to target t (operand_view x) (scalar_value t) ≡ Ok y → next ≡ done ++ y.value ∷ [] →
    ahead done (passed target (drop i params) (map operand_view xs)) ≡ whole → ahead next (passed target (drop (i + 1) params) (map operand_view ys)) ≡ whole
passed-more target params i t done next x xs ys y whole h is e f n w =
    let others : Judged (List Expr) = passed target (drop (i + 1) params) (map operand_view ys) in
    let step : passed target (drop i params) (map operand_view xs) ≡ ahead (y.value ∷ []) others =
    ap (λ ps. passed target ps (map operand_view xs)) (drop_more params i t h ∙ ap (λ d. d ∷ drop (i + 1) params) (sym is))
    ∙ ap (λ (zs : List CodeOperand). passed target (t ∷ drop (i + 1) params) (map operand_view zs)) e
    ∙ ap (λ (j : Judged Operand). judge_then j (λ y. judge_then others (λ ys. Ok (y.value ∷ ys)))) f in
    ap (λ n. ahead n others) n ∙ sym (ahead-more done y.value others) ∙ ap (ahead done) (sym step) ∙ w

pub ruleset of_arguments = (ahead-none, ahead-end, ahead-more)

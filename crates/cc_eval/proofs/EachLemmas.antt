-- The arguments of a call, as far as a loop has come.
use Rattle.std.proofs.lemmas.List.{drop_more, drop_all}
use Rattle.std.proofs.Common.{◌≡◌, ◌<◌, ◌≤◌, ◌+◌, ℕ, List, [], ◌∷◌, ◌++◌, Option, map, drop, length, get_or, refl, ap, sym, ◌∙◌, append_assoc, append-nil}
use Rattle.cc_program.specs.declared.expr.Expr.{Expr}
use Rattle.cc_program.specs.declared.value.Value.{Value}
use Rattle.cc_eval.specs.declared.action.Action.{Action}
use Rattle.cc_eval.specs.declared.mark.Mark.{Mark}
use Rattle.cc_eval.specs.Context.{Context}
use Rattle.cc_syntax.specs.Effects.{Registers, also}
use Rattle.cc_eval.specs.Eval.{meaning, each, assigned_by}
use Rattle.cc_eval.specs.Progress.{Progress, Known, Waits, Traps, and_then, known}

abbrev Values : Type 0
Values = List (Option Value)

-- values in front of those that come
abbrev behind : Values → Values → List Mark → Progress Values
behind done vs = known (done ++ vs)

moved : (done : Values) (v : Option Value) (p : Progress Values) →
    and_then (and_then p (λ vs. known (v ∷ vs))) (behind done) ≡ and_then p (behind (done ++ v ∷ []))
moved done v (Known vs ms) = ap (λ (all : Values). Known all ms) (sym (append_assoc done (v ∷ []) vs))
moved done v (Waits action) = refl
moved done v (Traps ms) = refl

nothing_more : (p : Progress Values) → p ≡ and_then p (behind [])
nothing_more (Known vs ms) = refl
nothing_more (Waits action) = refl
nothing_more (Traps ms) = refl

module _ (c : Context) (later : Registers) where
  abbrev from : ℕ → List Expr → List Mark → Progress Values
  from i es ms = each (map (meaning c) (drop i es)) later ms

  -- what the argument at a place does next
  abbrev at : ℕ → List Expr → Expr → List Mark → Progress (Option Value)
  at i es e ms = (meaning c e).next (also (assigned_by (map (meaning c) (drop (i + 1) es))) later) ms

  from-step : (es : List Expr) (i : ℕ) (d : Expr) (ms : List Mark) → i < length es →
      from i es ms ≡ and_then (at i es (get_or es i d) ms) (λ v rest. and_then (from (i + 1) es rest) (λ vs. known (v ∷ vs)))
  from-step es i d ms h = ap (λ (xs : List Expr). each (map (meaning c) xs) later ms) (drop_more es i d h)

  pub each_begun : (es : List Expr) (ms : List Mark) → each (map (meaning c) es) later ms ≡ and_then (each (map (meaning c) es) later ms) (behind [])
  each_begun es ms = nothing_more (each (map (meaning c) es) later ms)

  from-at : (es : List Expr) (i : ℕ) (e : Expr) (ms : List Mark) → i < length es → e ≡ get_or es i e →
      from i es ms ≡ and_then (at i es e ms) (λ v rest. and_then (from (i + 1) es rest) (λ vs. known (v ∷ vs)))
  from-at es i e ms h k = from-step es i e ms h ∙ ap (λ (x : Expr). and_then (at i es x ms) (λ v rest. and_then (from (i + 1) es rest) (λ vs. known (v ∷ vs)))) (sym k)

  pub each_known : (es : List Expr) (i : ℕ) (e : Expr) (ms rest : List Mark) (v : Option Value) (done : Values) (whole : Progress Values) → i < length es → e ≡ get_or es i e →
      whole ≡ and_then (from i es ms) (behind done) → Known v rest ≡ at i es e ms → whole ≡ and_then (from (i + 1) es rest) (behind (done ++ v ∷ []))
  each_known es i e ms rest v done whole h k w a = w ∙ rw (from-at es i e ms h k, sym a) (moved done v (from (i + 1) es rest))

  pub each_waits : (es : List Expr) (i : ℕ) (e : Expr) (ms : List Mark) (action : Action) (done : Values) (whole : Progress Values) → i < length es → e ≡ get_or es i e →
      whole ≡ and_then (from i es ms) (behind done) → Waits action ≡ at i es e ms → Waits action ≡ whole
  each_waits es i e ms action done whole h k w a = sym (w ∙ rw (from-at es i e ms h k, sym a) refl)

  pub each_traps : (es : List Expr) (i : ℕ) (e : Expr) (ms rest : List Mark) (done : Values) (whole : Progress Values) → i < length es → e ≡ get_or es i e →
      whole ≡ and_then (from i es ms) (behind done) → Traps rest ≡ at i es e ms → Traps rest ≡ whole
  each_traps es i e ms rest done whole h k w a = sym (w ∙ rw (from-at es i e ms h k, sym a) refl)

  pub each_ended : (es : List Expr) (i : ℕ) (ms : List Mark) (done : Values) (whole : Progress Values) → length es ≤ i →
      whole ≡ and_then (from i es ms) (behind done) → Known done ms ≡ whole
  each_ended es i ms done whole h w = sym (w ∙ rw (drop_all i es h) (ap (λ (all : Values). Known all ms) (append-nil done)))

pub ruleset of_each = (each_begun, each_known, each_waits, each_traps, each_ended)

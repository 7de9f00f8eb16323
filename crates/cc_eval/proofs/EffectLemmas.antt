-- The registers that the expressions of a list assign, as far as a loop has come.
use Rattle.std.proofs.lemmas.List.{take_more}
use Rattle.std.proofs.Common.{◌≡◌, ℕ, ◌+◌, ◌<◌, length, take, get_or, List, [], ◌∷◌, ◌++◌, Bool, true, false, ◌||◌, map, refl, ap, ◌∙◌}
use Rattle.cc_program.specs.declared.expr.Expr.{Expr}
use Rattle.cc_program.specs.declared.func.Func.{Func}
use Rattle.cc_syntax.specs.Effects.{all_assigned, effects_of}

or_or : (a b c : Bool) → (a || (b || c)) ≡ (b || (a || c))
or_or true true c = refl
or_or true false c = refl
or_or false b c = refl

module _ (f : Func) where
  assigned-behind : (es : List Expr) (e : Expr) (r : ℕ) →
      all_assigned (map (effects_of f) (es ++ e ∷ [])) r ≡ ((effects_of f e).assigned r || all_assigned (map (effects_of f) es) r)
  assigned-behind [] e r = refl
  assigned-behind (a ∷ es) e r =
      ap (λ (b : Bool). (effects_of f a).assigned r || b) (assigned-behind es e r) ∙ or_or ((effects_of f a).assigned r) ((effects_of f e).assigned r) (all_assigned (map (effects_of f) es) r)

  pub assigned-taken : (es : List Expr) (i : ℕ) (d : Expr) (r : ℕ) → i < length es →
      all_assigned (map (effects_of f) (take (i + 1) es)) r ≡ ((effects_of f (get_or es i d)).assigned r || all_assigned (map (effects_of f) (take i es)) r)
  assigned-taken es i d r h =
      ap (λ (xs : List Expr). all_assigned (map (effects_of f) xs) r) (take_more es i d h) ∙ assigned-behind (take i es) (get_or es i d) r

pub ruleset of_assigned = (assigned-taken)

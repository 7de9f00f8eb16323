-- The levels that a slice holds, the last one first.
use Rattle.std.proofs.Common.{arith, ◌≡◌, List, [], ◌∷◌, ◌++◌, length, refl, ap, ◌∙◌}
use Rattle.std.proofs.lemmas.List.{map-append, reverse-append}
use Rattle.cc_control.specs.declared.level.Level.{Level}
use Rattle.std.specs.Prelude.{MatchOption, Option, Some, None}
use Rattle.std.specs.List.{IsLastAndRest}
use Rattle.std.specs.Borrow.{Bor}
use Rattle.cc_control.specs.View.{level_of, levels_of}

pub levels_of-push : (xs : List Level) (x : Level) → levels_of (xs ++ x ∷ []) ≡ level_of x ∷ levels_of xs
unfolding levels_of
levels_of-push xs x = simp (map-append, reverse-append)

pub levels_of-nil : levels_of [] ≡ []
unfolding levels_of
levels_of-nil = refl

-- none, or the last one and the others, the innermost first
pub levels_of-innermost : (xs : List Level) (r : Option (Bor Level × Bor (List Level))) → MatchOption r (length xs ≡ 0) (λ p. IsLastAndRest xs p.0.now p.1.now) →
    MatchOption r (levels_of xs ≡ []) (λ p. levels_of xs ≡ level_of p.0.now ∷ levels_of p.1.now)
levels_of-innermost [] None h = levels_of-nil
levels_of-innermost (x ∷ xs) None h = absurd (omega (arith, h))
levels_of-innermost xs (Some p) h = ap levels_of h.0 ∙ levels_of-push p.1.now p.0.now

pub ruleset of_levels = (levels_of-push, levels_of-nil)

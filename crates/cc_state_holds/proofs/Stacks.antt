-- Levels, as far as a loop over a stack has come, and levels that no set has.
use Rattle.std.proofs.Common.{arith, ◌≡◌, ◌<◌, ◌≤◌, ◌+◌, ◌^◌, ℕ, false, List, [], length, take, get_or, Some, None, ap, ◌∙◌, if◌then◌else◌}
use Rattle.std.specs.Prelude.{nat_eq}
use Rattle.std.proofs.lemmas.List.{take_more}
use Rattle.std.proofs.lemmas.Nat.Bits.{bit_at_above}
use Rattle.cc_program.specs.declared.program.Program.{Program}
use Rattle.cc_proof_covers.specs.Covers.{innermost}
use Rattle.cc_state_reads.specs.CcStateFacts.Levels.{has_level}
use Rattle.cc_steps.proofs.StackLemmas.{actives_of-push, actives_of-nil}
use Rattle.cc_steps.proofs.TurnLemmas.{level-none, level-more}
use Rattle.cc_steps.specs.declared.activation.Activation.{Activation}
use Rattle.cc_steps.specs.Turn.{level_of}
use Rattle.cc_steps.specs.View.{actives_of}

pub ruleset of_levels = (level-none, level-more)

pub innermost-none : (p : Program) → innermost p (actives_of []) ≡ None
innermost-none p = ap (innermost p) actives_of-nil

pub innermost-more : (p : Program) (xs : List Activation) (i : ℕ) (d : Activation) → i < length xs →
    innermost p (actives_of (take (i + 1) xs)) ≡ (if (get_or xs i d).handler then Some (level_of p (get_or xs i d).func) else innermost p (actives_of (take i xs)))
innermost-more p xs i d h = ap (innermost p) (ap actives_of (take_more xs i d h) ∙ actives_of-push (take i xs) (get_or xs i d))

pub ruleset of_innermost = (innermost-none, innermost-more)

-- ---- levels beyond 7

pub no_high_level : (set level : ℕ) → set < 2 ^ 8 → 7 < level → has_level set level ≡ false
no_high_level set level few high = let most : 8 ≤ level = omega (arith, high) in ap (λ n. nat_eq n 1) (bit_at_above set 8 level few most)

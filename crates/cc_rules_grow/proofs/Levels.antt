-- More handlers may enter where there are more running levels, and more levels of handlers.
use Rattle.std.proofs.Common.{◌≡◌, ℕ, Bool, true, false, ◌&&◌, ◌||◌, nat_eq, nat_lt, refl}
use Rattle.cc_rules.specs.CcPlaces.laws.ListLaws.{both_true, and_true, any_at, any_from}
use Rattle.cc_rules.specs.CcStateFacts.Levels.{has_level, all_levels, is_above_least, may_enter, one_may_enter, AreLevelsWithin}

or_more : (a b c : Bool) → (b ≡ true → c ≡ true) → (a || b) ≡ true → (a || c) ≡ true
or_more true b c h e = refl
or_more false b c h e = h e

pub enters_more : (set more level : ℕ) → AreLevelsWithin set more → may_enter set level ≡ true → may_enter more level ≡ true
enters_more set more level h e = or_more (nat_eq level 0) (is_above_least set level) (is_above_least more level) above e
  where
    above : is_above_least set level ≡ true → is_above_least more level ≡ true
    above g =
        let (l, there, is) = any_at (λ l. has_level set l && nat_lt l level) all_levels g in
        let (has, below) = both_true (has_level set l) (nat_lt l level) is in
        any_from (λ l. has_level more l && nat_lt l level) all_levels l there (and_true (has_level more l) (nat_lt l level) (h l has) below)

pub one_enters_more : (set more levels more_levels : ℕ) → AreLevelsWithin set more → AreLevelsWithin levels more_levels → one_may_enter set levels ≡ true → one_may_enter more more_levels ≡ true
one_enters_more set more levels more_levels h k e =
    let (l, there, is) = any_at (λ l. has_level levels l && may_enter set l) all_levels e in
    let (has, enters) = both_true (has_level levels l) (may_enter set l) is in
    any_from (λ l. has_level more_levels l && may_enter more l) all_levels l there (and_true (has_level more_levels l) (may_enter more l) (k l has) (enters_more set more l h enters))

-- Levels of handlers, and when a handler of one may enter.
use Rattle.std.proofs.Common.{arith, ◌≡◌, ◌⊎◌, inl, inr, ◌<◌, ◌^◌, ◌/◌, ◌%◌, ℕ, zero, suc, Bool, true, false, true≢false, ◌&&◌, ◌||◌, nat_eq, nat_le, nat_lt, List, [], ◌∷◌, Option, Some, None, refl, ap, sym, ◌∙◌, slice_get}
use Rattle.std.specs.Prelude.{if◌then◌else◌}
use Rattle.std.specs.List.{list_all, list_any}
use Rattle.std.specs.Str.{bytes_eq}
use Rattle.cc_program.specs.declared.func.Func.{Func}
use Rattle.cc_program.specs.declared.program.Program.{Program}
use Rattle.cc_rules.specs.CcStateFacts.Levels.{has_level, only_level, all_levels, is_above_least, may_enter, one_may_enter}
use Rattle.cc_state_values_sound.specs.CcSteps.Turn.{named_level, level_in, level_of}

-- ---- lists that have one that passes

any_first : (a b : Bool) → a ≡ true → (a || b) ≡ true
any_first true b h = refl
any_first false b h = absurd (true≢false (sym h))

any_later : (a b : Bool) → b ≡ true → (a || b) ≡ true
any_later true b h = refl
any_later false b h = h

pub any_of : {A : Type 0} (test : A → Bool) (xs : List A) (k : ℕ) (x : A) → slice_get xs k ≡ Some x → test x ≡ true → list_any test xs ≡ true
any_of test [] k x e t = absurd (cc)
any_of test (y ∷ ys) zero x e t = any_first (test y) (list_any test ys) (let s : y ≡ x = cc in ap test s ∙ t)
any_of test (y ∷ ys) (suc k) x e t = any_later (test y) (list_any test ys) (any_of test ys k x e t)

-- each level from 0 to 7 is one
level_among : (l : ℕ) → l < 8 → slice_get all_levels l ≡ Some l
level_among zero h = refl
level_among (suc zero) h = refl
level_among (suc (suc zero)) h = refl
level_among (suc (suc (suc zero))) h = refl
level_among (suc (suc (suc (suc zero)))) h = refl
level_among (suc (suc (suc (suc (suc zero))))) h = refl
level_among (suc (suc (suc (suc (suc (suc zero)))))) h = refl
level_among (suc (suc (suc (suc (suc (suc (suc zero))))))) h = refl
level_among (suc (suc (suc (suc (suc (suc (suc (suc l)))))))) h = absurd (omega (arith, h))

both_pass : (a b : Bool) → a ≡ true → b ≡ true → (a && b) ≡ true
both_pass true b h k = k
both_pass false b h k = h

lt_true : (m n : ℕ) → m < n → nat_lt m n ≡ true
lt_true m n h = grind arith

eq_true : (m n : ℕ) → m ≡ n → nat_eq m n ≡ true
eq_true m n h = grind arith

-- ---- the level of a handler may enter where one is below it

above_least : (set l level : ℕ) → level < 8 → has_level set l ≡ true → l < level → is_above_least set level ≡ true
above_least set l level few h lt = any_of (λ l. has_level set l && nat_lt l level) all_levels l l (level_among l (omega (arith, few, lt))) (both_pass (has_level set l) (nat_lt l level) h (lt_true l level lt))

pub enters : (running level : ℕ) → level < 8 → (level ≡ 0) ⊎ ((l : ℕ) × (has_level running l ≡ true) × (l < level)) → may_enter running level ≡ true
enters running level few (inl e) = any_first (nat_eq level 0) (is_above_least running level) (eq_true level 0 e)
enters running level few (inr h) = any_later (nat_eq level 0) (is_above_least running level) (above_least running h.0 level few h.1 h.2)

pub one_enters : (running levels level : ℕ) → level < 8 → has_level levels level ≡ true → (level ≡ 0) ⊎ ((l : ℕ) × (has_level running l ≡ true) × (l < level)) → one_may_enter running levels ≡ true
one_enters running levels level few h may =
    any_of (λ l. has_level levels l && may_enter running l) all_levels level level (level_among level few) (both_pass (has_level levels level) (may_enter running level) h (enters running level few may))

-- a set of one level has it
bit_of : (n : ℕ) → 0 < n → nat_eq ((n / n) % 2) 1 ≡ true
bit_of n h = eq_true ((n / n) % 2) 1 (let one : n / n ≡ 1 = self_divided n h in omega (arith, one))
  where
    self_divided : (n : ℕ) → 0 < n → n / n ≡ 1
    self_divided n h = grind arith

power_some : (l : ℕ) → 0 < 2 ^ l
power_some zero = omega arith
power_some (suc l) = grind (arith, power_some l)

pub only_has : (l : ℕ) → has_level (only_level l) l ≡ true
only_has l = bit_of (2 ^ l) (power_some l)

-- ---- levels of programs are from 0 to 7

and_second : (a b : Bool) → (a && b) ≡ true → b ≡ true
and_second true b h = h
and_second false b h = absurd (true≢false (sym h))

and_first : (a b : Bool) → (a && b) ≡ true → a ≡ true
and_first true b h = refl
and_first false b h = h

below_eight : (n : ℕ) → nat_le n 7 ≡ true → n < 8
below_eight n h = grind arith

named_by : (b : Bool) (m n : ℕ) → m < 8 → n < 8 → (if b then m else n) < 8
named_by true m n h k = h
named_by false m n h k = k

named_below : {test : List ℕ × ℕ → Bool} (levels : List (List ℕ × ℕ)) (name : List ℕ) → list_all test levels ≡ true → ((l : List ℕ × ℕ) → test l ≡ true → l.1 < 8) → named_level levels name < 8
named_below [] name h k = omega arith
named_below {test = test} (l ∷ ls) name h k =
    named_by (bytes_eq name l.0) l.1 (named_level ls name) (k l (and_first (test l) (list_all test ls) h)) (named_below {test = test} ls name (and_second (test l) (list_all test ls) h) k)

pub level_below : (p : Program) (h : ℕ) → level_of p h < 8
level_below p h = by (slice_get p.funcs h)
  where
    by : (o : Option Func) → level_in p o < 8
    by None = omega arith
    by (Some f) = named_below p.roles.levels f.name p.roles.levelled (λ l t. below_eight l.1 (and_second (nat_le 1 l.1) (nat_le l.1 7) (and_second _ (nat_le 1 l.1 && nat_le l.1 7) t)))

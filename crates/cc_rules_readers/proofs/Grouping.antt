-- Lists of points by numbers, one after the other.
use Rattle.std.proofs.Common.{arith, ◌≡◌, ℕ, zero, suc, ◌+◌, ◌<◌, Bool, true, false, cond, List, [], ◌∷◌, ◌++◌, length, set, get_or, append-nil, Option, Some, None, slice_get, refl, sym, ap, ◌∙◌}
use Rattle.std.specs.Prelude.{◌==◌, option_and_then, Vec}
use Rattle.std.specs.declared.alloc.Global.{Global}
use Rattle.std.specs.List.{filter}
use Rattle.std.proofs.lemmas.List.Elements.{filter-append}
use Rattle.cc_rules_asked.proofs.StabilityLemmas.{numbers_put}
use Rattle.cc_rules_asked.specs.CcRulesNeeds.Flowing.{numbers}
use Rattle.cc_rules_readers.specs.declared.deeds.Deed.{Deed}
use Rattle.cc_rules_readers.specs.declared.groups.By.{By}
use Rattle.cc_rules_readers.specs.Points.{on, group_of, is_that, list_at}
use Rattle.cc_rules_asked.specs.CcStateKeys.Lists.{only_if}

-- an empty list more
pub empty_behind : (lists : List (Vec ℕ Global)) (v : Vec ℕ Global) (b : ℕ) → v.items ≡ [] → list_at (lists ++ v ∷ []) b ≡ list_at lists b
empty_behind [] v zero e = e
empty_behind [] v (suc b) e = refl
empty_behind (x ∷ lists) v zero e = refl
empty_behind (x ∷ lists) v (suc b) e = empty_behind lists v b e

-- one list has a point more
apart : (b : ℕ) → (zero == suc b) ≡ false
apart b = grind arith

apart_too : (b : ℕ) → (suc b == zero) ≡ false
apart_too b = grind arith

next : (a b : ℕ) → (suc a == suc b) ≡ (a == b)
next a b = grind arith

no_more : (b : Bool) (xs : List ℕ) (x : ℕ) → b ≡ false → xs ≡ xs ++ only_if b x
no_more b xs x h = sym (ap (λ b. xs ++ only_if b x) h ∙ append-nil xs)

pub one_longer : (lists : List (Vec ℕ Global)) (number : ℕ) (v old : Vec ℕ Global) (point : ℕ) (b : ℕ) → number < length lists → old ≡ get_or lists number old → v.items ≡ old.items ++ point ∷ [] →
    list_at (set lists number v) b ≡ list_at lists b ++ only_if (b == number) point
one_longer [] number v old point b l is e = absurd (omega (arith, l))
one_longer (x ∷ lists) zero v old point zero l is e = e ∙ ap (λ w. w.items ++ point ∷ []) is
one_longer (x ∷ lists) zero v old point (suc b) l is e = no_more (suc b == zero) (list_at lists b) point (apart_too b)
one_longer (x ∷ lists) (suc number) v old point zero l is e = no_more (zero == suc number) x.items point (apart number)
one_longer (x ∷ lists) (suc number) v old point (suc b) l is e = one_longer lists number v old point b (omega (arith, l)) is e ∙ ap (λ t. list_at lists b ++ only_if t point) (sym (next b number))

-- ---- a loop over points

same_group : (how : By) (b : ℕ) (o : Option Deed) → is_that (option_and_then (group_of how) o) b ≡ on (λ deed. is_that (group_of how deed) b) o
same_group how b None = refl
same_group how b (Some deed) = refl

as_cond : (b : Bool) (x : ℕ) → only_if b x ≡ cond b (x ∷ []) []
as_cond true x = refl
as_cond false x = refl

pub group_on : (deeds : List Deed) (how : By) (b : ℕ) (n : ℕ) (number : Option ℕ) (now new : List ℕ) → now ≡ filter (λ m. on (λ deed. is_that (group_of how deed) b) (slice_get deeds m)) (numbers 0 n) → number ≡ option_and_then (group_of how) (slice_get deeds n) →
    new ≡ now ++ only_if (is_that number b) n → new ≡ filter (λ m. on (λ deed. is_that (group_of how deed) b) (slice_get deeds m)) (numbers 0 (n + 1))
group_on deeds how b n number now new h is e =
    let test : ℕ → Bool = λ m. on (λ deed. is_that (group_of how deed) b) (slice_get deeds m) in
    e ∙ (ap (λ xs. xs ++ only_if (is_that number b) n) h
    ∙ (ap (λ (o : Option ℕ). filter test (numbers 0 n) ++ only_if (is_that o b) n) is
    ∙ (ap (λ t. filter test (numbers 0 n) ++ t) (ap (λ t. only_if t n) (same_group how b (slice_get deeds n)) ∙ as_cond (test n) n)
    ∙ sym (ap (filter test) (numbers_put n) ∙ filter-append test (numbers 0 n) (n ∷ [])))))

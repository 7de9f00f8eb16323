-- For a name, the number from which on a new one is sought: what is told is found again.
use Rattle.std.proofs.Common.{◌≡◌, ◌∙◌, ◌<◌, ◌≤◌, ◌+◌, ◌⊎◌, inl, inr, ℕ, Bool, true, false, cond, List, [], ◌∷◌, Option, Some, Vec, refl, ap, sym, subst, true≢false, arith}
use Rattle.std.specs.Cmp.Lexicographic.{pointwise}
use Rattle.std.specs.Prelude.{nat_eq, if◌then◌else◌}
use Rattle.std.specs.Str.{bytes_eq}
use Rattle.std.specs.declared.alloc.Global.{Global}
use Rattle.std.proofs.lemmas.Bool.{cases_lt}
use Rattle.std.proofs.lemmas.Slice.Eq.{bytes_eq-Decides}
use Rattle.std.specs.Map.{lookup}
use Rattle.indexmap.specs.IndexMap.{insert_entry}
use Rattle.cc_names.specs.Holds.{Starts, start_of, AreTaken, FailUpTo, IsLeast, IsNoted}
use Rattle.cc_names.specs.Names.{is_among, with_number}

abbrev pub Entry : Type 0
Entry = Vec ℕ Global × ℕ

abbrev pub is_for : List ℕ → Vec ℕ Global → Bool
is_for x k = pointwise nat_eq x k.items

abbrev pub same_text : Vec ℕ Global → Vec ℕ Global → Bool
same_text a b = pointwise nat_eq a.items b.items

abbrev pub told : Bool → ℕ → Option ℕ → Option ℕ
told b v other = if b then Some v else other

-- the key is there
found-here : (b : Bool) (v w : ℕ) (rest : Option ℕ) → cond b (Some v) rest ≡ told b v (cond b (Some w) rest)
found-here true v w rest = refl
found-here false v w rest = refl

-- it stands further on: a name is not two keys
found-later : (b c : Bool) (v w : ℕ) (rest : Option ℕ) → (b ≡ true → c ≡ true → ⊥) → cond b (Some w) (told c v rest) ≡ told c v (cond b (Some w) rest)
found-later true true v w rest apart = absurd (apart refl refl)
found-later true false v w rest apart = refl
found-later false c v w rest apart = refl

lookup-inserted : (x : List ℕ) (es : List Entry) (k : Vec ℕ Global) (v : ℕ) → lookup (is_for x) (insert_entry same_text es k v) ≡ told (bytes_eq x k.items) v (lookup (is_for x) es)
lookup-inserted x [] k v = refl
lookup-inserted x (e ∷ es) k v = by (same_text k e.0) refl (lookup-inserted x es k v)
  where
    by : (b : Bool) → same_text k e.0 ≡ b → lookup (is_for x) (insert_entry same_text es k v) ≡ told (bytes_eq x k.items) v (lookup (is_for x) es) →
        lookup (is_for x) (insert_entry same_text (e ∷ es) k v) ≡ told (bytes_eq x k.items) v (lookup (is_for x) (e ∷ es))
    by true h rest =
        let equal : k.items ≡ e.0.items = (bytes_eq-Decides k.items e.0.items).0 h in
        rw (h, equal) (found-here (bytes_eq x e.0.items) v e.1 (lookup (is_for x) es))
    by false h rest =
        rw (h, rest) (found-later (bytes_eq x e.0.items) (bytes_eq x k.items) v e.1 (lookup (is_for x) es)
        (λ a b. true≢false (sym ((bytes_eq-Decides k.items e.0.items).1 (sym ((bytes_eq-Decides x k.items).0 b) ∙ (bytes_eq-Decides x e.0.items).0 a)) ∙ h)))

pub is_noted : (before after : Starts) (k : Vec ℕ Global) (v : ℕ) → after.entries ≡ insert_entry same_text before.entries k v → IsNoted before after k.items v
is_noted before after k v h x = ap (lookup (is_for x)) h ∙ lookup-inserted x before.entries k v

-- ---- where a search begins, and how it goes on

pub none-between : (base : List ℕ) (names : List (List ℕ)) (from : ℕ) → FailUpTo names base from from
none-between base names from i low high = absurd (omega (arith, low, high))

pub told-taken : (starts : Starts) (base : List ℕ) (from start : ℕ) → start_of base starts ≡ Some start → (names : List (List ℕ)) → AreTaken from starts names → (i : ℕ) → from ≤ i → i < start → is_among (with_number base i) names ≡ true
told-taken starts base from start h names taken i low high = taken base start i h low high

pub fail-more : (names : List (List ℕ)) (base : List ℕ) (from n : ℕ) (starts : Starts) → (AreTaken from starts names → FailUpTo names base from n) → is_among (with_number base n) names ≡ true → AreTaken from starts names → FailUpTo names base from (n + 1)
fail-more names base from n starts fail here taken i low high = by (cases_lt i n)
  where
    by : (i < n) ⊎ (n ≤ i) → is_among (with_number base i) names ≡ true
    by (inl less) = fail taken i low less
    by (inr more) = let same : i ≡ n = omega (arith, more, high) in subst (λ k. is_among (with_number base k) names ≡ true) (sym same) here

pub least-found : (names : List (List ℕ)) (count : ℕ) (base : List ℕ) (from n : ℕ) (starts : Starts) → from ≤ n → n ≤ count + from → is_among (with_number base n) names ≡ false →
    (AreTaken from starts names → FailUpTo names base from n) → AreTaken from starts names → IsLeast names count base from n
least-found names count base from n starts low high passes fail taken = inl (low, (high, (passes, fail taken)))

pub least-none : (names : List (List ℕ)) (count : ℕ) (base : List ℕ) (from n : ℕ) (starts : Starts) → count + from < n →
    (AreTaken from starts names → FailUpTo names base from n) → AreTaken from starts names → IsLeast names count base from from
least-none names count base from n starts above fail taken = inr (refl, λ i low high. fail taken i low (omega (arith, high, above)))

pub ruleset of_starts = (is_noted, none-between, told-taken, fail-more, least-found, least-none)

-- What holds of the names that are taken, as they grow and as new ones are sought.
use Rattle.std.proofs.Common.{◌≡◌, ◌∙◌, ◌+◌, ◌<◌, ◌≤◌, inl, inr, ℕ, suc, Bool, true, false, cond, List, [], ◌∷◌, ◌++◌, length, Some, refl, ap, sym, subst, arith, append_assoc, length-append}
use Rattle.std.specs.Prelude.{not, ◌||◌, unwrap_or}
use Rattle.std.specs.Str.{bytes_eq}
use Rattle.std.proofs.lemmas.List.{append-nil}
use Rattle.std.proofs.lemmas.List.Folds.{list_any-append}
use Rattle.std.proofs.lemmas.Slice.Eq.{bytes_eq-Decides}
use Rattle.cc_names.specs.Holds.{Holds, AreTaken, Starts, start_of, FailUpTo, IsLeast, IsNoted}
use Rattle.cc_names.specs.Names.{is_among, is_free, free_number, new_name, with_number}
use Rattle.cc_names.specs.View.{with_name, HaveSame}
use Rattle.cc_names.specs.declared.taken.Taken.{Taken}
use Rattle.cc_names.proofs.Numbers.{find-none, find-number}

or-false : (a : Bool) → (a || false) ≡ a
or-false true = refl
or-false false = refl

or-assoc : (a b c : Bool) → ((a || b) || c) ≡ (a || (b || c))
or-assoc true b c = refl
or-assoc false b c = refl

-- ---- a name more

among-last : (y x : List ℕ) (xs : List (List ℕ)) → is_among y (xs ++ x ∷ []) ≡ (is_among y xs || bytes_eq y x)
among-last y x xs = list_any-append (bytes_eq y) xs (x ∷ []) ∙ ap (λ b. is_among y xs || b) (or-false (bytes_eq y x))

there : (y x : List ℕ) (xs : List (List ℕ)) → is_among x xs ≡ true → is_among y xs ≡ (is_among y xs || bytes_eq y x)
there y x xs h = by (bytes_eq y x) refl
  where
    by : (b : Bool) → bytes_eq y x ≡ b → is_among y xs ≡ (is_among y xs || bytes_eq y x)
    by true e = let same : is_among y xs ≡ true = subst (λ z. is_among z xs ≡ true) (sym ((bytes_eq-Decides y x).0 e)) h in rw same refl
    by false e = rw e (sym (or-false (is_among y xs)))

by-there : (b : Bool) (y x : List ℕ) (xs : List (List ℕ)) → is_among x xs ≡ b → is_among y (cond b xs (xs ++ x ∷ [])) ≡ (is_among y xs || bytes_eq y x)
by-there true y x xs h = there y x xs h
by-there false y x xs h = among-last y x xs

pub among-with : (y x : List ℕ) (xs : List (List ℕ)) → is_among y (with_name xs x) ≡ (is_among y xs || bytes_eq y x)
among-with y x xs = by-there (is_among x xs) y x xs refl

pub same-with : (names xs : List (List ℕ)) (x : List ℕ) → HaveSame names xs → HaveSame (with_name names x) (xs ++ x ∷ [])
same-with names xs x h y = among-with y x names ∙ (ap (λ b. b || bytes_eq y x) (h y) ∙ sym (among-last y x xs))

-- what is taken stays
kept-with : (y x : List ℕ) (xs : List (List ℕ)) → is_among y xs ≡ true → is_among y (with_name xs x) ≡ true
kept-with y x xs h = among-with y x xs ∙ ap (λ b. b || bytes_eq y x) h

taken-kept : (from : ℕ) (starts : Starts) (names : List (List ℕ)) (x : List ℕ) → AreTaken from starts names → AreTaken from starts (with_name names x)
taken-kept from starts names x taken base n i h low high = kept-with (with_number base i) x names (taken base n i h low high)

-- the same names and starts, and a name more
with-one : (t u : Taken) (x : List ℕ) → u.names ≡ with_name t.names x → u.count ≡ t.count + 1 → AreTaken 2 u.renamed u.names → AreTaken 1 u.numbered u.names →
    (reserved given : List (List ℕ)) → Holds t reserved given → Holds u reserved (given ++ x ∷ [])
with-one t u x names count renamed numbered reserved given h = record {
  names = λ y. ap (is_among y) names ∙ (same-with t.names (reserved ++ given) x h.names y ∙ ap (is_among y) (append_assoc reserved given (x ∷ [])));
  count = let c = h.count in let l = length-append given (x ∷ []) in omega (arith, c, l, count);
  renamed = renamed;
  numbered = numbered;
}

starts-kept : (from : ℕ) (before after : Starts) (names later : List (List ℕ)) (x : List ℕ) → later ≡ with_name names x → after ≡ before → AreTaken from before names → AreTaken from after later
starts-kept from before after names later x grown same taken =
    subst (λ s. AreTaken from s later) (sym same) (subst (λ ns. AreTaken from before ns) (sym grown) (taken-kept from before names x taken))

pub holds-given : (t u : Taken) (x : List ℕ) → u.names ≡ with_name t.names x → u.count ≡ t.count + 1 → u.renamed ≡ t.renamed → u.numbered ≡ t.numbered →
    (reserved given : List (List ℕ)) → Holds t reserved given → Holds u reserved (given ++ x ∷ [])
holds-given t u x names count renamed numbered reserved given h =
    with-one t u x names count
    (starts-kept 2 t.renamed u.renamed t.names u.names x names renamed h.renamed)
    (starts-kept 1 t.numbered u.numbered t.names u.names x names numbered h.numbered)
    reserved given h

pub holds-reserved : (t u : Taken) (x : List ℕ) → u.names ≡ with_name t.names x → u.count ≡ t.count + 1 → u.renamed ≡ t.renamed → u.numbered ≡ t.numbered →
    (reserved : List (List ℕ)) → Holds t reserved [] → Holds u (reserved ++ x ∷ []) []
holds-reserved t u x names count renamed numbered reserved h = record {
  names = λ y. ap (is_among y) names ∙ (same-with t.names (reserved ++ []) x h.names y ∙ (ap (λ xs. is_among y (xs ++ x ∷ [])) (append-nil reserved) ∙ ap (is_among y) (sym (append-nil (reserved ++ x ∷ [])))));
  count = let c = h.count in let l = length-append reserved (x ∷ []) in omega (arith, c, l, count);
  renamed = starts-kept 2 t.renamed u.renamed t.names u.names x names renamed h.renamed;
  numbered = starts-kept 1 t.numbered u.numbered t.names u.names x names numbered h.numbered;
}

-- ---- new names

free : (t : Taken) (reserved given : List (List ℕ)) → Holds t reserved given → (x : List ℕ) → is_free reserved given x ≡ not (is_among x t.names)
free t reserved given h x = ap not (sym (h.names x ∙ list_any-append (bytes_eq x) reserved given))

-- the least number that is found is the one of the definition
pub number-found : (t : Taken) (base : List ℕ) (from number : ℕ) → IsLeast t.names t.count base from number → (reserved given : List (List ℕ)) → Holds t reserved given → number ≡ free_number reserved given base from
number-found t base from number (inl (low, (high, (passes, fail)))) reserved given h =
    let count = h.count in
    sym (ap (λ o. unwrap_or o from) (find-number (λ i. is_free reserved given (with_number base i)) (suc (length reserved + length given)) from number
    low (omega (arith, high, count))
    (free t reserved given h (with_number base number) ∙ ap not passes)
    (λ i l g. free t reserved given h (with_number base i) ∙ ap not (fail i l g))))
number-found t base from number (inr (same, fail)) reserved given h =
    let count = h.count in
    same ∙ sym (ap (λ o. unwrap_or o from) (find-none (λ i. is_free reserved given (with_number base i)) (suc (length reserved + length given)) from
    (λ i l g. free t reserved given h (with_number base i) ∙ ap not (fail i l (omega (arith, g, count))))))

some-same : (a b : ℕ) → Some a ≡ Some b → a ≡ b
some-same a b h = ap (λ o. unwrap_or o 0) h

noted-by : (b : Bool) (names : List (List ℕ)) (base other : List ℕ) (from number n : ℕ) (before : Starts) → bytes_eq other base ≡ b →
    AreTaken from before names → FailUpTo names base from number → cond b (Some number) (start_of other before) ≡ Some n →
    (i : ℕ) → from ≤ i → i < n → is_among (with_number other i) names ≡ true
noted-by true names base other from number n before e taken fail h i low high =
    subst (λ x. is_among (with_number x i) names ≡ true) (sym ((bytes_eq-Decides other base).0 e)) (fail i low (let s = some-same number n h in omega (arith, s, high)))
noted-by false names base other from number n before e taken fail h i low high = taken other n i h low high

-- a start that is told, where the numbers before it are taken
pub noted-taken : (names : List (List ℕ)) (base : List ℕ) (from number : ℕ) (before after : Starts) → IsNoted before after base number → AreTaken from before names → FailUpTo names base from number → AreTaken from after names
noted-taken names base from number before after noted taken fail other n i h low high =
    noted-by (bytes_eq other base) names base other from number n before refl taken fail (sym (noted other) ∙ h) i low high

-- a name of its own that was given a number
pub holds-renamed : (t u : Taken) (x base : List ℕ) (number : ℕ) → u.names ≡ with_name t.names x → u.count ≡ t.count + 1 → IsNoted t.renamed u.renamed base number → u.numbered ≡ t.numbered →
    (AreTaken 2 t.renamed t.names → FailUpTo t.names base 2 number) →
    (reserved given : List (List ℕ)) → Holds t reserved given → Holds u reserved (given ++ x ∷ [])
holds-renamed t u x base number names count noted numbered fail reserved given h =
    with-one t u x names count
    (starts-kept 2 u.renamed u.renamed t.names u.names x names refl (noted-taken t.names base 2 number t.renamed u.renamed noted h.renamed (fail h.renamed)))
    (starts-kept 1 t.numbered u.numbered t.names u.names x names numbered h.numbered)
    reserved given h

-- another name with a number
pub holds-numbered : (t u : Taken) (x base : List ℕ) (number : ℕ) → u.names ≡ with_name t.names x → u.count ≡ t.count + 1 → u.renamed ≡ t.renamed → IsNoted t.numbered u.numbered base number →
    (AreTaken 1 t.numbered t.names → FailUpTo t.names base 1 number) →
    (reserved given : List (List ℕ)) → Holds t reserved given → Holds u reserved (given ++ x ∷ [])
holds-numbered t u x base number names count renamed noted fail reserved given h =
    with-one t u x names count
    (starts-kept 2 t.renamed u.renamed t.names u.names x names renamed h.renamed)
    (starts-kept 1 u.numbered u.numbered t.names u.names x names refl (noted-taken t.names base 1 number t.numbered u.numbered noted h.numbered (fail h.numbered)))
    reserved given h

pub renamed-found : (t : Taken) (base x : List ℕ) (number : ℕ) → x ≡ with_number base number → (AreTaken 2 t.renamed t.names → IsLeast t.names t.count base 2 number) → (reserved given : List (List ℕ)) → Holds t reserved given → x ≡ new_name reserved given base 2
renamed-found t base x number is least reserved given h = is ∙ ap (with_number base) (number-found t base 2 number (least h.renamed) reserved given h)

pub numbered-found : (t : Taken) (base x : List ℕ) (number : ℕ) → x ≡ with_number base number → (AreTaken 1 t.numbered t.names → IsLeast t.names t.count base 1 number) → (reserved given : List (List ℕ)) → Holds t reserved given → x ≡ new_name reserved given base 1
numbered-found t base x number is least reserved given h = is ∙ ap (with_number base) (number-found t base 1 number (least h.numbered) reserved given h)

pub ruleset of_taken = (holds-given, holds-reserved)

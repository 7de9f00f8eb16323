-- The sets of names and of things: their lists, as the sets are asked and grow.
use Rattle.std.proofs.Common.{◌≡◌, ◌∙◌, ℕ, Bool, true, false, cond, List, [], ◌∷◌, ◌++◌, refl, ap, map}
use Rattle.std.specs.Borrow.{Bor}
use Rattle.std.specs.Cmp.Lexicographic.{pointwise}
use Rattle.std.specs.List.{list_any}
use Rattle.std.specs.Prelude.{nat_eq, not, ◌||◌, ◌&&◌}
use Rattle.std.proofs.lemmas.List.{map-append}
use Rattle.indexmap.specs.IndexSet.{insert_key}
use Rattle.cc_cost.specs.Settings.{same_thing}
use Rattle.cc_cost.specs.Sets.{NameSet, names_of, Pair, pair_thing, ThingSet, things_of}

-- ---- names

any-names : (x : List ℕ) (keys : List (Bor (List ℕ))) → list_any (pointwise nat_eq x) (map (λ k. k.now) keys) ≡ list_any (λ k. pointwise nat_eq x k.now) keys
any-names x [] = refl
any-names x (k ∷ keys) = ap (λ r. pointwise nat_eq x k.now || r) (any-names x keys)

pub names-any : (x : List ℕ) (s : NameSet) → list_any (pointwise nat_eq x) (names_of s) ≡ list_any (λ k. pointwise nat_eq x k.now) s.keys
unfolding names_of
names-any x s = any-names x s.keys

grown : (b : Bool) (keys : List (Bor (List ℕ))) (k : Bor (List ℕ)) → map (λ k. k.now) (cond b keys (keys ++ k ∷ [])) ≡ cond (not b) (map (λ k. k.now) keys ++ k.now ∷ []) (map (λ k. k.now) keys)
grown true keys k = refl
grown false keys k = map-append (λ k. k.now) keys (k ∷ [])

pub names-added : (s t : NameSet) (k : Bor (List ℕ)) → t.keys ≡ insert_key (λ a b. pointwise nat_eq a.now b.now) s.keys k
    → names_of t ≡ cond (not (list_any (λ x. pointwise nat_eq k.now x.now) s.keys)) (names_of s ++ k.now ∷ []) (names_of s)
unfolding names_of
names-added s t k h = ap (map (λ k. k.now)) h ∙ grown (list_any (λ x. pointwise nat_eq k.now x.now) s.keys) s.keys k

pub names-empty : (s : NameSet) → s.keys ≡ [] → names_of s ≡ []
unfolding names_of
names-empty s h = ap (map (λ k. k.now)) h

pub ruleset of_names = (names-any, names-added, names-empty)

-- ---- things

abbrev pub same_pair : Pair → Pair → Bool
same_pair a b = pointwise nat_eq a.0.now b.0.now && pointwise nat_eq a.1.now b.1.now

any-things : (x : Pair) (keys : List Pair) → list_any (same_thing (pair_thing x)) (map pair_thing keys) ≡ list_any (same_pair x) keys
any-things x [] = refl
any-things x (k ∷ keys) = ap (λ r. same_pair x k || r) (any-things x keys)

pub things-any : (x : Pair) (s : ThingSet) → list_any (same_thing (pair_thing x)) (things_of s) ≡ list_any (same_pair x) s.keys
unfolding things_of
things-any x s = any-things x s.keys

grown_things : (b : Bool) (keys : List Pair) (k : Pair) → map pair_thing (cond b keys (keys ++ k ∷ [])) ≡ cond (not b) (map pair_thing keys ++ pair_thing k ∷ []) (map pair_thing keys)
grown_things true keys k = refl
grown_things false keys k = map-append pair_thing keys (k ∷ [])

pub things-added : (s t : ThingSet) (k : Pair) → t.keys ≡ insert_key same_pair s.keys k
    → things_of t ≡ cond (not (list_any (same_pair k) s.keys)) (things_of s ++ pair_thing k ∷ []) (things_of s)
unfolding things_of
things-added s t k h = ap (map pair_thing) h ∙ grown_things (list_any (same_pair k) s.keys) s.keys k

pub things-empty : (s : ThingSet) → s.keys ≡ [] → things_of s ≡ []
unfolding things_of
things-empty s h = ap (map pair_thing) h

pub ruleset of_things = (things-any, things-added, things-empty)

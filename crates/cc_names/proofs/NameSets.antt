-- Sets of names: their lists, as they are asked and grow.
use Rattle.std.proofs.Common.{◌≡◌, ◌∙◌, ℕ, Bool, true, false, cond, List, [], ◌∷◌, ◌++◌, Vec, refl, ap, sym}
use Rattle.std.specs.Cmp.Lexicographic.{pointwise}
use Rattle.std.specs.List.{list_any}
use Rattle.std.specs.Prelude.{nat_eq, ◌||◌}
use Rattle.std.specs.declared.alloc.Global.{Global}
use Rattle.std.proofs.lemmas.List.{map-append}
use Rattle.indexmap.specs.IndexSet.{insert_key}
use Rattle.cc_names.specs.Names.{is_among}
use Rattle.cc_names.specs.View.{NameSet, texts, names_of, with_name}

any-texts : (x : List ℕ) (keys : List (Vec ℕ Global)) → is_among x (texts keys) ≡ list_any (λ k. pointwise nat_eq x k.items) keys
any-texts x [] = refl
any-texts x (k ∷ keys) = ap (λ r. pointwise nat_eq x k.items || r) (any-texts x keys)

pub names_of-has : (x : List ℕ) (s : NameSet) → is_among x (names_of s) ≡ list_any (λ k. pointwise nat_eq x k.items) s.keys
unfolding names_of
names_of-has x s = any-texts x s.keys

pub names_of-empty : (s : NameSet) → s.keys ≡ [] → names_of s ≡ []
unfolding names_of
names_of-empty s h = ap texts h

grown : (b : Bool) (keys : List (Vec ℕ Global)) (k : Vec ℕ Global) → texts (cond b keys (keys ++ k ∷ [])) ≡ cond b (texts keys) (texts keys ++ k.items ∷ [])
grown true keys k = refl
grown false keys k = map-append (λ x. x.items) keys (k ∷ [])

pub names_of-added : (s t : NameSet) (k : Vec ℕ Global) → t.keys ≡ insert_key (λ a b. pointwise nat_eq a.items b.items) s.keys k → names_of t ≡ with_name (names_of s) k.items
unfolding names_of
names_of-added s t k h =
    ap texts h ∙ (grown (list_any (λ x. pointwise nat_eq k.items x.items) s.keys) s.keys k
    ∙ ap (λ b. cond b (texts s.keys) (texts s.keys ++ k.items ∷ [])) (sym (any-texts k.items s.keys)))

pub ruleset of_names = (names_of-has, names_of-empty, names_of-added)

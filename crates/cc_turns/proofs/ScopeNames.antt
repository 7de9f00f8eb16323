-- The set of typedef names in scope: its list of names as the set is asked, grows and shrinks.
use Rattle.std.proofs.Common.{◌≡◌, ◌∙◌, ℕ, Bool, true, false, cond, List, [], ◌∷◌, ◌++◌, Vec, refl, ap, sym, length, take, map}
use Rattle.std.specs.Cmp.Lexicographic.{pointwise}
use Rattle.std.specs.List.{list_any}
use Rattle.std.specs.Prelude.{nat_eq, ◌||◌}
use Rattle.std.specs.declared.alloc.Global.{Global}
use Rattle.std.proofs.lemmas.List.{map-append, length-map, take-map}
use Rattle.indexmap.specs.IndexSet.{insert_key}
use Rattle.cc_turns.specs.ScopeNames.{NameSet, texts, names_of}
use Rattle.cc_tree.specs.Machine.{with_typedef}
use Rattle.cc_tree.specs.Scopes.{is_typedef, same_name}
use Rattle.cc_tree.specs.Tokens.{Name}

any-texts : (x : Name) (keys : List (Vec ℕ Global)) → list_any (same_name x) (texts keys) ≡ list_any (λ k. pointwise nat_eq x k.items) keys
any-texts x [] = refl
any-texts x (k ∷ keys) = ap (λ r. pointwise nat_eq x k.items || r) (any-texts x keys)

pub names_of-has : (x : Name) (s : NameSet) → is_typedef (names_of s) x ≡ list_any (λ k. pointwise nat_eq x k.items) s.keys
unfolding names_of
names_of-has x s = any-texts x s.keys

pub names_of-length : (s : NameSet) → length (names_of s) ≡ length s.keys
unfolding names_of
names_of-length s = simp length-map

pub names_of-empty : (s : NameSet) → s.keys ≡ [] → names_of s ≡ []
unfolding names_of
names_of-empty s h = ap texts h

grown : (b : Bool) (keys : List (Vec ℕ Global)) (k : Vec ℕ Global) → texts (cond b keys (keys ++ k ∷ [])) ≡ with_typedef k.items (texts keys) b
grown true keys k = refl
grown false keys k = map-append (λ x. x.items) keys (k ∷ [])

pub names_of-declared : (s t : NameSet) (k : Vec ℕ Global) → t.keys ≡ insert_key (λ a b. pointwise nat_eq a.items b.items) s.keys k → names_of t ≡ with_typedef k.items (names_of s) (is_typedef (names_of s) k.items)
unfolding names_of
names_of-declared s t k h = ap texts h ∙ (grown (list_any (λ x. pointwise nat_eq k.items x.items) s.keys) s.keys k ∙ ap (with_typedef k.items (texts s.keys)) (sym (any-texts k.items s.keys)))

pub names_of-left : (s t : NameSet) (n : ℕ) → t.keys ≡ take n s.keys → names_of t ≡ take n (names_of s)
unfolding names_of
names_of-left s t n h = ap texts h ∙ sym (take-map (λ x. x.items) n s.keys)

pub ruleset of_names = (names_of-has, names_of-length, names_of-empty, names_of-declared, names_of-left)

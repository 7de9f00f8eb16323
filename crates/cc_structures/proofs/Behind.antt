-- Words, parts and members one behind the other.
use Rattle.std.proofs.Common.{◌≡◌, ◌∙◌, ℕ, List, [], ◌∷◌, ◌++◌, refl, ap, sym, map, append_assoc, flat_map}
use Rattle.std.specs.Borrow.{Bor}
use Rattle.std.proofs.lemmas.Grind.{flat_map-append}
use Rattle.std.proofs.lemmas.List.{append-nil, map-append}
use Rattle.cc_structures.specs.Looks.{look_of, node_of}
use Rattle.cc_structures.specs.View.{names_of, look_view, looks_of, known_of, knowns_of}
use Rattle.cc_structures.specs.declared.known.Known.{Known as KnownOf}
use Rattle.cc_structures.specs.declared.looks.Look.{Look as LookOf}
use Rattle.cc_structures.proofs.KeyLemmas.{nodes-more, nodes-nil}
use Rattle.cc_structures.proofs.KnownLemmas.{knowns-more, knowns-nil}

-- an element more
pub joined-more : {A B : Type 0} (f : A → List B) (bs : List B) (xs : List A) (x : A) → (bs ++ flat_map (λ l. l) (map f xs)) ++ f x ≡ bs ++ flat_map (λ l. l) (map f (xs ++ x ∷ []))
joined-more f bs xs x =
    append_assoc bs (flat_map (λ l. l) (map f xs)) (f x)
    ∙ ap (λ l. bs ++ l) (sym (ap (flat_map (λ l. l)) (map-append f xs (x ∷ [])) ∙ (flat_map-append (λ l. l) (map f xs) (f x ∷ []) ∙ ap (λ l. flat_map (λ l. l) (map f xs) ++ l) (append-nil (f x)))))

pub names-more : (ns : List (Bor (List ℕ))) (n : Bor (List ℕ)) → names_of (ns ++ n ∷ []) ≡ names_of ns ++ n.now ∷ []
unfolding names_of
names-more ns n = map-append (λ (b : Bor (List ℕ)). b.now) ns (n ∷ [])

pub names-nil : names_of [] ≡ []
unfolding names_of
names-nil = refl

pub ruleset of_members = (append_assoc, append-nil, names-more, names-nil)

pub looks-more : (ls : List LookOf) (l : LookOf) → looks_of (ls ++ l ∷ []) ≡ looks_of ls ++ look_view l ∷ []
unfolding looks_of
looks-more ls l = map-append look_view ls (l ∷ [])

pub looks-nil : looks_of [] ≡ []
unfolding looks_of
looks-nil = refl

pub looks_of-more : (ss : List KnownOf) (s : KnownOf) → map look_of (knowns_of (ss ++ s ∷ [])) ≡ map look_of (knowns_of ss) ++ look_of (known_of s) ∷ []
looks_of-more ss s = ap (map look_of) (knowns-more ss s) ∙ map-append look_of (knowns_of ss) (known_of s ∷ [])

pub nodes_of-more : (ss : List KnownOf) (s : KnownOf) → map node_of (knowns_of (ss ++ s ∷ [])) ≡ map node_of (knowns_of ss) ++ node_of (known_of s) ∷ []
nodes_of-more ss s = ap (map node_of) (knowns-more ss s) ∙ map-append node_of (knowns_of ss) (known_of s ∷ [])

pub ruleset of_described = (looks-more, looks-nil, nodes-more, nodes-nil, looks_of-more, nodes_of-more, knowns-nil)

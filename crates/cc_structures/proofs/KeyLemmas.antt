-- Keys and nodes, one more at a time.
use Rattle.std.proofs.Common.{◌≡◌, ◌∙◌, ℕ, List, [], ◌∷◌, ◌++◌, Vec, map, refl, ap}
use Rattle.std.specs.declared.alloc.Global.{Global}
use Rattle.std.proofs.lemmas.List.{map-append}
use Rattle.cc_structures.specs.Refined.{node_key}
use Rattle.cc_structures.specs.Structures.{Numbering}
use Rattle.cc_structures.specs.View.{node_view, nodes_of, lists_of}
use Rattle.cc_structures.specs.declared.nodes.Node.{Node as NodeOf}

pub lists-more : (ks : List (Vec ℕ Global)) (k : Vec ℕ Global) → lists_of (ks ++ k ∷ []) ≡ lists_of ks ++ k.items ∷ []
unfolding lists_of
lists-more ks k = map-append (λ (v : Vec ℕ Global). v.items) ks (k ∷ [])

pub lists-nil : lists_of [] ≡ []
unfolding lists_of
lists-nil = refl

pub nodes-more : (ns : List NodeOf) (n : NodeOf) → nodes_of (ns ++ n ∷ []) ≡ nodes_of ns ++ node_view n ∷ []
unfolding nodes_of
nodes-more ns n = map-append node_view ns (n ∷ [])

pub nodes-nil : nodes_of [] ≡ []
unfolding nodes_of
nodes-nil = refl

-- the keys of nodes
pub keys-more : (numbering : Numbering) (ns : List NodeOf) (n : NodeOf) → map (node_key numbering) (nodes_of (ns ++ n ∷ [])) ≡ map (node_key numbering) (nodes_of ns) ++ node_key numbering (node_view n) ∷ []
keys-more numbering ns n = ap (map (node_key numbering)) (nodes-more ns n) ∙ map-append (node_key numbering) (nodes_of ns) (node_view n ∷ [])

pub ruleset of_keys = (lists-more, lists-nil, keys-more, nodes-nil)

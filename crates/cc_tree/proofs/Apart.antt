-- That no attribute stands right behind a structure's brace, as the code tests it and as it is said of neighbours.
use Rattle.std.proofs.Common.{◌≡◌, Bool, true, false, ◌&&◌, not, List, [], ◌∷◌, ◌++◌, refl, sym, ap, ◌∙◌, subst, true≢false}
use Rattle.std.proofs.lemmas.Bool.{and_parts}
use Rattle.cc_tree.specs.declared.at.At.{At}
use Rattle.cc_tree.specs.declared.tree.Spec.{Spec}
use Rattle.cc_tree.specs.Terms.{AttrsApart, ends_structure, is_attr}
use Rattle.cc_tree.specs.TurnTypes.{attrs_apart}

refused : (b : Bool) → not b ≡ true → b ≡ true → ⊥
refused true h k = true≢false (sym h)
refused false h k = true≢false (sym k)

not_both : (a b : Bool) → not (a && b) ≡ true → a ≡ true → b ≡ false
not_both true true h k = absurd (true≢false (sym h))
not_both true false h k = refl
not_both false b h k = absurd (true≢false (sym k))

neighbours : (b : Bool) (before behind : List (At Spec)) (s t : At Spec) → attrs_apart b (before ++ s ∷ t ∷ behind) ≡ true → ends_structure s.node ≡ true → is_attr t.node ≡ false
neighbours b [] behind s t h e =
    let rest = and_parts (not (b && is_attr s.node)) (not (ends_structure s.node && is_attr t.node) && attrs_apart (ends_structure t.node) behind) h in
    let here = and_parts (not (ends_structure s.node && is_attr t.node)) (attrs_apart (ends_structure t.node) behind) rest.1 in
    not_both (ends_structure s.node) (is_attr t.node) here.0 e
neighbours b (x ∷ before) behind s t h e =
    neighbours (ends_structure x.node) before behind s t (and_parts (not (b && is_attr x.node)) (attrs_apart (ends_structure x.node) (before ++ s ∷ t ∷ behind)) h).1 e

-- what is tested holds of neighbours,
pub tested-apart : (specs : List (At Spec)) → attrs_apart false specs ≡ true → AttrsApart specs
tested-apart specs h before behind s t e ends = neighbours false before behind s t (subst (λ (x : List (At Spec)). attrs_apart false x ≡ true) e h) ends

-- whether the first one is an attribute
first_attr : List (At Spec) → Bool
first_attr [] = false
first_attr (s ∷ ss) = is_attr s.node

first_apart : (s : At Spec) (ss : List (At Spec)) → AttrsApart (s ∷ ss) → ends_structure s.node ≡ true → first_attr ss ≡ false
unfolding first_attr
first_apart s [] h e = refl
first_apart s (t ∷ ss) h e = h [] ss s t refl e

apart-tail : (x : At Spec) (ss : List (At Spec)) → AttrsApart (x ∷ ss) → AttrsApart ss
apart-tail x ss h before behind s t e = h (x ∷ before) behind s t (ap (λ (y : List (At Spec)). x ∷ y) e)

not_and : (a b : Bool) → (a ≡ true → b ≡ false) → not (a && b) ≡ true
not_and true true h = sym (h refl)
not_and true false h = refl
not_and false b h = refl

apart-from : (b : Bool) (specs : List (At Spec)) → (b ≡ true → first_attr specs ≡ false) → AttrsApart specs → attrs_apart b specs ≡ true
unfolding first_attr
apart-from b [] h k = refl
apart-from b (s ∷ ss) h k = rw (not_and b (is_attr s.node) h, apart-from (ends_structure s.node) ss (first_apart s ss k) (apart-tail s ss k)) refl

-- and what holds of neighbours is tested
pub apart-tested : (specs : List (At Spec)) → AttrsApart specs → attrs_apart false specs ≡ true
apart-tested specs h = apart-from false specs (λ e. absurd (true≢false (sym e))) h

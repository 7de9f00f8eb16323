-- The order of structures, told by what the code keeps of each.
use Rattle.std.proofs.Common.{arith, ◌≡◌, ◌∙◌, ◌+◌, ◌<◌, ◌≤◌, ℕ, suc, Bool, true, false, IsTrue, List, [], ◌∷◌, ◌++◌, refl, ap, sym, length, drop, get_or, append_assoc}
use Rattle.std.specs.Prelude.{is_some}
use Rattle.std.proofs.lemmas.List.{append-nil, drop_more, drop_all}
use Rattle.cc_program.specs.declared.types.Structure.{Structure}
use Rattle.cc_scopes.specs.CcSyntax.declared.sizes.Layout.{Layout}
use Rattle.cc_scopes.proofs.KnownLemmas.{AreKept, are_kept-says}
use Rattle.cc_scopes.specs.Standings.{entries_of, are_kept, some_if, known_structures}
use Rattle.cc_scopes.specs.declared.standing.Standing.{Standing}
use Rattle.cc_numbering.specs.Numbers.{unless, only_named}

-- those that are not complete, from a number on
abbrev pub open_from : ℕ → List Standing → List ℕ
open_from i [] = []
open_from i (k ∷ ks) = unless k.complete i ++ open_from (suc i) ks

pub some_if-there : {A : Type 0} (there : Bool) (x : A) → is_some (some_if there x) ≡ there
some_if-there true x = refl
some_if-there false x = refl

beside-open : (i : ℕ) (all : List Structure) (standings : List Standing) (layouts : List Layout) → length all ≡ length standings → length all ≡ length layouts
    → open_from i standings ≡ only_named i (known_structures (entries_of all standings layouts))
beside-open i [] [] layouts h k = refl
beside-open i [] (b ∷ standings) layouts h k = absurd (omega arith)
beside-open i (a ∷ all) [] layouts h k = absurd (omega arith)
beside-open i (a ∷ all) (b ∷ standings) [] h k = absurd (omega arith)
beside-open i (a ∷ all) (b ∷ standings) (c ∷ layouts) h k =
    let same : b.complete ≡ is_some (some_if b.complete a.members) = sym (some_if-there b.complete a.members) in
    let rest : open_from (suc i) standings ≡ only_named (suc i) (known_structures (entries_of all standings layouts)) = beside-open (suc i) all standings layouts (omega arith) (omega arith) in
    λ j. unless (same j) i ++ rest j

-- the whole order
pub order-is : (order first : List ℕ) (all : List Structure) (standings : List Standing) (layouts : List Layout) (completed : List ℕ) → IsTrue (are_kept all standings layouts) → first ≡ open_from 0 standings
    → order ≡ first ++ completed → order ≡ only_named 0 (known_structures (entries_of all standings layouts)) ++ completed
order-is order first all standings layouts completed kept is whole =
    let t : AreKept all standings layouts = are_kept-says all standings layouts kept in
    whole ∙ ap (λ r. r ++ completed) (is ∙ beside-open 0 all standings layouts t.beside t.laid)

-- one more is looked at
pub order-more : (order next : List ℕ) (ks : List Standing) (i : ℕ) (k : Standing) (whole : List ℕ) → i < length ks → k ≡ get_or ks i k → next ≡ order ++ unless k.complete i
    → order ++ open_from i (drop i ks) ≡ whole → next ++ open_from (i + 1) (drop (i + 1) ks) ≡ whole
order-more order next ks i k whole h is pushed w =
    let further : suc i ≡ i + 1 = omega arith in
    let step : open_from i (drop i ks) ≡ unless k.complete i ++ open_from (i + 1) (drop (i + 1) ks) =
    ap (open_from i) (drop_more ks i k h ∙ ap (λ d. d ∷ drop (i + 1) ks) (sym is)) ∙ ap (λ n. unless k.complete i ++ open_from n (drop (i + 1) ks)) further in
    ap (λ n. n ++ open_from (i + 1) (drop (i + 1) ks)) pushed ∙ (append_assoc order (unless k.complete i) (open_from (i + 1) (drop (i + 1) ks)) ∙ (ap (λ r. order ++ r) (sym step) ∙ w))

-- all are looked at
pub order-all : (order : List ℕ) (ks : List Standing) (i : ℕ) (whole : List ℕ) → length ks ≤ i → order ++ open_from i (drop i ks) ≡ whole → order ≡ whole
order-all order ks i whole h w = let none : drop i ks ≡ [] = drop_all i ks h in sym (append-nil order) ∙ (ap (λ r. order ++ open_from i r) (sym none) ∙ w)

pub ruleset of_order = (order-is, order-more, order-all)

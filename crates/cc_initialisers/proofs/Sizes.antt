-- The walk over an initialiser ends: it goes into parts of the object, or into a list that stands in the list.
use Rattle.std.proofs.Common.{arith, ◌≡◌, ◌∙◌, ◌+◌, ◌<◌, ℕ, zero, suc, Bool, List, [], ◌∷◌, map, refl, ap, subst, slice_get, get_or, length, Some, ◌≤◌}
use Rattle.cc_initialisers.specs.Contents.{Contents, Scalar, Elements, NoMember, Members, Inside, of_members, contents_over, structure_inside}
use Rattle.cc_initialisers.specs.Counts.{sum_of, count_step, initialisers_in, initialisers_among}
use Rattle.cc_initialisers.specs.View.{member_view, members_view}
use Rattle.cc_initialisers.specs.declared.content.Members.{Members as CodeMembers}
use Rattle.cc_operands.specs.CcSyntax.Types.{Named}
use Rattle.cc_operands.proofs.CcSyntax.Shapes.{read_at}
use Rattle.cc_tree.specs.declared.at.At.{At}
use Rattle.cc_tree.specs.declared.unit.Given.{Given, Many, out-Given, fold_out-Given, map-Given}
use Rattle.cc_tree.specs.declared.unit.Given.TheVariants.{outs-Many}

abbrev pub nodes : Contents → ℕ
nodes (Scalar constant t) = 1
nodes (Elements n of) = suc (nodes of)
nodes NoMember = 1
nodes (Members first rest) = suc (nodes first + nodes rest)

pub member-below : {A : Type 0} (inside : A → Inside) (constant : Bool) (ms : List A) (i : ℕ) (m : A) → slice_get ms i ≡ Some m →
    nodes (inside m constant) < nodes (of_members (map inside ms) constant)
member-below inside constant [] i m h = absurd (cc)
member-below inside constant (n ∷ ms) zero m h =
    let e : n ≡ m = cc in
    subst (λ m. nodes (inside m constant) < suc (nodes (inside n constant) + nodes (of_members (map inside ms) constant))) e (omega arith)
member-below inside constant (n ∷ ms) (suc i) m h = let r = member-below inside constant ms i m h in omega (arith, r)

among-sum : (gs : List (At Given)) → sum_of (map (λ g. record { at = g.at; node = initialisers_in g.node }) gs) ≡ initialisers_among gs
among-sum [] = refl
among-sum (g ∷ gs) = ap (λ n. initialisers_in g.node + n) (among-sum gs)

pub list-count : (g : Given) (gs : List (At Given)) → g ≡ Many gs → initialisers_in g ≡ suc (initialisers_among gs)
unfolding initialisers_in
list-count g gs is = fold_out-Given ℕ count_step g ∙ ap (λ x. count_step (map-Given Given ℕ initialisers_in x)) (ap out-Given is ∙ outs-Many gs) ∙ ap suc (among-sum gs)

-- a member is smaller than the structure
pub part-below : (ms : CodeMembers) (i : ℕ) (m : Named) → i < length ms.all.now → m ≡ get_or ms.all.now i m → nodes (member_view ms m) < nodes (members_view ms)
part-below ms i m h is = member-below (λ (m : Named). contents_over (structure_inside ms.structures.now ms.depth) m.1) ms.constant ms.all.now i m (read_at ms.all.now i m is h)

-- a list in a list has fewer initialisers
pub inner-fewer : (gs : List (At Given)) (g : At Given) (inner all : List (At Given)) → 0 < length gs → g ≡ get_or gs 0 g → g.node ≡ Many inner → all ≡ inner →
    suc (initialisers_among all) ≤ initialisers_among gs
inner-fewer [] g inner all h is e a = absurd (omega arith)
inner-fewer (x ∷ gs) g inner all h is e a =
    let n = list-count g.node inner e in
    let s : initialisers_in g.node ≡ initialisers_in x.node = ap (λ (x : At Given). initialisers_in x.node) is in
    let m : initialisers_among all ≡ initialisers_among inner = ap initialisers_among a in
    omega (arith, n, s, m)

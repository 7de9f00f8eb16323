-- What is added in turn, and how the hull of all that was added comes out.
use Rattle.std.proofs.Common.{◌≡◌, ◌⊎◌, ℕ, ◌+◌, ◌<◌, ◌≤◌, ℤ, List, length, get_or, Some, sym, subst, ◌∙◌, inl, inr, ⊎_elim, arith}
use Rattle.std.specs.List.{Contains}
use Rattle.std.proofs.lemmas.Bool.{cases_lt}
use Rattle.std.proofs.lemmas.List.{get_or_default}
use Rattle.cc_num.specs.declared.int_type.IntType.{IntType}
use Rattle.cc_num.specs.declared.target.Target.{Target}
use Rattle.cc_num.specs.declared.op.BinOp.{BinOp}
use Rattle.cc_num.specs.Results.{result_of}
use Rattle.cc_sets.specs.declared.gathered.Gathered.{Gathered}
use Rattle.cc_sets.specs.declared.vals.Vals.{Vals}
use Rattle.cc_sets.specs.Rungs.{ValsBelow, IsHull}
use Rattle.cc_sets.specs.Gatherings.{Holds, Adds}

pub adds_in_turn : (a b c : Gathered) (P Q R : ℤ → Type 0) → Adds a b P → Adds b c Q → ((v : ℤ) → P v → R v) → ((v : ℤ) → Q v → R v) → ((v : ℤ) → R v → P v ⊎ Q v) → Adds a c R
adds_in_turn a b c P Q R p q left right split = λ x. (
  λ h. let m = (q x).0 h in let l = (p x).0 m.0 in (l.0, λ v r. ⊎_elim (λ (k : P v). l.1 v k) (λ (k : Q v). m.1 v k) (split v r)),
  λ h. (q x).1 ((p x).1 (h.0, λ v k. h.1 v (left v k)), λ v k. h.1 v (right v k)),
)

pub adds_none : (a : Gathered) (P : ℤ → Type 0) → ((v : ℤ) → P v → ⊥) → Adds a a P
adds_none a P none = λ x. ((λ h. (h, λ v p. absurd (none v p))), (λ h. h.0))

pub adds_same : (a b : Gathered) (P Q : ℤ → Type 0) → Adds a b P → ((v : ℤ) → P v → Q v) → ((v : ℤ) → Q v → P v) → Adds a b Q
adds_same a b P Q p to back = λ x. ((λ h. let l = (p x).0 h in (l.0, λ v q. l.1 v (back v q))), (λ h. (p x).1 (h.0, λ v k. h.1 v (to v k))))

pub hull_of_added : (g h : Gathered) (P : ℤ → Type 0) (r : Vals) → ((x : Vals) → Holds x g) → Adds g h P → Holds r h → ((x : Vals) → Holds x h → ValsBelow r x) → IsHull P r
hull_of_added g h P r start added holds least = record { covers = ((added r).0 holds).1; least = λ x c. least x ((added x).1 (start x, c)) }

-- among the first of a list
abbrev pub Upto : List ℤ → ℕ → ℤ → Type 0
Upto xs i v = (k : ℕ) × (k < i) × (get_or xs k v ≡ v)

-- what the first of a list give
abbrev pub Before : (ℤ → ℤ → Type 0) → List ℤ → ℕ → ℤ → Type 0
Before R xs i z = (v : ℤ) × Upto xs i v × R v z

pub before_none : (a : Gathered) (R : ℤ → ℤ → Type 0) (xs : List ℤ) → Adds a a (Before R xs 0)
before_none a R xs = adds_none a (Before R xs 0) (λ z p. let k = p.1.1 in absurd (omega arith))

last_or : (xs : List ℤ) (i : ℕ) (u v d : ℤ) → i < length xs → u ≡ get_or xs i d → Upto xs (i + 1) v → Upto xs i v ⊎ (u ≡ v)
last_or xs i u v d l e h = ⊎_elim
    (λ (less : h.0 < i). inl (h.0, less, h.2))
    (λ (more : i ≤ h.0).
    let m = h.1 in
    let same : h.0 ≡ i = omega arith in
    inr (e ∙ (get_or_default xs i d v l ∙ subst (λ (k : ℕ). get_or xs k v ≡ v) same h.2)))
    (cases_lt h.0 i)

pub before_more : (a b c : Gathered) (R : ℤ → ℤ → Type 0) (xs : List ℤ) (i : ℕ) (u d : ℤ) → i < length xs → u ≡ get_or xs i d → Adds a b (Before R xs i) → Adds b c (R u) → Adds a c (Before R xs (i + 1))
before_more a b c R xs i u d l e p q = adds_in_turn a b c (Before R xs i) (R u) (Before R xs (i + 1)) p q
    (λ z h. let k = h.1.1 in (h.0, (h.1.0, omega arith, h.1.2), h.2))
    (λ z r. (u, (i, omega arith, get_or_default xs i u d l ∙ sym e), r))
    (λ z h. ⊎_elim (λ (t : Upto xs i h.0). inl (h.0, t, h.2)) (λ (s : u ≡ h.0). inr (subst (λ (v : ℤ). R v z) (sym s) h.2)) (last_or xs i u h.0 d l e h.1))

pub before_all : (a b : Gathered) (R : ℤ → ℤ → Type 0) (xs : List ℤ) (i : ℕ) → i ≡ length xs → Adds a b (Before R xs i) → Adds a b (λ z. (v : ℤ) × Contains xs v × R v z)
before_all a b R xs i e p = subst (λ (n : ℕ). Adds a b (Before R xs n)) e p

-- hulls of what lists give

pub hull_of_list : (g h : Gathered) (R : ℤ → ℤ → Type 0) (xs ys : List ℤ) (r : Vals) → ys ≡ xs → ((x : Vals) → Holds x g) → Adds g h (λ z. (v : ℤ) × Contains ys v × R v z)
    → Holds r h → ((x : Vals) → Holds x h → ValsBelow r x) → IsHull (λ z. (v : ℤ) × Contains xs v × R v z) r
hull_of_list g h R xs ys r e start added holds least =
    hull_of_added g h (λ z. (v : ℤ) × Contains xs v × R v z) r start (subst (λ (zs : List ℤ). Adds g h (λ z. (v : ℤ) × Contains zs v × R v z)) e added) holds least

pub hull_of_image : (g h : Gathered) (o : BinOp) (t : IntType) (target : Target) (xs ys fs bs : List ℤ) (r : Vals) → xs ≡ fs → ys ≡ bs → ((x : Vals) → Holds x g)
    → Adds g h (λ z. (v : ℤ) × Contains xs v × ((w : ℤ) × Contains ys w × (result_of o v w t target ≡ Some z)))
    → Holds r h → ((x : Vals) → Holds x h → ValsBelow r x) → IsHull (λ z. (v : ℤ) × (w : ℤ) × Contains fs v × Contains bs w × (result_of o v w t target ≡ Some z)) r
hull_of_image g h o t target xs ys fs bs r e f start added holds least =
    let first = subst (λ (zs : List ℤ). Adds g h (λ z. (v : ℤ) × Contains zs v × ((w : ℤ) × Contains ys w × (result_of o v w t target ≡ Some z)))) e added in
    let second = subst (λ (zs : List ℤ). Adds g h (λ z. (v : ℤ) × Contains fs v × ((w : ℤ) × Contains zs w × (result_of o v w t target ≡ Some z)))) f first in
    hull_of_added g h (λ z. (v : ℤ) × (w : ℤ) × Contains fs v × Contains bs w × (result_of o v w t target ≡ Some z)) r start
    (adds_same g h (λ z. (v : ℤ) × Contains fs v × ((w : ℤ) × Contains bs w × (result_of o v w t target ≡ Some z))) (λ z. (v : ℤ) × (w : ℤ) × Contains fs v × Contains bs w × (result_of o v w t target ≡ Some z)) second
    (λ z k. let m = k.2 in (k.0, m.0, k.1, m.1, m.2))
    (λ z k. (k.0, k.2, (k.1, k.3, k.4))))
    holds least

pub hull_same : (P Q : ℤ → Type 0) (r : Vals) → IsHull P r → ((v : ℤ) → P v → Q v) → ((v : ℤ) → Q v → P v) → IsHull Q r
hull_same P Q r p to back = record { covers = λ v q. p.covers v (back v q); least = λ x c. p.least x (λ v k. c v (to v k)) }

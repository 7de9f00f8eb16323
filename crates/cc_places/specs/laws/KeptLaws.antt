-- The members under which addresses stand.
use Rattle.std.specs.Prelude.{ℕ, ◌≡◌, ◌⊎◌, ◌&&◌, ◌==◌, Bool, true, false, List, [], ◌∷◌, map, refl}
use Rattle.std.specs.List.{list_all}
use Rattle.std.proofs.lemmas.Bool.{eqb-true}
use Rattle.std.proofs.Common.{sym, ap, ◌∙◌, inl, inr}
use Rattle.cc_program.specs.declared.value.Root.{Root}
use Rattle.cc_program.specs.declared.value.Root.TheVariants as root
use Rattle.cc_program.specs.declared.value.Part.{Part}
use Rattle.cc_program.specs.declared.value.Part.TheVariants as part
use Rattle.cc_program.specs.declared.value.Address.{Address}
use Rattle.cc_program.specs.declared.value.Address.TheVariants as address
use Rattle.cc_places.specs.Kept.{kept_root, kept, starred_part, starred, member_for, is_kept_root, is_kept, is_starred_part, is_starred, is_object}
use Rattle.cc_places.specs.laws.ListLaws.{both_true, and_true}

same_fields : (o o' : Root) (p p' : List Part) (i i' n n' : ℕ) → o ≡ o' → p ≡ p' → i ≡ i' → n ≡ n' → address.At o p i n ≡ address.At o' p' i' n'
same_fields o o' p p' i i' n n' a b c d =
    ap (λ x. address.At x p i n) a ∙ (ap (λ x. address.At o' x i n) b ∙ (ap (λ x. address.At o' p' x n) c ∙ ap (λ x. address.At o' p' i' x) d))

-- members are as sets keep them, and they are the members under which they stand

zero_is : (n : ℕ) → (n == 0) ≡ true → n ≡ 0
zero_is n e = eqb-true n 0 e

kept_root_is : (r : Root) → is_kept_root (kept_root r) ≡ true
kept_root_is (root.Static o) = refl
kept_root_is (root.Auto t f l) = refl

root_kept : (r : Root) → is_kept_root r ≡ true → kept_root r ≡ r
root_kept (root.Static o) e = refl
root_kept (root.Auto t f l) e = ap (λ k. root.Auto k f l) (sym (zero_is t e))

pub kept_is : (a : Address) → is_kept (kept a) ≡ true
kept_is address.Null = refl
kept_is (address.Func f) = refl
kept_is (address.At o p i n) = kept_root_is o

pub kept_stays : (a : Address) → is_kept a ≡ true → kept a ≡ a
kept_stays address.Null e = refl
kept_stays (address.Func f) e = refl
kept_stays (address.At o p i n) e = ap (λ r. address.At r p i n) (root_kept o e)

part_starred : (p : Part) → is_starred_part p ≡ true → starred_part p ≡ p
part_starred (part.Member m) e = refl
part_starred (part.Index i) e = ap part.Index (sym (zero_is i e))

path_starred : (p : List Part) → list_all is_starred_part p ≡ true → map starred_part p ≡ p
path_starred [] e = refl
path_starred (a ∷ p) e =
    let k = both_true (is_starred_part a) (list_all is_starred_part p) e in
    ap (λ z. z ∷ map starred_part p) (part_starred a k.0) ∙ ap (λ l. a ∷ l) (path_starred p k.1)

part_is_starred : (p : Part) → is_starred_part (starred_part p) ≡ true
part_is_starred (part.Member m) = refl
part_is_starred (part.Index i) = refl

path_is_starred : (p : List Part) → list_all is_starred_part (map starred_part p) ≡ true
path_is_starred [] = refl
path_is_starred (a ∷ p) = and_true (is_starred_part (starred_part a)) (list_all is_starred_part (map starred_part p)) (part_is_starred a) (path_is_starred p)

part_twice : (p : Part) → starred_part (starred_part p) ≡ starred_part p
part_twice p = part_starred (starred_part p) (part_is_starred p)

pub starred_is : (a : Address) → is_starred (starred a) ≡ true
starred_is address.Null = refl
starred_is (address.Func f) = refl
starred_is (address.At o p i n) = and_true (is_kept_root (kept_root o)) (list_all is_starred_part (map starred_part p) && true) (kept_root_is o)
    (and_true (list_all is_starred_part (map starred_part p)) true (path_is_starred p) refl)

pub starred_stays : (a : Address) → is_starred a ≡ true → starred a ≡ a
starred_stays address.Null e = refl
starred_stays (address.Func f) e = refl
starred_stays (address.At o p i n) e =
    let k = both_true (is_kept_root o) (list_all is_starred_part p && (i == 0)) e in
    let l = both_true (list_all is_starred_part p) (i == 0) k.1 in
    same_fields (kept_root o) o (map starred_part p) p 0 i n n (root_kept o k.0) (path_starred p l.0) (sym (zero_is i l.1)) refl

pub starred_kept : (a : Address) → is_starred a ≡ true → is_kept a ≡ true
starred_kept address.Null e = refl
starred_kept (address.Func f) e = refl
starred_kept (address.At o p i n) e = (both_true (is_kept_root o) (list_all is_starred_part p && (i == 0)) e).0

-- the member of a member

root_twice : (r : Root) → kept_root (kept_root r) ≡ kept_root r
root_twice (root.Static o) = refl
root_twice (root.Auto t f l) = refl

pub kept_twice : (a : Address) → kept (kept a) ≡ kept a
kept_twice a = kept_stays (kept a) (kept_is a)

pub starred_twice : (a : Address) → starred (starred a) ≡ starred a
starred_twice a = starred_stays (starred a) (starred_is a)

pub starred_of_kept : (a : Address) → starred (kept a) ≡ starred a
starred_of_kept address.Null = refl
starred_of_kept (address.Func f) = refl
starred_of_kept (address.At o p i n) = ap (λ r. address.At r (map starred_part p) 0 n) (root_twice o)

-- whether sets of the one form lie in those of the other
abbrev pub Coarser : Bool → Bool → Type 0
Coarser e d = (e ≡ true) ⊎ (d ≡ false)

pub member_twice : (e d : Bool) (a : Address) → Coarser e d → member_for d (member_for e a) ≡ member_for d a
member_twice true true a c = kept_twice a
member_twice true false a c = starred_of_kept a
member_twice false false a c = starred_twice a
member_twice false true a (inl h) = cc
member_twice false true a (inr h) = cc

pub member_same : (e d : Bool) (a b : Address) → Coarser e d → member_for e a ≡ member_for e b → member_for d a ≡ member_for d b
member_same e d a b c h = sym (member_twice e d a c) ∙ (ap (member_for d) h ∙ member_twice e d b c)

-- objects stay objects

pub object_starred : (a : Address) → is_object (starred a) ≡ is_object a
object_starred address.Null = refl
object_starred (address.Func f) = refl
object_starred (address.At o p i n) = refl

pub other_starred : (a : Address) → is_object a ≡ false → starred a ≡ a
other_starred address.Null e = refl
other_starred (address.Func f) e = refl
other_starred (address.At o p i n) e = cc

pub at_object : (a : Address) → is_object a ≡ true → (o : Root) × (p : List Part) × (i : ℕ) × (n : ℕ) × (a ≡ address.At o p i n)
at_object address.Null e = cc
at_object (address.Func f) e = cc
at_object (address.At o p i n) e = (o, p, i, n, refl)

-- Addresses are ordered by their listing, and the code compares them so.
use Rattle.std.specs.Prelude.{ℕ, ◌≡◌, ◌↔◌, Bool, true, false, List, [], ◌∷◌, refl, IsTrue}
use Rattle.std.proofs.Common.{sym, ap, ◌∙◌, subst}
use Rattle.std.specs.declared.cmp.Ordering.{Ordering}
use Rattle.std.specs.declared.cmp.Ordering.TheVariants.{Less, Equal, Greater}
use Rattle.std.specs.Ordering.{ordering_then, nat_cmp, is_eq}
use Rattle.std.specs.Cmp.{IsTotalOrder, on_total, tied_itself}
use Rattle.std.specs.Cmp.Lexicographic.{slice_cmp, nat_list_cmp_total}
use Rattle.std.specs.FinMap.{nat_cmp-IsAntisymmetric, slice_cmp-IsAntisymmetric}
use Rattle.cc_program.specs.declared.value.Root.{Root}
use Rattle.cc_program.specs.declared.value.Root.TheVariants as root
use Rattle.cc_program.specs.declared.value.Part.{Part}
use Rattle.cc_program.specs.declared.value.Part.TheVariants as part
use Rattle.cc_program.specs.declared.value.Address.{Address}
use Rattle.cc_program.specs.declared.value.Address.TheVariants as address
use Rattle.cc_places.specs.Kept.{part_for, path_for}
use Rattle.cc_places.specs.Order.{steps, listing, order, path_order, address_order}

pub order_total : IsTotalOrder order
order_total = on_total listing nat_list_cmp_total

-- addresses with one listing are the same

same_tail : {x y : ℕ} {xs ys : List ℕ} → x ∷ xs ≡ y ∷ ys → xs ≡ ys
same_tail e = cc

same_head : {x y : ℕ} {xs ys : List ℕ} → x ∷ xs ≡ y ∷ ys → x ≡ y
same_head e = cc

pub same_steps : (p q : List Part) (xs ys : List ℕ) → steps p xs ≡ steps q ys → (p ≡ q) × (xs ≡ ys)
same_steps [] [] xs ys e = (refl, same_tail e)
same_steps [] (part.Member n ∷ q) xs ys e = cc
same_steps [] (part.Index j ∷ q) xs ys e = cc
same_steps (part.Member m ∷ p) [] xs ys e = cc
same_steps (part.Index i ∷ p) [] xs ys e = cc
same_steps (part.Member m ∷ p) (part.Index j ∷ q) xs ys e = cc
same_steps (part.Index i ∷ p) (part.Member n ∷ q) xs ys e = cc
same_steps (part.Member m ∷ p) (part.Member n ∷ q) xs ys e =
    let both = same_steps p q xs ys (same_tail (same_tail e)) in
    let head : m ≡ n = same_head (same_tail e) in
    let tail : p ≡ q = both.0 in
    (ap (λ k. part.Member k ∷ p) head ∙ ap (λ l. part.Member n ∷ l) tail, both.1)
same_steps (part.Index i ∷ p) (part.Index j ∷ q) xs ys e =
    let both = same_steps p q xs ys (same_tail (same_tail e)) in
    let head : i ≡ j = same_head (same_tail e) in
    let tail : p ≡ q = both.0 in
    (ap (λ k. part.Index k ∷ p) head ∙ ap (λ l. part.Index j ∷ l) tail, both.1)

same_at : (r : Root) (p q : List Part) (i j n m : ℕ) → steps p (i ∷ n ∷ []) ≡ steps q (j ∷ m ∷ []) → address.At r p i n ≡ address.At r q j m
same_at r p q i j n m e =
    let both = same_steps p q (i ∷ n ∷ []) (j ∷ m ∷ []) e in
    let path : p ≡ q = both.0 in
    let index : i ≡ j = same_head both.1 in
    let count : n ≡ m = same_head (same_tail both.1) in
    ap (λ l. address.At r l i n) path ∙ (ap (λ k. address.At r q k n) index ∙ ap (λ k. address.At r q j k) count)

pub same_listing : (a b : Address) → listing a ≡ listing b → a ≡ b
same_listing address.Null address.Null e = refl
same_listing address.Null (address.Func g) e = cc
same_listing address.Null (address.At (root.Static o) p i n) e = cc
same_listing address.Null (address.At (root.Auto t f l) p i n) e = cc
same_listing (address.Func f) address.Null e = cc
same_listing (address.Func f) (address.Func g) e = ap address.Func (same_head (same_tail e))
same_listing (address.Func f) (address.At (root.Static o) p i n) e = cc
same_listing (address.Func f) (address.At (root.Auto t g l) p i n) e = cc
same_listing (address.At (root.Static o) p i n) address.Null e = cc
same_listing (address.At (root.Auto t f l) p i n) address.Null e = cc
same_listing (address.At (root.Static o) p i n) (address.Func g) e = cc
same_listing (address.At (root.Auto t f l) p i n) (address.Func g) e = cc
same_listing (address.At (root.Static o) p i n) (address.At (root.Auto t f l) q j m) e = cc
same_listing (address.At (root.Auto t f l) p i n) (address.At (root.Static o) q j m) e = cc
same_listing (address.At (root.Static o) p i n) (address.At (root.Static o') q j m) e =
    let object : o ≡ o' = same_head (same_tail e) in
    ap (λ k. address.At (root.Static k) p i n) object ∙ same_at (root.Static o') p q i j n m (same_tail (same_tail e))
same_listing (address.At (root.Auto t f l) p i n) (address.At (root.Auto t' f' l') q j m) e =
    let func : f ≡ f' = same_head (same_tail e) in
    let local : l ≡ l' = same_head (same_tail (same_tail e)) in
    let activation : t ≡ t' = same_head (same_tail (same_tail (same_tail e))) in
    ap (λ k. address.At (root.Auto t k l) p i n) func ∙ (ap (λ k. address.At (root.Auto t f' k) p i n) local
    ∙ (ap (λ k. address.At (root.Auto k f' l') p i n) activation ∙ same_at (root.Auto t' f' l') p q i j n m (same_tail (same_tail (same_tail (same_tail e))))))

pub tied_same : (a b : Address) → order a b ≡ Equal → a ≡ b
tied_same a b e = same_listing a b (slice_cmp-IsAntisymmetric nat_cmp-IsAntisymmetric (listing a) (listing b) e)

pub tied_self : (a : Address) → order a a ≡ Equal
tied_self a = tied_itself order_total a

-- the order by cases

then_assoc : (r s t : Ordering) → ordering_then (ordering_then r s) t ≡ ordering_then r (ordering_then s t)
then_assoc Less s t = refl
then_assoc Equal s t = refl
then_assoc Greater s t = refl

pub steps_by_cases : (p q : List Part) (xs ys : List ℕ) → slice_cmp nat_cmp (steps p xs) (steps q ys) ≡ ordering_then (path_order p q) (slice_cmp nat_cmp xs ys)
steps_by_cases [] [] xs ys = refl
steps_by_cases [] (part.Member n ∷ q) xs ys = refl
steps_by_cases [] (part.Index j ∷ q) xs ys = refl
steps_by_cases (part.Member m ∷ p) [] xs ys = refl
steps_by_cases (part.Index i ∷ p) [] xs ys = refl
steps_by_cases (part.Member m ∷ p) (part.Index j ∷ q) xs ys = refl
steps_by_cases (part.Index i ∷ p) (part.Member n ∷ q) xs ys = refl
steps_by_cases (part.Member m ∷ p) (part.Member n ∷ q) xs ys =
    ap (ordering_then (nat_cmp m n)) (steps_by_cases p q xs ys) ∙ sym (then_assoc (nat_cmp m n) (path_order p q) (slice_cmp nat_cmp xs ys))
steps_by_cases (part.Index i ∷ p) (part.Index j ∷ q) xs ys =
    ap (ordering_then (nat_cmp i j)) (steps_by_cases p q xs ys) ∙ sym (then_assoc (nat_cmp i j) (path_order p q) (slice_cmp nat_cmp xs ys))

then_equal : (r : Ordering) → ordering_then r Equal ≡ r
then_equal Less = refl
then_equal Equal = refl
then_equal Greater = refl

ends_by_cases : (p q : List Part) (i j n m : ℕ) → slice_cmp nat_cmp (steps p (i ∷ n ∷ [])) (steps q (j ∷ m ∷ [])) ≡ ordering_then (path_order p q) (ordering_then (nat_cmp i j) (nat_cmp n m))
ends_by_cases p q i j n m =
    steps_by_cases p q (i ∷ n ∷ []) (j ∷ m ∷ []) ∙ ap (λ r. ordering_then (path_order p q) (ordering_then (nat_cmp i j) r)) (then_equal (nat_cmp n m))

pub order_by_cases : (a b : Address) → address_order a b ≡ order a b
order_by_cases address.Null address.Null = refl
order_by_cases address.Null (address.Func g) = refl
order_by_cases address.Null (address.At (root.Static o) p i n) = refl
order_by_cases address.Null (address.At (root.Auto t f l) p i n) = refl
order_by_cases (address.Func f) address.Null = refl
order_by_cases (address.Func f) (address.Func g) = sym (then_equal (nat_cmp f g))
order_by_cases (address.Func f) (address.At (root.Static o) p i n) = refl
order_by_cases (address.Func f) (address.At (root.Auto t g l) p i n) = refl
order_by_cases (address.At (root.Static o) p i n) address.Null = refl
order_by_cases (address.At (root.Auto t f l) p i n) address.Null = refl
order_by_cases (address.At (root.Static o) p i n) (address.Func g) = refl
order_by_cases (address.At (root.Auto t f l) p i n) (address.Func g) = refl
order_by_cases (address.At (root.Static o) p i n) (address.At (root.Auto t f l) q j m) = refl
order_by_cases (address.At (root.Auto t f l) p i n) (address.At (root.Static o) q j m) = refl
order_by_cases (address.At (root.Static o) p i n) (address.At (root.Static o') q j m) = ap (ordering_then (nat_cmp o o')) (sym (ends_by_cases p q i j n m))
order_by_cases (address.At (root.Auto t f l) p i n) (address.At (root.Auto t' f' l') q j m) =
    let rest = ends_by_cases p q i j n m in
    let all : Ordering = ordering_then (path_order p q) (ordering_then (nat_cmp i j) (nat_cmp n m)) in
    then_assoc (nat_cmp f f') (ordering_then (nat_cmp l l') (nat_cmp t t')) all
    ∙ (ap (ordering_then (nat_cmp f f')) (then_assoc (nat_cmp l l') (nat_cmp t t') all)
    ∙ ap (λ r. ordering_then (nat_cmp f f') (ordering_then (nat_cmp l l') (ordering_then (nat_cmp t t') r))) (sym rest))

-- paths

pub same_paths : (p q : List Part) → path_order p q ≡ Equal → p ≡ q
same_paths p q e =
    (same_steps p q [] [] (slice_cmp-IsAntisymmetric nat_cmp-IsAntisymmetric (steps p []) (steps q [])
    (steps_by_cases p q [] [] ∙ ap (λ r. ordering_then r Equal) e))).0

steps_self : (r s : Ordering) → ordering_then r Equal ≡ s → r ≡ s
steps_self r s e = sym (then_equal r) ∙ e

pub path_self : (p : List Part) → path_order p p ≡ Equal
path_self p = steps_self (path_order p p) Equal (sym (steps_by_cases p p [] []) ∙ tied_itself nat_list_cmp_total (steps p []))

equal_is : (r : Ordering) → is_eq r ≡ true → r ≡ Equal
equal_is Less e = cc
equal_is Equal e = refl
equal_is Greater e = cc

pub equal_paths : (p q : List Part) (r : Bool) → r ≡ is_eq (path_order p q) → (IsTrue r) ↔ (p ≡ q)
equal_paths p q r h = (
  (λ e. same_paths p q (equal_is (path_order p q) (sym h ∙ e))),
  (λ e. h ∙ ap is_eq (subst (λ l. path_order p l ≡ Equal) e (path_self p))),
)

pub path_for_step : (e : Bool) (a : Part) (p : List Part) → path_for e (a ∷ p) ≡ part_for e a ∷ path_for e p
path_for_step true a p = refl
path_for_step false a p = refl

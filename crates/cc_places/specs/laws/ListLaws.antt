-- Ascending lists of addresses: one put to its place, lists with the same members, and how long they are.
use Rattle.std.specs.Prelude.{ℕ, suc, zero, ◌+◌, ◌<◌, ◌≤◌, ◌≡◌, ◌⊎◌, ◌&&◌, ◌||◌, Bool, true, false, List, [], ◌∷◌, ◌++◌, length, slice_get, Some, refl}
use Rattle.std.specs.List.{Contains, list_all, list_any, insert}
use Rattle.std.specs.declared.cmp.Ordering.{Ordering}
use Rattle.std.specs.declared.cmp.Ordering.TheVariants.{Less, Equal, Greater}
use Rattle.std.specs.Ordering.{ordering_reverse, is_lt}
use Rattle.std.proofs.Common.{get_or, take, sym, ap, ◌∙◌, subst, inl, inr, ⊎_elim, arith}
use Rattle.std.proofs.lemmas.List.{take_more, take_all}
use Rattle.std.proofs.lemmas.List.Elements.{Contains-push, Contains-push_cases, Contains-append_left}
use Rattle.cc_program.specs.declared.value.Address.{Address}
use Rattle.cc_places.specs.Order.{order, is_before, is_before_first, ascends}
use Rattle.cc_places.specs.Members.{place_by, place_of, put, added}
use Rattle.cc_places.specs.laws.OrderLaws.{order_total, tied_same, tied_self}

-- tests

pub both_true : (p q : Bool) → p && q ≡ true → (p ≡ true) × (q ≡ true)
both_true true q h = (refl, h)
both_true false q h = cc

pub and_true : (p q : Bool) → p ≡ true → q ≡ true → p && q ≡ true
and_true true q h k = k
and_true false q h k = cc

pub either_true : (p q : Bool) → p || q ≡ true → (p ≡ true) ⊎ (q ≡ true)
either_true true q h = inl refl
either_true false q h = inr h

pub or_left : (p q : Bool) → p ≡ true → p || q ≡ true
or_left true q h = refl
or_left false q h = cc

pub or_right : (p q : Bool) → q ≡ true → p || q ≡ true
or_right true q h = refl
or_right false q h = h

-- what a list contains

pub cons_cases : {X : Type 0} (x : X) (xs : List X) (y : X) → Contains (x ∷ xs) y → (x ≡ y) ⊎ Contains xs y
cons_cases x xs y (zero, l, e) = inl e
cons_cases x xs y (suc k, l, e) = inr (k, omega (arith, l), e)

pub at_head : {X : Type 0} (x : X) (xs : List X) → Contains (x ∷ xs) x
at_head x xs = (0, omega arith, refl)

pub behind_head : {X : Type 0} (x : X) (xs : List X) (y : X) → Contains xs y → Contains (x ∷ xs) y
behind_head x xs y (k, l, e) = (suc k, omega (arith, l), e)

pub none_in : {X : Type 0} (y : X) → Contains [] y → ⊥
none_in y (k, l, e) = absurd (omega (arith, l))

pub same_in : {X : Type 0} (xs : List X) (x y : X) → x ≡ y → Contains xs x → Contains xs y
same_in xs x y e c = subst (λ z. Contains xs z) e c

pub in_rest : {X : Type 0} (x : X) (xs : List X) (y : X) → (x ≡ y → ⊥) → Contains (x ∷ xs) y → Contains xs y
in_rest x xs y other c = ⊎_elim (λ e. absurd (other e)) (λ there. there) (cons_cases x xs y c)

-- the beginning of a list, with one element more

take_step : {X : Type 0} (xs : List X) (i : ℕ) (x : X) → i < length xs → x ≡ get_or xs i x → take (i + 1) xs ≡ take i xs ++ x ∷ []
take_step xs i x l e = take_more xs i x l ∙ ap (λ a. take i xs ++ a ∷ []) (sym e)

pub taken_cases : {X : Type 0} (xs : List X) (i : ℕ) (x : X) (y : X) → i < length xs → x ≡ get_or xs i x → Contains (take (i + 1) xs) y → Contains (take i xs) y ⊎ (x ≡ y)
taken_cases xs i x y l e c = Contains-push_cases (take i xs) x y (subst (λ ls. Contains ls y) (take_step xs i x l e) c)

pub taken_before : {X : Type 0} (xs : List X) (i : ℕ) (x : X) (y : X) → i < length xs → x ≡ get_or xs i x → Contains (take i xs) y → Contains (take (i + 1) xs) y
taken_before xs i x y l e c = subst (λ ls. Contains ls y) (sym (take_step xs i x l e)) (Contains-append_left (take i xs) (x ∷ []) y c)

pub taken_now : {X : Type 0} (xs : List X) (i : ℕ) (x : X) → i < length xs → x ≡ get_or xs i x → Contains (take (i + 1) xs) x
taken_now xs i x l e = subst (λ ls. Contains ls x) (sym (take_step xs i x l e)) (Contains-push (take i xs) x)

pub all_taken : {X : Type 0} (xs : List X) (i : ℕ) → length xs ≤ i → take i xs ≡ xs
all_taken xs i h = take_all i xs h

pub item_in : {X : Type 0} (xs : List X) (i : ℕ) (x : X) → i < length xs → x ≡ get_or xs i x → Contains xs x
item_in xs i x l e = (i, l, sym e)

pub all_at : {X : Type 0} (p : X → Bool) (xs : List X) (y : X) → list_all p xs ≡ true → Contains xs y → p y ≡ true
all_at p [] y h c = absurd (none_in y c)
all_at p (x ∷ xs) y h c =
    let k = both_true (p x) (list_all p xs) h in
    ⊎_elim (λ same. subst (λ z. p z ≡ true) same k.0) (λ there. all_at p xs y k.1 there) (cons_cases x xs y c)

pub all_from : {X : Type 0} (p : X → Bool) (xs : List X) → ((y : X) → Contains xs y → p y ≡ true) → list_all p xs ≡ true
all_from p [] f = refl
all_from p (x ∷ xs) f = and_true (p x) (list_all p xs) (f x (at_head x xs)) (all_from p xs (λ y c. f y (behind_head x xs y c)))

pub any_from : {X : Type 0} (p : X → Bool) (xs : List X) (y : X) → Contains xs y → p y ≡ true → list_any p xs ≡ true
any_from p [] y c h = absurd (none_in y c)
any_from p (x ∷ xs) y c h = ⊎_elim
    (λ same. or_left (p x) (list_any p xs) (subst (λ z. p z ≡ true) (sym same) h))
    (λ there. or_right (p x) (list_any p xs) (any_from p xs y there h))
    (cons_cases x xs y c)

pub any_at : {X : Type 0} (p : X → Bool) (xs : List X) → list_any p xs ≡ true → (y : X) × Contains xs y × (p y ≡ true)
any_at p [] h = cc
any_at p (x ∷ xs) h = ⊎_elim
    (λ e. (x, at_head x xs, e))
    (λ k. later (any_at p xs k))
    (either_true (p x) (list_any p xs) h)
  where
    later : ((y : _) × Contains xs y × (p y ≡ true)) → (y : _) × Contains (x ∷ xs) y × (p y ≡ true)
    later (y, c, e) = (y, behind_head x xs y c, e)

pub none_at : {X : Type 0} (p : X → Bool) (xs : List X) (y : X) → list_any p xs ≡ false → Contains xs y → p y ≡ false
none_at p xs y h c = by_test (p y) (λ e. any_from p xs y c e)
  where
    by_test : (b : Bool) → (b ≡ true → list_any p xs ≡ true) → b ≡ false
    by_test false f = refl
    by_test true f = let k = f refl in cc

-- which comes first

less_only : (r : Ordering) → is_lt r ≡ true → r ≡ Less
less_only Less e = refl
less_only Equal e = cc
less_only Greater e = cc

turned : (a b : Address) (r : Ordering) → order b a ≡ r → order a b ≡ ordering_reverse r
turned a b r e = order_total.antisymm a b ∙ ap ordering_reverse e

pub before_through : (a b c : Address) → is_before a b ≡ true → is_before b c ≡ true → is_before a c ≡ true
before_through a b c h k = ap is_lt (order_total.trans a b c (less_only (order a b) h) (less_only (order b c) k))

pub not_before_itself : (a b : Address) → is_before a b ≡ true → a ≡ b → ⊥
not_before_itself a b h e =
    let k : order a b ≡ Equal = subst (λ z. order a z ≡ Equal) e (tied_self a) in
    let l : is_lt Equal ≡ true = subst (λ r. is_lt r ≡ true) k h in
    cc

pub not_both_ways : (a b : Address) → is_before a b ≡ true → is_before b a ≡ true → ⊥
not_both_ways a b h k = not_before_itself a a (before_through a b a h k) refl

-- an address at its place

only_by : (r : Ordering) (a m : Address) (ms more : List Address) (b : Address) → (Contains more b → (a ≡ b) ⊎ Contains ms b)
    → Contains (put r a m ms more) b → (a ≡ b) ⊎ Contains (m ∷ ms) b
only_by Less a m ms more b f c = ⊎_elim (λ e. inr (same_in (m ∷ ms) m b e (at_head m ms)))
    (λ there. ⊎_elim (λ e. inl e) (λ k. inr (behind_head m ms b k)) (f there)) (cons_cases m more b c)
only_by Equal a m ms more b f c = inr c
only_by Greater a m ms more b f c = cons_cases a (m ∷ ms) b c

pub added_only : (a : Address) (ms : List Address) (b : Address) → Contains (added a ms) b → (a ≡ b) ⊎ Contains ms b
added_only a [] b c = cons_cases a [] b c
added_only a (m ∷ ms) b c = only_by (order m a) a m ms (added a ms) b (λ there. added_only a ms b there) c

old_by : (r : Ordering) (a m : Address) (ms more : List Address) (b : Address) → (Contains ms b → Contains more b)
    → Contains (m ∷ ms) b → Contains (put r a m ms more) b
old_by Less a m ms more b f c = ⊎_elim (λ e. same_in (m ∷ more) m b e (at_head m more)) (λ there. behind_head m more b (f there)) (cons_cases m ms b c)
old_by Equal a m ms more b f c = c
old_by Greater a m ms more b f c = behind_head a (m ∷ ms) b c

pub added_old : (a : Address) (ms : List Address) (b : Address) → Contains ms b → Contains (added a ms) b
added_old a [] b c = absurd (none_in b c)
added_old a (m ∷ ms) b c = old_by (order m a) a m ms (added a ms) b (λ there. added_old a ms b there) c

new_by : (r : Ordering) (a m : Address) (ms more : List Address) → order m a ≡ r → Contains more a → Contains (put r a m ms more) a
new_by Less a m ms more e c = behind_head m more a c
new_by Equal a m ms more e c = same_in (m ∷ ms) m a (tied_same m a e) (at_head m ms)
new_by Greater a m ms more e c = at_head a (m ∷ ms)

pub added_new : (a : Address) (ms : List Address) → Contains (added a ms) a
added_new a [] = at_head a []
added_new a (m ∷ ms) = new_by (order m a) a m ms (added a ms) refl (added_new a ms)

ascends_by : (r : Ordering) (a m : Address) (ms : List Address) → order m a ≡ r → list_all (is_before m) ms ≡ true → ascends ms ≡ true → ascends (added a ms) ≡ true
    → ascends (put r a m ms (added a ms)) ≡ true
ascends_by Less a m ms e all rest more = and_true (list_all (is_before m) (added a ms)) (ascends (added a ms))
    (all_from (is_before m) (added a ms) (λ b c. ⊎_elim (λ same. subst (λ z. is_before m z ≡ true) same (ap is_lt e)) (λ there. all_at (is_before m) ms b all there) (added_only a ms b c)))
    more
ascends_by Equal a m ms e all rest more = and_true (list_all (is_before m) ms) (ascends ms) all rest
ascends_by Greater a m ms e all rest more =
    let first : is_before a m ≡ true = ap is_lt (turned a m Greater e) in
    and_true (list_all (is_before a) (m ∷ ms)) (ascends (m ∷ ms))
    (and_true (is_before a m) (list_all (is_before a) ms) first (all_from (is_before a) ms (λ b c. before_through a m b first (all_at (is_before m) ms b all c))))
    (and_true (list_all (is_before m) ms) (ascends ms) all rest)

pub ascends_added : (a : Address) (ms : List Address) → ascends ms ≡ true → ascends (added a ms) ≡ true
ascends_added a [] h = refl
ascends_added a (m ∷ ms) h =
    let k = both_true (list_all (is_before m) ms) (ascends ms) h in
    ascends_by (order m a) a m ms refl k.0 k.1 (ascends_added a ms k.1)

-- the place that the code finds

there_by : (r : Ordering) (a m : Address) (ms : List Address) (n : ℕ) → order m a ≡ r → (slice_get ms n ≡ Some a → added a ms ≡ ms)
    → slice_get (m ∷ ms) (place_by r n) ≡ Some a → put r a m ms (added a ms) ≡ m ∷ ms
there_by Less a m ms n e f g = ap (λ l. m ∷ l) (f g)
there_by Equal a m ms n e f g = refl
there_by Greater a m ms n e f g =
    let same : m ≡ a = cc in
    let k : order m a ≡ Equal = subst (λ z. order m z ≡ Equal) same (tied_self m) in
    cc

pub added_there : (a : Address) (ms : List Address) → slice_get ms (place_of a ms) ≡ Some a → added a ms ≡ ms
added_there a [] g = cc
added_there a (m ∷ ms) g = there_by (order m a) a m ms (place_of a ms) refl (λ h. added_there a ms h) g

absent_by : (r : Ordering) (a m : Address) (ms : List Address) (n : ℕ) → order m a ≡ r → ((slice_get ms n ≡ Some a → ⊥) → added a ms ≡ insert ms n a)
    → (slice_get (m ∷ ms) (place_by r n) ≡ Some a → ⊥) → put r a m ms (added a ms) ≡ insert (m ∷ ms) (place_by r n) a
absent_by Less a m ms n e f g = ap (λ l. m ∷ l) (f g)
absent_by Equal a m ms n e f g = absurd (g (ap Some (tied_same m a e)))
absent_by Greater a m ms n e f g = refl

pub added_absent : (a : Address) (ms : List Address) → (slice_get ms (place_of a ms) ≡ Some a → ⊥) → added a ms ≡ insert ms (place_of a ms) a
added_absent a [] g = refl
added_absent a (m ∷ ms) g = absent_by (order m a) a m ms (place_of a ms) refl (λ h. added_absent a ms h) g

pub place_goes_on : (a m : Address) (ms : List Address) → is_lt (order m a) ≡ true → place_of a (m ∷ ms) ≡ place_of a ms + 1
place_goes_on a m ms h = ap (λ r. place_by r (place_of a ms)) (less_only (order m a) h) ∙ omega arith

place_ends_by : (r : Ordering) (n : ℕ) → is_lt r ≡ false → place_by r n ≡ 0
place_ends_by Less n e = cc
place_ends_by Equal n e = refl
place_ends_by Greater n e = refl

pub place_ends : (a m : Address) (ms : List Address) → is_lt (order m a) ≡ false → place_of a (m ∷ ms) ≡ 0
place_ends a m ms h = place_ends_by (order m a) (place_of a ms) h

-- each address comes before those behind it where it comes before the next one

absorbed : (p q r s : Bool) → (p ≡ true → r ≡ true → q ≡ true) → (p && q) && (r && s) ≡ p && (r && s)
absorbed false q r s f = refl
absorbed true true r s f = refl
absorbed true false false s f = refl
absorbed true false true s f = let k = f refl refl in cc

pub ascends_by_next : (a : Address) (behind : List Address) → ascends (a ∷ behind) ≡ is_before_first a behind && ascends behind
ascends_by_next a [] = refl
ascends_by_next a (b ∷ rest) =
    absorbed (is_before a b) (list_all (is_before a) rest) (list_all (is_before b) rest) (ascends rest)
    (λ h k. all_from (is_before a) rest (λ c there. before_through a b c h (all_at (is_before b) rest c k there)))

pub ascends_goes_on : (a : Address) (behind : List Address) → is_before_first a behind ≡ true → ascends (a ∷ behind) ≡ ascends behind
ascends_goes_on a behind h = ascends_by_next a behind ∙ ap (λ b. b && ascends behind) h

pub ascends_ends : (a : Address) (behind : List Address) → is_before_first a behind ≡ false → ascends (a ∷ behind) ≡ false
ascends_ends a behind h = ascends_by_next a behind ∙ ap (λ b. b && ascends behind) h

pub ruleset ascending_on = (ascends_goes_on, ascends_ends)

pub ruleset adding = (added_there, added_absent)

pub ruleset placing = (place_goes_on, place_ends)

-- ascending lists with the same members

same_heads : (x y : Address) (xs ys : List Address) → list_all (is_before x) xs ≡ true → list_all (is_before y) ys ≡ true
    → Contains (y ∷ ys) x → Contains (x ∷ xs) y → x ≡ y
same_heads x y xs ys h k c d = ⊎_elim (λ e. sym e)
    (λ there. ⊎_elim (λ e. e) (λ here. absurd (not_both_ways x y (all_at (is_before x) xs y h here) (all_at (is_before y) ys x k there))) (cons_cases x xs y d))
    (cons_cases y ys x c)

tail_in : (x y : Address) (xs ys : List Address) → x ≡ y → list_all (is_before x) xs ≡ true
    → ((b : Address) → Contains (x ∷ xs) b → Contains (y ∷ ys) b) → (b : Address) → Contains xs b → Contains ys b
tail_in x y xs ys e h f b c = ⊎_elim
    (λ same. absurd (not_before_itself x b (all_at (is_before x) xs b h c) (e ∙ same)))
    (λ there. there)
    (cons_cases y ys b (f b (behind_head x xs b c)))

pub same_members : (xs ys : List Address) → ascends xs ≡ true → ascends ys ≡ true
    → ((b : Address) → Contains xs b → Contains ys b) → ((b : Address) → Contains ys b → Contains xs b) → xs ≡ ys
same_members [] [] h k f g = refl
same_members [] (y ∷ ys) h k f g = absurd (none_in y (g y (at_head y ys)))
same_members (x ∷ xs) [] h k f g = absurd (none_in x (f x (at_head x xs)))
same_members (x ∷ xs) (y ∷ ys) h k f g =
    let hx = both_true (list_all (is_before x) xs) (ascends xs) h in
    let hy = both_true (list_all (is_before y) ys) (ascends ys) k in
    let heads : x ≡ y = same_heads x y xs ys hx.0 hy.0 (f x (at_head x xs)) (g y (at_head y ys)) in
    let tails : xs ≡ ys = same_members xs ys hx.1 hy.1 (tail_in x y xs ys heads hx.0 f) (tail_in y x ys xs (sym heads) hy.0 g) in
    ap (λ z. z ∷ xs) heads ∙ ap (λ l. y ∷ l) tails

-- how long lists are whose members are in another one

abbrev pub Distinct : List Address → Type 0
Distinct [] = Unit {0}
Distinct (x ∷ xs) = (Contains xs x → ⊥) × Distinct xs

pub distinct_of : (xs : List Address) → ascends xs ≡ true → Distinct xs
distinct_of [] h = tt
distinct_of (x ∷ xs) h =
    let k = both_true (list_all (is_before x) xs) (ascends xs) h in
    ((λ c. not_before_itself x x (all_at (is_before x) xs x k.0 c) refl), distinct_of xs k.1)

abbrev Without : List Address → Address → Type 0
Without ys x = (zs : List Address) × (length ys ≡ suc (length zs)) × ((b : Address) → Contains ys b → (x ≡ b) ⊎ Contains zs b)

without_head : (y : Address) (ys : List Address) (x : Address) → y ≡ x → Without (y ∷ ys) x
without_head y ys x e = (ys, refl, λ b c. ⊎_elim (λ same. inl (sym e ∙ same)) (λ there. inr there) (cons_cases y ys b c))

without_later : (y : Address) (ys : List Address) (x : Address) → Without ys x → Without (y ∷ ys) x
without_later y ys x (zs, l, f) = (
  y ∷ zs,
  ap suc l,
  λ b c. ⊎_elim
      (λ same. inr (same_in (y ∷ zs) y b same (at_head y zs)))
      (λ there. ⊎_elim (λ e. inl e) (λ k. inr (behind_head y zs b k)) (f b there))
      (cons_cases y ys b c),
)

without : (ys : List Address) (x : Address) → Contains ys x → Without ys x
without [] x c = absurd (none_in x c)
without (y ∷ ys) x c = ⊎_elim (λ e. without_head y ys x e) (λ there. without_later y ys x (without ys x there)) (cons_cases y ys x c)

pub no_more : (xs ys : List Address) → Distinct xs → ((b : Address) → Contains xs b → Contains ys b) → length xs ≤ length ys
no_more [] ys d f = omega arith
no_more (x ∷ xs) ys d f = with_rest (without ys x (f x (at_head x xs))) (λ zs g. no_more xs zs d.1 g)
  where
    with_rest : Without ys x → ((zs : List Address) → ((b : Address) → Contains xs b → Contains zs b) → length xs ≤ length zs) → length (x ∷ xs) ≤ length ys
    with_rest (zs, l, g) rec =
        let h : length xs ≤ length zs = rec zs (λ b c. ⊎_elim (λ e. absurd (d.0 (same_in xs b x (sym e) c))) (λ there. there) (g b (f b (behind_head x xs b c)))) in
        omega (arith, l, h)

pub grown_longer : (xs ys : List Address) → ascends xs ≡ true → ascends ys ≡ true → ((b : Address) → Contains xs b → Contains ys b)
    → (xs ≡ ys → ⊥) → length xs < length ys
grown_longer [] [] h k f n = absurd (n refl)
grown_longer [] (y ∷ ys) h k f n = omega arith
grown_longer (x ∷ xs) [] h k f n = absurd (none_in x (f x (at_head x xs)))
grown_longer (x ∷ xs) (y ∷ ys) h k f n =
    let hx = both_true (list_all (is_before x) xs) (ascends xs) h in
    let hy = both_true (list_all (is_before y) ys) (ascends ys) k in
    ⊎_elim
    (λ e. let rest = grown_longer xs ys hx.1 hy.1 (tail_in x y xs ys (sym e) hx.0 f) (λ same. n (ap (λ z. z ∷ xs) (sym e) ∙ ap (λ l. y ∷ l) same)) in omega (arith, rest))
    (λ there.
    let rest = no_more (x ∷ xs) ys (distinct_of (x ∷ xs) h) (λ b c. ⊎_elim
    (λ same. absurd (behind_first x y b xs ys (all_at (is_before y) ys x hy.0 there) hx.0 same c))
    (λ later. later)
    (cons_cases y ys b (f b c))) in
    omega (arith, rest))
    (cons_cases y ys x (f x (at_head x xs)))
  where
    behind_first : (x y b : Address) (xs ys : List Address) → is_before y x ≡ true → list_all (is_before x) xs ≡ true → y ≡ b → Contains (x ∷ xs) b → ⊥
    behind_first x y b xs ys q all same c = ⊎_elim
        (λ e. not_before_itself y x q (same ∙ sym e))
        (λ later. not_before_itself y b (before_through y x b q (all_at (is_before x) xs b all later)) same)
        (cons_cases x xs b c)

-- a list of so many distinct addresses

abbrev pub numbered : (ℕ → Address) → ℕ → List Address
numbered f zero = []
numbered f (suc k) = f k ∷ numbered f k

pub length-numbered : (f : ℕ → Address) (k : ℕ) → length (numbered f k) ≡ k
length-numbered f zero = refl
length-numbered f (suc k) = ap suc (length-numbered f k)

pub numbered_only : (f : ℕ → Address) (k : ℕ) (b : Address) → Contains (numbered f k) b → (j : ℕ) × (j < k) × (f j ≡ b)
numbered_only f zero b c = absurd (none_in b c)
numbered_only f (suc k) b c = ⊎_elim (λ e. (k, omega arith, e)) (λ there. later (numbered_only f k b there)) (cons_cases (f k) (numbered f k) b c)
  where
    later : ((j : ℕ) × (j < k) × (f j ≡ b)) → (j : ℕ) × (j < suc k) × (f j ≡ b)
    later (j, l, e) = (j, omega (arith, l), e)

pub distinct_numbered : (f : ℕ → Address) → ((i j : ℕ) → f i ≡ f j → i ≡ j) → (k : ℕ) → Distinct (numbered f k)
distinct_numbered f same zero = tt
distinct_numbered f same (suc k) = ((λ c. apart (numbered_only f k (f k) c)), distinct_numbered f same k)
  where
    apart : ((j : ℕ) × (j < k) × (f j ≡ f k)) → ⊥
    apart (j, l, e) = let q : j ≡ k = same j k e in absurd (omega (arith, l, q))

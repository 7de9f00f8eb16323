-- The addresses to which those of a set are moved, member by member and element by element.
use Rattle.std.specs.Prelude.{ℕ, ◌+◌, ◌<◌, ◌≤◌, ◌≡◌, ◌⊎◌, Bool, true, false, ℤ, pos, ◌-ℤ◌, List, [], ◌∷◌, length, refl}
use Rattle.std.specs.List.{Contains, filter}
use Rattle.std.proofs.Common.{get_or, take, sym, ap, ◌∙◌, subst, inl, inr, ⊎_elim, arith}
use Rattle.cc_program.specs.declared.value.Root.{Root}
use Rattle.cc_program.specs.declared.value.Part.{Part}
use Rattle.cc_program.specs.declared.value.Address.{Address}
use Rattle.cc_program.specs.declared.value.Address.TheVariants as address
use Rattle.cc_places.specs.declared.addrs.Addrs.{Addrs}
use Rattle.cc_places.specs.Kept.{member_for, is_object}
use Rattle.cc_places.specs.Members.{are_members}
use Rattle.cc_places.specs.Sets.{HasAddress, IsSetOf, OneMore}
use Rattle.cc_places.specs.Moves.{IsMoved, AreMoved, HasMoved}
use Rattle.cc_places.specs.laws.ListLaws.{none_in, taken_cases, taken_before, taken_now}
use Rattle.cc_places.specs.laws.SetLaws.{Stands, set_alike, set_more, set_closed}
use Rattle.cc_places.proofs.Growing.{set_no_more}
use Rattle.cc_places.specs.laws.MoveLaws.{Reached, reached_moved, moved_reached, reached_none, reached_earlier, reached_now, reached_cases, null_moved, func_moved, objects_listed, objects_moved, nothing_moved}

-- by the members of an exact set

pub by_members : (by : ℤ → Type 0) (s r : Addrs) → s.is_exact ≡ true → IsSetOf (AreMoved by s.members) r → IsSetOf (HasMoved by s s.is_exact) r
by_members by s r e h = subst (λ d. IsSetOf (HasMoved by s d) r) (sym e) h

pub none_yet : (by : ℤ → Type 0) (s : Addrs) → s.is_exact ≡ true → s.members ≡ [] → IsSetOf (AreMoved by []) s
none_yet by s p e = record {
  has = λ a. ((λ h. absurd (none_in (member_for s.is_exact a) (subst (λ l. Contains l (member_for s.is_exact a)) e h))), (λ k. absurd (nothing a k)));
  exact = λ d few. let g : true ≡ false = sym p ∙ d in cc;
}
  where
    nothing : (a : Address) → Stands (AreMoved by []) s.is_exact a → ⊥
    nothing a (b, (x, c, h), d) = none_in x c

pub one_moved : (by : ℤ → Type 0) (s r : Addrs) (ms : List Address) (i : ℕ) (m : Address) → i < length ms → m ≡ get_or ms i m
    → IsSetOf (AreMoved by (take i ms)) s → IsSetOf (λ b. HasAddress s b ⊎ IsMoved by m b) r → IsSetOf (AreMoved by (take (i + 1) ms)) r
one_moved by s r ms i m l e h k =
    set_alike (λ b. AreMoved by (take i ms) b ⊎ IsMoved by m b) (AreMoved by (take (i + 1) ms)) r
    (λ b. ⊎_elim (before b) (λ t. (m, taken_now ms i m l e, t)))
    (λ b t. split b t)
    (set_more (AreMoved by (take i ms)) (IsMoved by m) s r h k)
  where
    before : (b : Address) → AreMoved by (take i ms) b → AreMoved by (take (i + 1) ms) b
    before b (a, c, t) = (a, taken_before ms i m a l e c, t)

    split : (b : Address) → AreMoved by (take (i + 1) ms) b → AreMoved by (take i ms) b ⊎ IsMoved by m b
    split b (a, c, t) = ⊎_elim (λ u. inl (a, u, t)) (λ u. inr (subst (λ z. IsMoved by z b) (sym u) t)) (taken_cases ms i m a l e c)

-- null and functions add nothing

pub null_adds : (by : ℤ → Type 0) (s : Addrs) (a : Address) → a ≡ address.Null → IsSetOf (λ b. HasAddress s b ⊎ IsMoved by a b) s
null_adds by s a e = set_no_more (IsMoved by a) s (λ b h. null_moved by b (subst (λ z. IsMoved by z b) e h))

pub func_adds : (by : ℤ → Type 0) (s : Addrs) (a : Address) (f : ℕ) → a ≡ address.Func f → IsSetOf (λ b. HasAddress s b ⊎ IsMoved by a b) s
func_adds by s a f e = set_no_more (IsMoved by a) s (λ b h. func_moved by f b (subst (λ z. IsMoved by z b) e h))

pub element_adds : (by : ℤ → Type 0) (s r : Addrs) (a b : Address) → a ≡ b → IsSetOf (λ c. HasAddress s c ⊎ IsMoved by b c) r → IsSetOf (λ c. HasAddress s c ⊎ IsMoved by a c) r
element_adds by s r a b e h = subst (λ z. IsSetOf (λ c. HasAddress s c ⊎ IsMoved by z c) r) (sym e) h

-- element by element

abbrev pub So : (ℤ → Type 0) → Root → List Part → ℕ → ℕ → Addrs → ℕ → Address → Type 0
So by o p i n s k b = HasAddress s b ⊎ Reached by o p i n k b

pub none_reached : (by : ℤ → Type 0) (o : Root) (p : List Part) (i n : ℕ) (s : Addrs) → IsSetOf (So by o p i n s 0) s
none_reached by o p i n s = set_no_more (Reached by o p i n 0) s (λ b h. reached_none by o p i n b h)

pub one_reached : (by : ℤ → Type 0) (o : Root) (p : List Part) (i n k : ℕ) (s t r : Addrs) (a : Address) → by (pos k -ℤ pos i) → a ≡ address.At o p k n
    → IsSetOf (So by o p i n s k) t → IsSetOf (OneMore t a) r → IsSetOf (So by o p i n s (k + 1)) r
one_reached by o p i n k s t r a has e h g =
    set_alike (λ b. So by o p i n s k b ⊎ (b ≡ a)) (So by o p i n s (k + 1)) r
    (λ b. ⊎_elim (⊎_elim (λ u. inl u) (λ u. inr (reached_earlier by o p i n k b u))) (λ u. inr (reached_now by o p i n k b has (u ∙ e))))
    (λ b. ⊎_elim (λ u. inl (inl u)) (λ u. ⊎_elim (λ v. inr (v.1 ∙ sym e)) (λ v. inl (inr v)) (reached_cases by o p i n k b u)))
    (set_more (So by o p i n s k) (λ b. b ≡ a) t r h g)

pub not_reached : (by : ℤ → Type 0) (o : Root) (p : List Part) (i n k : ℕ) (s t : Addrs) → (by (pos k -ℤ pos i) → ⊥)
    → IsSetOf (So by o p i n s k) t → IsSetOf (So by o p i n s (k + 1)) t
not_reached by o p i n k s t none h =
    set_alike (So by o p i n s k) (So by o p i n s (k + 1)) t
    (λ b. ⊎_elim (λ u. inl u) (λ u. inr (reached_earlier by o p i n k b u)))
    (λ b. ⊎_elim (λ u. inl u) (λ u. ⊎_elim (λ v. absurd (none v.0)) (λ v. inr v) (reached_cases by o p i n k b u)))
    h

pub all_reached : (by : ℤ → Type 0) (o : Root) (p : List Part) (i n k : ℕ) (s r : Addrs) → k ≡ n + 1
    → IsSetOf (So by o p i n s k) r → IsSetOf (λ b. HasAddress s b ⊎ IsMoved by (address.At o p i n) b) r
all_reached by o p i n k s r e h =
    set_alike (So by o p i n s (n + 1)) (λ b. HasAddress s b ⊎ IsMoved by (address.At o p i n) b) r
    (λ b. ⊎_elim (λ u. inl u) (λ u. inr (reached_moved by o p i n b u)))
    (λ b. ⊎_elim (λ u. inl u) (λ u. inr (moved_reached by o p i n b u)))
    (subst (λ z. IsSetOf (So by o p i n s z) r) e h)

pub has_there : (by : ℤ → Type 0) (v w : ℤ) → by v → v ≡ w → by w
has_there by v w h e = subst by e h

pub not_there : (by : ℤ → Type 0) (v w : ℤ) → (by v → ⊥) → v ≡ w → by w → ⊥
not_there by v w none e h = none (subst by (sym e) h)

-- in a set that is not exact one element stands for all
pub one_stands : (by : ℤ → Type 0) (o : Root) (p : List Part) (i n k : ℕ) (s r : Addrs) → k ≤ n → by (pos k -ℤ pos i) → r.is_exact ≡ false
    → IsSetOf (So by o p i n s (k + 1)) r → IsSetOf (λ b. HasAddress s b ⊎ IsMoved by (address.At o p i n) b) r
one_stands by o p i n k s r l has q h =
    set_closed (So by o p i n s (k + 1)) (λ b. HasAddress s b ⊎ IsMoved by (address.At o p i n) b) r h
    (λ b. ⊎_elim (λ u. inl u) (λ u. inr (reached_moved by o p i n b (further b u))))
    (λ b. ⊎_elim (λ u. (b, inl u, refl)) (λ u. stand b (moved_reached by o p i n b u)))
  where
    further : (b : Address) → Reached by o p i n (k + 1) b → Reached by o p i n (n + 1) b
    further b (j, m, t, e) = (j, omega (arith, l, m), t, e)

    level : (d : Bool) → d ≡ false → (j : ℕ) → member_for d (address.At o p k n) ≡ member_for d (address.At o p j n)
    level false t j = refl
    level true t j = cc

    stand : (b : Address) → Reached by o p i n (n + 1) b → Stands (So by o p i n s (k + 1)) r.is_exact b
    stand b (j, m, t, e) = (
      address.At o p k n,
      inr (reached_now by o p i n k (address.At o p k n) has refl),
      subst (λ z. member_for r.is_exact (address.At o p k n) ≡ member_for r.is_exact z) (sym e) (level r.is_exact q j),
    )

-- the objects of a set that is not exact

pub objects_are : (s : Addrs) (all places : List Address) → all ≡ s.members → places ≡ filter is_object all → places ≡ filter is_object s.members
objects_are s all places e f = f ∙ ap (filter is_object) e

empty_is : (ms : List Address) → length ms ≡ 0 → ms ≡ []
empty_is [] e = refl
empty_is (m ∷ ms) e = absurd (omega (arith, e))

pub no_places : (by : ℤ → Type 0) (s r : Addrs) (places : List Address) → s.is_exact ≡ false → r.is_exact ≡ true → r.members ≡ []
    → places ≡ filter is_object s.members → length places ≡ 0 → IsSetOf (HasMoved by s s.is_exact) r
no_places by s r places p q e f l = nothing_moved by s r p q e (sym f ∙ empty_is places l)

pub places_listed : (s : Addrs) (places result : List Address) → s.is_exact ≡ false → places ≡ filter is_object s.members → 0 < length places → result ≡ places
    → are_members false result ≡ true
places_listed s places result p f l e = by_cases places refl
  where
    listed : are_members false s.members ≡ true
    listed = subst (λ d. are_members d s.members ≡ true) p s.listed

    by_cases : (ms : List Address) → places ≡ ms → are_members false result ≡ true
    by_cases [] q = let none : length places ≡ 0 = ap length q in absurd (omega (arith, l, none))
    by_cases (m ∷ rest) q = subst (λ ms. are_members false ms ≡ true) (sym (e ∙ f)) (objects_listed m s.members rest listed (sym f ∙ q))

pub places_moved : (by : ℤ → Type 0) (s r : Addrs) (places : List Address) → s.is_exact ≡ false → r.is_exact ≡ false → places ≡ filter is_object s.members → 0 < length places
    → r.members ≡ places → IsSetOf (HasMoved by s s.is_exact) r
places_moved by s r places p q f l e = by_cases places refl
  where
    by_cases : (ms : List Address) → places ≡ ms → IsSetOf (HasMoved by s s.is_exact) r
    by_cases [] n = let none : length places ≡ 0 = ap length n in absurd (omega (arith, l, none))
    by_cases (m ∷ rest) n = objects_moved by s r m rest p q (e ∙ f) (sym f ∙ n)

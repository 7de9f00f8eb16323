-- The set of all addresses in the places of a set's own: its members, starred, where one is an object of an exact set; else the set itself.
use Rattle.std.specs.Prelude.{ℕ, ◌≡◌, ◌&&◌, Bool, true, false, nat_lt, List, length, refl}
use Rattle.std.specs.List.{Contains, list_all, list_any}
use Rattle.std.proofs.Common.{sym, ap, ◌∙◌, subst}
use Rattle.cc_program.specs.declared.value.Root.{Root}
use Rattle.cc_program.specs.declared.value.Part.{Part}
use Rattle.cc_program.specs.declared.value.Address.{Address}
use Rattle.cc_program.specs.declared.value.Address.TheVariants as address
use Rattle.cc_places.specs.declared.addrs.Addrs.{Addrs}
use Rattle.cc_places.specs.Kept.{kept, starred, member_for, is_starred, is_object}
use Rattle.cc_places.specs.Order.{ascends}
use Rattle.cc_places.specs.Members.{most_exact, are_many, are_members}
use Rattle.cc_places.specs.Sets.{HasAddress, AreFew, IsSetOf, AreStarred, InPlaceOf}
use Rattle.cc_places.specs.laws.ListLaws.{and_true, or_left, all_from, any_at, any_from, none_at}
use Rattle.cc_places.specs.laws.KeptLaws.{starred_is, starred_of_kept, object_starred, other_starred, at_object}
use Rattle.cc_places.specs.laws.SetLaws.{Stands, has_member, many_elements, set_closed, set_of_itself}

-- some members, starred

pub places_are : (ms places : List Address) → list_any is_object ms ≡ true → ascends places ≡ true → AreStarred ms places → are_members false places ≡ true
places_are ms places some up all =
    and_true (ascends places) (list_all is_starred places && are_many places) up (and_true (list_all is_starred places) (are_many places) each many)
  where
    star : (b : Address) → ((m : Address) × Contains ms m × (starred m ≡ b)) → is_starred b ≡ true
    star b (m, c, h) = subst (λ z. is_starred z ≡ true) h (starred_is m)

    each : list_all is_starred places ≡ true
    each = all_from is_starred places (λ b c. star b ((all b).0 c))

    by_one : ((m : Address) × Contains ms m × (is_object m ≡ true)) → list_any is_object places ≡ true
    by_one (m, c, h) = any_from is_object places (starred m) ((all (starred m)).1 (m, c, refl)) (object_starred m ∙ h)

    many : are_many places ≡ true
    many = or_left (list_any is_object places) (nat_lt most_exact (length places)) (by_one (any_at is_object ms some))

pub of_places : (s r : Addrs) (places : List Address) → s.is_exact ≡ true → list_any is_object s.members ≡ true → AreStarred s.members places
    → r.is_exact ≡ false → r.members ≡ places → IsSetOf (InPlaceOf s) r
of_places s r places p some all q e = record {
  has = λ a. ((λ h. found a ((all (starred a)).0 (there a h))), (λ k. back a (placed a k)));
  exact = λ d few. by_one (any_at is_object s.members some) few;
}
  where
    there : (a : Address) → HasAddress r a → Contains places (starred a)
    there a h = subst (λ l. Contains l (starred a)) e (subst (λ d. Contains r.members (member_for d a)) q h)

    back : (a : Address) → Contains places (starred a) → HasAddress r a
    back a h = subst (λ d. Contains r.members (member_for d a)) (sym q) (subst (λ l. Contains l (starred a)) (sym e) h)

    found : (a : Address) → ((m : Address) × Contains s.members m × (starred m ≡ starred a)) → Stands (InPlaceOf s) r.is_exact a
    found a (m, c, h) = (a, (m, has_member s m c, h), refl)

    level : (d : Bool) → d ≡ false → (b a : Address) → member_for d b ≡ member_for d a → starred b ≡ starred a
    level false t b a h = h
    level true t b a h = cc

    exactly : (b : Address) → HasAddress s b → Contains s.members (kept b)
    exactly b h = subst (λ d. Contains s.members (member_for d b)) p h

    placed : (a : Address) → Stands (InPlaceOf s) r.is_exact a → Contains places (starred a)
    placed a (b, (c, h, k), l) = (all (starred a)).1 (kept c, exactly c h, starred_of_kept c ∙ (k ∙ level r.is_exact q b a l))

    by_object : (m : Address) → Contains s.members m → (o : Root) (path : List Part) (i n : ℕ) → m ≡ address.At o path i n → AreFew (InPlaceOf s) → ⊥
    by_object m c o path i n t few = many_elements (InPlaceOf s) o path n (λ k. (m, has_member s m c, ap starred t)) few

    by_one : ((m : Address) × Contains s.members m × (is_object m ≡ true)) → AreFew (InPlaceOf s) → ⊥
    by_one (m, c, h) few = let t = at_object m h in by_object m c t.0 t.1 t.2 t.3 t.4 few

-- the set itself

pub of_itself : (s : Addrs) → ((b : Address) → InPlaceOf s b → Stands (HasAddress s) s.is_exact b) → IsSetOf (InPlaceOf s) s
of_itself s each = set_closed (HasAddress s) (InPlaceOf s) s (set_of_itself s) (λ b h. (b, h, refl)) each

pub starred_itself : (s : Addrs) → s.is_exact ≡ false → IsSetOf (InPlaceOf s) s
starred_itself s p = of_itself s each
  where
    each : (b : Address) → InPlaceOf s b → Stands (HasAddress s) s.is_exact b
    each b (a, h, k) = (a, h, subst (λ d. member_for d a ≡ member_for d b) (sym p) k)

pub without_objects : (s : Addrs) → s.is_exact ≡ true → list_any is_object s.members ≡ false → IsSetOf (InPlaceOf s) s
without_objects s p none = of_itself s each
  where
    other : (a : Address) → HasAddress s a → is_object a ≡ false
    other a h = sym (object_starred a) ∙ (ap is_object (sym (starred_of_kept a)) ∙ (object_starred (kept a) ∙ none_at is_object s.members (kept a) none (subst (λ d. Contains s.members (member_for d a)) p h)))

    same : (a b : Address) → is_object a ≡ false → starred a ≡ starred b → a ≡ b
    same a b h k = sym (other_starred a h) ∙ (k ∙ other_starred b (sym (object_starred b) ∙ (ap is_object (sym k) ∙ (object_starred a ∙ h))))

    each : (b : Address) → InPlaceOf s b → Stands (HasAddress s) s.is_exact b
    each b (a, h, k) = (a, h, ap (member_for s.is_exact) (same a b (other a h) k))

-- Sets of addresses: of one, of none, and of what a step gives from each of some addresses.
use Rattle.std.proofs.Common.{◌≡◌, ◌⊎◌, ℕ, ◌+◌, ◌<◌, ℤ, pos, ◌+ℤ◌, Bool, true, false, List, [], ◌∷◌, length, take, get_or, Option, Some, None, inl, inr, ⊎_elim, refl, ap, sym, ◌∙◌, subst, arith, Result, Ok, Err, IfOk}
use Rattle.std.specs.Prelude.{option_and_then}
use Rattle.std.specs.List.{Contains}
use Rattle.std.proofs.lemmas.Int.{ints}
use Rattle.std.proofs.lemmas.Option.{same_Some}
use Rattle.cc_eval.specs.Context.{named_by}
use Rattle.cc_places.specs.Kept.{kept, starred, member_for}
use Rattle.cc_places.specs.Moves.{IsMoved}
use Rattle.cc_places.specs.Sets.{HasAddress, IsSetOf, OneMore, InPlaceOf}
use Rattle.cc_places.specs.declared.addrs.Addrs.{Addrs}
use Rattle.cc_places.specs.laws.KeptLaws.{starred_of_kept}
use Rattle.cc_places.specs.laws.ListLaws.{cons_cases, at_head, none_in, same_in, taken_cases, taken_before, taken_now}
use Rattle.cc_places.specs.laws.SetLaws.{Stands, set_alike, set_more, set_closed, set_of_itself}
use Rattle.cc_program.specs.declared.program.Program.{Program}
use Rattle.cc_program.specs.declared.value.Address.{Address}
use Rattle.cc_program.specs.declared.value.Address.TheVariants as address
use Rattle.cc_program.specs.declared.value.Part.{Part}
use Rattle.cc_program.specs.declared.value.Root.{Root}
use Rattle.cc_eval.specs.CcSyntax.Initial.{bound_of}
use Rattle.cc_eval.specs.CcSyntax.Values.{PlaceType}
use Rattle.cc_eval.specs.CcValues.Values.{element_at}
use Rattle.cc_state_operators.specs.Addresses.{IsOnly, element_in, element_address, IsElement, FromEach, HasStepped}

pub both_ok : {A E : Type 0} (r : Result A E) (P Q S : A → Type 0) → ((a : A) → P a → Q a → S a) → IfOk r P → IfOk r Q → IfOk r S
both_ok (Ok a) P Q S f p q = f a p q
both_ok (Err e) P Q S f p q = tt

inexact : {A : Type 0} (s : Addrs) → s.is_exact ≡ true → s.is_exact ≡ false → A
inexact s h k = let e : true ≡ false = sym h ∙ k in absurd (cc)

pub only_is : (a : Address) (r : Addrs) → r.is_exact ≡ true → r.members ≡ kept a ∷ [] → IsOnly a r
only_is a r p e = record { has = λ b. ((λ h. found b (there b h)), (λ k. back b k)); exact = λ q few. inexact r p q }
  where
    there : (b : Address) → HasAddress r b → Contains (kept a ∷ []) (kept b)
    there b h = subst (λ l. Contains l (kept b)) e (subst (λ d. Contains r.members (member_for d b)) p h)

    found : (b : Address) → Contains (kept a ∷ []) (kept b) → Stands (λ c. c ≡ a) r.is_exact b
    found b h = ⊎_elim (λ (q : kept a ≡ kept b). (a, refl, subst (λ d. member_for d a ≡ member_for d b) (sym p) q)) (λ q. absurd (none_in (kept b) q)) (cons_cases (kept a) [] (kept b) h)

    back : (b : Address) → Stands (λ c. c ≡ a) r.is_exact b → HasAddress r b
    back b (c, q, m) =
        let same : kept a ≡ kept b = ap kept (sym q) ∙ subst (λ d. member_for d c ≡ member_for d b) p m in
        subst (λ d. Contains r.members (member_for d b)) (sym p) (subst (λ l. Contains l (kept b)) (sym e) (same_in (kept a ∷ []) (kept a) (kept b) same (at_head (kept a) [])))

pub nothing_is : (W : Address → Type 0) (r : Addrs) → ((b : Address) → W b → ⊥) → r.is_exact ≡ true → r.members ≡ [] → IsSetOf W r
nothing_is W r none p e = record { has = λ b. ((λ h. absurd (none_in (member_for r.is_exact b) (subst (λ l. Contains l (member_for r.is_exact b)) e h))), (λ k. absurd (stood b k))); exact = λ q few. inexact r p q }
  where
    stood : (b : Address) → Stands W r.is_exact b → ⊥
    stood b (c, w, m) = none c w

pub no_more : (V : Address → Type 0) (s : Addrs) → ((a : Address) → V a → ⊥) → IsSetOf (λ a. HasAddress s a ⊎ V a) s
no_more V s none = set_closed (HasAddress s) (λ a. HasAddress s a ⊎ V a) s (set_of_itself s) (λ a h. inl h) (λ a. ⊎_elim (λ h. (a, h, refl)) (λ v. absurd (none a v)))

-- from each address

module _ (step : Address → Address → Type 0) where
  pub from_none : (r : Addrs) → r.is_exact ≡ true → r.members ≡ [] → IsSetOf (FromEach step []) r
  from_none r p e = nothing_is (FromEach step []) r nothing p e
    where
      nothing : (b : Address) → FromEach step [] b → ⊥
      nothing b (a, c, t) = none_in a c

  pub from_more : (s r : Addrs) (ms : List Address) (i : ℕ) (m : Address) → i < length ms → m ≡ get_or ms i m → IsSetOf (FromEach step (take i ms)) s → IsSetOf (λ b. HasAddress s b ⊎ step m b) r →
      IsSetOf (FromEach step (take (i + 1) ms)) r
  from_more s r ms i m l e h k =
      set_alike (λ b. FromEach step (take i ms) b ⊎ step m b) (FromEach step (take (i + 1) ms)) r
      (λ b. ⊎_elim (before b) (λ t. (m, taken_now ms i m l e, t)))
      (λ b t. split b t)
      (set_more (FromEach step (take i ms)) (step m) s r h k)
    where
      before : (b : Address) → FromEach step (take i ms) b → FromEach step (take (i + 1) ms) b
      before b (a, c, t) = (a, taken_before ms i m a l e c, t)

      split : (b : Address) → FromEach step (take (i + 1) ms) b → FromEach step (take i ms) b ⊎ step m b
      split b (a, c, t) = ⊎_elim (λ u. inl (a, u, t)) (λ u. inr (subst (λ z. step z b) (sym u) t)) (taken_cases ms i m a l e c)

  pub from_all : (ms : List Address) (i : ℕ) (r : Addrs) → take i ms ≡ ms → IsSetOf (FromEach step (take i ms)) r → IsSetOf (FromEach step ms) r
  from_all ms i r e h = subst (λ l. IsSetOf (FromEach step l) r) e h

  pub stepped_exactly : (s r : Addrs) (ms : List Address) → s.is_exact ≡ true → ms ≡ s.members → IsSetOf (FromEach step ms) r → IsSetOf (HasStepped step s s.is_exact) r
  stepped_exactly s r ms p e h = subst (λ d. IsSetOf (HasStepped step s d) r) (sym p) (subst (λ l. IsSetOf (FromEach step l) r) e h)

  alike_starred : (d : Bool) (a b : Address) → member_for d a ≡ member_for d b → starred a ≡ starred b
  alike_starred true a b h = sym (starred_of_kept a) ∙ (ap starred h ∙ starred_of_kept b)
  alike_starred false a b h = h

  pub stepped_in_places : (s e r : Addrs) (ms : List Address) → s.is_exact ≡ false → ms ≡ s.members → IsSetOf (FromEach step ms) e → IsSetOf (InPlaceOf e) r → IsSetOf (HasStepped step s s.is_exact) r
  stepped_in_places s e r ms p q h k = subst (λ d. IsSetOf (HasStepped step s d) r) (sym p) (set_alike (InPlaceOf e) (HasStepped step s false) r to back k)
    where
      stepped : (b c : Address) → HasAddress e c → starred c ≡ starred b → Stands (FromEach step ms) e.is_exact c → HasStepped step s false b
      stepped b c t m (g, (a, u, v), l) = (a, g, subst (λ z. Contains z a) q u, v, sym m ∙ sym (alike_starred e.is_exact g c l))

      to : (b : Address) → InPlaceOf e b → HasStepped step s false b
      to b (c, t, m) = stepped b c t m ((h.has c).0 t)

      back : (b : Address) → HasStepped step s false b → InPlaceOf e b
      back b (a, c, u, v, m) = (c, (h.has c).1 (c, (a, subst (λ z. Contains z a) (sym q) u, v), refl), sym m)

-- a member of one structure

pub with_one : (s r : Addrs) (x : Option Address) (b : Address) → x ≡ Some b → IsSetOf (OneMore s b) r → IsSetOf (λ c. HasAddress s c ⊎ (x ≡ Some c)) r
with_one s r x b e h =
    set_alike (OneMore s b) (λ c. HasAddress s c ⊎ (x ≡ Some c)) r
    (λ c. ⊎_elim (λ t. inl t) (λ t. inr (e ∙ ap Some (sym t))))
    (λ c. ⊎_elim (λ t. inl t) (λ t. inr (sym (same_Some b c (sym e ∙ t)))))
    h

pub with_none : (s : Addrs) (x : Option Address) → x ≡ None → IsSetOf (λ c. HasAddress s c ⊎ (x ≡ Some c)) s
with_none s x e = no_more (λ c. x ≡ Some c) s (λ c t. absent c (sym e ∙ t))
  where
    absent : (c : Address) → None ≡ Some c → ⊥
    absent c h = cc

-- elements of one array

module _ (p : Program) (t : PlaceType) (has : ℤ → Type 0) (a : Address) where
  zero_add : (i : ℤ) → pos 0 +ℤ i ≡ i
  zero_add i = omega (arith, ints)

  pub elements_moved : (s r : Addrs) (o : Root) (path : List Part) (n : ℕ) → named_by p t a ≡ Some (o, path) → bound_of t ≡ Some n →
      IsSetOf (λ b. HasAddress s b ⊎ IsMoved has (address.At o path 0 n) b) r → IsSetOf (λ b. HasAddress s b ⊎ IsElement p t has a b) r
  elements_moved s r o path n h k m =
      set_alike (λ b. HasAddress s b ⊎ IsMoved has (address.At o path 0 n) b) (λ b. HasAddress s b ⊎ IsElement p t has a b) r
      (λ b. ⊎_elim (λ u. inl u) (λ u. inr (to b u))) (λ b. ⊎_elim (λ u. inl u) (λ u. inr (back b u))) m
    where
      given : (i : ℤ) → element_address p t i a ≡ element_at o path i n
      given i = ap (option_and_then (element_in (bound_of t) i)) h ∙ ap (λ z. element_in z i (o, path)) k

      to : (b : Address) → IsMoved has (address.At o path 0 n) b → IsElement p t has a b
      to b (i, u, v) = (i, u, given i ∙ (ap (λ z. element_at o path z n) (sym (zero_add i)) ∙ v))

      back : (b : Address) → IsElement p t has a b → IsMoved has (address.At o path 0 n) b
      back b (i, u, v) = (i, u, ap (λ z. element_at o path z n) (zero_add i) ∙ (sym (given i) ∙ v))

  absent : {A : Type 0} (b : Address) → None ≡ Some b → A
  absent b h = absurd (cc)

  pub no_array : (s : Addrs) → bound_of t ≡ None → IsSetOf (λ b. HasAddress s b ⊎ IsElement p t has a b) s
  no_array s k = no_more (IsElement p t has a) s nothing
    where
      without : (i : ℤ) (x : Option (Root × List Part)) → option_and_then (element_in None i) x ≡ None
      without i None = refl
      without i (Some o) = refl

      nothing : (b : Address) → IsElement p t has a b → ⊥
      nothing b (i, u, v) = absent b (sym (ap (λ z. option_and_then (element_in z i) (named_by p t a)) k ∙ without i (named_by p t a)) ∙ v)

  pub no_object : (s : Addrs) → named_by p t a ≡ None → IsSetOf (λ b. HasAddress s b ⊎ IsElement p t has a b) s
  no_object s h = no_more (IsElement p t has a) s nothing
    where
      nothing : (b : Address) → IsElement p t has a b → ⊥
      nothing b (i, u, v) = absent b (sym (ap (option_and_then (element_in (bound_of t) i)) h) ∙ v)

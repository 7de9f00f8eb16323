-- A place has one list of classes: that of its own key, where it has one by its form.
use Rattle.std.proofs.Common.{◌≡◌, ℕ, Bool, true, false, ◌||◌, List, [], ◌∷◌, Option, Some, None, refl, ap, sym, subst, ◌∙◌, inl, inr}
use Rattle.std.specs.Prelude.{◌⊎◌, ◌↔◌, option_map, option_and_then}
use Rattle.std.specs.List.{Contains, filter, flat_map}
use Rattle.std.proofs.lemmas.Option.{same_Some}
use Rattle.cc_rules_flows.specs.CcPlaces.declared.abs.Abs.{Abs}
use Rattle.cc_rules_flows.specs.CcPlaces.declared.abs.Abs.TheVariants as abs
use Rattle.cc_rules_flows.specs.CcPlaces.declared.addrs.Addrs.{Addrs}
use Rattle.cc_program.specs.declared.expr.Expr.{Expr}
use Rattle.cc_program.specs.declared.expr.Expr.TheOpen as one
use Rattle.cc_program.specs.declared.expr.Place.{Place, out-Place, map-Place, fold_out-Place}
use Rattle.cc_program.specs.declared.func.Func.{Func}
use Rattle.cc_program.specs.declared.program.Program.{Program}
use Rattle.cc_slots_accesses.proofs.Listed.{is_one, only_one, passes, same_key}
use Rattle.cc_slots_accesses.proofs.Owns.{own_type}
use Rattle.cc_slots_accesses.specs.Accesses.{NamesByForm}
use Rattle.cc_rules_flows.specs.CcStateFacts.declared.facts.Key.{Key}
use Rattle.cc_rules_flows.specs.CcStateFacts.declared.facts.Key.TheVariants as key
use Rattle.cc_state_keys.specs.Addressed.{InExpr, InPlace, expr_in, place_in, in_expr, in_place, own_step}
use Rattle.cc_state_keys.specs.Keys.{is_key, keys_of, structure_of}
use Rattle.cc_state_keys.specs.Lists.{only}
use Rattle.cc_rules_flows.specs.CcStateOperators.Domains.{Domain}
use Rattle.cc_rules_flows.specs.CcStateReads.Named.{AreClasses, OfLocal, OfStatic, OfDevice, OfElement, OfMember, OfTarget, is_among, member_class, target_class}
use Rattle.cc_rules_flows.specs.CcStateReads.Reads.{AreNamed}
use Rattle.cc_rules_flows.specs.CcStateValues.Values.{IsVal}
use Rattle.cc_rules_flows.specs.CcSyntax.Programs.{place_type}

module _ (p : Program) (id : ℕ) (f : Func) where
  abbrev Own : Place → Option Key
  Own a = (in_place p id f a).own

  own-at : (a : Place) (x : one.Place-F Expr Place) → out-Place a ≡ x → Own a ≡ own_step p id f (map-Place Expr Place InExpr InPlace (in_expr p id f) (in_place p id f) x)
  unfolding in_expr in_place
  own-at a x h = ap (λ (w : InPlace). w.own) (fold_out-Place InExpr InPlace (expr_in p id f) (place_in p id f) a) ∙ ap (λ y. own_step p id f (map-Place Expr Place InExpr InPlace (in_expr p id f) (in_place p id f) y)) h

module _ {I : Type 0} (d : Domain I) (p : Program) (id : ℕ) (f : Func) (register : ℕ → Option (Abs I)) where
  abbrev Classes : Place → List Key → Type 0
  Classes a ys = AreClasses d p id f register a ys

  abbrev ClassesAs : one.Place-F Expr Place → List Key → Type 0
  ClassesAs (one.Local r) ys = ys ≡ key.Local id r ∷ []
  ClassesAs (one.Static i) ys = ys ≡ key.Object i ∷ []
  ClassesAs (one.Device n) ys = ys ≡ []
  ClassesAs (one.Element b i) ys = Classes b ys
  ClassesAs (one.Member b m) ys = ys ≡ member_class (place_type p f.locals b) m
  ClassesAs (one.Deref e) ys = (s : Addrs) × IsVal d p id f register e (abs.Addrs s) × (ys ≡ flat_map (target_class p) s.members)

  by-form : (a : Place) (ys : List Key) → Classes a ys → ClassesAs (out-Place a) ys
  by-form a ys (OfLocal r h e) = subst (λ x. ClassesAs x ys) (sym h) e
  by-form a ys (OfStatic i h e) = subst (λ x. ClassesAs x ys) (sym h) e
  by-form a ys (OfDevice n h e) = subst (λ x. ClassesAs x ys) (sym h) e
  by-form a ys (OfElement b i h k) = subst (λ x. ClassesAs x ys) (sym h) k
  by-form a ys (OfMember b m h e) = subst (λ x. ClassesAs x ys) (sym h) e
  by-form a ys (OfTarget e s h v k) = subst (λ x. ClassesAs x ys) (sym h) (s, v, k)

  at-form : (a : Place) (ys : List Key) (x : one.Place-F Expr Place) → out-Place a ≡ x → Classes a ys → ClassesAs x ys
  at-form a ys x h k = subst (λ y. ClassesAs y ys) h (by-form a ys k)

  module _ (one_value : (e : Expr) (x y : Abs I) → IsVal d p id f register e x → IsVal d p id f register e y → x ≡ y) where
    addresses : (s t : Addrs) → ◌≡◌ {A = Abs I} (abs.Addrs s) (abs.Addrs t) → s ≡ t
    addresses s t h = cc

    pub one_list : (a : Place) (xs ys : List Key) → Classes a xs → Classes a ys → xs ≡ ys
    one_list a xs ys (OfLocal r h e) k = e ∙ sym (at-form a ys (one.Local r) h k)
    one_list a xs ys (OfStatic i h e) k = e ∙ sym (at-form a ys (one.Static i) h k)
    one_list a xs ys (OfDevice n h e) k = e ∙ sym (at-form a ys (one.Device n) h k)
    one_list a xs ys (OfElement b i h e) k = one_list b xs ys e (at-form a ys (one.Element b i) h k)
    one_list a xs ys (OfMember b m h e) k = e ∙ sym (at-form a ys (one.Member b m) h k)
    one_list a xs ys (OfTarget e s h v l) k =
        let w = at-form a ys (one.Deref e) h k in
        l ∙ (ap (λ (z : Addrs). flat_map (target_class p) z.members) (addresses s w.0 (one_value e (abs.Addrs s) (abs.Addrs w.0) v w.1)) ∙ sym w.2)

    pub one_named : (a : Place) (xs ys : List Key) → AreNamed d p id f register a xs → AreNamed d p id f register a ys → xs ≡ ys
    one_named a xs ys (classes, h, e) (others, k, l) = e ∙ (ap (λ z. filter (is_among z) (keys_of p)) (one_list a classes others h k) ∙ sym l)

  pub own_classes : (a : Place) (ys : List Key) (k : Key) → Own p id f a ≡ Some k → Classes a ys → ys ≡ k ∷ []
  own_classes a ys k own (OfLocal r h e) = e ∙ ap (λ l. l ∷ []) (same_Some (key.Local id r) k (sym (own-at p id f a (one.Local r) h) ∙ own))
  own_classes a ys k own (OfStatic i h e) = e ∙ ap (λ l. l ∷ []) (same_Some (key.Object i) k (sym (own-at p id f a (one.Static i) h) ∙ own))
  own_classes a ys k own (OfDevice n h e) = let none : None ≡ Some k = sym (own-at p id f a (one.Device n) h) ∙ own in absurd (cc)
  own_classes a ys k own (OfElement b i h e) = own_classes b ys k (sym (own-at p id f a (one.Element b i) h) ∙ own) e
  own_classes a ys k own (OfMember b m h e) =
      e ∙ ap only (ap (λ t. option_map (λ s. key.Member s m) (option_and_then structure_of t)) (sym (own_type p id f b)) ∙ (sym (own-at p id f a (one.Member b m) h) ∙ own))
  own_classes a ys k own (OfTarget e s h v l) = let none : None ≡ Some k = sym (own-at p id f a (one.Deref e) h) ∙ own in absurd (cc)

  or_false : (b : Bool) → (b || false) ≡ true → b ≡ true
  or_false true h = refl
  or_false false h = h

  pub own_named : (a : Place) (named : List Key) (own k : Key) → Own p id f a ≡ Some own → AreNamed d p id f register a named → Contains named k → own ≡ k
  own_named a named own k h (classes, c, e) m =
      let among : is_among (own ∷ []) k ≡ true = subst (λ (z : List Key). is_among z k ≡ true) (own_classes a classes own h c) (passes (is_among classes) (keys_of p) k (subst (λ (z : List Key). Contains z k) e m)) in
      same_key own k (or_false (is_key own k) among)

  -- ---- the keys of an access

  abbrev There : Place → Key → Type 0
  There a k = (named : List Key) × AreNamed d p id f register a named × Contains named k

  abbrev Names : Bool → Place → Key → Type 0
  Names reached a k = NamesByForm p id f a k ⊎ ((reached ≡ true) × There a k)

  of-own : (a : Place) (own : Key) (reached : Bool) (k : Key) → Own p id f a ≡ Some own → Names reached a k → own ≡ k
  of-own a own reached k h (inl e) = same_Some own k (sym h ∙ e)
  of-own a own reached k h (inr (r, (named, n, m))) = own_named a named own k h n m

  pub own_keys : (found : List Key) (a : Place) (own : Key) (reached : Bool) → found ≡ own ∷ [] → Own p id f a ≡ Some own → (k : Key) → Contains found k ↔ Names reached a k
  own_keys found a own reached e h k = (
    (λ m. inl (h ∙ ap Some (only_one own k (subst (λ (z : List Key). Contains z k) e m)))),
    (λ n. subst (λ (z : List Key). Contains z k) (sym e) (is_one own k (of-own a own reached k h n))),
  )

  module _ (one_value : (e : Expr) (x y : Abs I) → IsVal d p id f register e x → IsVal d p id f register e y → x ≡ y) where
    of-named : (a : Place) (named : List Key) (reached : Bool) (k : Key) → Own p id f a ≡ None → AreNamed d p id f register a named → Names reached a k → Contains named k
    of-named a named reached k h n (inl e) = let none : None ≡ Some k = sym h ∙ e in absurd (cc)
    of-named a named reached k h n (inr (r, (others, o, m))) = subst (λ (z : List Key). Contains z k) (one_named one_value a others named o n) m

    pub pointed_keys : (found : List Key) (a : Place) (named : List Key) (reached : Bool) → found ≡ named → Own p id f a ≡ None → reached ≡ true → AreNamed d p id f register a named → (k : Key) → Contains found k ↔ Names reached a k
    pointed_keys found a named reached e h r n k = (
      (λ m. inr (r, (named, n, subst (λ (z : List Key). Contains z k) e m))),
      (λ w. subst (λ (z : List Key). Contains z k) (sym e) (of-named a named reached k h n w)),
    )

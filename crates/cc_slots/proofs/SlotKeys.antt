-- The keys of the slots are keys of the program, each that of a slot.
use Rattle.std.proofs.Common.{arith, ◌≡◌, ◌+◌, ℕ, zero, suc, Bool, true, false, true≢false, ◌||◌, List, [], ◌∷◌, ◌++◌, Some, slice_get, refl, ap, sym, subst, ◌∙◌, inl, inr}
use Rattle.std.specs.Prelude.{◌⊎◌, is_some}
use Rattle.std.specs.List.{Contains}
use Rattle.std.proofs.lemmas.List.Elements.{Contains-append_cases, Contains-append_left, Contains-append_right}
use Rattle.std.proofs.lemmas.Option.{none-some, same_Some}
use Rattle.cc_program.specs.declared.program.Program.{Program}
use Rattle.cc_program.specs.declared.types.CType.{CType, fold_out-CType}
use Rattle.cc_program.specs.declared.types.Shape.{Shape, fold-Shape, fold_out-Shape, out-Shape, map-Shape}
use Rattle.cc_program.specs.declared.types.Shape.TheOpen as shape
use Rattle.cc_program.specs.declared.types.Sig.{Sig, fold-Sig}
use Rattle.cc_program.specs.declared.types.Structure.{Structure}
use Rattle.cc_slots.specs.Keys.{is_member_slot, is_object_slot, member_slots, slot_keys}
use Rattle.cc_state_points.proofs.CcState.Lists.{at_contained, contains_at, made_there, no_member}
use Rattle.cc_state_points.proofs.CcState.Numbered.{key_numbered}
use Rattle.cc_state_points.specs.CcState.Shape.{IsSlot, declared_type, is_row_shape, is_scalar_type, is_slot_type, member_ctype, object_ctype}
use Rattle.cc_state_points.specs.CcStateFacts.declared.facts.Key.{Key}
use Rattle.cc_state_points.specs.CcStateFacts.declared.facts.Key.TheVariants as key
use Rattle.cc_state_points.specs.CcStateKeys.Keys.{are_scalars, has_member_key, has_object_key, key_number, keys_of, local_keys, member_keys, scalars_step}
use Rattle.cc_state_points.specs.CcStateKeys.Lists.{all_from, made_from, only_if}
use Rattle.cc_state_points.specs.CcSyntax.Values.{scalar_shape}

-- ---- the types of slots are scalars, and arrays of them

abbrev parts_scalars : shape.Shape-F Shape CType Sig → Bool
parts_scalars x = scalars_step (map-Shape Shape CType Sig Bool Bool (Unit {0})
    (fold-Shape Bool Bool (Unit {0}) scalars_step (λ t. t.shape) (λ s. tt))
    are_scalars
    (fold-Sig Bool Bool (Unit {0}) scalars_step (λ t. t.shape) (λ s. tt)) x)

scalars_open : (t : CType) → are_scalars t ≡ parts_scalars (out-Shape t.shape)
unfolding are_scalars
scalars_open t = fold_out-CType Bool Bool (Unit {0}) scalars_step (λ t. t.shape) (λ s. tt) t ∙ fold_out-Shape Bool Bool (Unit {0}) scalars_step (λ t. t.shape) (λ s. tt) t.shape

of_scalar : (x : shape.Shape-F Shape CType Sig) → is_some (scalar_shape x) ≡ true → parts_scalars x ≡ true
of_scalar (shape.Int t) h = refl
of_scalar (shape.Pointer to) h = refl
of_scalar shape.Void h = absurd (true≢false (sym h))
of_scalar (shape.Array of n) h = absurd (true≢false (sym h))
of_scalar (shape.Struct s) h = absurd (true≢false (sym h))
of_scalar (shape.Func sig) h = absurd (true≢false (sym h))

pub scalar_scalars : (t : CType) → is_scalar_type t ≡ true → are_scalars t ≡ true
scalar_scalars t h = scalars_open t ∙ of_scalar (out-Shape t.shape) h

of_row : (x : shape.Shape-F Shape CType Sig) → is_row_shape x ≡ true → parts_scalars x ≡ true
of_row (shape.Array of n) h = scalar_scalars of h
of_row (shape.Int t) h = absurd (true≢false (sym h))
of_row (shape.Pointer to) h = absurd (true≢false (sym h))
of_row shape.Void h = absurd (true≢false (sym h))
of_row (shape.Struct s) h = absurd (true≢false (sym h))
of_row (shape.Func sig) h = absurd (true≢false (sym h))

either : (a b : Bool) → (a || b) ≡ true → (a ≡ true) ⊎ (b ≡ true)
either true b h = inl refl
either false b h = inr h

pub object_scalars : (i : ℕ) (t : CType) → is_slot_type (key.Object i) t ≡ true → are_scalars t ≡ true
object_scalars i t h = elim (either (is_scalar_type t) (is_row_shape (out-Shape t.shape)) h) [
  | inl e ↦ scalar_scalars t e
  | inr e ↦ scalars_open t ∙ of_row (out-Shape t.shape) e
]

-- ---- what is made of things by their numbers

pub record IsMade {A B : Type 0} (passes : ℕ → A → Bool) (make : ℕ → B) (n : ℕ) (xs : List A) (b : B) : Type 0 where
  pub place : ℕ
  pub thing : A
  pub number : ℕ
  pub there : slice_get xs place ≡ Some thing
  pub counts : number ≡ n + place
  pub passes_it : passes number thing ≡ true
  pub is : make number ≡ b

module _ {A B : Type 0} (passes : ℕ → A → Bool) (make : ℕ → B) where
  later : (n : ℕ) (x : A) (xs : List A) (b : B) → IsMade passes make (n + 1) xs b → IsMade passes make n (x ∷ xs) b
  later n x xs b h = record { place = suc h.place; thing = h.thing; number = h.number; there = h.there; counts = (let c = h.counts in omega (arith, c)); passes_it = h.passes_it; is = h.is }

  by_first : (n : ℕ) (x : A) (xs : List A) (b : B) (c : Bool) → passes n x ≡ c → (Contains (made_from passes make (n + 1) xs) b → IsMade passes make (n + 1) xs b) → (k : ℕ) →
      slice_get (only_if c (make n) ++ made_from passes make (n + 1) xs) k ≡ Some b → IsMade passes make n (x ∷ xs) b
  by_first n x xs b true t rest zero e = record { place = 0; thing = x; number = n; there = refl; counts = omega arith; passes_it = t; is = same_Some (make n) b e }
  by_first n x xs b true t rest (suc k) e = later n x xs b (rest (contains_at (made_from passes make (n + 1) xs) k b e))
  by_first n x xs b false t rest k e = later n x xs b (rest (contains_at (made_from passes make (n + 1) xs) k b e))

  pub from_made : (n : ℕ) (xs : List A) (b : B) → Contains (made_from passes make n xs) b → IsMade passes make n xs b
  from_made n [] b c = no_member b c
  from_made n (x ∷ xs) b c =
      let at = at_contained (made_from passes make n (x ∷ xs)) b c in
      by_first n x xs b (passes n x) refl (λ m. from_made (n + 1) xs b m) at.0 at.1

pub record IsListed {A B : Type 0} (lists : ℕ → A → List B) (n : ℕ) (xs : List A) (b : B) : Type 0 where
  pub place : ℕ
  pub thing : A
  pub number : ℕ
  pub there : slice_get xs place ≡ Some thing
  pub counts : number ≡ n + place
  pub inside : Contains (lists number thing) b

module _ {A B : Type 0} (lists : ℕ → A → List B) where
  further : (n : ℕ) (x : A) (xs : List A) (b : B) → IsListed lists (n + 1) xs b → IsListed lists n (x ∷ xs) b
  further n x xs b h = record { place = suc h.place; thing = h.thing; number = h.number; there = h.there; counts = (let c = h.counts in omega (arith, c)); inside = h.inside }

  pub from_all : (n : ℕ) (xs : List A) (b : B) → Contains (all_from lists n xs) b → IsListed lists n xs b
  from_all n [] b c = no_member b c
  from_all n (x ∷ xs) b c = elim (Contains-append_cases (lists n x) (all_from lists (n + 1) xs) b c) [
    | inl m ↦ (record { place = 0; thing = x; number = n; there = refl; counts = omega arith; inside = m })
    | inr m ↦ further n x xs b (from_all (n + 1) xs b m)
  ]

  pub all_there : (n : ℕ) (xs : List A) (i : ℕ) (x : A) (j : ℕ) (b : B) → slice_get xs i ≡ Some x → j ≡ n + i → Contains (lists j x) b → Contains (all_from lists n xs) b
  all_there n [] i x j b e q c = absurd (none-some x e)
  all_there n (y ∷ ys) zero x j b e q c =
      let here : j ≡ n = omega (arith, q) in
      Contains-append_left (lists n y) (all_from lists (n + 1) ys) b
      (subst (λ (z : A). Contains (lists n z) b) (sym (same_Some y x e)) (subst (λ (m : ℕ). Contains (lists m x) b) here c))
  all_there n (y ∷ ys) (suc i) x j b e q c =
      Contains-append_right (lists n y) (all_from lists (n + 1) ys) b (all_there (n + 1) ys i x j b e (omega (arith, q)) c)

-- ---- the keys of the slots

module _ (p : Program) where
  -- the key of a slot has a number
  pub record IsSlotKey (k : Key) : Type 0 where
    pub is_slot : IsSlot p k
    pub numbered : (n : ℕ) × (key_number p k ≡ Some n)

  abbrev object_keys : List Key
  object_keys = made_from has_object_key key.Object 0 p.objects

  abbrev other_keys : List Key
  other_keys = all_from local_keys 0 p.funcs ++ all_from member_keys 0 p.structures

  itself : (m n : ℕ) → m ≡ 0 + n → n ≡ m
  itself m n e = omega (arith, e)

  of_object : (k : Key) → Contains (made_from is_object_slot key.Object 0 p.objects) k → IsSlotKey k
  of_object k c =
      let m = from_made is_object_slot key.Object 0 p.objects k c in
      let made = made_there has_object_key key.Object 0 p.objects m.place m.thing m.number m.there m.counts (object_scalars m.number m.thing.ctype m.passes_it) in
      let listed = Contains-append_left object_keys other_keys (key.Object m.number) (contains_at object_keys made.0 (key.Object m.number) made.1) in
      subst IsSlotKey m.is (record {
        is_slot = (m.thing.ctype, ap object_ctype (ap (slice_get p.objects) (sym (itself m.number m.place m.counts)) ∙ m.there), m.passes_it);
        numbered = key_numbered p (key.Object m.number) (at_contained (keys_of p) (key.Object m.number) listed);
      })

  of_member_at : (k : Key) (s place : ℕ) (structure : Structure) → slice_get p.structures place ≡ Some structure → s ≡ 0 + place → Contains (member_slots s structure) k → IsSlotKey k
  of_member_at k s place structure there counts c =
      let m = from_made (is_member_slot s) (key.Member s) 0 structure.members k c in
      let made = made_there has_member_key (key.Member s) 0 structure.members m.place m.thing m.number m.there m.counts (scalar_scalars m.thing.1 m.passes_it) in
      let inside = contains_at (member_keys s structure) made.0 (key.Member s m.number) made.1 in
      let member = all_there member_keys 0 p.structures place structure s (key.Member s m.number) there counts inside in
      let other = Contains-append_right (all_from local_keys 0 p.funcs) (all_from member_keys 0 p.structures) (key.Member s m.number) member in
      let listed = Contains-append_right object_keys other_keys (key.Member s m.number) other in
      let own : slice_get p.structures s ≡ Some structure = ap (slice_get p.structures) (sym (itself s place counts)) ∙ there in
      let named : slice_get structure.members m.number ≡ Some m.thing = ap (slice_get structure.members) (sym (itself m.number m.place m.counts)) ∙ m.there in
      subst IsSlotKey m.is (record {
        is_slot = (m.thing.1, ap (member_ctype m.number) own ∙ ap declared_type named, m.passes_it);
        numbered = key_numbered p (key.Member s m.number) (at_contained (keys_of p) (key.Member s m.number) listed);
      })

  of_member : (k : Key) → Contains (all_from member_slots 0 p.structures) k → IsSlotKey k
  of_member k c = let l = from_all member_slots 0 p.structures k c in of_member_at k l.number l.place l.thing l.there l.counts l.inside

  pub slot_key : (k : Key) → Contains (slot_keys p) k → IsSlotKey k
  slot_key k c = elim (Contains-append_cases (made_from is_object_slot key.Object 0 p.objects) (all_from member_slots 0 p.structures) k c) [
    | inl m ↦ of_object k m
    | inr m ↦ of_member k m
  ]

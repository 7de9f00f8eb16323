-- What is so of entries stays so: where names stay, where more is declared, and where an entry is told more of.
use Rattle.std.proofs.Common.{arith, ◌≡◌, ◌⊎◌, inl, inr, ◌+◌, ℕ, zero, suc, Bool, true, false, List, [], ◌∷◌, ◌++◌, length, Option, Some, None, refl, ap, sym, ◌∙◌, subst}
use Rattle.std.specs.Prelude.{is_some, slice_get}
use Rattle.cc_type.specs.CcOperands.Qualified.{is_function_type}
use Rattle.cc_type.specs.CcTypedTerms.Primary.{char_type, chars_type, is_intrinsic}
use Rattle.cc_program.proofs.Each.{Each}
use Rattle.cc_program.specs.declared.func.Func.{Func}
use Rattle.cc_program.specs.declared.program.Roles.{Roles}
use Rattle.cc_program.specs.declared.types.CType.{CType}
use Rattle.cc_program.specs.declared.types.Shape.TheVariants.{outs-Array}
use Rattle.cc_type.specs.CcScopes.Linked.{is_linked, linked_from, linked_name}
use Rattle.cc_type.specs.CcScopes.State.{State, Name, change_at, change_name, with_declared}
use Rattle.cc_type.specs.CcScopes.declared.unit.Declared.{Declared}
use Rattle.cc_read_sound.proofs.Lists.{KeepsName, has_own_name, linked_changed, linked_front, linked_last, same_some}
use Rattle.cc_read_sound.specs.External.{AreEntries}
use Rattle.cc_read_sound.specs.Definitions.{AreApart}
use Rattle.cc_read_sound.specs.Entries.{AreWell, IsDone, IsSettled, IsWell, IsWellKind, is_counted, is_function_kind}
use Rattle.cc_type.specs.CcTypedTerms.Devices.{declared_device, device_of}
use Rattle.cc_sound_declarations.proofs.Entries.{unnamed_entry}
use Rattle.cc_sound_terms.proofs.Growth.{get_front}
use Rattle.cc_sound_terms.specs.Behind.{Extends, HasEntry, IsUnnamed, OfString, OfDevice}
use Rattle.cc_type.specs.CcSyntax.SameTypes.{is_func_shape}
use Rattle.cc_type.specs.CcSyntax.Views.{View}

omega_zero : (n : ℕ) → 0 + n ≡ n
omega_zero n = omega arith

none_some : (x : Name) → None ≡ Some x → ⊥
none_some x h = cc

module _ (v : View) (roles : Roles) (defined : List Name) (P : CType → Func → Type 0) where
  abbrev Well : Declared → Type 0
  Well d = IsWell v.target roles defined P d

  abbrev All : List Name → State → Type 0
  All done s = AreWell v.target roles defined P done s

  abbrev Done : State → Name → Type 0
  Done s x = IsDone v.target roles defined P s x

  -- ---- by names alone

  done_map : (done : List Name) (s t : State) → ((x : Name) → Done s x → Done t x) → Each (Done s) done → Each (Done t) done
  done_map [] s t f h = tt
  done_map (x ∷ xs) s t f h = (f x h.0, done_map xs s t f h.1)

  settled_as : (s t : State) (x : Name) → t.names ≡ s.names → Done s x → Done t x
  settled_as s t x e (inl h) = inl h
  settled_as s t x e (inr h) = inr (record {
    number = h.number;
    declared = h.declared;
    linked = ap (linked_from 0 x) e ∙ h.linked;
    there = ap (λ (xs : List Declared). slice_get xs h.number) e ∙ h.there;
    settled = h.settled;
  })

  pub same_well : (done : List Name) (s t : State) → t.names ≡ s.names → All done s → All done t
  same_well done s t e w = record {
    well = λ i d h. w.well i d (ap (λ (xs : List Declared). slice_get xs i) (sym e) ∙ h);
    unique = λ i d x h l n. ap (linked_from 0 x) e ∙ w.unique i d x (ap (λ (xs : List Declared). slice_get xs i) (sym e) ∙ h) l n;
    complete = done_map done s t (λ x. settled_as s t x e) w.complete;
  }

  -- ---- more behind

  settled_front : (s t : State) (x : Name) (more : List Declared) → t.names ≡ s.names ++ more → Done s x → Done t x
  settled_front s t x more e (inl h) = inl h
  settled_front s t x more e (inr h) = inr (record {
    number = h.number;
    declared = h.declared;
    linked = ap (linked_from 0 x) e ∙ linked_front 0 x s.names more h.number h.linked;
    there = ap (λ (xs : List Declared). slice_get xs h.number) e ∙ get_front s.names more h.number h.declared h.there;
    settled = h.settled;
  })

  -- each entry behind was there, or is well and has no name that is known
  record IsNew (s t : State) (i : ℕ) (d : Declared) : Type 0 where
    well : Well d
    found : (x : Name) → is_linked d.linkage ≡ true → d.name ≡ Some x → linked_name x t ≡ Some i

  grown_well : (done : List Name) (s t : State) (more : List Declared) → t.names ≡ s.names ++ more → ((i : ℕ) (d : Declared) → slice_get t.names i ≡ Some d → (slice_get s.names i ≡ Some d) ⊎ IsNew s t i d) → All done s → All done t
  grown_well done s t more e f w = record {
    well = λ i d h. well_by i d (f i d h);
    unique = λ i d x h l n. found_by i d x l n (f i d h);
    complete = done_map done s t (λ x. settled_front s t x more e) w.complete;
  }
    where
      well_by : (i : ℕ) (d : Declared) → (slice_get s.names i ≡ Some d) ⊎ IsNew s t i d → Well d
      well_by i d (inl h) = w.well i d h
      well_by i d (inr n) = n.well

      found_by : (i : ℕ) (d : Declared) (x : Name) → is_linked d.linkage ≡ true → d.name ≡ Some x → (slice_get s.names i ≡ Some d) ⊎ IsNew s t i d → linked_name x t ≡ Some i
      found_by i d x l n (inl h) = ap (linked_from 0 x) e ∙ linked_front 0 x s.names more i (w.unique i d x h l n)
      found_by i d x l n (inr m) = m.found x l n

  -- ---- one more

  last_place : {A : Type 0} (xs : List A) (x : A) (i : ℕ) (y : A) → slice_get (xs ++ x ∷ []) i ≡ Some y → (slice_get xs i ≡ Some y) ⊎ ((x ≡ y) × (i ≡ length xs))
  last_place [] x zero y h = inr (same_some x y h, refl)
  last_place [] x (suc i) y h = absurd (cc)
  last_place (z ∷ xs) x zero y h = inl h
  last_place (z ∷ xs) x (suc i) y h = later (last_place xs x i y h)
    where
      later : (slice_get xs i ≡ Some y) ⊎ ((x ≡ y) × (i ≡ length xs)) → (slice_get xs i ≡ Some y) ⊎ ((x ≡ y) × (suc i ≡ suc (length xs)))
      later (inl g) = inl g
      later (inr g) = inr (g.0, ap suc g.1)

  pub more_well : (done : List Name) (s : State) (d : Declared) → Well d → ((x : Name) → is_linked d.linkage ≡ true → d.name ≡ Some x → linked_name x s ≡ None) → All done s → All done (with_declared d s)
  more_well done s d n f w = grown_well done s (with_declared d s) (d ∷ []) refl (λ i e h. of_place i e (last_place s.names d i e h)) w
    where
      of_place : (i : ℕ) (e : Declared) → (slice_get s.names i ≡ Some e) ⊎ ((d ≡ e) × (i ≡ length s.names)) → (slice_get s.names i ≡ Some e) ⊎ IsNew s (with_declared d s) i e
      of_place i e (inl h) = inl h
      of_place i e (inr h) = inr (record {
        well = subst Well h.0 n;
        found = λ x l k.
            let l' : is_linked d.linkage ≡ true = ap (λ (z : Declared). is_linked z.linkage) h.0 ∙ l in
            let k' : d.name ≡ Some x = ap (λ (z : Declared). z.name) h.0 ∙ k in
            let same : 0 + length s.names ≡ i = omega_zero (length s.names) ∙ sym h.1 in
            linked_last 0 x s.names d (f x l' k') l' (has_own_name x d.name k') ∙ ap Some same;
      })

  -- ---- strings and devices without a name

  unnamed_well : (d : Declared) → IsUnnamed v.target d → Well d
  unnamed_well _ (OfString at bytes h) = record {
    entry = tt;
    kind = record { apart = ap (is_func_shape (λ sig. true)) (outs-Array (char_type true) (length bytes + 1)); here = λ r. inl refl; nameless = λ e. refl };
    external = λ e. absurd (cc);
    plain = λ x e l. absurd (none_some x e);
  }
  unnamed_well _ (OfDevice n constant t h) = record { entry = unnamed_entry v.target defined (declared_device (device_of n constant t)) (OfDevice n constant t h); kind = λ e. refl; external = λ e. absurd (cc); plain = λ x e l. absurd (none_some x e) }

  unnamed_name : (d : Declared) → IsUnnamed v.target d → d.name ≡ None
  unnamed_name _ (OfString at bytes h) = refl
  unnamed_name _ (OfDevice n constant t h) = refl

  pub extends_well : (done : List Name) (s t : State) → Extends v s t → All done s → All done t
  extends_well done s t g w = grown_well done s t g.grows.names.0 g.grows.names.1 (λ i d h. of_entry i d h (g.added i d h)) w
    where
      of_entry : (i : ℕ) (d : Declared) → slice_get t.names i ≡ Some d → HasEntry s.names i ⊎ IsUnnamed v.target d → (slice_get s.names i ≡ Some d) ⊎ IsNew s t i d
      of_entry i d h (inl c) =
          let same : c.0 ≡ d = same_some c.0 d (sym (ap (λ (xs : List Declared). slice_get xs i) g.grows.names.1 ∙ get_front s.names g.grows.names.0 i c.0 c.1) ∙ h) in
          inl (c.1 ∙ ap Some same)
      of_entry i d h (inr u) = inr (record { well = unnamed_well d u; found = λ x l n. absurd (none_some x (sym (unnamed_name d u) ∙ n)) })

  -- ---- an entry that is told more of

  abbrev IsChanged : {A : Type 0} → List A → ℕ → (A → A) → ℕ → A → Type 0
  IsChanged {A} xs i change j y = (x : A) × (slice_get xs i ≡ Some x) × (y ≡ change x) × (j ≡ i)

  changed_at : {A : Type 0} (xs : List A) (i : ℕ) (change : A → A) (j : ℕ) (y : A) → slice_get (change_at i change xs) j ≡ Some y → (slice_get xs j ≡ Some y) ⊎ IsChanged xs i change j y
  changed_at [] i change j y h = inl h
  changed_at (x ∷ xs) zero change zero y h = inr (x, refl, sym (same_some (change x) y h), refl)
  changed_at (x ∷ xs) zero change (suc j) y h = inl h
  changed_at (x ∷ xs) (suc i) change zero y h = inl h
  changed_at {A = A} (x ∷ xs) (suc i) change (suc j) y h = later (changed_at xs i change j y h)
    where
      later : (slice_get xs j ≡ Some y) ⊎ IsChanged xs i change j y → (slice_get xs j ≡ Some y) ⊎ IsChanged (x ∷ xs) (suc i) change (suc j) y
      later (inl g) = inl g
      later (inr g) = inr (g.0, g.1, g.2, ap suc g.3)

  kept_at : {A : Type 0} (xs : List A) (i : ℕ) (change : A → A) (j : ℕ) (y : A) → slice_get xs j ≡ Some y → (slice_get (change_at i change xs) j ≡ Some y) ⊎ ((i ≡ j) × (slice_get (change_at i change xs) j ≡ Some (change y)))
  kept_at [] i change j y h = inl h
  kept_at (x ∷ xs) zero change zero y h = inr (refl, ap (λ z. Some (change z)) (same_some x y h))
  kept_at (x ∷ xs) zero change (suc j) y h = inl h
  kept_at (x ∷ xs) (suc i) change zero y h = inl h
  kept_at (x ∷ xs) (suc i) change (suc j) y h = later (kept_at xs i change j y h)
    where
      later : (slice_get (change_at i change xs) j ≡ Some y) ⊎ ((i ≡ j) × (slice_get (change_at i change xs) j ≡ Some (change y))) → (slice_get (change_at i change xs) j ≡ Some y) ⊎ ((suc i ≡ suc j) × (slice_get (change_at i change xs) j ≡ Some (change y)))
      later (inl g) = inl g
      later (inr g) = inr (ap suc g.0, g.1)

  abbrev pub Settles : Declared → Type 0
  Settles d = (is_function_kind d.kind ≡ true) ⊎ (is_counted d ≡ true)

  pub record MayTell (i : ℕ) (change : Declared → Declared) (s : State) : Type 0 where
    pub keeps : (d : Declared) → KeepsName d (change d)
    pub well : (d : Declared) → slice_get s.names i ≡ Some d → Well d → Well (change d)
    pub settles : (d : Declared) → slice_get s.names i ≡ Some d → Settles d → Settles (change d)

  module _ (i : ℕ) (change : Declared → Declared) (s : State) (may : MayTell i change s) where
    abbrev told : State
    told = change_name i change s

    told_well : (done : List Name) → All done s → (j : ℕ) (e : Declared) → (slice_get s.names j ≡ Some e) ⊎ IsChanged s.names i change j e → Well e
    told_well done w j e (inl h) = w.well j e h
    told_well done w j e (inr c) = subst Well (sym c.2) (may.well c.0 c.1 (w.well i c.0 c.1))

    same_linked : (x : Name) → linked_name x told ≡ linked_name x s
    same_linked x = linked_changed 0 x s.names i change may.keeps

    told_unique : (done : List Name) → All done s → (j : ℕ) (e : Declared) (x : Name) → is_linked e.linkage ≡ true → e.name ≡ Some x → (slice_get s.names j ≡ Some e) ⊎ IsChanged s.names i change j e → linked_name x told ≡ Some j
    told_unique done w j e x l n (inl h) = same_linked x ∙ w.unique j e x h l n
    told_unique done w j e x l n (inr c) =
        let k = may.keeps c.0 in
        let l' : is_linked c.0.linkage ≡ true = ap is_linked (sym k.linkage) ∙ ap (λ (d : Declared). is_linked d.linkage) (sym c.2) ∙ l in
        let n' : c.0.name ≡ Some x = sym k.name ∙ ap (λ (d : Declared). d.name) (sym c.2) ∙ n in
        same_linked x ∙ w.unique i c.0 x c.1 l' n' ∙ ap Some (sym c.3)

    settled_there : (x : Name) (h : IsSettled v.target roles defined P x s) → (slice_get told.names h.number ≡ Some h.declared) ⊎ ((i ≡ h.number) × (slice_get told.names h.number ≡ Some (change h.declared))) → IsSettled v.target roles defined P x told
    settled_there x h (inl g) = record { number = h.number; declared = h.declared; linked = same_linked x ∙ h.linked; there = g; settled = h.settled }
    settled_there x h (inr g) = record {
      number = h.number;
      declared = change h.declared;
      linked = same_linked x ∙ h.linked;
      there = g.1;
      settled = may.settles h.declared (ap (slice_get s.names) g.0 ∙ h.there) h.settled;
    }

    told_done : (x : Name) → Done s x → Done told x
    told_done x (inl h) = inl h
    told_done x (inr h) = inr (settled_there x h (kept_at s.names i change h.number h.declared h.there))

    pub changed_well : (done : List Name) → All done s → All done told
    changed_well done w = record {
      well = λ j e h. told_well done w j e (changed_at s.names i change j e h);
      unique = λ j e x h l n. told_unique done w j e x l n (changed_at s.names i change j e h);
      complete = done_map done s told told_done w.complete;
    }

  -- ---- what follows

  pub entries_of : (done : List Name) (s : State) → All done s → AreEntries v.target defined s.names
  entries_of done s w = λ i d h. (w.well i d h).entry

  -- no object has a function's type
  pub apart_of : (done : List Name) (s : State) → All done s → AreApart s.names
  apart_of done s w = λ i d leaves h e. (subst (IsWellKind v.target roles defined P d) e (w.well i d h).kind).apart

  -- more definitions are done
  both_done : (done more : List Name) (s : State) → Each (Done s) done → Each (Done s) more → Each (Done s) (done ++ more)
  both_done [] more s h k = k
  both_done (x ∷ done) more s h k = (h.0, both_done done more s h.1 k)

  pub more_done : (done more : List Name) (s : State) → Each (Done s) more → All done s → All (done ++ more) s
  more_done done more s h w = record { well = w.well; unique = w.unique; complete = both_done done more s w.complete h }

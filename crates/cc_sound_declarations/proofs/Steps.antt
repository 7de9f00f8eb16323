-- What is declared step by step: something that has a place in memory, a name, an automatic object; and an entry or a structure that is told more of.
use Rattle.std.proofs.Common.{◌≡◌, ◌≤◌, ◌⊎◌, inl, inr, ℕ, zero, suc, true, false, List, [], ◌∷◌, ◌++◌, length, Option, Some, refl, ap, sym, ◌∙◌, subst, arith}
use Rattle.std.specs.Prelude.{slice_get}
use Rattle.cc_operand_types.proofs.Standing.{object_type}
use Rattle.cc_typed_bodies.specs.CcSyntax.Views.{View, kind_in}
use Rattle.cc_typed_bodies.specs.CcOperands.Qualified.{without_const}
use Rattle.cc_program.specs.declared.expr.Place.{Place}
use Rattle.cc_program.specs.declared.types.CType.{CType}
use Rattle.cc_typed_bodies.specs.CcScopes.State.{State, Name, KnownStructure, designated, bind, with_declared, with_locals, with_structures, with_unfinished, change_at, change_name}
use Rattle.cc_typed_bodies.specs.CcScopes.declared.designated.Designated.{Designated}
use Rattle.cc_typed_bodies.specs.CcScopes.declared.designated.Designated.TheVariants as means
use Rattle.cc_typed_bodies.specs.CcScopes.declared.unit.Declared.{Declared}
use Rattle.cc_sound_terms.specs.Behind.{HasEntry, NameStands, EntryKept, NamesKept}
use Rattle.cc_sound_terms.specs.Growing.{Kept, StructureKept}
use Rattle.cc_sound_terms.specs.Ordered.{HasMembers}
use Rattle.cc_sound_terms.specs.Knowing.{Stands, IsObject, ObjectsStand}
use Rattle.cc_sound_terms.specs.Typing.{KnowsTypes}
use Rattle.cc_sound_terms.proofs.Behind.{entry_itself, names_itself, names_more, entry_of_one, last_or_front, bind_adds, no_more}
use Rattle.cc_sound_terms.proofs.Closings.{closings_itself}
use Rattle.cc_sound_terms.proofs.Completeness.{order_kept, ordered_same}
use Rattle.cc_sound_terms.proofs.Growth.{get_last, all_kept, bind_grows, designated_kept, structures_changed, changed_or_not, tag_through}
use Rattle.cc_typed_bodies.specs.CcSyntax.Kinds.{is_object_type}
use Rattle.cc_typed_bodies.specs.CcSyntax.Types.{Named}
use Rattle.cc_sound_declarations.specs.Entries.{IsEntry}
use Rattle.cc_sound_declarations.specs.Declaring.{AreDeclared, AreObjects, DeclaresGiven}
use Rattle.cc_sound_declarations.proofs.Entries.{entry_of_two}
use Rattle.cc_sound_declarations.proofs.Declaring.{append_nothing, lowered_more, lowered_length, object_wider}

names_changed : (xs : List Declared) (i : ℕ) (change : Declared → Declared) → ((d : Declared) → slice_get xs i ≡ Some d → EntryKept d (change d)) → NamesKept xs (change_at i change xs)
names_changed [] i change f = λ j d h. absurd (cc)
names_changed (x ∷ xs) zero change f = elim [ zero ↦ λ d h. (change x, refl, subst (λ (y : Declared). EntryKept y (change x)) (let e : x ≡ d = cc in e) (f x refl)) | suc j ↦ λ d h. (d, h, entry_itself d) ]
names_changed (x ∷ xs) (suc i) change f = elim [ zero ↦ λ d h. (d, h, entry_itself d) | suc j ↦ λ d h. names_changed xs i change f j d h ]

more_enough : (k : ℕ) (ls : List Named) (l : Named) → k ≤ length ls → k ≤ length (ls ++ l ∷ [])
more_enough zero ls l h = omega arith
more_enough (suc k) [] l h = absurd (omega arith)
more_enough (suc k) (x ∷ ls) l h = let i : k ≤ length (ls ++ l ∷ []) = more_enough k ls l (omega arith) in omega arith

some_is : {A : Type 0} (a b : A) → Some a ≡ Some b → a ≡ b
some_is a b h = cc

module _ (v : View) (defined : List Name) (Given : Type 0) where
  abbrev Goes : State → List Named → State → List Named → Type 0
  Goes s D t E = DeclaresGiven v defined Given s D t E

  -- ---- what has a place in memory of its own

  pub named : (d : Declared) (s : State) (D : List Named) → IsEntry v.target defined d → (Given → KnowsTypes v s (with_declared d s) → NameStands v d) → Goes s D (with_declared d s) D
  named d s D n f = record {
    outer = refl;
    structures = all_kept s.structures;
    names = names_more s.names (d ∷ []) (s.names ++ d ∷ []) refl;
    entries = λ i e g. entry_of_two v.target defined s d i e n (last_or_front v s.names d i e g);
    ordered = λ h. record { listed = h.listed; order = h.order; tags = h.tags };
    closed = no_more v s;
    closings = closings_itself v Given s (with_declared d s) refl;
    behind = λ p k. record { types = k.types; tags = k.tags; names = λ i e g. entry_of_one v s d i e (f p k) (last_or_front v s.names d i e g); structures = λ i ms g. inl g };
    front = ([], sym (append_nothing D));
    locals = λ k h. record { enough = h.enough; locals = h.locals };
    objects = λ p k h. h;
    complete = λ p k h. h;
  }

  changed_entry : (s : State) (i : ℕ) (change : Declared → Declared) (j : ℕ) (e : Declared) → (slice_get s.names j ≡ Some e) ⊎ ((d : Declared) × (slice_get s.names j ≡ Some d) × (e ≡ change d)) → HasEntry s.names j
  changed_entry s i change j e (inl g) = (e, g)
  changed_entry s i change j e (inr c) = (c.0, c.1)

  -- an entry of which more is told
  pub changed : (i : ℕ) (change : Declared → Declared) (s : State) (D : List Named) → ((d : Declared) → slice_get s.names i ≡ Some d → EntryKept d (change d)) → Goes s D (change_name i change s) D
  changed i change s D f = record {
    outer = refl;
    structures = all_kept s.structures;
    names = names_changed s.names i change f;
    entries = λ j e g. inl (changed_entry s i change j e (changed_or_not s.names i change j e g));
    ordered = λ h. record { listed = h.listed; order = h.order; tags = h.tags };
    closed = no_more v s;
    closings = closings_itself v Given s (change_name i change s) refl;
    behind = λ p k. record { types = k.types; tags = k.tags; names = λ j e g. inl (changed_entry s i change j e (changed_or_not s.names i change j e g)); structures = λ j ms g. inl g };
    front = ([], sym (append_nothing D));
    locals = λ k h. record { enough = h.enough; locals = h.locals };
    objects = λ p k h. h;
    complete = λ p k h. h;
  }

  -- the array whose initialiser is read says nothing of what is declared
  pub unfinished : (a : Option Place) (s : State) (D : List Named) → Goes s D (with_unfinished a s) D
  unfinished a s D = record {
    outer = refl;
    structures = all_kept s.structures;
    names = names_itself s.names;
    entries = λ i d g. inl (d, g);
    ordered = λ h. record { listed = h.listed; order = h.order; tags = h.tags };
    closed = no_more v s;
    closings = closings_itself v Given s (with_unfinished a s) refl;
    behind = λ p k. record { types = k.types; tags = k.tags; names = λ i e g. inl (e, g); structures = λ i ms g. inl g };
    front = ([], sym (append_nothing D));
    locals = λ k h. record { enough = h.enough; locals = h.locals };
    objects = λ p k h. h;
    complete = λ p k h. h;
  }

  -- ---- names

  abbrev Anything : Designated → Type 0
  Anything d = Unit {0}

  bound_object : (D more E : List Named) (d : Designated) (s t : State) (y : Name) (e : Designated) → E ≡ D ++ more → IsObject v E d → ObjectsStand v D s → Kept (λ c. c ≡ d) (designated y s.scopes) (designated y t.scopes) →
      designated y t.scopes ≡ Some e → IsObject v E e
  bound_object D more E d s t y e w o h (inl q) f = object_wider v D more E e w (h y e (sym q ∙ f))
  bound_object D more E d s t y e w o h (inr n) f = subst (IsObject v E) (sym n.2 ∙ some_is n.0 e (sym n.1 ∙ f)) o

  objects_bound : (x : Name) (d : Designated) (s : State) (D more E : List Named) → E ≡ D ++ more → IsObject v E d → ObjectsStand v D s → ObjectsStand v E (bind x d s)
  objects_bound x d s D more E w o h = λ y e f. bound_object D more E d s (bind x d s) y e w o h (designated_kept (λ c. c ≡ d) s (bind x d s) y (bind_grows (λ c. c ≡ d) x d s refl)) f

  pub bound : (x : Name) (d : Designated) (s : State) (D : List Named) → (Given → KnowsTypes v s (bind x d s) → (w : CType) → d ≡ means.TypeNamed w → Stands v w) → IsObject v D d → Goes s D (bind x d s) D
  bound x d s D f o = record {
    outer = (bind_grows Anything x d s tt).outer;
    structures = all_kept s.structures;
    names = names_itself s.names;
    entries = λ i e g. inl (e, g);
    ordered = λ h. ordered_same Anything s (bind x d s) (bind_grows Anything x d s tt) refl (λ i ms g. g) h;
    closed = no_more v s;
    closings = closings_itself v Given s (bind x d s) refl;
    behind = λ p k. (bind_adds v Anything x d s tt (f p)).behind k;
    front = ([], sym (append_nothing D));
    locals = λ k h. record { enough = h.enough; locals = h.locals };
    objects = λ p k h. objects_bound x d s D [] D (sym (append_nothing D)) o h;
    complete = λ p k h. h;
  }

  -- ---- an automatic object, with its declared type

  abbrev pub with_object : Name → CType → State → State
  with_object x t s = bind x (means.Automatic (length s.locals) t) (with_locals (s.locals ++ (x, without_const t) ∷ []) s)

  object_at : (x : Name) (t : CType) (s : State) (D : List Named) (k : ℕ) → AreDeclared k D s → slice_get (D ++ (x, t) ∷ []) (length s.locals) ≡ Some (x, t)
  object_at x t s D k d = ap (slice_get (D ++ (x, t) ∷ [])) (ap length d.locals ∙ lowered_length k D) ∙ get_last D (x, t)

  more_declared : (x : Name) (t : CType) (s u : State) (D : List Named) (k : ℕ) → u.locals ≡ s.locals ++ (x, without_const t) ∷ [] → AreDeclared k D s → AreDeclared k (D ++ (x, t) ∷ []) u
  more_declared x t s u D k e h = record {
    enough = more_enough k D (x, t) h.enough;
    locals = e ∙ ap (λ (ls : List Named). ls ++ (x, without_const t) ∷ []) h.locals ∙ sym (lowered_more k D (x, t) h.enough);
  }

  objects_more : (D : List Named) (l : Named) → AreObjects v D → is_object_type (kind_in v l.1) ≡ true → AreObjects v (D ++ l ∷ [])
  objects_more [] l h k = (k, tt)
  objects_more (x ∷ D) l h k = (h.0, objects_more D l h.1 k)

  pub automatic : (x : Name) (t : CType) (s : State) (D : List Named) (k : ℕ) → AreDeclared k D s → (Given → KnowsTypes v s (with_object x t s) → is_object_type (kind_in v t) ≡ true) → Goes s D (with_object x t s) (D ++ (x, t) ∷ [])
  automatic x t s D k d f =
      let inner = with_locals (s.locals ++ (x, without_const t) ∷ []) s in
      let object : Designated = means.Automatic (length s.locals) t in
      record {
        outer = (bind_grows Anything x object inner tt).outer;
        structures = all_kept s.structures;
        names = names_itself s.names;
        entries = λ i e g. inl (e, g);
        ordered = λ h. ordered_same Anything inner (bind x object inner) (bind_grows Anything x object inner tt) refl (λ i ms g. g) (record { listed = h.listed; order = h.order; tags = h.tags });
        closed = no_more v s;
        closings = closings_itself v Given s (with_object x t s) refl;
        behind = λ p k.
            let b = (bind_adds v Anything x object inner tt (λ w u e. absurd (cc))).behind (record { structures = k.structures; types = k.types; tags = k.tags }) in
            record { types = b.types; tags = b.tags; names = b.names; structures = b.structures };
        front = ((x, t) ∷ [], refl);
        locals = λ j h. more_declared x t s (with_object x t s) D j refl h;
        objects = λ p w h. objects_bound x object inner D ((x, t) ∷ []) (D ++ (x, t) ∷ []) refl ((x, t), object_at x t s D k d, refl, object_type (kind_in v t) (f p w)) h;
        complete = λ p w h. objects_more D (x, t) h (f p w);
      }

  -- ---- a structure of which more is told: its members and its layout stay

  restructured_members : (xs : List KnownStructure) (i : ℕ) (change : KnownStructure → KnownStructure) (j : ℕ) (ms : List Named) (l : KnownStructure) → ((k : KnownStructure) → (change k).members ≡ k.members) → l.members ≡ Some ms →
      (slice_get xs j ≡ Some l) ⊎ ((k : KnownStructure) × (slice_get xs j ≡ Some k) × (l ≡ change k)) → HasMembers xs j ms
  restructured_members xs i change j ms l f m (inl g) = (l, g, m)
  restructured_members xs i change j ms l f m (inr c) = (c.0, c.1, sym (f c.0) ∙ sym (ap (λ (k : KnownStructure). k.members) c.2) ∙ m)

  restructured_kept : (k : KnownStructure) (change : KnownStructure → KnownStructure) → (change k).members ≡ k.members → (change k).layout ≡ k.layout → StructureKept k (change k)
  restructured_kept k change f g = record { members = λ ms h. f ∙ h; layout = λ ms h. g }

  pub restructured : (i : ℕ) (change : KnownStructure → KnownStructure) (s : State) (D : List Named) → ((k : KnownStructure) → (change k).members ≡ k.members) → ((k : KnownStructure) → (change k).layout ≡ k.layout) →
      Goes s D (with_structures (change_at i change s.structures) s) D
  restructured i change s D f g =
      let kept = structures_changed s.structures i change (λ k e. restructured_kept k change (f k) (g k)) in
      record {
        outer = refl;
        structures = kept;
        names = names_itself s.names;
        entries = λ j e h. inl (e, h);
        ordered = λ h. record {
          listed = λ j ms m. h.listed j ms (restructured_members s.structures i change j ms m.0 f m.2 (changed_or_not s.structures i change j m.0 m.1));
          order = order_kept s.structures (change_at i change s.structures) [] s.completed kept h.order;
          tags = λ x u e. tag_through s.structures (change_at i change s.structures) u kept (h.tags x u e);
        };
        closed = no_more v s;
        closings = λ j ms h. inl (restructured_members s.structures i change j ms h.0 f h.2 (changed_or_not s.structures i change j h.0 h.1));
        behind = λ p k. record {
          types = k.types;
          tags = k.tags;
          names = λ j e h. inl (e, h);
          structures = λ j ms h. inl (restructured_members s.structures i change j ms h.0 f h.2 (changed_or_not s.structures i change j h.0 h.1));
        };
        front = ([], sym (append_nothing D));
        locals = λ k h. record { enough = h.enough; locals = h.locals };
        objects = λ p k h. h;
        complete = λ p k h. h;
      }

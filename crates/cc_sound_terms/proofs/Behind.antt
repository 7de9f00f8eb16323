-- What stands behind a construct, and what is known behind it: from a state to itself, through states between, and by each thing that is declared.
use Rattle.std.proofs.Common.{◌≡◌, ◌⊎◌, inl, inr, ℕ, zero, suc, List, [], ◌∷◌, ◌++◌, length, Some, None, refl, ap, sym, ◌∙◌, subst, append_assoc}
use Rattle.std.specs.Prelude.{slice_get, take}
use Rattle.cc_terms.specs.CcSyntax.Views.{View}
use Rattle.cc_program.specs.declared.types.CType.{CType}
use Rattle.cc_terms.specs.CcScopes.State.{State, Name, Scope, KnownStructure, empty, in_innermost, with_name, designated, tagged, entered, left, outer_scopes, bind, bind_tag, with_declared, with_structures, with_names}
use Rattle.cc_terms.specs.CcScopes.declared.designated.Designated.{Designated}
use Rattle.cc_terms.specs.CcScopes.declared.designated.Designated.TheVariants as means
use Rattle.cc_terms.specs.CcScopes.declared.designated.Tagged.{Tagged}
use Rattle.cc_terms.specs.CcScopes.declared.unit.Declared.{Declared}
use Rattle.cc_terms.specs.CcSyntax.Types.{Named}
use Rattle.cc_terms.specs.CcUnit.declared.unit.UnitKind.{UnitKind}
use Rattle.cc_terms.specs.CcUnit.declared.unit.UnitKind.TheVariants as kind
use Rattle.cc_sound_terms.specs.Behind.{HasEntry, IsUnnamed, KindStands, NameStands, Behind, Adds, Extends, SameKind, Objects, Devices, Functions, EntryKept, NamesKept}
use Rattle.cc_sound_terms.specs.Growing.{Kept, StructuresKept, Grows, IsParameter, IsTag}
use Rattle.cc_sound_terms.specs.Knowing.{Stands, KnowsAs, KnowsNames, TagsStand, TypesStand}
use Rattle.cc_sound_terms.specs.Ordered.{HasMembers}
use Rattle.cc_sound_terms.specs.Standing.{MembersKnown}
use Rattle.cc_sound_terms.specs.Typing.{KnowsTypes}
use Rattle.cc_sound_terms.proofs.Closings.{closings_alike, closings_entered, closings_itself, closings_through}
use Rattle.cc_sound_terms.proofs.Completeness.{ordered_same}
use Rattle.cc_sound_terms.proofs.Growth.{get_front, grows_itself, grows_through, as_parameters, bind_grows, bind_tag_grows, structure_grows, declared_grows, forgotten_grows, scope_left, designated_kept, tags_stand, knows_structures, tag_through, take_front}

-- ---- entries

same_kind : (k : UnitKind) → SameKind k k
same_kind (kind.Object leaves) = Objects leaves leaves
same_kind (kind.Device d) = Devices d
same_kind (kind.Func entry body) = Functions entry entry body body

pub same_kinds : (a b c : UnitKind) → SameKind a b → SameKind b c → SameKind a c
same_kinds _ _ _ (Objects a b) (Objects _ c) = Objects a c
same_kinds _ _ _ (Devices d) (Devices _) = Devices d
same_kinds _ _ _ (Functions a b x y) (Functions _ c _ z) = Functions a c x z

pub entry_itself : (d : Declared) → EntryKept d d
entry_itself d = record { name = refl; ctype = refl; kind = same_kind d.kind }

pub entry_through : (a b c : Declared) → EntryKept a b → EntryKept b c → EntryKept a c
entry_through a b c x y = record { name = y.name ∙ x.name; ctype = y.ctype ∙ x.ctype; kind = same_kinds a.kind b.kind c.kind x.kind y.kind }

pub names_itself : (xs : List Declared) → NamesKept xs xs
names_itself xs = λ i d h. (d, h, entry_itself d)

pub names_through : (xs ys zs : List Declared) → NamesKept xs ys → NamesKept ys zs → NamesKept xs zs
names_through xs ys zs a b = λ i d h.
    let e = a i d h in
    let f = b i e.0 e.1 in
    (f.0, f.1, entry_through d e.0 f.0 e.2 f.2)

pub names_more : (xs more ys : List Declared) → ys ≡ xs ++ more → NamesKept xs ys
names_more xs more ys e = λ i d h. (d, ap (λ (zs : List Declared). slice_get zs i) e ∙ get_front xs more i d h, entry_itself d)

module _ (v : View) where
  kind_stands : (t : CType) (k l : UnitKind) → SameKind k l → KindStands v t k → KindStands v t l
  kind_stands t _ _ (Objects before after) h = h
  kind_stands t _ _ (Devices d) h = h
  kind_stands t _ _ (Functions entry entry' body body') h = h

  pub entry_stands : (d e : Declared) → EntryKept d e → NameStands v d → NameStands v e
  entry_stands d e k h = subst (λ (t : CType). KindStands v t e.kind) (sym k.ctype) (kind_stands d.ctype d.kind e.kind k.kind h)

  kind_known : (i : ℕ) (t : CType) (k l : UnitKind) → SameKind k l → KnowsAs v i t l → KnowsAs v i t k
  kind_known i t _ _ (Objects before after) h = h
  kind_known i t _ _ (Devices d) h = h
  kind_known i t _ _ (Functions entry entry' body body') h = h

  pub knows_back : (xs ys : List Declared) → NamesKept xs ys → KnowsNames v ys → KnowsNames v xs
  knows_back xs ys h w = λ i d e.
      let l = h i d e in
      kind_known i d.ctype d.kind l.0.kind l.2.kind (subst (λ (t : CType). KnowsAs v i t l.0.kind) l.2.ctype (w i l.0 l.1))

  -- ---- behind

  pub behind_itself : (s : State) → KnowsTypes v s s → Behind v s s
  behind_itself s k = record { types = k.types; tags = k.tags; names = λ i d h. inl (d, h); structures = λ i ms h. inl h }

  some_entry : (d e : Declared) → Some d ≡ Some e → d ≡ e
  some_entry d e h = cc

  names_behind : (s t u : State) (i : ℕ) (e : Declared) → NamesKept t.names u.names → ((d : Declared) → slice_get t.names i ≡ Some d → HasEntry s.names i ⊎ NameStands v d) → slice_get u.names i ≡ Some e →
      HasEntry t.names i ⊎ NameStands v e → HasEntry s.names i ⊎ NameStands v e
  names_behind s t u i e k a h (inr n) = inr n
  names_behind s t u i e k a h (inl d) = of_entry (a d.0 d.1)
    where
      of_entry : HasEntry s.names i ⊎ NameStands v d.0 → HasEntry s.names i ⊎ NameStands v e
      of_entry (inl f) = inl f
      of_entry (inr n) =
          let l = k i d.0 d.1 in
          inr (subst (NameStands v) (some_entry l.0 e (sym l.1 ∙ h)) (entry_stands d.0 l.0 l.2 n))

  structures_behind : (s t : State) (i : ℕ) (ms : List Named) → (HasMembers t.structures i ms → HasMembers s.structures i ms ⊎ MembersKnown v ms) → HasMembers t.structures i ms ⊎ MembersKnown v ms → HasMembers s.structures i ms ⊎ MembersKnown v ms
  structures_behind s t i ms a (inl h) = a h
  structures_behind s t i ms a (inr k) = inr k

  pub behind_through : (s t u : State) → NamesKept t.names u.names → Behind v s t → Behind v t u → Behind v s u
  behind_through s t u k a b = record {
    types = b.types;
    tags = b.tags;
    names = λ i e h. names_behind s t u i e k (a.names i) h (b.names i e h);
    structures = λ i ms h. structures_behind s t i ms (a.structures i ms) (b.structures i ms h);
  }

  -- a scope that was entered is left
  pub behind_left : (scope : Scope) (s t : State) → outer_scopes t.scopes ≡ s.scopes → KnowsTypes v s t → Behind v (entered scope s) t → Behind v s (left t)
  behind_left scope s t e k b = record {
    types = λ x u f. k.types x u (ap (designated x) (sym e) ∙ f);
    tags = λ x u f. k.tags x u (ap (tagged x) (sym e) ∙ f);
    names = b.names;
    structures = b.structures;
  }

  -- ---- what is known in front of a construct, and between two of them

  pub known_first : (s t u : State) → StructuresKept t.structures u.structures → KnowsTypes v s u → KnowsTypes v s t
  known_first s t u h k = record { structures = knows_structures v t.structures u.structures h k.structures; types = k.types; tags = k.tags }

  pub known_second : (s t u : State) → StructuresKept t.structures u.structures → (KnowsTypes v s t → Behind v s t) → KnowsTypes v s u → KnowsTypes v t u
  known_second s t u h a k = let b = a (known_first s t u h k) in record { structures = k.structures; types = b.types; tags = b.tags }

  -- tags name no types, and what is forgotten leaves what was there
  tag_names : (s : State) (x : Name) (t : Tagged) (y : Name) → designated y s.scopes ≡ designated y (bind_tag x t s).scopes
  tag_names s x t y = by_scopes s.scopes
    where
      by_scopes : (scopes : List Scope) → designated y scopes ≡ designated y (in_innermost (λ scope. record { names = scope.names; tags = with_name x t scope.tags }) scopes)
      by_scopes [] = refl
      by_scopes (scope ∷ outer) = refl

  forgotten_names : (New : Designated → Type 0) (s t : State) → Grows New s t → take (length s.names) t.names ≡ s.names
  forgotten_names New s t g = ap (take (length s.names)) g.names.1 ∙ take_front s.names g.names.0

  forgotten_entry : (s t : State) → take (length s.names) t.names ≡ s.names → (i : ℕ) (e : Declared) → slice_get (take (length s.names) t.names) i ≡ Some e → slice_get s.names i ≡ Some e
  forgotten_entry s t h i e f = ap (λ (xs : List Declared). slice_get xs i) (sym h) ∙ f

  -- ---- what is added

  pub added_behind : (s t u : State) (i : ℕ) (e : Declared) (more : List Declared) → u.names ≡ t.names ++ more → ((d : Declared) → slice_get t.names i ≡ Some d → HasEntry s.names i ⊎ IsUnnamed v.target d) → slice_get u.names i ≡ Some e →
      HasEntry t.names i ⊎ IsUnnamed v.target e → HasEntry s.names i ⊎ IsUnnamed v.target e
  added_behind s t u i e more k a h (inr n) = inr n
  added_behind s t u i e more k a h (inl d) =
      let same : d.0 ≡ e = some_entry d.0 e (sym (ap (λ (zs : List Declared). slice_get zs i) k ∙ get_front t.names more i d.0 d.1) ∙ h) in
      a e (subst (λ (x : Declared). slice_get t.names i ≡ Some x) same d.1)

  pub no_more : (s : State) → (more : List ℕ) × (s.completed ≡ s.completed ++ more)
  no_more s = ([], sym (append_nothing s.completed))
    where
      append_nothing : (l : List ℕ) → l ++ [] ≡ l
      append_nothing [] = refl
      append_nothing (x ∷ l) = ap (λ (r : List ℕ). x ∷ r) (append_nothing l)

  pub more_through : (s t u : State) → (more : List ℕ) × (t.completed ≡ s.completed ++ more) → (more : List ℕ) × (u.completed ≡ t.completed ++ more) → (more : List ℕ) × (u.completed ≡ s.completed ++ more)
  more_through s t u a b = (a.0 ++ b.0, b.1 ∙ (ap (λ (l : List ℕ). l ++ b.0) a.1 ∙ append_assoc s.completed a.0 b.0))

  pub stands_behind : (s t : State) → (KnowsTypes v s t → Behind v s t) → KnowsTypes v s t → TypesStand v t × TagsStand v t
  stands_behind s t f k = let b = f k in (b.types, b.tags)

  pub adds_itself : (New : Designated → Type 0) (s : State) → Adds v New s s
  adds_itself New s = record { grows = grows_itself New s; added = λ i d g. inl (d, g); behind = behind_itself s; ordered = λ h. h; front = no_more s; closings = closings_itself v (Unit {0}) s s refl }

  pub adds_through : (New : Designated → Type 0) (s t u : State) → Adds v New s t → Adds v New t u → Adds v New s u
  adds_through New s t u a b = record {
    grows = grows_through New s t u a.grows b.grows;
    added = λ i e h. added_behind s t u i e b.grows.names.0 b.grows.names.1 (a.added i) h (b.added i e h);
    ordered = λ h. b.ordered (a.ordered h);
    front = more_through s t u a.front b.front;
    closings = closings_through v (Unit {0}) (Unit {0}) s t u a.grows.structures b.grows.structures b.front.0 b.front.1 a.ordered (λ p k. stands_behind s t a.behind k) (λ p k. p) a.closings b.closings;
    behind = λ k. behind_through s t u (names_more t.names b.grows.names.0 u.names b.grows.names.1) (a.behind (known_first s t u b.grows.structures k)) (b.behind (known_second s t u b.grows.structures a.behind k));
  }

  pub adds_parameters : (s t : State) → Extends v s t → Adds v (IsParameter v.target) s t
  adds_parameters s t g = record { grows = as_parameters v.target s t g.grows; added = g.added; behind = g.behind; ordered = g.ordered; front = g.front; closings = g.closings }

  some_is : {A : Type 0} (a b : A) → Some a ≡ Some b → a ≡ b
  some_is a b h = cc

  types_by : (s t : State) (d : Designated) (x : Name) (u : CType) → ((w : CType) → d ≡ means.TypeNamed w → Stands v w) → TypesStand v s → Kept (λ e. e ≡ d) (designated x s.scopes) (designated x t.scopes) →
      designated x t.scopes ≡ Some (means.TypeNamed u) → Stands v u
  types_by s t d x u none h (inl e) f = h x u (sym e ∙ f)
  types_by s t d x u none h (inr n) f = none u (sym n.2 ∙ some_is n.0 (means.TypeNamed u) (sym n.1 ∙ f))

  -- a name that is bound; a type that it names stands
  pub bind_adds : (New : Designated → Type 0) (x : Name) (d : Designated) (s : State) → New d → (KnowsTypes v s (bind x d s) → (w : CType) → d ≡ means.TypeNamed w → Stands v w) → Adds v New s (bind x d s)
  bind_adds New x d s h f = record {
    grows = bind_grows New x d s h;
    ordered = λ o. ordered_same New s (bind x d s) (bind_grows New x d s h) refl (λ i ms g. g) o;
    front = no_more s;
    closings = closings_itself v (Unit {0}) s (bind x d s) refl;
    added = λ i d g. inl (d, g);
    behind = λ k. record {
      types = λ y u e. types_by s (bind x d s) d y u (f k) k.types (designated_kept (λ e. e ≡ d) s (bind x d s) y (bind_grows (λ e. e ≡ d) x d s refl)) e;
      tags = tags_stand v New s (bind x d s) (bind_grows New x d s h) k.structures k.tags;
      names = λ i e g. inl (e, g);
      structures = λ i ms g. inl g;
    };
  }

  pub bind_tag_adds : (New : Designated → Type 0) (x : Name) (t : Tagged) (s : State) → IsTag s.structures t → Adds v New s (bind_tag x t s)
  bind_tag_adds New x t s h = record {
    grows = bind_tag_grows New x t s h;
    ordered = λ o. ordered_same New s (bind_tag x t s) (bind_tag_grows New x t s h) refl (λ i ms g. g) o;
    front = no_more s;
    closings = closings_itself v (Unit {0}) s (bind_tag x t s) refl;
    added = λ i d g. inl (d, g);
    behind = λ k. record {
      types = λ y u e. k.types y u (tag_names s x t y ∙ e);
      tags = tags_stand v New s (bind_tag x t s) (bind_tag_grows New x t s h) k.structures k.tags;
      names = λ i e g. inl (e, g);
      structures = λ i ms g. inl g;
    };
  }

  unnamed_members : (k : KnownStructure) → k.members ≡ None → (l : KnownStructure) (ms : List Named) → k ≡ l → l.members ≡ Some ms → ⊥
  unnamed_members k h l ms e f = let c : None ≡ Some ms = sym h ∙ ap (λ (x : KnownStructure). x.members) e ∙ f in absurd (cc)

  -- of a list with one more at its end: one of those before, or the last
  pub last_or_front : {A : Type 0} (xs : List A) (x : A) (i : ℕ) (y : A) → slice_get (xs ++ x ∷ []) i ≡ Some y → (slice_get xs i ≡ Some y) ⊎ (x ≡ y)
  last_or_front [] x zero y h = inr (some_is x y h)
  last_or_front [] x (suc i) y h = absurd (cc)
  last_or_front (z ∷ xs) x zero y h = inl h
  last_or_front (z ∷ xs) x (suc i) y h = last_or_front xs x i y h

  member_of_one : (s : State) (k : KnownStructure) (i : ℕ) (ms : List Named) → k.members ≡ None → (l : KnownStructure) → l.members ≡ Some ms → (slice_get s.structures i ≡ Some l) ⊎ (k ≡ l) → HasMembers s.structures i ms ⊎ MembersKnown v ms
  member_of_one s k i ms h l f (inl g) = inl (l, g, f)
  member_of_one s k i ms h l f (inr e) = absurd (unnamed_members k h l ms e f)

  members_before : (s : State) (k : KnownStructure) (i : ℕ) (ms : List Named) → k.members ≡ None → (l : KnownStructure) → l.members ≡ Some ms → (slice_get s.structures i ≡ Some l) ⊎ (k ≡ l) → HasMembers s.structures i ms
  members_before s k i ms h l f (inl g) = (l, g, f)
  members_before s k i ms h l f (inr e) = absurd (unnamed_members k h l ms e f)

  pub structure_adds : (New : Designated → Type 0) (k : KnownStructure) (s : State) → k.members ≡ None → Adds v New s (with_structures (s.structures ++ k ∷ []) s)
  structure_adds New k s h = record {
    grows = structure_grows New k s;
    ordered = λ o. ordered_same New s (with_structures (s.structures ++ k ∷ []) s) (structure_grows New k s) refl (λ i ms g. members_before s k i ms h g.0 g.2 (last_or_front s.structures k i g.0 g.1)) o;
    front = no_more s;
    closings = λ i ms g. inl (members_before s k i ms h g.0 g.2 (last_or_front s.structures k i g.0 g.1));
    added = λ i d g. inl (d, g);
    behind = λ w. record {
      types = w.types;
      tags = tags_stand v New s (with_structures (s.structures ++ k ∷ []) s) (structure_grows New k s) w.structures w.tags;
      names = λ i e g. inl (e, g);
      structures = λ i ms g. member_of_one s k i ms h g.0 g.2 (last_or_front s.structures k i g.0 g.1);
    };
  }

  pub entry_of_one : (s : State) (d : Declared) (i : ℕ) (e : Declared) → NameStands v d → (slice_get s.names i ≡ Some e) ⊎ (d ≡ e) → HasEntry s.names i ⊎ NameStands v e
  entry_of_one s d i e h (inl g) = inl (e, g)
  entry_of_one s d i e h (inr g) = inr (subst (NameStands v) g h)

  unnamed_of_one : (s : State) (d : Declared) (i : ℕ) (e : Declared) → IsUnnamed v.target d → (slice_get s.names i ≡ Some e) ⊎ (d ≡ e) → HasEntry s.names i ⊎ IsUnnamed v.target e
  unnamed_of_one s d i e h (inl g) = inl (e, g)
  unnamed_of_one s d i e h (inr g) = inr (subst (IsUnnamed v.target) g h)

  pub declared_adds : (New : Designated → Type 0) (d : Declared) (s : State) → IsUnnamed v.target d → NameStands v d → Adds v New s (with_declared d s)
  declared_adds New d s n h = record {
    grows = declared_grows New d s;
    ordered = λ o. ordered_same New s (with_declared d s) (declared_grows New d s) refl (λ i ms g. g) o;
    front = no_more s;
    closings = closings_itself v (Unit {0}) s (with_declared d s) refl;
    added = λ i e g. unnamed_of_one s d i e n (last_or_front s.names d i e g);
    behind = λ k. record { types = k.types; tags = k.tags; names = λ i e g. entry_of_one s d i e h (last_or_front s.names d i e g); structures = λ i ms g. inl g };
  }

  pub forgotten_adds : (New : Designated → Type 0) (s t : State) → Adds v New s t → Adds v New s (with_names (take (length s.names) t.names) t)
  forgotten_adds New s t g =
      let f = forgotten_grows New s t g.grows in
      record {
        grows = f;
        ordered = λ h. let o = g.ordered h in record { listed = o.listed; order = o.order; tags = o.tags };
        front = g.front;
        closings = closings_alike v (Unit {0}) s t (with_names (take (length s.names) t.names) t) refl refl g.closings;
        added = λ i e h. inl (e, forgotten_entry s t (forgotten_names New s t g.grows) i e h);
        behind = λ k.
            let b = g.behind (record { structures = k.structures; types = k.types; tags = k.tags }) in
            record { types = b.types; tags = b.tags; names = λ i e h. inl (e, forgotten_entry s t (forgotten_names New s t g.grows) i e h); structures = b.structures };
      }

  pub scope_left_adds : (New : Designated → Type 0) (s t : State) → Adds v New (entered empty s) t → Extends v s (left t)
  scope_left_adds New s t g = record {
    grows = scope_left New v.target s t g.grows;
    ordered = λ h.
        let o = g.ordered (record { listed = h.listed; order = h.order; tags = h.tags }) in
        record { listed = o.listed; order = o.order; tags = λ x u f. tag_through s.structures t.structures u g.grows.structures (h.tags x u (ap (tagged x) (sym g.grows.outer) ∙ f)) };
    front = g.front;
    closings = closings_entered v (Unit {0}) s t g.closings;
    added = g.added;
    behind = λ k. behind_left empty s t g.grows.outer (record { structures = k.structures; types = k.types; tags = k.tags }) (g.behind (record { structures = k.structures; types = k.types; tags = k.tags }));
  }

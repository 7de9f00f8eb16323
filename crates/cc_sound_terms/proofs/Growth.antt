-- States grow: from a state to itself, through states between, and by each thing that is declared.
use Rattle.std.proofs.Common.{◌≡◌, ◌⊎◌, inl, inr, ℕ, Bool, true, false, List, [], ◌∷◌, ◌++◌, length, Option, Some, None, refl, ap, sym, ◌∙◌, subst, append_assoc, zero, suc}
use Rattle.std.specs.Prelude.{slice_get, if◌then◌else◌, take}
use Rattle.std.specs.Str.{bytes_eq}
use Rattle.cc_program.specs.CcNum.declared.target.Target.{Target}
use Rattle.cc_terms.specs.CcScopes.State.{State, Name, Scope, KnownStructure, empty, find_name, or_else, designated, tagged, innermost, outer_scopes, with_name, in_innermost, bind, bind_tag, entered, left, with_declared, with_structures, with_names, change_at}
use Rattle.cc_terms.specs.CcScopes.declared.designated.Designated.{Designated}
use Rattle.cc_terms.specs.CcScopes.declared.designated.Designated.TheVariants as means
use Rattle.cc_terms.specs.CcScopes.declared.designated.Tagged.{Tagged}
use Rattle.cc_terms.specs.CcScopes.declared.designated.Tagged.TheVariants as tag
use Rattle.cc_terms.specs.CcScopes.declared.unit.Declared.{Declared}
use Rattle.cc_program.specs.declared.types.CType.{CType}
use Rattle.cc_terms.specs.CcSyntax.declared.sizes.Layout.{Layout}
use Rattle.cc_terms.specs.CcSyntax.Types.{Named}
use Rattle.cc_terms.specs.CcSyntax.Views.{View}
use Rattle.cc_sound_terms.specs.Growing.{Kept, IsTag, StructureKept, StructuresKept, Grows, IsConstant, IsParameter}
use Rattle.cc_sound_terms.specs.Knowing.{Stands, KnowsStructure, KnowsStructures, KnowsNames, TypesStand, IsObject, ObjectsStand, IsThere, TagsStand}

-- ---- lists

pub get_front : {A : Type 0} (xs ys : List A) (i : ℕ) (x : A) → slice_get xs i ≡ Some x → slice_get (xs ++ ys) i ≡ Some x
get_front [] ys i x h = absurd (cc)
get_front (y ∷ xs) ys zero x h = h
get_front (y ∷ xs) ys (suc i) x h = get_front xs ys i x h

pub get_last : {A : Type 0} (xs : List A) (x : A) → slice_get (xs ++ x ∷ []) (length xs) ≡ Some x
get_last [] x = refl
get_last (y ∷ xs) x = get_last xs x

append_nothing : {A : Type 0} (xs : List A) → xs ++ [] ≡ xs
append_nothing [] = refl
append_nothing (x ∷ xs) = ap (λ ys. x ∷ ys) (append_nothing xs)

pub take_front : {A : Type 0} (xs ys : List A) → take (length xs) (xs ++ ys) ≡ xs
take_front [] ys = refl
take_front (x ∷ xs) ys = ap (λ zs. x ∷ zs) (take_front xs ys)

one_is : {A : Type 0} (a b : A) → Some a ≡ Some b → a ≡ b
one_is a b h = cc

-- ---- structures

kept_itself : (k : KnownStructure) → StructureKept k k
kept_itself k = record { members = λ ms h. h; layout = λ ms h. refl }

kept_through : (k l m : KnownStructure) → StructureKept k l → StructureKept l m → StructureKept k m
kept_through k l m a b = record { members = λ ms h. b.members ms (a.members ms h); layout = λ ms h. b.layout ms (a.members ms h) ∙ a.layout ms h }

pub all_kept : (xs : List KnownStructure) → StructuresKept xs xs
all_kept xs = λ i k h. (k, h, kept_itself k)

pub structures_through : (xs ys zs : List KnownStructure) → StructuresKept xs ys → StructuresKept ys zs → StructuresKept xs zs
structures_through xs ys zs a b = λ i k h.
    let l = a i k h in
    let m = b i l.0 l.1 in
    (m.0, m.1, kept_through k l.0 m.0 l.2 m.2)

pub one_more_structure : (xs : List KnownStructure) (k : KnownStructure) → StructuresKept xs (xs ++ k ∷ [])
one_more_structure xs k = λ i l h. (l, get_front xs (k ∷ []) i l h, kept_itself l)

-- one that is not complete is changed
change_kept : (xs : List KnownStructure) (j : ℕ) (change : KnownStructure → KnownStructure) → ((k : KnownStructure) → slice_get xs j ≡ Some k → StructureKept k (change k)) → StructuresKept xs (change_at j change xs)
change_kept [] j change f = λ i k h. absurd (cc)
change_kept (x ∷ xs) zero change f = elim [ zero ↦ λ k h. (change x, refl, subst (λ (y : KnownStructure). StructureKept y (change x)) (let e : x ≡ k = cc in e) (f x refl)) | suc i ↦ λ k h. (k, h, kept_itself k) ]
change_kept (x ∷ xs) (suc j) change f = elim [ zero ↦ λ k h. (k, h, kept_itself k) | suc i ↦ λ k h. change_kept xs j change f i k h ]

pub structures_changed : (xs : List KnownStructure) (j : ℕ) (change : KnownStructure → KnownStructure) → ((k : KnownStructure) → slice_get xs j ≡ Some k → StructureKept k (change k)) → StructuresKept xs (change_at j change xs)
structures_changed xs j change f = change_kept xs j change f

-- what stands in a list that is changed at a place
pub changed_or_not : {A : Type 0} (xs : List A) (j : ℕ) (change : A → A) (i : ℕ) (y : A) → slice_get (change_at j change xs) i ≡ Some y → (slice_get xs i ≡ Some y) ⊎ ((x : A) × (slice_get xs i ≡ Some x) × (y ≡ change x))
changed_or_not [] j change i y h = inl h
changed_or_not (x ∷ xs) zero change zero y h = inr (x, refl, sym (one_is (change x) y h))
changed_or_not (x ∷ xs) zero change (suc i) y h = inl h
changed_or_not (x ∷ xs) (suc j) change zero y h = inl h
changed_or_not (x ∷ xs) (suc j) change (suc i) y h = changed_or_not xs j change i y h

-- it was there, or that is the place
pub changed_place : {A : Type 0} (xs : List A) (j : ℕ) (change : A → A) (i : ℕ) (y : A) → slice_get (change_at j change xs) i ≡ Some y → (slice_get xs i ≡ Some y) ⊎ (i ≡ j)
changed_place [] j change i y h = inl h
changed_place (x ∷ xs) zero change zero y h = inr refl
changed_place (x ∷ xs) zero change (suc i) y h = inl h
changed_place (x ∷ xs) (suc j) change zero y h = inl h
changed_place (x ∷ xs) (suc j) change (suc i) y h = next_place (changed_place xs j change i y h)
  where
    next_place : (slice_get xs i ≡ Some y) ⊎ (i ≡ j) → (slice_get xs i ≡ Some y) ⊎ (suc i ≡ suc j)
    next_place (inl g) = inl g
    next_place (inr e) = inr (ap suc e)

pub changed_there : {A : Type 0} (xs : List A) (j : ℕ) (change : A → A) (x : A) → slice_get xs j ≡ Some x → slice_get (change_at j change xs) j ≡ Some (change x)
changed_there [] j change x h = absurd (cc)
changed_there (y ∷ xs) zero change x h = ap Some (ap change (one_is y x h))
changed_there (y ∷ xs) (suc j) change x h = changed_there xs j change x h

-- ---- tags and names

pub tag_through : (ys zs : List KnownStructure) (t : Tagged) → StructuresKept ys zs → IsTag ys t → IsTag zs t
tag_through ys zs t b h = λ i e. let k = h i e in let l = b i k.0 k.1 in (l.0, l.1)

kept_twice : {A : Type 0} (Old New : A → Type 0) (a b c : Option A) → ((d : A) → Old d → New d) → Kept Old a b → Kept New b c → Kept New a c
kept_twice Old New a b c f (inl e) (inl g) = inl (g ∙ e)
kept_twice Old New a b c f (inr h) (inl g) = inr (h.0, g ∙ h.1, f h.0 h.2)
kept_twice Old New a b c f h (inr g) = inr g

-- ---- growth

pub grows_itself : (New : Designated → Type 0) (s : State) → Grows New s s
grows_itself New s = record { outer = refl; here = λ x. inl refl; tags = λ x. inl refl; structures = all_kept s.structures; names = ([], sym (append_nothing s.names)); locals = refl }

pub grows_through : (New : Designated → Type 0) (s t u : State) → Grows New s t → Grows New t u → Grows New s u
grows_through New s t u a b = record {
  outer = b.outer ∙ a.outer;
  here = λ x. kept_twice New New (find_name x (innermost s.scopes).names) (find_name x (innermost t.scopes).names) (find_name x (innermost u.scopes).names) (λ d h. h) (a.here x) (b.here x);
  tags = λ x. kept_twice (IsTag t.structures) (IsTag u.structures) (find_name x (innermost s.scopes).tags) (find_name x (innermost t.scopes).tags) (find_name x (innermost u.scopes).tags)
      (λ d h. tag_through t.structures u.structures d b.structures h) (a.tags x) (b.tags x);
  structures = structures_through s.structures t.structures u.structures a.structures b.structures;
  names = (a.names.0 ++ b.names.0, b.names.1 ∙ ap (λ xs. xs ++ b.names.0) a.names.1 ∙ append_assoc s.names a.names.0 b.names.0);
  locals = b.locals ∙ a.locals;
}

pub grows_wider : (New Wide : Designated → Type 0) → ((d : Designated) → New d → Wide d) → (s t : State) → Grows New s t → Grows Wide s t
grows_wider New Wide f s t g = record {
  outer = g.outer;
  here = λ x. kept_twice New Wide (find_name x (innermost s.scopes).names) (find_name x (innermost t.scopes).names) (find_name x (innermost t.scopes).names) f (g.here x) (inl refl);
  tags = g.tags;
  structures = g.structures;
  names = g.names;
  locals = g.locals;
}

constant_is_parameter : (target : Target) (d : Designated) → IsConstant target d → IsParameter target d
constant_is_parameter target (means.Enumerator n) h = h
constant_is_parameter target (means.Linked i) h = elim h [ ]
constant_is_parameter target (means.Automatic n t) h = elim h [ ]
constant_is_parameter target (means.TypeNamed t) h = elim h [ ]

pub as_parameters : (target : Target) (s t : State) → Grows (IsConstant target) s t → Grows (IsParameter target) s t
as_parameters target s t g = grows_wider (IsConstant target) (IsParameter target) (constant_is_parameter target) s t g

-- ---- what is declared

module _ {A : Type 0} (x k : Name) (a d : A) (rest other : List (Name × A)) where
  abbrev Found : List (Name × A) → Type 0
  Found bs = (find_name x bs ≡ find_name x ((k, a) ∷ rest)) ⊎ (find_name x bs ≡ Some d)

  found_behind : bytes_eq x k ≡ false → (find_name x other ≡ find_name x rest) ⊎ (find_name x other ≡ Some d) → Found ((k, a) ∷ other)
  found_behind e (inl h) = inl (ap (λ (z : Bool). if z then Some a else find_name x other) e ∙ h ∙ sym (ap (λ (z : Bool). if z then Some a else find_name x rest) e))
  found_behind e (inr h) = inr (ap (λ (z : Bool). if z then Some a else find_name x other) e ∙ h)

  found_by : (c e : Bool) → bytes_eq x k ≡ e → (find_name x other ≡ find_name x rest) ⊎ (find_name x other ≡ Some d) → Found (if c then (k, d) ∷ rest else (k, a) ∷ other)
  found_by true true e h = inr (ap (λ (z : Bool). if z then Some d else find_name x rest) e)
  found_by true false e h = inl (ap (λ (z : Bool). if z then Some d else find_name x rest) e ∙ sym (ap (λ (z : Bool). if z then Some a else find_name x rest) e))
  found_by false true e h = inl (ap (λ (z : Bool). if z then Some a else find_name x other) e ∙ sym (ap (λ (z : Bool). if z then Some a else find_name x rest) e))
  found_by false false e h = found_behind e h

found_only : {A : Type 0} (d : A) (b : Bool) → ((if b then Some d else None) ≡ None) ⊎ ((if b then Some d else None) ≡ Some d)
found_only d true = inr refl
found_only d false = inl refl

-- a name that is bound stands for this, and each other name for what it did
find_with : {A : Type 0} (x y : Name) (d : A) (bs : List (Name × A)) → (find_name x (with_name y d bs) ≡ find_name x bs) ⊎ (find_name x (with_name y d bs) ≡ Some d)
find_with x y d [] = found_only d (bytes_eq x y)
find_with x y d (b ∷ rest) = found_by x b.0 b.1 d rest (with_name y d rest) (bytes_eq y b.0) (bytes_eq x b.0) refl (find_with x y d rest)

outer_stays : (change : Scope → Scope) (scopes : List Scope) → outer_scopes (in_innermost change scopes) ≡ outer_scopes scopes
outer_stays change [] = refl
outer_stays change (scope ∷ outer) = refl

inner_changes : (change : Scope → Scope) (scopes : List Scope) → innermost (in_innermost change scopes) ≡ change (innermost scopes)
inner_changes change [] = refl
inner_changes change (scope ∷ outer) = refl

kept_by : {A : Type 0} (New : A → Type 0) (d : A) (a b : Option A) → New d → (b ≡ a) ⊎ (b ≡ Some d) → Kept New a b
kept_by New d a b h (inl e) = inl e
kept_by New d a b h (inr e) = inr (d, e, h)

pub bind_grows : (New : Designated → Type 0) (x : Name) (d : Designated) (s : State) → New d → Grows New s (bind x d s)
bind_grows New x d s h =
    let change : Scope → Scope = λ scope. record { names = with_name x d scope.names; tags = scope.tags } in
    let e = inner_changes change s.scopes in
    record {
      outer = outer_stays change s.scopes;
      here = λ y. subst (λ (c : Scope). Kept New (find_name y (innermost s.scopes).names) (find_name y c.names)) (sym e)
          (kept_by New d (find_name y (innermost s.scopes).names) (find_name y (with_name x d (innermost s.scopes).names)) h (find_with y x d (innermost s.scopes).names));
      tags = λ y. inl (ap (λ (c : Scope). find_name y c.tags) e);
      structures = all_kept s.structures;
      names = ([], sym (append_nothing s.names));
      locals = refl;
    }

pub bind_tag_grows : (New : Designated → Type 0) (x : Name) (t : Tagged) (s : State) → IsTag s.structures t → Grows New s (bind_tag x t s)
bind_tag_grows New x t s h =
    let change : Scope → Scope = λ scope. record { names = scope.names; tags = with_name x t scope.tags } in
    let e = inner_changes change s.scopes in
    record {
      outer = outer_stays change s.scopes;
      here = λ y. inl (ap (λ (c : Scope). find_name y c.names) e);
      tags = λ y. subst (λ (c : Scope). Kept (IsTag s.structures) (find_name y (innermost s.scopes).tags) (find_name y c.tags)) (sym e)
          (kept_by (IsTag s.structures) t (find_name y (innermost s.scopes).tags) (find_name y (with_name x t (innermost s.scopes).tags)) h (find_with y x t (innermost s.scopes).tags));
      structures = all_kept s.structures;
      names = ([], sym (append_nothing s.names));
      locals = refl;
    }

pub structure_grows : (New : Designated → Type 0) (k : KnownStructure) (s : State) → Grows New s (with_structures (s.structures ++ k ∷ []) s)
structure_grows New k s = record { outer = refl; here = λ x. inl refl; tags = λ x. inl refl; structures = one_more_structure s.structures k; names = ([], sym (append_nothing s.names)); locals = refl }

pub declared_grows : (New : Designated → Type 0) (d : Declared) (s : State) → Grows New s (with_declared d s)
declared_grows New d s = record { outer = refl; here = λ x. inl refl; tags = λ x. inl refl; structures = all_kept s.structures; names = (d ∷ [], refl); locals = refl }

-- what is declared in the operand of sizeof has no place in memory
pub forgotten_grows : (New : Designated → Type 0) (s t : State) → Grows New s t → Grows New s (with_names (take (length s.names) t.names) t)
forgotten_grows New s t g = record {
  outer = g.outer;
  here = g.here;
  tags = g.tags;
  structures = g.structures;
  names = ([], ap (take (length s.names)) g.names.1 ∙ take_front s.names g.names.0 ∙ sym (append_nothing s.names));
  locals = g.locals;
}

-- a scope that was entered is left: of what was declared in it nothing is in scope
pub scope_left : (New : Designated → Type 0) (target : Target) (s t : State) → Grows New (entered empty s) t → Grows (IsConstant target) s (left t)
scope_left New target s t g = record {
  outer = ap outer_scopes g.outer;
  here = λ x. inl (ap (λ (scopes : List Scope). find_name x (innermost scopes).names) g.outer);
  tags = λ x. inl (ap (λ (scopes : List Scope). find_name x (innermost scopes).tags) g.outer);
  structures = g.structures;
  names = g.names;
  locals = g.locals;
}

-- ---- what names stand for

designated-opens : (x : Name) (scopes : List Scope) → designated x scopes ≡ or_else (find_name x (innermost scopes).names) (designated x (outer_scopes scopes))
designated-opens x [] = refl
designated-opens x (scope ∷ outer) = refl

pub tagged-opens : (x : Name) (scopes : List Scope) → tagged x scopes ≡ or_else (find_name x (innermost scopes).tags) (tagged x (outer_scopes scopes))
tagged-opens x [] = refl
tagged-opens x (scope ∷ outer) = refl

in_outer : {A : Type 0} (New : A → Type 0) (a b o o' : Option A) → o' ≡ o → Kept New a b → Kept New (or_else a o) (or_else b o')
in_outer New a b o o' f (inl e) = inl (ap (λ z. or_else z o') e ∙ ap (or_else a) f)
in_outer New a b o o' f (inr h) = inr (h.0, ap (λ z. or_else z o') h.1, h.2)

pub designated_kept : (New : Designated → Type 0) (s t : State) (x : Name) → Grows New s t → Kept New (designated x s.scopes) (designated x t.scopes)
designated_kept New s t x g =
    let k = in_outer New (find_name x (innermost s.scopes).names) (find_name x (innermost t.scopes).names) (designated x (outer_scopes s.scopes)) (designated x (outer_scopes t.scopes)) (ap (designated x) g.outer) (g.here x) in
    subst (λ (a : Option Designated). Kept New a (designated x t.scopes)) (sym (designated-opens x s.scopes))
    (subst (λ (b : Option Designated). Kept New (or_else (find_name x (innermost s.scopes).names) (designated x (outer_scopes s.scopes))) b) (sym (designated-opens x t.scopes)) k)

pub tagged_kept : (New : Designated → Type 0) (s t : State) (x : Name) → Grows New s t → Kept (IsTag t.structures) (tagged x s.scopes) (tagged x t.scopes)
tagged_kept New s t x g =
    let k = in_outer (IsTag t.structures) (find_name x (innermost s.scopes).tags) (find_name x (innermost t.scopes).tags) (tagged x (outer_scopes s.scopes)) (tagged x (outer_scopes t.scopes)) (ap (tagged x) g.outer) (g.tags x) in
    subst (λ (a : Option Tagged). Kept (IsTag t.structures) a (tagged x t.scopes)) (sym (tagged-opens x s.scopes))
    (subst (λ (b : Option Tagged). Kept (IsTag t.structures) (or_else (find_name x (innermost s.scopes).tags) (tagged x (outer_scopes s.scopes))) b) (sym (tagged-opens x t.scopes)) k)

some_is : {A : Type 0} (a b : A) → Some a ≡ Some b → a ≡ b
some_is a b h = cc

-- ---- what stood stands behind it

module _ (v : View) where
  tag_there : (structures : List KnownStructure) (t : Tagged) → KnowsStructures v structures → IsTag structures t → (i : ℕ) → t ≡ tag.StructureTag i → IsThere v i
  tag_there structures t w h i e = let k = h i e in let x = w i k.0 k.1 in (x.extent, x.there)

  tags_by : (s t : State) (x : Name) (u : Tagged) → KnowsStructures v t.structures → TagsStand v s → Kept (IsTag t.structures) (tagged x s.scopes) (tagged x t.scopes) → tagged x t.scopes ≡ Some u → (i : ℕ) → u ≡ tag.StructureTag i → IsThere v i
  tags_by s t x u w h (inl e) f i g = h x u (sym e ∙ f) i g
  tags_by s t x u w h (inr n) f i g = tag_there t.structures u w (subst (IsTag t.structures) (some_is n.0 u (sym n.1 ∙ f)) n.2) i g

  pub tags_stand : (New : Designated → Type 0) (s t : State) → Grows New s t → KnowsStructures v t.structures → TagsStand v s → TagsStand v t
  tags_stand New s t g w h = λ x u f. tags_by s t x u w h (tagged_kept New s t x g) f

  types_by : (New : Designated → Type 0) → ((t : CType) → New (means.TypeNamed t) → ⊥) → (s t : State) (x : Name) (u : CType) → TypesStand v s → Kept New (designated x s.scopes) (designated x t.scopes) →
      designated x t.scopes ≡ Some (means.TypeNamed u) → Stands v u
  types_by New none s t x u h (inl e) f = h x u (sym e ∙ f)
  types_by New none s t x u h (inr n) f = absurd (none u (subst New (some_is n.0 (means.TypeNamed u) (sym n.1 ∙ f)) n.2))

  pub types_stand : (New : Designated → Type 0) → ((t : CType) → New (means.TypeNamed t) → ⊥) → (s t : State) → Grows New s t → TypesStand v s → TypesStand v t
  types_stand New none s t g h = λ x u f. types_by New none s t x u h (designated_kept New s t x g) f

  constant_is_object : (locals : List Named) (d : Designated) → IsConstant v.target d → IsObject v locals d
  constant_is_object locals (means.Enumerator n) h = h
  constant_is_object locals (means.Linked i) h = elim h [ ]
  constant_is_object locals (means.Automatic n t) h = elim h [ ]
  constant_is_object locals (means.TypeNamed t) h = elim h [ ]

  objects_by : (locals : List Named) (s t : State) (x : Name) (d : Designated) → ObjectsStand v locals s → Kept (IsConstant v.target) (designated x s.scopes) (designated x t.scopes) → designated x t.scopes ≡ Some d → IsObject v locals d
  objects_by locals s t x d h (inl e) f = h x d (sym e ∙ f)
  objects_by locals s t x d h (inr n) f = constant_is_object locals d (subst (IsConstant v.target) (some_is n.0 d (sym n.1 ∙ f)) n.2)

  pub objects_stand : (locals : List Named) (s t : State) → Grows (IsConstant v.target) s t → ObjectsStand v locals s → ObjectsStand v locals t
  objects_stand locals s t g h = λ x d f. objects_by locals s t x d h (designated_kept (IsConstant v.target) s t x g) f

  -- ---- what a view knows behind it, it knows in front of it

  knows_by : (i : ℕ) (k l : KnownStructure) → StructureKept k l → KnowsStructure v i l → KnowsStructure v i k
  knows_by i k l h w = record {
    extent = w.extent;
    there = w.there;
    complete = λ ms e n. let c = w.complete ms (h.members ms e) n in record { bytes = c.bytes ∙ ap (λ (a : Layout). Some (Some a.size)) (h.layout ms e); content = c.content; at = c.at; members = c.members };
  }

  pub knows_structures : (xs ys : List KnownStructure) → StructuresKept xs ys → KnowsStructures v ys → KnowsStructures v xs
  knows_structures xs ys h w = λ i k e. let l = h i k e in knows_by i k l.0 l.2 (w i l.0 l.1)

  pub knows_names : (xs ys more : List Declared) → ys ≡ xs ++ more → KnowsNames v ys → KnowsNames v xs
  knows_names xs ys more h w = λ i d e. w i d (ap (λ (zs : List Declared). slice_get zs i) h ∙ get_front xs more i d e)

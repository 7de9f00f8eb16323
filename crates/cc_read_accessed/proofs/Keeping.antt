-- What stays of entries where names are declared, defined as objects, or told more of: functions with their bodies, and how often they are defined.
-- An entry without a name is defined no more than once.
use Rattle.std.proofs.Common.{◌≡◌, ◌⊎◌, inl, inr, ℕ, zero, suc, Bool, true, false, List, [], ◌∷◌, ◌++◌, length, Option, Some, None, refl, ap, sym, ◌∙◌, subst}
use Rattle.std.specs.Prelude.{is_some, nat_lt, slice_get}
use Rattle.cc_type.specs.CcLinkage.Linkage.{declared_by, new_declared}
use Rattle.cc_type.specs.CcLinkage.declared.linkage.DeclaredAs.{DeclaredAs}
use Rattle.cc_type.specs.CcNumbering.Names.{count_of}
use Rattle.cc_program.specs.declared.func.Entry.{Entry}
use Rattle.cc_program.specs.declared.func.Func.{Func}
use Rattle.cc_program.specs.declared.types.CType.{CType}
use Rattle.cc_program.specs.declared.value.Leaf.{Leaf}
use Rattle.cc_type.specs.CcScopes.Definitions.{entry_added, tentative_at, with_entry}
use Rattle.cc_type.specs.CcScopes.State.{State, Name, bind, change_at, change_name, with_declared}
use Rattle.cc_type.specs.CcScopes.declared.designated.Designated.TheVariants as means
use Rattle.cc_type.specs.CcScopes.declared.unit.Declared.{Declared}
use Rattle.cc_sound_terms.proofs.Behind.{last_or_front}
use Rattle.cc_sound_terms.proofs.Growth.{get_front}
use Rattle.cc_sound_terms.specs.Behind.{Extends, HasEntry, IsUnnamed, OfString, OfDevice, SameKind, Objects, Devices, Functions}
use Rattle.cc_type.specs.CcSyntax.Views.{View}
use Rattle.cc_type.specs.CcUnit.Entries.{both_entries}
use Rattle.cc_type.specs.CcUnit.declared.unit.UnitKind.{UnitKind}
use Rattle.cc_type.specs.CcUnit.declared.unit.UnitKind.TheVariants as kind

pub some_is : {A : Type 0} (a b : A) → Some a ≡ Some b → a ≡ b
some_is a b h = cc

pub record Stays (d e : Declared) : Type 0 where
  pub name : e.name ≡ d.name
  pub functions : (by : Option Entry) (f : Option Func) → d.kind ≡ kind.Func by f → (by' : Option Entry) × (e.kind ≡ kind.Func by' f) × (e.definitions ≡ d.definitions)

abbrev pub IsOnce : Declared → Type 0
IsOnce d = is_some d.name ≡ false → nat_lt 1 (count_of d.tentative d.definitions) ≡ false

abbrev pub AreOnce : List Declared → Type 0
AreOnce names = (i : ℕ) (d : Declared) → slice_get names i ≡ Some d → IsOnce d

pub record Keeps (s t : State) : Type 0 where
  pub stays : (i : ℕ) (d : Declared) → slice_get s.names i ≡ Some d → (e : Declared) × (slice_get t.names i ≡ Some e) × Stays d e
  pub once : AreOnce s.names → AreOnce t.names

-- ---- one behind another

pub stays_itself : (d : Declared) → Stays d d
stays_itself d = record { name = refl; functions = λ by f e. (by, e, refl) }

pub stays_through : (d e g : Declared) → Stays d e → Stays e g → Stays d g
stays_through d e g a b = record { name = b.name ∙ a.name; functions = λ by f k. let x = a.functions by f k in let y = b.functions x.0 f x.1 in (y.0, y.1, y.2 ∙ x.2) }

pub keeps_names : (s t : State) → t.names ≡ s.names → Keeps s t
keeps_names s t e = record {
  stays = λ i d h. (d, ap (λ (xs : List Declared). slice_get xs i) e ∙ h, stays_itself d);
  once = λ o i d h. o i d (ap (λ (xs : List Declared). slice_get xs i) (sym e) ∙ h);
}

pub keeps_itself : (s : State) → Keeps s s
keeps_itself s = keeps_names s s refl

pub keeps_through : (s t u : State) → Keeps s t → Keeps t u → Keeps s u
keeps_through s t u a b = record {
  stays = λ i d h. let x = a.stays i d h in let y = b.stays i x.0 x.1 in (y.0, y.1, stays_through d x.0 y.0 x.2 y.2);
  once = λ o. b.once (a.once o);
}

pub keeps_as : (s t u : State) → u ≡ t → Keeps s t → Keeps s u
keeps_as s t u e k = subst (Keeps s) (sym e) k

-- ---- more behind

once_by : (s : State) (i : ℕ) (more : List Declared) (t : State) (d : Declared) → t.names ≡ s.names ++ more → AreOnce s.names → slice_get t.names i ≡ Some d → HasEntry s.names i ⊎ IsOnce d → IsOnce d
once_by s i more t d e o h (inr n) = n
once_by s i more t d e o h (inl c) =
    let there = ap (λ (xs : List Declared). slice_get xs i) e ∙ get_front s.names more i c.0 c.1 in
    subst IsOnce (some_is c.0 d (sym there ∙ h)) (o i c.0 c.1)

pub keeps_more : (s t : State) (more : List Declared) → t.names ≡ s.names ++ more → ((i : ℕ) (d : Declared) → slice_get t.names i ≡ Some d → HasEntry s.names i ⊎ IsOnce d) → Keeps s t
keeps_more s t more e f = record {
  stays = λ i d h. (d, ap (λ (xs : List Declared). slice_get xs i) e ∙ get_front s.names more i d h, stays_itself d);
  once = λ o i d h. once_by s i more t d e o h (f i d h);
}

-- strings are defined where they stand, and devices without a name nowhere
unnamed_once : (v : View) (d : Declared) → IsUnnamed v.target d → IsOnce d
unnamed_once v _ (OfString at bytes h) e = refl
unnamed_once v _ (OfDevice n constant t h) e = refl

pub keeps_extends : (v : View) (s t : State) → Extends v s t → Keeps s t
keeps_extends v s t g = keeps_more s t g.grows.names.0 g.grows.names.1 (λ i d h. of_added i d (g.added i d h))
  where
    of_added : (i : ℕ) (d : Declared) → HasEntry s.names i ⊎ IsUnnamed v.target d → HasEntry s.names i ⊎ IsOnce d
    of_added i d (inl c) = inl c
    of_added i d (inr u) = inr (unnamed_once v d u)

no_name : {A : Type 0} (x : Name) → is_some (Some x) ≡ false → A
no_name x e = absurd (cc)

pub named_once : (d : Declared) (x : Name) → d.name ≡ Some x → IsOnce d
named_once d x n e = no_name x (sym (ap is_some n) ∙ e)

pub keeps_declared : (v : View) (d : Declared) (s : State) (x : Name) → d.name ≡ Some x → Keeps s (with_declared d s)
keeps_declared v d s x n = keeps_more s (with_declared d s) (d ∷ []) refl (λ i e h. of_last i e (last_or_front v s.names d i e h))
  where
    of_last : (i : ℕ) (e : Declared) → (slice_get s.names i ≡ Some e) ⊎ (d ≡ e) → HasEntry s.names i ⊎ IsOnce e
    of_last i e (inl h) = inl (e, h)
    of_last i e (inr h) = inr (subst IsOnce h (named_once d x n))

-- a name with linkage is declared
pub known_keeps : (v : View) (x : Name) (asked : DeclaredAs) (t : CType) (k : UnitKind) (s : State) (o : Option ℕ) → Keeps s (declared_by x asked t k s o).1
known_keeps v x asked t k s (Some i) = keeps_names s (bind x (means.Linked i) s) refl
known_keeps v x asked t k s None =
    let d = new_declared x asked t k in
    let start = with_declared d s in
    keeps_through s start (bind x (means.Linked (length s.names)) start) (keeps_declared v d s x refl) (keeps_names start (bind x (means.Linked (length s.names)) start) refl)

-- ---- an entry that is told more of

stays_at : (xs : List Declared) (i : ℕ) (change : Declared → Declared) → ((d : Declared) → slice_get xs i ≡ Some d → Stays d (change d)) → (j : ℕ) (d : Declared) → slice_get xs j ≡ Some d →
    (e : Declared) × (slice_get (change_at i change xs) j ≡ Some e) × Stays d e
stays_at [] i change f j d h = absurd (cc)
stays_at (x ∷ xs) zero change f zero d h = (change d, ap (λ (z : Declared). Some (change z)) (some_is x d h), f d h)
stays_at (x ∷ xs) zero change f (suc j) d h = (d, h, stays_itself d)
stays_at (x ∷ xs) (suc i) change f zero d h = (d, h, stays_itself d)
stays_at (x ∷ xs) (suc i) change f (suc j) d h = stays_at xs i change f j d h

once_at : (xs : List Declared) (i : ℕ) (change : Declared → Declared) → ((d : Declared) → slice_get xs i ≡ Some d → IsOnce d → IsOnce (change d)) → AreOnce xs → (j : ℕ) (e : Declared) → slice_get (change_at i change xs) j ≡ Some e → IsOnce e
once_at [] i change g o j e h = absurd (cc)
once_at (x ∷ xs) zero change g o zero e h = subst IsOnce (some_is (change x) e h) (g x refl (o zero x refl))
once_at (x ∷ xs) zero change g o (suc j) e h = o (suc j) e h
once_at (x ∷ xs) (suc i) change g o zero e h = o zero e h
once_at (x ∷ xs) (suc i) change g o (suc j) e h = once_at xs i change g (λ k d p. o (suc k) d p) j e h

pub keeps_changed : (i : ℕ) (change : Declared → Declared) (s : State) → ((d : Declared) → slice_get s.names i ≡ Some d → Stays d (change d)) → ((d : Declared) → slice_get s.names i ≡ Some d → IsOnce d → IsOnce (change d)) → Keeps s (change_name i change s)
keeps_changed i change s f g = record {
  stays = λ j d h. stays_at s.names i change f j d h;
  once = λ o j e h. once_at s.names i change g o j e h;
}

-- whether it is defined again or not
pub once_told : (i : ℕ) (change : Declared → Declared) (s : State) → ((d : Declared) → slice_get s.names i ≡ Some d → IsOnce d → IsOnce (change d)) → AreOnce s.names → AreOnce (change_name i change s).names
once_told i change s g o = λ j e h. once_at s.names i change g o j e h

-- attributes
pub keeps_entry : (i : ℕ) (entry : Option Entry) (s : State) → Keeps s (change_name i (with_entry entry) s)
keeps_entry i entry s = keeps_changed i (with_entry entry) s (λ d h. record { name = refl; functions = λ by f e. (both_entries by entry, ap (entry_added entry) e, refl) }) (λ d h o. o)

-- a tentative definition
tentative_once : (b : Bool) (n : ℕ) → nat_lt 1 (count_of b n) ≡ false → nat_lt 1 (count_of true n) ≡ false
tentative_once b zero h = refl
tentative_once b (suc n) h = h

pub keeps_tentative : (i at : ℕ) (s : State) → Keeps s (change_name i (tentative_at at) s)
keeps_tentative i at s = keeps_changed i (tentative_at at) s (λ d h. record { name = refl; functions = λ by f e. (by, e, refl) }) (λ d h o e. tentative_once d.tentative d.definitions (o e))

-- what was an object stays none
no_function : {A : Type 0} (leaves : List Leaf) (by : Option Entry) (f : Option Func) → kind.Object leaves ≡ kind.Func by f → A
no_function leaves by f h = absurd (cc)

pub object_stays_so : (d e : Declared) (leaves : List Leaf) → e.name ≡ d.name → d.kind ≡ kind.Object leaves → Stays d e
object_stays_so d e leaves n k = record { name = n; functions = λ by f h. no_function leaves by f (sym k ∙ h) }

pub was_object : (k l : UnitKind) (leaves : List Leaf) → SameKind k l → l ≡ kind.Object leaves → (before : List Leaf) × (k ≡ kind.Object before)
was_object _ _ leaves (Objects before after) e = (before, refl)
was_object _ _ leaves (Devices d) e = absurd (cc)
was_object _ _ leaves (Functions a b c d) e = absurd (cc)

-- ---- what stands at one place is one entry

pub object_at : (names : List Declared) (n : ℕ) (e d : Declared) (leaves : List Leaf) → slice_get names n ≡ Some e → slice_get names n ≡ Some d → e.kind ≡ kind.Object leaves → d.kind ≡ kind.Object leaves
object_at names n e d leaves h k o = ap (λ (z : Declared). z.kind) (sym (some_is e d (sym h ∙ k))) ∙ o

pub named_at : (names : List Declared) (n : ℕ) (e d : Declared) (x : Name) → slice_get names n ≡ Some e → slice_get names n ≡ Some d → e.name ≡ Some x → d.name ≡ Some x
named_at names n e d x h k o = ap (λ (z : Declared). z.name) (sym (some_is e d (sym h ∙ k))) ∙ o

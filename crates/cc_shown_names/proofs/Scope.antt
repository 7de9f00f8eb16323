-- The scope of the file where each name designates what has its position: a name that is new is declared behind all others, and
-- one that is there keeps its number.
use Rattle.std.proofs.Common.{arith, ◌≡◌, ◌⊎◌, inl, inr, ℕ, zero, suc, ◌+◌, Bool, true, false, ◌&&◌, List, [], ◌∷◌, ◌++◌, map, length, Option, Some, None, refl, ap, sym, ◌∙◌, slice_get, nat_eq, eq-eqb}
use Rattle.std.specs.Prelude.{if◌then◌else◌}
use Rattle.std.specs.Str.{bytes_eq}
use Rattle.cc_type.specs.CcLinkage.Linkage.{is_free_for, repeats, may_be_declared, agrees_with, is_visible, new_declared, declared, declared_by}
use Rattle.cc_type.specs.CcLinkage.declared.linkage.DeclaredAs.{DeclaredAs}
use Rattle.cc_program.specs.declared.program.Program.{Program}
use Rattle.cc_program.specs.declared.types.CType.{CType}
use Rattle.cc_type.specs.CcScopes.Linked.{is_linked, has_name, linked_from, linked_name}
use Rattle.cc_type.specs.CcScopes.State.{State, Name, name_or_none, find_name, with_name, named_here, with_names, change_at, change_name}
use Rattle.cc_type.specs.CcScopes.declared.designated.Designated.{Designated}
use Rattle.cc_type.specs.CcScopes.declared.designated.Designated.TheVariants as means
use Rattle.cc_type.specs.CcScopes.declared.unit.Declared.{Declared}
use Rattle.cc_type.specs.CcUnit.declared.unit.UnitKind.{UnitKind}
use Rattle.cc_shown_names.proofs.Names.{name-itself, names-turned}
use Rattle.cc_shown_declarations.specs.Order.{appearance}
use Rattle.cc_shown_declarations.specs.States.{tag_entry}
use Rattle.cc_shown_names.specs.States.{bound_from, unit_state}
use Rattle.cc_shown_names.proofs.Keys.{Distinct, behind-first, second-there, parts-apart}

abbrev pub key : Declared → Name
key d = name_or_none d.name

abbrev pub keys : List Declared → List Name
keys ds = map key ds

-- ---- a name that no other has

abbrev pub IsNew : Name → List Declared → Type 0
IsNew x names = (j : ℕ) (y : Name) → slice_get (keys names) j ≡ Some y → bytes_eq x y ≡ false

new-first : (x : Name) (e : Declared) (es : List Declared) → IsNew x (e ∷ es) → bytes_eq x (key e) ≡ false
new-first x e es h = h 0 (key e) refl

new-rest : (x : Name) (e : Declared) (es : List Declared) → IsNew x (e ∷ es) → IsNew x es
new-rest x e es h j y g = h (suc j) y g

-- it is the next of these
pub next-new : (names : List Declared) (x : Name) (rest : List Name) → Distinct (keys names ++ (x ∷ rest)) → IsNew x names
next-new names x rest d j y g = names-turned y x (parts-apart (keys names) (x ∷ rest) d j 0 y x g refl)

pub not-found : (i : ℕ) (names : List Declared) (x : Name) → IsNew x names → find_name x (bound_from i names) ≡ None
not-found i [] x h = refl
not-found i (e ∷ es) x h =
    ap (λ b. if b then Some (means.Linked i) else find_name x (bound_from (suc i) es)) (new-first x e es h) ∙ not-found (suc i) es x (new-rest x e es h)

pub bound-next : (i m : ℕ) (names : List Declared) (x : Name) (d : Declared) → m ≡ i + length names → key d ≡ x → IsNew x names → with_name x (means.Linked m) (bound_from i names) ≡ bound_from i (names ++ d ∷ [])
bound-next i m [] x d e k h =
    let n : m ≡ i = omega (arith, e) in
    ap (λ m. (x, means.Linked m) ∷ []) n ∙ ap (λ x. (x, means.Linked i) ∷ []) (sym k)
bound-next i m (c ∷ cs) x d e k h =
    let n : m ≡ suc i + length cs = omega (arith, e) in
    ap (λ b. if b then (key c, means.Linked m) ∷ bound_from (suc i) cs else (key c, means.Linked i) ∷ with_name x (means.Linked m) (bound_from (suc i) cs)) (new-first x c cs h)
    ∙ ap (λ rest. (key c, means.Linked i) ∷ rest) (bound-next (suc i) m cs x d n k (new-rest x c cs h))

no-name : (x : Name) (o : Option Name) → bytes_eq x (name_or_none o) ≡ false → has_name x o ≡ false
no-name x None h = refl
no-name x (Some y) h = h

and-false : (a b : Bool) → b ≡ false → a && b ≡ false
and-false true b h = h
and-false false b h = refl

pub linked-new : (i : ℕ) (names : List Declared) (x : Name) → IsNew x names → linked_from i x names ≡ None
linked-new i [] x h = refl
linked-new i (e ∷ es) x h =
    ap (λ b. if b then Some i else linked_from (suc i) x es) (and-false (is_linked e.linkage) (has_name x e.name) (no-name x e.name (new-first x e es h)))
    ∙ linked-new (suc i) es x (new-rest x e es h)

-- ---- a name that is there

apart-by : (j : ℕ) (x y : Name) → (suc j ≡ 0) ⊎ (bytes_eq x y ≡ false) → bytes_eq x y ≡ false
apart-by j x y (inl e) = absurd (omega (arith, e))
apart-by j x y (inr h) = h

pub key-there : (names : List Declared) (k : ℕ) (d : Declared) → slice_get names k ≡ Some d → slice_get (keys names) k ≡ Some (key d)
key-there [] k d h = absurd (cc)
key-there (e ∷ es) zero d h = let same : e ≡ d = cc in ap (λ d. Some (key d)) same
key-there (e ∷ es) (suc k) d h = key-there es k d h

pub found-at : (i m : ℕ) (names : List Declared) (k : ℕ) (d : Declared) → Distinct (keys names) → slice_get names k ≡ Some d → m ≡ i + k → find_name (key d) (bound_from i names) ≡ Some (means.Linked m)
found-at i m [] k d a h e = absurd (cc)
found-at i m (c ∷ cs) zero d a h e =
    let same : c ≡ d = cc in
    let n : i ≡ m = omega (arith, e) in
    ap (λ b. if b then Some (means.Linked i) else find_name (key d) (bound_from (suc i) cs)) (ap (λ c. bytes_eq (key d) (key c)) same ∙ name-itself (key d))
    ∙ ap (λ m. Some (means.Linked m)) n
found-at i m (c ∷ cs) (suc k) d a h e =
    let n : m ≡ suc i + k = omega (arith, e) in
    ap (λ b. if b then Some (means.Linked i) else find_name (key d) (bound_from (suc i) cs)) (apart-by k (key d) (key c) (a (suc k) 0 (key d) (key c) (key-there cs k d h) refl))
    ∙ found-at (suc i) m cs k d (behind-first (key c) (keys cs) a) h n

named-itself : (d : Declared) (x : Name) → d.name ≡ Some x → has_name x d.name ≡ true
named-itself d x h = ap (has_name x) h ∙ name-itself x

both-by : (a b : Bool) → a ≡ true → b ≡ true → a && b ≡ true
both-by true b h k = k
both-by false b h k = absurd (cc)

pub linked-at : (i m : ℕ) (names : List Declared) (k : ℕ) (d : Declared) (x : Name) → Distinct (keys names) → slice_get names k ≡ Some d → d.name ≡ Some x → is_linked d.linkage ≡ true → m ≡ i + k → linked_from i x names ≡ Some m
linked-at i m [] k d x a h g l e = absurd (cc)
linked-at i m (c ∷ cs) zero d x a h g l e =
    let same : c ≡ d = cc in
    let n : i ≡ m = omega (arith, e) in
    ap (λ b. if b then Some i else linked_from (suc i) x cs) (ap (λ (c : Declared). is_linked c.linkage && has_name x c.name) same ∙ both-by (is_linked d.linkage) (has_name x d.name) l (named-itself d x g))
    ∙ ap Some n
linked-at i m (c ∷ cs) (suc k) d x a h g l e =
    let n : m ≡ suc i + k = omega (arith, e) in
    let own : key d ≡ x = ap name_or_none g in
    let other : bytes_eq x (key c) ≡ false = ap (λ x. bytes_eq x (key c)) (sym own) ∙ apart-by k (key d) (key c) (a (suc k) 0 (key d) (key c) (key-there cs k d h) refl) in
    ap (λ b. if b then Some i else linked_from (suc i) x cs) (and-false (is_linked c.linkage) (has_name x c.name) (no-name x c.name other))
    ∙ linked-at (suc i) m cs k d x (behind-first (key c) (keys cs) a) h g l n

same-by : (b : Bool) (x y : Name) (d e : Designated) (rest names : List (Name × Designated)) → (find_name x rest ≡ Some d → names ≡ rest) → (if b then Some e else find_name x rest) ≡ Some d → (if b then (y, d) ∷ rest else (y, e) ∷ names) ≡ (y, e) ∷ rest
same-by true x y d e rest names f h = let k : e ≡ d = cc in ap (λ d. (y, d) ∷ rest) (sym k)
same-by false x y d e rest names f h = ap (λ names. (y, e) ∷ names) (f h)

name-same : (x : Name) (d : Designated) (names : List (Name × Designated)) → find_name x names ≡ Some d → with_name x d names ≡ names
name-same x d [] h = absurd (cc)
name-same x d (b ∷ rest) h = same-by (bytes_eq x b.0) x b.0 d b.1 rest (with_name x d rest) (name-same x d rest) h

-- ---- one of them changes

pub changed-next : (names : List Declared) (k : ℕ) (change : Declared → Declared) (d : Declared) (rest : List Declared) → k ≡ length names → change_at k change (names ++ (d ∷ rest)) ≡ names ++ (change d ∷ rest)
changed-next [] zero change d rest e = refl
changed-next [] (suc k) change d rest e = absurd (omega (arith, e))
changed-next (c ∷ cs) zero change d rest e = absurd (omega (arith, e))
changed-next (c ∷ cs) (suc k) change d rest e = let f : k ≡ length cs = omega (arith, e) in ap (λ ds. c ∷ ds) (changed-next cs k change d rest f)

pub next-there : (names : List Declared) (k : ℕ) (d : Declared) (rest : List Declared) → k ≡ length names → slice_get (names ++ (d ∷ rest)) k ≡ Some d
next-there names k d rest e = let f : k ≡ length names + 0 = omega (arith, e) in second-there names (d ∷ rest) k 0 f

-- the scope has the names alone
abbrev bound_keys : ℕ → List Name → List (Name × Designated)
bound_keys i [] = []
bound_keys i (x ∷ xs) = (x, means.Linked i) ∷ bound_keys (suc i) xs

by-keys : (i : ℕ) (ds : List Declared) → bound_from i ds ≡ bound_keys i (keys ds)
by-keys i [] = refl
by-keys i (d ∷ ds) = ap (λ ns. (key d, means.Linked i) ∷ ns) (by-keys (suc i) ds)

pub bound-same : (ds es : List Declared) → keys ds ≡ keys es → bound_from 0 ds ≡ bound_from 0 es
bound-same ds es h = by-keys 0 ds ∙ ap (bound_keys 0) h ∙ sym (by-keys 0 es)

pub middle-keys : (xs ys : List Declared) (d e : Declared) → key d ≡ key e → keys (xs ++ (d ∷ ys)) ≡ keys (xs ++ (e ∷ ys))
middle-keys [] ys d e h = ap (λ k. k ∷ keys ys) h
middle-keys (x ∷ xs) ys d e h = ap (λ ks. key x ∷ ks) (middle-keys xs ys d e h)

-- ---- the states of a unit

pub change-there : (p : Program) (names rest : List Declared) (k : ℕ) (d e : Declared) (change : Declared → Declared) → k ≡ length names → change d ≡ e → key d ≡ key e →
    change_name k change (unit_state p (names ++ (d ∷ rest))) ≡ unit_state p (names ++ (e ∷ rest))
change-there p names rest k d e change n is same =
    let s = unit_state p (names ++ (d ∷ rest)) in
    ap (λ ds. with_names ds s) (changed-next names k change d rest n ∙ ap (λ e. names ++ (e ∷ rest)) is)
    ∙ ap (λ ns. record { scopes = record { names = ns; tags = map (tag_entry p) (appearance p) } ∷ []; structures = s.structures; completed = s.completed; names = names ++ (e ∷ rest); locals = []; unfinished = None })
    (bound-same (names ++ (d ∷ rest)) (names ++ (e ∷ rest)) (middle-keys names rest d e same))

module _ (p : Program) (names : List Declared) where
  abbrev now : State
  now = unit_state p names

  module _ (x : Name) (new : IsNew x names) where
    pub declared-next : (asked : DeclaredAs) (t : CType) (k : UnitKind) → declared x asked t k now ≡ (length names, unit_state p (names ++ new_declared x asked t k ∷ []))
    declared-next asked t k =
        let d = new_declared x asked t k in
        let n : length names ≡ 0 + length names = omega arith in
        ap (declared_by x asked t k now) (linked-new 0 names x new)
        ∙ ap (λ ns. (length names, record { scopes = record { names = ns; tags = map (tag_entry p) (appearance p) } ∷ []; structures = now.structures; completed = now.completed; names = names ++ d ∷ []; locals = []; unfinished = None }))
        (bound-next 0 (length names) names x d n refl new)

    pub may-be-new : (asked : DeclaredAs) (t : CType) → may_be_declared asked x t now ≡ true
    may-be-new asked t =
        ap (λ o. is_free_for o (named_here x now) && repeats asked x t now o) (linked-new 0 names x new)
        ∙ ap (λ o. is_free_for None o && true) (not-found 0 names x new)

  module _ (k : ℕ) (d : Declared) (x : Name) (apart : Distinct (keys names)) (there : slice_get names k ≡ Some d) (named : d.name ≡ Some x) (linked : is_linked d.linkage ≡ true) where
    n0 : k ≡ 0 + k
    n0 = omega arith

    pub found-here : find_name x (bound_from 0 names) ≡ Some (means.Linked k)
    found-here = ap (λ x. find_name x (bound_from 0 names)) (sym (ap name_or_none named)) ∙ found-at 0 k names k d apart there n0

    pub linked-here : linked_name x now ≡ Some k
    linked-here = linked-at 0 k names k d x apart there named linked n0

    pub declared-again : (asked : DeclaredAs) (t : CType) (kind : UnitKind) → declared x asked t kind now ≡ (k, now)
    declared-again asked t kind =
        ap (declared_by x asked t kind now) linked-here
        ∙ ap (λ ns. (k, record { scopes = record { names = ns; tags = map (tag_entry p) (appearance p) } ∷ []; structures = now.structures; completed = now.completed; names = names; locals = []; unfinished = None }))
        (name-same x (means.Linked k) (bound_from 0 names) found-here)

    pub may-be-again : (asked : DeclaredAs) (t : CType) → agrees_with asked (is_visible k x now) t (Some d) ≡ true → may_be_declared asked x t now ≡ true
    may-be-again asked t h =
        ap (λ o. is_free_for o (named_here x now) && repeats asked x t now o) linked-here
        ∙ ap (λ o. is_free_for (Some k) o && agrees_with asked (is_visible k x now) t (slice_get names k)) found-here
        ∙ ap (λ o. nat_eq k k && agrees_with asked (is_visible k x now) t o) there
        ∙ both-by (nat_eq k k) (agrees_with asked (is_visible k x now) t (Some d)) (eq-eqb k k refl) h

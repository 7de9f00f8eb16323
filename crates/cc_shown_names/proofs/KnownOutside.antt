-- Where all that a program names is declared: a function may be defined, it has its number, and its definition changes nothing
-- else.
use Rattle.std.proofs.Common.{◌≡◌, ◌⊎◌, inl, inr, ℕ, ◌+◌, ◌-◌, Bool, true, false, ◌&&◌, nat_eq, List, [], ◌∷◌, map, Option, Some, None, Ok, refl, ap, sym, ◌∙◌, slice_get, eq-eqb}
use Rattle.std.specs.Prelude.{if◌then◌else◌}
use Rattle.std.specs.Str.{bytes_eq}
use Rattle.cc_type.specs.CcDesignators.Designators.{TypedExpr}
use Rattle.cc_type.specs.CcLinkage.Linkage.{is_visible, agrees, may_be_by, agrees_with, repeats, is_free_for, may_be_declared, declared, declared_by}
use Rattle.cc_type.specs.CcLinkage.declared.linkage.DeclaredAs.TheVariants.{AsExtern}
use Rattle.cc_type.specs.CcTypedTerms.Devices.{declared_device, names_device, number_of}
use Rattle.cc_type.specs.CcTypedTerms.Primary.{linked_by, linked, designates, named_by, named, intrinsic_named}
use Rattle.cc_program.specs.declared.expr.Intr.{Intr}
use Rattle.cc_program.specs.declared.func.Entry.{Entry}
use Rattle.cc_program.specs.declared.func.Entry.TheVariants as entries
use Rattle.cc_program.specs.declared.func.Func.{Func}
use Rattle.cc_program.specs.declared.object.Device.{Device}
use Rattle.cc_program.specs.declared.program.Program.{Program}
use Rattle.cc_program.specs.declared.program.Roles.{Roles}
use Rattle.cc_program.specs.declared.types.CType.{CType}
use Rattle.cc_program.specs.declared.types.Shape.{out-Shape}
use Rattle.cc_program.specs.declared.types.Shape.TheVariants as shape_rolls
use Rattle.cc_type.specs.CcScopes.Definitions.{defined_at, with_entry, entry_added}
use Rattle.cc_type.specs.CcScopes.Linked.{is_linked, has_name, linked_name}
use Rattle.cc_type.specs.CcScopes.State.{State, Scope, Name, find_name, with_name, innermost, named_here, designated, in_innermost, with_scopes, with_names, with_locals, bind, change_name}
use Rattle.cc_type.specs.CcScopes.declared.designated.Designated.{Designated}
use Rattle.cc_type.specs.CcScopes.declared.designated.Designated.TheVariants as means
use Rattle.cc_type.specs.CcScopes.declared.unit.Declared.{Declared}
use Rattle.cc_type.proofs.CcSyntax.SameLemmas.{and_true, compared}
use Rattle.cc_type.specs.Functions.{defined_as, entry_at, entered_function}
use Rattle.cc_type.specs.CcUnit.Entries.{both_entries}
use Rattle.cc_type.specs.CcUnit.declared.unit.Linkage.TheVariants as linkage
use Rattle.cc_type.specs.CcUnit.declared.unit.UnitKind.{UnitKind}
use Rattle.cc_type.specs.CcUnit.declared.unit.UnitKind.TheVariants as kind
use Rattle.cc_shown_names.specs.Definitions.{IsKnownFunction}
use Rattle.cc_shown_names.proofs.Changes.{mapped-still, length-changed, changed-there, changed-other, unchanged, position-same, linked-same, linked-behind, stays-there, linked-there}
use Rattle.cc_shown_names.specs.Functions.{type_of_function}
use Rattle.cc_shown_expressions.specs.KnownNames.{KnowsNames}
use Rattle.cc_shown_expressions.specs.OperationNumbers.{Numbers}
use Rattle.cc_shown_names.specs.Devices.{KnowsDevices, between, with_devices}
use Rattle.cc_shown_expressions.specs.Known.{KnowsStructures}
use Rattle.cc_shown_expressions.specs.Numbers.{sig_numbered}

-- ---- a function that is declared is so again

same-by : (b : Bool) (x y : Name) (d e : Designated) (rest names : List (Name × Designated)) → (find_name x rest ≡ Some d → names ≡ rest) → (if b then Some e else find_name x rest) ≡ Some d → (if b then (y, d) ∷ rest else (y, e) ∷ names) ≡ (y, e) ∷ rest
same-by true x y d e rest names f h = let k : e ≡ d = cc in ap (λ d. (y, d) ∷ rest) (sym k)
same-by false x y d e rest names f h = ap (λ names. (y, e) ∷ names) (f h)

name-same : (x : Name) (d : Designated) (names : List (Name × Designated)) → find_name x names ≡ Some d → with_name x d names ≡ names
name-same x d [] h = absurd (cc)
name-same x d (b ∷ rest) h = same-by (bytes_eq x b.0) x b.0 d b.1 rest (with_name x d rest) (name-same x d rest) h

abbrev named_in : Name → Designated → Scope → Scope
named_in x d scope = record { names = with_name x d scope.names; tags = scope.tags }

scopes-same : (x : Name) (d : Designated) (scopes : List Scope) → find_name x (innermost scopes).names ≡ Some d → in_innermost (named_in x d) scopes ≡ scopes
scopes-same x d [] h = absurd (cc)
scopes-same x d (scope ∷ outer) h = ap (λ names. record { names = names; tags = scope.tags } ∷ outer) (name-same x d scope.names h)

bound-same : (x : Name) (d : Designated) (s : State) → named_here x s ≡ Some d → bind x d s ≡ s
bound-same x d s h = ap (λ scopes. with_scopes scopes s) (scopes-same x d s.scopes h)

entries-same : (e : Option Entry) → both_entries e None ≡ e
entries-same None = refl
entries-same (Some entries.Signal) = refl
entries-same (Some entries.Interrupt) = refl
entries-same (Some entries.Listed) = refl

kind-same : (k : UnitKind) → entry_added None k ≡ k
kind-same (kind.Func before body) = ap (λ e. kind.Func e body) (entries-same before)
kind-same (kind.Object leaves) = refl
kind-same (kind.Device d) = refl

entry-same : (d : Declared) → with_entry None d ≡ d
entry-same d = ap (λ k. record { name = d.name; linkage = d.linkage; ctype = d.ctype; first = d.first; tentative = d.tentative; definitions = d.definitions; kind = k }) (kind-same d.kind)

module _ (p : Program) (n : Numbers) (f : Func) (k : ℕ) (s : State) (known : IsKnownFunction n s f k) where
  abbrev type : CType
  type = type_of_function n f

  pub known-is : entered_function None (declared f.name AsExtern type (kind.Func None None) s) ≡ (k, s)
  known-is =
      ap (λ o. entered_function None (declared_by f.name AsExtern type (kind.Func None None) s o)) known.linked
      ∙ ap (λ (s : State). (k, change_name k (with_entry None) s)) (bound-same f.name (means.Linked k) s known.here)
      ∙ ap (λ ds. (k, with_names ds s)) (unchanged (with_entry None) entry-same s.names k)

  itself : may_be_by type type (out-Shape type.shape) ≡ true
  itself = ap (may_be_by type type) (shape_rolls.outs-Func (sig_numbered n.structure f.sig)) ∙ (compared type).itself

  agrees-is : agrees_with AsExtern (is_visible k f.name s) type (slice_get s.names k) ≡ true
  agrees-is =
      let d = known.declared in
      ap (agrees_with AsExtern (is_visible k f.name s) type) known.there
      ∙ ap (λ l. agrees AsExtern (is_visible k f.name s) l && may_be_by type d.ctype (out-Shape type.shape)) known.linkage
      ∙ ap (λ t. may_be_by type t (out-Shape type.shape)) known.ctype ∙ itself

  pub may-be-defined : may_be_declared AsExtern f.name type s ≡ true
  may-be-defined =
      ap (λ o. is_free_for o (named_here f.name s) && repeats AsExtern f.name type s o) known.linked
      ∙ ap (λ o. is_free_for (Some k) o && agrees_with AsExtern (is_visible k f.name s) type (slice_get s.names k)) known.here
      ∙ and_true (nat_eq k k) (agrees_with AsExtern (is_visible k f.name s) type (slice_get s.names k)) (eq-eqb k k refl) agrees-is

-- ---- other names of what has a place in memory of its own

designates-there : (s : State) (names : List Declared) (r : TypedExpr) (o : Option Designated) → ((j : ℕ) → linked j (slice_get names j) ≡ linked j (slice_get s.names j)) → designates s o ≡ Ok r → designates (with_names names s) o ≡ Ok r
designates-there s names r None same h = h
designates-there s names r (Some (means.Linked i)) same h = same i ∙ h
designates-there s names r (Some (means.Automatic i t)) same h = h
designates-there s names r (Some (means.TypeNamed t)) same h = h
designates-there s names r (Some (means.Enumerator k)) same h = h

named-by-there : (at : ℕ) (x : Name) (s : State) (names : List Declared) (r : TypedExpr) (i : Option Intr) → ((j : ℕ) → linked j (slice_get names j) ≡ linked j (slice_get s.names j)) → named_by at x s i ≡ Ok r → named_by at x (with_names names s) i ≡ Ok r
named-by-there at x s names r (Some i) same h = h
named-by-there at x s names r None same h = designates-there s names r (designated x s.scopes) same h

named-there : (roles : Roles) (at : ℕ) (x : Name) (s : State) (names : List Declared) (r : TypedExpr) → ((j : ℕ) → linked j (slice_get names j) ≡ linked j (slice_get s.names j)) → named roles at x s ≡ Ok r → named roles at x (with_names names s) ≡ Ok r
named-there roles at x s names r same h = named-by-there at x s names r (intrinsic_named roles x) same h

structures-there : (p : Program) (number : ℕ → ℕ) (s : State) (names : List Declared) → KnowsStructures p number s → KnowsStructures p number (with_names names s)
structures-there p number s names k = record { tags = k.tags; structures = k.structures; layouts = k.layouts }

pub names-there : (p : Program) (f : Func) (n : Numbers) (s : State) (names : List Declared) → ((j : ℕ) → linked j (slice_get names j) ≡ linked j (slice_get s.names j)) → KnowsNames p f n s → KnowsNames p f n (with_names names s)
names-there p f n s names same k = record {
  structures = structures-there p n.structure s names k.structures;
  locals = λ i l e at. named-there p.roles at l.0 s names _ same (k.locals i l e at);
  objects = λ i o e at. named-there p.roles at o.name s names _ same (k.objects i o e at);
  devices = λ i c x e h at. named-there p.roles at x s names _ same (k.devices i c x e h at);
  funcs = λ i g e at. named-there p.roles at g.name s names _ same (k.funcs i g e at);
}

-- the objects of a function are none of the file's
designates-alone : (s : State) (ls : List (Name × CType)) (r : TypedExpr) (o : Option Designated) → designates s o ≡ Ok r → designates (with_locals ls s) o ≡ Ok r
designates-alone s ls r None h = h
designates-alone s ls r (Some (means.Linked i)) h = h
designates-alone s ls r (Some (means.Automatic i t)) h = h
designates-alone s ls r (Some (means.TypeNamed t)) h = h
designates-alone s ls r (Some (means.Enumerator k)) h = h

named-by-alone : (at : ℕ) (x : Name) (s : State) (ls : List (Name × CType)) (r : TypedExpr) (i : Option Intr) → named_by at x s i ≡ Ok r → named_by at x (with_locals ls s) i ≡ Ok r
named-by-alone at x s ls r (Some i) h = h
named-by-alone at x s ls r None h = designates-alone s ls r (designated x s.scopes) h

named-alone : (roles : Roles) (at : ℕ) (x : Name) (s : State) (ls : List (Name × CType)) (r : TypedExpr) → named roles at x s ≡ Ok r → named roles at x (with_locals ls s) ≡ Ok r
named-alone roles at x s ls r h = named-by-alone at x s ls r (intrinsic_named roles x) h

structures-alone : (p : Program) (number : ℕ → ℕ) (s : State) (ls : List (Name × CType)) → KnowsStructures p number s → KnowsStructures p number (with_locals ls s)
structures-alone p number s ls k = record { tags = k.tags; structures = k.structures; layouts = k.layouts }

pub names-alone : (p : Program) (f : Func) (n : Numbers) (s : State) (ls : List (Name × CType)) → KnowsNames p f n s → KnowsNames p f n (with_locals ls s)
names-alone p f n s ls k = record {
  structures = structures-alone p n.structure s ls k.structures;
  locals = λ i l e at. named-alone p.roles at l.0 s ls _ (k.locals i l e at);
  objects = λ i o e at. named-alone p.roles at o.name s ls _ (k.objects i o e at);
  devices = λ i c x e h at. named-alone p.roles at x s ls _ (k.devices i c x e h at);
  funcs = λ i g e at. named-alone p.roles at g.name s ls _ (k.funcs i g e at);
}

-- ---- behind a definition

module _ (n : Numbers) (f : Func) (k : ℕ) (s : State) (known : IsKnownFunction n s f k) (at : ℕ) (whole : Func) where
  abbrev made : Declared → Declared
  made d = defined_at at (type_of_function n f) (kind.Func (entry_at k s) (Some whole)) d

  abbrev pub behind : State
  behind = defined_as at k (type_of_function n f) whole s

  one : (d : Declared) → slice_get s.names k ≡ Some d → known.declared ≡ d
  one d h = let same : Some known.declared ≡ Some d = sym known.there ∙ h in cc

  linked-by : (j : ℕ) (d : Declared) → slice_get s.names k ≡ Some d → linked_by j (type_of_function n f) (kind.Func (entry_at k s) (Some whole)) ≡ linked_by j d.ctype d.kind
  linked-by j d h =
      ap (λ t. linked_by j t (kind.Func known.entry known.body)) (sym known.ctype)
      ∙ ap (λ q. linked_by j known.declared.ctype q) (sym known.kind)
      ∙ ap (λ (d : Declared). linked_by j d.ctype d.kind) (one d h)

  pub linked-still : (j : ℕ) → linked j (slice_get behind.names j) ≡ linked j (slice_get s.names j)
  linked-still j = linked-there j behind.names s.names (mapped-still made (λ (d : Declared). linked_by j d.ctype d.kind) s.names k (linked-by j))

  names-device : (e : Device) (d : Declared) → slice_get s.names k ≡ Some d → names_device e (kind.Func (entry_at k s) (Some whole)) ≡ names_device e d.kind
  names-device e d h = ap (names_device e) (sym known.kind) ∙ ap (λ (d : Declared). names_device e d.kind) (one d h)

  number-still : (e : Device) → number_of e behind.names ≡ number_of e s.names
  number-still e = position-same (λ (d : Declared). names_device e d.kind) behind.names s.names (mapped-still made (λ (d : Declared). names_device e d.kind) s.names k (names-device e))

  pub devices-still : (p : Program) (a : ℕ) → KnowsDevices p n a s.names → KnowsDevices p n a behind.names
  devices-still p a q = record {
    nameless = q.nameless;
    known = λ i d h none l. number-still d ∙ q.known i d h none l;
    unknown = λ i d h l. number-still d ∙ q.unknown i d h l;
    next = λ i d h l. q.next i d h l ∙ ap (λ m. m + (i - a)) (sym (length-changed made s.names k));
  }

  named-still : (x : Name) → linked_name x behind ≡ linked_name x s
  named-still x = linked-same x behind.names s.names (mapped-still made (λ (d : Declared). is_linked d.linkage && has_name x d.name) s.names k (λ d h. refl))

  -- another function, or the same
  record There (g : Func) (j : ℕ) : Type 0 where
    pub declared : Declared
    pub there : slice_get behind.names j ≡ Some declared
    pub linkage : declared.linkage ≡ linkage.External
    pub ctype : declared.ctype ≡ type_of_function n g
    pub entry : Option Entry
    pub body : Option Func
    pub kind : declared.kind ≡ kind.Func entry body

  there-by : (g : Func) (j : ℕ) → IsKnownFunction n s g j → (j ≡ k) ⊎ (slice_get behind.names j ≡ slice_get s.names j) → There g j
  there-by g j q (inr same) = record { declared = q.declared; there = same ∙ q.there; linkage = q.linkage; ctype = q.ctype; entry = q.entry; body = q.body; kind = q.kind }
  there-by g j q (inl same) =
      let d = q.declared in
      let at_k : slice_get s.names k ≡ Some d = ap (slice_get s.names) (sym same) ∙ q.there in
      record {
        declared = made d;
        there = ap (slice_get behind.names) same ∙ changed-there made s.names k d at_k;
        linkage = q.linkage;
        ctype = sym known.ctype ∙ ap (λ (d : Declared). d.ctype) (one d at_k) ∙ q.ctype;
        entry = entry_at k s;
        body = Some whole;
        kind = refl;
      }

  pub function-still : (g : Func) (j : ℕ) → IsKnownFunction n s g j → IsKnownFunction n behind g j
  function-still g j q =
      let t = there-by g j q (changed-other made s.names k j) in
      record { linked = named-still g.name ∙ q.linked; here = q.here; declared = t.declared; there = t.there; linkage = t.linkage; ctype = t.ctype; entry = t.entry; body = t.body; kind = t.kind }

-- behind devices
pub function-behind : (p : Program) (n : Numbers) (a b : ℕ) (s : State) (g : Func) (j : ℕ) → IsKnownFunction n s g j → IsKnownFunction n (with_locals [] (with_devices p a b s)) g j
function-behind p n a b s g j q =
    let more = map declared_device (between a b p.devices) in
    record {
      linked = linked-behind g.name s.names more j q.linked;
      here = q.here;
      declared = q.declared;
      there = stays-there s.names more j q.declared q.there;
      linkage = q.linkage;
      ctype = q.ctype;
      entry = q.entry;
      body = q.body;
      kind = q.kind;
    }

-- What declarations change of what is known, initialisers aside: no device without a name is declared (C99 6.2, 6.7).
use Rattle.std.proofs.Common.{◌≡◌, inl, ℕ, zero, suc, Bool, true, false, true≢false, not, ◌&&◌, List, [], ◌∷◌, Option, Some, None, refl, sym, subst}
use Rattle.std.specs.Prelude.{slice_get, if◌then◌else◌}
use Rattle.std.specs.List.{list_any}
use Rattle.std.specs.Str.{bytes_eq}
use Rattle.cc_accessed_terms.specs.Accounted.{is_numbered_kind, is_numbered_entry, DeclaresNone}
use Rattle.cc_accessed_terms.proofs.Accounts.{accounts_itself, accounts_behind, more_declared}
use Rattle.cc_type.specs.CcLinkage.Linkage.{new_declared, declared_by, declared}
use Rattle.cc_type.specs.CcLinkage.declared.linkage.DeclaredAs.{DeclaredAs}
use Rattle.cc_type.specs.CcObjects.Linked.{device_by, is_extern, object_kind, static_object, with_static}
use Rattle.cc_type.specs.CcObjects.Tags.{aliased_at, is_typedef_word, defines_untagged, first_name, aliased, tag_declared, sole_tag, sole_declared, sole_spec, in_front}
use Rattle.cc_type.specs.CcObjects.Types.{given_incomplete}
use Rattle.cc_program.specs.declared.func.Entry.{Entry}
use Rattle.cc_program.specs.declared.types.CType.{CType}
use Rattle.cc_program.specs.declared.types.Shape.{Shape, out-Shape}
use Rattle.cc_program.specs.declared.types.Shape.TheOpen as shape
use Rattle.cc_program.specs.declared.types.Sig.{Sig}
use Rattle.cc_program.specs.declared.expr.Place.{Place}
use Rattle.cc_type.specs.CcScopes.Definitions.{entry_added, with_entry}
use Rattle.cc_type.specs.CcScopes.Linked.{linked_name}
use Rattle.cc_type.specs.CcScopes.Standings.{is_none}
use Rattle.cc_type.specs.CcScopes.State.{State, Name, tagged_here, change_at, change_name, with_unfinished}
use Rattle.cc_type.specs.CcScopes.Structures.{tag_by}
use Rattle.cc_type.specs.CcScopes.declared.designated.Tagged.{Tagged}
use Rattle.cc_type.specs.CcScopes.declared.unit.Declared.{Declared}
use Rattle.cc_type.specs.CcSpecifiers.Declarators.{is_unbounded}
use Rattle.cc_type.specs.CcSpecifiers.declared.specifier.Specified.{Specified}
use Rattle.cc_tree.specs.declared.tree.Spec.{Spec, out-Spec}
use Rattle.cc_tree.specs.declared.unit.Decl.{Decl}
use Rattle.cc_type.specs.CcTypedBodies.Functions.{with_function}
use Rattle.cc_type.specs.CcUnit.declared.unit.UnitKind.{UnitKind}
use Rattle.cc_type.specs.CcUnit.declared.unit.UnitKind.TheVariants as kind

no : {C : Type 0} → false ≡ true → C
no h = absurd (true≢false (sym h))

-- ---- structures that are declared beside the declarators

tag_by_names : (x : Name) (s : State) (o : Option Tagged) → (tag_by x s o).names ≡ s.names
tag_by_names x s None = refl
tag_by_names x s (Some t) = refl

tag_names : (o : Option Name) (s : State) → (tag_declared o s).names ≡ s.names
tag_names None s = refl
tag_names (Some x) s = tag_by_names x s (tagged_here x s)

sole_names : (o : Option Spec) (s : State) → (sole_declared o s).names ≡ s.names
sole_names None s = refl
sole_names (Some x) s = tag_names (sole_tag (out-Spec x)) s

front_if : (b : Bool) (d : Decl) (s : State) → (if b then sole_declared (sole_spec d.specs) s else s).names ≡ s.names
front_if true d s = sole_names (sole_spec d.specs) s
front_if false d s = refl

pub front_names : (d : Decl) (s : State) → (in_front d s).names ≡ s.names
front_names d s = front_if (is_none d.inits) d s

alias_names : (x : Option Name) (s : State) (y : shape.Shape-F Shape CType Sig) → (aliased_at x s y).names ≡ s.names
alias_names x s shape.Void = refl
alias_names x s (shape.Int t) = refl
alias_names x s (shape.Pointer to) = refl
alias_names x s (shape.Array of n) = refl
alias_names x s (shape.Struct i) = refl
alias_names x s (shape.Func sig) = refl

aliased_if : (b : Bool) (d : Decl) (base : Specified) (s : State) → (if b then aliased_at (first_name d.inits) s (out-Shape base.ctype.shape) else s).names ≡ s.names
aliased_if true d base s = alias_names (first_name d.inits) s (out-Shape base.ctype.shape)
aliased_if false d base s = refl

pub aliased_names : (d : Decl) (base : Specified) (s : State) → (aliased d base s).names ≡ s.names
aliased_names d base s = aliased_if (is_typedef_word base.specs.storage && defines_untagged d.specs) d base s

incomplete_if : (b : Bool) (a : Place) (s : State) → ((if b then with_unfinished (Some a) s else s).names ≡ s.names) × ((if b then with_unfinished (Some a) s else s).structures ≡ s.structures)
incomplete_if true a s = (refl, refl)
incomplete_if false a s = (refl, refl)

pub incomplete_names : (t : CType) (a : Place) (s : State) → ((given_incomplete t a s).names ≡ s.names) × ((given_incomplete t a s).structures ≡ s.structures)
incomplete_names t a s = incomplete_if (is_unbounded t) a s

-- ---- a name that is changed

module _ (change : Declared → Declared) (same : (d : Declared) → is_numbered_kind (change d).kind ≡ true → is_numbered_kind d.kind ≡ true) where
  changed_at : (n : ℕ) (ds : List Declared) (i : ℕ) → is_numbered_entry (slice_get (change_at n change ds) i) ≡ true → is_numbered_entry (slice_get ds i) ≡ true
  changed_at n [] i h = h
  changed_at zero (d ∷ ds) zero h = same d h
  changed_at zero (d ∷ ds) (suc i) h = h
  changed_at (suc n) (d ∷ ds) zero h = h
  changed_at (suc n) (d ∷ ds) (suc i) h = changed_at n ds i h

  pub change_declares : (n : ℕ) (s : State) → DeclaresNone s (change_name n change s)
  change_declares n s i h = inl (changed_at n s.names i h)

entry_same : (entry : Option Entry) (k : UnitKind) → is_numbered_kind (entry_added entry k) ≡ true → is_numbered_kind k ≡ true
entry_same entry (kind.Object leaves) h = h
entry_same entry (kind.Device d) h = h
entry_same entry (kind.Func before body) h = h

-- ---- a name that is declared

declared_if : (x : Name) (asked : DeclaredAs) (t : CType) (k : UnitKind) (s : State) → is_numbered_kind k ≡ false → (o : Option ℕ) → DeclaresNone s (declared_by x asked t k s o).1
declared_if x asked t k s e (Some i) = accounts_itself (λ i. false) s (declared_by x asked t k s (Some i)).1 refl
declared_if x asked t k s e None = more_declared (λ i. false) (new_declared x asked t k) s (λ h. no (subst (λ (b : Bool). b ≡ true) e h))

pub name_declares : (x : Name) (asked : DeclaredAs) (t : CType) (k : UnitKind) (s : State) → is_numbered_kind k ≡ false → DeclaresNone s (declared x asked t k s).1
name_declares x asked t k s e = declared_if x asked t k s e (linked_name x s)

pub function_declares : (entry : Option Entry) (x : Name) (asked : DeclaredAs) (t : CType) (s : State) → DeclaresNone s (with_function entry (declared x asked t (kind.Func None None) s))
function_declares entry x asked t s =
    let known = declared x asked t (kind.Func None None) s in
    accounts_behind (λ i. false) s known.1 (with_function entry known) (name_declares x asked t (kind.Func None None) s refl) (change_declares (with_entry entry) (λ d h. entry_same entry d.kind h) known.0 known.1)

-- an extern device has a name
device_if : (b : Bool) (x : Name) (t : CType) (y : shape.Shape-F Shape CType Sig) → is_numbered_kind (device_by x t b y) ≡ false
device_if b x t (shape.Int i) = of_flag (b && t.volatile)
  where
    of_flag : (b : Bool) → is_numbered_kind (if b then kind.Device (record { name = Some x; number = 0; int = i; constant = t.constant }) else kind.Object []) ≡ false
    of_flag true = refl
    of_flag false = refl
device_if b x t shape.Void = refl
device_if b x t (shape.Pointer to) = refl
device_if b x t (shape.Array of n) = refl
device_if b x t (shape.Struct i) = refl
device_if b x t (shape.Func sig) = refl

pub object_declares : (defined : List Name) (x : Name) (asked : DeclaredAs) (t : CType) (s : State) → DeclaresNone s (declared x asked t (object_kind defined asked x t) s).1
object_declares defined x asked t s = name_declares x asked t (object_kind defined asked x t) s (device_if (is_extern asked && not (list_any (bytes_eq x) defined)) x t (out-Shape t.shape))

pub static_declares : (at : ℕ) (x : Name) (t : CType) (s : State) → DeclaresNone s (with_static at x t s)
static_declares at x t s = more_declared (λ i. false) (static_object at x t) s (λ h. no h)

-- Objects that are declared keep what is so of entries: those with linkage, where they are defined or not, and static ones of blocks (C99 6.2.2, 6.9.2).
use Rattle.std.proofs.Common.{arith, lt-ltb, ◌<◌, ◌≡◌, ◌⊎◌, inl, inr, ◌+◌, ℕ, zero, suc, Bool, true, false, not, ◌&&◌, ◌||◌, List, [], ◌∷◌, ◌++◌, length, Option, Some, None, Ok, refl, ap, sym, ◌∙◌, subst}
use Rattle.std.specs.Prelude.{is_some, nat_lt, slice_get, if◌then◌else◌}
use Rattle.std.specs.List.{list_any}
use Rattle.std.specs.Str.{bytes_eq}
use Rattle.cc_read_sound.specs.External.{AreEntries}
use Rattle.cc_type.specs.CcLinkage.Linkage.{agrees, agrees_with, declared_by, is_free_for, is_visible, linkage_of, may_be, may_be_by, may_be_declared, new_declared, repeats, same_element}
use Rattle.cc_type.specs.CcLinkage.declared.linkage.DeclaredAs.{DeclaredAs}
use Rattle.cc_type.specs.CcLinkage.declared.linkage.DeclaredAs.TheVariants.{AsStatic, AsObject, AsExtern}
use Rattle.cc_program.specs.CcNum.declared.target.Target.{Target}
use Rattle.cc_type.specs.CcNumbering.Names.{count_of}
use Rattle.cc_type.specs.CcObjects.Linked.{device_by, is_extern, object_kind, static_object, with_static}
use Rattle.cc_type.specs.CcObjects.Types.{element_type, given_incomplete, is_complete_or_unbounded, is_object_in, type_given, with_bound}
use Rattle.cc_type.specs.CcOperands.Qualified.{is_function_type}
use Rattle.cc_type.specs.CcTypedTerms.Primary.{is_intrinsic}
use Rattle.cc_program.specs.declared.expr.Place.{Place}
use Rattle.cc_program.specs.declared.func.Entry.{Entry}
use Rattle.cc_program.specs.declared.func.Func.{Func}
use Rattle.cc_program.specs.declared.program.Roles.{Roles}
use Rattle.cc_program.specs.declared.types.CType.{CType}
use Rattle.cc_program.specs.declared.types.Shape.{Shape, out-Shape}
use Rattle.cc_program.specs.declared.types.Shape.TheOpen as shape
use Rattle.cc_program.specs.declared.types.Shape.TheVariants.{outs-Array}
use Rattle.cc_program.specs.declared.types.Sig.{Sig}
use Rattle.cc_program.specs.declared.types.Structure.{Structure}
use Rattle.cc_program.specs.declared.value.Leaf.{Leaf}
use Rattle.cc_type.specs.CcScopes.Definitions.{defined_at, tentative_at, with_values}
use Rattle.cc_type.specs.CcScopes.Linked.{is_linked, linked_from, linked_name}
use Rattle.cc_type.specs.CcScopes.State.{State, Name, bind, change_name, named_here, structures_of, layouts_of, with_declared, with_unfinished}
use Rattle.cc_type.specs.CcScopes.declared.designated.Designated.TheVariants as means
use Rattle.cc_type.specs.CcScopes.declared.unit.Declared.{Declared}
use Rattle.cc_sound_declarations.proofs.Left.{IsInitialised, object_entry}
use Rattle.cc_read_sound.proofs.Declared.{asked_linked, declared_linked}
use Rattle.cc_read_sound.proofs.Kept.{MayTell, Settles, changed_well, extends_well, more_well, same_well}
use Rattle.cc_read_sound.proofs.Lists.{IsLinkedAt, KeepsName, linked_changed, linked_front, linked_there, same_some}
use Rattle.cc_read_sound.specs.Entries.{AreWell, IsAwaited, IsDone, IsSettled, IsWell, IsWellKind, IsWellObject, is_counted, is_function_kind}
use Rattle.cc_relocated_units.specs.Units.{is_integer_shape, is_register_type}
use Rattle.cc_sound_declarations.specs.Entries.{IsEntryOf}
use Rattle.cc_sound_terms.proofs.Growth.{get_last}
use Rattle.cc_type.specs.CcSpecifiers.Declarators.{is_unbounded, is_unbounded_shape}
use Rattle.cc_type.specs.CcSpecifiers.Objects.{size_of}
use Rattle.cc_type.proofs.CcSyntax.Prefixes.{both_true}
use Rattle.cc_type.proofs.CcSyntax.SameLemmas.{compared}
use Rattle.cc_type.proofs.CcSyntax.TypeLayouts.{complete-opens, parts_complete}
use Rattle.cc_type.specs.CcSyntax.Kinds.{is_small}
use Rattle.cc_type.specs.CcSyntax.SameTypes.{is_func_shape, same_type}
use Rattle.cc_type.specs.CcSyntax.Types.{complete_shape, is_complete}
use Rattle.cc_type.specs.CcSyntax.Views.{View}
use Rattle.cc_tree.specs.declared.at.At.{At}
use Rattle.cc_tree.specs.declared.unit.Given.{Given}
use Rattle.cc_type.specs.CcUnit.declared.unit.UnitKind.{UnitKind}
use Rattle.cc_type.specs.CcUnit.declared.unit.UnitKind.TheVariants as kind

-- ---- an object's type is no function's

no_function_shape : (ss : List Structure) (y : shape.Shape-F Shape CType Sig) → is_unbounded_shape y || complete_shape ss (parts_complete ss y) ≡ true → is_func_shape (λ sig. true) y ≡ false
no_function_shape ss (shape.Func sig) h = absurd (cc)
no_function_shape ss shape.Void h = refl
no_function_shape ss (shape.Int t) h = refl
no_function_shape ss (shape.Pointer to) h = refl
no_function_shape ss (shape.Array of n) h = refl
no_function_shape ss (shape.Struct i) h = refl

or_first : (a b c : Bool) → a || (b && c) ≡ true → a || b ≡ true
or_first true b c h = refl
or_first false b c h = (both_true b c h).0

pub object_no_function : (target : Target) (s : State) (t : CType) → is_complete_or_unbounded target s t ≡ true → is_function_type t ≡ false
object_no_function target s t h =
    no_function_shape (structures_of s) (out-Shape t.shape)
    (ap (λ (b : Bool). is_unbounded t || b) (sym (complete-opens (structures_of s) t))
    ∙ or_first (is_unbounded t) (is_complete (structures_of s) t) (is_small (size_of target (structures_of s) (layouts_of s) t)) h)

or_second : (a b : Bool) → b ≡ true → a || b ≡ true
or_second true b h = refl
or_second false b h = h

pub complete_no_function : (target : Target) (s : State) (t : CType) → is_object_in target s t ≡ true → is_function_type t ≡ false
complete_no_function target s t h = object_no_function target s t (or_second (is_unbounded t) (is_object_in target s t) h)

array_no_function : (t : CType) (n : ℕ) → is_function_type (with_bound t n) ≡ false
array_no_function t n = ap (is_func_shape (λ sig. true)) (outs-Array (element_type t) n)

pub given_no_function : (t : CType) (value : Option (At Given)) (s : State) → is_function_type t ≡ false → is_function_type (type_given t value s) ≡ false
given_no_function t None s h = h
given_no_function t (Some g) s h = of_test (is_unbounded t) _
  where
    of_test : (b : Bool) (n : ℕ) → is_function_type (if b then with_bound t n else t) ≡ false
    of_test true n = array_no_function t n
    of_test false n = h

-- a type that may be another one's, which is no function's
same_no_function : (t u : CType) → is_function_type t ≡ false → same_type t u ≡ true → is_function_type u ≡ false
same_no_function t u f h = sym (ap is_function_type ((compared t).same u h)) ∙ f

element_no_function : (of : CType) (y : shape.Shape-F Shape CType Sig) → same_element of y ≡ true → is_func_shape (λ sig. true) y ≡ false
element_no_function of (shape.Array t n) h = refl
element_no_function of shape.Void h = absurd (cc)
element_no_function of (shape.Int i) h = absurd (cc)
element_no_function of (shape.Pointer to) h = absurd (cc)
element_no_function of (shape.Struct i) h = absurd (cc)
element_no_function of (shape.Func s) h = absurd (cc)

may_be_no_function : (t u : CType) (y : shape.Shape-F Shape CType Sig) → is_function_type t ≡ false → may_be_by t u y ≡ true → is_function_type u ≡ false
may_be_no_function t u (shape.Array of zero) f h = element_no_function of (out-Shape u.shape) h
may_be_no_function t u (shape.Array of (suc n)) f h = same_no_function t u f h
may_be_no_function t u shape.Void f h = same_no_function t u f h
may_be_no_function t u (shape.Int i) f h = same_no_function t u f h
may_be_no_function t u (shape.Pointer to) f h = same_no_function t u f h
may_be_no_function t u (shape.Struct i) f h = same_no_function t u f h
may_be_no_function t u (shape.Func s) f h = same_no_function t u f h

repeated : (asked : DeclaredAs) (visible : Bool) (t : CType) (o : Option Declared) (d : Declared) → o ≡ Some d → agrees_with asked visible t o ≡ true → may_be t d.ctype ≡ true
repeated asked visible t None d e h = absurd (cc)
repeated asked visible t (Some c) d e h = ap (λ (z : Declared). may_be t z.ctype) (sym (same_some c d e)) ∙ (both_true (agrees asked visible c.linkage) (may_be t c.ctype) h).1

-- an entry that has no function's type is one of no function
entry_no_function : (target : Target) (defined : List Name) (x : Option Name) (t : CType) (k : UnitKind) → IsEntryOf target defined x t k → is_function_type t ≡ false → is_function_kind k ≡ false
entry_no_function target defined x t (kind.Func by f) e h = let c : true ≡ false = sym e ∙ h in absurd (cc)
entry_no_function target defined x t (kind.Object leaves) e h = refl
entry_no_function target defined x t (kind.Device d) e h = refl

device_no_function : (x : Name) (t : CType) (good : Bool) (y : shape.Shape-F Shape CType Sig) → is_function_kind (device_by x t good y) ≡ false
device_no_function x t good (shape.Int i) = of_test (good && t.volatile)
  where
    of_test : (b : Bool) → is_function_kind (if b then kind.Device (record { name = Some x; number = 0; int = i; constant = t.constant }) else kind.Object []) ≡ false
    of_test true = refl
    of_test false = refl
device_no_function x t good shape.Void = refl
device_no_function x t good (shape.Pointer to) = refl
device_no_function x t good (shape.Array of n) = refl
device_no_function x t good (shape.Struct i) = refl
device_no_function x t good (shape.Func s) = refl

-- ---- counts

pub tentative_counts : (n : ℕ) → nat_lt 0 (count_of true n) ≡ true
tentative_counts zero = refl
tentative_counts (suc n) = lt-ltb 0 (suc n) (omega arith)

pub defined_counts : (b : Bool) (n : ℕ) → nat_lt 0 (count_of b (suc n)) ≡ true
defined_counts b n = lt-ltb 0 (suc n) (omega arith)

module _ (v : View) (roles : Roles) (defined : List Name) (P : CType → Func → Type 0) where
  abbrev Well : Declared → Type 0
  Well d = IsWell v.target roles defined P d

  abbrev All : List Name → State → Type 0
  All done s = AreWell v.target roles defined P done s

  -- ---- a new entry

  no_name : (x : Name) → is_some (Some x) ≡ false → ⊥
  no_name x h = cc

  register_among : (e l w : Bool) → (e ≡ false → l ≡ true) → (e && not l) && w ≡ false → w ≡ true → l ≡ true
  register_among true true w f h k = refl
  register_among true false w f h k = let c : true ≡ false = sym k ∙ h in absurd (cc)
  register_among false l w f h k = f refl

  module _ (asked : DeclaredAs) (x : Name) (w : CType) (plain : is_intrinsic roles x ≡ false) (apart : is_function_type w ≡ false) (among : is_extern asked ≡ false → list_any (bytes_eq x) defined ≡ true) where
    abbrev good : Bool
    good = is_extern asked && not (list_any (bytes_eq x) defined)

    abbrev new : Declared
    new = new_declared x asked w (object_kind defined asked x w)

    -- an object that may be a device's is one that the unit defines
    object_of : ((is_register_type w ≡ true) → list_any (bytes_eq x) defined ≡ true) → IsWellObject v.target roles defined P new
    object_of f = record {
      apart = apart;
      here = λ r. inr (record { name = x; named = refl; linked = asked_linked asked; among = f r });
      nameless = λ e. absurd (no_name x e);
    }

    no_integer : (y : shape.Shape-F Shape CType Sig) → out-Shape w.shape ≡ y → is_integer_shape y ≡ false → is_register_type w ≡ true → list_any (bytes_eq x) defined ≡ true
    no_integer y e f r = let c : true ≡ false = sym (both_true w.volatile (is_integer_shape (out-Shape w.shape)) r).1 ∙ ap is_integer_shape e ∙ f in absurd (cc)

    kind_by : (y : shape.Shape-F Shape CType Sig) → out-Shape w.shape ≡ y → IsWellKind v.target roles defined P new (device_by x w good y)
    kind_by (shape.Int i) e = of_test (good && w.volatile) refl
      where
        of_test : (b : Bool) → good && w.volatile ≡ b → IsWellKind v.target roles defined P new (if b then kind.Device (record { name = Some x; number = 0; int = i; constant = w.constant }) else kind.Object [])
        of_test true f = λ g. absurd (no_name x g)
        of_test false f = object_of (λ r. register_among (is_extern asked) (list_any (bytes_eq x) defined) w.volatile among f (both_true w.volatile (is_integer_shape (out-Shape w.shape)) r).0)
    kind_by shape.Void e = object_of (no_integer shape.Void e refl)
    kind_by (shape.Pointer to) e = object_of (no_integer (shape.Pointer to) e refl)
    kind_by (shape.Array of n) e = object_of (no_integer (shape.Array of n) e refl)
    kind_by (shape.Struct i) e = object_of (no_integer (shape.Struct i) e refl)
    kind_by (shape.Func s) e = object_of (no_integer (shape.Func s) e refl)

    new_well : Well new
    new_well = record { entry = object_entry v roles defined (Unit {0}) [] asked x w; kind = kind_by (out-Shape w.shape) refl; external = λ e. refl; plain = λ y e l. ap (is_intrinsic roles) (sym (same_some x y e)) ∙ plain }

  none_known : (x : Name) (s : State) → linked_name x s ≡ None → (y : Name) → Some x ≡ Some y → linked_name y s ≡ None
  none_known x s h y e = ap (λ (z : Name). linked_name z s) (same_some y x (sym e)) ∙ h

  -- its entry is known, or new
  pub object_declared_well : (asked : DeclaredAs) (x : Name) (w : CType) (s : State) (o : Option ℕ) → linked_name x s ≡ o → is_intrinsic roles x ≡ false → (o ≡ None → is_function_type w ≡ false) → (is_extern asked ≡ false → list_any (bytes_eq x) defined ≡ true) →
      (done : List Name) → All done s → All done (declared_by x asked w (object_kind defined asked x w) s o).1
  object_declared_well asked x w s (Some i) e p f a done k = same_well v roles defined P done s (bind x (means.Linked i) s) refl k
  object_declared_well asked x w s None e p f a done k =
      let d = new_declared x asked w (object_kind defined asked x w) in
      let start = with_declared d s in
      same_well v roles defined P done start (bind x (means.Linked (length s.names)) start) refl (more_well v roles defined P done s d (new_well asked x w p (f refl) a) (λ y l n. none_known x s e y n) k)

  -- ---- a tentative definition

  pub may_be_tentative : (at i : ℕ) (x : Name) (s : State) → ((d : Declared) → slice_get s.names i ≡ Some d → (d.name ≡ Some x) × (is_function_kind d.kind ≡ false)) → MayTell v roles defined P i (tentative_at at) s
  may_be_tentative at i x s f = record {
    keeps = λ d. record { name = refl; linkage = refl };
    well = λ d h w. record { entry = w.entry; kind = tentative_kind d d.kind (f d h).0 (f d h).1 w.kind; external = w.external; plain = w.plain };
    settles = λ d h k. inr (tentative_counts d.definitions);
  }
    where
      tentative_kind : (d : Declared) (k : UnitKind) → d.name ≡ Some x → is_function_kind k ≡ false → IsWellKind v.target roles defined P d k → IsWellKind v.target roles defined P (tentative_at at d) k
      tentative_kind d (kind.Object leaves) n f w = record { apart = w.apart; here = λ r. inl (tentative_counts d.definitions); nameless = λ e. tentative_counts d.definitions }
      tentative_kind d (kind.Device c) n f w = λ e. let g : true ≡ false = sym (ap is_some n) ∙ e in absurd (cc)
      tentative_kind d (kind.Func by b) n f w = absurd (cc)

  -- ---- a definition

  pub may_define : (at i : ℕ) (u : CType) (leaves : List Leaf) (s : State) → is_function_type u ≡ false → MayTell v roles defined P i (defined_at at u (kind.Object leaves)) s
  may_define at i u leaves s f = record {
    keeps = λ d. record { name = refl; linkage = refl };
    well = λ d h w. record {
      entry = tt;
      kind = record { apart = f; here = λ r. inl (defined_counts d.tentative d.definitions); nameless = λ e. defined_counts d.tentative d.definitions };
      external = w.external;
      plain = w.plain;
    };
    settles = λ d h k. inr (defined_counts d.tentative d.definitions);
  }

  -- ---- first values

  pub may_fill : (i : ℕ) (leaves : List Leaf) (s : State) → ((d : Declared) → slice_get s.names i ≡ Some d → (before : List Leaf) × (d.kind ≡ kind.Object before)) → MayTell v roles defined P i (with_values leaves) s
  may_fill i leaves s f = record {
    keeps = λ d. record { name = refl; linkage = refl };
    well = λ d h w. let k = f d h in record { entry = tt; kind = filled d (subst (IsWellKind v.target roles defined P d) k.1 w.kind); external = w.external; plain = w.plain };
    settles = λ d h k. settled_by d (f d h) k;
  }
    where
      filled : (d : Declared) → IsWellObject v.target roles defined P d → IsWellObject v.target roles defined P (with_values leaves d)
      filled d w = record { apart = w.apart; here = λ r. of_here (w.here r); nameless = w.nameless }
        where
          of_here : (is_counted d ≡ true) ⊎ IsAwaited v.target roles defined P d → (is_counted (with_values leaves d) ≡ true) ⊎ IsAwaited v.target roles defined P (with_values leaves d)
          of_here (inl h) = inl h
          of_here (inr h) = inr (record { name = h.name; named = h.named; linked = h.linked; among = h.among })

      settled_by : (d : Declared) → (before : List Leaf) × (d.kind ≡ kind.Object before) → Settles v roles defined P d → Settles v roles defined P (with_values leaves d)
      settled_by d b (inl g) = let c : true ≡ false = sym g ∙ ap is_function_kind b.1 in absurd (cc)
      settled_by d b (inr c) = inr c

  -- ---- static objects of blocks

  static_well : (at : ℕ) (x : Name) (u : CType) → is_function_type u ≡ false → Well (static_object at x u)
  static_well at x u f = record { entry = tt; kind = record { apart = f; here = λ r. inl refl; nameless = λ e. refl }; external = λ e. absurd (cc); plain = λ y e l. absurd (cc) }

  not_linked : false ≡ true → ⊥
  not_linked h = cc

  pub with_static_well : (at : ℕ) (x : Name) (u : CType) (s : State) → is_function_type u ≡ false → (done : List Name) → All done s → All done (with_static at x u s)
  with_static_well at x u s f done w =
      let d = static_object at x u in
      let start = with_declared d s in
      same_well v roles defined P done start (bind x (means.Linked (length s.names)) start) refl (more_well v roles defined P done s d (static_well at x u f) (λ y l n. absurd (not_linked l)) w)

  -- ---- what an initialiser adds

  incomplete_names : (t : CType) (a : Place) (s : State) → (given_incomplete t a s).names ≡ s.names
  incomplete_names t a s = of_test (is_unbounded t)
    where
      of_test : (b : Bool) → (if b then with_unfinished (Some a) s else s).names ≡ s.names
      of_test true = refl
      of_test false = refl

  pub initialised_well : (X : Type 0) (t u : CType) (a : Place) (s : State) (r : X × State) → IsInitialised v roles defined X t u a s r → (done : List Name) → All done s → All done r.1
  initialised_well X t u a s r i done w =
      same_well v roles defined P done i.middle r.1 (ap (λ (z : State). z.names) i.last)
      (extends_well v roles defined P done (given_incomplete t a s) i.middle i.grown (same_well v roles defined P done s (given_incomplete t a s) (incomplete_names t a s) w))

  -- a name speaks of what it did
  pub initialised_linked : (X : Type 0) (t u : CType) (a : Place) (s : State) (r : X × State) → IsInitialised v roles defined X t u a s r → (x : Name) (n : ℕ) → linked_name x s ≡ Some n → linked_name x r.1 ≡ Some n
  initialised_linked X t u a s r i x n h =
      let more = i.grown.grows.names in
      ap (λ (z : State). linked_name x z) i.last ∙ ap (linked_from 0 x) more.1
      ∙ linked_front 0 x (given_incomplete t a s).names more.0 n (ap (linked_from 0 x) (incomplete_names t a s) ∙ h)

  -- ---- the entry of an object that is declared is one of no function, and has its name

  pub object_there : (asked : DeclaredAs) (x : Name) (t w : CType) (s : State) (o : Option ℕ) → linked_name x s ≡ o → AreEntries v.target defined s.names → is_function_type t ≡ false → repeats asked x t s o ≡ true → (d : Declared) →
      slice_get (declared_by x asked w (object_kind defined asked x w) s o).1.names (declared_by x asked w (object_kind defined asked x w) s o).0 ≡ Some d → (d.name ≡ Some x) × (is_function_kind d.kind ≡ false)
  object_there asked x t w s (Some i) e entries f h d g =
      let l = linked_there x s.names i e in
      let same : l.declared ≡ d = same_some l.declared d (sym l.at ∙ g) in
      let m = repeated asked (is_visible i x s) t (slice_get s.names i) d g h in
      (ap (λ (z : Declared). z.name) (sym same) ∙ l.named, entry_no_function v.target defined d.name d.ctype d.kind (entries i d g) (may_be_no_function t d.ctype (out-Shape t.shape) f m))
  object_there asked x t w s None e entries f h d g =
      let c = new_declared x asked w (object_kind defined asked x w) in
      let same : c ≡ d = same_some c d (sym (get_last s.names c) ∙ g) in
      (ap (λ (z : Declared). z.name) (sym same), ap (λ (z : Declared). is_function_kind z.kind) (sym same) ∙ device_no_function x w (is_extern asked && not (list_any (bytes_eq x) defined)) (out-Shape w.shape))

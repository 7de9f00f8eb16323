-- Each name of the unit that is left is sound.
use Rattle.std.proofs.Common.{◌≡◌, ◌⊎◌, inl, inr, ℕ, zero, suc, Bool, true, false, not, ◌&&◌, ◌||◌, List, [], ◌∷◌, length, map, Option, Some, None, refl, ap, sym, ◌∙◌, subst}
use Rattle.std.specs.Prelude.{is_some, nat_eq, nat_lt, option_map, slice_get}
use Rattle.std.specs.List.{All, list_any}
use Rattle.std.proofs.lemmas.List.Elements.{All-nil, All-cons}
use Rattle.std.specs.Str.{bytes_eq}
use Rattle.std.proofs.lemmas.Slice.Eq.{bytes_eq-Decides}
use Rattle.cc_type.specs.CcLinkage.Linkage.{is_main_result, is_main_shape, no_types}
use Rattle.cc_linked_programs.proofs.Forms.{main_sig_kept}
use Rattle.cc_linked_programs.proofs.Shapes.{register_kept}
use Rattle.cc_program.specs.CcNum.declared.target.Target.{Target}
use Rattle.cc_type.specs.CcNumbering.Names.{count_of, function_in, kind_in, name_in}
use Rattle.cc_type.specs.CcNumbering.Numbers.{numbers_of}
use Rattle.cc_type.specs.CcNumbering.Units.{ids_of, unit_left}
use Rattle.cc_type.specs.CcOperands.Qualified.{is_function_type}
use Rattle.cc_standing_units.specs.Views.{view_of}
use Rattle.cc_type.specs.CcTypedTerms.Primary.{is_intrinsic}
use Rattle.cc_program.proofs.Each.{Each}
use Rattle.cc_program.specs.declared.func.Entry.{Entry}
use Rattle.cc_program.specs.declared.func.Func.{Func}
use Rattle.cc_program.specs.declared.object.Device.{Device}
use Rattle.cc_program.specs.declared.program.Roles.{Roles}
use Rattle.cc_program.specs.declared.types.CType.{CType}
use Rattle.cc_program.specs.declared.types.Shape.{Shape, out-Shape}
use Rattle.cc_program.specs.declared.types.Shape.TheOpen as shape
use Rattle.cc_program.specs.declared.types.Sig.{Sig, out-Sig}
use Rattle.cc_program.specs.declared.value.Leaf.{Leaf}
use Rattle.cc_type.specs.CcScopes.Linked.{is_linked, linked_name}
use Rattle.cc_type.specs.CcScopes.State.{State, Name, at_first}
use Rattle.cc_type.specs.CcScopes.declared.unit.Declared.{Declared}
use Rattle.cc_read_sound.specs.Definitions.{IsSoundAt}
use Rattle.cc_read_sound.specs.Entries.{AreWell, IsAwaited, IsDone, IsSettled, IsWell, IsWellFunction, IsWellKind, IsWellObject, is_counted, is_function_kind}
use Rattle.cc_read_sound.specs.Items.{IsSoundState}
use Rattle.cc_relocated_units.specs.Units.{HasSoundBody, IsSoundDevice, IsSoundFunctionName, IsSoundKind, IsSoundName, IsSoundObject, IsWellNamed, is_main_name, is_main_sig, is_register_type, unit_view}
use Rattle.cc_sound_declarations.specs.Entries.{IsDeviceEntry, IsEntryOf}
use Rattle.cc_sound_terms.specs.Behind.{HasEntry, KindStands, NameStands}
use Rattle.cc_read_sound.proofs.Left.{IsLeft}
use Rattle.cc_structures.proofs.WordLaws.{constant-kept, level-renumbered, renumbered_level, volatile-kept}
use Rattle.cc_type.proofs.CcSyntax.Prefixes.{both_true}
use Rattle.cc_type.specs.CcSyntax.Kinds.{is_object_type}
use Rattle.cc_type.specs.CcSyntax.SameTypes.{is_func_shape}
use Rattle.cc_type.specs.CcSyntax.Sound.{is_plain_int, is_plain_void}
use Rattle.cc_type.specs.CcSyntax.Views.{View}
use Rattle.cc_things.specs.Things.{is_device_kind, is_external_linkage}
use Rattle.cc_type.specs.CcUnit.Renumbered.{sig_renumbered, type_renumbered}
use Rattle.cc_type.specs.CcUnit.declared.unit.UnitKind.{UnitKind}
use Rattle.cc_type.specs.CcUnit.declared.unit.UnitKind.TheVariants as kind
use Rattle.cc_type.specs.CcUnit.declared.unit.UnitName.{UnitName}

same_some : {A : Type 0} (a b : A) → Some a ≡ Some b → a ≡ b
same_some a b h = cc

true_false : (b : Bool) → b ≡ true → b ≡ false → ⊥
true_false b e f = let c : true ≡ false = sym e ∙ f in absurd (cc)

-- ---- types

has_sig : (y : shape.Shape-F Shape CType Sig) → is_func_shape (λ sig. true) y ≡ true → (sig : Sig) × (y ≡ shape.Func sig)
has_sig (shape.Func sig) h = (sig, refl)
has_sig shape.Void h = absurd (cc)
has_sig (shape.Int t) h = absurd (cc)
has_sig (shape.Pointer to) h = absurd (cc)
has_sig (shape.Array of n) h = absurd (cc)
has_sig (shape.Struct i) h = absurd (cc)

none_counted : (ts : List CType) → no_types ts ≡ true → nat_eq (length ts) 0 ≡ true
none_counted [] h = refl
none_counted (t ∷ ts) h = absurd (cc)

main_sig_is : (sig : Sig) → no_types (out-Sig sig).params && is_main_result (out-Sig sig).result ≡ true → is_main_sig sig ≡ true
main_sig_is sig h =
    let b = both_true (no_types (out-Sig sig).params) (is_main_result (out-Sig sig).result) h in
    ap (λ (c : Bool). c && (is_plain_int (out-Sig sig).result || is_plain_void (out-Sig sig).result)) (none_counted (out-Sig sig).params b.0) ∙ b.1

some_mapped : {A B : Type 0} (f : A → B) (o : Option A) → is_some (option_map f o) ≡ is_some o
some_mapped f None = refl
some_mapped f (Some x) = refl

-- ---- names among others

among_at : (Q : Name → Type 0) (xs : List Name) (x : Name) → Each Q xs → list_any (bytes_eq x) xs ≡ true → Q x
among_at Q [] x h g = absurd (cc)
among_at Q (y ∷ ys) x h g = of_test (bytes_eq x y) refl g (λ k. among_at Q ys x h.1 k)
  where
    of_test : (b : Bool) → bytes_eq x y ≡ b → b || list_any (bytes_eq x) ys ≡ true → (list_any (bytes_eq x) ys ≡ true → Q x) → Q x
    of_test true e g f = subst Q (sym ((bytes_eq-Decides x y).0 e)) h.0
    of_test false e g f = f g

module _ (target : Target) (roles : Roles) (defined : List Name) (s : State) (sound : IsSoundState target roles defined s) (left : IsLeft target s) where
  abbrev v : View
  v = view_of target s

  abbrev w : View
  w = unit_view target (unit_left s)

  abbrev numbers : List ℕ
  numbers = numbers_of s

  abbrev named : Declared → UnitName
  named d = name_in (ids_of s) d

  abbrev Well : Declared → Type 0
  Well d = IsWell target roles defined (IsSoundAt v) d

  -- what is declared stands
  stands : (i : ℕ) (d : Declared) → slice_get s.names i ≡ Some d → NameStands v d
  stands i d h = of_entry ((sound.goes.behind tt sound.knows.types).names i d h)
    where
      of_entry : HasEntry at_first.names i ⊎ NameStands v d → NameStands v d
      of_entry (inl e) = let c : None ≡ Some e.0 = e.1 in absurd (cc)
      of_entry (inr n) = n

  -- ---- an object that the unit defines is defined in the end

  settled_is : (i : ℕ) (d : Declared) (leaves : List Leaf) → slice_get s.names i ≡ Some d → d.kind ≡ kind.Object leaves → (x : Name) → d.name ≡ Some x → is_linked d.linkage ≡ true → IsDone target roles defined (IsSoundAt v) s x → is_counted d ≡ true
  settled_is i d leaves h e x n l (inl b) = absurd (true_false (is_intrinsic roles x) b ((sound.entries.well i d h).plain x n l))
  settled_is i d leaves h e x n l (inr c) =
      let here : c.number ≡ i = same_some c.number i (sym c.linked ∙ sound.entries.unique i d x h l n) in
      let same : c.declared ≡ d = same_some c.declared d (sym c.there ∙ ap (slice_get s.names) here ∙ h) in
      by_kind same c.settled
    where
      by_kind : c.declared ≡ d → (is_function_kind c.declared.kind ≡ true) ⊎ (is_counted c.declared ≡ true) → is_counted d ≡ true
      by_kind same (inl f) = let g : true ≡ false = sym f ∙ ap (λ (z : Declared). is_function_kind z.kind) same ∙ ap is_function_kind e in absurd (cc)
      by_kind same (inr g) = ap is_counted (sym same) ∙ g

  here_by : (i : ℕ) (d : Declared) (leaves : List Leaf) → slice_get s.names i ≡ Some d → d.kind ≡ kind.Object leaves → (is_counted d ≡ true) ⊎ IsAwaited target roles defined (IsSoundAt v) d → is_counted d ≡ true
  here_by i d leaves h e (inl c) = c
  here_by i d leaves h e (inr a) = settled_is i d leaves h e a.name a.named a.linked (among_at (IsDone target roles defined (IsSoundAt v) s) defined a.name sound.entries.complete a.among)

  -- ---- each kind

  object_sound : (i : ℕ) (d : Declared) (leaves : List Leaf) → slice_get s.names i ≡ Some d → d.kind ≡ kind.Object leaves → IsWellObject target roles defined (IsSoundAt v) d → KindStands v d.ctype (kind.Object leaves) → IsSoundObject w (named d) leaves
  object_sound i d leaves h e o k = record {
    object = left.tests is_object_type refl d.ctype k;
    initial = left.values d.ctype leaves (left.initial i d leaves h e);
    here = λ r. here_by i d leaves h e (o.here (sym (register_kept numbers d.ctype) ∙ r));
  }

  device_sound : (d : Declared) (e : Device) → IsDeviceEntry target defined d.name d.ctype e → IsSoundDevice w (named d) e
  device_sound d e k = record {
    fits = k.fits;
    named = k.named;
    int = level-renumbered numbers d.ctype (shape.Int e.int) k.int;
    constant = constant-kept numbers d.ctype ∙ k.constant;
    volatile = volatile-kept numbers d.ctype ∙ k.volatile;
  }

  body_sound : (t : CType) (sig : Sig) (by : Option Entry) (f : Option Func) → out-Shape t.shape ≡ shape.Func sig → ((g : Func) → f ≡ Some g → IsSoundAt v t g) → HasSoundBody w (sig_renumbered numbers sig) (option_map (function_in (ids_of s) by) f)
  body_sound t sig by None e b = tt
  body_sound t sig by (Some g) e b = left.functions sig g (b g refl sig e) by

  function_sound : (d : Declared) (by : Option Entry) (f : Option Func) → is_function_type d.ctype ≡ true → IsWellFunction target roles defined (IsSoundAt v) d by f → IsSoundFunctionName w (named d) by (option_map (function_in (ids_of s) by) f)
  function_sound d by f t k =
      let c = has_sig (out-Shape d.ctype.shape) t in
      record {
        sig = sig_renumbered numbers c.0;
        typed = level-renumbered numbers d.ctype (shape.Func c.0) c.1;
        named = k.named;
        entry = k.entry;
        main = λ m. main_sig_kept numbers c.0 ∙ main_sig_is c.0 (ap is_main_shape (sym c.1) ∙ k.main m);
        defined = k.counted ∙ sym (some_mapped (function_in (ids_of s) by) f);
        body = body_sound d.ctype c.0 by f c.1 k.body;
      }

  kind_sound : (i : ℕ) (d : Declared) → slice_get s.names i ≡ Some d → (k : UnitKind) → d.kind ≡ k → IsEntryOf target defined d.name d.ctype k → IsWellKind target roles defined (IsSoundAt v) d k → KindStands v d.ctype k → IsSoundKind w (named d) (kind_in (ids_of s) k)
  kind_sound i d h (kind.Object leaves) e t k st = object_sound i d leaves h e k st
  kind_sound i d h (kind.Device c) e t k st = device_sound d c t
  kind_sound i d h (kind.Func by f) e t k st = function_sound d by f t k

  name_sound : (i : ℕ) (d : Declared) → slice_get s.names i ≡ Some d → IsSoundName w (named d)
  name_sound i d h = let k = sound.entries.well i d h in kind_sound i d h d.kind refl k.entry k.kind (stands i d h)

  -- ---- names and definitions

  nameless_kind : (d : Declared) (k : UnitKind) → IsWellKind target roles defined (IsSoundAt v) d k → is_some d.name ≡ false → is_counted d ≡ not (is_device_kind (kind_in (ids_of s) k))
  nameless_kind d (kind.Object leaves) k n = k.nameless n
  nameless_kind d (kind.Device e) k n = k n
  nameless_kind d (kind.Func by f) k n = absurd (true_false (is_some d.name) k.named n)

  well_named : (i : ℕ) (d : Declared) → slice_get s.names i ≡ Some d → IsWellNamed (named d)
  well_named i d h =
      let k = sound.entries.well i d h in
      record { external = k.external; nameless = λ n. nameless_kind d d.kind k.kind n }

  -- ---- all of them

  each_in : (Q : UnitName → Type 0) (ds : List Declared) → ((i : ℕ) (d : Declared) → slice_get ds i ≡ Some d → Q (named d)) → All Q (map named ds)
  each_in Q [] f = All-nil Q
  each_in Q (d ∷ ds) f = All-cons Q (named d) (map named ds) (f zero d refl) (each_in Q ds (λ i e h. f (suc i) e h))

  pub names_sound : All (IsSoundName w) (unit_left s).names
  names_sound = each_in (IsSoundName w) s.names name_sound

  pub names_named : All IsWellNamed (unit_left s).names
  names_named = each_in IsWellNamed s.names well_named

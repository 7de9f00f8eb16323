-- What declarations tell of names that have linkage keeps what is so of entries (C99 6.2.2, 6.9.1, 6.9.2).
use Rattle.std.proofs.Common.{arith, ◌≡◌, ◌⊎◌, inl, inr, ◌+◌, ℕ, zero, suc, Bool, true, false, not, ◌&&◌, ◌||◌, List, [], ◌∷◌, ◌++◌, length, Option, Some, None, refl, ap, sym, ◌∙◌, subst}
use Rattle.std.specs.Prelude.{is_some, nat_lt, slice_get, if◌then◌else◌}
use Rattle.std.specs.List.{list_any}
use Rattle.std.specs.Str.{bytes_eq}
use Rattle.cc_read_sound.specs.External.{AreEntries}
use Rattle.cc_type.specs.CcLinkage.Linkage.{agrees, agrees_with, declared, declared_by, is_free_for, is_main_shape, is_visible, linkage_of, may_be, may_be_by, may_be_declared, may_be_main, new_declared, repeats}
use Rattle.cc_type.specs.CcLinkage.declared.linkage.DeclaredAs.{DeclaredAs}
use Rattle.cc_type.specs.CcLinkage.declared.linkage.DeclaredAs.TheVariants.{AsStatic, AsObject, AsExtern}
use Rattle.cc_type.specs.CcObjects.Linked.{device_by, is_extern, object_kind, static_object}
use Rattle.cc_type.specs.CcOperands.Qualified.{is_function_type}
use Rattle.cc_type.specs.CcTypedTerms.Primary.{is_intrinsic}
use Rattle.cc_program.specs.declared.func.Entry.{Entry}
use Rattle.cc_program.specs.declared.func.Entry.TheVariants as entry
use Rattle.cc_program.specs.declared.func.Func.{Func}
use Rattle.cc_program.specs.declared.program.Roles.{Roles}
use Rattle.cc_program.specs.declared.types.CType.{CType}
use Rattle.cc_program.specs.declared.types.Shape.{Shape, out-Shape}
use Rattle.cc_program.specs.declared.types.Shape.TheOpen as shape
use Rattle.cc_program.specs.declared.types.Sig.{Sig}
use Rattle.cc_program.specs.declared.value.Leaf.{Leaf}
use Rattle.cc_type.specs.CcScopes.Definitions.{defined_at, entry_added, tentative_at, with_entry, with_values}
use Rattle.cc_type.specs.CcScopes.Linked.{is_linked, linked_name}
use Rattle.cc_type.specs.CcScopes.State.{State, Name, bind, change_name, named_here, with_declared}
use Rattle.cc_type.specs.CcScopes.declared.designated.Designated.TheVariants as means
use Rattle.cc_type.specs.CcScopes.declared.unit.Declared.{Declared}
use Rattle.cc_read_sound.proofs.Entries.{IsFunctionAt, entered_is}
use Rattle.cc_read_sound.specs.Definitions.{AreApart}
use Rattle.cc_read_sound.proofs.Kept.{MayTell, Settles, changed_well, more_well, same_well}
use Rattle.cc_read_sound.proofs.Lists.{IsLinkedAt, KeepsName, has_own_name, linked_changed, linked_last, linked_there, same_some}
use Rattle.cc_read_sound.specs.Entries.{AreWell, IsAwaited, IsDone, IsSettled, IsWell, IsWellFunction, IsWellKind, IsWellObject, is_counted, is_function_kind}
use Rattle.cc_relocated_units.specs.Units.{is_attributed, is_integer_shape, is_main_name, is_register_type}
use Rattle.cc_sound_declarations.specs.Entries.{IsEntryOf}
use Rattle.cc_type.specs.CcSpecifiers.Attributes.{entry_by, is_interrupt, is_said, is_signal}
use Rattle.cc_type.specs.CcSpecifiers.declared.attribute.Attribute.{Attribute}
use Rattle.cc_type.proofs.CcSyntax.Prefixes.{both_true}
use Rattle.cc_type.specs.CcSyntax.Views.{View}
use Rattle.cc_things.specs.Things.{is_external_linkage}
use Rattle.cc_tree.specs.declared.at.At.{At}
use Rattle.cc_type.specs.Functions.{entered_function}
use Rattle.cc_type.specs.CcTypedBodies.Functions.{with_function}
use Rattle.cc_type.specs.CcUnit.Entries.{both_entries}
use Rattle.cc_type.specs.CcUnit.declared.unit.Linkage.{Linkage}
use Rattle.cc_type.specs.CcUnit.declared.unit.UnitKind.{UnitKind}
use Rattle.cc_type.specs.CcUnit.declared.unit.UnitKind.TheVariants as kind

some_none : {A : Type 0} (x : A) → Some x ≡ None → ⊥
some_none x h = cc

-- ---- attributes

pub attributed : (marks : List (At (List Attribute))) → is_attributed (entry_by marks) ≡ true
attributed marks = of_test (is_said is_signal marks) (is_said is_interrupt marks)
  where
    of_test : (a b : Bool) → is_attributed (if a then Some entry.Signal else (if b then Some entry.Interrupt else None)) ≡ true
    of_test true b = refl
    of_test false true = refl
    of_test false false = refl

both_attributed : (a b : Option Entry) → is_attributed a ≡ true → is_attributed b ≡ true → is_attributed (both_entries a b) ≡ true
both_attributed None b h k = k
both_attributed (Some entry.Signal) b h k = refl
both_attributed (Some entry.Interrupt) None h k = refl
both_attributed (Some entry.Interrupt) (Some entry.Signal) h k = refl
both_attributed (Some entry.Interrupt) (Some entry.Interrupt) h k = refl
both_attributed (Some entry.Interrupt) (Some entry.Listed) h k = absurd (cc)
both_attributed (Some entry.Listed) b h k = absurd (cc)

main_by : (x : Name) (t : CType) → may_be_main x t ≡ true → is_main_name (Some x) ≡ true → is_main_shape (out-Shape t.shape) ≡ true
main_by x t h m = of_test (is_main_name (Some x)) m h
  where
    of_test : (b : Bool) → b ≡ true → not b || is_main_shape (out-Shape t.shape) ≡ true → is_main_shape (out-Shape t.shape) ≡ true
    of_test true e h = h
    of_test false e h = absurd (cc)

pub asked_linked : (asked : DeclaredAs) → is_linked (linkage_of asked) ≡ true
asked_linked AsStatic = refl
asked_linked AsObject = refl
asked_linked AsExtern = refl

module _ (v : View) (roles : Roles) (defined : List Name) (P : CType → Func → Type 0) where
  abbrev Well : Declared → Type 0
  Well d = IsWell v.target roles defined P d

  abbrev All : List Name → State → Type 0
  All done s = AreWell v.target roles defined P done s

  -- ---- functions

  entry_kind : (entry : Option Entry) (d : Declared) (k : UnitKind) → is_attributed entry ≡ true → IsWellKind v.target roles defined P d k → IsWellKind v.target roles defined P (with_entry entry d) (entry_added entry k)
  entry_kind entry d (kind.Func by f) a w = record { named = w.named; entry = both_attributed by entry w.entry a; main = w.main; counted = w.counted; body = w.body }
  entry_kind entry d (kind.Object leaves) a w = record { apart = w.apart; here = λ r. of_here (w.here r); nameless = w.nameless }
    where
      of_here : (is_counted d ≡ true) ⊎ IsAwaited v.target roles defined P d → (is_counted (with_entry entry d) ≡ true) ⊎ IsAwaited v.target roles defined P (with_entry entry d)
      of_here (inl h) = inl h
      of_here (inr h) = inr (record { name = h.name; named = h.named; linked = h.linked; among = h.among })
  entry_kind entry d (kind.Device e) a w = w

  entry_of_kind : (entry : Option Entry) (x : Option Name) (t : CType) (k : UnitKind) → IsEntryOf v.target defined x t k → IsEntryOf v.target defined x t (entry_added entry k)
  entry_of_kind entry x t (kind.Func by f) h = h
  entry_of_kind entry x t (kind.Object leaves) h = tt
  entry_of_kind entry x t (kind.Device d) h = h

  entry_settles : (entry : Option Entry) (k : UnitKind) → is_function_kind k ≡ true → is_function_kind (entry_added entry k) ≡ true
  entry_settles entry (kind.Func by f) h = refl
  entry_settles entry (kind.Object leaves) h = absurd (cc)
  entry_settles entry (kind.Device e) h = absurd (cc)

  pub may_add_entry : (i : ℕ) (entry : Option Entry) (s : State) → is_attributed entry ≡ true → MayTell v roles defined P i (with_entry entry) s
  may_add_entry i entry s a = record {
    keeps = λ d. record { name = refl; linkage = refl };
    well = λ d h w. record { entry = entry_of_kind entry d.name d.ctype d.kind w.entry; kind = entry_kind entry d d.kind a w.kind; external = w.external; plain = w.plain };
    settles = λ d h k. settles_by d k;
  }
    where
      settles_by : (d : Declared) → Settles v roles defined P d → Settles v roles defined P (with_entry entry d)
      settles_by d (inl f) = inl (entry_settles entry d.kind f)
      settles_by d (inr c) = inr c

  new_function : (x : Name) (asked : DeclaredAs) (t : CType) → is_function_type t ≡ true → is_intrinsic roles x ≡ false → may_be_main x t ≡ true → Well (new_declared x asked t (kind.Func None None))
  new_function x asked t f p m = record {
    entry = f;
    kind = record { named = refl; entry = refl; main = λ e. main_by x t m e; counted = refl; body = λ g e. absurd (some_none g (sym e)) };
    external = λ e. refl;
    plain = λ y e l. ap (is_intrinsic roles) (sym (same_some x y e)) ∙ p;
  }

  none_known : (x : Name) (s : State) (d : Declared) → d.name ≡ Some x → linked_name x s ≡ None → (y : Name) → is_linked d.linkage ≡ true → d.name ≡ Some y → linked_name y s ≡ None
  none_known x s d n h y l e = ap (λ (z : Name). linked_name z s) (same_some y x (sym e ∙ n)) ∙ h

  -- its entry is known, or new
  function_declared : (x : Name) (asked : DeclaredAs) (t : CType) (s : State) (o : Option ℕ) → linked_name x s ≡ o → is_function_type t ≡ true → is_intrinsic roles x ≡ false → may_be_main x t ≡ true → (done : List Name) → All done s →
      All done (declared_by x asked t (kind.Func None None) s o).1
  function_declared x asked t s (Some i) e f p m done w = same_well v roles defined P done s (bind x (means.Linked i) s) refl w
  function_declared x asked t s None e f p m done w =
      let d = new_declared x asked t (kind.Func None None) in
      let start = with_declared d s in
      same_well v roles defined P done start (bind x (means.Linked (length s.names)) start) refl (more_well v roles defined P done s d (new_function x asked t f p m) (none_known x s d refl e) w)

  pub function_well : (x : Name) (asked : DeclaredAs) (t : CType) (entry : Option Entry) (s : State) → is_attributed entry ≡ true → is_function_type t ≡ true → is_intrinsic roles x ≡ false → may_be_main x t ≡ true → (done : List Name) → All done s →
      All done (with_function entry (declared x asked t (kind.Func None None) s))
  function_well x asked t entry s a f p m done w =
      let known = declared x asked t (kind.Func None None) s in
      changed_well v roles defined P known.0 (with_entry entry) known.1 (may_add_entry known.0 entry known.1 a) done (function_declared x asked t s (linked_name x s) refl f p m done w)

  -- ---- where a name is declared, it speaks of that entry

  zero_plus : (n : ℕ) → 0 + n ≡ n
  zero_plus n = omega arith

  pub declared_linked : (x : Name) (asked : DeclaredAs) (t : CType) (k : UnitKind) (s : State) (o : Option ℕ) → linked_name x s ≡ o → linked_name x (declared_by x asked t k s o).1 ≡ Some (declared_by x asked t k s o).0
  declared_linked x asked t k s (Some i) e = e
  declared_linked x asked t k s None e =
      linked_last 0 x s.names (new_declared x asked t k) e (asked_linked asked) (has_own_name x (Some x) refl) ∙ ap Some (zero_plus (length s.names))

  pub function_settled : (x : Name) (asked : DeclaredAs) (t : CType) (entry : Option Entry) (s : State) → AreEntries v.target defined s.names → AreApart s.names → is_function_type t ≡ true → may_be_declared asked x t s ≡ true →
      IsSettled v.target roles defined P x (with_function entry (declared x asked t (kind.Func None None) s))
  function_settled x asked t entry s entries apart f m =
      let known = declared x asked t (kind.Func None None) s in
      let e = entered_is v.target defined asked x t entry s entries apart f m in
      record {
        number = known.0;
        declared = e.declared;
        linked = linked_changed 0 x known.1.names known.0 (with_entry entry) (λ d. record { name = refl; linkage = refl }) ∙ declared_linked x asked t (kind.Func None None) s (linked_name x s) refl;
        there = e.at;
        settled = inl (ap is_function_kind e.kind);
      }

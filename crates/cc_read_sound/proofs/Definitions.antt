-- The definition of a function keeps what is so of entries, where what is asked of bodies holds of its body.
use Rattle.std.proofs.Common.{◌≡◌, ◌⊎◌, inl, inr, ℕ, Bool, true, false, ◌&&◌, List, [], ◌∷◌, length, Option, Some, None, Ok, refl, ap, sym, ◌∙◌, subst}
use Rattle.std.specs.Prelude.{is_some, slice_get}
use Rattle.cc_read_sound.specs.External.{AreEntries}
use Rattle.cc_type.specs.CcLinkage.Linkage.{declared, is_main_shape}
use Rattle.cc_type.specs.CcLinkage.declared.linkage.DeclaredAs.{DeclaredAs}
use Rattle.cc_type.specs.CcOperands.Qualified.{is_function_type}
use Rattle.cc_program.specs.declared.func.Entry.{Entry}
use Rattle.cc_program.specs.declared.func.Func.{Func}
use Rattle.cc_program.specs.declared.program.Roles.{Roles}
use Rattle.cc_program.specs.declared.types.CType.{CType}
use Rattle.cc_program.specs.declared.types.Shape.{out-Shape}
use Rattle.cc_program.specs.declared.types.Sig.{out-Sig}
use Rattle.cc_read_sound.specs.Ranges.{item_fits}
use Rattle.cc_type.specs.CcScopes.Definitions.{defined_at, entry_in}
use Rattle.cc_type.specs.CcScopes.State.{State, Name, change_name, entered, left, with_locals}
use Rattle.cc_type.specs.CcScopes.Verdicts.{Checked, checked}
use Rattle.cc_type.specs.CcScopes.declared.unit.Declared.{Declared}
use Rattle.cc_read_sound.proofs.Functions.{declared_in, definition_told, derived_in, inner_fits, is_function_here, specified}
use Rattle.cc_read_sound.specs.Definitions.{AreApart}
use Rattle.cc_read_sound.proofs.Parts.{IsFound, IsNamed, named_is}
use Rattle.cc_read_sound.proofs.Bodies.{body_keeps}
use Rattle.cc_read_sound.proofs.Declared.{attributed, function_well}
use Rattle.cc_read_sound.proofs.Kept.{MayTell, Settles, apart_of, changed_well, entries_of, extends_well, same_well}
use Rattle.cc_read_sound.proofs.Objects.{defined_counts}
use Rattle.cc_read_sound.specs.Entries.{AreWell, IsWell, IsWellFunction, IsWellKind, is_counted}
use Rattle.cc_relocated_units.specs.Units.{is_attributed, is_main_name}
use Rattle.cc_sound_terms.proofs.Founds.{answer_is}
use Rattle.cc_sound_terms.specs.Behind.{EntryKept, SameKind, Objects, Devices, Functions}
use Rattle.cc_sound_terms.specs.Ordered.{IsOrdered}
use Rattle.cc_type.specs.CcSpecifiers.Attributes.{entry_by}
use Rattle.cc_type.specs.CcSyntax.Views.{View}
use Rattle.cc_tree.specs.declared.at.At.{At}
use Rattle.cc_tree.specs.declared.tree.Attr.{Attr}
use Rattle.cc_tree.specs.declared.tree.Declr.{Declr}
use Rattle.cc_tree.specs.declared.tree.Spec.{Spec}
use Rattle.cc_tree.specs.declared.unit.Item.TheVariants as item
use Rattle.cc_tree.specs.declared.unit.Line.{Line}
use Rattle.cc_type.specs.Functions.{asked_by, defined_as, entered_function, entry_at, entry_of, function_defined, function_of, locals_of, named_function, signature_of}
use Rattle.cc_type.specs.CcTypedStatements.Jumps.{no_jumps}
use Rattle.cc_type.specs.CcUnit.declared.unit.UnitKind.{UnitKind}
use Rattle.cc_type.specs.CcUnit.declared.unit.UnitKind.TheVariants as kind

was_function : (k : UnitKind) (by : Option Entry) (f : Option Func) → SameKind k (kind.Func by f) → (by' : Option Entry) × (f' : Option Func) × (k ≡ kind.Func by' f')
was_function _ by f h = by_same _ (kind.Func by f) h refl
  where
    by_same : (k l : UnitKind) → SameKind k l → l ≡ kind.Func by f → (by' : Option Entry) × (f' : Option Func) × (k ≡ kind.Func by' f')
    by_same _ _ (Functions a b c d) e = (a, c, refl)
    by_same _ _ (Objects a b) e = absurd (cc)
    by_same _ _ (Devices d) e = absurd (cc)

same_some : {A : Type 0} (a b : A) → Some a ≡ Some b → a ≡ b
same_some a b h = cc

module _ (v : View) (roles : Roles) (defined : List Name) (P : CType → Func → Type 0) where
  abbrev All : List Name → State → Type 0
  All done s = AreWell v.target roles defined P done s

  -- ---- the entry of a function is told of its body

  module _ (at n : ℕ) (t : CType) (f : Func) (s : State) (function : is_function_type t ≡ true) (good : P t f) where
    abbrev change : Declared → Declared
    change d = defined_at at t (kind.Func (entry_at n s) (Some f)) d

    told_function : (d : Declared) → slice_get s.names n ≡ Some d → EntryKept d (change d) → IsWell v.target roles defined P d → IsWell v.target roles defined P (change d)
    told_function d h k w =
        let c = was_function d.kind (entry_at n s) (Some f) k.kind in
        let own : IsWellFunction v.target roles defined P d c.0 c.1 = subst (IsWellKind v.target roles defined P d) c.2 w.kind in
        let entry : c.0 ≡ entry_at n s = ap entry_in (sym c.2) ∙ ap entry_of (sym h) in
        record {
          entry = function;
          kind = record {
            named = own.named;
            entry = subst (λ (e : Option Entry). is_attributed e ≡ true) entry own.entry;
            main = λ m. subst (λ (u : CType). is_main_shape (out-Shape u.shape) ≡ true) (sym k.ctype) (own.main m);
            counted = defined_counts d.tentative d.definitions;
            body = λ g e. subst (P t) (same_some f g e) good;
          };
          external = w.external;
          plain = w.plain;
        }

    pub may_have_body : ((d : Declared) → slice_get s.names n ≡ Some d → EntryKept d (change d)) → MayTell v roles defined P n change s
    may_have_body kept = record {
      keeps = λ d. record { name = refl; linkage = refl };
      well = λ d h w. told_function d h (kept d h) w;
      settles = λ d h k. inr (defined_counts d.tentative d.definitions);
    }

  -- ---- a definition

  module _ (specs : List (At Spec)) (d : At Declr) (attrs : List (At Attr)) (body : List (At Line)) (s : State) (r : Checked × State) (fits : item_fits (item.Func specs d attrs body) ≡ true) (ordered : IsOrdered s)
      (found : IsFound v.target roles defined specs d attrs body s r) (done : List Name) (w : All done s) where
    entries : AreEntries v.target defined s.names
    entries = entries_of v roles defined P done s w

    apart : AreApart s.names
    apart = apart_of v roles defined P done s w

    there : All done found.type.1
    there =
        extends_well v roles defined P done found.declarator.1 found.type.1 (derived_in v roles defined specs d attrs body s r fits ordered entries apart found).grows
        (extends_well v roles defined P done found.base.1 found.declarator.1 (declared_in v roles defined specs d attrs body s r fits ordered entries apart found).grows
        (extends_well v roles defined P done s found.base.1 (specified v roles defined specs d attrs body s r fits ordered entries apart found).grows w))

    module _ (x : Name) (parts : IsNamed v.target roles defined d.at (asked_by found.base.0.specs.storage) x found.type.0 found.declarator.0.derivations body found.type.1 r.1) where
      abbrev start : ℕ × State
      start = entered_function (entry_by parts.marks) (declared x (asked_by found.base.0.specs.storage) found.type.0 (kind.Func None None) found.type.1)

      abbrev made : Func
      made = function_of x (signature_of found.type.0) (length (locals_of parts.ps)) parts.inside.1.locals parts.inside.0

      is_function : is_function_type found.type.0 ≡ true
      is_function = is_function_here v roles defined specs d attrs body s r fits ordered entries apart found x parts

      begun : All done start.1
      begun = function_well v roles defined P x (asked_by found.base.0.specs.storage) found.type.0 (entry_by parts.marks) found.type.1 (attributed parts.marks) is_function parts.plain parts.main done there

      read : All done parts.inside.1
      read =
          body_keeps v roles defined P (out-Sig (signature_of found.type.0)).result body (inner_fits v roles defined specs d attrs body s r fits ordered entries apart found).1 no_jumps
          (entered parts.scope (with_locals (locals_of parts.ps) start.1)) parts.inside parts.read done
          (same_well v roles defined P done start.1 (entered parts.scope (with_locals (locals_of parts.ps) start.1)) refl begun)

      pub named_keeps : P found.type.0 made → All done r.1
      named_keeps good =
          let bare = with_locals [] parts.inside.1 in
          let told = defined_at d.at found.type.0 (kind.Func (entry_at start.0 bare) (Some made)) in
          let last = change_name start.0 told bare in
          subst (All done) (sym parts.last)
          (same_well v roles defined P done last (left last) refl
          (changed_well v roles defined P start.0 told bare
          (may_have_body d.at start.0 found.type.0 made bare is_function good (definition_told v roles defined specs d attrs body s r fits ordered entries apart found x parts))
          done (same_well v roles defined P done parts.inside.1 bare refl read)))

    keeps_by : (o : Option Name) → o ≡ found.declarator.0.name → named_function v.target roles defined d.at found.base.0 found.type.0 found.declarator.0.derivations attrs body o found.type.1 ≡ Ok r →
        ((x : Name) (parts : IsNamed v.target roles defined d.at (asked_by found.base.0.specs.storage) x found.type.0 found.declarator.0.derivations body found.type.1 r.1) →
        P found.type.0 (function_of x (signature_of found.type.0) (length (locals_of parts.ps)) parts.inside.1.locals parts.inside.0)) → All done r.1
    keeps_by (Some x) e h good =
        let parts = named_is v.target roles defined d.at found.base.0 found.type.0 found.declarator.0.derivations attrs body x found.type.1 r h in
        named_keeps x parts (good x parts)
    keeps_by None e h good = subst (All done) (sym (answer_is checked found.type.1 r h).1) there

    pub definition_keeps : ((x : Name) (parts : IsNamed v.target roles defined d.at (asked_by found.base.0.specs.storage) x found.type.0 found.declarator.0.derivations body found.type.1 r.1) →
        P found.type.0 (function_of x (signature_of found.type.0) (length (locals_of parts.ps)) parts.inside.1.locals parts.inside.0)) → All done r.1
    definition_keeps good = keeps_by found.declarator.0.name refl found.named good

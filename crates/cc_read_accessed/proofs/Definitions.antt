-- The definition of a function: the devices without a name that it declares are accessed by its body.
use Rattle.std.proofs.Common.{◌≡◌, ◌⊎◌, inl, inr, ℕ, suc, true, false, true≢false, List, [], length, Option, Some, None, Ok, refl, ap, sym, ◌∙◌, subst, arith}
use Rattle.std.specs.Prelude.{nat_lt, slice_get}
use Rattle.std.proofs.lemmas.Bool.{lt-ltb}
use Rattle.cc_accessed_bodies.proofs.Induction.{body_accounts}
use Rattle.cc_accessed_operands.specs.Accessed.{list_accesses}
use Rattle.cc_accessed_terms.proofs.Accounts.{more_declared}
use Rattle.cc_accessed_terms.proofs.Terms.{declr_declares, specifiers_declare}
use Rattle.cc_accessed_terms.specs.Accounted.{is_numbered_at, is_numbered_kind}
use Rattle.cc_type.specs.CcLinkage.Linkage.{declared, declared_by, new_declared}
use Rattle.cc_type.specs.CcLinkage.declared.linkage.DeclaredAs.{DeclaredAs}
use Rattle.cc_program.specs.declared.func.Entry.{Entry}
use Rattle.cc_program.specs.declared.func.Func.{Func}
use Rattle.cc_program.specs.declared.program.Roles.{Roles}
use Rattle.cc_program.specs.declared.types.CType.{CType}
use Rattle.cc_program.specs.declared.types.Sig.{out-Sig}
use Rattle.cc_read_accessed.proofs.Accounted.{AreAccounted, Counts, accounted_kept, counts_kept, counts_told, numbered_changed}
use Rattle.cc_read_accessed.proofs.Bodies.{body_keeps}
use Rattle.cc_read_accessed.proofs.Keeping.{Keeps, keeps_extends, keeps_names, keeps_through, named_at, named_once, once_told}
use Rattle.cc_read_accessed.proofs.KeptDeclarations.{function_known}
use Rattle.cc_read_sound.proofs.Functions.{declared_in, derived_in, inner_fits, specified}
use Rattle.cc_read_sound.proofs.Lists.{linked_there}
use Rattle.cc_read_sound.proofs.Parts.{IsFound, IsNamed, named_is}
use Rattle.cc_read_sound.specs.Definitions.{AreApart}
use Rattle.cc_read_sound.specs.External.{AreEntries}
use Rattle.cc_read_sound.specs.Ranges.{item_fits}
use Rattle.cc_type.specs.CcScopes.Definitions.{defined_at, entry_added, with_entry}
use Rattle.cc_type.specs.CcScopes.Linked.{linked_name}
use Rattle.cc_type.specs.CcScopes.State.{State, Name, change_name, entered, left, with_locals}
use Rattle.cc_type.specs.CcScopes.Verdicts.{Checked, checked}
use Rattle.cc_type.specs.CcScopes.declared.unit.Declared.{Declared}
use Rattle.cc_sound_terms.proofs.Founds.{answer_is}
use Rattle.cc_sound_terms.proofs.Growth.{changed_there, get_last}
use Rattle.cc_sound_terms.specs.Ordered.{IsOrdered}
use Rattle.cc_type.specs.CcSpecifiers.Attributes.{entry_by}
use Rattle.cc_type.specs.CcSpecifiers.Derivations.{in_definition}
use Rattle.cc_type.specs.CcSpecifiers.Storage.{setting}
use Rattle.cc_type.specs.CcSpecifiers.declared.attribute.Entity.TheVariants as entity
use Rattle.cc_type.specs.CcSpecifiers.declared.storage.Where.TheVariants as stands
use Rattle.cc_type.specs.CcSyntax.Views.{View}
use Rattle.cc_tree.specs.declared.at.At.{At}
use Rattle.cc_tree.specs.declared.tree.Attr.{Attr}
use Rattle.cc_tree.specs.declared.tree.Declr.{Declr}
use Rattle.cc_tree.specs.declared.tree.Spec.{Spec}
use Rattle.cc_tree.specs.declared.unit.Item.TheVariants as item
use Rattle.cc_tree.specs.declared.unit.Line.{Line}
use Rattle.cc_type.specs.Functions.{asked_by, entered_function, entry_at, function_of, locals_of, named_function, signature_of}
use Rattle.cc_type.specs.CcTypedStatements.Jumps.{no_jumps}
use Rattle.cc_type.specs.CcUnit.declared.unit.UnitKind.{UnitKind}
use Rattle.cc_type.specs.CcUnit.declared.unit.UnitKind.TheVariants as kind

-- where nothing is accessed
first_of : {A : Type 0} → A ⊎ (false ≡ true) → A
first_of (inl a) = a
first_of (inr h) = absurd (true≢false (sym h))

-- an entry of that name
record IsNamedAt (x : Name) (names : List Declared) (n : ℕ) : Type 0 where
  declared : Declared
  at : slice_get names n ≡ Some declared
  named : declared.name ≡ Some x

-- ---- a function that is declared, with its attributes

function_named : (x : Name) (asked : DeclaredAs) (t : CType) (s : State) (o : Option ℕ) → linked_name x s ≡ o → IsNamedAt x (declared_by x asked t (kind.Func None None) s o).1.names (declared_by x asked t (kind.Func None None) s o).0
function_named x asked t s (Some i) e = let l = linked_there x s.names i e in record { declared = l.declared; at = l.at; named = l.named }
function_named x asked t s None e = record { declared = new_declared x asked t (kind.Func None None); at = get_last s.names (new_declared x asked t (kind.Func None None)); named = refl }

entered_named : (x : Name) (asked : DeclaredAs) (t : CType) (entry : Option Entry) (s : State) →
    IsNamedAt x (entered_function entry (declared x asked t (kind.Func None None) s)).1.names (entered_function entry (declared x asked t (kind.Func None None) s)).0
entered_named x asked t entry s =
    let known = declared x asked t (kind.Func None None) s in
    let d = function_named x asked t s (linked_name x s) refl in
    record { declared = with_entry entry d.declared; at = changed_there known.1.names known.0 (with_entry entry) d.declared d.at; named = d.named }

entry_none : (entry : Option Entry) (k : UnitKind) → is_numbered_kind (entry_added entry k) ≡ true → is_numbered_kind k ≡ true
entry_none entry (kind.Func by f) h = h
entry_none entry (kind.Object leaves) h = h
entry_none entry (kind.Device d) h = h

function_none : (x : Name) (asked : DeclaredAs) (t : CType) (s : State) (o : Option ℕ) (i : ℕ) → is_numbered_at (declared_by x asked t (kind.Func None None) s o).1 i ≡ true → is_numbered_at s i ≡ true
function_none x asked t s (Some n) i h = h
function_none x asked t s None i h = first_of (more_declared (λ i. false) (new_declared x asked t (kind.Func None None)) s (λ e. e) i h)

entered_none : (x : Name) (asked : DeclaredAs) (t : CType) (entry : Option Entry) (s : State) (i : ℕ) → is_numbered_at (entered_function entry (declared x asked t (kind.Func None None) s)).1 i ≡ true → is_numbered_at s i ≡ true
entered_none x asked t entry s i h =
    let known = declared x asked t (kind.Func None None) s in
    function_none x asked t s (linked_name x s) i (numbered_changed known.1.names known.0 (with_entry entry) (λ d e. entry_none entry d.kind e) i h)

defined_counts : (n : ℕ) → nat_lt 0 (suc n) ≡ true
defined_counts n = lt-ltb 0 (suc n) (omega arith)

module _ (v : View) (roles : Roles) (defined : List Name) (specs : List (At Spec)) (d : At Declr) (attrs : List (At Attr)) (body : List (At Line)) (s : State) (r : Checked × State) (fits : item_fits (item.Func specs d attrs body) ≡ true)
    (ordered : IsOrdered s) (entries : AreEntries v.target defined s.names) (apart : AreApart s.names) (found : IsFound v.target roles defined specs d attrs body s r) where
  -- ---- its type

  front_keeps : Keeps s found.type.1
  front_keeps =
      keeps_through s found.base.1 found.type.1 (keeps_extends v s found.base.1 (specified v roles defined specs d attrs body s r fits ordered entries apart found).grows)
      (keeps_through found.base.1 found.declarator.1 found.type.1 (keeps_extends v found.base.1 found.declarator.1 (declared_in v roles defined specs d attrs body s r fits ordered entries apart found).grows)
      (keeps_extends v found.declarator.1 found.type.1 (derived_in v roles defined specs d attrs body s r fits ordered entries apart found).grows))

  front_none : (i : ℕ) → is_numbered_at found.type.1 i ≡ true → is_numbered_at s i ≡ true
  front_none i h =
      first_of (specifiers_declare v.target roles (setting stands.OfDefinition entity.Function) specs s found.base found.specified i
      (first_of (declr_declares v.target roles d.node in_definition d.at found.base.1 found.declarator found.declared i (ap (λ (z : State). is_numbered_at z i) (sym found.same) ∙ h))))

  -- ---- its body

  module _ (x : Name) (parts : IsNamed v.target roles defined d.at (asked_by found.base.0.specs.storage) x found.type.0 found.declarator.0.derivations body found.type.1 r.1) where
    abbrev asked : DeclaredAs
    asked = asked_by found.base.0.specs.storage

    abbrev start : ℕ × State
    start = entered_function (entry_by parts.marks) (declared x asked found.type.0 (kind.Func None None) found.type.1)

    abbrev begun : State
    begun = entered parts.scope (with_locals (locals_of parts.ps) start.1)

    abbrev inside : State
    inside = parts.inside.1

    abbrev bare : State
    bare = with_locals [] inside

    abbrev made : Func
    made = function_of x (signature_of found.type.0) (length (locals_of parts.ps)) inside.locals parts.inside.0

    abbrev by : Option Entry
    by = entry_at start.0 bare

    abbrev told : Declared → Declared
    told = defined_at d.at found.type.0 (kind.Func by (Some made))

    abbrev last : State
    last = change_name start.0 told bare

    in_body : Keeps start.1 inside
    in_body =
        keeps_through start.1 begun inside (keeps_names start.1 begun refl)
        (body_keeps v roles defined (out-Sig (signature_of found.type.0)).result body (inner_fits v roles defined specs d attrs body s r fits ordered entries apart found).1 no_jumps begun parts.inside parts.read)

    all_keep : Keeps s inside
    all_keep = keeps_through s found.type.1 inside front_keeps (keeps_through found.type.1 start.1 inside (function_known v roles defined x asked found.type.0 (entry_by parts.marks) found.type.1) in_body)

    -- its entry behind the body
    there : IsNamedAt x inside.names start.0
    there =
        let n = entered_named x asked found.type.0 (entry_by parts.marks) found.type.1 in
        let k = in_body.stays start.0 n.declared n.at in
        record { declared = k.0; at = k.1; named = k.2.name ∙ n.named }

    counts_last : (i : ℕ) → (is_numbered_at begun i ≡ true) ⊎ (list_accesses i parts.inside.0 ≡ true) → AreAccounted s → Counts last i
    counts_last i (inl h) a =
        let before = front_none i (entered_none x asked found.type.0 (entry_by parts.marks) found.type.1 i h) in
        counts_told start.0 d.at found.type.0 by made bare i (counts_kept s bare i (keeps_through s inside bare all_keep (keeps_names inside bare refl)) (a.accessed i before))
    counts_last i (inr h) a = inl (record {
      number = start.0;
      declared = told there.declared;
      entry = by;
      func = made;
      there = changed_there bare.names start.0 told there.declared there.at;
      defined = refl;
      counted = defined_counts there.declared.definitions;
      accesses = h;
    })

    not_numbered : (e : Declared) → is_numbered_kind (told e).kind ≡ true → is_numbered_kind e.kind ≡ true
    not_numbered e h = absurd (true≢false (sym h))

    named_accounts : AreAccounted s → AreAccounted r.1
    named_accounts a =
        subst AreAccounted (sym parts.last) (record {
          accessed = λ i h. counts_kept last (left last) i (keeps_names last (left last) refl)
              (counts_last i
              (body_accounts v.target roles defined (out-Sig (signature_of found.type.0)).result body (inner_fits v roles defined specs d attrs body s r fits ordered entries apart found).1 no_jumps begun parts.inside parts.read i
              (numbered_changed bare.names start.0 told not_numbered i h)) a);
          once = once_told start.0 told bare (λ e h o. named_once (told e) x (named_at bare.names start.0 there.declared e x there.at h there.named)) (all_keep.once a.once);
        })

  accounts_by : (o : Option Name) → o ≡ found.declarator.0.name → named_function v.target roles defined d.at found.base.0 found.type.0 found.declarator.0.derivations attrs body o found.type.1 ≡ Ok r → AreAccounted s → AreAccounted r.1
  accounts_by (Some x) e h a = named_accounts x (named_is v.target roles defined d.at found.base.0 found.type.0 found.declarator.0.derivations attrs body x found.type.1 r h) a
  accounts_by None e h a = subst AreAccounted (sym (answer_is checked found.type.1 r h).1) (accounted_kept s found.type.1 front_keeps front_none a)

  pub definition_accounts : AreAccounted s → AreAccounted r.1
  definition_accounts a = accounts_by found.declarator.0.name refl found.named a

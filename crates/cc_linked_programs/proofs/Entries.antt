-- How each function of the program is a handler: by its attributes, or because the roles name it; and none is a bad one.
use Rattle.std.proofs.Common.{◌≡◌, ◌∙◌, inl, inr, ◌<◌, ℕ, Bool, true, false, true≢false, not, ◌&&◌, ◌||◌, List, [], ◌∷◌, length, fold, Option, Some, None, is_some, slice_get, refl, ap, sym, subst}
use Rattle.std.specs.Prelude.{unwrap_or}
use Rattle.std.specs.Option.{is_none}
use Rattle.cc_causes.specs.Causes.{bad_handler}
use Rattle.cc_causes.specs.Entries.{entry_at, entry_by, is_in_roles, is_listed}
use Rattle.cc_definitions.specs.Definitions.{thing_at}
use Rattle.cc_definitions.specs.Handlers.{entry_given, entry_in, has_handler_type, is_named_main, may_be_handler}
use Rattle.cc_link.specs.Linked.{name_or_none, program}
use Rattle.cc_linked_programs.proofs.Named.{NameOf, has_name_by, name_there}
use Rattle.cc_linked_names.specs.Given.{name_at, reserved_names}
use Rattle.cc_linked_programs.proofs.ThingLists.{found-in}
use Rattle.cc_linked_programs.proofs.Definitions.{DefinedAt, MentionAt, mention_at, thing-within}
use Rattle.cc_program.specs.CcNum.declared.target.Target.{Target}
use Rattle.cc_program.specs.declared.func.Entry.{Entry}
use Rattle.cc_program.specs.declared.func.Entry.TheVariants as entry
use Rattle.cc_program.specs.declared.func.Func.{Func}
use Rattle.cc_program.specs.declared.program.Program.{Program}
use Rattle.cc_program.specs.declared.program.Roles.{Roles}
use Rattle.cc_linked_programs.proofs.HandlerViews.{not_bad}
use Rattle.cc_relocated_units.specs.Units.{unit_view, IsSoundKind, IsSoundUnit, is_attributed}
use Rattle.cc_structures.proofs.Elements.{In, any-in}
use Rattle.cc_structures.specs.Structures.{Known, Numbering}
use Rattle.cc_operands.specs.CcSyntax.Sound.{entry_fits, is_handler_name}
use Rattle.cc_things.specs.Mentions.{Mention}
use Rattle.cc_things.specs.Things.{Thing, things, is_defined, is_definition, is_device, is_device_kind, is_there, is_used, own_name}
use Rattle.cc_things.specs.declared.text.Text.{Text}
use Rattle.cc_unit.specs.Entries.{both_entries}
use Rattle.cc_unit.specs.declared.unit.UnitKind.{UnitKind}
use Rattle.cc_unit.specs.declared.unit.UnitKind.TheVariants as kind
use Rattle.std.specs.List.{list_any}

both_attributed : (a b : Option Entry) → is_attributed a ≡ true → is_attributed b ≡ true → is_attributed (both_entries a b) ≡ true
both_attributed None b h k = k
both_attributed (Some entry.Signal) b h k = refl
both_attributed (Some entry.Interrupt) None h k = refl
both_attributed (Some entry.Interrupt) (Some entry.Signal) h k = refl
both_attributed (Some entry.Interrupt) (Some entry.Interrupt) h k = refl
both_attributed (Some entry.Interrupt) (Some entry.Listed) h k = refl
both_attributed (Some entry.Listed) b h k = absurd (true≢false (sym h))

all_attributed : (ms : List Mention) (e : Option Entry) → is_attributed e ≡ true → ((m : Mention) → In m ms → is_attributed (entry_in m.name.kind) ≡ true) →
    is_attributed (fold (λ (e : Option Entry) (m : Mention). both_entries e (entry_in m.name.kind)) e ms) ≡ true
all_attributed [] e h each = h
all_attributed (m ∷ ms) e h each = all_attributed ms (both_entries e (entry_in m.name.kind)) (both_attributed e (entry_in m.name.kind) h (each m (inl refl))) (λ k i. each k (inr i))

module _ (texts : List Text) (target : Target) (sound : (t : ℕ) (x : Text) → slice_get texts t ≡ Some x → IsSoundUnit target x.unit) (roles : Roles) (numbering : Numbering) (firsts : List Known) where
  abbrev ts : List Thing
  ts = things texts

  abbrev reserved : List (List ℕ)
  reserved = reserved_names texts roles

  abbrev name_of : ℕ → Option (List ℕ)
  name_of k = name_at ts reserved roles firsts k

  abbrev p : Program
  p = program texts roles numbering firsts target

  -- a definition of a thing is one of its mentions
  pub in_thing_at : (k : ℕ) (d : DefinedAt texts target sound k) → In d.by (thing_at ts k).mentions
  in_thing_at k d = (found-in is_definition (thing_at ts k).mentions d.by d.is).0

  pub defined_there : (k : ℕ) → DefinedAt texts target sound k → is_defined (thing_at ts k) ≡ true
  defined_there k d = any-in is_definition (thing_at ts k).mentions d.by (in_thing_at k d) d.defines

  pub low_number : (k : ℕ) → DefinedAt texts target sound k → k < length ts
  low_number k d = thing-within ts is_defined k refl (defined_there k d)

  pub no_device_there : (k : ℕ) → DefinedAt texts target sound k → is_device (thing_at ts k) ≡ false
  no_device_there k d = rw (defined_there k d) (none (list_any (λ (m : Mention). is_device_kind m.name.kind) (thing_at ts k).mentions))
    where
      none : (b : Bool) → b && false ≡ false
      none true = refl
      none false = refl

  pub is_there_by : (k : ℕ) → DefinedAt texts target sound k → is_there (thing_at ts k) ≡ true
  is_there_by k d = rw (defined_there k d) refl

  -- what is defined has a name
  pub defined_name : (k : ℕ) → DefinedAt texts target sound k → NameOf ts reserved roles firsts k
  defined_name k d =
      name_there ts reserved roles firsts k (has_name_by ts k (is_there_by k d) (ap (λ (b : Bool). b && is_none (own_name (thing_at ts k))) (no_device_there k d)))

  pub name_is : (k : ℕ) (d : DefinedAt texts target sound k) → name_or_none ts name_of k ≡ (defined_name k d).name
  name_is k d = ap (λ (o : Option (List ℕ)). unwrap_or o []) (defined_name k d).is

  -- ---- entries

  given_attributed : (k : ℕ) → DefinedAt texts target sound k → is_attributed (entry_given (thing_at ts k)) ≡ true
  given_attributed k d = all_attributed (thing_at ts k).mentions None refl (λ m i. by m m.name.kind refl (mention_at texts target sound k m (low_number k d) i))
    where
      by : (m : Mention) (q : UnitKind) → m.name.kind ≡ q → MentionAt texts target sound k m → is_attributed (entry_in m.name.kind) ≡ true
      by m (kind.Object init) q n = ap (λ (u : UnitKind). is_attributed (entry_in u)) q
      by m (kind.Device x) q n = ap (λ (u : UnitKind). is_attributed (entry_in u)) q
      by m (kind.Func e f) q n =
          ap (λ (u : UnitKind). is_attributed (entry_in u)) q ∙ (subst (λ (u : UnitKind). IsSoundKind (unit_view target n.text.unit) m.name u) q n.name).entry

  -- of a function of the program with this name
  pub entry_there : (f : Func) (k : ℕ) → DefinedAt texts target sound k → f.name ≡ name_or_none ts name_of k → f.entry ≡ entry_at ts roles name_of k → entry_fits p f f.entry ≡ true
  entry_there f k d named is = subst (λ (e : Option Entry). entry_fits p f e ≡ true) (sym is) (by (entry_given (thing_at ts k)) (is_listed ts roles name_of k) (given_attributed k d) refl)
    where
      name : NameOf ts reserved roles firsts k
      name = defined_name k d

      same : f.name ≡ name.name
      same = named ∙ name_is k d

      -- the roles name it where they name its name
      listed : is_listed ts roles name_of k ≡ is_handler_name p f.name
      listed =
          ap (λ (b : Bool). not b && is_in_roles roles (name_of k)) (no_device_there k d)
          ∙ (ap (is_in_roles roles) name.is ∙ ap (is_handler_name p) (sym same))

      by : (e : Option Entry) (b : Bool) → is_attributed e ≡ true → is_listed ts roles name_of k ≡ b → entry_fits p f (entry_by e b) ≡ true
      by (Some entry.Signal) b h l = refl
      by (Some entry.Interrupt) b h l = refl
      by (Some entry.Listed) b h l = absurd (true≢false (sym h))
      by None true h l = sym listed ∙ l
      by None false h l = ap not (sym listed ∙ l)

  -- ---- handlers may be ones

  pub handler_may : bad_handler ts roles name_of ≡ None → (k : ℕ) → k < length ts → is_some (entry_at ts roles name_of k) ≡ true → may_be_handler (thing_at ts k) ≡ true
  handler_may no_bad k low h = by (is_some (entry_at ts roles name_of k)) (may_be_handler (thing_at ts k)) h (not_bad texts target sound roles name_of no_bad k low)
    where
      by : (a b : Bool) → a ≡ true → a && not b ≡ false → b ≡ true
      by true true h n = refl
      by true false h n = absurd (true≢false n)
      by false b h n = absurd (true≢false (sym h))

  pub record MayHandle (k : ℕ) : Type 0 where
    pub defined : is_defined (thing_at ts k) ≡ true
    pub typed : has_handler_type (thing_at ts k) ≡ true
    pub other : is_named_main (thing_at ts k) ≡ false

  pub may_handle : (k : ℕ) → may_be_handler (thing_at ts k) ≡ true → MayHandle k
  may_handle k h = let r = by (is_defined (thing_at ts k)) (has_handler_type (thing_at ts k)) (is_named_main (thing_at ts k)) (is_used (thing_at ts k)) h in record { defined = r.0; typed = r.1; other = r.2 }
    where
      by : (a b c d : Bool) → a && b && not (c || d) ≡ true → (a ≡ true) × (b ≡ true) × (c ≡ false)
      by true true false d h = (refl, refl, refl)
      by true true true d h = absurd (true≢false (sym h))
      by true false c d h = absurd (true≢false (sym h))
      by false b c d h = absurd (true≢false (sym h))

-- What is defined has a sound definition; and what is defined as a function has one with its body.
use Rattle.std.proofs.Common.{◌≡◌, ◌∙◌, ◌⊎◌, inl, inr, ◌<◌, ◌≤◌, ℕ, zero, suc, Bool, true, false, true≢false, List, [], ◌∷◌, length, get_or, Option, Some, None, is_some, slice_get, refl, ap, sym, subst, arith}
use Rattle.std.specs.Option.{option_map_or}
use Rattle.std.proofs.lemmas.Bool.{cases_lt}
use Rattle.std.proofs.Math.ListN.{get_or-eq_default}
use Rattle.cc_definitions.specs.Definitions.{thing_at, definition, has_definition, functions}
use Rattle.cc_linked_programs.proofs.Agreeing.{from_identity, mention_in}
use Rattle.cc_linked_programs.proofs.ThingLists.{found-in}
use Rattle.cc_linked_programs.proofs.ThingSources.{is_mention}
use Rattle.cc_linked_programs.proofs.Defined.{at_all, each_named}
use Rattle.cc_linked_programs.proofs.ViewNumbers.{functions-in}
use Rattle.cc_program.specs.CcNum.declared.target.Target.{Target}
use Rattle.cc_program.specs.declared.func.Entry.{Entry}
use Rattle.cc_program.specs.declared.func.Func.{Func}
use Rattle.cc_relocated_units.specs.Units.{unit_view, IsSoundUnit, IsSoundName, IsSoundKind, IsSoundFunctionName}
use Rattle.cc_structures.proofs.Elements.{In, in-at}
use Rattle.cc_things.specs.Mentions.{Mention, mentions}
use Rattle.cc_things.specs.Things.{Identity, Thing, identity_of, thing_of, things, is_definition, is_func_kind}
use Rattle.cc_things.specs.View.{no_thing}
use Rattle.cc_things.specs.declared.text.Text.{Text}
use Rattle.cc_unit.specs.declared.unit.UnitKind.{UnitKind}
use Rattle.cc_unit.specs.declared.unit.UnitKind.TheVariants as kind

-- a thing that is there stands among the things
pub thing-within : (ts : List Thing) (test : Thing → Bool) (k : ℕ) → test no_thing ≡ false → test (thing_at ts k) ≡ true → k < length ts
thing-within ts test k n e = by (cases_lt k (length ts))
  where
    by : (k < length ts) ⊎ (length ts ≤ k) → k < length ts
    by (inl low) = low
    by (inr high) = absurd (true≢false (sym e ∙ (ap test (get_or-eq_default ts no_thing high) ∙ n)))

pub thing-in : (ts : List Thing) (k : ℕ) → k < length ts → In (thing_at ts k) ts
thing-in ts k h = in-at ts k (thing_at ts k) h (own ts k h)
  where
    own : (xs : List Thing) (k : ℕ) → k < length xs → get_or xs k (get_or xs k no_thing) ≡ get_or xs k no_thing
    own [] k h = absurd (omega (arith, h))
    own (x ∷ xs) zero h = refl
    own (x ∷ xs) (suc k) h = own xs k (omega (arith, h))

module _ (texts : List Text) (target : Target) (sound : (t : ℕ) (x : Text) → slice_get texts t ≡ Some x → IsSoundUnit target x.unit) where
  abbrev ts : List Thing
  ts = things texts

  -- a mention is one of a thing, and a name of its source
  pub record MentionAt (k : ℕ) (m : Mention) : Type 0 where
    pub known : In m (mentions texts)
    pub one : thing_of (mentions texts) (identity_of m) ≡ thing_at ts k
    pub text : Text
    pub there : slice_get texts m.text ≡ Some text
    pub placed : slice_get text.unit.names m.position ≡ Some m.name
    pub name : IsSoundName (unit_view target text.unit) m.name

  pub mention_at : (k : ℕ) (m : Mention) → k < length ts → In m (thing_at ts k).mentions → MentionAt k m
  mention_at k m low i =
      let x = from_identity texts (each_named texts target sound) (thing_at ts k) (thing-in ts k low) in
      let j = mention_in texts (each_named texts target sound) x.0 m (subst (λ (t : Thing). In m t.mentions) (sym x.1) i) in
      let r = is_mention texts m j.0 in
      record {
        known = j.0;
        one = ap (thing_of (mentions texts)) j.1 ∙ x.1;
        text = r.text;
        there = r.there;
        placed = r.named;
        name = at_all (IsSoundName (unit_view target r.text.unit)) r.text.unit.names m.position m.name (sound m.text r.text r.there).names r.named;
      }

  pub record DefinedAt (k : ℕ) : Type 0 where
    pub by : Mention
    pub is : definition (thing_at ts k) ≡ Some by
    pub defines : is_definition by ≡ true
    pub mention : MentionAt k by

  pub defined_at : (k : ℕ) → has_definition (thing_at ts k) ≡ true → DefinedAt k
  defined_at k h = by (definition (thing_at ts k)) refl h
    where
      by : (o : Option Mention) → definition (thing_at ts k) ≡ o → is_some o ≡ true → DefinedAt k
      by None e g = absurd (true≢false (sym g))
      by (Some d) e g =
          let f = found-in is_definition (thing_at ts k).mentions d e in
          record { by = d; is = e; defines = f.1; mention = mention_at k d (thing-within ts (λ (t : Thing). has_definition t) k refl h) f.0 }

  pub record FunctionAt (k : ℕ) : Type 0 where
    pub defined : DefinedAt k
    pub entry : Option Entry
    pub func : Func
    pub kind : defined.by.name.kind ≡ kind.Func entry (Some func)
    pub name : IsSoundFunctionName (unit_view target defined.mention.text.unit) defined.by.name entry (Some func)

  pub function_at : (k : ℕ) → In k (functions ts) → FunctionAt k
  function_at k i =
      let f = functions-in ts k i in
      let d = defined_at k f.0 in
      by d d.by.name.kind refl d.mention.name (sym (ap (λ (o : Option Mention). option_map_or (λ (m : Mention). is_func_kind m.name.kind) o false) d.is) ∙ f.1)
    where
      by : (d : DefinedAt k) (q : UnitKind) → d.by.name.kind ≡ q → IsSoundKind (unit_view target d.mention.text.unit) d.by.name q → is_func_kind d.by.name.kind ≡ true → FunctionAt k
      by d (kind.Object init) q s e = absurd (true≢false (sym e ∙ ap is_func_kind q))
      by d (kind.Device x) q s e = absurd (true≢false (sym e ∙ ap is_func_kind q))
      by d (kind.Func entry None) q s e = absurd (true≢false (sym d.defines ∙ s.defined))
      by d (kind.Func entry (Some g)) q s e = record { defined = d; entry = entry; func = g; kind = q; name = s }

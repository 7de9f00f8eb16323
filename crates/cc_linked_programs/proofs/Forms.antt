-- `main` is no handler, and takes and gives what `main` may; a handler takes and gives nothing (C99 5.1.2.2.1).
use Rattle.std.proofs.Common.{◌≡◌, ◌∙◌, ◌<◌, ℕ, Bool, true, false, true≢false, not, ◌&&◌, ◌||◌, cond, List, length, Option, Some, None, is_some, slice_get, refl, ap, sym}
use Rattle.std.specs.Prelude.{nat_eq}
use Rattle.std.proofs.lemmas.List.{length-map}
use Rattle.cc_causes.specs.Causes.{bad_handler, cause_of_things}
use Rattle.cc_causes.specs.Entries.{entry_at}
use Rattle.cc_definitions.specs.Definitions.{thing_at, has_definition}
use Rattle.cc_definitions.specs.Handlers.{has_name, is_named_main, takes_and_gives_nothing}
use Rattle.cc_link.specs.Linked.{all_ids, ids_in, program}
use Rattle.cc_linked_programs.proofs.Contents.{FuncIn}
use Rattle.cc_linked_names.specs.Given.{name_at, reserved_names}
use Rattle.cc_linked_programs.proofs.Definitions.{DefinedAt, FunctionAt, thing-within}
use Rattle.cc_linked_programs.proofs.Units.{units_of}
use Rattle.cc_program.specs.CcNum.declared.int_type.IntType.TheVariants as int
use Rattle.cc_program.specs.CcNum.declared.target.Target.{Target}
use Rattle.cc_program.specs.declared.func.Func.{Func}
use Rattle.cc_program.specs.declared.program.Program.{Program}
use Rattle.cc_program.specs.declared.program.Roles.{Roles}
use Rattle.cc_program.specs.declared.types.CType.{CType}
use Rattle.cc_program.specs.declared.types.Shape.{Shape, out-Shape}
use Rattle.cc_program.specs.declared.types.Shape.TheOpen as shape
use Rattle.cc_program.specs.declared.types.Sig.{Sig, out-Sig}
use Rattle.cc_relocated_units.proofs.Types.{unqualified_kept, void_kept}
use Rattle.cc_relocated_units.specs.Units.{IsSoundUnit, is_main_name, is_main_sig}
use Rattle.cc_structures.proofs.WordLaws.{level-renumbered, renumbered_level, sig_level}
use Rattle.cc_structures.specs.Structures.{AreNumbered, Known, Numbering}
use Rattle.cc_operands.specs.CcSyntax.Names.{are_names, file_names}
use Rattle.cc_operands.specs.CcSyntax.Operators.{is_handler, is_unqualified}
use Rattle.cc_operands.specs.CcSyntax.SameTypes.{is_int_shape}
use Rattle.cc_operands.specs.CcSyntax.Sound.{form_fits, is_main, is_plain_int, is_plain_void, main_name, takes_nothing}
use Rattle.cc_operands.specs.CcSyntax.Values.{is_void}
use Rattle.cc_things.specs.Mentions.{Mention}
use Rattle.cc_things.specs.Things.{Thing, is_external, is_func, own_name, things}
use Rattle.cc_things.specs.declared.text.Text.{Text}
use Rattle.cc_unit.specs.Renumbered.{sig_renumbered, type_renumbered}
use Rattle.cc_linked_programs.proofs.Entries.{defined_name, handler_may, in_thing_at, low_number, MayHandle, may_handle, name_is}
use Rattle.cc_linked_programs.proofs.Externals.{external_at, external_mention}
use Rattle.cc_linked_programs.proofs.Main.{only_main}
use Rattle.cc_linked_programs.proofs.Places.{all-at, bytes-itself, bytes-one}
use Rattle.cc_linked_programs.specs.Named.{IsMainNamed}

-- ---- types by other numbers

module _ (numbers : List ℕ) where
  int_level : (x : shape.Shape-F Shape CType Sig) → is_int_shape int.Int (renumbered_level numbers x) ≡ is_int_shape int.Int x
  int_level shape.Void = refl
  int_level (shape.Int t) = refl
  int_level (shape.Pointer to) = refl
  int_level (shape.Array of n) = refl
  int_level (shape.Struct i) = refl
  int_level (shape.Func s) = refl

  plain_void_kept : (t : CType) → is_plain_void (type_renumbered numbers t) ≡ is_plain_void t
  plain_void_kept t = ap (λ (b : Bool). b && is_void (type_renumbered numbers t)) (unqualified_kept numbers t) ∙ ap (λ (b : Bool). is_unqualified t && b) (void_kept numbers t)

  plain_int_kept : (t : CType) → is_plain_int (type_renumbered numbers t) ≡ is_plain_int t
  plain_int_kept t =
      ap (λ (b : Bool). b && is_int_shape int.Int (out-Shape (type_renumbered numbers t).shape)) (unqualified_kept numbers t)
      ∙ ap (λ (b : Bool). is_unqualified t && b) (ap (is_int_shape int.Int) (level-renumbered numbers t (out-Shape t.shape) refl) ∙ int_level (out-Shape t.shape))

  abbrev main_level : shape.Sig-F Shape CType Sig → Bool
  main_level y = nat_eq (length y.params) 0 && (is_plain_int y.result || is_plain_void y.result)

  abbrev void_level : shape.Sig-F Shape CType Sig → Bool
  void_level y = nat_eq (length y.params) 0 && is_plain_void y.result

  pub main_sig_kept : (s : Sig) → is_main_sig (sig_renumbered numbers s) ≡ is_main_sig s
  main_sig_kept s =
      ap main_level (sig_level numbers s (out-Sig s) refl)
      ∙ (ap (λ (n : ℕ). nat_eq n 0 && (is_plain_int (type_renumbered numbers (out-Sig s).result) || is_plain_void (type_renumbered numbers (out-Sig s).result))) (length-map (out-Sig s).params (type_renumbered numbers))
      ∙ (ap (λ (b : Bool). nat_eq (length (out-Sig s).params) 0 && (b || is_plain_void (type_renumbered numbers (out-Sig s).result))) (plain_int_kept (out-Sig s).result)
      ∙ ap (λ (b : Bool). nat_eq (length (out-Sig s).params) 0 && (is_plain_int (out-Sig s).result || b)) (plain_void_kept (out-Sig s).result)))

  pub void_sig_kept : (s : Sig) → void_level (out-Sig (sig_renumbered numbers s)) ≡ void_level (out-Sig s)
  void_sig_kept s =
      ap void_level (sig_level numbers s (out-Sig s) refl)
      ∙ (ap (λ (n : ℕ). nat_eq n 0 && is_plain_void (type_renumbered numbers (out-Sig s).result)) (length-map (out-Sig s).params (type_renumbered numbers))
      ∙ ap (λ (b : Bool). nat_eq (length (out-Sig s).params) 0 && b) (plain_void_kept (out-Sig s).result))

form_by : (a b c d : Bool) → (a ≡ true → (b ≡ false) × (c ≡ true)) → (a ≡ false → b ≡ true → d ≡ true) → cond a (not b && c) (cond b d true) ≡ true
form_by true b c d h k = let r = h refl in rw (r.0, r.1) refl
form_by false true c d h k = k refl refl
form_by false false c d h k = refl

own_main_name : (o : Option (List ℕ)) → has_name main_name o ≡ true → o ≡ Some main_name
own_main_name None h = absurd (true≢false (sym h))
own_main_name (Some x) h = ap (λ (y : List ℕ). Some y) (sym (bytes-one main_name x h))

module _ (texts : List Text) (target : Target) (sound : (t : ℕ) (x : Text) → slice_get texts t ≡ Some x → IsSoundUnit target x.unit) where
  pub record NamedMain (k : ℕ) : Type 0 where
    pub external : is_external (thing_at (things texts) k) ≡ true
    pub own : own_name (thing_at (things texts) k) ≡ Some main_name

  pub named_main : (k : ℕ) → is_named_main (thing_at (things texts) k) ≡ true → NamedMain k
  named_main k h =
      let t = thing_at (things texts) k in
      let r = by (is_external t) (is_func t) (has_name main_name (own_name t)) h in
      record { external = r.0; own = own_main_name (own_name t) r.1 }
    where
      by : (a b c : Bool) → a && b && c ≡ true → (a ≡ true) × (c ≡ true)
      by true true true h = (refl, refl)
      by true true false h = absurd (true≢false (sym h))
      by true false c h = absurd (true≢false (sym h))
      by false b c h = absurd (true≢false (sym h))

  -- the definition of what is named so has that name
  pub main_own_name : (k : ℕ) (d : DefinedAt texts target sound k) → is_named_main (thing_at (things texts) k) ≡ true → is_main_name d.by.name.name ≡ true
  main_own_name k d h =
      let n = named_main k h in
      let low = thing-within (things texts) has_definition k refl (ap is_some d.is) in
      ap is_main_name (external_mention texts target sound k main_name (external_at texts target sound k low n.external main_name n.own) d.by d.mention) ∙ bytes-itself main_name

module _ (texts : List Text) (target : Target) (sound : (t : ℕ) (x : Text) → slice_get texts t ≡ Some x → IsSoundUnit target x.unit) (roles : Roles) (numbering : Numbering) (firsts : List Known) (are : AreNumbered (units_of texts) numbering firsts)
    (none : cause_of_things numbering (things texts) ≡ None) (no_bad : bad_handler (things texts) roles (name_at (things texts) (reserved_names texts roles) roles firsts) ≡ None) (main_named : IsMainNamed texts roles firsts) where
  abbrev ts : List Thing
  ts = things texts

  abbrev name_of : ℕ → Option (List ℕ)
  name_of k = name_at ts (reserved_names texts roles) roles firsts k

  abbrev p : Program
  p = program texts roles numbering firsts target

  -- ---- the form of each function

  abbrev numbers_at : (k : ℕ) → FunctionAt texts target sound k → List ℕ
  numbers_at k a = (ids_in (all_ids texts numbering) a.defined.by.text).structures

  sig_is : (f : Func) (r : FuncIn texts target sound roles numbering firsts are none no_bad f) → f.sig ≡ sig_renumbered (numbers_at r.number r.at) r.at.name.sig
  sig_is f r = ap (λ (g : Func). g.sig) r.is ∙ ap (sig_renumbered (numbers_at r.number r.at)) r.at.name.body.same

  pub form_there : are_names (file_names p) ≡ true → (f : Func) (r : FuncIn texts target sound roles numbering firsts are none no_bad f) → form_fits f ≡ true
  form_there names f r = form_by (is_main f) (is_handler f) (is_main_sig f.sig) (takes_nothing f && is_plain_void (out-Sig f.sig).result) main_form handler_form
    where
      k : ℕ
      k = r.number

      a : FunctionAt texts target sound k
      a = r.at

      d : DefinedAt texts target sound k
      d = a.defined

      entry_is : is_handler f ≡ is_some (entry_at ts roles name_of k)
      entry_is = ap is_handler r.is

      low : k < length ts
      low = low_number texts target sound roles numbering firsts k d

      may : is_some (entry_at ts roles name_of k) ≡ true → MayHandle texts target sound roles numbering firsts k
      may h = may_handle texts target sound roles numbering firsts k (handler_may texts target sound roles numbering firsts no_bad k low h)

      name : f.name ≡ (defined_name texts target sound roles numbering firsts k d).name
      name = ap (λ (g : Func). g.name) r.is ∙ name_is texts target sound roles numbering firsts k d

      no_entry : is_named_main (thing_at ts k) ≡ true → (b : Bool) → is_some (entry_at ts roles name_of k) ≡ b → b ≡ false
      no_entry h true e = absurd (true≢false (sym h ∙ (may e).other))
      no_entry h false e = refl

      main_form : is_main f ≡ true → (is_handler f ≡ false) × (is_main_sig f.sig ≡ true)
      main_form h =
          let named = defined_name texts target sound roles numbering firsts k d in
          let is : name_of k ≡ Some main_name = named.is ∙ ap (λ (x : List ℕ). Some x) (sym name ∙ bytes-one f.name main_name h) in
          let runs = only_main texts target sound roles numbering firsts none main_named names k r.there is in (
            entry_is ∙ no_entry runs (is_some (entry_at ts roles name_of k)) refl,
            ap is_main_sig (sig_is f r) ∙ (main_sig_kept (numbers_at k a) a.name.sig ∙ a.name.main (main_own_name texts target sound k d runs)),
          )

      handler_form : is_main f ≡ false → is_handler f ≡ true → takes_nothing f && is_plain_void (out-Sig f.sig).result ≡ true
      handler_form n h =
          let typed = all-at (λ (m : Mention). takes_and_gives_nothing (out-Shape m.name.ctype.shape)) (thing_at ts k).mentions d.by (may (sym entry_is ∙ h)).typed (in_thing_at texts target sound roles numbering firsts k d) in
          let own : takes_and_gives_nothing (shape.Func a.name.sig) ≡ true = sym (ap takes_and_gives_nothing a.name.typed) ∙ typed in
          ap (λ (s : Sig). nat_eq (length (out-Sig s).params) 0 && is_plain_void (out-Sig s).result) (sig_is f r) ∙ (void_sig_kept (numbers_at k a) a.name.sig ∙ own)

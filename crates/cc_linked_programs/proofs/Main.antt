-- The function that runs first: it is in the program, with its name, and no other function has it.
use Rattle.std.proofs.Common.{◌≡◌, ◌∙◌, ◌<◌, ℕ, Bool, true, false, true≢false, ◌&&◌, List, [], ◌++◌, length, map, Option, Some, None, is_some, option_map, slice_get, refl, ap, sym, subst}
use Rattle.std.specs.Prelude.{if◌then◌else◌, unwrap_or}
use Rattle.std.specs.Option.{option_map_or}
use Rattle.std.specs.List.{list_all, list_any}
use Rattle.std.specs.Str.{bytes_eq}
use Rattle.std.proofs.lemmas.Option.{get_or_from_slice_get, slice_get-map, slice_get_within}
use Rattle.cc_causes.specs.Causes.{cause_of_things, first_named, is_main, is_twice, is_undefined, types_differ}
use Rattle.cc_causes.specs.declared.fault.LinkFault.TheVariants as fault
use Rattle.cc_definitions.specs.Definitions.{thing_at, defined, definition, functions, is_function}
use Rattle.cc_definitions.specs.Handlers.{has_name, is_named_main}
use Rattle.cc_link.specs.Linked.{program}
use Rattle.cc_linked_names.specs.Given.{file_names as given_names, name_at, reserved_names, tags as given_tags}
use Rattle.cc_linked_programs.proofs.Agreeing.{second_none}
use Rattle.cc_linked_programs.proofs.Definitions.{MentionAt, function_at, mention_at}
use Rattle.cc_linked_programs.proofs.Functions.{func_from, func_there}
use Rattle.cc_linked_programs.proofs.ViewNumbers.{in-defined}
use Rattle.cc_linked_programs.proofs.Shapes.{function_is}
use Rattle.cc_linked_programs.specs.FunctionTypes.{is_function_type}
use Rattle.cc_program.specs.CcNum.declared.target.Target.{Target}
use Rattle.cc_program.specs.declared.func.Func.{Func}
use Rattle.cc_program.specs.declared.object.Object.{Object}
use Rattle.cc_program.specs.declared.program.Program.{Program}
use Rattle.cc_program.specs.declared.program.Roles.{Roles}
use Rattle.cc_linked_programs.proofs.FunctionViews.{body_of}
use Rattle.cc_relocated_units.specs.Units.{unit_view, IsSoundKind, IsSoundUnit}
use Rattle.cc_structures.proofs.Elements.{In, any-in, in-any}
use Rattle.cc_structures.proofs.OrderLemmas.{filter-in}
use Rattle.cc_structures.specs.Structures.{Known, Numbering}
use Rattle.cc_operands.proofs.CcSyntax.Prefixes.{both_true}
use Rattle.cc_operands.specs.CcSyntax.Names.{are_names, device_names, file_names, intrinsic_names}
use Rattle.cc_operands.specs.CcSyntax.Sound.{is_main_there, main_name}
use Rattle.cc_things.specs.Mentions.{Mention}
use Rattle.cc_things.specs.Things.{Thing, things, is_defined, is_external, is_func, is_func_kind, own_name}
use Rattle.cc_things.specs.View.{no_thing}
use Rattle.cc_things.specs.declared.text.Text.{Text}
use Rattle.cc_unit.specs.declared.unit.UnitKind.{UnitKind}
use Rattle.cc_unit.specs.declared.unit.UnitKind.TheVariants as kind
use Rattle.cc_program.specs.CcWords.Names.{are_distinct, is_name}
use Rattle.cc_linked_programs.proofs.Entries.{is_there_by}
use Rattle.cc_linked_programs.proofs.Places.{PlacedBy, bytes-itself, distinct-left, distinct-places, distinct-right, in-place, placed-by}
use Rattle.cc_linked_programs.specs.Named.{IsMainNamed}
use Rattle.cc_linked_programs.proofs.Used.{in-slice}

-- some function is the one that runs first
pub main_any : (numbering : Numbering) (ts : List Thing) → cause_of_things numbering ts ≡ None → list_any is_main ts ≡ true
main_any numbering ts none =
    by (list_any is_main ts)
    (second_none (option_map fault.Undefined (first_named is_undefined ts)) _ (second_none (option_map fault.Twice (first_named is_twice ts)) _ (second_none (option_map fault.TypesDiffer (first_named (types_differ numbering) ts)) _ none)))
  where
    by : (b : Bool) → (if b then None else Some fault.NoMain) ≡ None → b ≡ true
    by true e = refl
    by false e = absurd (cc)

three_true : (a b c : Bool) → a && b && c ≡ true → (a ≡ true) × (b ≡ true) × (c ≡ true)
three_true true true true h = (refl, refl, refl)
three_true true true false h = absurd (true≢false (sym h))
three_true true false c h = absurd (true≢false (sym h))
three_true false b c h = absurd (true≢false (sym h))

module _ (texts : List Text) (target : Target) (sound : (t : ℕ) (x : Text) → slice_get texts t ≡ Some x → IsSoundUnit target x.unit) (roles : Roles) (numbering : Numbering) (firsts : List Known) (none : cause_of_things numbering (things texts) ≡ None)
    (main_named : IsMainNamed texts roles firsts) where
  abbrev ts : List Thing
  ts = things texts

  abbrev reserved : List (List ℕ)
  reserved = reserved_names texts roles

  abbrev name_of : ℕ → Option (List ℕ)
  name_of k = name_at ts reserved roles firsts k

  abbrev outer : List (List ℕ)
  outer = intrinsic_names roles ++ given_names ts reserved roles firsts

  abbrev given : List (List ℕ)
  given = given_tags ts reserved roles firsts ++ given_names ts reserved roles firsts

  abbrev p : Program
  p = program texts roles numbering firsts target

  -- what is named so and defined is a function of the program
  main_function : (k : ℕ) → k < length ts → is_named_main (thing_at ts k) ≡ true → is_defined (thing_at ts k) ≡ true → In k (functions ts)
  main_function k low h e =
      let parts = three_true (is_external (thing_at ts k)) (is_func (thing_at ts k)) (has_name main_name (own_name (thing_at ts k))) h in
      let r = in-any (λ (m : Mention). is_func_kind m.name.kind) (thing_at ts k).mentions parts.1 in
      by r.0 r.1.1 r.0.name.kind refl (mention_at texts target sound k r.0 low r.1.0)
    where
      there : (m : Mention) (n : MentionAt texts target sound k m) → is_function_type m.name.ctype ≡ true → In k (functions ts)
      there m n f =
          let b = body_of texts target sound numbering none m n.known (ap is_defined n.one ∙ e) f in
          let is : definition (thing_at ts k) ≡ Some b.definition.by = ap definition (sym n.one) ∙ b.definition.is in
          filter-in (λ (j : ℕ). is_function (thing_at ts j)) (defined ts) k (in-defined ts k low (ap is_some is)) (ap (λ (o : Option Mention). option_map_or (λ (j : Mention). is_func_kind j.name.kind) o false) is ∙ b.is_func)

      by : (m : Mention) → is_func_kind m.name.kind ≡ true → (q : UnitKind) → m.name.kind ≡ q → MentionAt texts target sound k m → In k (functions ts)
      by m f (kind.Object init) q n = absurd (true≢false (sym f ∙ ap is_func_kind q))
      by m f (kind.Device x) q n = absurd (true≢false (sym f ∙ ap is_func_kind q))
      by m f (kind.Func x g) q n =
          let s = subst (λ (u : UnitKind). IsSoundKind (unit_view target n.text.unit) m.name u) q n.name in
          there m n (function_is m.name.ctype s.sig s.typed)

  main_in : list_any (λ (k : ℕ). is_named_main (thing_at ts k)) (functions ts) ≡ true
  main_in =
      let r = in-any is_main ts (main_any numbering ts none) in
      let k = in-place ts r.0 r.1.0 in
      let one : thing_at ts k.0 ≡ r.0 = get_or_from_slice_get ts k.0 r.0 no_thing k.1 in
      let h = both_true (is_named_main r.0) (is_defined r.0) r.1.1 in
      let named : is_named_main (thing_at ts k.0) ≡ true = ap is_named_main one ∙ h.0 in
      any-in (λ (j : ℕ). is_named_main (thing_at ts j)) (functions ts) k.0 (main_function k.0 (slice_get_within ts k.0 r.0 k.1) named (ap is_defined one ∙ h.1)) named

  main_place : PlacedBy (λ (k : ℕ). is_named_main (thing_at ts k)) (functions ts)
  main_place = placed-by (λ (k : ℕ). is_named_main (thing_at ts k)) (functions ts) 0 main_in

  main_is : p.main ≡ main_place.at
  main_is = ap (λ (o : Option ℕ). unwrap_or o 0) main_place.is

  -- a function of the program and its name
  func_named : (k at : ℕ) → slice_get (functions ts) at ≡ Some k → name_of k ≡ Some main_name → (f : Func) × (slice_get p.funcs at ≡ Some f) × (f.name ≡ main_name)
  func_named k at e n =
      let a = function_at texts target sound k (in-slice (functions ts) at k e) in
      let r = func_there texts target sound roles numbering name_of reserved outer given k at e a in
      (func_from texts target sound roles numbering name_of reserved outer given k r.0 a, r.1, ap (λ (o : Option (List ℕ)). unwrap_or o []) n)

  main_name_is : name_of main_place.element ≡ Some main_name
  main_name_is =
      let a = function_at texts target sound main_place.element (in-slice (functions ts) main_place.at main_place.element main_place.there) in
      main_named main_place.element (is_there_by texts target sound roles numbering firsts main_place.element a.defined) main_place.passes

  pub main_runs : is_main_there (slice_get p.funcs p.main) ≡ true
  main_runs =
      let r = func_named main_place.element main_place.at main_place.there main_name_is in
      ap (λ (i : ℕ). is_main_there (slice_get p.funcs i)) main_is ∙ (ap is_main_there r.1 ∙ (ap (λ (x : List ℕ). bytes_eq x main_name) r.2 ∙ bytes-itself main_name))

  -- no other function has its name
  distinct_funcs : are_names (file_names p) ≡ true → are_distinct (map (λ (f : Func). f.name) p.funcs) ≡ true
  distinct_funcs h =
      distinct-left (map (λ (f : Func). f.name) p.funcs) (intrinsic_names p.roles)
      (distinct-right (map (λ (o : Object). o.name) p.objects) _
      (distinct-right (device_names p.devices) _ (both_true (list_all is_name (file_names p)) (are_distinct (file_names p)) h).1))

  pub only_main : are_names (file_names p) ≡ true → (k : ℕ) → In k (functions ts) → name_of k ≡ Some main_name → is_named_main (thing_at ts k) ≡ true
  only_main h k i n =
      let place = in-place (functions ts) k i in
      let own = func_named k place.0 place.1 n in
      let first = func_named main_place.element main_place.at main_place.there main_name_is in
      let same : place.0 ≡ main_place.at = distinct-places (map (λ (f : Func). f.name) p.funcs) (distinct_funcs h) place.0 main_place.at main_name (named_at place.0 own.0 own.1 own.2) (named_at main_place.at first.0 first.1 first.2) in
      let one : k ≡ main_place.element = same_number k main_place.element (sym place.1 ∙ (ap (slice_get (functions ts)) same ∙ main_place.there)) in
      ap (λ (j : ℕ). is_named_main (thing_at ts j)) one ∙ main_place.passes
    where
      same_number : (a b : ℕ) → Some a ≡ Some b → a ≡ b
      same_number a b e = cc e

      named_at : (j : ℕ) (f : Func) → slice_get p.funcs j ≡ Some f → f.name ≡ main_name → slice_get (map (λ (f : Func). f.name) p.funcs) j ≡ Some main_name
      named_at j f e g = slice_get-map (λ (f : Func). f.name) p.funcs j ∙ (ap (option_map (λ (f : Func). f.name)) e ∙ ap (λ (x : List ℕ). Some x) g)

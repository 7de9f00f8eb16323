-- Each handler that the roles name is a function of the program.
use Rattle.std.proofs.Common.{◌≡◌, ◌∙◌, ◌<◌, ℕ, Bool, true, false, true≢false, not, ◌&&◌, List, [], ◌++◌, length, map, Option, Some, None, is_some, slice_get, refl, ap, sym, subst}
use Rattle.std.specs.Prelude.{find, option_and_then, unwrap_or}
use Rattle.std.specs.List.{list_any}
use Rattle.std.specs.Option.{option_map_or}
use Rattle.std.specs.Str.{bytes_eq}
use Rattle.cc_causes.specs.Causes.{bad_handler, handler_name}
use Rattle.cc_causes.specs.Entries.{entry_by, is_bad_handler, is_in_roles, is_listed, is_named, is_nowhere}
use Rattle.cc_definitions.specs.Definitions.{thing_at, defined, functions, is_function, numbers_below}
use Rattle.cc_definitions.specs.Handlers.{entry_given, has_name, takes_and_gives_nothing}
use Rattle.cc_link.specs.Linked.{program}
use Rattle.cc_linked_programs.proofs.ContentLists.{below-lower, list_all-in}
use Rattle.cc_linked_names.specs.Given.{file_names as given_names, name_at, reserved_names, tags as given_tags}
use Rattle.cc_linked_programs.proofs.Agreeing.{second_none}
use Rattle.cc_linked_programs.proofs.ThingLists.{in-found, not-found}
use Rattle.cc_linked_programs.proofs.Definitions.{DefinedAt, defined_at, function_at}
use Rattle.cc_linked_programs.proofs.Functions.{func_from, func_there}
use Rattle.cc_linked_programs.proofs.Used.{in-slice}
use Rattle.cc_linked_programs.proofs.ViewNumbers.{in-defined}
use Rattle.cc_linked_programs.proofs.Shapes.{no_object}
use Rattle.cc_linked_programs.specs.FunctionTypes.{is_function_shape}
use Rattle.cc_program.specs.CcNum.declared.target.Target.{Target}
use Rattle.cc_program.specs.declared.func.Entry.{Entry}
use Rattle.cc_program.specs.declared.func.Func.{Func}
use Rattle.cc_program.specs.declared.program.Program.{Program}
use Rattle.cc_program.specs.declared.program.Roles.{Roles}
use Rattle.cc_program.specs.declared.types.CType.{CType}
use Rattle.cc_program.specs.declared.types.Shape.{Shape, out-Shape}
use Rattle.cc_program.specs.declared.types.Shape.TheOpen as shape
use Rattle.cc_program.specs.declared.types.Sig.{Sig}
use Rattle.cc_relocated_units.specs.Units.{unit_view, IsSoundKind, IsSoundUnit}
use Rattle.cc_structures.proofs.Elements.{In, any-in, in-any, in-map}
use Rattle.cc_structures.proofs.OrderLemmas.{filter-in}
use Rattle.cc_structures.specs.Structures.{Known, Numbering}
use Rattle.cc_operands.proofs.CcSyntax.Prefixes.{both_true}
use Rattle.cc_operands.specs.CcSyntax.Names.{intrinsic_names}
use Rattle.cc_operands.specs.CcSyntax.Sound.{handlers_are_there}
use Rattle.cc_things.specs.Mentions.{Mention}
use Rattle.cc_things.specs.Things.{Thing, things, is_definition, is_device, is_func_kind}
use Rattle.cc_things.specs.declared.text.Text.{Text}
use Rattle.cc_unit.specs.declared.unit.UnitKind.{UnitKind}
use Rattle.cc_unit.specs.declared.unit.UnitKind.TheVariants as kind
use Rattle.cc_linked_programs.proofs.Entries.{handler_may, in_thing_at, may_handle}
use Rattle.cc_linked_programs.proofs.Places.{all-at, bytes-itself, bytes-one, in-place}

-- what takes and gives nothing is a function
function_shape_by : (x : shape.Shape-F Shape CType Sig) → takes_and_gives_nothing x ≡ true → is_function_shape x ≡ true
function_shape_by (shape.Func s) h = refl
function_shape_by shape.Void h = h
function_shape_by (shape.Int t) h = h
function_shape_by (shape.Pointer to) h = h
function_shape_by (shape.Array of n) h = h
function_shape_by (shape.Struct i) h = h

module _ (texts : List Text) (target : Target) (sound : (t : ℕ) (x : Text) → slice_get texts t ≡ Some x → IsSoundUnit target x.unit) (roles : Roles) (numbering : Numbering) (firsts : List Known)
    (no_bad : bad_handler (things texts) roles (name_at (things texts) (reserved_names texts roles) roles firsts) ≡ None) where
  abbrev ts : List Thing
  ts = things texts

  abbrev reserved : List (List ℕ)
  reserved = reserved_names texts roles

  abbrev name_of : ℕ → Option (List ℕ)
  name_of k = name_at ts reserved roles firsts k

  abbrev outer : List (List ℕ)
  outer = intrinsic_names roles ++ given_names ts reserved roles firsts

  abbrev given : List (List ℕ)
  given = given_tags ts reserved roles firsts ++ given_names ts reserved roles firsts

  abbrev p : Program
  p = program texts roles numbering firsts target

  -- what may be a handler is a function of the program
  function_there : (k : ℕ) → k < length ts → (d : DefinedAt texts target sound k) → takes_and_gives_nothing (out-Shape d.by.name.ctype.shape) ≡ true → In k (functions ts)
  function_there k low d h = filter-in (λ (j : ℕ). is_function (thing_at ts j)) (defined ts) k (in-defined ts k low (ap is_some d.is)) (ap (λ (o : Option Mention). option_map_or (λ (m : Mention). is_func_kind m.name.kind) o false) d.is ∙ by d.by.name.kind refl d.mention.name)
    where
      function : is_function_shape (out-Shape d.by.name.ctype.shape) ≡ true
      function = function_shape_by (out-Shape d.by.name.ctype.shape) h

      by : (q : UnitKind) → d.by.name.kind ≡ q → IsSoundKind (unit_view target d.mention.text.unit) d.by.name q → is_func_kind d.by.name.kind ≡ true
      by (kind.Func e f) q s = ap is_func_kind q
      by (kind.Object init) q s = absurd (no_object (unit_view target d.mention.text.unit) d.by.name.ctype function s.object)
      by (kind.Device x) q s = absurd (true≢false (sym function ∙ ap is_function_shape s.int))

  abbrev names : List (List ℕ)
  names = map (λ (f : Func). f.name) p.funcs

  entry_some : (e : Option Entry) (b : Bool) → b ≡ true → is_some (entry_by e b) ≡ true
  entry_some (Some x) b h = refl
  entry_some None true h = refl
  entry_some None false h = absurd (true≢false (sym h))

  -- a thing with the name of a handler
  handler_function : (h : List ℕ) → In h roles.handlers → (k : ℕ) → In k (numbers_below (length ts)) → is_named ts name_of h k ≡ true → list_any (bytes_eq h) names ≡ true
  handler_function h i k low n =
      let parts = both_true (not (is_device (thing_at ts k))) (has_name h (name_of k)) n in
      let below = below-lower (length ts) k low in
      let named : name_of k ≡ Some h = name_by (name_of k) parts.1 in
      let listed : is_listed ts roles name_of k ≡ true =
      ap (λ (b : Bool). b && is_in_roles roles (name_of k)) parts.0 ∙ (ap (is_in_roles roles) named ∙ any-in (bytes_eq h) roles.handlers h i (bytes-itself h)) in
      let may = may_handle texts target sound roles numbering firsts k (handler_may texts target sound roles numbering firsts no_bad k below (entry_some (entry_given (thing_at ts k)) (is_listed ts roles name_of k) listed)) in
      let found = in-found is_definition (thing_at ts k).mentions may.defined in
      let d = defined_at texts target sound k (ap is_some found.1) in
      let typed = all-at (λ (m : Mention). takes_and_gives_nothing (out-Shape m.name.ctype.shape)) (thing_at ts k).mentions d.by may.typed (in_thing_at texts target sound roles numbering firsts k d) in
      let there = function_there k below d typed in
      let a = function_at texts target sound k there in
      let place = in-place (functions ts) k there in
      let r = func_there texts target sound roles numbering name_of reserved outer given k place.0 place.1 a in
      let f = func_from texts target sound roles numbering name_of reserved outer given k r.0 a in
      let own : f.name ≡ h = ap (λ (o : Option (List ℕ)). unwrap_or o []) named in
      any-in (bytes_eq h) names f.name (in-map (λ (g : Func). g.name) p.funcs f (in-slice p.funcs place.0 f r.1)) (subst (λ (x : List ℕ). bytes_eq h x ≡ true) (sym own) (bytes-itself h))
    where
      name_by : (o : Option (List ℕ)) → has_name h o ≡ true → o ≡ Some h
      name_by None e = absurd (true≢false (sym e))
      name_by (Some y) e = ap (λ (x : List ℕ). Some x) (sym (bytes-one h y e))

  pub handlers_there : handlers_are_there p ≡ true
  handlers_there = list_all-in (λ (h : List ℕ). list_any (bytes_eq h) names) roles.handlers (λ h i. by h i (not-found (is_nowhere ts name_of) roles.handlers h (second_none (option_and_then (handler_name ts name_of) (find (is_bad_handler ts roles name_of) (numbers_below (length ts)))) (find (is_nowhere ts name_of) roles.handlers) no_bad) i))
    where
      somewhere : (b : Bool) → not b ≡ false → b ≡ true
      somewhere true e = refl
      somewhere false e = absurd (true≢false e)

      by : (h : List ℕ) → In h roles.handlers → is_nowhere ts name_of h ≡ false → list_any (bytes_eq h) names ≡ true
      by h i e =
          let r = in-any (is_named ts name_of h) (numbers_below (length ts)) (somewhere (list_any (is_named ts name_of h) (numbers_below (length ts))) e) in
          handler_function h i r.0 r.1.0 r.1.1

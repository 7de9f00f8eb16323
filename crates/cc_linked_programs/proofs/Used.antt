-- Functions that a source uses are in the program, with their types by its numbers, and are no handlers.
use Rattle.std.proofs.Common.{◌≡◌, ◌∙◌, ◌⊎◌, inl, inr, ℕ, zero, suc, Bool, true, false, true≢false, not, ◌&&◌, List, [], ◌∷◌, ◌++◌, Option, Some, None, is_some, slice_get, refl, ap, sym, subst}
use Rattle.std.specs.Prelude.{nat_eq, option_and_then}
use Rattle.std.specs.Option.{option_map_or}
use Rattle.std.specs.List.{list_any}
use Rattle.cc_causes.specs.Causes.{bad_handler, cause_of_things}
use Rattle.cc_causes.specs.Entries.{entry_at}
use Rattle.cc_definitions.specs.Definitions.{thing_at, definition, functions}
use Rattle.cc_link.specs.Linked.{all_ids, id_at, ids_in, program}
use Rattle.cc_linked_names.specs.Given.{file_names, name_at, reserved_names, tags}
use Rattle.cc_linked_programs.proofs.Agreeing.{mention_in, used_there}
use Rattle.cc_linked_programs.proofs.ThingSources.{ids_are, in_mentions, in_thing, is_mention, its_id, its_thing, number_of, number_within}
use Rattle.cc_linked_programs.specs.NamedThings.{mention_of}
use Rattle.cc_linked_programs.proofs.Defined.{each_named, not_defined, same_device}
use Rattle.cc_linked_programs.proofs.ViewNumbers.{function-id}
use Rattle.cc_linked_programs.proofs.Objects.{ids_structures, no_device}
use Rattle.cc_linked_programs.proofs.Shapes.{function_is}
use Rattle.cc_program.specs.CcNum.declared.target.Target.{Target}
use Rattle.cc_program.specs.declared.func.Entry.{Entry}
use Rattle.cc_program.specs.declared.func.Func.{Func}
use Rattle.cc_program.specs.declared.program.Program.{Program}
use Rattle.cc_program.specs.declared.program.Roles.{Roles}
use Rattle.cc_program.specs.declared.types.CType.{CType}
use Rattle.cc_program.specs.declared.types.Shape.{Shape, out-Shape}
use Rattle.cc_program.specs.declared.types.Shape.TheOpen as shape
use Rattle.cc_program.specs.declared.types.Sig.{Sig}
use Rattle.cc_linked_programs.proofs.FunctionViews.{body_of}
use Rattle.cc_linked_programs.proofs.HandlerViews.{no_handler}
use Rattle.cc_relocated_units.specs.Renumbering.{value_renumbered}
use Rattle.cc_relocated_units.specs.Units.{unit_view, function_as, function_shape, IsSoundUnit}
use Rattle.cc_structures.specs.Structures.{Known, Numbering, numbers_of, type_in}
use Rattle.cc_structures.proofs.Elements.{In, any-in, in-any}
use Rattle.cc_structures.proofs.WordLaws.{level-renumbered}
use Rattle.cc_operands.specs.CcSyntax.Names.{intrinsic_names}
use Rattle.cc_operands.specs.CcSyntax.Operators.{function_type, when}
use Rattle.cc_operands.specs.CcSyntax.Values.{ValueType, ToFunction}
use Rattle.cc_operands.specs.CcSyntax.Views.{View, of_program}
use Rattle.cc_things.specs.Mentions.{Mention, mentions}
use Rattle.cc_things.specs.Things.{Thing, identity_of, thing_of, things, is_defined, is_device, is_device_kind, is_func_kind, is_used}
use Rattle.cc_things.specs.declared.text.Text.{Text}
use Rattle.cc_unit.specs.Mentioned.{mentioned}
use Rattle.cc_unit.specs.Renumbered.{func_by, sig_renumbered}
use Rattle.cc_unit.specs.declared.ids.Id.{Id}
use Rattle.cc_unit.specs.declared.ids.Ids.{Ids}
use Rattle.cc_unit.specs.declared.unit.UnitKind.{UnitKind}
use Rattle.cc_unit.specs.declared.unit.UnitKind.TheVariants as kind
use Rattle.cc_unit.specs.declared.unit.UnitName.{UnitName}
use Rattle.cc_linked_programs.proofs.Definitions.{FunctionAt, function_at}
use Rattle.cc_linked_programs.proofs.Functions.{func_from, func_there, program_funcs}

abbrev level_of : Sig → shape.Shape-F Shape CType Sig
level_of s = shape.Func s

func_same : (a b : Sig) → level_of a ≡ level_of b → a ≡ b
func_same a b e = cc e

-- a list has what it has at a position
pub in-slice : {X : Type 0} (xs : List X) (i : ℕ) (x : X) → slice_get xs i ≡ Some x → In x xs
in-slice [] i x e = absurd (cc)
in-slice (y ∷ ys) zero x e = inl (cc e)
in-slice (y ∷ ys) (suc i) x e = inr (in-slice ys i x e)

module _ (texts : List Text) (target : Target) (sound : (t : ℕ) (x : Text) → slice_get texts t ≡ Some x → IsSoundUnit target x.unit) (roles : Roles) (numbering : Numbering) (firsts : List Known) (none : cause_of_things numbering (things texts) ≡ None)
    (no_bad : bad_handler (things texts) roles (name_at (things texts) (reserved_names texts roles) roles firsts) ≡ None) where
  abbrev ts : List Thing
  ts = things texts

  abbrev thing : Mention → Thing
  thing m = thing_of (mentions texts) (identity_of m)

  abbrev reserved : List (List ℕ)
  reserved = reserved_names texts roles

  abbrev name_of : ℕ → Option (List ℕ)
  name_of k = name_at ts reserved roles firsts k

  abbrev outer : List (List ℕ)
  outer = intrinsic_names roles ++ file_names ts reserved roles firsts

  abbrev given : List (List ℕ)
  given = tags ts reserved roles firsts ++ file_names ts reserved roles firsts

  -- what a source uses as a function is defined
  pub function_defined : (m : Mention) (entry : Option Entry) (f : Option Func) → In m (mentions texts) → m.used ≡ true → m.name.kind ≡ kind.Func entry f → is_defined (thing m) ≡ true
  function_defined m entry f h u q = by (used_there texts (each_named texts target sound) numbering none m h u)
    where
      any_of : (a b : Bool) → a && not b ≡ true → a ≡ true
      any_of true b h = refl
      any_of false b h = absurd (true≢false (sym h))

      device : is_device (thing m) ≡ true → is_defined (thing m) ≡ true
      device e =
          let r = in-any (λ (k : Mention). is_device_kind k.name.kind) (thing m).mentions (any_of (list_any (λ (k : Mention). is_device_kind k.name.kind) (thing m).mentions) (is_defined (thing m)) e) in
          let k = mention_in texts (each_named texts target sound) (identity_of m) r.0 r.1.0 in
          found r.0 r.0.name.kind refl r.1.1 k.0 k.1
        where
          found : (k : Mention) (d : UnitKind) → k.name.kind ≡ d → is_device_kind k.name.kind ≡ true → In k (mentions texts) → identity_of k ≡ identity_of m → is_defined (thing m) ≡ true
          found k (kind.Object ls) g s i e' = absurd (true≢false (sym s ∙ ap is_device_kind g))
          found k (kind.Func x b) g s i e' = absurd (true≢false (sym s ∙ ap is_device_kind g))
          found k (kind.Device d) g s i e' =
              let same : thing k ≡ thing m = ap (thing_of (mentions texts)) e' in
              let own = same_device texts target sound numbering none k m d i h (sym e') g (ap is_defined same ∙ not_defined texts target sound numbering none m h e) in
              absurd (true≢false (sym (ap is_device_kind own.is) ∙ ap is_device_kind q))

      by : (is_defined (thing m) ≡ true) ⊎ (is_device (thing m) ≡ true) → is_defined (thing m) ≡ true
      by (inl e) = e
      by (inr e) = device e

  module _ (t : ℕ) (x : Text) (ex : slice_get texts t ≡ Some x) where
    abbrev p : Program
    p = program texts roles numbering firsts target

    abbrev w : View
    w = of_program p

    abbrev ids : Ids
    ids = ids_in (all_ids texts numbering) t

    pub structures_are : ids.structures ≡ numbers_of numbering t
    structures_are = ap (λ (i : Ids). i.structures) (ids_are texts numbering t x ex)

    one_of : (a b : Mention) → Some a ≡ Some b → a ≡ b
    one_of a b e = cc e

    function_used : (i : ℕ) (n : UnitName) → slice_get x.unit.names i ≡ Some n → (entry : Option Entry) (f : Option Func) → n.kind ≡ kind.Func entry f → list_any (nat_eq i) (mentioned x.unit.names) ≡ true →
        (s : Sig) → out-Shape n.ctype.shape ≡ shape.Func s → w.functions (func_by (slice_get ids.names i)) ≡ Some (ToFunction (sig_renumbered ids.structures s))
    function_used i n en entry f q used s shaped =
        let m = mention_of t x i n in
        let there : In m (mentions texts) = in_mentions texts t x i n ex en in
        let defined = function_defined m entry f there used q in
        let b = body_of texts target sound numbering none m there defined (function_is n.ctype s shaped) in
        let d = b.definition in
        let k = number_of texts m in
        let one : thing_at ts k ≡ thing m = its_thing texts m there in
        let is : definition (thing_at ts k) ≡ Some d.by = ap definition one ∙ d.is in
        let place = function-id ts k (number_within texts m there) (ap is_some is) (ap is_device one ∙ no_device texts target sound numbering none name_of m defined)
        (ap (λ (o : Option Mention). option_map_or (λ (j : Mention). is_func_kind j.name.kind) o false) is ∙ b.is_func) in
        let a = function_at texts target sound k (in-slice (functions ts) place.0 k place.2) in
        let r = func_there texts target sound roles numbering name_of reserved outer given k place.0 place.2 a in
        let handler : entry_at ts roles name_of k ≡ None = no_handler texts target sound roles name_of no_bad m there (any-in (λ (j : Mention). j.used) (thing m).mentions m (in_thing texts m m there refl) used) in
        let same : d.by ≡ a.defined.by = one_of d.by a.defined.by (sym is ∙ a.defined.is) in
        let typed : type_in numbering a.defined.by.text a.defined.by.name.ctype ≡ type_in numbering t n.ctype = subst (λ (j : Mention). type_in numbering j.text j.name.ctype ≡ type_in numbering t n.ctype) same d.type in
        let numbers = ids_structures texts target sound numbering none name_of a.defined.by a.defined.mention.known in
        let defined_shape : out-Shape a.defined.by.name.ctype.shape ≡ shape.Func a.func.sig = a.name.typed ∙ ap (λ (z : Sig). shape.Func z) (sym a.name.body.same) in
        let sigs : sig_renumbered (numbers_of numbering a.defined.by.text) a.func.sig ≡ sig_renumbered (numbers_of numbering t) s = func_same _ _
        (sym (level-renumbered (numbers_of numbering a.defined.by.text) a.defined.by.name.ctype (shape.Func a.func.sig) defined_shape) ∙ (ap (λ (c : CType). out-Shape c.shape) typed ∙ level-renumbered (numbers_of numbering t) n.ctype (shape.Func s) shaped)) in
        ap (λ (o : Option Id). w.functions (func_by o)) (its_id texts numbering t x i n ex en ∙ ap (λ (j : Id). Some j) place.1)
        ∙ (ap function_type r.1
        ∙ (ap (λ (e : Option Entry). when (not (is_some e)) (ToFunction (sig_renumbered (ids_in (all_ids texts numbering) a.defined.by.text).structures a.func.sig))) handler
        ∙ (ap (λ (l : List ℕ). Some (ToFunction (sig_renumbered l a.func.sig))) numbers
        ∙ (ap (λ (z : Sig). Some (ToFunction z)) sigs
        ∙ ap (λ (l : List ℕ). Some (ToFunction (sig_renumbered l s))) (sym structures_are)))))

    function_kind : (i : ℕ) (n : UnitName) → slice_get x.unit.names i ≡ Some n → (k : UnitKind) → n.kind ≡ k → list_any (nat_eq i) (mentioned x.unit.names) ≡ true → (a : ValueType) → function_as n.ctype k ≡ Some a →
        w.functions (func_by (slice_get ids.names i)) ≡ Some (value_renumbered ids.structures a)
    function_kind i n en (kind.Object init) q used a e = absurd (cc)
    function_kind i n en (kind.Device d) q used a e = absurd (cc)
    function_kind i n en (kind.Func entry f) q used a e = by (out-Shape n.ctype.shape) refl e
      where
        given_as : (u v : ValueType) → Some u ≡ Some v → u ≡ v
        given_as u v h = cc h

        by : (y : shape.Shape-F Shape CType Sig) → out-Shape n.ctype.shape ≡ y → function_shape y ≡ Some a → w.functions (func_by (slice_get ids.names i)) ≡ Some (value_renumbered ids.structures a)
        by (shape.Func s) g h = function_used i n en entry f q used s g ∙ ap (λ (v : ValueType). Some (value_renumbered ids.structures v)) (given_as (ToFunction s) a h)
        by shape.Void g h = absurd (cc)
        by (shape.Int k) g h = absurd (cc)
        by (shape.Pointer to) g h = absurd (cc)
        by (shape.Array of k) g h = absurd (cc)
        by (shape.Struct k) g h = absurd (cc)

    functions_by : (i : ℕ) (o : Option UnitName) → slice_get x.unit.names i ≡ o → list_any (nat_eq i) (mentioned x.unit.names) ≡ true → (a : ValueType) → option_and_then (λ (n : UnitName). function_as n.ctype n.kind) o ≡ Some a →
        w.functions (func_by (slice_get ids.names i)) ≡ Some (value_renumbered ids.structures a)
    functions_by i None en used a e = absurd (cc)
    functions_by i (Some n) en used a e = function_kind i n en n.kind refl used a e

    pub functions_numbered : (i : ℕ) (a : ValueType) → list_any (nat_eq i) (mentioned x.unit.names) ≡ true → (unit_view target x.unit).functions i ≡ Some a → w.functions (func_by (slice_get ids.names i)) ≡ Some (value_renumbered ids.structures a)
    functions_numbered i a used e = functions_by i (slice_get x.unit.names i) refl used a e

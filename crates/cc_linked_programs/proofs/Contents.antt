-- The objects and functions of the program are those that the sources define, and sound.
use Rattle.std.proofs.Common.{◌≡◌, ◌∙◌, ◌⊎◌, inl, inr, ◌≤◌, ℕ, Bool, true, false, true≢false, not, ◌||◌, List, ◌++◌, map, Option, Some, None, option_map, slice_get, refl, ap, sym, subst, arith}
use Rattle.std.specs.Prelude.{nat_eq}
use Rattle.std.specs.Option.{option_map_or}
use Rattle.std.specs.List.{list_any, flat_map}
use Rattle.std.proofs.lemmas.Bool.{eq-eqb, le-leb}
use Rattle.cc_causes.specs.Causes.{bad_handler, cause_of_things}
use Rattle.cc_causes.specs.Entries.{entry_at}
use Rattle.cc_definitions.specs.Definitions.{thing_at, defined, is_function, objects}
use Rattle.cc_link.specs.Linked.{all_ids, ids_in, leaves_in, name_or_none, object_at, object_in, program}
use Rattle.cc_linked_names.specs.Given.{file_names, name_at, reserved_names, tags}
use Rattle.cc_relocated_units.proofs.ProgramOrder.{filter-passes}
use Rattle.cc_linked_programs.proofs.Definitions.{DefinedAt, FunctionAt, defined_at}
use Rattle.cc_linked_programs.proofs.Functions.{FuncOf, func_of, given-from}
use Rattle.cc_linked_programs.proofs.Units.{unit_renumbered, units_of}
use Rattle.cc_linked_programs.proofs.ViewNumbers.{objects-in}
use Rattle.cc_program.proofs.CcNum.Conversions.{few_bytes}
use Rattle.cc_program.specs.CcNum.Integers.{bytes_of}
use Rattle.cc_program.specs.CcNum.declared.int_type.IntType.{IntType}
use Rattle.cc_program.specs.CcNum.declared.target.Target.{Target}
use Rattle.cc_program.proofs.Each.{Each}
use Rattle.cc_program.specs.declared.func.Func.{Func}
use Rattle.cc_program.specs.declared.object.Object.{Object}
use Rattle.cc_program.specs.declared.program.Program.{Program}
use Rattle.cc_program.specs.declared.program.Roles.{Roles}
use Rattle.cc_program.specs.declared.types.CType.{CType}
use Rattle.cc_program.specs.declared.types.Shape.{out-Shape}
use Rattle.cc_program.specs.declared.types.Shape.TheOpen as shape
use Rattle.cc_program.specs.declared.types.Sig.{Sig}
use Rattle.cc_relocated_units.specs.Renumbering.{Renumbers}
use Rattle.cc_relocated_units.proofs.Leaves.{initial_numbered}
use Rattle.cc_relocated_units.specs.Units.{unit_view, IsSoundFunction, IsSoundKind, IsSoundUnit}
use Rattle.cc_structures.proofs.Elements.{In, any-in}
use Rattle.cc_structures.proofs.WordLaws.{level-renumbered}
use Rattle.cc_structures.specs.Structures.{AreNumbered, Known, Numbering}
use Rattle.cc_operands.proofs.CcSyntax.KindRolls.{parts_kind, kind-opens}
use Rattle.cc_operands.specs.CcSyntax.Initial.{IsInitial}
use Rattle.cc_operands.specs.CcSyntax.Kinds.{is_object_type, qualified_kind, shape_kind}
use Rattle.cc_operands.specs.CcSyntax.Names.{intrinsic_names}
use Rattle.cc_operands.specs.CcSyntax.Views.{View, kind_in, of_program}
use Rattle.cc_things.specs.Mentions.{Mention}
use Rattle.cc_things.specs.Things.{Thing, things, is_func_kind}
use Rattle.cc_things.specs.declared.text.Text.{Text}
use Rattle.cc_unit.specs.Mentioned.{all_of, in_kind, in_leaf, in_stmt, mentioned}
use Rattle.cc_unit.specs.Renumbered.{leaf_renumbered, sig_renumbered, type_renumbered}
use Rattle.cc_unit.specs.declared.ids.Ids.{Ids}
use Rattle.cc_unit.specs.declared.unit.UnitKind.{UnitKind}
use Rattle.cc_unit.specs.declared.unit.UnitKind.TheVariants as kind
use Rattle.cc_unit.specs.declared.unit.UnitName.{UnitName}
use Rattle.cc_linked_programs.proofs.ContentLists.{each-in, in-flat}
use Rattle.cc_linked_programs.proofs.Relocated.{function_relocated, test_stays}

-- what a name of a source speaks of, the source does
pub speaks_of : (names : List UnitName) (i : ℕ) (n : UnitName) → slice_get names i ≡ Some n → Each (λ j. list_any (nat_eq j) (mentioned names) ≡ true) (in_kind n.kind)
speaks_of names i n e =
    each-in (λ j. list_any (nat_eq j) (mentioned names) ≡ true) (in_kind n.kind)
    (λ j h. any-in (nat_eq j) (mentioned names) j (in-flat (λ (m : UnitName). in_kind m.kind) names i n j e h) (eq-eqb j j refl))

-- an integer is an object
integer_is_object : (v : View) (t : CType) (i : IntType) → out-Shape t.shape ≡ shape.Int i → is_object_type (kind_in v t) ≡ true
integer_is_object v t i e =
    ap is_object_type (kind-opens v.target v.extents t ∙ ap (λ y. qualified_kind (t.constant || t.volatile) (shape_kind v.target v.extents (parts_kind v.target v.extents y))) e)
    ∙ le-leb (bytes_of i v.target) 4294967295 small
  where
    small : bytes_of i v.target ≤ 4294967295
    small = let few = few_bytes i v.target in omega (arith, few)

module _ (texts : List Text) (target : Target) (sound : (t : ℕ) (x : Text) → slice_get texts t ≡ Some x → IsSoundUnit target x.unit) (roles : Roles) (numbering : Numbering) (firsts : List Known) (are : AreNumbered (units_of texts) numbering firsts)
    (none : cause_of_things numbering (things texts) ≡ None) (no_bad : bad_handler (things texts) roles (name_at (things texts) (reserved_names texts roles) roles firsts) ≡ None) where
  abbrev ts : List Thing
  ts = things texts

  abbrev reserved : List (List ℕ)
  reserved = reserved_names texts roles

  abbrev pub name_of : ℕ → Option (List ℕ)
  name_of k = name_at ts reserved roles firsts k

  abbrev pub p : Program
  p = program texts roles numbering firsts target

  abbrev w : View
  w = of_program p

  abbrev pub ids : List Ids
  ids = all_ids texts numbering

  abbrev ids_at : ℕ → Ids
  ids_at t = ids_in ids t

  -- ---- objects

  pub record ObjectOf (o : Object) : Type 0 where
    pub number : ℕ
    pub there : In number (objects ts)
    pub at : DefinedAt texts target sound number
    pub plain : is_func_kind at.by.name.kind ≡ false
    pub is : o ≡ object_in ids (name_or_none ts name_of number) at.by

  pub object_of : (o : Object) → In o p.objects → ObjectOf o
  object_of o i =
      let g = given-from (object_at ts name_of ids) (objects ts) o i in
      let d = defined_at texts target sound g.from (objects-in ts g.from g.there) in
      let other : not (is_function (thing_at ts g.from)) ≡ true = filter-passes (λ (j : ℕ). not (is_function (thing_at ts j))) (defined ts) g.from g.there in
      record {
        number = g.from;
        there = g.there;
        at = d;
        plain = sym (ap (λ (q : Option Mention). option_map_or (λ (m : Mention). is_func_kind m.name.kind) q false) d.is) ∙ negated (is_function (thing_at ts g.from)) other;
        is = one o (object_in ids (name_or_none ts name_of g.from) d.by) (sym g.gives ∙ ap (option_map (object_in ids (name_or_none ts name_of g.from))) d.is);
      }
    where
      one : (a b : Object) → Some a ≡ Some b → a ≡ b
      one a b e = cc e

      negated : (b : Bool) → not b ≡ true → b ≡ false
      negated true h = absurd (true≢false (sym h))
      negated false h = refl

  pub record IsSoundThere (o : Object) : Type 0 where
    pub object : is_object_type (kind_in w o.ctype) ≡ true
    pub initial : IsInitial w o.ctype o.init

  pub object_sound : (o : Object) → In o p.objects → IsSoundThere o
  object_sound o i = let r = object_of o i in subst (λ (q : Object). IsSoundThere q) (sym r.is) (by r.number r.at r.plain r.at.by.name.kind refl r.at.mention.name)
    where
      by : (k : ℕ) (d : DefinedAt texts target sound k) → is_func_kind d.by.name.kind ≡ false → (q : UnitKind) → d.by.name.kind ≡ q → IsSoundKind (unit_view target d.mention.text.unit) d.by.name q → IsSoundThere (object_in ids (name_or_none ts name_of k) d.by)
      by k d plain (kind.Func entry f) q s = absurd (true≢false (sym (ap is_func_kind q) ∙ plain))
      by k d plain (kind.Device x) q s = record {
        object = integer_is_object w (type_renumbered (ids_at d.by.text).structures d.by.name.ctype) x.int (level-renumbered (ids_at d.by.text).structures d.by.name.ctype (shape.Int x.int) s.int);
        initial = inl (ap (λ (u : UnitKind). map (leaf_renumbered (ids_at d.by.text)) (leaves_in u)) q);
      }
      by k d plain (kind.Object init) q s =
          let v = unit_view target d.mention.text.unit in
          let among = λ (j : ℕ). list_any (nat_eq j) (mentioned d.mention.text.unit.names) in
          let r : Renumbers v w (ids_at d.by.text) among = unit_renumbered texts target sound roles numbering firsts are none no_bad d.by.text d.mention.text d.mention.there in
          let speaks : Each (λ j. among j ≡ true) (flat_map in_leaf init) = subst (λ (u : UnitKind). Each (λ j. among j ≡ true) (in_kind u)) q (speaks_of d.mention.text.unit.names d.by.position d.by.name d.mention.placed) in
          record {
            object = test_stays v w (ids_at d.by.text) among r is_object_type refl d.by.name.ctype s.object;
            initial = subst (λ (u : UnitKind). IsInitial w (type_renumbered (ids_at d.by.text).structures d.by.name.ctype) (map (leaf_renumbered (ids_at d.by.text)) (leaves_in u))) (sym q)
                (initial_numbered v w (ids_at d.by.text) among r d.by.name.ctype init speaks s.initial);
          }

  -- ---- functions

  abbrev outer : List (List ℕ)
  outer = intrinsic_names roles ++ file_names ts reserved roles firsts

  abbrev given : List (List ℕ)
  given = tags ts reserved roles firsts ++ file_names ts reserved roles firsts

  abbrev pub FuncIn : Func → Type 0
  FuncIn f = FuncOf texts target sound roles numbering name_of reserved outer given f

  pub func_in : (f : Func) → In f p.funcs → FuncIn f
  func_in f i = func_of texts target sound roles numbering name_of reserved outer given f i

  -- a function's type by the program's numbers
  abbrev pub sig_in : (k : ℕ) → FunctionAt texts target sound k → Sig
  sig_in k a = sig_renumbered (ids_at a.defined.by.text).structures a.name.sig

  pub func_sound : (f : Func) (r : FuncIn f) → IsSoundFunction w (sig_in r.number r.at) f
  func_sound f r =
      let a = r.at in
      let d = a.defined in
      let v = unit_view target d.mention.text.unit in
      let among = λ (j : ℕ). list_any (nat_eq j) (mentioned d.mention.text.unit.names) in
      let n : Renumbers v w (ids_at d.by.text) among = unit_renumbered texts target sound roles numbering firsts are none no_bad d.by.text d.mention.text d.mention.there in
      let speaks : Each (λ j. among j ≡ true) (all_of (map in_stmt a.func.body)) = subst (λ (u : UnitKind). Each (λ j. among j ≡ true) (in_kind u)) a.kind (speaks_of d.mention.text.unit.names d.by.position d.by.name d.mention.placed) in
      subst (λ (g : Func). IsSoundFunction w (sig_in r.number a) g) (sym r.is)
      (function_relocated v w (ids_at d.by.text) among n a.name.sig a.func a.name.body speaks (name_or_none ts name_of r.number) r.names (entry_at ts roles name_of r.number) r.as_many)

  -- with its own type
  pub function_sound : (f : Func) → In f p.funcs → IsSoundFunction w f.sig f
  function_sound f i =
      let r = func_in f i in
      let s = func_sound f r in
      subst (λ (z : Sig). IsSoundFunction w z f) (sym s.same) s

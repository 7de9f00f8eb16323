-- The functions of the program: each is the definition of one that the sources define, with the names of its locals.
use Rattle.std.proofs.Common.{◌≡◌, ◌∙◌, ◌⊎◌, inl, inr, ℕ, suc, true, false, true≢false, cond, List, [], ◌∷◌, ◌++◌, length, map, Option, Some, None, is_some, slice_get, refl, ap, sym}
use Rattle.std.specs.Prelude.{filter_map, option_and_then}
use Rattle.std.proofs.lemmas.List.{length-map}
use Rattle.cc_causes.specs.Entries.{entry_at}
use Rattle.cc_definitions.specs.Definitions.{thing_at, definition, func_in, function_of, functions}
use Rattle.cc_link.specs.Linked.{all_ids, func_at, ids_in, name_or_none}
use Rattle.cc_linked_names.specs.Given.{local_wishes, local_wishes_in, locals_for}
use Rattle.cc_linked_programs.proofs.ThingLists.{given-at}
use Rattle.cc_names.specs.Names.{Wish, Own, names_for, name_for}
use Rattle.cc_program.specs.CcNum.declared.target.Target.{Target}
use Rattle.cc_program.specs.declared.func.Func.{Func}
use Rattle.cc_program.specs.declared.program.Roles.{Roles}
use Rattle.cc_linked_programs.proofs.HandlerViews.{local_at, local_in, func_is}
use Rattle.cc_relocation.specs.Relocated.{func_with}
use Rattle.cc_relocated_units.specs.Units.{IsSoundUnit}
use Rattle.cc_structures.specs.Structures.{Numbering}
use Rattle.cc_structures.proofs.Elements.{In}
use Rattle.cc_operands.specs.CcSyntax.Types.{Named}
use Rattle.cc_things.specs.Mentions.{Mention}
use Rattle.cc_things.specs.Things.{Thing, things}
use Rattle.cc_things.specs.declared.text.Text.{Text}
use Rattle.cc_unit.specs.declared.ids.Ids.{Ids}
use Rattle.cc_unit.specs.declared.unit.UnitKind.{UnitKind}
use Rattle.cc_linked_programs.proofs.Definitions.{DefinedAt, FunctionAt, function_at}

-- as many names as wishes
pub names-as_many : (reserved given space : List (List ℕ)) (ws : List Wish) → length (names_for reserved given space ws) ≡ length ws
unfolding names_for
names-as_many reserved given space [] = refl
names-as_many reserved given space (w ∷ ws) =
    let x = name_for reserved given space w in
    ap suc (names-as_many reserved (given ++ x ∷ []) (space ++ x ∷ []) ws)

-- an element that a function gives
pub record Given {X Y : Type 0} (f : X → Option Y) (xs : List X) (y : Y) : Type 0 where
  pub from : X
  pub there : In from xs
  pub gives : f from ≡ Some y

pub given-from : {X Y : Type 0} (f : X → Option Y) (xs : List X) (y : Y) → In y (filter_map f xs) → Given f xs y
given-from f [] y h = absurd h
given-from {X} {Y} f (x ∷ xs) y h = by (f x) refl h (given-from f xs y)
  where
    more : Given f xs y → Given f (x ∷ xs) y
    more r = record { from = r.from; there = inr r.there; gives = r.gives }

    by : (o : Option Y) → f x ≡ o → In y (filter_map f (x ∷ xs)) → (In y (filter_map f xs) → Given f xs y) → Given f (x ∷ xs) y
    by None e i rest = more (rest (rw e at i))
    by (Some z) e i rest = cases (rw e at i)
      where
        cases : In y (z ∷ filter_map f xs) → Given f (x ∷ xs) y
        cases (inl s) = record { from = x; there = inl refl; gives = e ∙ ap (λ (v : Y). Some v) s }
        cases (inr j) = more (rest j)

module _ (ts : List Thing) (reserved outer : List (List ℕ)) where
  -- each function has a name for each wish of its locals
  pub locals-as_many : (given : List (List ℕ)) (ks : List ℕ) (f : ℕ × List (List ℕ)) → In f (locals_for ts reserved outer given ks) → length f.1 ≡ length (local_wishes (thing_at ts f.0))
  unfolding locals_for
  locals-as_many given [] f h = absurd h
  locals-as_many given (k ∷ ks) f (inl e) =
      sym (ap (λ (g : ℕ × List (List ℕ)). length g.1) e)
      ∙ (names-as_many reserved given outer (local_wishes (thing_at ts k)) ∙ ap (λ (g : ℕ × List (List ℕ)). length (local_wishes (thing_at ts g.0))) e)
  locals-as_many given (k ∷ ks) f (inr i) = locals-as_many (given ++ names_for reserved given outer (local_wishes (thing_at ts k))) ks f i

module _ (texts : List Text) (target : Target) (sound : (t : ℕ) (x : Text) → slice_get texts t ≡ Some x → IsSoundUnit target x.unit) (roles : Roles) (numbering : Numbering) (name_of : ℕ → Option (List ℕ)) (reserved outer given : List (List ℕ)) where
  abbrev ts : List Thing
  ts = things texts

  abbrev ids : List Ids
  ids = all_ids texts numbering

  abbrev pub local_lists : List (ℕ × List (List ℕ))
  local_lists = locals_for ts reserved outer given (functions ts)

  abbrev pub program_funcs : List Func
  program_funcs = filter_map (func_at ts name_of roles ids) local_lists

  abbrev pub func_from : (k : ℕ) → List (List ℕ) → FunctionAt texts target sound k → Func
  func_from k xs a = func_with (name_or_none ts name_of k) xs (entry_at ts roles name_of k) (ids_in ids a.defined.by.text) a.func

  pub func_given : (k : ℕ) (xs : List (List ℕ)) (a : FunctionAt texts target sound k) → func_at ts name_of roles ids (k, xs) ≡ Some (func_from k xs a)
  func_given k xs a =
      func_is ids (name_or_none ts name_of k) xs (entry_at ts roles name_of k) (thing_at ts k) a.defined.by a.func a.defined.is (ap func_in a.kind)

  pub each_func : (f : ℕ × List (List ℕ)) → In f local_lists → is_some (func_at ts name_of roles ids f) ≡ true
  each_func f i =
      let a = function_at texts target sound f.0 (local_in ts reserved outer given (functions ts) f i) in
      ap is_some (func_given f.0 f.1 a)

  -- the function at a position
  pub func_there : (k at : ℕ) → slice_get (functions ts) at ≡ Some k → (a : FunctionAt texts target sound k) → (xs : List (List ℕ)) × (slice_get program_funcs at ≡ Some (func_from k xs a))
  func_there k at e a =
      let r = local_at ts reserved outer given (functions ts) at k e in
      (r.0, given-at (func_at ts name_of roles ids) local_lists each_func at (k, r.0) r.1 ∙ func_given k r.0 a)

  pub record FuncOf (f : Func) : Type 0 where
    pub number : ℕ
    pub there : In number (functions ts)
    pub at : FunctionAt texts target sound number
    pub names : List (List ℕ)
    pub as_many : length names ≡ length at.func.locals
    pub is : f ≡ func_from number names at

  pub func_of : (f : Func) → In f program_funcs → FuncOf f
  func_of f i =
      let g = given-from (func_at ts name_of roles ids) local_lists f i in
      let k = local_in ts reserved outer given (functions ts) g.from g.there in
      let a = function_at texts target sound g.from.0 k in
      record {
        number = g.from.0;
        there = k;
        at = a;
        names = g.from.1;
        as_many = locals-as_many ts reserved outer given (functions ts) g.from g.there ∙ wishes g.from.0 a;
        is = one f (func_from g.from.0 g.from.1 a) (sym g.gives ∙ func_given g.from.0 g.from.1 a);
      }
    where
      one : (x y : Func) → Some x ≡ Some y → x ≡ y
      one x y e = cc e

      wishes : (k : ℕ) (a : FunctionAt texts target sound k) → length (local_wishes (thing_at ts k)) ≡ length a.func.locals
      wishes k a =
          let function : function_of (thing_at ts k) ≡ Some a.func = ap (λ (o : Option Mention). option_and_then (λ (m : Mention). func_in m.name.kind) o) a.defined.is ∙ ap func_in a.kind in
          ap (λ (o : Option Func). length (local_wishes_in o)) function ∙ length-map a.func.locals (λ (l : Named). Own l.0)

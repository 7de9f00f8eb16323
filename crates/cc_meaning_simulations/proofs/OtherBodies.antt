-- A program with other bodies has the same types, the same registers where the same locals have their addresses taken, and so expressions
-- that do the same.
use Rattle.std.proofs.Common.{◌≡◌, ◌∙◌, ◌∷◌, ◌++◌, ◌&&◌, if◌then◌else◌, ℕ, ℤ, Bool, not, List, [], Option, Some, None, option_map, option_and_then, slice_get, refl, ap}
use Rattle.std.proofs.lemmas.Option.{slice_get-map}
use Rattle.std.specs.Prelude.{nat_lt, pos}
use Rattle.cc_program.specs.declared.expr.Expr.{Expr, fold-Expr, map-Expr}
use Rattle.cc_program.specs.declared.expr.Expr.TheOpen as one
use Rattle.cc_program.specs.declared.expr.Place.{map-Place}
use Rattle.cc_program.specs.declared.func.Func.{Func}
use Rattle.cc_program.specs.declared.program.Program.{Program}
use Rattle.cc_program.specs.declared.stmt.Stmt.{Stmt}
use Rattle.cc_program.specs.declared.value.Address.{Address}
use Rattle.cc_program.specs.declared.value.Address.TheVariants as address
use Rattle.cc_program.specs.declared.value.Part.{Part}
use Rattle.cc_program.specs.declared.value.Part.TheVariants as part
use Rattle.cc_program.specs.declared.value.Root.{Root}
use Rattle.cc_program.specs.declared.value.Root.TheVariants as root
use Rattle.cc_program.specs.declared.value.Value.{Value}
use Rattle.cc_program.specs.declared.value.Value.TheVariants as value
use Rattle.cc_steps.specs.CcEval.declared.action.Action.TheVariants.{Read, Write}
use Rattle.cc_steps.specs.CcEval.declared.mark.Mark.{Mark}
use Rattle.cc_steps.specs.CcEval.declared.spots.Spot.{Spot}
use Rattle.cc_steps.specs.CcEval.declared.spots.Spot.TheVariants as spot
use Rattle.cc_steps.specs.CcEval.Context.{Context, local_type, object_type, are_alike, has_elements, path_to, named_by, designated, cell_of, cell_at, reached, element_in, element, member, is_seen}
use Rattle.cc_steps.specs.CcEval.Eval.{Meaning, Designation, manner, place_and_value, changed, sum_or_difference, one_more_type, value_type, fetched, stored, next_step, expr_effects, expr_meaning, leads_to, place_meaning, meaning}
use Rattle.cc_steps.specs.CcEval.Progress.{known, ask, bind, needs, given}
use Rattle.cc_steps.specs.Step.{gives_nothing, progress_in, progress_at}
use Rattle.cc_steps.specs.Turn.{level_in, level_of}
use Rattle.cc_steps.specs.CcSyntax.Effects.{Registers, Effects, PlaceEffects, no_one, place_effect_step, plain}
use Rattle.cc_steps.specs.CcSyntax.Expressions as typing
use Rattle.cc_steps.specs.CcSyntax.Expressions.{of_two}
use Rattle.cc_steps.specs.CcSyntax.Initial.{place_at, bound_of}
use Rattle.cc_steps.specs.CcSyntax.Operators.{function_type}
use Rattle.cc_steps.specs.CcSyntax.Registers.{may_be_register, is_register, is_addressed}
use Rattle.cc_steps.specs.CcSyntax.Values.{ValueType, PlaceType, element_of}
use Rattle.cc_steps.specs.CcSyntax.Views.{of_program}
use Rattle.cc_steps.specs.CcValues.Values.{integer}
use Rattle.cc_meaning_simulations.specs.Bodies.{with_bodies, with_body}

module _ (new : Func → List Stmt) (P : Program) where
  abbrev pub Q : Program
  Q = with_bodies new P

  -- what a function's body has no part in
  by_func : {A : Type 0} → (g : Option Func → A) → (f : Option Func) → ((x : Func) → g (Some (with_body new x)) ≡ g (Some x)) → g (option_map (with_body new) f) ≡ g f
  by_func g None h = refl
  by_func g (Some f) h = h f

  pub func_same : {A : Type 0} → (g : Option Func → A) → ((x : Func) → g (Some (with_body new x)) ≡ g (Some x)) → (id : ℕ) → g (slice_get Q.funcs id) ≡ g (slice_get P.funcs id)
  func_same g h id = ap g (slice_get-map (with_body new) P.funcs id) ∙ by_func g (slice_get P.funcs id) h

  pub funcs_same : (id : ℕ) → slice_get Q.funcs id ≡ option_map (with_body new) (slice_get P.funcs id)
  funcs_same id = slice_get-map (with_body new) P.funcs id

  pub gives_same : (id : ℕ) → gives_nothing (slice_get Q.funcs id) ≡ gives_nothing (slice_get P.funcs id)
  gives_same = func_same gives_nothing (λ f. refl)

  pub levels_same : (id : ℕ) → level_of Q id ≡ level_of P id
  levels_same = func_same (level_in P) (λ f. refl)

  pub view_same : of_program Q ≡ of_program P
  view_same = λ i. record {
    target = P.target;
    structures = P.structures;
    extents = (of_program P).extents;
    statics = (of_program P).statics;
    devices = (of_program P).devices;
    functions = λ id. func_same function_type (λ f. refl) id i;
  }

  -- ---- objects

  pub object_same : (r : Root) → object_type Q r ≡ object_type P r
  object_same (root.Static i) = refl
  object_same (root.Auto number func local) = func_same (local_type local) (λ f. refl) func

  elements_same : (t : PlaceType) (object : Root) (path : List Part) → has_elements Q t object path ≡ has_elements P t object path
  elements_same t object path = ap (λ (o : Option PlaceType). are_alike (option_and_then element_of (option_and_then (place_at P.structures path) o)) t) (object_same object)

  named_same : (t : PlaceType) (a : Address) → named_by Q t a ≡ named_by P t a
  named_same t address.Null = refl
  named_same t (address.Func f) = refl
  named_same t (address.At object path index count) =
      ap (λ (b : Bool). if nat_lt index count then Some (object, path_to b path index) else None) (elements_same t object path)

  designated_same : (t : PlaceType) (s : Spot) → designated Q t s ≡ designated P t s
  designated_same t (spot.Device d) = refl
  designated_same t (spot.Object object path) = refl
  designated_same t (spot.Address a) = named_same t a

  cell_same : (t : PlaceType) (s : Spot) → cell_at Q t s ≡ cell_at P t s
  cell_same t (spot.Device d) = refl
  cell_same t (spot.Object object path) = refl
  cell_same t (spot.Address a) = ap (option_map cell_of) (named_same t a)

  reached_same : (t : Option PlaceType) (s : Option Spot) → reached Q t s ≡ reached P t s
  reached_same t s = λ i. of_two t s (λ t s. cell_same t s i)

  element_same : (n : ℤ) (t : PlaceType) (s : Spot) → element Q n t s ≡ element P n t s
  element_same n t s = ap (option_and_then (element_in (bound_of t) n)) (designated_same t s)

  member_same : (m : ℕ) (t : PlaceType) (s : Spot) → member Q m t s ≡ member P m t s
  member_same m t s = λ i. option_map (λ o. spot.Object o.0 (o.1 ++ part.Member m ∷ [])) (designated_same t s i)

  module _ (taken : (f : Func) (r : ℕ) → is_addressed (with_body new f) r ≡ is_addressed f r) (number id : ℕ) (f : Func) where
    abbrev there : Context
    there = record { program = Q; number = number; id = id; func = with_body new f }

    abbrev here : Context
    here = record { program = P; number = number; id = id; func = f }

    fetched_same : (a : Designation) (later : Registers) (s : Option Spot) → fetched there a later s ≡ fetched here a later s
    fetched_same a later s = λ i. needs (reached_same a.ctype s i) (λ cell. ask (Read cell (manner a later)) given)

    stored_same : (a : Designation) (s : Option Spot) (v answer : Option Value) → stored there a s v answer ≡ stored here a s v answer
    stored_same a s v answer = λ i. needs (reached_same a.ctype s i) (λ cell. needs v (λ w. ask (Write cell (is_seen a.ctype) w) (λ m. answer)))

    next_same : (whole : Effects) (x : one.Expr-F Meaning Designation) → next_step there whole x ≡ next_step here whole x
    next_same whole (one.Const n t) = refl
    next_same whole (one.Null t) = refl
    next_same whole (one.FuncAddr g) = refl
    next_same whole (one.Load a) = λ i later. bind (a.leads later) (λ s. fetched_same a later s i)
    next_same whole (one.AddrOf a) = refl
    next_same whole (one.Un o t a) = refl
    next_same whole (one.Bin o t a b) = refl
    next_same whole (one.Conv t a) = refl
    next_same whole (one.Qualify t a) = refl
    next_same whole (one.Move a b back) = refl
    next_same whole (one.Gap a b) = refl
    next_same whole (one.Compare o a b) = refl
    next_same whole (one.Both a b) = refl
    next_same whole (one.Either a b) = refl
    next_same whole (one.Choose d a b) = refl
    next_same whole (one.Assign a e) = λ i later. bind (place_and_value a e later) (λ p. stored_same a p.0 p.1 p.1 i)
    next_same whole (one.Change a o t e) = λ i later.
        bind (place_and_value a e later) (λ p. bind (fetched_same a later p.0 i) (λ v. let new = changed P.target o t (value_type here a) v p.1 in stored_same a p.0 new new i))
    next_same whole (one.After a down) = λ i later.
        bind (a.leads later) (λ s. bind (fetched_same a later s i)
        (λ v. stored_same a s (changed P.target (sum_or_difference down) (one_more_type P.target (value_type here a)) (value_type here a) v (Some (value.Int (pos 1)))) v i))
    next_same whole (one.Call g args) = refl
    next_same whole (one.Intr i a) = refl
    next_same whole (one.Seq a b) = refl

    expr_same : (x : one.Expr-F Meaning Designation) → expr_meaning there x ≡ expr_meaning here x
    expr_same x = λ i. record {
      ctype = typing.expr_step (view_same i) f.locals (map-Expr Meaning Designation (Option ValueType) (Option PlaceType) (λ a. a.ctype) (λ a. a.ctype) x);
      effects = expr_effects here x;
      next = next_same (expr_effects here x) x i;
    }

    register_same : (r : ℕ) → is_register (with_body new f) r ≡ is_register f r
    unfolding is_register
    register_same r = λ i. may_be_register (slice_get f.locals r) && not (taken f r i)

    effects_same : (x : one.Place-F Effects PlaceEffects) → place_effect_step (with_body new f) x ≡ place_effect_step f x
    effects_same (one.Local r) = ap (λ (b : Bool). plain (if b then Some r else None)) (register_same r)
    effects_same (one.Static i) = refl
    effects_same (one.Device d) = refl
    effects_same (one.Element a i) = refl
    effects_same (one.Member a m) = refl
    effects_same (one.Deref e) = refl

    leads_same : (x : one.Place-F Meaning Designation) → leads_to there x ≡ leads_to here x
    leads_same (one.Local r) = refl
    leads_same (one.Static i) = refl
    leads_same (one.Device d) = refl
    leads_same (one.Element a e) = λ i later. bind (place_and_value a e later) (λ p. known (of_two a.ctype p.0 (λ t s. option_and_then (λ n. element_same n t s i) (integer p.1))))
    leads_same (one.Member a m) = λ i later. bind (a.leads later) (λ s. known (of_two a.ctype s (λ t u. member_same m t u i)))
    leads_same (one.Deref e) = refl

    place_same : (x : one.Place-F Meaning Designation) → place_meaning there x ≡ place_meaning here x
    place_same x = λ i. record {
      ctype = typing.place_step (view_same i) f.locals (map-Place Meaning Designation (Option ValueType) (Option PlaceType) (λ a. a.ctype) (λ a. a.ctype) x);
      effects = effects_same (map-Place Meaning Designation Effects PlaceEffects (λ a. a.effects) (λ a. a.effects) x) i;
      leads = leads_same x i;
    }

    pub meaning_same : (e : Expr) → meaning there e ≡ meaning here e
    unfolding meaning
    meaning_same e = λ i. fold-Expr Meaning Designation (λ x. expr_same x i) (λ x. place_same x i) e

  module _ (taken : (f : Func) (r : ℕ) → is_addressed (with_body new f) r ≡ is_addressed f r) where
    progress_in_same : (number id : ℕ) (ms : List Mark) (e : Option Expr) (f : Func) → progress_in Q number id ms (Some (with_body new f)) e ≡ progress_in P number id ms (Some f) e
    progress_in_same number id ms None f = refl
    progress_in_same number id ms (Some e) f = ap (λ (m : Meaning). m.next no_one ms) (meaning_same taken number id f e)

    -- how far a full expression has come
    pub progress_same : (number id : ℕ) (ms : List Mark) (e : Option Expr) → progress_at Q number id ms e ≡ progress_at P number id ms e
    progress_same number id ms e =
        ap (λ (f : Option Func). progress_in Q number id ms f e) (slice_get-map (with_body new) P.funcs id) ∙ at_func (slice_get P.funcs id)
      where
        at_func : (f : Option Func) → progress_in Q number id ms (option_map (with_body new) f) e ≡ progress_in P number id ms f e
        at_func None = refl
        at_func (Some f) = progress_in_same number id ms e f

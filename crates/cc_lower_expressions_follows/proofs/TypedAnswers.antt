-- What an expression gives is of its type, and what is written to a register is of the type of the register.
use Rattle.std.proofs.Common.{◌≡◌, ◌<◌, ℕ, pos, Bool, true, false, [], Option, Some, None, refl, ap, sym, ◌∙◌, subst, if◌then◌else◌}
use Rattle.std.proofs.lemmas.Option.{same_Some}
use Rattle.std.specs.Prelude.{option_map, option_and_then, slice_get}
use Rattle.cc_program.specs.CcNum.declared.int_type.IntType.{IntType}
use Rattle.cc_program.specs.CcNum.declared.op.BinOp.{BinOp}
use Rattle.cc_program.specs.declared.expr.Expr.{Expr}
use Rattle.cc_program.specs.declared.expr.Expr.TheOpen as one
use Rattle.cc_program.specs.declared.expr.Place.{Place, Local, out-Place, roll-Place, roll-out-Place, fold-roll-Place}
use Rattle.cc_program.specs.declared.expr.Place.TheVariants.{rolls-Local}
use Rattle.cc_program.specs.declared.func.Func.{Func}
use Rattle.cc_program.specs.declared.value.Value.{Value}
use Rattle.cc_program.specs.declared.value.Value.TheVariants.{Int}
use Rattle.cc_states.specs.CcSyntax.Effects.{Registers}
use Rattle.cc_states.specs.CcSyntax.Expressions.{of_one, of_two}
use Rattle.cc_states.specs.CcSyntax.Initial.{place_at}
use Rattle.cc_states.specs.CcSyntax.Operators.{assignment_type, change_type, after_type}
use Rattle.cc_states.specs.CcSyntax.Registers.{is_register, PlaceUse, address_step, use_step, is_address_taken, place_use}
use Rattle.cc_states.specs.CcSyntax.Values.{ValueType, PlaceType, object_place, read_from, written_to, is_assignable}
use Rattle.cc_states.specs.CcEval.Context.{Context, local_type}
use Rattle.cc_states.specs.CcEval.Eval.{Designation, meaning, designation, value_type, fetched, sum_or_difference, one_more_type, changed as changed_values}
use Rattle.cc_states.specs.CcEval.Progress.{Get, known, bind, needs}
use Rattle.cc_states.proofs.CcEval.Links.{place_level}
use Rattle.cc_states.specs.Answers.{IsActivation, IsMarkOf, IsStep, TakesAddressesOf, PlaceTakesAddressesOf, WorksIn as WorksWith}
use Rattle.cc_states.specs.Typed.{HasType, MayHave, cell_type}
use Rattle.cc_states.proofs.EvalTypes.{Spot-of, meaning_typed, designation_typed, typed_fetched}
use Rattle.cc_states.proofs.GivenLemmas.{read_as_written, has_good, has_changed}
use Rattle.cc_states.proofs.Options.{when_true, with_one, with_two}
use Rattle.cc_states.proofs.TypedLemmas.{may_widen}
use Rattle.cc_states.proofs.CcEval.Works.{works_known, works_bind, works_needs}
use Rattle.cc_lower_expressions_follows.specs.Trees.{Setting, context_p, register_cell}
use Rattle.cc_lower_expressions_follows.specs.Relation.{Alike, ValueOf}
use Rattle.cc_lower_expressions_follows.specs.Claims.{good}
use Rattle.cc_lower_expressions_follows.proofs.Answered.{AllAnswers, all_answers}
use Rattle.cc_lower_expressions_follows.proofs.ChangeOwn.{new_value}
use Rattle.cc_lower_expressions_follows.proofs.Opened.{at_place_level}
use Rattle.cc_lower_expressions_follows.proofs.Owned.{Fits}
use Rattle.cc_lower_expressions_follows.proofs.Typing.{IsTyped}

module _ (w : Setting) (here : IsActivation (context_p w) w.openings) where
  abbrev cp : Context
  cp = context_p w

  -- works, in the activation of p
  abbrev WorksIn : {A : Type 0} → (A → Type 0) → Get A → Type 0
  WorksIn T g = WorksWith w.p w.openings w.number T g

  abbrev Has : ValueType → Option Value → Type 0
  Has t v = MayHave w.p w.openings t v

  answers_of : {A : Type 0} (T : A → Type 0) (g : Get A) → WorksIn T g → AllAnswers w.p w.openings T g
  answers_of T g h = all_answers w.p w.openings w.number T g h

  -- ---- expressions

  expr_works : (e : Expr) → TakesAddressesOf w.from e → (t : ValueType) → (meaning cp e).ctype ≡ Some t → (later : Registers) → WorksIn (Has t) ((meaning cp e).next later)
  expr_works e own t h later = meaning_typed cp w.openings here e own t h later

  pub typed_answers : (e : Expr) → TakesAddressesOf w.from e → (t : ValueType) → (meaning cp e).ctype ≡ Some t → (later : Registers) → AllAnswers w.p w.openings (Has t) ((meaning cp e).next later)
  typed_answers e own t h later = answers_of (Has t) ((meaning cp e).next later) (expr_works e own t h later)

  pub value_answers : (e : Expr) → TakesAddressesOf w.from e → IsTyped (meaning cp e).ctype → (later : Registers) → AllAnswers w.p w.openings (ValueOf w (meaning cp e).ctype) ((meaning cp e).next later)
  value_answers e own ty later = subst (λ (t : Option ValueType). AllAnswers w.p w.openings (ValueOf w t) ((meaning cp e).next later)) (sym ty.1) (typed_answers e own ty.0 ty.1 later)

  -- ---- what is read at a place

  read_works : (a : Place) → PlaceTakesAddressesOf w.from a → (u : PlaceType) (t : ValueType) → (designation cp a).ctype ≡ Some u → read_from u ≡ Some t → (later : Registers) →
      WorksIn (Has t) (bind ((designation cp a).leads later) (fetched cp (designation cp a) later))
  read_works a own u t e f later =
      works_bind (IsMarkOf w.p w.openings) (IsStep w.p w.openings w.number) (Spot-of cp w.openings here u) (Has t) ((designation cp a).leads later) (fetched cp (designation cp a) later)
      (designation_typed cp w.openings here a own u e later) (λ s m. typed_fetched cp w.openings here (designation cp a) u t e f later s m)

  pub read_answers : (a : Place) → PlaceTakesAddressesOf w.from a → (t : ValueType) → of_one (designation cp a).ctype written_to ≡ Some t → (later : Registers) →
      AllAnswers w.p w.openings (ValueOf w (value_type cp (designation cp a))) (bind ((designation cp a).leads later) (fetched cp (designation cp a) later))
  read_answers a own t h later =
      with_one (AllAnswers w.p w.openings (ValueOf w (value_type cp (designation cp a))) (bind ((designation cp a).leads later) (fetched cp (designation cp a) later))) (designation cp a).ctype written_to t h
      (λ u e f.
      let r = read_as_written u t f in
      subst (λ (z : Option ValueType). AllAnswers w.p w.openings (ValueOf w z) (bind ((designation cp a).leads later) (fetched cp (designation cp a) later))) (sym (ap (option_and_then read_from) e ∙ r))
      (answers_of (Has t) (bind ((designation cp a).leads later) (fetched cp (designation cp a) later)) (read_works a own u t e r later)))

  -- ---- the type of a register

  abbrev local_at : ℕ → one.Place-F Expr Place
  local_at i = one.Local i

  abbrev IsLocalRegister : one.Place-F Expr Place → ℕ → Type 0
  IsLocalRegister x i = (x ≡ one.Local i) × (is_register w.from i ≡ true)

  register_level : (x : one.Place-F Expr Place) (i : ℕ) → (at_place_level cp x).effects.register ≡ Some i → IsLocalRegister x i
  register_level (one.Local r) i h = by_test (is_register w.from r) refl h
    where
      by_test : (b : Bool) → is_register w.from r ≡ b → (if b then Some r else None) ≡ Some i → IsLocalRegister (one.Local r) i
      by_test true e k = let f : r ≡ i = cc in (ap local_at f, ap (is_register w.from) (sym f) ∙ e)
      by_test false e k = absurd (cc)
  register_level (one.Static r) i h = absurd (cc)
  register_level (one.Device r) i h = absurd (cc)
  register_level (one.Element a e) i h = absurd (cc)
  register_level (one.Member a m) i h = absurd (cc)
  register_level (one.Deref e) i h = absurd (cc)

  level_of : (a : Place) → designation cp a ≡ at_place_level cp (out-Place a)
  level_of a = ap (designation cp) (sym (roll-out-Place a)) ∙ place_level cp (out-Place a)

  -- a place that is a register is a local
  local_of : (a : Place) (i : ℕ) → (designation cp a).effects.register ≡ Some i → a ≡ Local i
  local_of a i h =
      let k = register_level (out-Place a) i (ap (λ (d : Designation). d.effects.register) (sym (level_of a)) ∙ h) in
      sym (roll-out-Place a) ∙ ap roll-Place k.0 ∙ rolls-Local i

  local_place : (i : ℕ) → (designation cp (Local i)).ctype ≡ option_map (λ l. object_place l.1) (slice_get w.from.locals i)
  local_place i = ap (λ (a : Place). (designation cp a).ctype) (sym (rolls-Local i)) ∙ ap (λ (d : Designation). d.ctype) (place_level cp (one.Local i))

  local_cell : (i : ℕ) (u : PlaceType) (t : ValueType) → (designation cp (Local i)).ctype ≡ Some u → read_from u ≡ Some t → cell_type w.p (register_cell w i) ≡ Some t
  local_cell i u t e f =
      ap (λ (g : Option Func). of_one (of_one (local_type i g) (place_at w.p.structures [])) read_from) here.function ∙
      ap (λ (z : Option PlaceType). of_one (of_one z (place_at w.p.structures [])) read_from) (sym (local_place i) ∙ e) ∙ f

  -- a register that takes values
  pub record TakenRegister (a : Place) (i : ℕ) (to : ValueType) : Type 0 where
    pub place : PlaceType
    pub is_local : a ≡ Local i
    pub type_is : (designation cp (Local i)).ctype ≡ Some place
    pub reads : read_from place ≡ Some to
    pub cell : cell_type w.p (register_cell w i) ≡ Some to

  taken : (a : Place) (i : ℕ) (to : ValueType) → (designation cp a).effects.register ≡ Some i → of_one (designation cp a).ctype written_to ≡ Some to → TakenRegister a i to
  taken a i to h k =
      let l = local_of a i h in
      with_one (TakenRegister a i to) (designation cp a).ctype written_to to k
      (λ u e f.
      let g = ap (λ (b : Place). (designation cp b).ctype) (sym l) ∙ e in
      let r = read_as_written u to f in
      record { place = u; is_local = l; type_is = g; reads = r; cell = local_cell i u to g r })

  module _ (alike : Alike w) where
    -- a value of the type is one that the register may hold
    fits_of : (i : ℕ) (to : ValueType) → cell_type w.p (register_cell w i) ≡ Some to → (v : Option Value) (x : Value) → Has to v → v ≡ Some x → Fits w alike i x
    fits_of i to cell v x h e = (to, cell, has_good w.p w.openings to v x h e)

    fits_good : (i : ℕ) (to : ValueType) → cell_type w.p (register_cell w i) ≡ Some to → (g : Get (Option Value)) → WorksIn (Has to) g → AllAnswers w.p w.openings (Fits w alike i) (good g)
    fits_good i to cell g h =
        answers_of (Fits w alike i) (good g)
        (works_bind (IsMarkOf w.p w.openings) (IsStep w.p w.openings w.number) (Has to) (Fits w alike i) g (λ v. needs v known) h
        (λ v m. works_needs (IsMarkOf w.p w.openings) (IsStep w.p w.openings w.number) (Fits w alike i) v known (λ x e. works_known (IsMarkOf w.p w.openings) (IsStep w.p w.openings w.number) (Fits w alike i) x (fits_of i to cell v x m e))))

    works_widened : (to from : ValueType) → is_assignable to from ≡ true → (g : Get (Option Value)) → WorksIn (Has from) g → WorksIn (Has to) g
    works_widened to from h g k = record {
      known = λ ms rest v answers e. let x = k.known ms rest v answers e in (x.0, may_widen w.p w.openings to from v h x.1);
      waits = λ ms action answers e. k.waits ms action answers e;
    }

    -- ---- an assignment

    pub assigned_fits : (a : Place) (e : Expr) → TakesAddressesOf w.from e → IsTyped (of_two (of_one (designation cp a).ctype written_to) (meaning cp e).ctype assignment_type) → (i : ℕ) → (designation cp a).effects.register ≡ Some i →
        (later : Registers) → AllAnswers w.p w.openings (Fits w alike i) (good ((meaning cp e).next later))
    assigned_fits a e own ty i h later =
        with_two (AllAnswers w.p w.openings (Fits w alike i) (good ((meaning cp e).next later))) (of_one (designation cp a).ctype written_to) (meaning cp e).ctype assignment_type ty.0 ty.1
        (λ to from f g k.
        fits_good i to (taken a i to h f).cell ((meaning cp e).next later)
        (works_widened to from (when_true (is_assignable to from) to ty.0 k) ((meaning cp e).next later) (expr_works e own from g later)))

    -- ---- `op=`

    -- the address of a local that is read is not taken there
    names_alone : (i : ℕ) → PlaceTakesAddressesOf w.from (Local i)
    unfolding is_address_taken place_use
    names_alone i r k =
        let e = ap (λ (a : Place). (place_use r a).address_taken) (rolls-Local i) in
        let f = ap (λ (u : PlaceUse). u.address_taken) (fold-roll-Place Bool PlaceUse (address_step r) (use_step r) (one.Local i)) in
        let g : false ≡ true = sym f ∙ e ∙ k in
        absurd (cc)

    module _ (o : BinOp) (t : IntType) (a : Place) (e : Expr) (own : TakesAddressesOf w.from e) (i : ℕ) (below : i < w.base) (register : is_register w.from i ≡ true) (to from : ValueType) (at : TakenRegister a i to) (right : (meaning cp e).ctype ≡ Some from) (type : Option ValueType) (later : Registers) where
      abbrev d : Designation
      d = designation cp (Local i)

      abbrev the_read : Get (Option Value)
      the_read = bind (d.leads later) (fetched cp d later)

      abbrev new : Option Value → Option Value → Option Value
      new u v = changed_values w.p.target o t (value_type cp d) u v

      abbrev Old : Option Value × Option Value → Type 0
      Old p = Has to p.1

      old_works : WorksIn Old (bind ((meaning cp e).next later) (λ v. bind the_read (λ u. known (v, u))))
      old_works =
          works_bind (IsMarkOf w.p w.openings) (IsStep w.p w.openings w.number) (Has from) Old ((meaning cp e).next later) (λ v. bind the_read (λ u. known (v, u))) (expr_works e own from right later)
          (λ v m. works_bind (IsMarkOf w.p w.openings) (IsStep w.p w.openings w.number) (Has to) Old the_read (λ u. known (v, u)) (read_works (Local i) (names_alone i) at.place to at.type_is at.reads later) (λ u n. works_known (IsMarkOf w.p w.openings) (IsStep w.p w.openings w.number) Old (v, u) n))

      new_has : (u v : Option Value) → Has to u → Has to (new u v)
      new_has u v h =
          subst (λ (z : Option ValueType). Has to (changed_values w.p.target o t z u v)) (sym (ap (option_and_then read_from) at.type_is ∙ at.reads)) (has_changed w.p w.openings o t to u v h)

      new_works : WorksIn (Has to) ((new_value w alike i below register o t (meaning cp e) type).next later)
      new_works =
          works_bind (IsMarkOf w.p w.openings) (IsStep w.p w.openings w.number) Old (Has to) (bind ((meaning cp e).next later) (λ v. bind the_read (λ u. known (v, u)))) (λ p. known (new p.1 p.0)) old_works
          (λ p m. works_known (IsMarkOf w.p w.openings) (IsStep w.p w.openings w.number) (Has to) (new p.1 p.0) (new_has p.1 p.0 m))

      new_fits : AllAnswers w.p w.openings (Fits w alike i) (good ((new_value w alike i below register o t (meaning cp e) type).next later))
      new_fits = fits_good i to at.cell ((new_value w alike i below register o t (meaning cp e) type).next later) new_works

    pub changed_fits : (a : Place) (o : BinOp) (t : IntType) (e : Expr) → TakesAddressesOf w.from e → IsTyped (of_two (of_one (designation cp a).ctype written_to) (meaning cp e).ctype (change_type w.p.structures w.p.target o t)) →
        (i : ℕ) (below : i < w.base) (register : is_register w.from i ≡ true) → (designation cp a).effects.register ≡ Some i → (type : Option ValueType) (later : Registers) →
        AllAnswers w.p w.openings (Fits w alike i) (good ((new_value w alike i below register o t (meaning cp e) type).next later))
    changed_fits a o t e own ty i below register h type later =
        with_two (AllAnswers w.p w.openings (Fits w alike i) (good ((new_value w alike i below register o t (meaning cp e) type).next later)))
        (of_one (designation cp a).ctype written_to) (meaning cp e).ctype (change_type w.p.structures w.p.target o t) ty.0 ty.1
        (λ to from f g k. new_fits o t a e own i below register to from (taken a i to h f) g type later)

    -- ---- `++` and `--`

    pub stepped_fits : (a : Place) (down : Bool) → IsTyped (of_one (of_one (designation cp a).ctype written_to) (after_type w.p.structures)) → (i : ℕ) → (designation cp a).effects.register ≡ Some i → (x z : Value) → Fits w alike i x →
        changed_values w.p.target (sum_or_difference down) (one_more_type w.p.target (value_type cp (designation cp a))) (value_type cp (designation cp a)) (Some x) (Some (Int (pos 1))) ≡ Some z → Fits w alike i z
    stepped_fits a down ty i h x z fits e =
        with_one (Fits w alike i z) (of_one (designation cp a).ctype written_to) (after_type w.p.structures) ty.0 ty.1
        (λ to f k.
        let at = taken a i to h f in
        let own : HasType w.p w.openings to x = subst (λ (t : ValueType). HasType w.p w.openings t x) (same_Some fits.0 to (sym fits.1 ∙ at.cell)) fits.2 in
        let value : value_type cp (designation cp a) ≡ Some to = ap (λ (b : Place). value_type cp (designation cp b)) at.is_local ∙ ap (option_and_then read_from) at.type_is ∙ at.reads in
        fits_of i to at.cell (changed_values w.p.target (sum_or_difference down) (one_more_type w.p.target (value_type cp (designation cp a))) (value_type cp (designation cp a)) (Some x) (Some (Int (pos 1)))) z
        (subst (λ (t : Option ValueType). Has to (changed_values w.p.target (sum_or_difference down) (one_more_type w.p.target (value_type cp (designation cp a))) t (Some x) (Some (Int (pos 1))))) (sym value)
        (has_changed w.p w.openings (sum_or_difference down) (one_more_type w.p.target (value_type cp (designation cp a))) to (Some x) (Some (Int (pos 1))) own)) e)

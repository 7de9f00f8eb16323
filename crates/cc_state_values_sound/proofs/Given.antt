-- A pure expression gives a value of its abstract value, or a bad one, and asks for nothing but reads of registers and branch steps; a place
-- leads to one of its addresses. By induction over how the abstract value comes about, whatever marks and steps are to be.
use Rattle.std.proofs.Common.{◌≡◌, ℕ, Bool, true, false, List, [], Option, Some, None, refl, ap, sym, ◌∙◌, subst}
use Rattle.std.proofs.lemmas.Option.{same_Some}
use Rattle.std.specs.Prelude.{option_map, if◌then◌else◌}
use Rattle.cc_state_values.specs.CcEval.declared.action.Action.{Action}
use Rattle.cc_state_values.specs.CcEval.declared.action.Action.TheVariants as action
use Rattle.cc_state_values.specs.CcEval.declared.action.Manner.{Manner}
use Rattle.cc_state_values.specs.CcEval.declared.mark.Mark.{Mark}
use Rattle.cc_state_values.specs.CcEval.declared.mark.Mark.TheVariants.{Chose}
use Rattle.cc_state_values.specs.CcEval.declared.spots.Spot.{Spot}
use Rattle.cc_state_values.specs.CcEval.declared.spots.Spot.TheVariants as spot
use Rattle.cc_state_values.specs.CcEval.Context.{Context, cell_at, member}
use Rattle.cc_state_values.specs.CcEval.Eval.{Meaning, Designation, meaning, designation, opened, place_opened, expr_effects, manner, fetched, place_and_value, from_one, address_of, element_at}
use Rattle.cc_state_values.specs.CcEval.Marks.{AnswerSteps, Works}
use Rattle.cc_state_values.specs.CcEval.Progress.{Get, Known, known, ask, bind, needs, given}
use Rattle.cc_state_values.proofs.CcEval.Links.{level, place_level, place_effects_linked, place_type_linked}
use Rattle.cc_state_values.proofs.CcEval.Works.{works_known, works_trap, works_ask, works_bind}
use Rattle.cc_state_values.specs.CcPlaces.declared.abs.Abs.{Abs}
use Rattle.cc_state_values.specs.CcPlaces.declared.abs.Abs.TheVariants as abs
use Rattle.cc_state_values.specs.CcPlaces.declared.addrs.Addrs.{Addrs}
use Rattle.cc_program.proofs.ExprInduction.{Parts, PlaceParts}
use Rattle.cc_program.specs.declared.expr.Expr.{Expr, out-Expr, roll-Expr, roll-out-Expr, map-Expr}
use Rattle.cc_program.specs.declared.expr.Expr.TheOpen as one
use Rattle.cc_program.specs.declared.expr.Place.{Place as PlaceOf, out-Place, roll-Place, roll-out-Place}
use Rattle.cc_program.specs.declared.value.Address.TheVariants as address
use Rattle.cc_program.specs.declared.value.Root.TheVariants as root
use Rattle.cc_program.specs.declared.value.Value.{Value}
use Rattle.cc_program.specs.declared.value.Value.TheVariants.{Int, Place}
use Rattle.cc_state_values.specs.CcStateOperators.Addresses.{AreMembers, AreElements}
use Rattle.cc_state_values.specs.CcStateOperators.Domains.{Domain}
use Rattle.cc_state_values.specs.Values.{IsVal, OfConst, OfNull, OfFunction, OfRegister, OfAddress, OfUn, OfBin, OfConv, OfQualify, OfMove, OfGap, OfCompare, OfBoth, OfEither, OfChoose, Designates, AtLocal, AtStatic, AtDevice, AtElement, AtMember, AtTarget}
use Rattle.cc_state_values_sound.proofs.Choices.{GivesAll, unary_gives, binary_gives, conversion_gives, one_fits, two_fits, both_fits, either_fits, chosen_fits}
use Rattle.cc_state_values_sound.proofs.Named.{only_has, local_leads, static_leads, device_leads, pointer_leads, address_gives, member_leads, element_leads}
use Rattle.cc_state_values_sound.proofs.Pointers.{movement_gives, gap_gives, comparison_gives}
use Rattle.cc_state_values_sound.specs.Steps.{MayGive, own_cell, LeadsInto, MayFit}
use Rattle.cc_state_values.specs.CcSyntax.Effects.{Registers, also, PlaceEffects, place_effects_of}
use Rattle.cc_state_values.specs.CcSyntax.Expressions.{of_two}
use Rattle.cc_state_values.specs.CcSyntax.Programs.{place_type}
use Rattle.cc_state_values.specs.CcSyntax.Registers.{is_register}
use Rattle.cc_state_values.specs.CcSyntax.Values.{PlaceType}
use Rattle.cc_state_values.specs.CcValues.Values.{address_in, unary, binary, conversion, movement, gap, comparison}

-- what is worked gives what else holds of what is given
both_work : {A : Type 0} (IsMark : Action → Mark → Type 0) (IsStep : Action → Type 0) (P Q : A → Type 0) (g : Get A) → Works IsMark IsStep P g →
    ((ms rest : List Mark) (a : A) → AnswerSteps IsMark g ms → g ms ≡ Known a rest → Q a) → Works IsMark IsStep (λ a. P a × Q a) g
both_work IsMark IsStep P Q g h k = record {
  known = λ ms rest a answers e. let u = h.known ms rest a answers e in (u.0, (u.1, k ms rest a answers e));
  waits = h.waits;
}

module _ {I : Type 0} (d : Domain I) (all : GivesAll d) (c : Context) (register : ℕ → Option (Abs I)) (IsMark : Action → Mark → Type 0) (IsStep : Action → Type 0)
    (reads : (r : ℕ) (how : Manner) → is_register c.func r ≡ true → IsStep (action.Read (own_cell c r) how))
    (gives : (r : ℕ) (how : Manner) (x : Abs I) (m : Mark) → is_register c.func r ≡ true → register r ≡ Some x → IsMark (action.Read (own_cell c r) how) m → MayGive d.has x (given m))
    (chooses : (b : Option Bool) → IsStep (action.Choose b))
    (choice_is : (b : Option Bool) (m : Mark) → IsMark (action.Choose b) m → m ≡ Chose b)
    (Taken : Expr → Type 0) (PlaceTaken : PlaceOf → Type 0)
    (parts : (e : Expr) → Taken e → Parts Taken PlaceTaken (out-Expr e))
    (place_parts : (a : PlaceOf) → PlaceTaken a → PlaceParts Taken PlaceTaken (out-Place a))
    (fits : (a : PlaceOf) → PlaceTaken a → (later : Registers) (ms rest : List Mark) (there : Option Spot) → AnswerSteps IsMark ((designation c a).leads later) ms → (designation c a).leads later ms ≡ Known there rest → MayFit c.program (designation c a).ctype there) where
  abbrev Among : Abs I → Option Value → Type 0
  Among x v = MayGive d.has x v

  abbrev pub Gives : Abs I → Get (Option Value) → Type 0
  Gives x g = Works IsMark IsStep (Among x) g

  abbrev pub Leads : Addrs → Get (Option Spot) → Type 0
  Leads s g = Works IsMark IsStep (LeadsInto s) g

  abbrev Valued : Expr → Abs I → Type 0
  Valued e y = IsVal d c.program c.id c.func register e y

  abbrev Placed : PlaceOf → Addrs → Type 0
  Placed a s = Designates d c.program c.id c.func register a s

  meaning_at : (e : Expr) (x : one.Expr-F Expr PlaceOf) → out-Expr e ≡ x → meaning c e ≡ opened c x
  meaning_at e x h = ap (meaning c) (sym (roll-out-Expr e) ∙ ap roll-Expr h) ∙ level c x

  designation_at : (a : PlaceOf) (x : one.Place-F Expr PlaceOf) → out-Place a ≡ x → designation c a ≡ place_opened c x
  designation_at a x h = ap (designation c) (sym (roll-out-Place a) ∙ ap roll-Place h) ∙ place_level c x

  next_at : (e : Expr) (x : one.Expr-F Expr PlaceOf) → out-Expr e ≡ x → (P : Get (Option Value) → Type 0) (later : Registers) → P ((opened c x).next later) → P ((meaning c e).next later)
  next_at e x h P later k = subst (λ (m : Meaning). P (m.next later)) (sym (meaning_at e x h)) k

  leads_at : (a : PlaceOf) (x : one.Place-F Expr PlaceOf) → out-Place a ≡ x → (P : Get (Option Spot) → Type 0) (later : Registers) → P ((place_opened c x).leads later) → P ((designation c a).leads later)
  leads_at a x h P later k = subst (λ (m : Designation). P (m.leads later)) (sym (designation_at a x h)) k

  parts_at : (e : Expr) (x : one.Expr-F Expr PlaceOf) → out-Expr e ≡ x → Taken e → Parts Taken PlaceTaken x
  parts_at e x h t = subst (λ z. Parts Taken PlaceTaken z) h (parts e t)

  place_parts_at : (a : PlaceOf) (x : one.Place-F Expr PlaceOf) → out-Place a ≡ x → PlaceTaken a → PlaceParts Taken PlaceTaken x
  place_parts_at a x h t = subst (λ z. PlaceParts Taken PlaceTaken z) h (place_parts a t)

  abbrev whole_pure : one.Expr-F Expr PlaceOf → Registers → Bool
  whole_pure x later = (expr_effects c (map-Expr Expr PlaceOf Meaning Designation (meaning c) (designation c) x)).pure later

  -- ---- a register

  abbrev own_spot : ℕ → Spot
  own_spot r = spot.Object (root.Auto c.number c.id r) []

  fetch_gives : (y : Abs I) (r : ℕ) → is_register c.func r ≡ true → register r ≡ Some y → (how : Manner) (u : Option PlaceType) → Gives y (needs (of_two u (Some (own_spot r)) (cell_at c.program)) (λ cell. ask (action.Read cell how) given))
  fetch_gives y r reg h how None = works_trap IsMark IsStep (Among y)
  fetch_gives y r reg h how (Some u) = works_ask IsMark IsStep (Among y) (action.Read (own_cell c r) how) given (reads r how reg) (λ mark k. gives r how y mark reg h k)

  only_if : (b : Bool) (q r : ℕ) → (if b then Some q else None) ≡ Some r → (b ≡ true) × (q ≡ r)
  only_if true q r e = (refl, same_Some q r e)
  only_if false q r e = absurd (cc)

  -- a register is a local that is one
  register_by : (a : PlaceOf) (r : ℕ) (x : one.Place-F Expr PlaceOf) → out-Place a ≡ x → (designation c a).effects.register ≡ Some r → (out-Place a ≡ one.Local r) × (is_register c.func r ≡ true)
  register_by a r (one.Local q) h e =
      let k = only_if (is_register c.func q) q r (ap (λ (z : Designation). z.effects.register) (sym (designation_at a (one.Local q) h)) ∙ e) in
      (h ∙ ap (λ (z : ℕ). one.Local z) k.1, ap (is_register c.func) (sym k.1) ∙ k.0)
  register_by a r (one.Static i) h e = absurd (let k = ap (λ (z : Designation). z.effects.register) (sym (designation_at a (one.Static i) h)) ∙ e in cc)
  register_by a r (one.Device i) h e = absurd (let k = ap (λ (z : Designation). z.effects.register) (sym (designation_at a (one.Device i) h)) ∙ e in cc)
  register_by a r (one.Element b i) h e = absurd (let k = ap (λ (z : Designation). z.effects.register) (sym (designation_at a (one.Element b i) h)) ∙ e in cc)
  register_by a r (one.Member b m) h e = absurd (let k = ap (λ (z : Designation). z.effects.register) (sym (designation_at a (one.Member b m) h)) ∙ e in cc)
  register_by a r (one.Deref b) h e = absurd (let k = ap (λ (z : Designation). z.effects.register) (sym (designation_at a (one.Deref b) h)) ∙ e in cc)

  load_gives : (a : PlaceOf) (y : Abs I) (r : ℕ) → (place_effects_of c.func a).register ≡ Some r → register r ≡ Some y → (later : Registers) → Gives y (bind ((designation c a).leads later) (fetched c (designation c a) later))
  load_gives a y r p h later =
      let k = register_by a r (out-Place a) refl (ap (λ (z : PlaceEffects). z.register) (place_effects_linked c a) ∙ p) in
      subst (λ (z : Designation). Gives y (bind (z.leads later) (fetched c z later))) (sym (designation_at a (one.Local r) k.0))
      (fetch_gives y r k.1 h (manner (place_opened c (one.Local r)) later) (place_opened c (one.Local r)).ctype)

  as_given : (y z : Abs I) (g : Get (Option Value)) → y ≡ z → Gives z g → Gives y g
  as_given y z g h k = subst (λ (w : Abs I). Gives w g) (sym h) k

  -- ---- places in expressions

  address_gives_at : (a : Designation) (s : Addrs) (later : Registers) → Leads s (a.leads later) → Gives (abs.Addrs s) (bind (a.leads later) (λ s. known (address_of s)))
  address_gives_at a s later h =
      works_bind IsMark IsStep (LeadsInto s) (Among (abs.Addrs s)) (a.leads later) (λ s. known (address_of s)) h (λ v m. works_known IsMark IsStep (Among (abs.Addrs s)) (address_of v) (address_gives d.has s v m))

  target_leads_at : (a : Meaning) (s : Addrs) (later : Registers) → Gives (abs.Addrs s) (a.next later) → Leads s (from_one (λ v. option_map spot.Address (address_in v)) a later)
  target_leads_at a s later h =
      works_bind IsMark IsStep (Among (abs.Addrs s)) (LeadsInto s) (a.next later) (λ v. known (option_map spot.Address (address_in v))) h
      (λ v m. works_known IsMark IsStep (LeadsInto s) (option_map spot.Address (address_in v)) (pointer_leads d.has s v m))

  -- where a place leads, and that it is fit
  abbrev Reaches : PlaceOf → Addrs → Option Spot → Type 0
  Reaches a s there = LeadsInto s there × MayFit c.program (designation c a).ctype there

  reaches : (a : PlaceOf) (s : Addrs) (later : Registers) → PlaceTaken a → Leads s ((designation c a).leads later) → Works IsMark IsStep (Reaches a s) ((designation c a).leads later)
  reaches a s later t h = both_work IsMark IsStep (LeadsInto s) (MayFit c.program (designation c a).ctype) ((designation c a).leads later) h (fits a t later)

  member_leads_at : (a : PlaceOf) (m : ℕ) (t : PlaceType) (s r : Addrs) (later : Registers) → place_type c.program c.func.locals a ≡ Some t → AreMembers c.program t m s r → Works IsMark IsStep (Reaches a s) ((designation c a).leads later) →
      Leads r (bind ((designation c a).leads later) (λ there. known (of_two (designation c a).ctype there (member c.program m))))
  member_leads_at a m t s r later e g h =
      works_bind IsMark IsStep (Reaches a s) (LeadsInto r) ((designation c a).leads later) (λ there. known (of_two (designation c a).ctype there (member c.program m))) h
      (λ there k. works_known IsMark IsStep (LeadsInto r) (of_two (designation c a).ctype there (member c.program m))
      (member_leads c.program m t (designation c a).ctype s r there (place_type_linked c a ∙ e) g k.1 k.0))

  element_leads_at : (a : PlaceOf) (i : Expr) (t : PlaceType) (s r : Addrs) (x : I) (later : Registers) → place_type c.program c.func.locals a ≡ Some t → AreElements c.program t (d.has x) s r →
      ((l : Registers) → Works IsMark IsStep (Reaches a s) ((designation c a).leads l)) → ((l : Registers) → Gives (abs.Ints x) ((meaning c i).next l)) →
      Leads r (bind (place_and_value (designation c a) (meaning c i) later) (λ p. known (element_at c (designation c a).ctype p.0 p.1)))
  element_leads_at a i t s r x later e g h k =
      works_bind IsMark IsStep Both (LeadsInto r) (place_and_value (designation c a) (meaning c i) later) (λ p. known (element_at c (designation c a).ctype p.0 p.1))
      (works_bind IsMark IsStep (Reaches a s) Both ((designation c a).leads (also (meaning c i).effects.assigned later)) (λ there. bind ((meaning c i).next later) (λ v. known (there, v))) (h (also (meaning c i).effects.assigned later))
      (λ there m. works_bind IsMark IsStep (Among (abs.Ints x)) Both ((meaning c i).next later) (λ v. known (there, v)) (k later) (λ v n. works_known IsMark IsStep Both (there, v) (m, n))))
      (λ p m. works_known IsMark IsStep (LeadsInto r) (element_at c (designation c a).ctype p.0 p.1)
      (element_leads d.has c x t (designation c a).ctype s r p.0 p.1 (place_type_linked c a ∙ e) g m.0.1 m.0.0 m.1))
    where
      Both : Option Spot × Option Value → Type 0
      Both p = Reaches a s p.0 × Among (abs.Ints x) p.1

  mutual
    pub value_gives : (e : Expr) (y : Abs I) → Valued e y → Taken e → (later : Registers) → Gives y ((meaning c e).next later)
    value_gives e y (OfConst n t x o h q) taken later = next_at e (one.Const n t) o (Gives y) later (works_known IsMark IsStep (Among y) (Some (Int n)) (subst (λ (z : Abs I). Among z (Some (Int n))) (sym q) (h.has_all n refl)))
    value_gives e y (OfNull t s o h q) taken later =
        next_at e (one.Null t) o (Gives y) later (works_known IsMark IsStep (Among y) (Some (Place address.Null)) (subst (λ (z : Abs I). Among z (Some (Place address.Null))) (sym q) (only_has s address.Null address.Null h refl)))
    value_gives e y (OfFunction g s o h q) taken later =
        next_at e (one.FuncAddr g) o (Gives y) later
        (works_known IsMark IsStep (Among y) (Some (Place (address.Func g))) (subst (λ (z : Abs I). Among z (Some (Place (address.Func g)))) (sym q) (only_has s (address.Func g) (address.Func g) h refl)))
    value_gives e y (OfRegister a r o p h) taken later = next_at e (one.Load a) o (Gives y) later (load_gives a y r p h later)
    value_gives e y (OfAddress a s o h q) taken later =
        next_at e (one.AddrOf a) o (Gives y) later (as_given y (abs.Addrs s) _ q (address_gives_at (designation c a) s later (place_leads a s h (parts_at e (one.AddrOf a) o taken) later)))
    value_gives e y (OfUn p t a x z o h f g q) taken later =
        next_at e (one.Un p t a) o (Gives y) later
        (as_given y (abs.Ints z) _ q
        (one_fits d IsMark IsStep (abs.Ints x) (abs.Ints z) (unary p t c.program.target) (meaning c a) later (value_gives a (abs.Ints x) h (parts_at e (one.Un p t a) o taken) later) (unary_gives d all p t c.program.target x z f g)))
    value_gives e y (OfBin p t a b x w z o h k f g q) taken later =
        let u = parts_at e (one.Bin p t a b) o taken in
        next_at e (one.Bin p t a b) o (Gives y) later
        (as_given y (abs.Ints z) _ q
        (two_fits d IsMark IsStep (abs.Ints x) (abs.Ints w) (abs.Ints z) (binary p t c.program.target) (meaning c a) (meaning c b) later (λ l. value_gives a (abs.Ints x) h u.0 l) (λ l. value_gives b (abs.Ints w) k u.1 l)
        (binary_gives d all p t c.program.target x w z f g)))
    value_gives e y (OfConv t a x z o h g q) taken later =
        next_at e (one.Conv t a) o (Gives y) later
        (as_given y (abs.Ints z) _ q
        (one_fits d IsMark IsStep (abs.Ints x) (abs.Ints z) (conversion t c.program.target) (meaning c a) later (value_gives a (abs.Ints x) h (parts_at e (one.Conv t a) o taken) later) (conversion_gives d all t c.program.target x z g)))
    value_gives e y (OfQualify t a o h) taken later =
        next_at e (one.Qualify t a) o (Gives y) later (one_fits d IsMark IsStep y y (λ v. v) (meaning c a) later (value_gives a y h (parts_at e (one.Qualify t a) o taken) later) (λ v m. m))
    value_gives e y (OfMove a b back s r x o h k g q) taken later =
        let u = parts_at e (one.Move a b back) o taken in
        next_at e (one.Move a b back) o (Gives y) later
        (as_given y (abs.Addrs r) _ q
        (two_fits d IsMark IsStep (abs.Addrs s) (abs.Ints x) (abs.Addrs r) (movement back) (meaning c a) (meaning c b) later (λ l. value_gives a (abs.Addrs s) h u.0 l) (λ l. value_gives b (abs.Ints x) k u.1 l) (movement_gives d back s r x g)))
    value_gives e y (OfGap a b s t x o h k g q) taken later =
        let u = parts_at e (one.Gap a b) o taken in
        next_at e (one.Gap a b) o (Gives y) later
        (as_given y (abs.Ints x) _ q
        (two_fits d IsMark IsStep (abs.Addrs s) (abs.Addrs t) (abs.Ints x) (gap c.program.target) (meaning c a) (meaning c b) later (λ l. value_gives a (abs.Addrs s) h u.0 l) (λ l. value_gives b (abs.Addrs t) k u.1 l)
        (gap_gives d c.program.target s t x g)))
    value_gives e y (OfCompare p a b s t x o h k g q) taken later =
        let u = parts_at e (one.Compare p a b) o taken in
        next_at e (one.Compare p a b) o (Gives y) later
        (as_given y (abs.Ints x) _ q
        (two_fits d IsMark IsStep (abs.Addrs s) (abs.Addrs t) (abs.Ints x) (comparison p) (meaning c a) (meaning c b) later (λ l. value_gives a (abs.Addrs s) h u.0 l) (λ l. value_gives b (abs.Addrs t) k u.1 l)
        (comparison_gives d p s t x g)))
    value_gives e y (OfBoth a b x w z o h k g q) taken later =
        let u = parts_at e (one.Both a b) o taken in
        next_at e (one.Both a b) o (Gives y) later
        (as_given y (abs.Ints z) _ q
        (both_fits d IsMark IsStep chooses choice_is x w z (whole_pure (one.Both a b) later) ((meaning c a).next (also (meaning c b).effects.assigned later)) (meaning c b) later g
        (value_gives a x h u.0 (also (meaning c b).effects.assigned later)) (value_gives b w k u.1 later)))
    value_gives e y (OfEither a b x w z o h k g q) taken later =
        let u = parts_at e (one.Either a b) o taken in
        next_at e (one.Either a b) o (Gives y) later
        (as_given y (abs.Ints z) _ q
        (either_fits d IsMark IsStep chooses choice_is x w z (whole_pure (one.Either a b) later) ((meaning c a).next (also (meaning c b).effects.assigned later)) (meaning c b) later g
        (value_gives a x h u.0 (also (meaning c b).effects.assigned later)) (value_gives b w k u.1 later)))
    value_gives e y (OfChoose q a b x v w o h k m g) taken later =
        let u = parts_at e (one.Choose q a b) o taken in
        next_at e (one.Choose q a b) o (Gives y) later
        (chosen_fits d IsMark IsStep chooses choice_is all x v w y (whole_pure (one.Choose q a b) later) ((meaning c q).next (also (meaning c a).effects.assigned (also (meaning c b).effects.assigned later)))
        ((meaning c a).next (also (meaning c b).effects.assigned later)) ((meaning c b).next later) g (value_gives q x h u.0 (also (meaning c a).effects.assigned (also (meaning c b).effects.assigned later)))
        (value_gives a v k u.1 (also (meaning c b).effects.assigned later)) (value_gives b w m u.2 later))

    pub place_leads : (a : PlaceOf) (s : Addrs) → Placed a s → PlaceTaken a → (later : Registers) → Leads s ((designation c a).leads later)
    place_leads a s (AtLocal r o h) taken later = leads_at a (one.Local r) o (Leads s) later (works_known IsMark IsStep (LeadsInto s) (Some (own_spot r)) (local_leads s c.number c.id r h))
    place_leads a s (AtStatic i o h) taken later = leads_at a (one.Static i) o (Leads s) later (works_known IsMark IsStep (LeadsInto s) (Some (spot.Object (root.Static i) [])) (static_leads s i h))
    place_leads a s (AtDevice n o h) taken later = leads_at a (one.Device n) o (Leads s) later (works_known IsMark IsStep (LeadsInto s) (Some (spot.Device n)) (device_leads s n))
    place_leads a s (AtElement b i t r x o e h k g) taken later =
        let u = place_parts_at a (one.Element b i) o taken in
        leads_at a (one.Element b i) o (Leads s) later (element_leads_at b i t r s x later e g (λ l. reaches b r l u.0 (place_leads b r h u.0 l)) (λ l. value_gives i (abs.Ints x) k u.1 l))
    place_leads a s (AtMember b m t r o e h g) taken later =
        let u = place_parts_at a (one.Member b m) o taken in
        leads_at a (one.Member b m) o (Leads s) later (member_leads_at b m t r s later e g (reaches b r later u (place_leads b r h u later)))
    place_leads a s (AtTarget e o h) taken later =
        leads_at a (one.Deref e) o (Leads s) later (target_leads_at (meaning c e) s later (value_gives e (abs.Addrs s) h (place_parts_at a (one.Deref e) o taken) later))

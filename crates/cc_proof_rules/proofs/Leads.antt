-- Where a place that is no register leads, at the point of the statement that accesses it.
use Rattle.std.proofs.Common.{◌≡◌, ◌<◌, ◌^◌, ℕ, ℤ, Bool, true, false, List, [], ◌∷◌, ◌++◌, Option, Some, None, refl, ap, sym, ◌∙◌, subst, slice_get}
use Rattle.std.specs.Prelude.{option_map, option_and_then, if◌then◌else◌}
use Rattle.cc_state_values_sound.proofs.CcEval.Links.{place_type_linked, register_linked, place_effects_linked}
use Rattle.cc_state_values_sound.proofs.CcEval.Opened.{designation_at}
use Rattle.cc_state_values_sound.proofs.CcEval.Works.{same_known, gives_made}
use Rattle.cc_state_values_sound.specs.CcEval.declared.action.Action.{Action}
use Rattle.cc_state_values_sound.specs.CcEval.Context.{Context, designated, element_in, element, member}
use Rattle.cc_state_values_sound.specs.CcEval.declared.mark.Mark.{Mark}
use Rattle.cc_state_values_sound.specs.CcEval.declared.spots.Spot.{Spot}
use Rattle.cc_state_values_sound.specs.CcEval.declared.spots.Spot.TheVariants as spot
use Rattle.cc_state_values_sound.specs.CcEval.Eval.{Designation, meaning, designation, place_opened, place_and_value, element_at}
use Rattle.cc_state_values_sound.specs.CcEval.Marks.{AnswerSteps, Works}
use Rattle.cc_state_values_sound.specs.CcEval.Progress.{Get, Known}
use Rattle.cc_rules.specs.CcFlow.declared.types.Point.{Point}
use Rattle.cc_rules.specs.CcFlow.Points.{count_of, flow_of}
use Rattle.cc_program.specs.declared.expr.Expr.{Expr}
use Rattle.cc_program.specs.declared.expr.Expr.TheOpen as one
use Rattle.cc_program.specs.declared.expr.Place.{Place, out-Place}
use Rattle.cc_program.specs.declared.func.Func.{Func}
use Rattle.cc_program.specs.declared.program.Program.{Program}
use Rattle.cc_program.specs.declared.value.Address.{Address}
use Rattle.cc_program.specs.declared.value.Part.{Part}
use Rattle.cc_program.specs.declared.value.Part.TheVariants as part
use Rattle.cc_program.specs.declared.value.Root.{Root}
use Rattle.cc_program.specs.declared.value.Root.TheVariants as root
use Rattle.cc_proof_covers.proofs.Pure.{place_quiet}
use Rattle.cc_proof_covers.specs.Invariant.{IsCurrent}
use Rattle.cc_proof_covers.specs.Operands.{IsOperandStep}
use Rattle.cc_proof_covers.specs.Rules.{IsHere}
use Rattle.cc_proof_covers.specs.Views.{View}
use Rattle.cc_proof_rules.proofs.Classes.{class_works}
use Rattle.cc_proof_rules.proofs.Marks.{IsQuiet, opened, typed_answers}
use Rattle.cc_proof_rules.proofs.Operands.{own_point}
use Rattle.cc_proof_rules.specs.Operands.{spot_static, IsLed, LeadsAt}
use Rattle.cc_rules.specs.CcRulesFlows.Nexts.{IsPoint}
use Rattle.cc_state.specs.View.{IsFunctionAt, view}
use Rattle.cc_rules.specs.CcStateFacts.declared.facts.Facts.{Facts}
use Rattle.cc_rules.specs.CcStateFacts.declared.facts.Key.{Key}
use Rattle.cc_rules.specs.CcStateKeys.Tracked.{tracked_number}
use Rattle.cc_state_values_sound.specs.CcStateOperators.Domains.{Domain}
use Rattle.cc_rules.specs.CcStateReads.Named.{AreClasses}
use Rattle.cc_rules.specs.CcStateReads.Reads.{registers_at}
use Rattle.cc_state_values_sound.proofs.Choices.{GivesAll}
use Rattle.cc_state_values_sound.specs.Typed.{IsTypedAnswer}
use Rattle.cc_state_values_sound.proofs.CcStates.EvalTypes.{designation_typed, place_in_memory}
use Rattle.cc_state_values_sound.specs.CcStates.Answers.{PlaceTakesAddressesOf}
use Rattle.cc_state_values_sound.specs.CcStates.States.{context_in}
use Rattle.cc_state_values_sound.specs.CcStates.Typed.{is_register_in, IsInMemory, MayLead}
use Rattle.cc_state_values_sound.specs.CcSteps.State.{Active, Memory}
use Rattle.cc_state_values_sound.specs.CcSyntax.Effects.{Registers, no_one, PlaceEffects, place_effects_of}
use Rattle.cc_state_values_sound.specs.CcSyntax.Expressions.{of_two}
use Rattle.cc_state_values_sound.specs.CcSyntax.Initial.{bound_of}
use Rattle.cc_state_values_sound.specs.CcSyntax.Normal.{IsNormal}
use Rattle.cc_state_values_sound.specs.CcSyntax.Programs.{place_type}
use Rattle.cc_state_values_sound.specs.CcSyntax.Registers.{is_register}
use Rattle.cc_state_values_sound.specs.CcSyntax.Values.{PlaceType}
use Rattle.cc_state_values_sound.specs.CcValues.Values.{integer, address_in, element_at as address_of_element}

-- ---- what leads to a device

abbrev NotDevice : ℕ → Option Spot → Type 0
NotDevice k s = s ≡ Some (spot.Device k) → ⊥

no_address : (k : ℕ) (x : Option Address) → NotDevice k (option_map spot.Address x)
no_address k None e = absurd (cc)
no_address k (Some a) e = absurd (cc)

no_element_in : (k : ℕ) (bound : Option ℕ) (n : ℤ) (x : Option (Root × List Part)) → NotDevice k (option_and_then (element_in bound n) x)
no_element_in k bound n None e = absurd (cc)
no_element_in k None n (Some o) e = absurd (cc)
no_element_in k (Some count) n (Some o) e = no_address k (address_of_element o.0 o.1 n count) e

no_element : (c : Context) (k : ℕ) (t : Option PlaceType) (s : Option Spot) (v : Option _) → NotDevice k (element_at c t s v)
no_element c k None s v e = absurd (cc)
no_element c k (Some t) None v e = absurd (cc)
no_element c k (Some t) (Some s) v e = by (integer v) e
  where
    by : (n : Option ℤ) → NotDevice k (option_and_then (λ n. element c.program n t s) n)
    by None e = absurd (cc)
    by (Some n) e = no_element_in k (bound_of t) n (designated c.program t s) e

no_member_by : (k m : ℕ) (x : Option (Root × List Part)) → NotDevice k (option_map (λ o. spot.Object o.0 (o.1 ++ part.Member m ∷ [])) x)
no_member_by k m None e = absurd (cc)
no_member_by k m (Some o) e = absurd (cc)

no_member : (p : Program) (k m : ℕ) (t : Option PlaceType) (s : Option Spot) → NotDevice k (of_two t s (member p m))
no_member p k m None s e = absurd (cc)
no_member p k m (Some t) None e = absurd (cc)
no_member p k m (Some t) (Some s) e = no_member_by k m (designated p t s) e

object_no_device : (object : Root) (path : List Part) (k : ℕ) → Some (spot.Object object path) ≡ Some (spot.Device k) → ⊥
object_no_device object path k e = cc

one_device : (j k : ℕ) → Some (spot.Device j) ≡ Some (spot.Device k) → j ≡ k
one_device j k e = cc

one_object : (object other : Root) → Some (spot.Object object []) ≡ Some (spot.Object other []) → object ≡ other
one_object object other e = cc

module _ {I : Type 0} (d : Domain I) (all : GivesAll d) (p : Program) (normal : IsNormal p) (few : count_of p < 2 ^ 32) (facts : Facts I) (n : ℕ) (q : Point) (f : Func) (numbered : slice_get (flow_of p).points n ≡ Some q)
    (function : slice_get p.funcs q.func ≡ Some f) (m : Memory) (a : Active) (own : a.func ≡ q.func) (here : IsHere p (view d p facts) m a f n) where
  abbrev v : View
  v = view d p facts

  abbrev its_point : IsFunctionAt d p facts n f
  its_point = (q, numbered, function)

  abbrev c : Context
  c = context_in p a f

  abbrev IsNow : Action → Mark → Type 0
  IsNow = IsCurrent p v m a f n

  module _ (b : Place) (pure : (place_effects_of f b).pure no_one ≡ true) (register : (place_effects_of f b).register ≡ None) (taken : PlaceTakesAddressesOf f b) (later : Registers) where
    abbrev leads : Get (Option Spot)
    leads = (designation c b).leads later

    pub place_is_quiet : IsQuiet d all p facts n f its_point m a here (Option Spot) leads
    place_is_quiet = place_quiet c IsNow b no_one (ap (λ (e : PlaceEffects). e.pure no_one) (place_effects_linked c b) ∙ pure) later

    module _ (ms rest : List Mark) (there : Option Spot) (answers : AnswerSteps IsNow leads ms) (known : leads ms ≡ Known there rest) where
      pub typed_marks : AnswerSteps (IsTypedAnswer d.has c here.openings (registers_at facts f n)) leads ms
      typed_marks = typed_answers d all p facts n f its_point m a here leads place_is_quiet ms answers

      -- by its form
      leads_is : (x : one.Place-F Expr Place) → out-Place b ≡ x → (place_opened c x).leads later ms ≡ Known there rest
      leads_is x e = ap (λ (z : Designation). z.leads later ms) (sym (designation_at c b x e)) ∙ known

      led_to : (s : Option Spot) (x : one.Place-F Expr Place) → out-Place b ≡ x → (place_opened c x).leads later ms ≡ Known s ms → there ≡ s
      led_to s x e h = sym (same_known s there ms rest (sym h ∙ leads_is x e))

      its_type : (u : PlaceType) → place_type p f.locals b ≡ Some u → MayLead p here.openings u there
      its_type u e =
          ((designation_typed c here.openings (opened d all p facts n f its_point m a here) b taken u (place_type_linked c b ∙ e) later).known ms rest there
          (λ front back mark action split w. (typed_marks front back mark action split w).typed) known).1.0

      its_device : (k : ℕ) → there ≡ Some (spot.Device k) → (x : one.Place-F Expr Place) → out-Place b ≡ x → out-Place b ≡ one.Device k
      its_device k h (one.Local r) e = absurd (object_no_device (root.Auto c.number c.id r) [] k (sym (led_to (Some (spot.Object (root.Auto c.number c.id r) [])) (one.Local r) e refl) ∙ h))
      its_device k h (one.Static i) e = absurd (object_no_device (root.Static i) [] k (sym (led_to (Some (spot.Object (root.Static i) [])) (one.Static i) e refl) ∙ h))
      its_device k h (one.Device j) e = e ∙ ap (λ (z : ℕ). one.Device z) (one_device j k (sym (led_to (Some (spot.Device j)) (one.Device j) e refl) ∙ h))
      its_device k h (one.Element x i) e =
          absurd (gives_made (NotDevice k) (place_and_value (designation c x) (meaning c i) later) (λ w. element_at c (designation c x).ctype w.0 w.1) (λ w. no_element c k (designation c x).ctype w.0 w.1) ms rest there (leads_is (one.Element x i) e) h)
      its_device k h (one.Member x j) e =
          absurd (gives_made (NotDevice k) ((designation c x).leads later) (λ s. of_two (designation c x).ctype s (member p j)) (λ s. no_member p k j (designation c x).ctype s) ms rest there (leads_is (one.Member x j) e) h)
      its_device k h (one.Deref x) e =
          absurd (gives_made (NotDevice k) ((meaning c x).next later) (λ w. option_map spot.Address (address_in w)) (λ w. no_address k (address_in w)) ms rest there (leads_is (one.Deref x) e) h)

      no_register : (r : ℕ) → out-Place b ≡ one.Local r → is_register f r ≡ false
      no_register r e = by (is_register f r) refl (ap (λ (z : Designation). z.effects.register) (sym (designation_at c b (one.Local r) e)) ∙ register_linked c b ∙ register)
        where
          by : (t : Bool) → is_register f r ≡ t → (if t then Some r else None) ≡ None → is_register f r ≡ false
          by true k h = absurd (cc)
          by false k h = k

      not_local : (x : one.Place-F Expr Place) → out-Place b ≡ x → ((r : ℕ) → x ≡ one.Local r → ⊥) → (object : Root) → there ≡ Some (spot.Object object []) → IsInMemory p object
      not_local x e other object h = place_in_memory c here.openings (opened d all p facts n f its_point m a here) b (λ r k. absurd (other r (sym e ∙ k))) later ms rest there known object h

      its_memory : (object : Root) → there ≡ Some (spot.Object object []) → (x : one.Place-F Expr Place) → out-Place b ≡ x → IsInMemory p object
      its_memory object h (one.Local r) e =
          let is : root.Auto c.number c.id r ≡ object = one_object (root.Auto c.number c.id r) object (sym (led_to (Some (spot.Object (root.Auto c.number c.id r) [])) (one.Local r) e refl) ∙ h) in
          subst (IsInMemory p) is (ap (λ (g : Option Func). is_register_in g r) here.function ∙ no_register r e)
      its_memory object h (one.Static i) e = not_local (one.Static i) e (λ r k. cc) object h
      its_memory object h (one.Device j) e = not_local (one.Device j) e (λ r k. cc) object h
      its_memory object h (one.Element x i) e = not_local (one.Element x i) e (λ r k. cc) object h
      its_memory object h (one.Member x j) e = not_local (one.Member x j) e (λ r k. cc) object h
      its_memory object h (one.Deref x) e = not_local (one.Deref x) e (λ r k. cc) object h

      module _ (apart : (u : PlaceType) → place_type p f.locals b ≡ Some u → (i number : ℕ) → spot_static there ≡ Some i → tracked_number p i ≡ Some number → out-Place b ≡ one.Static i) where
        own_classes : (id : ℕ) (g : Func) (point : Point) → IsPoint p n id g point → (classes : List Key) → AreClasses d p id g (registers_at facts g n) b classes → AreClasses d p a.func f (registers_at facts f n) b classes
        own_classes id g point is classes h =
            let w = own_point d all p normal few facts n q f numbered function m a own here id g point is in
            subst (λ (k : Func). AreClasses d p a.func k (registers_at facts k n) b classes) w.1 (subst (λ (i : ℕ). AreClasses d p i g (registers_at facts g n) b classes) w.0 h)

        led_here : (id : ℕ) (g : Func) (point : Point) → IsPoint p n id g point → g ≡ f → IsLed d p facts n id g b there
        led_here id g point is same = record {
          openings = here.openings;
          typed = λ u e. its_type u (ap (λ (k : Func). place_type p k.locals b) (sym same) ∙ e);
          in_memory = λ object e. its_memory object e (out-Place b) refl;
          named = λ i e. led_to (Some (spot.Object (root.Static i) [])) (one.Static i) e refl;
          named_device = λ k e. led_to (Some (spot.Device k)) (one.Device k) e refl;
          device = λ k e. its_device k e (out-Place b) refl;
          tracked = λ u e. apart u (ap (λ (k : Func). place_type p k.locals b) (sym same) ∙ e);
          classes = λ u e classes h.
              ((class_works d all c here.openings (opened d all p facts n f its_point m a here) (registers_at facts f n) b u (place_type_linked c b ∙ ap (λ (k : Func). place_type p k.locals b) (sym same) ∙ e) taken classes (own_classes id g point is classes h) later).known
              ms rest there typed_marks known).1;
        }

        pub is_led : LeadsAt d p facts n b there
        is_led id g point is = led_here id g point is (own_point d all p normal few facts n q f numbered function m a own here id g point is).1

    -- what keeps tracked objects apart
    abbrev pub AreApart : Type 0
    AreApart = (ms rest : List Mark) (there : Option Spot) → AnswerSteps IsNow leads ms → leads ms ≡ Known there rest → (u : PlaceType) → place_type p f.locals b ≡ Some u → (i number : ℕ) → spot_static there ≡ Some i → tracked_number p i ≡ Some number → out-Place b ≡ one.Static i

    pub place_works : AreApart → Works IsNow (IsOperandStep c) (LeadsAt d p facts n b) leads
    place_works apart = record {
      known = λ ms rest there answers k. ((place_is_quiet.known ms rest there answers k).0, is_led ms rest there answers k (apart ms rest there answers k));
      waits = place_is_quiet.waits;
    }

-- What constraints ask, by what the statement at the point does.
use Rattle.std.proofs.Common.{◌≡◌, ℕ, Bool, true, false, not, ◌||◌, List, [], ◌∷◌, map, Option, Some, None, refl, sym, subst}
use Rattle.std.specs.Prelude.{if◌then◌else◌}
use Rattle.cc_rules.specs.CcFlow.declared.types.Point.{Point}
use Rattle.cc_state_values_sound.specs.CcPlaces.declared.abs.Abs.{Abs}
use Rattle.cc_state_values_sound.specs.CcPlaces.declared.abs.Abs.TheVariants as abs
use Rattle.cc_program.specs.declared.expr.Expr.{Expr}
use Rattle.cc_program.specs.declared.expr.Place.{Place, out-Place}
use Rattle.cc_program.specs.declared.func.Func.{Func}
use Rattle.cc_program.specs.declared.program.Program.{Program}
use Rattle.cc_rules.specs.Rules.{AreKeys, reads, writes, Written, OfWrite, OfNone, Touched, ByRead, ByWrite, ByNone, Given, OfReturn, OfNoValue}
use Rattle.cc_rules.specs.CcRulesFlows.Acts.{Act, Sets, Reads, Writes, Calls, Saves, Turns, Restores, Tests, Chooses, Returns, Passes}
use Rattle.cc_rules.specs.CcRulesFlows.Flows.{tests_of, here, sets, ValueAt, to_all, FlagValue, Says, Flows, OfSets, OfReads, OfWrites, OfTurns, OfSaves, OfSavesAlone, OfRestores, OfTests, OfReturns, OfPasses, OfCalls}
use Rattle.cc_rules.specs.CcRulesFlows.Tests.{Test}
use Rattle.cc_rules.specs.CcRulesNeeds.Flowing.{Flowing, with_local, with_pair, with_cell, with_flags}
use Rattle.cc_rules.specs.CcRulesNeeds.Needs.{Needs}
use Rattle.cc_rules.specs.CcRulesNeeds.declared.needs.Part.TheVariants.{Values}
use Rattle.cc_rules.specs.CcRulesNeeds.declared.needs.Slot.TheVariants.{Whole, Result}
use Rattle.cc_rules.specs.CcStateFacts.declared.facts.Facts.{Facts}
use Rattle.cc_rules.specs.CcStateFacts.declared.facts.PointFact.{PointFact}
use Rattle.cc_rules.specs.CcStateFacts.Facts.{mark_of}
use Rattle.cc_rules.specs.CcStateKeys.Tracked.{register_number}
use Rattle.cc_state_values_sound.specs.CcStateOperators.Domains.{Domain, IsHull, MayBe}
use Rattle.cc_rules.specs.CcStateReads.Reads.{IsRead, tracked_in}

module _ {I : Type 0} (d : Domain I) (p : Program) (id : ℕ) (f : Func) (facts : Facts I) (point : Point) (n : ℕ) (fact : PointFact I) where
  abbrev its_here : Flowing I
  its_here = here d p id f facts point n fact

  abbrev everywhere : Flowing I → List (ℕ × Flowing I)
  everywhere flow = to_all d p id f facts point n fact flow

  abbrev Value-of : Expr → Abs I → Type 0
  Value-of e y = ValueAt d p id f facts point n fact e y

  -- ---- what flows

  abbrev pub SavesFlow : Option ℕ → List (ℕ × Flowing I) → Type 0
  SavesFlow None flows = flows ≡ everywhere (with_flags true false its_here)
  SavesFlow (Some r) flows = (number : ℕ) × (x : I) × (register_number f r ≡ Some number) × IsHull d (FlagValue d p id f facts point n fact) x × (flows ≡ everywhere (with_flags true false (with_local number (abs.Ints x) its_here)))

  abbrev pub FlowOf : Act → List (ℕ × Flowing I) → Type 0
  FlowOf (Sets r e) flows = (number : ℕ) × (y : Abs I) × (register_number f r ≡ Some number) × Value-of e y × (flows ≡ everywhere (with_local number y its_here))
  FlowOf (Reads r a) flows =
      (number : ℕ) × (y : Abs I) × (register_number f r ≡ Some number) × IsRead d p id f (sets d p id f facts point n fact) facts n a y × (flows ≡ everywhere (with_pair number (tracked_in p (out-Place a)) (with_local number y its_here)))
  FlowOf (Writes a e) flows = (y : Abs I) × Value-of e y × (flows ≡ everywhere (with_cell (tracked_in p (out-Place a)) y its_here))
  FlowOf (Calls result g args) flows = flows ≡ []
  FlowOf (Saves result) flows = SavesFlow result flows
  FlowOf (Turns on) flows = flows ≡ everywhere (with_flags (not on) on its_here)
  FlowOf (Restores e) flows =
      (y : Abs I) × (off : Bool) × (on : Bool) × Value-of e y × Says d p id f facts point n fact off (MayBe d false y) × Says d p id f facts point n fact on (MayBe d true y) ×
      (flows ≡ (if off || on then everywhere (with_flags off on its_here) else []))
  FlowOf (Tests e these those) flows = Unit {0}
  FlowOf (Chooses e cases) flows = Unit {0}
  FlowOf (Returns e) flows = flows ≡ everywhere its_here
  FlowOf Passes flows = flows ≡ everywhere its_here

  of_test : (act : Act) (flows : List (ℕ × Flowing I)) (e : Expr) (tests : List (Test × ℕ)) → tests_of n point.next act ≡ Some (e, tests) → FlowOf act flows
  of_test (Tests e these those) flows e' tests h = tt
  of_test (Chooses e cases) flows e' tests h = tt
  of_test (Sets r e) flows e' tests h = absurd (cc)
  of_test (Reads r a) flows e' tests h = absurd (cc)
  of_test (Writes a e) flows e' tests h = absurd (cc)
  of_test (Calls result g args) flows e' tests h = absurd (cc)
  of_test (Saves result) flows e' tests h = absurd (cc)
  of_test (Turns on) flows e' tests h = absurd (cc)
  of_test (Restores e) flows e' tests h = absurd (cc)
  of_test (Returns e) flows e' tests h = absurd (cc)
  of_test Passes flows e' tests h = absurd (cc)

  pub flow_of_act : (act : Act) (flows : List (ℕ × Flowing I)) → Flows d p id f facts point n fact act flows → FlowOf act flows
  flow_of_act act flows (OfSets r number e y h reg val is) = subst (λ (z : Act). FlowOf z flows) (sym h) (number, y, reg, val, is)
  flow_of_act act flows (OfReads r number a y h reg val is) = subst (λ (z : Act). FlowOf z flows) (sym h) (number, y, reg, val, is)
  flow_of_act act flows (OfWrites a e y h val is) = subst (λ (z : Act). FlowOf z flows) (sym h) (y, val, is)
  flow_of_act act flows (OfTurns on h is) = subst (λ (z : Act). FlowOf z flows) (sym h) is
  flow_of_act act flows (OfSaves r number x h reg hull is) = subst (λ (z : Act). FlowOf z flows) (sym h) (number, x, reg, hull, is)
  flow_of_act act flows (OfSavesAlone h is) = subst (λ (z : Act). FlowOf z flows) (sym h) is
  flow_of_act act flows (OfRestores e y off on h val l k is) = subst (λ (z : Act). FlowOf z flows) (sym h) (y, off, on, val, l, k, is)
  flow_of_act act flows (OfTests e tests h sides) = of_test act flows e tests h
  flow_of_act act flows (OfReturns e h is) = subst (λ (z : Act). FlowOf z flows) (sym h) is
  flow_of_act act flows (OfPasses h is) = subst (λ (z : Act). FlowOf z flows) (sym h) is
  flow_of_act act flows (OfCalls result g args h is) = subst (λ (z : Act). FlowOf z flows) (sym h) is

  -- ---- what is written, touched and returned

  abbrev Keys-of : Place → List ℕ → Type 0
  Keys-of a ks = AreKeys d p facts n id f point fact a ks

  abbrev pub WriteOf : Act → Needs I → Type 0
  WriteOf (Writes a e) ns = (y : Abs I) × (ks : List ℕ) × Value-of e y × Keys-of a ks × (ns ≡ map (λ k. (Whole k, Values (Some y))) ks)
  WriteOf _ ns = Unit {0}

  no_write : (act : Act) (ns : Needs I) → ((a : Place) (e : Expr) → act ≡ Writes a e → ⊥) → WriteOf act ns
  no_write (Writes a e) ns h = absurd (h a e refl)
  no_write _ ns h = tt

  pub write_of_act : (act : Act) (ns : Needs I) → Written d p facts n id f point fact act ns → WriteOf act ns
  write_of_act act ns (OfWrite a e y ks h val keys is) = subst (λ (z : Act). WriteOf z ns) (sym h) (y, ks, val, keys, is)
  write_of_act act ns (OfNone none is) = no_write act ns none

  abbrev pub TouchOf : Act → Needs I → Type 0
  TouchOf (Reads r a) ns = (ks : List ℕ) × Keys-of a ks × (ns ≡ (if mark_of facts.by_handler id then reads d p facts n id f point fact ks else []))
  TouchOf (Writes a e) ns = (ks : List ℕ) × Keys-of a ks × (ns ≡ (if mark_of facts.by_handler id then writes d p facts n id f point fact ks else []))
  TouchOf _ ns = Unit {0}

  no_touch : (act : Act) (ns : Needs I) → ((r : ℕ) (a : Place) → act ≡ Reads r a → ⊥) → ((a : Place) (e : Expr) → act ≡ Writes a e → ⊥) → TouchOf act ns
  no_touch (Reads r a) ns h k = absurd (h r a refl)
  no_touch (Writes a e) ns h k = absurd (k a e refl)
  no_touch _ ns h k = tt

  pub touch_of_act : (act : Act) (ns : Needs I) → Touched d p facts n id f point fact act ns → TouchOf act ns
  touch_of_act act ns (ByRead r a ks h keys is) = subst (λ (z : Act). TouchOf z ns) (sym h) (ks, keys, is)
  touch_of_act act ns (ByWrite a e ks h keys is) = subst (λ (z : Act). TouchOf z ns) (sym h) (ks, keys, is)
  touch_of_act act ns (ByNone none nothing is) = no_touch act ns none nothing

  abbrev pub ReturnOf : Act → Needs I → Type 0
  ReturnOf (Returns (Some e)) ns = (y : Abs I) × Value-of e y × (ns ≡ (Result id, Values (Some y)) ∷ [])
  ReturnOf _ ns = Unit {0}

  no_return : (act : Act) (ns : Needs I) → ((e : Expr) → act ≡ Returns (Some e) → ⊥) → ReturnOf act ns
  no_return (Returns (Some e)) ns h = absurd (h e refl)
  no_return _ ns h = tt

  pub return_of_act : (act : Act) (ns : Needs I) → Given d p facts n id f point fact act ns → ReturnOf act ns
  return_of_act act ns (OfReturn e y h val is) = subst (λ (z : Act). ReturnOf z ns) (sym h) (y, val, is)
  return_of_act act ns (OfNoValue none is) = no_return act ns none

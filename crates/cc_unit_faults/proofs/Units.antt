-- The law of all constructs of a unit, and what it says of the whole.
use Rattle.std.proofs.Common.{◌≡◌, List, Result, Ok, Err, refl, ap}
use Rattle.cc_type.specs.CcTypedTerms.Specifiers.{begin}
use Rattle.cc_first_faults.proofs.Declarations.{law as inner-law}
use Rattle.cc_first_faults.proofs.Lawful.{own-whole, same-state, first-of, alone, within}
use Rattle.cc_first_faults.specs.Behind.{behind as behind_inner}
use Rattle.cc_first_faults.specs.Constructs.{Declaration, place as inner_place}
use Rattle.cc_first_faults.specs.FirstFaults.{forget, BreaksNone, Whole}
use Rattle.cc_first_faults.specs.Parts.{parts as inner_parts}
use Rattle.cc_program.specs.CcNum.declared.target.Target.{Target}
use Rattle.cc_program.specs.declared.program.Roles.{Roles}
use Rattle.cc_type.specs.CcScopes.State.{State, Name, at_first}
use Rattle.cc_type.specs.CcScopes.Verdicts.{Found, Checked, checked}
use Rattle.cc_type.specs.CcScopes.declared.verdict.Fault.{Fault}
use Rattle.cc_type.specs.CcSpecifiers.declared.storage.Where.TheVariants as stands
use Rattle.cc_tree.specs.declared.at.At.{At}
use Rattle.cc_tree.specs.declared.unit.Item.{Item}
use Rattle.cc_tree.specs.declared.unit.Item.TheVariants as item
use Rattle.cc_tree.specs.declared.unit.Unit.{Unit as UnitTree}
use Rattle.cc_type.specs.Defined.{defined_names}
use Rattle.cc_type.specs.Functions.{definition_judged}
use Rattle.cc_type.specs.Typed.{IsTyped, IsBroken}
use Rattle.cc_type.specs.Units.{item_found, item_next, items_found, unit_found, unit_of}
use Rattle.cc_type.specs.CcTypedBodies.Declarations.{declaration}
use Rattle.cc_type.specs.CcNumbering.Units.{unit_left}
use Rattle.cc_type.specs.CcUnit.declared.unit.TypedUnit.{TypedUnit}
use Rattle.cc_unit_faults.specs.Behind.{behind}
use Rattle.cc_unit_faults.specs.Constructs.{Construct, Within, EffectOf, Statement, SwitchBody, Labelled, Definition, DefinitionNamed, WholeUnit, item_construct, place}
use Rattle.cc_unit_faults.specs.FirstFault.{IsFirstFault, BreaksNoRule}
use Rattle.cc_unit_faults.specs.Parts.{parts}
use Rattle.cc_unit_faults.proofs.Definitions.{definition-law}
use Rattle.cc_unit_faults.proofs.Laws.{First, Law, first, each}
use Rattle.cc_unit_faults.proofs.Lifted.{lifted, inner-first}
use Rattle.cc_unit_faults.proofs.Lines.{every-line}
use Rattle.cc_unit_faults.proofs.Statements.{effect-law}

module _ (target : Target) (roles : Roles) (defined : List Name) where
  item-is : (i : Item) (s : State) → behind target roles defined (item_construct i) s ≡ forget (item_found target roles defined i s)
  item-is (item.Decl d) s = same-state (declaration target roles defined stands.AtFile d s) (λ es. checked)
  item-is (item.Func specs d attrs body) s = refl

  item-first : (i : Item) (s : State) → First target roles defined (item_construct i) s
  item-first (item.Decl d) s = inner-first target roles defined (Declaration stands.AtFile d) s
  item-first (item.Func specs d attrs body) s = first target roles defined (Definition specs d attrs body) s (definition-law target roles defined specs d attrs body s)

  unit-law : (items : List (At Item)) (s : State) → Law target roles defined (WholeUnit items) s
  unit-law items s =
      each target roles defined (begin items) (item_next target roles defined) (λ i done. item_construct i.node) (λ i done s. item-is i.node s) items (λ i done s. item-first i.node s) checked s

  pub law : (c : Construct) (s : State) → Law target roles defined c s
  law (Within c) s = lifted target roles defined (inner_place c) (inner_parts target roles defined c s) (behind_inner target roles defined c s) (inner-law target roles defined c s)
  law (EffectOf e) s = effect-law target roles defined e s
  law (Statement result j l) s = (every-line target roles defined result l.node).0 l.at j s
  law (SwitchBody result j t l) s = (every-line target roles defined result l.node).1 l.at j t s
  law (Labelled result j t cases l) s = (every-line target roles defined result l.node).2 l.at j t cases s
  law (Definition specs d attrs body) s = definition-law target roles defined specs d attrs body s
  law (DefinitionNamed at asked x t ds) s = own-whole at s (definition_judged roles asked x t ds s)
  law (WholeUnit items) s = unit-law items s

-- ---- the unit

abbrev fault_or : {A : Type 0} → Fault → Result A Fault → Fault
fault_or f (Ok x) = f
fault_or f (Err g) = g

refused : (m : Found Checked) (f : Fault) → unit_found m ≡ Err f → forget m ≡ Err f
refused (Ok found) f h = cc
refused (Err g) f h = ap (λ (r : Result TypedUnit Fault). Err (fault_or f r)) h

refuses : (m : Found Checked) (f : Fault) → forget m ≡ Err f → unit_found m ≡ Err f
refuses (Ok found) f h = cc
refuses (Err g) f h = ap (λ (r : Result State Fault). Err (fault_or f r)) h

found-typed : (m : Found Checked) (t : TypedUnit) → unit_found m ≡ Ok t → BreaksNone (forget m)
found-typed (Ok found) t h = (found.1, refl)
found-typed (Err g) t h = cc

typed-found : (m : Found Checked) (s : State) → forget m ≡ Ok s → (t : TypedUnit) × (unit_found m ≡ Ok t)
typed-found (Ok found) s h = (unit_left found.1, refl)
typed-found (Err g) s h = cc

module _ (target : Target) (roles : Roles) (u : UnitTree) where
  pub broken-first : (f : Fault) → IsBroken u target roles f → IsFirstFault target roles u f
  unfolding unit_of
  broken-first f h =
      first-of Construct place (behind target roles (defined_names u)) (parts target roles (defined_names u)) (WholeUnit u.items) at_first (law target roles (defined_names u) (WholeUnit u.items) at_first) f
      (refused (items_found target roles (defined_names u) u.items at_first) f h)

  pub first-broken : (f : Fault) → IsFirstFault target roles u f → IsBroken u target roles f
  unfolding unit_of
  first-broken f h =
      refuses (items_found target roles (defined_names u) u.items at_first) f
      (alone Construct place (behind target roles (defined_names u)) (parts target roles (defined_names u)) (law target roles (defined_names u)) f (WholeUnit u.items) at_first h)

  pub typed-breaks-none : (t : TypedUnit) → IsTyped u target roles t → BreaksNoRule target roles u
  unfolding unit_of
  typed-breaks-none t h c s inside =
      within Construct place (behind target roles (defined_names u)) (parts target roles (defined_names u)) (law target roles (defined_names u)) c s (WholeUnit u.items) at_first inside
      (found-typed (items_found target roles (defined_names u) u.items at_first) t h)

  pub none-typed : BreaksNoRule target roles u → (t : TypedUnit) × IsTyped u target roles t
  unfolding unit_of
  none-typed h = typed-found (items_found target roles (defined_names u) u.items at_first) (h (WholeUnit u.items) at_first Whole).0 (h (WholeUnit u.items) at_first Whole).1

-- Items of a unit, one behind another, leave each object with first values of its type.
use Rattle.std.proofs.Common.{◌≡◌, ℕ, true, List, [], ◌∷◌, ◌++◌, Option, Some, None, Ok, refl, sym, subst}
use Rattle.std.specs.Prelude.{slice_get}
use Rattle.std.specs.List.{list_all}
use Rattle.cc_read_sound.proofs.DefinedNames.{defined_among}
use Rattle.cc_read_sound.specs.External.{AreAmong}
use Rattle.cc_read_sound.specs.Values.{AreInitial}
use Rattle.cc_read_sound.proofs.InitialDefinitions.{definition_initial}
use Rattle.cc_read_sound.proofs.InitialisedDeclarations.{file_initialises}
use Rattle.cc_read_sound.proofs.Through.{initialises_through, own_contents}
use Rattle.cc_read_sound.specs.Initialises.{Initialises}
use Rattle.cc_program.specs.CcNum.declared.target.Target.{Target}
use Rattle.cc_standing_units.proofs.OwnViews.{first_ordered}
use Rattle.cc_standing_units.specs.Views.{view_of}
use Rattle.cc_program.proofs.Each.{Each}
use Rattle.cc_program.specs.declared.expr.Expr.{Expr}
use Rattle.cc_program.specs.declared.program.Roles.{Roles}
use Rattle.cc_read_sound.specs.Ranges.{item_fits, unit_fits}
use Rattle.cc_type.specs.CcScopes.State.{State, Name, at_first}
use Rattle.cc_type.specs.CcScopes.Verdicts.{Checked, checked}
use Rattle.cc_type.specs.CcScopes.declared.unit.Declared.{Declared}
use Rattle.cc_read_sound.proofs.Parts.{found_is}
use Rattle.cc_read_sound.proofs.First.{first_well}
use Rattle.cc_read_sound.proofs.Kept.{apart_of, entries_of}
use Rattle.cc_read_sound.proofs.Items.{Any, IsItem, Well, item_is, unit_sound}
use Rattle.cc_sound_declarations.proofs.Declaring.{declares_itself, declares_through}
use Rattle.cc_sound_declarations.specs.Declaring.{Declares}
use Rattle.cc_sound_terms.proofs.Founds.{answer_is, then_found}
use Rattle.cc_sound_terms.specs.Ordered.{IsOrdered}
use Rattle.cc_type.specs.CcSpecifiers.declared.storage.Where.TheVariants as stands
use Rattle.cc_type.proofs.CcSyntax.Prefixes.{both_true}
use Rattle.cc_type.specs.CcSyntax.Views.{View}
use Rattle.cc_type.specs.CcTerms.InTurn.{in_turn}
use Rattle.cc_tree.specs.declared.at.At.{At}
use Rattle.cc_tree.specs.declared.unit.Item.{Item}
use Rattle.cc_tree.specs.declared.unit.Item.TheVariants as item
use Rattle.cc_tree.specs.declared.unit.Unit.{Unit as UnitTree}
use Rattle.cc_type.specs.Defined.{defined_by, defined_names}
use Rattle.cc_type.specs.Units.{item_found, item_next, items_found}
use Rattle.cc_type.specs.CcTypedBodies.Declarations.{declaration}

module _ (v : View) (roles : Roles) (defined : List Name) where
  item_initial : (i : Item) (s : State) (r : Checked × State) → item_fits i ≡ true → AreAmong (defined_by i) defined → IsOrdered s → (done : List Name) → Well v roles defined done s → item_found v.target roles defined i s ≡ Ok r → Initialises v [] s r.1
  item_initial (item.Decl d) s r f a o done w h =
      let b = then_found (declaration v.target roles defined stands.AtFile d s) (λ es s. Ok (checked, s)) r h in
      subst (Initialises v [] s) (sym (answer_is checked b.0.1 r b.2).1) (file_initialises v roles defined d [] s b.0 f (entries_of v roles defined (Any v roles defined) done s w) a b.1)
  item_initial (item.Func specs d attrs body) s r f a o done w h =
      definition_initial v roles defined specs d attrs body s r f o (entries_of v roles defined (Any v roles defined) done s w) (apart_of v roles defined (Any v roles defined) done s w)
      (found_is v.target roles defined specs d attrs body s r h)

  -- what they leave, and so does what stands behind them
  record AreLeft (s t : State) : Type 0 where
    goes : Declares v defined s [] t []
    initial : Initialises v [] s t

  items_left : (is : List (At Item)) (b : Checked) (s : State) (r : Checked × State) → list_all (λ (i : At Item). item_fits i.node) is ≡ true → Each (λ (i : At Item). AreAmong (defined_by i.node) defined) is → IsOrdered s → (done : List Name) →
      Well v roles defined done s → in_turn (item_next v.target roles defined) is b s ≡ Ok r → AreLeft s r.1
  items_left [] b s r f a o done w h =
      subst (AreLeft s) (sym (answer_is b s r h).1) (record { goes = declares_itself v defined (Unit {0}) s []; initial = λ k c o i. i })
  items_left (i ∷ is) b s r f a o done w h =
      let fit = both_true (item_fits i.node) (list_all (λ (i : At Item). item_fits i.node) is) f in
      let c = then_found (item_next v.target roles defined i b s) (in_turn (item_next v.target roles defined) is) r h in
      let first = item_is v roles defined i.node s c.0 fit.0 a.0 o done w c.1 in
      let rest = items_left is c.0.0 c.0.1 r fit.1 a.1 (first.goes.ordered o) (done ++ defined_by i.node) (first.well done w) c.2 in
      record {
        goes = declares_through v defined (Unit {0}) s c.0.1 r.1 [] [] [] first.goes rest.goes;
        initial = initialises_through v defined s c.0.1 r.1 [] [] [] first.goes rest.goes (item_initial i.node s c.0 fit.0 a.0 o done w c.1) rest.initial;
      }

nothing_initial : (v : View) → AreInitial v at_first.names
nothing_initial v = λ i d h. let c : None ≡ Some d = h in absurd (cc)

pub unit_initial : (target : Target) (roles : Roles) (u : UnitTree) (r : Checked × State) → unit_fits u ≡ true → items_found target roles (defined_names u) u.items at_first ≡ Ok r → AreInitial (view_of target r.1) r.1.names
unit_initial target roles u r f h =
    let v = view_of target r.1 in
    let defined = defined_names u in
    (items_left v roles defined u.items checked at_first r f (defined_among u) first_ordered [] (first_well target roles defined (Any v roles defined)) h).initial
    (unit_sound target roles u r f h).knows (own_contents target r.1) first_ordered (nothing_initial v)

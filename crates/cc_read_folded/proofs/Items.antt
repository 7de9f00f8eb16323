-- Items of a unit, one behind another: each body that they leave has folded expressions.
use Rattle.std.proofs.Common.{◌≡◌, true, List, [], ◌∷◌, ◌++◌, Ok, refl, ap, sym, subst, append_assoc}
use Rattle.std.specs.Prelude.{flat_map}
use Rattle.std.specs.List.{list_all}
use Rattle.cc_folded_bodies.proofs.Induction.{body_folds}
use Rattle.cc_program.specs.CcNum.declared.target.Target.{Target}
use Rattle.cc_program.proofs.Each.{Each}
use Rattle.cc_program.specs.declared.func.Func.{Func}
use Rattle.cc_program.specs.declared.program.Roles.{Roles}
use Rattle.cc_program.specs.declared.types.CType.{CType}
use Rattle.cc_program.specs.declared.types.Sig.{out-Sig}
use Rattle.cc_read_folded.specs.Folded.{HasFoldedBody}
use Rattle.cc_read_sound.proofs.DefinedNames.{defined_among}
use Rattle.cc_read_sound.proofs.Definitions.{definition_keeps}
use Rattle.cc_read_sound.proofs.First.{first_well}
use Rattle.cc_read_sound.proofs.Items.{Well, item_is}
use Rattle.cc_read_sound.proofs.Parts.{found_is}
use Rattle.cc_read_sound.proofs.Places.{file_keeps}
use Rattle.cc_read_sound.specs.Entries.{AreWell}
use Rattle.cc_read_sound.specs.External.{AreAmong}
use Rattle.cc_read_sound.specs.Ranges.{item_fits, unit_fits}
use Rattle.cc_type.specs.CcScopes.State.{State, Name, at_first}
use Rattle.cc_type.specs.CcScopes.Verdicts.{Checked, checked}
use Rattle.cc_sound_terms.proofs.Founds.{answer_is, then_found}
use Rattle.cc_sound_terms.specs.Ordered.{IsOrdered}
use Rattle.cc_type.specs.CcSpecifiers.declared.storage.Where.TheVariants as stands
use Rattle.cc_standing_units.proofs.OwnViews.{first_ordered}
use Rattle.cc_standing_units.specs.Views.{view_of}
use Rattle.cc_eval.proofs.CcSyntax.Prefixes.{both_true}
use Rattle.cc_eval.specs.CcSyntax.Views.{View}
use Rattle.cc_type.specs.CcTerms.InTurn.{in_turn}
use Rattle.cc_tree.specs.declared.at.At.{At}
use Rattle.cc_tree.specs.declared.unit.Item.{Item}
use Rattle.cc_tree.specs.declared.unit.Item.TheVariants as item
use Rattle.cc_tree.specs.declared.unit.Unit.{Unit as UnitTree}
use Rattle.cc_type.specs.Defined.{defined_by, defined_names}
use Rattle.cc_type.specs.Functions.{signature_of}
use Rattle.cc_type.specs.Units.{item_found, item_next, items_found}
use Rattle.cc_type.specs.CcTypedBodies.Declarations.{declaration}
use Rattle.cc_type.specs.CcTypedStatements.Jumps.{no_jumps}

append_nothing : {A : Type 0} (xs : List A) → xs ++ [] ≡ xs
append_nothing [] = refl
append_nothing (x ∷ xs) = ap (λ ys. x ∷ ys) (append_nothing xs)

module _ (v : View) (roles : Roles) (defined : List Name) where
  abbrev HasFolded : CType → Func → Type 0
  HasFolded t f = HasFoldedBody v.target t f

  abbrev pub AreBodiesFolded : List Name → State → Type 0
  AreBodiesFolded done s = AreWell v.target roles defined HasFolded done s

  item_folds : (i : Item) (s : State) (r : Checked × State) → item_fits i ≡ true → AreAmong (defined_by i) defined → IsOrdered s → (done : List Name) → AreBodiesFolded done s → item_found v.target roles defined i s ≡ Ok r → AreBodiesFolded (done ++ defined_by i) r.1
  item_folds (item.Decl d) s r f a o done w h =
      let b = then_found (declaration v.target roles defined stands.AtFile d s) (λ es s. Ok (checked, s)) r h in
      subst (AreBodiesFolded (done ++ defined_by (item.Decl d))) (sym (answer_is checked b.0.1 r b.2).1) (file_keeps v roles defined HasFolded d s b.0 f a b.1 done w)
  item_folds (item.Func specs d attrs body) s r f a o done w h =
      let found = found_is v.target roles defined specs d attrs body s r h in
      subst (λ (xs : List Name). AreBodiesFolded xs r.1) (sym (append_nothing done))
      (definition_keeps v roles defined HasFolded specs d attrs body s r f o found done w
      (λ x parts. body_folds v.target roles defined (out-Sig (signature_of found.type.0)).result body no_jumps _ parts.inside parts.read))

  items_fold : (is : List (At Item)) (b : Checked) (s : State) (r : Checked × State) → list_all (λ (i : At Item). item_fits i.node) is ≡ true → Each (λ (i : At Item). AreAmong (defined_by i.node) defined) is → IsOrdered s →
      (done : List Name) → Well v roles defined done s → AreBodiesFolded done s → in_turn (item_next v.target roles defined) is b s ≡ Ok r → AreBodiesFolded (done ++ flat_map (λ (i : At Item). defined_by i.node) is) r.1
  items_fold [] b s r f a o done w g h = subst (λ (t : State). AreBodiesFolded (done ++ []) t) (sym (answer_is b s r h).1) (subst (λ (xs : List Name). AreBodiesFolded xs s) (sym (append_nothing done)) g)
  items_fold (i ∷ is) b s r f a o done w g h =
      let fit = both_true (item_fits i.node) (list_all (λ (i : At Item). item_fits i.node) is) f in
      let c = then_found (item_next v.target roles defined i b s) (in_turn (item_next v.target roles defined) is) r h in
      let first = item_is v roles defined i.node s c.0 fit.0 a.0 o done w c.1 in
      subst (λ (xs : List Name). AreBodiesFolded xs r.1) (append_assoc done (defined_by i.node) (flat_map (λ (i : At Item). defined_by i.node) is))
      (items_fold is c.0.0 c.0.1 r fit.1 a.1 (first.goes.ordered o) (done ++ defined_by i.node) (first.well done w) (item_folds i.node s c.0 fit.0 a.0 o done g c.1) c.2)

pub unit_folds : (target : Target) (roles : Roles) (u : UnitTree) (r : Checked × State) → unit_fits u ≡ true → items_found target roles (defined_names u) u.items at_first ≡ Ok r →
    AreWell target roles (defined_names u) (HasFoldedBody target) (defined_names u) r.1
unit_folds target roles u r f h =
    let v = view_of target r.1 in
    let defined = defined_names u in
    items_fold v roles defined u.items checked at_first r f (defined_among u) first_ordered [] (first_well target roles defined (λ t f. Unit {0})) (first_well target roles defined (HasFoldedBody target)) h

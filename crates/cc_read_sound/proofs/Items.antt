-- Items of a unit, one behind another: what is declared stands over each view that knows what there is behind them, and entries are well.
use Rattle.std.proofs.Common.{◌≡◌, Bool, true, ◌&&◌, List, [], ◌∷◌, ◌++◌, Ok, refl, ap, sym, ◌∙◌, subst, append_assoc}
use Rattle.std.specs.Prelude.{flat_map}
use Rattle.std.specs.List.{list_all}
use Rattle.cc_read_sound.proofs.ExternalDeclarations.{external_declares}
use Rattle.cc_read_sound.proofs.DefinedNames.{defined_among}
use Rattle.cc_read_sound.specs.External.{AreAmong}
use Rattle.cc_program.specs.CcNum.declared.target.Target.{Target}
use Rattle.cc_standing_units.proofs.OwnViews.{all_is_known, first_ordered}
use Rattle.cc_standing_units.specs.Views.{view_of}
use Rattle.cc_program.proofs.Each.{Each}
use Rattle.cc_program.specs.declared.expr.Expr.{Expr}
use Rattle.cc_program.specs.declared.func.Func.{Func}
use Rattle.cc_program.specs.declared.program.Roles.{Roles}
use Rattle.cc_program.specs.declared.types.CType.{CType}
use Rattle.cc_read_sound.specs.Ranges.{item_fits, unit_fits}
use Rattle.cc_type.specs.CcScopes.State.{State, Name, at_first}
use Rattle.cc_type.specs.CcScopes.Verdicts.{Checked, checked}
use Rattle.cc_read_sound.proofs.Functions.{definition_goes, definition_sound}
use Rattle.cc_read_sound.proofs.Parts.{found_is}
use Rattle.cc_read_sound.specs.Definitions.{IsSoundAt}
use Rattle.cc_read_sound.proofs.Definitions.{definition_keeps}
use Rattle.cc_read_sound.proofs.First.{first_well}
use Rattle.cc_read_sound.proofs.Kept.{apart_of, entries_of}
use Rattle.cc_read_sound.proofs.Places.{file_keeps}
use Rattle.cc_read_sound.specs.Entries.{AreWell}
use Rattle.cc_read_sound.specs.Items.{IsSoundState}
use Rattle.cc_sound_declarations.proofs.Declaring.{declares_itself, declares_through, known_before, known_behind}
use Rattle.cc_sound_declarations.specs.Declaring.{Declares}
use Rattle.cc_sound_terms.proofs.Founds.{answer_is, then_found}
use Rattle.cc_sound_terms.specs.Closings.{Closings}
use Rattle.cc_sound_terms.specs.Ordered.{IsOrdered}
use Rattle.cc_sound_terms.specs.Typing.{Knows}
use Rattle.cc_type.specs.CcSpecifiers.declared.storage.Where.TheVariants as stands
use Rattle.cc_type.proofs.CcSyntax.Prefixes.{both_true}
use Rattle.cc_type.specs.CcSyntax.Views.{View}
use Rattle.cc_type.specs.CcTerms.InTurn.{in_turn}
use Rattle.cc_tree.specs.declared.at.At.{At}
use Rattle.cc_tree.specs.declared.unit.Item.{Item}
use Rattle.cc_tree.specs.declared.unit.Item.TheVariants as item
use Rattle.cc_tree.specs.declared.unit.Unit.{Unit as UnitTree}
use Rattle.cc_type.specs.Defined.{defined_by, defined_names}
use Rattle.cc_type.specs.Units.{item_found, item_next, items_found}
use Rattle.cc_type.specs.CcTypedBodies.Declarations.{declaration}

append_nothing : {A : Type 0} (xs : List A) → xs ++ [] ≡ xs
append_nothing [] = refl
append_nothing (x ∷ xs) = ap (λ ys. x ∷ ys) (append_nothing xs)

module _ (v : View) (roles : Roles) (defined : List Name) where
  -- of bodies nothing is asked
  abbrev pub Any : CType → Func → Type 0
  Any t f = Unit {0}

  abbrev pub Well : List Name → State → Type 0
  Well done s = AreWell v.target roles defined Any done s

  abbrev pub Sound : List Name → State → Type 0
  Sound done s = AreWell v.target roles defined (IsSoundAt v) done s

  -- what an item leaves, which defines such names
  pub record IsItem (names : List Name) (s t : State) : Type 0 where
    pub goes : Declares v defined s [] t []
    pub well : (done : List Name) → Well done s → Well (done ++ names) t
    pub sound : Knows v [] s t → (done : List Name) → Sound done s → Sound (done ++ names) t

  pub item_is : (i : Item) (s : State) (r : Checked × State) → item_fits i ≡ true → AreAmong (defined_by i) defined → IsOrdered s → (done : List Name) → Well done s → item_found v.target roles defined i s ≡ Ok r → IsItem (defined_by i) s r.1
  item_is (item.Decl d) s r f a o done w h =
      let b = then_found (declaration v.target roles defined stands.AtFile d s) (λ es s. Ok (checked, s)) r h in
      let e = (answer_is checked b.0.1 r b.2).1 in
      subst (IsItem (defined_by (item.Decl d)) s) (sym e) (record {
        goes = external_declares v roles defined d [] s b.0 f (entries_of v roles defined Any done s w) a b.1;
        well = λ done w. file_keeps v roles defined Any d s b.0 f a b.1 done w;
        sound = λ k done w. file_keeps v roles defined (IsSoundAt v) d s b.0 f a b.1 done w;
      })
  item_is (item.Func specs d attrs body) s r f a o done w h =
      let found = found_is v.target roles defined specs d attrs body s r h in
      let entries = entries_of v roles defined Any done s w in
      let apart = apart_of v roles defined Any done s w in
      record {
        goes = definition_goes v roles defined specs d attrs body s r f o entries apart found;
        well = λ done w. subst (λ (xs : List Name). Well xs r.1) (sym (append_nothing done)) (definition_keeps v roles defined Any specs d attrs body s r f o found done w (λ x parts. tt));
        sound = λ k done w. subst (λ (xs : List Name). Sound xs r.1) (sym (append_nothing done))
            (definition_keeps v roles defined (IsSoundAt v) specs d attrs body s r f o found done w (λ x parts. definition_sound v roles defined specs d attrs body s r f o entries apart found x parts k));
      }

  itself : (s t : State) → t ≡ s → IsItem [] s t
  itself s t e = subst (IsItem [] s) (sym e) (record {
    goes = declares_itself v defined (Unit {0}) s [];
    well = λ done w. subst (λ (xs : List Name). Well xs s) (sym (append_nothing done)) w;
    sound = λ k done w. subst (λ (xs : List Name). Sound xs s) (sym (append_nothing done)) w;
  })

  through : (xs ys : List Name) (s t u : State) → IsItem xs s t → IsItem ys t u → IsItem (xs ++ ys) s u
  through xs ys s t u a b = record {
    goes = declares_through v defined (Unit {0}) s t u [] [] [] a.goes b.goes;
    well = λ done w. subst (λ (zs : List Name). Well zs u) (append_assoc done xs ys) (b.well (done ++ xs) (a.well done w));
    sound = λ k done w.
        subst (λ (zs : List Name). Sound zs u) (append_assoc done xs ys)
        (b.sound (known_behind v defined (Unit {0}) s t u [] [] [] a.goes b.goes (tt, k)).1 (done ++ xs)
        (a.sound (known_before v defined (Unit {0}) s t u [] [] [] a.goes b.goes (tt, k)).1 done w));
  }

  items_are : (is : List (At Item)) (b : Checked) (s : State) (r : Checked × State) → list_all (λ (i : At Item). item_fits i.node) is ≡ true → Each (λ (i : At Item). AreAmong (defined_by i.node) defined) is → IsOrdered s → (done : List Name) → Well done s →
      in_turn (item_next v.target roles defined) is b s ≡ Ok r → IsItem (flat_map (λ (i : At Item). defined_by i.node) is) s r.1
  items_are [] b s r f a o done w h = itself s r.1 (answer_is b s r h).1
  items_are (i ∷ is) b s r f a o done w h =
      let fit = both_true (item_fits i.node) (list_all (λ (i : At Item). item_fits i.node) is) f in
      let c = then_found (item_next v.target roles defined i b s) (in_turn (item_next v.target roles defined) is) r h in
      let first = item_is i.node s c.0 fit.0 a.0 o done w c.1 in
      through (defined_by i.node) (flat_map (λ (i : At Item). defined_by i.node) is) s c.0.1 r.1 first
      (items_are is c.0.0 c.0.1 r fit.1 a.1 (first.goes.ordered o) (done ++ defined_by i.node) (first.well done w) c.2)

-- ---- a unit

pub unit_sound : (target : Target) (roles : Roles) (u : UnitTree) (r : Checked × State) → unit_fits u ≡ true → items_found target roles (defined_names u) u.items at_first ≡ Ok r → IsSoundState target roles (defined_names u) r.1
unit_sound target roles u r f h =
    let v = view_of target r.1 in
    let defined = defined_names u in
    let all = items_are v roles defined u.items checked at_first r f (defined_among u) first_ordered [] (first_well target roles defined (λ t f. Unit {0})) h in
    let known = all_is_known target r.1 (λ k. all.goes.behind tt k) in
    record {
      goes = all.goes;
      knows = known;
      ordered = all.goes.ordered first_ordered;
      entries = all.sound known [] (first_well target roles defined (IsSoundAt v));
    }

-- what was closed between its braces, over each view
pub closings_of_units : (target : Target) (roles : Roles) (u : UnitTree) (r : Checked × State) → unit_fits u ≡ true → items_found target roles (defined_names u) u.items at_first ≡ Ok r → (v : View) → v.target ≡ target → Closings v (Unit {0}) at_first r.1
closings_of_units target roles u r f h v e =
    let defined = defined_names u in
    (items_are v roles defined u.items checked at_first r f (defined_among u) first_ordered [] (first_well v.target roles defined (λ t f. Unit {0}))
    (subst (λ (x : Target). items_found x roles defined u.items at_first ≡ Ok r) (sym e) h)).goes.closings

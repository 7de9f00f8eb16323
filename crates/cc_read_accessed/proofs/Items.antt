-- Items of a unit, one behind another: each device without a name is accessed by the body of a function that there is, unless one is defined twice.
use Rattle.std.proofs.Common.{◌≡◌, ◌⊎◌, inl, inr, ℕ, true, false, true≢false, List, [], ◌∷◌, ◌++◌, Some, None, Ok, refl, ap, sym, ◌∙◌, subst, append_assoc}
use Rattle.std.specs.Prelude.{flat_map, slice_get}
use Rattle.std.specs.List.{list_all, list_any}
use Rattle.cc_accessed_bodies.proofs.Declarations.{declaration_accounts, external_assigns_nothing}
use Rattle.cc_accessed_operands.specs.Accessed.{accesses}
use Rattle.cc_accessed_terms.specs.Accounted.{is_numbered_at}
use Rattle.cc_program.specs.CcNum.declared.target.Target.{Target}
use Rattle.cc_program.proofs.Each.{Each}
use Rattle.cc_program.specs.declared.expr.Expr.{Expr}
use Rattle.cc_program.specs.declared.program.Roles.{Roles}
use Rattle.cc_read_accessed.proofs.Accounted.{AreAccounted, accounted_kept}
use Rattle.cc_read_accessed.proofs.Definitions.{definition_accounts}
use Rattle.cc_read_accessed.proofs.KeptDeclarations.{file_keeps}
use Rattle.cc_read_sound.proofs.DefinedNames.{defined_among}
use Rattle.cc_read_sound.proofs.First.{first_well}
use Rattle.cc_read_sound.proofs.Items.{Any, Well, item_is}
use Rattle.cc_read_sound.proofs.Kept.{apart_of, entries_of}
use Rattle.cc_read_sound.proofs.Parts.{found_is}
use Rattle.cc_read_sound.specs.External.{AreAmong}
use Rattle.cc_read_sound.specs.Ranges.{item_fits, unit_fits}
use Rattle.cc_type.specs.CcScopes.State.{State, Name, at_first}
use Rattle.cc_type.specs.CcScopes.Verdicts.{Checked, checked}
use Rattle.cc_type.specs.CcScopes.declared.unit.Declared.{Declared}
use Rattle.cc_sound_terms.proofs.Founds.{answer_is, then_found}
use Rattle.cc_sound_terms.specs.Ordered.{IsOrdered}
use Rattle.cc_type.specs.CcSpecifiers.declared.storage.Where.TheVariants as stands
use Rattle.cc_standing_units.proofs.OwnViews.{first_ordered}
use Rattle.cc_standing_units.specs.Views.{view_of}
use Rattle.cc_type.proofs.CcSyntax.Prefixes.{both_true}
use Rattle.cc_type.specs.CcSyntax.Views.{View}
use Rattle.cc_type.specs.CcTerms.InTurn.{in_turn}
use Rattle.cc_tree.specs.declared.at.At.{At}
use Rattle.cc_tree.specs.declared.unit.Item.{Item}
use Rattle.cc_tree.specs.declared.unit.Item.TheVariants as item
use Rattle.cc_tree.specs.declared.unit.Unit.{Unit as UnitTree}
use Rattle.cc_type.specs.Defined.{defined_by, defined_names}
use Rattle.cc_type.specs.Units.{item_found, item_next, items_found}
use Rattle.cc_type.specs.CcTypedBodies.Declarations.{declaration}

append_nothing : {A : Type 0} (xs : List A) → xs ++ [] ≡ xs
append_nothing [] = refl
append_nothing (x ∷ xs) = ap (λ ys. x ∷ ys) (append_nothing xs)

-- at file scope nothing is assigned
none_assigned : (s : State) (es : List Expr) (i : ℕ) → es ≡ [] → (is_numbered_at s i ≡ true) ⊎ (list_any (accesses i) es ≡ true) → is_numbered_at s i ≡ true
none_assigned s es i e (inl h) = h
none_assigned s es i e (inr h) = absurd (true≢false (sym h ∙ ap (list_any (accesses i)) e))

module _ (v : View) (roles : Roles) (defined : List Name) where
  item_accounts : (i : Item) (s : State) (r : Checked × State) → item_fits i ≡ true → AreAmong (defined_by i) defined → IsOrdered s → (done : List Name) → Well v roles defined done s → AreAccounted s → item_found v.target roles defined i s ≡ Ok r → AreAccounted r.1
  item_accounts (item.Decl d) s r f a o done w g h =
      let b = then_found (declaration v.target roles defined stands.AtFile d s) (λ es s. Ok (checked, s)) r h in
      subst AreAccounted (sym (answer_is checked b.0.1 r b.2).1)
      (accounted_kept s b.0.1 (file_keeps v roles defined d s b.0 f (entries_of v roles defined (Any v roles defined) done s w) a b.1)
      (λ i k. none_assigned s b.0.0 i (external_assigns_nothing v.target roles defined d s b.0 b.1) (declaration_accounts v.target roles defined stands.AtFile d f s b.0 b.1 i k)) g)
  item_accounts (item.Func specs d attrs body) s r f a o done w g h =
      definition_accounts v roles defined specs d attrs body s r f o (entries_of v roles defined (Any v roles defined) done s w) (apart_of v roles defined (Any v roles defined) done s w)
      (found_is v.target roles defined specs d attrs body s r h) g

  -- what they leave
  pub record AreLeft (done : List Name) (s : State) : Type 0 where
    pub well : Well v roles defined done s
    pub accounted : AreAccounted s

  items_left : (is : List (At Item)) (b : Checked) (s : State) (r : Checked × State) → list_all (λ (i : At Item). item_fits i.node) is ≡ true → Each (λ (i : At Item). AreAmong (defined_by i.node) defined) is → IsOrdered s →
      (done : List Name) → AreLeft done s → in_turn (item_next v.target roles defined) is b s ≡ Ok r → AreLeft (done ++ flat_map (λ (i : At Item). defined_by i.node) is) r.1
  items_left [] b s r f a o done w h = subst (AreLeft (done ++ [])) (sym (answer_is b s r h).1) (subst (λ (xs : List Name). AreLeft xs s) (sym (append_nothing done)) w)
  items_left (i ∷ is) b s r f a o done w h =
      let fit = both_true (item_fits i.node) (list_all (λ (i : At Item). item_fits i.node) is) f in
      let c = then_found (item_next v.target roles defined i b s) (in_turn (item_next v.target roles defined) is) r h in
      let first = item_is v roles defined i.node s c.0 fit.0 a.0 o done w.well c.1 in
      let left : AreLeft (done ++ defined_by i.node) c.0.1 = record { well = first.well done w.well; accounted = item_accounts i.node s c.0 fit.0 a.0 o done w.well w.accounted c.1 } in
      subst (λ (xs : List Name). AreLeft xs r.1) (append_assoc done (defined_by i.node) (flat_map (λ (i : At Item). defined_by i.node) is))
      (items_left is c.0.0 c.0.1 r fit.1 a.1 (first.goes.ordered o) (done ++ defined_by i.node) left c.2)

nothing_numbered : (i : ℕ) → is_numbered_at at_first i ≡ true → ⊥
nothing_numbered i h = true≢false (sym h)

nothing_there : (i : ℕ) (d : Declared) → slice_get at_first.names i ≡ Some d → ⊥
nothing_there i d h = let c : None ≡ Some d = h in absurd (cc)

pub unit_left_by : (target : Target) (roles : Roles) (u : UnitTree) (r : Checked × State) → unit_fits u ≡ true → items_found target roles (defined_names u) u.items at_first ≡ Ok r → AreLeft (view_of target r.1) roles (defined_names u) (defined_names u) r.1
unit_left_by target roles u r f h =
    let v = view_of target r.1 in
    let defined = defined_names u in
    items_left v roles defined u.items checked at_first r f (defined_among u) first_ordered []
    (record { well = first_well target roles defined (Any v roles defined); accounted = record { accessed = λ i k. absurd (nothing_numbered i k); once = λ i d k. absurd (nothing_there i d k) } }) h

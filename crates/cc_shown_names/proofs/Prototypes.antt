-- The prototypes of a program's functions, one behind another.
use Rattle.std.proofs.Common.{arith, ◌≡◌, ℕ, ◌+◌, false, not, ◌&&◌, List, [], ◌∷◌, ◌++◌, map, length, Option, Some, None, Ok, refl, ap, sym, ◌∙◌, subst, slice_get, append_assoc, All}
use Rattle.std.specs.Prelude.{if◌then◌else◌}
use Rattle.std.specs.Option.{is_some}
use Rattle.std.proofs.lemmas.List.{map-append, append-nil}
use Rattle.std.proofs.lemmas.List.Elements.{All-head, All-tail}
use Rattle.cc_expression_trees.specs.Types.{Function, unnamed, ShowsBase, Declares}
use Rattle.cc_type.specs.CcLinkage.Linkage.{new_declared, declared, may_be_declared}
use Rattle.cc_type.specs.CcLinkage.declared.linkage.DeclaredAs.TheVariants.{AsExtern}
use Rattle.cc_type.specs.CcObjects.Categories.{entity_of, setting_of, name_function, category_of}
use Rattle.cc_type.specs.CcObjects.Names.{is_prototype, function_judged, prototype_judged}
use Rattle.cc_type.specs.CcObjects.declared.category.Category.TheVariants as declares
use Rattle.cc_type.specs.CcOperands.Qualified.{is_function_type}
use Rattle.cc_type.specs.CcOperands.Verdicts.{Judged, must}
use Rattle.cc_type.specs.CcOperands.declared.rule.Rule.TheVariants as rule
use Rattle.cc_type.specs.CcTypedTerms.Primary.{intrinsic_named}
use Rattle.cc_program.specs.declared.func.Entry.{Entry}
use Rattle.cc_program.specs.declared.func.Func.{Func}
use Rattle.cc_program.specs.declared.program.Program.{Program}
use Rattle.cc_program.specs.declared.types.CType.{CType}
use Rattle.cc_program.specs.declared.types.Sig.{out-Sig}
use Rattle.cc_type.specs.CcScopes.Definitions.{with_entry}
use Rattle.cc_type.specs.CcScopes.State.{State, Name}
use Rattle.cc_type.specs.CcScopes.Verdicts.{Found, whole, and_then, Checked, checked}
use Rattle.cc_type.specs.CcScopes.declared.unit.Declared.{Declared}
use Rattle.cc_type.specs.CcSpecifiers.Attributes.{entry_by}
use Rattle.cc_type.specs.CcSpecifiers.declared.attribute.Attribute.{Attribute}
use Rattle.cc_type.specs.CcSpecifiers.declared.attribute.Entity.TheVariants as entity
use Rattle.cc_type.specs.CcSpecifiers.declared.storage.Where.TheVariants as stands
use Rattle.cc_type.specs.CcSyntax.Sound.{IsSound, IsFunc}
use Rattle.cc_type.specs.CcTerms.InTurn.{in_turn}
use Rattle.cc_tree.specs.declared.at.At.{At}
use Rattle.cc_tree.specs.declared.tree.Declr.{Declr}
use Rattle.cc_tree.specs.declared.tree.Spec.{Spec}
use Rattle.cc_tree.specs.declared.unit.Item.{Item}
use Rattle.cc_tree.specs.declared.unit.Item.TheVariants as item
use Rattle.cc_type.specs.Units.{item_found, item_next, items_found}
use Rattle.cc_type.specs.CcTypedBodies.Declarations.{declared_left, declared_with, named_found}
use Rattle.cc_type.specs.CcTypedBodies.Functions.{with_function, function_refused, function_left}
use Rattle.cc_type.specs.CcUnit.declared.unit.UnitKind.TheVariants as kind
use Rattle.cc_unit_trees.specs.Externals.{APrototype}
use Rattle.cc_unit_trees.specs.Items.{ShowsEntry, ShowsPrototype, APrototype as APrototypeItem}
use Rattle.cc_unit_trees.specs.Programs.{ShowsExternals, NoExternal, MoreExternals}
use Rattle.cc_shown_declarations.specs.Entries.{written_entry}
use Rattle.cc_shown_declarations.specs.Order.{appearance, structure_number}
use Rattle.cc_shown_declarations.specs.States.{first_state}
use Rattle.cc_shown_names.specs.Functions.{type_of_function}
use Rattle.cc_shown_names.proofs.Main.{main-fits}
use Rattle.cc_shown_expressions.specs.Known.{KnowsStructures}
use Rattle.cc_shown_expressions.specs.Numbers.{type_numbered}
use Rattle.cc_shown_names.specs.Names.{function_declared}
use Rattle.cc_shown_names.specs.Numbers.{read_numbers}
use Rattle.cc_shown_names.specs.States.{unit_state, devices_declared, functions_declared}
use Rattle.cc_shown_names.proofs.Base.{structures-in, sized, apart, own-name, device-keys}
use Rattle.cc_shown_names.proofs.Keys.{Distinct, second-there, func_names, object_names, unit_keys}
use Rattle.cc_shown_names.proofs.Leads.{entry-storage, entry-found}
use Rattle.cc_shown_names.proofs.One.{init_of, decl_of, behind-found, one-found}
use Rattle.cc_shown_names.proofs.Scope.{key, keys, IsNew, next-new, declared-next, may-be-new, change-there}
use Rattle.cc_shown_names.proofs.Signatures.{function-category, function-declarator}

module _ (p : Program) (sound : IsSound p) (known : KnowsStructures p (structure_number p) (first_state p (length p.structures) (appearance p))) (defined : List Name) where
  -- ---- one more

  module _ (names : List Declared) (f : Func) (good : IsFunc p f) (new : IsNew f.name names) (own : intrinsic_named p.roles f.name ≡ None) where
    abbrev now : State
    now = unit_state p names

    abbrev structures : KnowsStructures p (structure_number p) now
    structures = structures-in p known names

    abbrev type : CType
    type = type_of_function (read_numbers p) f

    abbrev behind : State
    behind = unit_state p (names ++ function_declared p f ∷ [])

    judged-is : (e : Option Entry) → prototype_judged p.roles AsExtern f.name type e now ≡ Ok type
    judged-is e =
        ap (λ o. if is_some o then must (is_prototype type o && not (is_some e)) rule.MainOrIntrinsic (Ok type) else function_judged AsExtern f.name type now) own
        ∙ ap (λ b. must b rule.MainOrIntrinsic (must (may_be_declared AsExtern f.name type now) rule.DeclaredTwice (Ok type))) (main-fits (read_numbers p) f good.form)
        ∙ ap (λ b. must b rule.DeclaredTwice (Ok type)) (may-be-new p names f.name new AsExtern type)

    left-is : (marks : List (At (List Attribute))) → entry_by marks ≡ written_entry f.entry → function_left p.target p.roles AsExtern f.name type marks None now ≡ Ok ([], behind)
    left-is marks is =
        let d = new_declared f.name AsExtern type (kind.Func None None) in
        ap (λ o. if is_some o then function_refused p.target p.roles None now else function_refused p.target p.roles None (with_function (entry_by marks) (declared f.name AsExtern type (kind.Func None None) now))) own
        ∙ ap (λ (r : ℕ × State). Ok ([], with_function (entry_by marks) r)) (declared-next p names f.name new AsExtern type (kind.Func None None))
        ∙ ap (λ e. Ok ([], with_function e (length names, unit_state p (names ++ d ∷ [])))) is
        ∙ ap (λ s. Ok ([], s)) (change-there p names [] (length names) d (function_declared p f) (with_entry (written_entry f.entry)) refl refl refl)

    named-is : (at : ℕ) (c : At Declr) (marks : List (At (List Attribute))) → entry_by marks ≡ written_entry f.entry → named_found p.target p.roles defined at (declares.Function AsExtern) type marks (init_of c at None).node (Some f.name) now ≡ Ok ([], behind)
    named-is at c marks is =
        ap (λ ms. declared_with p.target p.roles defined at (declares.Function AsExtern) f.name type ms None now) (append-nil marks)
        ∙ ap (λ (j : Judged CType). and_then (whole at now j) (λ t s. declared_left p.target p.roles defined at (declares.Function AsExtern) f.name t marks None s)) (judged-is (entry_by marks))
        ∙ left-is marks is

    prototype-found : (b : CType) (qs ss : List (At Spec)) (c : At Declr) (at : ℕ) → ShowsEntry f.entry qs → ShowsBase p.structures b ss → Declares p.structures b c.node (Function f.name (unnamed (out-Sig f.sig).params)) (out-Sig f.sig).result →
        item_found p.target p.roles defined (item.Decl (decl_of (qs ++ ss) c at None)) now ≡ Ok (checked, behind)
    prototype-found b qs ss c at entry base h =
        let setting = setting_of stands.AtFile (decl_of (qs ++ ss) c at None) now in
        let numbered_base = type_numbered (structure_number p) b in
        let entities : setting.entities ≡ entity.Function ∷ [] =
        ap (λ w. entity_of (category_of stands.AtFile w (name_function (qs ++ ss) now) c.node) ∷ []) (entry-storage p.structures b f.entry qs ss entry base)
        ∙ ap (λ k. entity_of k ∷ []) (function-category p b (out-Sig f.sig).result c.node f.name (unnamed (out-Sig f.sig).params) None (name_function (qs ++ ss) now) h) in
        let lead = entry-found p (structure_number p) defined now structures setting f.entry qs entities entry in
        one-found p (structure_number p) defined now structures (qs ++ ss) c at None f.name b type None lead.marks (declares.Function AsExtern) behind
        (behind-found p (structure_number p) defined now structures setting None lead.marks b qs ss lead.is base) refl
        (function-declarator p (structure_number p) defined now structures (sized p sound) f.name f.sig good.result good.parameters c at b h)
        (function-category p b (out-Sig f.sig).result c.node f.name (unnamed (out-Sig f.sig).params) None (is_function_type numbered_base) h)
        (named-is at c lead.marks lead.entry)

    pub item-found : (c : Item) → ShowsPrototype p f c → item_found p.target p.roles defined c now ≡ Ok (checked, behind)
    item-found _ (APrototypeItem b qs ss c at entry base h) = prototype-found b qs ss c at entry base h

  -- ---- all of them

  abbrev Items : List Func → List (At Item) → Type 0
  Items fs xs = ShowsExternals p (map APrototype fs) xs

  abbrev names_of : List Func → List Name
  names_of fs = map (λ (f : Func). f.name) fs

  functions-from : (done : List Declared) (fs : List Func) (xs : List (At Item)) → All (IsFunc p) fs → keys done ++ (names_of fs ++ object_names p) ≡ unit_keys p → Items fs xs →
      items_found p.target p.roles defined xs (unit_state p done) ≡ Ok (checked, unit_state p (done ++ map (function_declared p) fs))
  functions-from done [] _ good e NoExternal = ap (λ names. Ok (checked, unit_state p names)) (sym (append-nil done))
  functions-from done (f ∷ fs) _ good e (MoreExternals _ _ c cs h r) =
      let left = names_of fs ++ object_names p in
      let longer = done ++ function_declared p f ∷ [] in
      let n : length (keys done) ≡ length (keys done) + 0 = omega arith in
      let at : slice_get (unit_keys p) (length (keys done)) ≡ Some f.name = ap (λ ns. slice_get ns (length (keys done))) (sym e) ∙ second-there (keys done) (f.name ∷ left) (length (keys done)) 0 n in
      let new = next-new done f.name left (subst Distinct (sym e) (apart p sound)) in
      let keys_behind : keys longer ++ left ≡ unit_keys p =
      ap (λ ns. ns ++ left) (map-append key done (function_declared p f ∷ [])) ∙ append_assoc (keys done) (f.name ∷ []) left ∙ e in
      ap (λ (m : Found Checked). and_then m (in_turn (item_next p.target p.roles defined) cs)) (item-found done f (All-head (IsFunc p) f fs good) new (own-name p sound (length (keys done)) f.name at) c.node h)
      ∙ functions-from longer fs cs (All-tail (IsFunc p) f fs good) keys_behind r
      ∙ ap (λ names. Ok (checked, unit_state p names)) (append_assoc done (function_declared p f ∷ []) (map (function_declared p) fs))

  pub functions-found : (xs : List (At Item)) → Items p.funcs xs → items_found p.target p.roles defined xs (unit_state p (devices_declared p)) ≡ Ok (checked, unit_state p (functions_declared p))
  functions-found xs h = functions-from (devices_declared p) p.funcs xs sound.funcs (ap (λ ns. ns ++ (func_names p ++ object_names p)) (device-keys p.devices)) h

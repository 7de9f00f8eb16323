-- The declarations of a program's devices that have names, one behind another.
use Rattle.std.proofs.Common.{arith, ◌≡◌, ℕ, suc, ◌+◌, true, false, cond, not, ◌*◌, ◌^◌, nat_eq, nat_lt, List, [], ◌∷◌, ◌++◌, map, length, Option, Some, None, Ok, refl, ap, sym, ◌∙◌, subst, slice_get, append_assoc, length-append, eqb-true}
use Rattle.std.specs.Prelude.{if◌then◌else◌}
use Rattle.std.specs.List.{list_any, list_all, filter}
use Rattle.std.specs.Option.{is_none}
use Rattle.std.specs.Str.{bytes_eq}
use Rattle.std.proofs.lemmas.List.{map-append, append-nil}
use Rattle.cc_expression_trees.specs.Constants.{qualified}
use Rattle.cc_expression_trees.specs.Types.{Plain}
use Rattle.cc_type.specs.CcLinkage.Linkage.{linkage_of, new_declared}
use Rattle.cc_type.specs.CcLinkage.declared.linkage.DeclaredAs.TheVariants.{AsExtern}
use Rattle.cc_type.specs.CcObjects.Categories.{setting_of}
use Rattle.cc_type.specs.CcObjects.Linked.{device_by, object_kind}
use Rattle.cc_type.specs.CcObjects.Types.{type_given, composite_by}
use Rattle.cc_type.specs.CcObjects.declared.category.Category.TheVariants as declares
use Rattle.cc_type.specs.CcOperands.Verdicts.{Judged}
use Rattle.cc_type.specs.CcTypedTerms.Primary.{intrinsic_named}
use Rattle.cc_program.specs.declared.object.Device.{Device}
use Rattle.cc_program.specs.declared.program.Program.{Program}
use Rattle.cc_program.specs.declared.types.CType.{CType}
use Rattle.cc_program.specs.declared.types.Shape.{Int, out-Shape}
use Rattle.cc_program.specs.declared.types.Shape.TheOpen as shape
use Rattle.cc_program.specs.declared.types.Shape.TheVariants.{outs-Int}
use Rattle.cc_type.specs.CcScopes.State.{State, Name, name_or_none}
use Rattle.cc_type.specs.CcScopes.Verdicts.{Found, whole, and_then, Checked, checked}
use Rattle.cc_type.specs.CcScopes.declared.unit.Declared.{Declared}
use Rattle.cc_type.specs.CcSpecifiers.declared.storage.Where.TheVariants as stands
use Rattle.cc_type.specs.CcSyntax.Names.{with_name, device_names}
use Rattle.cc_type.specs.CcSyntax.Normal.{has_name}
use Rattle.cc_type.specs.CcSyntax.Sound.{IsSound, is_device, main_name}
use Rattle.cc_type.proofs.CcSyntax.Prefixes.{both_true}
use Rattle.cc_type.specs.CcTerms.InTurn.{in_turn}
use Rattle.cc_tree.specs.declared.at.At.{At}
use Rattle.cc_tree.specs.declared.tree.Declr.{Declr}
use Rattle.cc_tree.specs.declared.unit.Decl.{Decl}
use Rattle.cc_tree.specs.declared.unit.Item.{Item}
use Rattle.cc_tree.specs.declared.unit.Item.TheVariants as item
use Rattle.cc_type.specs.Units.{item_found, item_next, items_found}
use Rattle.cc_type.specs.CcTypedBodies.Declarations.{declared_left, named_found}
use Rattle.cc_type.specs.CcTypedBodies.Objects.{linked_known, linked_as}
use Rattle.cc_type.specs.CcUnit.declared.unit.UnitKind.TheVariants as kind
use Rattle.cc_unit_trees.specs.Externals.{ADevice}
use Rattle.cc_unit_trees.specs.Items.{ShowsDevice, ADevice as ADeviceItem}
use Rattle.cc_unit_trees.specs.Programs.{ShowsExternals, NoExternal, MoreExternals}
use Rattle.cc_unit_trees.specs.Units.{ShowsDecl, ShowsOne}
use Rattle.cc_program.specs.CcWords.declared.word.Word.TheVariants as w
use Rattle.cc_shown_declarations.specs.Order.{appearance, structure_number}
use Rattle.cc_shown_declarations.specs.States.{first_state}
use Rattle.cc_shown_expressions.specs.Known.{KnowsStructures}
use Rattle.cc_shown_expressions.specs.Numbers.{type_numbered}
use Rattle.cc_shown_expressions.proofs.Words.{start, words-found}
use Rattle.cc_shown_names.specs.Names.{device_declared}
use Rattle.cc_shown_names.specs.States.{unit_state, devices_declared}
use Rattle.cc_shown_names.proofs.Base.{structures-in, sized, apart, own-name, not-main}
use Rattle.cc_shown_names.proofs.Keys.{Distinct, second-there, func_names, object_names, unit_keys}
use Rattle.cc_shown_names.proofs.ObjectTypes.{integer-fits, integer-numbered}
use Rattle.cc_shown_names.proofs.One.{init_of, decl_of, behind-found, one-found, linked-is, object-declarator, object-category}
use Rattle.cc_shown_names.proofs.Scope.{key, keys, IsNew, next-new, linked-new, declared-next, may-be-new}

module _ (p : Program) (sound : IsSound p) (known : KnowsStructures p (structure_number p) (first_state p (length p.structures) (appearance p))) (defined : List Name) where
  abbrev numbered : CType → CType
  numbered t = type_numbered (structure_number p) t

  -- ---- one more

  module _ (names : List Declared) (d : Device) (x : Name) (named : d.name ≡ Some x) (unnumbered : d.number ≡ 0) (new : IsNew x names) (own : intrinsic_named p.roles x ≡ None) (other : bytes_eq x main_name ≡ false) (extern : list_any (bytes_eq x) defined ≡ false) where
    abbrev now : State
    now = unit_state p names

    abbrev structures : KnowsStructures p (structure_number p) now
    structures = structures-in p known names

    abbrev type : CType
    type = qualified d.constant true (shape.Int d.int)

    abbrev as_declared : CType
    as_declared = record { constant = d.constant; volatile = true; shape = Int d.int }

    type-is : numbered type ≡ as_declared
    type-is = integer-numbered (structure_number p) d.constant true d.int

    device-is : new_declared x AsExtern (numbered type) (object_kind defined AsExtern x (numbered type)) ≡ device_declared d
    device-is =
        ap (λ (t : CType). new_declared x AsExtern t (object_kind defined AsExtern x t)) type-is
        ∙ ap (λ b. new_declared x AsExtern as_declared (device_by x as_declared (not b) (out-Shape as_declared.shape))) extern
        ∙ ap (λ y. new_declared x AsExtern as_declared (device_by x as_declared true y)) (outs-Int d.int)
        ∙ ap (λ (o : Option Name). record { name = o; linkage = linkage_of AsExtern; ctype = as_declared; first = None; tentative = false; definitions = 0; kind = kind.Device (record { name = o; number = 0; int = d.int; constant = d.constant }) }) (sym named)
        ∙ ap (λ k. record { name = d.name; linkage = linkage_of AsExtern; ctype = as_declared; first = None; tentative = false; definitions = 0; kind = kind.Device (record { name = d.name; number = k; int = d.int; constant = d.constant }) }) (sym unnumbered)

    abbrev behind : State
    behind = unit_state p (names ++ device_declared d ∷ [])

    left-is : (at : ℕ) → declared_left p.target p.roles defined at (declares.Linked AsExtern) x (numbered type) [] None now ≡ Ok ([], behind)
    left-is at =
        ap (λ o. linked_as p.target p.roles defined at AsExtern x (composite_by x (numbered type) now o) (type_given (composite_by x (numbered type) now o) None now) None now) (linked-new 0 names x new)
        ∙ ap (λ (r : ℕ × State). linked_known p.target p.roles at AsExtern (numbered type) (numbered type) None r) (declared-next p names x new AsExtern (numbered type) (object_kind defined AsExtern x (numbered type)))
        ∙ ap (λ (e : Declared). Ok ([], unit_state p (names ++ e ∷ []))) device-is

    named-is : (at : ℕ) (c : At Declr) → named_found p.target p.roles defined at (declares.Linked AsExtern) (numbered type) [] (init_of c at None).node (Some x) now ≡ Ok ([], behind)
    named-is at c =
        ap (λ (j : Judged CType). and_then (whole at now j) (λ t s. declared_left p.target p.roles defined at (declares.Linked AsExtern) x t [] None s))
        (linked-is p (structure_number p) defined now structures (sized p sound) x type (integer-fits p d.constant true d.int) own other AsExtern None (may-be-new p names x new AsExtern (numbered type)))
        ∙ left-is at

    decl-found : (c : Decl) → ShowsDecl p.structures (w.Extern ∷ []) (Plain (Some x)) type c → item_found p.target p.roles defined (item.Decl c) now ≡ Ok (checked, behind)
    decl-found _ (ShowsOne b qs ss c at words base h) =
        let fits = integer-fits p d.constant true d.int in
        let setting = setting_of stands.AtFile (decl_of (qs ++ ss) c at None) now in
        let lead = words-found p.target p.roles setting (w.Extern ∷ []) qs words (start None []) (start (Some w.Extern) []) now refl in
        one-found p (structure_number p) defined now structures (qs ++ ss) c at None x b (numbered type) (Some w.Extern) [] (declares.Linked AsExtern) behind
        (behind-found p (structure_number p) defined now structures setting (Some w.Extern) [] b qs ss lead base) refl
        (object-declarator p (structure_number p) defined now structures (sized p sound) x type fits own other c at None b h)
        (object-category p (structure_number p) defined now structures (sized p sound) x type fits own other c.node b (Some w.Extern) h)
        (named-is at c)

  -- ---- all of them

  abbrev rest : List Name
  rest = func_names p ++ object_names p

  -- the first of those that are left
  first-at : (done : List Declared) (x : Name) (left : List Name) → keys done ++ (x ∷ left) ≡ device_names p.devices → slice_get (unit_keys p) (length (keys done)) ≡ Some x
  first-at done x left e =
      let n : length (keys done) ≡ length (keys done) + 0 = omega arith in
      ap (λ ns. slice_get (ns ++ rest) (length (keys done))) (sym e) ∙ ap (λ ns. slice_get ns (length (keys done))) (append_assoc (keys done) (x ∷ left) rest) ∙ second-there (keys done) (x ∷ (left ++ rest)) (length (keys done)) 0 n

  first-new : (done : List Declared) (x : Name) (left : List Name) → keys done ++ (x ∷ left) ≡ device_names p.devices → IsNew x done
  first-new done x left e =
      next-new done x (left ++ rest)
      (subst Distinct (ap (λ ns. ns ++ rest) (sym e) ∙ append_assoc (keys done) (x ∷ left) rest) (apart p sound))

  first-device : (done : List Declared) (x : Name) (left : List Name) → keys done ++ (x ∷ left) ≡ device_names p.devices → (j : ℕ) → length (keys done) ≡ length (device_names p.devices) + j → ⊥
  first-device done x left e j h =
      let n : length (keys done) + suc (length left) ≡ length (device_names p.devices) = sym (length-append (keys done) (x ∷ left)) ∙ ap length e in
      absurd (omega (arith, n, h))

  number-is : (d : Device) (o : Option Name) (x : Name) → d.name ≡ o → o ≡ Some x → is_device p.target d ≡ true → d.number ≡ 0
  number-is d None x e f h = absurd (cc)
  number-is d (Some y) x e f h =
      eqb-true d.number 0 (sym (ap (λ (o : Option Name). if is_none o then nat_lt d.number (2 ^ (8 * p.target.pointer_bytes)) else nat_eq d.number 0) e) ∙ h)

  abbrev Items : List Device → List (At Item) → Type 0
  Items ds xs = ShowsExternals p (map ADevice ds) xs

  abbrev Found_behind : List Declared → List Device → List (At Item) → Type 0
  Found_behind done ds xs = items_found p.target p.roles defined xs (unit_state p done) ≡ Ok (checked, unit_state p (done ++ map device_declared ds))

  abbrev Extern : List Device → Type 0
  Extern ds = (i : ℕ) (d : Device) (x : Name) → slice_get ds i ≡ Some d → d.name ≡ Some x → list_any (bytes_eq x) defined ≡ false

  one-more : (done : List Declared) (d : Device) (x : Name) (left : List Name) (c : Item) → ShowsDevice p d c → d.name ≡ Some x → is_device p.target d ≡ true → keys done ++ (x ∷ left) ≡ device_names p.devices → list_any (bytes_eq x) defined ≡ false →
      item_found p.target p.roles defined c (unit_state p done) ≡ Ok (checked, unit_state p (done ++ device_declared d ∷ []))
  one-more done d x left _ (ADeviceItem y c is shown) named good e extern =
      let two : Some y ≡ Some x = sym is ∙ named in
      let same : y ≡ x = cc in
      let i = first-at done x left e in
      decl-found done d x named (number-is d d.name x refl named good) (first-new done x left e) (own-name p sound (length (keys done)) x i) (not-main p sound (length (keys done)) x i (λ j z g k. first-device done x left e j k)) extern c
      (subst (λ y. ShowsDecl p.structures (w.Extern ∷ []) (Plain (Some y)) (qualified d.constant true (shape.Int d.int)) c) same shown)

  abbrev Next : List Device → Type 0
  Next ds = (done : List Declared) (cs : List (At Item)) → keys done ++ device_names ds ≡ device_names p.devices → Items (filter has_name ds) cs → Found_behind done (filter has_name ds) cs

  devices-more : (done : List Declared) (d : Device) (ds : List Device) (xs : List (At Item)) (x : Name) → d.name ≡ Some x → is_device p.target d ≡ true → keys done ++ (x ∷ device_names ds) ≡ device_names p.devices → list_any (bytes_eq x) defined ≡ false → Next ds →
      Items (d ∷ filter has_name ds) xs → Found_behind done (d ∷ filter has_name ds) xs
  devices-more done d ds _ x is good e extern next (MoreExternals _ _ c cs h r) =
      let longer = done ++ device_declared d ∷ [] in
      let keys_behind : keys longer ++ device_names ds ≡ device_names p.devices =
      ap (λ ns. ns ++ device_names ds) (map-append key done (device_declared d ∷ []) ∙ ap (λ (o : Option Name). keys done ++ name_or_none o ∷ []) is)
      ∙ append_assoc (keys done) (x ∷ []) (device_names ds) ∙ e in
      ap (λ (m : Found Checked). and_then m (in_turn (item_next p.target p.roles defined) cs)) (one-more done d x (device_names ds) c.node h is good e extern)
      ∙ next longer cs keys_behind r
      ∙ ap (λ names. Ok (checked, unit_state p names)) (append_assoc done (device_declared d ∷ []) (map device_declared (filter has_name ds)))

  devices-by : (done : List Declared) (d : Device) (ds : List Device) (xs : List (At Item)) (o : Option Name) → d.name ≡ o → is_device p.target d ≡ true → keys done ++ with_name d.name (device_names ds) ≡ device_names p.devices → ((x : Name) → d.name ≡ Some x → list_any (bytes_eq x) defined ≡ false) → Next ds →
      Items (cond (has_name d) (d ∷ filter has_name ds) (filter has_name ds)) xs → Found_behind done (cond (has_name d) (d ∷ filter has_name ds) (filter has_name ds)) xs
  devices-by done d ds xs None is good e extern next h =
      let skip : has_name d ≡ false = ap (λ (o : Option Name). not (is_none o)) is in
      subst (λ b. Found_behind done (cond b (d ∷ filter has_name ds) (filter has_name ds)) xs) (sym skip)
      (next done xs (ap (λ o. keys done ++ with_name o (device_names ds)) (sym is) ∙ e) (subst (λ b. Items (cond b (d ∷ filter has_name ds) (filter has_name ds)) xs) skip h))
  devices-by done d ds xs (Some x) is good e extern next h =
      let keep : has_name d ≡ true = ap (λ (o : Option Name). not (is_none o)) is in
      subst (λ b. Found_behind done (cond b (d ∷ filter has_name ds) (filter has_name ds)) xs) (sym keep)
      (devices-more done d ds xs x is good (ap (λ o. keys done ++ with_name o (device_names ds)) (sym is) ∙ e) (extern x is) next (subst (λ b. Items (cond b (d ∷ filter has_name ds) (filter has_name ds)) xs) keep h))

  devices-from : (ds : List Device) → list_all (is_device p.target) ds ≡ true → Extern ds → Next ds
  devices-from [] good extern done _ e NoExternal = ap (λ names. Ok (checked, unit_state p names)) (sym (append-nil done))
  devices-from (d ∷ ds) good extern done xs e h =
      let goods = both_true (is_device p.target d) (list_all (is_device p.target) ds) good in
      devices-by done d ds xs d.name refl goods.0 e (λ x k. extern 0 d x refl k) (devices-from ds goods.1 (λ i c x g k. extern (suc i) c x g k)) h

  pub devices-found : Extern p.devices → (xs : List (At Item)) → Items (filter has_name p.devices) xs → items_found p.target p.roles defined xs (unit_state p []) ≡ Ok (checked, unit_state p (devices_declared p))
  devices-found extern xs h = devices-from p.devices sound.devices extern [] xs refl h

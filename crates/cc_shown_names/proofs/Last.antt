-- What definitions leave known: each function with its body, and the devices without names that they use, in order.
use Rattle.std.proofs.Common.{arith, ◌≡◌, ◌≤◌, ℕ, zero, suc, ◌+◌, ◌-◌, true, List, [], ◌∷◌, ◌++◌, map, length, take, drop, Option, Some, None, unwrap_or, refl, ap, sym, ◌∙◌, append_assoc, length-append, eqb-true}
use Rattle.std.specs.List.{flat_map}
use Rattle.std.proofs.Math.Seq.{take-add}
use Rattle.std.proofs.lemmas.List.{map-append, append-nil, drop-drop, take_rest}
use Rattle.cc_type.specs.CcTypedTerms.Devices.{declared_device}
use Rattle.cc_program.specs.declared.func.Entry.{Entry}
use Rattle.cc_program.specs.declared.func.Func.{Func}
use Rattle.cc_program.specs.declared.program.Program.{Program}
use Rattle.cc_type.specs.CcScopes.Definitions.{defined_at}
use Rattle.cc_type.specs.CcScopes.State.{State, with_names, with_locals, change_at, change_name}
use Rattle.cc_type.specs.CcScopes.declared.unit.Declared.{Declared}
use Rattle.cc_type.specs.CcSyntax.Lists.{come_first, is_count}
use Rattle.cc_type.specs.CcSyntax.Normal.{has_name, count_named, devices_in, devices_in_text, next_of, IsNormal}
use Rattle.cc_type.proofs.CcSyntax.Prefixes.{both_true}
use Rattle.cc_tree.specs.declared.at.At.{At}
use Rattle.cc_tree.specs.declared.unit.Item.{Item}
use Rattle.cc_type.specs.Functions.{entry_of, defined_as}
use Rattle.cc_type.specs.CcUnit.declared.unit.UnitKind.TheVariants as kind
use Rattle.cc_unit_trees.specs.Externals.{AFunction}
use Rattle.cc_unit_trees.specs.Programs.{ShowsExternals, NoExternal, MoreExternals}
use Rattle.cc_unit_trees.specs.Units.{ShowsFunction, ShowsDefinition}
use Rattle.cc_shown_declarations.specs.Entries.{written_entry}
use Rattle.cc_shown_declarations.specs.Order.{appearance}
use Rattle.cc_shown_declarations.specs.States.{tag_entry}
use Rattle.cc_shown_names.specs.Definitions.{ShowsFunctions, NoFunction, MoreFunctions, place_of, devices_behind, with_definitions}
use Rattle.cc_shown_names.specs.Devices.{between, with_devices}
use Rattle.cc_shown_names.specs.Functions.{type_of_function, func_numbered}
use Rattle.cc_shown_names.proofs.Changes.{next-parted, stays-there}
use Rattle.cc_shown_names.proofs.Order.{next-least}
use Rattle.cc_shown_names.specs.Names.{function_declared, function_defined, object_given, placed}
use Rattle.cc_shown_names.specs.Numbers.{read_numbers}
use Rattle.cc_shown_names.specs.States.{place_in, places, unit_state, devices_declared, objects_given, all_defined, last_state}
use Rattle.cc_shown_names.proofs.KnownStates.{count-devices}
use Rattle.cc_shown_names.proofs.Scope.{changed-next, next-there, bound-same, middle-keys}

-- ---- parts of a list, one behind the other

pub between-joined : {A : Type 0} → (xs : List A) (a b m : ℕ) → a ≤ b → b ≤ m → between a b xs ++ between b m xs ≡ between a m xs
between-joined xs a b m l k =
    let e : b ≡ a + (b - a) = omega (arith, l) in
    let f : m - a ≡ (b - a) + (m - b) = omega (arith, l, k) in
    ap (λ ys. between a b xs ++ take (m - b) ys) (ap (λ n. drop n xs) e ∙ sym (drop-drop (b - a) a xs))
    ∙ sym (take-add (b - a) (m - b) (drop a xs)) ∙ ap (λ n. take n (drop a xs)) (sym f)

shows-place : (p : Program) (f : Func) (x : Item) → ShowsFunction p f x → place_of x ≡ place_in x
shows-place p f _ (ShowsDefinition b ss d xs ys h k l m) = refl

pub shown-functions : (p : Program) (fs : List Func) (xs : List (At Item)) → ShowsExternals p (map AFunction fs) xs → ShowsFunctions p fs xs
shown-functions p [] _ NoExternal = NoFunction
shown-functions p (f ∷ fs) _ (MoreExternals _ _ x xs h r) = MoreFunctions f fs x xs h (shown-functions p fs xs r)

module _ (p : Program) where
  -- names that are in scope, and devices behind them that are not
  abbrev pub loose : List Declared → List Declared → State
  loose names more = with_names (names ++ more) (unit_state p names)

  abbrev used : ℕ → ℕ → List Declared
  used a b = map declared_device (between a b p.devices)

  abbrev one_defined : ℕ → ℕ → Func → State → State
  one_defined at i f s = defined_as at ((read_numbers p).func i) (type_of_function (read_numbers p) f) (func_numbered (read_numbers p) f) s

  abbrev made : ℕ → Func → Option Entry → Declared → Declared
  made at f e d = defined_at at (type_of_function (read_numbers p) f) (kind.Func e (Some (func_numbered (read_numbers p) f))) d

  behind-uses : (a b : ℕ) (names more : List Declared) → with_locals [] (with_devices p a b (loose names more)) ≡ loose names (more ++ used a b)
  behind-uses a b names more = ap (λ ds. with_names ds (unit_state p names)) (append_assoc names more (used a b))

  changed-in : (at k : ℕ) (f : Func) (pre rest more : List Declared) → k ≡ length pre →
      change_at k (made at f (written_entry f.entry)) ((pre ++ (function_declared p f ∷ rest)) ++ more) ≡ (pre ++ (function_defined p at f ∷ rest)) ++ more
  changed-in at k f pre rest more e =
      ap (change_at k (made at f (written_entry f.entry))) (append_assoc pre (function_declared p f ∷ rest) more)
      ∙ changed-next pre k (made at f (written_entry f.entry)) (function_declared p f) (rest ++ more) e
      ∙ sym (append_assoc pre (function_defined p at f ∷ rest) more)

  one-is : (at i : ℕ) (f : Func) (pre rest more : List Declared) → (read_numbers p).func i ≡ length pre →
      one_defined at i f (loose (pre ++ (function_declared p f ∷ rest)) more) ≡ loose (pre ++ (function_defined p at f ∷ rest)) more
  one-is at i f pre rest more e =
      let k = (read_numbers p).func i in
      let names = pre ++ (function_declared p f ∷ rest) in
      let s = loose names more in
      let u = unit_state p names in
      ap (λ d. change_name k (made at f (entry_of d)) s) (stays-there names more k (function_declared p f) (next-there pre k (function_declared p f) rest e))
      ∙ ap (λ ds. with_names ds u) (changed-in at k f pre rest more e)
      ∙ ap (λ ns. record { scopes = record { names = ns; tags = map (tag_entry p) (appearance p) } ∷ []; structures = u.structures; completed = u.completed; names = (pre ++ (function_defined p at f ∷ rest)) ++ more; locals = []; unfinished = None })
      (bound-same names (pre ++ (function_defined p at f ∷ rest)) (middle-keys pre rest (function_declared p f) (function_defined p at f) refl))

  abbrev names_with : List Declared → List Func → List Declared → List Declared
  names_with pre fs post = pre ++ (map (function_declared p) fs ++ post)

  behind-is : (a b : ℕ) (f : Func) → next_of a (devices_in f.body) ≡ Some b → devices_behind a f ≡ b
  behind-is a b f h = ap (λ o. unwrap_or o a) h

  definitions-are : (fs : List Func) (xs : List (At Item)) (i a m : ℕ) (pre post more : List Declared) → ShowsFunctions p fs xs → (read_numbers p).func i ≡ length pre → next_of a (flat_map (λ (f : Func). devices_in f.body) fs) ≡ Some m →
      with_definitions p (read_numbers p) fs xs i a (loose (names_with pre fs post) more) ≡ loose (pre ++ (placed (function_defined p) (places xs) fs ++ post)) (more ++ used a m)
  definitions-are _ _ i a m pre post more NoFunction e next =
      let same : a ≡ m = cc in
      let none : m - a ≡ zero = omega (arith, same) in
      ap (λ ds. loose (pre ++ post) ds) (sym (ap (λ n. more ++ map declared_device (take n (drop a p.devices))) none ∙ append-nil more))
  definitions-are _ _ i a m pre post more (MoreFunctions f fs x xs h r) e next =
      let rest_uses = flat_map (λ (f : Func). devices_in f.body) fs in
      let q = next-parted (devices_in f.body) rest_uses a m next in
      let b = q.0 in
      let at = place_in x.node in
      let d = function_defined p at f in
      let names = names_with pre (f ∷ fs) post in
      let rest = map (function_declared p) fs ++ post in
      let longer = pre ++ d ∷ [] in
      let n : (read_numbers p).func (suc i) ≡ length longer = let k = length-append pre (d ∷ []) in omega (arith, e, k) in
      let first = next-least (devices_in f.body) a b q.1 in
      let second = next-least rest_uses b m q.2 in
      ap (λ b. with_definitions p (read_numbers p) fs xs (suc i) b (one_defined (place_of x.node) i f (with_locals [] (with_devices p a b (loose names more))))) (behind-is a b f q.1)
      ∙ ap (λ at. with_definitions p (read_numbers p) fs xs (suc i) b (one_defined at i f (with_locals [] (with_devices p a b (loose names more))))) (shows-place p f x.node h)
      ∙ ap (λ s. with_definitions p (read_numbers p) fs xs (suc i) b (one_defined at i f s)) (behind-uses a b names more)
      ∙ ap (λ s. with_definitions p (read_numbers p) fs xs (suc i) b s) (one-is at i f pre rest (more ++ used a b) e ∙ ap (λ ns. loose ns (more ++ used a b)) (sym (append_assoc pre (d ∷ []) rest)))
      ∙ definitions-are fs xs (suc i) b m longer post (more ++ used a b) r n q.2
      ∙ ap (λ ns. loose ns ((more ++ used a b) ++ used b m)) (append_assoc pre (d ∷ []) (placed (function_defined p) (places xs) fs ++ post))
      ∙ ap (λ ds. loose (pre ++ (d ∷ (placed (function_defined p) (places xs) fs ++ post))) ds)
      (append_assoc more (used a b) (used b m) ∙ ap (λ ds. more ++ ds) (sym (map-append declared_device (between a b p.devices) (between b m p.devices)) ∙ ap (map declared_device) (between-joined p.devices a b m first second)))

  -- ---- all of them

  last-count : (n : ℕ) (o : Option ℕ) → is_count n o ≡ true → o ≡ Some n
  last-count n None h = absurd (cc)
  last-count n (Some m) h = ap Some (sym (eqb-true n m h))

  module _ (normal : IsNormal p) where
    pub all-used : next_of (count_named p.devices) (devices_in_text p) ≡ Some (length p.devices)
    all-used =
        last-count (length p.devices) (next_of (count_named p.devices) (devices_in_text p))
        (both_true (come_first has_name p.devices) (is_count (length p.devices) (next_of (count_named p.devices) (devices_in_text p))) normal.devices).1

    pub last-is : (objects : List ℕ) (xs : List (At Item)) → ShowsFunctions p p.funcs xs →
        with_definitions p (read_numbers p) p.funcs xs 0 (count_named p.devices) (unit_state p (objects_given p objects)) ≡ last_state p objects (places xs)
    last-is objects xs h =
        let post = placed (object_given p) objects p.objects in
        let c = count_named p.devices in
        let whole = append_assoc (devices_declared p) (map (function_declared p) p.funcs) post in
        let n : (read_numbers p).func 0 ≡ length (devices_declared p) = let k = count-devices p in omega (arith, k) in
        ap (λ ns. with_definitions p (read_numbers p) p.funcs xs 0 c (unit_state p ns)) whole
        ∙ ap (λ ds. with_definitions p (read_numbers p) p.funcs xs 0 c (with_names ds (unit_state p (names_with (devices_declared p) p.funcs post)))) (sym (append-nil (names_with (devices_declared p) p.funcs post)))
        ∙ definitions-are p.funcs xs 0 c (length p.devices) (devices_declared p) post [] h n all-used
        ∙ ap (λ ns. loose ns (used c (length p.devices))) (sym (append_assoc (devices_declared p) (placed (function_defined p) (places xs) p.funcs) post))
        ∙ ap (λ ds. loose (all_defined p objects (places xs)) (map declared_device ds)) (take_rest p.devices c)

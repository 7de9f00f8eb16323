-- The definitions of a program's functions, one behind another.
use Rattle.std.proofs.Common.{◌≡◌, ℕ, zero, suc, ◌≤◌, true, List, [], ◌∷◌, length, drop, Some, Ok, unwrap_or, refl, ap, sym, ◌∙◌, subst, slice_get, arith}
use Rattle.std.specs.List.{flat_map, list_all}
use Rattle.cc_unit_trees.specs.Units.{ShowsFunction, ShowsDefinition}
use Rattle.cc_program.specs.declared.func.Func.{Func}
use Rattle.cc_program.specs.declared.program.Program.{Program}
use Rattle.cc_type.specs.CcScopes.State.{State, with_locals}
use Rattle.cc_type.specs.CcScopes.Verdicts.{Found, and_then, Checked, checked}
use Rattle.cc_type.specs.CcSyntax.Normal.{devices_in, is_normal_body, next_of}
use Rattle.cc_type.specs.CcSyntax.Sizes.{AreSized}
use Rattle.cc_type.specs.CcSyntax.Sound.{IsSound, IsFunc}
use Rattle.cc_type.proofs.CcSyntax.Parts.{all_at}
use Rattle.cc_type.specs.CcTerms.InTurn.{in_turn}
use Rattle.cc_tree.specs.declared.at.At.{At}
use Rattle.cc_tree.specs.declared.unit.Item.{Item}
use Rattle.cc_type.specs.Functions.{defined_as}
use Rattle.cc_type.specs.Units.{item_found, item_next, items_found}
use Rattle.cc_shown_names.specs.Bodies.{first_locals}
use Rattle.cc_shown_names.specs.Definitions.{ShowsFunctions, NoFunction, MoreFunctions, KnowsFile, place_of, devices_behind, with_definitions}
use Rattle.cc_shown_names.proofs.Changes.{next-parted}
use Rattle.cc_shown_names.proofs.Declared.{functions-declared}
use Rattle.cc_shown_names.proofs.KnownOutside.{known-is, may-be-defined, names-there, names-alone, behind, linked-still, devices-still, function-still, function-behind}
use Rattle.cc_shown_expressions.proofs.Stand.{tested-at, types-stand}
use Rattle.cc_shown_names.specs.Functions.{type_of_function, func_numbered}
use Rattle.cc_shown_names.proofs.Functions.{definition-found}
use Rattle.cc_shown_expressions.specs.KnownNames.{KnowsNames}
use Rattle.cc_shown_expressions.specs.OperationNumbers.{Numbers}
use Rattle.cc_shown_names.specs.Devices.{KnowsDevices, with_devices}
use Rattle.cc_shown_names.proofs.Order.{next-least, uses-known}
use Rattle.cc_shown_names.proofs.Uses.{names-used}

-- ---- lists

dropped-first : {A : Type 0} → (xs : List A) (k : ℕ) (x : A) (ys : List A) → drop k xs ≡ x ∷ ys → slice_get xs k ≡ Some x
dropped-first [] zero x ys h = absurd (cc)
dropped-first [] (suc k) x ys h = absurd (cc)
dropped-first (z ∷ xs) zero x ys h = let e : z ≡ x = cc in ap Some e
dropped-first (z ∷ xs) (suc k) x ys h = dropped-first xs k x ys h

dropped-rest : {A : Type 0} → (xs : List A) (k : ℕ) (x : A) (ys : List A) → drop k xs ≡ x ∷ ys → drop (suc k) xs ≡ ys
dropped-rest [] zero x ys h = absurd (cc)
dropped-rest [] (suc k) x ys h = absurd (cc)
dropped-rest (z ∷ []) zero x ys h = cc
dropped-rest (z ∷ y ∷ xs) zero x ys h = cc
dropped-rest (z ∷ xs) (suc k) x ys h = dropped-rest xs k x ys h

module _ (p : Program) (n : Numbers) (sound : IsSound p) where
  abbrev one_defined : ℕ → ℕ → ℕ → ℕ → Func → State → State
  one_defined at i a b f s = defined_as at (n.func i) (type_of_function n f) (func_numbered n f) (with_locals [] (with_devices p a b s))

  -- ---- what is known behind a definition

  pub file-behind : (at i a b : ℕ) (f : Func) (s : State) → slice_get p.funcs i ≡ Some f → KnowsFile p n a s → next_of a (devices_in f.body) ≡ Some b → b ≤ length p.devices → KnowsFile p n b (one_defined at i a b f s)
  file-behind at i a b f s there known next few =
      let uses = uses-known p n sound.distinct_devices (devices_in f.body) a b s known.devices next few in
      let t = with_locals [] (with_devices p a b s) in
      let own = function-behind p n a b s f (n.func i) (known.functions i f there) in
      let k = n.func i in
      let body = func_numbered n f in
      record {
        names = λ g. names-there p (first_locals 0 g) n t (behind n f k t own at body).names (linked-still n f k t own at body)
            (names-alone p (first_locals 0 g) n (with_devices p a b s) [] (names-used p n (first_locals 0 g) (devices_in f.body) s (with_devices p a b s) (known.names g) uses.0));
        functions = λ j g h. function-still n f k t own at body g (n.func j) (function-behind p n a b s g (n.func j) (known.functions j g h));
        devices = devices-still n f k t own at body p b uses.1;
      }

  -- how many devices are known
  behind-is : (a b : ℕ) (f : Func) → next_of a (devices_in f.body) ≡ Some b → devices_behind a f ≡ b
  behind-is a b f h = ap (λ o. unwrap_or o a) h

  pub all-behind : (fs : List Func) (xs : List (At Item)) (i a m : ℕ) (s : State) → drop i p.funcs ≡ fs → length xs ≡ length fs → KnowsFile p n a s → next_of a (flat_map (λ (f : Func). devices_in f.body) fs) ≡ Some m → m ≤ length p.devices →
      KnowsFile p n m (with_definitions p n fs xs i a s)
  all-behind [] xs i a m s left long known next few = let e : a ≡ m = cc in subst (λ m. KnowsFile p n m s) e known
  all-behind (f ∷ fs) [] i a m s left long known next few = absurd (omega (arith, long))
  all-behind (f ∷ fs) (x ∷ xs) i a m s left long known next few =
      let rest = flat_map (λ (f : Func). devices_in f.body) fs in
      let q = next-parted (devices_in f.body) rest a m next in
      let least = next-least rest q.0 m q.2 in
      let e = behind-is a q.0 f q.1 in
      let first = file-behind (place_of x.node) i a q.0 f s (dropped-first p.funcs i f fs left) known q.1 (omega (arith, least, few)) in
      let short : length xs ≡ length fs = omega (arith, long) in
      subst (λ b. KnowsFile p n m (with_definitions p n fs xs (suc i) b (one_defined (place_of x.node) i a b f s))) (sym e)
      (all-behind fs xs (suc i) q.0 m (one_defined (place_of x.node) i a q.0 f s) (dropped-rest p.funcs i f fs left) short first q.2 few)

  -- ---- definitions one behind another

  module _ (sized : AreSized p.structures p.target) (normal : list_all (λ (f : Func). is_normal_body p.target f) p.funcs ≡ true) (defined : List (List ℕ)) where
    one-found : (i a b : ℕ) (f : Func) (x : Item) (s : State) → slice_get p.funcs i ≡ Some f → ShowsFunction p f x → KnowsFile p n a s → next_of a (devices_in f.body) ≡ Some b → b ≤ length p.devices →
        item_found p.target p.roles defined x s ≡ Ok (checked, one_defined (place_of x) i a b f s)
    one-found i a b f _ s there (ShowsDefinition base ss d xs ys shows_base shows_declarator locals statements) known next few =
        let k = n.func i in
        let own = known.functions i f there in
        let structures = (known.names f).structures in
        let is = known-is p n f k s own in
        definition-found p i f n defined sound sized (types-stand p sound i f there) there (all_at (IsFunc p) p.funcs i f there sound.funcs) s (may-be-defined p n f k s own) a b
        (tested-at (λ (f : Func). is_normal_body p.target f) p.funcs i f normal there)
        (subst (λ (r : ℕ × State). KnowsNames p (first_locals 0 f) n r.1) (sym is) (known.names f))
        (subst (λ (r : ℕ × State). KnowsDevices p n a r.1.names) (sym is) known.devices) next few
        base ss d xs ys shows_base (functions-declared p n sound sized s structures i f there base d shows_declarator) locals statements structures
        ∙ ap (λ (r : ℕ × State). Ok (checked, defined_as d.at r.0 (type_of_function n f) (func_numbered n f) (with_locals [] (with_devices p a b r.1)))) is

    pub all-found : (fs : List Func) (xs : List (At Item)) → ShowsFunctions p fs xs → (i a m : ℕ) (s : State) → drop i p.funcs ≡ fs → KnowsFile p n a s → next_of a (flat_map (λ (f : Func). devices_in f.body) fs) ≡ Some m → m ≤ length p.devices →
        items_found p.target p.roles defined xs s ≡ Ok (checked, with_definitions p n fs xs i a s)
    all-found _ _ NoFunction i a m s left known next few = refl
    all-found _ _ (MoreFunctions f fs x xs h more) i a m s left known next few =
        let rest = flat_map (λ (f : Func). devices_in f.body) fs in
        let q = next-parted (devices_in f.body) rest a m next in
        let least = next-least rest q.0 m q.2 in
        let there = dropped-first p.funcs i f fs left in
        let e = behind-is a q.0 f q.1 in
        let u = one_defined (place_of x.node) i a q.0 f s in
        ap (λ (r : Found Checked). and_then r (λ done s. in_turn (item_next p.target p.roles defined) xs done s)) (one-found i a q.0 f x.node s there h known q.1 (omega (arith, least, few)))
        ∙ all-found fs xs more (suc i) q.0 m u (dropped-rest p.funcs i f fs left) (file-behind (place_of x.node) i a q.0 f s there known q.1 (omega (arith, least, few))) q.2 few
        ∙ ap (λ b. Ok (checked, with_definitions p n fs xs (suc i) b (one_defined (place_of x.node) i a b f s))) (sym e)

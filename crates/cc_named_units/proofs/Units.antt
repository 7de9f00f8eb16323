-- What a unit adds, item by item; and what the typed unit has that is left.
use Rattle.std.proofs.Common.{◌≡◌, ◌≤◌, ◌<◌, ◌+◌, ◌^◌, ℕ, zero, suc, Bool, true, false, ◌&&◌, List, [], ◌∷◌, ◌++◌, map, length, Option, Some, None, Ok, Err, refl, ap, ◌∙◌, length-append, arith}
use Rattle.std.specs.Prelude.{option_map, is_some, unwrap_or}
use Rattle.std.specs.List.{list_all}
use Rattle.std.proofs.lemmas.Bool.{lt-ltb}
use Rattle.std.proofs.lemmas.List.{length-map}
use Rattle.std.proofs.lemmas.List.Folds.{list_all-append}
use Rattle.cc_named_units.specs.Counts.{each_count, decl_count, item_count, unit_count}
use Rattle.cc_named_units.proofs.Declarations.{declaration_adds}
use Rattle.cc_named_units.proofs.Adding.{adds_through, before, done}
use Rattle.cc_named_units.proofs.Cycle.{front_few, rest_few}
use Rattle.cc_named_units.specs.Named.{Limits, is_own, AreFewNames, HasFewMembers, IsNamedStructure, HasFewLocals, IsNamedEntry, IsNamedState, Adds}
use Rattle.cc_named_units.specs.Names.{each_named, tag_named, item_named, unit_named}
use Rattle.cc_program.specs.CcNum.declared.target.Target.{Target}
use Rattle.cc_type.specs.CcNumbering.Names.{kind_in, name_in}
use Rattle.cc_type.specs.CcNumbering.Numbers.{unless, only_named, order_of, numbers_of}
use Rattle.cc_type.specs.CcNumbering.Structures.{named_in, all_named_in, structure_in, structure_at, structures_in}
use Rattle.cc_type.specs.CcNumbering.Units.{ids_of, unit_left}
use Rattle.cc_program.proofs.Each.{Each}
use Rattle.cc_program.specs.declared.program.Roles.{Roles}
use Rattle.cc_type.specs.CcScopes.State.{State, Name, KnownStructure, at_first}
use Rattle.cc_type.specs.CcScopes.Verdicts.{Found, Checked, checked}
use Rattle.cc_type.specs.CcScopes.declared.unit.Declared.{Declared}
use Rattle.cc_relocated_units.specs.Units.{may_name, are_few_names, has_few_locals, IsOfText}
use Rattle.cc_sound_terms.proofs.Founds.{answer, then_found}
use Rattle.cc_type.specs.CcSpecifiers.declared.storage.Where.TheVariants as stands
use Rattle.cc_type.proofs.CcSyntax.Prefixes.{both_true}
use Rattle.cc_type.proofs.CcSyntax.SameLemmas.{and_true}
use Rattle.cc_type.specs.CcSyntax.Names.{local_names}
use Rattle.cc_type.specs.CcSyntax.Sound.{have_ids}
use Rattle.cc_type.specs.CcSyntax.Types.{Named}
use Rattle.cc_type.specs.CcTerms.InTurn.{in_turn}
use Rattle.cc_tree.specs.declared.at.At.{At}
use Rattle.cc_tree.specs.declared.unit.Item.{Item}
use Rattle.cc_tree.specs.declared.unit.Item.TheVariants as item
use Rattle.cc_tree.specs.declared.unit.Unit.{Unit as UnitTree}
use Rattle.cc_type.specs.Defined.{defined_names}
use Rattle.cc_type.specs.Typed.{IsTyped}
use Rattle.cc_type.specs.Units.{item_found, item_next, items_found, unit_found, unit_of}
use Rattle.cc_type.specs.CcTypedBodies.Declarations.{declaration}
use Rattle.cc_type.specs.CcUnit.declared.ids.Ids.{Ids}
use Rattle.cc_type.specs.CcUnit.declared.unit.TypedUnit.{TypedUnit}
use Rattle.cc_type.specs.CcUnit.declared.unit.UnitKind.{UnitKind}
use Rattle.cc_type.specs.CcUnit.declared.unit.UnitKind.TheVariants as kind
use Rattle.cc_type.specs.CcUnit.declared.unit.UnitName.{UnitName}
use Rattle.cc_type.specs.CcUnit.declared.unit.UnitStructure.{UnitStructure}
use Rattle.cc_program.specs.CcWords.Names.{is_name}
use Rattle.cc_named_units.proofs.Functions.{function_found_adds}

-- ---- items

module _ (target : Target) (defined : List Name) (most : Limits) where
  item_adds : (i : Item) → item_named i ≡ true → item_count i ≤ most.few → (s : State) (r : Checked × State) → item_found target most.roles defined i s ≡ Ok r → Adds most (item_count i) s r.1
  item_adds (item.Decl d) q l s r h =
      before most (decl_count d) (declaration target most.roles defined stands.AtFile d s) (λ es s. answer checked s) s r (λ x f. declaration_adds target defined most d q l stands.AtFile s x f) (λ x f. done most 0 checked x.1 r f) h
  item_adds (item.Func specs d attrs body) q l s r h = function_found_adds target defined most specs d attrs body q l s r h

  pub items_add : (is : List (At Item)) → each_named item_named is ≡ true → each_count item_count is ≤ most.few → (b : Checked) (s : State) (r : Checked × State) → in_turn (item_next target most.roles defined) is b s ≡ Ok r →
      Adds most (each_count item_count is) s r.1
  items_add [] q l b s r h = done most 0 b s r h
  items_add (i ∷ is) q l b s r h =
      let c = both_true (item_named i.node) (each_named item_named is) q in
      let rest = each_count item_count is in
      let a = then_found (item_next target most.roles defined i b s) (in_turn (item_next target most.roles defined) is) r h in
      adds_through most (item_count i.node) rest (item_count i.node + rest) s a.0.1 r.1 (omega arith) (item_adds i.node c.0 (front_few (item_count i.node) rest most.few l) s a.0 a.1)
      (items_add is c.1 (rest_few (item_count i.node) rest most.few l) a.0.0 a.0.1 r a.2)

left_is : (found : Found Checked) (t : TypedUnit) → unit_found found ≡ Ok t → (r : Checked × State) × (found ≡ Ok r) × (unit_left r.1 ≡ t)
left_is (Ok r) t h = (r, refl, let e : unit_left r.1 ≡ t = cc in e)
left_is (Err fault) t h = absurd (cc)

pub unit_adds : (u : UnitTree) (target : Target) (roles : Roles) (t : TypedUnit) (few : ℕ) → unit_named u ≡ true → unit_count u ≤ few → IsTyped u target roles t → (s : State) × (unit_left s ≡ t) × Adds (record { few = few; roles = roles }) (unit_count u) at_first s
unfolding unit_of
unit_adds u target roles t few q l h =
    let a = left_is (items_found target roles (defined_names u) u.items at_first) t h in
    (a.0.1, a.2, items_add target (defined_names u) (record { few = few; roles = roles }) u.items q l checked at_first a.0 a.1)

-- ---- names of the unit that is left

same_test : (o : Option Name) → tag_named o ≡ true → may_name o ≡ true
same_test None h = refl
same_test (Some x) h = h

names-kept : (numbers : List ℕ) (ms : List Named) → local_names (all_named_in numbers ms) ≡ local_names ms
names-kept numbers [] = refl
names-kept numbers (m ∷ ms) = ap (λ (xs : List Name). m.0 ∷ xs) (names-kept numbers ms)

few_kept : (most : ℕ) (numbers : List ℕ) (ms : List Named) → most < 2 ^ 32 → AreFewNames most ms → are_few_names (all_named_in numbers ms) ≡ true
few_kept most numbers ms small h =
    let l = h.few in
    let e = length-map ms (named_in numbers) in
    and_true (have_ids (length (all_named_in numbers ms))) (list_all is_name (local_names (all_named_in numbers ms))) (lt-ltb (length (all_named_in numbers ms)) 4294967296 (omega arith))
    (ap (list_all is_name) (names-kept numbers ms) ∙ h.names)

kind_few : (most : Limits) (ids : Ids) (k : UnitKind) → most.few < 2 ^ 32 → HasFewLocals most k → has_few_locals (kind_in ids k) ≡ true
kind_few most ids (kind.Func by None) small h = refl
kind_few most ids (kind.Func by (Some f)) small h = few_kept most.few ids.structures f.locals small h
kind_few most ids (kind.Object init) small h = refl
kind_few most ids (kind.Device d) small h = refl

names_may : (most : Limits) (ids : Ids) (ds : List Declared) → Each (IsNamedEntry most) ds → list_all (λ (n : UnitName). may_name n.name) (map (name_in ids) ds) ≡ true
names_may most ids [] h = refl
names_may most ids (d ∷ ds) h = and_true (may_name d.name) (list_all (λ (n : UnitName). may_name n.name) (map (name_in ids) ds)) (same_test d.name h.0.name) (names_may most ids ds h.1)

locals_few : (most : Limits) (ids : Ids) (ds : List Declared) → most.few < 2 ^ 32 → Each (IsNamedEntry most) ds → list_all (λ (n : UnitName). has_few_locals n.kind) (map (name_in ids) ds) ≡ true
locals_few most ids [] small h = refl
locals_few most ids (d ∷ ds) small h =
    and_true (has_few_locals (kind_in ids d.kind)) (list_all (λ (n : UnitName). has_few_locals n.kind) (map (name_in ids) ds)) (kind_few most ids d.kind small h.0.locals) (locals_few most ids ds small h.1)

-- no name is an intrinsic's
pub names_own : (most : Limits) (ids : Ids) (ds : List Declared) → Each (IsNamedEntry most) ds → list_all (λ (n : UnitName). is_own most.roles n.name) (map (name_in ids) ds) ≡ true
names_own most ids [] h = refl
names_own most ids (d ∷ ds) h = and_true (is_own most.roles d.name) (list_all (λ (n : UnitName). is_own most.roles n.name) (map (name_in ids) ds)) h.0.own (names_own most ids ds h.1)

-- ---- structures of the unit that is left

module _ (numbers : List ℕ) (Good : KnownStructure → Type 0) (test : UnitStructure → Bool) (passes : (k : KnownStructure) → Good k → test (structure_in numbers k) ≡ true) where
  at_passes : (xs : List KnownStructure) → Each Good xs → (i : ℕ) → list_all test (structure_at numbers xs i) ≡ true
  at_passes [] h i = refl
  at_passes (x ∷ xs) h zero = and_true (test (structure_in numbers x)) true (passes x h.0) refl
  at_passes (x ∷ xs) h (suc i) = at_passes xs h.1 i

  all_pass : (xs : List KnownStructure) → Each Good xs → (order : List ℕ) → list_all test (structures_in numbers xs order) ≡ true
  all_pass xs h [] = refl
  all_pass xs h (i ∷ is) =
      list_all-append test (structure_at numbers xs i) (structures_in numbers xs is)
      ∙ and_true (list_all test (structure_at numbers xs i)) (list_all test (structures_in numbers xs is)) (at_passes xs h i) (all_pass xs h is)

tags_may : (numbers : List ℕ) (most : Limits) (k : KnownStructure) → IsNamedStructure most k → may_name k.tag && may_name k.alias ≡ true
tags_may numbers most k h = and_true (may_name k.tag) (may_name k.alias) (same_test k.tag h.tag) (same_test k.alias h.alias)

members_few : (numbers : List ℕ) (most : Limits) → most.few < 2 ^ 32 → (o : Option (List Named)) → HasFewMembers most.few o → are_few_names (unwrap_or (option_map (all_named_in numbers) o) []) ≡ true
members_few numbers most small None h = refl
members_few numbers most small (Some ms) h = few_kept most.few numbers ms small h.named

pub left_of_text : (most : Limits) (s : State) → most.few < 2 ^ 32 → IsNamedState most s → IsOfText (unit_left s)
left_of_text most s small h =
    let numbers = numbers_of s in
    record {
      tags = all_pass numbers (IsNamedStructure most) (λ (s : UnitStructure). may_name s.tag && may_name s.alias) (λ k g. tags_may numbers most k g) s.structures h.structures (order_of s);
      members = all_pass numbers (IsNamedStructure most) (λ (s : UnitStructure). are_few_names (unwrap_or s.members [])) (λ k g. members_few numbers most small k.members g.members) s.structures h.structures (order_of s);
      names = names_may most (ids_of s) s.names h.names;
      locals = locals_few most (ids_of s) s.names small h.names;
    }

-- ---- how many there are

unless_few : (b : Bool) (i : ℕ) → length (unless b i) ≤ 1
unless_few true i = omega arith
unless_few false i = omega arith

only_few : (i : ℕ) (ks : List KnownStructure) → length (only_named i ks) ≤ length ks
only_few i [] = omega arith
only_few i (k ∷ ks) =
    let a = unless_few (is_some k.members) i in
    let b = only_few (suc i) ks in
    let e = length-append (unless (is_some k.members) i) (only_named (suc i) ks) in
    omega arith

at_few : (numbers : List ℕ) (xs : List KnownStructure) (i : ℕ) → length (structure_at numbers xs i) ≤ 1
at_few numbers [] i = omega arith
at_few numbers (x ∷ xs) zero = omega arith
at_few numbers (x ∷ xs) (suc i) = at_few numbers xs i

in_few : (numbers : List ℕ) (xs : List KnownStructure) (order : List ℕ) → length (structures_in numbers xs order) ≤ length order
in_few numbers xs [] = omega arith
in_few numbers xs (i ∷ is) =
    let a = at_few numbers xs i in
    let b = in_few numbers xs is in
    let e = length-append (structure_at numbers xs i) (structures_in numbers xs is) in
    omega arith

pub left_few : (s : State) (c : ℕ) → length s.names ≤ c → length s.structures + length s.completed ≤ c → (length (unit_left s).names ≤ c) × (length (unit_left s).structures ≤ c)
left_few s c n l =
    let e = length-map s.names (name_in (ids_of s)) in
    let a = in_few (numbers_of s) s.structures (order_of s) in
    let b = only_few 0 s.structures in
    let d = length-append (only_named 0 s.structures) s.completed in
    (omega arith, omega arith)

-- Items that name structures of a program, and those that declare their members, one behind another: each leaves known what the
-- order of first appearance says.
use Rattle.std.proofs.Common.{◌≡◌, ◌<◌, ◌≤◌, ◌+◌, ℕ, zero, suc, Bool, true, false, ◌&&◌, ◌||◌, List, [], ◌∷◌, ◌++◌, map, length, take, drop, Option, Some, None, Ok, Err, refl, ap, sym, ◌∙◌, subst, append_assoc, slice_get, nat_eq, nat_lt, arith}
use Rattle.std.proofs.lemmas.Bool.Decides.{nat_tests}
use Rattle.std.proofs.lemmas.List.{append-nil}
use Rattle.std.proofs.lemmas.Option.{slice_get-map, slice_get_within}
use Rattle.std.specs.Prelude.{if◌then◌else◌, option_map}
use Rattle.cc_program.specs.CcNum.declared.target.Target.{Target}
use Rattle.cc_type.specs.CcObjects.Categories.{setting_of}
use Rattle.cc_type.specs.CcObjects.Tags.{sole_tag, tag_declared, is_extension_at, sole_declared, in_front, aliased}
use Rattle.cc_type.specs.CcOperands.Qualified.{qualified_by}
use Rattle.cc_type.specs.CcOperands.declared.rule.Rule.TheVariants as rule
use Rattle.cc_print.specs.Units.{first_naming, is_in_parameters}
use Rattle.cc_program.specs.declared.program.Program.{Program}
use Rattle.cc_program.specs.declared.program.Roles.{Roles}
use Rattle.cc_program.specs.declared.types.CType.{CType}
use Rattle.cc_program.specs.declared.types.Structure.{Structure}
use Rattle.cc_type.specs.CcScopes.State.{State, Name, KnownStructure, only_named, at_first, tagged_here, or_else}
use Rattle.cc_type.specs.CcScopes.Structures.{structure_named, structure_type, opened_by, is_enumeration, has_content, completed, tag_by, declared_tag}
use Rattle.cc_type.specs.CcScopes.Verdicts.{Found, whole, and_then, Checked, checked}
use Rattle.cc_type.specs.CcScopes.declared.designated.Tagged.{Tagged}
use Rattle.cc_type.specs.CcScopes.declared.designated.Tagged.TheVariants.{StructureTag}
use Rattle.cc_type.specs.CcTypedTerms.Specifiers.{as_type}
use Rattle.cc_type.specs.CcSpecifiers.Specifiers.{no_specifier, with_specifier, specified}
use Rattle.cc_type.specs.CcSpecifiers.declared.specifier.Base.TheVariants as base
use Rattle.cc_type.specs.CcSpecifiers.declared.specifier.Specified.{Specified}
use Rattle.cc_type.specs.CcSpecifiers.declared.specifier.Specifier.{Specifier}
use Rattle.cc_type.specs.CcSpecifiers.declared.specifier.Specifier.TheVariants as specifier
use Rattle.cc_type.specs.CcSpecifiers.declared.storage.Setting.{Setting}
use Rattle.cc_type.specs.CcSpecifiers.declared.storage.Where.TheVariants as stands
use Rattle.cc_type.specs.CcSyntax.Sound.{IsSound}
use Rattle.cc_type.specs.CcSyntax.Types.{Named, has_members}
use Rattle.cc_type.specs.CcTerms.InTurn.{in_turn}
use Rattle.cc_type.specs.CcTerms.Specifiers.{specified_found}
use Rattle.cc_type.specs.CcTerms.Structures.{structure_opened, members_found, structure_closed, structure_found}
use Rattle.cc_type.specs.CcTerms.Terms.{spec_of, spec_here, members_here}
use Rattle.cc_tree.specs.declared.at.At.{At}
use Rattle.cc_tree.specs.declared.tree.Declr.{Declr}
use Rattle.cc_tree.specs.declared.tree.Declr.TheOpen as one
use Rattle.cc_tree.specs.declared.tree.Enumr.{Enumr}
use Rattle.cc_tree.specs.declared.tree.MemberDecl.{MemberDecl}
use Rattle.cc_tree.specs.declared.tree.Param.{Param}
use Rattle.cc_tree.specs.declared.tree.Params.{Params}
use Rattle.cc_tree.specs.declared.tree.Spec as spec
use Rattle.cc_tree.specs.declared.tree.Spec.{Spec}
use Rattle.cc_tree.specs.declared.tree.Spec.TheVariants as spec_rolls
use Rattle.cc_tree.specs.declared.tree.Tree.{Tree}
use Rattle.cc_tree.specs.declared.tree.TypeName.{TypeName}
use Rattle.cc_tree.specs.declared.unit.Decl.{Decl}
use Rattle.cc_tree.specs.declared.unit.Item.{Item}
use Rattle.cc_tree.specs.declared.unit.Item.TheVariants as item
use Rattle.cc_type.specs.Units.{item_found, item_next, items_found}
use Rattle.cc_type.specs.CcTypedBodies.Declarations.{inits_found, declaration}
use Rattle.cc_unit_trees.specs.Externals.{ATag as TagExternal, AStructure, in_front_if, announced}
use Rattle.cc_unit_trees.specs.Items.{ShowsTag, ATag, ShowsMembers, ShowsStructure, OnlyNamed, WithMembers}
use Rattle.cc_unit_trees.specs.Programs.{ShowsExternals, NoExternal, MoreExternals}
use Rattle.cc_shown_expressions.specs.Numbers.{named_numbered}
use Rattle.cc_shown_expressions.proofs.Words.{reached, spec-at}
use Rattle.cc_shown_declarations.specs.Order.{is_among, with_first, with_members, with_structures, announced_from, order_before, appearance, structure_number}
use Rattle.cc_shown_declarations.specs.States.{whole_structure, known_by, known_as, completed_from, first_state}
use Rattle.cc_shown_declarations.proofs.Announced.{take-more}
use Rattle.cc_shown_declarations.proofs.Bases.{tag-absent, new-structure}
use Rattle.cc_shown_declarations.proofs.Front.{front-of, order-next, begins-behind, order-whole}
use Rattle.cc_shown_declarations.proofs.Orders.{same, FirstIs, Old, New, first-is, first-there, first-origin, among-append, Begins, begins-members, begins-structures, begins-itself, place-there, number-old}
use Rattle.cc_shown_declarations.proofs.Structures.{members, behind, closed}
use Rattle.cc_shown_declarations.proofs.Tags.{Within, tag-there}
use Rattle.cc_shown_declarations.proofs.Turns.{shown-apart, found-behind}

abbrev struct_spec : Name → Option (List (At MemberDecl)) → Spec
struct_spec x ms = spec.Struct (Some x) ms [] []

abbrev struct_decl : ℕ → Name → Option (List (At MemberDecl)) → Decl
struct_decl at x ms = record { specs = record { at = at; node = struct_spec x ms } ∷ []; inits = [] }

-- ---- a declaration of one specifier, which names a type

module _ (target : Target) (roles : Roles) where
  one-specified : (setting : Setting) (at : ℕ) (x : Spec) (t : CType) (s u : State) → spec_of target roles x at s ≡ Ok (specifier.Type t, u) →
      specified_found setting (map (spec_here target roles) (record { at = at; node = x } ∷ [])) s ≡ Ok (record { specs = reached None [] false false (base.Itself t); ctype = qualified_by false false t }, u)
  one-specified setting at x t s u h =
      ap (λ (m : Found Specifier). and_then (and_then (and_then m (λ p s. whole at s (with_specifier setting at p no_specifier))) (λ b s. Ok (b, s))) (λ specs s. whole at s (specified specs))) h

  module _ (defined : List Name) where
    one-declared : (at : ℕ) (x : Name) (ms : Option (List (At MemberDecl))) (t : CType) (s u v : State) → in_front (struct_decl at x ms) s ≡ u → spec_of target roles (struct_spec x ms) at u ≡ Ok (specifier.Type t, v) →
        item_found target roles defined (item.Decl (struct_decl at x ms)) s ≡ Ok (checked, v)
    unfolding declaration
    one-declared at x ms t s u v e h =
        ap (λ (m : Found Specified). and_then (and_then m (λ base s. inits_found target roles defined stands.AtFile base [] (aliased (struct_decl at x ms) base s))) (λ es s. Ok (checked, s)))
        (ap (λ (u : State). specified_found (setting_of stands.AtFile (struct_decl at x ms) s) (map (spec_here target roles) (record { at = at; node = struct_spec x ms } ∷ [])) u) e
        ∙ one-specified (setting_of stands.AtFile (struct_decl at x ms) s) at (struct_spec x ms) t u v h)

-- ---- what stands in front of its specifiers

abbrev OneSpec : Type 0
OneSpec = one.Spec-F Declr Params Spec Tree Enumr MemberDecl Param TypeName

in-front-of : (at : ℕ) (x : Name) (ms : Option (List (At MemberDecl))) (s : State) → in_front (struct_decl at x ms) s ≡ tag_declared (sole_tag (one.Struct (Some x) ms [] [])) s
in-front-of at x ms s =
    ap (λ (y : OneSpec). sole_declared (if is_extension_at y then None else Some (struct_spec x ms)) s) (spec_rolls.outs-Struct (Some x) ms [] [])
    ∙ ap (λ (y : OneSpec). tag_declared (sole_tag y) s) (spec_rolls.outs-Struct (Some x) ms [] [])

-- ---- one structure is named

module _ (p : Program) (sound : IsSound p) (roles : Roles) (defined : List Name) where
  abbrev number : ℕ → ℕ
  number i = structure_number p i

  module _ (k : ℕ) (order : List ℕ) (before : (i : ℕ) → i < k → is_among i order ≡ true) (within : Within p sound order) (i : ℕ) (t : Structure) (there : slice_get p.structures i ≡ Some t) (begins : Begins (with_first i order) (appearance p)) where
    abbrev now : State
    now = first_state p k order

    abbrev next : State
    next = first_state p k (with_first i order)

    tag-declared : FirstIs i order → declared_tag t.tag now ≡ next
    tag-declared (Old h w) =
        ap (tag_by t.tag now) (tag-there p sound i t order there h within) ∙ ap (first_state p k) (sym w)
    tag-declared (New h w) =
        ap (tag_by t.tag now) (tag-absent p sound k order before within i t there h)
        ∙ ap (λ (new : ℕ × State). new.1) (new-structure p sound k order before within i t there h (subst (λ (o : List ℕ). Begins o (appearance p)) w begins))
        ∙ ap (first_state p k) (sym w)

    within-next : Within p sound (with_first i order)
    within-next j h = first-origin i j order ((t : Structure) × (slice_get p.structures j ≡ Some t)) h (within j) (λ is. (t, ap (slice_get p.structures) is ∙ there))

    tag-found : tagged_here t.tag next ≡ Some (StructureTag (number i))
    tag-found = tag-there p sound i t (with_first i order) there (first-there i order) within-next

    tag-named : (at : ℕ) → spec_of p.target roles (struct_spec t.tag None) at next ≡ Ok (specifier.Type (structure_type (number i)), next)
    tag-named at =
        spec-at p.target roles (struct_spec t.tag None) (one.Struct (Some t.tag) None [] []) (spec_rolls.outs-Struct (Some t.tag) None [] []) at next
        ∙ ap (λ (o : Option Tagged). as_type (structure_named at t.tag next (or_else o None))) tag-found

    pub tag-item : (x : Item) → ShowsTag t x → item_found p.target roles defined x now ≡ Ok (checked, next)
    tag-item _ (ATag at) =
        one-declared p.target roles defined at t.tag None (structure_type (number i)) now next next (in-front-of at t.tag None now ∙ tag-declared (first-is i order)) (tag-named at)

    -- `struct x {` finds it too
    pub structure-opened : FirstIs i order → structure_opened (Some t.tag) [] now ≡ Ok ((false, number i), next)
    structure-opened (Old h w) =
        ap (λ (o : Option Tagged). Ok ((is_enumeration o, (opened_by (Some t.tag) now o).0), (opened_by (Some t.tag) now o).1)) (tag-there p sound i t order there h within)
        ∙ ap (λ (o : List ℕ). Ok ((false, number i), first_state p k o)) (sym w)
    structure-opened (New h w) =
        ap (λ (o : Option Tagged). Ok ((is_enumeration o, (opened_by (Some t.tag) now o).0), (opened_by (Some t.tag) now o).1)) (tag-absent p sound k order before within i t there h)
        ∙ ap (λ (new : ℕ × State). Ok ((false, new.0), new.1)) (new-structure p sound k order before within i t there h (subst (λ (o : List ℕ). Begins o (appearance p)) w begins))
        ∙ ap (λ (o : List ℕ). Ok ((false, number i), first_state p k o)) (sym w)

  -- ---- the structures, one behind another

  module _ (k : ℕ) (s : Structure) (there : slice_get p.structures k ≡ Some s) where
    abbrev front : List ℕ
    front = order_before p k

    abbrev named : List ℕ
    named = with_first k front

    abbrev last : List ℕ
    last = with_members s.members named

    within-all : k ≤ length p.structures
    within-all = let h = slice_get_within p.structures k s there in omega (arith, h)

    begins-last : Begins last (appearance p)
    begins-last = begins-behind p sound k s there

    begins-named : Begins named (appearance p)
    begins-named = begins-members s.members named (appearance p) begins-last

    before-front : (i : ℕ) → i < k → is_among i front ≡ true
    before-front i h = (front-of p sound k within-all).passed.before i h

    within-front : Within p sound front
    within-front = (front-of p sound k within-all).within

    -- ---- with members

    own-known : known_as p k k ≡ only_named (Some s.tag)
    own-known =
        let late : nat_lt k k ≡ false = grind (arith, nat_tests) in
        ap (known_by p (nat_lt k k) k) there ∙ ap (λ (c : Bool). if c && has_members (Some s) then whole_structure p k s else only_named (Some s.tag)) late

    abbrev content_of : Option KnownStructure → Bool
    content_of o = has_content o

    no-content : has_content (slice_get (map (known_as p k) last) (number k)) ≡ false
    no-content =
        let own = (behind p roles sound k s there).own in
        ap (λ (o : Option KnownStructure). content_of o)
        (slice_get-map (known_as p k) last (number k)
        ∙ ap (λ n. option_map (known_as p k) (slice_get last n)) (number-old k last (appearance p) begins-last own)
        ∙ ap (option_map (known_as p k)) (place-there k last own)
        ∙ ap (λ (r : KnownStructure). Some r) own-known)

    abbrev members_numbered : List Named
    members_numbered = map (named_numbered (structure_number p)) s.members

    structure-closed : (at : ℕ) → has_members (Some s) ≡ true → structure_closed p.target at [] false (number k) members_numbered (first_state p k last) ≡ Ok (specifier.Type (structure_type (number k)), first_state p (suc k) (order_before p (suc k)))
    structure-closed at full =
        ap (λ (b : Bool). as_type (if b then whole at (first_state p k last) (Err rule.NoObjectType) else Ok (structure_type (number k), completed p.target (number k) members_numbered (first_state p k last)))) no-content
        ∙ ap (λ (o : List ℕ). Ok (specifier.Type (structure_type (number k)), completed p.target (number k) members_numbered (first_state p k o))) (sym (order-next p sound k s there))
        ∙ ap (λ (u : State). Ok (specifier.Type (structure_type (number k)), u)) (closed p roles sound k s there full)

    whole-found : (at : ℕ) (ms : List (At MemberDecl)) → has_members (Some s) ≡ true → ShowsMembers p.structures s.members ms →
        structure_found p.target at (Some s.tag) (map (members_here p.target roles) ms) [] [] (first_state p k front) ≡ Ok (specifier.Type (structure_type (number k)), first_state p (suc k) (order_before p (suc k)))
    whole-found at ms full h =
        ap (λ (m : Found (Bool × ℕ)). and_then m (λ new s. and_then (members_found (map (members_here p.target roles) ms) s) (λ ls s. structure_closed p.target at [] new.0 new.1 ls s)))
        (structure-opened k front before-front within-front k s there begins-named (first-is k front))
        ∙ ap (λ (m : Found (List Named)). and_then m (λ ls s. structure_closed p.target at [] false (number k) ls s)) (members p roles sound k s there ms h)
        ∙ structure-closed at full

    with-members : (at : ℕ) (ms : List (At MemberDecl)) → has_members (Some s) ≡ true → ShowsMembers p.structures s.members ms →
        item_found p.target roles defined (item.Decl (struct_decl at s.tag (Some ms))) (first_state p k front) ≡ Ok (checked, first_state p (suc k) (order_before p (suc k)))
    with-members at ms full h =
        one-declared p.target roles defined at s.tag (Some ms) (structure_type (number k)) (first_state p k front) (first_state p k front) (first_state p (suc k) (order_before p (suc k)))
        (in-front-of at s.tag (Some ms) (first_state p k front))
        (spec-at p.target roles (struct_spec s.tag (Some ms)) (one.Struct (Some s.tag) (Some ms) [] []) (spec_rolls.outs-Struct (Some s.tag) (Some ms) [] []) at (first_state p k front) ∙ whole-found at ms full h)

    -- ---- without members

    only-named-at : (b : Bool) → has_members (Some s) ≡ false → known_by p b k (Some s) ≡ only_named (Some s.tag)
    only-named-at true h = ap (λ (c : Bool). if c then whole_structure p k s else only_named (Some s.tag)) h
    only-named-at false h = refl

    same-test : (j : ℕ) → nat_eq j k ≡ false → nat_lt j k ≡ nat_lt j (suc k)
    same-test j h = by (nat_lt j k) (nat_lt j (suc k)) refl refl
      where
        by : (a b : Bool) → nat_lt j k ≡ a → nat_lt j (suc k) ≡ b → a ≡ b
        by true true e f = refl
        by false false e f = refl
        by true false e f = absurd (grind (arith, nat_tests, e, f, h))
        by false true e f = absurd (grind (arith, nat_tests, e, f, h))

    same-known : (j : ℕ) (b : Bool) → nat_eq j k ≡ b → has_members (Some s) ≡ false → known_as p k j ≡ known_as p (suc k) j
    same-known j true e h =
        let is = same j k e in
        subst (λ n. known_as p k n ≡ known_as p (suc k) n) (sym is)
        (ap (known_by p (nat_lt k k) k) there ∙ only-named-at (nat_lt k k) h ∙ sym (ap (known_by p (nat_lt k (suc k)) k) there ∙ only-named-at (nat_lt k (suc k)) h))
    same-known j false e h = ap (λ (b : Bool). known_by p b j (slice_get p.structures j)) (same-test j e)

    all-same : (js : List ℕ) → has_members (Some s) ≡ false → map (known_as p k) js ≡ map (known_as p (suc k)) js
    all-same [] h = refl
    all-same (j ∷ js) h =
        ap (λ (r : KnownStructure). r ∷ map (known_as p k) js) (same-known j (nat_eq j k) refl h) ∙ ap (λ (rs : List KnownStructure). known_as p (suc k) j ∷ rs) (all-same js h)

    passed-by : (i : ℕ) (ss : List Structure) → has_members (Some s) ≡ false → completed_from p i (ss ++ s ∷ []) ≡ completed_from p i ss
    passed-by i [] h = ap (λ (b : Bool). if b then number i ∷ [] else []) h
    passed-by i (t ∷ ts) h = ap (λ (ks : List ℕ). if has_members (Some t) then number i ∷ ks else ks) (passed-by (suc i) ts h)

    abbrev state_of : List ℕ → List KnownStructure → List ℕ → State
    state_of order structures done = record { scopes = (first_state p k order).scopes; structures = structures; completed = done; names = []; locals = []; unfinished = None }

    next-state : (order : List ℕ) → has_members (Some s) ≡ false → first_state p k order ≡ first_state p (suc k) order
    next-state order h =
        ap (λ (rs : List KnownStructure). state_of order rs (completed_from p 0 (take k p.structures))) (all-same order h)
        ∙ ap (λ (done : List ℕ). state_of order (map (known_as p (suc k)) order) done) (sym (ap (completed_from p 0) (take-more p.structures k s there) ∙ passed-by 0 (take k p.structures) h))

    only-named : (x : Item) → s.members ≡ [] → ShowsTag s x → item_found p.target roles defined x (first_state p k front) ≡ Ok (checked, first_state p (suc k) (order_before p (suc k)))
    only-named x none h =
        tag-item k front before-front within-front k s there begins-named x h
        ∙ ap (λ (u : State). Ok (checked, u)) (next-state named (ap (λ (ls : List Named). nat_lt 0 (length ls)) none))
        ∙ ap (λ (o : List ℕ). Ok (checked, first_state p (suc k) o)) (sym (order-next p sound k s there ∙ ap (λ (ls : List Named). with_members ls named) none))

    -- ---- by its item

    has-some : (l : Named) (ls : List Named) → s.members ≡ l ∷ ls → has_members (Some s) ≡ true
    has-some l ls e = let some : nat_lt 0 (suc (length ls)) ≡ true = grind (arith, nat_tests) in ap (λ (ms : List Named). nat_lt 0 (length ms)) e ∙ some

    pub structure-item : (x : Item) → ShowsStructure p s x → item_found p.target roles defined x (first_state p k (order_before p k)) ≡ Ok (checked, first_state p (suc k) (order_before p (suc k)))
    structure-item _ (OnlyNamed x none h) = only-named x none h
    structure-item _ (WithMembers l ls at ms e h) = with-members at ms (has-some l ls e) (subst (λ (ks : List Named). ShowsMembers p.structures ks ms) (sym e) h)

  -- ---- all structures

  dropped-first : {A : Type 0} → (xs : List A) (k : ℕ) (x : A) (ys : List A) → drop k xs ≡ x ∷ ys → slice_get xs k ≡ Some x
  dropped-first [] zero x ys h = absurd (cc)
  dropped-first [] (suc k) x ys h = absurd (cc)
  dropped-first (z ∷ xs) zero x ys h = let e : z ≡ x = cc in ap (λ y. Some y) e
  dropped-first (z ∷ xs) (suc k) x ys h = dropped-first xs k x ys h

  dropped-rest : {A : Type 0} → (xs : List A) (k : ℕ) (x : A) (ys : List A) → drop k xs ≡ x ∷ ys → drop (suc k) xs ≡ ys
  dropped-rest [] zero x ys h = absurd (cc)
  dropped-rest [] (suc k) x ys h = absurd (cc)
  dropped-rest (z ∷ []) zero x ys h = cc
  dropped-rest (z ∷ y ∷ xs) zero x ys h = cc
  dropped-rest (z ∷ xs) (suc k) x ys h = dropped-rest xs k x ys h

  structures-from : (k : ℕ) (ss : List Structure) (xs : List (At Item)) → drop k p.structures ≡ ss → k + length ss ≡ length p.structures → ShowsExternals p (map AStructure ss) xs →
      items_found p.target roles defined xs (first_state p k (order_before p k)) ≡ Ok (checked, first_state p (length p.structures) (order_before p (length p.structures)))
  structures-from k [] _ left count NoExternal =
      let is : k ≡ length p.structures = omega (arith, count) in ap (λ n. Ok (checked, first_state p n (order_before p n))) is
  structures-from k (s ∷ ss) _ left count (MoreExternals e es x xs h r) =
      ap (λ (m : Found Checked). and_then m (λ done u. in_turn (item_next p.target roles defined) xs done u)) (structure-item k s (dropped-first p.structures k s ss left) x.node h)
      ∙ structures-from (suc k) ss xs (dropped-rest p.structures k s ss left) (omega (arith, count)) r

  -- ---- those that are announced

  abbrev IsLate : ℕ → List ℕ → Type 0
  IsLate i order = (n : ℕ) → i ≤ n → is_among n order ≡ false

  new-first : (i : ℕ) (order : List ℕ) → is_among i order ≡ false → FirstIs i order → with_first i order ≡ order ++ i ∷ []
  new-first i order h (Old k w) = absurd (let g : true ≡ false = sym k ∙ h in cc)
  new-first i order h (New k w) = w

  late-next : (i : ℕ) (order : List ℕ) → IsLate i order → IsLate (suc i) (order ++ i ∷ [])
  late-next i order h n l =
      let other : nat_eq n i ≡ false = grind (arith, nat_tests) in
      let old = h n (omega (arith, l)) in
      among-append n order (i ∷ []) ∙ ap (λ (b : Bool). b || (nat_eq n i || false)) old ∙ ap (λ (b : Bool). b || false) other

  begins-front : (xs ys whole : List ℕ) → Begins (xs ++ ys) whole → Begins xs whole
  begins-front xs ys whole b = record { rest = ys ++ b.rest; is = sym (append_assoc xs ys b.rest) ∙ b.is }

  none-before : (order : List ℕ) (i : ℕ) → i < 0 → is_among i order ≡ true
  none-before order i h = absurd (omega (arith, h))

  abbrev Leads : ℕ → List Structure → List ℕ → Type 0
  Leads i rest order = (xs : List (At Item)) → ShowsExternals p (map TagExternal (announced p.structures i rest)) xs → items_found p.target roles defined xs (first_state p 0 order) ≡ Ok (checked, first_state p 0 (order ++ announced_from p.structures i rest))

  tag-by : (b : Bool) (i : ℕ) (s : Structure) (rest : List Structure) (order : List ℕ) → slice_get p.structures i ≡ Some s → Within p sound order → IsLate i order →
      Begins (order ++ (if b then i ∷ announced_from p.structures (suc i) rest else announced_from p.structures (suc i) rest)) (appearance p) →
      ((order : List ℕ) → Within p sound order → IsLate (suc i) order → Begins (order ++ announced_from p.structures (suc i) rest) (appearance p) → Leads (suc i) rest order) →
      (xs : List (At Item)) → ShowsExternals p (map TagExternal (in_front_if b s (announced p.structures (suc i) rest))) xs →
      items_found p.target roles defined xs (first_state p 0 order) ≡ Ok (checked, first_state p 0 (order ++ (if b then i ∷ announced_from p.structures (suc i) rest else announced_from p.structures (suc i) rest)))
  tag-by false i s rest order there within late begins more xs h = more order within (λ n l. late n (omega (arith, l))) begins xs h
  tag-by true i s rest order there within late begins more _ (MoreExternals e es x xs h r) =
      let names = announced_from p.structures (suc i) rest in
      let new = new-first i order (late i (omega arith)) (first-is i order) in
      let split : (order ++ i ∷ []) ++ names ≡ order ++ i ∷ names = append_assoc order (i ∷ []) names in
      let begins1 : Begins ((order ++ i ∷ []) ++ names) (appearance p) = subst (λ (o : List ℕ). Begins o (appearance p)) (sym split) begins in
      let begins2 : Begins (with_first i order) (appearance p) = subst (λ (o : List ℕ). Begins o (appearance p)) (sym new) (begins-front (order ++ i ∷ []) names (appearance p) begins1) in
      let within1 : Within p sound (order ++ i ∷ []) = subst (λ (o : List ℕ). Within p sound o) new (within-next 0 order (none-before order) within i s there begins2) in
      ap (λ (m : Found Checked). and_then m (λ done u. in_turn (item_next p.target roles defined) xs done u)) (tag-item 0 order (none-before order) within i s there begins2 x.node h)
      ∙ ap (λ (o : List ℕ). items_found p.target roles defined xs (first_state p 0 o)) new
      ∙ more (order ++ i ∷ []) within1 (late-next i order late) begins1 xs r
      ∙ ap (λ (o : List ℕ). Ok (checked, first_state p 0 o)) split

  tags-from : (i : ℕ) (rest : List Structure) (order : List ℕ) → drop i p.structures ≡ rest → Within p sound order → IsLate i order → Begins (order ++ announced_from p.structures i rest) (appearance p) → Leads i rest order
  tags-from i [] order left within late begins _ NoExternal = ap (λ (o : List ℕ). Ok (checked, first_state p 0 o)) (sym (append-nil order))
  tags-from i (s ∷ rest) order left within late begins xs h =
      let one : i + 1 ≡ suc i = omega arith in
      let named = is_in_parameters (first_naming i (take i p.structures)) in
      tag-by named i s rest order (dropped-first p.structures i s rest left) within late begins
      (λ order within late begins. tags-from (suc i) rest order (dropped-rest p.structures i s rest left) within late begins)
      xs (subst (λ n. ShowsExternals p (map TagExternal (in_front_if named s (announced p.structures n rest))) xs) one h)

  -- ---- and all

  none-taken : {A : Type 0} → (xs : List A) → take 0 xs ≡ []
  none-taken [] = refl
  none-taken (x ∷ xs) = refl

  none-dropped : {A : Type 0} → (xs : List A) → drop 0 xs ≡ xs
  none-dropped [] = refl
  none-dropped (x ∷ xs) = refl

  first-empty : at_first ≡ first_state p 0 []
  first-empty = ap (λ (done : List ℕ). record { scopes = record { names = []; tags = [] } ∷ []; structures = []; completed = done; names = []; locals = []; unfinished = None }) (sym (ap (completed_from p 0) (none-taken p.structures)))

  begins-all : Begins (announced_from p.structures 0 p.structures) (appearance p)
  begins-all = begins-structures 0 p.structures (announced_from p.structures 0 p.structures) (appearance p) (begins-itself (appearance p))

  order-first : order_before p 0 ≡ announced_from p.structures 0 p.structures
  order-first = ap (λ (ss : List Structure). with_structures 0 ss (announced_from p.structures 0 p.structures)) (none-taken p.structures)

  pub structure-items : (xs : List (At Item)) → ShowsExternals p (map TagExternal (announced p.structures 0 p.structures) ++ map AStructure p.structures) xs →
      items_found p.target roles defined xs at_first ≡ Ok (checked, first_state p (length p.structures) (appearance p))
  structure-items xs h =
      let q = shown-apart p (map TagExternal (announced p.structures 0 p.structures)) (map AStructure p.structures) xs h in
      let tags = tags-from 0 p.structures [] (none-dropped p.structures) (λ n e. absurd (cc)) (λ n l. refl) begins-all q.front q.first in
      let u = first_state p 0 (announced_from p.structures 0 p.structures) in
      ap (λ (ys : List (At Item)). items_found p.target roles defined ys at_first) q.is
      ∙ found-behind p.target roles defined q.front q.behind at_first u (ap (items_found p.target roles defined q.front) first-empty ∙ tags)
      ∙ ap (λ (o : List ℕ). items_found p.target roles defined q.behind (first_state p 0 o)) (sym order-first)
      ∙ structures-from 0 p.structures q.behind (none-dropped p.structures) (omega arith) q.second
      ∙ ap (λ (o : List ℕ). Ok (checked, first_state p (length p.structures) o)) (order-whole p sound)

-- Members of a structure are declared one behind another, each with what its words name first.
use Rattle.std.proofs.Common.{◌≡◌, ℕ, Bool, true, false, ◌||◌, List, [], ◌∷◌, ◌++◌, map, length, take, Option, Some, None, Ok, Err, refl, ap, sym, ◌∙◌, subst, append_assoc, slice_get, arith}
use Rattle.std.proofs.lemmas.List.{append-nil, map-append}
use Rattle.std.specs.Prelude.{if◌then◌else◌}
use Rattle.std.specs.List.{list_any}
use Rattle.std.specs.Option.{is_some}
use Rattle.std.specs.Str.{bytes_eq}
use Rattle.cc_type.specs.CcTypedTerms.Located.{located}
use Rattle.cc_type.specs.CcTypedTerms.Members.{member_judged}
use Rattle.cc_type.specs.CcOperands.Verdicts.{must}
use Rattle.cc_type.specs.CcOperands.declared.rule.Rule.TheVariants as rule
use Rattle.cc_program.specs.declared.program.Program.{Program}
use Rattle.cc_program.specs.declared.program.Roles.{Roles}
use Rattle.cc_program.specs.declared.types.CType.{CType}
use Rattle.cc_program.specs.declared.types.Shape.TheOpen as shape
use Rattle.cc_program.specs.declared.types.Structure.{Structure}
use Rattle.cc_type.specs.CcScopes.State.{State, Scope, structures_of, layouts_of}
use Rattle.cc_type.specs.CcScopes.Structures.{is_member_name}
use Rattle.cc_type.specs.CcScopes.Verdicts.{Found, whole, and_then}
use Rattle.cc_type.specs.CcSpecifiers.Derivations.{nothing_more}
use Rattle.cc_type.specs.CcSpecifiers.Places.{JudgedAt}
use Rattle.cc_type.specs.CcSpecifiers.Storage.{setting}
use Rattle.cc_type.specs.CcSpecifiers.declared.attribute.Entity.TheVariants as entity
use Rattle.cc_type.specs.CcSpecifiers.declared.derivation.Declarator.{Declarator}
use Rattle.cc_type.specs.CcSpecifiers.declared.specifier.Specified.{Specified as SpecifiedType}
use Rattle.cc_type.specs.CcSpecifiers.declared.storage.Where.TheVariants as stands
use Rattle.cc_type.specs.CcSyntax.Kinds.{Kind, bytes_in, is_small, is_object_kind, is_object_type}
use Rattle.cc_type.specs.CcSyntax.Names.{local_names}
use Rattle.cc_type.specs.CcSyntax.Programs.{kind_in}
use Rattle.cc_type.specs.CcSyntax.Sound.{IsSound, is_member}
use Rattle.cc_type.specs.CcSyntax.Types.{Named}
use Rattle.cc_type.specs.CcTerms.Constants.{enumr_step}
use Rattle.cc_type.specs.CcTerms.Declarators.{declr_step, params_step, param_step, type_name_step}
use Rattle.cc_type.specs.CcTerms.Expressions.{tree_step}
use Rattle.cc_type.specs.CcTerms.InTurn.{in_turn}
use Rattle.cc_type.specs.CcTerms.Meanings.{TreeMeaning, DeclrMeaning, ParamsMeaning, ParamMeaning, SpecMeaning, MembersMeaning, EnumrMeaning, TypeNameMeaning}
use Rattle.cc_type.specs.CcTerms.Members.{declared_members, members_step}
use Rattle.cc_type.specs.CcTerms.Specifiers.{specified_found, spec_step}
use Rattle.cc_type.specs.CcTerms.Structures.{member_behind}
use Rattle.cc_type.specs.CcTerms.Terms.{tree_of, declr_of, params_of, param_of, spec_of, members_of, enumr_of, type_name_of, spec_here, declr_here, members_here}
use Rattle.cc_tree.specs.declared.at.At.{At}
use Rattle.cc_tree.specs.declared.tree.Declr.{Declr}
use Rattle.cc_tree.specs.declared.tree.MemberDecl.{MemberDecl, fold_out-MemberDecl}
use Rattle.cc_tree.specs.declared.tree.Spec.{Spec}
use Rattle.cc_expression_trees.specs.Types.{Plain, ShowsBase, ShowsVoid, ShowsInt, ShowsStructure, Declares}
use Rattle.cc_unit_trees.specs.Items.{ShowsMembers, NoMember, MoreMembers}
use Rattle.cc_shown_expressions.specs.Numbers.{type_numbered, named_numbered}
use Rattle.cc_shown_expressions.proofs.Complete.{object-numbered}
use Rattle.cc_shown_expressions.proofs.Declared.{declared}
use Rattle.cc_shown_expressions.proofs.Derived.{fits-derived}
use Rattle.cc_shown_declarations.specs.Order.{base_of, is_among, with_base, with_members, appearance, structure_number}
use Rattle.cc_shown_declarations.specs.States.{first_state}
use Rattle.cc_shown_declarations.proofs.Announced.{InFront, NamesOnly, base-keeps, member-passed, earlier-names, member-names}
use Rattle.cc_shown_declarations.proofs.Bases.{base-specified}
use Rattle.cc_shown_declarations.proofs.Namings.{base-at, declared-base, named-inside}
use Rattle.cc_shown_declarations.proofs.Orders.{Begins, begins-base, begins-members, first-origin}
use Rattle.cc_shown_declarations.proofs.Standing.{program_then, number_then, sized-then, kind-then, declares-then, same-numbers, knows-then, IsThen}

-- ---- names of members

or-false : (a b : Bool) → (a || b) ≡ false → (a ≡ false) × (b ≡ false)
or-false false b h = (refl, h)
or-false true b h = absurd (cc)

module _ (p : Program) (roles : Roles) where
  abbrev number : ℕ → ℕ
  number i = structure_number p i

  abbrev numbered : List Named → List Named
  numbered ls = map (named_numbered number) ls

  members-at : (ss : List (At Spec)) (ds : List (At Declr)) (before : List Named) (s : State) → members_of p.target roles (record { specs = ss; declrs = ds }) before s
      ≡ and_then (specified_found (setting stands.AsMember entity.Member) (map (spec_here p.target roles) ss) s) (λ base s. declared_members p.target base.ctype (map (declr_here p.target roles) ds) before s)
  unfolding declr_of params_of spec_of tree_of enumr_of members_of param_of type_name_of
  members-at ss ds before s = ap (λ (m : MembersMeaning). m before s) (fold_out-MemberDecl DeclrMeaning ParamsMeaning SpecMeaning TreeMeaning EnumrMeaning MembersMeaning ParamMeaning TypeNameMeaning declr_step params_step (spec_step p.target) (tree_step p.target roles) (enumr_step p.target roles) (members_step p.target) (param_step p.target roles) (type_name_step p.target) (record { specs = ss; declrs = ds }))

  -- ---- what a member's kind says

  record IsObjectKind (o : Option Kind) : Type 0 where
    kind : Kind
    is : o ≡ Some kind
    size : ℕ
    bytes : bytes_in kind ≡ Some size
    small : is_small size ≡ true

  object-bytes : (k : Kind) (o : Option ℕ) → bytes_in k ≡ o → is_object_kind o ≡ true → IsObjectKind (Some k)
  object-bytes k None e h = absurd (cc)
  object-bytes k (Some n) e h = record { kind = k; is = refl; size = n; bytes = e; small = h }

  object-kind : (o : Option Kind) → is_object_type o ≡ true → IsObjectKind o
  object-kind None h = absurd (cc)
  object-kind (Some k) h = object-bytes k (bytes_in k) refl h

  module _ (sound : IsSound p) (complete : ℕ) where
    -- ---- one member, behind its specifiers

    module _ (order : List ℕ) (someone : ℕ) (known : IsThen p complete order someone) where
      abbrev now : State
      now = first_state p complete order

      abbrev then_number : ℕ → ℕ
      then_number i = number_then p complete order someone i

      abbrev OneMember : Named → List Named → CType → At Declr → Type 0
      OneMember l before b d = declared_members p.target (type_numbered number b) (declr_here p.target roles d ∷ []) before now ≡ Ok (before ++ named_numbered number l ∷ [], now)

      pub one-member : (l : Named) (before : List Named) (b : CType) (d : At Declr) → Declares p.structures b d.node (Plain (Some l.0)) l.1 → NamesOnly p order l.1 → is_member (take complete p.structures) (length p.structures) p.target l ≡ true → is_member_name l.0 before ≡ false →
          OneMember l before b d
      one-member l before b d h only member new =
          let k = knows-then p complete order someone sound known in
          let sized = sized-then p complete order someone sound in
          let o = object-kind (kind_in (program_then p complete order someone) l.1) (ap is_object_type (kind-then p complete order someone l.1) ∙ member) in
          let q = declared (program_then p complete order someone) then_number roles sized now k b l.1 d.node (Plain (Some l.0)) (Some l.0) (declares-then p complete order someone b l.1 d.node (Plain (Some l.0)) (Some l.0) h refl only) refl (ap is_some o.is) nothing_more refl d.at in
          let base = same-numbers p complete order someone b (λ j n. only j (named-inside p.structures j b l.1 d.node (Plain (Some l.0)) h n)) in
          let own = same-numbers p complete order someone l.1 only in
          ap (λ (m : Found (Declarator Scope)). and_then (and_then m (λ x s. member_behind p.target (type_numbered number b) d.at before x s)) (λ ms s. Ok (ms, s))) q.is
          ∙ ap (λ (t : CType). and_then (member_behind p.target t d.at before (record { name = Some l.0; derivations = q.derivations }) now) (λ ms s. Ok (ms, s))) (sym base)
          ∙ ap (λ (j : JudgedAt CType). and_then (and_then (located now j) (λ t s. whole d.at s (member_judged p.target t before s (Some l.0)))) (λ ms s. Ok (ms, s)))
          (fits-derived p.target (structures_of now) (layouts_of now) false (type_numbered then_number b) q.derivations (type_numbered then_number l.1) q.fits)
          ∙ ap (λ (b : Bool). and_then (whole d.at now (must b rule.NoObjectType (if is_member_name l.0 before then Err rule.MemberTwice else Ok (before ++ (l.0, type_numbered then_number l.1) ∷ [])))) (λ ms s. Ok (ms, s)))
          (object-numbered (program_then p complete order someone) then_number now k sized l.1 o.kind o.size o.is o.bytes o.small)
          ∙ ap (λ (b : Bool). and_then (whole d.at now (if b then Err rule.MemberTwice else Ok (before ++ (l.0, type_numbered then_number l.1) ∷ []))) (λ ms s. Ok (ms, s))) new
          ∙ ap (λ (t : CType). Ok (before ++ (l.0, t) ∷ [], now)) own

    -- ---- all of them

    -- the members of the structure that is the next to be complete
    module _ (s : Structure) (here : slice_get p.structures complete ≡ Some s) where
      abbrev Passed : List Named → List ℕ → Type 0
      Passed done order = InFront p complete done order

      -- what is known in front of a member
      pub record Before (done : List Named) (order : List ℕ) : Type 0 where
        pub passed : Passed done order
        pub own : is_among complete order ≡ true
        pub within : (i : ℕ) → is_among i order ≡ true → (t : Structure) × (slice_get p.structures i ≡ Some t)

      pub is-then : (done : List Named) (order : List ℕ) → Before done order → Begins order (appearance p) → IsThen p complete order complete
      is-then done order b g = record {
        begins = g;
        before = b.passed.before;
        within = b.within;
        spare = λ i t e h. (b.own, omega arith);
        members = λ i m t l h e f. earlier-names p sound complete done order b.passed i m t l h e f;
      }

      base-within : (b : CType) (ss : List (At Spec)) → ShowsBase p.structures b ss → (order : List ℕ) → ((i : ℕ) → is_among i order ≡ true → (t : Structure) × (slice_get p.structures i ≡ Some t)) →
          (i : ℕ) → is_among i (with_base (base_of b) order) ≡ true → (t : Structure) × (slice_get p.structures i ≡ Some t)
      base-within _ _ (ShowsVoid b qs ss e r h) order w i k =
          w i (ap (λ (o : Option ℕ). is_among i (with_base o order)) (sym (base-at b shape.Void e)) ∙ k)
      base-within _ _ (ShowsInt b j qs ss e r h) order w i k =
          w i (ap (λ (o : Option ℕ). is_among i (with_base o order)) (sym (base-at b (shape.Int j) e)) ∙ k)
      base-within _ _ (ShowsStructure b j t qs at e f r) order w i k =
          first-origin j i order ((t : Structure) × (slice_get p.structures i ≡ Some t)) (ap (λ (o : Option ℕ). is_among i (with_base o order)) (sym (base-at b (shape.Struct j) e)) ∙ k) (w i)
          (λ is. (t, ap (slice_get p.structures) is ∙ f))

      last-at : (ls : List Named) (l : Named) → slice_get (ls ++ l ∷ []) (length ls) ≡ Some l
      last-at [] l = refl
      last-at (k ∷ ls) l = last-at ls l

      names-apart : (x : List ℕ) (ls : List Named) → list_any (bytes_eq x) (local_names ls) ≡ false → is_member_name x (numbered ls) ≡ false
      names-apart x [] h = refl
      names-apart x (l ∷ ls) h =
          let q = or-false (bytes_eq x l.0) (list_any (bytes_eq x) (local_names ls)) h in
          ap (λ (b : Bool). b || is_member_name x (numbered ls)) q.0 ∙ names-apart x ls q.1

      -- each of the rest is such as a member may be, and has a name that none in front of it has
      abbrev pub AreLeft : List Named → List Named → Type 0
      AreLeft done [] = Unit {0}
      AreLeft done (l ∷ ls) = (is_member (take complete p.structures) (length p.structures) p.target l ≡ true) × (list_any (bytes_eq l.0) (local_names done) ≡ false) × AreLeft (done ++ l ∷ []) ls

      pub all-members : (done ls : List Named) (ms : List (At MemberDecl)) → ShowsMembers p.structures ls ms → s.members ≡ done ++ ls → AreLeft done ls → (order : List ℕ) → Before done order → Begins (with_members ls order) (appearance p) →
          (in_turn (λ (d : At MembersMeaning) ms s. d.node ms s) (map (members_here p.target roles) ms) (numbered done) (first_state p complete order) ≡ Ok (numbered (done ++ ls), first_state p complete (with_members ls order))) × Before (done ++ ls) (with_members ls order)
      all-members done _ _ NoMember split left order b g =
          let same : done ≡ done ++ [] = sym (append-nil done) in
          (ap (λ (ls : List Named). Ok (numbered ls, first_state p complete order)) same, subst (λ (ls : List Named). Before ls order) same b)
      all-members done _ _ (MoreMembers l ls b ss d at ms hb hd hr) split left order q g =
          let words : base_of b ≡ base_of l.1 = declared-base p.structures b l.1 d.node (Plain (Some l.0)) hd in
          let order1 = with_base (base_of l.1) order in
          let g1 = begins-members ls order1 (appearance p) g in
          let known = is-then done order q (begins-base (base_of l.1) order (appearance p) g1) in
          let q1 : Before (done ++ l ∷ []) order1 = record {
            passed = member-passed p complete done l order q.passed;
            own = base-keeps p (base_of l.1) complete order q.own;
            within = subst (λ (o : Option ℕ). (i : ℕ) → is_among i (with_base o order) ≡ true → (t : Structure) × (slice_get p.structures i ≡ Some t)) words (base-within b ss hb order q.within);
          } in
          let known1 = is-then (done ++ l ∷ []) order1 q1 g1 in
          let split1 : s.members ≡ (done ++ l ∷ []) ++ ls = split ∙ sym (append_assoc done (l ∷ []) ls) in
          let only = member-names p sound complete s (done ++ l ∷ []) ls order1 here split1 q1.own q1.passed (length done) l (last-at done l) in
          let words_found = base-specified p sound roles complete order complete known (setting stands.AsMember entity.Member) b ss hb (subst (λ (o : Option ℕ). Begins (with_base o order) (appearance p)) (sym words) g1) in
          let more : numbered done ++ named_numbered number l ∷ [] ≡ numbered (done ++ l ∷ []) = sym (map-append (named_numbered number) done (l ∷ [])) in
          let step = members-at ss (d ∷ []) (numbered done) (first_state p complete order)
          ∙ ap (λ (m : Found SpecifiedType). and_then m (λ base s. declared_members p.target base.ctype (declr_here p.target roles d ∷ []) (numbered done) s))
          (words_found.is ∙ ap (λ (o : Option ℕ). Ok (record { specs = words_found.specs; ctype = type_numbered number b }, first_state p complete (with_base o order))) words)
          ∙ one-member order1 complete known1 l (numbered done) b d hd only left.0 (names-apart l.0 done left.1)
          ∙ ap (λ (ls : List Named). Ok (ls, first_state p complete order1)) more in
          let rest = all-members (done ++ l ∷ []) ls ms hr split1 left.2 order1 q1 g in
          let joined : (done ++ l ∷ []) ++ ls ≡ done ++ l ∷ ls = append_assoc done (l ∷ []) ls in (
            ap (λ (m : Found (List Named)). and_then m (in_turn (λ (d : At MembersMeaning) ms s. d.node ms s) (map (members_here p.target roles) ms))) step
                ∙ rest.0 ∙ ap (λ (ks : List Named). Ok (numbered ks, first_state p complete (with_members ls order1))) joined,
            subst (λ (ks : List Named). Before ks (with_members ls order1)) joined rest.1,
          )

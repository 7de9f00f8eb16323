-- What declarators, parameters, members and type names add, where their parts add so much, and the names that they declare may name something (C99 6.7.5, 6.7.5.3, 6.7.2.1).
use Rattle.std.proofs.Common.{◌≡◌, ◌≤◌, ◌+◌, ℕ, suc, Bool, true, false, true≢false, not, ◌||◌, List, [], ◌∷◌, ◌++◌, length, Option, Some, None, Ok, Err, refl, ap, sym, ◌∙◌, subst, length-append, arith}
use Rattle.std.specs.Prelude.{◌&&◌, is_some, if◌then◌else◌}
use Rattle.std.specs.List.{list_all, list_any}
use Rattle.std.specs.Str.{bytes_eq}
use Rattle.std.proofs.lemmas.Bool.{or_parts, not-true, false_from_ne_true}
use Rattle.std.proofs.lemmas.Slice.Eq.{bytes_eq-Decides}
use Rattle.cc_type.specs.CcTypedTerms.Declarators.{derived_type}
use Rattle.cc_type.specs.CcTypedTerms.Located.{located}
use Rattle.cc_type.specs.CcTypedTerms.Members.{member_judged}
use Rattle.cc_type.specs.CcTypedTerms.Names.{new_name}
use Rattle.cc_type.specs.CcTypedTerms.Parameters.{parameter, parameter_bound}
use Rattle.cc_program.specs.CcNum.declared.target.Target.{Target}
use Rattle.cc_operand_types.proofs.Operands.{must_ok, ok_is}
use Rattle.cc_type.specs.CcOperands.Verdicts.{must}
use Rattle.cc_type.specs.CcOperands.declared.rule.Rule.TheVariants as rule
use Rattle.cc_type.specs.CcTypedTerms.Values.{value_found}
use Rattle.cc_program.proofs.Each.{Each}
use Rattle.cc_program.specs.declared.program.Roles.{Roles}
use Rattle.cc_program.specs.declared.types.CType.{CType}
use Rattle.cc_type.specs.CcScopes.State.{State, Name, Scope, empty, innermost, entered, left, outer_scopes, bind, structures_of, layouts_of}
use Rattle.cc_type.specs.CcScopes.Structures.{is_member_name}
use Rattle.cc_type.specs.CcScopes.Verdicts.{whole, and_then}
use Rattle.cc_type.specs.CcScopes.declared.designated.Designated.TheVariants as means
use Rattle.cc_sound_terms.proofs.Founds.{answer, answer_is, then_found, whole_found, located_found, then_judged}
use Rattle.cc_sound_terms.proofs.Outcomes.{each_append}
use Rattle.cc_type.specs.CcSpecifiers.Bounds.{bound_judged}
use Rattle.cc_type.specs.CcSpecifiers.Declarators.{type_found}
use Rattle.cc_type.specs.CcSpecifiers.Derivations.{nothing_more, in_parameter, in_type_name, with_derivation, is_next_to_name, suffix_found, pointer_derivation}
use Rattle.cc_type.specs.CcSpecifiers.Objects.{is_object}
use Rattle.cc_type.specs.CcSpecifiers.Parameters.{parameter_type}
use Rattle.cc_type.specs.CcSpecifiers.Storage.{setting}
use Rattle.cc_type.specs.CcSpecifiers.declared.attribute.Entity.TheVariants as entity
use Rattle.cc_type.specs.CcSpecifiers.declared.derivation.Allowed.{Allowed}
use Rattle.cc_type.specs.CcSpecifiers.declared.derivation.Declarator.{Declarator}
use Rattle.cc_type.specs.CcSpecifiers.declared.derivation.Derivation.{Derivation}
use Rattle.cc_type.specs.CcSpecifiers.declared.derivation.Derivation.TheVariants as to
use Rattle.cc_type.specs.CcSpecifiers.declared.derivation.Parameter.{Parameter}
use Rattle.cc_type.specs.CcSpecifiers.declared.storage.Where.TheVariants as stands
use Rattle.cc_type.proofs.CcSyntax.Prefixes.{both_true}
use Rattle.cc_type.proofs.CcSyntax.SameLemmas.{and_true}
use Rattle.cc_type.specs.CcSyntax.Names.{local_names}
use Rattle.cc_type.specs.CcSyntax.Types.{Named}
use Rattle.cc_type.specs.CcTerms.Declarators.{declarator, without_bound, with_bound, bounded, parameters_found, with_scope, parameter_declared}
use Rattle.cc_type.specs.CcTerms.InTurn.{in_turn, one_more}
use Rattle.cc_type.specs.CcTerms.Meanings.{TreeMeaning, DeclrMeaning, ParamsMeaning, ParamMeaning, SpecMeaning}
use Rattle.cc_type.specs.CcTerms.Members.{member_found, declared_members}
use Rattle.cc_type.specs.CcTerms.Specifiers.{specified_found}
use Rattle.cc_type.specs.CcTerms.Structures.{member_behind}
use Rattle.cc_tree.specs.declared.at.At.{At}
use Rattle.cc_program.specs.CcWords.Names.{are_distinct, is_name}
use Rattle.cc_program.specs.CcWords.declared.word.Word.{Word}
use Rattle.cc_named_units.specs.Names.{one_or_more}
use Rattle.cc_named_units.specs.Named.{Limits, IsNamedParameter, AreNamedParameters, IsNamedDerivation, IsNamedNext, Adds, AddsDeclarator}
use Rattle.cc_named_units.proofs.Adding.{AreCounted, unmoved, adds_through, adds_more, adds_same, chained, before, judged, placed, bound, scopes_changed}
use Rattle.cc_named_units.proofs.TermSteps.{TreeAdds, value_adds}
use Rattle.cc_named_units.proofs.Specifiers.{SpecAdds, MembersAdd, AreMembers, AreNamed, least_of, least-some, specified_adds}
use Rattle.cc_named_units.proofs.Trees.{TypeNameAdds}

or_false : (b : Bool) → (b || false) ≡ b
or_false true = refl
or_false false = refl

-- ---- a derivation more

more_parameters : (unnamed : Bool) (m n : ℕ) (d : Derivation Scope) → m ≤ n → IsNamedDerivation unnamed m d → IsNamedDerivation unnamed n d
more_parameters unnamed m n (to.Function ps scope) l h = let f = h.few in record { each = h.each; few = omega arith }
more_parameters unnamed m n (to.Pointer constant volatile) l h = tt
more_parameters unnamed m n (to.Array b) l h = tt

more_next : (unnamed : Bool) (m n : ℕ) (ds : List (At (Derivation Scope))) (d : At (Derivation Scope)) → m ≤ n → IsNamedNext unnamed m ds → (is_next_to_name ds ≡ true → IsNamedDerivation unnamed n d.node) → IsNamedNext unnamed n (ds ++ d ∷ [])
more_next unnamed m n [] d l h f = f refl
more_next unnamed m n (e ∷ ds) d l h f = more_parameters unnamed m n e.node l h

more_name : (used m k : ℕ) (x : Name) → (is_name x ≡ true) × (used + 1 ≤ m) → (is_name x ≡ true) × (used + k + 1 ≤ m + k)
more_name used m k x h = let l = h.1 in (h.0, omega arith)

-- ---- a member more

pub named_more : (ms : List Named) (x : Name) (t : CType) → list_all is_name (local_names ms) ≡ true → is_name x ≡ true → list_all is_name (local_names (ms ++ (x, t) ∷ [])) ≡ true
named_more [] x t h q = and_true (is_name x) true q refl
named_more (m ∷ ms) x t h q = let c = both_true (is_name m.0) (list_all is_name (local_names ms)) h in and_true (is_name m.0) (list_all is_name (local_names (ms ++ (x, t) ∷ []))) c.0 (named_more ms x t c.1 q)

-- no name twice, where it is not there
not_behind : (y x : Name) (t : CType) (ms : List Named) → list_any (bytes_eq y) (local_names ms) ≡ false → bytes_eq y x ≡ false → list_any (bytes_eq y) (local_names (ms ++ (x, t) ∷ [])) ≡ false
not_behind y x t [] h e = or_false (bytes_eq y x) ∙ e
not_behind y x t (m ∷ ms) h e =
    let c = or_parts (bytes_eq y m.0) (list_any (bytes_eq y) (local_names ms)) h in
    ap (λ (b : Bool). b || list_any (bytes_eq y) (local_names (ms ++ (x, t) ∷ []))) c.0 ∙ not_behind y x t ms c.1 e

not_same : (x y : Name) → bytes_eq x y ≡ false → bytes_eq y x ≡ false
not_same x y h = false_from_ne_true (bytes_eq y x) (λ e. true≢false (sym ((bytes_eq-Decides x y).1 (sym ((bytes_eq-Decides y x).0 e))) ∙ h))

apart_more : (ms : List Named) (x : Name) (t : CType) → are_distinct (local_names ms) ≡ true → is_member_name x ms ≡ false → are_distinct (local_names (ms ++ (x, t) ∷ [])) ≡ true
apart_more [] x t h n = refl
apart_more (m ∷ ms) x t h n =
    let c = both_true (not (list_any (bytes_eq m.0) (local_names ms))) (are_distinct (local_names ms)) h in
    let k = or_parts (bytes_eq x m.0) (is_member_name x ms) n in
    and_true (not (list_any (bytes_eq m.0) (local_names (ms ++ (x, t) ∷ [])))) (are_distinct (local_names (ms ++ (x, t) ∷ [])))
    (ap not (not_behind m.0 x t ms (not-true (list_any (bytes_eq m.0) (local_names ms)) c.0) (not_same x m.0 k.0))) (apart_more ms x t c.1 k.1)

module _ (target : Target) (most : Limits) where
  member_by : (b : Bool) (count : ℕ) (x : Name) (t : CType) (ms ns : List Named) → is_member_name x ms ≡ b → (if b then Err rule.MemberTwice else Ok (ms ++ (x, t) ∷ [])) ≡ Ok ns → AreNamed ms → (is_name x ≡ true) × (1 ≤ count) → AreMembers 1 count ms ns
  member_by true count x t ms ns n h q k = absurd (cc)
  member_by false count x t ms ns n h q k =
      let one = k.1 in
      let e = length-append ms ((x, t) ∷ []) in
      subst (AreMembers 1 count ms) (ok_is h) (record { named = record { names = named_more ms x t q.names k.0; apart = apart_more ms x t q.apart n }; few = omega (arith, e); more = omega (arith, e) })

  -- a declarator with so many names and parameters, and with a name where the flag says so; and so on
  abbrev pub DeclrAdds : ℕ → Bool → DeclrMeaning → Type 0
  DeclrAdds count named m = (allowed : Allowed) (at : ℕ) (s : State) (r : Declarator Scope × State) → m allowed at s ≡ Ok r → AddsDeclarator most count named allowed.unnamed s r

  -- one with a name
  abbrev pub NamedDeclrAdds : ℕ → DeclrMeaning → Type 0
  NamedDeclrAdds count m = DeclrAdds count true m

  abbrev pub ParamsAdd : ℕ → ParamsMeaning → Type 0
  ParamsAdd count m = (unnamed : Bool) (s : State) (r : (List Parameter × Scope) × State) → m unnamed s ≡ Ok r → Adds most count s r.1 × AreNamedParameters unnamed count r.0.0

  abbrev pub AreMore : Bool → ℕ → List Parameter → List Parameter → Type 0
  AreMore unnamed count front ps = Each (IsNamedParameter unnamed) ps × (length ps ≤ length front + count)

  abbrev pub ParamAdds : ℕ → ParamMeaning → Type 0
  ParamAdds count m = (unnamed : Bool) (front : List Parameter) (s : State) (r : List Parameter × State) → m unnamed front s ≡ Ok r → Each (IsNamedParameter unnamed) front → Adds most count s r.1 × AreMore unnamed count front r.0

  -- ---- declarators

  pub nothing_adds : DeclrAdds 0 false (λ allowed at s. Ok (record { name = None; derivations = [] }, s))
  nothing_adds allowed at s r h =
      let e = answer_is (record { name = None; derivations = [] }) s r h in
      record {
        used = 0;
        within = omega arith;
        adds = unmoved most 0 s r.1 e.1;
        name = λ x f. let g = ap (λ (d : Declarator Scope). d.name) e.0 in absurd (cc);
        there = λ f. absurd (true≢false (sym f));
        next = subst (λ (d : Declarator Scope). IsNamedNext allowed.unnamed 0 d.derivations) (sym e.0) tt;
      }

  same_name : (x y : Name) → Some x ≡ Some y → x ≡ y
  same_name x y e = cc

  pub name_adds : (x : Name) → is_name x ≡ true → DeclrAdds 1 true (λ allowed at s. Ok (record { name = Some x; derivations = [] }, s))
  name_adds x q allowed at s r h =
      let e = answer_is (record { name = Some x; derivations = [] }) s r h in
      record {
        used = 0;
        within = omega arith;
        adds = unmoved most 0 s r.1 e.1;
        name = λ y f. (subst (λ (z : Name). is_name z ≡ true) (same_name x y (sym (ap (λ (d : Declarator Scope). d.name) e.0) ∙ f)) q, omega arith);
        there = λ f. ap (λ (d : Declarator Scope). is_some d.name) e.0;
        next = subst (λ (d : Declarator Scope). IsNamedNext allowed.unnamed 1 d.derivations) (sym e.0) tt;
      }

  -- with a derivation behind it, which adds so many more
  derived : (m k : ℕ) (named unnamed : Bool) (at : ℕ) (new : Derivation Scope) (s : State) (x : Declarator Scope × State) (r : Declarator Scope × State) → AddsDeclarator most m named unnamed s x → r.0 ≡ with_derivation at new x.0 → Adds most k x.1 r.1 →
      (is_next_to_name x.0.derivations ≡ true → IsNamedDerivation unnamed (m + k) new) → AddsDeclarator most (m + k) named unnamed s r
  derived m k named unnamed at new s x r a e b f =
      let w = a.within in
      record {
        used = a.used + k;
        within = omega arith;
        adds = adds_through most a.used k (a.used + k) s x.1 r.1 (omega arith) a.adds b;
        name = λ y g. more_name a.used m k y (a.name y (sym (ap (λ (d : Declarator Scope). d.name) e) ∙ g));
        there = λ f. ap (λ (d : Declarator Scope). is_some d.name) e ∙ a.there f;
        next = subst (λ (d : Declarator Scope). IsNamedNext unnamed (m + k) d.derivations) (sym e) (more_next unnamed m (m + k) x.0.derivations (record { at = at; node = new }) (omega arith) a.next f);
      }

  -- of the same count
  derived_alone : (m : ℕ) (named unnamed : Bool) (at : ℕ) (new : Derivation Scope) (s : State) (x : Declarator Scope × State) (r : Declarator Scope × State) → AddsDeclarator most m named unnamed s x → r.0 ≡ with_derivation at new x.0 → r.1 ≡ x.1 →
      (is_next_to_name x.0.derivations ≡ true → IsNamedDerivation unnamed m new) → AddsDeclarator most m named unnamed s r
  derived_alone m named unnamed at new s x r a e b f = record {
    used = a.used;
    within = a.within;
    adds = subst (λ (t : State). Adds most a.used s t) (sym b) a.adds;
    name = λ y g. a.name y (sym (ap (λ (d : Declarator Scope). d.name) e) ∙ g);
    there = λ f. ap (λ (d : Declarator Scope). is_some d.name) e ∙ a.there f;
    next = subst (λ (d : Declarator Scope). IsNamedNext unnamed m d.derivations) (sym e) (more_next unnamed m m x.0.derivations (record { at = at; node = new }) (omega arith) a.next f);
  }

  pub pointer_adds : (m : ℕ) (named : Bool) (words : List Word) (d : At DeclrMeaning) → DeclrAdds m named d.node → DeclrAdds m named (λ allowed at s. declarator allowed d s (λ d s. Ok (with_derivation at (pointer_derivation words) d, s)))
  pointer_adds m named words d hd allowed at s r h =
      let a = then_found (d.node allowed d.at s) (λ d s. answer (with_derivation at (pointer_derivation words) d) s) r h in
      let e = answer_is (with_derivation at (pointer_derivation words) a.0.0) a.0.1 r a.2 in
      derived_alone m named allowed.unnamed at (pointer_derivation words) s a.0 r (hd allowed d.at s a.0 a.1) e.0 e.1 (λ g. tt)

  -- an array: whether the bound is there, and what is added before it
  pub open_array_adds : (m : ℕ) (named : Bool) (d : At DeclrMeaning) → DeclrAdds m named d.node → DeclrAdds (m + 0) named (λ allowed at s. declarator allowed d s (λ d s. and_then (located s (suffix_found false d.derivations)) (λ done s. bounded at allowed d None s)))
  open_array_adds m named d hd allowed at s r h =
      let a = then_found (d.node allowed d.at s) (λ d s. and_then (located s (suffix_found false d.derivations)) (λ done s. bounded at allowed d None s)) r h in
      let b = then_found (located a.0.1 (suffix_found false a.0.0.derivations)) (λ done s. bounded at allowed a.0.0 None s) r a.2 in
      let place = located_found a.0.1 (suffix_found false a.0.0.derivations) b.0 b.1 in
      let w = whole_found at b.0.1 (without_bound at allowed a.0.0) r b.2 in
      let o = must_ok (allowed.unbounded && is_next_to_name a.0.0.derivations) rule.ArrayBound (Ok (with_derivation at (to.Array None) a.0.0)) r.0 w.0 in
      derived m 0 named allowed.unnamed at (to.Array None) s a.0 r (hd allowed d.at s a.0 a.1) (sym (ok_is o.1)) (unmoved most 0 a.0.1 r.1 (w.1 ∙ place.1)) (λ g. tt)

  pub array_adds : (m k : ℕ) (named : Bool) (d : At DeclrMeaning) (e : At TreeMeaning) → DeclrAdds m named d.node → TreeAdds most k e.node →
      DeclrAdds (m + k) named (λ allowed at s. declarator allowed d s (λ d s. and_then (located s (suffix_found false d.derivations)) (λ done s. bounded at allowed d (Some e) s)))
  array_adds m k named d e hd he allowed at s r h =
      let a = then_found (d.node allowed d.at s) (λ d s. and_then (located s (suffix_found false d.derivations)) (λ done s. bounded at allowed d (Some e) s)) r h in
      let b = then_found (located a.0.1 (suffix_found false a.0.0.derivations)) (λ done s. bounded at allowed a.0.0 (Some e) s) r a.2 in
      let c = then_found (value_found e b.0.1) (λ x s. whole at s (with_bound at a.0.0 x)) r b.2 in
      let place = placed most 0 a.0.1 (suffix_found false a.0.0.derivations) b.0 b.1 in
      let w = whole_found at c.0.1 (with_bound at a.0.0 c.0.0) r c.2 in
      let o = then_judged (bound_judged c.0.0) (λ n. Ok (with_derivation at (to.Array (Some n)) a.0.0)) r.0 w.0 in
      derived m k named allowed.unnamed at (to.Array (Some o.0)) s a.0 r (hd allowed d.at s a.0 a.1) (sym (ok_is o.2))
      (adds_through most 0 k k a.0.1 b.0.1 r.1 (omega arith) place (adds_through most k 0 k b.0.1 c.0.1 r.1 (omega arith) (value_adds most k e he b.0.1 c.0 c.1) (unmoved most 0 c.0.1 r.1 w.1))) (λ g. tt)

  -- parameters next to the name
  first_parameters : (unnamed : Bool) (count : ℕ) (ds : List (At (Derivation Scope))) (ps : List Parameter) → AreNamedParameters (unnamed || not (is_next_to_name ds)) count ps → is_next_to_name ds ≡ true → AreNamedParameters unnamed count ps
  first_parameters unnamed count [] ps h e = subst (λ b. AreNamedParameters b count ps) (or_false unnamed) h
  first_parameters unnamed count (d ∷ ds) ps h e = absurd (cc)

  pub function_adds : (m k : ℕ) (named : Bool) (d : At DeclrMeaning) (ps : ParamsMeaning) → DeclrAdds m named d.node → ParamsAdd k ps →
      DeclrAdds (m + k) named (λ allowed at s. declarator allowed d s (λ d s. and_then (located s (suffix_found true d.derivations)) (λ done s.
      and_then (ps (allowed.unnamed || not (is_next_to_name d.derivations)) s) (λ ps s. Ok (with_derivation at (to.Function ps.0 ps.1) d, s)))))
  function_adds m k named d ps hd hp allowed at s r h =
      let a = then_found (d.node allowed d.at s)
      (λ d s. and_then (located s (suffix_found true d.derivations)) (λ done s. and_then (ps (allowed.unnamed || not (is_next_to_name d.derivations)) s) (λ ps s. Ok (with_derivation at (to.Function ps.0 ps.1) d, s)))) r h in
      let unnamed = allowed.unnamed || not (is_next_to_name a.0.0.derivations) in
      let b = then_found (located a.0.1 (suffix_found true a.0.0.derivations)) (λ done s. and_then (ps unnamed s) (λ ps s. Ok (with_derivation at (to.Function ps.0 ps.1) a.0.0, s))) r a.2 in
      let c = then_found (ps unnamed b.0.1) (λ ps s. answer (with_derivation at (to.Function ps.0 ps.1) a.0.0) s) r b.2 in
      let e = answer_is (with_derivation at (to.Function c.0.0.0 c.0.0.1) a.0.0) c.0.1 r c.2 in
      let place = placed most 0 a.0.1 (suffix_found true a.0.0.derivations) b.0 b.1 in
      let p = hp unnamed b.0.1 c.0 c.1 in
      derived m k named allowed.unnamed at (to.Function c.0.0.0 c.0.0.1) s a.0 r (hd allowed d.at s a.0 a.1) e.0
      (adds_same most k a.0.1 c.0.1 r.1 e.1 (adds_through most 0 k k a.0.1 b.0.1 c.0.1 (omega arith) place p.0))
      (λ i. let w = first_parameters allowed.unnamed k a.0.0.derivations c.0.0.0 p.1 i in more_parameters allowed.unnamed k (m + k) (to.Function c.0.0.0 c.0.0.1) (omega arith) w)

  derived_found : (allowed : Allowed) (base : CType) (d : Declarator Scope) (s : State) (r : CType × State) → derived_type target allowed base d s ≡ Ok r → r.1 ≡ s
  derived_found allowed base d s r h = (located_found s (type_found target (structures_of s) (layouts_of s) allowed base d.derivations) r h).1

  whole_adds : (m : ℕ) (named unnamed : Bool) (s : State) (x : Declarator Scope × State) → AddsDeclarator most m named unnamed s x → Adds most m s x.1
  whole_adds m named unnamed s x a = adds_more most a.used m s x.1 a.within a.adds

  pub type_name_adds : (m k : ℕ) (named : Bool) (specs : List (At SpecMeaning)) (d : At DeclrMeaning) → AreCounted (SpecAdds target most) specs m → DeclrAdds k named d.node →
      TypeNameAdds target most (m + k) (λ cast s. and_then (specified_found (setting stands.InTypeName entity.Nothing) specs s) (λ base s. declarator (in_type_name cast) d s (λ d s. derived_type target (in_type_name cast) base.ctype d s)))
  type_name_adds m k named specs d hs hd cast s r h =
      chained most m k (m + k) (specified_found (setting stands.InTypeName entity.Nothing) specs s) (λ base s. declarator (in_type_name cast) d s (λ d s. derived_type target (in_type_name cast) base.ctype d s)) s r (omega arith)
      (λ x f. specified_adds target most (setting stands.InTypeName entity.Nothing) specs m hs s x f)
      (λ x f. before most k (d.node (in_type_name cast) d.at x.1) (λ d s. derived_type target (in_type_name cast) x.0.ctype d s) x.1 r (λ y g. whole_adds k named true x.1 y (hd (in_type_name cast) d.at x.1 y g))
      (λ y g. unmoved most 0 y.1 r.1 (derived_found (in_type_name cast) x.0.ctype y.0 y.1 r g)) f) h

  -- ---- members

  named_once : (used count : ℕ) (x : Name) → (is_name x ≡ true) × (used + 1 ≤ count) → (is_name x ≡ true) × (1 ≤ count)
  named_once used count x h = let l = h.1 in (h.0, omega arith)

  member_is : (count : ℕ) (t : CType) (front : List Named) (s : State) (o : Option Name) (ms : List Named) → ((x : Name) → o ≡ Some x → (is_name x ≡ true) × (1 ≤ count)) → is_some o ≡ true → AreNamed front →
      member_judged target t front s o ≡ Ok ms → AreMembers 1 count front ms
  member_is count t front s None ms f there q h = absurd (true≢false (sym there))
  member_is count t front s (Some x) ms f there q h =
      let o = must_ok (is_object target (structures_of s) (layouts_of s) t) rule.NoObjectType (if is_member_name x front then Err rule.MemberTwice else Ok (front ++ (x, t) ∷ [])) ms h in
      member_by (is_member_name x front) count x t front ms refl o.1 q (f x refl)

  member_adds : (count : ℕ) (base : CType) (d : At DeclrMeaning) → NamedDeclrAdds count d.node → (front : List Named) → AreNamed front → (s : State) (r : List Named × State) →
      member_found target base d front s ≡ Ok r → Adds most count s r.1 × AreMembers 1 count front r.0
  member_adds count base d hd front q s r h =
      let a = then_found (d.node nothing_more d.at s) (λ x s. member_behind target base d.at front x s) r h in
      let b = then_found (derived_type target nothing_more base a.0.0 a.0.1) (λ t s. whole d.at s (member_judged target t front s a.0.0.name)) r a.2 in
      let w = whole_found d.at b.0.1 (member_judged target b.0.0 front b.0.1 a.0.0.name) r b.2 in
      let k = hd nothing_more d.at s a.0 a.1 in (
        adds_same most count s a.0.1 r.1 (w.1 ∙ derived_found nothing_more base a.0.0 a.0.1 b.0 b.1) (whole_adds count true true s a.0 k),
        member_is count b.0.0 front b.0.1 a.0.0.name r.0 (λ x e. named_once k.used count x (k.name x e)) (k.there refl) q w.0,
      )

  declared_add : (base : CType) (ds : List (At DeclrMeaning)) (c : ℕ) → AreCounted NamedDeclrAdds ds c → (front : List Named) → AreNamed front → (s : State) (r : List Named × State) →
      declared_members target base ds front s ≡ Ok r → Adds most c s r.1 × AreMembers (least_of ds) c front r.0
  declared_add base [] c g front q s r h =
      let e = answer_is front s r h in (unmoved most c s r.1 e.1, subst (AreMembers 0 c front) (sym e.0) (record { named = q; few = omega arith; more = omega arith }))
  declared_add base (d ∷ ds) c g front q s r h =
      let a = then_found (member_found target base d front s) (in_turn (member_found target base) ds) r h in
      let b = member_adds g.0 base d g.3 front q s a.0 a.1 in
      let w = declared_add base ds g.1 g.4 a.0.0 b.1.named a.0.1 r a.2 in
      let sum = g.2 in
      let l = b.1.few in
      let m = w.1.few in
      let least = b.1.more in
      let more = w.1.more in
      (adds_through most g.0 g.1 c s a.0.1 r.1 (omega arith) b.0 w.0, record { named = w.1.named; few = omega arith; more = omega arith })

  pub member_list_adds : (specs : List (At SpecMeaning)) (ds : List (At DeclrMeaning)) (m c : ℕ) → AreCounted (SpecAdds target most) specs m → AreCounted NamedDeclrAdds ds c → one_or_more ds ≡ true →
      MembersAdd target most (m + c) (λ ms s. and_then (specified_found (setting stands.AsMember entity.Member) specs s) (λ base s. declared_members target base.ctype ds ms s))
  member_list_adds specs ds m c hs g some front s r h q =
      let set = setting stands.AsMember entity.Member in
      let a = then_found (specified_found set specs s) (λ base s. declared_members target base.ctype ds front s) r h in
      let b = declared_add a.0.0.ctype ds c g front q a.0.1 r a.2 in
      let l = b.1.few in
      let more = b.1.more in
      let e = least-some ds some in
      (adds_through most m c (m + c) s a.0.1 r.1 (omega arith) (specified_adds target most set specs m hs s a.0 a.1) b.0, record { named = b.1.named; few = omega arith; more = omega arith })

  -- ---- parameters

  pub empty_adds : ParamsAdd 0 (λ unnamed s. Ok (([], empty), s))
  empty_adds unnamed s r h =
      let e = answer_is ([], empty) s r h in
      (unmoved most 0 s r.1 e.1, subst (λ (p : List Parameter × Scope). AreNamedParameters unnamed 0 p.0) (sym e.0) (record { each = tt; few = omega arith }))

  params_listed : (unnamed : Bool) (ps : List (At ParamMeaning)) (c : ℕ) → AreCounted ParamAdds ps c → (front : List Parameter) → Each (IsNamedParameter unnamed) front → (s : State) (r : List Parameter × State) →
      in_turn (λ p before s. p.node unnamed before s) ps front s ≡ Ok r → Adds most c s r.1 × AreMore unnamed c front r.0
  params_listed unnamed [] c g front q s r h = let e = answer_is front s r h in (unmoved most c s r.1 e.1, subst (AreMore unnamed c front) (sym e.0) (q, omega arith))
  params_listed unnamed (d ∷ ds) c g front q s r h =
      let a = then_found (d.node unnamed front s) (in_turn (λ p before s. p.node unnamed before s) ds) r h in
      let b = g.3 unnamed front s a.0 a.1 q in
      let w = params_listed unnamed ds g.1 g.4 a.0.0 b.1.0 a.0.1 r a.2 in
      let sum = g.2 in
      let l = b.1.1 in
      let m = w.1.1 in
      (adds_through most g.0 g.1 c s a.0.1 r.1 (omega arith) b.0 w.0, (w.1.0, omega arith))

  pub many_add : (ps : List (At ParamMeaning)) (c : ℕ) → AreCounted ParamAdds ps c → ParamsAdd c (λ unnamed s. with_scope (parameters_found unnamed ps (entered empty s)))
  many_add ps c g unnamed s r h =
      let a = then_found (parameters_found unnamed ps (entered empty s)) (λ ps s. answer (ps, innermost s.scopes) (left s)) r h in
      let b = params_listed unnamed ps c g [] tt (entered empty s) a.0 a.1 in
      let e = answer_is (a.0.0, innermost a.0.1.scopes) (left a.0.1) r a.2 in
      let l = b.1.1 in (
        adds_same most c s (left a.0.1) r.1 e.1
            (adds_through most 0 c c s (entered empty s) (left a.0.1) (omega arith) (scopes_changed most (empty ∷ s.scopes) s) (adds_through most c 0 c (entered empty s) a.0.1 (left a.0.1) (omega arith) b.0 (scopes_changed most (outer_scopes a.0.1.scopes) a.0.1))),
        subst (λ (p : List Parameter × Scope). AreNamedParameters unnamed c p.0) (sym e.0) (record { each = b.1.0; few = omega arith }),
      )

  module _ (roles : Roles) where
    -- the parameter itself
    parameter_is : (unnamed : Bool) (at i : ℕ) (t : CType) (s : State) (o : Option Name) (r : Parameter × State) → ((x : Name) → o ≡ Some x → is_name x ≡ true) →
        parameter_bound roles unnamed i (parameter at o t) s o ≡ Ok r → Adds most 0 s r.1 × IsNamedParameter unnamed r.0
    parameter_is unnamed at i t s None r f h =
        let w = whole_found at s (must unnamed rule.DeclaredTwice (Ok (parameter at None t))) r h in
        let m = must_ok unnamed rule.DeclaredTwice (Ok (parameter at None t)) r.0 w.0 in
        (unmoved most 0 s r.1 w.1, subst (IsNamedParameter unnamed) (ok_is m.1) (record { name = refl; there = λ g. let u = m.0 in absurd (cc) }))
    parameter_is unnamed at i t s (Some x) r f h =
        let a = then_found (whole at s (new_name roles x s)) (λ y s. answer (parameter at (Some x) t) (bind y (means.Automatic i t) s)) r h in
        let e = answer_is (parameter at (Some x) t) (bind a.0.0 (means.Automatic i t) a.0.1) r a.2 in (
          adds_same most 0 s (bind a.0.0 (means.Automatic i t) a.0.1) r.1 e.1
              (adds_through most 0 0 0 s a.0.1 (bind a.0.0 (means.Automatic i t) a.0.1) (omega arith) (judged most 0 at s (new_name roles x s) a.0 a.1) (bound most a.0.0 (means.Automatic i t) a.0.1)),
          subst (IsNamedParameter unnamed) (sym e.0) (record { name = f x refl; there = λ g. refl }),
        )

    pub param_adds : (m k : ℕ) (named : Bool) (specs : List (At SpecMeaning)) (d : At DeclrMeaning) → AreCounted (SpecAdds target most) specs m → DeclrAdds k named d.node →
        ParamAdds (suc (m + k)) (λ unnamed before s. and_then (specified_found (setting stands.AsParameter entity.Parameter) specs s) (λ base s.
        declarator in_parameter d s (λ x s. parameter_declared target roles unnamed before base.ctype d.at x s)))
    param_adds m k named specs d hs hd unnamed front s r h q =
        let set = setting stands.AsParameter entity.Parameter in
        let a = then_found (specified_found set specs s) (λ base s. declarator in_parameter d s (λ x s. parameter_declared target roles unnamed front base.ctype d.at x s)) r h in
        let b = then_found (d.node in_parameter d.at a.0.1) (λ x s. parameter_declared target roles unnamed front a.0.0.ctype d.at x s) r a.2 in
        let c = then_found (derived_type target in_parameter a.0.0.ctype b.0.0 b.0.1)
        (λ t s. and_then (whole d.at s (parameter_type t)) (λ t s. one_more front (parameter_bound roles unnamed (length front) (parameter d.at b.0.0.name t) s b.0.0.name))) r b.2 in
        let e = then_found (whole d.at c.0.1 (parameter_type c.0.0)) (λ t s. one_more front (parameter_bound roles unnamed (length front) (parameter d.at b.0.0.name t) s b.0.0.name)) r c.2 in
        let g = then_found (parameter_bound roles unnamed (length front) (parameter d.at b.0.0.name e.0.0) e.0.1 b.0.0.name) (λ x s. answer (front ++ x ∷ []) s) r e.2 in
        let i = answer_is (front ++ g.0.0 ∷ []) g.0.1 r g.2 in
        let y = hd in_parameter d.at a.0.1 b.0 b.1 in
        let w = parameter_is unnamed d.at (length front) e.0.0 e.0.1 b.0.0.name g.0 (λ x f. (y.name x f).0) g.1 in
        let there = (whole_found d.at c.0.1 (parameter_type c.0.0) e.0 e.1).1 ∙ derived_found in_parameter a.0.0.ctype b.0.0 b.0.1 c.0 c.1 in (
          adds_same most (suc (m + k)) s g.0.1 r.1 i.1
              (adds_through most m k (suc (m + k)) s a.0.1 g.0.1 (omega arith) (specified_adds target most set specs m hs s a.0 a.1)
              (adds_through most k 0 k a.0.1 b.0.1 g.0.1 (omega arith) (whole_adds k named true a.0.1 b.0 y) (adds_through most 0 0 0 b.0.1 e.0.1 g.0.1 (omega arith) (unmoved most 0 b.0.1 e.0.1 there) w.0))),
          subst (AreMore unnamed (suc (m + k)) front) (sym i.0) (each_append (IsNamedParameter unnamed) front g.0.0 q w.1, omega (arith, length-append front (g.0.0 ∷ []))),
        )

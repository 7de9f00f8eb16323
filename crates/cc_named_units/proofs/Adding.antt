-- What is added, one construct behind another; and what single changes of a state add.
use Rattle.std.proofs.Common.{◌≡◌, ◌≤◌, ◌+◌, ℕ, zero, suc, true, List, [], ◌∷◌, ◌++◌, length, Option, Ok, refl, ap, sym, subst, length-append, arith}
use Rattle.std.specs.Prelude.{take}
use Rattle.cc_type.specs.CcTypedTerms.Located.{located}
use Rattle.cc_named_units.specs.Names.{tag_named}
use Rattle.cc_program.specs.CcNum.declared.target.Target.{Target}
use Rattle.cc_type.specs.CcOperands.Verdicts.{Judged}
use Rattle.cc_type.specs.CcTypedTerms.Devices.{declared_device}
use Rattle.cc_type.specs.CcTypedTerms.Primary.{string_object}
use Rattle.cc_program.proofs.Each.{Each}
use Rattle.cc_program.specs.declared.expr.Place.{Place}
use Rattle.cc_program.specs.declared.object.Device.{Device}
use Rattle.cc_type.specs.CcScopes.State.{State, Name, Scope, KnownStructure, only_named, with_name, in_innermost, with_scopes, with_structures, with_names, with_unfinished, with_declared, change_at, change_name, bind, bind_tag, entered, outer_scopes, left}
use Rattle.cc_type.specs.CcScopes.Structures.{with_members, completed}
use Rattle.cc_type.specs.CcScopes.Verdicts.{Found, whole, and_then}
use Rattle.cc_type.specs.CcScopes.declared.designated.Designated.{Designated}
use Rattle.cc_type.specs.CcScopes.declared.designated.Tagged.{Tagged}
use Rattle.cc_type.specs.CcScopes.declared.unit.Declared.{Declared}
use Rattle.cc_sound_terms.proofs.Founds.{answer, answer_is, then_found, whole_found, located_found}
use Rattle.cc_sound_terms.proofs.Outcomes.{each_append}
use Rattle.cc_type.specs.CcSpecifiers.Places.{JudgedAt}
use Rattle.cc_type.specs.CcSyntax.Types.{Named}
use Rattle.cc_type.specs.CcTerms.InTurn.{in_turn}
use Rattle.cc_tree.specs.declared.at.At.{At}
use Rattle.cc_named_units.specs.Named.{Limits, AreFewMembers, IsNamedStructure, IsNamedEntry, Adds}

-- ---- lists

pub each_changed : {A : Type 0} (Q : A → Type 0) (change : A → A) (i : ℕ) (xs : List A) → ((x : A) → Q x → Q (change x)) → Each Q xs → Each Q (change_at i change xs)
each_changed Q change i [] f h = tt
each_changed Q change zero (x ∷ xs) f h = (f x h.0, h.1)
each_changed Q change (suc i) (x ∷ xs) f h = (h.0, each_changed Q change i xs f h.1)

pub changed-length : {A : Type 0} (change : A → A) (i : ℕ) (xs : List A) → length (change_at i change xs) ≡ length xs
changed-length change i [] = refl
changed-length change zero (x ∷ xs) = refl
changed-length change (suc i) (x ∷ xs) = ap suc (changed-length change i xs)

each_taken : {A : Type 0} (Q : A → Type 0) (i : ℕ) (xs : List A) → Each Q xs → Each Q (take i xs)
each_taken Q zero xs h = tt
each_taken Q (suc i) [] h = tt
each_taken Q (suc i) (x ∷ xs) h = (h.0, each_taken Q i xs h.1)

few_taken : {A : Type 0} (i : ℕ) (xs : List A) → length (take i xs) ≤ length xs
few_taken zero xs = omega arith
few_taken (suc i) [] = omega arith
few_taken (suc i) (x ∷ xs) = let h = few_taken i xs in omega arith

-- constructs that are good with so many names each, and with so many together
abbrev pub AreCounted : {A : Type 0} → (ℕ → A → Type 0) → List (At A) → ℕ → Type 0
AreCounted Good [] c = Unit {0}
AreCounted Good (x ∷ xs) c = (m : ℕ) × (k : ℕ) × (c ≡ m + k) × Good m x.node × AreCounted Good xs k

module _ (most : Limits) where
  pub unmoved : (c : ℕ) (s t : State) → t ≡ s → Adds most c s t
  unmoved c s t e = subst (λ (z : State). Adds most c s z) (sym e) (record { state = λ h. h; locals = λ h. h; few_locals = omega arith; few_names = omega arith; few_structures = omega arith })

  pub adds_itself : (c : ℕ) (s : State) → Adds most c s s
  adds_itself c s = unmoved c s s refl

  pub adds_through : (a b c : ℕ) (s t u : State) → a + b ≤ c → Adds most a s t → Adds most b t u → Adds most c s u
  adds_through a b c s t u l f g =
      let f0 = f.few_locals in
      let f1 = f.few_names in
      let f2 = f.few_structures in
      let g0 = g.few_locals in
      let g1 = g.few_names in
      let g2 = g.few_structures in
      record { state = λ h. g.state (f.state h); locals = λ h. g.locals (f.locals h); few_locals = omega arith; few_names = omega arith; few_structures = omega arith }

  pub adds_more : (a c : ℕ) (s t : State) → a ≤ c → Adds most a s t → Adds most c s t
  adds_more a c s t l f =
      let f0 = f.few_locals in
      let f1 = f.few_names in
      let f2 = f.few_structures in
      record { state = f.state; locals = f.locals; few_locals = omega arith; few_names = omega arith; few_structures = omega arith }

  pub adds_same : (c : ℕ) (s t u : State) → u ≡ t → Adds most c s t → Adds most c s u
  adds_same c s t u e f = subst (λ (z : State). Adds most c s z) (sym e) f

  -- ---- what is found

  pub chained : {A B : Type 0} (a b c : ℕ) (found : Found A) (next : A → State → Found B) (s : State) (r : B × State) → a + b ≤ c → ((x : A × State) → found ≡ Ok x → Adds most a s x.1) →
      ((x : A × State) → next x.0 x.1 ≡ Ok r → Adds most b x.1 r.1) → and_then found next ≡ Ok r → Adds most c s r.1
  chained a b c found next s r l f g h = let x = then_found found next r h in adds_through a b c s x.0.1 r.1 l (f x.0 x.1) (g x.0 x.2)

  -- where the first adds nothing, or the second
  pub behind : {A B : Type 0} (c : ℕ) (found : Found A) (next : A → State → Found B) (s : State) (r : B × State) → ((x : A × State) → found ≡ Ok x → Adds most 0 s x.1) →
      ((x : A × State) → next x.0 x.1 ≡ Ok r → Adds most c x.1 r.1) → and_then found next ≡ Ok r → Adds most c s r.1
  behind c found next s r f g h = chained 0 c c found next s r (omega arith) f g h

  pub before : {A B : Type 0} (c : ℕ) (found : Found A) (next : A → State → Found B) (s : State) (r : B × State) → ((x : A × State) → found ≡ Ok x → Adds most c s x.1) →
      ((x : A × State) → next x.0 x.1 ≡ Ok r → Adds most 0 x.1 r.1) → and_then found next ≡ Ok r → Adds most c s r.1
  before c found next s r f g h = chained c 0 c found next s r (omega arith) f g h

  pub answered : {A : Type 0} (c : ℕ) (x : A) (s t : State) (r : A × State) → Adds most c s t → answer x t ≡ Ok r → Adds most c s r.1
  answered c x s t r f h = adds_same c s t r.1 (answer_is x t r h).1 f

  pub done : {A : Type 0} (c : ℕ) (x : A) (s : State) (r : A × State) → answer x s ≡ Ok r → Adds most c s r.1
  done c x s r h = unmoved c s r.1 (answer_is x s r h).1

  pub judged : {A : Type 0} (c : ℕ) (at : ℕ) (s : State) (j : Judged A) (r : A × State) → whole at s j ≡ Ok r → Adds most c s r.1
  judged c at s j r h = unmoved c s r.1 (whole_found at s j r h).1

  pub placed : {A : Type 0} (c : ℕ) (s : State) (j : JudgedAt A) (r : A × State) → located s j ≡ Ok r → Adds most c s r.1
  placed c s j r h = unmoved c s r.1 (located_found s j r h).1

  -- one behind another in a list
  pub in_turn_adds : {A B : Type 0} (find : At A → B → State → Found B) (Good : ℕ → A → Type 0) → ((m : ℕ) (x : At A) → Good m x.node → (b : B) (s : State) (r : B × State) → find x b s ≡ Ok r → Adds most m s r.1) →
      (xs : List (At A)) (c : ℕ) → AreCounted Good xs c → (b : B) (s : State) (r : B × State) → in_turn find xs b s ≡ Ok r → Adds most c s r.1
  in_turn_adds find Good f [] c g b s r h = done c b s r h
  in_turn_adds find Good f (x ∷ xs) c g b s r h =
      let a = then_found (find x b s) (in_turn find xs) r h in
      let sum = g.2 in
      adds_through g.0 g.1 c s a.0.1 r.1 (omega arith) (f g.0 x g.3 b s a.0 a.1) (in_turn_adds find Good f xs g.1 g.4 a.0.0 a.0.1 r a.2)

  -- ---- changes

  pub scopes_changed : (scopes : List Scope) (s : State) → Adds most 0 s (with_scopes scopes s)
  scopes_changed scopes s = record { state = λ h. record { structures = h.structures; names = h.names }; locals = λ h. h; few_locals = omega arith; few_names = omega arith; few_structures = omega arith }

  pub bound : (x : Name) (d : Designated) (s : State) → Adds most 0 s (bind x d s)
  bound x d s = scopes_changed (in_innermost (λ scope. record { names = with_name x d scope.names; tags = scope.tags }) s.scopes) s

  pub tag_bound : (x : Name) (t : Tagged) (s : State) → Adds most 0 s (bind_tag x t s)
  tag_bound x t s = scopes_changed (in_innermost (λ scope. record { names = scope.names; tags = with_name x t scope.tags }) s.scopes) s

  pub entering : (scope : Scope) (s : State) → Adds most 0 s (entered scope s)
  entering scope s = scopes_changed (scope ∷ s.scopes) s

  pub leaving : (s : State) → Adds most 0 s (left s)
  leaving s = scopes_changed (outer_scopes s.scopes) s

  pub unfinished : (a : Option Place) (s : State) → Adds most 0 s (with_unfinished a s)
  unfinished a s = record { state = λ h. record { structures = h.structures; names = h.names }; locals = λ h. h; few_locals = omega arith; few_names = omega arith; few_structures = omega arith }

  pub declared_more : (d : Declared) (s : State) → IsNamedEntry most d → Adds most 1 s (with_declared d s)
  declared_more d s k =
      let e = length-append s.names (d ∷ []) in
      record {
        state = λ h. record { structures = h.structures; names = each_append (IsNamedEntry most) s.names d h.names k };
        locals = λ h. h;
        few_locals = omega arith;
        few_names = omega arith;
        few_structures = omega arith;
      }

  pub changed : (i : ℕ) (change : Declared → Declared) (s : State) → ((d : Declared) → IsNamedEntry most d → IsNamedEntry most (change d)) → Adds most 0 s (change_name i change s)
  changed i change s f =
      let e = changed-length change i s.names in
      record {
        state = λ h. record { structures = h.structures; names = each_changed (IsNamedEntry most) change i s.names f h.names };
        locals = λ h. h;
        few_locals = omega arith;
        few_names = omega arith;
        few_structures = omega arith;
      }

  pub structure_changed : (i : ℕ) (change : KnownStructure → KnownStructure) (s : State) → ((k : KnownStructure) → IsNamedStructure most k → IsNamedStructure most (change k)) → Adds most 0 s (with_structures (change_at i change s.structures) s)
  structure_changed i change s f =
      let e = changed-length change i s.structures in
      record {
        state = λ h. record { structures = each_changed (IsNamedStructure most) change i s.structures f h.structures; names = h.names };
        locals = λ h. h;
        few_locals = omega arith;
        few_names = omega arith;
        few_structures = omega arith;
      }

  only_named_is : (tag : Option Name) → tag_named tag ≡ true → IsNamedStructure most (only_named tag)
  only_named_is tag h = record { tag = h; alias = refl; members = tt }

  pub structure_more : (tag : Option Name) (s : State) → tag_named tag ≡ true → Adds most 1 s (with_structures (s.structures ++ only_named tag ∷ []) s)
  structure_more tag s q =
      let e = length-append s.structures (only_named tag ∷ []) in
      record {
        state = λ h. record { structures = each_append (IsNamedStructure most) s.structures (only_named tag) h.structures (only_named_is tag q); names = h.names };
        locals = λ h. h;
        few_locals = omega arith;
        few_names = omega arith;
        few_structures = omega arith;
      }

  members_are : (target : Target) (ms : List Named) (s : State) → AreFewMembers most.few ms → (k : KnownStructure) → IsNamedStructure most k → IsNamedStructure most (with_members target ms s k)
  members_are target ms s few k h = record { tag = h.tag; alias = h.alias; members = few }

  pub structure_completed : (target : Target) (i : ℕ) (ms : List Named) (s : State) → AreFewMembers most.few ms → Adds most 1 s (completed target i ms s)
  structure_completed target i ms s few =
      let change = with_members target ms s in
      let e = changed-length change i s.structures in
      let k = length-append s.completed (i ∷ []) in
      record {
        state = λ h. record { structures = each_changed (IsNamedStructure most) change i s.structures (λ k h. members_are target ms s few k h) h.structures; names = h.names };
        locals = λ h. h;
        few_locals = omega arith;
        few_names = omega arith;
        few_structures = omega arith;
      }

  pub string_more : (target : Target) (at : ℕ) (bytes : List ℕ) (s : State) → Adds most 1 s (with_declared (string_object target at bytes) s)
  string_more target at bytes s = declared_more (string_object target at bytes) s (record { name = refl; own = refl; locals = tt })

  pub device_more : (d : Device) (s : State) → Adds most 1 s (with_declared (declared_device d) s)
  device_more d s = declared_more (declared_device d) s (record { name = refl; own = refl; locals = tt })

  pub names_forgotten : (count : ℕ) (s : State) → Adds most 0 s (with_names (take count s.names) s)
  names_forgotten count s =
      let e = few_taken count s.names in
      record {
        state = λ h. record { structures = h.structures; names = each_taken (IsNamedEntry most) count s.names h.names };
        locals = λ h. h;
        few_locals = omega arith;
        few_names = omega arith;
        few_structures = omega arith;
      }

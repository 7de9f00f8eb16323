-- Registers where one of them has another set.
use Rattle.std.proofs.Common.{arith, ◌≡◌, ◌⊎◌, ◌≢◌, ◌==◌, ◌+◌, ℕ, suc, Bool, true, false, not, cond, eqb, List, ◌∷◌, length, Option, Some, None, option_and_then, slice_get, inl, inr, refl, ap, sym, subst, ◌∙◌}
use Rattle.std.specs.Prelude.{nat_lt}
use Rattle.std.specs.List.{position_or_len}
use Rattle.std.proofs.lemmas.Bool.{eqb-true, lt-ltb}
use Rattle.std.proofs.lemmas.Bool.Decides.{eqb_tells, nat_tests}
use Rattle.std.proofs.Math.Path.{fun_ext}
use Rattle.cc_rules_flows.specs.CcPlaces.declared.abs.Abs.{Abs}
use Rattle.cc_rules_flows.specs.CcPlaces.declared.abs.Abs.TheVariants as abs
use Rattle.cc_rules_tests.specs.Tested.{MayHoldAll}
use Rattle.cc_rules_flows.specs.CcStateOperators.Domains.{Domain}
use Rattle.cc_rules_flows.specs.CcStateValues.declared.context.Context.{Context}
use Rattle.cc_rules_flows.specs.CcStateValues.Contexts.{HaveSetsIn, set_in, set_of}
use Rattle.cc_rules_flows.specs.CcStateValues.Typed.{HaveSets, HasSet}
use Rattle.cc_rules_flows.specs.CcSyntax.Registers.{is_register}
use Rattle.cc_rules_flows.specs.CcSyntax.Values.{Integer}

turned_by : (a b : ℕ) → ((eqb a b ≡ true) × (a ≡ b)) ⊎ ((eqb a b ≡ false) × (a ≢ b)) → ((eqb b a ≡ true) × (b ≡ a)) ⊎ ((eqb b a ≡ false) × (b ≢ a)) → (a == b) ≡ (b == a)
turned_by a b (inl h) (inl k) = h.0 ∙ sym k.0
turned_by a b (inl h) (inr k) = absurd (k.1 (sym h.1))
turned_by a b (inr h) (inl k) = absurd (h.1 (sym k.1))
turned_by a b (inr h) (inr k) = h.0 ∙ sym k.0

either_way : (a b : ℕ) → (a == b) ≡ (b == a)
either_way a b = turned_by a b (eqb_tells a b) (eqb_tells b a)

-- where a number stands behind another one
shifted : (n m : ℕ) → nat_lt (1 + n) (suc m) ≡ nat_lt n m
shifted n m = grind (arith, nat_tests)

module _ {A : Type 0} (r : ℕ) (s : A) (registers : List ℕ) (sets : List A) (q : ℕ) where
  abbrev place : ℕ
  place = position_or_len (λ n. n == q) registers

  abbrev found : Bool → Option A
  found b = option_and_then (slice_get (s ∷ sets)) (cond (nat_lt (cond (not b) (1 + place) 0) (length (r ∷ registers))) (Some (cond (not b) (1 + place) 0)) None)

  at_first : found true ≡ Some s
  at_first = ap (λ b. option_and_then (slice_get (s ∷ sets)) (cond b (Some 0) None)) (lt-ltb 0 (length (r ∷ registers)) (omega arith))

  by_place : (b : Bool) → option_and_then (slice_get (s ∷ sets)) (cond b (Some (1 + place)) None) ≡ option_and_then (slice_get sets) (cond b (Some place) None)
  by_place true = let e : 1 + place ≡ suc place = omega arith in ap (slice_get (s ∷ sets)) e
  by_place false = refl

  at_other : found false ≡ set_of registers sets q
  at_other = ap (λ b. option_and_then (slice_get (s ∷ sets)) (cond b (Some (1 + place)) None)) (shifted place (length registers)) ∙ by_place (nat_lt place (length registers))

  by_first : (b : Bool) → found b ≡ cond b (Some s) (set_of registers sets q)
  by_first true = at_first
  by_first false = at_other

  first_set : set_of (r ∷ registers) (s ∷ sets) q ≡ cond (q == r) (Some s) (set_of registers sets q)
  first_set = by_first (r == q) ∙ ap (λ b. cond b (Some s) (set_of registers sets q)) (either_way r q)

module _ {I : Type 0} (d : Domain I) (c : Context I) (r : ℕ) (x : I) where
  abbrev pub changed : ℕ → Option (Abs I)
  changed q = cond (q == r) (Some (abs.Ints x)) (set_in c q)

  by_test : HaveSetsIn d c → MayHoldAll d c r x → (q : ℕ) → is_register c.func.now q ≡ true → (b : Bool) → (q == r) ≡ b → HasSet d c.program.now c.id c.func.now changed q
  by_test h (t, is, all) q k true e = record {
    local = is.local;
    type = Integer t;
    set = abs.Ints x;
    is_local = subst (λ z. slice_get c.func.now.locals z ≡ Some is.local) (sym (eqb-true q r e)) is.is_local;
    is_type = is.is_type;
    is_set = ap (λ b. cond b (Some (abs.Ints x)) (set_in c q)) e;
    of_type = all;
  }
  by_test h m q k false e =
      let s = h q k in
      record { local = s.local; type = s.type; set = s.set; is_local = s.is_local; is_type = s.is_type; is_set = ap (λ b. cond b (Some (abs.Ints x)) (set_in c q)) e ∙ s.is_set; of_type = s.of_type }

  pub have_sets : HaveSetsIn d c → MayHoldAll d c r x → HaveSets d c.program.now c.id c.func.now changed
  have_sets h m q k = by_test h m q k (q == r) refl

  pub set_there : (registers : List ℕ) (sets : List (Abs I)) → registers ≡ r ∷ c.registers.now → sets ≡ abs.Ints x ∷ c.sets.now → changed ≡ set_of registers sets
  set_there registers sets e f = fun_ext (λ q. sym (ap (λ rs. set_of rs sets q) e ∙ ap (λ ss. set_of (r ∷ c.registers.now) ss q) f ∙ first_set r (abs.Ints x) c.registers.now c.sets.now q))

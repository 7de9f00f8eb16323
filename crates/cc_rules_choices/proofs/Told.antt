-- What flows from tests, one after the other, and facts that tell it.
use Rattle.std.proofs.Common.{if◌then◌else◌, ◌==◌, ◌≡◌, ℕ, Bool, true, false, true≢false, IsTrue, ◌↔◌, All, List, [], ◌∷◌, ◌++◌, Option, Some, None, refl, ap, sym, subst, ◌∙◌}
use Rattle.std.specs.List.{AllZip}
use Rattle.std.specs.Option.{IfSome}
use Rattle.std.proofs.lemmas.List.{append_assoc, append-nil}
use Rattle.std.proofs.lemmas.List.Elements.{All-cons, All-nil}
use Rattle.cc_rules_flows.specs.CcPlaces.declared.abs.Abs.{Abs}
use Rattle.cc_rules_flows.specs.CcPlaces.declared.abs.Abs.TheVariants as abs
use Rattle.cc_program.specs.declared.expr.Expr.{Expr}
use Rattle.cc_rules_choices.specs.Sided.{AreMembersWorked, AreSidesHere, AreWorkedHere, DoFlow, IsRefined, IsSideTold, SideHere, fact_to, flow_to}
use Rattle.cc_rules_choices.proofs.Assembled.{there}
use Rattle.cc_rules_flows.specs.declared.after.Here.{Here}
use Rattle.cc_rules_flows.specs.Flows.{Taken, Barred, Untaken}
use Rattle.cc_rules_flows.specs.Here.{IsHere}
use Rattle.cc_rules_flows.specs.Known.{AreTold, Tells}
use Rattle.cc_rules_flows.specs.Tests.{MayPass, Test}
use Rattle.cc_rules_flows.specs.CcRulesNeeds.Flowing.{Flowing, of_fact}
use Rattle.cc_rules_tests.specs.Passing.{MayPassIn}
use Rattle.cc_rules_flows.specs.CcStateFacts.declared.facts.PointFact.{PointFact}
use Rattle.cc_rules_flows.specs.CcStateOperators.Domains.{Domain}
use Rattle.cc_rules_flows.specs.CcStateReads.Reads.{registers_at}
use Rattle.cc_rules_flows.proofs.CcStateValues.Same.{IsOrdered, same_value}
use Rattle.cc_rules_flows.specs.CcStateValues.Contexts.{IsValIn}
use Rattle.cc_rules_flows.specs.CcStateValues.Values.{IsVal}

zip_append : {A B : Type 0} (R : A → B → Type 0) (xs more : List A) (ys rest : List B) → AllZip R xs ys → AllZip R more rest → AllZip R (xs ++ more) (ys ++ rest)
zip_append R [] more [] rest h k = k
zip_append R [] more (y ∷ ys) rest h k = absurd h
zip_append R (x ∷ xs) more [] rest h k = absurd h
zip_append R (x ∷ xs) more (y ∷ ys) rest h k = (h.0, zip_append R xs more ys rest h.1 k)

module _ {I : Type 0} where
  -- a fact tells what it has
  itself_told : (fact : PointFact I) → Tells fact (of_fact fact)
  itself_told fact = record { off = refl; on = refl; locals = λ r. refl; cells = λ j. refl; pairs = λ r j. refl }

  told_to : (k : ℕ) (fact : Option (PointFact I)) → AreTold (fact_to k fact) (flow_to k fact)
  told_to k None = tt
  told_to k (Some fact) = ((refl, itself_told fact), tt)

  pub all_to : (P : ℕ × PointFact I → Type 0) (k : ℕ) (fact : Option (PointFact I)) → IfSome fact (λ x. P (k, x)) → All P (fact_to k fact)
  all_to P k None h = All-nil P
  all_to P k (Some fact) h = All-cons P (k, fact) [] h (All-nil P)

module _ {I : Type 0} (d : Domain I) (here : Here I) (e : Expr) where
  -- one test more at the end
  sides_more : (tests : List (Test × ℕ)) (t : Test × ℕ) (flows more : List (ℕ × Flowing I)) → AreSidesHere d here e tests flows → SideHere d here e t.0 t.1 more → AreSidesHere d here e (tests ++ t ∷ []) (flows ++ more)
  sides_more [] t flows more h k = (more, [], k, refl, ap (λ xs. xs ++ more) h ∙ sym (append-nil more))
  sides_more (s ∷ tests) t flows more (first, rest, side, others, is) k =
      (first, rest ++ more, side, sides_more tests t rest more others k, ap (λ xs. xs ++ more) is ∙ append_assoc first rest more)

  pub none_flow : DoFlow d here e [] []
  none_flow = ([], refl, tt)

  pub more_flow : (tests : List (Test × ℕ)) (told : List (ℕ × PointFact I)) (t : Test × ℕ) (fact : Option (PointFact I)) → DoFlow d here e tests told → IsSideTold d here e t.0 fact → DoFlow d here e (tests ++ t ∷ []) (told ++ fact_to t.1 fact)
  more_flow tests told t fact (flows, sides, tell) side =
      (flows ++ flow_to t.1 fact, sides_more tests t flows (flow_to t.1 fact) sides (side t.1), zip_append (λ (a : ℕ × PointFact I) (b : ℕ × Flowing I). (a.0 ≡ b.0) × Tells a.1 b.1) told (fact_to t.1 fact) flows (flow_to t.1 fact) tell (told_to t.1 fact))

  module _ (h : IsHere d here) (value : Abs I) (is : IsValIn d here.context e value) (test : Test) where
    value_there : IsVal d here.context.program.now here.context.id here.context.func.now (registers_at here.facts.now here.context.func.now here.number) e value
    value_there = there d here h (λ s. IsVal d here.context.program.now here.context.id here.context.func.now s e value) is

    abbrev MayPassThere : Type 0
    MayPassThere = MayPass d here.context.program.now here.context.id here.context.func.now (registers_at here.facts.now here.context.func.now here.number) e test

    -- where no value passes

    none_pass : (b : Bool) → (IsTrue b ↔ MayPassIn d test value) → b ≡ false → MayPassThere → ⊥
    none_pass b tells fails may = let passes : b ≡ true = tells.1 (may value value_there) in true≢false (sym passes ∙ fails)

    pub barred : (b : Bool) → (IsTrue b ↔ MayPassIn d test value) → b ≡ false → IsSideTold d here e test None
    barred b tells fails k = Barred (none_pass b tells fails) refl

    pub barred_worked : (b : Bool) → (IsTrue b ↔ MayPassIn d test value) → b ≡ false → AreWorkedHere d here e test
    barred_worked b tells fails = record { value = (value, value_there); members = λ may number r m a k. absurd (none_pass b tells fails may) }

    -- where one does

    may_pass : IsOrdered d → (b : Bool) → (IsTrue b ↔ MayPassIn d test value) → b ≡ true → MayPassThere
    may_pass o b tells passes y k =
        subst (λ z. MayPassIn d test z)
        (same_value d o here.context.program.now here.context.id here.context.func.now (registers_at here.facts.now here.context.func.now here.number) e value y value_there k)
        (tells.0 passes)

    pub taken : IsOrdered d → (b : Bool) → (IsTrue b ↔ MayPassIn d test value) → b ≡ true → (fact : Option (PointFact I)) → IsRefined d here e test fact → IsSideTold d here e test fact
    taken o b tells passes None (flow, side, none) k = Untaken flow side (λ is_taken. none is_taken.left) refl
    taken o b tells passes (Some fact) (side, left) k = Taken (of_fact fact) side (record { passes = may_pass o b tells passes; left = left }) refl

    pub taken_worked : AreMembersWorked d here e test → AreWorkedHere d here e test
    taken_worked members = record {
      value = (value, value_there);
      members = λ may number r m a k.
          let w = members number r m a k in
          (w.0, w.1, w.2, there d here h (λ s. IsVal d here.context.program.now here.context.id here.context.func.now (λ q. if q == r then Some (abs.Ints w.0) else s q) e w.1) w.3);
    }

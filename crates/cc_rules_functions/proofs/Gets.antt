-- Elements of lists, and of those with one more behind; functions by their places.
use Rattle.std.proofs.Common.{arith, ◌≡◌, ◌≤◌, ◌<◌, ◌^◌, ◌+◌, ◌==◌, ◌&&◌, not, ◌⊎◌, inl, inr, ℕ, zero, suc, List, [], ◌∷◌, ◌++◌, length, get_or, Some, slice_get, unwrap_or, refl, ap, sym, subst, ◌∙◌}
use Rattle.std.proofs.lemmas.Option.{slice_get-get_or}
use Rattle.cc_rules_flows.specs.CcFlow.declared.types.Flow.{Flow}
use Rattle.cc_rules_flows.specs.CcFlow.Points.{flow_of}
use Rattle.cc_program.specs.declared.func.Func.{Func}
use Rattle.cc_program.specs.declared.program.Program.{Program}
use Rattle.cc_rules_flows.specs.Nexts.{exit_of}
use Rattle.cc_rules_functions.specs.declared.functions.Function.{Function}
use Rattle.cc_rules_functions.specs.Ends.{end_at}
use Rattle.cc_rules_functions.specs.Functions.{IsFunctionOf, AreFunctionsOf}
use Rattle.cc_rules_functions.proofs.Ends.{is_entry, is_exit}
use Rattle.cc_rules_flows.proofs.CcStateKeys.FactCounts.{few_registers}
use Rattle.cc_rules_flows.specs.CcStateKeys.Tracked.{registers}
use Rattle.cc_rules_flows.specs.CcSteps.Step.{gives_nothing}

-- what a list has at a place, by another name of the list
pub stands : {A : Type 0} (items xs : List A) (i : ℕ) (x : A) → items ≡ xs → i < length items → x ≡ get_or items i x → slice_get xs i ≡ Some x
stands items xs i x e l is = subst (λ zs. slice_get zs i ≡ Some x) e (slice_get-get_or items i x l ∙ ap Some (sym is))

pushed : {A : Type 0} (xs : List A) (y : A) (i : ℕ) (x : A) → slice_get (xs ++ y ∷ []) i ≡ Some x → (slice_get xs i ≡ Some x) ⊎ ((i ≡ length xs) × (y ≡ x))
pushed [] y zero x h = let e : y ≡ x = cc in inr (refl, e)
pushed [] y (suc i) x h = absurd (cc)
pushed (z ∷ xs) y zero x h = inl h
pushed (z ∷ xs) y (suc i) x h = behind (pushed xs y i x h)
  where
    behind : (slice_get xs i ≡ Some x) ⊎ ((i ≡ length xs) × (y ≡ x)) → (slice_get (z ∷ xs) (suc i) ≡ Some x) ⊎ ((suc i ≡ length (z ∷ xs)) × (y ≡ x))
    behind (inl k) = inl k
    behind (inr k) = inr (let e = k.0 in omega (arith, e), k.1)

-- ---- one function

module _ (p : Program) (id : ℕ) (f : Func) (flow : Flow) (there : slice_get p.funcs id ≡ Some f) (own : flow ≡ flow_of p) where
  pub function_by : (made : Function) → length f.locals < 2 ^ 32 → made.func.now ≡ f → made.entry ≡ unwrap_or (slice_get flow.first id) 0 → made.exit + 1 ≡ end_at (length flow.points) flow.first id →
      made.registers ≡ registers f → made.gives_zero ≡ ((id == p.main) && not (gives_nothing (Some f))) → IsFunctionOf p id made
  function_by made few func entry exit regs gives = record {
    func = there ∙ ap Some (sym func);
    entry = entry ∙ (ap (λ (flow : Flow). unwrap_or (slice_get flow.first id) 0) own ∙ is_entry p id f there);
    exit = is_exit p id f there made.exit (exit ∙ ap (λ (flow : Flow). end_at (length flow.points) flow.first id) own) ∙ ap (exit_of p id) (sym func);
    registers = regs ∙ ap registers (sym func);
    few = let e = ap length regs in let m = few_registers f in omega (arith, e, m, few);
    zero = gives ∙ ap (λ f. (id == p.main) && not (gives_nothing (Some f))) (sym func);
  }

-- ---- each of the first ones is one of the program, by its place

pub record AreFirst (p : Program) (functions : List Function) (i : ℕ) : Type 0 where
  pub count : length functions ≡ i
  pub within : i ≤ length p.funcs
  pub each : (h : ℕ) (f : Function) → slice_get functions h ≡ Some f → IsFunctionOf p h f

no_function : (p : Program) (h : ℕ) (f : Function) → slice_get [] h ≡ Some f → IsFunctionOf p h f
no_function p h f at = absurd (cc)

pub none_made : (p : Program) (functions : List Function) → functions ≡ [] → AreFirst p functions 0
none_made p functions e = record {
  count = ap length e;
  within = omega arith;
  each = λ h f at. no_function p h f (subst (λ fs. slice_get fs h ≡ Some f) e at);
}

either : (p : Program) (now : List Function) (i : ℕ) (made : Function) (h : ℕ) (f : Function) → AreFirst p now i → IsFunctionOf p i made → (slice_get now h ≡ Some f) ⊎ ((h ≡ length now) × (made ≡ f)) → IsFunctionOf p h f
either p now i made h f are is (inl at) = are.each h f at
either p now i made h f are is (inr at) = subst (IsFunctionOf p h) at.1 (subst (λ n. IsFunctionOf p n made) (sym (at.0 ∙ are.count)) is)

longer : {A : Type 0} (xs : List A) (y : A) (i : ℕ) → length xs ≡ i → length (xs ++ y ∷ []) ≡ i + 1
longer [] y i e = omega (arith, e)
longer (x ∷ xs) y i e = let r = longer xs y (length xs) refl in omega (arith, e, r)

pub first_on : (p : Program) (now new : List Function) (i : ℕ) (made : Function) → AreFirst p now i → IsFunctionOf p i made → i < length p.funcs → new ≡ now ++ made ∷ [] → AreFirst p new (i + 1)
first_on p now new i made are is l e = record {
  count = ap length e ∙ longer now made i are.count;
  within = omega (arith, l);
  each = λ h f at. either p now i made h f are is (pushed now made h f (subst (λ xs. slice_get xs h ≡ Some f) e at));
}

pub all_made : (p : Program) (functions : List Function) (i : ℕ) → AreFirst p functions i → length p.funcs ≤ i → AreFunctionsOf p functions
all_made p functions i are past = record {
  count = let e = are.count in let l = are.within in omega (arith, e, l, past);
  each = are.each;
}

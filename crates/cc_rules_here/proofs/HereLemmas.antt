-- A point that is reached, by the shape of facts.
use Rattle.std.proofs.Common.{arith, ◌≡◌, ◌≤◌, ◌<◌, ◌^◌, ℕ, true, List, length, Some, is_some, slice_get, refl, ap, sym, subst, ◌∙◌}
use Rattle.cc_state_points.specs.CcFlow.declared.types.Point.{Point}
use Rattle.cc_state_points.specs.CcFlow.Points.{flow_of}
use Rattle.cc_program.specs.declared.program.Program.{Program}
use Rattle.cc_state_points.specs.CcRulesFlows.declared.after.Here.{Here}
use Rattle.cc_rules_functions.specs.declared.functions.Function.{Function}
use Rattle.cc_rules_functions.specs.Functions.{IsFunctionOf, AreFunctionsOf}
use Rattle.cc_rules_here.proofs.Owned.{owned, within_some}
use Rattle.cc_rules_here.specs.HereAt.{IsHereAt}
use Rattle.cc_state_points.specs.CcState.Points.{IsPointOf, IsContextAt}
use Rattle.cc_state_points.specs.CcState.Shape.{HaveShape}
use Rattle.cc_state_points.proofs.CcState.Contexts.{context_sets}
use Rattle.cc_state_points.proofs.CcState.Sets.{its_shape, cells_there, sets_at, sets_there, normal_sized}
use Rattle.cc_state_points.specs.CcStateFacts.declared.facts.Facts.{Facts}
use Rattle.cc_state_points.specs.CcStateFacts.Facts.{fact_at}
use Rattle.cc_state_points.proofs.CcStateKeys.FactCounts.{few_tracked}
use Rattle.cc_state_points.specs.CcStateKeys.Keys.{keys_of}
use Rattle.cc_state_points.specs.CcStateKeys.Tracked.{registers as registers_of, tracked}
use Rattle.cc_state_points.specs.CcStateOperators.Domains.{Domain}
use Rattle.cc_state_points.specs.CcSyntax.Normal.{IsNormal}
use Rattle.cc_state_points.specs.CcSyntax.Sizes.{AreSized}

-- its function is one of the program's
pub function_there : (p : Program) (n : ℕ) (q : Point) (functions : List Function) → slice_get (flow_of p).points n ≡ Some q → AreFunctionsOf p functions → is_some (slice_get functions q.func) ≡ true
function_there p n q functions e h = let k = owned p n q e in within_some functions q.func (omega (arith, k, h.count))

module _ {I : Type 0} (d : Domain I) (p : Program) (facts : Facts I) (n : ℕ) (here : Here I) where
  -- what the code has at the point, by the function as the code has it
  pub record IsMadeOf (f : Function) : Type 0 where
    pub program : here.context.program.now ≡ p
    pub these : here.facts.now ≡ facts
    pub number : here.number ≡ n
    pub there : slice_get (flow_of p).points n ≡ Some here.point.now
    pub id : here.context.id ≡ here.point.now.func
    pub func : here.context.func.now ≡ f.func.now
    pub registers : here.context.registers.now ≡ f.registers
    pub sets : here.context.sets.now ≡ here.fact.now.locals
    pub tracked : here.tracked.now ≡ tracked p
    pub reached : fact_at facts n ≡ Some here.fact.now

  pub is_here : (f : Function) → IsNormal p → HaveShape d p facts → IsFunctionOf p here.point.now.func f → IsMadeOf f → IsHereAt d p facts n here
  is_here f normal shape is made =
      let own : slice_get p.funcs here.point.now.func ≡ Some here.context.func.now = is.func ∙ ap Some (sym made.func) in
      let stands : IsPointOf p n here.point.now here.context.func.now = record { numbered = made.there; function = own } in
      let listed : here.context.registers.now ≡ registers_of here.context.func.now = made.registers ∙ (is.registers ∙ ap registers_of (sym made.func)) in
      let context : IsContextAt p facts n here.context.func.now here.context =
      record { point = here.point.now; there = stands; program = made.program; id = made.id; func = refl; sets = sets_there facts n here.context.func.now here.context.registers.now here.context.sets.now listed (here.fact.now, made.reached, made.sets) } in
      let one : is_some (fact_at facts n) ≡ true = ap is_some made.reached in
      let few : length (tracked p) ≤ 128 = few_tracked p in
      let long : length here.tracked.now ≡ length (tracked p) = ap length made.tracked in
      record {
        is = record {
          sized = subst (λ (z : Program). AreSized z.structures z.target) (sym made.program) (normal_sized p normal);
          registers = listed;
          few = subst (λ (rs : List ℕ). length rs < 2 ^ 32) (sym made.registers) is.few;
          sets = made.sets;
          each = (its_shape d p facts shape n here.point.now here.context.func.now stands here.fact.now made.reached).local_count ∙ ap length (sym listed);
          known = context_sets p facts n here.context.func.now here.context context d (sets_at d p facts shape n one);
          reached = ap (λ (x : Facts I). fact_at x here.number) made.these ∙ (ap (fact_at facts) made.number ∙ made.reached);
          keys = ap (λ (x : Facts I). x.keys) made.these ∙ (shape.keys ∙ ap keys_of (sym made.program));
          tracked = made.tracked ∙ ap tracked (sym made.program);
          few_tracked = omega (arith, few, long);
          cells = λ cell l. cells_there d p facts shape n here.point.now here.context.func.now stands here.fact.now made.reached cell (subst (λ (xs : List ℕ). cell < length xs) made.tracked l);
        };
        program = made.program;
        facts = made.these;
        number = made.number;
        point = record { numbered = made.there; own = sym made.id; function = ap (slice_get p.funcs) made.id ∙ own };
      }

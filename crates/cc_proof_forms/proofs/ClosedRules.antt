-- Facts that have what each point of a program in normal form asks are closed, so they cover its runs.
use Rattle.std.proofs.Common.{◌≡◌, ◌<◌, ◌^◌, ℕ, ℤ, false, List, [], Option, Some, None, ap, sym, ◌∙◌, subst, slice_get}
use Rattle.cc_flow_sound.specs.CcEval.declared.mark.Mark.TheVariants.{Did}
use Rattle.cc_flow_sound.specs.CcEval.Progress.{no_value}
use Rattle.cc_flow_sound.specs.CcFlow.declared.types.Point.{Point}
use Rattle.cc_flow_sound.specs.CcFlow.Points.{count_of, flow_of}
use Rattle.cc_flow_sound.proofs.Normal.{normal_body}
use Rattle.cc_flow_sound.proofs.Numbered.{at_point}
use Rattle.cc_flow_sound.proofs.Places.{end_at}
use Rattle.cc_flow_sound.specs.Sites.{base_of}
use Rattle.cc_program.specs.declared.func.Func.{Func}
use Rattle.cc_program.specs.declared.program.Program.{Program}
use Rattle.cc_program.specs.declared.value.Value.{Value}
use Rattle.cc_proof_covers.proofs.Covered.{fits_lies}
use Rattle.cc_proof_covers.proofs.Turns.{run_fits}
use Rattle.cc_proof_covers.specs.Covers.{Lies}
use Rattle.cc_proof_covers.specs.Invariant.{exit_of, IsAtPoint, CountsAt}
use Rattle.cc_proof_covers.specs.Rules.{IsClosed}
use Rattle.cc_proof_covers.specs.Views.{View}
use Rattle.cc_proof_forms.proofs.ClosedFacts.{steps_of, goes_of, leaves_of}
use Rattle.cc_proof_forms.specs.PointRules.{PointRule, AreRules}
use Rattle.cc_proof_forms.specs.Sets.{OperandSets}
use Rattle.cc_flow_sound.proofs.CcSteps.MarkLemmas.{marked_call}
use Rattle.cc_flow_sound.specs.CcSteps.Runs.{Arrivals, run}
use Rattle.cc_flow_sound.specs.CcSteps.State.{Active}
use Rattle.cc_flow_sound.specs.CcSteps.Step.{marked, gives_nothing}
use Rattle.cc_flow_sound.specs.CcSteps.Turn.{start}
use Rattle.cc_flow_sound.proofs.CcSyntax.NameRules.{sound-typed}
use Rattle.cc_flow_sound.specs.CcSyntax.Normal.{IsNormal}

module _ (p : Program) (v : View) (o : OperandSets) (normal : IsNormal p) (few : count_of p < 2 ^ 32) (rules : AreRules p v o) where
  -- the point of which facts speak is one of the activation's function
  abbrev IsPointOf : Active → ℕ → Type 0
  IsPointOf a n = (q : Point) × (slice_get (flow_of p).points n ≡ Some q) × (q.func ≡ a.func)

  at_function : (a : Active) (f : Func) (n : ℕ) → slice_get p.funcs a.func ≡ Some f → IsAtPoint p f a n → IsPointOf a n
  at_function a f n function there = let at = at_point p a.func f function few (a.here, a.around) n there in (at.point, at.numbered, at.function)

  point_of : (a : Active) (f : Func) (n : ℕ) (result : Option (ℕ × Value)) → slice_get p.funcs a.func ≡ Some f → CountsAt p f a n result → IsPointOf a n
  point_of a f n None function counts = at_function a f n function counts
  point_of a f n (Some result) function counts =
      let same = (marked_call p a Did).func in
      let at = at_function (marked p a Did) f n (ap (slice_get p.funcs) same ∙ function) counts.ends.0 in
      (at.0, at.1, at.2 ∙ same)

  rule_of : (a : Active) (f : Func) (n : ℕ) (result : Option (ℕ × Value)) → slice_get p.funcs a.func ≡ Some f → CountsAt p f a n result → PointRule p v a.func f n
  rule_of a f n result function counts =
      let at = point_of a f n result function counts in
      subst (λ (g : ℕ). PointRule p v g f n) at.2 (rules.points n at.0 f at.1 (ap (slice_get p.funcs) at.2 ∙ function))

  end_gives : (a : Active) (f : Func) (n : ℕ) → slice_get p.funcs a.func ≡ Some f → IsAtPoint p f a n → v.reached n → a.here.rest ≡ [] → gives_nothing (Some f) ≡ false → a.func ≡ p.main → v.result a.func no_value
  end_gives a f n function there reached e gives same =
      let exit : n ≡ exit_of p a.func f = end_at p.target f (base_of p a.func f) f.body a.here a.around n there e in
      let at_main : v.reached (exit_of p p.main f) = subst (λ (g : ℕ). v.reached (exit_of p g f)) same (subst v.reached exit reached) in
      subst (λ (g : ℕ). v.result g no_value) (sym same) (rules.ends f (ap (slice_get p.funcs) (sym same) ∙ function) gives at_main)

  pub rules_closed : IsClosed p v
  rules_closed = record {
    initial = rules.initial;
    main = rules.main;
    pair_registers = λ a f n result function counts. (rule_of a f n result function counts).pairs;
    pairs = rules.pairs;
    steps = λ m a f n here. steps_of p v o normal few rules.statements m a f n here;
    goes = λ m a f n here s rest w ms first. goes_of p v o normal few rules.statements m a f n here s rest first w ms;
    leaves = λ m a f n here s rest w ms first. leaves_of p v o normal few rules.statements m a f n here s rest first w ms;
    falls = end_gives;
    handlers = λ a f n flag_on. (rule_of a f n flag_on.result flag_on.function flag_on.counts).handlers flag_on.reached flag_on.on;
    stable = λ a f n flag_on. (rule_of a f n flag_on.result flag_on.function flag_on.counts).stable flag_on.reached flag_on.on;
  }

  pub rules_cover : (inputs : List ℤ) (arrivals : Arrivals) → Lies p v (run p (start p inputs) arrivals)
  rules_cover inputs arrivals =
      let r = run_fits p v rules_closed (normal_body p normal) (sound-typed p normal.sound) inputs arrivals in
      fits_lies p few (normal_body p normal) v r.0.0 (run p (start p inputs) arrivals) r.0.1.stack r.1

use Rattle.std.proofs.Common.{ℕ, None, List, length, replicate, ap, subst, ◌∙◌}
use Rattle.std.specs.List.{AllZip}
use Rattle.cc_state_reads.proofs.CcFlow.Paths.{all_counted}
use Rattle.cc_state_reads.specs.CcFlow.declared.types.Flow.{Flow}
use Rattle.cc_program.specs.declared.func.Func.{Func}
use Rattle.cc_state_reads.specs.CcStateFacts.declared.facts.Key.{Key}
use Rattle.cc_state_shape.proofs.facts.lowest_by.Goals as goal
use Rattle.cc_state_shape.specs.Lowest.{IsNoneOfKey, IsNoneOfResult}

pub lowest_of-requires : goal.lowest_of-requires
lowest_of-requires g c =
    let p = c.args.p.now in
    let listed = c.of-listed.ensures ∙ c.in_ok-keys.ensures in
    let points = ap length (c.all-points.ensures ∙ ap (λ (f : Flow). f.points) c.requires.flow) ∙ all_counted p in
    record {
      keys = listed;
      count = ap length (c.all-count.ensures ∙ listed);
      whole = subst (λ (ks : List Key). AllZip (IsNoneOfKey g.I.Concrete.Has p) ks c.in_ok-whole.whole.items) (c.all-2.ensures ∙ listed) c.in_ok-whole.ensures;
      results = subst (λ (fs : List Func). AllZip (IsNoneOfResult g.I.Concrete.Has) fs c.in_ok-results.results.items) c.all.ensures c.in_ok-results.ensures;
      at = c.in_ok-at.ensures ∙ ap (λ (n : ℕ). replicate n None) points;
    }

use Rattle.std.proofs.Common.{◌≤◌, ◌++◌, ℕ, List, map, All, slice_get, sym, subst, ap, ◌∙◌}
use Rattle.std.specs.List.{filter}
use Rattle.std.proofs.lemmas.Result.{on_ok_weaker}
use Rattle.cc_rules_asked.specs.CcRules.Constraints.{Flow}
use Rattle.cc_rules_again.specs.Again.{number_at}
use Rattle.cc_rules_readers.specs.declared.deeds.Deed.{Deed}
use Rattle.cc_rules_readers.specs.Points.{on, reads_in}
use Rattle.cc_rules_readers.specs.View.{named_view}
use Rattle.cc_rules_readers.proofs.Candidates.{small_candidates, enough}
use Rattle.cc_rules_readers.proofs.whole.put_named_reads.Goals as goal

pub put_reads-requires : goal.put_reads-requires
put_reads-requires c = subst (λ (xs : List ℕ). All (λ n. n ≤ 65536) xs) (sym c.candidates-points.ensures) (small_candidates c.args.index.now c.requires (named_view c.args.keys))

pub returns : goal.returns
returns c =
    on_ok_weaker c.put_reads.result
    (λ h. h ∙ ap (λ (xs : List ℕ). c.args.list.now.items ++ map (number_at Flow) xs)
    (ap (λ (ds : List Deed). filter (λ n. on (reads_in c.args.keys) (slice_get ds n)) c.candidates-points.result.now) c.all-deeds.ensures
    ∙ (ap (filter (λ n. on (reads_in c.args.keys) (slice_get c.args.index.now.deeds n))) c.candidates-points.ensures ∙ enough c.args.index.now c.requires c.args.keys)))
    c.put_reads.ensures

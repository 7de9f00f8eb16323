use Rattle.std.proofs.Common.{◌≤◌, ◌++◌, ℕ, List, map, All, refl, sym, subst, ap, ◌∙◌}
use Rattle.std.proofs.lemmas.Result.{on_ok_weaker}
use Rattle.cc_rules_asked.specs.CcRules.Constraints.{Flow, Stability}
use Rattle.cc_rules_again.specs.Again.{number_at, at_each, read, through_pointers, is_unstable, whole_readers}
use Rattle.cc_rules_again.specs.Named as is
use Rattle.cc_rules_readers.specs.View.{named_view}
use Rattle.cc_rules_readers.proofs.Candidates.{small_pointer_reads}
use Rattle.cc_rules_readers.proofs.Unstable.{pointer_reads, named_reads}
use Rattle.cc_rules_readers.proofs.whole.put_whole_readers.Goals as goal
use Rattle.cc_rules_asked.proofs.CcStateKeys.Grown.{grown_thrice}

pub put_named_reads-requires : goal.put_named_reads-requires
put_named_reads-requires g c = c.requires.index.lists

pub put_rule-requires : goal.put_rule-requires
put_rule-requires g c = subst (λ (xs : List ℕ). All (λ n. n ≤ 65536) xs) (sym c.all-pointed.ensures) (small_pointer_reads c.args.index.now c.requires.index.lists)

pub put_stability_readers-requires : goal.put_stability_readers-requires
put_stability_readers-requires g c = record { rules = c.requires.rules; index = c.requires.index }

pub returns : goal.returns
returns g c =
    on_ok_weaker c.put_stability_readers.result
    (λ h. grown_thrice c.args.list.now.items (at_each c.args.rules.now.program.now Flow (λ id act. is.is_named (named_view c.args.keys) (read c.args.rules.now.program.now id act))) c.put_named_reads.new.list.items (through_pointers c.args.rules.now.program.now) c.put_rule.new.list.items
    (at_each c.args.rules.now.program.now Stability (λ id act. is_unstable c.args.rules.now.program.now c.args.facts.now (named_view c.args.keys) id)) _ (whole_readers c.args.rules.now.program.now c.args.facts.now (named_view c.args.keys))
    (c.in_ok-put_named_reads.ensures ∙ ap (λ xs. c.args.list.now.items ++ xs) (sym (named_reads c.args.rules.now.program.now c.args.index.now.deeds c.requires.index.deeds c.args.keys)))
    (c.in_ok-put_rule.ensures
    ∙ (ap (λ (xs : List ℕ). c.put_named_reads.new.list.items ++ map (number_at Flow) xs) (c.all-pointed.ensures ∙ c.requires.index.lists.pointer_reads)
    ∙ ap (λ xs. c.put_named_reads.new.list.items ++ xs) (sym (pointer_reads c.args.rules.now.program.now c.args.index.now.deeds c.requires.index.deeds)))) h refl)
    c.put_stability_readers.ensures

use Rattle.std.proofs.Common.{◌++◌, ℕ, refl, sym, ap, ◌∙◌}
use Rattle.std.proofs.lemmas.Result.{on_ok_weaker}
use Rattle.cc_rules_asked.specs.CcFlowSound.Moves.{entry}
use Rattle.cc_rules_again.specs.Again.{point_readers, reach_readers, entry_readers}
use Rattle.cc_rules_readers.proofs.Doing.{reached_are}
use Rattle.cc_rules_readers.proofs.points.put_entry_readers.Goals as goal
use Rattle.cc_rules_asked.proofs.CcStateKeys.Grown.{grown}

pub put_reach_readers-requires : goal.put_reach_readers-requires
put_reach_readers-requires c = c.requires.index.lists

pub put_point_readers-requires : goal.put_point_readers-requires
put_point_readers-requires c = record { rules = c.requires.rules; index = c.requires.index }

pub returns : goal.returns
returns c =
    on_ok_weaker c.put_point_readers.result
    (λ h. grown c.args.list.now.items (reach_readers c.args.rules.now.program.now c.args.g) _ (point_readers c.args.rules.now.program.now (entry c.args.rules.now.program.now c.args.g)) _ (entry_readers c.args.rules.now.program.now c.args.g)
    (c.in_ok-put_reach_readers.ensures ∙ ap (λ xs. c.args.list.now.items ++ xs) (sym (reached_are c.args.rules.now.program.now c.args.index.now.deeds c.requires.index.deeds c.args.g)))
    (h ∙ ap (λ (n : ℕ). c.put_reach_readers.new.list.items ++ point_readers c.args.rules.now.program.now n) c.requires.entry) refl)
    c.put_point_readers.ensures

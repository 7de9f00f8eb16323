use Rattle.std.proofs.Common.{◌≡◌, ℕ, List, [], Bool, cond, Some, ap, ◌∙◌}
use Rattle.std.proofs.lemmas.Result.{IfOk-weaker}
use Rattle.cc_rules_asked.specs.Asks.{list_touched}
use Rattle.cc_rules_asked.proofs.TouchLemmas.{touches_asked}
use Rattle.cc_rules_asked.proofs.touches.asked_of_access.Goals as goal
use Rattle.cc_rules.specs.CcStateFacts.Facts.{mark_of, levels_of}
use Rattle.cc_rules.specs.CcStateOperators.Domains.{domain}

pub keys_here-requires : goal.keys_here-requires
keys_here-requires g c = record { here = c.requires.here; pure = c.requires.pure; few = c.requires.few }

pub returns : goal.returns
returns g c =
    IfOk-weaker c.asked_if.result (λ list. list.items ≡ cond c.mark-is_marked.result (list_touched c.args.access.writes c.deref.result.now c.levels-from.result) []) _
    (λ list e act t. touches_asked (domain g.I.Concrete.Has g.I.Lattice.IsBelow g.I.IntDomain.OpGives g.I.IntDomain.OpOneGives g.I.IntDomain.ToGives g.I.IntDomain.KeepGives g.I.IntDomain.members_of) c.args.here.now act c.args.access.writes c.args.access.place.now c.in_ok-keys.keys.items c.mark-is_marked.result c.levels-from.result list.items
    t c.in_ok-keys.ensures
    (c.mark-is_marked.ensures ∙ ap (λ (marks : List Bool). mark_of marks c.args.here.now.context.id) c.all-marks.ensures)
    (c.levels-from.ensures ∙ ap (λ (sets : List ℕ). levels_of sets c.args.here.now.context.id) c.all-sets.ensures)
    (e ∙ ap (λ (ks : List ℕ). cond c.mark-is_marked.result (list_touched c.args.access.writes ks c.levels-from.result) []) c.deref.ensures.value))
    c.asked_if.ensures

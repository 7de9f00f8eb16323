use Rattle.std.proofs.Common.{◌∙◌, None, fold, map, ap, sym}
use Rattle.cc_definitions.proofs.Finding.{fold_more, fold_end, views-is}
use Rattle.cc_definitions.specs.Handlers.{entry_in}
use Rattle.cc_program.specs.declared.func.Entry.{Entry}
use Rattle.cc_things.specs.Mentions.{Mention}
use Rattle.cc_things.specs.View.{view_of}
use Rattle.cc_unit.specs.Entries.{both_entries}
use Rattle.std.specs.Prelude.{Option}
use Rattle.cc_definitions.proofs.handler.entry_given.Goals as goal

abbrev add : Option Entry → Mention → Option Entry
add e m = both_entries e (entry_in m.name.kind)

pub loop-m-preserved : goal.loop-m-preserved
loop-m-preserved c =
    c.both_entries-entry.ensures
    ∙ (ap (both_entries c.loop-m.entry) c.entry_in.ensures
    ∙ (ap (λ e. both_entries e (entry_in (view_of c.m-item.result).name.kind)) c.loop-m.invariant
    ∙ sym (fold_more view_of add None c.as_slice-m-items.result.now c.loop-m.m-index c.m-item.result c.loop-m-test.true c.m-item.is)))

pub returns : goal.returns
returns c =
    c.loop-m.invariant
    ∙ (fold_end view_of add None c.as_slice-m-items.result.now c.loop-m.m-index c.loop-m-test.false
    ∙ ap (fold add None) (ap (map view_of) c.as_slice-m-items.ensures.value ∙ sym (views-is c.args.t.now.mentions.items)))

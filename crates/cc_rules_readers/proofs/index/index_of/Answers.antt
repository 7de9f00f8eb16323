use Rattle.std.proofs.Common.{◌≡◌, ◌≤◌, List, length, sym, subst, ◌∙◌}
use Rattle.std.proofs.lemmas.Result.{IfOk-weaker}
use Rattle.cc_rules_readers.specs.declared.deeds.Deed.{Deed}
use Rattle.cc_rules_readers.specs.declared.index.Index.{Index}
use Rattle.cc_rules_readers.specs.Index.{IsIndexed, IsIndexOf}
use Rattle.cc_rules_readers.specs.View.{AreDeeds}
use Rattle.cc_rules_readers.proofs.Doing.{few_deeds}
use Rattle.cc_rules_readers.proofs.index.index_of.Goals as goal

pub indexed-requires : goal.indexed-requires
indexed-requires c = subst (λ (ds : List Deed). length ds ≤ 65536) (sym c.of.ensures) (few_deeds c.args.rules.now.program.now c.in_ok-deeds.deeds.items c.in_ok-deeds.ensures c.requires.few)

pub returns : goal.returns
returns c =
    IfOk-weaker c.indexed.result (λ (index : Index). (index.deeds ≡ c.of.result) × IsIndexed index) (IsIndexOf c.args.rules.now.program.now)
    (λ index h. record { deeds = subst (AreDeeds c.args.rules.now.program.now) (sym (h.0 ∙ c.of.ensures)) c.in_ok-deeds.ensures; lists = h.1 }) c.indexed.ensures

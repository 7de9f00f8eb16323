use Rattle.std.proofs.Common.{ap, sym, ◌∙◌}
use Rattle.std.proofs.lemmas.Result.{IfOk-weaker}
use Rattle.std.specs.Option.{option_copied}
use Rattle.cc_state_reads.proofs.unions.with_whole.Goals as goal

pub returns : goal.returns
returns g c = IfOk-weaker c.join.result _ _ (λ y l. (c.in-Some.set.now, sym (c.whole_of.ensures c.args.p.now c.requires.keys) ∙ ap option_copied c.in-Some.is, l)) c.join.ensures

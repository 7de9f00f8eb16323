-- There are ends exactly where there is a member.
use Rattle.std.proofs.Common.{sym, ◌∙◌, refl}
use Rattle.std.proofs.lemmas.Option.{none-some}
use Rattle.cc_state_shaped.proofs.sets.is_empty.Goals as goal

pub returns-in-None : goal.returns-in-None
returns-in-None g c = ((λ t. (g.met.I.IntDomain.bounds_none c.args.set.now).0 (sym c.bounds.ensures ∙ c.in-None.is)), (λ h. refl))

pub returns-in-Some : goal.returns-in-Some
returns-in-Some g c = ((λ t. absurd (cc)), (λ h. absurd (none-some _ (sym ((g.met.I.IntDomain.bounds_none c.args.set.now).1 h) ∙ (sym c.bounds.ensures ∙ c.in-Some.is)))))

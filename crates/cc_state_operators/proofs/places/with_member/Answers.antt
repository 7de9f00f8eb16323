-- The address of the member, where there is one.
use Rattle.std.proofs.Common.{sym, ◌∙◌}
use Rattle.std.proofs.lemmas.Result.{IfOk-weaker}
use Rattle.cc_eval.specs.CcTyped.View.{place_view}
use Rattle.cc_state_operators.specs.Addresses.{member_address}
use Rattle.cc_state_operators.proofs.Sets.{with_one, with_none}
use Rattle.cc_state_operators.proofs.places.with_member.Goals as goal

pub returns-in-None : goal.returns-in-None
returns-in-None c = with_none c.args.set (member_address c.args.p.now (place_view c.args.t) c.args.m c.args.a.now) (sym c.in_ok-member_address.ensures ∙ c.in-None.is)

pub returns-in-Some : goal.returns-in-Some
returns-in-Some c =
    IfOk-weaker c.with.result _ _
    (λ r h. with_one c.args.set r (member_address c.args.p.now (place_view c.args.t) c.args.m c.args.a.now) c.in-Some.b (sym c.in_ok-member_address.ensures ∙ c.in-Some.is) h) c.with.ensures

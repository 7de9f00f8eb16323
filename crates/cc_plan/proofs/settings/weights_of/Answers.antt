use Rattle.cc_plan.proofs.Settled.{few_weights}
use Rattle.cc_plan.proofs.settings.weights_of.Goals as goal

pub returns-clause-few : goal.returns-clause-few
returns-clause-few c =
    let few = few_weights c.args.profile.now.weight_code c.args.profile.now.weight_time c.args.profile.now.weighed in
    record { code = few.0; time = few.1 }

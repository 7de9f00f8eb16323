use Rattle.cc_proof_covers.specs.Views.{view_of}
use Rattle.cc_proof_forms.proofs.ClosedRules.{rules_closed, rules_cover}
use Rattle.cc_proof_forms.proofs.law.points.Goals as goal
use Rattle.cc_proof_forms.specs.Sets.{sets_of}

pub returns : goal.returns
returns g = λ c. record {
  closed = λ p normal few rules.
      (let v = g.V.FactView in
      let o = g.O.OperandView in
      let view = view_of v.tracked v.StaticAt v.LocalAt v.Result v.ByMain v.ByHandler v.ReachedFrom v.RunsAt v.WrittenBy v.Reached v.MayBe v.Local v.Cell v.Same in
      rules_closed p view (sets_of o.Holds o.Leads o.Passes o.PassesWith) normal few rules);
  covers = λ p normal few rules inputs arrivals.
      (let v = g.V.FactView in
      let o = g.O.OperandView in
      let view = view_of v.tracked v.StaticAt v.LocalAt v.Result v.ByMain v.ByHandler v.ReachedFrom v.RunsAt v.WrittenBy v.Reached v.MayBe v.Local v.Cell v.Same in
      rules_cover p view (sets_of o.Holds o.Leads o.Passes o.PassesWith) normal few rules inputs arrivals);
}

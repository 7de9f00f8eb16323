use Rattle.cc_proof_covers.specs.Views.{view_of}
use Rattle.cc_proof_forms.proofs.ClosedFacts.{steps_of, goes_of, leaves_of}
use Rattle.cc_proof_forms.proofs.law.statements.Goals as goal
use Rattle.cc_proof_forms.specs.Sets.{sets_of}

pub returns : goal.returns
returns g = λ c. record {
  steps = λ p normal few rules m a f n here.
      (let v = g.V.FactView in
      let o = g.O.OperandView in
      let view = view_of v.tracked v.StaticAt v.LocalAt v.Result v.ByMain v.ByHandler v.ReachedFrom v.RunsAt v.WrittenBy v.Reached v.MayBe v.Local v.Cell v.Same in
      steps_of p view (sets_of o.Holds o.Leads o.Passes o.PassesWith) normal few rules m a f n here);
  goes = λ p normal few rules m a f n here s rest first.
      (let v = g.V.FactView in
      let o = g.O.OperandView in
      let view = view_of v.tracked v.StaticAt v.LocalAt v.Result v.ByMain v.ByHandler v.ReachedFrom v.RunsAt v.WrittenBy v.Reached v.MayBe v.Local v.Cell v.Same in
      goes_of p view (sets_of o.Holds o.Leads o.Passes o.PassesWith) normal few rules m a f n here s rest first);
  leaves = λ p normal few rules m a f n here s rest first.
      (let v = g.V.FactView in
      let o = g.O.OperandView in
      let view = view_of v.tracked v.StaticAt v.LocalAt v.Result v.ByMain v.ByHandler v.ReachedFrom v.RunsAt v.WrittenBy v.Reached v.MayBe v.Local v.Cell v.Same in
      leaves_of p view (sets_of o.Holds o.Leads o.Passes o.PassesWith) normal few rules m a f n here s rest first);
}

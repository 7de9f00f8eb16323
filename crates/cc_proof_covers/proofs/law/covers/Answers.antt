use Rattle.cc_flow_sound.proofs.Normal.{normal_body}
use Rattle.cc_proof_covers.proofs.Covered.{fits_lies}
use Rattle.cc_proof_covers.proofs.Turns.{run_fits}
use Rattle.cc_proof_covers.proofs.law.covers.Goals as goal
use Rattle.cc_proof_covers.specs.Views.{view_of}
use Rattle.cc_flow_sound.specs.CcSteps.Runs.{run}
use Rattle.cc_flow_sound.specs.CcSteps.Turn.{start}
use Rattle.cc_flow_sound.proofs.CcSyntax.NameRules.{sound-typed}

pub returns : goal.returns
returns g = λ c. record {
  lies = λ p normal few closed inputs arrivals.
      (let v = g.V.FactView in
      let view = view_of v.tracked v.StaticAt v.LocalAt v.Result v.ByMain v.ByHandler v.ReachedFrom v.RunsAt v.WrittenBy v.Reached v.MayBe v.Local v.Cell v.Same in
      let r = run_fits p view closed (normal_body p normal) (sound-typed p normal.sound) inputs arrivals in
      fits_lies p few (normal_body p normal) view r.0.0 (run p (start p inputs) arrivals) r.0.1.stack r.1);
  fits = λ p normal closed inputs arrivals.
      (let v = g.V.FactView in
      let view = view_of v.tracked v.StaticAt v.LocalAt v.Result v.ByMain v.ByHandler v.ReachedFrom v.RunsAt v.WrittenBy v.Reached v.MayBe v.Local v.Cell v.Same in
      (run_fits p view closed (normal_body p normal) (sound-typed p normal.sound) inputs arrivals).1);
}

-- Facts of the shape of a program in normal form that solve its constraints say what is asked at each point, so they cover its runs.
use Rattle.std.proofs.Common.{◌≡◌, ◌<◌, ◌≤◌, ◌^◌, ℕ, Some, arith, slice_get}
use Rattle.cc_rules.specs.CcFlow.declared.next.Site.{Site}
use Rattle.cc_rules.specs.CcFlow.declared.types.Point.{Point}
use Rattle.cc_rules.specs.CcFlow.Points.{count_of, flow_of}
use Rattle.cc_rules.specs.CcFlowSound.Sites.{nexts}
use Rattle.cc_rules.specs.CcFlowSound.Statements.{statement_at}
use Rattle.cc_program.specs.declared.func.Func.{Func}
use Rattle.cc_program.specs.declared.program.Program.{Program}
use Rattle.cc_program.specs.declared.stmt.Stmt.{Stmt, out-Stmt}
use Rattle.cc_proof_covers.specs.Invariant.{exit_of}
use Rattle.cc_proof_covers.specs.Views.{View}
use Rattle.cc_proof_forms.proofs.ClosedRules.{rules_cover}
use Rattle.cc_proof_forms.specs.Branches.{LeadsOut}
use Rattle.cc_proof_forms.specs.PointRules.{AreRules}
use Rattle.cc_proof_forms.specs.Sets.{OperandSets, sets_of}
use Rattle.cc_proof_forms.specs.StatementRules.{StatementRule}
use Rattle.cc_proof_rules.proofs.Beginnings.{initial, main_begins, main_ends}
use Rattle.cc_proof_rules.proofs.Forms.{statement_rule}
use Rattle.cc_proof_rules.proofs.Points.{pairs_tracked, point_rule}
use Rattle.cc_proof_rules.proofs.Staying.{KeepsMembers}
use Rattle.cc_proof_rules.proofs.Tests.{if_rule, switch_rule}
use Rattle.cc_proof_rules.specs.Operands.{Holds, LeadsAt}
use Rattle.cc_proof_rules.specs.Outcomes.{PassesAt, PassesWith}
use Rattle.cc_rules.specs.Rules.{IsSolution}
use Rattle.cc_state.specs.Covered.{Covers}
use Rattle.cc_state.specs.Shape.{HaveShape}
use Rattle.cc_state.specs.View.{view}
use Rattle.cc_rules.specs.CcStateFacts.declared.facts.Facts.{Facts}
use Rattle.cc_state_values_sound.specs.CcStateOperators.Domains.{Domain}
use Rattle.cc_state_values_sound.proofs.Choices.{GivesAll}
use Rattle.cc_state_values_sound.specs.CcSyntax.Normal.{IsNormal}

module _ {I : Type 0} (d : Domain I) (all : GivesAll d) (keeps : KeepsMembers d) (p : Program) (normal : IsNormal p) (few : count_of p < 2 ^ 32) (facts : Facts I) (shape : HaveShape d p facts) (solution : IsSolution d p facts) where
  abbrev v : View
  v = view d p facts

  abbrev o : OperandSets
  o = sets_of (Holds d p facts) (LeadsAt d p facts) (PassesAt d p facts) (PassesWith d p facts)

  at_point : (n : ℕ) (q : Point) (f : Func) (s : Stmt) → slice_get (flow_of p).points n ≡ Some q → slice_get p.funcs q.func ≡ Some f → statement_at f.body q.path ≡ Some s → v.reached n → (site : Site) → site.number ≡ n → nexts (out-Stmt s) site ≡ q.next →
      LeadsOut s site → site.exit ≡ exit_of p q.func f → StatementRule p v o q.func f n s site
  at_point n q f s numbered function stands reached site number next out exit =
      statement_rule d all p normal few facts solution shape (PassesAt d p facts) (PassesWith d p facts) n q f reached.0 numbered function reached.1 s stands site next exit
      (λ e these those i. if_rule d all keeps p facts n q f numbered function s stands reached.0 reached.1 shape solution (Holds d p facts) (LeadsAt d p facts) site number next out e these those i)
      (λ e cases i. switch_rule d all keeps p facts n q f numbered function s stands reached.0 reached.1 shape solution (Holds d p facts) (LeadsAt d p facts) site number next out e cases i)

  pub are_rules : AreRules p v o
  are_rules = record {
    initial = initial d all p facts solution;
    main = λ f function. main_begins d all p facts solution f function;
    pairs = λ n r i h. pairs_tracked d all p facts n r i h;
    points = λ n q f numbered function. point_rule d all p facts solution n q f numbered function;
    statements = λ n q f s numbered function stands reached site number next out exit. at_point n q f s numbered function stands reached site number next out exit;
    ends = λ f function gives reached. main_ends d all p facts solution f function gives;
  }

  pub covered : Covers d p facts
  covered = rules_cover p v o normal few are_rules

-- a program within the limit of points has few
few_points : (p : Program) → count_of p ≤ 65536 → count_of p < 2 ^ 32
few_points p h = omega (arith, h)

pub solutions_cover : {I : Type 0} (d : Domain I) → GivesAll d → KeepsMembers d → (p : Program) → IsNormal p → count_of p ≤ 65536 → (facts : Facts I) → HaveShape d p facts → IsSolution d p facts → Covers d p facts
solutions_cover d all keeps p normal few facts shape solution = covered d all keeps p normal (few_points p few) facts shape solution

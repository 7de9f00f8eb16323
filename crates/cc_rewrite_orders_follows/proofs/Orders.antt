-- A program whose objects stand in an order follows its source and answers it.
use Rattle.std.proofs.Common.{List, ℕ, subst}
use Rattle.cc_program.specs.declared.program.Program.{Program}
use Rattle.cc_states.specs.CcSteps.Runs.{Follows, Answers}
use Rattle.cc_rewrite_orders_follows.proofs.Whole.{follows, answers}
use Rattle.cc_rewrite_renamed.specs.Objects.{with_objects_ordered}
use Rattle.cc_rewrite_renamed.specs.Orders.{IsOrderOf}
use Rattle.cc_rewrite_renamed.proofs.Sources.{number, ordered, objects_there, renamed, source_there}

module _ (order : List ℕ) (p : Program) (h : IsOrderOf order p) where
  pub ordered_follows : Follows (with_objects_ordered order p) p
  unfolding with_objects_ordered
  ordered_follows = subst (λ (q : Program). Follows (ordered order p h) q) (source_there order p h) (follows (number order p h) p.objects (ordered order p h) (renamed order p h) (objects_there order p h))

  pub ordered_answers : Answers (with_objects_ordered order p) p
  unfolding with_objects_ordered
  ordered_answers = subst (λ (q : Program). Answers (ordered order p h) q) (source_there order p h) (answers (number order p h) p.objects (ordered order p h) (renamed order p h) (objects_there order p h))

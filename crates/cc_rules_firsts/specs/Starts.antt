-- What is known where main is entered.
use Rattle.std.specs.Prelude.{◌≡◌, ℕ, ℤ, true, false, List, []}
use Rattle.cc_program.specs.declared.value.Value.{Value}
use Rattle.cc_rules_firsts.specs.Rows.{AreFirstRows}
use Rattle.cc_rules_asked.specs.CcStateFacts.declared.facts.PointFact.{PointFact}

-- the flag is off, tracked cells have their first values, and nothing is known of registers
pub record IsFirstFact {I : Type 0} (has : I → ℤ → Type 0) (below : I → I → Type 0) (values : List (List Value)) (objects : List ℕ) (fact : PointFact I) : Type 0 where
  pub off : fact.off ≡ true
  pub on : fact.on ≡ false
  pub locals : fact.locals ≡ []
  pub rows : AreFirstRows has below values objects fact.rows
  pub same : fact.same ≡ []

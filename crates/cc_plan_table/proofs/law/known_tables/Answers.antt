use Rattle.cc_plan_table.proofs.Tables.{by_table, of_all_sorts, shared_word}
use Rattle.cc_plan_table.proofs.law.known_tables.Goals as goal

pub returns-clause-shared_word : goal.returns-clause-shared_word
returns-clause-shared_word g = λ p a b c e f h. shared_word p a b c e f h

pub returns-clause-of_all_sorts : goal.returns-clause-of_all_sorts
returns-clause-of_all_sorts g = λ p a k b d v r e f h i j m. of_all_sorts p a k b d v r e f h i j m

pub returns-clause-by_table : goal.returns-clause-by_table
returns-clause-by_table g = λ p s f h x m e i j k. by_table p s f h x m e i j k

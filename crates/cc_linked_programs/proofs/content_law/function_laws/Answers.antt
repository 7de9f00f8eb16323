use Rattle.cc_linked_programs.proofs.Contents.{function_sound}
use Rattle.cc_linked_programs.proofs.Relocated.{function_relocated}
use Rattle.cc_linked_programs.proofs.content_law.function_laws.Goals as goal

pub returns : goal.returns
returns c = record {
  relocated = λ v w ids among r s g sound speaks name names entry e. function_relocated v w ids among r s g sound speaks name names entry e;
  functions = λ texts target sound roles numbering firsts are none no_bad f i. function_sound texts target sound roles numbering firsts are none no_bad f i;
}

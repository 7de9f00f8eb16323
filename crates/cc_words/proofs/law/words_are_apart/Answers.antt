use Rattle.cc_words.proofs.Tables.{keywords-own, outside-none, keyword-forms, outside-forms, some-names, no-names}
use Rattle.cc_words.proofs.law.words_are_apart.Goals as goal

pub returns : goal.returns
returns c = record {
  keywords = keywords-own;
  outside = outside-none;
  keyword_forms = keyword-forms;
  outside_forms = outside-forms;
  names = some-names;
  no_names = no-names;
}

-- By the lemmas on words.
use Rattle.cc_rewrite_accesses_follows.proofs.WordValues.{shifted_word, masked_word, kept_word, raised_code, joined_word, field_whole, placed_below, converted_number, sum_of}
use Rattle.cc_rewrite_accesses_follows.proofs.values.words.Goals as goal

pub returns : goal.returns
returns g = record {
  shifted = shifted_word;
  masked = masked_word;
  kept = kept_word;
  raised = raised_code;
  joined = joined_word;
  alone = field_whole;
  placed = placed_below;
  converted = converted_number;
  sum = sum_of;
}

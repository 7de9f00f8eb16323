-- By the lemmas on fields.
use Rattle.cc_rewrite_fields.proofs.FieldLemmas.{field_put, field_below, field_above, put_below, field_alone}
use Rattle.cc_rewrite_fields.proofs.law.fields.Goals as goal

pub returns : goal.returns
returns g = record {
  written = field_put;
  below = λ w s b c t d h. field_below w s b c t d h;
  above = λ w s b c t d h k. field_above w s b c t d h k;
  within = λ w n s b c h k l. put_below w n s b c h k l;
  alone = field_alone;
}

use Rattle.std.proofs.Common.{[]}
use Rattle.cc_sound_terms.proofs.Cycle.{declr_holds, type_name_is}
use Rattle.cc_sound_terms.proofs.Laws.{specifiers_stand}
use Rattle.cc_sound_terms.proofs.law.type_laws.Goals as goal

pub returns : goal.returns
returns c = record {
  type_names = λ v roles t f cast s r h. let o = type_name_is v [] roles t f cast s r h in (o.grows, o.holds);
  specifiers = λ v roles setting specs f s r h. let o = specifiers_stand v roles setting specs f s r h in (o.grows, o.holds);
  declarators = λ v roles d f allowed at s r h. let o = declr_holds v [] roles d f allowed at s r h in (o.grows, o.holds);
}

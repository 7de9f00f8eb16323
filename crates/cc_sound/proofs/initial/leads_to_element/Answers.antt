use Rattle.std.proofs.Common.{◌∙◌, sym}
use Rattle.cc_sound.proofs.PathLemmas.{leads_last}
use Rattle.cc_sound.proofs.initial.leads_to_element.Goals as goal

pub returns : goal.returns
returns c = c.is_index.ensures ∙ sym (leads_last c.args.path.now _ c.last.ensures.value)

use Rattle.std.proofs.Common.{Bool, List, ap, sym, ◌∙◌, slice_get}
use Rattle.cc_state_shaped.proofs.Names.{listed}
use Rattle.cc_state_shaped.proofs.layout.Layout.may_name_listed.Goals as goal

pub returns : goal.returns
returns c =
    let p = c.args.self.now.program.now in
    let n = c.in_ok-number.number in
    listed p c.args.key n c.args.self.now.names c.at.result c.requires.names (sym (c.in_ok-number.ensures p (c.all.ensures ∙ c.requires.keys))) (c.at.ensures ∙ ap (λ (ls : List Bool). slice_get ls n) c.all-2.ensures)

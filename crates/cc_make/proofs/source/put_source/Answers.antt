use Rattle.std.proofs.Common.{ℕ, List, ◌++◌, ap, ◌∙◌}
use Rattle.cc_make.specs.Source.{device, variables, functions, handler_head, clearings, main_head, calls, main_end}
use Rattle.cc_make.proofs.Parts.{eight_parts}
use Rattle.cc_make.proofs.source.put_source.Goals as goal

pub returns : goal.returns
returns c =
    let cs = c.args.counters.now in
    eight_parts device (variables cs) (functions cs) handler_head (clearings cs) main_head (calls cs) main_end
    c.extend_from_slice.new.self.items c.put_variables.new.text.items c.put_functions.new.text.items c.extend_from_slice-2.new.self.items c.put_clearings.new.text.items c.extend_from_slice-3.new.self.items c.put_calls.new.text.items c.extend_from_slice-4.new.self.items
    (c.in_ok-extend_from_slice.ensures.items ∙ ap (λ (bs : List ℕ). bs ++ device) c.requires)
    c.in_ok-put_variables.ensures c.in_ok-put_functions.ensures c.in_ok-extend_from_slice-2.ensures.items c.in_ok-put_clearings.ensures c.in_ok-extend_from_slice-3.ensures.items c.in_ok-put_calls.ensures c.in_ok-extend_from_slice-4.ensures.items

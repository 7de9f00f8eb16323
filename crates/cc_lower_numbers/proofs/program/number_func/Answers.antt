use Rattle.std.proofs.Common.{◌∙◌, ℕ, ap, map}
use Rattle.cc_lower_numbers.specs.Renamed.{number_at, stmt_renamed}
use Rattle.cc_lower_numbers.proofs.program.number_func.Goals as goal

pub returns : goal.returns
returns c =
    let f = c.args.f in
    let places = ap number_at c.as_slice-3.ensures.value ∙ c.in_ok-places.ensures (c.as_slice.ensures.value ∙ c.in_ok-order.ensures) in
    let locals = c.of.ensures ∙ c.in_ok-locals.ensures (c.as_slice-2.ensures.value ∙ c.in_ok-order.ensures) in
    let body = c.in_ok-body.ensures ∙ ap (λ (g : ℕ → ℕ). map (stmt_renamed g (number_at c.args.devices.now)) f.body) places in
    λ j. record { name = f.name; sig = f.sig; entry = f.entry; params = f.params; locals = locals j; body = body j }

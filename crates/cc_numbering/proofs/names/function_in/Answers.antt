use Rattle.std.proofs.Common.{◌≡◌, ◌∙◌, ap}
use Rattle.cc_scopes.specs.CcUnit.Renumbered.{sig_renumbered}
use Rattle.cc_numbering.specs.Structures.{all_named_in}
use Rattle.cc_numbering.proofs.names.function_in.Goals as goal

pub returns : goal.returns
returns c =
    let f = c.args.f.now in
    let structures = c.args.ids.now.structures in
    let sig : c.in_ok-sig.sig ≡ sig_renumbered structures f.sig = c.in_ok-sig.ensures ∙ ap (λ s. sig_renumbered s f.sig) c.all.ensures in
    let locals : c.in_ok-locals.locals ≡ all_named_in structures f.locals = c.in_ok-locals.ensures ∙ (ap (λ s. all_named_in s c.all-3.result.now) c.all-2.ensures ∙ ap (all_named_in structures) c.all-3.ensures) in
    λ j. record {
      name = c.in_ok-name.ensures j;
      sig = sig j;
      entry = c.args.entry;
      params = f.params;
      locals = locals j;
      body = c.in_ok-body.ensures j;
    }

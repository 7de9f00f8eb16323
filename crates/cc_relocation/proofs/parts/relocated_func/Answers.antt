use Rattle.std.proofs.Common.{◌≡◌, ◌∙◌, map, ap}
use Rattle.std.specs.Prelude.{zip}
use Rattle.cc_unit.specs.Renumbered.{sig_renumbered}
use Rattle.cc_relocation.specs.Relocated.{local_with}
use Rattle.cc_relocation.proofs.parts.relocated_func.Goals as goal

pub returns : goal.returns
returns c =
    let f = c.args.func.now in
    let names = c.args.names.now in
    let structures = c.args.ids.now.structures in
    let told = c.all-structures.ensures in
    let sig : c.in_ok-sig.sig ≡ sig_renumbered structures f.sig = c.in_ok-sig.ensures ∙ ap (λ s. sig_renumbered s f.sig) told in
    let locals : c.in_ok-locals.locals ≡ map (local_with structures) (zip names f.locals) =
    c.in_ok-locals.ensures ∙ (ap (λ s. map (local_with s) (zip names c.all.result.now)) told ∙ ap (λ l. map (local_with structures) (zip names l)) c.all.ensures) in
    λ j. record {
      name = c.name.view_is j;
      sig = sig j;
      entry = c.args.entry;
      params = f.params;
      locals = locals j;
      body = c.in_ok-renumber_stmts.ensures j;
    }

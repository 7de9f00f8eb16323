-- Signatures whose opened levels are the same are the same.
use Rattle.std.proofs.Common.{◌≡◌, refl, ap, sym, ◌∙◌}
use Rattle.cc_program.specs.declared.types.Sig.{Sig, out-Sig, roll-Sig, roll-out-Sig}

sig_of_level : (s t : Sig) → out-Sig s ≡ out-Sig t → s ≡ t
sig_of_level s t h = sym (roll-out-Sig s) ∙ ap roll-Sig h ∙ roll-out-Sig t

pub sig_of_fields : (s t : Sig) → (out-Sig s).result ≡ (out-Sig t).result → (out-Sig s).params ≡ (out-Sig t).params → s ≡ t
sig_of_fields s t h k = sig_of_level s t (rw (h, k) refl)

-- The type of a function, as far as a loop over its parameters has come.
use Rattle.std.proofs.Common.{◌≡◌, ◌<◌, ◌≤◌, ◌&&◌, ℕ, Bool, true, false, List, map, take, take_all, length, get_or, ap, sym, ◌∙◌, Option}
use Rattle.std.specs.List.{list_all}
use Rattle.cc_program.specs.CcNum.declared.target.Target.{Target}
use Rattle.cc_program.specs.declared.types.CType.{CType}
use Rattle.cc_program.specs.declared.types.Sig.{Sig, out-Sig, fold_out-Sig}
use Rattle.cc_program.specs.declared.types.Structure.{Structure}
use Rattle.cc_syntax.specs.Kinds.{Kind, is_result, is_plain_scalar, shape_kind, type_kind, is_signature, kind_of, is_sig, extent_with}
use Rattle.cc_typed.proofs.ListLemmas.{mapped_fails}

module _ (structures : List Structure) (count : ℕ) (target : Target) where
  abbrev kind : CType → Option Kind
  kind t = kind_of target (extent_with structures count target) t

  sig-opens : (s : Sig) → is_sig target (extent_with structures count target) s ≡ (is_result (kind (out-Sig s).result) && list_all is_plain_scalar (map (kind_of target (extent_with structures count target)) (out-Sig s).params))
  unfolding is_sig kind_of
  sig-opens s = fold_out-Sig (Option Kind) (Option Kind) Bool (shape_kind target (extent_with structures count target)) type_kind is_signature s

  sig_by : (s : Sig) (params : List CType) (b : Bool) → params ≡ (out-Sig s).params → is_result (kind (out-Sig s).result) ≡ true → b ≡ list_all is_plain_scalar (map (kind_of target (extent_with structures count target)) params) → b ≡ is_sig target (extent_with structures count target) s
  sig_by s params b e r h =
      h ∙ ap (λ ps. list_all is_plain_scalar (map (kind_of target (extent_with structures count target)) ps)) e
      ∙ sym (sig-opens s ∙ ap (λ c. c && list_all is_plain_scalar (map (kind_of target (extent_with structures count target)) (out-Sig s).params)) r)

  pub sig_fails : (s : Sig) (params : List CType) (i : ℕ) (x : CType) → params ≡ (out-Sig s).params → is_result (kind (out-Sig s).result) ≡ true → i < length params → x ≡ get_or params i x → is_plain_scalar (kind x) ≡ false → false ≡ is_sig target (extent_with structures count target) s
  sig_fails s params i x e r h at k = sig_by s params false e r (mapped_fails is_plain_scalar (kind_of target (extent_with structures count target)) params i x h at k)

  pub sig_all : (s : Sig) (params : List CType) (i : ℕ) → params ≡ (out-Sig s).params → is_result (kind (out-Sig s).result) ≡ true → list_all is_plain_scalar (map (kind_of target (extent_with structures count target)) (take i params)) ≡ true → length params ≤ i → true ≡ is_sig target (extent_with structures count target) s
  sig_all s params i e r h past =
      sig_by s params true e r (sym h ∙ ap (λ ps. list_all is_plain_scalar (map (kind_of target (extent_with structures count target)) ps)) (take_all i params past))

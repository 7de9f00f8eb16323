-- A type whose structures have the numbers of a unit, and then those again that they come from, is as it was.
use Rattle.std.proofs.Common.{◌≡◌, ℕ, zero, suc, Bool, true, false, ◌||◌, List, [], ◌∷◌, map, Some, refl, ap, sym, ◌∙◌, subst, slice_get}
use Rattle.cc_print.specs.Units.{any_true, is_named_in}
use Rattle.cc_program.specs.declared.types.CType.{CType}
use Rattle.cc_program.specs.declared.types.Shape.{Shape, out-Shape, roll-Shape, out-roll-Shape}
use Rattle.cc_program.specs.declared.types.Shape.TheOpen as shape
use Rattle.cc_program.specs.declared.types.Sig.{Sig, out-Sig, roll-Sig, out-roll-Sig}
use Rattle.cc_program.proofs.Each.{Each}
use Rattle.cc_program.proofs.Levels.{sig_of_fields}
use Rattle.cc_program.proofs.TypeInduction.{with_shape, TypeParts, SigParts, by_type}
use Rattle.cc_structures.proofs.WordLaws.{renumbered_level, level-renumbered, constant-kept as constant-renumbered, volatile-kept as volatile-renumbered, sig_level}
use Rattle.cc_type.specs.CcUnit.Renumbered.{structure_by, type_renumbered, sig_renumbered}
use Rattle.cc_shown_expressions.specs.Numbers.{type_numbered, sig_numbered}
use Rattle.cc_shown_expressions.proofs.Bases.{type-of-fields, shape-of-level}
use Rattle.cc_shown_expressions.proofs.Numbering.{level, level-at, constant-kept, volatile-kept, sig-level}
use Rattle.cc_shown_declarations.proofs.Namings.{named-at}
use Rattle.cc_shown_declarations.proofs.Orders.{self, or-left}

or-second : (a b : Bool) → b ≡ true → (a || b) ≡ true
or-second true b h = refl
or-second false b h = h

module _ (numbers : List ℕ) (number : ℕ → ℕ) where
  -- each structure that the type names comes back
  abbrev pub ComesBack : CType → Type 0
  ComesBack t = (j : ℕ) → is_named_in j t ≡ true → structure_by (slice_get numbers (number j)) ≡ j

  abbrev Back : CType → Type 0
  Back t = ComesBack t → type_renumbered numbers (type_numbered number t) ≡ t

  abbrev AllComeBack : List CType → Type 0
  AllComeBack ts = (t : CType) (m : ℕ) → slice_get ts m ≡ Some t → ComesBack t

  abbrev BackSig : Sig → Type 0
  BackSig s = ComesBack (out-Sig s).result → AllComeBack (out-Sig s).params → sig_renumbered numbers (sig_numbered number s) ≡ s

  any-at : (j : ℕ) (ts : List CType) (m : ℕ) (t : CType) → slice_get ts m ≡ Some t → is_named_in j t ≡ true → any_true (map (is_named_in j) ts) ≡ true
  any-at j [] m t e h = absurd (cc)
  any-at j (u ∷ us) zero t e h = let is : u ≡ t = cc in or-left (is_named_in j u) (any_true (map (is_named_in j) us)) (ap (is_named_in j) is ∙ h)
  any-at j (u ∷ us) (suc m) t e h = or-second (is_named_in j u) (any_true (map (is_named_in j) us)) (any-at j us m t e h)

  level-back : (t : CType) (x : shape.Shape-F Shape CType Sig) → out-Shape t.shape ≡ x → TypeParts Back BackSig x → ComesBack t → renumbered_level numbers (level number x) ≡ x
  level-back t shape.Void e h o = refl
  level-back t (shape.Int i) e h o = refl
  level-back t (shape.Pointer to) e h o = ap (λ (u : CType). shape.Pointer u) (h (λ j n. o j (named-at j t (shape.Pointer to) e ∙ n)))
  level-back t (shape.Array of n) e h o = ap (λ (u : CType). shape.Array u n) (h (λ j k. o j (named-at j t (shape.Array of n) e ∙ k)))
  level-back t (shape.Struct i) e h o = ap (λ n. shape.Struct n) (o i (named-at i t (shape.Struct i) e ∙ self i))
  level-back t (shape.Func sig) e h o =
      ap (λ (s : Sig). shape.Func s)
      (h (λ j n. o j (named-at j t (shape.Func sig) e ∙ or-left (is_named_in j (out-Sig sig).result) (any_true (map (is_named_in j) (out-Sig sig).params)) n))
      (λ u m f j n. o j (named-at j t (shape.Func sig) e ∙ or-second (is_named_in j (out-Sig sig).result) (any_true (map (is_named_in j) (out-Sig sig).params)) (any-at j (out-Sig sig).params m u f n))))

  back-by : (t : CType) (x : shape.Shape-F Shape CType Sig) → out-Shape t.shape ≡ x → TypeParts Back BackSig x → Back t
  back-by t x e h o =
      type-of-fields (type_renumbered numbers (type_numbered number t)) t
      (constant-renumbered numbers (type_numbered number t) ∙ constant-kept number t) (volatile-renumbered numbers (type_numbered number t) ∙ volatile-kept number t)
      (shape-of-level (type_renumbered numbers (type_numbered number t)).shape t.shape (level-renumbered numbers (type_numbered number t) (level number x) (level-at number t x e) ∙ level-back t x e h o ∙ sym e))

  all-back : (ts : List CType) → Each Back ts → AllComeBack ts → map (type_renumbered numbers) (map (type_numbered number) ts) ≡ ts
  all-back [] h o = refl
  all-back (t ∷ ts) h o =
      ap (λ (u : CType). u ∷ map (type_renumbered numbers) (map (type_numbered number) ts)) (h.0 (o t 0 refl)) ∙ ap (λ (us : List CType). t ∷ us) (all-back ts h.1 (λ u m e. o u (suc m) e))

  sig-back : (s : Sig) → SigParts Back BackSig (out-Sig s) → BackSig s
  sig-back s h o os =
      let opened = sig_level numbers (sig_numbered number s) (record { result = type_numbered number (out-Sig s).result; params = map (type_numbered number) (out-Sig s).params }) (sig-level number s) in
      sig_of_fields (sig_renumbered numbers (sig_numbered number s)) s
      (ap (λ (x : shape.Sig-F Shape CType Sig). x.result) opened ∙ h.0 o) (ap (λ (x : shape.Sig-F Shape CType Sig). x.params) opened ∙ all-back (out-Sig s).params h.1 os)

  pub type-back : (t : CType) → Back t
  type-back = by_type Back BackSig (λ constant volatile x h. back-by (with_shape constant volatile (roll-Shape x)) x (out-roll-Shape x) h)
      (λ x h. sig-back (roll-Sig x) (subst (λ (y : shape.Sig-F Shape CType Sig). SigParts Back BackSig y) (sym (out-roll-Sig x)) h))

-- A string has first values of its type: its characters, and a zero (C99 6.4.5, 5).
use Rattle.std.proofs.Common.{◌≡◌, ◌+◌, ◌⊎◌, inl, inr, ℕ, zero, suc, pos, true, false, List, [], ◌∷◌, ◌++◌, map, length, Some, refl, ap, sym, ◌∙◌, subst, arith}
use Rattle.std.specs.Prelude.{slice_get}
use Rattle.std.specs.List.{list_all}
use Rattle.cc_read_sound.proofs.FirstObjects.{kept_if}
use Rattle.cc_read_sound.specs.Values.{HasInitial, AreInitial}
use Rattle.cc_program.specs.CcNum.Integers.{is_value_of}
use Rattle.cc_program.specs.CcNum.declared.int_type.IntType.TheVariants as int
use Rattle.cc_operand_types.proofs.Constants.{truth_fits, converted_fits}
use Rattle.cc_type.specs.CcOperands.Operands.{character_value}
use Rattle.cc_type.specs.CcTypedTerms.Primary.{char_type, string_type, char_leaf, string_object}
use Rattle.cc_program.specs.declared.types.Shape.TheVariants.{outs-Int, outs-Array}
use Rattle.cc_program.specs.declared.value.Leaf.{Leaf}
use Rattle.cc_program.specs.declared.value.Leaf.TheVariants as leaf
use Rattle.cc_type.specs.CcScopes.State.{State}
use Rattle.cc_type.specs.CcScopes.declared.unit.Declared.{Declared}
use Rattle.cc_sound_terms.proofs.Growth.{get_front}
use Rattle.cc_sound_terms.specs.Behind.{HasEntry, IsUnnamed, OfString, OfDevice, Extends}
use Rattle.cc_type.specs.CcSyntax.Folding.{Value}
use Rattle.cc_type.specs.CcSyntax.Initial.{is_zero, AreLeaves, OfInteger, OfArray, AreElements, NoElement, Element, IsInitial}
use Rattle.cc_type.specs.CcSyntax.Views.{View}

some_is : {A : Type 0} (a b : A) → Some a ≡ Some b → a ≡ b
some_is a b h = cc

module _ (v : View) where
  abbrev leaves_of : List ℕ → List Leaf
  leaves_of bytes = map (char_leaf v.target) bytes ++ leaf.Int (pos 0) ∷ []

  one_char : (byte : ℕ) (rest : List Leaf) → AreLeaves v (char_type true) (char_leaf v.target byte ∷ rest) rest
  one_char byte rest = OfInteger (char_type true) int.Char (character_value v.target byte) rest (outs-Int int.Char) (converted_fits int.Char v.target (Value (pos byte)))

  end_char : AreLeaves v (char_type true) (leaf.Int (pos 0) ∷ []) []
  end_char = OfInteger (char_type true) int.Char (pos 0) [] (outs-Int int.Char) (truth_fits int.Char v.target false)

  chars : (bytes : List ℕ) → AreElements v (char_type true) (suc (length bytes)) (leaves_of bytes) []
  chars [] = Element (char_type true) 0 (leaf.Int (pos 0) ∷ []) [] [] end_char (NoElement (char_type true) [])
  chars (b ∷ bs) = Element (char_type true) (suc (length bs)) (leaves_of (b ∷ bs)) (leaves_of bs) [] (one_char b (leaves_of bs)) (chars bs)

  string_leaves : (bytes : List ℕ) → AreLeaves v (string_type bytes) (leaves_of bytes) []
  string_leaves bytes =
      let e : suc (length bytes) ≡ length bytes + 1 = omega arith in
      OfArray (string_type bytes) (char_type true) (length bytes + 1) (leaves_of bytes) [] (outs-Array (char_type true) (length bytes + 1))
      (subst (λ (n : ℕ). AreElements v (char_type true) n (leaves_of bytes) []) e (chars bytes))

  pub string_initial : (at : ℕ) (bytes : List ℕ) → HasInitial v (string_object v.target at bytes).ctype (string_object v.target at bytes).kind
  string_initial at bytes = kept_if v (string_type bytes) (leaves_of bytes) (list_all is_zero (leaves_of bytes)) refl (string_leaves bytes)

  unnamed_initial : (d : Declared) → IsUnnamed v.target d → HasInitial v d.ctype d.kind
  unnamed_initial _ (OfString at bytes h) = string_initial at bytes
  unnamed_initial _ (OfDevice n constant t h) = tt

  -- ---- what expressions add

  added_initial : (s t : State) → Extends v s t → AreInitial v s.names → (i : ℕ) (d : Declared) → slice_get t.names i ≡ Some d → HasEntry s.names i ⊎ IsUnnamed v.target d → HasInitial v d.ctype d.kind
  added_initial s t g a i d h (inr n) = unnamed_initial d n
  added_initial s t g a i d h (inl e) =
      let there = ap (λ (zs : List Declared). slice_get zs i) g.grows.names.1 ∙ get_front s.names g.grows.names.0 i e.0 e.1 in
      subst (λ (x : Declared). HasInitial v x.ctype x.kind) (some_is e.0 d (sym there ∙ h)) (a i e.0 e.1)

  pub expression_initial : (s t : State) → Extends v s t → AreInitial v s.names → AreInitial v t.names
  expression_initial s t g a = λ i d h. added_initial s t g a i d h (g.added i d h)

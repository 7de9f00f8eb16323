-- A write of a scalar that stands in a field is one of its word: the field has the new code, and those beside it are as before.
use Rattle.std.proofs.Common.{◌≡◌, ◌<◌, ◌≤◌, ◌+◌, ◌*◌, ◌^◌, ◌⊎◌, inl, inr, ℕ, pos, List, Some, ap, sym, ◌∙◌, subst}
use Rattle.cc_program.specs.declared.value.Value.{Value}
use Rattle.cc_program.specs.declared.value.Value.TheVariants.{Int}
use Rattle.cc_rewrite_fields.specs.Field.{field, put}
use Rattle.cc_rewrite_fields.proofs.FieldLemmas.{field_put, field_below, field_above, put_below, field_alone}
use Rattle.cc_steps.specs.CcCells.Cells.{scalar_in, with_scalar}
use Rattle.cc_rewrite_homes.specs.Homes.{Field, Home, Whole, Packed, Fixed, HoldsWord, Beside, Apart, IsOff, AtHome, Statics, AreHomes}
use Rattle.cc_rewrite_homes.proofs.ScalarLemmas.{both_or_not, written_there, written_read, written_elsewhere}

same_number : (m n : ℕ) → Int (pos m) ≡ Int (pos n) → m ≡ n
same_number m n h = cc

-- one scalar holds one word
pub one_word : (qs : List (List Value)) (f g : Field) (m n : ℕ) → f.object ≡ g.object → f.position ≡ g.position → HoldsWord qs f m → HoldsWord qs g n → n ≡ m
one_word qs f g m n e k h j = let a = h.there in let b = j.there in cc

-- a field, of which the code is known, whatever else the word holds
abbrev filled : ℕ → Field → ℕ → Value
filled word f c = Int (pos (put word f.shift f.width c))

module _ (qs : List (List Value)) (f : Field) (word c : ℕ) (within : f.shift + f.width ≤ f.bits) (holds : HoldsWord qs f word) (code : c < 2 ^ f.width) where
  abbrev after : List (List Value)
  after = with_scalar qs f.object f.position (filled word f c)

  pub holds_filled : HoldsWord after f (put word f.shift f.width c)
  holds_filled = record {
    there = written_there qs f.object f.position (filled word f c) (Int (pos word)) holds.there;
    small = put_below word f.bits f.shift f.width c within holds.small code;
  }

  field_kept : (g : Field) → Beside f g → field (put word f.shift f.width c) g.shift g.width ≡ field word g.shift g.width
  field_kept g (inl h) = field_above word f.shift f.width c g.shift g.width code h
  field_kept g (inr h) = field_below word f.shift f.width c g.shift g.width h

  -- a field beside it in the same word
  neighbour : (g : Field) (dec : ℕ → Value) (v : Value) (m : ℕ) → f.object ≡ g.object → f.position ≡ g.position → f.bits ≡ g.bits → Beside f g →
      HoldsWord qs g m → dec (field m g.shift g.width) ≡ v → AtHome (Packed g) dec after v
  neighbour g dec v m e k d beside h j =
      let same : m ≡ word = one_word qs f g word m e k holds h in (
        put word f.shift f.width c,
        record {
          there = ap (λ n. scalar_in after n g.position) (sym e) ∙ ap (λ n. scalar_in after f.object n) (sym k) ∙ holds_filled.there;
          small = subst (λ (n : ℕ). put word f.shift f.width c < 2 ^ n) d holds_filled.small;
        },
        ap dec (field_kept g beside) ∙ ap (λ n. dec (field n g.shift g.width)) (sym same) ∙ j,
      )

  packed_kept : (g : Field) (dec : ℕ → Value) (v : Value) → Apart (Packed f) (Packed g) → AtHome (Packed g) dec qs v →
      ((f.object ≡ g.object) × (f.position ≡ g.position)) ⊎ (f.object ≡ g.object → f.position ≡ g.position → ⊥) → AtHome (Packed g) dec after v
  packed_kept g dec v apart h (inl same) =
      let a = apart same.0 same.1 in neighbour g dec v h.0 same.0 same.1 a.0 a.1 h.1 h.2
  packed_kept g dec v apart h (inr other) = (
    h.0,
    record { there = written_elsewhere qs f.object f.position (filled word f c) g.object g.position other ∙ h.1.there; small = h.1.small },
    h.2,
  )

  pub others_kept : (other : Home) (dec : ℕ → Value) (v : Value) → Apart (Packed f) other → AtHome other dec qs v → AtHome other dec after v
  others_kept (Whole j l) dec v apart h = written_elsewhere qs f.object f.position (filled word f c) j l apart ∙ h
  others_kept (Packed g) dec v apart h = packed_kept g dec v apart h (both_or_not f.object g.object f.position g.position)
  others_kept (Fixed u) dec v apart h = h

-- ---- a scalar that nothing else shares: a whole one, or a word of one field

off_kept : (qs : List (List Value)) (object position : ℕ) (x : Value) (other : Home) (dec : ℕ → Value) (v : Value) → IsOff object position other → AtHome other dec qs v → AtHome other dec (with_scalar qs object position x) v
off_kept qs object position x (Whole j l) dec v off h = written_elsewhere qs object position x j l off ∙ h
off_kept qs object position x (Packed g) dec v off h =
    (h.0, record { there = written_elsewhere qs object position x g.object g.position off ∙ h.1.there; small = h.1.small }, h.2)
off_kept qs object position x (Fixed u) dec v off h = h

module _ (home : ℕ → ℕ → Home) (decode : ℕ → ℕ → ℕ → Value) (homes : AreHomes home) where
  module _ (qs ps : List (List Value)) (i k : ℕ) (f : Field) (word c : ℕ) (v : Value) (at : home i k ≡ Packed f) (holds : HoldsWord qs f word) (code : c < 2 ^ f.width) (coded : decode i k c ≡ v) (statics : Statics home decode qs ps) where
    abbrev new : List (List Value)
    new = with_scalar qs f.object f.position (filled word f c)

    written_at : (u : Value) → u ≡ v → AtHome (home i k) (decode i k) new u
    written_at u h =
        subst (λ (x : Home). AtHome x (decode i k) new u) (sym at)
        (put word f.shift f.width c, holds_filled qs f word c (homes.fits i k f at) holds code, ap (decode i k) (field_put word f.shift f.width c code) ∙ coded ∙ sym h)

    written_by : (j l : ℕ) (u : Value) → scalar_in (with_scalar ps i k v) j l ≡ Some u → ((i ≡ j) × (k ≡ l)) ⊎ (i ≡ j → k ≡ l → ⊥) → AtHome (home j l) (decode j l) new u
    written_by j l u h (inl same) =
        subst (λ (n : ℕ). AtHome (home n l) (decode n l) new u) same.0
        (subst (λ (n : ℕ). AtHome (home i n) (decode i n) new u) same.1
        (written_at u (written_read ps i k v u (ap (λ n. scalar_in (with_scalar ps i k v) n k) same.0 ∙ ap (λ n. scalar_in (with_scalar ps i k v) j n) same.1 ∙ h))))
    written_by j l u h (inr other) =
        others_kept qs f word c (homes.fits i k f at) holds code (home j l) (decode j l) u (subst (λ (x : Home). Apart x (home j l)) at (homes.apart i k j l other))
        (statics j l u (sym (written_elsewhere ps i k v j l other) ∙ h))

    -- the write of a slot, and that of its word
    pub packed_write : Statics home decode new (with_scalar ps i k v)
    packed_write j l u h = written_by j l u h (both_or_not i j k l)

  module _ (qs ps : List (List Value)) (object position : ℕ) (x : Value) (i k : ℕ) (v : Value) (statics : Statics home decode qs ps)
      (others : (j l : ℕ) → (i ≡ j → k ≡ l → ⊥) → IsOff object position (home j l)) (there : AtHome (home i k) (decode i k) (with_scalar qs object position x) v)
    where
      whole_by : (j l : ℕ) (u : Value) → scalar_in (with_scalar ps i k v) j l ≡ Some u → ((i ≡ j) × (k ≡ l)) ⊎ (i ≡ j → k ≡ l → ⊥) → AtHome (home j l) (decode j l) (with_scalar qs object position x) u
      whole_by j l u h (inl same) =
          let e : u ≡ v = written_read ps i k v u (ap (λ n. scalar_in (with_scalar ps i k v) n k) same.0 ∙ ap (λ n. scalar_in (with_scalar ps i k v) j n) same.1 ∙ h) in
          subst (λ (n : ℕ). AtHome (home n l) (decode n l) (with_scalar qs object position x) u) same.0
          (subst (λ (n : ℕ). AtHome (home i n) (decode i n) (with_scalar qs object position x) u) same.1
          (subst (λ (w : Value). AtHome (home i k) (decode i k) (with_scalar qs object position x) w) (sym e) there))
      whole_by j l u h (inr other) = off_kept qs object position x (home j l) (decode j l) u (others j l other) (statics j l u (sym (written_elsewhere ps i k v j l other) ∙ h))

      -- the write of both
      pub whole_write : Statics home decode (with_scalar qs object position x) (with_scalar ps i k v)
      whole_write j l u h = whole_by j l u h (both_or_not i j k l)

  off_by : (j l : ℕ) (h : Home) → Apart (Whole j l) h → IsOff j l h
  off_by j l (Whole m n) a = a
  off_by j l (Packed g) a = a
  off_by j l (Fixed v) a = a

  -- an object that keeps its place
  pub kept_write : (qs ps : List (List Value)) (i k j l : ℕ) (v old : Value) → home i k ≡ Whole j l → scalar_in qs j l ≡ Some old → Statics home decode qs ps → Statics home decode (with_scalar qs j l v) (with_scalar ps i k v)
  kept_write qs ps i k j l v old at exists statics =
      whole_write qs ps j l v i k v statics (λ m n other. off_by j l (home m n) (subst (λ (x : Home). Apart x (home m n)) at (homes.apart i k m n other)))
      (subst (λ (x : Home). AtHome x (decode i k) (with_scalar qs j l v) v) (sym at) (written_there qs j l v old exists))

  -- a field that is alone in its word: the word is its code, shifted
  pub alone_write : (qs ps : List (List Value)) (i k : ℕ) (f : Field) (word c : ℕ) (v : Value) → home i k ≡ Packed f → HoldsWord qs f word → c < 2 ^ f.width → c * 2 ^ f.shift < 2 ^ f.bits → decode i k c ≡ v →
      ((m n : ℕ) → (i ≡ m → k ≡ n → ⊥) → IsOff f.object f.position (home m n)) → Statics home decode qs ps →
      Statics home decode (with_scalar qs f.object f.position (Int (pos (c * 2 ^ f.shift)))) (with_scalar ps i k v)
  alone_write qs ps i k f word c v at holds small fits coded others statics =
      whole_write qs ps f.object f.position (Int (pos (c * 2 ^ f.shift))) i k v statics others
      (subst (λ (x : Home). AtHome x (decode i k) (with_scalar qs f.object f.position (Int (pos (c * 2 ^ f.shift)))) v) (sym at)
      (c * 2 ^ f.shift, record { there = written_there qs f.object f.position (Int (pos (c * 2 ^ f.shift))) (Int (pos word)) holds.there; small = fits }, ap (decode i k) (field_alone f.shift f.width c small) ∙ coded))

-- Places that are added one after the other, for a structure and for what types are made of.
use Rattle.std.proofs.Common.{arith, ◌≡◌, ◌≤◌, ◌<◌, ◌+◌, ◌*◌, ◌^◌, ℕ, Bool, true, false, not, ◌&&◌, ◌||◌, List, length, Some, slice_get, refl, ap, sym, ◌∙◌}
use Rattle.std.specs.Prelude.{slice_set}
use Rattle.std.proofs.Math.Bool.{and_assoc, or_assoc}
use Rattle.std.proofs.Math.Nat.{mul-zero, mul_assoc, mul_comm}
use Rattle.std.proofs.lemmas.List.{length-set}
use Rattle.cc_program.specs.declared.types.CType.{CType}
use Rattle.cc_program.specs.declared.types.Shape.{Shape, out-Shape}
use Rattle.cc_program.specs.declared.types.Shape.TheOpen as shape
use Rattle.cc_program.specs.declared.types.Sig.{Sig}
use Rattle.cc_slots_structures.specs.declared.standing.Standing.{Standing}
use Rattle.cc_slots_structures.specs.Added.{AreAdded, copies_through, stands_automatic, stands_open, stands_through}
use Rattle.cc_slots_structures.specs.Copies.{capped, copies_at, copies_in, copies_step}
use Rattle.cc_slots_structures.specs.Stands.{stands_at, stands_in, stands_step}
use Rattle.cc_slots_structures.proofs.Capped.{capped-capped, capped-sum, capped-times}
use Rattle.cc_slots_structures.proofs.CopyLemmas.{copies-opens, parts}
use Rattle.cc_slots_structures.proofs.StandLemmas.{stands-opens, stand_parts}
use Rattle.cc_slots_structures.proofs.Through.{copies_set, none_at, not_at, other_kept, stands_set, still_counted}

or_false : (b : Bool) → b ≡ (b || false)
or_false true = refl
or_false false = refl

and_false : (b : Bool) → (b && false) ≡ false
and_false true = refl
and_false false = refl

low_counted : (n m : ℕ) → n ≡ capped m → n < 2 ^ 32
low_counted n m h = omega (arith, h)

times_zero : (n m : ℕ) → m ≡ 0 → n * m ≡ 0
times_zero n m h = ap (λ k. n * k) h ∙ mul-zero n

-- ---- one after the other

pub none_added : (first : ℕ) (old new : List Standing) (more : List ℕ → ℕ) (more_open more_automatic : List Bool → Bool) → new ≡ old → ((counts : List ℕ) → length counts ≡ first → more counts ≡ 0) →
    ((there : List Bool) → length there ≡ first → more_open there ≡ false) → ((there : List Bool) → length there ≡ first → more_automatic there ≡ false) → AreAdded first more more_open more_automatic old new
none_added first old new more more_open more_automatic e no_more no_open no_automatic = record {
  count = ap length e;
  counted = λ h s place there. h s place (sym (ap (λ l. slice_get l s) e) ∙ there);
  copies = λ counts same. ap capped (ap (λ l. copies_through l counts) e ∙ (let none = no_more counts same in omega (arith, none)));
  is_open = λ there same. ap (λ l. stands_through stands_open l there) e ∙ (or_false (stands_through stands_open old there) ∙ ap (λ b. stands_through stands_open old there || b) (sym (no_open there same)));
  is_automatic = λ there same. ap (λ l. stands_through stands_automatic l there) e ∙ (or_false (stands_through stands_automatic old there) ∙ ap (λ b. stands_through stands_automatic old there || b) (sym (no_automatic there same)));
  kept = λ s le. ap (λ l. slice_get l s) e;
}

module _ (first : ℕ) (old new : List Standing) (a b : List ℕ → ℕ) (o p q r : List Bool → Bool) where
  -- the same, said otherwise
  pub added_as : AreAdded first a o q old new → ((counts : List ℕ) → capped (a counts) ≡ capped (b counts)) → ((there : List Bool) → o there ≡ p there) → ((there : List Bool) → q there ≡ r there) → AreAdded first b p r old new
  added_as h same same_open same_automatic = record {
    count = h.count;
    counted = h.counted;
    copies = λ counts e. h.copies counts e ∙ capped-sum (copies_through old counts) (a counts) (copies_through old counts) (b counts) refl (same counts);
    is_open = λ there e. h.is_open there e ∙ ap (λ x. stands_through stands_open old there || x) (same_open there);
    is_automatic = λ there e. h.is_automatic there e ∙ ap (λ x. stands_through stands_automatic old there || x) (same_automatic there);
    kept = h.kept;
  }

  pub added_both : (mid : List Standing) → AreAdded first a o q old mid → AreAdded first b p r mid new → AreAdded first (λ counts. a counts + b counts) (λ there. o there || p there) (λ there. q there || r there) old new
  added_both mid h k = record {
    count = k.count ∙ h.count;
    counted = λ c. k.counted (h.counted c);
    copies = λ counts e.
        k.copies counts e
        ∙ (capped-sum (copies_through mid counts) (b counts) (copies_through old counts + a counts) (b counts) (h.copies counts e) refl
        ∙ ap capped (let s : copies_through old counts + a counts + b counts ≡ copies_through old counts + (a counts + b counts) = omega arith in s));
    is_open = λ there e. k.is_open there e ∙ (ap (λ x. x || p there) (h.is_open there e) ∙ or_assoc (stands_through stands_open old there) (o there) (p there));
    is_automatic = λ there e. k.is_automatic there e ∙ (ap (λ x. x || r there) (h.is_automatic there e) ∙ or_assoc (stands_through stands_automatic old there) (q there) (r there));
    kept = λ s le. k.kept s le ∙ h.kept s le;
  }

-- ---- for one structure

module _ (first s : ℕ) (place : Standing) (old new : List Standing) where
  abbrev ForStructure : Type 0
  ForStructure = AreAdded first (λ counts. place.copies * copies_at counts s) (λ there. place.is_open && stands_at there s) (λ there. place.is_automatic && stands_at there s) old new

  pub structure_added : (x y : Standing) → s < first → slice_get old s ≡ Some x → new ≡ slice_set old s y → y.copies ≡ capped (x.copies + place.copies) → y.is_open ≡ (x.is_open || place.is_open) →
      y.is_automatic ≡ (x.is_automatic || place.is_automatic) → ForStructure
  structure_added x y lt there e more more_open more_automatic = record {
    count = ap length e ∙ length-set old s y;
    counted = λ h n it at. still_counted old s y h (low_counted y.copies (x.copies + place.copies) more) n it (sym (ap (λ l. slice_get l n) e) ∙ at);
    copies = λ counts same.
        ap (λ l. capped (copies_through l counts)) e
        ∙ copies_set old s x y place.copies counts there (ap capped more ∙ capped-capped (x.copies + place.copies)) (omega (arith, lt, same));
    is_open = λ stands same. ap (λ l. stands_through stands_open l stands) e ∙ stands_set stands_open old s x y place.is_open stands there more_open (omega (arith, lt, same));
    is_automatic = λ stands same. ap (λ l. stands_through stands_automatic l stands) e ∙ stands_set stands_automatic old s x y place.is_automatic stands there more_automatic (omega (arith, lt, same));
    kept = λ n le. ap (λ l. slice_get l n) e ∙ other_kept old s n y (omega (arith, lt, le));
  }

  -- one that is none of the first
  pub other_added : first ≤ s → new ≡ old → ForStructure
  other_added le e =
      none_added first old new (λ counts. place.copies * copies_at counts s) (λ there. place.is_open && stands_at there s) (λ there. place.is_automatic && stands_at there s) e
      (λ counts same. times_zero place.copies (copies_at counts s) (none_at counts s (omega (arith, same, le))))
      (λ there same. ap (λ b. place.is_open && b) (not_at there s (omega (arith, same, le))) ∙ and_false place.is_open)
      (λ there same. ap (λ b. place.is_automatic && b) (not_at there s (omega (arith, same, le))) ∙ and_false place.is_automatic)

-- ---- for a type

module _ (first : ℕ) (t : CType) (place here : Standing) (copied : here.copies ≡ place.copies) (opened : here.is_open ≡ (place.is_open && not t.constant)) (automatic : here.is_automatic ≡ place.is_automatic) (old new : List Standing) where
  abbrev pub ForType : Type 0
  ForType = AreAdded first (λ counts. place.copies * copies_in counts t) (λ there. place.is_open && stands_in false there t) (λ there. place.is_automatic && stands_in true there t) old new

  abbrev ForParts : (List ℕ → ℕ) → (List Bool → Bool) → (List Bool → Bool) → Type 0
  ForParts in_counts in_open in_automatic = AreAdded first (λ counts. here.copies * in_counts counts) (λ there. here.is_open && in_open there) (λ there. here.is_automatic && in_automatic there) old new

  -- by what its shape is made of
  by_parts : (in_counts : List ℕ → ℕ) (in_open in_automatic : List Bool → Bool) → ((counts : List ℕ) → copies_in counts t ≡ in_counts counts) → ((there : List Bool) → stands_in false there t ≡ (not t.constant && in_open there)) →
      ((there : List Bool) → stands_in true there t ≡ in_automatic there) → ForParts in_counts in_open in_automatic → ForType
  by_parts in_counts in_open in_automatic counted opens autos h =
      added_as first old new (λ counts. here.copies * in_counts counts) (λ counts. place.copies * copies_in counts t) (λ there. here.is_open && in_open there) (λ there. place.is_open && stands_in false there t)
      (λ there. here.is_automatic && in_automatic there) (λ there. place.is_automatic && stands_in true there t) h
      (λ counts. ap capped (ap (λ n. n * in_counts counts) copied ∙ ap (λ n. place.copies * n) (sym (counted counts))))
      (λ there. ap (λ b. b && in_open there) opened ∙ (and_assoc place.is_open (not t.constant) (in_open there) ∙ ap (λ b. place.is_open && b) (sym (opens there))))
      (λ there. ap (λ b. b && in_automatic there) automatic ∙ ap (λ b. place.is_automatic && b) (sym (autos there)))

  module _ (x : shape.Shape-F Shape CType Sig) (is : out-Shape t.shape ≡ x) where
    abbrev Parts : Type 0
    Parts = ForParts (λ counts. copies_step counts (parts counts x)) (λ there. stands_step there (stand_parts false there x)) (λ there. stands_step there (stand_parts true there x))

    of_shape : Parts → ForType
    of_shape h =
        by_parts (λ counts. copies_step counts (parts counts x)) (λ there. stands_step there (stand_parts false there x)) (λ there. stands_step there (stand_parts true there x))
        (λ counts. copies-opens counts t ∙ ap (λ y. copies_step counts (parts counts y)) is)
        (λ there. stands-opens false there t ∙ ap (λ y. not t.constant && stands_step there (stand_parts false there y)) is)
        (λ there. stands-opens true there t ∙ ap (λ y. stands_step there (stand_parts true there y)) is) h

    -- in which no structure stands
    pub nothing_added : ((counts : List ℕ) → copies_step counts (parts counts x) ≡ 0) → ((in_const : Bool) (there : List Bool) → stands_step there (stand_parts in_const there x) ≡ false) → new ≡ old → ForType
    nothing_added no_copies not_there e =
        of_shape (none_added first old new (λ counts. here.copies * copies_step counts (parts counts x)) (λ there. here.is_open && stands_step there (stand_parts false there x)) (λ there. here.is_automatic && stands_step there (stand_parts true there x)) e
        (λ counts same. times_zero here.copies (copies_step counts (parts counts x)) (no_copies counts))
        (λ there same. ap (λ b. here.is_open && b) (not_there false there) ∙ and_false here.is_open)
        (λ there same. ap (λ b. here.is_automatic && b) (not_there true there) ∙ and_false here.is_automatic))

  pub struct_added : (s : ℕ) → out-Shape t.shape ≡ shape.Struct s → AreAdded first (λ counts. here.copies * copies_at counts s) (λ there. here.is_open && stands_at there s) (λ there. here.is_automatic && stands_at there s) old new → ForType
  struct_added s is h = of_shape (shape.Struct s) is h

  -- each element of an array
  pub array_added : (of : CType) (n : ℕ) (each : Standing) → out-Shape t.shape ≡ shape.Array of n → each.copies ≡ capped (here.copies * n) → each.is_open ≡ here.is_open → each.is_automatic ≡ here.is_automatic →
      AreAdded first (λ counts. each.copies * copies_in counts of) (λ there. each.is_open && stands_in false there of) (λ there. each.is_automatic && stands_in true there of) old new → ForType
  array_added of n each is counted opens autos h =
      of_shape (shape.Array of n) is
      (added_as first old new (λ counts. each.copies * copies_in counts of) (λ counts. here.copies * (copies_in counts of * n)) (λ there. each.is_open && stands_in false there of) (λ there. here.is_open && stands_in false there of)
      (λ there. each.is_automatic && stands_in true there of) (λ there. here.is_automatic && stands_in true there of) h
      (λ counts.
      capped-times each.copies (here.copies * n) (copies_in counts of) (ap capped counted ∙ capped-capped (here.copies * n))
      ∙ ap capped (mul_assoc here.copies n (copies_in counts of) ∙ ap (λ m. here.copies * m) (mul_comm n (copies_in counts of))))
      (λ there. ap (λ b. b && stands_in false there of) opens)
      (λ there. ap (λ b. b && stands_in true there of) autos))

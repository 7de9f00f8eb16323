-- The words that save and their fields, as far as a loop over the opened words has come.
use Rattle.std.proofs.Common.{◌≡◌, ◌≤◌, ◌<◌, ◌+◌, ◌++◌, ℕ, suc, Bool, true, false, cond, List, [], ◌∷◌, length, get_or, take, take_all, filter, map, refl, ap, sym, ◌∙◌, arith, append_assoc}
use Rattle.std.proofs.lemmas.List.{append-nil, map-append, length-map, length-take-le}
use Rattle.std.proofs.lemmas.List.Elements.{filter_more}
use Rattle.std.proofs.lemmas.List.Sums.{length-filter, count_by-le-length}
use Rattle.cc_bins.specs.declared.types.Word.{Word}
use Rattle.cc_bins.specs.declared.types.Field.{Field}
use Rattle.cc_bins.specs.declared.types.Bins.{Bins}
use Rattle.cc_bins.specs.declared.open_words.Open.{Open}
use Rattle.cc_bins.specs.Placing.{saves, word_of, field_of, fields_from, bins_of}

-- the fields of one word more
fields-push : (n : ℕ) (ws : List Open) (w : Open) → fields_from n (ws ++ w ∷ []) ≡ fields_from n ws ++ map (field_of (n + length ws)) w.slots
fields-push n [] w = append-nil (map (field_of n) w.slots) ∙ (let e : n ≡ n + 0 = omega arith in ap (λ k. map (field_of k) w.slots) e)
fields-push n (v ∷ ws) w =
    let e : n + 1 + length ws ≡ n + suc (length ws) = omega arith in
    ap (λ (fs : List Field). map (field_of n) v.slots ++ fs) (fields-push (n + 1) ws w ∙ ap (λ k. fields_from (n + 1) ws ++ map (field_of k) w.slots) e)
    ∙ sym (append_assoc (map (field_of n) v.slots) (fields_from (n + 1) ws) (map (field_of (n + suc (length ws))) w.slots))

pub record Kept (all : List Open) (i : ℕ) (words : List Word) (fields : List Field) : Type 0 where
  pub words_are : words ≡ map word_of (filter saves (take i all))
  pub fields_are : fields ≡ fields_from 0 (filter saves (take i all))

pub kept_none : (all : List Open) → Kept all 0 [] []
kept_none all = record { words_are = refl; fields_are = refl }

module _ (all : List Open) (i : ℕ) (words : List Word) (fields : List Field) (h : Kept all i words fields) where
  before : List Open
  before = filter saves (take i all)

  long : length words ≡ length (filter saves (take i all))
  long = ap length h.words_are ∙ length-map (filter saves (take i all)) word_of

  pub kept_small : i < length all → length words ≤ i
  kept_small l =
      let a = length-filter saves (take i all) in
      let b = count_by-le-length saves (take i all) in
      let c = length-take-le i all (omega arith) in
      omega (arith, long, a, b, c)

  module _ (w : Open) (l : i < length all) (e : w ≡ get_or all i w) where
    more : (b : Bool) → saves w ≡ b → filter saves (take (i + 1) all) ≡ filter saves (take i all) ++ cond b (w ∷ []) []
    more b t = filter_more saves all i w l ∙ ap (λ (x : Open). filter saves (take i all) ++ cond (saves x) (x ∷ []) []) (sym e) ∙ ap (λ (c : Bool). filter saves (take i all) ++ cond c (w ∷ []) []) t

    pub kept_no : saves w ≡ false → Kept all (i + 1) words fields
    kept_no t =
        let m = more false t ∙ append-nil (filter saves (take i all)) in
        record { words_are = h.words_are ∙ ap (map word_of) (sym m); fields_are = h.fields_are ∙ ap (fields_from 0) (sym m) }

    pub kept_yes : saves w ≡ true → (ws : List Word) → ws ≡ words ++ word_of w ∷ [] → (fs : List Field) → fs ≡ fields ++ map (field_of (length words)) w.slots → Kept all (i + 1) ws fs
    kept_yes t ws p fs q =
        let m = more true t in
        let n : length words ≡ 0 + length (filter saves (take i all)) = omega (arith, long) in
        record {
          words_are = p ∙ ap (λ (us : List Word). us ++ word_of w ∷ []) h.words_are ∙ sym (map-append word_of (filter saves (take i all)) (w ∷ [])) ∙ ap (map word_of) (sym m);
          fields_are =
              q ∙ ap (λ (us : List Field). us ++ map (field_of (length words)) w.slots) h.fields_are
              ∙ ap (λ k. fields_from 0 (filter saves (take i all)) ++ map (field_of k) w.slots) n ∙ sym (fields-push 0 (filter saves (take i all)) w) ∙ ap (fields_from 0) (sym m);
        }

  pub kept_all : length all ≤ i → (bins : Bins) → bins ≡ record { words = words; fields = fields } → bins ≡ bins_of all
  kept_all l bins b =
      let t = ap (filter saves) (take_all i all l) in
      let p = h.words_are ∙ ap (map word_of) t in
      let q = h.fields_are ∙ ap (fields_from 0) t in
      b ∙ ap (λ (ws : List Word). record { words = ws; fields = fields }) p ∙ ap (λ (fs : List Field). record { words = map word_of (filter saves all); fields = fs }) q

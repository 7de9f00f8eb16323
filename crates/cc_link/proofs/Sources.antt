-- The ids of what sources name, one source more at a time.
use Rattle.std.proofs.Common.{◌≡◌, ◌∙◌, ◌+◌, ◌<◌, ◌≤◌, ℕ, zero, suc, List, [], ◌∷◌, ◌++◌, length, get_or, take, drop, map, refl, ap, sym, arith, append_assoc, drop-cons}
use Rattle.std.proofs.Math.Seq.{drop-append_seam, take-append_seam}
use Rattle.std.proofs.lemmas.List.{append-nil, map-append, length-map, take-map, drop-map}
use Rattle.cc_link.specs.Kept.{id_or_none}
use Rattle.std.proofs.Math.Path.{fun_ext}
use Rattle.cc_link.specs.Linked.{id_at, id_of_mention, ids_from}
use Rattle.cc_structures.specs.Structures.{Numbering, numbers_of}
use Rattle.cc_things.specs.Mentions.{Mention, mentions, mentions_in, mentions_of, mentions_from}
use Rattle.cc_things.specs.Things.{identities, number_in, numbers_in, things}
use Rattle.cc_things.specs.declared.text.Text.{Text}
use Rattle.cc_unit.specs.Mentioned.{mentioned}
use Rattle.cc_unit.specs.declared.ids.Id.{Id}
use Rattle.cc_unit.specs.declared.ids.Ids.{Ids}
use Rattle.cc_unit.specs.declared.unit.UnitName.{UnitName}

drop_end : {X : Type 0} (xs : List X) (i : ℕ) → length xs ≤ i → drop i xs ≡ []
drop_end [] zero h = refl
drop_end [] (suc i) h = refl
drop_end (x ∷ xs) zero h = absurd (omega (arith, h))
drop_end (x ∷ xs) (suc i) h = drop_end xs i (omega (arith, h))

length_in : (text : ℕ) (numbers : List ℕ) (i : ℕ) (ns : List UnitName) → length (mentions_in text numbers i ns) ≡ length ns
length_in text numbers i [] = refl
length_in text numbers i (n ∷ ns) = ap suc (length_in text numbers (suc i) ns)

module _ (id_of : Mention → Id) (numbering : Numbering) (table : List Id) (texts : List Text) where
  abbrev at : ℕ → Id
  at k = id_or_none table k

  -- what is done, and what is left
  pub record Done (i : ℕ) (rest : List ℕ) (ids : List Ids) : Type 0 where
    pub left : map (λ k. id_or_none table k) rest ≡ map id_of (mentions_from i (drop i texts))
    pub done : ids_from id_of numbering 0 texts ≡ ids ++ ids_from id_of numbering i (drop i texts)

  pub done_more : (i n : ℕ) (x : Text) (rest behind : List ℕ) (structures : List ℕ) (names : List Id) (before after : List Ids) → i < length texts → x ≡ get_or texts i x →
      n ≡ length x.unit.names → structures ≡ numbers_of numbering i → names ≡ map (λ k. id_or_none table k) (take n rest) → behind ≡ drop n rest →
      after ≡ before ++ record { structures = structures; names = names } ∷ [] → Done i rest before → Done (i + 1) behind after
  done_more i n x rest behind structures names before after h is count numbered named dropped all d =
      let e : suc i ≡ i + 1 = omega arith in
      let more = drop (suc i) texts in
      let next : drop i texts ≡ x ∷ more = drop-cons texts i x h ∙ ap (λ y. y ∷ more) (sym is) in
      let here = mentions_of i x in
      let counted : n ≡ length (map id_of here) = count ∙ sym (length-map here id_of ∙ length_in i (mentioned x.unit.names) 0 x.unit.names) in
      let both : map (λ k. id_or_none table k) rest ≡ map id_of here ++ map id_of (mentions_from (suc i) more) =
      d.left ∙ (ap (λ l. map id_of (mentions_from i l)) next ∙ map-append id_of here (mentions_from (suc i) more)) in
      let named_here : names ≡ map id_of here =
      named ∙ (sym (take-map (λ k. id_or_none table k) n rest) ∙ (ap (take n) both ∙ (ap (λ k. take k (map id_of here ++ map id_of (mentions_from (suc i) more))) counted ∙ take-append_seam (map id_of here) (map id_of (mentions_from (suc i) more))))) in
      record {
        left =
            ap (map (λ k. id_or_none table k)) dropped
            ∙ (sym (drop-map (λ k. id_or_none table k) n rest) ∙ (ap (drop n) both ∙ (ap (λ k. drop k (map id_of here ++ map id_of (mentions_from (suc i) more))) counted
            ∙ (drop-append_seam (map id_of here) (map id_of (mentions_from (suc i) more)) ∙ ap (λ k. map id_of (mentions_from k (drop k texts))) e))));
        done =
            d.done
            ∙ (ap (λ l. before ++ ids_from id_of numbering i l) next
            ∙ (ap (λ s. before ++ (record { structures = s; names = map id_of here } ∷ ids_from id_of numbering (suc i) more)) (sym numbered)
            ∙ (ap (λ ns. before ++ (record { structures = structures; names = ns } ∷ ids_from id_of numbering (suc i) more)) (sym named_here)
            ∙ (sym (append_assoc before (record { structures = structures; names = names } ∷ []) (ids_from id_of numbering (suc i) more))
            ∙ (ap (λ l. l ++ ids_from id_of numbering (suc i) more) (sym all)
            ∙ ap (λ k. after ++ ids_from id_of numbering k (drop k texts)) e)))));
      }

  pub done_end : (i : ℕ) (rest : List ℕ) (ids : List Ids) → length texts ≤ i → Done i rest ids → ids ≡ ids_from id_of numbering 0 texts
  done_end i rest ids h d = sym (d.done ∙ (ap (λ l. ids ++ ids_from id_of numbering i l) (drop_end texts i h) ∙ append-nil ids))

-- ---- the ids of what is mentioned

map_twice : {X Y Z : Type 0} (f : X → Y) (g : Y → Z) (xs : List X) → map g (map f xs) ≡ map (λ x. g (f x)) xs
map_twice f g [] = refl
map_twice f g (x ∷ xs) = ap (λ l. g (f x) ∷ l) (map_twice f g xs)

pub mentions_told : (texts : List Text) (table : List Id) (numbers : List ℕ) → ((k : ℕ) → id_or_none table k ≡ id_at (things texts) k) → numbers ≡ numbers_in (mentions texts) →
    map (λ k. id_or_none table k) numbers ≡ map (id_of_mention texts) (mentions_from 0 texts)
unfolding numbers_in mentions
mentions_told texts table numbers told is =
    ap (map (λ k. id_or_none table k)) is
    ∙ (ap (λ f. map f (numbers_in (mentions texts))) (fun_ext told)
    ∙ map_twice (number_in (identities (mentions texts))) (id_at (things texts)) (mentions texts))

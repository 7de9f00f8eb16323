-- Splitting classes, round by round: what another closed numbering gives one number stays in one class, and when no class is split
-- any more, two of one class have parts of one class each.
use Rattle.std.proofs.Common.{◌≡◌, ◌∙◌, ◌⊎◌, inl, inr, ◌+◌, ◌-◌, ◌<◌, ◌≤◌, max, ℕ, suc, Bool, true, false, true≢false, List, [], ◌∷◌, Vec, length, map, refl, ap, sym, subst, arith}
use Rattle.std.specs.declared.alloc.Global.{Global}
use Rattle.std.proofs.lemmas.Slice.Eq.{bytes_eq-Decides}
use Rattle.cc_structures.specs.Classes.{class_numbers, distinct, same_list}
use Rattle.cc_structures.specs.Looks.{node_of, parts_of}
use Rattle.cc_structures.specs.Refined.{by_source, node_key, part_numbers, AreInOrder, greatest, IsCounted, IsSplit, Refines, IsClosed, IsCoarsest}
use Rattle.cc_structures.specs.Structures.{Known, Numbering, structures, number_at, number_of, Fits, AreAboveZero}
use Rattle.cc_structures.specs.View.{lists_of, node_view, nodes_of}
use Rattle.cc_structures.specs.declared.nodes.Node.{Node as NodeOf}
use Rattle.cc_structures.proofs.ClassLemmas.{AreClasses, classes-are}
use Rattle.cc_structures.proofs.Elements.{In, in-of, contains-of, map-both, length-map_of}
use Rattle.cc_structures.proofs.Growth.{length-numbers, in_order-numbers, greatest-numbers, same-numbers}
use Rattle.cc_structures.proofs.SourceLemmas.{numbers-are, fits-by_source, IsThere, HasNone, there}
use Rattle.cc_unit.specs.declared.unit.TypedUnit.{TypedUnit}

abbrev pub Key : Type 0
Key = Vec ℕ Global

pub list-sound : (a b : Key) → same_list a b ≡ true → a.items ≡ b.items
list-sound a b h = (bytes_eq-Decides a.items b.items).0 h

pub list-complete : (a b : Key) → a.items ≡ b.items → same_list a b ≡ true
list-complete a b e = (bytes_eq-Decides a.items b.items).1 e

-- what keys begin with
abbrev head_of : List ℕ → ℕ
head_of [] = 0
head_of (n ∷ ns) = n

abbrev head : Key → ℕ
head k = head_of k.items

head-same : (a b : Key) → same_list a b ≡ true → head a ≡ head b
head-same a b h = ap head_of (list-sound a b h)

cons-parts : (a b : ℕ) (fs bs : List ℕ) → a ∷ fs ≡ b ∷ bs → (a ≡ b) × (fs ≡ bs)
cons-parts a b fs bs e = (cc e, cc e)

pub greatest-low : (m : ℕ) (ns : List ℕ) → AreInOrder m ns → greatest m ns ≤ m + length ns
greatest-low m [] h = omega arith
greatest-low m (n ∷ ns) h =
    let step = h.1.0 in
    let rest = greatest-low (max m n) ns h.1.1 in
    let low : max m n ≤ suc m = omega (arith, step) in
    omega (arith, rest, low)

module _ (units : List TypedUnit) where
  abbrev all : List Known
  all = structures units

  -- ---- parts of structures

  -- one number for two positions goes over to a coarser numbering
  part-refined : (fine coarse : Numbering) → Fits units fine → Fits units coarse → AreAboveZero units fine → Refines units fine coarse →
      (t i u j : ℕ) → number_at fine t i ≡ number_at fine u j → number_at coarse t i ≡ number_at coarse u j
  part-refined fine coarse fits fits_coarse above refines t i u j e = by (there units t i) (there units u j)
    where
      at : (numbering : Numbering) (s : Known) (a b : ℕ) → s.text ≡ a → s.position ≡ b → number_of numbering s ≡ number_at numbering a b
      at numbering s a b ha hb = ap (λ x. number_at numbering x s.position) ha ∙ ap (λ y. number_at numbering a y) hb

      some : (s : Known) (a b : ℕ) → In s all → s.text ≡ a → s.position ≡ b → number_at fine a b ≡ 0 → ⊥
      some s a b h ha hb z =
          let positive = above s (contains-of all s h) in
          let same = at fine s a b ha hb in
          omega (arith, positive, same, z)

      by : IsThere all t i ⊎ HasNone units t i → IsThere all u j ⊎ HasNone units u j → number_at coarse t i ≡ number_at coarse u j
      by (inl s) (inl v) =
          sym (at coarse s.0 t i s.1.1.0 s.1.1.1)
          ∙ (refines s.0 v.0 (contains-of all s.0 s.1.0) (contains-of all v.0 v.1.0) (at fine s.0 t i s.1.1.0 s.1.1.1 ∙ (e ∙ sym (at fine v.0 u j v.1.1.0 v.1.1.1)))
          ∙ at coarse v.0 u j v.1.1.0 v.1.1.1)
      by (inl s) (inr never) = absurd (some s.0 t i s.1.0 s.1.1.0 s.1.1.1 (e ∙ never fine fits))
      by (inr never) (inl v) = absurd (some v.0 u j v.1.0 v.1.1.0 v.1.1.1 (sym e ∙ never fine fits))
      by (inr never) (inr none) = never coarse fits_coarse ∙ sym (none coarse fits_coarse)

  pub parts-refined : (fine coarse : Numbering) → Fits units fine → Fits units coarse → AreAboveZero units fine → Refines units fine coarse →
      (t u : ℕ) (is js : List ℕ) → map (number_at fine t) is ≡ map (number_at fine u) js → map (number_at coarse t) is ≡ map (number_at coarse u) js
  parts-refined fine coarse fits fits_coarse above refines t u [] [] e = refl
  parts-refined fine coarse fits fits_coarse above refines t u [] (j ∷ js) e = absurd (nothing (number_at fine u j) (map (number_at fine u) js) e)
    where
      nothing : (n : ℕ) (ns : List ℕ) → [] ≡ n ∷ ns → ⊥
      nothing n ns e = cc e
  parts-refined fine coarse fits fits_coarse above refines t u (i ∷ is) [] e = absurd (nothing (number_at fine t i) (map (number_at fine t) is) e)
    where
      nothing : (n : ℕ) (ns : List ℕ) → n ∷ ns ≡ [] → ⊥
      nothing n ns e = cc e
  parts-refined fine coarse fits fits_coarse above refines t u (i ∷ is) (j ∷ js) e =
      let c = cons-parts (number_at fine t i) (number_at fine u j) (map (number_at fine t) is) (map (number_at fine u) js) e in
      rw (part-refined fine coarse fits fits_coarse above refines t i u j c.0, parts-refined fine coarse fits fits_coarse above refines t u is js c.1) refl

  -- ---- numberings with a count

  module _ (numbering : Numbering) (count : ℕ) (c : IsCounted units numbering count) where
    pub counted-numbers : map (number_of numbering) all ≡ c.numbers
    counted-numbers = ap (λ n. map (number_of n) all) c.sources ∙ numbers-are units c.numbers c.all

    pub counted-fits : Fits units numbering
    counted-fits = subst (Fits units) (sym c.sources) (fits-by_source units c.numbers c.all)

    pub counted-few : count ≤ length all
    counted-few = let low = greatest-low 0 c.numbers c.order in let e = c.classes in let long = c.all in omega (arith, low, e, long)

  -- keys of any kind
  pub counted-classes : {K : Type 0} (eq : K → K → Bool) (ks : List K) (numbering : Numbering) (count : ℕ) → length ks ≡ length all → numbering ≡ by_source units (class_numbers eq ks) → count ≡ length (distinct eq ks) →
      IsCounted units numbering count
  counted-classes eq ks numbering count long sources number = record {
    numbers = class_numbers eq ks;
    sources = sources;
    all = length-numbers eq [] ks ∙ long;
    order = in_order-numbers eq [] ks;
    classes = number ∙ sym (greatest-numbers eq [] ks);
  }

  pub numbers-classes : {K V : Type 0} (eq : K → K → Bool) (v : K → V) → ((x y : K) → eq x y ≡ true → v x ≡ v y) → ((x y : K) → v x ≡ v y → eq x y ≡ true) →
      (ks : List K) (numbering : Numbering) (key : Known → V) → map v ks ≡ map key all → length ks ≡ length all → numbering ≡ by_source units (class_numbers eq ks) → AreClasses all key (number_of numbering)
  numbers-classes eq v sound complete ks numbering key keys long sources =
      classes-are eq v sound complete all key (number_of numbering) ks keys
      (ap (λ n. map (number_of n) all) sources ∙ numbers-are units (class_numbers eq ks) (length-numbers eq [] ks ∙ long))

  -- ---- a round

  abbrev key_in : Numbering → Known → List ℕ
  key_in numbering s = node_key numbering (node_of s)

  abbrev IsSplitOnce : Numbering → Numbering → ℕ → Type 0
  IsSplitOnce numbering next count = IsSplit units (map node_of all) numbering next count

  module _ (numbering next : Numbering) (count : ℕ) (split : IsSplitOnce numbering next count) where
    split-keys : map (λ (k : Key). k.items) split.keys ≡ map (key_in numbering) all
    unfolding lists_of
    split-keys = split.are ∙ map-both node_of (node_key numbering) all

    split-long : length split.keys ≡ length all
    split-long = sym (length-map_of (λ (k : Key). k.items) split.keys) ∙ (ap length split-keys ∙ length-map_of (key_in numbering) all)

    split-classes : AreClasses all (key_in numbering) (number_of next)
    split-classes = numbers-classes same_list (λ (k : Key). k.items) list-sound list-complete split.keys next (key_in numbering) split-keys split-long split.sources

    split-counted : IsCounted units next count
    split-counted = counted-classes same_list split.keys next count split-long split.sources split.classes

  -- what holds before each round
  pub record IsRound (start numbering : Numbering) (count : ℕ) : Type 0 where
    pub counted : IsCounted units numbering count
    pub refines : Refines units numbering start
    pub coarsest : (other : Numbering) → Fits units other → AreAboveZero units other → IsClosed units other → Refines units other start → Refines units other numbering

  pub round-first : (start : Numbering) (count : ℕ) → IsCounted units start count → IsRound start start count
  round-first start count c = record { counted = c; refines = λ s t hs ht e. e; coarsest = λ other fits above closed refines. refines }

  pub round-more : (start numbering next : Numbering) (count more : ℕ) → IsRound start numbering count → IsSplitOnce numbering next more → IsRound start next more
  round-more start numbering next count more round split =
      let classes = split-classes numbering next more split in
      record {
        counted = split-counted numbering next more split;
        refines = λ s t hs ht e.
            round.refines s t hs ht (cons-parts (number_of numbering s) (number_of numbering t) (part_numbers numbering s) (part_numbers numbering t) (classes.one s t (in-of all s hs) (in-of all t ht) e)).0;
        coarsest = λ other fits above closed refines s t hs ht e.
            let coarse = round.coarsest other fits above closed refines in
            let parts : part_numbers numbering s ≡ part_numbers numbering t =
            parts-refined other numbering fits (counted-fits numbering count round.counted) above coarse s.text t.text (parts_of s) (parts_of t) (closed s t hs ht e) in
            classes.same s t (in-of all s hs) (in-of all t ht) (ap (λ n. n ∷ part_numbers numbering s) (coarse s t hs ht e) ∙ ap (λ ns. number_of numbering t ∷ ns) parts);
      }

  -- no class was split
  round-same : (start numbering next : Numbering) (count more : ℕ) → IsRound start numbering count → IsSplitOnce numbering next more → more ≤ count → next ≡ numbering
  round-same start numbering next count more round split few =
      let c = round.counted in
      let heads : map head split.keys ≡ c.numbers =
      sym (map-both (λ (k : Key). k.items) head_of split.keys)
      ∙ (ap (map head_of) (split-keys numbering next more split) ∙ (map-both (key_in numbering) head_of all ∙ counted-numbers numbering count c)) in
      let order : AreInOrder 0 (map head split.keys) = subst (AreInOrder 0) (sym heads) c.order in
      let enough : length (distinct same_list split.keys) ≤ greatest 0 (map head split.keys) =
      subst (λ n. n ≤ greatest 0 (map head split.keys)) split.classes (subst (λ n. more ≤ n) (c.classes ∙ ap (greatest 0) (sym heads)) few) in
      let same : class_numbers same_list split.keys ≡ map head split.keys =
      same-numbers same_list head head-same [] split.keys 0 refl (λ y h. absurd h) (λ k h. absurd (missing h)) order enough in
      split.sources ∙ (ap (by_source units) (same ∙ heads) ∙ sym c.sources)
    where
      missing : false ≡ true → ⊥
      missing e = true≢false (sym e)

  pub round-last : (start numbering next : Numbering) (count more : ℕ) → IsRound start numbering count → IsSplitOnce numbering next more → more ≤ count → IsCoarsest units start numbering
  round-last start numbering next count more round split few =
      let same = round-same start numbering next count more round split few in
      let classes = split-classes numbering next more split in
      let at = λ (s : Known). ap (λ n. number_of n s) same in
      record {
        fits = counted-fits numbering count round.counted;
        above = λ s h. subst (λ n. 0 < n) (at s) (classes.above s (in-of all s h));
        refines = round.refines;
        closed = λ s t hs ht e.
            (cons-parts (number_of numbering s) (number_of numbering t) (part_numbers numbering s) (part_numbers numbering t)
            (classes.one s t (in-of all s hs) (in-of all t ht) (at s ∙ (e ∙ sym (at t))))).1;
        coarsest = round.coarsest;
      }

  pub round-few : (start numbering : Numbering) (count : ℕ) → IsRound start numbering count → count ≤ length all
  round-few start numbering count round = counted-few numbering count round.counted

-- ---- as the code has it

module _ (units : List TypedUnit) (ns : List NodeOf) (are : nodes_of ns ≡ map node_of (structures units)) (start numbering next : Numbering) (count more : ℕ) (round : IsRound units start numbering count) (split : IsSplit units (nodes_of ns) numbering next more) where
  split-once : IsSplit units (map node_of (structures units)) numbering next more
  split-once = subst (λ xs. IsSplit units xs numbering next more) are split

  pub nodes-more_round : IsRound units start next more
  nodes-more_round = round-more units start numbering next count more round split-once

  pub nodes-last : more ≤ count → IsCoarsest units start numbering
  nodes-last few = round-last units start numbering next count more round split-once few

  length-nodes : length ns ≡ length (structures units)
  unfolding nodes_of
  length-nodes = sym (length-map_of node_view ns) ∙ (ap length are ∙ length-map_of node_of (structures units))

  pub nodes-smaller : count < more → length ns - more < length ns - count
  nodes-smaller grown =
      let few = round-few units start next more nodes-more_round in
      let long = length-nodes in
      omega (arith, grown, few, long)

-- The parts of a text that stand for each counter, as far as a loop has come.
use Rattle.std.proofs.Common.{◌≡◌, ◌≤◌, ◌<◌, ◌+◌, ◌++◌, ℕ, suc, false, List, [], ◌∷◌, length, get_or, take, take_all, ap, sym, ◌∙◌, arith, append_assoc}
use Rattle.std.proofs.lemmas.List.{append-nil, take_more, length-take-le}
use Rattle.cc_make.specs.declared.counters.Counter.{Counter}
use Rattle.cc_make.specs.Source.{each_from}

-- a counter, for places where no other is at hand
abbrev pub nothing : Counter
nothing = record { limit = 0; cleared = false }

each-push : (part : ℕ → Counter → List ℕ) (n : ℕ) (cs : List Counter) (c : Counter) → each_from part n (cs ++ c ∷ []) ≡ each_from part n cs ++ part (n + length cs) c
each-push part n [] c = append-nil (part n c) ∙ (let e : n ≡ n + 0 = omega arith in ap (λ k. part k c) e)
each-push part n (b ∷ cs) c =
    let e : n + 1 + length cs ≡ n + suc (length cs) = omega arith in
    ap (λ (bs : List ℕ). part n b ++ bs) (each-push part (n + 1) cs c ∙ ap (λ k. each_from part (n + 1) cs ++ part k c) e)
    ∙ sym (append_assoc (part n b) (each_from part (n + 1) cs) (part (n + suc (length cs)) c))

module _ (part : ℕ → Counter → List ℕ) (cs : List Counter) (i : ℕ) (c : Counter) (l : i < length cs) (e : c ≡ get_or cs i c) where
  one_more : each_from part 0 (take (i + 1) cs) ≡ each_from part 0 (take i cs) ++ part i c
  one_more =
      let n : 0 + length (take i cs) ≡ i = omega (arith, length-take-le i cs (omega arith)) in
      ap (each_from part 0) (take_more cs i c l ∙ ap (λ (b : Counter). take i cs ++ b ∷ []) (sym e))
      ∙ each-push part 0 (take i cs) c ∙ ap (λ k. each_from part 0 (take i cs) ++ part k c) n

  -- the text with the part of one counter more
  pub put_more : (old text new : List ℕ) → text ≡ old ++ each_from part 0 (take i cs) → new ≡ text ++ part i c → new ≡ old ++ each_from part 0 (take (i + 1) cs)
  put_more old text new h p =
      p ∙ ap (λ (bs : List ℕ). bs ++ part i c) h ∙ append_assoc old (each_from part 0 (take i cs)) (part i c) ∙ ap (λ (bs : List ℕ). old ++ bs) (sym one_more)

-- one text behind another, and behind that one more
pub two_more : (old mid new a b : List ℕ) → mid ≡ old ++ a → new ≡ mid ++ b → new ≡ old ++ (a ++ b)
two_more old mid new a b p q = q ∙ ap (λ (bs : List ℕ). bs ++ b) p ∙ append_assoc old a b

module _ (a b c d e f g h : List ℕ) where
  regroup : ((((((a ++ b) ++ c) ++ d) ++ e) ++ f) ++ g) ++ h ≡ a ++ (b ++ (c ++ (d ++ (e ++ (f ++ (g ++ h))))))
  regroup = simp append_assoc

  -- eight parts of a text, one behind another
  pub eight_parts : (t1 t2 t3 t4 t5 t6 t7 t8 : List ℕ) → t1 ≡ a → t2 ≡ t1 ++ b → t3 ≡ t2 ++ c → t4 ≡ t3 ++ d → t5 ≡ t4 ++ e → t6 ≡ t5 ++ f → t7 ≡ t6 ++ g → t8 ≡ t7 ++ h
      → t8 ≡ a ++ (b ++ (c ++ (d ++ (e ++ (f ++ (g ++ h))))))
  eight_parts t1 t2 t3 t4 t5 t6 t7 t8 q1 q2 q3 q4 q5 q6 q7 q8 =
      q8
      ∙ ap (λ (t : List ℕ). t ++ h) (q7
      ∙ ap (λ (t : List ℕ). t ++ g) (q6
      ∙ ap (λ (t : List ℕ). t ++ f) (q5
      ∙ ap (λ (t : List ℕ). t ++ e) (q4
      ∙ ap (λ (t : List ℕ). t ++ d) (q3
      ∙ ap (λ (t : List ℕ). t ++ c) (q2
      ∙ ap (λ (t : List ℕ). t ++ b) q1))))))
      ∙ regroup

pub put_none : (part : ℕ → Counter → List ℕ) (cs : List Counter) (text : List ℕ) → text ≡ text ++ each_from part 0 (take 0 cs)
put_none part cs text = sym (append-nil text)

pub put_all : (part : ℕ → Counter → List ℕ) (cs : List Counter) (i : ℕ) (old text : List ℕ) → length cs ≤ i → text ≡ old ++ each_from part 0 (take i cs) → text ≡ old ++ each_from part 0 cs
put_all part cs i old text l h = h ∙ ap (λ (bs : List Counter). old ++ each_from part 0 bs) (take_all i cs l)

-- Bytes that are read or written a piece at a time. What has been read is the first bytes of the
-- file, and what has been written is the first bytes of those to be written; each step takes the
-- next few, and at the end nothing is left.
use Rattle.std.proofs.Common.{◌≡◌, ◌≤◌, ◌<◌, ◌+◌, ◌-◌, ℕ, List, ◌++◌, take, drop, length, arith, refl, ap, sym, ◌∙◌, Option, Some, None, option_map, length-append, length-drop, length-take, append_assoc, append-nil, subst, [], IsSome, IsSomeAnd, ◌⊎◌, inl, inr}
use Rattle.std.proofs.Math.Seq.{take-add}
use Rattle.std.proofs.lemmas.List.{take_all, length-take-le, drop-drop, take_rest, take-take}
use Rattle.cc_edge.specs.declared.store.Got.TheVariants as got
use Rattle.cc_edge.specs.declared.store.Put.TheVariants as put
use Rattle.cc_edge.specs.Faults.{Rose, raised}
use Rattle.cc_edge.specs.Files.{Gives, appended, HoldsPrefix}

-- the first bytes of a file; nothing, where it is not there
abbrev pub IsStart : List ℕ → Option (List ℕ) → Type 0
IsStart xs None = length xs ≡ 0
IsStart xs (Some bytes) = (length xs ≤ length bytes) × (xs ≡ take (length xs) bytes)

pub IsStart-more : (n : ℕ) (xs piece : List ℕ) (file : Option (List ℕ)) → n ≤ length piece → IsStart xs file →
    Gives (got.Bytes n) (length xs) piece file → IsStart (xs ++ take n piece) file
IsStart-more n xs piece None h s g = absurd g
IsStart-more n xs piece (Some bytes) h s g =
    let e : length (xs ++ take n piece) ≡ length xs + n = length-append xs (take n piece) ∙ ap (λ k. length xs + k) (length-take-le n piece h) in
    let first : length xs + n ≤ length bytes = g.0 in
    let eq : xs ++ take n piece ≡ take (length xs + n) bytes = cc (s.1, g.1, take-add (length xs) n bytes) in
    (rw e first, rw e eq)

pub IsStart-whole : (xs piece : List ℕ) (file : Option (List ℕ)) → IsStart xs file → Gives got.End (length xs) piece file → file ≡ Some xs
IsStart-whole xs piece None s g = absurd g
IsStart-whole xs piece (Some bytes) s g = ap Some (sym (take_all (length xs) bytes g) ∙ sym s.1)

pub IsStart-long : (xs : List ℕ) (file : Option (List ℕ)) (limit : ℕ) → IsStart xs file → limit < length xs →
    IsSomeAnd file (λ bytes. limit < length bytes)
IsStart-long xs None limit s h = absurd (omega arith)
IsStart-long xs (Some bytes) limit s h = omega arith

-- a fault of the last of some reads, since the first of them
pub fault-since : {A B : Type 0} (first last now : ℕ) → first ≤ last → Rose last now ⊎ A → (A → B) → Rose first now ⊎ B
fault-since first last now h (inl rose) k = inl (omega arith)
fault-since first last now h (inr a) k = inr (k a)

-- a count that is raised again and again
pub raised-none : (count : ℕ) → raised 0 count ≡ count
unfolding raised
raised-none count = omega arith

pub raised-more : (n m count : ℕ) → raised n (raised m count) ≡ raised (m + n) count
unfolding raised
raised-more n m count = omega arith

pub raised-least : (n m count : ℕ) → n ≤ m → raised n count ≤ raised m count
unfolding raised
raised-least n m count h = omega arith

pub ruleset of_reads = (IsStart-more, IsStart-whole, IsStart-long, raised-none, raised-more, raised-least)

-- after n bytes: what is left of all, and what has been added to what was there
pub record IsAdded (old bytes rest new : List ℕ) : Type 0 where
  pub count : ℕ
  pub left : rest ≡ drop count bytes
  pub added : new ≡ old ++ take count bytes

pub IsAdded-start : (old bytes : List ℕ) → IsAdded old bytes bytes old
IsAdded-start old bytes = record { count = 0; left = refl; added = sym (append-nil old) }

-- one step: m bytes of a piece, which is the first k bytes of what was left
pub IsAdded-more : (m k : ℕ) (old bytes rest was new : List ℕ) → IsAdded old bytes rest was → m ≤ length (take k rest) →
    new ≡ was ++ take m (take k rest) → IsAdded old bytes (take (length rest - m) (drop m rest)) new
IsAdded-more m k old bytes rest was new h le e =
    let within : m ≤ k = omega (arith, length-take k rest) in
    let next : take m (take k rest) ≡ take m (drop h.count bytes) = take-take m k rest within ∙ ap (λ l. take m l) h.left in
    record {
      count = h.count + m;
      left = take_rest rest m ∙ ap (λ l. drop m l) h.left ∙ drop-drop m h.count bytes;
      added = e ∙ ap (λ l. was ++ l) next ∙ ap (λ l. l ++ take m (drop h.count bytes)) h.added
          ∙ append_assoc old (take h.count bytes) (take m (drop h.count bytes)) ∙ ap (λ l. old ++ l) (sym (take-add h.count m bytes));
    }

pub IsAdded-end : (old bytes rest new : List ℕ) → IsAdded old bytes rest new → length rest ≡ 0 → new ≡ old ++ bytes
IsAdded-end old bytes rest new h e =
    let short : length bytes ≤ h.count = omega (arith, ap length h.left, length-drop h.count bytes) in
    h.added ∙ ap (λ l. old ++ l) (take_all h.count bytes short)

pub IsAdded-prefix : (old bytes rest new : List ℕ) → IsAdded old bytes rest new → (n : ℕ) × (new ≡ old ++ take n bytes)
IsAdded-prefix old bytes rest new h = (h.count, h.added)

pub ruleset of_words = (IsAdded-start, IsAdded-more, IsAdded-end, IsAdded-prefix)

-- the file holds all bytes but the rest
abbrev pub HoldsAllBut : List ℕ → List ℕ → Option (List ℕ) → Type 0
HoldsAllBut bytes rest file = IsSomeAnd file (λ held. IsAdded [] bytes rest held)

pub HoldsAllBut-start : (bytes : List ℕ) (file : Option (List ℕ)) → file ≡ Some [] → HoldsAllBut bytes bytes file
HoldsAllBut-start bytes file e = subst (HoldsAllBut bytes bytes) (sym e) (IsAdded-start [] bytes)

pub HoldsAllBut-more : (m k : ℕ) (bytes rest : List ℕ) (old new : Option (List ℕ)) → HoldsAllBut bytes rest old → m ≤ length (take k rest) →
    new ≡ option_map (appended (put.Bytes m) (take k rest)) old → HoldsAllBut bytes (take (length rest - m) (drop m rest)) new
HoldsAllBut-more m k bytes rest None new h le e = absurd h
HoldsAllBut-more m k bytes rest (Some held) new h le e =
    subst (HoldsAllBut bytes (take (length rest - m) (drop m rest))) (sym e) (IsAdded-more m k [] bytes rest held (held ++ take m (take k rest)) h le refl)

pub HoldsAllBut-some : (bytes rest : List ℕ) (file : Option (List ℕ)) → HoldsAllBut bytes rest file → IsSome file
HoldsAllBut-some bytes rest None h = absurd h
HoldsAllBut-some bytes rest (Some held) h = refl

pub HoldsAllBut-end : (bytes rest : List ℕ) (file : Option (List ℕ)) → HoldsAllBut bytes rest file → length rest ≡ 0 → file ≡ Some bytes
HoldsAllBut-end bytes rest None h e = absurd h
HoldsAllBut-end bytes rest (Some held) h e = ap Some (IsAdded-end [] bytes rest held h e)

pub HoldsAllBut-prefix : (bytes rest : List ℕ) (file : Option (List ℕ)) → HoldsAllBut bytes rest file → HoldsPrefix bytes file
HoldsAllBut-prefix bytes rest None h = absurd h
HoldsAllBut-prefix bytes rest (Some held) h = (h.count, h.added)

pub ruleset of_writes = (HoldsAllBut-start, HoldsAllBut-more, HoldsAllBut-some, HoldsAllBut-end, HoldsAllBut-prefix)

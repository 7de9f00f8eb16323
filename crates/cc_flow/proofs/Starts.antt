-- A `switch` goes to the start of each case, and behind itself where it has no default.
use Rattle.std.proofs.Common.{◌≡◌, ◌+◌, ◌-◌, ◌⊎◌, inl, inr, ◌↔◌, ℕ, suc, Bool, true, false, not, ◌||◌, nat_eq, nat_le, List, [], ◌∷◌, ◌++◌, length, slice_get, Contains, if◌then◌else◌, refl, ap, sym, ◌∙◌, subst, arith}
use Rattle.std.proofs.lemmas.List.Elements.{Contains-append_left, Contains-append_right, Contains-append_cases, Contains-push_cases}
use Rattle.cc_flow.specs.declared.next.Site.{Site}
use Rattle.cc_flow.specs.Laws.{start, starts}
use Rattle.cc_flow.proofs.Tests.{zero_of}
use Rattle.cc_flow.specs.Next.{head, heads, branches, is_zero, may_pass}

none_in : (m : ℕ) → Contains [] m → ⊥
none_in m (k, h, e) = omega (arith, h)

is_in : (n m : ℕ) (ns : List ℕ) → n ≡ m → Contains (n ∷ ns) m
is_in n m ns e = (0, omega arith, e)

later_in : (n m : ℕ) (ns : List ℕ) → Contains ns m → Contains (n ∷ ns) m
later_in n m ns h = Contains-append_right (n ∷ []) ns m h

one_in : (n m : ℕ) → Contains (n ∷ []) m → n ≡ m
one_in n m h = elim (Contains-push_cases [] n m h) [ inl k ↦ absurd (none_in m k) | inr e ↦ e ]

cases_in : (n m : ℕ) (ns : List ℕ) → Contains (n ∷ ns) m → (n ≡ m) ⊎ Contains ns m
cases_in n m ns h = elim (Contains-append_cases (n ∷ []) ns m h) as (λ _. (n ≡ m) ⊎ Contains ns m) [ inl k ↦ inl (one_in n m k) | inr k ↦ inr k ]

abbrev last_is_empty : List ℕ → Bool
last_is_empty counts = is_zero (slice_get counts (length counts - 1))

last-skips : (c d : ℕ) (counts : List ℕ) → last_is_empty (c ∷ d ∷ counts) ≡ last_is_empty (d ∷ counts)
last-skips c d counts =
    let e : length (c ∷ d ∷ counts) - 1 ≡ suc (length (d ∷ counts) - 1) = omega arith in
    ap (λ n. is_zero (slice_get (c ∷ d ∷ counts) n)) e

-- at the front
heads_step : (number behind m count : ℕ) (counts : List ℕ) (b : Bool) → (Contains (heads (number + count) counts) m → Contains (starts (number + count) behind counts) m) → Contains (if b then [] else number ∷ []) m ⊎ Contains (heads (number + count) counts) m →
    Contains ((if b then start number behind counts else number) ∷ starts (number + count) behind counts) m
heads_step number behind m count counts true more (inl k) = absurd (none_in m k)
heads_step number behind m count counts true more (inr k) = later_in (start number behind counts) m (starts (number + count) behind counts) (more k)
heads_step number behind m count counts false more (inl k) = is_in number m (starts (number + count) behind counts) (one_in number m k)
heads_step number behind m count counts false more (inr k) = later_in number m (starts (number + count) behind counts) (more k)

-- a first point is a start
heads_start : (number behind m : ℕ) (counts : List ℕ) → Contains (heads number counts) m → Contains (starts number behind counts) m
heads_start number behind m [] h = h
heads_start number behind m (count ∷ counts) h =
    heads_step number behind m count counts (nat_eq count 0) (heads_start (number + count) behind m counts) (Contains-append_cases (head number count) (heads (number + count) counts) m h)

-- so is what is behind, where the last is empty
last_start : (number behind : ℕ) (counts : List ℕ) → last_is_empty counts ≡ true → Contains (starts number behind counts) behind
last_start number behind [] e = absurd (cc)
last_start number behind (count ∷ []) e = is_in (start number behind (count ∷ [])) behind [] (ap (λ (b : Bool). if b then behind else number) e)
last_start number behind (c ∷ d ∷ counts) e = later_in (start number behind (c ∷ d ∷ counts)) behind (starts (number + c) behind (d ∷ counts)) (last_start (number + c) behind (d ∷ counts) (sym (last-skips c d counts) ∙ e))

abbrev Found : ℕ → ℕ → List ℕ → ℕ → Type 0
Found number behind counts m = Contains (heads number counts) m ⊎ ((last_is_empty counts ≡ true) × (m ≡ behind))

found_more : (number behind m c d : ℕ) (counts : List ℕ) → Found (number + c) behind (d ∷ counts) m → Found number behind (c ∷ d ∷ counts) m
found_more number behind m c d counts (inl k) = inl (Contains-append_right (head number c) (heads (number + c) (d ∷ counts)) m k)
found_more number behind m c d counts (inr k) = inr (last-skips c d counts ∙ k.0, k.1)

found_step : (number behind m c d : ℕ) (counts : List ℕ) (b : Bool) → nat_eq c 0 ≡ b → (Contains (starts (number + c) behind (d ∷ counts)) m → Found (number + c) behind (d ∷ counts) m) → (if b then start number behind (d ∷ counts) else number) ≡ m →
    Contains ((if b then [] else number ∷ []) ++ heads (number + c) (d ∷ counts)) m ⊎ ((last_is_empty (c ∷ d ∷ counts) ≡ true) × (m ≡ behind))
found_step number behind m c d counts true e found k =
    let same : number ≡ number + c = (let z = zero_of c e in omega (arith, z)) in
    let first : Contains (starts (number + c) behind (d ∷ counts)) m = is_in (start (number + c) behind (d ∷ counts)) m (starts (number + c + d) behind counts) (ap (λ n. start n behind (d ∷ counts)) (sym same) ∙ k) in
    elim (found first) as (λ _. Contains (heads (number + c) (d ∷ counts)) m ⊎ ((last_is_empty (c ∷ d ∷ counts) ≡ true) × (m ≡ behind))) [ inl l ↦ inl l | inr l ↦ inr (last-skips c d counts ∙ l.0, l.1) ]
found_step number behind m c d counts false e found k = inl (is_in number m (heads (number + c) (d ∷ counts)) k)

-- each start is a first point, or what is behind
start_found : (number behind m : ℕ) (counts : List ℕ) → Contains (starts number behind counts) m → Found number behind counts m
start_found number behind m [] h = inl h
start_found number behind m (count ∷ []) h = step (nat_eq count 0) refl (one_in (start number behind (count ∷ [])) m h)
  where
    step : (b : Bool) → nat_eq count 0 ≡ b → (if b then behind else number) ≡ m → Contains ((if b then [] else number ∷ []) ++ []) m ⊎ ((b ≡ true) × (m ≡ behind))
    step true e k = inr (refl, sym k)
    step false e k = inl (is_in number m [] k)
start_found number behind m (c ∷ d ∷ counts) h =
    elim (cases_in (start number behind (c ∷ d ∷ counts)) m (starts (number + c) behind (d ∷ counts)) h) as (λ _. Found number behind (c ∷ d ∷ counts) m) [
      | inl k ↦ found_step number behind m c d counts (nat_eq c 0) refl (start_found (number + c) behind m (d ∷ counts)) k
      | inr k ↦ found_more number behind m c d counts (start_found (number + c) behind m (d ∷ counts) k)
    ]

-- what is behind, in front of the others or at their end
behind_in : (site : Site) (counts : List ℕ) (m : ℕ) → Contains (branches true site counts) m ↔ (Contains (heads (site.number + 1) counts) m ⊎ (m ≡ site.behind))
behind_in site counts m = (to (nat_le site.behind site.number), from (nat_le site.behind site.number))
  where
    to : (b : Bool) → Contains (if b then site.behind ∷ heads (site.number + 1) counts else heads (site.number + 1) counts ++ site.behind ∷ []) m → Contains (heads (site.number + 1) counts) m ⊎ (m ≡ site.behind)
    to true h = elim (cases_in site.behind m (heads (site.number + 1) counts) h) [ inl e ↦ inr (sym e) | inr k ↦ inl k ]
    to false h = elim (Contains-push_cases (heads (site.number + 1) counts) site.behind m h) [ inl k ↦ inl k | inr e ↦ inr (sym e) ]

    from : (b : Bool) → Contains (heads (site.number + 1) counts) m ⊎ (m ≡ site.behind) → Contains (if b then site.behind ∷ heads (site.number + 1) counts else heads (site.number + 1) counts ++ site.behind ∷ []) m
    from true (inl k) = later_in site.behind m (heads (site.number + 1) counts) k
    from true (inr e) = is_in site.behind m (heads (site.number + 1) counts) (sym e)
    from false (inl k) = Contains-append_left (heads (site.number + 1) counts) (site.behind ∷ []) m k
    from false (inr e) = Contains-append_right (heads (site.number + 1) counts) (site.behind ∷ []) m (is_in site.behind m [] (sym e))

abbrev Goes : Bool → Site → List ℕ → ℕ → Type 0
Goes has_default site counts m = Contains (starts (site.number + 1) site.behind counts) m ⊎ ((has_default ≡ false) × (m ≡ site.behind))

pub switch_goes : (has_default : Bool) (site : Site) (counts : List ℕ) (m : ℕ) → Contains (branches (may_pass has_default counts) site counts) m ↔ Goes has_default site counts m
switch_goes has_default site counts m = (to has_default (last_is_empty counts) refl, from has_default (last_is_empty counts) refl)
  where
    to : (d e : Bool) → last_is_empty counts ≡ e → Contains (branches (not d || e) site counts) m → Goes d site counts m
    to true true p h =
        elim ((behind_in site counts m).0 h) [
          | inl k ↦ inl (heads_start (site.number + 1) site.behind m counts k)
          | inr k ↦ inl (subst (Contains (starts (site.number + 1) site.behind counts)) (sym k) (last_start (site.number + 1) site.behind counts p))
        ]
    to true false p h = inl (heads_start (site.number + 1) site.behind m counts h)
    to false e p h =
        elim ((behind_in site counts m).0 h) [
          | inl k ↦ inl (heads_start (site.number + 1) site.behind m counts k)
          | inr k ↦ inr (refl, k)
        ]

    from : (d e : Bool) → last_is_empty counts ≡ e → Goes d site counts m → Contains (branches (not d || e) site counts) m
    from true true p (inl h) =
        elim (start_found (site.number + 1) site.behind m counts h) [
          | inl k ↦ (behind_in site counts m).1 (inl k)
          | inr k ↦ (behind_in site counts m).1 (inr k.1)
        ]
    from true true p (inr h) = absurd (let q : true ≡ false = h.0 in cc)
    from true false p (inl h) =
        elim (start_found (site.number + 1) site.behind m counts h) [
          | inl k ↦ k
          | inr k ↦ absurd (let q : last_is_empty counts ≡ true = k.0 in cc)
        ]
    from true false p (inr h) = absurd (let q : true ≡ false = h.0 in cc)
    from false e p (inl h) =
        elim (start_found (site.number + 1) site.behind m counts h) [
          | inl k ↦ (behind_in site counts m).1 (inl k)
          | inr k ↦ (behind_in site counts m).1 (inr k.1)
        ]
    from false e p (inr h) = (behind_in site counts m).1 (inr h.1)

-- A number that is put in at its place.
use Rattle.std.proofs.Common.{◌≡◌, ◌⊎◌, ◌∙◌, ℕ, ◌+◌, ◌<◌, ◌≤◌, ℤ, true≢false, List, length, sym, Result, Ok, Err, ap, subst, inl, inr, ⊎_elim, arith, to_z-of_z}
use Rattle.std.specs.Result.{IsOk, OnOk}
use Rattle.std.specs.List.{Contains, insert}
use Rattle.std.proofs.lemmas.Bool.{cases_lt}
use Rattle.cc_lattice.specs.Domains.{Ascends, IsInReach}
use Rattle.cc_explicit.specs.Sets.{AreInReach, IsPlace}
use Rattle.cc_explicit.proofs.Lists.{in_list, in_contains, in_insert, insert_in, ascends_insert}
use Rattle.cc_explicit.proofs.explicit.Explicit.insert.Goals as goal

-- the new list is the old one with v at its place
record IsInserted (old new : List ℤ) (at : ℕ) (v : ℤ) : Type 0 where
  is : new ≡ insert old at v
  place : IsPlace old at v

put : (old mem new : List ℤ) (i j : ℕ) (u v : ℤ) → u ≡ v → mem ≡ old → i ≡ j → new ≡ insert old i u → IsPlace mem j u → IsInserted old new j v
put old mem new i j u v e f g h p =
    let q = subst (λ (xs : List ℤ). IsPlace xs j u) f p in
    record {
      is = h ∙ ap (λ (k : ℕ). insert old k u) g ∙ ap (insert old j) e;
      place = subst (λ (z : ℤ). IsPlace old j z) e q;
    }

ascending : (old new : List ℤ) (at : ℕ) (v : ℤ) → Ascends old → IsInserted old new at v → Ascends new
ascending old new at v h p = subst (λ (xs : List ℤ). Ascends xs) (sym p.is) (ascends_insert old at v h p.place)

contained : (old new : List ℤ) (at : ℕ) (v w : ℤ) → IsInserted old new at v → Contains new w → (w ≡ v) ⊎ Contains old w
contained old new at v w p h =
    let t = in_insert old at v w (in_list (insert old at v) w (subst (λ (xs : List ℤ). Contains xs w) p.is h)) in
    ⊎_elim (λ (e : w ≡ v). inl e) (λ u. inr (in_contains old w u)) t

contains : (old new : List ℤ) (at : ℕ) (v w : ℤ) → IsInserted old new at v → (w ≡ v) ⊎ Contains old w → Contains new w
contains old new at v w p h =
    subst (λ (xs : List ℤ). Contains xs w) (sym p.is)
    (in_contains (insert old at v) w (insert_in old at v w (⊎_elim (λ (e : w ≡ v). inl e) (λ (u : Contains old w). inr (in_list old w u)) h)))

reach : (old new : List ℤ) (at : ℕ) (v : ℤ) → IsInReach v → AreInReach old → IsInserted old new at v → AreInReach new
reach old new at v r h p w t =
    ⊎_elim (λ (e : w ≡ v). subst IsInReach (sym e) r) (λ (u : Contains old w). h w u) (contained old new at v w p t)

room : (len n : ℕ) → len ≡ n → n ≤ 64 → (len ≡ 64 → ⊥) → n + 1 ≤ 64
room len n is h full = ⊎_elim (λ (less : n < 64). omega arith) (λ (more : 64 ≤ n). let e : len ≡ 64 = omega arith in absurd (full e)) (cases_lt n 64)

few : (n m : ℕ) → n + 1 ≤ 64 → m ≡ n + 1 → m ≤ 64
few n m h s = omega arith

fits : (n size : ℕ) → size ≡ 64 → n + 1 ≤ 64 → n + 1 ≤ size
fits n size inline h = omega arith

known : {T E : Type 0} {P : Type 0} (r : Result T E) → IsOk r → OnOk r P → P
known (Ok _) is p = p
known (Err _) is p = absurd (true≢false (sym is))

below_most : (c : goal.After-insert) → length c.args.self.now.items.items + 1 ≤ 64
below_most c = room c.len.result (length c.args.self.now.items.items) c.len.ensures.value c.args.self.now.few c.if-len-eq-MOST_MEMBERS.false

roomy : (c : goal.After-insert) → length c.args.self.now.items.items + 1 ≤ c.args.self.now.items.capacity
roomy c = fits _ c.args.self.now.items.capacity c.args.self.now.inline (below_most c)

inserted : (c : goal.After-insert) → IsInserted c.args.self.now.items.items c.insert.new.self.items c.in-Err-2.at c.args.v
inserted c = put c.args.self.now.items.items c.as_slice.result.now c.insert.new.self.items c.in-Err.field-0 c.in-Err-2.at _ c.args.v
    (to_z-of_z c.ranges.v) c.as_slice.ensures c.in-Err-2.at-is (known c.insert.result (c.insert.ensures.succeeds (roomy c)) c.insert.ensures.ok) c.in-Err-2.ensures

pub invariant_of-self : goal.invariant_of-self
invariant_of-self c =
    let old = c.args.self.now in
    record {
      inline = c.insert.ensures.had_room (roomy c) ∙ old.inline;
      ascending = ascending old.items.items _ c.in-Err-2.at c.args.v old.ascending (inserted c);
      few = few (length old.items.items) _ (below_most c) (known c.insert.result (c.insert.ensures.succeeds (roomy c)) c.insert.ensures.len);
      reach = reach old.items.items _ c.in-Err-2.at c.args.v c.requires old.reach (inserted c);
    }

pub returns-in-Err-2-clause-inserted : goal.returns-in-Err-2-clause-inserted
returns-in-Err-2-clause-inserted c = λ e w. (
  contained c.args.self.now.items.items c.insert.new.self.items c.in-Err-2.at c.args.v w (inserted c.before.before.before),
  contains c.args.self.now.items.items c.insert.new.self.items c.in-Err-2.at c.args.v w (inserted c.before.before.before),
)

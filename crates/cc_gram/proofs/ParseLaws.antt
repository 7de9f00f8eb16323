-- What `parse` answers, told of sentences.
use Rattle.std.proofs.Common.{◌≡◌, ◌≤◌, ◌+◌, ◌-◌, ℕ, true, false, Some, None, refl, ap, sym, ◌∙◌, subst, length, max, arith}
use Rattle.std.proofs.lemmas.Option.{slice_get-get_or}
use Rattle.std.proofs.Math.ListN.{get_or}
use Rattle.cc_lex.specs.declared.token.Token.{Token}
use Rattle.cc_tree.specs.declared.fault.GramFault.TheVariants as fault
use Rattle.cc_tree.specs.declared.state.Control.TheVariants as control
use Rattle.cc_tree.specs.declared.state.Tall.{Tall}
use Rattle.cc_tree.specs.declared.stop.Stop.TheVariants as stop
use Rattle.cc_tree.specs.declared.unit.Unit.{Unit as UnitTree}
use Rattle.cc_tree.specs.Faults.{IsRead, HasFault, IsOutside, IsTooDeep, IsWrong}
use Rattle.cc_tree.specs.Height.{greatest_height}
use Rattle.cc_tree.specs.Machine.{State, Leads, start, is_done, Exceeds}
use Rattle.cc_tree.specs.Outside.{first_outside}
use Rattle.cc_gram.specs.Parse.{ReadsUnit, RefusesAt, ExceedsAt, DeepAt}
use Rattle.cc_tree.specs.Tokens.{Tokens, Name}
use Rattle.cc_tree.proofs.Outcomes.{not_wrong}
use Rattle.cc_tree.proofs.Reach.{exceeds-unread, exceeds-far}
use Rattle.cc_tree.proofs.Sound.{sound}
use Rattle.cc_tree.proofs.Stops.{leads-within}

pub is_read : (ts : Tokens) (u : UnitTree) → first_outside ts ≡ None → ReadsUnit greatest_height ts u → IsRead ts u
is_read ts u e h = record {
  sentence = record { inside = e; after = h.reads.last.scope; items = (sound ts (record { node = u; height = h.height }) h.reads.led h.reads.done).0 };
  low = subst (λ n. n ≤ greatest_height) (sound ts (record { node = u; height = h.height }) h.reads.led h.reads.done).1 h.reads.low;
}

not_done : (s : State) (v : Tall UnitTree) → is_done s.control ≡ false → s.control ≡ control.Done v → ⊥
not_done s v h e = let t : is_done s.control ≡ true = ap is_done e in absurd (cc)

pub is_wrong : (ts : Tokens) (n : ℕ) → first_outside ts ≡ None → RefusesAt greatest_height ts n → HasFault ts (fault.Syntax n)
is_wrong ts n e h =
    let led : Leads greatest_height (start ts) h.refuses.last = leads-within greatest_height (start ts) h.refuses.last h.refuses.led in
    IsWrong ts h.ahead n e (λ u k. not_wrong greatest_height h.refuses.last (stop.Wrong h.ahead) u k.after ts led h.refuses.refused (λ v d. not_done h.refuses.last v h.refuses.unfinished d) k.items) h.refuses h.offset

pub is_too_deep : (ts : Tokens) (n : ℕ) → first_outside ts ≡ None → ExceedsAt greatest_height ts n → HasFault ts (fault.TooDeep n)
is_too_deep ts n e h = subst (λ k. HasFault ts (fault.TooDeep k)) (sym h.place.offset)
    (IsTooDeep ts h.ahead h.place.before h.place.token e (λ u k. exceeds-unread greatest_height h.ahead u k.sentence.after ts h.exceeds k.sentence.items k.low) h.exceeds h.place.is h.place.there h.place.enough)

-- enough tokens stand before
pub deep_behind : (ts : Tokens) (n : ℕ) → Exceeds greatest_height ts n → 65 + n ≤ length ts
deep_behind ts n h = omega (arith, exceeds-far greatest_height n ts h)

pub deep_at : (ts : Tokens) (ahead before : ℕ) (t : Token) → 65 + ahead ≤ length ts → before ≡ length ts - max ahead 1 → DeepAt ts ahead (get_or ts before t).at
deep_at ts ahead before t h e = record {
  before = before;
  token = get_or ts before t;
  is = e;
  there = slice_get-get_or ts before t (omega arith);
  enough = omega arith;
  offset = refl;
}

pub is_outside : (ts : Tokens) (x y : Name) (n : ℕ) → first_outside ts ≡ Some (x, n) → y ≡ x → HasFault ts (fault.Outside y n)
is_outside ts x y n e h = IsOutside ts y n (e ∙ ap (λ z. Some (z, n)) (sym h))

pub ruleset of_parse = (is_read, is_wrong, is_too_deep, is_outside)

pub ruleset of_deep = (deep_behind)

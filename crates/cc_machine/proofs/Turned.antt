-- What turns lead to, as one turn more is done.
use Rattle.std.proofs.Common.{List, [], ◌≡◌, ◌≤◌, ◌<◌, ◌+◌, ℕ, false, Ok, Err, length, refl, arith}
use Rattle.cc_tree.specs.declared.state.Control.{Control}
use Rattle.cc_tree.specs.declared.state.Control.TheVariants as control
use Rattle.cc_tree.specs.declared.state.Tall.{Tall}
use Rattle.cc_tree.specs.declared.at.At.{At}
use Rattle.cc_machine.specs.declared.machine.Machine.{Machine}
use Rattle.cc_tree.specs.declared.stop.Stop.TheVariants as stop
use Rattle.cc_tree.specs.declared.unit.Item.{Item}
use Rattle.cc_machine.specs.View.{state_of}
use Rattle.cc_machine.specs.Waits.{waiting}
use Rattle.cc_tree.specs.declared.unit.Unit.{Unit as UnitTree}
use Rattle.cc_tree.specs.Machine.{State, LeadsWithin, Stays, Goes, turn, start, is_done, height_of, Reads, Refuses, Exceeds}
use Rattle.cc_tree.specs.Depth.{depth}
use Rattle.cc_tree.specs.Measure.{measure}
use Rattle.cc_tree.specs.Tokens.{Tokens}
use Rattle.cc_tree.proofs.Measure.{falls}
use Rattle.cc_tree.proofs.Stops.{leads-within}

pub leads-more : (limit : ℕ) (s t u : State) → LeadsWithin limit s t → turn t ≡ Ok u → depth u.frames + height_of u.control ≤ limit → LeadsWithin limit s u
leads-more limit s t u (Stays v) h k = Goes s u u h k (Stays u)
leads-more limit s t u (Goes v w x g i j) h k = Goes s w u g i (leads-more limit w t u j h k)

pub reads-here : (limit : ℕ) (ts : Tokens) (s : State) (u : Tall UnitTree) → LeadsWithin limit (start ts) s → s.control ≡ control.Done u → u.height ≤ limit → Reads limit ts u
reads-here limit ts s u h k l = record { last = s; led = leads-within limit (start ts) s h; done = k; low = l }

pub refuses-here : (limit : ℕ) (ts : Tokens) (s : State) (n : ℕ) → LeadsWithin limit (start ts) s → is_done s.control ≡ false → turn s ≡ Err (stop.Wrong n) → Refuses limit ts n
refuses-here limit ts s n h k l = record { last = s; led = h; unfinished = k; refused = l }

pub exceeds-here : (limit : ℕ) (ts : Tokens) (s t : State) → LeadsWithin limit (start ts) s → turn s ≡ Ok t → limit < depth t.frames + height_of t.control → Exceeds limit ts (length s.rest)
exceeds-here limit ts s t h k l = record { last = s; led = h; next = t; turned = k; high = l; ahead = refl }

pub ruleset of_leading = (leads-more, reads-here, refuses-here, exceeds-here)

pub falls_here : (s t : State) → turn s ≡ Ok t → measure t < measure s
falls_here s t h = falls s t h

pub starts : (limit : ℕ) (m : Machine) (c : Control) (ts : Tokens) → m.scope ≡ [] → waiting m.frames ≡ [] → c ≡ control.Items (record { items = []; height = 0 }) → LeadsWithin limit (start ts) (state_of m c ts)
starts limit m c ts h k l = rw (h, k, l) (Stays (start ts))

pub starts-low : (limit : ℕ) (c : Control) → c ≡ control.Items (record { items = []; height = 0 }) → height_of c ≤ limit
starts-low limit c e = rw e (omega arith)

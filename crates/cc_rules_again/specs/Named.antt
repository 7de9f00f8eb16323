-- Which keys a place may name, by its form alone, as far as that decides which constraints read them.
use Rattle.std.specs.Prelude.{ℕ, ◌==◌, Bool, true, false}
use Rattle.cc_program.specs.declared.expr.Expr.TheOpen as one
use Rattle.cc_program.specs.declared.expr.Place.{Place, fold-Place}
use Rattle.cc_rules_grow.specs.CcStateFacts.declared.facts.Key.{Key}
use Rattle.cc_rules_grow.specs.CcStateFacts.declared.facts.Key.TheVariants as key
use Rattle.cc_rules_grow.specs.CcStateKeys.Keys.{is_key}

pub data Named : Type 0 where
  NoKey : Named
  OneKey : Key → Named
  -- the members of a position, of each structure
  MembersAt : ℕ → Named
  -- the locals of a function
  LocalsOf : ℕ → Named
  -- through a pointer
  EachKey : Named

abbrev pub is_member : ℕ → Key → Bool
is_member m (key.Object i) = false
is_member m (key.Local g r) = false
is_member m (key.Member s n) = n == m

abbrev pub is_local : ℕ → Key → Bool
is_local g (key.Object i) = false
is_local g (key.Local h r) = h == g
is_local g (key.Member s n) = false

abbrev pub concerns : Named → Key → Bool
concerns NoKey k = false
concerns (OneKey l) k = is_key l k
concerns (MembersAt m) k = is_member m k
concerns (LocalsOf g) k = is_local g k
concerns EachKey k = true

abbrev pub has_member : Named → ℕ → Bool
has_member NoKey m = false
has_member (OneKey k) m = is_member m k
has_member (MembersAt n) m = n == m
has_member (LocalsOf g) m = false
has_member EachKey m = true

abbrev pub has_local : Named → ℕ → Bool
has_local NoKey g = false
has_local (OneKey k) g = is_local g k
has_local (MembersAt m) g = false
has_local (LocalsOf h) g = h == g
has_local EachKey g = true

-- whether one of some keys may be named without a pointer
abbrev pub is_named : Named → Named → Bool
is_named keys NoKey = false
is_named keys (OneKey k) = concerns keys k
is_named keys (MembersAt m) = has_member keys m
is_named keys (LocalsOf g) = has_local keys g
is_named keys EachKey = false

abbrev pub is_each : Named → Bool
is_each NoKey = false
is_each (OneKey k) = false
is_each (MembersAt m) = false
is_each (LocalsOf g) = false
is_each EachKey = true

-- ---- of the places of a function

abbrev pub no_expression : one.Expr-F (Unit {0}) Named → Unit {0}
no_expression e = tt

abbrev pub named_step : ℕ → one.Place-F (Unit {0}) Named → Named
named_step id (one.Local r) = OneKey (key.Local id r)
named_step id (one.Static i) = OneKey (key.Object i)
named_step id (one.Device n) = NoKey
named_step id (one.Element a i) = a
named_step id (one.Member a m) = MembersAt m
named_step id (one.Deref e) = EachKey

unfoldable pub named : ℕ → Place → Named
named id a = fold-Place (Unit {0}) Named no_expression (named_step id) a

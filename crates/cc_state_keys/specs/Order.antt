-- The order of keys: objects, locals, members, each kind by its numbers.
use Rattle.std.specs.Prelude.{◌≡◌, ℕ, ◌==◌, Bool, true, false, ◌&&◌, ◌||◌, nat_lt, List}
use Rattle.std.specs.List.{AllPairs}
use Rattle.cc_state_facts.specs.declared.facts.Key.{Key}
use Rattle.cc_state_facts.specs.declared.facts.Key.TheVariants as key

-- of two numbers the first decides where they differ
abbrev pub is_pair_before : ℕ → ℕ → ℕ → ℕ → Bool
is_pair_before a b c d = nat_lt a c || ((a == c) && nat_lt b d)

abbrev pub is_before : Key → Key → Bool
is_before (key.Object i) (key.Object j) = nat_lt i j
is_before (key.Object i) (key.Local g q) = true
is_before (key.Object i) (key.Member t n) = true
is_before (key.Local f r) (key.Object j) = false
is_before (key.Local f r) (key.Local g q) = is_pair_before f r g q
is_before (key.Local f r) (key.Member t n) = true
is_before (key.Member s m) (key.Object j) = false
is_before (key.Member s m) (key.Local g q) = false
is_before (key.Member s m) (key.Member t n) = is_pair_before s m t n

abbrev pub Ascend : List Key → Type 0
Ascend keys = AllPairs (λ k l. is_before k l ≡ true) keys

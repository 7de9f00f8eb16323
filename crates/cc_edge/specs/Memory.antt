-- What a list of named files holds under a name, which calls are to fail, and what a read answers.
use Rattle.std.specs.Prelude.{◌≡◌, ℕ, zero, suc, ◌-◌, min, Bool, true, false, List, [], ◌∷◌, length, Option, Some, None, Vec, vec_len, vec_capacity, if◌then◌else◌, nat_eq, nat_le}
use Rattle.std.specs.List.{list_any}
use Rattle.std.specs.Cmp.Lexicographic.{pointwise}
use Rattle.std.specs.declared.alloc.Global.{Global}
use Rattle.cc_edge.specs.declared.store.Got.{Got}
use Rattle.cc_edge.specs.declared.store.Got.TheVariants as got
use Rattle.cc_edge.specs.Faults.{faults_after_got}

-- the bytes of the first file of that name
abbrev pub found : List ℕ → List (List ℕ × Vec ℕ Global) → Option (List ℕ)
found name [] = None
found name (file ∷ files) = if pointwise nat_eq file.0 name then Some file.1.items else found name files

-- the first file of that name stands at that place
abbrev pub IsPlace : List ℕ → ℕ → List (List ℕ × Vec ℕ Global) → Type 0
IsPlace name i [] = ⊥
IsPlace name zero (file ∷ files) = pointwise nat_eq file.0 name ≡ true
IsPlace name (suc i) (file ∷ files) = (pointwise nat_eq file.0 name ≡ false) × IsPlace name i files

-- the number is in the list
abbrev pub is_listed : List ℕ → ℕ → Bool
is_listed numbers n = list_any (λ m. nat_eq m n) numbers

-- how many bytes the first file of that name takes before it has to grow
abbrev pub room : List ℕ → List (List ℕ × Vec ℕ Global) → ℕ
room name [] = 0
room name (file ∷ files) = if pointwise nat_eq file.0 name then vec_capacity file.1 - vec_len file.1 else room name files

-- all bytes from a place on that a piece of that length holds
abbrev pub given_from : List ℕ → ℕ → ℕ → Got
given_from bytes at most = if nat_le (length bytes) at then got.End else got.Bytes (min (length bytes - at) most)

-- what a read of a file answers; the flag says that the call is to fail
abbrev pub read_answer : Option (List ℕ) → Bool → ℕ → ℕ → Got
read_answer None to_fail at most = got.Failed
read_answer (Some bytes) true at most = got.Failed
read_answer (Some bytes) false at most = given_from bytes at most

-- the count of faults after a read: a file that is not there is none
abbrev pub faults_after_read : Option (List ℕ) → Got → ℕ → ℕ
faults_after_read None answer faults = faults
faults_after_read (Some bytes) answer faults = faults_after_got answer faults

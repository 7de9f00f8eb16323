-- A name of a number that no source has.
use Rattle.std.proofs.Common.{◌≡◌, ℕ, zero, suc, List, [], ◌∷◌, None, refl}
use Rattle.std.specs.Prelude.{String, slice_get, slice_index_or}
use Rattle.std.specs.declared.alloc.Global.{Global}
use Rattle.cc_files.specs.Unread.{names_of}

pub name_none : (names : List (String Global)) (k : ℕ) → slice_get names k ≡ None → slice_index_or (names_of names) k [] ≡ []
name_none [] k e = refl
name_none (n ∷ names) zero e = absurd (cc)
name_none (n ∷ names) (suc k) e = name_none names k e

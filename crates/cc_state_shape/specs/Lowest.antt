-- The lowest facts of a program: nothing is reached, nothing is marked, and each set is empty.
use Rattle.std.specs.Prelude.{◌≡◌, ℤ, Bool, false, length, replicate, Option, Some, None}
use Rattle.std.specs.List.{AllZip}
use Rattle.cc_state_reads.specs.CcFlow.Points.{count_of}
use Rattle.cc_state_reads.specs.CcPlaces.declared.abs.Abs.{Abs}
use Rattle.cc_program.specs.declared.func.Func.{Func}
use Rattle.cc_program.specs.declared.program.Program.{Program}
use Rattle.cc_program.specs.declared.types.CType.{CType}
use Rattle.cc_program.specs.declared.types.Sig.{out-Sig}
use Rattle.cc_state.specs.Shape.{ctype_of}
use Rattle.cc_state_reads.specs.CcStateFacts.declared.facts.Facts.{Facts}
use Rattle.cc_state_reads.specs.CcStateFacts.declared.facts.Key.{Key}
use Rattle.cc_state_reads.specs.CcStateKeys.Keys.{keys_of}
use Rattle.cc_state_shape.specs.Empty.{holds_addresses, IsNone}

abbrev pub declared_addresses : Option CType → Bool
declared_addresses None = false
declared_addresses (Some t) = holds_addresses t

-- whether the cells of a key hold addresses, and whether a function gives one
abbrev pub key_addresses : Program → Key → Bool
key_addresses p k = declared_addresses (ctype_of p k)

abbrev pub result_addresses : Func → Bool
result_addresses f = holds_addresses (out-Sig f.sig).result

module _ {I : Type 0} (has : I → ℤ → Type 0) where
  abbrev pub IsNoneOfKey : Program → Key → Abs I → Type 0
  IsNoneOfKey p k y = IsNone has (key_addresses p k) y

  abbrev pub IsNoneOfResult : Func → Abs I → Type 0
  IsNoneOfResult f y = IsNone has (result_addresses f) y

  pub record AreLowest (p : Program) (facts : Facts I) : Type 0 where
    pub keys : facts.keys ≡ keys_of p
    pub whole : AllZip (IsNoneOfKey p) (keys_of p) facts.whole
    pub results : AllZip IsNoneOfResult p.funcs facts.results
    pub by_main : facts.by_main ≡ replicate (length p.funcs) false
    pub by_handler : facts.by_handler ≡ replicate (length p.funcs) false
    pub levels : facts.levels ≡ replicate (length p.funcs) 0
    pub from : facts.from ≡ replicate (length p.funcs) 0
    pub handler_reads : facts.handler_reads ≡ replicate (length (keys_of p)) false
    pub handler_writes : facts.handler_writes ≡ replicate (length (keys_of p)) false
    pub read_levels : facts.read_levels ≡ replicate (length (keys_of p)) 0
    pub write_levels : facts.write_levels ≡ replicate (length (keys_of p)) 0
    pub at : facts.at ≡ replicate (count_of p) None

use Rattle.std.proofs.Common.{◌≡◌, length}
use Rattle.std.specs.List.{All}
use Rattle.cases_domains.specs.declared.chain.Truth.TheVariants.{No}
use Rattle.cases_domains.specs.Chain.{numbers}
use Rattle.cases_domains.proofs.chain.ChainSystem.lowest.Given as goal

abbrev pub invariant-loop-key : goal.invariant-loop-key
invariant-loop-key l = (l.keys.items ≡ numbers l.key) × (length l.parts.items ≡ l.key) × All (λ part. part ≡ No) l.parts.items

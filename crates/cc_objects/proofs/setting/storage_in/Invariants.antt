use Rattle.std.proofs.Common.{◌≡◌, drop}
use Rattle.cc_objects.specs.Categories.{storage_in}
use Rattle.cc_objects.proofs.setting.storage_in.Given as goal

abbrev pub invariant-loop-spec : goal.invariant-loop-spec
invariant-loop-spec l = storage_in (drop l.spec-index l.specs) ≡ storage_in l.specs

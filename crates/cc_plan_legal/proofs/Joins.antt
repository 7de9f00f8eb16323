-- Lists that are joined.
use Rattle.std.proofs.Common.{append_assoc}
use Rattle.std.proofs.lemmas.List.{append-nil}

pub ruleset joins = (append_assoc, append-nil)

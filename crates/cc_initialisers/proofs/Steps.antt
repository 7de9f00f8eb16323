-- Steps behind others.
use Rattle.std.proofs.Common.{append_assoc}
use Rattle.std.proofs.lemmas.List.{append-nil, map-append}

pub ruleset of_steps = (append_assoc, append-nil, map-append)

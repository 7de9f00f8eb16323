-- The law, by those of the domain.
use Rattle.cc_state_room.proofs.Rising.{facts_fall}
use Rattle.cc_state_room.proofs.law.laws.Goals as goal

pub returns : goal.returns
returns g c =
    let i = g.met.I.IntDomain in
    record { falls = λ most f h few alike small below differ. facts_fall g.I.Lattice.IsBelow most g.I.IntDomain.room_of few i.room_bound i.room_falls f h alike small below differ }

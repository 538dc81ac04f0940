use Rattle.session_maker.specs.contracts.laws.made_sessions_decode.{S-type}
use Rattle.session_maker.proofs.Decoding.{made_sessions_decode}
use Rattle.session_maker.proofs.laws.made_sessions_decode.Goals as goal

pub returns : goal.returns
returns g c = made_sessions_decode (S-type g.row.S)

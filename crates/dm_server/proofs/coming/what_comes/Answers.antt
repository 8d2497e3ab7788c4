use Rattle.std.proofs.Common.{◌∙◌, ap, sym}
use Rattle.std.specs.Prelude.{option_map}
use Rattle.dm_server.specs.Inside.{session_in}
use Rattle.dm_server.proofs.Services.{first_comes, strange}
use Rattle.dm_server.proofs.coming.what_comes.Goals as goal

pub returns-in_default : goal.returns-in_default
returns-in_default c v nonce session = strange v c.args.message.now nonce (sym c.in_default.ensures)

pub returns-in-None : goal.returns-in-None
returns-in-None c v nonce session =
    first_comes v c.args.message.now nonce c.in-Some.number (sym c.in-Some.ensures)
    (session ∙ ap (option_map session_in) c.in-None.is)

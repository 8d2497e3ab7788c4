use Rattle.std.proofs.Common.{rules, ◌≡◌}
use Rattle.std.specs.Io.KnownBytes.{Appends}
use Rattle.dm_http.specs.Texts.{request_text}
use Rattle.dm_http.proofs.Putting.{put_whole}
use Rattle.dm_http.proofs.FirstAsk.{unasked, untaken}
use Rattle.dm_http.proofs.posting.post.Goals as goal

pub returns-in-Ok-put_all-clause-request : goal.returns-in-Ok-put_all-clause-request
returns-in-Ok-put_all-clause-request g c =
    let put : Appends (g.C.Sink.got c.args.conn.now) (g.C.Sink.got c.receive.new.src)
    (request_text c.args.host.now c.args.path.now c.args.body.now) = search rules in
    put_whole _ _ _ _ put

pub returns-in-Err-Failed-clause-asked : goal.returns-in-Err-Failed-clause-asked
returns-in-Err-Failed-clause-asked g c =
    let same : g.C.Source.left c.put_all.new.out ≡ g.C.Source.left c.args.conn.now = search rules in
    unasked _ _ same

pub returns-clause-asked : goal.returns-clause-asked
returns-clause-asked g c =
    let same : g.C.Source.left c.put_all.new.out ≡ g.C.Source.left c.args.conn.now = search rules in
    untaken _ _ same

use Rattle.std.proofs.Common.{rules, ◌≡◌}
use Rattle.dm_heads.specs.declared.errors.HttpError.TheVariants as error
use Rattle.dm_http.proofs.Served.{serves_read, serves_unread, never_for_status}
use Rattle.dm_http.proofs.serving.serve_one.Goals as goal

pub returns-in-Ok-clause-serves : goal.returns-in-Ok-clause-serves
returns-in-Ok-clause-serves g c =
    let left : g.C.Source.left c.answer.new.conn ≡ g.C.Source.left c.receive.new.src = search rules in
    let got : g.C.Sink.got c.receive.new.src ≡ g.C.Sink.got c.args.conn.now = search rules in
    serves_read _ _ _ _ _ _ _ _ _ _ _ _ _ c.as_slice.ensures c.in-Ok.ensures.bytes left got c.answer.ensures.bytes

pub returns-in-Err-BadHead-clause-serves : goal.returns-in-Err-BadHead-clause-serves
returns-in-Err-BadHead-clause-serves g c =
    let left : g.C.Source.left c.refuse.new.conn ≡ g.C.Source.left c.receive.new.src = search rules in
    let got : g.C.Sink.got c.receive.new.src ≡ g.C.Sink.got c.args.conn.now = search rules in
    serves_unread _ _ _ _ _ _ _ _ _ _ error.BadHead _ c.in-Err-BadHead.field-0-is tt c.in-Err-BadHead.ensures.bytes
    left got c.refuse.ensures.bytes

pub returns-in-Err-TooLong-clause-serves : goal.returns-in-Err-TooLong-clause-serves
returns-in-Err-TooLong-clause-serves g c =
    let left : g.C.Source.left c.refuse-in-Err-TooLong.new.conn ≡ g.C.Source.left c.receive.new.src = search rules in
    let got : g.C.Sink.got c.receive.new.src ≡ g.C.Sink.got c.args.conn.now = search rules in
    serves_unread _ _ _ _ _ _ _ _ _ _ error.TooLong _ c.in-Err-TooLong.field-0-is tt c.in-Err-TooLong.ensures.bytes
    left got c.refuse-in-Err-TooLong.ensures.bytes

pub returns-in-Err-Cut-clause-serves : goal.returns-in-Err-Cut-clause-serves
returns-in-Err-Cut-clause-serves g c =
    let left : g.C.Source.left c.refuse-in-Err-Cut.new.conn ≡ g.C.Source.left c.receive.new.src = search rules in
    let got : g.C.Sink.got c.receive.new.src ≡ g.C.Sink.got c.args.conn.now = search rules in
    serves_unread _ _ _ _ _ _ _ _ _ _ error.Cut _ c.in-Err-Cut.field-0-is tt c.in-Err-Cut.ensures.bytes
    left got c.refuse-in-Err-Cut.ensures.bytes

pub returns-in-Err-NotOk-clause-serves : goal.returns-in-Err-NotOk-clause-serves
returns-in-Err-NotOk-clause-serves g c = absurd (never_for_status _ _ _ _ c.in-Err-NotOk.field-0-is c.in-Err-NotOk.ensures.bytes)

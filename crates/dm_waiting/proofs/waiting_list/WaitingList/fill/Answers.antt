use Rattle.std.proofs.Common.{List, ◌∙◌, ap, subst, sym}
use Rattle.std.specs.List.{AllByRecursion}
use Rattle.syncml_types.specs.Canonical.{canonical}
use Rattle.dm_pack.specs.Entries.{Entry}
use Rattle.dm_pack.specs.Filling.{fill, CanBeTaken}
use Rattle.dm_service.specs.Service.{Waiting}
use Rattle.dm_service.specs.Sending.{goes_out}
use Rattle.dm_waiting.specs.Held.{IsNumbered}
use Rattle.dm_waiting.specs.Inside.{IsMessageOf}
use Rattle.dm_waiting.proofs.Beside.{entries_are}
use Rattle.dm_waiting.proofs.Filling.{is_of, ready_entries}
use Rattle.dm_waiting.proofs.Out.{out_numbered}
use Rattle.dm_waiting.proofs.waiting_list.WaitingList.fill.Goals as goal

pub fill-requires-clause-ready : goal.fill-requires-clause-ready
fill-requires-clause-ready c =
    ready_entries c.self.inside.queue c.self.inside.loads.items c.args.self.now c.self.invariant c.self.view_is
    c.requires.ready

pub note-requires : goal.note-requires
note-requires c =
    let are = entries_are c.self.inside.queue c.self.inside.loads.items c.args.self.now c.self.invariant
    c.self.view_is in
    let f = c.in_ok-filled.filled in
    let e = c.in_ok-filled.ensures in
    subst (λ (es : List Entry). IsMessageOf es f) (sym are)
    (is_of c.self.inside.queue c.args.header c.args.room c.args.heard f e.message e.bytes e.whole e.cut e.taken e.within
    c.requires.room.1)

pub returns-clause-message : goal.returns-clause-message
returns-clause-message c =
    let are = entries_are c.self.inside.queue c.self.inside.loads.items c.args.self.now c.self.invariant
    c.self.view_is in
    c.in_ok-filled.ensures.message
    ∙ ap (λ (es : List Entry). (fill es c.args.header c.args.room c.args.heard).message) (sym are)

pub returns-clause-bytes : goal.returns-clause-bytes
returns-clause-bytes c = c.in_ok-filled.ensures.bytes ∙ sym (ap canonical c.in_ok-filled.ensures.message)

pub returns-clause-whole : goal.returns-clause-whole
returns-clause-whole c =
    let are = entries_are c.self.inside.queue c.self.inside.loads.items c.args.self.now c.self.invariant
    c.self.view_is in
    c.in_ok-filled.ensures.whole
    ∙ ap (λ (es : List Entry). (fill es c.args.header c.args.room c.args.heard).whole) (sym are)

pub returns-clause-cut : goal.returns-clause-cut
returns-clause-cut c =
    let are = entries_are c.self.inside.queue c.self.inside.loads.items c.args.self.now c.self.invariant
    c.self.view_is in
    c.in_ok-filled.ensures.cut
    ∙ ap (λ (es : List Entry). (fill es c.args.header c.args.room c.args.heard).cut) (sym are)

pub returns-clause-tail : goal.returns-clause-tail
returns-clause-tail c =
    let are = entries_are c.self.inside.queue c.self.inside.loads.items c.args.self.now c.self.invariant
    c.self.view_is in
    c.in_ok-filled.ensures.tail
    ∙ ap (λ (es : List Entry). (fill es c.args.header c.args.room c.args.heard).tail) (sym are)

pub returns-clause-taken : goal.returns-clause-taken
returns-clause-taken c =
    let are = entries_are c.self.inside.queue c.self.inside.loads.items c.args.self.now c.self.invariant
    c.self.view_is in
    let f = c.in_ok-filled.filled in
    subst (λ (es : List Entry). CanBeTaken es f.whole f.cut) (sym are) c.in_ok-filled.ensures.taken

pub returns-clause-numbered : goal.returns-clause-numbered
returns-clause-numbered c =
    let f = c.in_ok-filled.filled in
    subst (λ (ws : List Waiting). AllByRecursion IsNumbered (goes_out c.args.msg 1 f.whole f.cut ws)) c.self.view_is
    (out_numbered c.args.msg 1 f.whole f.cut c.self.inside.queue c.self.inside.loads.items c.self.invariant)

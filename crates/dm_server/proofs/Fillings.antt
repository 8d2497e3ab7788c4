-- The message that is sent next, as the machine sends it.
use Rattle.std.proofs.Common.{◌≡◌, ◌+◌, ◌++◌, ℕ, Bool, true, List, length}
use Rattle.std.proofs.Common.{drop, take, Some, refl, sym, ap, ◌∙◌, subst}
use Rattle.std.specs.Prelude.{Option, Result, Ok, Err, OnErr}
use Rattle.syncml_types.specs.declared.values.Header.{Header}
use Rattle.syncml_types.specs.Message.{Parts}
use Rattle.dm_job.specs.declared.job.Job.{Job}
use Rattle.dm_pack.specs.declared.filled.Filled.{Filled}
use Rattle.dm_pack.specs.Entries.{Entry}
use Rattle.dm_pack.specs.Filling.{Filling, fill, left_after}
use Rattle.dm_report.specs.Known.{Known, GatheredSoFar}
use Rattle.dm_service.specs.declared.progress.ServiceProgress.{ServiceProgress}
use Rattle.dm_service.specs.declared.sent.Sent.{Sent}
use Rattle.dm_service.specs.Sending.{header_for, goes_out, carried_on, is_last, runs_in_after, standing_sent, sends}
use Rattle.dm_service.specs.Service.{Waiting, Service, entries_of}
use Rattle.dm_server.specs.declared.held.Run.{Run}
use Rattle.dm_server.specs.declared.held.Outbox.{Outbox}
use Rattle.dm_server.specs.Inside.{at_work, service_of, session_with}
use Rattle.dm_server.specs.Working.{HasMoreBehind, HasSentMore}

abbrev pub filling_of : Service → ServiceProgress → Parts → Filling
filling_of v p m = fill (entries_of v.queue) (header_for v p m) p.standing.room p.standing.heard

left-is : (es : List Entry) (header : Header) (room : ℕ) (heard : Bool)
    → (fill es header room heard).left
    ≡ left_after es (fill es header room heard).whole (fill es header room heard).cut
unfolding fill left_after
left-is es header room heard = refl

-- how far the session is then
abbrev pub sent_progress : ServiceProgress → Filling → Bool → ServiceProgress
sent_progress p f over = record p { standing = standing_sent p.standing f; answered = true; is_over = over }

pub sent_is : (job : Job) (run : Run) (p next : ServiceProgress) (o now : Outbox) (g : GatheredSoFar) (k : Known)
    (before : Option Parts) (m : Parts) (code : ℕ) (filled : Filled) (runs : Option ℕ) (over : Bool) (f : Filling)
    → f ≡ filling_of (at_work job run p o g k before) p m
    → filled.message ≡ f.message → filled.whole ≡ f.whole → filled.cut ≡ f.cut
    → now.queue
    ≡ carried_on (left_after (entries_of o.queue) filled.whole filled.cut) (drop filled.whole o.queue)
    → now.sent ≡ o.sent ++ goes_out (p.standing.own + 1) 1 filled.whole filled.cut o.queue
    → next ≡ sent_progress p f over
    → over ≡ is_last (at_work job run p o g k before) p.standing m code f
    → runs ≡ runs_in_after run.runs_in p.number (goes_out (p.standing.own + 1) 1 filled.whole filled.cut o.queue)
    → at_work job (record run { runs_in = runs }) next now g k (Some filled.message)
    ≡ sends (at_work job run p o g k before) (session_with p o g) m code
unfolding sends
sent_is job run p next o now g k before m code filled runs over f is message whole cut queue sent next_is over_is
    runs_is =
    ap (λ q. build q runs next now.sent filled.message) (queue ∙ left)
    ∙ ap (λ r. build (waits f) r next now.sent filled.message) (runs_is ∙ ap (runs_in_after run.runs_in p.number) out)
    ∙ ap (λ n. build (waits f) (runs_of f) n now.sent filled.message)
    (next_is ∙ ap (sent_progress p f) over_is)
    ∙ ap (λ ss. build (waits f) (runs_of f) (progress_of f) ss filled.message) (sent ∙ ap (λ ss. o.sent ++ ss) out)
    ∙ ap (build (waits f) (runs_of f) (progress_of f) (o.sent ++ out_of f)) message
    ∙ ap (λ x. build (waits x) (runs_of x) (progress_of x) (o.sent ++ out_of x) x.message) is
  where
    v : Service
    v = at_work job run p o g k before

    es : List Entry
    es = entries_of o.queue

    out_of : Filling → List Sent
    out_of x = goes_out (p.standing.own + 1) 1 x.whole x.cut o.queue

    waits : Filling → List Waiting
    waits x = carried_on x.left (drop x.whole o.queue)

    runs_of : Filling → Option ℕ
    runs_of x = runs_in_after run.runs_in p.number (out_of x)

    progress_of : Filling → ServiceProgress
    progress_of x = sent_progress p x (is_last v p.standing m code x)

    build : List Waiting → Option ℕ → ServiceProgress → List Sent → Parts → Service
    build q r n ss x =
        service_of job (record run { runs_in = r }) q k
        (Some (record { progress = n; object = g.object; sent = ss })) (Some x)

    out : goes_out (p.standing.own + 1) 1 filled.whole filled.cut o.queue ≡ out_of f
    out =
        ap (λ n. goes_out (p.standing.own + 1) 1 n filled.cut o.queue) whole
        ∙ ap (λ n. goes_out (p.standing.own + 1) 1 f.whole n o.queue) cut

    of_left : f.left ≡ left_after es f.whole f.cut
    of_left =
        subst (λ (x : Filling). x.left ≡ left_after es x.whole x.cut) (sym is)
        (left-is es (header_for v p m) p.standing.room p.standing.heard)

    left : carried_on (left_after es filled.whole filled.cut) (drop filled.whole o.queue) ≡ waits f
    left =
        ap (λ n. carried_on (left_after es n filled.cut) (drop n o.queue)) whole
        ∙ ap (λ n. carried_on (left_after es f.whole n) (drop f.whole o.queue)) cut
        ∙ ap (λ l. carried_on l (drop f.whole o.queue)) (sym of_left)

-- ---- what waited before it

pub more_behind : {X E : Type 0} (r : Result X E) (o now next : Outbox) (g after : GatheredSoFar) (k known : Known)
    → take (length o.queue) now.queue ≡ o.queue → now.sent ≡ o.sent
    → OnErr r (HasSentMore now next g after k known) → OnErr r (HasMoreBehind o next g after k known)
more_behind (Ok x) o now next g after k known front sent e = tt
more_behind (Err x) o now next g after k known front sent e = record {
  queue = ap (take (length o.queue)) e.queue ∙ front;
  sent = subst (λ (ss : List Sent). take (length ss) next.sent ≡ ss) sent e.sent;
  gathering = e.gathering;
  findings = e.findings;
}

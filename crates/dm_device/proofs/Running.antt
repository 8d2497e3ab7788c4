-- A run, from its parts.
use Rattle.std.proofs.Common.{◌≡◌, ◌+◌, ◌++◌, ℕ, Bool, true, false, List, [], ◌∷◌, refl, sym, ap, subst, ◌∙◌, arith}
use Rattle.std.proofs.Common.{if◌then◌else◌}
use Rattle.std.proofs.Common.{Ok, Err, Some, None, append-nil}
use Rattle.std.specs.Prelude.{Option, Result}
use Rattle.std.specs.Io.KnownBytes.{Appends}
use Rattle.dm_base.specs.declared.bytes.Memory.{Memory}
use Rattle.dm_machine.specs.declared.kinds.Initiator.TheVariants.{ByClient}
use Rattle.dm_machine.specs.Machine.{Machine}
use Rattle.dm_machine.specs.Events.{act, opened}
use Rattle.dm_machine.specs.History.{next}
use Rattle.dm_outside.specs.declared.told.Update.{Update}
use Rattle.dm_outside.specs.Calls.{Calls}
use Rattle.dm_outside.specs.Updates.{Updates}
use Rattle.dm_base.specs.declared.outside.Fault.TheVariants as fault
use Rattle.dm_session.specs.View.{package_started}
use Rattle.dm_exit.specs.declared.exit.Exit.{Exit}
use Rattle.dm_exit.specs.declared.exit.Exit.TheVariants as exit
use Rattle.dm_exit.specs.Puts.{PutsPrefix, PutsPart}
use Rattle.dm_device.specs.declared.exchanging.ReplyHeard.{ReplyHeard}
use Rattle.dm_device.specs.declared.tally.Word.{Word}
use Rattle.dm_device.specs.declared.tally.Word.TheVariants as word
use Rattle.dm_http.specs.Texts.{request_text}
use Rattle.dm_device.specs.Exchanges.{Exchanges}
use Rattle.dm_device.specs.Outsides.{Outside, outside_of, OfTold}
use Rattle.dm_device.specs.Sessions.{Going, SessionRun, session, bytes_or_none}
use Rattle.dm_device.specs.Holding.{session_at, SessionDoes, SessionHolds}
use Rattle.dm_device.specs.Runs.{Route, Heards, heard_in, Run, line_by, session_line, session_part, closing}
use Rattle.dm_device.specs.Runs.{closing_by, last_session, given_part, follow_up}
use Rattle.dm_device.specs.Runs.{leaves_update, behind_first, device_run, exit_of_word, ended_well, IsDone, IsCut}
use Rattle.dm_device.specs.Runs.{EndsPart, IsRun, behind_session}
use Rattle.dm_device.specs.Ending.{IsCutShort, HoldDoes, unheard, PartDoes, CloseDoes, Gave}
use Rattle.dm_device.specs.Ending.{InstallDoes, FollowDoes}
use Rattle.dm_device.proofs.Putting.{empty_prefix}
use Rattle.dm_device.proofs.Told.{told_as, if_told}
use Rattle.dm_device.proofs.Joining.{all_in_part, cut_first, cut_second, ends_both, in_order, first_alone}

-- ---- a session and its line

cut_text : (old new : Option (List ℕ)) (text : List ℕ) (e : Exit) → PutsPart old new text e → PutsPrefix old new text
cut_text old new text exit.WriteFault p = p
cut_text old new text exit.NoMemory p = p
cut_text old new text other p = absurd p

held : (address path : List ℕ) (number : ℕ) (c d : Machine) (w : Word) (old new : Option (List ℕ))
    (before after : Outside)
    → SessionDoes address path c d (Ok w) before after → Appends old new (session_line number w)
    → HoldDoes address path number c d old new (Ok w) before after
held address path number c d w old new before after does put =
    let over = does.1 in (
      does.0,
      record {
        posts = over.posts;
        updates = over.updates ∙ sym (append-nil before.updates);
        nonces = over.nonces;
        text = subst (λ v. Appends old new (line_by number v)) (sym over.word) put;
      },
      over.word,
      over.machine,
    )

held_in_part : (address path : List ℕ) (number : ℕ) (c d : Machine) (w : Word) (e : Exit) (old new : Option (List ℕ))
    (before after : Outside) → SessionDoes address path c d (Ok w) before after
    → PutsPart old new (session_line number w) e → HoldDoes address path number c d old new (Err e) before after
held_in_part address path number c d w e old new before after does put =
    let over = does.1 in (
      does.0,
      record {
        posts = all_in_part address (session_at address path c before.nonces does.0).requests does.0 before.calls
            after.calls over.posts;
        given = 0;
        updates = over.updates ∙ sym (append-nil before.updates);
        used = 0;
        few = omega arith;
        nonces = over.nonces;
        text = subst (λ v. PutsPrefix old new (line_by number v)) (sym over.word) (cut_text old new _ e put);
      },
    )

unfinished : (address path : List ℕ) (number : ℕ) (c d : Machine) (m : Memory) (e : Exit) (old : Option (List ℕ))
    (before after : Outside) → SessionDoes address path c d (Err m) before after
    → HoldDoes address path number c d old old (Err e) before after
unfinished address path number c d m e old before after does =
    let cut = does.1 in (
      does.0,
      record {
        posts = cut.posts;
        given = 0;
        updates = cut.updates ∙ sym (append-nil before.updates);
        used = cut.nonces.0;
        few = cut.nonces.1;
        nonces = cut.nonces.2;
        text = subst (λ v. PutsPrefix old old (line_by number v)) (sym cut.word) (empty_prefix old []);
      },
    )

pub held_told : (told0 told1 : Option Calls) (us : Option (List Update)) (left0 left1 : Option (List (List ℕ)))
    (address path : List ℕ) (number : ℕ) (c d : Machine) (w : Word) (old new : Option (List ℕ))
    → SessionHolds told0 told1 left0 left1 c d address path (Ok w) → Appends old new (session_line number w)
    → OfTold (outside_of told0 us left0) (outside_of told1 us left1) (HoldDoes address path number c d old new (Ok w))
unfolding SessionHolds
held_told told0 told1 us left0 left1 address path number c d w old new holds put =
    told_as (outside_of told0 us left0) (outside_of told1 us left1) _ _
    (λ s t does. held address path number c d w old new s t does put) (holds us)

pub held_in_part_told : (told0 told1 : Option Calls) (us : Option (List Update)) (left0 left1 : Option (List (List ℕ)))
    (address path : List ℕ) (number : ℕ) (c d : Machine) (w : Word) (e : Exit) (old new : Option (List ℕ))
    → SessionHolds told0 told1 left0 left1 c d address path (Ok w) → PutsPart old new (session_line number w) e
    → OfTold (outside_of told0 us left0) (outside_of told1 us left1) (HoldDoes address path number c d old new (Err e))
unfolding SessionHolds
held_in_part_told told0 told1 us left0 left1 address path number c d w e old new holds put =
    told_as (outside_of told0 us left0) (outside_of told1 us left1) _ _
    (λ s t does. held_in_part address path number c d w e old new s t does put) (holds us)

pub unfinished_told : (told0 told1 : Option Calls) (us : Option (List Update)) (left0 left1 : Option (List (List ℕ)))
    (address path : List ℕ) (number : ℕ) (c d : Machine) (m : Memory) (e : Exit) (old : Option (List ℕ))
    → SessionHolds told0 told1 left0 left1 c d address path (Err m)
    → OfTold (outside_of told0 us left0) (outside_of told1 us left1) (HoldDoes address path number c d old old (Err e))
unfolding SessionHolds
unfinished_told told0 told1 us left0 left1 address path number c d m e old holds =
    told_as (outside_of told0 us left0) (outside_of told1 us left1) _ _
    (λ s t does. unfinished address path number c d m e old s t does) (holds us)

-- ---- the farewell and the tree

pub calls_told : (told0 told1 : Option Calls) (us : Option (List Update)) (ns : Option (List (List ℕ)))
    (P : Calls → Calls → Type 0) → OfTold told0 told1 P
    → OfTold (outside_of told0 us ns) (outside_of told1 us ns)
    (λ s t. P s.calls t.calls × (t.updates ≡ s.updates) × (t.nonces ≡ s.nonces))
calls_told None told1 us ns P p = tt
calls_told (Some s) told1 None ns P p = tt
calls_told (Some s) told1 (Some us) None P p = tt
calls_told (Some s) None (Some us) (Some ns) P p = absurd p
calls_told (Some s) (Some t) (Some us) (Some ns) P p = (p, refl, refl)

pub updates_told : (told : Option Calls) (us0 us1 : Option (List Update)) (ns : Option (List (List ℕ)))
    (P : List Update → List Update → Type 0) → OfTold us0 us1 P
    → OfTold (outside_of told us0 ns) (outside_of told us1 ns)
    (λ s t. P s.updates t.updates × (t.calls ≡ s.calls) × (t.nonces ≡ s.nonces))
updates_told None us0 us1 ns P p = tt
updates_told (Some s) None us1 ns P p = tt
updates_told (Some s) (Some us) us1 None P p = tt
updates_told (Some s) (Some us) None (Some ns) P p = absurd p
updates_told (Some s) (Some us) (Some vs) (Some ns) P p = (p, refl, refl)

-- ---- the end

cut_ends : (address : List ℕ) (r : Run) (hs : List ReplyHeard) (e : Exit) (s t : Outside) (old new : Option (List ℕ))
    → IsCutShort e → IsCut address r hs s t old new → EndsPart address r hs e s t old new
cut_ends address r hs exit.WriteFault s t old new is p = p
cut_ends address r hs exit.NoMemory s t old new is p = p
cut_ends address r hs other s t old new is p = absurd is

ends_as : (address : List ℕ) (r : Run) (hs : List ReplyHeard) (w : Word) (s t : Outside) (old new : Option (List ℕ))
    → IsDone address r hs s t old new → r.exit ≡ Some (exit_of_word w)
    → EndsPart address r hs (exit_of_word w) s t old new
ends_as address r hs word.Finished s t old new p is = (p, is)
ends_as address r hs word.Aborted s t old new p is = (p, is)
ends_as address r hs word.Denied s t old new p is = (p, is)
ends_as address r hs word.GaveUp s t old new p is = (p, is)
ends_as address r hs word.Peer s t old new p is = (p, is)

pub part_is_short : (old new : Option (List ℕ)) (text : List ℕ) (e : Exit) → PutsPart old new text e → IsCutShort e
part_is_short old new text exit.WriteFault p = tt
part_is_short old new text exit.NoMemory p = tt
part_is_short old new text other p = absurd p

-- what a farewell did, seen from all of the outside
abbrev pub Parted : List ℕ → List (List ℕ) → Result (Unit {0}) Memory → Outside → Outside → Type 0
Parted address requests r s t =
    PartDoes address requests r s.calls t.calls × (t.updates ≡ s.updates) × (t.nonces ≡ s.nonces)

pub closes_whole : (told0 told1 : Option Calls) (us : Option (List Update)) (ns : Option (List (List ℕ))) (r : Route)
    (c : Machine) (w : Word) (u : Unit {0}) (old new : Option (List ℕ))
    → OfTold told0 told1 (PartDoes r.address (closing r c [] w).requests (Ok u))
    → Appends old new (closing r c [] w).text
    → OfTold (outside_of told0 us ns) (outside_of told1 us ns) (CloseDoes r c w old new (exit_of_word w))
closes_whole told0 told1 us ns r c w u old new parts put =
    told_as (outside_of told0 us ns) (outside_of told1 us ns) _ _
    (λ s t p. (
      p.0.0,
      ends_as r.address (closing r c s.nonces w) p.0.0 w s t old new
          (record {
            posts = p.0.1;
            updates = p.1 ∙ sym (append-nil s.updates);
            nonces = p.2;
            text = put;
          })
          refl,
    ))
    (calls_told told0 told1 us ns _ parts)

pub closes_in_part : (told0 told1 : Option Calls) (us : Option (List Update)) (ns : Option (List (List ℕ))) (r : Route)
    (c : Machine) (w : Word) (e : Exit) (u : Unit {0}) (old new : Option (List ℕ))
    → OfTold told0 told1 (PartDoes r.address (closing r c [] w).requests (Ok u))
    → PutsPart old new (closing r c [] w).text e
    → OfTold (outside_of told0 us ns) (outside_of told1 us ns) (CloseDoes r c w old new e)
closes_in_part told0 told1 us ns r c w e u old new parts put =
    told_as (outside_of told0 us ns) (outside_of told1 us ns) _ _
    (λ s t p. (
      p.0.0,
      cut_ends r.address (closing r c s.nonces w) p.0.0 e s t old new (part_is_short old new _ e put)
          (record {
            posts = all_in_part r.address (closing r c [] w).requests p.0.0 s.calls t.calls p.0.1;
            given = 0;
            updates = p.1 ∙ sym (append-nil s.updates);
            used = 0;
            few = omega arith;
            nonces = p.2;
            text = cut_text old new _ e put;
          }),
    ))
    (calls_told told0 told1 us ns _ parts)

pub closes_for_memory : (told0 told1 : Option Calls) (us : Option (List Update)) (ns : Option (List (List ℕ)))
    (r : Route)
    (c : Machine) (w : Word) (m : Memory) (old : Option (List ℕ))
    → OfTold told0 told1 (PartDoes r.address (closing r c [] w).requests (Err m))
    → OfTold (outside_of told0 us ns) (outside_of told1 us ns) (CloseDoes r c w old old exit.NoMemory)
closes_for_memory told0 told1 us ns r c w m old parts =
    told_as (outside_of told0 us ns) (outside_of told1 us ns) _ _
    (λ s t p. (
      [],
      record {
        posts = p.0;
        given = 0;
        updates = p.1 ∙ sym (append-nil s.updates);
        used = 0;
        few = omega arith;
        nonces = p.2;
        text = empty_prefix old (closing r c [] w).text;
      },
    ))
    (calls_told told0 told1 us ns _ parts)

-- ---- a session that no other follows

closing_nonces : (r : Route) (c : Machine) (n : List (List ℕ)) (o : Option Word) → (closing_by r c n o).nonces ≡ n
closing_nonces r c n None = refl
closing_nonces r c n (Some w) = refl

last_ends : (r : Route) (number : ℕ) (x : SessionRun) (hs : List ReplyHeard) (d : Machine) (w : Word) (e : Exit)
    (s t u : Outside)
    (old mid new : Option (List ℕ)) → IsDone r.address (session_part number x) hs s t old mid → x.word ≡ Some w
    → x.going.machine ≡ d → CloseDoes r d w mid new e t u
    → (parting : List ReplyHeard) × EndsPart r.address (last_session r number x) (hs ++ parting) e s u old new
last_ends r number x hs d w e s t u old mid new done over is closes =
    let same : closing_by r x.going.machine x.going.nonces x.word ≡ closing r d t.nonces w =
    ap (closing_by r x.going.machine x.going.nonces) over ∙ ap (λ c. closing r c x.going.nonces w) is
    ∙ ap (λ n. closing r d n w) (sym done.nonces) in (
      closes.0,
      ends_both r.address (session_part number x) (closing_by r x.going.machine x.going.nonces x.word) hs closes.0 e
          s t u
          old mid new done (subst (λ z. EndsPart r.address z closes.0 e t u mid new) (sym same) closes.1),
    )

last_cut : (r : Route) (number : ℕ) (x : SessionRun) (hs : List ReplyHeard) (s t : Outside) (old new : Option (List ℕ))
    → IsCut r.address (session_part number x) hs s t old new → IsCut r.address (last_session r number x) hs s t old new
last_cut r number x hs s t old new cut =
    cut_first r.address (session_part number x) (closing_by r x.going.machine x.going.nonces x.word) hs s t old new
    (closing_nonces r x.going.machine x.going.nonces x.word) cut

-- ---- an update and the session behind it

keeps_all : (old : Option (List ℕ)) → Appends old old []
keeps_all None = tt
keeps_all (Some xs) = sym (append-nil xs)

updated : (address : List ℕ) (c : Machine) (answer : Option Bool) (s t : Outside) (old : Option (List ℕ))
    → Gave c answer s.updates t.updates → t.calls ≡ s.calls → t.nonces ≡ s.nonces
    → IsDone address (given_part c s.nonces answer) [] s t old old
updated address c answer s t old gave calls nonces = record {
  posts = record { dials = []; made = ap (λ (k : Calls). k.log) calls ∙ sym (append-nil s.calls.log); matched = tt };
  updates = gave;
  nonces = nonces;
  text = keeps_all old;
}

pub follows_whole : (r : Route) (account number : ℕ) (c d e : Machine) (answer : Option Bool) (w : Word) (x : Exit)
    (s t u v : Outside) (old mid new : Option (List ℕ))
    → Gave c answer s.updates t.updates → d ≡ next (next c (act (ended_well answer))) (opened account ByClient number)
    → t.calls ≡ s.calls → t.nonces ≡ s.nonces
    → HoldDoes r.address r.path number d e old mid (Ok w) t u → CloseDoes r e w mid new x u v
    → FollowDoes r account number c old new x s v
follows_whole r account number c d e answer w x s t u v old mid new gave is calls nonces held closes =
    let begins = next (next c (act (ended_well answer))) (opened account ByClient number) in
    let at : session_at r.address r.path d t.nonces held.0 ≡ session_at r.address r.path begins s.nonces held.0 =
    ap (λ m. session_at r.address r.path m t.nonces held.0) is
    ∙ ap (λ n. session_at r.address r.path begins n held.0) nonces in
    let last = last_ends r number (session_at r.address r.path d t.nonces held.0) held.0 e w x t u v old mid new held.1
    held.2 held.3 closes in (
      answer,
      held.0,
      last.0,
      ends_both r.address (given_part c s.nonces answer)
          (last_session r number (session_at r.address r.path begins s.nonces held.0)) [] (held.0 ++ last.0) x s t v
          old old
          new (updated r.address c answer s t old gave calls nonces)
          (subst (λ z. EndsPart r.address (last_session r number z) (held.0 ++ last.0) x t v old new) at last.1),
    )

pub follows_cut : (r : Route) (account number : ℕ) (c d e : Machine) (answer : Option Bool) (x : Exit) (s t u : Outside)
    (old new : Option (List ℕ))
    → Gave c answer s.updates t.updates → d ≡ next (next c (act (ended_well answer))) (opened account ByClient number)
    → t.calls ≡ s.calls → t.nonces ≡ s.nonces → IsCutShort x
    → HoldDoes r.address r.path number d e old new (Err x) t u → FollowDoes r account number c old new x s u
follows_cut r account number c d e answer x s t u old new gave is calls nonces short held =
    let begins = next (next c (act (ended_well answer))) (opened account ByClient number) in
    let at : session_at r.address r.path d t.nonces held.0 ≡ session_at r.address r.path begins s.nonces held.0 =
    ap (λ m. session_at r.address r.path m t.nonces held.0) is
    ∙ ap (λ n. session_at r.address r.path begins n held.0) nonces in
    let cut = last_cut r number (session_at r.address r.path d t.nonces held.0) held.0 t u old new held.1 in (
      answer,
      held.0,
      [],
      cut_ends r.address (follow_up r account number c s.nonces answer held.0) (held.0 ++ []) x s u old new short
          (subst (λ l. IsCut r.address (follow_up r account number c s.nonces answer held.0) l s u old new)
          (sym (append-nil held.0))
          (cut_second r.address (given_part c s.nonces answer)
          (last_session r number (session_at r.address r.path begins s.nonces held.0)) [] held.0 s t u old old new
          (updated r.address c answer s t old gave calls nonces)
          (subst (λ z. IsCut r.address (last_session r number z) held.0 t u old new) at cut))),
    )

-- ---- the whole

chosen : {A : Type 0} (b c : Bool) (x y : A) → b ≡ c → (if b then x else y) ≡ (if c then x else y)
chosen b c x y is = ap (λ z. if z then x else y) is

either_nonces : (b : Bool) (x y : Run) (n : List (List ℕ)) → x.nonces ≡ n → y.nonces ≡ n
    → (if b then x else y).nonces ≡ n
either_nonces true x y n p q = p
either_nonces false x y n p q = q

abbrev pub heard_first : List ReplyHeard → List ReplyHeard → Heards
heard_first hs parting = record { first = hs; updated = None; second = []; parting = parting }

behind_nonces : (r : Route) (account number : ℕ) (c : Machine) (n : List (List ℕ)) (hs parting : List ReplyHeard)
    (o : Option Word) → (behind_first r account number c n (heard_first hs parting) o).nonces ≡ n
behind_nonces r account number c n hs parting None = refl
behind_nonces r account number c n hs parting (Some w) =
    either_nonces (leaves_update w c) (follow_up r account (number + 1) c n None []) (closing r c n w) n refl refl

pub run_cut : (r : Route) (account number : ℕ) (g : Going) (hs : List ReplyHeard) (e : Exit) (s t : Outside)
    (old new : Option (List ℕ)) → IsCutShort e
    → IsCut r.address (session_part number (session r.address r.path g hs)) hs s t old new
    → IsRun r account number g s t old new e
unfolding device_run
run_cut r account number g hs e s t old new short cut =
    let x = session r.address r.path g hs in
    let h = heard_first hs [] in (
      h,
      cut_ends r.address (device_run r account number g h) (heard_in h) e s t old new short
          (subst (λ l. IsCut r.address (device_run r account number g h) l s t old new) (sym (append-nil hs))
          (cut_first r.address (session_part number x)
          (behind_first r account number x.going.machine x.going.nonces h x.word) hs s t old new
          (behind_nonces r account number x.going.machine x.going.nonces hs [] x.word) cut)),
      first_alone r.address (session_part number x) (behind_session r account number x h) hs [] e s t old new short cut,
    )

pub run_closes : (r : Route) (account number : ℕ) (g : Going) (hs : List ReplyHeard) (d : Machine) (w : Word) (e : Exit)
    (s t u : Outside) (old mid new : Option (List ℕ))
    → IsDone r.address (session_part number (session r.address r.path g hs)) hs s t old mid
    → (session r.address r.path g hs).word ≡ Some w → (session r.address r.path g hs).going.machine ≡ d
    → leaves_update w d ≡ false → CloseDoes r d w mid new e t u → IsRun r account number g s u old new e
unfolding device_run
run_closes r account number g hs d w e s t u old mid new done over is leaves closes =
    let x = session r.address r.path g hs in
    let h = heard_first hs closes.0 in
    let same : behind_first r account number x.going.machine x.going.nonces h x.word ≡ closing r d t.nonces w =
    ap (behind_first r account number x.going.machine x.going.nonces h) over
    ∙ ap (λ m. behind_first r account number m x.going.nonces h (Some w)) is
    ∙ ap (λ n. behind_first r account number d n h (Some w)) (sym done.nonces)
    ∙ chosen (leaves_update w d) false (follow_up r account (number + 1) d t.nonces None []) (closing r d t.nonces w)
    leaves in (
      h,
      ends_both r.address (session_part number x) (behind_first r account number x.going.machine x.going.nonces h
          x.word) hs
          closes.0 e s t u old mid new done
          (subst (λ z. EndsPart r.address z closes.0 e t u mid new) (sym same) closes.1),
      in_order r.address (session_part number x) (behind_session r account number x h) hs closes.0 e s t u old mid new
          done (subst (λ z. EndsPart r.address z closes.0 e t u mid new) (sym same) closes.1),
    )

pub run_follows : (r : Route) (account number : ℕ) (g : Going) (hs : List ReplyHeard) (d : Machine) (w : Word) (e : Exit)
    (s t u : Outside) (old mid new : Option (List ℕ))
    → IsDone r.address (session_part number (session r.address r.path g hs)) hs s t old mid
    → (session r.address r.path g hs).word ≡ Some w → (session r.address r.path g hs).going.machine ≡ d
    → leaves_update w d ≡ true → FollowDoes r account (number + 1) d mid new e t u
    → IsRun r account number g s u old new e
unfolding device_run
run_follows r account number g hs d w e s t u old mid new done over is leaves follows =
    let x = session r.address r.path g hs in
    let h : Heards = record { first = hs; updated = follows.0; second = follows.1; parting = follows.2 } in
    let same : behind_first r account number x.going.machine x.going.nonces h x.word
    ≡ follow_up r account (number + 1) d t.nonces follows.0 follows.1 =
    ap (behind_first r account number x.going.machine x.going.nonces h) over
    ∙ ap (λ m. behind_first r account number m x.going.nonces h (Some w)) is
    ∙ ap (λ n. behind_first r account number d n h (Some w)) (sym done.nonces)
    ∙ chosen (leaves_update w d) true (follow_up r account (number + 1) d t.nonces follows.0 follows.1)
    (closing r d t.nonces w) leaves in (
      h,
      ends_both r.address (session_part number x) (behind_first r account number x.going.machine x.going.nonces h
          x.word) hs
          (follows.1 ++ follows.2) e s t u old mid new done
          (subst (λ z. EndsPart r.address z (follows.1 ++ follows.2) e t u mid new) (sym same) follows.3),
      in_order r.address (session_part number x) (behind_session r account number x h) hs (follows.1 ++ follows.2) e s
          t u old mid new done
          (subst (λ z. EndsPart r.address z (follows.1 ++ follows.2) e t u mid new) (sym same) follows.3),
    )

-- ---- the parts of the code

-- the package was given, with what the updater answered
pub installed : (told0 told1 : Option (List Update)) (c : Machine) (m : Option (List ℕ)) (ok : Bool)
    → m ≡ package_started c.engine.tree → Updates told0 told1 (bytes_or_none m) (Ok ok)
    → OfTold told0 told1 (InstallDoes c (Ok (Some ok)))
installed told0 told1 c m ok is gives =
    told_as told0 told1 _ _
    (λ us vs g. g ∙ ap (λ o. us ++ (record { bytes = bytes_or_none o; answer = Some ok }) ∷ []) is)
    (if_told told0 told1 _ gives)

pub updater_failed : (told0 told1 : Option (List Update)) (c : Machine) (m : Option (List ℕ))
    → m ≡ package_started c.engine.tree → Updates told0 told1 (bytes_or_none m) (Err fault.Failed)
    → OfTold told0 told1 (InstallDoes c (Ok None))
updater_failed told0 told1 c m is gives =
    told_as told0 told1 _ _
    (λ us vs g. g ∙ ap (λ o. us ++ (record { bytes = bytes_or_none o; answer = None }) ∷ []) is)
    (if_told told0 told1 _ gives)

pub posted_one : (told0 told1 : Option Calls) (address path message : List ℕ) (r : Result ReplyHeard Memory)
    → Exchanges told0 told1 address (request_text address path message) r
    → OfTold told0 told1 (PartDoes address (request_text address path message ∷ []) (unheard r))
unfolding Exchanges
posted_one told0 told1 address path message (Ok h) x =
    told_as told0 told1 _ _
    (λ s t d. (h ∷ [], record { dials = d.1 ∷ []; made = d.2; matched = (d.3, tt) }))
    (if_told told0 told1 _ x)
posted_one told0 told1 address path message (Err m) x =
    told_as told0 told1 _ _
    (λ s t d. record {
      dials = [];
      more = d.1.0;
      made = d.1.1;
      path = path;
      message = message;
      cut = d.1.2;
      posted = 0;
      matched = tt;
    })
    (if_told told0 told1 _ x)

-- What holds of a job as far as it was read, whatever line came.
use Rattle.std.proofs.Common.{◌≡◌, ◌+◌, ◌&&◌, ℕ, true, false, List, [], ◌∷◌, ◌++◌, Option, Some}
use Rattle.std.proofs.Common.{None, Result, Ok, Err}
use Rattle.std.proofs.Common.{refl, sym, ap, subst, ◌∙◌, arith, codes, bytes_eq}
use Rattle.std.specs.Prelude.{⊤}
use Rattle.std.specs.Option.{option_map_or}
use Rattle.std.specs.List.{AllByRecursion}
use Rattle.std.proofs.lemmas.Bool.{and_parts}
use Rattle.dm_base.specs.Fields.{parts}
use Rattle.dm_base.specs.declared.values.Limits.{Limits}
use Rattle.dm_base.specs.declared.lines.LineReason.{LineReason}
use Rattle.dm_base.specs.declared.lines.LineReason.TheVariants as reason
use Rattle.syncml_types.specs.declared.command.Verb.{Verb}
use Rattle.syncml_types.specs.declared.command.Plain.{Plain}
use Rattle.syncml_types.specs.declared.command.Command.{Command}
use Rattle.syncml_types.specs.declared.command.Command.TheVariants as command
use Rattle.syncml_parts.specs.Numbering.{ids_in, ids_in_seq_members}
use Rattle.syncml_parts.specs.Packing.{list_last, last_changed}
use Rattle.dm_auth.specs.declared.accounts.Account.{Account}
use Rattle.dm_fields.specs.Fields.{begins_with, account_in, limits_in, are_limits}
use Rattle.dm_fields.specs.Fields.{IsAccount}
use Rattle.dm_fields.proofs.Told.{said, allowed, same_ok, in_limits, is_account}
use Rattle.dm_job.specs.declared.job.Job.{Job}
use Rattle.dm_job.specs.declared.job.JobEntry.{JobEntry}
use Rattle.dm_job.specs.declared.draft.JobDraft.{JobDraft}
use Rattle.dm_job.specs.declared.draft.LinePlace.{LinePlace}
use Rattle.dm_job.specs.declared.draft.LinePlace.TheVariants as place
use Rattle.dm_job.specs.declared.draft.Reading.{Reading}
use Rattle.dm_job.specs.declared.draft.Reading.TheVariants as reading
use Rattle.dm_job.specs.Commands.{verb_in, plain_in, new_atomic, new_sequence, with_member, may_close}
use Rattle.dm_job.specs.Grammar.{atomic, sequence}
use Rattle.dm_job.specs.Reading.{entry_put, empty_draft, adds, draft_joined, entry_joined, inside, outside, draft_after}
use Rattle.dm_job.specs.Reading.{with_draft}
use Rattle.dm_job.specs.Reading.{reading_after, reading_behind}
use Rattle.dm_job.specs.Reading.{last_may_close, close_line, reading_after_all}
use Rattle.dm_job.specs.Texts.{job_in, ended_at}
use Rattle.dm_job.specs.Sound.{all_entries, CanBeSent, IsJobCommand, IsSoundJob}
use Rattle.dm_pack.specs.Entries.{IsReady, whole_entry}
use Rattle.dm_job.specs.Laws.{JobsAreSound}
use Rattle.dm_job.proofs.Ends.{last_added}
use Rattle.dm_job.proofs.Moves.{Move, opens_atomic, opens_sequence, parts_, ends, when_is, moves}
use Rattle.dm_job.proofs.Goods.{IsGood, plain_good, plain_ready}
use Rattle.dm_job.proofs.Containers.{IsGrown, container_steps, container_ready, grown_more, all_more, longer_ids}
use Rattle.dm_job.proofs.Entries.{AreFilled, IsBehind, Goes, all_added, added_filled, added_some, changed_append}
use Rattle.dm_job.proofs.Entries.{all_changed}
use Rattle.dm_job.proofs.Entries.{changed_filled, last_is_of_all, Numbered, numbered_more, numbered_longer}
use Rattle.dm_job.proofs.Entries.{are_numbered}
use Rattle.dm_job.proofs.Accepting.{accepted}
use Rattle.dm_pack.proofs.Numbers.{length_last}

-- ---- a job as far as it was read

-- the last of them is a container that is open
pub record IsOpened (es : List JobEntry) : Type 0 where
  before : List JobEntry
  last : JobEntry
  are : es ≡ before ++ last ∷ []
  sound : AllByRecursion CanBeSent before
  grown : IsGrown last.command

abbrev pub AreSound : LinePlace → List JobEntry → Type 0
AreSound place.Between es = AllByRecursion CanBeSent es
AreSound place.Package es = AllByRecursion CanBeSent es
AreSound place.Container es = IsOpened es
AreSound place.End es = AllByRecursion CanBeSent es

pub record IsSoundSofar (at : LinePlace) (job : Job) (count : ℕ) : Type 0 where
  account : IsAccount job.account
  limits : are_limits job.limits.max_msg job.limits.max_obj ≡ true
  filled : AreFilled job.packages
  some : IsBehind at job.packages
  entries : AreSound at (all_entries job.packages)
  numbered : Numbered 1 (all_entries job.packages) (count + 1)

abbrev pub IsSoundDraft : JobDraft → Type 0
IsSoundDraft d = IsSoundSofar d.place d.job d.count

abbrev pub IsSoundReading : Reading → Type 0
IsSoundReading reading.First = ⊤
IsSoundReading reading.Server = ⊤
IsSoundReading (reading.Limits account) = IsAccount account
IsSoundReading (reading.Commands d) = IsSoundDraft d

-- ---- one command more

abbrev entry_at : ℕ → Command → JobEntry
entry_at n c = record { number = n + 1; command = c }

abbrev with_one : LinePlace → Job → ℕ → Command → Job
with_one at job n c = record job { packages = entry_put at job.packages (entry_at n c) }

goes_sound : (at : LinePlace) (es : List JobEntry) → Goes at → AreSound at es → AllByRecursion CanBeSent es
goes_sound place.Between es goes h = h
goes_sound place.Package es goes h = h
goes_sound place.Container es goes h = absurd goes
goes_sound place.End es goes h = absurd goes

one_numbered : (at : LinePlace) (job : Job) (n : ℕ) (c : Command) → Goes at → ids_in c ≡ 1 → IsSoundSofar at job n
    → Numbered 1 (all_entries (with_one at job n c).packages) (n + 1 + 1)
one_numbered at job n c goes one h =
    subst (λ es. Numbered 1 es (n + 1 + 1)) (sym (all_added at job.packages (entry_at n c) goes h.some))
    (numbered_more 1 (n + 1) (n + 1 + 1) (all_entries job.packages) (entry_at n c) h.numbered refl
    (ap (λ i. n + 1 + i) one))

adds_plain : (at : LinePlace) (job : Job) (n : ℕ) (p : Plain) → Goes at → IsGood p → IsSoundSofar at job n
    → IsSoundSofar place.Package (with_one at job n (command.Plain p)) (n + 1)
unfolding ids_in
adds_plain at job n p goes good h =
    let e = entry_at n (command.Plain p) in
    record {
      account = h.account;
      limits = h.limits;
      filled = added_filled at job.packages e h.filled;
      some = added_some at job.packages e goes h.some;
      entries = subst (AllByRecursion CanBeSent) (sym (all_added at job.packages e goes h.some))
          (all_more CanBeSent (all_entries job.packages) e (goes_sound at _ goes h.entries)
          (record { steps = good.step; ready = plain_ready p good }));
      numbered = one_numbered at job n (command.Plain p) goes refl h;
    }

adds_container : (at : LinePlace) (job : Job) (n : ℕ) (c : Command) → Goes at → IsGrown c → ids_in c ≡ 1
    → IsSoundSofar at job n
    → IsSoundSofar place.Container (with_one at job n c) (n + 1)
adds_container at job n c goes grown one h =
    let e = entry_at n c in
    record {
      account = h.account;
      limits = h.limits;
      filled = added_filled at job.packages e h.filled;
      some = added_some at job.packages e goes h.some;
      entries = subst IsOpened (sym (all_added at job.packages e goes h.some))
          (record {
            before = all_entries job.packages;
            last = e;
            are = refl;
            sound = goes_sound at _ goes h.entries;
            grown = grown;
          });
      numbered = one_numbered at job n c goes one h;
    }

new_atomic_grown : IsGrown new_atomic
new_atomic_grown = record { kind = atomic; plains = []; is = refl; good = tt }

new_sequence_grown : IsGrown new_sequence
new_sequence_grown = record { kind = sequence; plains = []; is = refl; good = tt }

one_atomic : ids_in new_atomic ≡ 1
unfolding ids_in
one_atomic = refl

one_sequence : ids_in new_sequence ≡ 1
unfolding ids_in ids_in_seq_members
one_sequence = refl

-- ---- one member more

one_id_more : (c : Command) (p : Plain) → IsGrown c → ids_in (with_member c p) ≡ ids_in c + 1
one_id_more c p grown =
    subst (λ d. ids_in (with_member d p) ≡ ids_in d + 1) (sym grown.is) (longer_ids grown.kind grown.plains p)

joins_sound : (job : Job) (n : ℕ) (p : Plain) → IsGood p → IsSoundSofar place.Container job n
    → IsSoundSofar place.Container (record job { packages = last_changed (last_changed (entry_joined p)) job.packages })
    (n + 1)
joins_sound job n p good h =
    let o = h.entries in
    let f : JobEntry = entry_joined p o.last in
    let all = all_changed (entry_joined p) job.packages h.filled
    ∙ ap (last_changed (entry_joined p)) o.are ∙ changed_append (entry_joined p) o.before (o.last ∷ []) (omega arith) in
    let long = length_last (last_changed (entry_joined p)) job.packages in
    let some = h.some in
    record {
      account = h.account;
      limits = h.limits;
      filled = changed_filled (entry_joined p) job.packages h.filled;
      some = omega (arith, long, some);
      entries = record {
        before = o.before;
        last = f;
        are = all;
        sound = o.sound;
        grown = grown_more o.last.command p o.grown good;
      };
      numbered = subst (λ es. Numbered 1 es (n + 1 + 1)) (sym all)
          (numbered_longer 1 (n + 1) o.before o.last f (subst (λ es. Numbered 1 es (n + 1)) o.are h.numbered) refl
          (one_id_more o.last.command p o.grown));
    }

-- ---- a container ends

may_end : (job : Job) (n : ℕ) (h : IsSoundSofar place.Container job n) → last_may_close job.packages ≡ true
    → may_close h.entries.last.command ≡ true
may_end job n h e =
    let o = h.entries in
    let last = last_is_of_all job.packages h.filled ∙ ap list_last o.are ∙ last_added o.before o.last in
    sym (ap (λ x. option_map_or (λ (e : JobEntry). may_close e.command) x false) last) ∙ e

grown_entry : (e : JobEntry) → IsGrown e.command → may_close e.command ≡ true → CanBeSent e
grown_entry e g may = record {
  steps = subst IsJobCommand (sym g.is) (container_steps g.kind g.plains g.good);
  ready = subst (λ c. IsReady (whole_entry c)) (sym g.is)
      (container_ready g.kind g.plains g.good (subst (λ c. may_close c ≡ true) g.is may));
}

closes_sound : (job : Job) (n : ℕ) → IsSoundSofar place.Container job n → last_may_close job.packages ≡ true
    → IsSoundSofar place.Package job n
closes_sound job n h e =
    let o = h.entries in
    record {
      account = h.account;
      limits = h.limits;
      filled = h.filled;
      some = h.some;
      entries = subst (AllByRecursion CanBeSent) (sym o.are)
          (all_more CanBeSent o.before o.last o.sound (grown_entry o.last o.grown (may_end job n h e)));
      numbered = h.numbered;
    }

-- no command comes
parts_sound : (at : LinePlace) (job : Job) (n : ℕ) → Goes at → IsSoundSofar at job n → IsSoundSofar place.Between job n
parts_sound at job n goes h = record {
  account = h.account;
  limits = h.limits;
  filled = h.filled;
  some = tt;
  entries = goes_sound at _ goes h.entries;
  numbered = h.numbered;
}

ends_sound : (at : LinePlace) (job : Job) (n : ℕ) → Goes at → IsSoundSofar at job n → IsSoundSofar place.End job n
ends_sound at job n goes h = record {
  account = h.account;
  limits = h.limits;
  filled = h.filled;
  some = tt;
  entries = goes_sound at _ goes h.entries;
  numbered = h.numbered;
}

-- ---- lines among commands

inside_sound : (d next : JobDraft) (line : List ℕ) (o : Option Verb) → d.place ≡ place.Container
    → inside d line o ≡ Ok next
    → IsSoundDraft d → IsSoundDraft next
inside_sound d next line (Some v) here e h =
    let s = said reason.Fields (plain_in v (parts line)) (λ p. Ok (draft_joined d p)) next e in
    let in_container = subst (λ at. IsSoundSofar at d.job d.count) here h in
    let joined_ = joins_sound d.job d.count s.value (plain_good v (parts line) s.value s.is) in_container in
    subst IsSoundDraft (same_ok _ next s.rest)
    (subst (λ at. IsSoundSofar at (draft_joined d s.value).job (d.count + 1)) (sym here) joined_)
inside_sound d next line None here e h =
    let told = allowed (begins_with (codes "close") line) (close_line d line) reason.Word next e in
    let closed =
    when_is (bytes_eq line (codes "close") && last_may_close d.job.packages) (record d { place = place.Package }) next
    told.1 in
    let may = (and_parts (bytes_eq line (codes "close")) (last_may_close d.job.packages) closed.0).1 in
    subst IsSoundDraft closed.1
    (closes_sound d.job d.count (subst (λ at. IsSoundSofar at d.job d.count) here h) may)

between_sound : (d next : JobDraft) (line : List ℕ) → Goes d.place → Move d next line → IsSoundDraft d → IsSoundDraft next
between_sound d next line goes (opens_atomic w is) h =
    subst IsSoundDraft is (adds_container d.place d.job d.count new_atomic goes new_atomic_grown one_atomic h)
between_sound d next line goes (opens_sequence w is) h =
    subst IsSoundDraft is (adds_container d.place d.job d.count new_sequence goes new_sequence_grown one_sequence h)
between_sound d next line goes (parts_ w is) h = subst IsSoundDraft is (parts_sound d.place d.job d.count goes h)
between_sound d next line goes (ends w is) h = subst IsSoundDraft is (ends_sound d.place d.job d.count goes h)

outside_sound : (d next : JobDraft) (line : List ℕ) (o : Option Verb) → Goes d.place → outside d line o ≡ Ok next
    → IsSoundDraft d → IsSoundDraft next
outside_sound d next line (Some v) goes e h =
    let s = said reason.Fields (plain_in v (parts line)) (λ p. Ok (adds d place.Package (command.Plain p))) next e in
    subst IsSoundDraft (same_ok _ next s.rest)
    (adds_plain d.place d.job d.count s.value goes (plain_good v (parts line) s.value s.is) h)
outside_sound d next line None goes e h = between_sound d next line goes (moves d next line e) h

draft_sound : (at : LinePlace) (d next : JobDraft) (line : List ℕ) → d.place ≡ at → draft_after at d line ≡ Ok next
    → IsSoundDraft d → IsSoundDraft next
draft_sound place.Between d next line here e h = outside_sound d next line (verb_in line) (subst Goes (sym here) tt) e h
draft_sound place.Package d next line here e h = outside_sound d next line (verb_in line) (subst Goes (sym here) tt) e h
draft_sound place.Container d next line here e h = inside_sound d next line (verb_in line) here e h
draft_sound place.End d next line here e h = absurd (cc)

-- ---- any line

same_reading : (x y : Reading) → ◌≡◌ {A = Result Reading LineReason} (Ok x) (Ok y) → x ≡ y
same_reading x y e = cc

begin_sound : (account : Account) (l : Limits) → IsAccount account → are_limits l.max_msg l.max_obj ≡ true
    → IsSoundDraft (empty_draft account l)
begin_sound account l a h = record { account = a; limits = h; filled = tt; some = tt; entries = tt; numbered = refl }

line_sound : (r next : Reading) (line : List ℕ) → reading_after r line ≡ Ok next → IsSoundReading r → IsSoundReading next
unfolding reading_after
line_sound reading.First next line e h =
    let told = allowed _ (Ok reading.Server) reason.Word next e in subst IsSoundReading (same_reading _ next told.1) tt
line_sound reading.Server next line e h =
    let told = allowed (begins_with (codes "server") line) _ reason.Word next e in
    let s = said reason.Fields (account_in (parts line)) (λ account. Ok (reading.Limits account)) next told.1 in
    subst IsSoundReading (same_reading _ next s.rest) (is_account (parts line) s.value s.is)
line_sound (reading.Limits account) next line e h =
    let told = allowed (begins_with (codes "limits") line) _ reason.Word next e in
    let s =
    said reason.Fields (limits_in (parts line)) (λ l. Ok (reading.Commands (empty_draft account l))) next told.1 in
    subst IsSoundReading (same_reading _ next s.rest)
    (begin_sound account s.value h (in_limits (parts line) s.value s.is))
line_sound (reading.Commands d) next line e h = by_draft (draft_after d.place d line) refl e
  where
    by_draft : (x : Result JobDraft LineReason) → draft_after d.place d line ≡ x → with_draft x ≡ Ok next
        → IsSoundReading next
    by_draft (Ok n) is k = subst IsSoundReading (same_reading _ next k) (draft_sound d.place d n line refl is h)
    by_draft (Err why) is k = absurd (cc)

pub lines_sound : (n : ℕ) (r reached : Reading) (lines : List (List ℕ)) → reading_after_all n r lines ≡ Ok reached
    → IsSoundReading r
    → IsSoundReading reached
lines_sound n r reached [] e h = subst IsSoundReading (same_end r reached e) h
  where
    same_end : (x y : Reading) → ◌≡◌ {A = Result Reading (ℕ × LineReason)} (Ok x) (Ok y) → x ≡ y
    same_end x y k = cc
lines_sound n r reached (line ∷ lines) e h =
    by_line (reading_after r line) refl e (λ read k sound. lines_sound (n + 1) read reached lines k sound)
  where
    by_line : (x : Result Reading LineReason) → reading_after r line ≡ x
        → reading_behind n x (λ next. reading_after_all (n + 1) next lines) ≡ Ok reached
        → ((read : Reading) → reading_after_all (n + 1) read lines ≡ Ok reached → IsSoundReading read
        → IsSoundReading reached)
        → IsSoundReading reached
    by_line (Ok read) is k rest = rest read k (line_sound r read line is h)
    by_line (Err why) is k rest = absurd (cc)

pub job_sound : (r : Reading) (job : Job) → job_in r ≡ Some job → IsSoundReading r → IsSoundJob job
job_sound reading.First job e h = absurd (cc)
job_sound reading.Server job e h = absurd (cc)
job_sound (reading.Limits account) job e h = absurd (cc)
job_sound (reading.Commands d) job e h = by_place d.place h e
  where
    same_job : (x y : Job) → Some x ≡ Some y → x ≡ y
    same_job x y k = cc

    by_place : (at : LinePlace) → IsSoundSofar at d.job d.count → ended_at at d.job ≡ Some job → IsSoundJob job
    by_place place.Between s k = absurd (cc)
    by_place place.Package s k = absurd (cc)
    by_place place.Container s k = absurd (cc)
    by_place place.End s k = subst IsSoundJob (same_job d.job job k)
        (record {
          account = s.account;
          limits = s.limits;
          filled = s.filled;
          entries = s.entries;
          numbered = are_numbered 1 (d.count + 1) (all_entries d.job.packages) s.numbered;
        })

pub jobs_are_sound : JobsAreSound
jobs_are_sound text job e =
    let a = accepted text job e in
    job_sound a.reached job a.ends (lines_sound 1 reading.First a.reached a.lines a.taken tt)

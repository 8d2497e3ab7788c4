-- Each text that comes to events begins with a client and a job such as schedules begin with.
use Rattle.std.proofs.Common.{◌≡◌, ◌+◌, ℕ, Bool, true, false, cond, List, [], ◌∷◌, ◌++◌, Option, None, Some, refl}
use Rattle.std.proofs.Common.{◌∙◌, ap, subst, inl, append_assoc, flat_map}
use Rattle.std.proofs.lemmas.Bool.{and_parts, and_from}
use Rattle.std.proofs.lemmas.List.Splits.{slice_split-cons_yes, slice_split-cons_no}
use Rattle.std.specs.Prelude.{◌==◌, not, Result, Ok, Err, codes, bytes_eq}
use Rattle.std.specs.List.{AllByRecursion, list_all, onto_first}
use Rattle.dm_base.specs.declared.lines.LineReason.{LineReason}
use Rattle.dm_base.specs.declared.lines.LineReason.TheVariants as reason
use Rattle.dm_start.specs.declared.heads.Head.TheVariants as head
use Rattle.dm_start.specs.declared.telling.Phase.TheVariants as phase
use Rattle.dm_start.specs.Start.{Setup, Section, opening, telling, after_line as section_after}
use Rattle.dm_job.specs.declared.draft.Reading.{Reading}
use Rattle.dm_job.specs.declared.draft.Reading.TheVariants as reading
use Rattle.dm_job.specs.declared.job.Job.{Job}
use Rattle.dm_job.specs.Grammar.{with_feed}
use Rattle.dm_job.specs.Laws.{JobsAreSound}
use Rattle.dm_job.specs.Reading.{reading_after as job_after, reading_behind}
use Rattle.dm_job.specs.Texts.{segments, is_long, job_in, end_or, job_from, job_of}
use Rattle.dm_world.proofs.JobNumbers.{jobs_are_in_range}
use Rattle.dm_replay.specs.Output.{client_of}
use Rattle.dm_replay.specs.Trace.{servers_of, told_in}
use Rattle.dm_replay.proofs.StartSections.{IsGoodSection, good_line, told_is_good}
use Rattle.dm_pair.specs.Begins.{StartsAndJobsBegin, lines_before_long, OnWorldSchedule, TextsBegin}
use Rattle.dm_pair.specs.Pairing.{Pairing}
use Rattle.dm_pair.specs.Schedules.{brought_by, brought, HasEnds}
use Rattle.dm_pair.specs.Texts.{TextStage, first, starting, jobbing, happening, pairing_of, silently, stage_after}
use Rattle.dm_pair.specs.Texts.{start_turn, stage_behind, job_turn, text_turn}
use Rattle.dm_pair.proofs.OnSchedule.{runs_on_schedules}
use Rattle.dm_pair.proofs.ReadyClients.{world_start}

-- ---- the lines of a text

abbrev is_feedless : List ℕ → Bool
is_feedless line = list_all (λ b. not (b == 10)) line

-- a line as a text has it
record IsCut (line : List ℕ) : Type 0 where
  short : is_long line ≡ false
  feedless : is_feedless line ≡ true

turned : (b : Bool) → not b ≡ true → b ≡ false
turned true h = absurd (cc)
turned false h = refl

all_feedless : (text : List ℕ) → list_all is_feedless (segments text) ≡ true
all_feedless [] = refl
all_feedless (b ∷ bs) = by_feed (b == 10) refl (segments bs) (all_feedless bs)
  where
    by_feed : (c : Bool) → (b == 10) ≡ c → (s : List (List ℕ)) → list_all is_feedless s ≡ true
        → list_all is_feedless (cond c ([] ∷ s) (onto_first b s)) ≡ true
    by_feed true is s h = h
    by_feed false is [] h = and_from _ true (and_from _ true (ap not is) refl) refl
    by_feed false is (x ∷ xs) h =
        let both = and_parts (is_feedless x) (list_all is_feedless xs) h in
        and_from _ _ (and_from _ _ (ap not is) both.0) both.1

are_cut : (segs : List (List ℕ)) → list_all is_feedless segs ≡ true → AllByRecursion IsCut (lines_before_long segs)
are_cut [] h = tt
are_cut (tail ∷ []) h = tt
are_cut (line ∷ next ∷ others) h =
    let both = and_parts (is_feedless line) (list_all is_feedless (next ∷ others)) h in
    by_length both.0 (are_cut (next ∷ others) both.1) (is_long line) refl
  where
    by_length : is_feedless line ≡ true → AllByRecursion IsCut (lines_before_long (next ∷ others)) → (b : Bool)
        → is_long line ≡ b
        → AllByRecursion IsCut (cond b [] (line ∷ lines_before_long (next ∷ others)))
    by_length feedless rest true is = tt
    by_length feedless rest false is = (record { short = is; feedless = feedless }, rest)

-- ---- the text that lines make

cut_off : (line rest : List ℕ) → is_feedless line ≡ true → segments (line ++ 10 ∷ rest) ≡ line ∷ segments rest
cut_off [] rest h = slice_split-cons_yes (λ b. b == 10) 10 rest refl
cut_off (b ∷ bs) rest h =
    let both = and_parts (not (b == 10)) (is_feedless bs) h in
    slice_split-cons_no (λ x. x == 10) b (bs ++ 10 ∷ rest) (turned (b == 10) both.0)
    ∙ ap (onto_first b) (cut_off bs rest both.1)

segments_of : (lines : List (List ℕ)) → AllByRecursion IsCut lines → segments (flat_map with_feed lines) ≡ lines ++ [] ∷ []
segments_of [] h = refl
segments_of (l ∷ ls) h =
    ap segments (append_assoc l (10 ∷ []) (flat_map with_feed ls)) ∙ cut_off l (flat_map with_feed ls) h.0.feedless
    ∙ ap (λ s. l ∷ s) (segments_of ls h.1)

cut_more : (lines : List (List ℕ)) (line : List ℕ) → AllByRecursion IsCut lines → IsCut line
    → AllByRecursion IsCut (lines ++ line ∷ [])
cut_more [] line h cut = (cut, tt)
cut_more (l ∷ ls) line h cut = (h.0, cut_more ls line h.1 cut)

-- ---- the job

-- these lines of a job have come so far, and line n is next
record HasRead (past : List (List ℕ)) (n : ℕ) (r : Reading) : Type 0 where
  cut : AllByRecursion IsCut past
  goes_on : (line : List ℕ) (behind : List (List ℕ))
      → job_from 1 reading.First (past ++ line ∷ behind) ≡ job_from n r (line ∷ behind)

one_line : (n : ℕ) (r : Reading) (line next : List ℕ) (others : List (List ℕ)) (read : Reading) (o : Option Job)
    → is_long line ≡ false → job_after r line ≡ Ok read → job_in read ≡ o
    → job_from n r (line ∷ next ∷ others) ≡ end_or n o (next ∷ others) (job_from (n + 1) read (next ∷ others))
one_line n r line next others read o short is at =
    ap (λ b. cond b (Err (n, reason.Long))
    (reading_behind n (job_after r line)
    (λ read. end_or n (job_in read) (next ∷ others) (job_from (n + 1) read (next ∷ others))))) short
    ∙ ap (λ x. reading_behind n x
    (λ read. end_or n (job_in read) (next ∷ others) (job_from (n + 1) read (next ∷ others)))) is
    ∙ ap (λ o. end_or n o (next ∷ others) (job_from (n + 1) read (next ∷ others))) at

module _ (past : List (List ℕ)) (n : ℕ) (r : Reading) (line : List ℕ) (read : Reading) (has : HasRead past n r)
    (cut : IsCut line) (is : job_after r line ≡ Ok read) where
  read_more : job_in read ≡ None → HasRead (past ++ line ∷ []) (n + 1) read
  read_more none = record {
    cut = cut_more past line has.cut cut;
    goes_on = λ next others.
        ap (job_from 1 reading.First) (append_assoc past (line ∷ []) (next ∷ others))
        ∙ has.goes_on line (next ∷ others) ∙ one_line n r line next others read None cut.short is none;
  }

  read_whole : (job : Job) → job_in read ≡ Some job → job_of (flat_map with_feed (past ++ line ∷ [])) ≡ Ok job
  unfolding job_of
  read_whole job some =
      ap (job_from 1 reading.First)
      (segments_of (past ++ line ∷ []) (cut_more past line has.cut cut) ∙ append_assoc past (line ∷ []) ([] ∷ []))
      ∙ has.goes_on line ([] ∷ []) ∙ one_line n r line [] [] read (Some job) cut.short is some

-- ---- the stages of a text

section_turn : (s : Section) (line : List ℕ) (t : Section) → section_after s line ≡ Ok t
    → text_turn (starting s) line ≡ Ok (silently (stage_after t (told_in t)))
unfolding text_turn
section_turn s line t is = ap start_turn is

job_line_turn : (told : Setup) (r : Reading) (line : List ℕ) (read : Reading) → job_after r line ≡ Ok read
    → text_turn (jobbing told r) line ≡ Ok (silently (stage_behind told read (job_in read)))
unfolding text_turn
job_line_turn told r line read is = ap (job_turn told) is

module _ (sound : JobsAreSound) (p : Pairing) where
  one_more : (s t : TextStage) (line : List ℕ) (lines : List (List ℕ)) → text_turn s line ≡ Ok (silently t)
      → OnWorldSchedule t lines p
      → OnWorldSchedule s (line ∷ lines) p
  one_more s t line lines is on = record {
    client = on.client;
    job = on.job;
    before = line ∷ on.before;
    behind = on.behind;
    are = ap (λ ls. line ∷ ls) on.are;
    begins = ap (λ r. brought_by r s (λ t. brought t on.before)) is ∙ on.begins;
    start = on.start;
    on = on.on;
  }

  at_events : (told : Setup) (job : Job) (text : List ℕ) (lines : List (List ℕ))
      → IsGoodSection (telling phase.Begun told) → job_of text ≡ Ok job
      → HasEnds p (brought (happening (servers_of told.accounts) (pairing_of told job)) lines)
      → OnWorldSchedule (happening (servers_of told.accounts) (pairing_of told job)) lines p
  at_events told job text lines good is h =
      let start = world_start told job good (sound text job is) (jobs_are_in_range text job is) in record {
        client = client_of told;
        job = job;
        before = [];
        behind = lines;
        are = refl;
        begins = refl;
        start = start;
        on = runs_on_schedules (client_of told) job lines p start h;
      }

  -- a line of the job, where the lines behind it do as they should
  job_line : (told : Setup) → IsGoodSection (telling phase.Begun told) → (line : List ℕ) (lines past : List (List ℕ))
      (n : ℕ) (r : Reading) → HasRead past n r → IsCut line
      → ((more : List (List ℕ)) (k : ℕ) (read : Reading) → HasRead more k read
      → HasEnds p (brought (jobbing told read) lines) → OnWorldSchedule (jobbing told read) lines p)
      → HasEnds p (brought (jobbing told r) (line ∷ lines))
      → OnWorldSchedule (jobbing told r) (line ∷ lines) p
  unfolding text_turn
  job_line told good line lines past n r has cut rest h = by_line (job_after r line) refl h
    where
      by_end : (read : Reading) → job_after r line ≡ Ok read → (o : Option Job) → job_in read ≡ o
          → HasEnds p (brought (stage_behind told read o) lines)
          → OnWorldSchedule (stage_behind told read o) lines p
      by_end read is None at g = rest (past ++ line ∷ []) (n + 1) read (read_more past n r line read has cut is at) g
      by_end read is (Some job) at g =
          at_events told job (flat_map with_feed (past ++ line ∷ [])) lines good
          (read_whole past n r line read has cut is job at) g

      by_line : (x : Result Reading LineReason) → job_after r line ≡ x
          → HasEnds p (brought_by (job_turn told x) (jobbing told r) (λ t. brought t lines))
          → OnWorldSchedule (jobbing told r) (line ∷ lines) p
      by_line (Err why) is g = absurd g
      by_line (Ok read) is g =
          one_more (jobbing told r) (stage_behind told read (job_in read)) line lines
          (job_line_turn told r line read is) (by_end read is (job_in read) refl g)

  in_job : (told : Setup) → IsGoodSection (telling phase.Begun told) → (lines past : List (List ℕ)) (n : ℕ)
      (r : Reading) → HasRead past n r → AllByRecursion IsCut lines → HasEnds p (brought (jobbing told r) lines)
      → OnWorldSchedule (jobbing told r) lines p
  in_job told good [] past n r has cut h = absurd h
  in_job told good (line ∷ lines) past n r has cut h =
      job_line told good line lines past n r has cut.0
      (λ more k read next g. in_job told good lines more k read next cut.1 g) h

  -- a line of the start section
  section_line : (line : List ℕ) (lines : List (List ℕ)) (s : Section) → IsGoodSection s → AllByRecursion IsCut lines
      → ((t : Section) → IsGoodSection t → HasEnds p (brought (starting t) lines)
      → OnWorldSchedule (starting t) lines p)
      → HasEnds p (brought (starting s) (line ∷ lines))
      → OnWorldSchedule (starting s) (line ∷ lines) p
  unfolding text_turn
  section_line line lines s good cut rest h = by_line (section_after s line) refl h
    where
      by_section : (t : Section) → IsGoodSection t → HasEnds p (brought (stage_after t (told_in t)) lines)
          → OnWorldSchedule (stage_after t (told_in t)) lines p
      by_section (opening h) next g = rest (opening h) next g
      by_section (telling phase.Accounts told) next g = rest (telling phase.Accounts told) next g
      by_section (telling phase.Nodes told) next g = rest (telling phase.Nodes told) next g
      by_section (telling phase.Begun told) next g =
          in_job told next lines [] 1 reading.First (record { cut = tt; goes_on = λ line behind. refl }) cut g

      by_line : (x : Result Section LineReason) → section_after s line ≡ x
          → HasEnds p (brought_by (start_turn x) (starting s) (λ t. brought t lines))
          → OnWorldSchedule (starting s) (line ∷ lines) p
      by_line (Err why) is g = absurd g
      by_line (Ok t) is g =
          one_more (starting s) (stage_after t (told_in t)) line lines (section_turn s line t is)
          (by_section t (good_line s line t good is) g)

  in_section : (lines : List (List ℕ)) (s : Section) → IsGoodSection s → AllByRecursion IsCut lines
      → HasEnds p (brought (starting s) lines)
      → OnWorldSchedule (starting s) lines p
  in_section [] s good cut h = absurd h
  in_section (line ∷ lines) s good cut h =
      section_line line lines s good cut.1 (λ t next g. in_section lines t next cut.1 g) h

  abbrev begins : TextStage
  begins = starting (opening (head.Device 1))

  first_turn : (line : List ℕ) (b : Bool) → bytes_eq line (codes "dm-pair 1") ≡ b
      → text_turn first line ≡ cond b (Ok (silently begins)) (Err reason.Word)
  unfolding text_turn
  first_turn line b is = ap (λ b. cond b (Ok (silently begins)) (Err reason.Word)) is

  from_first : (lines : List (List ℕ)) → AllByRecursion IsCut lines → HasEnds p (brought first lines)
      → OnWorldSchedule first lines p
  from_first [] cut h = absurd h
  from_first (line ∷ lines) cut h =
      by_word (bytes_eq line (codes "dm-pair 1")) (first_turn line (bytes_eq line (codes "dm-pair 1")) refl)
    where
      by_word : (b : Bool) → text_turn first line ≡ cond b (Ok (silently begins)) (Err reason.Word)
          → OnWorldSchedule first (line ∷ lines) p
      by_word true is =
          one_more first begins line lines is (in_section lines (opening (head.Device 1))
          (record { sound = inl refl; tells = tt }) cut.1
          (subst (λ r. HasEnds p (brought_by r first (λ t. brought t lines))) is h))
      by_word false is = absurd (subst (λ r. HasEnds p (brought_by r first (λ t. brought t lines))) is h)

pub starts_and_jobs_begin : JobsAreSound → StartsAndJobsBegin
starts_and_jobs_begin sound lines told text job begins is =
    world_start told job (told_is_good lines told begins) (sound text job is) (jobs_are_in_range text job is)

pub texts_begin : JobsAreSound → TextsBegin
texts_begin sound text p h =
    from_first sound p (lines_before_long (segments text)) (are_cut (segments text) (all_feedless text)) h

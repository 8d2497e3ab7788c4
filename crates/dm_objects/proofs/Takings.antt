-- A piece is taken as the rules say, whether it continues the object or not.
use Rattle.std.proofs.Common.{◌≡◌, ℕ, ◌&&◌, Bool, true, false, not, if◌then◌else◌, List, length, nat_le, nat_lt, None}
use Rattle.std.proofs.Common.{refl, sym, ◌∙◌, ap, subst, arith}
use Rattle.std.specs.Prelude.{is_some}
use Rattle.std.proofs.lemmas.Bool.Decides.{nat_tests}
use Rattle.syncml_types.specs.declared.command.Step.{Step}
use Rattle.syncml_types.specs.Verbs.{is_write}
use Rattle.dm_objects.specs.declared.object.Object.{Object}
use Rattle.dm_objects.specs.declared.object.Object.TheVariants.{Nothing, Buffering, Skipping}
use Rattle.dm_objects.specs.declared.piece.Piece.{Piece}
use Rattle.dm_objects.specs.declared.piece.Taken.{Taken}
use Rattle.dm_objects.specs.declared.piece.TakenOver.{TakenOver}
use Rattle.dm_objects.specs.declared.piece.What.TheVariants.{Whole, Refused}
use Rattle.dm_objects.specs.Gathering.{gather, gathered_by, Gathered, Came, came, continues}
use Rattle.dm_objects.specs.Gathering.{first_of_several, single, write_piece, by_rules, buffered_target}
use Rattle.dm_objects.specs.declared.log.Past.{Past}
use Rattle.dm_objects.specs.declared.rules.Ruling.{Ruling}
use Rattle.dm_objects.specs.declared.rules.Ruling.TheVariants as verdicts
use Rattle.dm_objects.specs.Changes.{IsCame, object_by, what_by}
use Rattle.dm_objects.specs.InPlace.{what_of, taken_of, sort_of, step_by}
use Rattle.dm_objects.specs.Seen.{Seen, present, is_unfinished, is_whole_step, holding, seen_of, Takes}
use Rattle.dm_objects.proofs.SeenObjects.{present_seen, nothing_new}

gathers : (max : ℕ) (object : Object) (piece : Piece) (b : Bool) → continues object piece ≡ b
    → gather max object piece ≡ gathered_by max object piece b
unfolding gather
gathers max object piece b e = ap (gathered_by max object piece) e

pub next_takes : (old new : Seen) (piece : Piece) (taken : Taken) (object : Object)
    → continues (present old.objects) piece ≡ true
    → IsCame (by_rules old.max_obj (present old.objects) piece) object taken.what → taken.broken ≡ None
    → new ≡ holding old object
    → Takes old new piece taken
next_takes old new piece taken object c came broken now =
    let way = gathers old.max_obj (present old.objects) piece true c in
    record {
      now = now ∙ ap (holding old) (came.object_is ∙ ap (λ (g : Gathered). g.object) (sym way));
      broken = broken ∙ ap (λ (g : Gathered). g.broken) (sym way);
      what = came.what_is ∙ ap (λ (g : Gathered). g.what) (sym way);
    }

pub other_takes : (old new : Seen) (piece : Piece) (taken : Taken) (object : Object)
    → continues (present old.objects) piece ≡ false
    → IsCame (by_rules old.max_obj Nothing piece) object taken.what
    → taken.broken ≡ buffered_target (present old.objects)
    → new ≡ holding old object → Takes old new piece taken
other_takes old new piece taken object c came broken now =
    let way = gathers old.max_obj (present old.objects) piece false c in
    record {
      now = now ∙ ap (holding old) (came.object_is ∙ ap (λ (g : Gathered). g.object) (sym way));
      broken = broken ∙ ap (λ (g : Gathered). g.broken) (sym way);
      what = came.what_is ∙ ap (λ (g : Gathered). g.what) (sym way);
    }

-- ---- by the present object and the changes before it

pub next_taken : (old : Seen) (max : ℕ) (past : List Past) (o : Object)
    → old ≡ record { max_obj = max; objects = seen_of past o }
    → (piece : Piece) (taken : Taken) (verdict : Ruling) (new : Seen) → continues (present old.objects) piece ≡ true
    → IsCame (by_rules max o piece) (object_by verdict o piece) taken.what → taken.broken ≡ None
    → new ≡ holding old (object_by verdict (present old.objects) piece) → Takes old new piece taken
next_taken old max past o e piece taken verdict new =
    let here : Seen = record { max_obj = max; objects = seen_of past o } in
    subst (λ (s : Seen). continues (present s.objects) piece ≡ true
    → IsCame (by_rules max o piece) (object_by verdict o piece) taken.what → taken.broken ≡ None
    → new ≡ holding s (object_by verdict (present s.objects) piece) → Takes s new piece taken) (sym e)
    (λ c came broken now. next_takes here new piece taken (object_by verdict (present (seen_of past o)) piece) c
    (subst (λ x. IsCame (by_rules max x piece) (object_by verdict x piece) taken.what) (sym (present_seen past o)) came)
    broken now)

pub other_taken : (old : Seen) (max : ℕ) (past : List Past) (o : Object)
    → old ≡ record { max_obj = max; objects = seen_of past o }
    → (piece : Piece) (taken : Taken) (object : Object) (new : Seen) → continues (present old.objects) piece ≡ false
    → IsCame (by_rules max Nothing piece) object taken.what → taken.broken ≡ buffered_target o
    → new ≡ holding old object → Takes old new piece taken
other_taken old max past o e piece taken object new =
    let here : Seen = record { max_obj = max; objects = seen_of past o } in
    subst (λ (s : Seen). continues (present s.objects) piece ≡ false
    → IsCame (by_rules max Nothing piece) object taken.what → taken.broken ≡ buffered_target o
    → new ≡ holding s object → Takes s new piece taken) (sym e)
    (λ c came broken now. other_takes here new piece taken object c came
    (broken ∙ ap buffered_target (sym (present_seen past o))) now)

-- ---- a piece that is taken over

same-what : (v : Ruling) (o : Object) (piece : Piece)
    → what_of (sort_of v) (step_by v o piece.step) ≡ what_by v o piece
same-what (verdicts.Refuses code) o piece = refl
same-what verdicts.Passes o piece = refl
same-what (verdicts.Ends code) o piece = refl
same-what (verdicts.Skips code) o piece = refl
same-what (verdicts.GivesUp code) o piece = refl
same-what (verdicts.Begins size) o piece = refl
same-what verdicts.Grows o piece = refl
same-what verdicts.Completes o piece = refl

-- a step that was made whole makes no other object
same-object : (v : Ruling) (o x : Object) (piece : Piece)
    → object_by v x (record piece { step = step_by v o piece.step }) ≡ object_by v x piece
same-object (verdicts.Refuses code) o x piece = refl
same-object verdicts.Passes o x piece = refl
same-object (verdicts.Ends code) o x piece = refl
same-object (verdicts.Skips code) o x piece = refl
same-object (verdicts.GivesUp code) o x piece = refl
same-object (verdicts.Begins size) o x piece = refl
same-object verdicts.Grows o x piece = refl
same-object verdicts.Completes o x piece = refl

pub next_taken_over : (old : Seen) (max : ℕ) (past : List Past) (o : Object)
    → old ≡ record { max_obj = max; objects = seen_of past o }
    → (piece : Piece) (step : Step) (over : TakenOver) (verdict : Ruling) (new : Seen)
    → continues (present old.objects) piece ≡ true
    → IsCame (by_rules max o piece) (object_by verdict o piece) (what_by verdict o piece)
    → step ≡ step_by verdict o piece.step → over.broken ≡ None → over.sort ≡ sort_of verdict
    → new ≡ holding old (object_by verdict (present old.objects) (record piece { step = step }))
    → Takes old new piece (taken_of over step)
next_taken_over old max past o e piece step over verdict new c came whole broken sort now =
    let what = ap (λ s. what_of s step) sort ∙ ap (what_of (sort_of verdict)) whole ∙ same-what verdict o piece in
    next_taken old max past o e piece (taken_of over step) verdict new c
    (record { object_is = came.object_is; what_is = what ∙ came.what_is }) broken
    (now ∙ ap (λ s. holding old (object_by verdict (present old.objects) (record piece { step = s }))) whole
    ∙ ap (holding old) (same-object verdict o (present old.objects) piece))

pub other_taken_over : (old : Seen) (max : ℕ) (past : List Past) (o : Object)
    → old ≡ record { max_obj = max; objects = seen_of past o }
    → (piece : Piece) (step : Step) (over : TakenOver) (verdict : Ruling) (new : Seen)
    → continues (present old.objects) piece ≡ false
    → IsCame (by_rules max Nothing piece) (object_by verdict Nothing piece) (what_by verdict Nothing piece)
    → over.broken ≡ buffered_target o → over.sort ≡ sort_of verdict
    → what_of (sort_of verdict) step ≡ what_by verdict Nothing piece
    → new ≡ holding old (object_by verdict Nothing piece) → Takes old new piece (taken_of over step)
other_taken_over old max past o e piece step over verdict new c came broken sort what now =
    other_taken old max past o e piece (taken_of over step) (object_by verdict Nothing piece) new c
    (record { object_is = came.object_is; what_is = ap (λ s. what_of s step) sort ∙ what ∙ came.what_is }) broken now

-- the present object is the one that a piece is held against
pub same_way : (old : Seen) (max : ℕ) (past : List Past) (o : Object)
    → record { max_obj = max; objects = seen_of past o } ≡ old
    → (piece : Piece) (b : Bool) → continues o piece ≡ b → continues (present old.objects) piece ≡ b
same_way old max past o e piece b h =
    subst (λ (s : Seen). continues (present s.objects) piece ≡ b) e
    (subst (λ x. continues x piece ≡ b) (sym (present_seen past o)) h)

-- ---- a piece that passes

is-false : (a b : Bool) → not a && b ≡ true → a ≡ false
is-false true b p = absurd (cc)
is-false false b p = refl

is-front : (a b : Bool) → a && b ≡ true → a ≡ true
is-front true b p = refl
is-front false b p = absurd (cc)

is-behind : (a b : Bool) → not a && b ≡ true → b ≡ true
is-behind true b p = absurd (cc)
is-behind false b p = p

not-over : (max n : ℕ) → nat_le n max ≡ true → nat_lt max n ≡ false
not-over max n e = grind (arith, nat_tests)

passing-by : (max : ℕ) (piece : Piece) (write : Bool) → piece.more ≡ false
    → nat_lt max (length piece.step.value) ≡ false
    → (if not write then came Nothing (if piece.more then Refused 400 else Whole piece.step)
    else if piece.more && not (is_some piece.step.target) then came Nothing (Refused 400)
    else write_piece max Nothing piece)
    ≡ came Nothing (Whole piece.step)
passing-by max piece true e f =
    ap (λ m. if m && not (is_some piece.step.target) then came Nothing (Refused 400)
    else if m then first_of_several max piece piece.size else single max piece) e
    ∙ ap (λ l. if l then came Nothing (Refused 416) else came Nothing (Whole piece.step)) f
passing-by max piece false e f = ap (λ m. came Nothing (if m then Refused 400 else Whole piece.step)) e

abbrev as_it_is : Piece → Gathered
as_it_is piece = record { object = Nothing; broken = None; what = Whole piece.step }

passed : (max : ℕ) (o : Object) (piece : Piece) → is_whole_step max o piece ≡ true → gather max o piece ≡ as_it_is piece
unfolding gather
passed max Nothing piece p =
    ap (λ (c : Came). record { object = c.object; broken = None; what = c.what })
    (passing-by max piece (is_write piece.step.verb) (is-false piece.more (nat_le (length piece.step.value) max) p)
    (not-over max (length piece.step.value) (is-behind piece.more (nat_le (length piece.step.value) max) p)))
passed max (Buffering begun) piece p = absurd (cc)
passed max (Skipping key code) piece p = absurd (cc)

pub passing_takes : (seen : Seen) (piece : Piece) → is_whole_step seen.max_obj (present seen.objects) piece ≡ true
    → Takes seen seen piece (record { broken = None; what = Whole piece.step })
passing_takes seen piece p =
    let o = present seen.objects in
    let way = sym (passed seen.max_obj o piece p) in
    let front = is-front (not (is_unfinished o) && not piece.more) (nat_le (length piece.step.value) seen.max_obj) p in
    let still = is-false (is_unfinished o) (not piece.more) front in
    record {
      now = ap (λ os. record seen { objects = os }) (sym (nothing_new seen.objects Nothing still refl))
          ∙ ap (λ (g : Gathered). holding seen g.object) way;
      broken = ap (λ (g : Gathered). g.broken) way;
      what = ap (λ (g : Gathered). g.what) way;
    }

-- Which commands of the job a message of the server has under which CmdIDs.
use Rattle.std.proofs.Common.{◌≤◌, zero, suc, ◌≡◌, ◌<◌, ◌+◌, ◌-◌, ℕ, Bool, true, false, cond, List, []}
use Rattle.std.proofs.Common.{◌∷◌, ◌++◌, length, map, take, drop, Option, None, Some, refl, sym, ◌∙◌, ap, subst}
use Rattle.std.proofs.Common.{arith, nat_lt}
use Rattle.std.specs.Prelude.{slice_get}
use Rattle.std.specs.List.{AllByRecursion, Contains}
use Rattle.std.proofs.lemmas.List.Elements.{Contains-append_left, Contains-append_right}
use Rattle.syncml_types.specs.declared.command.Command.{Command}
use Rattle.syncml_types.specs.declared.command.Command.TheVariants as command
use Rattle.syncml_parts.specs.Numbering.{ids_in, with_numbers}
use Rattle.dm_atomic.specs.declared.tasks.Origin.{Origin}
use Rattle.dm_pack.specs.Entries.{Entry, part_of, rest_of}
use Rattle.dm_pack.specs.Filling.{numbered, commands_of, next_part, next_rest}
use Rattle.dm_ends.specs.Commands.{is_report}
use Rattle.dm_job.specs.declared.job.JobEntry.{JobEntry}
use Rattle.dm_job.specs.Sound.{all_entries}
use Rattle.dm_service.specs.declared.sent.Carried.{Carried}
use Rattle.dm_service.specs.declared.sent.Sent.{Sent}
use Rattle.dm_service.specs.Service.{Waiting}
use Rattle.dm_service.specs.Packages.{job_waiting}
use Rattle.dm_service.specs.Sending.{in_a_row, last_part_sent, rest_holds, not_counting, but_the_last}
use Rattle.dm_service.specs.Sending.{part_holds}
use Rattle.dm_service.specs.Sending.{goes_out, carried_on}
use Rattle.dm_service.proofs.Codes.{first_in, later_in}
use Rattle.dm_world.specs.Deeds.{Deed, command_deeds, all_deeds}
use Rattle.dm_world.specs.Acts.{Act, doing_acts}
use Rattle.dm_world.specs.Commands.{outline, outlines, IsJobAct, IsWholeDeed}
use Rattle.dm_world.proofs.SaysMade.{each-contains}
use Rattle.dm_world.proofs.Lists.{either, Each, each-map, each-append}
use Rattle.dm_world.proofs.Waits.{rest-report}
use Rattle.dm_world.proofs.Lasts.{WholeEach, rest-whole, command-done, part-whole}
use Rattle.dm_world.proofs.Outlines.{OneEach, part-each, part-outline, rest-each, ends_of, rest-outline}
use Rattle.dm_world.proofs.Outlines.{ends-twice, last-at, acts-long, Marked, command-marked}

-- ---- what waits

abbrev form_of : Bool → List Act → List Act
form_of false xs = xs
form_of true xs = ends_of xs

-- a command that waits for an entry of the job: the whole of it, or what is left where it was cut
pub record Carries (packages : List (List JobEntry)) (begun : Bool) (x : Command) (c : Carried) : Type 0 where
  pub entry : JobEntry
  pub within : Contains (all_entries packages) entry
  pub first : c.first ≡ entry.number
  pub count : c.count ≡ length (outlines entry.command)
  pub some : 0 < length (outlines entry.command)
  pub one : OneEach x
  pub form : outlines x ≡ form_of begun (outlines entry.command)

-- or a report
abbrev pub WaitsAs : List (List JobEntry) → Option Carried → Bool → Command → Type 0
WaitsAs packages None begun x = is_report x ≡ true
WaitsAs packages (Some c) begun x = Carries packages begun x c

-- none of what waits comes later
abbrev WaitsWhole : Option Carried → Command → Type 0
WaitsWhole None x = Unit {0}
WaitsWhole (Some c) x = WholeEach x

abbrev pub WaitsOf : List (List JobEntry) → Waiting → Type 0
WaitsOf packages w =
    WaitsAs packages w.carries w.entry.begun w.entry.command × WaitsWhole w.carries w.entry.command

-- the entries of a list are the job's
abbrev pub AreOf : List (List JobEntry) → List JobEntry → Type 0
AreOf packages = AllByRecursion (Contains (all_entries packages))

-- each command of the job is a step or a container of steps
abbrev pub JobIs : List (List JobEntry) → Type 0
JobIs packages = (e : JobEntry) → Contains (all_entries packages) e → OneEach e.command × WholeEach e.command

pub one-id : (c : Command) → 0 < ids_in c
unfolding ids_in
one-id (command.Plain p) = omega arith
one-id (command.Alert a) = omega arith
one-id (command.Atomic b) = omega arith
one-id (command.Sequence b) = omega arith
one-id (command.Status c) = omega arith
one-id (command.Results c) = omega arith

pub job-carries : (packages : List (List JobEntry)) (e : JobEntry) → JobIs packages → Contains (all_entries packages) e
    → WaitsOf packages (job_waiting e)
job-carries packages e is within =
    let one = (is e within).0 in
    let long = acts-long e.command one in
    let some = one-id e.command in (
      record {
        entry = e;
        within = within;
        first = refl;
        count = sym long;
        some = omega (arith, long, some);
        one = one;
        form = refl;
      },
      (is e within).1,
    )

rest-form : (begun : Bool) (xs : List Act) → ends_of (form_of begun xs) ≡ ends_of xs
rest-form false xs = refl
rest-form true xs = ends-twice xs

rest-carries : (packages : List (List JobEntry)) (w : Waiting) (n : ℕ) (o : Option Carried)
    → WaitsAs packages o w.entry.begun w.entry.command
    → WaitsAs packages o true (rest_of w.entry n).command
rest-carries packages w n None h = rest-report w.entry.command w.entry.begun n h
rest-carries packages w n (Some c) h = record {
  entry = h.entry;
  within = h.within;
  first = h.first;
  count = h.count;
  some = h.some;
  one = rest-each w.entry n h.one;
  form =
      rest-outline w.entry n h.one ∙ ap ends_of h.form ∙ rest-form w.entry.begun (outlines h.entry.command);
}

rest-wholes : (e : Entry) (n : ℕ) (o : Option Carried) → WaitsWhole o e.command → WaitsWhole o (rest_of e n).command
rest-wholes e n None h = tt
rest-wholes e n (Some c) h = rest-whole e n h

same-waits : (packages : List (List JobEntry)) (ws : List Waiting) → AllByRecursion (WaitsOf packages) ws
    → AllByRecursion (WaitsOf packages) (carried_on (map (λ (w : Waiting). w.entry) ws) ws)
same-waits packages [] h = tt
same-waits packages (w ∷ ws) h = (h.0, same-waits packages ws h.1)

pub rest-waits : (packages : List (List JobEntry)) (n : ℕ) (ws : List Waiting) → AllByRecursion (WaitsOf packages) ws
    → AllByRecursion (WaitsOf packages) (carried_on (next_rest n (map (λ (w : Waiting). w.entry) ws)) ws)
unfolding rest_of
rest-waits packages zero ws h = same-waits packages ws h
rest-waits packages (suc n) [] h = tt
rest-waits packages (suc n) (w ∷ ws) h = (
  (rest-carries packages w (suc n) w.carries h.0.0, rest-wholes w.entry (suc n) w.carries h.0.1),
  same-waits packages ws h.1,
)

-- ---- what a message has under a CmdID

-- a command of the job that goes out stands so among what the message asks for
pub record HasPlace (packages : List (List JobEntry)) (ds : List Deed) (msg : ℕ) (x : Sent) : Type 0 where
  pub msg_is : x.msg ≡ msg
  pub deed : Deed
  pub within : Contains ds deed
  pub command_is : deed.post.command ≡ x.command
  pub act : Act
  pub act_is : map outline (doing_acts deed.doing) ≡ act ∷ []
  pub of_job : IsJobAct packages x.number act

more-marks : (packages : List (List JobEntry)) (ds more : List Deed) (msg : ℕ) (xs : List Sent)
    → ((d : Deed) → Contains ds d → Contains more d)
    → Each (HasPlace packages ds msg) xs
    → Each (HasPlace packages more msg) xs
more-marks packages ds more msg xs f h =
    each-map {P = HasPlace packages ds msg} {Q = HasPlace packages more msg}
    (λ x m. record {
      msg_is = m.msg_is;
      deed = m.deed;
      within = f m.deed m.within;
      command_is = m.command_is;
      act = m.act;
      act_is = m.act_is;
      of_job = m.of_job;
    }) xs h

-- of a command from this number on
abbrev pub AreJobActs : List (List JobEntry) → ℕ → List Act → Type 0
AreJobActs packages number xs = (j : ℕ) (a : Act) → slice_get xs j ≡ Some a → IsJobAct packages (number + j) a

row-marks : (packages : List (List JobEntry)) (ds : List Deed) (xs : List Act) (k msg number n : ℕ) → Marked ds k xs
    → n ≡ length xs
    → AreJobActs packages number xs
    → Each (HasPlace packages ds msg) (in_a_row msg k number n)
row-marks packages ds xs k msg number zero m e f = tt
row-marks packages ds [] k msg number (suc n) m e f = absurd (omega (arith, e))
row-marks packages [] (a ∷ xs) k msg number (suc n) m e f = absurd m
row-marks packages (d ∷ ds) (a ∷ xs) k msg number (suc n) m e f = (
  record {
    msg_is = refl;
    deed = d;
    within = first_in d ds;
    command_is = m.0;
    act = a;
    act_is = m.1;
    of_job = subst (λ i. IsJobAct packages i a) (let e : number + 0 ≡ number = omega arith in e) (f 0 a refl);
  },
  more-marks packages ds (d ∷ ds) msg (in_a_row msg (k + 1) (number + 1) n) (λ x h. later_in x d ds h)
      (row-marks packages ds xs (k + 1) msg (number + 1) n m.2 (omega (arith, e))
      (λ j b g. subst (λ i. IsJobAct packages i b)
      (let e : number + suc j ≡ number + 1 + j = omega arith in e) (f (suc j) b g))),
)

two-marks : (packages : List (List JobEntry)) (ds : List Deed) (a z : Act) (k msg : ℕ) (c : Carried)
    → Marked ds k (a ∷ z ∷ [])
    → IsJobAct packages c.first a
    → IsJobAct packages (c.first + c.count - 1) z
    → Each (HasPlace packages ds msg) (last_part_sent msg k c)
two-marks packages [] a z k msg c m f g = absurd m
two-marks packages (d ∷ []) a z k msg c m f g = absurd m.2
two-marks packages (d ∷ t ∷ ds) a z k msg c m f g = (
  record {
    msg_is = refl;
    deed = d;
    within = first_in d (t ∷ ds);
    command_is = m.0;
    act = a;
    act_is = m.1;
    of_job = f;
  },
  either (Each (HasPlace packages (d ∷ t ∷ ds) msg)) (nat_lt 1 c.count) {y = []} (
    record {
      msg_is = refl;
      deed = t;
      within = later_in t d (t ∷ ds) (first_in t ds);
      command_is = m.2.0;
      act = z;
      act_is = m.2.1;
      of_job = g;
    },
    tt,
  ) tt,
)

one-mark : (packages : List (List JobEntry)) (ds : List Deed) (a : Act) (k msg : ℕ) (c : Carried)
    → Marked ds k (a ∷ [])
    → c.count ≡ 1
    → IsJobAct packages c.first a
    → Each (HasPlace packages ds msg) (last_part_sent msg k c)
one-mark packages [] a k msg c m e f = absurd m
one-mark packages (d ∷ ds) a k msg c m e f = (
  record {
    msg_is = refl;
    deed = d;
    within = first_in d ds;
    command_is = m.0;
    act = a;
    act_is = m.1;
    of_job = f;
  },
  subst
      (λ b. Each (HasPlace packages (d ∷ ds) msg)
      (cond b (record { msg = msg; command = k + 1; number = c.first + c.count - 1; counts = true } ∷ []) []))
      (sym (subst (λ i. nat_lt 1 i ≡ false) (sym e) refl)) tt,
)

alone-marks : (packages : List (List JobEntry)) (ds : List Deed) (xs : List Act) (k msg : ℕ) (c : Carried)
    → Marked ds k (ends_of xs)
    → c.count ≡ length xs → 0 < length xs
    → AreJobActs packages c.first xs
    → Each (HasPlace packages ds msg) (last_part_sent msg k c)
alone-marks packages ds [] k msg c m e some f = absurd (omega (arith, some))
alone-marks packages ds (a ∷ []) k msg c m e some f =
    one-mark packages ds a k msg c m e
    (subst (λ i. IsJobAct packages i a) (let e : c.first + 0 ≡ c.first = omega arith in e) (f 0 a refl))
alone-marks packages ds (a ∷ b ∷ xs) k msg c m e some f =
    let last = last-at b xs in
    two-marks packages ds a last.0 k msg c (subst (λ l. Marked ds k (a ∷ l)) last.1 m)
    (subst (λ i. IsJobAct packages i a) (let e : c.first + 0 ≡ c.first = omega arith in e) (f 0 a refl))
    (subst (λ i. IsJobAct packages i last.0)
    (let g : c.first + suc (length xs) ≡ c.first + c.count - 1 = omega (arith, e) in g)
    (f (suc (length xs)) last.0 last.2))

-- the acts of an entry are those of the job from its number on
pub entry-acts : (packages : List (List JobEntry)) (first : ℕ) (e : JobEntry) → Contains (all_entries packages) e
    → first ≡ e.number
    → AreJobActs packages first (outlines e.command)
entry-acts packages first e within is j a at =
    record { entry = e; within = within; at = j; number_is = ap (λ i. i + j) is; act_is = at }

holds-marks : (packages : List (List JobEntry)) (o : Origin) (k msg : ℕ) (begun : Bool) (x : Command) (c : Carried)
    → Carries packages begun x c
    → Each (HasPlace packages (command_deeds o (with_numbers k x)) msg) (rest_holds msg k begun (Some c))
holds-marks packages o k msg false x c h =
    row-marks packages (command_deeds o (with_numbers k x)) (outlines h.entry.command) k msg c.first c.count
    (subst (λ l. Marked (command_deeds o (with_numbers k x)) k l) h.form (command-marked o k x h.one)) h.count
    (entry-acts packages c.first h.entry h.within h.first)
holds-marks packages o k msg true x c h =
    alone-marks packages (command_deeds o (with_numbers k x)) (outlines h.entry.command) k msg c
    (subst (λ l. Marked (command_deeds o (with_numbers k x)) k l) h.form (command-marked o k x h.one)) h.count h.some
    (entry-acts packages c.first h.entry h.within h.first)

part-report : (c : Command) (b : Bool) (n : ℕ) → is_report c ≡ true
    → is_report (part_of (record { command = c; begun = b }) n) ≡ true
unfolding part_of
part-report (command.Plain p) b n h = absurd (cc)
part-report (command.Alert a) b n h = absurd (cc)
part-report (command.Atomic x) b n h = absurd (cc)
part-report (command.Sequence x) b n h = absurd (cc)
part-report (command.Status s) b n h = refl
part-report (command.Results r) b n h = refl

pub part-carries : (packages : List (List JobEntry)) (w : Waiting) (n : ℕ) (o : Option Carried)
    → WaitsAs packages o w.entry.begun w.entry.command
    → WaitsAs packages o w.entry.begun (part_of w.entry n)
part-carries packages w n None h = part-report w.entry.command w.entry.begun n h
part-carries packages w n (Some c) h = record {
  entry = h.entry;
  within = h.within;
  first = h.first;
  count = h.count;
  some = h.some;
  one = part-each w.entry n h.one;
  form = part-outline w.entry n ∙ h.form;
}

uncounted : (packages : List (List JobEntry)) (ds : List Deed) (msg : ℕ) (s : Sent) → HasPlace packages ds msg s
    → HasPlace packages ds msg (not_counting s)
uncounted packages ds msg s m = record {
  msg_is = m.msg_is;
  deed = m.deed;
  within = m.within;
  command_is = m.command_is;
  act = m.act;
  act_is = m.act_is;
  of_job = m.of_job;
}

last-marks : (packages : List (List JobEntry)) (ds : List Deed) (msg : ℕ) (ss : List Sent)
    → Each (HasPlace packages ds msg) ss
    → Each (HasPlace packages ds msg) (but_the_last ss)
last-marks packages ds msg [] h = tt
last-marks packages ds msg (s ∷ []) h = (uncounted packages ds msg s h.0, tt)
last-marks packages ds msg (s ∷ t ∷ ss) h = (h.0, last-marks packages ds msg (t ∷ ss) h.1)

part-marks : (packages : List (List JobEntry)) (ds : List Deed) (msg : ℕ) (ss : List Sent)
    → Each (HasPlace packages ds msg) ss
    → Each (HasPlace packages ds msg) (part_holds ss)
part-marks packages ds msg [] h = tt
part-marks packages ds msg (s ∷ ss) h = (uncounted packages ds msg s h.0, last-marks packages ds msg ss h.1)

-- where it is noted to count, none of it comes later
pub record HasMark (packages : List (List JobEntry)) (ds : List Deed) (msg : ℕ) (x : Sent) : Type 0 where
  pub place : HasPlace packages ds msg x
  pub last : x.counts ≡ true → IsWholeDeed place.deed

whole-marks : (packages : List (List JobEntry)) (ds : List Deed) (msg : ℕ) (xs : List Sent) → Each IsWholeDeed ds
    → Each (HasPlace packages ds msg) xs
    → Each (HasMark packages ds msg) xs
whole-marks packages ds msg xs whole h =
    each-map {P = HasPlace packages ds msg} {Q = HasMark packages ds msg}
    (λ x p. record { place = p; last = λ e. each-contains IsWholeDeed ds p.deed whole p.within }) xs h

further-marks : (packages : List (List JobEntry)) (ds more : List Deed) (msg : ℕ) (xs : List Sent)
    → ((d : Deed) → Contains ds d → Contains more d)
    → Each (HasMark packages ds msg) xs
    → Each (HasMark packages more msg) xs
further-marks packages ds more msg xs f h =
    each-map {P = HasMark packages ds msg} {Q = HasMark packages more msg}
    (λ x m. record {
      place = record {
        msg_is = m.place.msg_is;
        deed = m.place.deed;
        within = f m.place.deed m.place.within;
        command_is = m.place.command_is;
        act = m.place.act;
        act_is = m.place.act_is;
        of_job = m.place.of_job;
      };
      last = m.last;
    }) xs h

-- in a part that goes out neither a container nor the last of it counts
abbrev CountsBelow : ℕ → Sent → Type 0
CountsBelow end x = x.counts ≡ true → x.command + 1 < end

row-below : (msg k number n end : ℕ) → k + n ≤ end → Each (CountsBelow end) (but_the_last (in_a_row msg k number n))
row-below msg k number zero end h = tt
row-below msg k number (suc zero) end h = ((λ e. absurd (cc)), tt)
row-below msg k number (suc (suc n)) end h =
    ((λ e. omega (arith, h)), row-below msg (k + 1) (number + 1) (suc n) end (omega (arith, h)))

whole-row-below : (msg k number n end : ℕ) → k + n ≤ end
    → Each (CountsBelow end) (part_holds (in_a_row msg k number n))
whole-row-below msg k number zero end h = tt
whole-row-below msg k number (suc n) end h =
    ((λ e. absurd (cc)), row-below msg (k + 1) (number + 1) n end (omega (arith, h)))

part-below : (packages : List (List JobEntry)) (msg k : ℕ) (begun : Bool) (x : Command) (carried : Option Carried)
    → WaitsAs packages carried begun x
    → Each (CountsBelow (k + ids_in x)) (part_holds (rest_holds msg k begun carried))
part-below packages msg k begun x None h = tt
part-below packages msg k false x (Some c) h =
    let count = h.count in
    let same = ap length h.form in
    let long = acts-long x h.one in
    whole-row-below msg k c.first c.count (k + ids_in x) (omega (arith, count, same, long))
part-below packages msg k true x (Some c) h = (
  λ e. absurd (cc),
  either (λ l. Each (CountsBelow (k + ids_in x)) (but_the_last l)) (nat_lt 1 c.count)
      {x = record { msg = msg; command = k + 1; number = c.first + c.count - 1; counts = true } ∷ []} {y = []}
      ((λ e. absurd (cc)), tt) tt,
)

below-marks : (packages : List (List JobEntry)) (ds : List Deed) (msg end : ℕ) (xs : List Sent)
    → ((d : Deed) → Contains ds d → d.post.command + 1 < end → IsWholeDeed d)
    → Each (CountsBelow end) xs
    → Each (HasPlace packages ds msg) xs
    → Each (HasMark packages ds msg) xs
below-marks packages ds msg end [] f b h = tt
below-marks packages ds msg end (x ∷ xs) f b h =
    let p = h.0 in
    let same = p.command_is in (
      record {
        place = p;
        last = λ e. (let low = b.0 e in f p.deed p.within (omega (arith, low, same)));
      },
      below-marks packages ds msg end xs f b.1 h.1,
    )

-- what is left of an entry goes out
rest-go : (packages : List (List JobEntry)) (o : Origin) (k msg : ℕ) (begun : Bool) (x : Command)
    (carried : Option Carried) → WaitsAs packages carried begun x
    → WaitsWhole carried x
    → Each (HasMark packages (command_deeds o (with_numbers k x)) msg) (rest_holds msg k begun carried)
rest-go packages o k msg begun x None h w = tt
rest-go packages o k msg begun x (Some c) h w =
    whole-marks packages (command_deeds o (with_numbers k x)) msg (rest_holds msg k begun (Some c))
    (command-done o k x h.one w) (holds-marks packages o k msg begun x c h)

-- a part of it goes out
part-goes : (packages : List (List JobEntry)) (o : Origin) (k msg n : ℕ) (w : Waiting) (carried : Option Carried)
    → WaitsAs packages carried w.entry.begun w.entry.command
    → WaitsWhole carried w.entry.command
    → Each (HasMark packages (command_deeds o (with_numbers k (part_of w.entry n))) msg)
    (part_holds (rest_holds msg k w.entry.begun carried))
part-goes packages o k msg n w None h whole = tt
part-goes packages o k msg n w (Some c) h whole =
    let x = part_of w.entry n in
    let ds = command_deeds o (with_numbers k x) in
    let holds = rest_holds msg k w.entry.begun (Some c) in
    below-marks packages ds msg (k + ids_in w.entry.command) (part_holds holds)
    (part-whole o k w.entry n h.one whole) (part-below packages msg k w.entry.begun w.entry.command (Some c) h)
    (part-marks packages ds msg holds
    (holds-marks packages o k msg w.entry.begun x c (part-carries packages w n (Some c) h)))

pub out-marks : (packages : List (List JobEntry)) (o : Origin) (msg k whole n : ℕ) (ws : List Waiting)
    (tail : List Command)
    → AllByRecursion (WaitsOf packages) ws
    → Each (HasMark packages
    (all_deeds o (numbered k (commands_of (take whole (map (λ (w : Waiting). w.entry) ws))
    ++ next_part n (drop whole (map (λ (w : Waiting). w.entry) ws)) ++ tail))) msg)
    (goes_out msg k whole n ws)
out-marks packages o msg k whole n [] tail h = tt
out-marks packages o msg k zero zero (w ∷ ws) tail h = tt
out-marks packages o msg k zero (suc n) (w ∷ ws) tail h =
    let x = part_of w.entry (suc n) in
    further-marks packages (command_deeds o (with_numbers k x)) _ msg
    (part_holds (rest_holds msg k w.entry.begun w.carries))
    (λ d i. Contains-append_left (command_deeds o (with_numbers k x)) _ d i)
    (part-goes packages o k msg (suc n) w w.carries h.0.0 h.0.1)
out-marks packages o msg k (suc whole) n (w ∷ ws) tail h =
    let x = w.entry.command in
    each-append (HasMark packages _ msg) (rest_holds msg k w.entry.begun w.carries) _
    (further-marks packages (command_deeds o (with_numbers k x)) _ msg (rest_holds msg k w.entry.begun w.carries)
    (λ d i. Contains-append_left (command_deeds o (with_numbers k x)) _ d i)
    (rest-go packages o k msg w.entry.begun x w.carries h.0.0 h.0.1))
    (further-marks packages _ _ msg (goes_out msg (k + ids_in x) whole n ws)
    (λ d i. Contains-append_right (command_deeds o (with_numbers k x)) _ d i)
    (out-marks packages o msg (k + ids_in x) whole n ws tail h.1))

-- What the server makes of the Results of a message: each value that comes whole with them is one that the client
-- found.
use Rattle.std.proofs.Common.{zero, suc, ◌≡◌, ◌≤◌, ◌+◌, ◌-◌, ◌==◌, ◌&&◌, ℕ, Bool, true, false, cond, List}
use Rattle.std.proofs.Common.{[], ◌∷◌, ◌++◌, length, get_or, Option, None, Some, IfSome, refl, sym, ◌∙◌, ap, subst}
use Rattle.std.proofs.Common.{arith, ◌⊎◌, inl, inr, nat_lt}
use Rattle.std.specs.Prelude.{set, option_and_then, option_map, unwrap_or, nat_eq}
use Rattle.std.specs.Option.{option_or}
use Rattle.std.specs.List.{Contains}
use Rattle.std.proofs.lemmas.List.{append-nil}
use Rattle.std.proofs.lemmas.Bool.Decides.{nat_tests}
use Rattle.syncml_types.specs.declared.values.Loc.{Loc}
use Rattle.syncml_types.specs.declared.values.Meta.{Meta}
use Rattle.syncml_types.specs.declared.values.Item.{Item}
use Rattle.syncml_types.specs.declared.command.Step.{Step}
use Rattle.syncml_types.specs.declared.command.ResultsCmd.{ResultsCmd}
use Rattle.syncml_types.specs.declared.command.Command.{Command}
use Rattle.syncml_types.specs.declared.command.Command.TheVariants as command
use Rattle.syncml_parts.specs.Packing.{bytes_in}
use Rattle.dm_objects.specs.declared.object.Begun.{Begun}
use Rattle.dm_objects.specs.declared.object.Object.{Object}
use Rattle.dm_objects.specs.declared.object.Object.TheVariants.{Nothing, Buffering, Skipping}
use Rattle.dm_objects.specs.declared.piece.Piece.{Piece}
use Rattle.dm_objects.specs.declared.piece.What.{What}
use Rattle.dm_objects.specs.declared.piece.What.TheVariants.{Whole, Buffered, Refused}
use Rattle.dm_objects.specs.Gathering.{key_of, continues, Came, came, skipped, begun_object, first_of_several}
use Rattle.dm_objects.specs.Gathering.{whole_step, next_piece, by_rules, is_same_key, gather}
use Rattle.dm_commands.specs.declared.outcome.Found.{Found}
use Rattle.dm_atomic.specs.declared.tasks.Post.{Post}
use Rattle.dm_atomic.specs.Made.{Made, Result}
use Rattle.dm_service.specs.declared.sent.Sent.{Sent}
use Rattle.dm_service.specs.Service.{Told}
use Rattle.dm_service.specs.Matching.{is_for, find_sent, untold, told_at, with_code, coded, result_piece, Finding}
use Rattle.dm_service.specs.Matching.{found_in, takes_item, takes_items, takes_found, Matched, takes_command, matched}
use Rattle.dm_service.specs.Laws.{found_at}
use Rattle.dm_service.proofs.Codes.{later_in, find_named}
use Rattle.dm_world.specs.World.{InSession}
use Rattle.dm_world.specs.Places.{as_kept}
use Rattle.dm_world.proofs.Lists.{either, Each}
use Rattle.dm_world.proofs.Joins.{same-key}
use Rattle.dm_world.proofs.Flows.{Going, with_bytes, WasFoundAs, GoesOn, TellsOf, IsPiece, behind, Flow, behind-found}

-- ---- an object in which a value comes

pub record HasGot (found : Found) (got : List ℕ) (b : Begun) : Type 0 where
  pub key : b.key ≡ key_of (as_kept found)
  pub format : b.format ≡ Some found.format
  pub media : b.media ≡ found.media
  pub value : b.value ≡ got

-- so many bytes of the value have come, or its pieces are skipped
abbrev pub IsOf : Found → List ℕ → Object → Type 0
IsOf found got Nothing = ⊥
IsOf found got (Buffering b) = HasGot found got b
IsOf found got (Skipping key code) = key ≡ key_of (as_kept found)

-- the piece of a value with these bytes
abbrev piece_with : Found → List ℕ → Option ℕ → Bool → Piece
piece_with found bytes size more =
    record { step = record (as_kept found) { value = bytes }; size = size; more = more }

abbrev NotWhole : What → Type 0
NotWhole (Whole step) = ⊥
NotWhole Buffered = Unit {0}
NotWhole (Refused code) = Unit {0}

abbrev OnlyWhole : Found → List ℕ → What → Type 0
OnlyWhole found all (Whole step) = step ≡ record (as_kept found) { value = all }
OnlyWhole found all Buffered = Unit {0}
OnlyWhole found all (Refused code) = Unit {0}

-- what a piece comes to with which so many bytes have come
abbrev ComesTo : Found → List ℕ → Bool → Object → What → Type 0
ComesTo found all true object what = IsOf found all object × NotWhole what
ComesTo found all false object what = (object ≡ Nothing) × OnlyWhole found all what

abbrev CameTo : Found → List ℕ → Bool → Came → Type 0
CameTo found all more c = ComesTo found all more c.object c.what

first-several : (max : ℕ) (found : Found) (bytes : List ℕ) (size : Option ℕ) (o : Option ℕ)
    → CameTo found bytes true (first_of_several max (piece_with found bytes size true) o)
first-several max found bytes size None = (refl, tt)
first-several max found bytes size (Some n) =
    let p = piece_with found bytes size true in
    either (CameTo found bytes true) (nat_lt max n) {x = skipped p 416} (refl, tt)
    (either (CameTo found bytes true) (nat_lt n (length bytes)) {x = skipped p 424}
    {y = came (Buffering (begun_object p n)) Buffered} (refl, tt)
    (record { key = refl; format = refl; media = refl; value = refl }, tt))

first-piece : (max : ℕ) (found : Found) (bytes : List ℕ) (size : Option ℕ) (more : Bool)
    → CameTo found bytes more (by_rules max Nothing (piece_with found bytes size more))
first-piece max found bytes size true = first-several max found bytes size size
first-piece max found bytes size false =
    let p = piece_with found bytes size false in
    either (CameTo found bytes false) (nat_lt max (length bytes)) {x = came Nothing (Refused 416)}
    {y = came Nothing (Whole p.step)} (refl, tt) (refl, refl)

-- the whole of what came and of the last bytes
whole-is : (found : Found) (got bytes : List ℕ) (b : Begun) (size : Option ℕ) → HasGot found got b
    → whole_step b (record (as_kept found) { value = bytes }) ≡ record (as_kept found) { value = got ++ bytes }
whole-is found got bytes b size h =
    ap (λ x. record (as_kept found) { format = x; media = b.media; value = b.value ++ bytes }) h.format
    ∙ ap (λ x. record (as_kept found) { media = x; value = b.value ++ bytes }) h.media
    ∙ ap (λ x. record (as_kept found) { value = x ++ bytes }) h.value

buffered-piece : (found : Found) (got bytes : List ℕ) (b : Begun) (size : Option ℕ) (more : Bool)
    → HasGot found got b
    → CameTo found (got ++ bytes) more (next_piece b (piece_with found bytes size more))
buffered-piece found got bytes b size true h =
    let total = length b.value + length bytes in
    either (CameTo found (got ++ bytes) true) (nat_lt b.size total) {x = came (Skipping b.key 424) (Refused 424)}
    {y = came (Buffering (record b { value = b.value ++ bytes })) Buffered} (h.key, tt)
    (record { key = h.key; format = h.format; media = h.media; value = ap (λ l. l ++ bytes) h.value }, tt)
buffered-piece found got bytes b size false h =
    let total = length b.value + length bytes in
    either (CameTo found (got ++ bytes) false) (nat_lt b.size total) {x = came Nothing (Refused 424)}
    {y = cond (total == b.size) (came Nothing (Whole (whole_step b (record (as_kept found) { value = bytes }))))
    (came Nothing (Refused 424))} (refl, tt)
    (either (CameTo found (got ++ bytes) false) (total == b.size)
    {x = came Nothing (Whole (whole_step b (record (as_kept found) { value = bytes })))}
    {y = came Nothing (Refused 424)} (refl, whole-is found got bytes b size h) (refl, tt))

later-piece : (max : ℕ) (found : Found) (got bytes : List ℕ) (object : Object) (size : Option ℕ) (more : Bool)
    → IsOf found got object
    → CameTo found (got ++ bytes) more (by_rules max object (piece_with found bytes size more))
later-piece max found got bytes Nothing size more h = absurd h
later-piece max found got bytes (Buffering b) size true h = buffered-piece found got bytes b size true h
later-piece max found got bytes (Buffering b) size false h = buffered-piece found got bytes b size false h
later-piece max found got bytes (Skipping key code) size true h = (h, tt)
later-piece max found got bytes (Skipping key code) size false h = (refl, tt)

does-continue : (found : Found) (got bytes : List ℕ) (object : Object) (size : Option ℕ) (more : Bool)
    → IsOf found got object
    → continues object (piece_with found bytes size more) ≡ true
does-continue found got bytes Nothing size more h = absurd h
does-continue found got bytes (Buffering b) size more h =
    ap (λ k. is_same_key k (key_of (as_kept found))) h.key ∙ same-key (key_of (as_kept found))
does-continue found got bytes (Skipping key code) size more h =
    ap (λ k. is_same_key k (key_of (as_kept found))) h ∙ same-key (key_of (as_kept found))

-- ---- the piece that Results hold

-- where nothing has come an object is none
abbrev Holds : Found → List ℕ → Object → Type 0
Holds found got object = ((got ≡ []) × (object ≡ Nothing)) ⊎ IsOf found got object

gather-comes : (max : ℕ) (found : Found) (got bytes : List ℕ) (object : Object) (size : Option ℕ) (more : Bool)
    → Holds found got object
    → ComesTo found (got ++ bytes) more (gather max object (piece_with found bytes size more)).object
    (gather max object (piece_with found bytes size more)).what
unfolding gather
gather-comes max found got bytes object size more (inl h) =
    subst (λ o. ComesTo found (got ++ bytes) more (gather max o (piece_with found bytes size more)).object
    (gather max o (piece_with found bytes size more)).what) (sym h.1)
    (subst (λ g. CameTo found (g ++ bytes) more (by_rules max Nothing (piece_with found bytes size more))) (sym h.0)
    (first-piece max found bytes size more))
gather-comes max found got bytes object size more (inr h) =
    subst (λ c. CameTo found (got ++ bytes) more
    (by_rules max (cond c object Nothing) (piece_with found bytes size more)))
    (sym (does-continue found got bytes object size more h)) (later-piece max found got bytes object size more h)

or-none : {A : Type 0} (o p : Option A) → p ≡ None → option_or o p ≡ o
or-none None p e = e
or-none (Some x) p e = refl

or-some : {A : Type 0} (o p : Option A) (x : A) → o ≡ Some x → option_or o p ≡ Some x
or-some None p x e = absurd (cc)
or-some (Some y) p x e = e

bytes-are : (o : Option (List ℕ)) → unwrap_or o [] ≡ bytes_in o
bytes-are None = refl
bytes-are (Some l) = refl

-- its step, by the value that it tells of
step-is : (found : Found) (r : ResultsCmd) (i : Item) → r.meta ≡ None → TellsOf found i
    → (result_piece r i).step ≡ record (as_kept found) { value = bytes_in i.value }
step-is found r i e h =
    let format = or-some _ (option_and_then (λ (m : Meta). m.format) r.meta) found.format h.format in
    let media = or-none (option_and_then (λ (m : Meta). m.media) i.meta) _
    (ap (λ o. option_and_then (λ (m : Meta). m.media) o) e) ∙ h.media in
    ap (λ x. record (result_piece r i).step { target = x }) (ap (λ o. option_map (λ (l : Loc). l.uri) o) h.source)
    ∙ ap (λ x. record (result_piece r i).step { target = Some found.uri; format = x }) format
    ∙ ap (λ x. record (result_piece r i).step { target = Some found.uri; format = Some found.format; media = x }) media
    ∙ ap (λ x. record (as_kept found) { value = x }) (bytes-are i.value)

results-come : (max : ℕ) (found : Found) (got : List ℕ) (object : Object) (r : ResultsCmd) (i : Item) → r.meta ≡ None
    → TellsOf found i
    → Holds found got object
    → ComesTo found (got ++ bytes_in i.value) i.more (gather max object (result_piece r i)).object
    (gather max object (result_piece r i)).what
results-come max found got object r i e t h =
    let p = result_piece r i in
    subst (λ s. ComesTo found (got ++ bytes_in i.value) i.more
    (gather max object (record { step = s; size = p.size; more = i.more })).object
    (gather max object (record { step = s; size = p.size; more = i.more })).what) (sym (step-is found r i e t))
    (gather-comes max found got (bytes_in i.value) object p.size i.more h)

-- ---- what is told then

-- one more
last-or : {A : Type 0} (xs : List A) (y x : A) → Contains (xs ++ y ∷ []) x → Contains xs x ⊎ (y ≡ x)
last-or [] y x (zero, l, e) = inr e
last-or [] y x (suc k, l, e) = absurd (omega (arith, l))
last-or (z ∷ xs) y x (zero, l, e) = inl (zero, omega arith, e)
last-or (z ∷ xs) y x (suc k, l, e) = up (last-or xs y x (k, omega (arith, l), e))
  where
    up : Contains xs x ⊎ (y ≡ x) → Contains (z ∷ xs) x ⊎ (y ≡ x)
    up (inl h) = inl (later_in x z xs h)
    up (inr h) = inr h

-- what is put at a place is there
set-found : (told : List Told) (k : ℕ) (t : Told) (place : ℕ) (value : Step)
    → Contains (found_at (set told k t) place) value
    → Contains (found_at told place) value ⊎ ((place ≡ k) × Contains t.found value)
set-found [] k t place value h = inl h
set-found (x ∷ xs) zero t zero value h = inr (refl, h)
set-found (x ∷ xs) zero t (suc place) value h = inl h
set-found (x ∷ xs) (suc k) t zero value h = inl h
set-found (x ∷ xs) (suc k) t (suc place) value h = up (set-found xs k t place value h)
  where
    up : Contains (found_at xs place) value ⊎ ((place ≡ k) × Contains t.found value)
        → Contains (found_at xs place) value ⊎ ((suc place ≡ suc k) × Contains t.found value)
    up (inl h) = inl h
    up (inr h) = inr (ap suc h.0, h.1)

-- the same as before at that place
at-place : (told : List Told) (k place : ℕ) (value : Step)
    → Contains (found_at told place) value ⊎ ((place ≡ k) × Contains (get_or told k untold).found value)
    → Contains (found_at told place) value
at-place told k place value (inl h) = h
at-place told k place value (inr h) = subst (λ j. Contains (found_at told j) value) (sym h.0) h.1

coded-found : (told : List Told) (o : Option Sent) (code place : ℕ) (value : Step)
    → Contains (found_at (coded told o code) place) value → Contains (found_at told place) value
coded-found told None code place value h = h
coded-found told (Some s) code place value h = by s.counts h
  where
    by : (b : Bool) → Contains (found_at (cond b (with_code told s.number code) told) place) value
        → Contains (found_at told place) value
    by true h =
        at-place told (s.number - 1) place value
        (set-found told (s.number - 1) (record (told_at told s.number) { code = Some code }) place value h)
    by false h = h

-- a value that came now: the client found it for this command, which the server has sent
pub record IsNew (made : List (InSession Made)) (n : ℕ) (sent : List Sent) (place : ℕ) (value : Step) : Type 0 where
  pub command : Sent
  pub was_sent : Contains sent command
  pub place_is : command.number - 1 ≡ place
  pub post : Post
  pub found : Found
  pub within : Contains made (record { session = n; what = Result post found })
  pub msg_is : post.msg ≡ command.msg
  pub command_is : post.command ≡ command.command
  pub value_is : value ≡ as_kept found

abbrev pub Among : List (InSession Made) → ℕ → List Sent → List Told → List Told → Type 0
Among made n sent told now = (place : ℕ) (value : Step) → Contains (found_at now place) value
    → Contains (found_at told place) value ⊎ IsNew made n sent place value

-- a value that came whole, where it is one that was found
what-among : (made : List (InSession Made)) (n : ℕ) (sent : List Sent) (told : List Told) (s : Sent) (x : Going)
    (what : What)
    → WasFoundAs made n x
    → find_sent x.msg x.cmd sent ≡ Some s
    → OnlyWhole x.found (bytes_in x.found.value) what
    → Among made n sent told (found_in told s.number what)
what-among made n sent told s x Buffered f e w place value h = inl h
what-among made n sent told s x (Refused code) f e w place value h = inl h
what-among made n sent told s x (Whole step) f e w place value h =
    by
    (set-found told (s.number - 1)
    (record (told_at told s.number) { found = (told_at told s.number).found ++ step ∷ [] }) place value h)
  where
    new : place ≡ s.number - 1 → Contains (told_at told s.number).found value ⊎ (step ≡ value)
        → Contains (found_at told place) value ⊎ IsNew made n sent place value
    new p (inl k) = inl (subst (λ j. Contains (found_at told j) value) (sym p) k)
    new p (inr k) =
        let named = find_named x.msg x.cmd sent s e in
        inr (record {
          command = s;
          was_sent = named.within;
          place_is = sym p;
          post = f.post;
          found = x.found;
          within = f.within;
          msg_is = f.msg_is ∙ sym named.msg_is;
          command_is = f.command_is ∙ sym named.command_is;
          value_is = sym k ∙ w;
        })

    by : Contains (found_at told place) value
        ⊎ ((place ≡ s.number - 1) × Contains ((told_at told s.number).found ++ step ∷ []) value)
        → Contains (found_at told place) value ⊎ IsNew made n sent place value
    by (inl k) = inl k
    by (inr k) = new k.0 (last-or (told_at told s.number).found step value k.1)

-- ---- an object and the value that is on its way

-- the command that it was found for was sent, and the object has what came of it, or it wasn't, and there is none
abbrev pub Fits : List Sent → Option Going → Object → Type 0
Fits sent None object = object ≡ Nothing
Fits sent (Some x) object =
    ((s : Sent) × (find_sent x.msg x.cmd sent ≡ Some s) × IsOf x.found x.got object)
    ⊎ ((find_sent x.msg x.cmd sent ≡ None) × (object ≡ Nothing))

-- what Results leave
record Matches (made : List (InSession Made)) (n : ℕ) (sent : List Sent) (o : Option Going) (told : List Told)
    (x : Finding) : Type 0 where
  fits : Fits sent o x.object
  values : Among made n sent told x.told

some-none : {A : Type 0} (o : Option A) (x : A) → o ≡ Some x → o ≡ None → ⊥
some-none o x e f = cc

-- where the command that they name wasn't sent
fits-none : (sent : List Sent) (o : Option Going) (x : Going) (object : Object) → GoesOn o x
    → find_sent x.msg x.cmd sent ≡ None
    → Fits sent o object
    → object ≡ Nothing
fits-none sent None x object g e h = h
fits-none sent (Some y) x object g e (inl h) =
    absurd (some-none (find_sent y.msg y.cmd sent) h.0 h.1 (subst (λ z. find_sent z.msg z.cmd sent ≡ None) g e))
fits-none sent (Some y) x object g e (inr h) = h.1

-- and where it was
fits-some : (sent : List Sent) (o : Option Going) (x : Going) (object : Object) (s : Sent) → GoesOn o x
    → find_sent x.msg x.cmd sent ≡ Some s
    → Fits sent o object
    → Holds x.found x.got object
fits-some sent None x object s g e h = inl (g, h)
fits-some sent (Some y) x object s g e (inl h) = inr (subst (λ z. IsOf z.found z.got object) (sym g) h.2)
fits-some sent (Some y) x object s g e (inr h) =
    absurd (some-none (find_sent y.msg y.cmd sent) s (subst (λ z. find_sent z.msg z.cmd sent ≡ Some s) g e) h.0)

unsent-fits : (sent : List Sent) (x : Going) (i : Item) (object : Object) → find_sent x.msg x.cmd sent ≡ None
    → object ≡ Nothing
    → Fits sent (behind x i) object
unsent-fits sent x i object e h = by i.more
  where
    by : (b : Bool) → Fits sent (cond b (Some (with_bytes x (bytes_in i.value))) None) object
    by true = inr (e, h)
    by false = h

-- one piece of the value that it is, and what is known of it
piece-matches : (max : ℕ) (made : List (InSession Made)) (n : ℕ) (sent : List Sent) (o : Option Going) (f : Finding)
    (r : ResultsCmd) (p : IsPiece made n o r.msg_ref r.cmd_ref r.meta r.items) (s : Sent)
    → find_sent p.value.msg p.value.cmd sent ≡ Some s
    → Fits sent o f.object
    → Matches made n sent (behind p.value p.item) f.told (takes_item max s.number r f p.item)
piece-matches max made n sent o f r p s e h =
    by p.item.more refl
    (results-come max p.value.found p.value.got f.object r p.item p.meta_is p.tells
    (fits-some sent o p.value f.object s p.goes_on e h))
  where
    never : (w : What) → NotWhole w → Among made n sent f.told (found_in f.told s.number w)
    never (Whole step) k = absurd k
    never Buffered k = λ place value h. inl h
    never (Refused code) k = λ place value h. inl h

    by : (b : Bool) → p.item.more ≡ b
        → ComesTo p.value.found (p.value.got ++ bytes_in p.item.value) b
        (gather max f.object (result_piece r p.item)).object (gather max f.object (result_piece r p.item)).what
        → Matches made n sent (cond b (Some (with_bytes p.value (bytes_in p.item.value))) None) f.told
        (takes_item max s.number r f p.item)
    by true m k =
        record { fits = inl (s, e, k.0); values = never (gather max f.object (result_piece r p.item)).what k.1 }
    by false m k = record {
      fits = k.0;
      values = what-among made n sent f.told s p.value (gather max f.object (result_piece r p.item)).what p.was_found e
          (subst (λ l. OnlyWhole p.value.found l (gather max f.object (result_piece r p.item)).what)
          (ap (λ l. p.value.got ++ l)
          (sym (append-nil (bytes_in p.item.value)) ∙ ap (λ l. bytes_in p.item.value ++ l) (sym (p.last m))) ∙ p.bytes)
          k.1);
    }

results-matches : (max : ℕ) (made : List (InSession Made)) (n : ℕ) (sent : List Sent) (o : Option Going) (f : Finding)
    (r : ResultsCmd) (p : IsPiece made n o r.msg_ref r.cmd_ref r.meta r.items) (q : Option Sent)
    → find_sent p.value.msg p.value.cmd sent ≡ q
    → Fits sent o f.object
    → Matches made n sent (behind p.value p.item) f.told (takes_found max q r f)
results-matches max made n sent o f r p None e h = record {
  fits = unsent-fits sent p.value p.item f.object e (fits-none sent o p.value f.object p.goes_on e h);
  values = λ place value k. inl k;
}
results-matches max made n sent o f r p (Some s) e h =
    subst (λ items. Matches made n sent (behind p.value p.item) f.told (takes_items max s.number r f items))
    (sym p.only) (piece-matches max made n sent o f r p s e h)

-- ---- a whole message

-- what a message leaves, with the value that has begun then
pub record Matched_as (made : List (InSession Made)) (n : ℕ) (sent : List Sent) (told : List Told)
    (later : List Command) (x : Finding) : Type 0 where
  pub going : Option Going
  pub fits : Fits sent going x.object
  pub flow : Flow made n going later
  pub was_found : IfSome going (WasFoundAs made n)
  pub values : Among made n sent told x.told

both-among : (made : List (InSession Made)) (n : ℕ) (sent : List Sent) (a b c : List Told) → Among made n sent a b
    → Among made n sent b c
    → Among made n sent a c
both-among made n sent a b c h k place value v = by (k place value v)
  where
    by : Contains (found_at b place) value ⊎ IsNew made n sent place value
        → Contains (found_at a place) value ⊎ IsNew made n sent place value
    by (inl x) = h place value x
    by (inr x) = inr x

from-told : (made : List (InSession Made)) (n : ℕ) (sent : List Sent) (a b : List Told) (later : List Command)
    (x : Finding) → Among made n sent a b
    → Matched_as made n sent b later x
    → Matched_as made n sent a later x
from-told made n sent a b later x h m = record {
  going = m.going;
  fits = m.fits;
  flow = m.flow;
  was_found = m.was_found;
  values = both-among made n sent a b x.told h m.values;
}

named-by : (sent : List Sent) (msg : Option ℕ) (cmd : ℕ) (x : Going) → msg ≡ Some x.msg → cmd ≡ x.cmd
    → option_and_then (λ k. find_sent k cmd sent) msg ≡ find_sent x.msg x.cmd sent
named-by sent msg cmd x e f =
    ap (λ o. option_and_then (λ k. find_sent k cmd sent) o) e ∙ ap (λ c. find_sent x.msg c sent) f

pub message-matches : (max : ℕ) (made : List (InSession Made)) (n : ℕ) (sent : List Sent) (o : Option Going)
    (x : Matched) (cs later : List Command)
    → Fits sent o x.finding.object
    → IfSome o (WasFoundAs made n)
    → Flow made n o (cs ++ later)
    → Matched_as made n sent x.finding.told later (matched max sent x cs).finding
unfolding matched
message-matches max made n sent o x [] later h w f =
    record { going = o; fits = h; flow = f; was_found = w; values = λ place value k. inl k }
message-matches max made n sent o x (command.Results r ∷ cs) later h w f =
    let p = f.0 in
    let y = takes_command max sent x (command.Results r) in
    let q = option_and_then (λ k. find_sent k r.cmd_ref sent) r.msg_ref in
    let one = results-matches max made n sent o x.finding r p q
    (sym (named-by sent r.msg_ref r.cmd_ref p.value p.msg_is p.command_is)) h in
    from-told made n sent x.finding.told y.finding.told later (matched max sent y cs).finding one.values
    (message-matches max made n sent (behind p.value p.item) y cs later one.fits
    (behind-found made n p.value p.item p.was_found) f.1)
message-matches max made n sent o x (command.Status c ∷ cs) later h w f =
    let y = takes_command max sent x (command.Status c) in
    from-told made n sent x.finding.told y.finding.told later (matched max sent y cs).finding
    (λ place value k. inl (coded-found x.finding.told (find_sent c.msg_ref c.cmd_ref sent) c.code place value k))
    (message-matches max made n sent o y cs later h w f)
message-matches max made n sent o x (command.Alert a ∷ cs) later h w f =
    message-matches max made n sent o (takes_command max sent x (command.Alert a)) cs later h w f
message-matches max made n sent o x (command.Plain c ∷ cs) later h w f =
    message-matches max made n sent o x cs later h w f
message-matches max made n sent o x (command.Atomic b ∷ cs) later h w f =
    message-matches max made n sent o x cs later h w f
message-matches max made n sent o x (command.Sequence b ∷ cs) later h w f =
    message-matches max made n sent o x cs later h w f

-- ---- more is sent

-- each of these stands in a later message
abbrev pub AreNext : ℕ → List Sent → Type 0
AreNext own = Each (λ (s : Sent). s.msg ≡ own + 1)

some-more : (msg cmd : ℕ) (sent out : List Sent) (s : Sent) → find_sent msg cmd sent ≡ Some s
    → find_sent msg cmd (sent ++ out) ≡ Some s
some-more msg cmd [] out s e = absurd (cc)
some-more msg cmd (x ∷ xs) out s e = by (is_for msg cmd x) (some-more msg cmd xs out s) e
  where
    by : (b : Bool) → (find_sent msg cmd xs ≡ Some s → find_sent msg cmd (xs ++ out) ≡ Some s)
        → cond b (Some x) (find_sent msg cmd xs) ≡ Some s
        → cond b (Some x) (find_sent msg cmd (xs ++ out)) ≡ Some s
    by true f e = e
    by false f e = f e

not-next : (own msg cmd : ℕ) (x : Sent) → msg ≤ own → x.msg ≡ own + 1 → is_for msg cmd x ≡ false
not-next own msg cmd x l e =
    let no : nat_eq x.msg msg ≡ false = grind (arith, nat_tests) in ap (λ b. b && (x.command == cmd)) no

none-next : (own msg cmd : ℕ) (out : List Sent) → msg ≤ own → AreNext own out → find_sent msg cmd out ≡ None
none-next own msg cmd [] l h = refl
none-next own msg cmd (x ∷ xs) l h =
    ap (λ b. cond b (Some x) (find_sent msg cmd xs)) (not-next own msg cmd x l h.0) ∙ none-next own msg cmd xs l h.1

none-more : (own msg cmd : ℕ) (sent out : List Sent) → msg ≤ own → AreNext own out → find_sent msg cmd sent ≡ None
    → find_sent msg cmd (sent ++ out) ≡ None
none-more own msg cmd [] out l h e = none-next own msg cmd out l h
none-more own msg cmd (x ∷ xs) out l h e = by (is_for msg cmd x) (none-more own msg cmd xs out l h) e
  where
    by : (b : Bool) → (find_sent msg cmd xs ≡ None → find_sent msg cmd (xs ++ out) ≡ None)
        → cond b (Some x) (find_sent msg cmd xs) ≡ None
        → cond b (Some x) (find_sent msg cmd (xs ++ out)) ≡ None
    by true f e = absurd (cc)
    by false f e = f e

pub fits-more : (own : ℕ) (sent out : List Sent) (o : Option Going) (object : Object)
    → IfSome o (λ (x : Going). x.msg ≤ own)
    → AreNext own out
    → Fits sent o object
    → Fits (sent ++ out) o object
fits-more own sent out None object l a h = h
fits-more own sent out (Some x) object l a (inl h) = inl (h.0, some-more x.msg x.cmd sent out h.0 h.1, h.2)
fits-more own sent out (Some x) object l a (inr h) = inr (none-more own x.msg x.cmd sent out l a h.0, h.1)

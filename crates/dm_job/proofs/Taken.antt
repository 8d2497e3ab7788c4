-- The lines of a job of the grammar are taken one after another.
use Rattle.std.proofs.Common.{◌≡◌, ◌+◌, ℕ, true, false, List, [], ◌∷◌, ◌++◌, length, map}
use Rattle.std.proofs.Common.{Some, Result, Ok, Err, refl, sym, ap, subst, ◌∙◌, arith, append_assoc}
use Rattle.std.proofs.Common.{append-nil, length-append, option_and_then, codes, cond, flat_map, inl, inr}
use Rattle.std.specs.Prelude.{◌⊎◌}
use Rattle.std.specs.Option.{option_map_or}
use Rattle.std.specs.List.{AllByRecursion}
use Rattle.dm_base.specs.Fields.{parts}
use Rattle.dm_base.specs.declared.values.Limits.{Limits}
use Rattle.dm_base.specs.declared.lines.LineReason.{LineReason}
use Rattle.dm_base.specs.declared.lines.LineReason.TheVariants as reason
use Rattle.syncml_types.specs.declared.command.Plain.{Plain}
use Rattle.syncml_types.specs.declared.command.Command.TheVariants as command
use Rattle.syncml_parts.specs.Numbering.{ids_in}
use Rattle.syncml_parts.specs.Packing.{list_last}
use Rattle.dm_auth.specs.declared.accounts.Account.{Account}
use Rattle.dm_fields.specs.Fields.{begins_with, account_in, limits_in}
use Rattle.dm_fields.specs.Refusing.{or_refused}
use Rattle.dm_job.specs.declared.job.Job.{Job}
use Rattle.dm_job.specs.declared.job.JobEntry.{JobEntry}
use Rattle.dm_job.specs.declared.draft.JobDraft.{JobDraft}
use Rattle.dm_job.specs.declared.draft.LinePlace.{LinePlace}
use Rattle.dm_job.specs.declared.draft.LinePlace.TheVariants as place
use Rattle.dm_job.specs.declared.draft.Reading.{Reading}
use Rattle.dm_job.specs.declared.draft.Reading.TheVariants as reading
use Rattle.dm_job.specs.Commands.{may_close}
use Rattle.dm_job.specs.Reading.{entry_put, adds, draft_joined, entry_joined, when, inside, outside, with_draft}
use Rattle.dm_job.specs.Reading.{reading_after}
use Rattle.dm_job.specs.Reading.{reading_behind, reading_after_all, last_entry, empty_draft}
use Rattle.dm_job.specs.Texts.{job_in}
use Rattle.dm_job.specs.Grammar.{Said, IsSaid, Kind, atomic, sequence, kind_word, container_command, Stanza, one, block}
use Rattle.dm_job.specs.Grammar.{said_line}
use Rattle.dm_job.specs.Grammar.{said_plain, lines_of, IsStanza, AreStanzas, package_lines, ids_of_stanzas}
use Rattle.dm_job.specs.Grammar.{packages_of, IsJob}
use Rattle.dm_job.proofs.Containers.{one_member, longer_ids}
use Rattle.dm_job.proofs.Ends.{last_added}
use Rattle.dm_job.proofs.Made.{total, ids_more, total_more, entry_of, entries_more, entries_long, with_last, with_some}
use Rattle.dm_job.proofs.Made.{packages_more, Stands, entry_comes, last_entry_changes, package_word}
use Rattle.dm_job.proofs.Parsed.{es_of, one_id, new_id}

-- ---- drafts

-- a draft by its parts
abbrev draft : Account → Limits → LinePlace → List (List JobEntry) → ℕ → JobDraft
draft account limits at ps n =
    record { job = record { account = account; limits = limits; packages = ps }; place = at; count = n }

-- whose lines lead from one to another
record Leads (from : JobDraft) (lines : List (List ℕ)) (to : JobDraft) : Type 0 where
  leads : (n : ℕ) (rest : List (List ℕ))
      → reading_after_all n (reading.Commands from) (lines ++ rest)
      ≡ reading_after_all (n + length lines) (reading.Commands to) rest

number_is : (n m : ℕ) (r : Reading) (rest : List (List ℕ)) → n ≡ m → reading_after_all n r rest ≡ reading_after_all m r rest
number_is n m r rest is = ap (λ k. reading_after_all k r rest) is

same_lead : (d : JobDraft) → Leads d [] d
same_lead d =
    record { leads = λ n rest. (let is : n ≡ n + 0 = omega arith in number_is n (n + 0) (reading.Commands d) rest is) }

line_leads : (from to : JobDraft) (line : List ℕ) → reading_after (reading.Commands from) line ≡ Ok (reading.Commands to)
    → Leads from (line ∷ []) to
line_leads from to line h =
    record { leads = λ n rest. ap (λ x. reading_behind n x (λ next. reading_after_all (n + 1) next rest)) h }

then_leads : (a b c : JobDraft) (xs ys : List (List ℕ)) → Leads a xs b → Leads b ys c → Leads a (xs ++ ys) c
then_leads a b c xs ys h k =
    record {
      leads = λ n rest. (let long = length-append xs ys in
          let is : n + length xs + length ys ≡ n + length (xs ++ ys) = omega (arith, long) in
          ap (reading_after_all n (reading.Commands a)) (append_assoc xs ys rest) ∙ h.leads n (ys ++ rest)
          ∙ k.leads (n + length xs) rest ∙ number_is _ _ (reading.Commands c) rest is);
    }

-- ---- one line

-- so many commands, and these packages
abbrev told_so : Account → Limits → LinePlace → List (List Stanza) → List Stanza → JobDraft
told_so account limits at whole current =
    draft account limits at (with_last (packages_of whole) (es_of whole current)) (total whole + ids_of_stanzas current)

abbrev block_entry : List (List Stanza) → List Stanza → Kind → List Plain → JobEntry
block_entry whole current k ps = entry_of (1 + total whole + ids_of_stanzas current) (container_command k ps)

-- with a container that is open, or has just ended
abbrev held_so : Account → Limits → LinePlace → List (List Stanza) → List Stanza → Kind → List Plain → JobDraft
held_so account limits at whole current k ps =
    draft account limits at
    (with_last (packages_of whole) (es_of whole current ++ block_entry whole current k ps ∷ []))
    (total whole + ids_of_stanzas current + ids_in (container_command k ps))

same_draft : (account : Account) (limits : Limits) (at : LinePlace) (ps qs : List (List JobEntry)) (n m : ℕ) → ps ≡ qs
    → n ≡ m
    → draft account limits at ps n ≡ draft account limits at qs m
same_draft account limits at ps qs n m p k =
    ap (λ x. draft account limits at x n) p ∙ ap (λ i. draft account limits at qs i) k

same_next : (x y : JobDraft) → x ≡ y
    → ◌≡◌ {A = Result Reading LineReason} (Ok (reading.Commands x)) (Ok (reading.Commands y))
same_next x y h = ap (λ d. Ok (reading.Commands d)) h

-- ---- a command

plain_made : (account : Account) (limits : Limits) (at : LinePlace) (whole : List (List Stanza)) (current : List Stanza)
    (s : Said)
    → Stands at (es_of whole current)
    → draft account limits place.Package
    (entry_put at (with_last (packages_of whole) (es_of whole current))
    (entry_of (total whole + ids_of_stanzas current + 1) (command.Plain s.says))) (total whole + ids_of_stanzas current + 1)
    ≡ told_so account limits place.Package whole (current ++ one s ∷ [])
plain_made account limits at whole current s stands =
    let n = total whole + ids_of_stanzas current in
    let number : n + 1 ≡ 1 + total whole + ids_of_stanzas current = omega arith in
    let more = ids_more current (one s) in
    let one_ = one_id s in
    let count : n + 1 ≡ total whole + ids_of_stanzas (current ++ one s ∷ []) = omega (arith, more, one_) in
    same_draft account limits place.Package _ _ (n + 1) _
    (entry_comes at (packages_of whole) (es_of whole current) (entry_of (n + 1) (command.Plain s.says)) stands
    ∙ ap (with_last (packages_of whole)) (sym (entries_more (1 + total whole) (n + 1) current (one s) number)))
    count

plain_line : (account : Account) (limits : Limits) (at : LinePlace) (whole : List (List Stanza)) (current : List Stanza)
    (s : Said)
    → Stands at (es_of whole current) → IsSaid s
    → reading_after (reading.Commands (told_so account limits at whole current)) s.line
    ≡ Ok (reading.Commands (told_so account limits place.Package whole (current ++ one s ∷ [])))
unfolding reading_after
plain_line account limits place.Between whole current s stands is =
    let d = told_so account limits place.Between whole current in
    ap (λ o. with_draft (outside d s.line o)) is.named
    ∙ ap (λ o. with_draft (or_refused reason.Fields o (λ p. Ok (adds d place.Package (command.Plain p))))) is.fields
    ∙ same_next _ _ (plain_made account limits place.Between whole current s stands)
plain_line account limits place.Package whole current s stands is =
    let d = told_so account limits place.Package whole current in
    ap (λ o. with_draft (outside d s.line o)) is.named
    ∙ ap (λ o. with_draft (or_refused reason.Fields o (λ p. Ok (adds d place.Package (command.Plain p))))) is.fields
    ∙ same_next _ _ (plain_made account limits place.Package whole current s stands)
plain_line account limits place.Container whole current s stands is = absurd stands
plain_line account limits place.End whole current s stands is = absurd stands

-- ---- a container

opened_made : (account : Account) (limits : Limits) (at : LinePlace) (whole : List (List Stanza)) (current : List Stanza)
    (k : Kind)
    → Stands at (es_of whole current)
    → draft account limits place.Container
    (entry_put at (with_last (packages_of whole) (es_of whole current))
    (entry_of (total whole + ids_of_stanzas current + 1) (container_command k []))) (total whole + ids_of_stanzas current + 1)
    ≡ held_so account limits place.Container whole current k []
opened_made account limits at whole current k stands =
    let n = total whole + ids_of_stanzas current in
    let number : n + 1 ≡ 1 + total whole + ids_of_stanzas current = omega arith in
    let new = new_id k in
    let count : n + 1 ≡ total whole + ids_of_stanzas current + ids_in (container_command k []) = omega (arith, new) in
    same_draft account limits place.Container _ _ (n + 1) _
    (entry_comes at (packages_of whole) (es_of whole current) (entry_of (n + 1) (container_command k [])) stands
    ∙ ap (λ i. with_last (packages_of whole) (es_of whole current ++ entry_of i (container_command k []) ∷ [])) number)
    count

open_line : (account : Account) (limits : Limits) (at : LinePlace) (whole : List (List Stanza)) (current : List Stanza)
    (k : Kind)
    → Stands at (es_of whole current)
    → reading_after (reading.Commands (told_so account limits at whole current)) (kind_word k)
    ≡ Ok (reading.Commands (held_so account limits place.Container whole current k []))
unfolding reading_after
open_line account limits place.Between whole current atomic stands =
    same_next _ _ (opened_made account limits place.Between whole current atomic stands)
open_line account limits place.Between whole current sequence stands =
    same_next _ _ (opened_made account limits place.Between whole current sequence stands)
open_line account limits place.Package whole current atomic stands =
    same_next _ _ (opened_made account limits place.Package whole current atomic stands)
open_line account limits place.Package whole current sequence stands =
    same_next _ _ (opened_made account limits place.Package whole current sequence stands)
open_line account limits place.Container whole current k stands = absurd stands
open_line account limits place.End whole current k stands = absurd stands

joined_made : (account : Account) (limits : Limits) (whole : List (List Stanza)) (current : List Stanza) (k : Kind)
    (ps : List Plain) (p : Plain)
    → draft_joined (held_so account limits place.Container whole current k ps) p
    ≡ held_so account limits place.Container whole current k (ps ++ p ∷ [])
joined_made account limits whole current k ps p =
    let longer = longer_ids k ps p in
    let same = ap ids_in (one_member k ps p) in
    let count : total whole + ids_of_stanzas current + ids_in (container_command k ps) + 1
    ≡ total whole + ids_of_stanzas current + ids_in (container_command k (ps ++ p ∷ [])) = omega (arith, longer, same) in
    same_draft account limits place.Container _ _ _ _
    (last_entry_changes (entry_joined p) (packages_of whole) (es_of whole current) (block_entry whole current k ps)
    ∙ ap (λ c. with_last (packages_of whole)
    (es_of whole current ++ entry_of (1 + total whole + ids_of_stanzas current) c ∷ []))
    (one_member k ps p))
    count

join_line : (account : Account) (limits : Limits) (whole : List (List Stanza)) (current : List Stanza) (k : Kind)
    (ps : List Plain) (s : Said)
    → IsSaid s
    → reading_after (reading.Commands (held_so account limits place.Container whole current k ps)) s.line
    ≡ Ok (reading.Commands (held_so account limits place.Container whole current k (ps ++ s.says ∷ [])))
unfolding reading_after
join_line account limits whole current k ps s is =
    let d = held_so account limits place.Container whole current k ps in
    ap (λ o. with_draft (inside d s.line o)) is.named
    ∙ ap (λ o. with_draft (or_refused reason.Fields o (λ p. Ok (draft_joined d p)))) is.fields
    ∙ same_next _ _ (joined_made account limits whole current k ps s.says)

members_lead : (account : Account) (limits : Limits) (whole : List (List Stanza)) (current : List Stanza) (k : Kind)
    (ps : List Plain) (ss : List Said)
    → AllByRecursion IsSaid ss
    → Leads (held_so account limits place.Container whole current k ps) (map said_line ss)
    (held_so account limits place.Container whole current k (ps ++ map said_plain ss))
members_lead account limits whole current k ps [] h =
    subst (λ x. Leads (held_so account limits place.Container whole current k ps) []
    (held_so account limits place.Container whole current k x)) (sym (append-nil ps)) (same_lead _)
members_lead account limits whole current k ps (s ∷ ss) h =
    subst (λ x. Leads (held_so account limits place.Container whole current k ps) (s.line ∷ map said_line ss)
    (held_so account limits place.Container whole current k x)) (append_assoc ps (s.says ∷ []) (map said_plain ss))
    (then_leads _ (held_so account limits place.Container whole current k (ps ++ s.says ∷ [])) _ (s.line ∷ [])
    (map said_line ss)
    (line_leads _ _ s.line (join_line account limits whole current k ps s h.0))
    (members_lead account limits whole current k (ps ++ s.says ∷ []) ss h.1))

last_block : (whole : List (List Stanza)) (current : List Stanza) (k : Kind) (ps : List Plain)
    → last_entry (with_last (packages_of whole) (es_of whole current ++ block_entry whole current k ps ∷ []))
    ≡ Some (block_entry whole current k ps)
last_block whole current k ps =
    let e = block_entry whole current k ps in
    let es = es_of whole current in
    let long = length-append es (e ∷ []) in
    ap last_entry (with_some (packages_of whole) (es ++ e ∷ []) (omega (arith, long)))
    ∙ ap (option_and_then list_last) (last_added (packages_of whole) (es ++ e ∷ [])) ∙ last_added es e

end_line : (account : Account) (limits : Limits) (whole : List (List Stanza)) (current : List Stanza) (k : Kind)
    (ps : List Plain)
    → may_close (container_command k ps) ≡ true
    → reading_after (reading.Commands (held_so account limits place.Container whole current k ps)) (codes "close")
    ≡ Ok (reading.Commands (held_so account limits place.Package whole current k ps))
unfolding reading_after
end_line account limits whole current k ps may =
    let d = held_so account limits place.Container whole current k ps in
    ap (λ b. with_draft (when b (record d { place = place.Package })))
    (ap (λ o. option_map_or (λ (e : JobEntry). may_close e.command) o false) (last_block whole current k ps) ∙ may)

closed_made : (account : Account) (limits : Limits) (whole : List (List Stanza)) (current : List Stanza) (k : Kind)
    (ss : List Said)
    → held_so account limits place.Package whole current k (map said_plain ss)
    ≡ told_so account limits place.Package whole (current ++ block k ss ∷ [])
closed_made account limits whole current k ss =
    let more = ids_more current (block k ss) in
    let count : total whole + ids_of_stanzas current + ids_in (container_command k (map said_plain ss))
    ≡ total whole + ids_of_stanzas (current ++ block k ss ∷ []) = omega (arith, more) in
    same_draft account limits place.Package _ _ _ _
    (ap (with_last (packages_of whole))
    (sym (entries_more (1 + total whole) (1 + total whole + ids_of_stanzas current) current (block k ss) refl)))
    count

-- ---- stanzas

stanza_leads : (account : Account) (limits : Limits) (at : LinePlace) (whole : List (List Stanza)) (current : List Stanza)
    (s : Stanza)
    → Stands at (es_of whole current) → IsStanza s
    → Leads (told_so account limits at whole current) (lines_of s)
    (told_so account limits place.Package whole (current ++ s ∷ []))
stanza_leads account limits at whole current (one s) stands is =
    line_leads _ _ s.line (plain_line account limits at whole current s stands is)
stanza_leads account limits at whole current (block k ss) stands is =
    subst (Leads (told_so account limits at whole current) (kind_word k ∷ map said_line ss ++ codes "close" ∷ []))
    (closed_made account limits whole current k ss)
    (then_leads _ (held_so account limits place.Container whole current k []) _ (kind_word k ∷ [])
    (map said_line ss ++ codes "close" ∷ [])
    (line_leads _ _ (kind_word k) (open_line account limits at whole current k stands))
    (then_leads _ (held_so account limits place.Container whole current k (map said_plain ss)) _ (map said_line ss)
    (codes "close" ∷ []) (members_lead account limits whole current k [] ss is.0)
    (line_leads _ _ (codes "close") (end_line account limits whole current k (map said_plain ss) is.1))))

-- where a package has come so far
record Led (account : Account) (limits : Limits) (from : JobDraft) (lines : List (List ℕ)) (whole : List (List Stanza))
    (current : List Stanza) : Type 0 where
  at : LinePlace
  stands : Stands at (es_of whole current)
  leads_to : Leads from lines (told_so account limits at whole current)

some_stand : (whole : List (List Stanza)) (current : List Stanza) (s : Stanza)
    → Stands place.Package (es_of whole (current ++ s ∷ []))
some_stand whole current s =
    let long = entries_long (1 + total whole) (current ++ s ∷ []) in
    let more = length-append current (s ∷ []) in
    omega (arith, long, more)

package_leads : (account : Account) (limits : Limits) (at : LinePlace) (whole : List (List Stanza))
    (current ss : List Stanza)
    → Stands at (es_of whole current) → AreStanzas ss
    → Led account limits (told_so account limits at whole current) (flat_map lines_of ss) whole (current ++ ss)
package_leads account limits at whole current [] stands h =
    subst (Led account limits (told_so account limits at whole current) [] whole) (sym (append-nil current))
    (record { at = at; stands = stands; leads_to = same_lead _ })
package_leads account limits at whole current (s ∷ ss) stands h =
    let rest =
    package_leads account limits place.Package whole (current ++ s ∷ []) ss (some_stand whole current s) h.1 in
    subst (Led account limits (told_so account limits at whole current) (lines_of s ++ flat_map lines_of ss) whole)
    (append_assoc current (s ∷ []) ss)
    (record {
      at = rest.at;
      stands = rest.stands;
      leads_to = then_leads _ (told_so account limits place.Package whole (current ++ s ∷ [])) _ (lines_of s)
          (flat_map lines_of ss) (stanza_leads account limits at whole current s stands h.0) rest.leads_to;
    })

-- ---- packages

parted_made : (account : Account) (limits : Limits) (whole : List (List Stanza)) (p : List Stanza)
    → draft account limits place.Between (with_last (packages_of whole) (es_of whole p)) (total whole + ids_of_stanzas p)
    ≡ told_so account limits place.Between (whole ++ p ∷ []) []
parted_made account limits whole p =
    let all = total_more whole p in
    let count : total whole + ids_of_stanzas p ≡ total (whole ++ p ∷ []) + 0 = omega (arith, all) in
    same_draft account limits place.Between _ _ _ _ (sym (packages_more (1 + total whole) whole p refl)) count

parting_line : (account : Account) (limits : Limits) (at : LinePlace) (whole : List (List Stanza)) (p : List Stanza)
    → Stands at (es_of whole p)
    → reading_after (reading.Commands (told_so account limits at whole p)) package_word
    ≡ Ok (reading.Commands (told_so account limits place.Between (whole ++ p ∷ []) []))
unfolding reading_after
parting_line account limits place.Between whole p stands = same_next _ _ (parted_made account limits whole p)
parting_line account limits place.Package whole p stands = same_next _ _ (parted_made account limits whole p)
parting_line account limits place.Container whole p stands = absurd stands
parting_line account limits place.End whole p stands = absurd stands

-- where all packages have been taken
record All (account : Account) (limits : Limits) (from : JobDraft) (lines : List (List ℕ)) (packages : List (List Stanza))
    : Type 0 where
  whole : List (List Stanza)
  current : List Stanza
  are : whole ++ current ∷ [] ≡ packages
  led : Led account limits from lines whole current

packages_lead : (account : Account) (limits : Limits) (whole : List (List Stanza)) (p : List Stanza)
    (rest : List (List Stanza))
    → AllByRecursion AreStanzas (p ∷ rest)
    → All account limits (told_so account limits place.Between whole []) (package_lines (p ∷ rest)) (whole ++ p ∷ rest)
packages_lead account limits whole p [] h =
    record {
      whole = whole;
      current = p;
      are = refl;
      led = package_leads account limits place.Between whole [] p refl h.0;
    }
packages_lead account limits whole p (q ∷ rest) h =
    let first = package_leads account limits place.Between whole [] p refl h.0 in
    let later = packages_lead account limits (whole ++ p ∷ []) q rest h.1 in
    let between = told_so account limits place.Between (whole ++ p ∷ []) [] in
    record {
      whole = later.whole;
      current = later.current;
      are = later.are ∙ append_assoc whole (p ∷ []) (q ∷ rest);
      led = record {
        at = later.led.at;
        stands = later.led.stands;
        leads_to = then_leads _ (told_so account limits first.at whole p) _ (flat_map lines_of p)
            (package_word ∷ package_lines (q ∷ rest)) first.leads_to
            (then_leads _ between _ (package_word ∷ []) (package_lines (q ∷ rest))
            (line_leads _ _ package_word (parting_line account limits first.at whole p first.stands))
            later.led.leads_to);
      };
    }

-- ---- the whole

finish_line : (account : Account) (limits : Limits) (at : LinePlace) (whole : List (List Stanza)) (current : List Stanza)
    → Stands at (es_of whole current)
    → reading_after (reading.Commands (told_so account limits at whole current)) (codes "end")
    ≡ Ok (reading.Commands (told_so account limits place.End whole current))
unfolding reading_after
finish_line account limits place.Between whole current stands = refl
finish_line account limits place.Package whole current stands = refl
finish_line account limits place.Container whole current stands = absurd stands
finish_line account limits place.End whole current stands = absurd stands

all_taken : (account : Account) (limits : Limits) (packages : List (List Stanza)) → AllByRecursion AreStanzas packages
    → All account limits (empty_draft account limits) (package_lines packages) packages
    ⊎ (packages ≡ [])
all_taken account limits [] h = inr refl
all_taken account limits (p ∷ rest) h = inl (packages_lead account limits [] p rest h)

-- what the lines come to
pub record Comes (n : ℕ) (r : Reading) (lines : List (List ℕ)) (job : Job) : Type 0 where
  pub reached : Reading
  pub taken : reading_after_all n r lines ≡ Ok reached
  pub ends : job_in reached ≡ Some job

made_job : (job : Job) (whole : List (List Stanza)) (current : List Stanza) (packages : List (List Stanza))
    → whole ++ current ∷ [] ≡ packages → job.packages ≡ packages_of packages
    → with_last (packages_of whole) (es_of whole current) ≡ job.packages
made_job job whole current packages are made =
    sym (packages_more (1 + total whole) whole current refl) ∙ ap packages_of are ∙ sym made

some_job : (job : Job) (ps : List (List JobEntry)) → ps ≡ job.packages
    → Some (record job { packages = ps }) ≡ Some job
some_job job ps h = ap (λ x. Some (record job { packages = x })) h

body_taken : (n : ℕ) (job : Job) (packages : List (List Stanza)) → AllByRecursion AreStanzas packages
    → job.packages ≡ packages_of packages
    → Comes n (reading.Commands (empty_draft job.account job.limits)) (package_lines packages ++ codes "end" ∷ []) job
body_taken n job packages right made = elim (all_taken job.account job.limits packages right) [
  | inl a ↦ record {
    reached = reading.Commands (told_so job.account job.limits place.End a.whole a.current);
    taken = a.led.leads_to.leads n (codes "end" ∷ [])
        ∙ ap (λ x. reading_behind (n + length (package_lines packages)) x (λ next. Ok next))
        (finish_line job.account job.limits a.led.at a.whole a.current a.led.stands);
    ends = some_job job _ (made_job job a.whole a.current packages a.are made);
  }
  | inr none ↦
      subst (λ ps. Comes n (reading.Commands (empty_draft job.account job.limits))
      (package_lines ps ++ codes "end" ∷ []) job)
      (sym none)
      (record {
        reached = reading.Commands (told_so job.account job.limits place.End [] []);
        taken =
            ap (λ x. reading_behind n x (λ next. Ok next)) (finish_line job.account job.limits place.Between [] [] refl);
        ends = some_job job [] (sym (made ∙ ap packages_of none));
      })
]

server_line_is : (server : List ℕ) (account : Account) → begins_with (codes "server") server ≡ true
    → account_in (parts server) ≡ Some account → reading_after reading.Server server ≡ Ok (reading.Limits account)
unfolding reading_after
server_line_is server account named a =
    ap (λ b. cond b (or_refused reason.Fields (account_in (parts server)) (λ x. Ok (reading.Limits x)))
    (Err reason.Word)) named
    ∙ ap (λ o. or_refused reason.Fields o (λ x. Ok (reading.Limits x))) a

limits_line_is : (line : List ℕ) (account : Account) (limits : Limits) → begins_with (codes "limits") line ≡ true
    → limits_in (parts line) ≡ Some limits
    → reading_after (reading.Limits account) line ≡ Ok (reading.Commands (empty_draft account limits))
unfolding reading_after
limits_line_is line account limits named l =
    ap (λ b.
    cond b (or_refused reason.Fields (limits_in (parts line)) (λ x. Ok (reading.Commands (empty_draft account x))))
    (Err reason.Word)) named
    ∙ ap (λ o. or_refused reason.Fields o (λ x. Ok (reading.Commands (empty_draft account x)))) l

first_line_is : reading_after reading.First (codes "dm-job 1") ≡ Ok reading.Server
unfolding reading_after
first_line_is = refl

one_more : (n : ℕ) (r next : Reading) (line : List ℕ) (lines : List (List ℕ)) (job : Job) → reading_after r line ≡ Ok next
    → Comes (n + 1) next lines job → Comes n r (line ∷ lines) job
one_more n r next line lines job h c = record {
  reached = c.reached;
  taken = ap (λ x. reading_behind n x (λ read. reading_after_all (n + 1) read lines)) h ∙ c.taken;
  ends = c.ends;
}

pub job_taken : (lines : List (List ℕ)) (job : Job) → IsJob lines job → Comes 1 reading.First lines job
job_taken lines job j =
    let body = body_taken 4 job j.packages j.right j.made in
    let all = package_lines j.packages ++ codes "end" ∷ [] in
    subst (λ x. Comes 1 reading.First x job) (sym j.are)
    (one_more 1 reading.First reading.Server (codes "dm-job 1") (j.server ∷ j.limits ∷ all) job first_line_is
    (one_more 2 reading.Server (reading.Limits job.account) j.server (j.limits ∷ all) job
    (server_line_is j.server job.account j.server_named j.account)
    (one_more 3 (reading.Limits job.account) (reading.Commands (empty_draft job.account job.limits)) j.limits all job
    (limits_line_is j.limits job.account job.limits j.limits_named j.told) body)))

-- Lines that are taken up to `end` are a job of the grammar.
use Rattle.std.proofs.Common.{◌≡◌, ◌<◌, ◌+◌, ◌&&◌, ℕ, true, false, List, [], ◌∷◌, ◌++◌, length}
use Rattle.std.proofs.Common.{map}
use Rattle.std.proofs.Common.{Option, Some, None, Result, Ok, Err, refl, sym, ap, subst, ◌∙◌, arith, append_assoc}
use Rattle.std.proofs.Common.{append-nil}
use Rattle.std.proofs.Common.{length-append, option_and_then, codes, bytes_eq}
use Rattle.std.specs.Option.{option_map_or}
use Rattle.std.specs.List.{AllByRecursion}
use Rattle.std.proofs.lemmas.Bool.{and_parts}
use Rattle.std.proofs.lemmas.Slice.Eq.{bytes_eq-Decides}
use Rattle.dm_base.specs.Fields.{parts}
use Rattle.dm_base.specs.declared.values.Limits.{Limits}
use Rattle.dm_base.specs.declared.lines.LineReason.{LineReason}
use Rattle.dm_base.specs.declared.lines.LineReason.TheVariants as reason
use Rattle.syncml_types.specs.declared.command.Verb.{Verb}
use Rattle.syncml_types.specs.declared.command.Command.TheVariants as command
use Rattle.syncml_parts.specs.Numbering.{ids_in, ids_in_seq_members}
use Rattle.syncml_parts.specs.Packing.{list_last, last_changed}
use Rattle.dm_auth.specs.declared.accounts.Account.{Account}
use Rattle.dm_fields.specs.Fields.{begins_with, account_in, limits_in}
use Rattle.dm_fields.proofs.Told.{said, allowed, same_ok}
use Rattle.dm_job.specs.declared.job.Job.{Job}
use Rattle.dm_job.specs.declared.job.JobEntry.{JobEntry}
use Rattle.dm_job.specs.declared.draft.JobDraft.{JobDraft}
use Rattle.dm_job.specs.declared.draft.LinePlace.{LinePlace}
use Rattle.dm_job.specs.declared.draft.LinePlace.TheVariants as place
use Rattle.dm_job.specs.declared.draft.Reading.{Reading}
use Rattle.dm_job.specs.declared.draft.Reading.TheVariants as reading
use Rattle.dm_job.specs.Commands.{verb_in, plain_in, new_atomic, new_sequence, may_close}
use Rattle.dm_job.specs.Reading.{entry_put, adds, draft_joined, entry_joined, inside, outside, draft_after, with_draft}
use Rattle.dm_job.specs.Reading.{reading_after}
use Rattle.dm_job.specs.Reading.{reading_behind, reading_after_all, last_may_close, last_entry, close_line, empty_draft}
use Rattle.dm_job.specs.Texts.{job_in, ended_at}
use Rattle.dm_job.specs.Grammar.{Said, IsSaid, Kind, atomic, sequence, kind_word, container_command, Stanza, one, block}
use Rattle.dm_job.specs.Grammar.{said_line}
use Rattle.dm_job.specs.Grammar.{said_plain, lines_of, command_of, IsStanza, AreStanzas, package_lines}
use Rattle.dm_job.specs.Grammar.{numbered_entries}
use Rattle.dm_job.specs.Grammar.{ids_of_stanzas}
use Rattle.dm_job.specs.Grammar.{packages_of, IsJob}
use Rattle.dm_job.specs.Laws.{OnlyJobsAreRead}
use Rattle.dm_job.proofs.Accepting.{accepted}
use Rattle.dm_job.proofs.Containers.{all_more, map_more, one_member, longer_ids}
use Rattle.dm_job.proofs.Ends.{last_added}
use Rattle.dm_job.proofs.Entries.{Goes}
use Rattle.dm_job.proofs.Made.{lines_more, lines_parted, total, ids_more, total_more, entry_of, entries_more}
use Rattle.dm_job.proofs.Made.{entries_long}
use Rattle.dm_job.proofs.Made.{with_last, with_some, packages_more, Stands, entry_comes, last_entry_changes}
use Rattle.dm_job.proofs.Made.{package_word}
use Rattle.dm_job.proofs.Texts.{text_is, are_lines}
use Rattle.dm_job.proofs.Moves.{Move, opens_atomic, opens_sequence, parts_, ends, when_is, moves}

-- ---- what the lines so far are

abbrev pub es_of : List (List Stanza) → List Stanza → List JobEntry
es_of whole current = numbered_entries (1 + total whole) current

record IsRead (bs : List (List ℕ)) (ps : List (List JobEntry)) (count : ℕ) : Type 0 where
  whole : List (List Stanza)
  current : List Stanza
  lines : bs ≡ package_lines (whole ++ current ∷ [])
  right : AllByRecursion AreStanzas whole
  stanzas : AreStanzas current
  made : ps ≡ with_last (packages_of whole) (es_of whole current)
  counted : count ≡ total whole + ids_of_stanzas current

abbrev block_at : List (List Stanza) → List Stanza → Kind → List Said → JobEntry
block_at whole current k ss = entry_of (1 + total whole + ids_of_stanzas current) (container_command k (map said_plain ss))

-- a container is open
record IsBegun (bs : List (List ℕ)) (ps : List (List JobEntry)) (count : ℕ) : Type 0 where
  whole : List (List Stanza)
  current : List Stanza
  kind : Kind
  saids : List Said
  lines : bs ≡ package_lines (whole ++ current ∷ []) ++ kind_word kind ∷ map said_line saids
  right : AllByRecursion AreStanzas whole
  stanzas : AreStanzas current
  said_all : AllByRecursion IsSaid saids
  made : ps ≡ with_last (packages_of whole) (es_of whole current ++ block_at whole current kind saids ∷ [])
  counted : count ≡ total whole + ids_of_stanzas current + ids_in (container_command kind (map said_plain saids))

-- with the last line
record IsWhole (bs : List (List ℕ)) (ps : List (List JobEntry)) (count : ℕ) : Type 0 where
  before : List (List ℕ)
  lines : bs ≡ before ++ codes "end" ∷ []
  read : IsRead before ps count

abbrev IsReadAt : LinePlace → List (List ℕ) → List (List JobEntry) → ℕ → Type 0
IsReadAt place.Between bs ps n = (x : IsRead bs ps n) × (x.current ≡ [])
IsReadAt place.Package bs ps n = (x : IsRead bs ps n) × (0 < length x.current)
IsReadAt place.Container bs ps n = IsBegun bs ps n
IsReadAt place.End bs ps n = IsWhole bs ps n

record IsBody (account : Account) (limits : Limits) (bs : List (List ℕ)) (d : JobDraft) : Type 0 where
  account_is : d.job.account ≡ account
  limits_are : d.job.limits ≡ limits
  read : IsReadAt d.place bs d.job.packages d.count

-- where a command or a container may come
record Comes (at : LinePlace) (bs : List (List ℕ)) (ps : List (List JobEntry)) (n : ℕ) : Type 0 where
  read : IsRead bs ps n
  stands : Stands at (es_of read.whole read.current)

same_text : (a b : List ℕ) → bytes_eq a b ≡ true → a ≡ b
same_text a b e = (bytes_eq-Decides a b).0 e

-- ---- one stanza more

comes : (at : LinePlace) (bs : List (List ℕ)) (ps : List (List JobEntry)) (n : ℕ) → Goes at → IsReadAt at bs ps n
    → Comes at bs ps n
comes place.Between bs ps n goes h =
    record { read = h.0; stands = ap (λ p. es_of h.0.whole p) h.1 }
comes place.Package bs ps n goes h =
    let long = entries_long (1 + total h.0.whole) h.0.current in
    let some = h.1 in
    record { read = h.0; stands = omega (arith, long, some) }
comes place.Container bs ps n goes h = absurd goes
comes place.End bs ps n goes h = absurd goes

stanza_read : (at : LinePlace) (bs : List (List ℕ)) (ps : List (List JobEntry)) (n : ℕ) (s : Stanza) → Comes at bs ps n
    → IsStanza s → ids_in (command_of s) ≡ 1
    → IsReadAt place.Package (bs ++ lines_of s) (entry_put at ps (entry_of (n + 1) (command_of s))) (n + 1)
stanza_read at bs ps n s c is one_id =
    let x = c.read in
    let counted = x.counted in
    let number : n + 1 ≡ 1 + total x.whole + ids_of_stanzas x.current = omega (arith, counted) in
    let e = entry_of (n + 1) (command_of s) in
    let more = ids_more x.current s in
    let long = length-append x.current (s ∷ []) in (
      record {
        whole = x.whole;
        current = x.current ++ s ∷ [];
        lines = ap (λ l. l ++ lines_of s) x.lines ∙ sym (lines_more x.whole x.current s);
        right = x.right;
        stanzas = all_more IsStanza x.current s x.stanzas is;
        made = ap (λ q. entry_put at q e) x.made
            ∙ entry_comes at (packages_of x.whole) (es_of x.whole x.current) e c.stands
            ∙ ap (with_last (packages_of x.whole)) (sym (entries_more (1 + total x.whole) (n + 1) x.current s number));
        counted = omega (arith, counted, more, one_id);
      },
      omega (arith, long),
    )

begun_read : (at : LinePlace) (bs : List (List ℕ)) (ps : List (List JobEntry)) (n : ℕ) (k : Kind) → Comes at bs ps n
    → ids_in (container_command k []) ≡ 1
    → IsBegun (bs ++ kind_word k ∷ []) (entry_put at ps (entry_of (n + 1) (container_command k []))) (n + 1)
begun_read at bs ps n k c one_id =
    let x = c.read in
    let counted = x.counted in
    let number : n + 1 ≡ 1 + total x.whole + ids_of_stanzas x.current = omega (arith, counted) in
    let e = entry_of (n + 1) (container_command k []) in
    record {
      whole = x.whole;
      current = x.current;
      kind = k;
      saids = [];
      lines = ap (λ l. l ++ kind_word k ∷ []) x.lines;
      right = x.right;
      stanzas = x.stanzas;
      said_all = tt;
      made = ap (λ q. entry_put at q e) x.made
          ∙ entry_comes at (packages_of x.whole) (es_of x.whole x.current) e c.stands
          ∙ ap (λ m. with_last (packages_of x.whole) (es_of x.whole x.current ++ entry_of m (container_command k []) ∷ []))
          number;
      counted = omega (arith, counted, one_id);
    }

joined_read : (bs : List (List ℕ)) (ps : List (List JobEntry)) (n : ℕ) (s : Said) → IsSaid s → IsBegun bs ps n
    → IsBegun (bs ++ s.line ∷ []) (last_changed (last_changed (entry_joined s.says)) ps) (n + 1)
joined_read bs ps n s is x =
    let before = package_lines (x.whole ++ x.current ∷ []) in
    let longer = one_member x.kind (map said_plain x.saids) s.says
    ∙ ap (container_command x.kind) (sym (map_more said_plain x.saids s)) in
    let m = 1 + total x.whole + ids_of_stanzas x.current in
    let counted = x.counted in
    let ids = longer_ids x.kind (map said_plain x.saids) s.says in
    let now = ap ids_in longer in
    record {
      whole = x.whole;
      current = x.current;
      kind = x.kind;
      saids = x.saids ++ s ∷ [];
      lines = ap (λ l. l ++ s.line ∷ []) x.lines
          ∙ append_assoc before (kind_word x.kind ∷ map said_line x.saids) (s.line ∷ [])
          ∙ ap (λ l. before ++ kind_word x.kind ∷ l) (sym (map_more said_line x.saids s));
      right = x.right;
      stanzas = x.stanzas;
      said_all = all_more IsSaid x.saids s x.said_all is;
      made = ap (last_changed (last_changed (entry_joined s.says))) x.made
          ∙ last_entry_changes (entry_joined s.says) (packages_of x.whole) (es_of x.whole x.current)
          (block_at x.whole x.current x.kind x.saids)
          ∙ ap (λ c. with_last (packages_of x.whole) (es_of x.whole x.current ++ entry_of m c ∷ [])) longer;
      counted = omega (arith, counted, ids, now);
    }

last_block : (bs : List (List ℕ)) (ps : List (List JobEntry)) (n : ℕ) (x : IsBegun bs ps n)
    → last_entry ps ≡ Some (block_at x.whole x.current x.kind x.saids)
last_block bs ps n x =
    let e = block_at x.whole x.current x.kind x.saids in
    let es = es_of x.whole x.current in
    let long = length-append es (e ∷ []) in
    ap last_entry (x.made ∙ with_some (packages_of x.whole) (es ++ e ∷ []) (omega (arith, long)))
    ∙ ap (option_and_then list_last) (last_added (packages_of x.whole) (es ++ e ∷ [])) ∙ last_added es e

closed_read : (bs : List (List ℕ)) (ps : List (List JobEntry)) (n : ℕ) → last_may_close ps ≡ true → IsBegun bs ps n
    → IsReadAt place.Package (bs ++ codes "close" ∷ []) ps n
closed_read bs ps n h x =
    let s = block x.kind x.saids in
    let before = package_lines (x.whole ++ x.current ∷ []) in
    let may =
    sym (ap (λ o. option_map_or (λ (e : JobEntry). may_close e.command) o false) (last_block bs ps n x)) ∙ h in
    let counted = x.counted in
    let more = ids_more x.current s in
    let long = length-append x.current (s ∷ []) in (
      record {
        whole = x.whole;
        current = x.current ++ s ∷ [];
        lines = ap (λ l. l ++ codes "close" ∷ []) x.lines
            ∙ append_assoc before (kind_word x.kind ∷ map said_line x.saids) (codes "close" ∷ [])
            ∙ sym (lines_more x.whole x.current s);
        right = x.right;
        stanzas = all_more IsStanza x.current s x.stanzas (x.said_all, may);
        made = x.made ∙ ap (with_last (packages_of x.whole))
            (sym (entries_more (1 + total x.whole) (1 + total x.whole + ids_of_stanzas x.current) x.current s refl));
        counted = omega (arith, counted, more);
      },
      omega (arith, long),
    )

parted_read : (bs : List (List ℕ)) (ps : List (List JobEntry)) (n : ℕ) → IsRead bs ps n
    → IsReadAt place.Between (bs ++ codes "package" ∷ []) ps n
parted_read bs ps n x =
    let counted = x.counted in
    let all = total_more x.whole x.current in (
      record {
        whole = x.whole ++ x.current ∷ [];
        current = [];
        lines = ap (λ l. l ++ package_word ∷ []) x.lines ∙ sym (lines_parted x.whole x.current);
        right = all_more AreStanzas x.whole x.current x.right x.stanzas;
        stanzas = tt;
        made = x.made ∙ sym (packages_more (1 + total x.whole) x.whole x.current refl);
        counted = omega (arith, counted, all);
      },
      refl,
    )

-- ---- lines among commands

pub one_id : (s : Said) → ids_in (command_of (one s)) ≡ 1
unfolding ids_in
one_id s = refl

pub new_id : (k : Kind) → ids_in (container_command k []) ≡ 1
unfolding ids_in ids_in_seq_members
new_id atomic = refl
new_id sequence = refl

move_read : (account : Account) (limits : Limits) (bs : List (List ℕ)) (d next : JobDraft) (line : List ℕ)
    → Comes d.place bs d.job.packages d.count → Move d next line → IsBody account limits bs d
    → IsBody account limits (bs ++ line ∷ []) next
move_read account limits bs d next line c (opens_atomic w is) b =
    subst (IsBody account limits (bs ++ line ∷ [])) is
    (record {
      account_is = b.account_is;
      limits_are = b.limits_are;
      read =
          subst (λ l. IsBegun (bs ++ l ∷ []) (adds d place.Container new_atomic).job.packages (d.count + 1))
          (sym (same_text line (codes "atomic") w))
          (begun_read d.place bs d.job.packages d.count atomic c (new_id atomic));
    })
move_read account limits bs d next line c (opens_sequence w is) b =
    subst (IsBody account limits (bs ++ line ∷ [])) is
    (record {
      account_is = b.account_is;
      limits_are = b.limits_are;
      read =
          subst (λ l. IsBegun (bs ++ l ∷ []) (adds d place.Container new_sequence).job.packages (d.count + 1))
          (sym (same_text line (codes "sequence") w))
          (begun_read d.place bs d.job.packages d.count sequence c (new_id sequence));
    })
move_read account limits bs d next line c (parts_ w is) b =
    subst (IsBody account limits (bs ++ line ∷ [])) is
    (record {
      account_is = b.account_is;
      limits_are = b.limits_are;
      read = subst (λ l. IsReadAt place.Between (bs ++ l ∷ []) d.job.packages d.count)
          (sym (same_text line (codes "package") w)) (parted_read bs d.job.packages d.count c.read);
    })
move_read account limits bs d next line c (ends w is) b =
    subst (IsBody account limits (bs ++ line ∷ [])) is
    (record {
      account_is = b.account_is;
      limits_are = b.limits_are;
      read = record {
        before = bs;
        lines = ap (λ l. bs ++ l ∷ []) (same_text line (codes "end") w);
        read = c.read;
      };
    })

outside_read : (account : Account) (limits : Limits) (bs : List (List ℕ)) (d next : JobDraft) (line : List ℕ)
    (o : Option Verb)
    → verb_in line ≡ o → Goes d.place → outside d line o ≡ Ok next → IsBody account limits bs d
    → IsBody account limits (bs ++ line ∷ []) next
outside_read account limits bs d next line (Some v) named goes e b =
    let s = said reason.Fields (plain_in v (parts line)) (λ p. Ok (adds d place.Package (command.Plain p))) next e in
    let t : Said = record { line = line; says = s.value } in
    let c = comes d.place bs d.job.packages d.count goes b.read in
    subst (IsBody account limits (bs ++ line ∷ [])) (same_ok _ next s.rest)
    (record {
      account_is = b.account_is;
      limits_are = b.limits_are;
      read = stanza_read d.place bs d.job.packages d.count (one t) c
          (record { verb = v; named = named; fields = s.is }) (one_id t);
    })
outside_read account limits bs d next line None named goes e b =
    move_read account limits bs d next line (comes d.place bs d.job.packages d.count goes b.read) (moves d next line e)
    b

inside_read : (account : Account) (limits : Limits) (bs : List (List ℕ)) (d next : JobDraft) (line : List ℕ)
    (o : Option Verb)
    → verb_in line ≡ o → d.place ≡ place.Container → inside d line o ≡ Ok next → IsBody account limits bs d
    → IsBody account limits (bs ++ line ∷ []) next
inside_read account limits bs d next line (Some v) named here e b =
    let s = said reason.Fields (plain_in v (parts line)) (λ p. Ok (draft_joined d p)) next e in
    let t : Said = record { line = line; says = s.value } in
    let x = subst (λ at. IsReadAt at bs d.job.packages d.count) here b.read in
    subst (IsBody account limits (bs ++ line ∷ [])) (same_ok _ next s.rest)
    (record {
      account_is = b.account_is;
      limits_are = b.limits_are;
      read = subst (λ at. IsReadAt at (bs ++ line ∷ []) (draft_joined d s.value).job.packages (d.count + 1)) (sym here)
          (joined_read bs d.job.packages d.count t (record { verb = v; named = named; fields = s.is }) x);
    })
inside_read account limits bs d next line None named here e b =
    let told = allowed (begins_with (codes "close") line) (close_line d line) reason.Word next e in
    let closed = when_is (bytes_eq line (codes "close") && last_may_close d.job.packages)
    (record d { place = place.Package }) next told.1 in
    let both = and_parts (bytes_eq line (codes "close")) (last_may_close d.job.packages) closed.0 in
    let x = subst (λ at. IsReadAt at bs d.job.packages d.count) here b.read in
    subst (IsBody account limits (bs ++ line ∷ [])) closed.1
    (record {
      account_is = b.account_is;
      limits_are = b.limits_are;
      read = subst (λ l. IsReadAt place.Package (bs ++ l ∷ []) d.job.packages d.count)
          (sym (same_text line (codes "close") both.0)) (closed_read bs d.job.packages d.count both.1 x);
    })

draft_read : (account : Account) (limits : Limits) (bs : List (List ℕ)) (at : LinePlace) (d next : JobDraft) (line : List ℕ)
    → d.place ≡ at → draft_after at d line ≡ Ok next → IsBody account limits bs d
    → IsBody account limits (bs ++ line ∷ []) next
draft_read account limits bs place.Between d next line here e b =
    outside_read account limits bs d next line (verb_in line) refl (subst Goes (sym here) tt) e b
draft_read account limits bs place.Package d next line here e b =
    outside_read account limits bs d next line (verb_in line) refl (subst Goes (sym here) tt) e b
draft_read account limits bs place.Container d next line here e b =
    inside_read account limits bs d next line (verb_in line) refl here e b
draft_read account limits bs place.End d next line here e b = absurd (cc)

-- ---- all lines

record Step (n : ℕ) (r : Reading) (line : List ℕ) (lines : List (List ℕ)) (reached : Reading) : Type 0 where
  read : Reading
  took : reading_after r line ≡ Ok read
  rest : reading_after_all (n + 1) read lines ≡ Ok reached

step : (n : ℕ) (r : Reading) (line : List ℕ) (lines : List (List ℕ)) (reached : Reading)
    → reading_after_all n r (line ∷ lines) ≡ Ok reached → Step n r line lines reached
step n r line lines reached e = by_line (reading_after r line) refl e
  where
    by_line : (x : Result Reading LineReason) → reading_after r line ≡ x
        → reading_behind n x (λ next. reading_after_all (n + 1) next lines) ≡ Ok reached → Step n r line lines reached
    by_line (Ok read) is k = record { read = read; took = is; rest = k }
    by_line (Err why) is k = absurd (cc)

same_reading : (x y : Reading) → ◌≡◌ {A = Result Reading LineReason} (Ok x) (Ok y) → x ≡ y
same_reading x y e = cc

same_end : (x y : Reading) → ◌≡◌ {A = Result Reading (ℕ × LineReason)} (Ok x) (Ok y) → x ≡ y
same_end x y e = cc

record Drafted (d : JobDraft) (line : List ℕ) (read : Reading) : Type 0 where
  next : JobDraft
  is : draft_after d.place d line ≡ Ok next
  same : reading.Commands next ≡ read

drafted : (d : JobDraft) (line : List ℕ) (read : Reading) → reading_after (reading.Commands d) line ≡ Ok read
    → Drafted d line read
unfolding reading_after
drafted d line read e = by_draft (draft_after d.place d line) refl e
  where
    by_draft : (x : Result JobDraft LineReason) → draft_after d.place d line ≡ x → with_draft x ≡ Ok read
        → Drafted d line read
    by_draft (Ok next) is k = record { next = next; is = is; same = same_reading _ read k }
    by_draft (Err why) is k = absurd (cc)

record Ended (account : Account) (limits : Limits) (bs : List (List ℕ)) (reached : Reading) : Type 0 where
  last : JobDraft
  is : reached ≡ reading.Commands last
  body : IsBody account limits bs last

lines_read : (account : Account) (limits : Limits) (n : ℕ) (bs : List (List ℕ)) (d : JobDraft) (lines : List (List ℕ))
    (reached : Reading)
    → reading_after_all n (reading.Commands d) lines ≡ Ok reached → IsBody account limits bs d
    → Ended account limits (bs ++ lines) reached
lines_read account limits n bs d [] reached e b =
    record {
      last = d;
      is = sym (same_end _ reached e);
      body = subst (λ x. IsBody account limits x d) (sym (append-nil bs)) b;
    }
lines_read account limits n bs d (line ∷ lines) reached e b =
    let s = step n (reading.Commands d) line lines reached e in
    let x = drafted d line s.read s.took in
    let rest = subst (λ r. reading_after_all (n + 1) r lines ≡ Ok reached) (sym x.same) s.rest in
    subst (λ y. Ended account limits y reached) (append_assoc bs (line ∷ []) lines)
    (lines_read account limits (n + 1) (bs ++ line ∷ []) x.next lines reached rest
    (draft_read account limits bs d.place d x.next line refl x.is b))

-- what stands behind the first three lines
record Tail (account : Account) (limits : Limits) (body : List (List ℕ)) (job : Job) : Type 0 where
  packages : List (List Stanza)
  are : body ≡ package_lines packages ++ codes "end" ∷ []
  right : AllByRecursion AreStanzas packages
  made : job.packages ≡ packages_of packages
  account_is : job.account ≡ account
  limits_are : job.limits ≡ limits

same_job : (x y : Job) → Some x ≡ Some y → x ≡ y
same_job x y e = cc

last_tail : (account : Account) (limits : Limits) (body : List (List ℕ)) (d : JobDraft) (job : Job)
    → ended_at d.place d.job ≡ Some job → IsBody account limits body d → Tail account limits body job
last_tail account limits body d job e b = by_place d.place b.read e
  where
    by_place : (at : LinePlace) → IsReadAt at body d.job.packages d.count → ended_at at d.job ≡ Some job
        → Tail account limits body job
    by_place place.Between r k = absurd (cc)
    by_place place.Package r k = absurd (cc)
    by_place place.Container r k = absurd (cc)
    by_place place.End r k =
        let x = r.read in
        subst (Tail account limits body) (same_job d.job job k)
        (record {
          packages = x.whole ++ x.current ∷ [];
          are = r.lines ∙ ap (λ l. l ++ codes "end" ∷ []) x.lines;
          right = all_more AreStanzas x.whole x.current x.right x.stanzas;
          made = x.made ∙ sym (packages_more (1 + total x.whole) x.whole x.current refl);
          account_is = b.account_is;
          limits_are = b.limits_are;
        })

empty_body : (account : Account) (limits : Limits) → IsBody account limits [] (empty_draft account limits)
empty_body account limits =
    record {
      account_is = refl;
      limits_are = refl;
      read = (
        record {
          whole = [];
          current = [];
          lines = refl;
          right = tt;
          stanzas = tt;
          made = refl;
          counted = omega arith;
        },
        refl,
      );
    }

tail_read : (account : Account) (limits : Limits) (n : ℕ) (body : List (List ℕ)) (reached : Reading) (job : Job)
    → reading_after_all n (reading.Commands (empty_draft account limits)) body ≡ Ok reached → job_in reached ≡ Some job
    → Tail account limits body job
tail_read account limits n body reached job e ends_ =
    let x = lines_read account limits n [] (empty_draft account limits) body reached e (empty_body account limits) in
    last_tail account limits body x.last job (sym (ap job_in x.is) ∙ ends_) x.body

limits_read : (account : Account) (lines : List (List ℕ)) (reached : Reading) (job : Job) (first server : List ℕ)
    → first ≡ codes "dm-job 1" → begins_with (codes "server") server ≡ true → account_in (parts server) ≡ Some account
    → reading_after_all 3 (reading.Limits account) lines ≡ Ok reached → job_in reached ≡ Some job
    → IsJob (first ∷ server ∷ lines) job
unfolding reading_after
limits_read account [] reached job first server f named a e ends_ =
    absurd (never (ap job_in (same_end _ reached e) ∙ ends_))
  where
    never : None ≡ Some job → ⊥
    never k = cc
limits_read account (line ∷ body) reached job first server f named a e ends_ =
    let s = step 3 (reading.Limits account) line body reached e in
    let told = allowed (begins_with (codes "limits") line) _ reason.Word s.read s.took in
    let l =
    said reason.Fields (limits_in (parts line)) (λ l. Ok (reading.Commands (empty_draft account l))) s.read told.1 in
    let rest = subst (λ r. reading_after_all 4 r body ≡ Ok reached) (sym (same_reading _ s.read l.rest)) s.rest in
    let t = tail_read account l.value 4 body reached job rest ends_ in
    record {
      server = server;
      limits = line;
      packages = t.packages;
      are = ap (λ x. x ∷ server ∷ line ∷ body) f ∙ ap (λ x. codes "dm-job 1" ∷ server ∷ line ∷ x) t.are;
      server_named = named;
      account = a ∙ ap Some (sym t.account_is);
      limits_named = told.0;
      told = l.is ∙ ap Some (sym t.limits_are);
      right = t.right;
      made = t.made;
    }

server_read : (lines : List (List ℕ)) (reached : Reading) (job : Job) (first : List ℕ)
    → first ≡ codes "dm-job 1"
    → reading_after_all 2 reading.Server lines ≡ Ok reached → job_in reached ≡ Some job → IsJob (first ∷ lines) job
unfolding reading_after
server_read [] reached job first f e ends_ = absurd (never (ap job_in (same_end _ reached e) ∙ ends_))
  where
    never : None ≡ Some job → ⊥
    never k = cc
server_read (line ∷ lines) reached job first f e ends_ =
    let s = step 2 reading.Server line lines reached e in
    let told = allowed (begins_with (codes "server") line) _ reason.Word s.read s.took in
    let a = said reason.Fields (account_in (parts line)) (λ account. Ok (reading.Limits account)) s.read told.1 in
    let rest = subst (λ r. reading_after_all 3 r lines ≡ Ok reached) (sym (same_reading _ s.read a.rest)) s.rest in
    limits_read a.value lines reached job first line f told.0 a.is rest ends_

first_read : (lines : List (List ℕ)) (reached : Reading) (job : Job)
    → reading_after_all 1 reading.First lines ≡ Ok reached → job_in reached ≡ Some job → IsJob lines job
unfolding reading_after
first_read [] reached job e ends_ = absurd (never (ap job_in (same_end _ reached e) ∙ ends_))
  where
    never : None ≡ Some job → ⊥
    never k = cc
first_read (line ∷ lines) reached job e ends_ =
    let s = step 1 reading.First line lines reached e in
    let told = allowed (bytes_eq line (codes "dm-job 1")) (Ok reading.Server) reason.Word s.read s.took in
    let rest = subst (λ r. reading_after_all 2 r lines ≡ Ok reached) (sym (same_reading _ s.read told.1)) s.rest in
    server_read lines reached job line (same_text line (codes "dm-job 1") told.0) rest ends_

pub only_jobs_are_read : OnlyJobsAreRead
only_jobs_are_read text job e =
    let a = accepted text job e in
    record {
      lines = a.lines;
      is = text_is text a.lines a.are;
      right = are_lines text a.lines a.are a.short;
      job_is = first_read a.lines a.reached job a.taken a.ends;
    }

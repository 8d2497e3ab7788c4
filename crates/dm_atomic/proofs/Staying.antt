-- Nodes that keep their numbers, while an engine goes on.
use Rattle.std.proofs.Common.{◌≡◌, ℕ, zero, suc, ◌+◌, ◌<◌, Bool, true, false, not, cond, List, [], ◌∷◌, length, get_or}
use Rattle.std.proofs.Common.{refl, sym, ◌∙◌, ap, subst, arith, Option, None, Some}
use Rattle.std.specs.Prelude.{◌&&◌, ◌||◌, ◌==◌, IfSome, OnOk, Result, Ok, Err, is_some, nat_lt, unwrap_or}
use Rattle.std.specs.Global.{Vec}
use Rattle.std.specs.List.{list_any}
use Rattle.std.specs.FinMap.{get}
use Rattle.syncml_types.specs.declared.command.SeqMember.{SeqMember}
use Rattle.syncml_types.specs.Verbs.{is_write}
use Rattle.dm_tree.specs.Nodes.{Path, Ids}
use Rattle.dm_tree.specs.Rows.{Tree, ids}
use Rattle.dm_undo.specs.Journals.{Journal}
use Rattle.dm_undo.specs.Trees.{Maps, maps_of, tree_at}
use Rattle.dm_objects.specs.declared.object.Begun.{Begun}
use Rattle.dm_objects.specs.declared.object.Object.{Object}
use Rattle.dm_objects.specs.declared.object.Object.TheVariants.{Nothing, Buffering, Skipping}
use Rattle.dm_objects.specs.declared.piece.Piece.{Piece}
use Rattle.dm_objects.specs.declared.piece.What.{What}
use Rattle.dm_objects.specs.declared.piece.What.TheVariants.{Whole, Refused}
use Rattle.dm_objects.specs.Gathering.{Came, first_of_several, next_piece, write_piece, by_rules, continues}
use Rattle.dm_objects.specs.Gathering.{gather}
use Rattle.dm_commands.specs.Promises.{KeepIdsBut, is_moved, none_moved}
use Rattle.dm_atomic.specs.declared.tasks.Task.{Task}
use Rattle.dm_atomic.specs.declared.reports.Part.{Part}
use Rattle.dm_atomic.specs.declared.engine.Engine.{Engine}
use Rattle.dm_atomic.specs.declared.engine.EndedGroup.{EndedGroup}
use Rattle.dm_atomic.specs.Engine.{state_of}
use Rattle.dm_atomic.specs.Marks.{Whole as AllOf, base_ids_of, whole_of}
use Rattle.dm_atomic.specs.Stays.{work_covers, task_covers, tasks_cover, what_covers, seq_member_covers, HasId, StayBut}
use Rattle.dm_atomic.specs.Stays.{committed_ids}
use Rattle.dm_atomic.proofs.Closings.{group_now, group_is_open}

-- ---- one step and another

pub stay_self : (c : Path → Bool) (w : AllOf) → StayBut c w w
stay_self c w = record { each = λ p id h u. h }

pub stay_then : (c : Path → Bool) (v w x : AllOf) → StayBut c v w → StayBut c w x → StayBut c v x
stay_then c v w x a b = record { each = λ p id h u. b.each p id (a.each p id h u) u }

-- where no path is covered, none is but those that one likes
pub stay_more : (c : Path → Bool) (v w : AllOf) → StayBut none_moved v w → StayBut c v w
stay_more c v w a = record { each = λ p id h u. a.each p id h refl }

pub none_then : (c : Path → Bool) (v w x : AllOf) → StayBut none_moved v w → StayBut c w x → StayBut c v x
none_then c v w x a b = stay_then c v w x (stay_more c v w a) b

pub then_none : (c : Path → Bool) (v w x : AllOf) → StayBut c v w → StayBut none_moved w x → StayBut c v x
then_none c v w x a b = stay_then c v w x a (stay_more c w x b)

pub stay_within : (c d : Path → Bool) (v w : AllOf) → ((p : Path) → d p ≡ false → c p ≡ false) → StayBut c v w
    → StayBut d v w
stay_within c d v w f a = record { each = λ p id h u. a.each p id h (f p u) }

-- with the numbers that were there, nodes stay
pub stay_same : (v w : AllOf) → w.ids ≡ v.ids → w.base_ids ≡ v.base_ids → StayBut none_moved v w
stay_same v w e f = record {
  each = λ p id h u. record {
    now = ap (λ i. get i p) e ∙ h.now;
    base = subst (λ o. IfSome o (λ i. get i p ≡ Some id)) (sym f) h.base;
  };
}

committed-there : (w : AllOf) (p : Path) (id : ℕ) (o : Option Ids) → w.base_ids ≡ o → HasId w p id
    → get (unwrap_or o w.ids) p ≡ Some id
committed-there w p id None e h = h.now
committed-there w p id (Some i) e h = subst (λ o. IfSome o (λ i. get i p ≡ Some id)) e h.base

-- and with those before the open group too
pub stay_committed : (v w : AllOf) → w.ids ≡ committed_ids v → w.base_ids ≡ None → StayBut none_moved v w
stay_committed v w e f = record {
  each = λ p id h u. record {
    now = ap (λ i. get i p) e ∙ committed-there v p id v.base_ids refl h;
    base = subst (λ o. IfSome o (λ i. get i p ≡ Some id)) (sym f) tt;
  };
}

-- where no group was open the law says no more of the node than its number
pub stay_closed : (c : Path → Bool) (v w : AllOf) → v.base_ids ≡ None → StayBut c v w → KeepIdsBut c v.ids w.ids
stay_closed c v w none a p id there u =
    (a.each p id (record { now = there; base = subst (λ o. IfSome o (λ i. get i p ≡ Some id)) (sym none) tt }) u).now

pub base_closed : (e : Engine) → (state_of e).group ≡ None → (whole_of e).base_ids ≡ None
base_closed e closed = by_open e.is_open refl
  where
    by_open : (b : Bool) → e.is_open ≡ b → (whole_of e).base_ids ≡ None
    by_open false is = rw is refl
    by_open true is = absurd (let there : (state_of e).group ≡ Some (group_now e) = group_is_open e is in cc)

-- where no group was open, that is the law of the numbers
pub kept_closed : (c : Path → Bool) (e f : Engine) → StayBut c (whole_of e) (whole_of f) → (state_of e).group ≡ None
    → KeepIdsBut c (whole_of e).ids (whole_of f).ids
kept_closed c e f a closed = stay_closed c (whole_of e) (whole_of f) (base_closed e closed) a

pub committed_ok : {X E : Type 0} (r : Result X E) (v w : AllOf) → OnOk r (w.base_ids ≡ None)
    → OnOk r (w.ids ≡ committed_ids v) → OnOk r (committed_ids w ≡ committed_ids v)
committed_ok (Ok x) v w none is = ap (λ o. unwrap_or o w.ids) none ∙ is
committed_ok (Err x) v w none is = none

-- ---- what a piece comes to covers what the piece covers

abbrev CoversNoMore : Piece → Path → What → Type 0
CoversNoMore piece p w = is_moved piece.step p ≡ false → what_covers w p ≡ false

what-cond : (piece : Piece) (p : Path) (b : Bool) (w v : What) → CoversNoMore piece p w → CoversNoMore piece p v
    → CoversNoMore piece p (cond b w v)
what-cond piece p true w v h k = h
what-cond piece p false w v h k = k

came-cond : (piece : Piece) (p : Path) (b : Bool) (c d : Came) → CoversNoMore piece p c.what
    → CoversNoMore piece p d.what
    → CoversNoMore piece p (cond b c d).what
came-cond piece p true c d h k = h
came-cond piece p false c d h k = k

first-covers : (max : ℕ) (piece : Piece) (p : Path) (size : Option ℕ)
    → CoversNoMore piece p (first_of_several max piece size).what
first-covers max piece p None = λ u. refl
first-covers max piece p (Some size) =
    came-cond piece p (nat_lt max size) _ _ (λ u. refl)
    (came-cond piece p (nat_lt size (length piece.step.value)) _ _ (λ u. refl) (λ u. refl))

next-covers : (begun : Begun) (piece : Piece) (p : Path) → CoversNoMore piece p (next_piece begun piece).what
next-covers begun piece p =
    let total = length begun.value + length piece.step.value in
    came-cond piece p (nat_lt begun.size total) _ _ (λ u. refl)
    (came-cond piece p piece.more _ _ (λ u. refl) (came-cond piece p (total == begun.size) _ _ (λ u. u) (λ u. refl)))

write-covers : (max : ℕ) (object : Object) (piece : Piece) (p : Path)
    → CoversNoMore piece p (write_piece max object piece).what
write-covers max Nothing piece p =
    came-cond piece p piece.more _ _ (first-covers max piece p piece.size)
    (came-cond piece p (nat_lt max (length piece.step.value)) _ _ (λ u. refl) (λ u. u))
write-covers max (Buffering begun) piece p = next-covers begun piece p
write-covers max (Skipping key code) piece p = λ u. refl

rules-cover : (max : ℕ) (object : Object) (piece : Piece) (p : Path)
    → CoversNoMore piece p (by_rules max object piece).what
rules-cover max object piece p =
    came-cond piece p (not (is_write piece.step.verb)) _ _
    (what-cond piece p piece.more (Refused 400) (Whole piece.step) (λ u. refl) (λ u. u))
    (came-cond piece p (piece.more && not (is_some piece.step.target)) _ _ (λ u. refl)
    (write-covers max object piece p))

pub gathered_covers : (max : ℕ) (object : Object) (piece : Piece) (what : What) → what ≡ (gather max object piece).what
    → (p : Path) → is_moved piece.step p ≡ false → what_covers what p ≡ false
unfolding gather
gathered_covers max object piece what is p u =
    ap (λ w. what_covers w p) is ∙ rules-cover max (cond (continues object piece) object Nothing) piece p u

-- ---- the tasks that are run

either-false : (a b : Bool) → a || b ≡ false → (a ≡ false) × (b ≡ false)
either-false true b e = absurd (cc)
either-false false b e = (refl, e)

pub none_at : {X : Type 0} (f : X → Bool) (xs : List X) (k : ℕ) (x : X) → k < length xs → x ≡ get_or xs k x
    → list_any f xs ≡ false → f x ≡ false
none_at f [] k x l is e = absurd (omega (arith, l))
none_at f (y ∷ ys) zero x l is e = ap f is ∙ (either-false (f y) (list_any f ys) e).0
none_at f (y ∷ ys) (suc k) x l is e =
    none_at f ys k x (omega (arith, l)) is (either-false (f y) (list_any f ys) e).1

pub a_piece_stays : (e m f : Engine) (piece : Piece) (what : What) (object : Object)
    → what ≡ (gather e.inbox.max_obj object piece).what → StayBut none_moved (whole_of e) (whole_of m)
    → StayBut (what_covers what) (whole_of m) (whole_of f) → StayBut (is_moved piece.step) (whole_of e) (whole_of f)
a_piece_stays e m f piece what object is a b =
    none_then (is_moved piece.step) (whole_of e) (whole_of m) (whole_of f) a
    (stay_within (what_covers what) (is_moved piece.step) (whole_of m) (whole_of f)
    (gathered_covers e.inbox.max_obj object piece what is) b)

pub one_of_tasks : (ts : List Task) (k : ℕ) (t : Task) (v w : AllOf) → k < length ts → t ≡ get_or ts k t
    → StayBut (work_covers t.work) v w → StayBut (tasks_cover ts) v w
one_of_tasks ts k t v w l is a =
    stay_within (work_covers t.work) (tasks_cover ts) v w (λ p u. none_at (task_covers p) ts k t l is u) a

-- ---- a group that opens, and ends

module _ (e f : Engine) (tree : Tree) (journal : Journal)
    (is : f ≡ record e { tree = tree; journal = journal; is_open = false; parts = f.parts; ended = f.ended }) where
  pub rolled_base : (whole_of f).base_ids ≡ None
  rolled_base = ap (λ (x : Engine). (whole_of x).base_ids) is

  pub rolled_ids : e.is_open ≡ true → maps_of tree.rows ≡ tree_at e.journal.entries e.tree.rows e.mark
      → (whole_of f).ids ≡ committed_ids (whole_of e)
  rolled_ids o there =
      ap (λ (x : Engine). (whole_of x).ids) is ∙ rw o (ap (λ (m : Maps). m.ids) there)

-- the group that opens has the numbers that are there
module _ (e : Engine) (journal : Journal) (ended : Vec EndedGroup) (mark : ℕ) (none : List Part) (o : e.is_open ≡ false)
    (there : tree_at journal.entries e.tree.rows mark ≡ maps_of e.tree.rows) where
  abbrev opened : Engine
  opened = record e { journal = journal; is_open = true; mark = mark; parts = none; ended = ended }

  pub opened_committed : committed_ids (whole_of opened) ≡ committed_ids (whole_of e)
  opened_committed = ap (λ (m : Maps). m.ids) there ∙ rw o refl

  pub opened_stay : StayBut none_moved (whole_of e) (whole_of opened)
  opened_stay = record {
    each = λ p id h u. record { now = h.now; base = ap (λ (m : Maps). get m.ids p) there ∙ h.now };
  }

-- room that was made changes nothing
module _ (e : Engine) (journal : Journal) (ended : Vec EndedGroup) (same : journal.entries ≡ e.journal.entries) where
  reserved-base : (whole_of (record e { journal = journal; ended = ended })).base_ids ≡ (whole_of e).base_ids
  reserved-base = ap (λ l. base_ids_of e.tree.rows l e.is_open e.mark) same

  pub reserved_committed : committed_ids (whole_of (record e { journal = journal; ended = ended }))
      ≡ committed_ids (whole_of e)
  reserved_committed = ap (λ o. unwrap_or o (ids e.tree.rows)) reserved-base

  pub reserved_stay : StayBut none_moved (whole_of e) (whole_of (record e { journal = journal; ended = ended }))
  reserved_stay = stay_same (whole_of e) (whole_of (record e { journal = journal; ended = ended })) refl reserved-base

-- ---- one of the tasks, or of the members, more

pub tasks_go_on : (e m f : Engine) (ts : List Task) (k : ℕ) (t : Task) → k < length ts → t ≡ get_or ts k t
    → StayBut (tasks_cover ts) (whole_of e) (whole_of m) → StayBut (work_covers t.work) (whole_of m) (whole_of f)
    → StayBut (tasks_cover ts) (whole_of e) (whole_of f)
tasks_go_on e m f ts k t l is a b =
    stay_then (tasks_cover ts) (whole_of e) (whole_of m) (whole_of f) a
    (one_of_tasks ts k t (whole_of m) (whole_of f) l is b)

pub members_go_on : (e m f : Engine) (ms : List SeqMember) (k : ℕ) (member : SeqMember) → k < length ms
    → member ≡ get_or ms k member → StayBut (λ p. list_any (seq_member_covers p) ms) (whole_of e) (whole_of m)
    → StayBut (λ p. seq_member_covers p member) (whole_of m) (whole_of f)
    → StayBut (λ p. list_any (seq_member_covers p) ms) (whole_of e) (whole_of f)
members_go_on e m f ms k member l is a b =
    stay_then (λ p. list_any (seq_member_covers p) ms) (whole_of e) (whole_of m) (whole_of f) a
    (stay_within (λ p. seq_member_covers p member) (λ p. list_any (seq_member_covers p) ms) (whole_of m) (whole_of f)
    (λ p u. none_at (seq_member_covers p) ms k member l is u) b)

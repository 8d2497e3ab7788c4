-- The tasks of the items and members that are left.
use Rattle.std.proofs.Common.{◌≡◌, ℕ, suc, ◌+◌, ◌<◌, Bool, Some, option_map, slice_get, List, [], ◌∷◌, ◌++◌, length}
use Rattle.std.proofs.Common.{drop, get_or, refl, sym, ◌∙◌, ap, add-one, drop-cons, arith}
use Rattle.std.proofs.Math.ListN.{set}
use Rattle.std.proofs.lemmas.List.{get_or-drop, drop-set-lt}
use Rattle.std.proofs.lemmas.Option.{slice_get_read}
use Rattle.std.proofs.lemmas.Grind.{drop_more_same}
use Rattle.syncml_types.specs.declared.values.Item.{Item}
use Rattle.syncml_types.specs.declared.command.Plain.{Plain}
use Rattle.syncml_types.specs.declared.command.Member.{Member}
use Rattle.dm_objects.specs.declared.piece.Piece.{Piece}
use Rattle.dm_atomic.specs.declared.tasks.Origin.{Origin}
use Rattle.dm_atomic.specs.declared.tasks.Post.{Post}
use Rattle.dm_atomic.specs.declared.tasks.Work.TheVariants as work
use Rattle.dm_atomic.specs.Tasks.{piece_of, item_post, item_task, item_tasks, member_tasks, members_tasks}

pub next_item : (origin : Origin) (in_atomic : Bool) (command : Plain) (items : List Item) (k : ℕ) (item : Item)
    → k < length items → item ≡ get_or items k item
    → item_tasks origin in_atomic command k (drop k items)
    ≡ item_task origin in_atomic command k item ∷ item_tasks origin in_atomic command (k + 1) (drop (k + 1) items)
next_item origin in_atomic command items k item l is = rw (add-one k)
    (ap (item_tasks origin in_atomic command k) (drop-cons items k item l ∙ ap (λ i. i ∷ drop (suc k) items) (sym is)))

-- a command of which only items changed
same-items : (origin : Origin) (in_atomic : Bool) (command : Plain) (now : List Item) (k : ℕ) (items : List Item)
    → length now ≡ length command.items
    → item_tasks origin in_atomic (record command { items = now }) k items ≡ item_tasks origin in_atomic command k items
same-items origin in_atomic command now k [] e = refl
same-items origin in_atomic command now k (item ∷ items) e =
    let rest = same-items origin in_atomic command now (suc k) items e in rw e (rw rest refl)

-- the task of the next item, with that item's texts and value moved out
pub next_taken : (origin : Origin) (in_atomic : Bool) (old new : Plain) (k : ℕ) (item : Item) (post : Post)
    (piece : Piece) → k < length old.items → item ≡ get_or old.items k item → post ≡ item_post origin old k item
    → Some piece ≡ option_map (piece_of in_atomic old) (slice_get old.items k)
    → drop (k + 1) new.items ≡ drop (k + 1) old.items → length new.items ≡ length old.items
    → new ≡ record old { items = new.items }
    → item_tasks origin in_atomic old k (drop k old.items)
    ≡ record { post = post; work = work.Piece piece } ∷ item_tasks origin in_atomic new (k + 1) (drop (k + 1) new.items)
next_taken origin in_atomic old new k item post piece l is posted pieced left count others =
    let found : Some piece ≡ Some (piece_of in_atomic old item) =
    pieced ∙ ap (option_map (piece_of in_atomic old)) (slice_get_read old.items (length old.items) k item refl l is) in
    let made : piece ≡ piece_of in_atomic old item = cc in
    let rest : item_tasks origin in_atomic new (k + 1) (drop (k + 1) new.items)
    ≡ item_tasks origin in_atomic old (k + 1) (drop (k + 1) old.items) =
    ap (λ c. item_tasks origin in_atomic c (k + 1) (drop (k + 1) new.items)) others
    ∙ ap (item_tasks origin in_atomic (record old { items = new.items }) (k + 1)) left
    ∙ same-items origin in_atomic old new.items (k + 1) (drop (k + 1) old.items) count in
    next_item origin in_atomic old old.items k item l is ∙ rw rest (rw posted (rw made refl))

pub next_member : (origin : Origin) (in_atomic : Bool) (members : List Member) (k : ℕ) (member left : Member)
    → k < length members → member ≡ get_or members k member
    → members_tasks origin in_atomic (drop k members)
    ≡ member_tasks origin in_atomic member ++ members_tasks origin in_atomic (drop (k + 1) (set members k left))
next_member origin in_atomic members k member left l is =
    rw (drop-set-lt (k + 1) members k left (omega arith)) (rw (add-one k)
    (ap (members_tasks origin in_atomic) (drop-cons members k member l ∙ ap (λ m. m ∷ drop (suc k) members) (sym is))))

-- ---- tasks, or members, of which the first were changed

-- the first that wasn't
pub same_next : {X : Type 0} (now xs : List X) (k : ℕ) (x : X) → drop k now ≡ drop k xs → x ≡ get_or now k x
    → x ≡ get_or xs k x
same_next now xs k x same is =
    let here : k + 0 ≡ k = omega arith in
    is ∙ ap (λ n. get_or now n x) (sym here) ∙ sym (get_or-drop k now 0 x) ∙ ap (λ l. get_or l 0 x) same
    ∙ get_or-drop k xs 0 x ∙ ap (λ n. get_or xs n x) here

-- and those behind it, where it is changed too
pub same_rest : {X : Type 0} (now xs : List X) (k : ℕ) (x : X) → drop k now ≡ drop k xs
    → drop (k + 1) (set now k x) ≡ drop (k + 1) xs
same_rest now xs k x same = drop-set-lt (k + 1) now k x (omega arith) ∙ drop_more_same now xs k same
